use Rattle.std.proofs.Common.{◌≡◌, ◌+◌, ◌<◌, ◌≤◌, ℤ, Some, [], ◌∷◌, ◌++◌, set, w32, to_z, of_z, length, refl, sym, ap, ◌∙◌, subst, arith}
use Rattle.std.proofs.lemmas.List.{length-set}
use Rattle.std.proofs.lemmas.Int.{to_z-of_z}
use Rattle.machine_core.specs.ps_heap.Scans.{shown_key}
use Rattle.machine_core.specs.ps_heap.Values as value
use Rattle.machine_core.specs.ps_stepping.Config.{frame_words}
use Rattle.machine_core.specs.joint_ops.World.{DenotesIn}
use Rattle.machine_core.specs.Holding.{object_in, words_of}
use Rattle.machine_core.proofs.Naming.{word-named, word-there}
use Rattle.machine_core.proofs.Words.{named-back}
use Rattle.machine_tables.proofs.Handing.{int-goes, int-held, int-stuck-nums, int-stuck-refs, names-by, names-int, sound-by}
use Rattle.machine_tables.proofs.Lasts.{ref-local}
use Rattle.machine_tables.proofs.found.hand_int.Goals as goal

pub returns-clause-hands : goal.returns-clause-hands
returns-clause-hands g c v =
    let m = c.args.m.now in
    let scan = c.args.scan in
    let out = g.V.Vault.outside v in
    let key = c.args.key in
    let object = c.args.object in
    let room : length m.refs.own + 2 ≤ frame_words = omega (arith, c.if-len-gt-FRAME_WORDS.false, c.len.ensures) in
    let space : length m.nums.own < frame_words = omega (arith, c.if-len-ge-FRAME_WORDS.false, c.len-2.ensures) in
    let one = c.set.new.self in
    let two = c.set-2.new.self in
    let refs = c.push_reserved.new.self in
    let three = c.push_reserved-2.new.self in
    let last = c.push_reserved-3.new.self in
    let s1 = c.set.ensures in
    let s2 = c.set-2.ensures in
    let p1 = c.push_reserved.ensures in
    let p2 = c.push_reserved-2.ensures in
    let p3 = c.push_reserved-3.ensures in
    let same : to_z w32 (of_z w32 key) ≡ key = to_z-of_z w32 key c.ranges.key in
    let own1 = subst (λ (z : ℤ). one.own ≡ set m.nums.own (scan.nums + 1) z) same s1.own in
    let own3 = subst (λ (z : ℤ). three.own ≡ two.own ++ z ∷ []) same p2.own in
    let q_in = c.requires.locals.refs in
    let s_in = c.requires.locals.nums in
    let fit = c.requires.sound.refs_fit in
    let count1 : length one.own ≡ length m.nums.own = ap length s1.own ∙ length-set m.nums.own (scan.nums + 1) _ in
    let count2 : length two.own ≡ length one.own = ap length s2.own ∙ length-set one.own (scan.nums + 2) _ in
    record {
      sound =
          sound-by m last three c.requires.sound (p3.below ∙ p1.below) (p2.below ∙ s2.below ∙ s1.below) (p3.room ∙ p1.room) (p2.room ∙ s2.room ∙ s1.room)
          (omega (arith, p1.len, p3.len)) (omega (arith, count1, count2, p2.len)) (omega (arith, room, p1.len, p3.len)) (omega (arith, space, count1, count2, p2.len));
      names =
          names-by m last three (names-int m c.word-procedure.result object refs last c.requires.names p1.below p1.own p3.below p3.own
          (word-there m.objects (words_of m) m.writing.item (scan.refs + 1) c.word-procedure.result c.requires.names (omega (arith, q_in, fit)) c.word-procedure.ensures)
          (word-named m.objects (Some object) c.requires.object));
      size = refl;
      does = λ names conf found h d.
          let shown = shown_key found.key in
          let is : key ≡ value.word_of shown = sym (ap value.word_of d.is.0) in
          let d_object : DenotesIn m.objects out names (object_in object) (value.Pointer found.object) =
          subst (λ to. DenotesIn m.objects out names to (value.Pointer found.object)) (sym (named-back m.objects out names (Some object) (value.Pointer found.object) c.sound.ensures d.is.1)) d.is.1 in (
            [],
            _,
            int-goes m out conf names h scan.refs scan.nums found.object shown room space,
            refl,
            record {
              names = names;
              held = int-held m out conf names h scan.refs scan.nums found.object shown c.word-procedure.result object key one two three refs last s_in is room s1.below own1
                  s2.below s2.own p1.below p1.own p1.len p2.below own3 p3.below p3.own
                  (ref-local out m names conf h (scan.refs + 1) c.word-procedure.result (omega (arith, q_in)) c.word-procedure.ensures) d_object;
            },
          );
    }

pub returns-then-len-gt-FRAME_WORDS-clause-hands : goal.returns-then-len-gt-FRAME_WORDS-clause-hands
returns-then-len-gt-FRAME_WORDS-clause-hands g c v =
    let m = c.args.m.now in
    let scan = c.args.scan in
    let full : frame_words < length m.refs.own + 2 = omega (arith, c.if-len-gt-FRAME_WORDS.true, c.len.ensures) in
    record {
      sound = c.requires.sound;
      names = c.requires.names;
      size = refl;
      does = λ names conf found h d. int-stuck-refs m (g.V.Vault.outside v) conf names h scan.refs scan.nums found.object (shown_key found.key) full;
    }

pub returns-then-len-ge-FRAME_WORDS-clause-hands : goal.returns-then-len-ge-FRAME_WORDS-clause-hands
returns-then-len-ge-FRAME_WORDS-clause-hands g c v =
    let m = c.args.m.now in
    let scan = c.args.scan in
    let full : frame_words ≤ length m.nums.own = omega (arith, c.if-len-ge-FRAME_WORDS.true, c.len-2.ensures) in
    record {
      sound = c.requires.sound;
      names = c.requires.names;
      size = refl;
      does = λ names conf found h d. int-stuck-nums m (g.V.Vault.outside v) conf names h scan.refs scan.nums found.object (shown_key found.key) full;
    }
