use Rattle.std.proofs.Common.{◌≡◌, ◌+◌, ◌<◌, ◌≤◌, Some, [], length, refl, sym, ap, ◌∙◌, subst, arith}
use Rattle.std.proofs.lemmas.List.{length-set}
use Rattle.machine_core.specs.ps_heap.Scans.{shown_key}
use Rattle.machine_core.specs.ps_heap.Values.{Pointer}
use Rattle.machine_core.specs.ps_stepping.Config.{frame_words}
use Rattle.machine_core.specs.joint_ops.World.{DenotesIn}
use Rattle.machine_core.specs.Holding.{object_in, words_of}
use Rattle.machine_core.proofs.Naming.{word-named, word-there}
use Rattle.machine_core.proofs.Words.{named-back}
use Rattle.machine_tables.proofs.Handing.{names-by, names-string, sound-by, string-goes, string-held, string-stuck}
use Rattle.machine_tables.proofs.Lasts.{ref-local}
use Rattle.machine_tables.proofs.found.hand_string.Goals as goal

pub returns-then-len-gt-FRAME_WORDS-clause-hands : goal.returns-then-len-gt-FRAME_WORDS-clause-hands
returns-then-len-gt-FRAME_WORDS-clause-hands g c v =
    let m = c.args.m.now in
    let scan = c.args.scan in
    let full : frame_words < length m.refs.own + 3 = omega (arith, c.if-len-gt-FRAME_WORDS.true, c.len.ensures) in
    record {
      sound = c.requires.sound;
      names = c.requires.names;
      size = refl;
      does = λ names conf found h d. string-stuck m (g.V.Vault.outside v) conf names h scan.refs scan.nums found.object (shown_key found.key) full;
    }

pub returns-clause-hands : goal.returns-clause-hands
returns-clause-hands g c v =
    let m = c.args.m.now in
    let scan = c.args.scan in
    let out = g.V.Vault.outside v in
    let key = c.args.key in
    let object = c.args.object in
    let room : length m.refs.own + 3 ≤ frame_words = omega (arith, c.if-len-gt-FRAME_WORDS.false, c.len.ensures) in
    let one = c.set.new.self in
    let nums = c.set-2.new.self in
    let two = c.push_reserved.new.self in
    let three = c.push_reserved-2.new.self in
    let four = c.push_reserved-3.new.self in
    let s1 = c.set.ensures in
    let s2 = c.set-2.ensures in
    let p1 = c.push_reserved.ensures in
    let p2 = c.push_reserved-2.ensures in
    let p3 = c.push_reserved-3.ensures in
    let q_in = c.requires.locals.refs in
    let s_in = c.requires.locals.nums in
    let fit = c.requires.sound.refs_fit in
    let count1 : length one.own ≡ length m.refs.own = ap length s1.own ∙ length-set m.refs.own (scan.refs + 2) key in
    let count2 : length nums.own ≡ length m.nums.own = ap length s2.own ∙ length-set m.nums.own (scan.nums + 2) _ in
    let low = c.requires.sound.nums_below in
    record {
      sound =
          sound-by m four nums c.requires.sound (p3.below ∙ p2.below ∙ p1.below ∙ s1.below) s2.below (p3.room ∙ p2.room ∙ p1.room ∙ s1.room) s2.room
          (omega (arith, count1, p1.len, p2.len, p3.len)) (omega (arith, count2)) (omega (arith, room, count1, p1.len, p2.len, p3.len)) (omega (arith, count2, low));
      names =
          names-by m four nums (names-string m (scan.refs + 2) c.word-procedure.result key object one two three four c.requires.names s1.below s1.own p1.below p1.own p2.below p2.own
          p3.below p3.own
          (word-there m.objects (words_of m) m.writing.item (scan.refs + 1) c.word-procedure.result c.requires.names (omega (arith, q_in, fit)) c.word-procedure.ensures)
          (word-named m.objects (Some key) c.requires.key.held) (word-named m.objects (Some object) c.requires.object));
      size = refl;
      does = λ names conf found h d.
          let shown = shown_key found.key in
          let dk : DenotesIn m.objects out names (object_in key) shown =
          subst (λ to. DenotesIn m.objects out names to shown) (sym (named-back m.objects out names (Some key) shown c.sound.ensures d.is.0)) d.is.0 in
          let d_object : DenotesIn m.objects out names (object_in object) (Pointer found.object) =
          subst (λ to. DenotesIn m.objects out names to (Pointer found.object)) (sym (named-back m.objects out names (Some object) (Pointer found.object) c.sound.ensures d.is.1)) d.is.1 in (
            [],
            _,
            string-goes m out conf names h scan.refs scan.nums found.object shown room,
            refl,
            record {
              names = names;
              held = string-held m out conf names h scan.refs scan.nums found.object shown c.word-procedure.result key object one nums two three four q_in s_in room s1.below s1.own count1
                  s2.below s2.own p1.below p1.own p1.len p2.below p2.own p2.len p3.below p3.own
                  (ref-local out m names conf h (scan.refs + 1) c.word-procedure.result (omega (arith, q_in)) c.word-procedure.ensures) dk d_object;
            },
          );
    }
