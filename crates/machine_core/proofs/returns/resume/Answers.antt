use Rattle.std.proofs.Common.{◌≡◌, ◌+◌, ◌-◌, [], length, vec_len, refl, ap, ◌∙◌, sym, arith}
use Rattle.std.proofs.lemmas.Bool.{eqb-true}
use Rattle.std.proofs.lemmas.List.{length-take-le}
use Rattle.machine_core.specs.Holding.{words_of}
use Rattle.machine_core.proofs.Naming.{names-resumed}
use Rattle.machine_core.proofs.Returning.{is-none, none-waits, goes-back, last-framed, nums-parted, refs-parted, orderly-below}
use Rattle.machine_core.proofs.returns.resume.Goals as goal

pub close-requires-clause-count : goal.close-requires-clause-count
close-requires-clause-count g c =
    let m = c.args.m.now in
    let parted = nums-parted m.callers m.nums m.refs c.requires.waiting c.take_last-caller.result c.take_last-caller.new.self.items c.take_last-caller.ensures.items in
    omega (arith, parted)

pub close-requires-2-clause-count : goal.close-requires-2-clause-count
close-requires-2-clause-count g c =
    let m = c.args.m.now in
    let parted = refs-parted m.callers m.nums m.refs c.requires.waiting c.take_last-caller.result c.take_last-caller.new.self.items c.take_last-caller.ensures.items in
    omega (arith, parted)

pub close-requires-2-clause-dead : goal.close-requires-2-clause-dead
close-requires-2-clause-dead g c =
    let m = c.args.m.now in
    let framed = last-framed m.callers m.nums m.refs c.requires.waiting c.take_last-caller.result c.take_last-caller.new.self.items c.take_last-caller.ensures.items in
    let fit = framed.refs_fit in
    omega (arith, fit)

pub returns-then-is_empty-clause-resumes : goal.returns-then-is_empty-clause-resumes
returns-then-is_empty-clause-resumes g c =
    let m = c.args.m.now in
    let none : m.callers.items ≡ [] = is-none m.callers.items (let e = eqb-true (vec_len m.callers) 0 (sym c.is_empty.ensures ∙ c.if-is_empty.true) in omega (arith, e, m.callers.ok.0)) in
    λ v. record { goes = λ names conf h. (none-waits m (g.V.Vault.outside v) names conf h none, h) }

pub returns-clause-leaves : goal.returns-clause-leaves
returns-clause-leaves g c =
    let m = c.args.m.now in
    let s = c.requires in
    let w = c.take_last-caller.result in
    let kept = c.take_last-caller.new.self in
    let split = c.take_last-caller.ensures.items in
    let nums = c.close.new.self in
    let refs = c.close-2.new.self in
    let of_nums = c.close.ensures in
    let of_refs = c.close-2.ensures in
    let framed = last-framed m.callers m.nums m.refs s.waiting w kept.items split in
    let num_part = nums-parted m.callers m.nums m.refs s.waiting w kept.items split in
    let ref_part = refs-parted m.callers m.nums m.refs s.waiting w kept.items split in
    let left : length nums.below + w.nums ≡ length m.nums.below =
    let all = ap length of_nums.below in
    omega (arith, all, length-take-le (length m.nums.below - w.nums) m.nums.below (omega arith), num_part) in
    let less : length refs.below + w.refs ≡ length m.refs.below =
    let all = ap length of_refs.below in
    omega (arith, all, length-take-le (length m.refs.below - w.refs) m.refs.below (omega arith), ref_part) in
    let room = s.waiting.room in
    let num_long = of_nums.len in
    let ref_long = of_refs.len in
    let num_room = of_nums.room in
    let ref_room = of_refs.room in
    record {
      sound = record {
        nums_fit = let fit = framed.nums_fit in omega (arith, fit, num_long);
        refs_fit = let fit = framed.refs_fit in omega (arith, fit, ref_long);
        nums_below = let below = framed.nums_below in omega (arith, below, num_long);
        refs_below = let below = framed.refs_below in omega (arith, below, ref_long);
        nums_room = let had = s.nums_room in omega (arith, had, num_room);
        refs_room = let had = s.refs_room in omega (arith, had, ref_room);
        values_room = s.values_room;
        waiting = orderly-below m.callers m.nums m.refs s.waiting w kept.items split kept nums refs refl left less (let long = c.take_last-caller.ensures.len in omega (arith, long)) (record {
          callers_room = let had = room.callers_room in let has = c.take_last-caller.ensures.capacity in omega (arith, had, has);
          nums_room = let had = room.nums_room in omega (arith, had, num_room, left);
          refs_room = let had = room.refs_room in omega (arith, had, ref_room, less);
        });
      };
      objects = refl;
      values = refl;
      names = λ n. names-resumed m.objects (words_of m) _ m.writing.item w n split refl refl refl refl refl refl (w.refs - 1) (length m.refs.below - w.refs) (length m.refs.below - w.refs) of_refs.own of_refs.below;
    }

pub returns-clause-resumes : goal.returns-clause-resumes
returns-clause-resumes g c =
    let of_nums = c.close.ensures in
    let of_refs = c.close-2.ensures in
    λ v. record {
      goes = λ names conf h.
          goes-back c.args.m.now (g.V.Vault.outside v) names conf h c.take_last-caller.result c.take_last-caller.new.self.items c.close.new.self c.close-2.new.self
          c.take_last-caller.ensures.items of_nums.own of_nums.below of_refs.own of_refs.below;
    }
