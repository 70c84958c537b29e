use Rattle.std.proofs.Common.{◌≡◌, ◌+◌, ◌-◌, length, take, refl, ap, arith, rules}
use Rattle.std.proofs.lemmas.List.{length-take-le, length-append}
use Rattle.machine_core.specs.declared.caller.Caller.{Caller}
use Rattle.machine_core.specs.Waiting.{IsFramed}
use Rattle.machine_core.specs.inside.Handing.{caller_of}
use Rattle.machine_core.proofs.Handing.{taken-frame, nums-room, refs-room, orderly-above}
use Rattle.machine_core.proofs.calls.enter.Goals as goal

pub returns : goal.returns
returns c =
    let m = c.args.m.now in
    let s = c.requires.sound in
    let body = c.args.body in
    let f = taken-frame c.args.refs body.frame c.requires.takes in
    let low = length m.nums.own - body.frame.num_params in
    let at = length m.refs.own - 1 - c.args.refs in
    let there = c.requires.there in
    let enough = c.requires.nums in
    let nums_low : low + body.frame.num_params ≡ length m.nums.own = omega (arith, enough) in
    let refs_low : at + 1 + c.args.refs ≡ length m.refs.own = omega (arith, there) in
    let nums = c.open.new.self in
    let refs = c.open-2.new.self in
    let of_nums = c.open.ensures in
    let of_refs = c.open-2.ensures in
    let stay_nums : length nums.below ≡ length m.nums.below + low =
    let all = ap length of_nums.below in
    omega (arith, all, length-append m.nums.below (take low m.nums.own), length-take-le low m.nums.own (omega (arith, nums_low))) in
    let at_one : length m.refs.own - c.args.refs ≡ at + 1 = omega (arith, refs_low) in
    let stay_refs : length refs.below ≡ length m.refs.below + (at + 1) =
    let all = ap length of_refs.below in
    omega (arith, all, at_one, length-append m.refs.below (take (length m.refs.own - c.args.refs) m.refs.own), length-take-le (length m.refs.own - c.args.refs) m.refs.own (omega (arith, refs_low))) in
    let room = s.waiting.room in
    let own : Caller = caller_of m low (at + 1) in
    let framed : IsFramed own = record {
      nums_fit = omega (arith, enough);
      refs_fit = omega (arith, there);
      nums_below = let below = s.nums_below in omega (arith, below, nums_low);
      refs_below = let below = s.refs_below in omega (arith, below, refs_low);
    } in
    let nums_total = of_nums.room in
    let refs_total = of_refs.room in
    let many = nums-room m.callers m.nums m.refs s.waiting c.requires.few in
    let more = refs-room m.callers m.nums m.refs s.waiting c.requires.few in
    let callers_are = c.push_reserved.ensures.items in
    record {
      low_nums = low;
      low_refs = at;
      nums_count = nums_low;
      refs_count = refs_low;
      nums = nums;
      refs = refs;
      callers = c.push_reserved.new.self;
      new_is = refl;
      sound = record {
        nums_fit = let long = of_nums.len in omega (arith, long);
        refs_fit = let long = of_refs.len in omega (arith, long);
        nums_below = let long = of_nums.len in let below = f.nums_below in omega (arith, long, below);
        refs_below = let long = of_refs.len in let below = f.refs_below in omega (arith, long, below);
        nums_room = let below = s.nums_below in omega (arith, nums_total, many, below);
        refs_room = let below = s.refs_below in omega (arith, refs_total, more, below);
        values_room = s.values_room;
        waiting = orderly-above m.callers m.nums m.refs s.waiting c.requires.few c.push_reserved.new.self nums refs own framed (search rules) stay_nums stay_refs (record {
          callers_room = let had = room.callers_room in let has = c.push_reserved.ensures.capacity in omega (arith, had, has);
          nums_room = let had = room.nums_room in omega (arith, had, nums_total, stay_nums, nums_low);
          refs_room = let had = room.refs_room in omega (arith, had, refs_total, stay_refs, refs_low);
        });
      };
      own_nums = of_nums.own;
      own_refs = search rules;
      callers_are = search rules;
      nums_below = of_nums.below;
      refs_below = search rules;
    }

pub open-requires-clause-room : goal.open-requires-clause-room
open-requires-clause-room c =
    let m = c.args.m.now in
    let s = c.requires.sound in
    let f = taken-frame c.args.refs c.args.body.frame c.requires.takes in
    let many = nums-room m.callers m.nums m.refs s.waiting c.requires.few in
    let below = s.nums_below in
    let fit = f.nums_below in
    omega (arith, many, below, fit)

pub open-requires-2-clause-room : goal.open-requires-2-clause-room
open-requires-2-clause-room c =
    let m = c.args.m.now in
    let s = c.requires.sound in
    let f = taken-frame c.args.refs c.args.body.frame c.requires.takes in
    let more = refs-room m.callers m.nums m.refs s.waiting c.requires.few in
    let below = s.refs_below in
    let fit = f.refs_below in
    omega (arith, more, below, fit)
