use Rattle.std.proofs.Common.{◌≤◌, ◌+◌, sym, ap, subst, arith}
use Rattle.joint_ops.specs.swizzle.Heap.{header_at}
use Rattle.new_pids.specs.Giving.{GivesAll, passed, given}
use Rattle.new_pids.proofs.GivingLaws.{above-fresh, given-held, given-below, given-list, may_from}
use Rattle.new_pids.proofs.giving.give_one.Goals as goal

pub returns-then-pid-ne0-clause-all : goal.returns-then-pid-ne0-clause-all
returns-then-pid-ne0-clause-all c = λ old xs first a.
    let heap = c.args.sw.now in
    let some : 1 ≤ (header_at heap c.args.object).pid = omega (arith, c.pid.ensures, c.if-pid-ne0.true) in
    passed old heap xs c.args.object first c.args.next a some

pub give_pid-requires-clause-fresh : goal.give_pid-requires-clause-fresh
give_pid-requires-clause-fresh c = above-fresh c.args.sw.now c.args.next c.requires.below

pub returns-clause-all : goal.returns-clause-all
returns-clause-all c = λ old xs first a.
    let mid = c.args.sw.now in
    let new = c.give_pid.new.self in
    subst (GivesAll old _ first new) (ap (λ w. c.args.next + w) (sym c.word_count-words.ensures.words))
    (given old mid new xs c.args.object first c.args.next a (may_from mid c.args.object c.args.next c.sound.ensures c.requires.held (omega (arith, c.pid.ensures, c.if-pid-ne0.false)) c.requires.low c.requires.below) c.give_pid.ensures)

pub returns-clause-below : goal.returns-clause-below
returns-clause-below c = given-below c.args.sw.now c.give_pid.new.self c.args.object c.args.next _ c.give_pid.ensures c.requires.held c.requires.below (omega (arith, c.word_count-words.ensures.some))

pub returns-clause-held : goal.returns-clause-held
returns-clause-held c = given-held c.args.sw.now c.give_pid.new.self c.args.object c.args.next c.give_pid.ensures c.requires.held

pub returns-clause-list : goal.returns-clause-list
returns-clause-list c = given-list c.args.sw.now c.give_pid.new.self c.args.object c.args.next c.give_pid.ensures
