use Rattle.swizzle.proofs.ClearLaws.{all-left}
use Rattle.swizzle.proofs.StandLaws.{stands-left}
use Rattle.swizzle.proofs.swizzle.Swizzle.clear_reached.Goals as goal

pub returns-clause-written : goal.returns-clause-written
returns-clause-written c =
    all-left c.args.self.now c.loop.self c.leave_last.new.self c.loop.invariant.0 c.loop.invariant.1 c.loop.invariant.2 (c.leave_last.ensures.all c.loop-test.false)

pub returns-clause-stands : goal.returns-clause-stands
returns-clause-stands c = stands-left c.args.self.now c.leave_last.new.self (returns-clause-written c)
