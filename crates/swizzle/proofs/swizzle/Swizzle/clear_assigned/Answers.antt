use Rattle.swizzle.proofs.ClearLaws.{cleared}
use Rattle.swizzle.proofs.StandLaws.{stands-cleared}
use Rattle.swizzle.proofs.swizzle.Swizzle.clear_assigned.Goals as goal

pub returns-clause-written : goal.returns-clause-written
returns-clause-written c =
    cleared c.args.self.now c.loop.self c.unmark_last.new.self c.loop.invariant.0 c.loop.invariant.1 c.loop.invariant.2 (c.unmark_last.ensures.all c.loop-test.false)

pub returns-clause-stands : goal.returns-clause-stands
returns-clause-stands c = stands-cleared c.args.self.now c.unmark_last.new.self (returns-clause-written c)
