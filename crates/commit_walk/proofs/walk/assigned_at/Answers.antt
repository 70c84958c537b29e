use Rattle.std.proofs.Common.{sym, subst, get_or}
use Rattle.swizzle.specs.Heap.{IsHeld}
use Rattle.commit_walk.proofs.HomeLaws.{assigned_held}
use Rattle.commit_walk.proofs.walk.assigned_at.Goals as goal

pub returns-clause-held : goal.returns-clause-held
returns-clause-held c =
    subst (λ l. IsHeld c.args.sw.now (get_or l c.args.place 0)) (sym c.assigned.ensures) (assigned_held c.args.sw.now c.args.place c.sound.ensures c.requires)
