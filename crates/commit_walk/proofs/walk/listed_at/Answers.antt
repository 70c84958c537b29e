use Rattle.std.proofs.Common.{sym, subst, get_or}
use Rattle.swizzle.specs.Heap.{IsHeld}
use Rattle.commit_walk.proofs.HomeLaws.{reached_held}
use Rattle.commit_walk.proofs.walk.listed_at.Goals as goal

pub returns-clause-held : goal.returns-clause-held
returns-clause-held c =
    subst (λ l. IsHeld c.args.sw.now (get_or l c.args.place 0)) (sym c.reached.ensures) (reached_held c.args.sw.now c.args.place c.sound.ensures c.requires)
