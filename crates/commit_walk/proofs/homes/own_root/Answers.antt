use Rattle.std.proofs.Common.{sym, subst, refl, IfSome}
use Rattle.swizzle.specs.Heap.{IsHeld}
use Rattle.commit_walk.specs.Homes.{OwnsRoot}
use Rattle.commit_walk.proofs.homes.own_root.Goals as goal

pub give_home-requires : goal.give_home-requires
give_home-requires c = subst (λ r. IfSome r (IsHeld c.args.sw.now)) c.in-Some.is c.requires

pub returns-in-Some : goal.returns-in-Some
returns-in-Some c = subst (λ r. OwnsRoot c.args.sw.now c.give_home.new.sw r c.args.number) (sym c.in-Some.is) c.give_home.ensures

pub returns-in-None : goal.returns-in-None
returns-in-None c = subst (λ r. OwnsRoot c.args.sw.now c.args.sw.now r c.args.number) (sym c.in-None.is) refl
