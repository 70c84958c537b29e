use Rattle.std.proofs.Common.{◌≡◌, ℕ, Some, None, sym, ap, ◌∙◌, subst, IfSome}
use Rattle.swizzle.specs.Heap.{IsHeld}
use Rattle.commit_walk.specs.Walk.{May}
use Rattle.commit_walk.proofs.SteadyLaws.{lists-as, lists-none}
use Rattle.commit_walk.proofs.walk.reach_root.Goals as goal

pub reach_object-requires : goal.reach_object-requires
reach_object-requires c = subst (λ r. IfSome r (IsHeld c.args.sw.now)) c.in-Some.is c.requires

some_same : (a b : ℕ) → Some a ≡ Some b → a ≡ b
some_same a b e = cc

pub returns-in-Some : goal.returns-in-Some
returns-in-Some c =
    let now = c.args.sw.now in
    lists-as now c.reach_object.new.sw (λ y. (c.in-Some.at ≡ y) × May now y) (λ y. (c.args.root ≡ Some y) × May now y) c.reach_object.ensures
    (λ y q. (c.in-Some.is ∙ ap Some q.0, q.1)) (λ y q. (some_same c.in-Some.at y (sym c.in-Some.is ∙ q.0), q.1))

pub returns-in-None : goal.returns-in-None
returns-in-None c =
    lists-none c.args.sw.now (λ y. (c.args.root ≡ Some y) × May c.args.sw.now y) (λ y q. let bad : None ≡ Some y = sym c.in-None.is ∙ q.0 in cc)
