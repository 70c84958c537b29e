use Rattle.std.proofs.Common.{◌≡◌, ℕ, sym, ◌∙◌, subst}
use Rattle.swizzle.specs.Heap.{Heap, IsHeap, IsHeld}
use Rattle.swizzle.proofs.NameLaws.{name_at-injective}
use Rattle.commit_walk.specs.Walk.{Names, Lists, May}
use Rattle.commit_walk.proofs.SteadyLaws.{lists-as}
use Rattle.commit_walk.proofs.walk.reach_slot.Goals as goal

-- the one object that a slot names
one-named : (heap : Heap) (x slot to y : ℕ) → IsHeap heap → Names heap x slot to → Names heap x slot y → to ≡ y
one-named heap x slot to y h a b = name_at-injective heap to y h a.held b.held (sym a.is ∙ b.is)

pub reach_object-requires : goal.reach_object-requires
reach_object-requires c = subst (λ h. IsHeld h c.in-Some.to) (sym c.named.ensures.same) c.in-Some.ensures.named.held

pub returns-in-Some : goal.returns-in-Some
returns-in-Some c =
    let now = c.args.sw.now in
    let x = c.args.object in
    let slot = c.args.slot in
    let to = c.in-Some.to in
    let at : Names now x slot to = c.in-Some.ensures.named in
    let walked = subst (λ h. Lists h c.reach_object.new.sw (λ y. (to ≡ y) × May h y)) c.named.ensures.same c.reach_object.ensures in
    lists-as now c.reach_object.new.sw (λ y. (to ≡ y) × May now y) (λ y. Names now x slot y × May now y) walked
    (λ y q. (subst (Names now x slot) q.0 at, q.1)) (λ y q. (one-named now x slot to y c.sound.ensures at q.0, q.1))
