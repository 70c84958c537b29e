use Rattle.std.proofs.Common.{◌≡◌, false, sym, ◌∙◌, subst}
use Rattle.std.proofs.lemmas.Bool.{true≢false}
use Rattle.swizzle.specs.Heap.{header_at}
use Rattle.commit_walk.specs.Walk.{May, is_walked}
use Rattle.commit_walk.proofs.SteadyLaws.{reach-lists, lists-as, lists-none}
use Rattle.commit_walk.proofs.walk.reach_object.Goals as goal

pub returns-then-goes_to : goal.returns-then-goes_to
returns-then-goes_to c =
    let now = c.args.sw.now in
    let x = c.args.object in
    lists-as now c.reach.new.self (λ y. x ≡ y) (λ y. (x ≡ y) × May now y) (reach-lists now c.reach.new.self x c.sound.ensures c.requires c.reach.ensures.written)
    (λ y e. (e, subst (May now) e (sym c.goes_to.ensures ∙ c.if-goes_to.true))) (λ y q. q.0)

pub returns-else-goes_to : goal.returns-else-goes_to
returns-else-goes_to c =
    let now = c.args.sw.now in
    let x = c.args.object in
    lists-none now (λ y. (x ≡ y) × May now y) (λ y q. true≢false (sym q.1 ∙ subst (λ z. is_walked (header_at now z) ≡ false) q.0 (sym c.goes_to.ensures ∙ c.if-goes_to.false)))
