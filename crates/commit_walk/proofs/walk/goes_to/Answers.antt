use Rattle.std.proofs.Common.{sym, ◌∙◌, true, nat_eq}
use Rattle.std.proofs.lemmas.Bool.{eq-eqb, ne_eqb}
use Rattle.swizzle.specs.obj_layout.Kind.{kind_number}
use Rattle.swizzle.specs.Heap.{header_at}
use Rattle.reaching.proofs.Lists.{then_is, else_is}
use Rattle.commit_walk.specs.Walk.{is_walked}
use Rattle.commit_walk.proofs.walk.goes_to.Goals as goal

pub returns-then-pid-eq0 : goal.returns-then-pid-eq0
unfolding is_walked
returns-then-pid-eq0 c =
    let h = header_at c.args.sw.now c.args.object in
    sym (then_is (nat_eq h.pid 0) true (nat_eq (kind_number h.kind) 8) (eq-eqb h.pid 0 (sym c.pid.ensures ∙ c.if-pid-eq0.true)))

pub returns : goal.returns
unfolding is_walked
returns c =
    let h = header_at c.args.sw.now c.args.object in
    c.is_kind.ensures ∙ sym (else_is (nat_eq h.pid 0) true (nat_eq (kind_number h.kind) 8) (ne_eqb h.pid 0 (λ e. c.if-pid-eq0.false (c.pid.ensures ∙ e))))
