use Rattle.std.proofs.Common.{IsTrue, ap, ◌∙◌, sym, subst}
use Rattle.ps_base.specs.TyView.{ty_view}
use Rattle.ps_base.proofs.TyLemmas.{ty_view-Proc}
use Rattle.ps_type_text.specs.inside.Procedures.{procedure_view}
use Rattle.ps_type_text.proofs.Same.{never, as_left, differ, lengths_differ, places_differ, one_same}
use Rattle.ps_type_text.proofs.equality.+same.Goals as goal

pub same_type-returns-in_default : goal.same_type-returns-in_default
same_type-returns-in_default t c = differ c.loop-left.right.now c.loop-left.invariant.1 (ap ty_view c.in-Int.is) c.in_default.not-Int

pub same_type-returns-in_default-matches : goal.same_type-returns-in_default-matches
same_type-returns-in_default-matches t c = differ c.loop-left.right.now c.loop-left.invariant.1 (ap ty_view c.in-Bool.is) c.in_default-matches.not-Bool

pub same_type-returns-in_default-matches-2 : goal.same_type-returns-in_default-matches-2
same_type-returns-in_default-matches-2 t c = differ c.loop-left.right.now c.loop-left.invariant.1 (ap ty_view c.in-Str.is) c.in_default-matches-2.not-Str

pub same_type-returns-in_default-matches-3 : goal.same_type-returns-in_default-matches-3
same_type-returns-in_default-matches-3 t c = differ c.loop-left.right.now c.loop-left.invariant.1 (ap ty_view c.in-Pntr.is) c.in_default-matches-3.not-Pntr

pub same_type-returns-in_default-matches-4 : goal.same_type-returns-in_default-matches-4
same_type-returns-in_default-matches-4 t c = differ c.loop-left.right.now c.loop-left.invariant.1 (ap ty_view c.in-Void.is) c.in_default-matches-4.not-Void

pub same_type-returns-in_default-right : goal.same_type-returns-in_default-right
same_type-returns-in_default-right t c =
    differ c.loop-left.right.now c.loop-left.invariant.1 (ap ty_view c.in-Vector.is) (λ of. c.in_default-right.not-Vector of.0 of.1)

pub same_type-returns-in_default-right-2 : goal.same_type-returns-in_default-right-2
same_type-returns-in_default-right-2 t c =
    differ c.loop-left.right.now c.loop-left.invariant.1 (ap ty_view c.in-Proc.is) (λ of. c.in_default-right-2.not-Proc of.0 of.1)

pub same_type-returns-in-Proc-right : goal.same_type-returns-in-Proc-right
same_type-returns-in-Proc-right t c =
    let one = ap ty_view c.in-Proc.is ∙ ty_view-Proc c.in-Proc.signature ∙ ap procedure_view (sym c.deref.ensures) in
    let other = ap ty_view c.in-Proc-right.is ∙ ty_view-Proc c.in-Proc-right.other ∙ ap procedure_view (sym c.deref-in-Proc-right.ensures) in
    as_left c.loop-left.invariant.1 (λ yes. one ∙ c.same_signature.ensures.0 yes ∙ sym other, λ e. c.same_signature.ensures.1 (sym one ∙ e ∙ other))

pub same_types-returns-then-a-b : goal.same_types-returns-then-a-b
same_types-returns-then-a-b t c = (λ no. absurd (never no), λ e. absurd (lengths_differ c.args.a.now c.args.b.now c.if-a-b.true e))

pub same_types-returns-then-not-same_type : goal.same_types-returns-then-not-same_type
same_types-returns-then-not-same_type t c = (
  λ no. absurd (never no),
  λ e. absurd (places_differ c.args.a.now c.args.b.now c.loop-i.i c.index-a-i.result c.index-b-i.result c.loop-i-test.true c.if-a-b.false
      (λ here. never (subst IsTrue c.if-not-same_type.true (c.same_type.ensures.1 (ap ty_view c.index-a-i.is ∙ here ∙ sym (ap ty_view c.index-b-i.is))))) e),
)

pub same_types-loop-i-preserved : goal.same_types-loop-i-preserved
same_types-loop-i-preserved t c =
    one_same c.args.a.now c.args.b.now c.loop-i.i c.index-a-i.result c.index-b-i.result c.loop-i-test.true c.if-a-b.false c.loop-i.invariant
    (sym (ap ty_view c.index-a-i.is) ∙ c.same_type.ensures.0 c.if-not-same_type.false ∙ ap ty_view c.index-b-i.is)
