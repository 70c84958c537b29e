use Rattle.std.proofs.Common.{◌≡◌, ◌∙◌, ap, sym, arith}
use Rattle.ps_base.specs.List.{items_of}
use Rattle.ps_base.specs.TyView.{ty_view}
use Rattle.ps_tree.specs.Phrase.{named, phrase_of, form_of, groups_in}
use Rattle.ps_tree.specs.Phrase as form
use Rattle.ps_tree.specs.PhraseLists.{phrases_in, items_in, arms_in as rough_arms_in, maybe_in}
use Rattle.ps_tree.proofs.PhraseLemmas.{form_of-Sequence, form_of-Write, form_of-Apply, form_of-Elems, form_of-Case, maybe_boxed-back}
use Rattle.ps_tree.specs.declared.rough.RoughRange.{out-RoughRange}
use Rattle.ps_checked.specs.ps_scope.Content.{names_of}
use Rattle.ps_checked.specs.ps_typing.Checking.{check, check_form}
use Rattle.ps_checked.specs.ps_declared.inside.Looks.{LiteralAt}
use Rattle.ps_checked.specs.ps_declared.inside.Views.{literal_of, maybe_lent}
use Rattle.ps_checked.specs.inside.Forms.{check_literal}
use Rattle.ps_checked.specs.inside.Parts.{check_double}
use Rattle.ps_checked.specs.inside.Weights.{weight, weight_form, weight_if_any}
use Rattle.ps_checked.specs.declared.double.Double.TheVariants as double
use Rattle.ps_steps.proofs.Applied.{apply_named, apply_other}
use Rattle.ps_steps.proofs.Lets.{let_literal, let_other, literal_weight}
use Rattle.ps_steps.proofs.Loops.{form_of-For}
use Rattle.ps_steps.proofs.Repeats.{repeat_once, repeat_twice}
use Rattle.ps_steps.proofs.step.step_of.Goals as goal

pub returns-in-Nil-clause-step : goal.returns-in-Nil-clause-step
returns-in-Nil-clause-step c = sym (ap (λ f. check_form (names_of c.args.scope.now) c.args.rough.now.line (form_of f)) (sym c.deref.ensures ∙ c.in-Nil.is))

pub returns-in-Flag-clause-step : goal.returns-in-Flag-clause-step
returns-in-Flag-clause-step c = sym (ap (λ f. check_form (names_of c.args.scope.now) c.args.rough.now.line (form_of f)) (sym c.deref.ensures ∙ c.in-Flag.is))

pub returns-in-Abort-clause-step : goal.returns-in-Abort-clause-step
returns-in-Abort-clause-step c = sym (ap (λ f. check_form (names_of c.args.scope.now) c.args.rough.now.line (form_of f)) (sym c.deref.ensures ∙ c.in-Abort.is))

pub returns-in-Name-clause-step : goal.returns-in-Name-clause-step
returns-in-Name-clause-step c = sym (ap (λ f. check_form (names_of c.args.scope.now) c.args.rough.now.line (form_of f)) (sym c.deref.ensures ∙ c.in-Name.is) ∙ ap (λ name. check_form (names_of c.args.scope.now) c.args.rough.now.line (form.Name name)) (sym c.as_slice-in-Name.ensures))

pub returns-in-Text-clause-step : goal.returns-in-Text-clause-step
returns-in-Text-clause-step c = sym (ap (λ f. check_form (names_of c.args.scope.now) c.args.rough.now.line (form_of f)) (sym c.deref.ensures ∙ c.in-Text.is) ∙ ap (λ bytes. check_form (names_of c.args.scope.now) c.args.rough.now.line (form.Text bytes)) (sym c.as_slice.ensures))

pub returns-in-Is-clause-step : goal.returns-in-Is-clause-step
returns-in-Is-clause-step c = sym (ap (λ f. check_form (names_of c.args.scope.now) c.args.rough.now.line (form_of f)) (sym c.deref.ensures ∙ c.in-Is.is) ∙ ap (λ class. check_form (names_of c.args.scope.now) c.args.rough.now.line (form.Is (phrase_of c.in-Is.e) (named class) c.in-Is.negated)) (sym c.deref-in-Is.ensures))

pub returns-in-Structure-clause-step : goal.returns-in-Structure-clause-step
returns-in-Structure-clause-step c = sym (ap (λ f. check_form (names_of c.args.scope.now) c.args.rough.now.line (form_of f)) (sym c.deref.ensures ∙ c.in-Structure.is) ∙ ap (λ name. check_form (names_of c.args.scope.now) c.args.rough.now.line (form.Structure (named name) (groups_in (items_of c.in-Structure.fields)))) (sym c.deref-in-Structure.ensures) ∙ ap (λ fields. check_form (names_of c.args.scope.now) c.args.rough.now.line (form.Structure (named c.deref-in-Structure.result.now) (groups_in fields))) (sym c.as_slice-in-Structure.ensures))

pub returns-in-Some-clause-step : goal.returns-in-Some-clause-step
returns-in-Some-clause-step c = sym (ap (λ f. check_form (names_of c.args.scope.now) c.args.rough.now.line (form_of f)) (sym c.deref.ensures ∙ c.in-Let.is) ∙ ap (λ n. check_form (names_of c.args.scope.now) c.args.rough.now.line (form.Let (named n) c.in-Let.variable (phrase_of c.in-Let.e))) (sym c.deref-in-Some.ensures) ∙ let_literal (names_of c.args.scope.now) c.args.rough.now.line _ c.in-Let.variable (phrase_of c.in-Let.e) _ (sym c.in-Some.ensures))

pub returns-in-None-clause-step : goal.returns-in-None-clause-step
returns-in-None-clause-step c = sym (ap (λ f. check_form (names_of c.args.scope.now) c.args.rough.now.line (form_of f)) (sym c.deref.ensures ∙ c.in-Let.is) ∙ ap (λ n. check_form (names_of c.args.scope.now) c.args.rough.now.line (form.Let (named n) c.in-Let.variable (phrase_of c.in-Let.e))) (sym c.deref-in-None.ensures) ∙ let_other (names_of c.args.scope.now) c.args.rough.now.line _ c.in-Let.variable (phrase_of c.in-Let.e) (sym c.in-None.ensures))

pub returns-in-IfDo-clause-step : goal.returns-in-IfDo-clause-step
returns-in-IfDo-clause-step c = sym (ap (λ f. check_form (names_of c.args.scope.now) c.args.rough.now.line (form_of f)) (sym c.deref.ensures ∙ c.in-IfDo.is))

pub returns-in-While-clause-step : goal.returns-in-While-clause-step
returns-in-While-clause-step c = sym (ap (λ f. check_form (names_of c.args.scope.now) c.args.rough.now.line (form_of f)) (sym c.deref.ensures ∙ c.in-While.is))

pub returns-in-IfElse-clause-step : goal.returns-in-IfElse-clause-step
returns-in-IfElse-clause-step c = sym (ap (λ f. check_form (names_of c.args.scope.now) c.args.rough.now.line (form_of f)) (sym c.deref.ensures ∙ c.in-IfElse.is))

pub returns-in-Vector-clause-step : goal.returns-in-Vector-clause-step
returns-in-Vector-clause-step c = sym (ap (λ f. check_form (names_of c.args.scope.now) c.args.rough.now.line (form_of f)) (sym c.deref.ensures ∙ c.in-Vector.is))

pub returns-in-Assign-clause-step : goal.returns-in-Assign-clause-step
returns-in-Assign-clause-step c = sym (ap (λ f. check_form (names_of c.args.scope.now) c.args.rough.now.line (form_of f)) (sym c.deref.ensures ∙ c.in-Assign.is) ∙ ap (λ v. check_double (double.Assign c.args.rough.now.line c.in-Assign.e.line v) (names_of c.args.scope.now) (phrase_of c.in-Assign.x) (phrase_of c.in-Assign.e)) (sym c.can_be_assigned.ensures))

pub returns-in-Compare-clause-step : goal.returns-in-Compare-clause-step
returns-in-Compare-clause-step c = sym (ap (λ f. check_form (names_of c.args.scope.now) c.args.rough.now.line (form_of f)) (sym c.deref.ensures ∙ c.in-Compare.is))

pub returns-in-Some-lent_boxed-clause-step : goal.returns-in-Some-lent_boxed-clause-step
returns-in-Some-lent_boxed-clause-step c = sym (ap (λ f. check_form (names_of c.args.scope.now) c.args.rough.now.line (form_of f)) (sym c.deref.ensures ∙ c.in-Repeat.is) ∙ ap (λ b. check_form (names_of c.args.scope.now) c.args.rough.now.line (form.Repeat (phrase_of c.in-Repeat.a) (phrase_of c.in-Repeat.c) b)) (maybe_boxed-back c.in-Repeat.b ∙ sym c.lent_boxed.ensures ∙ ap maybe_lent c.in-Some-lent_boxed.is) ∙ repeat_twice (names_of c.args.scope.now) c.args.rough.now.line (phrase_of c.in-Repeat.a) (phrase_of c.in-Repeat.c) (phrase_of c.in-Some-lent_boxed.b.now))

pub returns-in-None-lent_boxed-clause-step : goal.returns-in-None-lent_boxed-clause-step
returns-in-None-lent_boxed-clause-step c = sym (ap (λ f. check_form (names_of c.args.scope.now) c.args.rough.now.line (form_of f)) (sym c.deref.ensures ∙ c.in-Repeat.is) ∙ ap (λ b. check_form (names_of c.args.scope.now) c.args.rough.now.line (form.Repeat (phrase_of c.in-Repeat.a) (phrase_of c.in-Repeat.c) b)) (maybe_boxed-back c.in-Repeat.b ∙ sym c.lent_boxed.ensures ∙ ap maybe_lent c.in-None-lent_boxed.is) ∙ repeat_once (names_of c.args.scope.now) c.args.rough.now.line (phrase_of c.in-Repeat.a) (phrase_of c.in-Repeat.c))

pub returns-in-For-clause-step : goal.returns-in-For-clause-step
returns-in-For-clause-step c = sym (ap (λ f. check_form (names_of c.args.scope.now) c.args.rough.now.line (form_of f)) (sym c.deref.ensures ∙ c.in-For.is) ∙ ap (check_form (names_of c.args.scope.now) c.args.rough.now.line) (form_of-For c.in-For.name c.in-For.range c.in-For.s) ∙ ap (λ n. check_form (names_of c.args.scope.now) c.args.rough.now.line (form.For (named n) (phrase_of (out-RoughRange c.in-For.range.value).a) (phrase_of (out-RoughRange c.in-For.range.value).b) (maybe_in (out-RoughRange c.in-For.range.value).c) (phrase_of c.in-For.s))) (sym c.deref-in-For.ensures) ∙ ap (λ r. check_form (names_of c.args.scope.now) c.args.rough.now.line (form.For (named c.deref-in-For.result.now) (phrase_of (out-RoughRange r).a) (phrase_of (out-RoughRange r).b) (maybe_in (out-RoughRange r).c) (phrase_of c.in-For.s))) (sym c.deref-in-For-2.ensures))

pub returns-in-Case-clause-step : goal.returns-in-Case-clause-step
returns-in-Case-clause-step c = sym (ap (λ f. check_form (names_of c.args.scope.now) c.args.rough.now.line (form_of f)) (sym c.deref.ensures ∙ c.in-Case.is) ∙ ap (check_form (names_of c.args.scope.now) c.args.rough.now.line) (form_of-Case c.in-Case.e c.in-Case.arms c.in-Case.d) ∙ ap (λ arms. check_form (names_of c.args.scope.now) c.args.rough.now.line (form.Case (phrase_of c.in-Case.e) (rough_arms_in arms) (phrase_of c.in-Case.d))) (sym (c.as_slice-in-Case.ensures ∙ ap items_of c.deref-in-Case.ensures)))

pub returns-in-Write-clause-step : goal.returns-in-Write-clause-step
returns-in-Write-clause-step c = sym (ap (λ f. check_form (names_of c.args.scope.now) c.args.rough.now.line (form_of f)) (sym c.deref.ensures ∙ c.in-Write.is) ∙ ap (check_form (names_of c.args.scope.now) c.args.rough.now.line) (form_of-Write c.in-Write.items) ∙ ap (λ items. check_form (names_of c.args.scope.now) c.args.rough.now.line (form.Write (items_in items))) (sym c.as_slice-in-Write.ensures))

pub returns-in-Elems-clause-step : goal.returns-in-Elems-clause-step
returns-in-Elems-clause-step c = sym (ap (λ f. check_form (names_of c.args.scope.now) c.args.rough.now.line (form_of f)) (sym c.deref.ensures ∙ c.in-Elems.is) ∙ ap (check_form (names_of c.args.scope.now) c.args.rough.now.line) (form_of-Elems c.in-Elems.l c.in-Elems.ty c.in-Elems.items) ∙ ap (λ ty. check_form (names_of c.args.scope.now) c.args.rough.now.line (form.Elems (phrase_of c.in-Elems.l) (ty_view ty) (phrases_in (items_of c.in-Elems.items)))) (sym c.deref-in-Elems.ensures) ∙ ap (λ items. check_form (names_of c.args.scope.now) c.args.rough.now.line (form.Elems (phrase_of c.in-Elems.l) (ty_view c.deref-in-Elems.result.now) (phrases_in items))) (sym c.as_slice-in-Elems.ensures))

pub returns-in-Some-name_in-clause-step : goal.returns-in-Some-name_in-clause-step
returns-in-Some-name_in-clause-step c = sym (ap (λ f. check_form (names_of c.args.scope.now) c.args.rough.now.line (form_of f)) (sym c.deref.ensures ∙ c.in-Apply.is) ∙ ap (check_form (names_of c.args.scope.now) c.args.rough.now.line) (form_of-Apply c.in-Apply.f c.in-Apply.args) ∙ ap (λ items. check_form (names_of c.args.scope.now) c.args.rough.now.line (form.Apply (phrase_of c.in-Apply.f) (phrases_in items))) (sym c.as_slice-in-Some-name_in.ensures) ∙ apply_named (names_of c.args.scope.now) c.args.rough.now.line (phrase_of c.in-Apply.f) (phrases_in c.as_slice-in-Some-name_in.result.now) _ (sym c.in-Some-name_in.ensures))

pub returns-in-None-name_in-clause-step : goal.returns-in-None-name_in-clause-step
returns-in-None-name_in-clause-step c = sym (ap (λ f. check_form (names_of c.args.scope.now) c.args.rough.now.line (form_of f)) (sym c.deref.ensures ∙ c.in-Apply.is) ∙ ap (check_form (names_of c.args.scope.now) c.args.rough.now.line) (form_of-Apply c.in-Apply.f c.in-Apply.args) ∙ ap (λ items. check_form (names_of c.args.scope.now) c.args.rough.now.line (form.Apply (phrase_of c.in-Apply.f) (phrases_in items))) (sym c.as_slice-in-None-name_in.ensures) ∙ apply_other (names_of c.args.scope.now) c.args.rough.now.line (phrase_of c.in-Apply.f) (phrases_in c.as_slice-in-None-name_in.result.now) (sym c.in-None-name_in.ensures) ∙ sym (c.apply.ensures.link (check (names_of c.args.scope.now) (phrase_of c.in-Apply.f))))

pub returns-in-Sequence-clause-step : goal.returns-in-Sequence-clause-step
returns-in-Sequence-clause-step c = sym (ap (λ f. check_form (names_of c.args.scope.now) c.args.rough.now.line (form_of f)) (sym c.deref.ensures ∙ c.in-Sequence.is) ∙ ap (check_form (names_of c.args.scope.now) c.args.rough.now.line) (form_of-Sequence c.in-Sequence.items) ∙ ap (λ items. check_form (names_of c.args.scope.now) c.args.rough.now.line (form.Sequence (phrases_in items))) (sym c.as_slice-in-Sequence.ensures))

pub returns-in-Proc-clause-step : goal.returns-in-Proc-clause-step
returns-in-Proc-clause-step c = sym (ap (λ f. check_form (names_of c.args.scope.now) c.args.rough.now.line (form_of f)) (sym c.deref.ensures ∙ c.in-Proc.is) ∙ ap (λ params. check_form (names_of c.args.scope.now) c.args.rough.now.line (form.Proc (groups_in params) (ty_view c.in-Proc.gives.value) (phrase_of c.in-Proc.s))) (sym c.as_slice-in-Proc.ensures) ∙ ap (λ gives. check_form (names_of c.args.scope.now) c.args.rough.now.line (form.Proc (groups_in c.as_slice-in-Proc.result.now) (ty_view gives) (phrase_of c.in-Proc.s))) (sym c.deref-in-Proc.ensures) ∙ ap (check_literal (names_of c.args.scope.now)) (sym c.new-in-Proc.ensures))

pub returns-in-Or-clause-step : goal.returns-in-Or-clause-step
returns-in-Or-clause-step c = sym (ap (λ f. check_form (names_of c.args.scope.now) c.args.rough.now.line (form_of f)) (sym c.deref.ensures ∙ c.in-Or.is) ∙ sym (c.new.ensures.link (check (names_of c.args.scope.now) (phrase_of c.in-Or.a))))

pub returns-in-And-clause-step : goal.returns-in-And-clause-step
returns-in-And-clause-step c = sym (ap (λ f. check_form (names_of c.args.scope.now) c.args.rough.now.line (form_of f)) (sym c.deref.ensures ∙ c.in-And.is) ∙ sym (c.new-in-And.ensures.link (check (names_of c.args.scope.now) (phrase_of c.in-And.a))))

pub returns-in-Join-clause-step : goal.returns-in-Join-clause-step
returns-in-Join-clause-step c = sym (ap (λ f. check_form (names_of c.args.scope.now) c.args.rough.now.line (form_of f)) (sym c.deref.ensures ∙ c.in-Join.is) ∙ sym (c.new-in-Join.ensures.link (check (names_of c.args.scope.now) (phrase_of c.in-Join.a))))

pub returns-in-Arith-clause-step : goal.returns-in-Arith-clause-step
returns-in-Arith-clause-step c = sym (ap (λ f. check_form (names_of c.args.scope.now) c.args.rough.now.line (form_of f)) (sym c.deref.ensures ∙ c.in-Arith.is) ∙ sym (c.new-in-Arith.ensures.link (check (names_of c.args.scope.now) (phrase_of c.in-Arith.a))))

pub returns-in-Part-clause-step : goal.returns-in-Part-clause-step
returns-in-Part-clause-step c = sym (ap (λ f. check_form (names_of c.args.scope.now) c.args.rough.now.line (form_of f)) (sym c.deref.ensures ∙ c.in-Part.is) ∙ sym (c.part.ensures.link (check (names_of c.args.scope.now) (phrase_of c.in-Part.s))))

pub returns-in-Not-clause-step : goal.returns-in-Not-clause-step
returns-in-Not-clause-step c = sym (ap (λ f. check_form (names_of c.args.scope.now) c.args.rough.now.line (form_of f)) (sym c.deref.ensures ∙ c.in-Not.is))

pub returns-in-Plus-clause-step : goal.returns-in-Plus-clause-step
returns-in-Plus-clause-step c = sym (ap (λ f. check_form (names_of c.args.scope.now) c.args.rough.now.line (form_of f)) (sym c.deref.ensures ∙ c.in-Plus.is))

pub returns-in-Neg-clause-step : goal.returns-in-Neg-clause-step
returns-in-Neg-clause-step c = sym (ap (λ f. check_form (names_of c.args.scope.now) c.args.rough.now.line (form_of f)) (sym c.deref.ensures ∙ c.in-Neg.is))

pub returns-in-Bound-clause-step : goal.returns-in-Bound-clause-step
returns-in-Bound-clause-step c = sym (ap (λ f. check_form (names_of c.args.scope.now) c.args.rough.now.line (form_of f)) (sym c.deref.ensures ∙ c.in-Bound.is))

pub returns-in-Nil-clause-lighter : goal.returns-in-Nil-clause-lighter
returns-in-Nil-clause-lighter c = omega arith

pub returns-in-Flag-clause-lighter : goal.returns-in-Flag-clause-lighter
returns-in-Flag-clause-lighter c = omega arith

pub returns-in-Abort-clause-lighter : goal.returns-in-Abort-clause-lighter
returns-in-Abort-clause-lighter c = omega arith

pub returns-in-Name-clause-lighter : goal.returns-in-Name-clause-lighter
returns-in-Name-clause-lighter c = omega arith

pub returns-in-Text-clause-lighter : goal.returns-in-Text-clause-lighter
returns-in-Text-clause-lighter c = omega arith

pub returns-in-Is-clause-lighter : goal.returns-in-Is-clause-lighter
returns-in-Is-clause-lighter c =
    let whole = ap (λ f. weight_form (form_of f)) (sym c.deref.ensures ∙ c.in-Is.is) in
    omega (arith, whole)

pub returns-in-Structure-clause-lighter : goal.returns-in-Structure-clause-lighter
returns-in-Structure-clause-lighter c = omega arith

pub returns-in-Some-clause-lighter : goal.returns-in-Some-clause-lighter
returns-in-Some-clause-lighter c =
    let whole = ap (λ f. weight_form (form_of f)) (sym c.deref.ensures ∙ c.in-Let.is) in
    let literal = literal_weight (phrase_of c.in-Let.e) _ (sym c.in-Some.ensures) in
    omega (arith, whole, literal)

pub returns-in-None-clause-lighter : goal.returns-in-None-clause-lighter
returns-in-None-clause-lighter c =
    let whole = ap (λ f. weight_form (form_of f)) (sym c.deref.ensures ∙ c.in-Let.is) in
    omega (arith, whole)

pub returns-in-IfDo-clause-lighter : goal.returns-in-IfDo-clause-lighter
returns-in-IfDo-clause-lighter c =
    let whole = ap (λ f. weight_form (form_of f)) (sym c.deref.ensures ∙ c.in-IfDo.is) in
    omega (arith, whole)

pub returns-in-While-clause-lighter : goal.returns-in-While-clause-lighter
returns-in-While-clause-lighter c =
    let whole = ap (λ f. weight_form (form_of f)) (sym c.deref.ensures ∙ c.in-While.is) in
    omega (arith, whole)

pub returns-in-IfElse-clause-lighter : goal.returns-in-IfElse-clause-lighter
returns-in-IfElse-clause-lighter c =
    let whole = ap (λ f. weight_form (form_of f)) (sym c.deref.ensures ∙ c.in-IfElse.is) in
    omega (arith, whole)

pub returns-in-Vector-clause-lighter : goal.returns-in-Vector-clause-lighter
returns-in-Vector-clause-lighter c =
    let whole = ap (λ f. weight_form (form_of f)) (sym c.deref.ensures ∙ c.in-Vector.is) in
    omega (arith, whole)

pub returns-in-Assign-clause-lighter : goal.returns-in-Assign-clause-lighter
returns-in-Assign-clause-lighter c =
    let whole = ap (λ f. weight_form (form_of f)) (sym c.deref.ensures ∙ c.in-Assign.is) in
    omega (arith, whole)

pub returns-in-Compare-clause-lighter : goal.returns-in-Compare-clause-lighter
returns-in-Compare-clause-lighter c =
    let whole = ap (λ f. weight_form (form_of f)) (sym c.deref.ensures ∙ c.in-Compare.is) in
    omega (arith, whole)

pub returns-in-Some-lent_boxed-clause-lighter : goal.returns-in-Some-lent_boxed-clause-lighter
returns-in-Some-lent_boxed-clause-lighter c =
    let whole = ap (λ f. weight_form (form_of f)) (sym c.deref.ensures ∙ c.in-Repeat.is) in
    let third = ap weight_if_any (maybe_boxed-back c.in-Repeat.b ∙ sym c.lent_boxed.ensures ∙ ap maybe_lent c.in-Some-lent_boxed.is) in
    omega (arith, whole, third)

pub returns-in-None-lent_boxed-clause-lighter : goal.returns-in-None-lent_boxed-clause-lighter
returns-in-None-lent_boxed-clause-lighter c =
    let whole = ap (λ f. weight_form (form_of f)) (sym c.deref.ensures ∙ c.in-Repeat.is) in
    omega (arith, whole)

pub returns-in-For-clause-lighter : goal.returns-in-For-clause-lighter
returns-in-For-clause-lighter c =
    let is = ap form_of (sym c.deref.ensures ∙ c.in-For.is) ∙ form_of-For c.in-For.name c.in-For.range c.in-For.s ∙ ap (λ r. form.For (named c.in-For.name.value) (phrase_of (out-RoughRange r).a) (phrase_of (out-RoughRange r).b) (maybe_in (out-RoughRange r).c) (phrase_of c.in-For.s)) (sym c.deref-in-For-2.ensures) in
    let light = ap weight_form is in
    omega (arith, light)

pub returns-in-Case-clause-lighter : goal.returns-in-Case-clause-lighter
returns-in-Case-clause-lighter c =
    let is = ap form_of (sym c.deref.ensures ∙ c.in-Case.is) ∙ form_of-Case c.in-Case.e c.in-Case.arms c.in-Case.d ∙ ap (λ arms. form.Case (phrase_of c.in-Case.e) (rough_arms_in arms) (phrase_of c.in-Case.d)) (sym (c.as_slice-in-Case.ensures ∙ ap items_of c.deref-in-Case.ensures)) in
    let light = ap weight_form is in
    omega (arith, light)

pub returns-in-Write-clause-lighter : goal.returns-in-Write-clause-lighter
returns-in-Write-clause-lighter c =
    let is = ap form_of (sym c.deref.ensures ∙ c.in-Write.is) ∙ form_of-Write c.in-Write.items ∙ ap (λ items. form.Write (items_in items)) (sym c.as_slice-in-Write.ensures) in
    let light = ap weight_form is in
    omega (arith, light)

pub returns-in-Elems-clause-lighter : goal.returns-in-Elems-clause-lighter
returns-in-Elems-clause-lighter c =
    let is = ap form_of (sym c.deref.ensures ∙ c.in-Elems.is) ∙ form_of-Elems c.in-Elems.l c.in-Elems.ty c.in-Elems.items ∙ ap (λ items. form.Elems (phrase_of c.in-Elems.l) (ty_view c.in-Elems.ty.value) (phrases_in items)) (sym c.as_slice-in-Elems.ensures) in
    let light = ap weight_form is in
    omega (arith, light)

pub returns-in-Some-name_in-clause-lighter : goal.returns-in-Some-name_in-clause-lighter
returns-in-Some-name_in-clause-lighter c =
    let is = ap form_of (sym c.deref.ensures ∙ c.in-Apply.is) ∙ form_of-Apply c.in-Apply.f c.in-Apply.args ∙ ap (λ items. form.Apply (phrase_of c.in-Apply.f) (phrases_in items)) (sym c.as_slice-in-Some-name_in.ensures) in
    let light = ap weight_form is in
    omega (arith, light)

pub returns-in-None-name_in-clause-lighter : goal.returns-in-None-name_in-clause-lighter
returns-in-None-name_in-clause-lighter c =
    let is = ap form_of (sym c.deref.ensures ∙ c.in-Apply.is) ∙ form_of-Apply c.in-Apply.f c.in-Apply.args ∙ ap (λ items. form.Apply (phrase_of c.in-Apply.f) (phrases_in items)) (sym c.as_slice-in-None-name_in.ensures) in
    let light = ap weight_form is in
    omega (arith, light, c.apply.ensures.weight)

pub returns-in-Sequence-clause-lighter : goal.returns-in-Sequence-clause-lighter
returns-in-Sequence-clause-lighter c =
    let is = ap form_of (sym c.deref.ensures ∙ c.in-Sequence.is) ∙ form_of-Sequence c.in-Sequence.items ∙ ap (λ items. form.Sequence (phrases_in items)) (sym c.as_slice-in-Sequence.ensures) in
    let light = ap weight_form is in
    omega (arith, light)

pub returns-in-Proc-clause-lighter : goal.returns-in-Proc-clause-lighter
returns-in-Proc-clause-lighter c =
    let whole = ap (λ f. weight_form (form_of f)) (sym c.deref.ensures ∙ c.in-Proc.is) in
    let inside : weight (literal_of c.new-in-Proc.result).s ≡ weight (phrase_of c.in-Proc.s) = ap (λ (l : LiteralAt). weight l.s) c.new-in-Proc.ensures in
    omega (arith, whole, inside)

pub returns-in-Or-clause-lighter : goal.returns-in-Or-clause-lighter
returns-in-Or-clause-lighter c =
    let whole = ap (λ f. weight_form (form_of f)) (sym c.deref.ensures ∙ c.in-Or.is) in
    omega (arith, whole, c.new.ensures.weight)

pub returns-in-And-clause-lighter : goal.returns-in-And-clause-lighter
returns-in-And-clause-lighter c =
    let whole = ap (λ f. weight_form (form_of f)) (sym c.deref.ensures ∙ c.in-And.is) in
    omega (arith, whole, c.new-in-And.ensures.weight)

pub returns-in-Join-clause-lighter : goal.returns-in-Join-clause-lighter
returns-in-Join-clause-lighter c =
    let whole = ap (λ f. weight_form (form_of f)) (sym c.deref.ensures ∙ c.in-Join.is) in
    omega (arith, whole, c.new-in-Join.ensures.weight)

pub returns-in-Arith-clause-lighter : goal.returns-in-Arith-clause-lighter
returns-in-Arith-clause-lighter c =
    let whole = ap (λ f. weight_form (form_of f)) (sym c.deref.ensures ∙ c.in-Arith.is) in
    omega (arith, whole, c.new-in-Arith.ensures.weight)

pub returns-in-Part-clause-lighter : goal.returns-in-Part-clause-lighter
returns-in-Part-clause-lighter c =
    let whole = ap (λ f. weight_form (form_of f)) (sym c.deref.ensures ∙ c.in-Part.is) in
    omega (arith, whole, c.part.ensures.weight)

pub returns-in-Not-clause-lighter : goal.returns-in-Not-clause-lighter
returns-in-Not-clause-lighter c =
    let whole = ap (λ f. weight_form (form_of f)) (sym c.deref.ensures ∙ c.in-Not.is) in
    omega (arith, whole)

pub returns-in-Plus-clause-lighter : goal.returns-in-Plus-clause-lighter
returns-in-Plus-clause-lighter c =
    let whole = ap (λ f. weight_form (form_of f)) (sym c.deref.ensures ∙ c.in-Plus.is) in
    omega (arith, whole)

pub returns-in-Neg-clause-lighter : goal.returns-in-Neg-clause-lighter
returns-in-Neg-clause-lighter c =
    let whole = ap (λ f. weight_form (form_of f)) (sym c.deref.ensures ∙ c.in-Neg.is) in
    omega (arith, whole)

pub returns-in-Bound-clause-lighter : goal.returns-in-Bound-clause-lighter
returns-in-Bound-clause-lighter c =
    let whole = ap (λ f. weight_form (form_of f)) (sym c.deref.ensures ∙ c.in-Bound.is) in
    omega (arith, whole)
