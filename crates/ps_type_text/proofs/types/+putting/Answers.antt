use Rattle.std.proofs.Common.{◌++◌, ap, ◌∙◌, sym, rules}
use Rattle.ps_base.specs.TyView.{ty_view}
use Rattle.ps_base.proofs.TyLemmas.{ty_view-Proc}
use Rattle.ps_type_text.specs.Texts.{type_text}
use Rattle.ps_type_text.specs.inside.Procedures.{procedure_view}
use Rattle.ps_type_text.proofs.Putting.{one_parameter, behind, given}
use Rattle.ps_type_text.proofs.types.+putting.Goals as goal

pub put_parameters-loop-place-preserved : goal.put_parameters-loop-place-preserved
put_parameters-loop-place-preserved t c =
    one_parameter c.loop-place.place c.index-types-place.result c.args.types.now c.args.into.now.items c.loop-place.into.items c.put_comma.new.into.items c.put_type.new.into.items
    c.loop-place-test.true c.loop-place.invariant c.in_ok-put_comma.ensures (c.in_ok-put_type.ensures ∙ ap (λ ty. c.put_comma.new.into.items ++ type_text (ty_view ty)) c.index-types-place.is)

pub put_type-returns-in-Proc : goal.put_type-returns-in-Proc
put_type-returns-in-Proc t c =
    behind c.put_procedure.result c.args.into.now.items c.loop-rest.into.items c.put_procedure.new.into.items _ c.loop-rest.invariant.1
    (ap type_text (ap ty_view c.in-Proc.is ∙ ty_view-Proc c.in-Proc.signature ∙ ap procedure_view (sym c.deref.ensures))) c.put_procedure.ensures

pub put_result-returns-in_ok-extend_from_slice-in_default : goal.put_result-returns-in_ok-extend_from_slice-in_default
put_result-returns-in_ok-extend_from_slice-in_default t c =
    given c.args.gives.now c.put_type.result c.args.into.now.items c.put_type.new.into.items c.in_default.not-Void (search rules) c.put_type.ensures
