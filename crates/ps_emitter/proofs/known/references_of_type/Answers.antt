use Rattle.std.proofs.Common.{◌≡◌, IfOk, ap, ◌∙◌, sym, subst}
use Rattle.ps_base.specs.List.{items_of}
use Rattle.ps_base.specs.TyView.{ty_view, ty_views}
use Rattle.ps_base.proofs.TyLemmas.{ty_view-Proc}
use Rattle.ps_base.specs.declared.ty.Signature.{Signature}
use Rattle.ps_emitter.specs.Choices.{reference_arguments, references}
use Rattle.ps_emitter.proofs.known.references_of_type.Goals as goal

pub returns-in-Proc : goal.returns-in-Proc
returns-in-Proc c =
    let whole = ap reference_arguments (ap ty_view c.in-Proc.is ∙ ty_view-Proc c.in-Proc.signature) in
    let given = c.as_slice.ensures ∙ ap (λ (s : Signature). items_of s.parameters) c.deref.ensures in
    subst (λ k. IfOk c.references_of.result (λ n. n ≡ k)) (ap (λ x. references (ty_views x)) given ∙ sym whole) c.references_of.ensures
