use Rattle.std.proofs.Common.{◌≡◌, ◌∙◌, ap, sym, rules}
use Rattle.ps_base.specs.TyView.{ty_view, ty_views, Proc}
use Rattle.ps_base.specs.List.{items_of}
use Rattle.ps_base.proofs.TyLemmas.{ty_view-Proc}
use Rattle.ps_type_pieces.proofs.types.put_type.Goals as goal

pub returns-in-Proc : goal.returns-in-Proc
returns-in-Proc c =
    let is : ty_view c.args.ty.now ≡ Proc (ty_views c.as_slice.result.now) (ty_view c.deref-in-Proc-2.result.now.gives) =
    ap ty_view c.in-Proc.is ∙ ty_view-Proc c.in-Proc.signature
    ∙ ap (λ signature. Proc (ty_views (items_of signature.parameters)) (ty_view c.in-Proc.signature.value.gives)) (sym c.deref-in-Proc.ensures)
    ∙ ap (λ tys. Proc (ty_views tys) (ty_view c.in-Proc.signature.value.gives)) (sym c.as_slice.ensures)
    ∙ ap (λ signature. Proc (ty_views c.as_slice.result.now) (ty_view signature.gives)) (sym c.deref-in-Proc-2.ensures) in
    search (rules, is)
