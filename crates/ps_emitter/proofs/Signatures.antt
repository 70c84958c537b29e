-- The types of the parameters of a procedure.
use Rattle.std.proofs.Common.{◌≡◌, ◌<◌, length, get_or, take, ℕ, ◌+◌, List, [], ◌∷◌, ◌++◌, refl, sym, ap, ◌∙◌}
use Rattle.std.proofs.lemmas.Grind.{take_at_read}
use Rattle.ps_base.specs.TyView.{TyViews, ty_view, ty_views, and_type}
use Rattle.ps_base.specs.TyView as types
use Rattle.ps_base.specs.declared.ty.Ty.{Ty}
use Rattle.ps_base.proofs.TyLemmas.{ty_views-append}
use Rattle.ps_program.specs.declared.body.Param.{Param as ParamOf}
use Rattle.ps_program.specs.NodeView.{params_of}
use Rattle.ps_typing.specs.WellTyped.{types_of_params}

types_append : (params : List ParamOf) (last : ParamOf) → types_of_params (params_of (params ++ last ∷ [])) ≡ and_type (types_of_params (params_of params)) (ty_view last.ty)
types_append [] last = refl
types_append (first ∷ params) last = ap (λ (ts : TyViews). types.more (ty_view first.ty) ts) (types_append params last)

-- the type of one parameter more
pub type_more : (params : List ParamOf) (i : ℕ) (param d : ParamOf) (made new : List Ty) (ty : Ty) → param ≡ get_or params i d → i < length params → ty_views made ≡ types_of_params (params_of (take i params)) → new ≡ made ++ ty ∷ [] → ty_view ty ≡ ty_view param.ty → ty_views new ≡ types_of_params (params_of (take (i + 1) params))
type_more params i param d made new ty is below before pushed same =
    ap ty_views pushed ∙ ty_views-append made ty ∙ ap (λ ts. and_type ts (ty_view ty)) before ∙ ap (and_type (types_of_params (params_of (take i params)))) same
    ∙ sym (types_append (take i params) param) ∙ ap (λ x. types_of_params (params_of (take i params ++ x ∷ []))) is ∙ ap (λ z. types_of_params (params_of z)) (sym (take_at_read params i d below).1)
