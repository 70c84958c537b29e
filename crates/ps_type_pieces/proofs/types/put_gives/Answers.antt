use Rattle.std.proofs.Common.{◌≡◌, ◌+◌, ◌∷◌, List, OnOk, refl, rules, subst, sym}
use Rattle.ps_base.specs.TyView.{ty_view}
use Rattle.ps_base.specs.declared.ty.Ty.{Ty}
use Rattle.ps_base.specs.declared.ty.Ty.TheVariants as code
use Rattle.ps_tree.specs.ps_scan.declared.mark.TheConstants as mark
use Rattle.ps_layout.specs.Lexemes.{Lexeme, blank}
use Rattle.ps_layout.specs.Layout.{behind_arrow, the_mark, type_lexemes}
use Rattle.ps_layout.specs.Waiting.{waiting, Adds}
use Rattle.ps_layout.specs.Weights.{weight_ty}
use Rattle.ps_type_pieces.proofs.types.put_gives.Goals as goal

-- a result has an arrow before it
behind : (t : Ty) (shown : List Lexeme) → (t ≡ code.Void → ⊥) → behind_arrow (ty_view t) shown ≡ the_mark blank mark.ARROW ∷ shown
behind code.Int shown other = refl
behind code.Bool shown other = refl
behind code.Str shown other = refl
behind code.Pntr shown other = refl
behind code.Void shown other = absurd (other refl)
behind (code.Vector' p element) shown other = refl
behind (code.Proc' p shape parameters gives) shown other = refl

pub returns-in_default : goal.returns-in_default
returns-in_default c =
    let shown = type_lexemes blank (ty_view c.args.ty.now) in
    let put : OnOk c.put.result (Adds (waiting c.args.pending.now) (the_mark blank mark.ARROW ∷ shown) (weight_ty (ty_view c.args.ty.now) + 2) (waiting c.put.new.self)) = search rules in
    subst (λ l. OnOk c.put.result (Adds (waiting c.args.pending.now) l (weight_ty (ty_view c.args.ty.now) + 2) (waiting c.put.new.self))) (sym (behind c.args.ty.now shown c.in_default.not-Void)) put
