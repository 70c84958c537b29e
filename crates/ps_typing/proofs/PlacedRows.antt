-- The places of worked programs.
use Rattle.std.proofs.Common.{◌≡◌, refl, ℕ, pos, List, [], ◌∷◌, None, Some}
use Rattle.std.specs.Prelude.{codes}
use Rattle.ps_tree.specs.ps_base.TyView.{TyView}
use Rattle.ps_tree.specs.ps_base.TyView as ty
use Rattle.ps_tree.specs.ps_base.declared.line.Line.{Line}
use Rattle.ps_program.specs.declared.place.Place.TheVariants.{Plain, Kept}
use Rattle.ps_program.specs.Node.{Node, Nodes, none, more, BodyNode, body}
use Rattle.ps_program.specs.Node as node
use Rattle.ps_type_text.specs.Texts.{Field}
use Rattle.ps_typing.specs.Placed.{placed_program, then_give, ◌>>=◌}

abbrev one : Line
one = record { 0 = 1 }

abbrev procedure : TyView
procedure = ty.Proc ty.none ty.Void

abbrev name : TyView → List ℕ → Field
name t n = record { ty = t; name = n }

-- `let a = 1; let s = "x"; for i = 1 to 2 do a`: a name on each stack, and the control after the loop's three locals
counted : placed_program (name ty.Int (codes "a") ∷ name ty.Str (codes "s") ∷ name ty.Int (codes "i") ∷ [])
    (body [] ty.Void (node.Block None (more (node.Let (Plain 0) ty.Int (node.Int (pos 1))) (more (node.Let (Plain 1) ty.Str (node.Text (codes "x"))) (more (node.For 0 (node.Int (pos 1)) (node.Int (pos 2)) (node.Int (pos 1)) None (Plain 2) (node.Name (Plain 0) ty.Int) one) none)))) None one)
    ≡ body [] ty.Void (node.Block None (more (node.Let (Plain 0) ty.Int (node.Int (pos 1))) (more (node.Let (Plain 0) ty.Str (node.Text (codes "x"))) (more (node.For 1 (node.Int (pos 1)) (node.Int (pos 2)) (node.Int (pos 1)) None (Plain 4) (node.Name (Plain 0) ty.Int) one) none)))) None one
unfolding then_give ◌>>=◌
counted = refl

-- `let x := 1; let f = proc(); { let y := 2; let g = proc(); x := y }`: two scopes, of which the inner one is nearer
nested : placed_program (name ty.Int (codes "x") ∷ name procedure (codes "f") ∷ name ty.Int (codes "y") ∷ name procedure (codes "g") ∷ [])
    (body [] ty.Void (node.Block None (more (node.Let (Plain 0) ty.Int (node.Int (pos 1)))
    (more (node.Let (Plain 1) procedure (node.Proc (body [] ty.Void (node.Block None (more (node.Let (Plain 2) ty.Int (node.Int (pos 2)))
    (more (node.Let (Plain 3) procedure (node.Proc (body [] ty.Void (node.SetName (Plain 0) ty.Int (node.Name (Plain 2) ty.Int)) None one))) none))) None one))) none))) None one)
    ≡ body [] ty.Void (node.Block (Some (codes "scope(int x)")) (more (node.Let (Kept 0 0) ty.Int (node.Int (pos 1)))
    (more (node.Let (Plain 0) procedure (node.Proc (body [] ty.Void (node.Block (Some (codes "scope(int y)")) (more (node.Let (Kept 0 0) ty.Int (node.Int (pos 2)))
    (more (node.Let (Plain 0) procedure (node.Proc (body [] ty.Void (node.SetName (Kept 1 0) ty.Int (node.Name (Kept 0 0) ty.Int)) None one))) none))) None one))) none))) None one
unfolding then_give ◌>>=◌
nested = refl
