-- Bodies that aren't fit: what they name isn't as the texts of classes say, or a parameter has no values.
use Rattle.std.proofs.Common.{inl, inr, ◌≡◌, ℕ, true, List, [], ◌∷◌, None, refl, sym, subst, arith}
use Rattle.std.specs.Prelude.{codes}
use Rattle.ps_heap.specs.ps_base.TyView.{TyView}
use Rattle.ps_heap.specs.ps_base.TyView as types
use Rattle.ps_soundness.specs.ps_program.declared.place.Place.TheVariants.{Plain, Kept}
use Rattle.ps_soundness.specs.ps_program.Node.{Node, Nodes, none, more, BodyNode, body}
use Rattle.ps_soundness.specs.ps_program.Node as node
use Rattle.ps_soundness.specs.ps_type_text.Texts.{Field, IsNamed, is_name_byte}
use Rattle.ps_soundness.specs.ps_typing.WellTyped.{At, IsOfType, Rule, ◌has◌}
use Rattle.ps_soundness.specs.ps_typing.WellTyped as typed
use Rattle.ps_soundness.specs.Running.{HasField, AreAsMany, HasAsMany}
use Rattle.ps_soundness.proofs.Telling.{Told}
use Rattle.heap_fit.specs.Bodies.{Level, InScope, IsFit, by_rule, block, unscoped, a_clause, a_value, IsFitBody, of_params}
use Rattle.heap_fit.proofs.Rows.{at, num}

-- a class of an int, a pntr and a bool; with a name that has a semicolon in it, its text can be read as that of an int and a bool
abbrev three : List Field
three = record { ty = types.Int; name = codes "a" } ∷ record { ty = types.Pntr; name = codes "b" } ∷ record { ty = types.Bool; name = codes "c" } ∷ []

abbrev two : List Field
two = record { ty = types.Int; name = codes "a;pntr b" } ∷ record { ty = types.Bool; name = codes "c" } ∷ []

abbrev text : List ℕ
text = codes "t(int a;pntr b;bool c)"

three_named : IsNamed (codes "t") three
unfolding is_name_byte
three_named = record { class = (refl, tt); each = ((refl, tt), ((refl, tt), ((refl, tt), tt))) }

-- By that reading a rule gives the second field, which is a pntr, as a bool,
abbrev second : Node
second = node.Field node.Nil text 1 types.Bool at

has_a_rule : Rule second (node.Nil has types.Pntr ∷ []) types.Bool
has_a_rule = typed.field (codes "t", two, refl, inr (0, refl, inl (refl, refl)))

only_field : (fields : List Field) → fields ≡ three → At (IsOfType types.Bool) fields 1 → ⊥
only_field fields e at = go (subst (λ fs. At (IsOfType types.Bool) fs 1) e at)
  where
    go : At (IsOfType types.Bool) three 1 → ⊥
    go (inl h) = absurd (omega (arith, h.0))
    go (inr (before, e, inl h)) = absurd (let is = h.1 in cc)
    go (inr (before, e, inr (further, f, h))) = absurd (omega (arith, e, f))

no_such_field : Told → HasField text 1 types.Bool → ⊥
no_such_field told h =
    let same = told.classes h.class.name (codes "t") h.class.fields three h.class.named three_named (sym h.class.text_is) in
    only_field h.class.fields same.1 h.at

-- but it isn't fit.
wrong_field_refused : Told → (env : InScope) → IsFit env second types.Bool → ⊥
wrong_field_refused told env (by_rule r names parts) = no_such_field told names

-- Nor is a clause that makes a structure of this class with two values, as there are fields by that reading.
abbrev two_values : Nodes
two_values = more (num 1) (more (node.Flag true) none)

too_few : Told → HasAsMany text two_values → ⊥
too_few told h =
    subst (AreAsMany two_values) (told.classes h.class.name (codes "t") h.class.fields three h.class.named three_named (sym h.class.text_is)).1 h.are

made_with_few_refused : Told → (env : InScope) → IsFit env (node.Make text two_values) types.Pntr → ⊥
made_with_few_refused told env (by_rule r names parts) = too_few told names

-- a body that takes what has no values
void_taken : (levels : List Level) → IsFitBody levels (body (record { ty = types.Void; place = Plain 0 } ∷ []) types.Int (num 1) None at) → ⊥
void_taken levels (of_params opens takes tree valued slots) = valued.0.0

-- A body that declares a name of the scope round it: in such a heap the name could still be nil where the body names it.
abbrev declares_outside : BodyNode
declares_outside = body [] types.Str (node.Block None (more (node.Let (Kept 0 0) types.Str (node.Text (codes "a"))) (more (node.Name (Kept 0 0) types.Str) none))) None at

outside_refused : (levels : List Level) → IsFitBody levels declares_outside → ⊥
outside_refused levels (of_params unscoped takes (block unscoped (a_value isnt declares e rest)) valued slots) = elim declares [ ]
outside_refused levels (of_params unscoped takes (block unscoped (a_clause (by_rule r names parts) rest)) valued slots) = elim r [ ]
outside_refused levels (of_params unscoped takes (by_rule r names parts) valued slots) = elim r [ ]
