-- The slots of a body on each stack, and how many locals each stack has.
use Rattle.std.specs.Prelude.{ℕ, ◌+◌, ◌<◌, ◌≤◌, Bool, true, false, List, [], ◌∷◌, ◌++◌, if◌then◌else◌}
use Rattle.ps_typing.specs.ps_base.TyView.{TyView}
use Rattle.ps_typing.specs.ps_base.TyView as types
use Rattle.ps_typing.specs.ps_base.declared.line.Line.{Line}
use Rattle.ps_typing.specs.ps_program.declared.place.Place.{Place}
use Rattle.ps_typing.specs.ps_program.declared.place.Place.TheVariants.{Plain, Kept}
use Rattle.ps_typing.specs.ps_program.Node.{Param, Node, BodyNode, body}
use Rattle.ps_typing.specs.ps_program.Node as node
use Rattle.ps_typing.specs.ps_program.Parts.{Part, operand, label, branch, literal, fold}
use Rattle.ps_typing.specs.ps_program.Slots.{sum_of, depth, slot_count}
use Rattle.ps_typing.specs.Placing.{is_number}
use Rattle.ps_typing.specs.Locals.{locals_on}
use Rattle.ps_typing.specs.Program.{line_of_body}

-- each item is such
abbrev pub Each : {A : Type 0} → (A → Type 0) → List A → Type 0
Each Is [] = Unit {0}
Each Is (first ∷ rest) = Is first × Each Is rest

-- a slot on the number stack, or on the reference stack
pub record Slot : Type 0 where
  pub is_number : Bool
  pub slot : ℕ

abbrev pub on : Bool → ℕ → Slot
on is_number slot = record { is_number = is_number; slot = slot }

abbrev pub three_on : Bool → ℕ → List Slot
three_on is_number slot = on is_number slot ∷ on is_number (slot + 1) ∷ on is_number (slot + 2) ∷ []

-- the slot that a place is: none where the name is kept
abbrev pub slot_of : TyView → Place → List Slot
slot_of ty (Plain slot) = on (is_number ty) slot ∷ []
slot_of ty (Kept up position) = []

-- the slots that a clause names by itself, and those of all that is in it; of a literal nothing is counted
abbrev pub own_slots : Node → List Slot
own_slots (node.Name place ty) = slot_of ty place
own_slots (node.SetName place ty e) = slot_of ty place
own_slots (node.Let place ty e) = slot_of ty place
own_slots (node.For slot a b c scope control s line) = three_on true slot ++ slot_of types.Int control
own_slots (node.Scan text a f q s line) = three_on false q ++ three_on true s
own_slots _ = []

abbrev pub slots_of_parts : List (Part (List Slot)) → List Slot
slots_of_parts [] = []
slots_of_parts (operand slots ∷ rest) = slots ++ slots_of_parts rest
slots_of_parts (label slots ∷ rest) = slots ++ slots_of_parts rest
slots_of_parts (branch slots ∷ rest) = slots ++ slots_of_parts rest
slots_of_parts (literal slots ∷ rest) = slots_of_parts rest

abbrev pub slots_in : Node → List Slot
slots_in = fold (λ clause parts. own_slots clause ++ slots_of_parts parts)

abbrev pub slots_of_params : List Param → List Slot
slots_of_params [] = []
slots_of_params (param ∷ rest) = slot_of param.ty param.place ++ slots_of_params rest

abbrev pub slots_of_body : BodyNode → List Slot
slots_of_body (body params gives tree scope line) = slots_of_params params ++ slots_in tree

abbrev pub depth_of_body : BodyNode → ℕ
depth_of_body (body params gives tree scope line) = depth tree

-- Each slot of a body is that of one of its locals, and its slot count has room for the locals of both stacks, and for the
-- clause above them.
pub record IsCounted (of : BodyNode) : Type 0 where
  pub slots : Each (λ (s : Slot). s.slot < locals_on s.is_number of) (slots_of_body of)
  pub room : locals_on true of + locals_on false of + depth_of_body of ≤ slot_count of

-- what the test of slot counts reads of a body
abbrev pub measure : BodyNode → Line × ℕ
measure of = (line_of_body of, slot_count of)
