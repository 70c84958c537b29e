-- How many locals a body has on each stack.
use Rattle.std.specs.Prelude.{ℕ, ◌+◌, Bool, true, false, List, [], ◌∷◌, if◌then◌else◌}
use Rattle.ps_tree.specs.ps_base.TyView.{TyView}
use Rattle.ps_tree.specs.ps_base.TyView as types
use Rattle.ps_program.specs.declared.place.Place.{Place}
use Rattle.ps_program.specs.declared.place.Place.TheVariants.{Plain, Kept}
use Rattle.ps_program.specs.Node.{Param, Node, BodyNode, body}
use Rattle.ps_program.specs.Node as node
use Rattle.ps_program.specs.Parts.{fold}
use Rattle.ps_program.specs.Slots.{sum_of}
use Rattle.ps_typing.specs.Placing.{is_number}

-- how many locals of this stack a name of this type takes that is declared at this place
abbrev pub one_on : Bool → TyView → ℕ
one_on true ty = if is_number ty then 1 else 0
one_on false ty = if is_number ty then 0 else 1

abbrev pub taken_on : Bool → TyView → Place → ℕ
taken_on stack ty (Plain slot) = one_on stack ty
taken_on stack ty (Kept up position) = 0

-- how many locals of this stack a clause takes by itself, and with all that is in it
abbrev pub own_taken : Bool → Node → ℕ
own_taken stack (node.Let place ty e) = taken_on stack ty place
own_taken stack (node.For slot a b c scope control s line) = (if stack then 3 else 0) + taken_on stack types.Int control
own_taken stack (node.Scan text a f q s line) = 3
own_taken _ _ = 0

abbrev pub taken_in : Bool → Node → ℕ
taken_in stack = fold (λ clause parts. own_taken stack clause + sum_of parts)

-- each parameter takes a local, kept or not
abbrev pub taken_by_params : Bool → List Param → ℕ
taken_by_params stack [] = 0
taken_by_params stack (param ∷ rest) = one_on stack param.ty + taken_by_params stack rest

-- the locals that a body has on this stack
abbrev pub locals_on : Bool → BodyNode → ℕ
locals_on stack (body params gives tree scope line) = taken_by_params stack params + taken_in stack tree
