-- What a body that is called begins with: its frame, and the arguments that its scope keeps.
use Rattle.std.specs.Prelude.{ℕ, pos, Bool, true, false, not, if◌then◌else◌, List, [], ◌∷◌, get_or, Option}
use Rattle.ps_base.specs.TyView.{TyView}
use Rattle.ps_typing.specs.ps_program.declared.place.Place.{Place}
use Rattle.ps_typing.specs.ps_program.declared.place.Place.TheVariants.{Plain, Kept}
use Rattle.ps_typing.specs.ps_program.Node.{Param, BodyNode, body}
use Rattle.ps_typing.specs.Placing.{is_number}
use Rattle.ps_heap.specs.Values.{Value, Num, Nil, Nothing}
use Rattle.ps_meaning.specs.Meaning.{Meaning, Frame, give, ◌>>=◌, set}

-- whether a value of this type stands on the stack of numbers, or on that of references
abbrev pub stands_on : Bool → TyView → Bool
stands_on true ty = is_number ty
stands_on false ty = not (is_number ty)

-- the arguments on one of the two stacks, in their order
unfoldable pub arguments_on : Bool → List Param → List Value → List Value
arguments_on numbers [] args = []
arguments_on numbers (param ∷ params) [] = []
arguments_on numbers (param ∷ params) (arg ∷ args) =
    if stands_on numbers param.ty then arg ∷ arguments_on numbers params args else arguments_on numbers params args

-- The frame of a procedure that is called: its arguments stand in the first locals of each stack, also those that its scope keeps; the other
-- locals hold 0 or nil. Its scope is that of the procedure.
unfoldable pub frame_of_call : BodyNode → Option ℕ → List Value → Frame
frame_of_call (body params gives tree text line) scope args = record {
  nums = λ slot. get_or (arguments_on true params args) slot (Num (pos 0));
  refs = λ slot. get_or (arguments_on false params args) slot Nil;
  scope = scope;
}

-- an argument that the body's scope keeps is copied there
unfoldable pub keep : Place → TyView → Value → Meaning
keep (Plain slot) ty arg = give Nothing
keep (Kept up position) ty arg = set (Kept up position) ty arg

unfoldable pub keep_all : List Param → List Value → Meaning
keep_all [] args = give Nothing
keep_all (param ∷ params) [] = give Nothing
keep_all (param ∷ params) (arg ∷ args) = keep param.place param.ty arg >>= λ u. keep_all params args
