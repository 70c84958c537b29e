-- What a name stands for: a value that isn't a number, or a scope. Structures, tables, vectors and scopes have a name here and a number there, and a
-- pairing says which name goes with which number. A text is a value, and its object stands for its bytes; so is a procedure, whose object stands for
-- its unit of code and the scope that it was made in.
use Rattle.std.specs.Prelude.{◌≡◌, ◌⊎◌, ℕ, [], ◌∷◌, Option, Some, None}
use Rattle.proc_values.specs.ps_base.CodeUnit.{UnitView}
use Rattle.proc_values.specs.obj_layout.declared.kind.Kind.{Kind}
use Rattle.proc_values.specs.obj_layout.declared.kind.Kind.TheVariants as kind
use Rattle.proc_values.specs.obj_layout.declared.reference.Reference as reference
use Rattle.proc_values.specs.obj_layout.declared.reference.Reference.TheVariants as name
use Rattle.proc_values.specs.swizzle.Joint.{Shown}
use Rattle.heap_ops.specs.heap_places.Shapes.{IsText}
use Rattle.proc_values.specs.Loaded.{IsFitUnit}
use Rattle.proc_values.specs.ps_heap.Values.{Value, Text, Nil, Pointer, Vector, Procedure, as_compiled}
use Rattle.heap_meaning.specs.Units.{IsUnitSeen}

-- what is seen: which object a name has
abbrev pub Seen : Type 1
Seen = reference.Reference → Shown → Type 0

-- which name goes with which number
abbrev pub Pairing : Type 1
Pairing = reference.Reference → ℕ → Type 0

-- what is seen under a name is of this kind
pub record IsKindOf (seen : Seen) (n : reference.Reference) (of : Kind) : Type 0 where
  pub it : Shown
  pub there : seen n it
  pub kind_is : it.kind ≡ of

-- what is seen under a name is a structure or a table
abbrev pub IsPointed : Seen → reference.Reference → Type 0
IsPointed seen n = IsKindOf seen n kind.Structure ⊎ IsKindOf seen n kind.Table

-- a name stands for a scope, or nil for none
abbrev pub StandsForScope : Seen → Pairing → reference.Reference → Option ℕ → Type 0
StandsForScope seen pair n None = n ≡ name.Nil
StandsForScope seen pair n (Some id) = pair n id × IsKindOf seen n kind.Scope

-- What is seen of a closure: it refers to the code object of its unit, whose numbers fit their places, and to its scope.
pub record IsClosure (seen : Seen) (pair : Pairing) (it : Shown) (of : UnitView) (scope : Option ℕ) : Type 0 where
  pub kind_is : it.kind ≡ kind.Closure
  pub code_name : reference.Reference
  pub scope_name : reference.Reference
  pub home : ℕ
  pub refs : it.refs ≡ code_name ∷ scope_name ∷ []
  pub nums : it.nums ≡ home ∷ []
  pub is_unit : IsUnitSeen seen code_name of
  pub fit : IsFitUnit of
  pub is_scope : StandsForScope seen pair scope_name scope

-- a name is that of such a closure
pub record StandsForProcedure (seen : Seen) (pair : Pairing) (n : reference.Reference) (of : UnitView) (scope : Option ℕ) : Type 0 where
  pub it : Shown
  pub there : seen n it
  pub is : IsClosure seen pair it of scope

-- A name stands for a value that isn't a number: nil for nil, a text's for its bytes, a structure's, a table's or a vector's for the number that
-- goes with it, a closure's for the procedure of its unit and its scope. A value of type pntr names a structure or a table. Nothing stands for a
-- procedure as it is written.
abbrev pub StandsFor : Seen → Pairing → reference.Reference → Value → Type 0
StandsFor seen pair n Nil = n ≡ name.Nil
StandsFor seen pair n (Text bytes) = IsText seen n bytes
StandsFor seen pair n (Pointer id) = pair n id × IsPointed seen n
StandsFor seen pair n (Vector id) = pair n id × IsKindOf seen n kind.Vector
StandsFor seen pair n (Procedure (as_compiled of) scope) = StandsForProcedure seen pair n of scope
StandsFor seen pair n _ = ⊥
