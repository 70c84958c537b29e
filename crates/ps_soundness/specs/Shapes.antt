-- Values of types, over a heap in which procedures have types by the rules.
use Rattle.std.specs.Prelude.{◌≡◌, ℕ, ℤ, true, List, [], ◌∷◌, codes, Option, Some}
use Rattle.ps_meaning.specs.ps_base.TyView.{TyView}
use Rattle.ps_meaning.specs.ps_base.TyView as types
use Rattle.ps_meaning.specs.ps_program.Node.{BodyNode, body}
use Rattle.ps_type_text.specs.Texts.{Field, class_text, IsNamed}
use Rattle.ps_meaning.specs.ps_typing.WellTyped.{Env, Local, IsBody, types_of_params}
use Rattle.ps_heap.specs.Values.{Value}
use Rattle.ps_heap.specs.Held.{Held}
use Rattle.ps_heap.specs.Objects.{Heap, Object, Scope, object_at}
use Rattle.ps_soundness.specs.Running.{BodyRuns}
use Rattle.ps_meaning.specs.Meaning.{Frame, State, Outcome, Value_is, Ends}
pub use Rattle.ps_soundness.specs.Over.{IsPointedAt, at_structure, at_table, is_given, IsVectorAt, IsTypedTable, AreRoots, StayGiven, IsSameSort, Stays, Grows}
use Rattle.ps_soundness.specs.Over as over

-- A name of this type has its value. A name of another type holds a value of it from the beginning on: 0, false or nil.
abbrev pub HasValue : TyView → Value → Type 0
HasValue types.Int v = Unit {0}
HasValue types.Bool v = Unit {0}
HasValue types.Pntr v = Unit {0}
HasValue _ v = is_given v ≡ true

-- the first names of a scope have had their declarations
abbrev pub HaveValues : List Field → List Value → Type 0
HaveValues [] names = Unit {0}
HaveValues (field ∷ fields) (v ∷ vs) = HasValue field.ty v × HaveValues fields vs
HaveValues (field ∷ fields) [] = ⊥

-- names of the types of the first ones of others
abbrev pub IsPrefix : List Field → List Field → Type 0
IsPrefix [] whole = Unit {0}
IsPrefix (field ∷ fields) (other ∷ others) = (field.ty ≡ other.ty) × IsPrefix fields others
IsPrefix (field ∷ fields) [] = ⊥

-- a scope that keeps all of these names, of which the first have had their declarations
pub record IsScopeAt (heap : Heap) (scope : Option ℕ) (whole fields : List Field) : Type 0 where
  pub id : ℕ
  pub scope_is : scope ≡ Some id
  pub parent : Option ℕ
  pub names : List Value
  pub is : object_at heap id ≡ Some (Scope (class_text (codes "scope") whole) parent names)
  pub named : IsNamed (codes "scope") whole
  pub front : IsPrefix fields whole
  pub have : HaveValues fields names

-- The scopes from one outward, innermost first: all the names of each, and those that have had their declarations.
abbrev pub AreScopes : Heap → Option ℕ → List (List Field) → List (List Field) → Type 0
AreScopes heap scope [] [] = Unit {0}
AreScopes heap scope (whole ∷ wholes) (fields ∷ scopes) = (at : IsScopeAt heap scope whole fields) × AreScopes heap at.parent wholes scopes
AreScopes heap scope wholes scopes = ⊥

abbrev pub type_of_body : BodyNode → TyView
type_of_body (body params gives tree scope line) = types.Proc (types_of_params params) gives

-- A procedure of a type: its body is typed inside some names, runs, and its scopes have these names.
pub record IsProcedure (heap : Heap) (ty : TyView) (of : BodyNode) (scope : Option ℕ) : Type 0 where
  pub wholes : List (List Field)
  pub scopes : List (List Field)
  pub typed : IsBody scopes of
  pub runs : BodyRuns wholes of
  pub stand : AreScopes heap scope wholes scopes
  pub ty_is : ty ≡ type_of_body of

-- nothing more is asked than that procedures have types
abbrev pub by_types : over.Asked
by_types = record { procedures = IsProcedure; named = λ ty. Unit {0}; round = λ heap parent. Unit {0}; tabled = λ table. Unit {0} }

-- a value of a type
abbrev pub IsOf : Heap → TyView → Value → Type 0
IsOf = over.IsOf by_types

-- values of the types of fields, each of its own
abbrev pub AreOf : Heap → List Field → List Value → Type 0
AreOf = over.AreOf by_types

-- the fields of a structure, the elements of a vector and the names of a scope are of the types that its text names
abbrev pub IsTypedStructure : Heap → List ℕ → List Value → Type 0
IsTypedStructure = over.IsTypedStructure by_types

abbrev pub IsTypedVector : Heap → List ℕ → ℤ → List Value → Type 0
IsTypedVector = over.IsTypedVector by_types

abbrev pub AreNames : Heap → List Field → List Value → Type 0
AreNames = over.AreNames by_types

abbrev pub IsTypedScope : Heap → List ℕ → Option ℕ → List Value → Type 0
IsTypedScope = over.IsTypedScope by_types

abbrev pub IsTypedObject : Heap → Object → Type 0
IsTypedObject = over.IsTypedObject by_types

-- what a run holds is typed: its heap, and the roots of its databases
abbrev pub IsTypedHeap : Heap → Type 0
IsTypedHeap = over.IsTypedHeap by_types

abbrev pub IsTypedHeld : Held → Type 0
IsTypedHeld = over.IsTypedHeld by_types

-- each local in scope has a value of its type
abbrev pub AreLocals : Heap → Frame → List Local → Type 0
AreLocals = over.AreLocals by_types

-- What a clause of a type returns from a typed state: the heap has grown and is typed, the locals in scope are, and the value is of the type.
pub record IsSound (heap : Heap) (env : Env) (ty : TyView) (v : Value) (frame : Frame) (state : State) : Type 0 where
  pub grows : Grows heap state.store.held.objects
  pub typed : IsTypedHeld state.store.held
  pub locals : AreLocals state.store.held.objects frame env.locals
  pub value : IsOf state.store.held.objects ty v

abbrev pub ComesTo : Heap → Env → TyView → Outcome → Type 0
ComesTo heap env ty (Value_is v frame state) = IsSound heap env ty v frame state
ComesTo heap env ty (Ends e state) = Grows heap state.store.held.objects × IsTypedHeld state.store.held

-- the same where the scopes round the clause have all of these names, of which those in scope have had their declarations
abbrev pub ComesToInside : Heap → List (List Field) → Env → TyView → Outcome → Type 0
ComesToInside heap wholes env ty (Value_is v frame state) =
    IsSound heap env ty v frame state × AreScopes state.store.held.objects frame.scope wholes env.scopes
ComesToInside heap wholes env ty (Ends e state) = Grows heap state.store.held.objects × IsTypedHeld state.store.held
