-- What a run holds of fit bodies: the scopes round a clause, in which what was declared holds its value, and procedures whose bodies are fit for such scopes.
use Rattle.std.specs.Prelude.{◌≡◌, ◌≢◌, ℕ, Bool, true, List, [], ◌∷◌, ◌++◌, Option, Some, None, codes}
use Rattle.std.specs.List.{AllByRecursion}
use Rattle.ps_heap.specs.ps_base.TyView.{TyView}
use Rattle.ps_soundness.specs.ps_program.Node.{Node, BodyNode}
use Rattle.ps_soundness.specs.ps_program.Parts.{fold}
use Rattle.ps_soundness.specs.ps_type_text.Texts.{Field, class_text, IsNamed}
use Rattle.ps_soundness.specs.ps_typing.Placing.{is_number}
use Rattle.ps_soundness.specs.ps_typing.WellTyped.{Local}
use Rattle.ps_heap.specs.Values.{Value}
use Rattle.ps_heap.specs.Tables.{IsInKeyOrder}
use Rattle.ps_heap.specs.Objects.{Heap, Scope, object_at, value_at}
use Rattle.ps_soundness.specs.ps_meaning.Meaning.{Frame, State, Outcome, Value_is, Ends}
use Rattle.ps_soundness.specs.Over.{Asked, IsOf, IsTypedHeld, AreLocals, AreTypedCommits, Grows}
use Rattle.ps_soundness.specs.Shapes.{HasValue, type_of_body}
use Rattle.ps_soundness.specs.ps_typing.Checking.{isnt_void}
use Rattle.heap_fit.specs.Heaps.{AreRound}
use Rattle.heap_fit.specs.Slots.{own_slots, joined}
use Rattle.heap_fit.specs.Bodies.{Level, InScope, HasDeclared, AreApart, IsFitBody}

-- a scope with these names, of which each that was declared has its value
pub record IsLevelAt (heap : Heap) (scope : Option ℕ) (level : Level) : Type 0 where
  pub id : ℕ
  pub scope_is : scope ≡ Some id
  pub parent : Option ℕ
  pub names : List Value
  pub is : object_at heap id ≡ Some (Scope (class_text (codes "scope") level.names) parent names)
  pub named : IsNamed (codes "scope") level.names
  pub have : (position : ℕ) (ty : TyView) → HasDeclared position ty level → HasValue ty (value_at names position)

-- the scopes from one outward to the last, innermost first
abbrev pub AreLevelsAt : Heap → Option ℕ → List Level → Type 0
AreLevelsAt heap scope [] = scope ≡ None
AreLevelsAt heap scope (level ∷ levels) = (at : IsLevelAt heap scope level) × AreLevelsAt heap at.parent levels

-- a procedure of a type: its body is fit for the scopes round it
pub record IsProcedure (heap : Heap) (ty : TyView) (of : BodyNode) (scope : Option ℕ) : Type 0 where
  pub levels : List Level
  pub fit : IsFitBody levels of
  pub stand : AreLevelsAt heap scope levels
  pub ty_is : ty ≡ type_of_body of

-- What a run over fit things asks: such procedures, names that aren't void, scopes whose parents come to an end, and tables in key order.
abbrev pub fitting : Asked
fitting = record { procedures = IsProcedure; named = λ ty. isnt_void ty ≡ true; round = λ heap parent. (scopes : List (List Field)) × AreRound heap parent scopes; tabled = IsInKeyOrder }

-- On each stack the slots of a clause are apart, and none is that of a name in scope.
abbrev pub clause_slots : Bool → Node → List ℕ
clause_slots numbers = fold (λ clause parts. own_slots numbers clause ++ joined parts)

abbrev pub AreFreeOf : List Local → (Bool → List ℕ) → Type 0
AreFreeOf [] taken = Unit {0}
AreFreeOf (local ∷ locals) taken = AllByRecursion (λ slot. slot ≢ local.slot) (taken (is_number local.ty)) × AreFreeOf locals taken

pub record HasRoom (locals : List Local) (taken : Bool → List ℕ) : Type 0 where
  pub apart : (numbers : Bool) → AreApart (taken numbers)
  pub free : AreFreeOf locals taken

-- What a clause of a type returns from a state that is fit for it: the heap has grown and is fit, the locals in scope have values of their types, what was
-- declared still is, the value is of the type, and each commit saved what is fit.
pub record IsFitResult (before : State) (env : InScope) (ty : TyView) (v : Value) (frame : Frame) (state : State) : Type 0 where
  pub grows : Grows before.store.held.objects state.store.held.objects
  pub held : IsTypedHeld fitting state.store.held
  pub locals : AreLocals fitting state.store.held.objects frame env.locals
  pub levels : AreLevelsAt state.store.held.objects frame.scope env.levels
  pub value : IsOf fitting state.store.held.objects ty v
  pub commits : AreTypedCommits fitting before.events → AreTypedCommits fitting state.events

abbrev pub ComesToFit : State → InScope → TyView → Outcome → Type 0
ComesToFit before env ty (Value_is v frame state) = IsFitResult before env ty v frame state
ComesToFit before env ty (Ends e state) =
    Grows before.store.held.objects state.store.held.objects × IsTypedHeld fitting state.store.held
    × (AreTypedCommits fitting before.events → AreTypedCommits fitting state.events)
