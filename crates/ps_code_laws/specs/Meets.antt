-- What the machine is to do with a body that is called, inside any bodies that wait: what the body means.
use Rattle.std.specs.Prelude.{◌≡◌, Bool, ℕ, ◌+◌, ◌<◌, ◌≤◌, ℤ, List, [], ◌∷◌, ◌++◌, length, Option}
use Rattle.ps_gen.specs.ps_base.TyView.{TyView}
use Rattle.ps_gen.specs.ps_base.TyView as types
use Rattle.ps_gen.specs.ps_base.CodeUnit.{UnitView}
use Rattle.ps_gen.specs.ps_base.declared.instr.Instr.{Instr}
use Rattle.ps_gen.specs.ps_program.Node.{Param, BodyNode, body}
use Rattle.ps_stepping.specs.ps_heap.Values.{Value, word_of}
use Rattle.ps_stepping.specs.ps_heap.Ends.{Done}
use Rattle.ps_stepping.specs.ps_heap.Events.{Event, Finish}
use Rattle.ps_stepping.specs.ps_meaning.Meaning.{Frame, Store, State, Outcome, Value_is, Ends}
use Rattle.ps_stepping.specs.ps_meaning.Frames.{frame_of_call}
use Rattle.ps_stepping.specs.ps_meaning.Calls.{body_meant, context}
use Rattle.ps_stepping.specs.ps_heap.Objects.{Heap}
use Rattle.ps_stepping.specs.ps_heap.Held.{Held, StoredHeap}
use Rattle.ps_soundness.specs.Over.{AreRoots}
use Rattle.heap_fit.specs.Bodies.{Level}
use Rattle.fit_soundness.specs.Levels.{AreLevelsAt}
use Rattle.ps_code_laws.specs.Fitting.{IsOf, IsTypedHeap, IsTypedHeld}
use Rattle.ps_gen.specs.Units.{unit_of}
use Rattle.ps_stepping.specs.Config.{frame_words, Caller, Config, frame_in}
use Rattle.ps_stepping.specs.Machine.{resumed}
use Rattle.ps_stepping.specs.Path.{Reaches, Finishes}
use Rattle.ps_code_laws.specs.Compiled.{compiled, compiled_locals, compiled_store, compiled_events, WeighsUnits}
use Rattle.ps_code_laws.specs.Literals.{ValuesAre, HeapIs, Fits, FitsBy}

-- what a value of a type leaves on each stack: an int or a bool a number, a clause of type void nothing, any other a reference, compiled
abbrev pub nums_left : TyView → Value → List ℤ
nums_left types.Int v = word_of v ∷ []
nums_left types.Bool v = word_of v ∷ []
nums_left _ v = []

abbrev pub refs_left : TyView → Value → List Value
refs_left types.Int v = []
refs_left types.Bool v = []
refs_left types.Void v = []
refs_left _ v = compiled v ∷ []

-- The machine in a body of this unit: it holds what the frame and the store hold, compiled. What is on its stacks is compiled already.
abbrev pub standing : UnitView → List Caller → ℕ → List ℤ → List Value → Frame → Store → Config
standing of callers at nums refs frame store = record {
  unit = of;
  at = at;
  nums = nums;
  refs = refs;
  locals = compiled_locals frame;
  scope = frame.scope;
  callers = callers;
  store = compiled_store store;
}

-- Where a body has a value: the run ends where no body waits, and else the last body that waits goes on, with the value on its
-- stacks.
abbrev pub ComesBack : Config → List Event → List Caller → TyView → Value → Store → Type 0
ComesBack c events [] gives v store = Finishes c (compiled_events events ++ Finish Done store.held.counted ∷ [])
ComesBack c events (caller ∷ callers) gives v store =
    Reaches c (compiled_events events)
    (resumed caller (nums_left gives v ++ caller.nums) (refs_left gives v ++ caller.refs) callers (compiled_store store))

-- The machine goes on from here, where these events have been, with those that happen after them: back with the value, or to
-- the end.
abbrev pub Follows : Config → List Event → List Caller → TyView → Outcome → Type 0
Follows c so_far callers gives (Value_is v frame state) =
    (events : List Event) × (state.events ≡ so_far ++ events) × ComesBack c events callers gives v state.store
Follows c so_far callers gives (Ends e state) =
    (events : List Event) × (state.events ≡ so_far ++ events)
    × Finishes c (compiled_events events ++ Finish e state.store.held.counted ∷ [])

abbrev pub gives_of : BodyNode → TyView
gives_of (body params gives tree scope line) = gives

abbrev pub params_of : BodyNode → List Param
params_of (body params gives tree scope line) = params

-- values of these parameters' types
abbrev pub AreHanded : Heap → List Param → List Value → Type 0
AreHanded heap [] [] = Unit {0}
AreHanded heap (param ∷ params) (v ∷ vs) = IsOf heap param.ty v × AreHanded heap params vs
AreHanded heap params vs = ⊥

-- the last body that waits has room on each stack for what comes back to it
abbrev pub HasRoom : List Caller → Type 0
HasRoom [] = Unit {0}
HasRoom (caller ∷ callers) =
    ((frame_in caller.unit).nums + length caller.nums < frame_words) × ((frame_in caller.unit).refs + length caller.refs < frame_words)

-- what a heap that is kept holds is typed, with the roots of its databases, and each procedure in it fits
pub record IsFittingHeap (may : Instr → Bool) (stored : StoredHeap) : Type 0 where
  pub typed : IsTypedHeap stored.objects
  pub roots : AreRoots stored.objects stored.directory
  pub fit : HeapIs (FitsBy may) stored.objects

-- what a run holds is typed, each procedure in it fits, and code weighs what its unit does
pub record IsFitting (held : Held) : Type 0 where
  pub typed : IsTypedHeld held
  pub fit : HeapIs Fits held.objects
  pub weighs : WeighsUnits held.weigh

-- From its first instruction a body that is called does what it means: its scope is made, the arguments that it keeps are copied there, and its clause
-- runs. It does so whatever waits that has room, whatever has been, where at most so many turns are left, what is held is typed, the scope that the
-- body was made in and those round it are these, in which what was declared has its value, it is handed values of its parameters' types, and each
-- procedure that it may call fits.
pub record Meets (n : ℕ) (levels : List Level) (of : BodyNode) : Type 0 where
  pub follows : (callers : List Caller) (scope : Option ℕ) (args : List Value) (state : State) → state.store.turns ≤ n → HasRoom callers →
      IsFitting state.store.held → AreLevelsAt state.store.held.objects scope levels → AreHanded state.store.held.objects (params_of of) args →
      ValuesAre Fits args →
      Follows (standing (unit_of of) callers 0 [] [] (frame_of_call of scope args) state.store) state.events callers (gives_of of)
      (body_meant (context n (length callers)) of args (frame_of_call of scope args) state)
