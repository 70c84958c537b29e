-- Values of types, over a heap in which procedures are fit for the scopes round them.
use Rattle.std.specs.Prelude.{List}
use Rattle.ps_gen.specs.ps_base.TyView.{TyView}
use Rattle.ps_type_text.specs.Texts.{Field}
use Rattle.ps_typing_laws.specs.ps_typing.WellTyped.{Local}
use Rattle.ps_stepping.specs.ps_heap.Values.{Value}
use Rattle.ps_stepping.specs.ps_heap.Objects.{Heap}
use Rattle.ps_stepping.specs.ps_heap.Held.{Held}
use Rattle.ps_stepping.specs.ps_meaning.Meaning.{Frame}
use Rattle.ps_soundness.specs.Over as over
use Rattle.fit_soundness.specs.Levels.{fitting}

-- a value of a type
abbrev pub IsOf : Heap → TyView → Value → Type 0
IsOf = over.IsOf fitting

-- values of the types of fields, each of its own
abbrev pub AreOf : Heap → List Field → List Value → Type 0
AreOf = over.AreOf fitting

-- each local in scope has a value of its type
abbrev pub AreLocals : Heap → Frame → List Local → Type 0
AreLocals = over.AreLocals fitting

-- what a run holds is typed: its heap, and the roots of its databases
abbrev pub IsTypedHeap : Heap → Type 0
IsTypedHeap = over.IsTypedHeap fitting

abbrev pub IsTypedHeld : Held → Type 0
IsTypedHeld = over.IsTypedHeld fitting
