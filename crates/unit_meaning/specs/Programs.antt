-- What a run of a program over a store is given, and when its unit does what the program means.
use Rattle.std.specs.Prelude.{ℕ, List, []}
use Rattle.ps_gen.specs.ps_program.Node.{BodyNode}
use Rattle.ps_gen.specs.Units.{unit_of}
use Rattle.ps_heap.specs.Events.{Event}
use Rattle.ps_heap.specs.Held.{StoredHeap}
use Rattle.ps_heap.specs.Weights.{code_weight}
use Rattle.ps_meaning.specs.Runs.{Given, fresh_store, events_with}
use Rattle.ps_code_laws.specs.Compiled.{compiled_events, compiled_store}
use Rattle.ps_unit_weights.specs.Weights.{weight_as_unit}
use Rattle.joint_begun.specs.joint_held.joint_ops.obj_layout.Stored.{Space}
use Rattle.ps_stepping.specs.Config.{Config, start}
use Rattle.ps_stepping.specs.Machine.{Runs}
use Rattle.joint_begun.specs.Beginning.{IsCompact}
use Rattle.space_meaning.specs.Stands.{SpaceStands}
use Rattle.unit_meaning.specs.Keeping.{KeepFitHeaps}

-- so many turns, this input, and a heap; no other session replies to it
abbrev pub given_over : ℕ → List ℕ → StoredHeap → Given
given_over turns input heap = record { turns = turns; input = input; heap = heap; replies = [] }

module _ (turns : ℕ) (input : List ℕ) (program : BodyNode) where
  -- the events of the program over a heap, where a procedure weighs what its unit does
  abbrev pub unit_events : StoredHeap → List Event
  unit_events heap = events_with weight_as_unit (given_over turns input heap) program

  -- where its unit begins, over a heap whose procedures are units
  abbrev pub begin_over : StoredHeap → Config
  begin_over heap = start (unit_of program) (compiled_store (fresh_store weight_as_unit (given_over turns input heap) (code_weight program)))

  -- Over each heap of reached objects for which some space stands the unit runs to these events, compiled, and each commit among them keeps a fit heap whose
  -- procedures have units.
  pub record RunsAsMeant : Type 0 where
    pub runs : (space : Space) (heap : StoredHeap) → SpaceStands space heap → IsCompact heap → Runs (compiled_events (unit_events heap)) (begin_over heap) []
    pub keeps : (space : Space) (heap : StoredHeap) → SpaceStands space heap → IsCompact heap → KeepFitHeaps (unit_events heap)
