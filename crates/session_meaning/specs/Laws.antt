-- What is so of what runs show.
use Rattle.std.specs.Prelude.{ℕ, List, [], Result}
use Rattle.ps_outside.specs.Outside.{Outside}
use Rattle.obj_layout.specs.Stored.{Space, without_file}
use Rattle.machine_core.specs.swizzle.declared.fault.SwizzleFault.{SwizzleFault}
use Rattle.ps_heap.specs.Events.{Event}
use Rattle.ps_heap.specs.Held.{StoredHeap}
use Rattle.database_meaning.specs.Same.{IsSame}
use Rattle.machine_core.specs.ps_stepping.Config.{Config}
use Rattle.machine_core.specs.ps_stepping.Machine.{Runs}
use Rattle.machine_core.specs.declared.machine.Machine.{Machine}
use Rattle.machine_core.specs.declared.run_end.RunEnd.{RunEnd}
use Rattle.machine_core.specs.Holding.{Holds}
use Rattle.machine_run.specs.Loaded.{IsLoaded}
use Rattle.database_steps.specs.Databases.{IsAlone}
use Rattle.ps_gen.specs.ps_program.Node.{BodyNode}
use Rattle.ps_gen.specs.Units.{unit_of}
use Rattle.ps_meaning.specs.Runs.{run_events}
use Rattle.space_meaning.specs.Stands.{SpaceStands}
use Rattle.ps_code_laws.specs.Compiled.{compiled_events}
use Rattle.session_run.specs.Ran.{Ran}
use Rattle.session_meaning.specs.Meant.{Stands, AreSeenAs}
use Rattle.unit_meaning.specs.Keeping.{KeepFitHeaps}
use Rattle.unit_meaning.specs.Programs.{given_over, begin_over, RunsAsMeant}
use Rattle.session_meaning.specs.Shows.{BrokeFor, Shows}

-- Where what a crash left at the start and what a read gave stood for a heap, and the configuration runs to events that are these but for ids, compiled, of which each commit keeps a
-- fit heap whose procedures have units, what a run that has had a way of its own shows is these events.
module _ {V : Type 0} (outside : V → Outside Space) (old new : Outside Space) where
  abbrev pub RunsShowWhatIsMeant : Type 0
  RunsShowWhatIsMeant = (owed left : List ℕ) (size : ℕ) (c : Config) (heap : StoredHeap) (total events : List Event) (result : Result RunEnd SwizzleFault)
      → ((space : Space) → old.images old.clock space → Stands space heap) → ((space : Space) → old.contents space → Stands space heap) → Runs (compiled_events total) c [] → KeepFitHeaps total → AreSeenAs total events
      → Ran old new owed left outside size c result → Shows Stands old new owed left heap (BrokeFor outside new size c) events result

  -- Where what the vault held and what a crash left stood for a heap when the unit of a program was loaded, which runs as it means, then what was returned of a run
  -- from there shows the events of the program over that heap: it began over one that is the same but for ids.
  abbrev pub ProgramsShowTheirEvents : Type 0
  ProgramsShowTheirEvents = (turns : ℕ) (input : List ℕ) (program : BodyNode) (owed left : List ℕ) (space : Space) (heap : StoredHeap) (empty m : Machine)
      (result : Result RunEnd SwizzleFault) → old.contents space → SpaceStands (without_file space) heap → ((image : Space) → old.images old.clock image → Stands image heap)
      → RunsAsMeant turns input program → IsLoaded old (unit_of program) turns input empty m
      → ((c : Config) → Holds old m c → IsAlone c.store.held → Ran old new owed left outside m.objects.size c result)
      → (like : StoredHeap) × IsSame heap like
      × Shows Stands old new owed left heap (BrokeFor outside new m.objects.size (begin_over turns input program like)) (run_events (given_over turns input heap) program) result
