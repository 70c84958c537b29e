-- What a crash may leave of the heap of a run, and what a run does as the outside sees it.
use Rattle.std.specs.Prelude.{List, [], map, Some, None}
use Rattle.commit_moments.specs.Steps.{Step}
use Rattle.machine_core.specs.ps_outside.Outside.{Outside}
use Rattle.machine_core.specs.obj_layout.Stored.{Space, without_file}
use Rattle.machine_core.specs.obj_layout.Storing.{unfiled}
use Rattle.machine_core.specs.ps_heap.Ends.{report_of}
use Rattle.machine_core.specs.ps_heap.Events.{Event, Commit, output_of}
use Rattle.machine_core.specs.ps_heap.Held.{StoredHeap}
use Rattle.machine_core.specs.declared.run_end.RunEnd.{RunEnd}
use Rattle.machine_core.specs.Stepped.{end_of}
use Rattle.machine_commits.specs.joint_commit.Saving.{StandsFor}

-- What is kept: what was when the run began, or the heap that it committed last, its procedures compiled.
pub data Kept : Type 0 where
  AtStart : Kept
  Since : (heap : StoredHeap) → Kept

-- Whatever its file, a space is one that a crash could leave when the run began, or stands for the heap that was committed.
abbrev pub kept_in : Outside Space → Space → Kept → Type 0
kept_in start space AtStart = (unfiled start).images start.clock space
kept_in start space (Since heap) = StandsFor space heap

abbrev pub StandsAs : Outside Space → Space → Kept → Type 0
StandsAs start space kept = kept_in start (without_file space) kept

-- and what a read gives is what it gave when the run began, or stands for the heap that was committed
abbrev pub read_in : Outside Space → Space → Kept → Type 0
read_in start space AtStart = (unfiled start).contents space
read_in start space (Since heap) = StandsFor space heap

abbrev pub ReadsAs : Outside Space → Space → Kept → Type 0
ReadsAs start space kept = read_in start (without_file space) kept

-- An event outputs what it does, and a commit keeps its heap.
abbrev pub step_of : Event → Step Kept
step_of (Commit heap counted) = record { output = []; commits = Some (Since heap) }
step_of event = record { output = output_of event; commits = None }

abbrev pub steps_of : List Event → List (Step Kept)
steps_of events = map step_of events

-- the report of an end
abbrev pub reporting : RunEnd → Step Kept
reporting e = record { output = report_of (end_of e); commits = None }
