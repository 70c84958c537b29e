-- What a call that ran a program over a volume shows and answers.
use Rattle.std.specs.Prelude.{◌≡◌, ℕ, ◌+◌, ◌*◌, ◌<◌, ◌≤◌, List, [], ◌∷◌, ◌++◌, Option, Some, None}
use Rattle.device_runs.specs.session_meaning.session_run.commit_moments.Steps.{Step, broken, output_by}
use Rattle.device_runs.specs.session_meaning.session_run.commit_moments.Shown.{ShowsSince}
use Rattle.ps_meaning.specs.ps_typing.ps_program.Node.{BodyNode}
use Rattle.ps_port.specs.ps_outside.Outside.{Outside, Rose}
use Rattle.ps_args.specs.Words.{RunOf}
use Rattle.ps_volumes.specs.ps_reports.Answering.{Answers}
use Rattle.ps_volumes.specs.ps_reports.Reports.{area_full_line, volume_full_line, damaged_line, device_line}
use Rattle.ps_volumes.specs.Attaching.{HasVolume}
use Rattle.ps_meaning.specs.ps_heap.Ends.{End, status_of}
use Rattle.ps_meaning.specs.ps_heap.Events.{Event, Commit}
use Rattle.ps_meaning.specs.ps_heap.Held.{StoredHeap}
use Rattle.ps_meaning.specs.ps_heap.Weights.{code_weight}
use Rattle.ps_meaning.specs.Runs.{run_events, run_end}
use Rattle.ps_unit_weights.specs.ps_gen.Units.{unit_of}
use Rattle.ps_unit_weights.specs.proc_values.Units.{unit_objects}
use Rattle.device_runs.specs.session_meaning.unit_meaning.Programs.{given_over, begin_over}
use Rattle.device_runs.specs.session_meaning.Meant.{steps_meant}
use Rattle.device_runs.specs.session_meaning.session_run.machine_core.ps_stepping.Config.{Config}
use Rattle.device_runs.specs.session_meaning.session_run.machine_core.ps_stepping.Machine as machine
use Rattle.device_runs.specs.session_meaning.session_run.machine_core.ps_stepping.Machine.{Steps}
use Rattle.device_runs.specs.session_meaning.session_run.machine_core.ps_stepping.Path.{Reaches}
use Rattle.device_runs.specs.session_meaning.session_run.machine_core.Full.{MakesOne, EntersOne}
use Rattle.device_runs.specs.session_meaning.session_run.machine_commits.machine_databases.Calls.{Counts}
use Rattle.machine_run.specs.Loaded.{EndsBefore}
use Rattle.database_meaning.specs.Same.{IsSame}
use Rattle.device_runs.specs.volume_meaning.Stands.{Stands}

-- one more than the words of the area of a run
abbrev pub area_size : RunOf → ℕ
area_size run = 128 * run.area + 1

-- the volume stood for a heap: what a read gave does
pub record StoodFor (old : Outside (List ℕ)) (heap : StoredHeap) : Type 0 where
  pub file : List ℕ
  pub read : old.contents file
  pub stands : Stands file heap

-- what an event commits
abbrev pub commit_of : Event → Option StoredHeap
commit_of (Commit heap counted) = Some heap
commit_of event = None

-- A program that is run over a heap, with this input.
module _ (run : RunOf) (input : List ℕ) (program : BodyNode) (heap : StoredHeap) where
  abbrev pub events_of : List Event
  events_of = run_events (given_over run.turns input heap) program

  -- The object for which the area had no room, by its next word and the words of the object: one of the program's unit, which lie from word 1 on and end within what
  -- the program's code counts; or one that the step makes to which the run came, or a node of the pair that it enters into a table, or one of the error record or of
  -- the table that a call on databases makes; or one that was to be fetched.
  pub data IsWanted (before : List Event) (top wanted : ℕ) : Type 0 where
    of_the_unit : before ≡ [] → EndsBefore (unit_objects 1 (unit_of program)) top wanted → 8 * (top + wanted) ≤ code_weight program → IsWanted before top wanted
    of_a_step : {like : StoredHeap} {events : List Event} {last : Config} {s : machine.Step} → IsSame heap like → Reaches (begin_over run.turns input program like) events last
        → Steps last s → MakesOne s wanted → IsWanted before top wanted
    of_an_entry : {like : StoredHeap} {events : List Event} {last : Config} {s : machine.Step} → IsSame heap like → Reaches (begin_over run.turns input program like) events last
        → Steps last s → EntersOne s wanted → IsWanted before top wanted
    of_a_call : {like : StoredHeap} {events : List Event} {last : Config} {s : machine.Step} → IsSame heap like → Reaches (begin_over run.turns input program like) events last
        → Steps last s → Counts s wanted → IsWanted before top wanted
    of_a_fetch : IsWanted before top wanted

  -- Why a run stopped before an event, with the line and the status of its report.
  pub data Stops (old new : Outside (List ℕ)) (before : List Event) (next : Event) : List ℕ → ℕ → Type 0 where
    of_the_device : Rose old.device_faults new.device_faults → Stops old new before next device_line 6
    of_the_area : {top wanted : ℕ} → area_size run < top + wanted → IsWanted before top wanted → Stops old new before next (area_full_line top wanted (area_size run)) 11
    -- and in a commit
    of_the_volume : {saved : StoredHeap} {counted : ℕ} (used wanted capacity : ℕ) → next ≡ Commit saved counted → capacity < used + wanted
        → Stops old new before next (volume_full_line used wanted capacity) 12
    of_an_object : {saved : StoredHeap} {counted : ℕ} (at found bound : ℕ) → next ≡ Commit saved counted → Stops old new before next (damaged_line at found bound) 10

  -- What it shows, and the status: all its events, and that of its end; or those before one that it stopped at, and then the line of its report, where a commit was
  -- under way with what that was to keep.
  pub data RunsTo (old new : Outside (List ℕ)) : List (Step StoredHeap) → ℕ → Type 0 where
    its_end : RunsTo old new (steps_meant events_of) (status_of (run_end (given_over run.turns input heap) program))
    stopped : {before : List Event} {next : Event} {line : List ℕ} {status : ℕ} (rest : List Event) → events_of ≡ before ++ next ∷ rest → Stops old new before next line status
        → RunsTo old new (steps_meant before ++ broken line (commit_of next) ∷ []) status

  -- From the moment of attaching on at each moment one prefix of these steps was output, and is what a crash leaves, each commit whole or absent; and what they
  -- output is answered with the status.
  pub record ShowsRun (old new : Outside (List ℕ)) (answered : ℕ) : Type 0 where
    pub steps : List (Step StoredHeap)
    pub status : ℕ
    pub comes : RunsTo old new steps status
    pub shown : ShowsSince Stands heap old new steps
    pub answers : Answers old new (output_by steps) status answered

-- Why this is answered, whatever the volume stood for: a program's end; or the device failed, or the output, whose count rose; or an object was damaged, the area was
-- full, or the volume, by these numbers.
pub data IsCaused (old new : Outside (List ℕ)) : ℕ → Type 0 where
  an_end : (e : End) → IsCaused old new (status_of e)
  device : Rose old.device_faults new.device_faults → IsCaused old new 6
  output : Rose old.output_faults new.output_faults → IsCaused old new 8
  damaged : IsCaused old new 10
  area_full : IsCaused old new 11
  volume_full : (used wanted capacity : ℕ) → capacity < used + wanted → IsCaused old new 12

-- Before some moment of the call, that of attaching, a crash leaves what it left at the start, and nothing was output.
pub record AttachesAt (old new : Outside (List ℕ)) : Type 0 where
  pub since : ℕ
  pub from : old.clock ≤ since
  pub until : since ≤ new.clock
  pub before : (m : ℕ) (image : List ℕ) → old.clock ≤ m → m < since → new.images m image → old.images old.clock image
  pub silent : (m : ℕ) (bytes : List ℕ) → old.clock ≤ m → m < since → new.told m bytes → old.told old.clock bytes

-- The program was run: what is shown over each heap for which the volume stood, why this is answered, that a volume was found, and from when on.
pub record Ran (run : RunOf) (input : List ℕ) (program : BodyNode) (old new : Outside (List ℕ)) (answered : ℕ) : Type 0 where
  pub shows : (heap : StoredHeap) → StoodFor old heap → ShowsRun run input program heap old new answered
  pub caused : IsCaused old new answered
  pub found : (bytes : List ℕ) → old.contents bytes → HasVolume bytes
  pub attached : AttachesAt old new
