-- What each step of a command returns, where the steps before it went well.
use Rattle.std.specs.Prelude.{◌≡◌, ◌⊎◌, ℕ, ◌≤◌, List, [], ◌∷◌, ◌++◌, Option, Some, Result, Ok, Err}
use Rattle.device_runs.specs.session_meaning.session_run.commit_moments.Steps.{StandsForSome, heap_after, broken, output_by}
use Rattle.device_runs.specs.session_meaning.session_run.commit_moments.Shown.{ShowsSince}
use Rattle.ps_meaning.specs.ps_base.declared.line.Line.{Line}
use Rattle.ps_meaning.specs.ps_typing.ps_program.Node.{BodyNode}
use Rattle.ps_port.specs.ps_outside.Outside.{Outside, Adds, Rose}
use Rattle.ps_args.specs.Words.{RunOf, CommandOf, a_run}
use Rattle.ps_meaning.specs.ps_heap.Events.{Event}
use Rattle.ps_meaning.specs.ps_heap.Held.{StoredHeap}
use Rattle.ps_volumes.specs.ps_reports.declared.status.Status.{Status}
use Rattle.ps_volumes.specs.ps_reports.declared.status.Status.TheVariants.{Output}
use Rattle.ps_volumes.specs.ps_reports.declared.report.Report.{Report}
use Rattle.ps_volumes.specs.ps_reports.declared.report.Report.TheVariants.{NoMemory}
use Rattle.ps_volumes.specs.ps_reports.Answering.{EndsIn}
use Rattle.ps_volumes.specs.ps_reports.Reporting.{line_of, status_of}
use Rattle.ps_volumes.specs.ps_reports.Statuses.{number_of}
use Rattle.ps_volumes.specs.ps_reports.Reports.{memory_line, fault_line}
use Rattle.ps_volumes.specs.Attaching.{HasVolume, IsUnattached}
use Rattle.ps_meaning.specs.Runs.{run_end}
use Rattle.ps_meaning.specs.ps_heap.Ends.{status_of as status_of_end}
use Rattle.device_runs.specs.session_meaning.unit_meaning.Programs.{given_over}
use Rattle.device_runs.specs.session_meaning.Meant.{steps_meant}
use Rattle.device_runs.specs.volume_meaning.Stands.{Stands}
use Rattle.device_runs.specs.Concluded.{ShowsAll}
use Rattle.ps_causes.specs.Source.{IsSourceFault}
use Rattle.ps_causes.specs.Runs.{AttachesAt, IsCaused, StoodFor, Stops, commit_of, events_of}
use Rattle.ps_causes.specs.Command.{Due, GivesInput, GivesProgram, IsUnread, LeavesAsAsked}

-- no text of this name is read, or there was no memory for it
pub data UnreadWhy (holds : List ℕ → Type 0) (lacks may_fail failed : Type 0) (name : List ℕ) : List ℕ → ℕ → Type 0 where
  unread : {bytes : List ℕ} {status : ℕ} → IsUnread holds lacks may_fail failed name bytes status → UnreadWhy holds lacks may_fail failed name bytes status
  no_memory : UnreadWhy holds lacks may_fail failed name memory_line 5

-- the text is no program, or there was no memory to see whether it is
pub data RefusalWhy (file text : List ℕ) : List ℕ → ℕ → Type 0 where
  fault : {stage : List ℕ} {number : ℕ} {line : Line} → IsSourceFault text stage number line → RefusalWhy file text (fault_line file stage number line) 2
  no_memory : RefusalWhy file text memory_line 5

module _ (run : RunOf) (input : List ℕ) (program : BodyNode) (heap : StoredHeap) (old new : Outside (List ℕ)) where
  -- These events are shown, all that they output was output, and the report of why the run stopped before the next one isn't output yet. Whatever line is output, it
  -- comes after them, and a crash leaves the heap that is kept then, or the one of the next event.
  pub record StopsAt (before : List Event) (next : Event) (report : Report) : Type 0 where
    pub stops : Stops run input program heap old new before next (line_of report) (number_of (status_of report))
    pub shown : (line : List ℕ) → ShowsSince Stands heap old new (steps_meant before ++ broken line (commit_of next) ∷ [])
    pub told : (bytes : List ℕ) → new.told new.clock bytes → Adds (old.told old.clock) (output_by (steps_meant before)) bytes
    pub calm : new.output_faults ≡ old.output_faults
    pub leaves : (image : List ℕ) → new.images new.clock image → Stands image (heap_after heap (steps_meant before)) ⊎ StandsForSome Stands image (commit_of next)

  -- How a run came to this end, but for its report.
  pub data ComesTo : Result Status Report → Type 0 where
    its_end : {status : Status} → number_of status ≡ status_of_end (run_end (given_over run.turns input heap) program) → ShowsAll old new heap (steps_meant (events_of run input program heap))
        → ComesTo (Ok status)
    failed : Rose old.output_faults new.output_faults → old.output_faults ≤ new.output_faults → ShowsSince Stands heap old new (steps_meant (events_of run input program heap)) → ComesTo (Ok Output)
    stopped : {before : List Event} {next : Event} {report : Report} (rest : List Event) → events_of run input program heap ≡ before ++ next ∷ rest → StopsAt before next report → ComesTo (Err report)

-- Why it ends so, whatever the volume stood for.
abbrev pub CausedBy : Outside (List ℕ) → Outside (List ℕ) → Result Status Report → Type 0
CausedBy old new (Ok status) = IsCaused old new (number_of status)
CausedBy old new (Err report) = IsCaused old new (number_of (status_of report))

-- A program was run, but for the report of its end.
pub record RanTo (run : RunOf) (input : List ℕ) (program : BodyNode) (old new : Outside (List ℕ)) (end : Result Status Report) : Type 0 where
  pub comes : (heap : StoredHeap) → StoodFor old heap → ComesTo run input program heap old new end
  pub caused : CausedBy old new end
  pub counts : old.output_faults ≤ new.output_faults
  pub found : (bytes : List ℕ) → old.contents bytes → HasVolume bytes
  pub attached : AttachesAt old new

-- It ran over a volume; or there was no memory, and nothing was done; or there was no volume.
pub data ProgramWhy {H : Type 0} (outside : H → Outside (List ℕ)) (old new : H) (run : RunOf) (input : List ℕ) (program : BodyNode) : Result Status Report → Type 0 where
  ran : {end : Result Status Report} → RanTo run input program (outside old) (outside new) end → ProgramWhy outside old new run input program end
  no_memory : new ≡ old → ProgramWhy outside old new run input program (Err NoMemory)
  no_volume : {report : Report} → IsUnattached (outside old) (outside new) report → ProgramWhy outside old new run input program (Err report)

-- Something is due, the device is left as the command leaves it, and a command that is carried out ends in this status or report; or a program was run, to that.
pub data WhyEnds (old new : Outside (List ℕ)) (asked : Option CommandOf) (holds : List ℕ → List ℕ → Type 0) (lacks may_fail : List ℕ → Type 0) (failed : Type 0) (end : Result Status Report) : Type 0 where
  by_words : {bytes : List ℕ} {status : ℕ} → Due asked holds lacks may_fail failed old new bytes status → EndsIn old new bytes status end → LeavesAsAsked asked old new →
      WhyEnds old new asked holds lacks may_fail failed end
  by_run : {run : RunOf} {program : BodyNode} {input : List ℕ} → asked ≡ Some (a_run run) → GivesProgram holds lacks run program → GivesInput holds lacks run.input input →
      RanTo run input program old new end → WhyEnds old new asked holds lacks may_fail failed end
