-- What a command answers, and why.
use Rattle.std.specs.Prelude.{◌≡◌, ℕ, ◌<◌, ◌≤◌, List, [], ◌∷◌, ◌++◌, length, Option, Some, None, option_and_then, Result}
use Rattle.ps_meaning.specs.ps_base.Limits.{most_text_bytes as LONGEST_TEXT}
use Rattle.ps_meaning.specs.ps_base.declared.line.Line.{Line}
use Rattle.ps_meaning.specs.ps_typing.ps_program.Node.{BodyNode}
use Rattle.ps_port.specs.ps_outside.Outside.{Outside, Leaves, Rose}
use Rattle.ps_port.specs.Telling.{LeavesDevice}
use Rattle.ps_port.specs.Texts.{IsTextOf}
use Rattle.ps_volumes.specs.paged_volume.Making.{IsMaking}
use Rattle.ps_volumes.specs.paged_volume.Opening.{ShutsAt}
use Rattle.ps_volumes.specs.volume_parts.declared.open_fault.OpenFault.{OpenFault}
use Rattle.ps_args.specs.Words.{RunOf, CommandOf, a_run, a_text, a_volume}
use Rattle.ps_volumes.specs.ps_reports.Reports.{usage_line, memory_line, unreadable_line, too_long_line, fault_line, device_line}
use Rattle.ps_volumes.specs.ps_reports.declared.status.Status.{Status}
use Rattle.ps_volumes.specs.ps_reports.declared.report.Report.{Report}
use Rattle.ps_volumes.specs.ps_reports.Answering.{Answers, EndsIn}
use Rattle.ps_volumes.specs.Attaching.{Keeps, KeepsHeld, IsWhyNone, line_of, status_of as status_of_cause}
use Rattle.ps_volumes.specs.Making.{IsMakingDue}
use Rattle.ps_causes.specs.Source.{IsProgram, IsSourceFault}
use Rattle.ps_causes.specs.Runs.{Ran}

-- Of one name: the shelf has a text of it, each one that it tells of is this one, and it isn't too long.
pub record Gives (holds : List ℕ → Type 0) (lacks : Type 0) (text : List ℕ) : Type 0 where
  pub there : ¬ lacks
  pub given : IsTextOf holds text
  pub short : length text ≤ LONGEST_TEXT

-- the same of a text that is too long, and has this size
pub record GivesTooLong (holds : List ℕ → Type 0) (lacks : Type 0) (size : ℕ) : Type 0 where
  pub there : ¬ lacks
  pub given : (text : List ℕ) → holds text → size ≡ length text
  pub long : LONGEST_TEXT < size

-- the input of a run: what the shelf gives under its name, and nothing where it has none
abbrev pub GivesInput : (List ℕ → List ℕ → Type 0) → (List ℕ → Type 0) → Option (List ℕ) → List ℕ → Type 0
GivesInput holds lacks None input = input ≡ []
GivesInput holds lacks (Some name) input = Gives (holds name) (lacks name) input

-- it holds this text under that name, and it isn't too long
abbrev pub HoldsInput : (List ℕ → List ℕ → Type 0) → Option (List ℕ) → List ℕ → Type 0
HoldsInput holds None input = input ≡ []
HoldsInput holds (Some name) input = holds name input × (length input ≤ LONGEST_TEXT)

-- the shelf gives the text of a run, and it is this program
pub record GivesProgram (holds : List ℕ → List ℕ → Type 0) (lacks : List ℕ → Type 0) (run : RunOf) (program : BodyNode) : Type 0 where
  pub text : List ℕ
  pub gives : Gives (holds run.file) (lacks run.file) text
  pub is : IsProgram text program

-- Why no text of this name is read: it couldn't be, and the shelf's faults rose in this call; or it is too long.
pub data IsUnread (holds : List ℕ → Type 0) (lacks may_fail failed : Type 0) (name : List ℕ) : List ℕ → ℕ → Type 0 where
  unreadable : may_fail → failed → IsUnread holds lacks may_fail failed name (unreadable_line name) 7
  too_long : {size : ℕ} → GivesTooLong holds lacks size → IsUnread holds lacks may_fail failed name (too_long_line name size) 13

-- Why a run isn't begun: what is due then, and the status.
pub data Unready (run : RunOf) (holds : List ℕ → List ℕ → Type 0) (lacks may_fail : List ℕ → Type 0) (failed : Type 0) : List ℕ → ℕ → Type 0 where
  -- its text isn't read
  no_text : {bytes : List ℕ} {status : ℕ} → IsUnread (holds run.file) (lacks run.file) (may_fail run.file) failed run.file bytes status →
      Unready run holds lacks may_fail failed bytes status
  -- the text is no program: its first fault
  refused : {text stage : List ℕ} {number : ℕ} {line : Line} → Gives (holds run.file) (lacks run.file) text → IsSourceFault text stage number line →
      Unready run holds lacks may_fail failed (fault_line run.file stage number line) 2
  -- the text is a program, and its input isn't read
  no_input : {program : BodyNode} {name bytes : List ℕ} {status : ℕ} → GivesProgram holds lacks run program → run.input ≡ Some name →
      IsUnread (holds name) (lacks name) (may_fail name) failed name bytes status → Unready run holds lacks may_fail failed bytes status
  -- there was no memory
  no_memory : Unready run holds lacks may_fail failed memory_line 5

-- what the program carries out of what words ask for: a run of more than one text isn't carried out yet, as if the words were no command
abbrev pub run_done : RunOf → List (List ℕ) → Option CommandOf
run_done run [] = Some (a_run run)
run_done run (file ∷ further) = None

abbrev pub done_of : CommandOf → Option CommandOf
done_of (a_run run) = run_done run run.further
done_of (a_volume pages) = Some (a_volume pages)
done_of (a_text text) = Some (a_text text)

abbrev pub carried_out : Option CommandOf → Option CommandOf
carried_out asked = option_and_then done_of asked

-- What the words ask for, where no program is run, over a shelf that holds these texts, lacks these names, and may fail to read texts of those, and over this device,
-- calls for these bytes to be output and this status to be answered. `failed` says that the shelf's faults rose in this call. A refusal before the volume is
-- attached makes no call of the device, and one that comes later leaves in the volume what was held: the same words under the same directory.
pub data Due (asked : Option CommandOf) (holds : List ℕ → List ℕ → Type 0) (lacks may_fail : List ℕ → Type 0) (failed : Type 0) (old new : Outside (List ℕ)) : List ℕ → ℕ → Type 0 where
  -- the words are no command
  no_command : asked ≡ None → LeavesDevice old new → Due asked holds lacks may_fail failed old new usage_line 1
  -- there was no memory to read the words
  no_memory : LeavesDevice old new → Due asked holds lacks may_fail failed old new memory_line 5
  -- a text that tells of the program
  told : {text : List ℕ} → asked ≡ Some (a_text text) → LeavesDevice old new → Due asked holds lacks may_fail failed old new text 0
  -- a run isn't begun
  unready : {run : RunOf} {bytes : List ℕ} {status : ℕ} → asked ≡ Some (a_run run) → Unready run holds lacks may_fail failed bytes status → LeavesDevice old new →
      Due asked holds lacks may_fail failed old new bytes status
  -- the program and its input were given, and there is no volume to run over: why. One cause is that there was no memory to attach it.
  unattached : {run : RunOf} {program : BodyNode} (input : List ℕ) {cause : OpenFault} → asked ≡ Some (a_run run) → GivesProgram holds lacks run program →
      GivesInput holds lacks run.input input → IsWhyNone old new cause → KeepsHeld old new →
      Due asked holds lacks may_fail failed old new (line_of cause) (status_of_cause cause)
  -- a volume was to be made
  making : {pages : ℕ} {bytes : List ℕ} {status : ℕ} → asked ≡ Some (a_volume pages) → IsMakingDue pages old new bytes status →
      Due asked holds lacks may_fail failed old new bytes status

-- what a command leaves of the device where no program is run: words that ask for a run leave in the volume what was held, the same words under the same directory,
-- and words that ask for a text or are no command leave it as it is
abbrev pub LeavesBy : CommandOf → Outside (List ℕ) → Outside (List ℕ) → Type 0
LeavesBy (a_run run) old new = KeepsHeld old new
LeavesBy (a_volume pages) old new = Leaves old new (IsMaking old pages) × ShutsAt pages old new
LeavesBy (a_text text) old new = Keeps old new

abbrev pub LeavesAsAsked : Option CommandOf → Outside (List ℕ) → Outside (List ℕ) → Type 0
LeavesAsAsked None old new = Keeps old new
LeavesAsAsked (Some command) old new = LeavesBy command old new

-- Something is due, it is answered, and the device is left as the command leaves it; or a program was run over the volume.
pub data Why (old new : Outside (List ℕ)) (asked : Option CommandOf) (holds : List ℕ → List ℕ → Type 0) (lacks may_fail : List ℕ → Type 0) (failed : Type 0) (answered : ℕ) : Type 0 where
  by_words : {bytes : List ℕ} {status : ℕ} → Due asked holds lacks may_fail failed old new bytes status → Answers old new bytes status answered → LeavesAsAsked asked old new →
      Why old new asked holds lacks may_fail failed answered
  by_run : {run : RunOf} {program : BodyNode} {input : List ℕ} → asked ≡ Some (a_run run) → GivesProgram holds lacks run program → GivesInput holds lacks run.input input →
      Ran run input program old new answered → Why old new asked holds lacks may_fail failed answered

-- the names that a run reads: that of its text, and that of its input
pub data IsRead (run : RunOf) : List ℕ → Type 0 where
  text : IsRead run run.file
  input : {name : List ℕ} → run.input ≡ Some name → IsRead run name

-- What is answered was due in this sense.
abbrev pub Answered : Outside (List ℕ) → Outside (List ℕ) → (List ℕ → ℕ → Type 0) → ℕ → Type 0
Answered old new gets answered = (bytes : List ℕ) × (status : ℕ) × gets bytes status × Answers old new bytes status answered

-- What is due is this; or there was no memory; or one of these names may fail to be read, and the shelf's faults rose; or the device failed.
pub data Gets (read may_fail : List ℕ → Type 0) (failed device_failed : Type 0) (told : List ℕ) (due : ℕ) : List ℕ → ℕ → Type 0 where
  own : Gets read may_fail failed device_failed told due told due
  no_memory : Gets read may_fail failed device_failed told due memory_line 5
  unreadable : {name : List ℕ} → read name → may_fail name → failed → Gets read may_fail failed device_failed told due (unreadable_line name) 7
  no_device : device_failed → Gets read may_fail failed device_failed told due device_line 6

-- What is due is this, or there was no memory.
pub data GetsOrLacks (told : List ℕ) (due : ℕ) : List ℕ → ℕ → Type 0 where
  own : GetsOrLacks told due told due
  no_memory : GetsOrLacks told due memory_line 5

-- What is due is this; or there was no memory, or the device failed.
pub data GetsOrFails (device_failed : Type 0) (told : List ℕ) (due : ℕ) : List ℕ → ℕ → Type 0 where
  own : GetsOrFails device_failed told due told due
  no_memory : GetsOrFails device_failed told due memory_line 5
  no_device : device_failed → GetsOrFails device_failed told due device_line 6

-- The program is run with this input; or there was no memory; or a name that is read may fail to be, and the shelf's faults rose; or the device failed; or the output.
pub data GetsRun (run : RunOf) (input : List ℕ) (program : BodyNode) (may_fail : List ℕ → Type 0) (failed : Type 0) (old new : Outside (List ℕ)) (answered : ℕ) : Type 0 where
  own : Ran run input program old new answered → GetsRun run input program may_fail failed old new answered
  no_memory : Answers old new memory_line 5 answered → GetsRun run input program may_fail failed old new answered
  unreadable : {name : List ℕ} → IsRead run name → may_fail name → failed → Answers old new (unreadable_line name) 7 answered →
      GetsRun run input program may_fail failed old new answered
  no_device : Rose old.device_faults new.device_faults → Answers old new device_line 6 answered → GetsRun run input program may_fail failed old new answered
