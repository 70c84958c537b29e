-- What a command answers, where something is due to be output.
use Rattle.std.specs.Prelude.{◌≡◌, ℕ, List, ◌++◌, Result, Ok, Err}
use Rattle.ps_port.specs.ps_outside.Outside.{Outside}
use Rattle.ps_port.specs.Telling.{TellsAll, FailsAfter, LeavesDevice}
use Rattle.ps_reports.specs.declared.status.Status.{Status}
use Rattle.ps_reports.specs.declared.report.Report.{Report}
use Rattle.ps_reports.specs.Reporting.{line_of, status_of}
use Rattle.ps_reports.specs.Statuses.{number_of}

-- All that was due was output, no fault of the output was counted, and its status is answered; or the output
-- failed after a prefix of it, the count of its faults rose, and 8 is answered.
pub data Answers (old new : Outside (List ℕ)) (due : List ℕ) (status : ℕ) : ℕ → Type 0 where
  whole : TellsAll old new due → Answers old new due status status
  cut : FailsAfter old new due → Answers old new due status 8

pub ruleset answering = (Answers.whole, Answers.cut)

-- What a command ends in, where this is due, and this the status that stands with it: a status, where what was due was output or the output failed; or a
-- report, whose line is what is left of it.
pub data EndsIn (old new : Outside (List ℕ)) : List ℕ → ℕ → Result Status Report → Type 0 where
  ended : {due : List ℕ} {number : ℕ} {status : Status} → Answers old new due number (number_of status) → EndsIn old new due number (Ok status)
  reported : {before : List ℕ} {report : Report} → TellsAll old new before →
      EndsIn old new (before ++ line_of report) (number_of (status_of report)) (Err report)

-- The report of an end is written, and its status answered, by the output alone; or the status of an end, and nothing is done.
abbrev pub Tells : {H : Type 0} → (H → Outside (List ℕ)) → H → H → Result Status Report → ℕ → Type 0
Tells outside old new (Ok status) answered = (answered ≡ number_of status) × (new ≡ old)
Tells outside old new (Err report) answered =
    Answers (outside old) (outside new) (line_of report) (number_of (status_of report)) answered × LeavesDevice (outside old) (outside new)
