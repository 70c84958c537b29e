-- What is output after calls that output nothing, and after a report.
use Rattle.std.proofs.Common.{◌≡◌, ℕ, List, [], ◌++◌, refl, sym}
use Rattle.std.specs.Prelude.{Ok, Err}
use Rattle.std.proofs.lemmas.List.{append-nil}
use Rattle.ps_port.specs.ps_outside.Outside.{Outside, TellsNothing, Adds, AddsPrefix}
use Rattle.ps_port.proofs.of_ps_outside.Moments.{along_weaker, along_now}
use Rattle.ps_port.specs.Telling.{TellsAll}
use Rattle.ps_port.proofs.Telling.{all_then, fails_then}
use Rattle.ps_reports.specs.declared.status.Status.{Status}
use Rattle.ps_reports.specs.declared.report.Report.{Report}
use Rattle.ps_reports.specs.Answering.{Answers, whole, cut, EndsIn, ended, reported}
use Rattle.ps_reports.specs.Reporting.{line_of, status_of}
use Rattle.ps_reports.specs.Statuses.{number_of}

module _ (old mid : Outside (List ℕ)) (nothing : TellsNothing old mid) (calm : mid.output_faults ≡ old.output_faults) where
  no_more : (bytes : List ℕ) → old.told old.clock bytes → Adds (old.told old.clock) [] bytes
  no_more bytes was = record { before = bytes; was_told = was; bytes_are = sym (append-nil bytes) }

  -- all of nothing was output
  pub told_none : TellsAll old mid []
  told_none = record {
    front = along_weaker nothing (λ bytes was. record { front = []; is_front = record { rest = []; whole_is = refl }; adds = no_more bytes was });
    all = λ bytes at. no_more bytes (along_now nothing bytes at);
    calm = calm;
  }

  -- so a report is all that is due
  pub reports_alone : (report : Report) → EndsIn old mid (line_of report) (number_of (status_of report)) (Err report)
  reports_alone report = reported told_none

-- an answer after all of the first part was output is one of the whole
pub answers_then : (old mid new : Outside (List ℕ)) (before due : List ℕ) (status answered : ℕ) → TellsAll old mid before → Answers mid new due status answered
    → Answers old new (before ++ due) status answered
answers_then old mid new before due status answered all (whole rest) = whole (all_then old mid new before due all rest)
answers_then old mid new before due status answered all (cut fails) = cut (fails_then old mid new before due all fails)

-- the status of an end is that of what was due
pub ended_answers : (old new : Outside (List ℕ)) (due : List ℕ) (number : ℕ) (status : Status) → EndsIn old new due number (Ok status) → Answers old new due number (number_of status)
ended_answers old new due number status (ended is) = is

-- and a report is the last of it
pub reported_answers : (old mid new : Outside (List ℕ)) (due : List ℕ) (number : ℕ) (report : Report) (answered : ℕ) → EndsIn old mid due number (Err report)
    → Answers mid new (line_of report) (number_of (status_of report)) answered → Answers old new due number answered
reported_answers old mid new due number report answered (reported {before = before} all) is =
    answers_then old mid new before (line_of report) (number_of (status_of report)) answered all is
