-- What is due stays so where the output alone is called after it, so that the end of a command is told last.
use Rattle.std.proofs.Common.{ℕ, List, Some, None, Option, sym, subst}
use Rattle.std.specs.Prelude.{Result, Ok, Err}
use Rattle.ps_port.specs.ps_outside.Outside.{Outside, Rose}
use Rattle.ps_port.specs.ps_outside.Past.{KeepsTold}
use Rattle.ps_port.specs.Telling.{LeavesDevice}
use Rattle.ps_port.proofs.of_ps_outside.Moments.{along_then, along_now}
use Rattle.ps_port.proofs.Telling.{device_then}
use Rattle.ps_volumes.proofs.of_paged_volume.Opening.{shuts_then, opens_then}
use Rattle.ps_volumes.specs.volume_parts.declared.open_fault.OpenFault.{OpenFault}
use Rattle.ps_volumes.specs.ps_reports.declared.status.Status.{Status}
use Rattle.ps_volumes.specs.ps_reports.declared.report.Report.{Report}
use Rattle.ps_volumes.specs.ps_reports.Answering.{Tells}
use Rattle.ps_volumes.specs.ps_reports.Reporting.{line_of, status_of}
use Rattle.ps_volumes.specs.ps_reports.Statuses.{number_of}
use Rattle.ps_volumes.proofs.of_ps_reports.Behind.{ended_answers, reported_answers}
use Rattle.ps_volumes.specs.Attaching.{Keeps, KeepsHeld, IsWhyNone}
use Rattle.ps_volumes.specs.Making.{IsMade, IsMakingDue}
use Rattle.ps_volumes.specs.Making as making
use Rattle.ps_volumes.proofs.Settled.{keeps_then, held_then, device_kept, answers_keep}
use Rattle.ps_args.specs.Words.{CommandOf, a_run, a_text, a_volume}
use Rattle.ps_causes.specs.Command.{Due, LeavesAsAsked, Why}
use Rattle.ps_causes.specs.Steps.{WhyEnds}
use Rattle.ps_causes.proofs.Showing.{ran-told}

module _ (old mid new : Outside (List ℕ)) (left : LeavesDevice mid new) (told : KeepsTold mid new) where
  still_kept : Keeps old mid → Keeps old new
  still_kept is = keeps_then old mid new is (device_kept mid new left)

  still_held : KeepsHeld old mid → KeepsHeld old new
  still_held is = held_then old mid new is (device_kept mid new left)

  still_none : (cause : OpenFault) → IsWhyNone old mid cause → IsWhyNone old new cause
  still_none cause is = record { device = λ e. subst (λ (n : ℕ). Rose old.device_faults n) (sym left.faults) (is.device e); found = is.found }

  still_made : (pages : ℕ) → IsMade pages old mid → IsMade pages old new
  still_made pages is = record {
    opened = opens_then pages old mid new is.opened left.images;
    contents = λ bytes at. is.contents bytes (left.contents.no_other bytes at);
    durable = λ image at. left.contents.kept image (is.durable image (along_now left.images image at));
  }

  still_making : (pages : ℕ) (bytes : List ℕ) (status : ℕ) → IsMakingDue pages old mid bytes status → IsMakingDue pages old new bytes status
  still_making pages bytes status (making.made none is) = making.made none (still_made pages is)
  still_making pages bytes status (making.failed rose) = making.failed (subst (λ (n : ℕ). Rose old.device_faults n) (sym left.faults) rose)
  still_making pages bytes status (making.there_is_one opened kept) = making.there_is_one opened (still_kept kept)

  module _ (asked : Option CommandOf) (holds : List ℕ → List ℕ → Type 0) (lacks may_fail : List ℕ → Type 0) (failed : Type 0) where
    pub still_due : (bytes : List ℕ) (status : ℕ) → Due asked holds lacks may_fail failed old mid bytes status → Due asked holds lacks may_fail failed old new bytes status
    still_due bytes status (Due.no_command none was) = Due.no_command none (device_then old mid new was left)
    still_due bytes status (Due.no_memory was) = Due.no_memory (device_then old mid new was left)
    still_due bytes status (Due.told is was) = Due.told is (device_then old mid new was left)
    still_due bytes status (Due.unready is why was) = Due.unready is why (device_then old mid new was left)
    still_due bytes status (Due.unattached input {cause = cause} is g given none kept) = Due.unattached input is g given (still_none cause none) (still_held kept)
    still_due bytes status (Due.making {pages = pages} is due) = Due.making is (still_making pages bytes status due)

  still_left : (asked : Option CommandOf) → LeavesAsAsked asked old mid → LeavesAsAsked asked old new
  still_left None is = still_kept is
  still_left (Some (a_run run)) is = still_held is
  still_left (Some (a_text text)) is = still_kept is
  still_left (Some (a_volume pages)) is = (along_then is.0 left.images (along_now is.0), shuts_then pages old mid new is.1 left.images)

module _ {H : Type 0} (outside : H → Outside (List ℕ)) (old mid new : H) (asked : Option CommandOf) (holds : List ℕ → List ℕ → Type 0) (lacks may_fail : List ℕ → Type 0)
    (failed : Type 0) where
  -- the end of a command is told
  pub why_told : (end : Result Status Report) (answered : ℕ) → WhyEnds (outside old) (outside mid) asked holds lacks may_fail failed end → Tells outside mid new end answered
      → Why (outside old) (outside new) asked holds lacks may_fail failed answered
  why_told (Ok status) answered (WhyEnds.by_words {bytes = bytes} {status = number} due ends device) tells =
      subst (λ (h : H). Why (outside old) (outside h) asked holds lacks may_fail failed answered) (sym tells.1)
      (subst (λ (n : ℕ). Why (outside old) (outside mid) asked holds lacks may_fail failed n) (sym tells.0)
      (Why.by_words due (ended_answers (outside old) (outside mid) bytes number status ends) device))
  why_told (Err report) answered (WhyEnds.by_words {bytes = bytes} {status = number} due ends device) tells =
      let told = answers_keep (outside mid) (outside new) (line_of report) (number_of (status_of report)) answered tells.0 in
      Why.by_words (still_due (outside old) (outside mid) (outside new) tells.1 told asked holds lacks may_fail failed bytes number due)
      (reported_answers (outside old) (outside mid) (outside new) bytes number report answered ends tells.0)
      (still_left (outside old) (outside mid) (outside new) tells.1 told asked device)
  why_told end answered (WhyEnds.by_run {run = run} {program = program} {input = input} is gives given ran) tells =
      Why.by_run is gives given (ran-told outside old mid new run input program end answered ran tells)
