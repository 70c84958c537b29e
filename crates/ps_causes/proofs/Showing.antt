-- The report of why a run stopped is output last.
use Rattle.std.proofs.Common.{◌≡◌, ◌⊎◌, inl, inr, ⊎_elim, ℕ, ◌<◌, ◌≤◌, List, [], ◌∷◌, ◌++◌, refl, sym, ◌∙◌, ap, subst, arith, Option}
use Rattle.std.specs.Prelude.{Result, Ok, Err}
use Rattle.std.proofs.lemmas.List.{append-nil}
use Rattle.ps_port.specs.ps_outside.Outside.{Outside, Adds, TellsPrefix, Rose}
use Rattle.ps_port.specs.ps_outside.Past.{KeepsTold}
use Rattle.ps_port.specs.Telling.{TellsAll, FailsAfter, LeavesDevice}
use Rattle.ps_outside.proofs.PastMoments.{past_along, past_then}
use Rattle.ps_meaning.specs.ps_typing.ps_program.Node.{BodyNode}
use Rattle.ps_meaning.specs.ps_heap.Events.{Event}
use Rattle.ps_meaning.specs.ps_heap.Held.{StoredHeap}
use Rattle.ps_meaning.specs.ps_heap.Ends.{status_of as status_of_end}
use Rattle.ps_meaning.specs.Runs.{run_end}
use Rattle.device_runs.specs.session_meaning.unit_meaning.Programs.{given_over}
use Rattle.commit_moments.specs.Steps.{Step, StandsForSome, heap_after, broken, output_by}
use Rattle.commit_moments.specs.Shown.{ShowsSince}
use Rattle.commit_moments.proofs.ShownLaws.{either, adds_is, adds_then}
use Rattle.commit_moments.proofs.StepLaws.{told-append, amid_fewer}
use Rattle.commit_moments.proofs.TellingLaws.{since_tells_prefix}
use Rattle.ps_args.specs.Words.{RunOf}
use Rattle.ps_volumes.specs.ps_reports.declared.status.Status.{Status}
use Rattle.ps_volumes.specs.ps_reports.declared.report.Report.{Report}
use Rattle.ps_volumes.specs.ps_reports.Answering.{Answers, whole, cut, Tells}
use Rattle.ps_volumes.specs.ps_reports.Reporting.{line_of, status_of}
use Rattle.ps_volumes.specs.ps_reports.Statuses.{number_of}
use Rattle.ps_volumes.proofs.of_ps_reports.Behind.{answers_then}
use Rattle.ps_volumes.proofs.Settled.{answers_keep}
use Rattle.device_runs.specs.session_meaning.Meant.{steps_meant}
use Rattle.device_runs.specs.volume_meaning.Stands.{Stands}
use Rattle.device_runs.specs.Concluded.{ShowsAll}
use Rattle.ps_causes.specs.Runs.{AttachesAt, IsCaused, Ran, RunsTo, ShowsRun, StoodFor, commit_of, events_of, its_end, stopped}
use Rattle.ps_causes.specs.Runs as runs
use Rattle.ps_causes.specs.Steps.{ComesTo, RanTo, StopsAt}
use Rattle.ps_causes.specs.Steps as steps

-- all that was shown was output
all-told : (old new : Outside (List ℕ)) (heap : StoredHeap) (ms : List (Step StoredHeap)) → ShowsAll old new heap ms → TellsAll old new (output_by ms)
all-told old new heap ms is = record { front = since_tells_prefix Stands heap old new ms is.shown; all = is.told; calm = is.calm }

-- a prefix of what was due was output
answers-front : (a b : Outside (List ℕ)) (due : List ℕ) (status answered : ℕ) → Answers a b due status answered → TellsPrefix a b due
answers-front a b due status answered (whole all) = all.front
answers-front a b due status answered (cut fails) = fails.front

-- A line is output after steps that were.
module _ (heap : StoredHeap) (old mid new : Outside (List ℕ)) (ms : List (Step StoredHeap)) (next : Option StoredHeap) (line : List ℕ)
    (shown : ShowsSince Stands heap old mid (ms ++ broken line next ∷ [])) (told : (bytes : List ℕ) → mid.told mid.clock bytes → Adds (old.told old.clock) (output_by ms) bytes)
    (leaves : (image : List ℕ) → mid.images mid.clock image → Stands image (heap_after heap ms) ⊎ StandsForSome Stands image next)
    (tells : TellsPrefix mid new line) (device : LeavesDevice mid new) where
  line-shown : ShowsSince Stands heap old new (ms ++ broken line next ∷ [])
  line-shown = record {
    told_past = past_then shown.told_past (past_along tells);
    past = past_then shown.past (past_along device.images);
    since = shown.since;
    from = shown.from;
    until = let one = shown.until in let two = device.images.later in omega arith;
    silent = λ m bytes low lt at. shown.silent m bytes low lt (tells.no_other m bytes (let one = shown.until in omega (arith, lt, one)) at);
    before = λ m image low lt at. shown.before m image low lt (device.images.no_other m image (let one = shown.until in omega (arith, lt, one)) at);
    each = λ m bytes low until at. ⊎_elim
        (λ early. amid_fewer Stands heap (ms ++ broken line next ∷ []) (old.told old.clock) bytes (mid.images m) (new.images m)
        (shown.each m bytes low early (tells.no_other m bytes early at)) (λ image is. device.images.no_other m image early is))
        (λ late.
        let more = tells.each m bytes late until at in
        record {
          done = ms;
          rest = broken line next ∷ [];
          steps_are = refl;
          front = more.front;
          is_prefix = more.is_front;
          told = adds_then (old.told old.clock) (mid.told mid.clock) (output_by ms) more.front bytes told more.adds;
          leaves = λ image is. leaves image (device.images.each m image late until is);
        })
        (either m mid.clock);
  }

module _ (run : RunOf) (input : List ℕ) (program : BodyNode) (old mid new : Outside (List ℕ)) (heap : StoredHeap) where
  -- where the end has no report
  pub shows-ended : (status : Status) → ComesTo run input program heap old mid (Ok status) → ShowsRun run input program heap old mid (number_of status)
  shows-ended status (steps.its_end is all) = record {
    steps = steps_meant (events_of run input program heap);
    status = status_of_end (run_end (given_over run.turns input heap) program);
    comes = its_end;
    shown = all.shown;
    answers = subst (λ (n : ℕ). Answers old mid (output_by (steps_meant (events_of run input program heap))) (status_of_end (run_end (given_over run.turns input heap) program)) n) (sym is)
        (whole (all-told old mid heap (steps_meant (events_of run input program heap)) all));
  }
  shows-ended status (steps.failed rose counts shown) = record {
    steps = steps_meant (events_of run input program heap);
    status = status_of_end (run_end (given_over run.turns input heap) program);
    comes = its_end;
    shown = shown;
    answers = cut (record { front = since_tells_prefix Stands heap old mid (steps_meant (events_of run input program heap)) shown; counts = counts; rose = rose });
  }

  with-line : (before : List Event) (line : List ℕ) (next : Option StoredHeap) → output_by (steps_meant before) ++ line ≡ output_by (steps_meant before ++ broken line next ∷ [])
  with-line before line next =
      ap (λ (bytes : List ℕ). output_by (steps_meant before) ++ bytes) (sym (append-nil line)) ∙ sym (told-append (steps_meant before) (broken line next ∷ []))

  -- why it stopped is so after the line too
  still-stops : new.device_faults ≡ mid.device_faults → (before : List Event) (next : Event) (line : List ℕ) (status : ℕ) → runs.Stops run input program heap old mid before next line status
      → runs.Stops run input program heap old new before next line status
  still-stops same before next line status (runs.of_the_device rose) = runs.of_the_device (subst (λ (n : ℕ). Rose old.device_faults n) (sym same) rose)
  still-stops same before next line status (runs.of_the_area short wanted) = runs.of_the_area short wanted
  still-stops same before next line status (runs.of_the_volume used wanted capacity commits short) = runs.of_the_volume used wanted capacity commits short
  still-stops same before next line status (runs.of_an_object place found bound commits) = runs.of_an_object place found bound commits

  -- where it has one
  pub shows-reported : (report : Report) (answered : ℕ) → Answers mid new (line_of report) (number_of (status_of report)) answered → LeavesDevice mid new
      → ComesTo run input program heap old mid (Err report) → ShowsRun run input program heap old new answered
  shows-reported report answered is device (steps.stopped {before = before} {next = next} rest are at) =
      let line = line_of report in
      let none = at.shown [] in
      let front = subst (λ (bytes : List ℕ). TellsPrefix old mid bytes) (sym (with-line before [] (commit_of next)) ∙ append-nil (output_by (steps_meant before)))
      (since_tells_prefix Stands heap old mid (steps_meant before ++ broken [] (commit_of next) ∷ []) none) in
      record {
        steps = steps_meant before ++ broken line (commit_of next) ∷ [];
        status = number_of (status_of report);
        comes = stopped rest are (still-stops device.faults before next line (number_of (status_of report)) at.stops);
        shown = line-shown heap old mid new (steps_meant before) (commit_of next) line (at.shown line) at.told at.leaves (answers-front mid new line (number_of (status_of report)) answered is) device;
        answers = subst (λ (bytes : List ℕ). Answers old new bytes (number_of (status_of report)) answered) (with-line before line (commit_of next))
            (answers_then old mid new (output_by (steps_meant before)) line (number_of (status_of report)) answered
            (record { front = front; all = at.told; calm = at.calm }) is);
      }

module _ (old mid new : Outside (List ℕ)) (device : LeavesDevice mid new) (told : KeepsTold mid new) where
  still-attached : AttachesAt old mid → AttachesAt old new
  still-attached is = record {
    since = is.since;
    from = is.from;
    until = let one = is.until in let two = device.images.later in omega arith;
    before = λ m image low lt at. is.before m image low lt (device.images.no_other m image (let one = is.until in omega (arith, lt, one)) at);
    silent = λ m bytes low lt at. is.silent m bytes low lt (told.no_other m bytes (let one = is.until in omega (arith, lt, one)) at);
  }

  rose-then : (a b c : ℕ) → a ≤ b → Rose b c → Rose a c
  rose-then a b c le (inl less) = inl (omega (arith, le, less))
  rose-then a b c le (inr last) = inr last

  -- why a report is answered, or that the output failed in it
  still-caused : (report : Report) (answered : ℕ) → old.output_faults ≤ mid.output_faults → IsCaused old mid (number_of (status_of report))
      → Answers mid new (line_of report) (number_of (status_of report)) answered → IsCaused old new answered
  still-caused report answered counts is (cut fails) = runs.output (rose-then old.output_faults mid.output_faults new.output_faults counts fails.rose)
  still-caused report answered counts is (whole all) = same is
    where
      same : {n : ℕ} → IsCaused old mid n → IsCaused old new n
      same (runs.an_end e) = runs.an_end e
      same (runs.device rose) = runs.device (subst (λ (n : ℕ). Rose old.device_faults n) (sym device.faults) rose)
      same (runs.output rose) = runs.output (subst (λ (n : ℕ). Rose old.output_faults n) (sym all.calm) rose)
      same runs.damaged = runs.damaged
      same runs.area_full = runs.area_full
      same (runs.volume_full used wanted capacity short) = runs.volume_full used wanted capacity short

-- a program that was run, once the report of its end is output
pub ran-told : {H : Type 0} (outside : H → Outside (List ℕ)) (old mid new : H) (run : RunOf) (input : List ℕ) (program : BodyNode) (end : Result Status Report) (answered : ℕ)
    → RanTo run input program (outside old) (outside mid) end → Tells outside mid new end answered → Ran run input program (outside old) (outside new) answered
ran-told {H} outside old mid new run input program (Ok status) answered is tells =
    subst (λ (h : H). Ran run input program (outside old) (outside h) answered) (sym tells.1)
    (subst (λ (n : ℕ). Ran run input program (outside old) (outside mid) n) (sym tells.0) (record {
      shows = λ heap stood. shows-ended run input program (outside old) (outside mid) (outside mid) heap status (is.comes heap stood);
      caused = is.caused;
      found = is.found;
      attached = is.attached;
    }))
ran-told outside old mid new run input program (Err report) answered is tells =
    let told = answers_keep (outside mid) (outside new) (line_of report) (number_of (status_of report)) answered tells.0 in
    record {
      shows = λ heap stood. shows-reported run input program (outside old) (outside mid) (outside new) heap report answered tells.0 tells.1 (is.comes heap stood);
      caused = still-caused (outside old) (outside mid) (outside new) tells.1 told report answered is.counts is.caused tells.0;
      found = is.found;
      attached = still-attached (outside old) (outside mid) (outside new) tells.1 told is.attached;
    }
