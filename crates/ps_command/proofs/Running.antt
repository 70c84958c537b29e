-- A run over the store of a volume shows what the program means.
use Rattle.std.proofs.Common.{◌≡◌, ◌⊎◌, inl, inr, ⊎_elim, ℕ, ◌+◌, ◌<◌, ◌≤◌, List, [], ◌∷◌, ◌++◌, refl, sym, ◌∙◌, ap, subst, arith, Option, Some, None}
use Rattle.std.specs.Prelude.{◌≢◌, false, true, Bool, Result, Ok, Err, IfErr}
use Rattle.ps_port.specs.ps_outside.Outside.{Outside, Adds, TellsNothing, Rose}
use Rattle.ps_port.specs.ps_outside.Past.{KeepsPast, KeepsTold}
use Rattle.ps_port.specs.Telling.{TellsAll, FailsAfter, LeavesDevice}
use Rattle.ps_outside.proofs.PastMoments.{past_along, past_then, past_none}
use Rattle.ps_outside.proofs.Moments.{along_now}
use Rattle.ps_program.specs.Node.{BodyNode}
use Rattle.ps_causes.specs.ps_args.Words.{RunOf}
use Rattle.ps_causes.specs.ps_heap.Ends.{End, status_of as status_of_end}
use Rattle.ps_causes.specs.ps_meaning.ps_heap.Events.{Event, Commit, Finish}
use Rattle.ps_causes.specs.ps_meaning.ps_heap.Held.{StoredHeap}
use Rattle.ps_causes.specs.ps_meaning.Runs.{run_end}
use Rattle.ps_causes.specs.ps_volumes.Attaching.{IsStored}
use Rattle.ps_causes.specs.obj_store.Store.{Store, access_of, outside_of, is_alone}
use Rattle.ps_causes.specs.obj_store.Spaces.{space_found}
use Rattle.ps_causes.specs.obj_store.declared.source.Source.TheVariants.{Staged}
use Rattle.ps_causes.specs.ps_reports.declared.status.Status.{Status}
use Rattle.ps_causes.specs.ps_reports.declared.status.Status.TheVariants as status
use Rattle.ps_causes.specs.ps_reports.declared.report.Report.{Report}
use Rattle.ps_causes.specs.ps_reports.Statuses.{number_of}
use Rattle.ps_causes.specs.ps_reports.Reporting.{line_of, status_of}
use Rattle.ps_causes.specs.ps_reports.Reports.{area_full_line}
use Rattle.ps_causes.specs.Runs as runs
use Rattle.ps_causes.specs.Runs.{AttachesAt, IsCaused, StoodFor, Stops, area_size, commit_of, events_of}
use Rattle.ps_causes.specs.Steps as steps
use Rattle.ps_causes.specs.Steps.{CausedBy, ComesTo, RanTo, StopsAt}
use Rattle.paged_volume.specs.Standing.{held_in}
use Rattle.volume_parts.specs.Holding.{Held}
use Rattle.obj_layout.specs.Stored.{Space, without_file}
use Rattle.obj_layout.specs.declared.vault.VaultFault.TheVariants as vault
use Rattle.machine_core.specs.swizzle.declared.fault.SwizzleFault.{SwizzleFault}
use Rattle.machine_core.specs.swizzle.declared.fault.SwizzleFault.TheVariants.{AreaFull, Vault}
use Rattle.machine_core.specs.declared.machine.Machine.{Machine}
use Rattle.machine_core.specs.declared.run_end.RunEnd.{RunEnd}
use Rattle.machine_core.specs.declared.run_end.RunEnd.TheVariants.{Done, Trapped, OutOfTurns}
use Rattle.machine_core.specs.Stepped.{end_of}
use Rattle.machine_core.specs.Full.{BreaksBy}
use Rattle.machine_run.specs.Loaded.{HasNoRoom, IsLoaded}
use Rattle.ps_unit_weights.specs.ps_gen.Units.{unit_of}
use Rattle.database_meaning.specs.Same.{IsSame}
use Rattle.commit_moments.specs.Steps.{Step, StandsForSome, heap_after, broken, output_by, owing}
use Rattle.commit_moments.specs.Shown.{LeavesOnly, ShowsSince}
use Rattle.commit_moments.proofs.ShownLaws.{shown_begun, shown_more}
use Rattle.commit_moments.proofs.SinceLaws.{since_more}
use Rattle.commit_moments.proofs.CallLaws.{so_far_none}
use Rattle.space_meaning.specs.Stands.{SpaceStands}
use Rattle.session_run.specs.Ran.{GoesOn, IsCause}
use Rattle.session_meaning.specs.Laws.{ProgramsShowTheirEvents}
use Rattle.session_meaning.specs.Meant as meant
use Rattle.session_meaning.specs.Meant.{steps_meant}
use Rattle.unit_meaning.specs.Programs.{given_over, begin_over, RunsAsMeant}
use Rattle.session_meaning.specs.Shows.{BrokeFor, Shows}
use Rattle.volume_meaning.specs.Space.{space_in}
use Rattle.volume_meaning.specs.Stands.{Stands}
use Rattle.device_runs.specs.Concluded.{Concludes, ShowsAll, whole, broke, broke_in, cut}
use Rattle.device_runs.specs.Laws.{ConcludesTold, ConcludesFailed, ConcludesCut, RunsOver}
use Rattle.device_runs.proofs.Concluding.{none_by}
use Rattle.std.proofs.lemmas.List.{append-nil}
use Rattle.device_moments.proofs.DeviceLaws.{device_past, held_is}
use Rattle.ps_causes.specs.ps_meaning.ps_heap.Held.{nothing_stored}
use Rattle.session_run.specs.machine_commits.Committing.{IsOfVault}
use Rattle.device_runs.proofs.Since.{attached-only, shown-since}
use Rattle.device_runs.proofs.OnDevice.{store-stands}
use Rattle.ps_command.specs.inside.Running.{HasReport, RanBy, Leaves, told, failed, end_for, report_for, status_for}
use Rattle.ps_command.specs.inside.Running as running
use Rattle.ps_command.proofs.Events.{end_is, some_event}
use Rattle.ps_command.proofs.Loading.{within-code}

status-is : (e : RunEnd) → number_of (status_for e) ≡ status_of_end (end_of e)
status-is Done = refl
status-is (Trapped trap line) = refl
status-is OutOfTurns = refl

rose-into : (a b c d : ℕ) → a ≤ b → Rose b c → c ≡ d → Rose a d
rose-into a b c d le (inl less) same = inl (omega (arith, le, less, same))
rose-into a b c d le (inr last) same = inr (sym same ∙ last)

unfiled : (found : Option Held) → without_file (space_found found) ≡ space_found found
unfiled None = refl
unfiled (Some held) = refl

-- the space of a file without that file is the same
space-unfiled : (bytes : List ℕ) (space : Space) → space_in bytes ≡ Some space → without_file space ≡ space
unfolding space_in
space-unfiled bytes space found =
    let is = held_is (held_in bytes) space found in
    subst (λ (s : Space). without_file s ≡ s) is (unfiled (held_in bytes))

-- a store that is alone lacks no pages
is-false : (b : Bool) → b ≡ true → b ≡ false → ⊥
is-false b one two = let e : true ≡ false = sym one ∙ two in cc

pub has-report : {H : Type 0} (outside : H → Outside (List ℕ)) (attached ran : Store H) (fault : SwizzleFault) → is_alone attached.table.pins.items ≡ true
    → IsCause (outside_of outside attached) (outside_of outside ran) (access_of attached) fault → fault ≢ Vault vault.Output → HasReport fault
has-report outside attached ran (AreaFull top wanted size) alone by other = tt
has-report outside attached ran (Vault vault.Device) alone by other = tt
has-report outside attached ran (Vault vault.Output) alone by other = absurd (other refl)
has-report outside attached ran (Vault (vault.Full used wanted capacity)) alone by other = tt
has-report outside attached ran (Vault (vault.NoPages pinned wanted pages)) alone by other = absurd (is-false (is_alone attached.table.pins.items) alone by.0)
has-report outside attached ran (Vault (vault.Damaged at found wanted)) alone by other = tt

-- A volume was attached, and the unit of a program is to be run over its store.
module _ {H : Type 0} (outside : H → Outside (List ℕ)) (run : RunOf) (input : List ℕ) (program : BodyNode) (old : H) (store : Store H) (is : IsStored outside (outside old) store) where
  -- for which heap it stood
  module _ (one : (a b : List ℕ) → (outside old).contents a → (outside old).contents b → a ≡ b) (heap : StoredHeap) (stood : StoodFor (outside old) heap) where
    starts : (bytes : List ℕ) → (outside old).contents bytes → Stands bytes heap
    starts bytes at = subst (λ (b : List ℕ). Stands b heap) (one stood.file bytes stood.read at) stood.stands

    only : LeavesOnly Stands (outside store.host) heap
    only = attached-only heap (outside old) (outside store.host) is.keeps.from is.told (past_along is.keeps.keeps.images) starts

    images : LeavesOnly meant.Stands (outside_of outside store) heap
    images = store-stands Staged store.used store.table (outside store.host) heap only

    held : (outside_of outside store).contents stood.stands.space
    unfolding held_in space_in
    held = is.stays stood.stands.space (record { from = stood.file; was = stood.read; by = found_in_file })
      where
        found_in_file : space_in stood.file ≡ Some stood.stands.space
        found_in_file = stood.stands.found

    space-stands : SpaceStands (without_file stood.stands.space) heap
    space-stands = subst (λ (s : Space). SpaceStands s heap) (sym (space-unfiled stood.file stood.stands.space stood.stands.found)) stood.stands.stands

    -- no event yet
    none-shown : (more : List (Step StoredHeap)) → ShowsSince Stands heap (outside old) (outside store.host) more
    none-shown more =
        shown-since heap (outside old) (outside store.host) is.keeps.from is.told (past_along is.keeps.keeps.images) starts (outside store.host) more
        (shown_more Stands heap (outside store.host) (outside store.host) [] more
        (shown_begun Stands heap (outside store.host) (outside store.host) [] (so_far_none Stands heap (outside store.host) [] only).shown))

    none-told : (bytes : List ℕ) → (outside store.host).told (outside store.host).clock bytes → Adds ((outside old).told (outside old).clock) [] bytes
    none-told bytes at = record { before = bytes; was_told = along_now is.told bytes at; bytes_are = sym (append-nil bytes) }

  -- there was no room for the unit
  module _ (empty m : Machine) (size : empty.objects.size ≡ area_size run) (fault : SwizzleFault) (no : HasNoRoom (unit_of program) empty m fault) where
    report-is : report_for fault ≡ report_for (AreaFull no.top no.wanted empty.objects.size)
    report-is = ap report_for no.fault_is

    never-begins : (one : (a b : List ℕ) → (outside old).contents a → (outside old).contents b → a ≡ b) (heap : StoredHeap) → StoodFor (outside old) heap
        → ComesTo run input program heap (outside old) (outside store.host) (Err (report_for fault))
    never-begins one heap stood =
        let first = some_event (given_over run.turns input heap) program in
        let full = no.full in
        let area = size in
        steps.stopped {before = []} first.rest first.are (record {
          stops = subst (λ (r : Report). Stops run input program heap (outside old) (outside store.host) [] first.next (line_of r) (number_of (status_of r))) (sym report-is)
              (subst (λ (n : ℕ). Stops run input program heap (outside old) (outside store.host) [] first.next (area_full_line no.top no.wanted n) 11) (sym size)
              (runs.of_the_area (omega (arith, full, area)) (runs.of_the_unit refl no.ends (within-code program empty m fault no))));
          shown = λ line. none-shown one heap stood (broken line (commit_of first.next) ∷ []);
          told = none-told one heap stood;
          calm = is.output;
          leaves = λ image at. inl (only one heap stood image at);
        })

    pub never-ran : (one : (a b : List ℕ) → (outside old).contents a → (outside old).contents b → a ≡ b)
        → RanTo run input program (outside old) (outside store.host) (Err (report_for fault))
    never-ran one = record {
      comes = never-begins one;
      caused = subst (λ (f : SwizzleFault). IsCaused (outside old) (outside store.host) (number_of (status_of (report_for f)))) (sym no.fault_is) runs.area_full;
      counts = let same = is.output in omega (arith, same);
      found = is.keeps.found;
      attached = record {
        since = is.keeps.from.since;
        from = is.keeps.from.from;
        until = is.keeps.from.until;
        before = λ m image low lt at. is.keeps.from.before m image low (omega (arith, lt)) at;
        silent = λ m bytes low lt at. is.keeps.from.untold m bytes low (omega (arith, lt)) at;
      };
    }

  -- It was run.
  module _ (m : Machine) (size : m.objects.size ≡ area_size run) (new : H) (answer : Result Status Report) (by : RanBy outside store m new answer)
      (one : (a b : List ℕ) → (outside old).contents a → (outside old).contents b → a ≡ b) where
    device-counts : (outside old).device_faults ≤ (outside store.host).device_faults
    device-counts = is.counts

    output-counts : (outside store.host).output_faults ≤ (outside by.ran.host).output_faults
    output-counts = by.goes.output

    -- over a heap for which the volume stood
    module _ (shows-law : ProgramsShowTheirEvents (outside_of outside) (outside_of outside store) (outside_of outside by.ran))
        (told-law : (host : H) → ConcludesTold outside (outside old) store by.ran (outside host)) (failed-law : (host : H) → ConcludesFailed outside (outside old) store by.ran (outside host))
        (cut-law : ConcludesCut outside (outside old) store by.ran)
        (means : RunsAsMeant run.turns input program) (empty : Machine) (loaded : IsLoaded (outside_of outside store) (unit_of program) run.turns input empty m)
        (heap : StoredHeap) (stood : StoodFor (outside old) heap) where
      abbrev events : List Event
      events = events_of run input program heap

      shown : (like : StoredHeap) × IsSame heap like
          × Shows meant.Stands (outside_of outside store) (outside_of outside by.ran) [] by.left heap
          (BrokeFor (outside_of outside) (outside_of outside by.ran) m.objects.size (begin_over run.turns input program like)) events by.result
      shown =
          shows-law run.turns input program [] by.left stood.stands.space heap empty m by.result (held one heap stood) (space-stands one heap stood) (images one heap stood) means loaded by.runs

      abbrev Broke : StoredHeap → SwizzleFault → Type 0
      Broke like = BrokeFor (outside_of outside) (outside_of outside by.ran) m.objects.size (begin_over run.turns input program like)

      -- why it stopped
      module _ (host : H) (faults : (outside by.ran.host).device_faults ≡ (outside host).device_faults) (before : List Event) (next : Event) where
        abbrev StopsBy : SwizzleFault → Type 0
        StopsBy fault = Stops run input program heap (outside old) (outside host) before next (line_of (report_for fault)) (number_of (status_of (report_for fault)))

        of-area : (like : StoredHeap) → IsSame heap like → (top wanted its : ℕ) → its ≡ m.objects.size → its < top + wanted → runs.IsWanted run input program heap before top wanted
            → StopsBy (AreaFull top wanted its)
        of-area like same top wanted its same_size short object =
            subst (λ (n : ℕ). StopsBy (AreaFull top wanted n)) (sym (same_size ∙ size)) (runs.of_the_area (let a = same_size in let b = size in omega (arith, a, b, short)) object)

        of-device : Rose (outside_of outside store).device_faults (outside_of outside by.ran).device_faults → StopsBy (Vault vault.Device)
        of-device rose = runs.of_the_device (rose-into (outside old).device_faults (outside store.host).device_faults (outside by.ran.host).device_faults (outside host).device_faults device-counts rose faults)

        of-step : (like : StoredHeap) → IsSame heap like → (fault : SwizzleFault) → IsCause (outside_of outside store) (outside_of outside by.ran) (access_of store) fault → Broke like fault
            → StopsBy fault
        of-step like same (AreaFull top wanted its) cause b = ⊎_elim
            (λ one. of-area like same top wanted its one.0 (let a = one.0 in let c = one.1 in omega (arith, a, c)) (⊎_elim
            (λ makes. runs.of_a_step same b.way b.takes makes)
            (λ more. ⊎_elim (λ enters. runs.of_an_entry same b.way b.takes enters) (λ fetched. runs.of_a_fetch) more) one.2))
            (λ lacks.
            let e : AreaFull top wanted its ≡ AreaFull lacks.0 lacks.1 m.objects.size = lacks.2 in
            let t : top ≡ lacks.0 = cc in
            let w : wanted ≡ lacks.1 = cc in
            let same_size : its ≡ m.objects.size = cc in
            let short = lacks.3 in
            of-area like same top wanted its same_size (omega (arith, t, w, same_size, short)) (subst (λ (n : ℕ). runs.IsWanted run input program heap before top n) (sym w) (runs.of_a_call same b.way b.takes lacks.4)))
            b.by
        of-step like same (Vault vault.Device) cause b = of-device cause
        of-step like same (Vault vault.Output) cause b = ⊎_elim (λ none. absurd none) (λ lacks. absurd (not-full lacks.2)) b.by
          where
            not-full : {t w s : ℕ} → Vault vault.Output ≡ AreaFull t w s → ⊥
            not-full e = cc
        of-step like same (Vault (vault.Full used wanted capacity)) cause b = ⊎_elim (λ none. absurd none) (λ lacks. absurd (not-full lacks.2)) b.by
          where
            not-full : {t w s : ℕ} → Vault (vault.Full used wanted capacity) ≡ AreaFull t w s → ⊥
            not-full e = cc
        of-step like same (Vault (vault.NoPages pinned wanted pages)) cause b = ⊎_elim (λ none. absurd none) (λ lacks. absurd (not-full lacks.2)) b.by
          where
            not-full : {t w s : ℕ} → Vault (vault.NoPages pinned wanted pages) ≡ AreaFull t w s → ⊥
            not-full e = cc
        of-step like same (Vault (vault.Damaged at found wanted)) cause b = ⊎_elim (λ stuck. absurd (b.goes stuck)) (λ lacks. absurd (not-full lacks.2)) b.by
          where
            not-full : {t w s : ℕ} → Vault (vault.Damaged at found wanted) ≡ AreaFull t w s → ⊥
            not-full e = cc

        -- in a commit
        of-commit : (saved : StoredHeap) (counted : ℕ) → next ≡ Commit saved counted → (fault : SwizzleFault) → IsCause (outside_of outside store) (outside_of outside by.ran) (access_of store) fault
            → IsOfVault fault → is_alone store.table.pins.items ≡ true → StopsBy fault
        of-commit saved counted commits (AreaFull top wanted its) cause vaults alone = absurd vaults
        of-commit saved counted commits (Vault vault.Device) cause vaults alone = of-device cause
        of-commit saved counted commits (Vault vault.Output) cause vaults alone = absurd vaults
        of-commit saved counted commits (Vault (vault.Full used wanted capacity)) cause vaults alone = runs.of_the_volume used wanted capacity commits cause
        of-commit saved counted commits (Vault (vault.NoPages pinned wanted pages)) cause vaults alone = absurd (is-false (is_alone store.table.pins.items) alone cause.0)
        of-commit saved counted commits (Vault (vault.Damaged at found wanted)) cause vaults alone = runs.of_an_object at found wanted commits

      -- what the call concludes is how the run came to its end
      concluded : (like : StoredHeap) → IsSame heap like → (host : H) → (outside by.ran.host).device_faults ≡ (outside host).device_faults → (result : Result RunEnd SwizzleFault)
          → (result ≢ Err (Vault vault.Output)) → IfErr result (IsCause (outside_of outside store) (outside_of outside by.ran) (access_of store))
          → Concludes (outside old) (outside host) heap (Broke like) events result → ComesTo run input program heap (outside old) (outside host) (end_for result)
      concluded like same host faults result other caused (whole {e = e} before counted are all) =
          steps.its_end (status-is e ∙ ap status_of_end (end_is (given_over run.turns input heap) program before (end_of e) counted are)) all
      concluded like same host faults result other caused (broke {fault = fault} before rest next are b all leaves) =
          steps.stopped rest are (record {
            stops = of-step host faults before next like same fault caused b;
            shown = λ line. since_more Stands heap (outside old) (outside host) (steps_meant before) (broken line (commit_of next) ∷ []) all.shown;
            told = all.told;
            calm = all.calm;
            leaves = λ image at. inl (leaves image at);
          })
      concluded like same host faults result other caused (broke_in {fault = fault} before rest saved counted are b vaults) =
          steps.stopped rest are (record {
            stops = of-commit host faults before (Commit saved counted) saved counted refl fault caused vaults is.alone;
            shown = b.shown;
            told = b.told;
            calm = b.calm;
            leaves = b.leaves;
          })
      concluded like same host faults result other caused (cut all rose counts) = absurd (other refl)

      failed-to : (like : StoredHeap) (host : H) → Concludes (outside old) (outside host) heap (Broke like) events (Err (Vault vault.Output)) → ((fault : SwizzleFault) → Broke like fault → fault ≢ Vault vault.Output)
          → ComesTo run input program heap (outside old) (outside host) (Ok status.Output)
      failed-to like host (cut all rose counts) none = steps.failed rose counts all
      failed-to like host (broke before rest next are b all leaves) none = absurd (none (Vault vault.Output) b refl)
      failed-to like host (broke_in before rest saved counted are b vaults) none = absurd vaults

      comes-by : (answer : Result Status Report) → Leaves outside by.ran by.left by.result new answer → ComesTo run input program heap (outside old) (outside new) answer
      comes-by answer (told other all device) =
          concluded shown.0 shown.1 new (sym device.faults) by.result other by.caused (told-law new heap events m.objects.size _ by.left by.result (record { is_attached = is; starts = starts one heap stood; shows = shown.2 }) other all device)
      comes-by answer (failed other fails device) =
          failed-to shown.0 new (failed-law new heap events m.objects.size _ by.left by.result (record { is_attached = is; starts = starts one heap stood; shows = shown.2 }) other fails device)
          (none_by (outside_of outside) (outside_of outside by.ran) m.objects.size (begin_over run.turns input program shown.0))
      comes-by answer (running.cut result same) =
          subst (λ (h : H). ComesTo run input program heap (outside old) (outside h) (Ok status.Output)) (sym same)
          (failed-to shown.0 by.ran.host
          (cut-law heap events m.objects.size (begin_over run.turns input program shown.0) by.left
          (subst (λ (r : Result RunEnd SwizzleFault). RunsOver outside (outside old) store by.ran heap events m.objects.size (begin_over run.turns input program shown.0) by.left r) result
          (record { is_attached = is; starts = starts one heap stood; shows = shown.2 })))
          (none_by (outside_of outside) (outside_of outside by.ran) m.objects.size (begin_over run.turns input program shown.0)))

      pub comes : ComesTo run input program heap (outside old) (outside new) answer
      comes = comes-by answer by.leaves

    -- why it is answered, whatever the volume stood for
    caused-report : (host : H) → (outside by.ran.host).device_faults ≡ (outside host).device_faults → (fault : SwizzleFault) → IsCause (outside_of outside store) (outside_of outside by.ran) (access_of store) fault
        → HasReport fault → IsCaused (outside old) (outside host) (number_of (status_of (report_for fault)))
    caused-report host faults (AreaFull top wanted its) cause has = runs.area_full
    caused-report host faults (Vault vault.Device) cause has =
        runs.device (rose-into (outside old).device_faults (outside store.host).device_faults (outside by.ran.host).device_faults (outside host).device_faults device-counts cause faults)
    caused-report host faults (Vault vault.Output) cause has = absurd has
    caused-report host faults (Vault (vault.Full used wanted capacity)) cause has = runs.volume_full used wanted capacity cause
    caused-report host faults (Vault (vault.NoPages pinned wanted pages)) cause has = absurd has
    caused-report host faults (Vault (vault.Damaged at found wanted)) cause has = runs.damaged

    caused-end : (host : H) → (outside by.ran.host).device_faults ≡ (outside host).device_faults → (result : Result RunEnd SwizzleFault) → result ≢ Err (Vault vault.Output)
        → IfErr result (IsCause (outside_of outside store) (outside_of outside by.ran) (access_of store)) → CausedBy (outside old) (outside host) (end_for result)
    caused-end host faults (Ok e) other cause = subst (λ (n : ℕ). IsCaused (outside old) (outside host) n) (sym (status-is e)) (runs.an_end (end_of e))
    caused-end host faults (Err fault) other cause =
        caused-report host faults fault cause (has-report outside store by.ran fault is.alone cause (λ e. other (ap (λ (f : SwizzleFault). Err f) e)))

    caused-by : (answer : Result Status Report) → Leaves outside by.ran by.left by.result new answer → CausedBy (outside old) (outside new) answer
    caused-by answer (told other all device) = caused-end new (sym device.faults) by.result other by.caused
    caused-by answer (failed other fails device) =
        runs.output (rose-into (outside old).output_faults (outside by.ran.host).output_faults (outside new).output_faults (outside new).output_faults
        (let same = is.output in let more = output-counts in omega (arith, same, more)) fails.rose refl)
    caused-by answer (running.cut result same) =
        let cause = subst (λ (r : Result RunEnd SwizzleFault). IfErr r (IsCause (outside_of outside store) (outside_of outside by.ran) (access_of store))) result by.caused in
        runs.output (rose-into (outside old).output_faults (outside store.host).output_faults (outside by.ran.host).output_faults (outside new).output_faults
        (let same = is.output in omega (arith, same)) cause (ap (λ (h : H). (outside h).output_faults) (sym same)))

    counts-by : (answer : Result Status Report) → Leaves outside by.ran by.left by.result new answer → (outside old).output_faults ≤ (outside new).output_faults
    counts-by answer (told other all device) = let a = is.output in let b = output-counts in let c = all.calm in omega (arith, a, b, c)
    counts-by answer (failed other fails device) = let a = is.output in let b = output-counts in let c = fails.counts in omega (arith, a, b, c)
    counts-by answer (running.cut result same) =
        let a = is.output in let b = output-counts in let c = ap (λ (h : H). (outside h).output_faults) same in omega (arith, a, b, c)

    -- what was seen of the moments before stays
    record Kept (host : H) : Type 0 where
      past : KeepsPast (outside store.host) (outside host)
      told : KeepsTold (outside store.host) (outside host)

    ran-kept : Kept by.ran.host
    ran-kept = record { past = device_past SpaceStands nothing_stored Staged Staged store.used by.ran.used store.table by.ran.table (outside store.host) (outside by.ran.host) by.goes.past; told = by.goes.told }

    kept-by : (answer : Result Status Report) → Leaves outside by.ran by.left by.result new answer → Kept new
    kept-by answer (told other all device) = record { past = past_then ran-kept.past (past_along device.images); told = past_then ran-kept.told (past_along all.front) }
    kept-by answer (failed other fails device) = record { past = past_then ran-kept.past (past_along device.images); told = past_then ran-kept.told (past_along fails.front) }
    kept-by answer (running.cut result same) = subst Kept (sym same) ran-kept

    attached-at : Kept new → AttachesAt (outside old) (outside new)
    attached-at k = record {
      since = is.keeps.from.since;
      from = is.keeps.from.from;
      until = let a = is.keeps.from.until in let b = k.past.later in omega (arith, a, b);
      before = λ m image low lt at. is.keeps.from.before m image low (omega (arith, lt)) (k.past.no_other m image (let a = is.keeps.from.until in omega (arith, lt, a)) at);
      silent = λ m bytes low lt at. is.keeps.from.untold m bytes low (omega (arith, lt)) (k.told.no_other m bytes (let a = is.keeps.from.until in omega (arith, lt, a)) at);
    }

    pub ran-to : ((heap : StoredHeap) → StoodFor (outside old) heap → ComesTo run input program heap (outside old) (outside new) answer) → RanTo run input program (outside old) (outside new) answer
    ran-to over = record {
      comes = over;
      caused = caused-by answer by.leaves;
      counts = counts-by answer by.leaves;
      found = is.keeps.found;
      attached = attached-at (kept-by answer by.leaves);
    }
