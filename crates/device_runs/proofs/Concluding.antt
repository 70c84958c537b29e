-- What is pending after a run goes out by the host, or the output fails in it.
use Rattle.std.proofs.Common.{◌≡◌, ◌⊎◌, inl, inr, ⊎_elim, ℕ, ◌≤◌, List, [], ◌∷◌, ◌++◌, refl, sym, ◌∙◌, subst, append_assoc, arith, Some}
use Rattle.std.specs.Prelude.{map, Result, Ok, Err}
use Rattle.std.proofs.lemmas.List.{append-nil, map-append}
use Rattle.ps_port.specs.ps_outside.Outside.{Outside, Adds, TellsNothing, TellsPrefix, Rose}
use Rattle.ps_port.specs.ps_outside.Past.{KeepsPast}
use Rattle.ps_port.specs.Telling.{TellsAll, FailsAfter, LeavesDevice}
use Rattle.ps_outside.proofs.PastMoments.{past_along, past_then}
use Rattle.ps_volumes.specs.volume_next.Moving.{KeepsFrom}
use Rattle.obj_layout.specs.declared.vault.VaultFault.TheVariants.{Output}
use Rattle.ps_heap.specs.Events.{Event, Commit}
use Rattle.ps_heap.specs.Held.{StoredHeap}
use Rattle.commit_moments.specs.Steps.{Step, output_by, heap_after, owing, broken}
use Rattle.commit_moments.specs.Shown.{LeavesOnly, LeavesAlike, Shown, SoFar, BrokeOff, ShowsSince}
use Rattle.commit_moments.proofs.ShownLaws.{either, adds_is, adds_then, so_far_then, shown_then, shown_begun, shown_more, all_told}
use Rattle.commit_moments.proofs.StepLaws.{none_prefix, prefix-nil, amid_fewer}
use Rattle.commit_moments.proofs.CallLaws.{send_shown, so_far_sent, report_shown}
use Rattle.session_meaning.specs.session_run.machine_core.swizzle.declared.fault.SwizzleFault.{SwizzleFault}
use Rattle.session_meaning.specs.session_run.machine_core.swizzle.declared.fault.SwizzleFault.TheVariants.{AreaFull, Vault}
use Rattle.session_meaning.specs.session_run.machine_core.declared.run_end.RunEnd.{RunEnd}
use Rattle.session_meaning.specs.Meant.{step_meant, steps_meant}
use Rattle.session_meaning.specs.Shows as shows
use Rattle.session_meaning.specs.Shows.{BrokeFor, Shows}
use Rattle.session_meaning.specs.session_run.machine_core.Full.{BreaksBy}
use Rattle.session_meaning.specs.session_run.machine_core.ps_stepping.Config.{Config}
use Rattle.session_meaning.specs.session_run.machine_core.ps_stepping.Machine as machine
use Rattle.session_meaning.specs.session_run.machine_commits.machine_databases.Calls.{LacksRoom}
use Rattle.obj_layout.specs.Stored.{Space}
use Rattle.volume_meaning.specs.Stands.{Stands}
use Rattle.device_runs.specs.Concluded as concluded
use Rattle.device_runs.specs.Concluded.{ShowsAll, BrokeSince, Concludes}
use Rattle.device_runs.proofs.Since.{attached-only, told-since, shown-since}

-- a step never breaks off for the output
pub none_by : {V : Type 0} (outside : V → Outside Space) (new : Outside Space) (size : ℕ) (c : Config) (fault : SwizzleFault) → BrokeFor outside new size c fault
    → fault ≡ Vault Output → ⊥
none_by outside new size c fault broke is =
    ⊎_elim (λ by. subst (λ (f : SwizzleFault). BreaksBy (outside broke.vault) new size broke.step f) is by)
    (λ lacks. no-output size broke.step (subst (LacksRoom size broke.step) is lacks)) broke.by
  where
    no-output : (size : ℕ) (s : machine.Step) → LacksRoom size s (Vault Output) → ⊥
    no-output size s lacks = let e : Vault Output ≡ AreaFull lacks.0 lacks.1 size = lacks.2 in cc

module _ (heap : StoredHeap) (old a : Outside (List ℕ)) (from : KeepsFrom old a) (tells : TellsNothing old a) (past : KeepsPast old a) (calm : a.output_faults ≡ old.output_faults)
    (starts : (bytes : List ℕ) → old.contents bytes → Stands bytes heap) where
  since : (c : Outside (List ℕ)) (steps : List (Step StoredHeap)) → Shown Stands heap a c (owing [] ∷ steps) → ShowsSince Stands heap old c steps
  since c steps is = shown-since heap old a from tells past starts c steps (shown_begun Stands heap a c steps is)

  -- all was output
  all-since : (c : Outside (List ℕ)) (steps : List (Step StoredHeap)) → SoFar Stands heap a c (owing [] ∷ steps) [] → c.output_faults ≡ a.output_faults → ShowsAll old c heap steps
  all-since c steps is still = record {
    shown = since c steps is.shown;
    told = told-since heap old a from tells past starts c steps (all_told Stands a c (owing [] ∷ steps) is.due);
    calm = still ∙ calm;
  }

  -- more events come after those that were shown
  more-since : (c : Outside (List ℕ)) (events before rest : List Event) → events ≡ before ++ rest → Shown Stands heap a c (owing [] ∷ steps_meant before)
      → ShowsSince Stands heap old c (steps_meant events)
  more-since c events before rest are is =
      subst (λ (es : List Event). ShowsSince Stands heap old c (steps_meant es)) (sym are)
      (since c (steps_meant (before ++ rest))
      (subst (λ (ms : List (Step StoredHeap)). Shown Stands heap a c (owing [] ∷ ms)) (sym (map-append step_meant before rest))
      (shown_more Stands heap a c (owing [] ∷ steps_meant before) (steps_meant rest) is)))

  rose-since : (n : ℕ) → Rose a.output_faults n → Rose old.output_faults n
  rose-since n is = subst (λ (m : ℕ). Rose m n) calm is

  -- a call of the output by the host, with this left of what was due
  module _ (b c : Outside (List ℕ)) (left : List ℕ) (device : LeavesDevice b c) (steps : List (Step StoredHeap)) (so_far : SoFar Stands heap a b (owing [] ∷ steps) left) where
    alike : LeavesAlike Stands b c
    alike = record { each = λ m image low until at. (image, device.images.each m image low until at, (λ h so. so)) }

    none-more : (owing [] ∷ steps) ++ [] ≡ owing [] ∷ steps
    none-more = append-nil (owing [] ∷ steps)

    pub flushed : TellsAll b c left → SoFar Stands heap a c (owing [] ∷ steps) []
    flushed is =
        subst (λ (ms : List (Step StoredHeap)). SoFar Stands heap a c ms []) none-more
        (so_far_then Stands heap a b c (owing [] ∷ steps) [] left so_far []
        (so_far_sent Stands (heap_after heap (owing [] ∷ steps)) b c (past_along device.images) so_far.leaves left left [] [] tt refl is.front alike is.all))

    pub not_flushed : FailsAfter b c left → Shown Stands heap a c (owing [] ∷ steps)
    not_flushed is =
        subst (λ (ms : List (Step StoredHeap)). Shown Stands heap a c ms) none-more
        (shown_then Stands heap a b c (owing [] ∷ steps) [] left so_far
        (send_shown Stands (heap_after heap (owing [] ∷ steps)) b c (past_along device.images) so_far.leaves left left [] [] tt refl is.front alike))

  module _ (b : Outside (List ℕ)) (counts : a.output_faults ≤ b.output_faults) (left : List ℕ) (Broke : SwizzleFault → Type 0) (events : List Event) where
    -- where the output failed in the run, nothing is pending
    pub concludes-cut : Shows Stands a b [] left heap Broke events (Err (Vault Output)) → ((fault : SwizzleFault) → Broke fault → fault ≡ Vault Output → ⊥)
        → Concludes old b heap Broke events (Err (Vault Output))
    concludes-cut (shows.cut is) none = concluded.cut (since b (steps_meant events) is.shown) (rose-since b.output_faults is.rose) (subst (λ (n : ℕ). n ≤ b.output_faults) calm counts)
    concludes-cut (shows.broke before rest next are by done) none = absurd (none (Vault Output) by refl)
    concludes-cut (shows.broke_in before rest next n are breaks vaults) none = absurd vaults

    module _ (c : Outside (List ℕ)) (device : LeavesDevice b c) where
      kept-alike : LeavesAlike Stands b c
      kept-alike = record { each = λ m image low until at. (image, device.images.each m image low until at, (λ h so. so)) }

      -- nothing more was output after a commit in which the device failed
      broke-kept : (steps : List (Step StoredHeap)) (next : StoredHeap) → TellsPrefix b c [] → BrokeOff Stands heap a b steps next → BrokeOff Stands heap a c steps next
      broke-kept steps next tells broke = record {
        shown = λ line. record {
          told_past = past_then (broke.shown line).told_past (past_along tells);
          past = past_then (broke.shown line).past (past_along device.images);
          each = λ m bytes low until at. ⊎_elim
              (λ early. amid_fewer Stands heap (steps ++ broken line (Some next) ∷ []) (a.told a.clock) bytes (b.images m) (c.images m)
              ((broke.shown line).each m bytes low early (tells.no_other m bytes early at)) (λ image is. device.images.no_other m image early is))
              (λ late. record {
                done = steps;
                rest = broken line (Some next) ∷ [];
                steps_are = refl;
                front = [];
                is_prefix = none_prefix line;
                told = still-told m bytes late until at;
                leaves = λ image is. broke.leaves image (device.images.each m image late until is);
              })
              (either m b.clock);
        };
        told = λ bytes at.
            adds_is (a.told a.clock) (output_by steps ++ []) (output_by steps) bytes (append-nil (output_by steps))
            (still-told c.clock bytes tells.later (omega arith) at);
        leaves = λ image is. broke.leaves image (device.images.each c.clock image device.images.later (omega arith) is);
      }
        where
          still-told : (m : ℕ) (bytes : List ℕ) → b.clock ≤ m → m ≤ c.clock → c.told m bytes → Adds (a.told a.clock) (output_by steps ++ []) bytes
          still-told m bytes low until at =
              let told = tells.each m bytes low until at in
              let none = prefix-nil told.front told.is_front in
              adds_then (a.told a.clock) (b.told b.clock) (output_by steps) [] bytes broke.told (adds_is (b.told b.clock) told.front [] bytes none told.adds)

      -- what was pending went out
      pub concludes-told : (result : Result RunEnd SwizzleFault) → (result ≡ Err (Vault Output) → ⊥) → TellsAll b c left → Shows Stands a b [] left heap Broke events result
          → Concludes old c heap Broke events result
      concludes-told result other all (shows.whole before n is done) = concluded.whole before n is (all-since c (steps_meant events) (flushed b c left device (steps_meant events) done.so_far all) (all.calm ∙ done.calm))
      concludes-told result other all (shows.broke before rest next is by done) =
          let told = flushed b c left device (steps_meant before) done.so_far all in concluded.broke before rest next is by (all-since c (steps_meant before) told (all.calm ∙ done.calm)) told.leaves
      concludes-told result other all (shows.broke_in before rest next n is breaks vaults) =
          let nothing = subst (λ (bytes : List ℕ). TellsPrefix b c bytes) breaks.none all.front in
          let broke = broke-kept (owing [] ∷ steps_meant before) next nothing breaks.broke in
          concluded.broke_in before rest next n is (record {
            shown = λ line. since c (steps_meant before ++ broken line (Some next) ∷ []) (broke.shown line);
            told = told-since heap old a from tells past starts c (steps_meant before) broke.told;
            calm = all.calm ∙ breaks.calm ∙ calm;
            leaves = broke.leaves;
          }) vaults
      concludes-told result other all (shows.cut is) = absurd (other refl)

      rose-after : (m n k : ℕ) → m ≤ n → Rose n k → Rose m k
      rose-after m n k le (inl less) = inl (omega (arith, le, less))
      rose-after m n k le (inr last) = inr last

      counts-after : (m n k : ℕ) → m ≡ old.output_faults → m ≤ n → n ≤ k → old.output_faults ≤ k
      counts-after m n k same one two = omega (arith, same, one, two)

      -- the output failed in what was pending
      pub concludes-failed : (result : Result RunEnd SwizzleFault) → (result ≡ Err (Vault Output) → ⊥) → FailsAfter b c left → Shows Stands a b [] left heap Broke events result
          → Concludes old c heap Broke events (Err (Vault Output))
      concludes-failed result other fails shown =
          concluded.cut (by-case result other shown) (rose-since c.output_faults (rose-after a.output_faults b.output_faults c.output_faults counts fails.rose))
          (counts-after a.output_faults b.output_faults c.output_faults calm counts fails.counts)
        where
          by-case : (result : Result RunEnd SwizzleFault) → (result ≡ Err (Vault Output) → ⊥) → Shows Stands a b [] left heap Broke events result
              → ShowsSince Stands heap old c (steps_meant events)
          by-case result other (shows.whole before n is done) = since c (steps_meant events) (not_flushed b c left device (steps_meant events) done.so_far fails)
          by-case result other (shows.broke before rest next is by done) =
              more-since c events before (next ∷ rest) is (not_flushed b c left device (steps_meant before) done.so_far fails)
          by-case result other (shows.broke_in before rest next n is breaks vaults) =
              let nothing = subst (λ (bytes : List ℕ). TellsPrefix b c bytes) breaks.none fails.front in
              more-since c events (before ++ Commit next n ∷ []) rest (is ∙ sym (append_assoc before (Commit next n ∷ []) rest))
              (subst (λ (ms : List (Step StoredHeap)). Shown Stands heap a c (owing [] ∷ ms)) (sym (map-append step_meant before (Commit next n ∷ [])))
              (report_shown Stands heap a b c (owing [] ∷ steps_meant before) next [] breaks.broke (past_along device.images) nothing kept-alike))
          by-case result other (shows.cut is) = absurd (other refl)
