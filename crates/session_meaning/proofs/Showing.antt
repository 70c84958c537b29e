-- A run shows what is meant.
use Rattle.std.proofs.Common.{◌≡◌, ◌⊎◌, inl, inr, ℕ, List, [], ◌∷◌, ◌++◌, refl, sym, ap, ◌∙◌, subst, append_assoc, Some, None}
use Rattle.std.specs.Prelude.{Result, Ok, Err, map}
use Rattle.std.proofs.lemmas.List.{append-nil, map-append}
use Rattle.commit_moments.specs.Steps.{Step, heap_after, owing}
use Rattle.commit_moments.specs.Shown.{Shown, SoFar}
use Rattle.commit_moments.specs.Like.{AreLike}
use Rattle.commit_moments.proofs.LikeLaws.{heap-like, shown_like, so_far_like, broke_off_like}
use Rattle.commit_moments.proofs.ShownLaws.{shown_more}
use Rattle.ps_outside.specs.Outside.{Outside}
use Rattle.obj_layout.specs.Stored.{Space, without_file}
use Rattle.machine_core.specs.swizzle.declared.fault.SwizzleFault.{SwizzleFault}
use Rattle.ps_heap.specs.Ends.{End}
use Rattle.ps_heap.specs.Events.{Event, Commit, Finish}
use Rattle.ps_heap.specs.Held.{StoredHeap}
use Rattle.machine_core.specs.ps_stepping.Config.{Config}
use Rattle.machine_core.specs.ps_stepping.Machine.{Step as Moves, Goes, Stops, Steps, Runs, and_touched}
use Rattle.machine_core.specs.ps_stepping.Path.{Reaches, Finishes}
use Rattle.machine_core.specs.ps_stepping.Path as path
use Rattle.ps_stepping.proofs.Paths.{rest_is, way_ends, is_never_stuck, stops_at_the_end, front_on_the_way}
use Rattle.database_steps.proofs.Runs.{among_events}
use Rattle.machine_core.specs.declared.run_end.RunEnd.{RunEnd}
use Rattle.machine_core.specs.Stepped.{end_of}
use Rattle.ps_code_laws.specs.Compiled.{compiled_events}
use Rattle.space_meaning.proofs.SameHeaps.{stands-same}
use Rattle.space_meaning.specs.Stands.{SpaceStands}
use Rattle.session_run.specs.Kept.{Kept, AtStart, Since, StandsAs, ReadsAs, step_of, steps_of, reporting}
use Rattle.session_run.specs.Ran as run
use Rattle.session_run.specs.Ran.{Ran, ended, cut, broke, broke_in, report_cut}
use Rattle.session_meaning.specs.Meant.{step_meant, steps_meant, Stands, AreSeenAs}
use Rattle.unit_meaning.specs.Keeping.{KeepFitHeaps}
use Rattle.session_meaning.specs.Shows as form
use Rattle.session_meaning.specs.Shows.{BrokeFor, Shows, HasDone, IsCut}
use Rattle.session_meaning.proofs.Splitting.{IsMeant, Done, done, another, a-commit, an-end}

-- events that finish are some
some-event : (c : Config) (events : List Event) → Finishes c events → (x : Event) × (xs : List Event) × (events ≡ x ∷ xs)
some-event c events (path.stops {e = e} {touched = touched} s) = (Finish e (and_touched touched c.store.held.counted), [], refl)
some-event c events (path.goes {next = next} {events = []} {behind = behind} s way) = some-event next behind way
some-event c events (path.goes {next = next} {events = x ∷ xs} {behind = behind} s way) = (x, xs ++ behind, refl)

module _ {V : Type 0} (outside : V → Outside Space) (old new : Outside Space) (owed left : List ℕ) (size : ℕ) (c : Config) (heap : StoredHeap)
    (total events : List Event) (starts : (space : Space) → old.images old.clock space → Stands space heap)
    (reads : (space : Space) → old.contents space → Stands space heap) (runs : Runs (compiled_events total) c [])
    (fit : KeepFitHeaps total) (seen : AreSeenAs total events) where
  seen-meant : (x : Space) (k : Kept) (h : StoredHeap) → IsMeant heap k h → StandsAs old x k → Stands x h
  seen-meant x AtStart h is so =
      subst (Stands x) (sym is) (subst (λ (s : Space). SpaceStands s heap) so.by (starts so.from so.was))
  seen-meant x (Since k) h meant so = stands-same (without_file x) meant.0 h meant.2 (so meant.0 meant.1)

  read-meant : (x : Space) (k : Kept) (h : StoredHeap) → IsMeant heap k h → ReadsAs old x k → Stands x h
  read-meant x AtStart h is so =
      subst (Stands x) (sym is) (subst (λ (s : Space). SpaceStands s heap) so.by (reads so.from so.was))
  read-meant x (Since k) h meant so = stands-same (without_file x) meant.0 h meant.2 (so meant.0 meant.1)

  -- what was done of a way is done of the front that is meant so
  module _ (es : List Event) (front : List Event) (like : AreLike (IsMeant heap) (steps_of es) (steps_meant front)) where
    shown-front : Shown (StandsAs old) AtStart old new (owing owed ∷ steps_of es) → Shown Stands heap old new (owing owed ∷ steps_meant front)
    shown-front s =
        shown_like (IsMeant heap) (StandsAs old) Stands seen-meant AtStart heap refl old new (owing owed ∷ steps_of es) (owing owed ∷ steps_meant front) (refl, tt, like) s

    done-front : run.HasDone old new owed left (steps_of es) → HasDone Stands old new owed left heap front
    done-front s = record {
      so_far = so_far_like (IsMeant heap) (StandsAs old) Stands seen-meant AtStart heap refl old new (owing owed ∷ steps_of es) (owing owed ∷ steps_meant front) left
          (refl, tt, like) s.so_far;
      contents = λ x at. read-meant x (heap_after AtStart (steps_of es)) (heap_after heap (steps_meant front))
          (heap-like (IsMeant heap) AtStart heap refl (steps_of es) (steps_meant front) like) (s.contents x at);
      calm = s.calm;
    }

  -- and a prefix of the steps that are meant so is one of all
  cut-whole : (es : List Event) (front rest : List Event) → events ≡ front ++ rest → AreLike (IsMeant heap) (steps_of es) (steps_meant front)
      → run.IsCut old new owed left (steps_of es) → IsCut Stands old new owed left heap events
  cut-whole es front rest are like is = record {
    shown = subst (λ (ms : List (Step StoredHeap)). Shown Stands heap old new (owing owed ∷ ms)) (sym (map-append step_meant front rest) ∙ ap steps_meant (sym are))
        (shown_more Stands heap old new (owing owed ∷ steps_meant front) (steps_meant rest) (shown-front es front like is.shown));
    rose = is.rose;
    none = is.none;
  }

  -- the steps of a way and the report of its end
  with-end : (es : List Event) (e : RunEnd) (n : ℕ) → steps_of es ++ reporting e ∷ [] ≡ steps_of (es ++ Finish (end_of e) n ∷ [])
  with-end es e n = sym (map-append step_of es (Finish (end_of e) n ∷ []))

  at-the-end : (es : List Event) (last : Config) (e : RunEnd) (touched : ℕ) → Reaches c es last → Steps last (Stops (end_of e) touched)
      → (n : ℕ) × (compiled_events total ≡ es ++ Finish (end_of e) n ∷ [])
  at-the-end es last e touched way stops = (and_touched touched last.store.held.counted, stops_at_the_end (compiled_events total) c last es (end_of e) touched runs way stops)

  -- the whole of it was done
  all-like : (es : List Event) → compiled_events total ≡ es → AreLike (IsMeant heap) (steps_of es) (steps_meant events)
  all-like es is =
      let d = done heap total events es [] (is ∙ sym (append-nil es)) fit seen in
      subst (λ (fs : List Event). AreLike (IsMeant heap) (steps_of es) (steps_meant fs)) (no-rest d) d.like
    where
      none-left : (behind rest : List Event) → compiled_events behind ≡ [] → AreSeenAs behind rest → rest ≡ []
      none-left [] [] is' s = refl
      none-left [] (x ∷ rest) is' s = absurd s
      none-left (y ∷ behind) rest is' s = absurd cc

      no-rest : (d : Done heap es [] events) → d.front ≡ events
      no-rest d =
          sym (append-nil d.front) ∙ ap (λ (fs : List Event). d.front ++ fs) (sym (none-left d.behind d.rest d.compiled_is d.seen)) ∙ sym d.are

  pub shows : (result : Result RunEnd SwizzleFault) → Ran old new owed left outside size c result → Shows Stands old new owed left heap (BrokeFor outside new size c) events result
  shows result (ended {events = es} {last = last} {e = e} {touched = touched} way stops did) =
      let end = at-the-end es last e touched way stops in
      let d = done heap total events es (Finish (end_of e) end.0 ∷ []) end.1 fit seen in
      let its = an-end heap d.behind d.rest (end_of e) end.0 d.compiled_is d.seen in
      form.whole d.front its.counted (d.are ∙ ap (λ (rest : List Event). d.front ++ rest) its.are)
      (done-front (es ++ Finish (end_of e) end.0 ∷ []) events (all-like (es ++ Finish (end_of e) end.0 ∷ []) end.1)
      (subst (λ (ms : List (Step Kept)). run.HasDone old new owed left ms) (with-end es e end.0) did))
  shows result (broke {events = es} {last = last} {s = s} vault way step by did) =
      let rest = way_ends (compiled_events total) c last es runs way in
      let some = some-event last rest.0 rest.1 in
      let d = done heap total events es rest.0 (rest_is (compiled_events total) c last es rest.0 runs way rest.1) fit seen in
      let more = another heap d.behind d.rest some.0 some.1 (d.compiled_is ∙ some.2) d.seen in
      form.broke d.front more.others more.next (d.are ∙ ap (λ (fs : List Event). d.front ++ fs) more.are)
      (record {
        vault = vault;
        events = es;
        last = last;
        step = s;
        way = way;
        takes = step;
        by = by;
        goes = λ e. is_never_stuck (compiled_events total) c last es runs way (subst (λ (x : Moves). Steps last x) e step);
      }) (done-front es d.front d.like did)
  shows result (broke_in {events = es} {last = last} {next = next} {heap = k} {counted = n} way step breaks vaults) =
      let rest = among_events (compiled_events total) [] es (Commit k n ∷ []) c last next runs way step in
      let d = done heap total events es (Commit k n ∷ rest.0) rest.1 fit seen in
      let its = a-commit heap d.behind d.rest k n rest.0 d.compiled_is d.fit d.seen in
      form.broke_in d.front its.others its.saved its.counted (d.are ∙ ap (λ (fs : List Event). d.front ++ fs) its.are) (record {
        broke = broke_off_like (IsMeant heap) (StandsAs old) Stands seen-meant AtStart heap refl old new (owing owed ∷ steps_of es) (owing owed ∷ steps_meant d.front) (Since k) its.saved
            (refl, tt, d.like) its.meant breaks.broke;
        none = breaks.none;
        calm = breaks.calm;
      }) vaults
  shows result (cut {events = es} {last = last} way is) =
      let rest = front_on_the_way (compiled_events total) c last es runs way in
      let d = done heap total events es rest.0 rest.1 fit seen in
      form.cut (cut-whole es d.front d.rest d.are d.like is)
  shows result (report_cut {events = es} {last = last} {touched = touched} e way stops is) =
      let end = at-the-end es last e touched way stops in
      let all = es ++ Finish (end_of e) end.0 ∷ [] in
      form.cut (cut-whole all events [] (sym (append-nil events)) (all-like all end.1)
      (subst (λ (ms : List (Step Kept)). run.IsCut old new owed left ms) (with-end es e end.0) is))
