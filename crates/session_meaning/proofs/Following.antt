-- One run after another, over the same vault.
use Rattle.std.proofs.Common.{◌≡◌, ℕ, List, [], ◌∷◌, ◌++◌, sym, ◌∙◌, ap, subst, append_assoc}
use Rattle.std.specs.Prelude.{map, Result, Ok, Err}
use Rattle.std.proofs.lemmas.List.{map-append}
use Rattle.commit_moments.specs.Steps.{Step, heap_after, owing}
use Rattle.commit_moments.specs.Shown.{Shown, SoFar, BrokeOff}
use Rattle.commit_moments.proofs.StepLaws.{heap-append}
use Rattle.commit_moments.proofs.ShownLaws.{so_far_then, shown_then, broke_off_then}
use Rattle.ps_outside.specs.Outside.{Outside, Rose}
use Rattle.machine_core.specs.swizzle.declared.fault.SwizzleFault.{SwizzleFault}
use Rattle.ps_heap.specs.Events.{Event, Commit, Finish}
use Rattle.ps_heap.specs.Held.{StoredHeap}
use Rattle.machine_core.specs.declared.run_end.RunEnd.{RunEnd}
use Rattle.machine_core.specs.Stepped.{end_of}
use Rattle.session_meaning.specs.Meant.{step_meant, steps_meant}
use Rattle.session_meaning.specs.Shows as form
use Rattle.session_meaning.specs.Shows.{HasDone, IsCut, BreaksIn, Shows}

module _ {X : Type 0} (stands : X → StoredHeap → Type 0) (a b c : Outside X) (owed left rest : List ℕ) (heap : StoredHeap) (events : List Event) (first : HasDone stands a b owed left heap events) where
  abbrev between : StoredHeap
  between = heap_after heap (steps_meant events)

  parts : (es : List Event) → steps_meant (events ++ es) ≡ steps_meant events ++ steps_meant es
  parts es = map-append step_meant events es

  done-then : (es : List Event) → HasDone stands b c left rest between es → HasDone stands a c owed rest heap (events ++ es)
  done-then es next = record {
    so_far = subst (λ (ms : List (Step StoredHeap)). SoFar stands heap a c (owing owed ∷ ms) rest) (sym (parts es))
        (so_far_then stands heap a b c (owing owed ∷ steps_meant events) (steps_meant es) left first.so_far rest next.so_far);
    contents = λ x at. subst (stands x) (sym (ap (heap_after heap) (parts es) ∙ heap-append heap (steps_meant events) (steps_meant es))) (next.contents x at);
    calm = next.calm ∙ first.calm;
  }

  rose-then : (m n k : ℕ) → n ≡ m → Rose n k → Rose m k
  rose-then m n k same rose = subst (λ (x : ℕ). Rose x k) same rose

  cut-then : (es : List Event) → IsCut stands b c left rest between es → IsCut stands a c owed rest heap (events ++ es)
  cut-then es next = record {
    shown = subst (λ (ms : List (Step StoredHeap)). Shown stands heap a c (owing owed ∷ ms)) (sym (parts es))
        (shown_then stands heap a b c (owing owed ∷ steps_meant events) (steps_meant es) left first.so_far next.shown);
    rose = rose-then a.output_faults b.output_faults c.output_faults first.calm next.rose;
    none = next.none;
  }

  breaks-then : (es : List Event) (saved : StoredHeap) → BreaksIn stands b c left rest between es saved → BreaksIn stands a c owed rest heap (events ++ es) saved
  breaks-then es saved next = record {
    broke = subst (λ (ms : List (Step StoredHeap)). BrokeOff stands heap a c (owing owed ∷ ms) saved) (sym (parts es))
        (broke_off_then stands heap a b c (owing owed ∷ steps_meant events) (steps_meant es) left saved first.so_far next.broke);
    none = next.none;
    calm = next.calm ∙ first.calm;
  }

  -- what the second shows comes after what the first did
  pub shows-then : (Broke : SwizzleFault → Type 0) (more : List Event) (result : Result RunEnd SwizzleFault) → Shows stands b c left rest between Broke more result
      → Shows stands a c owed rest heap Broke (events ++ more) result
  shows-then Broke more result (form.whole {e = e} before counted are done) =
      form.whole (events ++ before) counted (ap (λ (es : List Event). events ++ es) are ∙ sym (append_assoc events before (Finish (end_of e) counted ∷ []))) (done-then more done)
  shows-then Broke more result (form.broke before after next are by done) =
      form.broke (events ++ before) after next (ap (λ (es : List Event). events ++ es) are ∙ sym (append_assoc events before (next ∷ after))) by (done-then before done)
  shows-then Broke more result (form.broke_in before after saved counted are breaks vaults) =
      form.broke_in (events ++ before) after saved counted (ap (λ (es : List Event). events ++ es) are ∙ sym (append_assoc events before (Commit saved counted ∷ after))) (breaks-then before saved breaks) vaults
  shows-then Broke more result (form.cut is) = form.cut (cut-then more is)
