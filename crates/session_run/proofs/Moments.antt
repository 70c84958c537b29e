-- What a run does so far, one part after another.
use Rattle.std.proofs.Common.{◌≡◌, ◌⊎◌, inl, inr, ⊎_elim, ℕ, ◌≤◌, List, [], ◌∷◌, ◌++◌, refl, sym, ap, ◌∙◌, subst, append_assoc, arith}
use Rattle.std.specs.Prelude.{map, Some, None}
use Rattle.std.proofs.lemmas.List.{append-nil, map-append}
use Rattle.commit_moments.specs.Steps.{Step, output_by, heap_after, AreQuiet, owing}
use Rattle.commit_moments.specs.Shown.{LeavesOnly, LeavesAlike, Shown, SoFar, BrokeOff}
use Rattle.commit_moments.specs.Like.{AreLike}
use Rattle.commit_moments.proofs.ShownLaws.{so_far_then, shown_then, broke_off_then}
use Rattle.commit_moments.proofs.CallLaws.{send_shown, so_far_sent, so_far_settled, settle_broke}
use Rattle.commit_moments.proofs.LikeLaws.{heap-like, so_far_like, shown_like, broke_off_like}
use Rattle.commit_moments.proofs.StepLaws.{heap-append, heap-quiet}
use Rattle.machine_core.specs.ps_outside.Outside.{Outside, LeavesSame, Rose}
use Rattle.ps_outside.proofs.PastMoments.{past_along}
use Rattle.machine_core.specs.obj_layout.Stored.{Space, without_file}
use Rattle.machine_core.specs.ps_heap.Ends.{report_of}
use Rattle.machine_core.specs.ps_heap.Events.{Event, Out, Turn, Ask, Commit, Finish, outputs}
use Rattle.machine_core.specs.ps_heap.Held.{StoredHeap}
use Rattle.machine_run.specs.Ran.{TellsBut, FailsAfter}
use Rattle.machine_commits.specs.joint_commit.Saving.{LeavesEither, LeavesHeap}
use Rattle.machine_commits.specs.Committing.{IsSilent}
use Rattle.database_steps.specs.Quiet as events
use Rattle.session_run.specs.Kept.{Kept, AtStart, Since, kept_in, read_in, StandsAs, ReadsAs, step_of, steps_of}
use Rattle.session_run.specs.Ran.{HasDone, IsCut, BreaksIn}

-- Steps of events.

pub steps-append : (xs ys : List Event) → steps_of (xs ++ ys) ≡ steps_of xs ++ steps_of ys
steps-append xs ys = map-append step_of xs ys

pub told-steps : (es : List Event) → output_by (steps_of es) ≡ outputs es
told-steps [] = refl
told-steps (Out bytes n ∷ es) = ap (λ (xs : List ℕ). bytes ++ xs) (told-steps es)
told-steps (Turn n ∷ es) = told-steps es
told-steps (Ask a n ∷ es) = told-steps es
told-steps (Commit h n ∷ es) = told-steps es
told-steps (Finish e n ∷ es) = ap (λ (xs : List ℕ). report_of e ++ xs) (told-steps es)

pub quiet-steps : (es : List Event) → events.AreQuiet es → AreQuiet (steps_of es)
quiet-steps [] q = tt
quiet-steps (Out bytes n ∷ es) q = (refl, quiet-steps es q.1)
quiet-steps (Turn n ∷ es) q = (refl, quiet-steps es q.1)
quiet-steps (Ask a n ∷ es) q = absurd q.0
quiet-steps (Commit h n ∷ es) q = absurd q.0
quiet-steps (Finish e n ∷ es) q = (refl, quiet-steps es q.1)

-- One call.

pub only-start : (old : Outside Space) → LeavesOnly (StandsAs old) old AtStart
only-start old x at = record { from = x; was = at; by = refl }

reads-start : (old : Outside Space) (space : Space) → old.contents space → ReadsAs old space AtStart
reads-start old space at = record { from = space; was = at; by = refl }

alike : (start old new : Outside Space) → LeavesSame old new → LeavesAlike (StandsAs start) old new
alike start old new same = record { each = λ m x from until at. (x, same.each m x from until at, (λ heap so. so)) }

module _ (old new : Outside Space) (owed left : List ℕ) (more : List (Step Kept)) (quiet : AreQuiet more) where
  -- steps that commit nothing, whose output went out but for what is pending
  pub done-quietly : TellsBut old new (owed ++ output_by more) left → HasDone old new owed left more
  done-quietly t = record {
    so_far = so_far_sent (StandsAs old) AtStart old new (past_along t.tells.first.leaves.images) (only-start old) owed t.sent left more quiet t.due_is t.tells.first.told
        (alike old old new t.tells.first.leaves.images) t.tells.all;
    contents = λ space at. subst (ReadsAs old space) (sym (heap-quiet AtStart more quiet)) (reads-start old space (t.tells.first.leaves.contents.no_other space at));
    calm = t.tells.calm;
  }

  -- or the output failed in it
  pub cut-quietly : FailsAfter old new (owed ++ output_by more) → left ≡ [] → IsCut old new owed left more
  cut-quietly f none = record {
    shown = send_shown (StandsAs old) AtStart old new (past_along f.first.leaves.images) (only-start old) owed (owed ++ output_by more) [] more quiet
        (sym (append-nil (owed ++ output_by more))) f.first.told (alike old old new f.first.leaves.images);
    rose = f.rose;
    none = none;
  }

module _ (mid new : Outside Space) (heap : StoredHeap) (silent : IsSilent mid new) where
  images : LeavesEither mid new heap → (m : ℕ) (x : Space) → mid.clock ≤ m → m ≤ new.clock → new.images m x
      → ((y : Space) × mid.images mid.clock y × ((k : Kept) → StandsAs mid y k → StandsAs mid x k)) ⊎ StandsAs mid x (Since heap)
  images either m x from until at = ⊎_elim
      (λ was. inl (was.from, was.was, (λ k so. subst (λ (s : Space). kept_in mid s k) was.by so)))
      (λ stands. inr stands)
      (either m x from until at)

  -- a commit that saved
  pub committed : LeavesHeap mid new heap → (counted : ℕ) → HasDone mid new [] [] (steps_of (Commit heap counted ∷ []))
  committed leaves counted = record {
    so_far = so_far_settled (StandsAs mid) AtStart mid new silent.past (only-start mid) (Since heap) silent.told (images leaves.moments) (λ x at. leaves.last x at);
    contents = λ space at. leaves.contents space at;
    calm = silent.output;
  }

  -- and one that failed
  pub uncommitted : LeavesEither mid new heap → BreaksIn mid new [] [] [] heap
  uncommitted either = record {
    broke = settle_broke (StandsAs mid) AtStart mid new silent.past (only-start mid) (Since heap) silent.told (images either);
    none = refl;
    calm = silent.output;
  }

-- One part after another.
module _ (old mid new : Outside Space) (owed left rest : List ℕ) (steps : List (Step Kept)) (first : HasDone old mid owed left steps) where
  abbrev kept : Kept
  kept = heap_after AtStart (owing owed ∷ steps)

  -- what is kept when a part begins here, and what it commits
  abbrev IsSince : Kept → Kept → Type 0
  IsSince AtStart known = known ≡ kept
  IsSince (Since heap) known = known ≡ Since heap

  seen-since : (x : Space) (k known : Kept) → IsSince k known → StandsAs mid x k → StandsAs old x known
  seen-since x AtStart known is so =
      subst (StandsAs old x) (sym is) (subst (λ (s : Space). kept_in old s kept) so.by (first.so_far.leaves so.from so.was))
  seen-since x (Since heap) known is so = subst (StandsAs old x) (sym is) so

  reads-since : (x : Space) (k known : Kept) → IsSince k known → ReadsAs mid x k → ReadsAs old x known
  reads-since x AtStart known is so =
      subst (ReadsAs old x) (sym is) (subst (λ (s : Space). read_in old s kept) so.by (first.contents so.from so.was))
  reads-since x (Since heap) known is so = subst (ReadsAs old x) (sym is) so

  pub events-since : (es : List Event) → AreLike IsSince (steps_of es) (steps_of es)
  events-since [] = tt
  events-since (Out bytes n ∷ es) = (refl, tt, events-since es)
  events-since (Turn n ∷ es) = (refl, tt, events-since es)
  events-since (Ask a n ∷ es) = (refl, tt, events-since es)
  events-since (Commit h n ∷ es) = (refl, refl, events-since es)
  events-since (Finish e n ∷ es) = (refl, tt, events-since es)

  module _ (more : List (Step Kept)) (like : AreLike IsSince more more) where
    pub done-then : HasDone mid new left rest more → HasDone old new owed rest (steps ++ more)
    done-then next = record {
      so_far = so_far_then (StandsAs old) AtStart old mid new (owing owed ∷ steps) more left first.so_far rest
          (so_far_like IsSince (StandsAs mid) (StandsAs old) seen-since AtStart kept refl mid new (owing left ∷ more) (owing left ∷ more) rest (refl, tt, like) next.so_far);
      contents = λ space at. subst (ReadsAs old space) (sym (heap-append AtStart steps more))
          (reads-since space (heap_after AtStart more) (heap_after kept more) (heap-like IsSince AtStart kept refl more more like) (next.contents space at));
      calm = next.calm ∙ first.calm;
    }

    pub cut-then : old.output_faults ≤ mid.output_faults → IsCut mid new left rest more → IsCut old new owed rest (steps ++ more)
    cut-then low next = record {
      shown = shown_then (StandsAs old) AtStart old mid new (owing owed ∷ steps) more left first.so_far
          (shown_like IsSince (StandsAs mid) (StandsAs old) seen-since AtStart kept refl mid new (owing left ∷ more) (owing left ∷ more) (refl, tt, like) next.shown);
      rose = rose-then old.output_faults mid.output_faults new.output_faults low next.rose;
      none = next.none;
    }
      where
        rose-then : (a b c : ℕ) → a ≤ b → Rose b c → Rose a c
        rose-then a b c le (inl rise) = inl (omega (arith, le, rise))
        rose-then a b c le (inr last) = inr last

    pub breaks-then : (heap : StoredHeap) → BreaksIn mid new left rest more heap → BreaksIn old new owed rest (steps ++ more) heap
    breaks-then heap next = record {
      broke = broke_off_then (StandsAs old) AtStart old mid new (owing owed ∷ steps) more left (Since heap) first.so_far
          (broke_off_like IsSince (StandsAs mid) (StandsAs old) seen-since AtStart kept refl mid new (owing left ∷ more) (owing left ∷ more) (Since heap) (Since heap)
          (refl, tt, like) refl next.broke);
      none = next.none;
      calm = next.calm ∙ first.calm;
    }

-- parts that are events
module _ (old mid new : Outside Space) (owed left rest : List ℕ) (steps : List (Step Kept)) (first : HasDone old mid owed left steps) (es : List Event) where
  like : AreLike (IsSince old mid new owed left rest steps first) (steps_of es) (steps_of es)
  like = events-since old mid new owed left rest steps first es

  pub events-then : HasDone mid new left rest (steps_of es) → HasDone old new owed rest (steps ++ steps_of es)
  events-then next = done-then old mid new owed left rest steps first (steps_of es) like next

  pub events-cut : old.output_faults ≤ mid.output_faults → IsCut mid new left rest (steps_of es) → IsCut old new owed rest (steps ++ steps_of es)
  events-cut low next = cut-then old mid new owed left rest steps first (steps_of es) like low next
