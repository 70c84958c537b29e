-- The part of a run that was done, as its events are meant.
use Rattle.std.proofs.Common.{◌≡◌, ℕ, List, [], ◌∷◌, ◌++◌, refl, sym, ap, ◌∙◌, subst, Some}
use Rattle.std.specs.Prelude.{map}
use Rattle.commit_moments.specs.Like.{AreLike}
use Rattle.ps_heap.specs.Ends.{End, report_of}
use Rattle.ps_heap.specs.Events.{Event, Out, Turn, Ask, Commit, Finish}
use Rattle.ps_heap.specs.Held.{StoredHeap}
use Rattle.database_meaning.specs.Same.{IsSame}
use Rattle.ps_code_laws.specs.Compiled.{compiled_stored, compiled_event, compiled_events}
use Rattle.joint_commit.specs.Saving.{IsCompiledTo}
use Rattle.session_run.specs.Kept.{Kept, AtStart, Since, steps_of}
use Rattle.session_meaning.specs.Meant.{steps_meant, AreSeenAs, IsSeenAs}
use Rattle.unit_meaning.specs.Keeping.{KeepFitHeaps}

-- a list that is mapped to two parts is two parts
record Halves {A B : Type 0} (f : A → B) (xs : List A) (front rest : List B) : Type 0 where
  first : List A
  then : List A
  are : xs ≡ first ++ then
  first_is : map f first ≡ front
  then_is : map f then ≡ rest

halves : {A B : Type 0} (f : A → B) (xs : List A) (front rest : List B) → map f xs ≡ front ++ rest → Halves f xs front rest
halves f xs [] rest is = record { first = []; then = xs; are = refl; first_is = refl; then_is = is }
halves f [] (y ∷ front) rest is = absurd cc
halves f (x ∷ xs) (y ∷ front) rest is =
    let one : f x ≡ y = cc in
    let others : map f xs ≡ front ++ rest = cc in
    let more = halves f xs front rest others in
    record {
      first = x ∷ more.first;
      then = more.then;
      are = ap (λ (zs : List _). x ∷ zs) more.are;
      first_is = ap (λ (z : _). z ∷ map f more.first) one ∙ ap (λ (zs : List _). y ∷ zs) more.first_is;
      then_is = more.then_is;
    }

-- The part that was done of events, and what is to come.
module _ (heap : StoredHeap) where
  -- what is kept is meant so: at first the heap of the start, then one whose compiled form was committed, but for ids
  abbrev pub IsMeant : Kept → StoredHeap → Type 0
  IsMeant AtStart h = h ≡ heap
  IsMeant (Since k) h = (other : StoredHeap) × IsCompiledTo k other × IsSame other h

  pub meant-steps : (total events : List Event) → KeepFitHeaps total → AreSeenAs total events → AreLike IsMeant (steps_of (compiled_events total)) (steps_meant events)
  meant-steps [] [] fit seen = tt
  meant-steps [] (event ∷ events) fit seen = absurd seen
  meant-steps (x ∷ total) [] fit seen = absurd seen
  meant-steps (Out bytes n ∷ total) (Out others m ∷ events) fit seen = (seen.0, tt, meant-steps total events fit seen.1)
  meant-steps (Out bytes n ∷ total) (Turn m ∷ events) fit seen = absurd seen.0
  meant-steps (Out bytes n ∷ total) (Ask other m ∷ events) fit seen = absurd seen.0
  meant-steps (Out bytes n ∷ total) (Commit other m ∷ events) fit seen = absurd seen.0
  meant-steps (Out bytes n ∷ total) (Finish other m ∷ events) fit seen = absurd seen.0
  meant-steps (Turn n ∷ total) (Turn m ∷ events) fit seen = (refl, tt, meant-steps total events fit seen.1)
  meant-steps (Turn n ∷ total) (Out others m ∷ events) fit seen = absurd seen.0
  meant-steps (Turn n ∷ total) (Ask other m ∷ events) fit seen = absurd seen.0
  meant-steps (Turn n ∷ total) (Commit other m ∷ events) fit seen = absurd seen.0
  meant-steps (Turn n ∷ total) (Finish other m ∷ events) fit seen = absurd seen.0
  meant-steps (Ask a n ∷ total) (Ask other m ∷ events) fit seen = (refl, tt, meant-steps total events fit seen.1)
  meant-steps (Ask a n ∷ total) (Out others m ∷ events) fit seen = absurd seen.0
  meant-steps (Ask a n ∷ total) (Turn m ∷ events) fit seen = absurd seen.0
  meant-steps (Ask a n ∷ total) (Commit other m ∷ events) fit seen = absurd seen.0
  meant-steps (Ask a n ∷ total) (Finish other m ∷ events) fit seen = absurd seen.0
  meant-steps (Commit h n ∷ total) (Commit other m ∷ events) fit seen =
      (refl, (h, record { made = refl; fit = fit.0; units = fit.1 }, seen.0), meant-steps total events fit.2 seen.1)
  meant-steps (Commit h n ∷ total) (Out others m ∷ events) fit seen = absurd seen.0
  meant-steps (Commit h n ∷ total) (Turn m ∷ events) fit seen = absurd seen.0
  meant-steps (Commit h n ∷ total) (Ask other m ∷ events) fit seen = absurd seen.0
  meant-steps (Commit h n ∷ total) (Finish other m ∷ events) fit seen = absurd seen.0
  meant-steps (Finish e n ∷ total) (Finish other m ∷ events) fit seen = (ap report_of seen.0, tt, meant-steps total events fit seen.1)
  meant-steps (Finish e n ∷ total) (Out others m ∷ events) fit seen = absurd seen.0
  meant-steps (Finish e n ∷ total) (Turn m ∷ events) fit seen = absurd seen.0
  meant-steps (Finish e n ∷ total) (Ask other m ∷ events) fit seen = absurd seen.0
  meant-steps (Finish e n ∷ total) (Commit other m ∷ events) fit seen = absurd seen.0

  keep-front : (xs ys : List Event) → KeepFitHeaps (xs ++ ys) → KeepFitHeaps xs
  keep-front [] ys fit = tt
  keep-front (Out bytes n ∷ xs) ys fit = keep-front xs ys fit
  keep-front (Turn n ∷ xs) ys fit = keep-front xs ys fit
  keep-front (Ask a n ∷ xs) ys fit = keep-front xs ys fit
  keep-front (Commit h n ∷ xs) ys fit = (fit.0, fit.1, keep-front xs ys fit.2)
  keep-front (Finish e n ∷ xs) ys fit = keep-front xs ys fit

  keep-rest : (xs ys : List Event) → KeepFitHeaps (xs ++ ys) → KeepFitHeaps ys
  keep-rest [] ys fit = fit
  keep-rest (Out bytes n ∷ xs) ys fit = keep-rest xs ys fit
  keep-rest (Turn n ∷ xs) ys fit = keep-rest xs ys fit
  keep-rest (Ask a n ∷ xs) ys fit = keep-rest xs ys fit
  keep-rest (Commit h n ∷ xs) ys fit = keep-rest xs ys fit.2
  keep-rest (Finish e n ∷ xs) ys fit = keep-rest xs ys fit

  -- events that are seen as two parts are two parts
  record SeenParts (first then events : List Event) : Type 0 where
    front : List Event
    rest : List Event
    are : events ≡ front ++ rest
    front_seen : AreSeenAs first front
    rest_seen : AreSeenAs then rest

  seen-parts : (first then events : List Event) → AreSeenAs (first ++ then) events → SeenParts first then events
  seen-parts [] then events seen = record { front = []; rest = events; are = refl; front_seen = tt; rest_seen = seen }
  seen-parts (x ∷ first) then [] seen = absurd seen
  seen-parts (x ∷ first) then (event ∷ events) seen =
      let more = seen-parts first then events seen.1 in
      record {
        front = event ∷ more.front;
        rest = more.rest;
        are = ap (λ (es : List Event). event ∷ es) more.are;
        front_seen = (seen.0, more.front_seen);
        rest_seen = more.rest_seen;
      }

  -- What was done of events, as these are meant: the rest is of theirs, compiled.
  pub record Done (es rest_es : List Event) (events : List Event) : Type 0 where
    pub front : List Event
    pub rest : List Event
    pub are : events ≡ front ++ rest
    pub like : AreLike IsMeant (steps_of es) (steps_meant front)
    pub behind : List Event
    pub compiled_is : compiled_events behind ≡ rest_es
    pub fit : KeepFitHeaps behind
    pub seen : AreSeenAs behind rest

  pub done : (total events es rest_es : List Event) → compiled_events total ≡ es ++ rest_es → KeepFitHeaps total → AreSeenAs total events → Done es rest_es events
  done total events es rest_es is fit seen =
      let half = halves compiled_event total es rest_es is in
      let fits = subst KeepFitHeaps half.are fit in
      let parts = seen-parts half.first half.then events (subst (λ (xs : List Event). AreSeenAs xs events) half.are seen) in
      record {
        front = parts.front;
        rest = parts.rest;
        are = parts.are;
        like = subst (λ (xs : List Event). AreLike IsMeant (steps_of xs) (steps_meant parts.front)) half.first_is
            (meant-steps half.first parts.front (keep-front half.first half.then fits) parts.front_seen);
        behind = half.then;
        compiled_is = half.then_is;
        fit = keep-rest half.first half.then fits;
        seen = parts.rest_seen;
      }

  -- where another event comes, another is meant
  pub record Another (rest : List Event) : Type 0 where
    pub next : Event
    pub others : List Event
    pub are : rest ≡ next ∷ others

  pub another : (behind rest : List Event) (x : Event) (xs : List Event) → compiled_events behind ≡ x ∷ xs → AreSeenAs behind rest → Another rest
  another [] rest x xs is seen = absurd cc
  another (y ∷ behind) [] x xs is seen = absurd seen
  another (y ∷ behind) (next ∷ others) x xs is seen = record { next = next; others = others; are = refl }

  -- where a commit comes, one is meant
  pub record ACommit (k : StoredHeap) (rest : List Event) : Type 0 where
    pub saved : StoredHeap
    pub counted : ℕ
    pub others : List Event
    pub are : rest ≡ Commit saved counted ∷ others
    pub meant : IsMeant (Since k) saved

  pub a-commit : (behind rest : List Event) (k : StoredHeap) (n : ℕ) (xs : List Event) → compiled_events behind ≡ Commit k n ∷ xs → KeepFitHeaps behind → AreSeenAs behind rest
      → ACommit k rest
  a-commit [] rest k n xs is fit seen = absurd cc
  a-commit (y ∷ behind) [] k n xs is fit seen = absurd seen
  a-commit (Commit h m ∷ behind) (Commit other count ∷ others) k n xs is fit seen =
      let same : compiled_stored h ≡ k = cc in
      record { saved = other; counted = count; others = others; are = refl; meant = (h, record { made = sym same; fit = fit.0; units = fit.1 }, seen.0) }
  a-commit (Commit h m ∷ behind) (Out others m' ∷ events) k n xs is fit seen = absurd seen.0
  a-commit (Commit h m ∷ behind) (Turn m' ∷ events) k n xs is fit seen = absurd seen.0
  a-commit (Commit h m ∷ behind) (Ask other m' ∷ events) k n xs is fit seen = absurd seen.0
  a-commit (Commit h m ∷ behind) (Finish other m' ∷ events) k n xs is fit seen = absurd seen.0
  a-commit (Out bytes m ∷ behind) (event ∷ events) k n xs is fit seen = absurd cc
  a-commit (Turn m ∷ behind) (event ∷ events) k n xs is fit seen = absurd cc
  a-commit (Ask a m ∷ behind) (event ∷ events) k n xs is fit seen = absurd cc
  a-commit (Finish e m ∷ behind) (event ∷ events) k n xs is fit seen = absurd cc

  -- where the end comes, it is meant
  pub record AnEnd (e : End) (rest : List Event) : Type 0 where
    pub counted : ℕ
    pub are : rest ≡ Finish e counted ∷ []

  pub an-end : (behind rest : List Event) (e : End) (n : ℕ) → compiled_events behind ≡ Finish e n ∷ [] → AreSeenAs behind rest → AnEnd e rest
  an-end [] rest e n is seen = absurd cc
  an-end (y ∷ behind) [] e n is seen = absurd seen
  an-end (Finish f m ∷ []) (Finish other count ∷ []) e n is seen =
      let same : f ≡ e = cc in record { counted = count; are = ap (λ (x : End). Finish x count ∷ []) (seen.0 ∙ same) }
  an-end (Finish f m ∷ []) (Finish other count ∷ event ∷ events) e n is seen = absurd seen.1
  an-end (Finish f m ∷ y ∷ behind) rest e n is seen = absurd cc
  an-end (Finish f m ∷ []) (Out others m' ∷ events) e n is seen = absurd seen.0
  an-end (Finish f m ∷ []) (Turn m' ∷ events) e n is seen = absurd seen.0
  an-end (Finish f m ∷ []) (Ask other m' ∷ events) e n is seen = absurd seen.0
  an-end (Finish f m ∷ []) (Commit other m' ∷ events) e n is seen = absurd seen.0
  an-end (Out bytes m ∷ behind) (event ∷ events) e n is seen = absurd cc
  an-end (Turn m ∷ behind) (event ∷ events) e n is seen = absurd cc
  an-end (Ask a m ∷ behind) (event ∷ events) e n is seen = absurd cc
  an-end (Commit h m ∷ behind) (event ∷ events) e n is seen = absurd cc
