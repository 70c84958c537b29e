-- What one call makes of a run: it only looks or stages, it tells, or it commits.
use Rattle.std.proofs.Common.{◌≡◌, ◌⊎◌, inl, inr, ⊎_elim, ℕ, ◌≤◌, List, [], ◌∷◌, ◌++◌, refl, sym, ◌∙◌, ap, subst, append_assoc, arith, Some}
use Rattle.std.proofs.lemmas.List.{append-nil}
use Rattle.ps_outside.specs.Outside.{Outside, Adds, TellsNothing, TellsPrefix, ToldAll}
use Rattle.ps_outside.specs.Past.{KeepsPast}
use Rattle.ps_outside.proofs.PastMoments.{past_none, past_along, past_then}
use Rattle.ps_outside.proofs.Moments.{along_none}
use Rattle.commit_moments.specs.Steps.{Step, output_by, heap_after, AreQuiet, broken, owing}
use Rattle.commit_moments.specs.Shown.{LeavesOnly, LeavesAlike, Shown, SoFar, BrokeOff, TellsAllOf}
use Rattle.commit_moments.proofs.StepLaws.{heap-quiet, quiet-prefix, cuts, none_prefix, amid_fewer, told-append}
use Rattle.commit_moments.proofs.ShownLaws.{either, adds_is, adds_then}

module _ {X H : Type 0} (stands : X → H → Type 0) (heap : H) (b c : Outside X) (past : KeepsPast b c) (only : LeavesOnly stands b heap) where
  module _ (owed sent left : List ℕ) (more : List (Step H)) (quiet : AreQuiet more) (due : owed ++ output_by more ≡ sent ++ left) (tells : TellsPrefix b c sent) (alike : LeavesAlike stands b c) where
    still : (x : X) → (m : ℕ) → b.clock ≤ m → m ≤ c.clock → c.images m x → stands x heap
    still x m from until at = let is = alike.each m x from until at in is.2 heap (only is.0 is.1)

    -- at each moment some of what is due is told
    pub send_shown : Shown stands heap b c (owing owed ∷ more)
    send_shown = record {
      told_past = past_along tells;
      past = past;
      each = λ m bytes from until at.
          let told = tells.each m bytes from until at in
          let is = cuts (owing owed ∷ more) told.front (told.is_front.rest ++ left)
          (due ∙ ap (λ (xs : List ℕ). xs ++ left) told.is_front.whole_is ∙ append_assoc told.front told.is_front.rest left) in
          let some = quiet-prefix is.done is.rest (subst (λ (xs : List (Step H)). AreQuiet xs) is.steps_are (refl, quiet)) in
          record {
            done = is.done;
            rest = is.rest;
            steps_are = is.steps_are;
            front = is.cut;
            is_prefix = is.is_prefix;
            told = subst (λ (xs : List ℕ). Adds (b.told b.clock) xs bytes) is.front_is told.adds;
            leaves = λ x image. inl (subst (λ (h : H). stands x h) (sym (heap-quiet heap is.done some)) (still x m from until image));
          };
    }

    -- and in the end all of it but what is left
    pub so_far_sent : ToldAll b c sent → SoFar stands heap b c (owing owed ∷ more) left
    so_far_sent all = record {
      shown = send_shown;
      due = record { whole = []; late = owing owed ∷ more; steps_are = refl; quiet = (refl, quiet); sent = sent; late_is = due; told = all };
      leaves = λ x at. subst (λ (h : H). stands x h) (sym (heap-quiet heap more quiet)) (still x c.clock past.later (omega arith) at);
    }

  nothing : (bytes : List ℕ) → b.told b.clock bytes → Adds (b.told b.clock) [] bytes
  nothing bytes at = record { before = bytes; was_told = at; bytes_are = sym (append-nil bytes) }

  -- a call that tells nothing and leaves what images stand for
  pub so_far_called : (owed : List ℕ) → TellsNothing b c → LeavesAlike stands b c → SoFar stands heap b c (owing owed ∷ []) owed
  so_far_called owed tells alike =
      so_far_sent owed [] owed [] tt (append-nil owed)
      (record {
        later = tells.later;
        kept = tells.kept;
        no_other = tells.no_other;
        each = λ m bytes from until at. record { front = []; is_front = none_prefix []; adds = nothing bytes (tells.each m bytes from until at) };
      })
      alike (λ bytes at. nothing bytes (tells.each c.clock bytes tells.later (omega arith) at))

  module _ (next : H) (tells : TellsNothing b c)
      (images : (m : ℕ) (x : X) → b.clock ≤ m → m ≤ c.clock → c.images m x → ((y : X) × b.images b.clock y × ((h : H) → stands y h → stands x h)) ⊎ stands x next) where
    either_heap : (m : ℕ) (x : X) → b.clock ≤ m → m ≤ c.clock → c.images m x → stands x heap ⊎ stands x next
    either_heap m x from until at = ⊎_elim (λ old. inl (old.2 heap (only old.0 old.1))) (λ new. inr new) (images m x from until at)

    none_told : (m : ℕ) (bytes : List ℕ) → b.clock ≤ m → m ≤ c.clock → c.told m bytes → Adds (b.told b.clock) [] bytes
    none_told m bytes from until at = nothing bytes (tells.each m bytes from until at)

    settle_shown : (line : List ℕ) → Shown stands heap b c (owing [] ∷ broken line (Some next) ∷ [])
    settle_shown line = record {
      told_past = past_along tells;
      past = past;
      each = λ m bytes from until at. record {
        done = owing [] ∷ [];
        rest = broken line (Some next) ∷ [];
        steps_are = refl;
        front = [];
        is_prefix = none_prefix line;
        told = none_told m bytes from until at;
        leaves = λ x image. either_heap m x from until image;
      };
    }

    -- a commit that comes about
    pub so_far_settled : LeavesOnly stands c next → SoFar stands heap b c (owing [] ∷ broken [] (Some next) ∷ []) []
    so_far_settled now = record {
      shown = settle_shown [];
      due = record {
        whole = owing [] ∷ broken [] (Some next) ∷ [];
        late = [];
        steps_are = refl;
        quiet = tt;
        sent = [];
        late_is = refl;
        told = λ bytes at. none_told c.clock bytes past.later (omega arith) at;
      };
      leaves = now;
    }

    -- and one that fails midway
    pub settle_broke : BrokeOff stands heap b c (owing [] ∷ []) next
    settle_broke = record {
      shown = settle_shown;
      told = λ bytes at. none_told c.clock bytes past.later (omega arith) at;
      leaves = λ x at. either_heap c.clock x past.later (omega arith) at;
    }

-- A line is told after what broke off in a commit.
module _ {X H : Type 0} (stands : X → H → Type 0) (start : H) (a b c : Outside X) (steps : List (Step H)) (heap : H) (line : List ℕ) (broke : BrokeOff stands start a b steps heap)
    (past : KeepsPast b c) (tells : TellsPrefix b c line) (alike : LeavesAlike stands b c) where
  still_either : (m : ℕ) (x : X) → b.clock ≤ m → m ≤ c.clock → c.images m x → stands x (heap_after start steps) ⊎ stands x heap
  still_either m x from until at =
      let is = alike.each m x from until at in
      ⊎_elim (λ old. inl (is.2 (heap_after start steps) old)) (λ new. inr (is.2 heap new)) (broke.leaves is.0 is.1)

  pub report_shown : Shown stands start a c (steps ++ broken line (Some heap) ∷ [])
  report_shown = record {
    told_past = past_then (broke.shown line).told_past (past_along tells);
    past = past_then (broke.shown line).past past;
    each = λ m bytes from until at. ⊎_elim
        (λ early. amid_fewer stands start (steps ++ broken line (Some heap) ∷ []) (a.told a.clock) bytes (b.images m) (c.images m)
        ((broke.shown line).each m bytes from early (tells.no_other m bytes early at)) (λ x is. past.no_other m x early is))
        (λ late.
        let told = tells.each m bytes late until at in
        record {
          done = steps;
          rest = broken line (Some heap) ∷ [];
          steps_are = refl;
          front = told.front;
          is_prefix = told.is_front;
          told = adds_then (a.told a.clock) (b.told b.clock) (output_by steps) told.front bytes broke.told told.adds;
          leaves = λ x image. still_either m x late until image;
        })
        (either m b.clock);
  }

  pub report_told : ToldAll b c line → TellsAllOf stands a c (steps ++ broken line (Some heap) ∷ [])
  report_told all = λ bytes at.
      adds_is (a.told a.clock) (output_by steps ++ line) (output_by (steps ++ broken line (Some heap) ∷ [])) bytes
      (ap (λ (xs : List ℕ). output_by steps ++ xs) (sym (append-nil line)) ∙ sym (told-append steps (broken line (Some heap) ∷ [])))
      (adds_then (a.told a.clock) (b.told b.clock) (output_by steps) line bytes broke.told (all bytes at))

-- No call was made yet.
pub so_far_none : {X H : Type 0} (stands : X → H → Type 0) (heap : H) (a : Outside X) (owed : List ℕ) → LeavesOnly stands a heap → SoFar stands heap a a (owing owed ∷ []) owed
so_far_none stands heap a owed only =
    so_far_called stands heap a a (past_none a.clock a.images) only owed (along_none a.clock a.told)
    (record { each = λ m x from until at. (x, subst (λ (t : ℕ). a.images t x) (let e : m ≡ a.clock = omega arith in e) at, (λ h so. so)) })
