-- What one call of a vault adds to a run, where what a space stands for doesn't depend on its file.
use Rattle.std.proofs.Common.{◌⊎◌, inl, inr, ⊎_elim, ℕ, ◌≤◌, List, [], ◌∷◌, ◌++◌, refl, sym, ◌∙◌, ap, subst, Some}
use Rattle.std.specs.Prelude.{Result, Ok}
use Rattle.ps_outside.specs.Outside.{Outside, LeavesSame}
use Rattle.ps_outside.proofs.PastMoments.{past_along}
use Rattle.obj_layout.specs.declared.vault.VaultFault.{VaultFault}
use Rattle.obj_layout.specs.Stored.{Space, without_file}
use Rattle.obj_layout.specs.Storing.{unfiled, IsStoreCall, IsStagingCall, Settles, Becomes, Puts}
use Rattle.vault_output.specs.Sending.{Sends}
use Rattle.commit_moments.specs.Steps.{Step, output_by, AreQuiet, broken, owing}
use Rattle.commit_moments.specs.Shown.{LeavesOnly, LeavesAlike, Shown, SoFar, BrokeOff}
use Rattle.commit_moments.proofs.CallLaws.{send_shown, so_far_sent, so_far_called, so_far_settled, settle_broke}

pub alike_same : {X H : Type 0} (stands : X → H → Type 0) (b c : Outside X) → LeavesSame b c → LeavesAlike stands b c
alike_same stands b c is = record { each = λ m x from until at. (x, is.each m x from until at, (λ heap so. so)) }

module _ {H : Type 0} (kept_as : Space → H → Type 0) where
  abbrev pub AsKept : Space → H → Type 0
  AsKept x heap = kept_as (without_file x) heap

  pub old_alike : (b : Outside Space) (m : ℕ) (x : Space) → (unfiled b).images m (without_file x) → (y : Space) × b.images m y × ((heap : H) → AsKept y heap → AsKept x heap)
  old_alike b m x is = (is.from, is.was, (λ heap so. subst (λ (s : Space). kept_as s heap) is.by so))

  seen_unfiled : (c : Outside Space) (m : ℕ) (x : Space) → c.images m x → (unfiled c).images m (without_file x)
  seen_unfiled c m x at = record { from = x; was = at; by = refl }

  pub alike_unfiled : (b c : Outside Space) → LeavesSame (unfiled b) (unfiled c) → LeavesAlike AsKept b c
  alike_unfiled b c is = record { each = λ m x from until at. old_alike b b.clock x (is.each m (without_file x) from until (seen_unfiled c m x at)) }

  module _ (heap : H) (b c : Outside Space) (only : LeavesOnly AsKept b heap) where
    pub looked : {T : Type 0} (owed : List ℕ) (most : ℕ) (result : Result T VaultFault) → IsStoreCall b c most result → SoFar AsKept heap b c (owing owed ∷ []) owed
    looked owed most result is = so_far_called AsKept heap b c (past_along is.images) only owed is.told (alike_same AsKept b c is.images)

    pub staged : {T : Type 0} (owed : List ℕ) (most : ℕ) (result : Result T VaultFault) → IsStagingCall b c most result → SoFar AsKept heap b c (owing owed ∷ []) owed
    staged owed most result is = so_far_called AsKept heap b c is.past only owed is.told (alike_unfiled b c is.images)

    pub flushed : (owed : List ℕ) → Puts {T = Unit {0}} b c owed (Ok tt) → SoFar AsKept heap b c (owing owed ∷ []) []
    flushed owed is = so_far_sent AsKept heap b c (past_along is.images) only owed owed [] [] tt refl is.told (alike_same AsKept b c is.images) is.all

    pub flush_cut : (owed : List ℕ) (result : Result (Unit {0}) VaultFault) → Puts b c owed result → Shown AsKept heap b c (owing owed ∷ [])
    flush_cut owed result is = send_shown AsKept heap b c (past_along is.images) only owed owed [] [] tt refl is.told (alike_same AsKept b c is.images)

    pub written : (owed left : List ℕ) (more : List (Step H)) → AreQuiet more → Sends {T = Unit {0}} b c (owed ++ output_by more) left (Ok tt) → SoFar AsKept heap b c (owing owed ∷ more) left
    written owed left more quiet is =
        so_far_sent AsKept heap b c (past_along is.puts.images) only owed is.sent left more quiet (is.due_is ∙ ap (λ (xs : List ℕ). is.sent ++ xs) (sym is.owes)) is.puts.told
        (alike_same AsKept b c is.puts.images) is.puts.all

    pub write_cut : (owed left : List ℕ) (more : List (Step H)) (result : Result (Unit {0}) VaultFault) → AreQuiet more → Sends b c (owed ++ output_by more) left result
        → Shown AsKept heap b c (owing owed ∷ more)
    write_cut owed left more result quiet is =
        send_shown AsKept heap b c (past_along is.puts.images) only owed is.sent is.rest more quiet is.due_is is.puts.told (alike_same AsKept b c is.puts.images)

    module _ (next : H) (step : Space → Space) (saves : (before : Space) → b.contents before → kept_as (step before) next) (most : ℕ) where
      images_of : {T : Type 0} (result : Result T VaultFault) → Settles b c most step result → (m : ℕ) (x : Space) → b.clock ≤ m → m ≤ c.clock → c.images m x
          → ((y : Space) × b.images b.clock y × ((h : H) → AsKept y h → AsKept x h)) ⊎ AsKept x next
      images_of result is m x from until at = ⊎_elim
          (λ old. inl (old_alike b b.clock x old))
          (λ new. inr (subst (λ (s : Space). kept_as s next) new.2 (saves new.0 new.1)))
          (is.images.each m (without_file x) from until (seen_unfiled c m x at))

      pub settled : (now : Space) → b.contents now → Becomes b c step → Settles {T = Unit {0}} b c most step (Ok tt) → SoFar AsKept heap b c (owing [] ∷ broken [] (Some next) ∷ []) []
      settled now held becomes is =
          so_far_settled AsKept heap b c is.past only next is.told (λ m x from until at. images_of (Ok tt) is m x from until at)
          (λ x at.
          let was = becomes.no_other (without_file x) (is.durable now (without_file x) held (seen_unfiled c c.clock x at)) in
          subst (λ (s : Space). kept_as s next) was.2 (saves was.0 was.1))

      pub settle_failed : {T : Type 0} (result : Result T VaultFault) → Settles b c most step result → BrokeOff AsKept heap b c (owing [] ∷ []) next
      settle_failed result is = settle_broke AsKept heap b c is.past only next is.told (λ m x from until at. images_of result is m x from until at)
