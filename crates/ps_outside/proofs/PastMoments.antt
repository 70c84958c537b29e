-- What stays of the moments that have been stays over further calls.
use Rattle.std.proofs.Common.{ℕ, ◌≤◌, arith, ◌≡◌, refl}
use Rattle.ps_outside.specs.Outside.{Along, Outside, After, seen_as}
use Rattle.ps_outside.specs.Past.{Past, KeepsPast}

pub past_none : {X : Type 0} (now : ℕ) (seen : ℕ → X → Type 0) → Past now now seen seen
past_none now seen = record { later = omega arith; kept = λ m x le is. is; no_other = λ m x le is. is }

pub past_along : {X : Type 0} {before now : ℕ} {old new : ℕ → X → Type 0} {P : X → Type 0} → Along before now old new P → Past before now old new
past_along is = record { later = is.later; kept = is.kept; no_other = is.no_other }

pub past_then : {X : Type 0} {before mid now : ℕ} {old between new : ℕ → X → Type 0} → Past before mid old between → Past mid now between new → Past before now old new
past_then first next = record {
  later = let one = first.later in let two = next.later in omega arith;
  kept = λ m x le is. next.kept m x (let one = first.later in omega arith) (first.kept m x le is);
  no_other = λ m x le is. first.no_other m x le (next.no_other m x (let one = first.later in omega arith) is);
}

-- the same of what it stands for
pub past_as : {X Y : Type 0} (a b : Outside X) (means : X → Y) → KeepsPast a b → KeepsPast (seen_as means a) (seen_as means b)
past_as a b means is = record {
  later = is.later;
  kept = λ m y le after. record { from = after.from; was = is.kept m after.from le after.was; by = after.by };
  no_other = λ m y le after. record { from = after.from; was = is.no_other m after.from le after.was; by = after.by };
}
