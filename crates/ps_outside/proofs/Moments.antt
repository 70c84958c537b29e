-- How one call after another goes along the moments.
use Rattle.std.proofs.Common.{◌⊎◌, inl, inr, ⊎_elim, ℕ, ◌≤◌, List, arith, ◌≡◌, refl, subst}
use Rattle.ps_outside.specs.Outside.{Along, Outside, Leaves, LeavesSame, SameContents, TellsNothing, SettlesFrom, After, seen_as}
use Rattle.ps_outside.specs.Past.{KeepsTold}

either : (m n : ℕ) → (m ≤ n) ⊎ (n ≤ m)
either m n = grind arith

-- no call was made
pub along_none : {X : Type 0} (now : ℕ) (seen : ℕ → X → Type 0) → Along now now seen seen (seen now)
along_none now seen = record {
  later = omega arith;
  kept = λ m x past is. is;
  no_other = λ m x past is. is;
  each = λ m x from until is. let same : m ≡ now = omega arith in subst (λ (t : ℕ). seen t x) same is;
}

-- what is seen on the way has this too
pub along_weaker : {X : Type 0} {before now : ℕ} {old new : ℕ → X → Type 0} {P Q : X → Type 0} → Along before now old new P → ((x : X) → P x → Q x) → Along before now old new Q
along_weaker is weaker = record { later = is.later; kept = is.kept; no_other = is.no_other; each = λ m x from until at. weaker x (is.each m x from until at) }

-- one call more
pub along_then : {X : Type 0} {before mid now : ℕ} {old between new : ℕ → X → Type 0} {P Q : X → Type 0} → Along before mid old between P → Along mid now between new Q → ((x : X) → Q x → P x) → Along before now old new P
along_then {before = before} {mid = mid} first next stays = record {
  later = let one = first.later in let two = next.later in omega arith;
  kept = λ m x past is. next.kept m x (let one = first.later in omega arith) (first.kept m x past is);
  no_other = λ m x past is. first.no_other m x past (next.no_other m x (let one = first.later in omega arith) is);
  each = λ m x from until is. ⊎_elim
      (λ early. first.each m x from early (next.no_other m x early is))
      (λ late. stays x (next.each m x late until is))
      (either m mid);
}

-- what is seen in the end is of the kind
pub along_now : {X : Type 0} {before now : ℕ} {old new : ℕ → X → Type 0} {P : X → Type 0} → Along before now old new P → (x : X) → new now x → P x
along_now {now = now} is x at = is.each now x is.later (omega arith) at

-- the same of what it stands for
pub along_as : {X Y : Type 0} {before now : ℕ} {old new : ℕ → X → Type 0} {P : X → Type 0} (means : X → Y) (Q : Y → Type 0) → Along before now old new P → ((x : X) → P x → Q (means x))
    → Along before now (λ m y. After (old m) (λ (x : X) (z : Y). means x ≡ z) y) (λ m y. After (new m) (λ (x : X) (z : Y). means x ≡ z) y) Q
along_as {X = X} {Y = Y} {old = old} {new = new} means Q is holds = record {
  later = is.later;
  kept = λ m y le after. record { from = after.from; was = is.kept m after.from le after.was; by = after.by };
  no_other = λ m y le after. record { from = after.from; was = is.no_other m after.from le after.was; by = after.by };
  each = λ m y from until after. subst Q after.by (holds after.from (is.each m after.from from until after.was));
}

pub same_as : {X Y : Type 0} (a b : Outside X) (means : X → Y) → LeavesSame a b → LeavesSame (seen_as means a) (seen_as means b)
same_as {X = X} {Y = Y} a b means is = along_as means (λ (y : Y). After (a.images a.clock) (λ (x : X) (z : Y). means x ≡ z) y) is (λ x was. record { from = x; was = was; by = refl })

-- a sync that succeeds settles, and the calls after it that only read leave it so
pub settles_by : {X : Type 0} (a b c : Outside X) → LeavesSame a b → SameContents a b → TellsNothing a b → ((x : X) → b.images b.clock x → b.contents x) → LeavesSame b c → TellsNothing b c → SettlesFrom a c
settles_by a b c first same silent durable next still = record {
  since = b.clock;
  from = first.later;
  until = next.later;
  settled = λ m x from until is. same.no_other x (durable x (next.each m x from until is));
  untold = λ m bytes from until is. silent.each m bytes from until (still.no_other m bytes until is);
}

pub settles_as : {X Y : Type 0} (a b : Outside X) (means : X → Y) → SettlesFrom a b → SettlesFrom (seen_as means a) (seen_as means b)
settles_as a b means is = record {
  since = is.since;
  from = is.from;
  until = is.until;
  settled = λ m y from until after. record { from = after.from; was = is.settled m after.from from until after.was; by = after.by };
  untold = is.untold;
}

-- and so do calls that leave what is told of the moments before
pub settles_then : {X : Type 0} (a b c : Outside X) → SettlesFrom a b → LeavesSame b c → KeepsTold b c → SettlesFrom a c
settles_then a b c is next told =
    let until = is.until in
    let later = next.later in
    record {
      since = is.since;
      from = is.from;
      until = omega arith;
      settled = λ m x from upto at. ⊎_elim
          (λ early. is.settled m x from early (next.no_other m x early at))
          (λ late. is.settled b.clock x until (omega arith) (next.each m x late upto at))
          (either m b.clock);
      untold = λ m bytes from upto at. is.untold m bytes from upto (told.no_other m bytes (let high = is.until in omega arith) at);
    }
