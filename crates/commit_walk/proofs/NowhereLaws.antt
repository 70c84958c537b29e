-- In a vault that holds word 0 alone every PID is damaged.
use Rattle.std.proofs.Common.{inl, inr, ◌≡◌, ℕ, ◌+◌, [], ◌∷◌, ◌∙◌, Option, if◌then◌else◌}
use Rattle.std.specs.Prelude.{nat_lt, take, drop}
use Rattle.std.proofs.lemmas.Bool.{cases_Bool}
use Rattle.swizzle.specs.obj_layout.Stored.{damage, damage_at, of_words}
use Rattle.swizzle.specs.obj_layout.Header.{header_fault}
use Rattle.reaching.proofs.Lists.{then_is, else_is}

-- no PID is below the one used word
pub all-damaged : (pid : ℕ) (wanted : Option ℕ) → damage_at (0 ∷ []) pid wanted ≡ damage pid 1
all-damaged pid wanted =
    let header = take 4 (drop pid (0 ∷ [])) in
    let inner = if nat_lt 1 (pid + 4) then damage (pid + 4) 1 else of_words pid 1 header (header_fault header) wanted in
    elim (cases_Bool (nat_lt pid 1)) [
      | inl low ↦ then_is (nat_lt pid 1) (damage pid 1) (if nat_lt pid 1 then inner else damage pid 1) low
      | inr high ↦ else_is (nat_lt pid 1) (damage pid 1) (if nat_lt pid 1 then inner else damage pid 1) high ∙ else_is (nat_lt pid 1) inner (damage pid 1) high
    ]
