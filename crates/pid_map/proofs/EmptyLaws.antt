-- A map without any place.
use Rattle.std.proofs.Common.{◌≡◌, ℕ, zero, suc, [], replicate, get_or, refl}
use Rattle.pid_map.specs.Chains.{Belongs, IsInMap}

zero_at : (n b : ℕ) → let z : ℕ = 0 in get_or (replicate n z) b z ≡ z
zero_at zero b = refl
zero_at (suc n) zero = refl
zero_at (suc n) (suc b) = zero_at n b

module _ (n : ℕ) (key next : ℕ → ℕ) (is_place : ℕ → Type 0) where
  -- its heads and any links belong together
  pub empty_belongs : Belongs (replicate n 0) key next is_place
  empty_belongs = record {
    places = λ b. [];
    chains = λ b below. zero_at n b;
    once = λ b below. tt;
    theirs = λ b x below is. absurd is;
    bucket = λ b x below is. absurd is;
  }

  -- and it has none
  pub empty_has_none : (x : ℕ) → IsInMap empty_belongs x → ⊥
  unfolding empty_belongs
  empty_has_none x is = is.is
