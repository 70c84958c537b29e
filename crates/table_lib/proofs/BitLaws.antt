-- The binary digits of a number, counted.
use Rattle.std.proofs.Common.{◌≡◌, ◌≢◌, ℕ, zero, suc, ◌+◌, ◌*◌, ◌/◌, ◌^◌, ◌≤◌, ◌<◌, refl, arith}
use Rattle.std.proofs.lemmas.Bool.{ne_eqb}
use Rattle.table_nodes.specs.avl_trees.Trees.{bits_by, bits}

-- so many digits were counted, and the rest has at most this many
pub record IsCounting (number count rest : ℕ) : Type 0 where
  pub fuel : ℕ
  pub sum : count + fuel ≡ 64
  pub below : rest < 2 ^ fuel
  pub same : bits number ≡ count + bits_by fuel rest

pub counting_first : (number : ℕ) → number < 2 ^ 64 → IsCounting number 0 number
unfolding bits
counting_first number lt = record { fuel = 64; sum = omega arith; below = lt; same = omega arith }

twice : (fuel : ℕ) → 2 ^ suc fuel ≡ 2 * 2 ^ fuel
twice fuel = grind arith

one_more : (fuel rest : ℕ) → rest ≢ 0 → bits_by (suc fuel) rest ≡ 1 + bits_by fuel (rest / 2)
one_more fuel rest ne = rw (ne_eqb rest 0 ne) refl

no_more : (fuel : ℕ) → bits_by fuel 0 ≡ 0
no_more zero = refl
no_more (suc fuel) = refl

pub counting_more : (number count rest : ℕ) → 0 < rest → IsCounting number count rest → IsCounting number (count + 1) (rest / 2)
counting_more number count rest some c = go c.fuel c.sum c.below c.same
  where
    go : (fuel : ℕ) → count + fuel ≡ 64 → rest < 2 ^ fuel → bits number ≡ count + bits_by fuel rest → IsCounting number (count + 1) (rest / 2)
    go zero sum below same = absurd (omega (arith, below, some))
    go (suc fuel) sum below same =
        let w = twice fuel in
        let m = one_more fuel rest (omega (arith, some)) in
        record { fuel = fuel; sum = omega (arith, sum); below = omega (arith, below, w); same = omega (arith, same, m) }

pub counting_done : (number count rest : ℕ) → rest ≤ 0 → IsCounting number count rest → count ≡ bits number
counting_done number count rest e c =
    let z : rest ≡ 0 = omega (arith, e) in
    let n : bits_by c.fuel rest ≡ 0 = rw z (no_more c.fuel) in
    let s = c.same in
    omega (arith, n, s)
