-- Numbers in bytes: what they are read as, and that they go by their own bytes alone.
use Rattle.std.proofs.Common.{◌≡◌, ◌⊎◌, inl, inr, ℕ, zero, suc, ◌+◌, ◌*◌, ◌<◌, ◌≤◌, List, length, get_or, take, drop, refl, sym, ◌∙◌, ap, arith}
use Rattle.std.proofs.lemmas.List.{get_or-take, get_or-drop}
use Rattle.byteorder.specs.Endian.{little_from}
use Rattle.ps_port.specs.Disk.{Torn, IsOutside}
use Rattle.volume_parts.specs.Layout.{number_at}

from_same : (i w : ℕ) (xs ys : List ℕ) → ((k : ℕ) → i ≤ k → k < i + w → get_or xs k 0 ≡ get_or ys k 0) → little_from i w xs ≡ little_from i w ys
from_same i zero xs ys same = refl
from_same i (suc w) xs ys same =
    let byte = same i (omega arith) (omega arith) in
    let rest = from_same (suc i) w xs ys (λ k low high. same k (omega arith) (omega arith)) in
    (λ j. byte j + 256 * rest j)

-- the bytes at two places are the same, and so are the numbers
pub number_same : (at from w : ℕ) (xs ys : List ℕ) → ((k : ℕ) → k < w → get_or xs (at + k) 0 ≡ get_or ys (from + k) 0) → number_at at w xs ≡ number_at from w ys
number_same at from w xs ys same =
    from_same 0 w (drop at xs) (drop from ys) (λ k low high. get_or-drop at xs k 0 ∙ same k (omega arith) ∙ sym (get_or-drop from ys k 0))

-- a number in a part that was read
pub number_within : (from n at w : ℕ) (image : List ℕ) → at + w ≤ n → number_at at w (take n (drop from image)) ≡ number_at (from + at) w image
number_within from n at w image within =
    number_same at (from + at) w (take n (drop from image)) image (λ k lt.
    get_or-take n (drop from image) (at + k) 0 (omega arith) ∙ get_or-drop from image (at + k) 0 ∙ ap (λ (m : ℕ). get_or image m 0) (omega arith))

-- a number apart from a write stays
pub number_torn : (at count from w : ℕ) (old new : List ℕ) → Torn at count old new → from + w ≤ length old → (from + w ≤ at) ⊎ (at + count ≤ from) → number_at from w new ≡ number_at from w old
number_torn at count from w old new torn within apart = number_same from from w new old (λ k lt. torn.elsewhere (from + k) (omega arith) (outside k lt apart))
  where
    outside : (k : ℕ) → k < w → (from + w ≤ at) ⊎ (at + count ≤ from) → IsOutside at count (from + k)
    outside k lt (inl before) = inl (omega arith)
    outside k lt (inr behind) = inr (omega arith)
