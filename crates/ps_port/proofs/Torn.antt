-- What stays of bytes after a write, whole or torn.
use Rattle.std.proofs.Common.{◌≡◌, ◌⊎◌, inl, inr, ℕ, ◌+◌, ◌<◌, ◌≤◌, List, [], ◌∷◌, ◌++◌, length, get_or, take, drop, sym, ◌∙◌, ap, refl, arith, length-drop, length-take}
use Rattle.std.proofs.lemmas.List.{same_lists, get_or-take, get_or-drop, get_or_default, take_at, drop_at, length-take-le, append_assoc, get_or_at}
use Rattle.ps_port.specs.Disk.{written, IsOutside, Torn}

-- a range that lies in both and whose bytes are the same
pub same_range : (at count : ℕ) (xs ys : List ℕ) → at + count ≤ length xs → at + count ≤ length ys
    → ((k : ℕ) → at ≤ k → k < at + count → get_or xs k 0 ≡ get_or ys k 0) → take count (drop at xs) ≡ take count (drop at ys)
same_range at count xs ys in_xs in_ys same =
    same_lists _ _ (omega (arith, length-take count (drop at xs), length-take count (drop at ys), length-drop at xs, length-drop at ys))
    (λ k d h.
    let lt : k < count = omega (arith, length-take count (drop at xs)) in
    let x_in : at + k < length xs = omega arith in
    let y_in : at + k < length ys = omega arith in
    get_or-take count (drop at xs) k d lt ∙ get_or-drop at xs k d ∙ get_or_default xs (at + k) d 0 x_in
    ∙ same (at + k) (omega arith) (omega arith)
    ∙ sym (get_or-take count (drop at ys) k d lt ∙ get_or-drop at ys k d ∙ get_or_default ys (at + k) d 0 y_in))

-- the range is what was written
pub written_range : (at : ℕ) (bytes old : List ℕ) → at ≤ length old → take (length bytes) (drop at (written at bytes old)) ≡ bytes
written_range at bytes old within =
    let front = length-take-le at old within in
    let cut = ap (λ (xs : List ℕ). drop at xs) (append_assoc (take at old) bytes (drop (at + length bytes) old)) ∙ drop_at (take at old) (bytes ++ drop (at + length bytes) old) at front in
    ap (λ (xs : List ℕ). take (length bytes) xs) cut ∙ take_at bytes (drop (at + length bytes) old) (length bytes) refl

-- a range apart from the one that is written stays
pub torn_range : (at count from size : ℕ) (old new : List ℕ) → Torn at count old new → from + size ≤ length old → (from + size ≤ at) ⊎ (at + count ≤ from) → take size (drop from new) ≡ take size (drop from old)
torn_range at count from size old new torn within apart =
    same_range from size new old (let longer = torn.no_shorter in omega arith) within (λ k low high. torn.elsewhere k (omega arith) (outside k low high apart))
  where
    outside : (k : ℕ) → from ≤ k → k < from + size → (from + size ≤ at) ⊎ (at + count ≤ from) → IsOutside at count k
    outside k low high (inl before) = inl (omega arith)
    outside k low high (inr behind) = inr (omega arith)

-- the byte that was written
pub byte_written : (at byte : ℕ) (old : List ℕ) → at ≤ length old → get_or (written at (byte ∷ []) old) at 0 ≡ byte
byte_written at byte old within =
    ap (λ (xs : List ℕ). get_or xs at 0) (append_assoc (take at old) (byte ∷ []) (drop (at + length (byte ∷ [])) old))
    ∙ get_or_at (take at old) byte (drop (at + length (byte ∷ [])) old) 0 at (length-take-le at old within)
