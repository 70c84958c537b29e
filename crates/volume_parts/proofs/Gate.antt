-- What writes of a gate, and of what lies after it, leave.
use Rattle.std.proofs.Common.{◌≡◌, ◌⊎◌, inl, inr, ℕ, ◌+◌, ◌-◌, ◌<◌, ◌≤◌, List, ◌++◌, length, get_or, take, drop, ◌∙◌, ap, arith, length-append, length-take}
use Rattle.std.proofs.lemmas.List.{append_assoc, get_or-append_right, get_or_append_left, get_or-take, length-take-le}
use Rattle.ps_port.specs.Disk.{Torn, written}
use Rattle.ps_port.specs.DiskLaws.{length-written}
use Rattle.volume_parts.specs.Making.{IsShut, IsZeroed}

either : (m n : ℕ) → (m < n) ⊎ (n ≤ m)
either m n = grind arith

-- a write after the gate leaves it shut
pub shut_stays : (at count : ℕ) (old new : List ℕ) → 1 ≤ at → IsShut old → Torn at count old new → IsShut new
shut_stays at count old new behind shut torn = record {
  long = let longer = torn.no_shorter in let long = shut.long in omega arith;
  shut = torn.elsewhere 0 (let long = shut.long in omega arith) (inl (omega arith)) ∙ shut.shut;
}

-- a byte before those that were written
pub written_before : (at : ℕ) (bytes old : List ℕ) (k : ℕ) → at ≤ length old → k < at → get_or (written at bytes old) k 0 ≡ get_or old k 0
written_before at bytes old k within lt =
    let front : k < length (take at old) = omega (arith, length-take at old) in
    let longer : k < length (take at old ++ bytes) = omega (arith, length-append (take at old) bytes) in
    get_or_append_left (take at old ++ bytes) (drop (at + length bytes) old) 0 k longer ∙ get_or_append_left (take at old) bytes 0 k front ∙ get_or-take at old k 0 lt

-- one of those that were written
pub written_inside : (at : ℕ) (bytes old : List ℕ) (k : ℕ) → at ≤ length old → at ≤ k → k < at + length bytes → get_or (written at bytes old) k 0 ≡ get_or bytes (k - at) 0
written_inside at bytes old k within low high =
    let front = length-take-le at old within in
    ap (λ (xs : List ℕ). get_or xs k 0) (append_assoc (take at old) bytes (drop (at + length bytes) old))
    ∙ get_or-append_right (take at old) (bytes ++ drop (at + length bytes) old) at k 0 front low
    ∙ get_or_append_left bytes (drop (at + length bytes) old) 0 (k - at) (omega arith)

-- zeros up to here, and a piece of them more
pub zeroed_more : (from at count : ℕ) (old mid : List ℕ) (piece : List ℕ) → from ≤ at → IsZeroed from at old mid → ((k : ℕ) → get_or piece k 0 ≡ 0) → length piece ≡ count →
    IsZeroed from (at + count) old (written at piece mid)
zeroed_more from at count old mid piece low is zero size =
    let long = is.long in
    record {
      long = omega (arith, length-written at piece mid, length-take at mid);
      before = λ k lt. written_before at piece mid k is.long (omega arith) ∙ is.before k lt;
      zeros = λ k from_k lt. by k from_k lt (either k at);
    }
  where
    by : (k : ℕ) → from ≤ k → k < at + count → (k < at) ⊎ (at ≤ k) → get_or (written at piece mid) k 0 ≡ 0
    by k from_k lt (inl before) = written_before at piece mid k is.long before ∙ is.zeros k from_k before
    by k from_k lt (inr behind) = written_inside at piece mid k is.long behind (omega arith) ∙ zero (k - at)
