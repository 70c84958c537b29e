-- A byte inside what was written.
use Rattle.std.proofs.Common.{◌≡◌, ℕ, ◌+◌, ◌-◌, ◌<◌, ◌≤◌, List, ◌++◌, length, get_or, take, drop, ◌∙◌, ap, arith}
use Rattle.std.proofs.lemmas.List.{append_assoc, get_or-append_right, get_or_append_left, length-take-le}
use Rattle.ps_port.specs.Disk.{written}

-- a byte of the range is one of those written
pub written_inside : (at : ℕ) (bytes old : List ℕ) (k : ℕ) → at ≤ length old → at ≤ k → k < at + length bytes → get_or (written at bytes old) k 0 ≡ get_or bytes (k - at) 0
written_inside at bytes old k within low high =
    let front = length-take-le at old within in
    ap (λ (xs : List ℕ). get_or xs k 0) (append_assoc (take at old) bytes (drop (at + length bytes) old))
    ∙ get_or-append_right (take at old) (bytes ++ drop (at + length bytes) old) at k 0 front low
    ∙ get_or_append_left bytes (drop (at + length bytes) old) 0 (k - at) (omega arith)
