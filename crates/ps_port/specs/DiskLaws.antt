-- What a write leaves of bytes, whole or torn: laws of the disk.
use Rattle.std.specs.Prelude.{◌≡◌, ℕ, ◌+◌, ◌-◌, ◌<◌, List, ◌++◌, length, take, drop, refl}
use Rattle.std.proofs.Common.{inl, inr, get_or, ◌∙◌, ap, arith, length-append, length-drop, length-take}
use Rattle.std.proofs.lemmas.List.{get_or-append_right, get_or_append_left, get_or-drop, get_or-take}
use Rattle.ps_port.specs.Disk.{written, IsOutside, Torn}

-- how long bytes are after a write
pub length-written : (at : ℕ) (bytes old : List ℕ) → length (written at bytes old) + 0 ≡ length (take at old) + length bytes + length (drop (at + length bytes) old)
length-written at bytes old = omega (arith, length-append (take at old ++ bytes) (drop (at + length bytes) old), length-append (take at old) bytes)

-- a byte elsewhere stays
pub written_elsewhere : (at : ℕ) (bytes old : List ℕ) (k : ℕ) → k < length old → IsOutside at (length bytes) k → get_or (written at bytes old) k 0 ≡ get_or old k 0
written_elsewhere at bytes old k lt (inl before) =
    let front : k < length (take at old) = omega (arith, length-take at old) in
    let longer : k < length (take at old ++ bytes) = omega (arith, length-append (take at old) bytes) in
    get_or_append_left (take at old ++ bytes) (drop (at + length bytes) old) 0 k longer ∙ get_or_append_left (take at old) bytes 0 k front ∙ get_or-take at old k 0 before
written_elsewhere at bytes old k lt (inr behind) =
    let size : length (take at old ++ bytes) ≡ at + length bytes = omega (arith, length-append (take at old) bytes, length-take at old) in
    get_or-append_right (take at old ++ bytes) (drop (at + length bytes) old) (at + length bytes) k 0 size behind
    ∙ get_or-drop (at + length bytes) old (k - (at + length bytes)) 0
    ∙ ap (λ (n : ℕ). get_or old n 0) (omega arith)

-- a write that was done is one that may have been cut short
pub written_torn : (at : ℕ) (bytes old : List ℕ) → Torn at (length bytes) old (written at bytes old)
written_torn at bytes old = record {
  no_shorter = omega (arith, length-written at bytes old, length-take at old, length-drop (at + length bytes) old);
  no_longer = omega (arith, length-written at bytes old, length-take at old, length-drop (at + length bytes) old);
  elsewhere = λ k lt out. written_elsewhere at bytes old k lt out;
}

pub torn_none : (at count : ℕ) (old : List ℕ) → Torn at count old old
torn_none at count old = record { no_shorter = omega arith; no_longer = omega arith; elsewhere = λ k lt out. refl }
