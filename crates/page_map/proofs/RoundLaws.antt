-- Numbers that are written are read again.
use Rattle.std.proofs.Common.{◌≡◌, ℕ, zero, suc, ◌+◌, ◌*◌, ◌%◌, ◌^◌, ◌<◌, ◌≤◌, List, [], ◌∷◌, ◌++◌, length, take, drop, get_or, refl, sym, ap, ◌∙◌, arith}
use Rattle.std.specs.List.{flat_map}
use Rattle.std.proofs.lemmas.List.{drop_all, drop_more, drop-drop, get_or-take, length-take-le}
use Rattle.std.proofs.lemmas.List.FromFn.{fill_by_all}
use Rattle.std.proofs.Math.Nat.{mod-eq_of_lt, div-one}
use Rattle.byteorder.specs.Endian.{little_bytes, little_number}
use Rattle.byteorder.specs.Numbers.{little_from-bytes}
use Rattle.page_map.specs.Numbers.{AreNumbers, number_at, first_numbers, bytes_of}

-- the bytes from a number on are those of the numbers from there on
drop_bytes : (numbers : List ℕ) (index : ℕ) → drop (4 * index) (bytes_of numbers) ≡ bytes_of (drop index numbers)
unfolding bytes_of
drop_bytes numbers zero = refl
drop_bytes [] (suc index) = drop_all (4 * suc index) [] (omega arith)
drop_bytes (n ∷ numbers) (suc index) =
    let place : 4 * suc index ≡ 4 + 4 * index = omega arith in
    let bytes = little_bytes 4 n ++ flat_map (little_bytes 4) numbers in
    ap (λ (k : ℕ). drop k bytes) place ∙ sym (drop-drop (4 * index) 4 bytes) ∙ drop_bytes numbers index

-- a number in the bytes of numbers is that number
number_is : (numbers : List ℕ) (index : ℕ) → index < length numbers → get_or numbers index 0 < 2 ^ 32 → number_at (bytes_of numbers) index ≡ get_or numbers index 0
unfolding bytes_of
number_is numbers index below fits =
    let number = get_or numbers index 0 in
    let rest = drop (index + 1) numbers in
    ap (little_number 4) (drop_bytes numbers index ∙ ap (flat_map (little_bytes 4)) (drop_more numbers index 0 below))
    ∙ little_from-bytes 4 0 number (flat_map (little_bytes 4) rest)
    ∙ ap (λ (n : ℕ). n % 256 ^ 4) (div-one number)
    ∙ mod-eq_of_lt fits

pub read_as_written : (numbers : List ℕ) (count : ℕ) → AreNumbers numbers → count ≤ length numbers → first_numbers (bytes_of numbers) count ≡ take count numbers
unfolding first_numbers
read_as_written numbers count fit within =
    sym (fill_by_all (number_at (bytes_of numbers)) (take count numbers) count 0 (length-take-le count numbers within)
    (λ k below. get_or-take count numbers k 0 below ∙ sym (number_is numbers k (omega (arith, below, within)) (fit k))))
