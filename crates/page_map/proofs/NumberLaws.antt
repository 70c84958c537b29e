-- Numbers in the bytes of a map page, read and written one by one.
use Rattle.std.proofs.Common.{◌≡◌, ℕ, ◌+◌, ◌-◌, ◌*◌, ◌≤◌, ◌<◌, List, [], ◌∷◌, ◌++◌, length, take, drop, get_or, set, refl, sym, ap, ◌∙◌, arith, length-drop, length-append, length-take-le, append_assoc, add-zero, slice_index}
use Rattle.std.proofs.lemmas.List.{take_all, take_at, take-append-drop, drop_all, drop_more, drop-drop, append-nil, flat_map_more, length_push, set_at}
use Rattle.std.proofs.lemmas.Slice.{drop-append-drop}
use Rattle.std.specs.List.{flat_map}
use Rattle.std.proofs.lemmas.List.FromFn.{length-map-range_with_len, map-range_with_len_more}
use Rattle.byteorder.specs.Endian.{little_bytes}
use Rattle.page_map.specs.Numbers.{number_at, first_numbers, bytes_of, numbers_from, with_numbers}

-- the rest of a list, as a range to its end has it
rest_is : (bytes : List ℕ) (place : ℕ) → take (length bytes - place) (drop place bytes) ≡ drop place bytes
rest_is bytes place = take_all (length bytes - place) (drop place bytes) (omega (arith, length-drop place bytes))

pub number_written : (bytes part : List ℕ) (index number : ℕ) → 4 * index + 4 ≤ length bytes
    → part ≡ little_bytes 4 number ++ drop 4 (take (length bytes - 4 * index) (drop (4 * index) bytes))
    → take (4 * index) bytes ++ (part ++ drop (length bytes - 4 * index) (drop (4 * index) bytes)) ≡ take (4 * index) bytes ++ (little_bytes 4 number ++ drop (4 * index + 4) bytes)
number_written bytes part index number fits is =
    let place = 4 * index in
    let none_after : drop (length bytes - place) (drop place bytes) ≡ [] = drop_all (length bytes - place) (drop place bytes) (omega (arith, length-drop place bytes)) in
    let kept : drop 4 (take (length bytes - place) (drop place bytes)) ≡ drop (place + 4) bytes = ap (λ (xs : List ℕ). drop 4 xs) (rest_is bytes place) ∙ drop-drop 4 place bytes in
    let whole : part ++ drop (length bytes - place) (drop place bytes) ≡ little_bytes 4 number ++ drop (place + 4) bytes =
    ap (λ (xs : List ℕ). part ++ xs) none_after ∙ append-nil part ∙ is ∙ ap (λ (xs : List ℕ). little_bytes 4 number ++ xs) kept in
    ap (λ (xs : List ℕ). take place bytes ++ xs) whole

pub length_first_numbers : (bytes : List ℕ) (count : ℕ) → length (first_numbers bytes count) ≡ count
unfolding first_numbers
length_first_numbers bytes count = length-map-range_with_len (number_at bytes) 0 count

pub first_numbers_none : (bytes : List ℕ) → first_numbers bytes 0 ≡ []
unfolding first_numbers
first_numbers_none bytes = refl

pub first_numbers_more : (bytes : List ℕ) (count : ℕ) → first_numbers bytes (count + 1) ≡ first_numbers bytes count ++ number_at bytes count ∷ []
unfolding first_numbers
first_numbers_more bytes count = map-range_with_len_more (number_at bytes) 0 count count (omega arith)

-- a list with no other numbers
pub with_none : (list : List ℕ) (place : ℕ) → with_numbers list place [] ≡ list
unfolding with_numbers
with_none list place = ap (λ (n : ℕ). take place list ++ drop n list) (add-zero place) ∙ take-append-drop place list

-- a list with one more number
pub with_one_more : (list : List ℕ) (place : ℕ) (numbers : List ℕ) (number at : ℕ) → at ≡ place + length numbers → at < length list
    → set (with_numbers list place numbers) at number ≡ with_numbers list place (numbers ++ number ∷ [])
unfolding with_numbers
with_one_more list place numbers number at is below =
    let before = take place list ++ numbers in
    let long : length before ≡ at = omega (arith, length-append (take place list) numbers, length-take-le place list (omega arith), is) in
    let rest = drop (at + 1) list in
    let split : take place list ++ (numbers ++ drop (place + length numbers) list) ≡ before ++ get_or list at 0 ∷ rest =
    ap (λ (n : ℕ). take place list ++ (numbers ++ drop n list)) (sym is)
    ∙ ap (λ (xs : List ℕ). take place list ++ (numbers ++ xs)) (drop_more list at 0 below)
    ∙ sym (append_assoc (take place list) numbers (get_or list at 0 ∷ rest)) in
    let end : at + 1 ≡ place + length (numbers ++ number ∷ []) = omega (arith, length_push numbers number, is) in
    ap (λ (xs : List ℕ). set xs at number) split
    ∙ set_at before (get_or list at 0) rest number at long
    ∙ append_assoc (take place list) numbers (number ∷ rest)
    ∙ ap (λ (xs : List ℕ). take place list ++ xs) (sym (append_assoc numbers (number ∷ []) rest))
    ∙ ap (λ (n : ℕ). take place list ++ ((numbers ++ number ∷ []) ++ drop n list)) end

length_bytes_of : (numbers : List ℕ) → length (bytes_of numbers) ≡ 4 * length numbers
unfolding bytes_of
length_bytes_of [] = refl
length_bytes_of (n ∷ numbers) =
    let rest = length_bytes_of numbers in
    length-append (little_bytes 4 n) (flat_map (little_bytes 4) numbers) ∙ omega (arith, rest)

bytes_of_more : (numbers : List ℕ) (number : ℕ) → bytes_of numbers ++ little_bytes 4 number ≡ bytes_of (numbers ++ number ∷ [])
unfolding bytes_of
bytes_of_more numbers number = flat_map_more (little_bytes 4) [] numbers number

numbers_from_more : (list : List ℕ) (place count : ℕ) → numbers_from list place (count + 1) ≡ numbers_from list place count ++ slice_index list (place + count) ∷ []
unfolding numbers_from
numbers_from_more list place count = map-range_with_len_more (slice_index list) place count (place + count) refl

length_numbers_from : (list : List ℕ) (place count : ℕ) → length (numbers_from list place count) ≡ count
unfolding numbers_from
length_numbers_from list place count = length-map-range_with_len (slice_index list) place count

pub bytes_of_none : (list : List ℕ) (place : ℕ) → bytes_of (numbers_from list place 0) ≡ []
unfolding bytes_of numbers_from
bytes_of_none list place = refl

-- one more number of a list was written, over bytes that were there
pub written_more : (list there into : List ℕ) (place index number : ℕ) → number ≡ slice_index list (place + index)
    → into ≡ bytes_of (numbers_from list place index) ++ drop (4 * index) there
    → take (4 * index) into ++ (little_bytes 4 number ++ drop (4 * index + 4) into) ≡ bytes_of (numbers_from list place (index + 1)) ++ drop (4 * (index + 1)) there
written_more list there into place index number is so_far =
    let numbers = numbers_from list place index in
    let bytes = bytes_of numbers in
    let long : length bytes ≡ 4 * index = omega (arith, length_bytes_of numbers, length_numbers_from list place index) in
    let next : 4 * index + 4 ≡ 4 * (index + 1) = omega arith in
    let before : take (4 * index) into ≡ bytes = ap (λ (xs : List ℕ). take (4 * index) xs) so_far ∙ take_at bytes (drop (4 * index) there) (4 * index) long in
    let behind : drop (4 * index + 4) into ≡ drop (4 * (index + 1)) there =
    ap (λ (xs : List ℕ). drop (4 * index + 4) xs) so_far
    ∙ drop-append-drop (4 * index) there bytes (4 * index + 4) (omega arith) long
    ∙ ap (λ (n : ℕ). drop n there) next in
    let whole : bytes ++ little_bytes 4 number ≡ bytes_of (numbers_from list place (index + 1)) =
    bytes_of_more numbers number ∙ ap bytes_of (ap (λ (n : ℕ). numbers ++ n ∷ []) is ∙ sym (numbers_from_more list place index)) in
    ap (λ (xs : List ℕ). xs ++ (little_bytes 4 number ++ drop (4 * index + 4) into)) before
    ∙ ap (λ (xs : List ℕ). bytes ++ (little_bytes 4 number ++ xs)) behind
    ∙ sym (append_assoc bytes (little_bytes 4 number) (drop (4 * (index + 1)) there))
    ∙ ap (λ (xs : List ℕ). xs ++ drop (4 * (index + 1)) there) whole
