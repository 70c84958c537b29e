-- The numbers of physical pages that stand in a map page, four bytes each, the low one first.
use Rattle.std.specs.Prelude.{ℕ, ◌+◌, ◌*◌, ◌^◌, ◌<◌, List, ◌++◌, length, map, take, drop, slice_index}
use Rattle.std.specs.List.{range_with_len, flat_map}
use Rattle.byteorder.specs.Endian.{little_bytes, little_number}

-- the numbers in a map page
abbrev pub numbers_a_page : ℕ
numbers_a_page = 1024

-- the number at an index
abbrev pub number_at : List ℕ → ℕ → ℕ
number_at bytes index = little_number 4 (drop (4 * index) bytes)

-- each of these is a number of four bytes
abbrev pub AreNumbers : List ℕ → Type 0
AreNumbers numbers = (index : ℕ) → slice_index numbers index < 2 ^ 32

-- the first numbers, so many
unfoldable pub first_numbers : List ℕ → ℕ → List ℕ
first_numbers bytes count = map (number_at bytes) (range_with_len 0 count)

-- the bytes of numbers
unfoldable pub bytes_of : List ℕ → List ℕ
bytes_of numbers = flat_map (little_bytes 4) numbers

-- so many numbers of a list from a place on, and 0 past its end
unfoldable pub numbers_from : List ℕ → ℕ → ℕ → List ℕ
numbers_from list place count = map (slice_index list) (range_with_len place count)

-- a list with other numbers in it from a place on
unfoldable pub with_numbers : List ℕ → ℕ → List ℕ → List ℕ
with_numbers list place numbers = take place list ++ (numbers ++ drop (place + length numbers) list)
