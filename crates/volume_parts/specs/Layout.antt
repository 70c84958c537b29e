-- Where the first pages of a volume lie in the bytes of its file.
use Rattle.std.specs.Prelude.{ℕ, ◌+◌, ◌/◌, ◌%◌, Bool, ◌==◌, List, drop, slice_index, if◌then◌else◌}
use Rattle.byteorder.specs.Endian.{little_number}

-- bytes of a page, and of the least file that can be a volume
abbrev pub page_bytes : ℕ
page_bytes = 4096

abbrev pub least_bytes : ℕ
least_bytes = 16384

-- the least number of pages
abbrev pub least_pages : ℕ
least_pages = 32

-- `PSVOL1`, as the number that its six bytes spell
abbrev pub magic : ℕ
magic = 54203818333008

-- so many bytes from there on, as a number, the low byte first
abbrev pub number_at : ℕ → ℕ → List ℕ → ℕ
number_at at width image = little_number width (drop at image)

-- byte 0: 1 is open
abbrev pub gate : List ℕ → ℕ
gate image = slice_index image 0

-- The low bit of page 1's first byte selects a root page: 2, or 3.
abbrev pub selects : List ℕ → Bool
selects image = slice_index image 4096 % 2 == 1

abbrev pub root_at : Bool → ℕ
root_at second = if second then 12288 else 8192

-- the pages that so many words take
abbrev pub pages_of_words : ℕ → ℕ
pages_of_words words = (words + 511) / 512
