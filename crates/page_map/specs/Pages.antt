-- The pages of a volume, by their numbers: which of them are free, and which a list names.
use Rattle.std.specs.Prelude.{◌≡◌, ℕ, ◌<◌, ◌≤◌, Bool, false, not, ◌&&◌, ◌==◌, nat_le, List, length, map, replicate, slice_index_or, count_by}
use Rattle.std.specs.List.{range_with_len, list_any}

-- Whether a page is free. `free` says it of each page that there is; what is past them is no free page.
abbrev pub is_free : List Bool → ℕ → Bool
is_free free page = slice_index_or free page false

-- how many pages aren't free
abbrev pub held_of : List Bool → ℕ
held_of free = count_by not free

-- of so many pages, exactly those are free that pass the test
unfoldable pub free_where : ℕ → (ℕ → Bool) → List Bool
free_where count test = map test (range_with_len 0 count)

-- Pages 0 to 3 are the header, the page of the selector and the two root pages, and never free.
abbrev pub may_be_free : ℕ → Bool
may_be_free page = nat_le 4 page

-- a page that isn't free, and isn't one of the first four
pub record IsTaken (free : List Bool) (page : ℕ) : Type 0 where
  pub above : 4 ≤ page
  pub below : page < length free
  pub in_use : is_free free page ≡ false

-- whether a list names a page
unfoldable pub names : List ℕ → ℕ → Bool
names list page = list_any (λ number. number == page) list

-- whether one of these lists names a page
unfoldable pub one_names : List (List ℕ) → ℕ → Bool
one_names lists page = list_any (λ list. names list page) lists

-- A list of so many logical pages that names no page: 0 stands for none.
abbrev pub no_pages : ℕ → List ℕ
no_pages count = replicate count 0

-- which pages are free once those that a list names were taken
abbrev pub without : List Bool → List ℕ → List Bool
without free list = free_where (length free) (λ page. is_free free page && not (names list page))
