-- Which map pages a commit changes, and the pages that they get.
use Rattle.std.specs.Prelude.{ℕ, zero, suc, ◌+◌, ◌*◌, Bool, false, not, ◌||◌, ◌==◌, slice_index, nat_lt, if◌then◌else◌}
use Rattle.page_map.specs.Map.{MapView}

-- the number that is committed next for a logical page: the staged one, and none past so many logical pages
unfoldable pub next_number : MapView → ℕ → ℕ → ℕ
next_number map logical page = if nat_lt page logical then slice_index map.staged page else 0

-- whether it is another one than before
unfoldable pub differs : MapView → ℕ → ℕ → Bool
differs map logical page = not (next_number map logical page == slice_index map.committed page)

-- one of so many passes
unfoldable pub one_of : (ℕ → Bool) → ℕ → Bool
one_of test zero = false
one_of test (suc count) = one_of test count || test count

-- whether a number of a map page changes
unfoldable pub is_changed : MapView → ℕ → ℕ → Bool
is_changed map logical map_page = one_of (λ i. differs map logical (1024 * map_page + i)) 1024

-- how many of the first map pages change
unfoldable pub changed_pages : MapView → ℕ → ℕ → ℕ
changed_pages map logical zero = 0
changed_pages map logical (suc count) = changed_pages map logical count + (if is_changed map logical count then 1 else 0)
