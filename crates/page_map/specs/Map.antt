-- What a page map is to its callers, and what each call makes of it.
use Rattle.std.specs.Prelude.{◌≡◌, ℕ, ◌*◌, ◌<◌, ◌≤◌, ◌^◌, Bool, true, false, not, ◌&&◌, ◌||◌, List, [], length, replicate, slice_index_or, slice_set}
use Rattle.page_map.specs.Pages.{is_free, free_where, may_be_free, IsTaken, names, one_names, no_pages, without}
use Rattle.page_map.specs.declared.fault.MapFault.{MapFault}
use Rattle.page_map.specs.declared.fault.MapFault.TheVariants.{BadNumber}
use Rattle.page_map.specs.Numbers.{numbers_a_page, number_at, first_numbers, with_numbers}

pub record MapView : Type 0 where
  -- of each logical page the physical page that holds it, or 0 for none: as they were committed, and as they are staged
  pub committed : List ℕ
  pub staged : List ℕ
  -- of each pin the list that it holds; where it holds nothing, that list names no page
  pub pins : List (List ℕ)
  -- of each physical page whether it is free
  pub free : List Bool

-- whether a list of the map names a page
abbrev pub list_names : MapView → ℕ → Bool
list_names map page = names map.committed page || (names map.staged page || one_names map.pins page)

-- What is so of every page map. So a page that is taken while it is free is named by no list.
pub record IsMap (map : MapView) : Type 0 where
  pub staged : length map.staged ≡ length map.committed
  pub pinned : (pin : ℕ) → pin < length map.pins → length (slice_index_or map.pins pin []) ≡ length map.committed
  pub logical : length map.committed < 2 ^ 32
  pub pages : length map.free < 2 ^ 32
  pub fixed : (page : ℕ) → page < 4 → is_free map.free page ≡ false
  pub named : (page : ℕ) → 1 ≤ page → list_names map page ≡ true → IsTaken map.free page

-- a map of so many logical pages and so many physical ones, of which no list names one
abbrev pub fresh_map : ℕ → ℕ → MapView
fresh_map logical pages = record {
  committed = no_pages logical;
  staged = no_pages logical;
  pins = [];
  free = free_where pages may_be_free;
}

-- the map after a page was taken
abbrev pub with_taken : MapView → ℕ → MapView
with_taken map page = record map { free = slice_set map.free page false }

-- the map with another number staged for a logical page
abbrev pub with_staged : MapView → ℕ → ℕ → MapView
with_staged map page number = record map { staged = slice_set map.staged page number }

-- the map after numbers of a map page were read: they are staged from the map page's first logical page on, and taken
abbrev pub with_read : MapView → ℕ → List ℕ → MapView
with_read map number numbers = record map { staged = with_numbers map.staged (numbers_a_page * number) numbers; free = without map.free numbers }

-- whether the number at an index is a free page once those before it were taken
abbrev pub is_good : MapView → List ℕ → ℕ → Bool
is_good map bytes index = is_free (without map.free (first_numbers bytes index)) (number_at bytes index)

-- the numbers before an index are good
abbrev pub AreGood : MapView → List ℕ → ℕ → Type 0
AreGood map bytes count = (index : ℕ) → index < count → is_good map bytes index ≡ true

-- Where a map page has a bad number: that is the first one that is no free page once those before it were taken. Those before it were read.
pub record IsBadNumber (old : MapView) (number count : ℕ) (bytes : List ℕ) (index found : ℕ) (new : MapView) : Type 0 where
  pub within : index < count
  pub is : found ≡ number_at bytes index
  pub before : AreGood old bytes index
  pub bad : is_good old bytes index ≡ false
  pub read : new ≡ with_read old number (first_numbers bytes index)

-- why a map page was not read to its end
abbrev pub IsFault : MapView → ℕ → ℕ → List ℕ → MapFault → MapView → Type 0
IsFault old number count bytes (BadNumber index found) new = IsBadNumber old number count bytes index found new

-- The map after settling. The staged list is the committed one; and a page from 4 on is in use exactly where that list, the map pages or a
-- pin names it.
abbrev pub settled : MapView → List ℕ → MapView
settled map map_pages = record map {
  committed = map.staged;
  free = free_where (length map.free) (λ page. may_be_free page && not (names map.staged page || (names map_pages page || one_names map.pins page)));
}

-- The map with another list in a pin. A page that the list given up named, and that no list names now, is free, and every other page is as
-- before.
abbrev pub with_pin : MapView → ℕ → List ℕ → MapView
with_pin map pin list =
    let given_up = slice_index_or map.pins pin [] in
    let now = record map { pins = slice_set map.pins pin list } in
    record now { free = free_where (length map.free) (λ page. is_free map.free page || (may_be_free page && (names given_up page && not (list_names now page)))) }

-- the map with these lists in its pins
abbrev pub with_pins : MapView → List (List ℕ) → MapView
with_pins map pins = record map { pins = pins }

-- each pin holds nothing
abbrev pub NoneIsPinned : MapView → Type 0
NoneIsPinned map = map.pins ≡ replicate (length map.pins) (no_pages (length map.committed))
