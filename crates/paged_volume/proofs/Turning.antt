-- What each step of a switch leaves.
use Rattle.std.proofs.Common.{◌≡◌, ◌≢◌, inl, inr, ℕ, ◌+◌, ◌-◌, ◌*◌, ◌/◌, ◌%◌, ◌^◌, ◌<◌, ◌≤◌, true, List, [], ◌∷◌, ◌++◌, length, length-append, get_or, take, drop, refl, sym, ◌∙◌, ap, subst, arith, slice_index}
use Rattle.std.specs.List.{flat_map}
use Rattle.byteorder.specs.Endian.{little_bytes}
use Rattle.std.proofs.lemmas.Bool.{cases_lt}
use Rattle.std.proofs.lemmas.List.{get_or-take, get_or_past}
use Rattle.std.proofs.lemmas.List.FromFn.{length-map-range_with_len, get_or-map-range_with_len}
use Rattle.ps_port.specs.ps_outside.Outside.{Outside, Leaves, After}
use Rattle.ps_port.proofs.of_ps_outside.Moments.{along_then, along_weaker, along_now, along_none}
use Rattle.ps_port.specs.Disk.{Torn, Written, written}
use Rattle.ps_port.specs.DiskLaws.{written_torn}
use Rattle.ps_port.proofs.Torn.{written_range}
use Rattle.page_map.specs.Pages.{one_names}
use Rattle.page_map.specs.Numbers.{AreNumbers, bytes_of, numbers_from}
use Rattle.page_map.proofs.RoundLaws.{read_as_written}
use Rattle.volume_parts.specs.Layout.{number_at}
use Rattle.volume_parts.proofs.Numbers.{number_within}
use Rattle.paged_volume.specs.Layout.{capacity_pages, map_pages_of}
use Rattle.paged_volume.specs.Found.{numbers_of}
use Rattle.paged_volume.specs.Standing.{IsFit, IsNamedOnce, IsSpare, Says, index_of, maps_of, map_names, place_by, logical_of, map_count, staged_bytes}
use Rattle.paged_volume.specs.Switching.{IsNext, StaysMap, MovesMap, IsKept, SamePages, HasMaps}
use Rattle.paged_volume.specs.declared.table.Table.{Table}
use Rattle.paged_volume.specs.declared.committed.Committed.{Committed}
use Rattle.paged_volume.proofs.Bounds.{are_low}
use Rattle.paged_volume.proofs.Numbers.{unnamed_low, names_append}
use Rattle.paged_volume.proofs.Naming.{first_number}
use Rattle.paged_volume.proofs.Reading.{map_at, place_in}
use Rattle.paged_volume.proofs.Tables.{unnamed_is_not, both_or, once_apart}
use Rattle.paged_volume.proofs.Staying.{Apart, apart_spare, apart_page, not_named, says_stays, held_stays, bytes_stay, pinned_torn, not_pinned, number_stays}

-- what stands there now
pub kept_now : (a : Outside (List ℕ)) (table : Table) (image : List ℕ) → a.images a.clock image → Says table image → IsKept a table image
kept_now a table image now says = record { says = says; from = image; was = now; held = refl }

-- a page that may be written was written, whole or torn
pub kept_torn : (a : Outside (List ℕ)) (table : Table) (page : ℕ) (old new : List ℕ) → IsFit table.committed → IsNamedOnce table → IsSpare table page → IsKept a table old → Torn (4096 * page) 4096 old new → IsKept a table new
kept_torn a table page old new fit once spare kept torn =
    let apart = apart_spare table page spare in
    record {
      says = says_stays table page old new fit once apart torn kept.says;
      from = kept.from;
      was = kept.was;
      held = kept.held ∙ sym (held_stays table page old new fit once apart torn kept.says);
    }

-- the pages that are committed next are apart from those that name them
pub page_apart : (table : Table) (next : Committed) → IsNext table next → (page : ℕ) → page < logical_of next →
    ((i : ℕ) → i < next.depth → index_of table.next.items i ≢ get_or table.map.staged page 0) × ((i : ℕ) → i < map_count next → maps_of table.next.items i ≢ get_or table.map.staged page 0)
page_apart table next is page lt =
    let number = get_or table.map.staged page 0 in
    let before = map_names next.depth table.next.items (map_count next) in
    let none = unnamed_is_not next.pages (before ++ numbers_of (λ k. get_or table.map.staged k 0) page) number (is.pages_once page lt) in
    let front = (both_or _ _ (sym (names_append before (numbers_of (λ k. get_or table.map.staged k 0) page) number) ∙ none)).0 in
    let both = both_or _ _ (sym (names_append (numbers_of (index_of table.next.items) next.depth) (numbers_of (maps_of table.next.items) (map_count next)) number) ∙ front) in
    (λ i below. not_named (index_of table.next.items) next.depth number i both.0 below, λ i below. not_named (maps_of table.next.items) (map_count next) number i both.1 below)

-- the map pages are apart from the index page
pub map_apart : (table : Table) (next : Committed) → IsNext table next → (map_page : ℕ) → map_page < map_count next → (i : ℕ) → i < next.depth → index_of table.next.items i ≢ maps_of table.next.items map_page
map_apart table next is map_page lt i below =
    let number = maps_of table.next.items map_page in
    let before = numbers_of (index_of table.next.items) next.depth in
    let none = unnamed_is_not next.pages (before ++ numbers_of (maps_of table.next.items) map_page) number (is.maps_once map_page lt) in
    let front = (both_or _ _ (sym (names_append before (numbers_of (maps_of table.next.items) map_page) number) ∙ none)).0 in
    not_named (index_of table.next.items) next.depth number i front below

-- the pages that are committed next stand in a file that says what is committed
pub page_there : (table : Table) (next : Committed) → IsNext table next → (page : ℕ) → page < logical_of next → (4 ≤ get_or table.map.staged page 0) × (get_or table.map.staged page 0 < table.committed.pages)
page_there table next is page lt =
    let low = unnamed_low next.pages _ (get_or table.map.staged page 0) (is.pages_once page lt) in
    let pages = is.pages_are in
    let high = low.1 in
    (low.0, omega arith)

pub map_there : (table : Table) (next : Committed) → IsNext table next → (map_page : ℕ) → map_page < map_count next → maps_of table.next.items map_page < table.committed.pages
map_there table next is map_page lt =
    let low = unnamed_low next.pages _ (maps_of table.next.items map_page) (is.maps_once map_page lt) in
    let pages = is.pages_are in
    let high = low.1 in
    omega arith

-- and they stay where other bytes are written
staged_torn : (table : Table) (next : Committed) (at count : ℕ) (old new : List ℕ) → IsNext table next → 4096 * table.committed.pages ≤ length old → Torn at count old new →
    ((k : ℕ) → k < logical_of next → Apart (get_or table.map.staged k 0) at count) → staged_bytes table new ≡ staged_bytes table old
unfolding staged_bytes
staged_torn table next at count old new is long torn apart =
    bytes_stay (λ k. get_or table.map.staged k 0) (capacity_pages table.committed.pages) at count old new torn (λ k lt some. elim (cases_lt k (logical_of next)) [
      | inl below ↦ let there = page_there table next is k below in let high = there.1 in (apart k below, omega arith)
      | inr past ↦ absurd (some (is.bare k past))
    ])

-- and so do those that pins hold
pub pages_torn : (table : Table) (next : Committed) (at count : ℕ) (old new : List ℕ) → IsNext table next → 4096 * table.committed.pages ≤ length old → Torn at count old new →
    ((k : ℕ) → k < logical_of next → Apart (get_or table.map.staged k 0) at count) → ((page : ℕ) → 4 ≤ page → one_names table.map.pins page ≡ true → Apart page at count) → SamePages table old new
pages_torn table next at count old new is long torn apart pins_apart = record {
  staged = staged_torn table next at count old new is long torn apart;
  pinned = pinned_torn table at count old new long torn (λ page some pinned. let held = is.pinned page some pinned in let high = held.high in let same = is.pages_are in (held.low, omega arith)) pins_apart;
}

-- and so do the numbers of map pages
pub maps_torn : (table : Table) (next : Committed) (count at size : ℕ) (old new : List ℕ) → IsNext table next → count ≤ map_count next → 4096 * table.committed.pages ≤ length old → Torn at size old new →
    ((i : ℕ) → i < count → Apart (maps_of table.next.items i) at size) → HasMaps table next count old → HasMaps table next count new
maps_torn table next count at size old new is few long torn apart has k lt =
    let i = k / 1024 in
    let rest = k % 1024 in
    let below : i < count = omega arith in
    let there = map_there table next is i (omega arith) in
    let k_is : 1024 * i + rest ≡ k = omega arith in
    let place : place_by table.next.items k ≡ 4096 * maps_of table.next.items i + 4 * rest = ap (λ (n : ℕ). place_by table.next.items n) (sym k_is) ∙ place_in table.next.items i rest (omega arith) in
    number_stays (maps_of table.next.items i) (place_by table.next.items k) at size old new torn (apart i below) (omega (arith, place)) (omega (arith, place)) (omega arith) ∙ has k lt

place_same : (table : Table) (map_page k : ℕ) → k / 1024 ≡ map_page → maps_of table.next.items map_page ≡ maps_of table.named.items map_page → (image : List ℕ) →
    number_at (place_by table.next.items k) 4 image ≡ number_at (place_by table.named.items k) 4 image
unfolding place_by
place_same table map_page k here same image =
    ap (λ (n : ℕ). number_at (4096 * n + 4 * (k % 1024)) 4 image) (ap (λ (n : ℕ). maps_of table.next.items n) here ∙ same ∙ ap (λ (n : ℕ). maps_of table.named.items n) (sym here))

-- a map page that stays where it is says its numbers already
pub maps_stay : (table : Table) (next : Committed) (map_page : ℕ) (image : List ℕ) → IsNext table next → StaysMap table next map_page → Says table image → HasMaps table next map_page image → HasMaps table next (map_page + 1) image
maps_stay table next map_page image is stays says has k lt = elim (cases_lt k (1024 * map_page)) [
  | inl early ↦ has k (omega arith)
  | inr late ↦
      let here : k / 1024 ≡ map_page = omega arith in
      let below : k < logical_of next = omega arith in
      let there = page_there table next is k below in
      let least = there.0 in
      let same = stays.numbers k here below in
      let committed : k < logical_of table.committed = elim (cases_lt k (logical_of table.committed)) [ inl lt ↦ lt | inr past ↦ absurd (omega (arith, same, is.once.bare k past)) ] in
      place_same table map_page k here stays.same image ∙ says.names.numbers k committed ∙ sym same
]

-- the numbers of a list from a place on
length_from : (list : List ℕ) (first count : ℕ) → length (numbers_from list first count) ≡ count
unfolding numbers_from
length_from list first count = length-map-range_with_len (slice_index list) first count

from_at : (list : List ℕ) (first count k : ℕ) → k < count → get_or (numbers_from list first count) k 0 ≡ get_or list (first + k) 0
unfolding numbers_from
from_at list first count k lt = get_or-map-range_with_len (slice_index list) first count k (first + k) 0 lt refl

are_numbers : (list : List ℕ) (first : ℕ) → ((i : ℕ) → get_or list i 0 < 2 ^ 32) → AreNumbers (numbers_from list first 1024)
are_numbers list first few k = elim (cases_lt k 1024) [
  | inl lt ↦ omega (arith, from_at list first 1024 k lt, few (first + k))
  | inr past ↦ omega (arith, get_or_past (numbers_from list first 1024) k 0 (omega (arith, length_from list first 1024)))
]

-- a number in a map page that was made of staged numbers
number_made : (list : List ℕ) (first k : ℕ) (page : List ℕ) → page ≡ bytes_of (numbers_from list first 1024) → ((i : ℕ) → get_or list i 0 < 2 ^ 32) → k < 1024 → number_at (4 * k) 4 page ≡ get_or list (first + k) 0
number_made list first k page page_is few lt =
    let numbers = numbers_from list first 1024 in
    let size = length_from list first 1024 in
    ap (λ (xs : List ℕ). number_at (4 * k) 4 xs) page_is
    ∙ sym (first_number (bytes_of numbers) 1024 k lt)
    ∙ ap (λ (xs : List ℕ). get_or xs k 0) (read_as_written numbers 1024 (are_numbers list first few) (omega (arith, size)))
    ∙ get_or-take 1024 numbers k 0 lt
    ∙ from_at list first 1024 k lt

staged_few : (table : Table) (next : Committed) → IsNext table next → (k : ℕ) → get_or table.map.staged k 0 < 2 ^ 32
staged_few table next is k = elim (cases_lt k (logical_of next)) [
  | inl below ↦
      let there = page_there table next is k below in
      let high = there.1 in
      let pages = (are_low table.committed is.fit).pages in
      omega arith
  | inr past ↦ omega (arith, is.bare k past)
]

-- a map page that was written says its numbers
pub maps_written : (table : Table) (next : Committed) (map_page : ℕ) (page old : List ℕ) → IsNext table next → map_page < map_count next → MovesMap table next map_page → 4096 * table.committed.pages ≤ length old →
    page ≡ bytes_of (numbers_from table.map.staged (1024 * map_page) 1024) → length page ≡ 4096 → HasMaps table next map_page old → HasMaps table next (map_page + 1) (written (4096 * maps_of table.next.items map_page) page old)
maps_written table next map_page page old is lt moves long page_is size has k below = elim (cases_lt k (1024 * map_page)) [
  | inl early ↦
      maps_torn table next map_page (4096 * maps_of table.next.items map_page) 4096 old (written (4096 * maps_of table.next.items map_page) page old) is (omega arith) long
      (subst (λ (n : ℕ). Torn (4096 * maps_of table.next.items map_page) n old (written (4096 * maps_of table.next.items map_page) page old)) size (written_torn (4096 * maps_of table.next.items map_page) page old))
      (λ i earlier. apart_page (maps_of table.next.items i) (maps_of table.next.items map_page) (once_apart next.pages _ (maps_of table.next.items) (map_count next) i map_page is.maps_once earlier lt)) has k (omega arith)
  | inr late ↦
      let number = maps_of table.next.items map_page in
      let there = map_there table next is map_page lt in
      let rest = k - 1024 * map_page in
      let k_is : 1024 * map_page + rest ≡ k = omega arith in
      let inside : rest < 1024 = omega arith in
      let read : take 4096 (drop (4096 * number) (written (4096 * number) page old)) ≡ page = ap (λ (n : ℕ). take n (drop (4096 * number) (written (4096 * number) page old))) (sym size) ∙ written_range (4096 * number) page old (omega arith) in
      subst (λ (n : ℕ). number_at (place_by table.next.items n) 4 (written (4096 * number) page old) ≡ get_or table.map.staged n 0) k_is
      (ap (λ (n : ℕ). number_at n 4 (written (4096 * number) page old)) (place_in table.next.items map_page rest inside)
      ∙ sym (number_within (4096 * number) 4096 (4 * rest) 4 (written (4096 * number) page old) (omega arith))
      ∙ ap (λ (xs : List ℕ). number_at (4 * rest) 4 xs) read
      ∙ number_made table.map.staged (1024 * map_page) rest page page_is (staged_few table next is) inside)
]

-- which it is, by its number
pub is_stay : (table : Table) (next : Committed) (map_page : ℕ) → IsNext table next → map_page < map_count next → maps_of table.next.items map_page ≡ maps_of table.named.items map_page → StaysMap table next map_page
is_stay table next map_page is lt same = elim (is.maps map_page lt) [ inl stays ↦ stays | inr moves ↦ absurd (moves.other same) ]

pub is_move : (table : Table) (next : Committed) (map_page : ℕ) → IsNext table next → map_page < map_count next → maps_of table.next.items map_page ≢ maps_of table.named.items map_page → MovesMap table next map_page
is_move table next map_page is lt other = elim (is.maps map_page lt) [ inl stays ↦ absurd (other stays.same) | inr moves ↦ moves ]

length_made : (numbers : List ℕ) → length (bytes_of numbers) ≡ 4 * length numbers
unfolding bytes_of
length_made [] = refl
length_made (n ∷ numbers) =
    let rest = length_made numbers in
    length-append (little_bytes 4 n) (flat_map (little_bytes 4) numbers) ∙ omega (arith, rest)

pub length_map_page : (list : List ℕ) (first : ℕ) (page : List ℕ) → page ≡ bytes_of (numbers_from list first 1024) → length page ≡ 4096
length_map_page list first page is = ap (λ (xs : List ℕ). length xs) is ∙ length_made (numbers_from list first 1024) ∙ omega (arith, length_from list first 1024)

-- a page that may be written was written
module _ (a b : Outside (List ℕ)) (table : Table) (number : ℕ) (fit : IsFit table.committed) (once : IsNamedOnce table) (spare : IsSpare table number) (says : (image : List ℕ) → a.images a.clock image → Says table image)
    (write : Leaves a b (After (a.images a.clock) (Torn (4096 * number) 4096))) where
  pub kept_write : Leaves a b (IsKept a table)
  kept_write = along_weaker write (λ image after. kept_torn a table number after.from image fit once spare (kept_now a table after.from after.was (says after.from after.was)) after.by)

pub kept_none : (a : Outside (List ℕ)) (table : Table) → ((image : List ℕ) → a.images a.clock image → Says table image) → Leaves a a (IsKept a table)
kept_none a table says = along_weaker (along_none a.clock a.images) (λ image now. kept_now a table image now (says image now))

pub kept_again : (a b : Outside (List ℕ)) (table : Table) → Leaves a b (IsKept a table) → (image : List ℕ) → IsKept b table image → IsKept a table image
kept_again a b table first image kept =
    let was = along_now first kept.from kept.was in
    record { says = kept.says; from = was.from; was = was.was; held = was.held ∙ kept.held }

pub kept_then : (a b c : Outside (List ℕ)) (table : Table) → Leaves a b (IsKept a table) → Leaves b c (IsKept b table) → Leaves a c (IsKept a table)
kept_then a b c table first next = along_then first (along_weaker next (λ image kept. kept_again a b table first image kept)) (λ image kept. kept)

few_maps : (next : Committed) (table : Table) (map_page : ℕ) → map_page < map_count next → next.pages ≡ table.committed.pages → length table.next.items ≡ 1 + map_pages_of (capacity_pages table.committed.pages) →
    map_count next ≤ map_pages_of (capacity_pages next.pages) → 1 + map_page < length table.next.items
few_maps next table map_page lt pages size most =
    let same : map_pages_of (capacity_pages next.pages) ≡ map_pages_of (capacity_pages table.committed.pages) = ap (λ (n : ℕ). map_pages_of (capacity_pages n)) pages in
    omega (arith, same)

-- the number of a map page that is written
pub spare_number : (table : Table) (next : Committed) (map_page x y : ℕ) → IsNext table next → map_page < map_count next → x ≡ get_or table.next.items (1 + map_page) x → y ≡ get_or table.named.items (1 + map_page) y → x ≢ y →
    (x ≡ maps_of table.next.items map_page) × MovesMap table next map_page
spare_number table next map_page x y is lt x_is y_is differs =
    let low = are_low next is.next_fit in
    let most = low.maps in
    let pages = is.pages_are in
    let size = is.nexts in
    let also = is.names in
    let within : 1 + map_page < length table.next.items = few_maps next table map_page lt pages size most in
    let there : 1 + map_page < length table.named.items = omega arith in
    let new = map_at table.next.items map_page x within x_is in
    let old = map_at table.named.items map_page y there y_is in
    (new, is_move table next map_page is lt (λ same. differs (new ∙ same ∙ sym old)))

pub stay_number : (table : Table) (next : Committed) (map_page x y : ℕ) → IsNext table next → map_page < map_count next → x ≡ get_or table.next.items (1 + map_page) x → y ≡ get_or table.named.items (1 + map_page) y → x ≡ y → StaysMap table next map_page
stay_number table next map_page x y is lt x_is y_is same =
    let low = are_low next is.next_fit in
    let most = low.maps in
    let pages = is.pages_are in
    let size = is.nexts in
    let also = is.names in
    let within : 1 + map_page < length table.next.items = few_maps next table map_page lt pages size most in
    let there : 1 + map_page < length table.named.items = omega arith in
    is_stay table next map_page is lt (sym (map_at table.next.items map_page x within x_is) ∙ same ∙ map_at table.named.items map_page y there y_is)

pub there_write : (table : Table) (next : Committed) (map_page x : ℕ) (image : List ℕ) → IsNext table next → map_page < map_count next → x ≡ maps_of table.next.items map_page → Says table image → 4096 * x ≤ length image
there_write table next map_page x image is lt x_is says =
    let there = map_there table next is map_page lt in
    let long = says.head.long in
    omega arith

-- what a map page that was written leaves
pub map_content : (table : Table) (next : Committed) (map_page x : ℕ) (page old new : List ℕ) → IsNext table next → map_page < map_count next → x ≡ maps_of table.next.items map_page → MovesMap table next map_page → Says table old →
    page ≡ bytes_of (numbers_from table.map.staged (1024 * map_page) 1024) → Written (4096 * x) page old new → (HasMaps table next map_page old → HasMaps table next (map_page + 1) new) × SamePages table old new
map_content table next map_page x page old new is lt x_is moves says page_is by =
    let number = maps_of table.next.items map_page in
    let new_is : new ≡ written (4096 * number) page old = by ∙ ap (λ (n : ℕ). written (4096 * n) page old) x_is in
    let size = length_map_page table.map.staged (1024 * map_page) page page_is in
    let torn : Torn (4096 * number) 4096 old (written (4096 * number) page old) = subst (λ (n : ℕ). Torn (4096 * number) n old (written (4096 * number) page old)) size (written_torn (4096 * number) page old) in (
      λ has. subst (λ (xs : List ℕ). HasMaps table next (map_page + 1) xs) (sym new_is) (maps_written table next map_page page old is lt moves says.head.long page_is size has),
      subst (λ (xs : List ℕ). SamePages table old xs) (sym new_is)
          (pages_torn table next (4096 * number) 4096 old (written (4096 * number) page old) is says.head.long torn (λ k below. apart_page (get_or table.map.staged k 0) number (λ same. (page_apart table next is k below).1 map_page lt (sym same)))
          (λ other low pinned. apart_page other number (not_pinned table number other moves.spare pinned))),
    )

pub kept_says : (a b : Outside (List ℕ)) (table : Table) → Leaves a b (IsKept a table) → (image : List ℕ) → b.images b.clock image → Says table image
kept_says a b table first image now = (along_now first image now).says

pub same_now : (table : Table) (image : List ℕ) → SamePages table image image
same_now table image = record { staged = refl; pinned = λ pin. refl }

same_twice : (table : Table) (old mid new : List ℕ) → SamePages table old mid → SamePages table mid new → SamePages table old new
same_twice table old mid new first next = record { staged = next.staged ∙ first.staged; pinned = λ pin. next.pinned pin ∙ first.pinned pin }

pub same_then : (a : Outside (List ℕ)) (table : Table) (mid new : List ℕ) → After a.contents (SamePages table) mid → SamePages table mid new → After a.contents (SamePages table) new
same_then a table mid new first next = record { from = first.from; was = first.was; by = same_twice table first.from mid new first.by next }
