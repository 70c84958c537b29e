-- What the numbers are that are read, and what a bad one says.
use Rattle.std.proofs.Common.{◌≡◌, ◌≢◌, inl, inr, ℕ, zero, suc, ◌+◌, ◌-◌, ◌*◌, ◌/◌, ◌%◌, ◌<◌, ◌≤◌, min, Bool, true, false, List, [], ◌++◌, length, get_or, set, take, drop, refl, sym, ◌∙◌, ap, subst, arith, Option, Some, None, if◌then◌else◌}
use Rattle.std.proofs.lemmas.Bool.{cases_lt, eq-eqb, ne_eqb}
use Rattle.std.proofs.lemmas.List.{get_or_default}
use Rattle.ps_port.specs.ps_outside.Outside.{Outside}
use Rattle.page_map.specs.Pages.{is_free, without}
use Rattle.page_map.specs.Map.{MapView, AreGood, IsFault, IsBadNumber, with_taken, with_read}
use Rattle.page_map.specs.declared.fault.MapFault.{MapFault}
use Rattle.page_map.specs.declared.fault.MapFault.TheVariants.{BadNumber}
use Rattle.page_map.specs.Numbers.{first_numbers}
use Rattle.volume_parts.specs.Layout.{number_at, root_at}
use Rattle.volume_parts.specs.declared.open_fault.OpenFault.{OpenFault}
use Rattle.volume_parts.specs.declared.open_fault.OpenFault.TheVariants.{Device, NotAVolume, Damaged, Memory}
use Rattle.volume_parts.specs.Calls.{Looks}
use Rattle.volume_parts.proofs.Looking.{rose_then}
use Rattle.volume_parts.proofs.Numbers.{number_within}
use Rattle.paged_volume.specs.Layout.{maps_at, in_map_page, index_number, map_place, map_number, page_place, page_number, map_pages_of}
use Rattle.paged_volume.specs.Found.{damage, bound_of, numbers_of, unnamed, name_tests, names_tests}
use Rattle.paged_volume.specs.Standing.{IsFit, AreUnnamed, HasNames, index_of, maps_of, map_names, place_by, logical_of, map_count}
use Rattle.paged_volume.specs.Naming.{IsNamingOf, IsNaming, IsFailed, FailsBy, names_at, skipped, page_tests}
use Rattle.paged_volume.specs.declared.table.Table.{Table}
use Rattle.paged_volume.specs.declared.damage.Damage.{Damage}
use Rattle.paged_volume.specs.declared.committed.Committed.{Committed}
use Rattle.paged_volume.proofs.Bounds.{are_low, pages_low, skipped_to, skipped_low}
use Rattle.paged_volume.proofs.Numbers.{some_or, none_then, numbers_same, numbers_none, tests_none, tests_some, tests_same, are_none, are_same, unnamed_low}
use Rattle.paged_volume.proofs.Naming.{free_none, free_maps, naming_index, naming_map, bad_page, read_here, map_set, maps_before, index_set}

not_device : (at found wanted : ℕ) {B : Type 0} → Damaged at found wanted ≡ Device → B
not_device at found wanted e = absurd (subst IsDamaged e tt)
  where
    IsDamaged : OpenFault → Type 0
    IsDamaged Device = ⊥
    IsDamaged (NotAVolume size gate) = ⊥
    IsDamaged (Damaged at found wanted) = Unit {0}
    IsDamaged Memory = ⊥

pub fails_by : (old new : Outside (List ℕ)) (tests : List ℕ → Option Damage) (fault : OpenFault) (found : Damage) → fault ≡ Damaged found.at found.found found.wanted →
    ((bytes : List ℕ) → old.contents bytes → tests bytes ≡ Some found) → FailsBy old new tests fault
fails_by old new tests fault found is all = subst (λ (f : OpenFault). FailsBy old new tests f) (sym is) (record {
  device = λ same. not_device found.at found.found found.wanted same;
  by = all;
})

pub same_damage : (found : Damage) (at other pages others number : ℕ) → found ≡ damage at number (bound_of others number) → at ≡ other → others ≡ pages → Some (damage other number (bound_of pages number)) ≡ Some found
same_damage found at other pages others number is at_is pages_are =
    sym (ap (λ (d : Damage). Some d) is ∙ (λ i. Some (damage (at_is i) number (bound_of (pages_are i) number))))

-- where the numbers of the map pages begin, by depth
pub names_at_none : (second : Bool) (depth index : ℕ) → depth ≡ 0 → names_at second depth index ≡ root_at second
unfolding names_at
names_at_none second depth index e = ap (λ (b : Bool). if b then root_at second else 4096 * index) (eq-eqb depth 0 e)

pub names_at_one : (second : Bool) (depth index : ℕ) → depth ≢ 0 → names_at second depth index ≡ 4096 * index
unfolding names_at
names_at_one second depth index ne = ap (λ (b : Bool). if b then root_at second else 4096 * index) (ne_eqb depth 0 ne)

pub maps_at_none : (second : Bool) (depth index : ℕ) → depth ≡ 0 → maps_at second depth index ≡ root_at second + 28
unfolding maps_at
maps_at_none second depth index e = ap (λ (b : Bool). if b then root_at second + 28 else 4096 * index) (eq-eqb depth 0 e)

pub maps_at_one : (second : Bool) (depth index : ℕ) → depth ≢ 0 → maps_at second depth index ≡ 4096 * index
unfolding maps_at
maps_at_one second depth index ne = ap (λ (b : Bool). if b then root_at second + 28 else 4096 * index) (ne_eqb depth 0 ne)

pub maps_at_same : (second : Bool) (depth one other : ℕ) → ((i : ℕ) → i < depth → one ≡ other) → maps_at second depth one ≡ maps_at second depth other
maps_at_same second depth one other same = elim (cases_lt 0 depth) [
  | inl deep ↦ ap (λ (n : ℕ). maps_at second depth n) (same 0 deep)
  | inr none ↦ maps_at_none second depth one (omega arith) ∙ sym (maps_at_none second depth other (omega arith))
]

pub index_first : (named : List ℕ) (i : ℕ) → index_of named i ≡ get_or named 0 0
unfolding index_of
index_first named i = refl

root_most : (second : Bool) → root_at second ≤ 12288
root_most true = omega arith
root_most false = omega arith

pub names_at_low : (committed : Committed) (map : MapView) (named : List ℕ) (maps pages : ℕ) → IsNamingOf committed map named committed.depth maps pages →
    names_at committed.second committed.depth (get_or named 0 0) < 4294967296
names_at_low committed map named maps pages is = by committed.depth is.index_once
  where
    by : (depth : ℕ) → AreUnnamed committed.pages [] (index_of named) depth → names_at committed.second depth (get_or named 0 0) < 4294967296
    by zero once = omega (arith, names_at_none committed.second zero (get_or named 0 0) refl, root_most committed.second)
    by (suc depth) once =
        let low = unnamed_low committed.pages _ (index_of named 0) (once 0 (omega arith)) in
        let below : get_or named 0 0 < committed.pages = omega (arith, low.1, index_first named 0) in
        let pages = pages_low committed.format committed.pages is.fit.head in
        omega (arith, names_at_one committed.second (suc depth) (get_or named 0 0) (λ e. absurd (omega arith)), below, pages)

-- the value at an index
pub at_index : (xs : List ℕ) (i x : ℕ) → i < length xs → x ≡ get_or xs i x → x ≡ get_or xs i 0
at_index xs i x lt is = is ∙ get_or_default xs i x 0 lt

-- the number of the index page
module _ (committed : Committed) (map : MapView) (named page : List ℕ) (number : ℕ) (is : IsNamingOf committed map named 0 0 0) (number_is : number ≡ number_at 28 4 page) where
  pub index_read : (bytes : List ℕ) → page ≡ take 4096 (drop (root_at committed.second) bytes) → index_number committed.second bytes ≡ number
  index_read bytes page_is = sym (number_is ∙ ap (λ (xs : List ℕ). number_at 28 4 xs) page_is ∙ number_within (root_at committed.second) 4096 28 4 bytes (omega arith))

  pub index_fails : is_free map.free number ≡ false → committed.depth ≢ 0 → (bytes : List ℕ) → page ≡ take 4096 (drop (root_at committed.second) bytes) →
      name_tests committed.pages [] (λ i. root_at committed.second + 28) (λ i. index_number committed.second bytes) committed.depth ≡ Some (damage (root_at committed.second + 28) number (bound_of committed.pages number))
  index_fails bad deep bytes page_is =
      let same = index_read bytes page_is in
      let lt = positive committed.depth deep in
      let fails : is_free (unnamed committed.pages ([] ++ numbers_of (λ i. index_number committed.second bytes) 0)) (index_number committed.second bytes) ≡ false =
      ap (λ (xs : List ℕ). is_free (unnamed committed.pages xs) (index_number committed.second bytes)) (numbers_none (λ i. index_number committed.second bytes))
      ∙ ap (λ (n : ℕ). is_free (unnamed committed.pages []) n) same ∙ ap (λ (f : List Bool). is_free f number) (sym (free_none is)) ∙ bad in
      tests_some committed.pages [] (λ i. root_at committed.second + 28) (λ i. index_number committed.second bytes) 0 committed.depth lt (are_none committed.pages [] (λ i. index_number committed.second bytes)) fails
      ∙ ap (λ (n : ℕ). Some (damage (root_at committed.second + 28) n (bound_of committed.pages n))) same
    where
      positive : (depth : ℕ) → depth ≢ 0 → 0 < depth
      positive zero ne = absurd (ne refl)
      positive (suc depth) ne = omega arith

  pub index_named : (next : MapView) → is_free map.free number ≡ true → next ≡ with_taken map number → committed.depth ≢ 0 → IsNamingOf committed next (set named 0 number) committed.depth 0 0
  index_named next free next_is deep =
      let most = is.fit.depth.at_most_one in
      let depth_is = one committed.depth deep most in
      subst (λ (m : MapView). IsNamingOf committed m (set named 0 number) committed.depth 0 0) (sym next_is)
      (subst (λ (d : ℕ). IsNamingOf committed (with_taken map number) (set named 0 number) d 0 0) (sym depth_is) (naming_index committed map named number free is))
    where
      one : (depth : ℕ) → depth ≢ 0 → depth ≤ 1 → depth ≡ 1
      one zero ne most = absurd (ne refl)
      one (suc depth) ne most = omega arith

-- the number of a map page
pub map_taken : (committed : Committed) (map next : MapView) (named page : List ℕ) (map_page number place : ℕ) → IsNamingOf committed map named committed.depth map_page 0 → map_page < map_count committed →
    is_free map.free number ≡ true → next ≡ with_taken map number → IsNamingOf committed next (set named (1 + map_page) number) committed.depth (map_page + 1) 0
map_taken committed map next named page map_page number place is lt free next_is =
    let low = are_low committed is.fit in
    let maps = low.maps in
    let size = is.names in
    let below : 1 + map_page < length named = omega arith in
    subst (λ (m : MapView). IsNamingOf committed m (set named (1 + map_page) number) committed.depth (map_page + 1) 0) (sym next_is) (naming_map committed map named number free committed.depth map_page below is)

pub map_bad : (committed : Committed) (map : MapView) (named page : List ℕ) (map_page number n at place pages : ℕ) (found : Damage) → number ≡ n → is_free map.free number ≡ false →
    found ≡ damage (at + place) number (bound_of pages number) → at + place ≡ maps_at committed.second committed.depth (get_or named 0 0) + 4 * map_page → pages ≡ committed.pages →
    (is_free map.free n ≡ false) × (found ≡ damage (maps_at committed.second committed.depth (get_or named 0 0) + 4 * map_page) n (bound_of committed.pages n))
map_bad committed map named page map_page number n at place pages found same bad found_is place_is pages_are = (
  ap (λ (x : ℕ). is_free map.free x) (sym same) ∙ bad,
  found_is ∙ (λ i. damage (place_is i) (same i) (bound_of (pages_are i) (same i))),
)

maps_fail_of : (committed : Committed) (map : MapView) (named old page : List ℕ) (index count : ℕ) (found : Damage) → index < count → IsNamingOf committed map named committed.depth index 0 →
    get_or named 0 0 ≡ get_or old 0 0 → ((i : ℕ) → i < index → number_at (skipped committed.depth + 4 * i) 4 page ≡ maps_of named i) →
    is_free map.free (number_at (skipped committed.depth + 4 * index) 4 page) ≡ false →
    found ≡ damage (maps_at committed.second committed.depth (get_or named 0 0) + 4 * index) (number_at (skipped committed.depth + 4 * index) 4 page) (bound_of committed.pages (number_at (skipped committed.depth + 4 * index) 4 page)) →
    name_tests committed.pages (numbers_of (index_of old) committed.depth) (λ i. maps_at committed.second committed.depth (get_or old 0 0) + 4 * i) (λ i. number_at (skipped committed.depth + 4 * i) 4 page) count ≡ Some found
maps_fail_of committed map named old page index count found lt is first so_far bad found_is =
    let before = numbers_same (index_of old) (index_of named) committed.depth (λ i lt. index_first old i ∙ sym first ∙ sym (index_first named i)) in
    let are = are_same committed.pages (numbers_of (index_of named) committed.depth) (maps_of named) (λ i. number_at (skipped committed.depth + 4 * i) 4 page) index (λ i lt. sym (so_far i lt)) is.maps_once in
    let all = numbers_same (λ i. number_at (skipped committed.depth + 4 * i) 4 page) (maps_of named) index so_far in
    ap (λ (xs : List ℕ). name_tests committed.pages xs (λ i. maps_at committed.second committed.depth (get_or old 0 0) + 4 * i) (λ i. number_at (skipped committed.depth + 4 * i) 4 page) count) before
    ∙ tests_some committed.pages (numbers_of (index_of named) committed.depth) (λ i. maps_at committed.second committed.depth (get_or old 0 0) + 4 * i) (λ i. number_at (skipped committed.depth + 4 * i) 4 page) index count lt are
    (ap (λ (xs : List ℕ). is_free (unnamed committed.pages (numbers_of (index_of named) committed.depth ++ xs)) (number_at (skipped committed.depth + 4 * index) 4 page)) all
    ∙ ap (λ (f : List Bool). is_free f (number_at (skipped committed.depth + 4 * index) 4 page)) (sym (free_maps is)) ∙ bad)
    ∙ ap (λ (n : ℕ). Some (damage (maps_at committed.second committed.depth n + 4 * index) (number_at (skipped committed.depth + 4 * index) 4 page) (bound_of committed.pages (number_at (skipped committed.depth + 4 * index) 4 page)))) (sym first)
    ∙ ap (λ (d : Damage). Some d) (sym found_is)

-- the same of a table of what is committed
pub maps_fail : (table old : Table) (page : List ℕ) (index count : ℕ) (found : Damage) → index < count → table.committed ≡ old.committed → IsNaming table old.committed.depth index 0 →
    get_or table.named.items 0 0 ≡ get_or old.named.items 0 0 → ((i : ℕ) → i < index → number_at (skipped old.committed.depth + 4 * i) 4 page ≡ maps_of table.named.items i) →
    (is_free table.map.free (number_at (skipped table.committed.depth + 4 * index) 4 page) ≡ false)
    × (found ≡ damage (maps_at table.committed.second table.committed.depth (get_or table.named.items 0 0) + 4 * index) (number_at (skipped table.committed.depth + 4 * index) 4 page)
    (bound_of table.committed.pages (number_at (skipped table.committed.depth + 4 * index) 4 page))) →
    name_tests old.committed.pages (numbers_of (index_of old.named.items) old.committed.depth) (λ i. maps_at old.committed.second old.committed.depth (get_or old.named.items 0 0) + 4 * i)
    (λ i. number_at (skipped old.committed.depth + 4 * i) 4 page) count ≡ Some found
maps_fail table old page index count found lt same is first so_far bad =
    subst (λ (k : Committed). ((i : ℕ) → i < index → number_at (skipped k.depth + 4 * i) 4 page ≡ maps_of table.named.items i) → IsNamingOf table.committed table.map table.named.items k.depth index 0 →
    name_tests k.pages (numbers_of (index_of old.named.items) k.depth) (λ i. maps_at k.second k.depth (get_or old.named.items 0 0) + 4 * i) (λ i. number_at (skipped k.depth + 4 * i) 4 page) count ≡ Some found) same
    (λ so_far is. maps_fail_of table.committed table.map table.named.items old.named.items page index count found lt is first so_far bad.0 bad.1) so_far is

pub first_stays : (named next : List ℕ) (place number : ℕ) → next ≡ set named (1 + place) number → get_or next 0 0 ≡ get_or named 0 0
first_stays named next place number is = ap (λ (xs : List ℕ). get_or xs 0 0) is ∙ sym (index_first (set named (1 + place) number) 0) ∙ index_set named place number 0 ∙ index_first named 0

pub maps_more : (page named next : List ℕ) (depth other place : ℕ) → 1 + place < length named → other ≡ depth → next ≡ set named (1 + place) (number_at (skipped other + 4 * place) 4 page) →
    ((i : ℕ) → i < place → number_at (skipped depth + 4 * i) 4 page ≡ maps_of named i) → (i : ℕ) → i < place + 1 → number_at (skipped depth + 4 * i) 4 page ≡ maps_of next i
maps_more page named next depth other place below depth_is next_is so_far i lt = elim (cases_lt i place) [
  | inl earlier ↦ so_far i earlier ∙ sym (ap (λ (xs : List ℕ). maps_of xs i) next_is ∙ maps_before named place (number_at (skipped other + 4 * place) 4 page) i earlier)
  | inr late ↦
      let same : place ≡ i = omega arith in
      subst (λ (n : ℕ). number_at (skipped depth + 4 * n) 4 page ≡ maps_of next n) same
      (sym (ap (λ (xs : List ℕ). maps_of xs place) next_is ∙ map_set named place (number_at (skipped other + 4 * place) 4 page) below ∙ ap (λ (d : ℕ). number_at (skipped d + 4 * place) 4 page) depth_is))
]

-- the place and the number of a logical page, by the map page that has it
pub place_in : (named : List ℕ) (map_page page : ℕ) → page < 1024 → place_by named (1024 * map_page + page) ≡ 4096 * maps_of named map_page + 4 * page
unfolding place_by
place_in named map_page page lt =
    let quotient : (1024 * map_page + page) / 1024 ≡ map_page = omega arith in
    let rest : (1024 * map_page + page) % 1024 ≡ page = omega arith in
    (λ i. 4096 * maps_of named (quotient i) + 4 * rest i)

pub number_in : (named bytes buffer : List ℕ) (map_page page : ℕ) → page < 1024 → buffer ≡ take 4096 (drop (4096 * maps_of named map_page) bytes) →
    number_at (place_by named (1024 * map_page + page)) 4 bytes ≡ number_at (4 * page) 4 buffer
number_in named bytes buffer map_page page lt buffer_is =
    ap (λ (n : ℕ). number_at n 4 bytes) (place_in named map_page page lt)
    ∙ sym (number_within (4096 * maps_of named map_page) 4096 (4 * page) 4 bytes (omega arith))
    ∙ ap (λ (xs : List ℕ). number_at (4 * page) 4 xs) (sym buffer_is)

-- how many numbers are read of a map page
pub count_is : (logical count map_page : ℕ) → map_page < map_pages_of logical → count ≡ min (logical - 1024 * map_page) 1024 →
    (1024 * map_page + count ≡ min logical (1024 * (map_page + 1))) × (1024 * map_page < logical) × (count ≤ 1024)
count_is logical count map_page lt is = (omega arith, omega arith, omega arith)

module _ (committed : Committed) (map : MapView) (named buffer : List ℕ) (map_page count : ℕ) (is : IsNamingOf committed map named committed.depth (map_count committed) (1024 * map_page))
    (fits : 1024 * map_page + count ≤ logical_of committed) where
  fits_staged : 1024 * map_page + count ≤ length map.staged
  fits_staged = let low = are_low committed is.fit in let within = low.within in omega (arith, is.staged)

  pub pages_read : AreGood map buffer count → count ≤ 1024 → (bytes : List ℕ) → buffer ≡ take 4096 (drop (4096 * maps_of named map_page) bytes) → (page : ℕ) → 1024 * map_page ≤ page → page < 1024 * map_page + count →
      number_at (place_by named page) 4 bytes ≡ get_or ((with_read map map_page (first_numbers buffer count)).staged) page 0
  pages_read good few bytes buffer_is page low high =
      let k_is : 1024 * map_page + (page - 1024 * map_page) ≡ page = omega arith in
      subst (λ (n : ℕ). number_at (place_by named n) 4 bytes ≡ get_or ((with_read map map_page (first_numbers buffer count)).staged) n 0) k_is
      (number_in named bytes buffer map_page (page - 1024 * map_page) (omega arith) buffer_is
      ∙ sym (read_here committed map named buffer committed.depth (map_count committed) map_page count is good fits_staged (page - 1024 * map_page) (omega arith)))

  pub pages_fail : AreGood map buffer count → count < 1024 → 1024 * map_page + count < logical_of committed →
      is_free (without map.free (first_numbers buffer count)) (number_at (4 * count) 4 buffer) ≡ false →
      (bytes : List ℕ) → buffer ≡ take 4096 (drop (4096 * maps_of named map_page) bytes) → ((page : ℕ) → page < 1024 * map_page → number_at (place_by named page) 4 bytes ≡ get_or map.staged page 0) →
      name_tests committed.pages (map_names committed.depth named (map_count committed)) (place_by named) (λ page. number_at (place_by named page) 4 bytes) (logical_of committed)
      ≡ Some (damage (4096 * maps_of named map_page + 4 * count) (number_at (4 * count) 4 buffer) (bound_of committed.pages (number_at (4 * count) 4 buffer)))
  pages_fail good few below bad bytes buffer_is before =
      let number : ℕ → ℕ = λ page. number_at (place_by named page) 4 bytes in
      let here = λ (i : ℕ) (lt : i < count + 1). number_in named bytes buffer map_page i (omega arith) buffer_is in
      let both = bad_page committed map named buffer committed.depth (map_count committed) map_page count is good fits_staged bad number before here in
      let place = place_in named map_page count few in
      let is_number = here count (omega arith) in
      tests_some committed.pages (map_names committed.depth named (map_count committed)) (place_by named) number (1024 * map_page + count) (logical_of committed) below both.0 both.1
      ∙ (λ i. Some (damage (place i) (is_number i) (bound_of committed.pages (is_number i))))

-- what the tests of all numbers come from
module _ (committed : Committed) (named bytes : List ℕ) (index_is : (i : ℕ) → i < committed.depth → index_number committed.second bytes ≡ index_of named i) where
  logical : ℕ
  logical = logical_of committed

  indexes : numbers_of (λ i. index_number committed.second bytes) committed.depth ≡ numbers_of (index_of named) committed.depth
  indexes = numbers_same (λ i. index_number committed.second bytes) (index_of named) committed.depth index_is

  pub begins : maps_at committed.second committed.depth (index_number committed.second bytes) ≡ maps_at committed.second committed.depth (get_or named 0 0)
  begins = maps_at_same committed.second committed.depth (index_number committed.second bytes) (get_or named 0 0) (λ i lt. at_first i (index_is i lt))
    where
      at_first : (i : ℕ) → index_number committed.second bytes ≡ index_of named i → index_number committed.second bytes ≡ get_or named 0 0
      at_first i e = e ∙ index_first named i

  index_passes : AreUnnamed committed.pages [] (index_of named) committed.depth →
      name_tests committed.pages [] (λ i. root_at committed.second + 28) (λ i. index_number committed.second bytes) committed.depth ≡ None
  index_passes once = tests_none committed.pages [] (λ i. root_at committed.second + 28) (λ i. index_number committed.second bytes) committed.depth
      (are_same committed.pages [] (index_of named) (λ i. index_number committed.second bytes) committed.depth (λ i lt. sym (index_is i lt)) once)

  pub first_fails : (found : Damage) → name_tests committed.pages [] (λ i. root_at committed.second + 28) (λ i. index_number committed.second bytes) committed.depth ≡ Some found →
      names_tests committed.pages committed.second committed.depth (logical_of committed) bytes ≡ Some found
  unfolding names_tests
  first_fails found e = some_or _ _ found e

  -- the map pages
  maps_tests : name_tests committed.pages (numbers_of (λ i. index_number committed.second bytes) committed.depth) (map_place committed.second committed.depth bytes) (map_number committed.second committed.depth bytes) (map_count committed)
      ≡ name_tests committed.pages (numbers_of (index_of named) committed.depth) (λ i. maps_at committed.second committed.depth (get_or named 0 0) + 4 * i)
      (λ i. number_at (maps_at committed.second committed.depth (get_or named 0 0) + 4 * i) 4 bytes) (map_count committed)
  unfolding map_place map_number
  maps_tests =
      ap (λ (xs : List ℕ). name_tests committed.pages xs (map_place committed.second committed.depth bytes) (map_number committed.second committed.depth bytes) (map_count committed)) indexes
      ∙ tests_same committed.pages (numbers_of (index_of named) committed.depth) (map_place committed.second committed.depth bytes) (λ i. maps_at committed.second committed.depth (get_or named 0 0) + 4 * i)
      (map_number committed.second committed.depth bytes) (λ i. number_at (maps_at committed.second committed.depth (get_or named 0 0) + 4 * i) 4 bytes) (map_count committed)
      (λ i lt. ap (λ (n : ℕ). n + 4 * i) begins) (λ i lt. ap (λ (n : ℕ). number_at (n + 4 * i) 4 bytes) begins)

  pub second_fails : (found : Damage) → AreUnnamed committed.pages [] (index_of named) committed.depth →
      name_tests committed.pages (numbers_of (index_of named) committed.depth) (λ i. maps_at committed.second committed.depth (get_or named 0 0) + 4 * i)
      (λ i. number_at (maps_at committed.second committed.depth (get_or named 0 0) + 4 * i) 4 bytes) (map_count committed) ≡ Some found →
      names_tests committed.pages committed.second committed.depth (logical_of committed) bytes ≡ Some found
  unfolding names_tests
  second_fails found once e =
      none_then _ _ (Some found) (index_passes once) (some_or _ _ found (maps_tests ∙ e))

  module _ (maps_are : (map_page : ℕ) → map_page < map_count committed → number_at (maps_at committed.second committed.depth (get_or named 0 0) + 4 * map_page) 4 bytes ≡ maps_of named map_page) where
    pub map_is : (map_page : ℕ) → map_page < map_count committed → map_number committed.second committed.depth bytes map_page ≡ maps_of named map_page
    unfolding map_place map_number
    map_is map_page lt = ap (λ (n : ℕ). number_at (n + 4 * map_page) 4 bytes) begins ∙ maps_are map_page lt

    -- where the number of a logical page stands
    pub place_is : (page : ℕ) → page < logical_of committed → page_place committed.second committed.depth bytes page ≡ place_by named page
    unfolding page_place place_by
    place_is page lt = ap (λ (n : ℕ). in_map_page n page) (map_is (page / 1024) (omega arith))

    maps_pass : AreUnnamed committed.pages (numbers_of (index_of named) committed.depth) (maps_of named) (map_count committed) →
        name_tests committed.pages (numbers_of (λ i. index_number committed.second bytes) committed.depth) (map_place committed.second committed.depth bytes) (map_number committed.second committed.depth bytes) (map_count committed) ≡ None
    maps_pass once =
        maps_tests
        ∙ tests_none committed.pages (numbers_of (index_of named) committed.depth) _ (λ i. number_at (maps_at committed.second committed.depth (get_or named 0 0) + 4 * i) 4 bytes) (map_count committed)
        (are_same committed.pages (numbers_of (index_of named) committed.depth) (maps_of named) (λ i. number_at (maps_at committed.second committed.depth (get_or named 0 0) + 4 * i) 4 bytes) (map_count committed) (λ i lt. sym (maps_are i lt)) once)

    page_tests_are : name_tests committed.pages (numbers_of (λ i. index_number committed.second bytes) committed.depth ++ numbers_of (map_number committed.second committed.depth bytes) (map_count committed))
        (page_place committed.second committed.depth bytes) (page_number committed.second committed.depth bytes) (logical_of committed)
        ≡ name_tests committed.pages (map_names committed.depth named (map_count committed)) (place_by named) (λ page. number_at (place_by named page) 4 bytes) (logical_of committed)
    unfolding page_number
    page_tests_are =
        (λ i. name_tests committed.pages (indexes i ++ numbers_same (map_number committed.second committed.depth bytes) (maps_of named) (map_count committed) map_is i)
        (page_place committed.second committed.depth bytes) (page_number committed.second committed.depth bytes) (logical_of committed))
        ∙ tests_same committed.pages (map_names committed.depth named (map_count committed)) (page_place committed.second committed.depth bytes) (place_by named)
        (page_number committed.second committed.depth bytes) (λ page. number_at (place_by named page) 4 bytes) (logical_of committed)
        place_is (λ page lt. ap (λ (n : ℕ). number_at n 4 bytes) (place_is page lt))

    tests_end : AreUnnamed committed.pages [] (index_of named) committed.depth → AreUnnamed committed.pages (numbers_of (index_of named) committed.depth) (maps_of named) (map_count committed) →
        names_tests committed.pages committed.second committed.depth (logical_of committed) bytes
        ≡ name_tests committed.pages (map_names committed.depth named (map_count committed)) (place_by named) (λ page. number_at (place_by named page) 4 bytes) (logical_of committed)
    unfolding names_tests
    tests_end once_index once_maps =
        none_then _ _ _ (index_passes once_index) (none_then _ _ _ (maps_pass once_maps) page_tests_are)

    pub third_fails : (found : Damage) → AreUnnamed committed.pages [] (index_of named) committed.depth → AreUnnamed committed.pages (numbers_of (index_of named) committed.depth) (maps_of named) (map_count committed) →
        name_tests committed.pages (map_names committed.depth named (map_count committed)) (place_by named) (λ page. number_at (place_by named page) 4 bytes) (logical_of committed) ≡ Some found →
        names_tests committed.pages committed.second committed.depth (logical_of committed) bytes ≡ Some found
    third_fails found once_index once_maps e = tests_end once_index once_maps ∙ e

    -- all pass
    pub all_pass : (pages : ℕ → ℕ) → ((page : ℕ) → page < logical_of committed → number_at (place_by named page) 4 bytes ≡ pages page) →
        AreUnnamed committed.pages [] (index_of named) committed.depth → AreUnnamed committed.pages (numbers_of (index_of named) committed.depth) (maps_of named) (map_count committed) →
        AreUnnamed committed.pages (map_names committed.depth named (map_count committed)) pages (logical_of committed) →
        names_tests committed.pages committed.second committed.depth (logical_of committed) bytes ≡ None
    all_pass pages pages_are once_index once_maps once_pages =
        tests_end once_index once_maps
        ∙ tests_none committed.pages (map_names committed.depth named (map_count committed)) (place_by named) (λ page. number_at (place_by named page) 4 bytes) (logical_of committed)
        (are_same committed.pages (map_names committed.depth named (map_count committed)) pages (λ page. number_at (place_by named page) 4 bytes) (logical_of committed) (λ i lt. sym (pages_are i lt)) once_pages)

    -- the number of a logical page
    pub number_is : (pages : ℕ → ℕ) → ((page : ℕ) → page < logical_of committed → number_at (place_by named page) 4 bytes ≡ pages page) → (page : ℕ) → page < logical_of committed →
        page_number committed.second committed.depth bytes page ≡ pages page
    unfolding page_number
    number_is pages pages_are page lt = ap (λ (n : ℕ). number_at n 4 bytes) (place_is page lt) ∙ pages_are page lt

pub page_tests_fail : (table : Table) (maps count : ℕ) (bytes : List ℕ) (found : Damage) →
    name_tests table.committed.pages (map_names table.committed.depth table.named.items maps) (place_by table.named.items) (λ page. number_at (place_by table.named.items page) 4 bytes) count ≡ Some found →
    page_tests table maps count bytes ≡ Some found
unfolding page_tests
page_tests_fail table maps count bytes found e = e

pub tests_fail_by : (table : Table) (maps count : ℕ) (bytes : List ℕ) (found : Damage) → page_tests table maps count bytes ≡ Some found →
    name_tests table.committed.pages (map_names table.committed.depth table.named.items maps) (place_by table.named.items) (λ page. number_at (place_by table.named.items page) 4 bytes) count ≡ Some found
unfolding page_tests
tests_fail_by table maps count bytes found e = e

-- the number of a map page, by the index at which it stands
pub map_at : (named : List ℕ) (map_page x : ℕ) → 1 + map_page < length named → x ≡ get_or named (1 + map_page) x → x ≡ maps_of named map_page
unfolding maps_of
map_at named map_page x lt is = is ∙ get_or_default named (1 + map_page) x 0 lt

-- the map page is one that there is
pub map_low : (committed : Committed) (map : MapView) (named : List ℕ) (depth maps pages map_page : ℕ) → IsNamingOf committed map named depth maps pages → map_page < maps → maps_of named map_page < committed.pages
map_low committed map named depth maps pages map_page is lt = (unnamed_low committed.pages _ (maps_of named map_page) (is.maps_once map_page lt)).1

-- why a map page was not read to its end
pub bad_number : (old : MapView) (number count : ℕ) (bytes : List ℕ) (index found : ℕ) (fault : MapFault) (new : MapView) → IsFault old number count bytes fault new → fault ≡ BadNumber index found →
    IsBadNumber old number count bytes index found new
bad_number old number count bytes index found fault new is fault_is = subst (λ (f : MapFault). IsFault old number count bytes f new) fault_is is

tests_alike : (table old : Table) (bytes : List ℕ) → table.committed ≡ old.committed → table.named.items ≡ old.named.items →
    page_tests table (map_count table.committed) (logical_of table.committed) bytes ≡ page_tests old (map_count old.committed) (logical_of old.committed) bytes
unfolding page_tests
tests_alike table old bytes same named =
    (λ i. name_tests (same i).pages (map_names (same i).depth (named i) (map_count (same i))) (place_by (named i)) (λ page. number_at (place_by (named i) page) 4 bytes) (logical_of (same i)))

pub looks_more : (a b : Outside (List ℕ)) (few most : ℕ) → Looks a b few → few ≤ most → Looks a b most
looks_more a b few most is le = record { told = is.told; images = is.images; same = is.same; counts = is.counts; output = is.output; calls = let calls = is.calls in omega arith }

-- the logical pages of so many map pages
pub all_pages : (count map_page : ℕ) → map_pages_of count ≤ map_page → min count (1024 * map_page) ≡ count
all_pages count map_page past = omega arith

pages_so_far : (count map_page : ℕ) → map_page < map_pages_of count → min count (1024 * map_page) ≡ 1024 * map_page
pages_so_far count map_page lt = omega arith

pub naming_more : (table old : Table) (map_page : ℕ) → map_page < map_count old.committed → table.committed ≡ old.committed → IsNaming table old.committed.depth (map_count old.committed) (min (logical_of old.committed) (1024 * map_page)) →
    IsNaming table table.committed.depth (map_count table.committed) (1024 * map_page)
naming_more table old map_page lt same is =
    subst (λ (k : Committed). IsNaming table k.depth (map_count k) (1024 * map_page)) (sym same)
    (subst (λ (n : ℕ). IsNaming table old.committed.depth (map_count old.committed) n) (pages_so_far (logical_of old.committed) map_page lt) is)

module _ (a b : Outside (List ℕ)) (table old : Table) (map_page : ℕ) (lt : map_page < map_count old.committed) (same : table.committed ≡ old.committed) (named : table.named.items ≡ old.named.items) (looks : Looks a b map_page)
    (pages : (bytes : List ℕ) → a.contents bytes → (page : ℕ) → page < min (logical_of old.committed) (1024 * map_page) → number_at (place_by old.named.items page) 4 bytes ≡ get_or table.map.staged page 0) where
  pub pages_before : (bytes : List ℕ) → b.contents bytes → (page : ℕ) → page < 1024 * map_page → number_at (place_by table.named.items page) 4 bytes ≡ get_or table.map.staged page 0
  pages_before bytes now page below =
      ap (λ (xs : List ℕ). number_at (place_by xs page) 4 bytes) named
      ∙ pages bytes (looks.same.no_other bytes now) page (omega (arith, pages_so_far (logical_of old.committed) map_page lt))

  pub more_pages : (next : Table) → ((page : ℕ) → page < 1024 * map_page → get_or next.map.staged page 0 ≡ get_or table.map.staged page 0) →
      ((bytes : List ℕ) → b.contents bytes → (page : ℕ) → 1024 * map_page ≤ page → page < min (logical_of table.committed) (1024 * (map_page + 1)) → number_at (place_by table.named.items page) 4 bytes ≡ get_or next.map.staged page 0) →
      (bytes : List ℕ) → a.contents bytes → (page : ℕ) → page < min (logical_of old.committed) (1024 * (map_page + 1)) → number_at (place_by old.named.items page) 4 bytes ≡ get_or next.map.staged page 0
  more_pages next stays read bytes now page below = elim (cases_lt page (1024 * map_page)) [
    | inl early ↦ pages bytes now page (omega (arith, pages_so_far (logical_of old.committed) map_page lt)) ∙ sym (stays page early)
    | inr late ↦
        ap (λ (xs : List ℕ). number_at (place_by xs page) 4 bytes) (sym named)
        ∙ read bytes (looks.same.kept bytes now) page late (omega (arith, ap (λ (k : Committed). logical_of k) same))
  ]

  pub fails_so : (c : Outside (List ℕ)) (fault : OpenFault) →
      (((bytes : List ℕ) → b.contents bytes → (page : ℕ) → page < 1024 * map_page → number_at (place_by table.named.items page) 4 bytes ≡ get_or table.map.staged page 0) →
      FailsBy b c (page_tests table (map_count table.committed) (logical_of table.committed)) fault) → FailsBy a c (page_tests old (map_count old.committed) (logical_of old.committed)) fault
  fails_so c fault fails =
      let is = fails pages_before in
      record {
        device = λ e. rose_then a.device_faults b.device_faults c.device_faults looks.counts (is.device e);
        by = λ bytes now. subst (λ (o : Option Damage). IsFailed o fault) (tests_of bytes) (is.by bytes (looks.same.kept bytes now));
      }
    where
      tests_of : (bytes : List ℕ) → page_tests table (map_count table.committed) (logical_of table.committed) bytes ≡ page_tests old (map_count old.committed) (logical_of old.committed) bytes
      tests_of bytes = tests_alike table old bytes same named

pub pages_more : (a b : Outside (List ℕ)) (table old next : Table) (map_page : ℕ) → map_page < map_count old.committed → table.committed ≡ old.committed → table.named.items ≡ old.named.items → Looks a b map_page →
    ((bytes : List ℕ) → a.contents bytes → (page : ℕ) → page < min (logical_of old.committed) (1024 * map_page) → number_at (place_by old.named.items page) 4 bytes ≡ get_or table.map.staged page 0) →
    ((page : ℕ) → page < 1024 * map_page → get_or next.map.staged page 0 ≡ get_or table.map.staged page 0) →
    ((bytes : List ℕ) → b.contents bytes → (page : ℕ) → 1024 * map_page ≤ page → page < min (logical_of table.committed) (1024 * (map_page + 1)) → number_at (place_by table.named.items page) 4 bytes ≡ get_or next.map.staged page 0) →
    (bytes : List ℕ) → a.contents bytes → (page : ℕ) → page < min (logical_of old.committed) (1024 * (map_page + 1)) → number_at (place_by old.named.items page) 4 bytes ≡ get_or next.map.staged page 0
pages_more a b table old next map_page lt same named looks pages stays read = more_pages a b table old map_page lt same named looks pages next stays read

pub maps_failed : (a b c : Outside (List ℕ)) (table old : Table) (fault : OpenFault) (map_page : ℕ) → map_page < map_count old.committed → table.committed ≡ old.committed → table.named.items ≡ old.named.items → Looks a b map_page →
    ((bytes : List ℕ) → a.contents bytes → (page : ℕ) → page < min (logical_of old.committed) (1024 * map_page) → number_at (place_by old.named.items page) 4 bytes ≡ get_or table.map.staged page 0) →
    (((bytes : List ℕ) → b.contents bytes → (page : ℕ) → page < 1024 * map_page → number_at (place_by table.named.items page) 4 bytes ≡ get_or table.map.staged page 0) →
    FailsBy b c (page_tests table (map_count table.committed) (logical_of table.committed)) fault) → FailsBy a c (page_tests old (map_count old.committed) (logical_of old.committed)) fault
maps_failed a b c table old fault map_page lt same named looks pages fails = fails_so a b table old map_page lt same named looks pages c fault fails

first_of : (committed : Committed) (bytes : List ℕ) (found : Damage) → name_tests committed.pages [] (λ i. root_at committed.second + 28) (λ i. index_number committed.second bytes) committed.depth ≡ Some found →
    names_tests committed.pages committed.second committed.depth (logical_of committed) bytes ≡ Some found
unfolding names_tests
first_of committed bytes found e = some_or _ _ found e

failed : (one other : Option Damage) (fault : OpenFault) → ((found : Damage) → one ≡ Some found → other ≡ Some found) → IsFailed one fault → IsFailed other fault
failed one other Device gives is = tt
failed one other (NotAVolume size gate) gives is = is
failed one other (Damaged at found wanted) gives is = gives (damage at found wanted) is
failed one other Memory gives is = tt

-- the three groups of numbers together
pub names_fail_first : (a b : Outside (List ℕ)) (committed : Committed) (fault : OpenFault) →
    FailsBy a b (λ bytes. name_tests committed.pages [] (λ i. root_at committed.second + 28) (λ i. index_number committed.second bytes) committed.depth) fault →
    FailsBy a b (names_tests committed.pages committed.second committed.depth (logical_of committed)) fault
names_fail_first a b committed fault is = record {
  device = is.device;
  by = λ bytes now. failed (name_tests committed.pages [] (λ i. root_at committed.second + 28) (λ i. index_number committed.second bytes) committed.depth)
      (names_tests committed.pages committed.second committed.depth (logical_of committed) bytes) fault (λ found e. first_of committed bytes found e) (is.by bytes now);
}

-- a number of a map page in the page that has them, and in the file
maps_in : (second : Bool) (depth index : ℕ) (page bytes : List ℕ) (i : ℕ) → i < 488 → page ≡ take 4096 (drop (names_at second depth index) bytes) →
    number_at (skipped depth + 4 * i) 4 page ≡ number_at (maps_at second depth index + 4 * i) 4 bytes
maps_in second depth index page bytes i lt page_is =
    ap (λ (xs : List ℕ). number_at (skipped depth + 4 * i) 4 xs) page_is
    ∙ number_within (names_at second depth index) 4096 (skipped depth + 4 * i) 4 bytes (omega (arith, skipped_low depth))
    ∙ ap (λ (n : ℕ). number_at n 4 bytes) (omega (arith, skipped_to second depth index))

maps_in_file : (committed : Committed) (named page bytes : List ℕ) → IsFit committed → page ≡ take 4096 (drop (names_at committed.second committed.depth (get_or named 0 0)) bytes) →
    name_tests committed.pages (numbers_of (index_of named) committed.depth) (λ i. maps_at committed.second committed.depth (get_or named 0 0) + 4 * i) (λ i. number_at (skipped committed.depth + 4 * i) 4 page) (map_count committed)
    ≡ name_tests committed.pages (numbers_of (index_of named) committed.depth) (λ i. maps_at committed.second committed.depth (get_or named 0 0) + 4 * i)
    (λ i. number_at (maps_at committed.second committed.depth (get_or named 0 0) + 4 * i) 4 bytes) (map_count committed)
maps_in_file committed named page bytes fit page_is =
    let low = are_low committed fit in
    let few = low.few in
    tests_same committed.pages (numbers_of (index_of named) committed.depth) _ _ _ _ (map_count committed) (λ i lt. refl)
    (λ i lt. maps_in committed.second committed.depth (get_or named 0 0) page bytes i (omega arith) page_is)

names_fail_second_of : (a b : Outside (List ℕ)) (committed : Committed) (map : MapView) (named page : List ℕ) (fault : OpenFault) (found : Damage) → IsNamingOf committed map named committed.depth 0 0 →
    ((bytes : List ℕ) → a.contents bytes → (i : ℕ) → i < committed.depth → index_number committed.second bytes ≡ index_of named i) →
    ((bytes : List ℕ) → a.contents bytes → page ≡ take 4096 (drop (names_at committed.second committed.depth (get_or named 0 0)) bytes)) →
    name_tests committed.pages (numbers_of (index_of named) committed.depth) (λ i. maps_at committed.second committed.depth (get_or named 0 0) + 4 * i)
    (λ i. number_at (skipped committed.depth + 4 * i) 4 page) (map_count committed) ≡ Some found →
    fault ≡ Damaged found.at found.found found.wanted → FailsBy a b (names_tests committed.pages committed.second committed.depth (logical_of committed)) fault
names_fail_second_of a b committed map named page fault found is index page_is e fault_is =
    fails_by a b (names_tests committed.pages committed.second committed.depth (logical_of committed)) fault found fault_is (λ bytes now.
    second_fails committed named bytes (index bytes now) found is.index_once (sym (maps_in_file committed named page bytes is.fit (page_is bytes now)) ∙ e))

pub names_fail_second : (a b : Outside (List ℕ)) (committed : Committed) (table : Table) (page : List ℕ) (fault : OpenFault) (found : Damage) → table.committed ≡ committed → IsNaming table committed.depth 0 0 →
    ((bytes : List ℕ) → a.contents bytes → (i : ℕ) → i < committed.depth → index_number committed.second bytes ≡ index_of table.named.items i) →
    ((bytes : List ℕ) → a.contents bytes → page ≡ take 4096 (drop (names_at committed.second committed.depth (get_or table.named.items 0 0)) bytes)) →
    name_tests table.committed.pages (numbers_of (index_of table.named.items) table.committed.depth) (λ i. maps_at table.committed.second table.committed.depth (get_or table.named.items 0 0) + 4 * i)
    (λ i. number_at (skipped table.committed.depth + 4 * i) 4 page) (map_count table.committed) ≡ Some found →
    fault ≡ Damaged found.at found.found found.wanted → FailsBy a b (names_tests committed.pages committed.second committed.depth (logical_of committed)) fault
names_fail_second a b committed table page fault found same is index page_is e fault_is =
    names_fail_second_of a b committed table.map table.named.items page fault found (subst (λ (k : Committed). IsNamingOf k table.map table.named.items committed.depth 0 0) same is) index page_is
    (subst (λ (k : Committed). name_tests k.pages (numbers_of (index_of table.named.items) k.depth) (λ i. maps_at k.second k.depth (get_or table.named.items 0 0) + 4 * i)
    (λ i. number_at (skipped k.depth + 4 * i) 4 page) (map_count k) ≡ Some found) same e) fault_is

-- the map pages say their numbers
maps_named : (committed : Committed) (first named page bytes : List ℕ) → IsFit committed → get_or named 0 0 ≡ get_or first 0 0 → page ≡ take 4096 (drop (names_at committed.second committed.depth (get_or first 0 0)) bytes) →
    ((map_page : ℕ) → map_page < map_count committed → number_at (skipped committed.depth + 4 * map_page) 4 page ≡ maps_of named map_page) →
    (map_page : ℕ) → map_page < map_count committed → number_at (maps_at committed.second committed.depth (get_or named 0 0) + 4 * map_page) 4 bytes ≡ maps_of named map_page
maps_named committed first named page bytes fit same page_is maps map_page lt =
    let low = are_low committed fit in
    let few = low.few in
    ap (λ (n : ℕ). number_at (maps_at committed.second committed.depth n + 4 * map_page) 4 bytes) same
    ∙ sym (maps_in committed.second committed.depth (get_or first 0 0) page bytes map_page (omega arith) page_is)
    ∙ maps map_page lt

index_again : (named first : List ℕ) (i : ℕ) → get_or named 0 0 ≡ get_or first 0 0 → index_of first i ≡ index_of named i
index_again named first i same = index_first first i ∙ sym same ∙ sym (index_first named i)

page_tests_as : (table : Table) (committed : Committed) (bytes : List ℕ) → table.committed ≡ committed → page_tests table (map_count table.committed) (logical_of table.committed) bytes
    ≡ name_tests committed.pages (map_names committed.depth table.named.items (map_count committed)) (place_by table.named.items) (λ page. number_at (place_by table.named.items page) 4 bytes) (logical_of committed)
unfolding page_tests
page_tests_as table committed bytes same =
    (λ i. name_tests (same i).pages (map_names (same i).depth table.named.items (map_count (same i))) (place_by table.named.items) (λ page. number_at (place_by table.named.items page) 4 bytes) (logical_of (same i)))

-- what is so behind the index page and the map pages
pub record Behind (committed : Committed) (first named page : List ℕ) (contents : List ℕ → Type 0) : Type 0 where
  pub fit : IsFit committed
  pub index_once : AreUnnamed committed.pages [] (index_of named) committed.depth
  pub maps_once : AreUnnamed committed.pages (numbers_of (index_of named) committed.depth) (maps_of named) (map_count committed)
  pub index : (bytes : List ℕ) → contents bytes → (i : ℕ) → i < committed.depth → index_number committed.second bytes ≡ index_of named i
  pub maps : (bytes : List ℕ) → contents bytes → (map_page : ℕ) → map_page < map_count committed →
      number_at (maps_at committed.second committed.depth (get_or named 0 0) + 4 * map_page) 4 bytes ≡ maps_of named map_page

pub behind : (a : Outside (List ℕ)) (committed : Committed) (one two : Table) (page : List ℕ) → one.committed ≡ committed → two.committed ≡ one.committed → IsNaming two one.committed.depth (map_count one.committed) 0 →
    ((bytes : List ℕ) → a.contents bytes → (i : ℕ) → i < committed.depth → index_number committed.second bytes ≡ index_of one.named.items i) →
    ((bytes : List ℕ) → a.contents bytes → page ≡ take 4096 (drop (names_at committed.second committed.depth (get_or one.named.items 0 0)) bytes)) →
    get_or two.named.items 0 0 ≡ get_or one.named.items 0 0 → ((map_page : ℕ) → map_page < map_count one.committed → number_at (skipped one.committed.depth + 4 * map_page) 4 page ≡ maps_of two.named.items map_page) →
    Behind committed one.named.items two.named.items page a.contents
behind a committed one two page same again naming index page_is first maps =
    let is : IsNamingOf committed two.map two.named.items committed.depth (map_count committed) 0 =
    subst (λ (k : Committed). IsNamingOf k two.map two.named.items committed.depth (map_count committed) 0) (again ∙ same) (subst (λ (k : Committed). IsNaming two k.depth (map_count k) 0) same naming) in
    let named = subst (λ (k : Committed). (map_page : ℕ) → map_page < map_count k → number_at (skipped k.depth + 4 * map_page) 4 page ≡ maps_of two.named.items map_page) same maps in
    record {
      fit = is.fit;
      index_once = is.index_once;
      maps_once = is.maps_once;
      index = λ bytes now i lt. index bytes now i lt ∙ index_again two.named.items one.named.items i first;
      maps = λ bytes now map_page lt. maps_named committed one.named.items two.named.items page bytes is.fit first (page_is bytes now) named map_page lt;
    }

pub names_fail_third : (a b c : Outside (List ℕ)) (committed : Committed) (one two : Table) (page : List ℕ) (fault : OpenFault) → one.committed ≡ committed → two.committed ≡ one.committed → Looks a b 1 →
    Behind committed one.named.items two.named.items page a.contents → FailsBy b c (page_tests two (map_count two.committed) (logical_of two.committed)) fault →
    FailsBy a c (names_tests committed.pages committed.second committed.depth (logical_of committed)) fault
names_fail_third a b c committed one two page fault same again looks is fails = record {
  device = λ e. rose_then a.device_faults b.device_faults c.device_faults looks.counts (fails.device e);
  by = λ bytes now. failed (page_tests two (map_count two.committed) (logical_of two.committed) bytes) (names_tests committed.pages committed.second committed.depth (logical_of committed) bytes) fault
      (λ found e. third_fails committed two.named.items bytes (is.index bytes now) (is.maps bytes now) found is.index_once is.maps_once (sym (page_tests_as two committed bytes (again ∙ same)) ∙ e))
      (fails.by bytes (looks.same.kept bytes now));
}

pub names_are : (a b : Outside (List ℕ)) (committed : Committed) (one two three : Table) (page : List ℕ) → one.committed ≡ committed → two.committed ≡ one.committed → Looks a b 1 →
    Behind committed one.named.items two.named.items page a.contents → three.named.items ≡ two.named.items →
    ((bytes : List ℕ) → b.contents bytes → (page : ℕ) → page < logical_of two.committed → number_at (place_by two.named.items page) 4 bytes ≡ get_or three.map.staged page 0) →
    (bytes : List ℕ) → a.contents bytes → HasNames committed three.named.items three.map.staged bytes
names_are a b committed one two three page same again looks is named pages bytes now =
    subst (λ (xs : List ℕ). HasNames committed xs three.map.staged bytes) (sym named) (record {
      index = is.index bytes now;
      maps = is.maps bytes now;
      numbers = λ k lt. pages bytes (looks.same.kept bytes now) k (omega (arith, ap (λ (c : Committed). logical_of c) (again ∙ same)));
    })
