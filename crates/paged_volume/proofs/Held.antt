-- The bytes of pages, by their numbers; and what is held in an image that says what is committed.
use Rattle.std.proofs.Common.{◌≡◌, ◌≢◌, inl, inr, ℕ, ◌+◌, ◌-◌, ◌*◌, ◌/◌, ◌%◌, ◌<◌, ◌≤◌, Bool, List, [], ◌++◌, length, get_or, take, drop, replicate, refl, sym, ◌∙◌, ap, arith, length-drop, length-take, Option, Some, nat_eq, if◌then◌else◌}
use Rattle.std.specs.Option.{option_map}
use Rattle.std.proofs.lemmas.Bool.{cases_lt, cases_eq, eq-eqb, ne_eqb}
use Rattle.std.proofs.lemmas.Grind.{same_number_lists}
use Rattle.std.proofs.lemmas.List.{get_or-take, get_or-drop, get_or-replicate, length-replicate, take-append-le, take_all}
use Rattle.ps_port.specs.ps_outside.Outside.{Outside, After}
use Rattle.volume_parts.specs.Layout.{number_at, selects, pages_of_words}
use Rattle.volume_parts.specs.Holding.{Held}
use Rattle.paged_volume.specs.Layout.{capacity_pages, maps_at, index_number, page_number}
use Rattle.paged_volume.specs.Found.{a_volume, found_in, numbers_of, byte_named, bytes_named, after_names}
use Rattle.paged_volume.specs.Standing.{IsFit, IsNamedOnce, AreUnnamed, Says, HasHead, HasRoot, index_of, maps_of, map_names, place_by, map_count, logical_of, held_in, held_of, committed_in, staged_in, staged_bytes, with_zeros, seen}
use Rattle.paged_volume.specs.Attaching.{IsFound}
use Rattle.paged_volume.specs.declared.table.Table.{Table}
use Rattle.paged_volume.specs.declared.committed.Committed.{Committed}
use Rattle.paged_volume.specs.declared.damage.Damage.{Damage}
use Rattle.paged_volume.proofs.Numbers.{numbers_same, numbers_split, length_numbers, number_at_index}
use Rattle.paged_volume.proofs.Reading.{all_pass, number_is}
use Rattle.paged_volume.proofs.Tests.{found_names}

as_numbers : (number : ℕ → ℕ) (count : ℕ) (image : List ℕ) → bytes_named number count image ≡ numbers_of (byte_named number image) (4096 * count)
unfolding bytes_named numbers_of
as_numbers number count image = refl

pub length_bytes : (number : ℕ → ℕ) (count : ℕ) (image : List ℕ) → length (bytes_named number count image) ≡ 4096 * count
length_bytes number count image = ap length (as_numbers number count image) ∙ length_numbers (byte_named number image) (4096 * count)

pub byte_at : (number : ℕ → ℕ) (count : ℕ) (image : List ℕ) (k : ℕ) → k < 4096 * count → get_or (bytes_named number count image) k 0 ≡ byte_named number image k
byte_at number count image k lt = ap (λ (xs : List ℕ). get_or xs k 0) (as_numbers number count image) ∙ number_at_index (byte_named number image) (4096 * count) k lt

pub byte_none : (number : ℕ → ℕ) (image : List ℕ) (k : ℕ) → number (k / 4096) ≡ 0 → byte_named number image k ≡ 0
unfolding byte_named
byte_none number image k none = ap (λ (b : Bool). if b then 0 else get_or image (4096 * number (k / 4096) + k % 4096) 0) (eq-eqb (number (k / 4096)) 0 none)

pub byte_some : (number : ℕ → ℕ) (image : List ℕ) (k : ℕ) → number (k / 4096) ≢ 0 → byte_named number image k ≡ get_or image (4096 * number (k / 4096) + k % 4096) 0
unfolding byte_named
byte_some number image k some = ap (λ (b : Bool). if b then 0 else get_or image (4096 * number (k / 4096) + k % 4096) 0) (ne_eqb (number (k / 4096)) 0 some)

-- a byte of a page with another number, and in another image
pub byte_same : (one other : ℕ → ℕ) (image : List ℕ) (k : ℕ) → one (k / 4096) ≡ other (k / 4096) → byte_named one image k ≡ byte_named other image k
unfolding byte_named
byte_same one other image k same = ap (λ (n : ℕ). if nat_eq n 0 then 0 else get_or image (4096 * n + k % 4096) 0) same

pub bytes_same : (one other : ℕ → ℕ) (count : ℕ) (image : List ℕ) → ((page : ℕ) → page < count → one page ≡ other page) → bytes_named one count image ≡ bytes_named other count image
bytes_same one other count image same =
    as_numbers one count image
    ∙ numbers_same (byte_named one image) (byte_named other image) (4096 * count) (λ k lt. byte_same one other image k (same (k / 4096) (omega arith)))
    ∙ sym (as_numbers other count image)

-- bytes that are the same one by one
pub bytes_alike : (one other : ℕ → ℕ) (count : ℕ) (image another : List ℕ) → ((k : ℕ) → k < 4096 * count → byte_named one image k ≡ byte_named other another k) → bytes_named one count image ≡ bytes_named other count another
bytes_alike one other count image another same =
    as_numbers one count image ∙ numbers_same (byte_named one image) (byte_named other another) (4096 * count) same ∙ sym (as_numbers other count another)

zeros_are : (count : ℕ) → numbers_of (λ i. 0) count ≡ replicate {A = ℕ} count 0
zeros_are count =
    same_number_lists (numbers_of (λ i. 0) count) (replicate {A = ℕ} count 0) (length_numbers (λ i. 0) count ∙ sym (length-replicate {A = ℕ} count 0))
    (λ k lt. let below : k < count = omega (arith, length_numbers (λ i. 0) count) in number_at_index (λ i. 0) count k below ∙ sym (get_or-replicate {A = ℕ} count k 0 0 below))

-- behind the pages that have numbers all is 0
pub bytes_end : (number : ℕ → ℕ) (few count : ℕ) (image : List ℕ) → few ≤ count → ((page : ℕ) → few ≤ page → number page ≡ 0) →
    bytes_named number count image ≡ bytes_named number few image ++ replicate {A = ℕ} (4096 * count - length (bytes_named number few image)) 0
bytes_end number few count image le none =
    let rest = 4096 * count - 4096 * few in
    let rest_is : 4096 * count - length (bytes_named number few image) ≡ rest = omega (arith, length_bytes number few image) in
    as_numbers number count image
    ∙ ap (λ (n : ℕ). numbers_of (byte_named number image) n) (omega arith)
    ∙ numbers_split (byte_named number image) (4096 * few) rest
    ∙ ap (λ (xs : List ℕ). xs ++ numbers_of (λ i. byte_named number image (4096 * few + i)) rest) (sym (as_numbers number few image))
    ∙ ap (λ (xs : List ℕ). bytes_named number few image ++ xs)
    (numbers_same (λ i. byte_named number image (4096 * few + i)) (λ i. 0) rest (λ i lt. byte_none number image (4096 * few + i) (none ((4096 * few + i) / 4096) (omega arith)))
    ∙ zeros_are rest ∙ ap (λ (n : ℕ). replicate {A = ℕ} n 0) (sym rest_is))

-- the first of them
pub bytes_front : (number : ℕ → ℕ) (few count : ℕ) (image : List ℕ) → few ≤ count → take (4096 * few) (bytes_named number count image) ≡ bytes_named number few image
bytes_front number few count image le =
    let rest = 4096 * count - 4096 * few in
    let front = numbers_of (byte_named number image) (4096 * few) in
    ap (λ (xs : List ℕ). take (4096 * few) xs) (as_numbers number count image ∙ ap (λ (n : ℕ). numbers_of (byte_named number image) n) (omega arith) ∙ numbers_split (byte_named number image) (4096 * few) rest)
    ∙ take-append-le (4096 * few) front (numbers_of (λ i. byte_named number image (4096 * few + i)) rest) (omega (arith, length_numbers (byte_named number image) (4096 * few)))
    ∙ take_all (4096 * few) front (omega (arith, length_numbers (byte_named number image) (4096 * few)))
    ∙ sym (as_numbers number few image)

-- a page
pub page_read : (number : ℕ → ℕ) (count : ℕ) (image : List ℕ) (page : ℕ) → page < count → number page ≢ 0 → 4096 * number page + 4096 ≤ length image →
    take 4096 (drop (4096 * number page) image) ≡ take 4096 (drop (4096 * page) (bytes_named number count image))
page_read number count image page below some long =
    same_number_lists _ _ (omega (
      arith,
      length-take 4096 (drop (4096 * number page) image),
      length-drop (4096 * number page) image,
      length-take 4096 (drop (4096 * page) (bytes_named number count image)),
      length-drop (4096 * page) (bytes_named number count image),
      length_bytes number count image,
    ))
    (λ k lt.
    let inside : k < 4096 = omega (arith, length-take 4096 (drop (4096 * number page) image)) in
    let page_is : (4096 * page + k) / 4096 ≡ page = omega arith in
    let rest_is : (4096 * page + k) % 4096 ≡ k = omega arith in
    get_or-take 4096 (drop (4096 * number page) image) k 0 inside ∙ get_or-drop (4096 * number page) image k 0
    ∙ sym (get_or-take 4096 (drop (4096 * page) (bytes_named number count image)) k 0 inside ∙ get_or-drop (4096 * page) (bytes_named number count image) k 0
    ∙ byte_at number count image (4096 * page + k) (omega arith)
    ∙ byte_some number image (4096 * page + k) (λ none. some (ap number (sym page_is) ∙ none))
    ∙ (λ i. get_or image (4096 * number (page_is i) + rest_is i) 0)))

pub page_blank : (number : ℕ → ℕ) (count : ℕ) (image : List ℕ) (page size : ℕ) → size ≡ 4096 → page < count → number page ≡ 0 → replicate {A = ℕ} size 0 ≡ take 4096 (drop (4096 * page) (bytes_named number count image))
page_blank number count image page size size_is below none =
    same_number_lists _ _ (omega (arith, length-replicate {A = ℕ} size 0, length-take 4096 (drop (4096 * page) (bytes_named number count image)), length-drop (4096 * page) (bytes_named number count image), length_bytes number count image))
    (λ k lt.
    let inside : k < 4096 = omega (arith, length-replicate {A = ℕ} size 0) in
    let page_is : (4096 * page + k) / 4096 ≡ page = omega arith in
    get_or-replicate {A = ℕ} size k 0 0 (omega arith)
    ∙ sym (get_or-take 4096 (drop (4096 * page) (bytes_named number count image)) k 0 inside ∙ get_or-drop (4096 * page) (bytes_named number count image) k 0
    ∙ byte_at number count image (4096 * page + k) (omega arith)
    ∙ byte_none number image (4096 * page + k) (ap number page_is ∙ none)))

-- what is found in an image that says what is committed
pub found_volume : (table : Table) (image : List ℕ) → IsFit table.committed → IsNamedOnce table → Says table image → IsFound table.committed image
found_volume table image fit once says =
    let names = says.names in
    let passes = all_pass table.committed table.named.items image names.index names.maps (λ page. get_or table.map.committed page 0) names.numbers once.index once.maps once.pages in
    record {
      volume =
          found_names table.committed image fit says.head says.selected says.root
          ∙ ap (λ (o : Option Damage). after_names table.committed.pages table.committed.second image o) passes;
      note = says.root.note_is;
      depth = says.root.depth_is;
    }

-- the same by the numbers alone
pub found_named : (committed : Committed) (named : List ℕ) (pages : ℕ → ℕ) (image : List ℕ) → IsFit committed → HasHead committed.format committed.pages image → selects image ≡ committed.second → HasRoot committed.second committed.note committed.depth image →
    ((i : ℕ) → i < committed.depth → index_number committed.second image ≡ index_of named i) →
    ((map_page : ℕ) → map_page < map_count committed → number_at (maps_at committed.second committed.depth (get_or named 0 0) + 4 * map_page) 4 image ≡ maps_of named map_page) →
    ((page : ℕ) → page < logical_of committed → number_at (place_by named page) 4 image ≡ pages page) →
    AreUnnamed committed.pages [] (index_of named) committed.depth → AreUnnamed committed.pages (numbers_of (index_of named) committed.depth) (maps_of named) (map_count committed) →
    AreUnnamed committed.pages (map_names committed.depth named (map_count committed)) pages (logical_of committed) →
    found_in image ≡ a_volume committed.pages committed.second (record { note = committed.note; bytes = bytes_named pages (logical_of committed) image })
found_named committed named pages image fit head selected root index maps numbers once_index once_maps once_pages =
    found_names committed image fit head selected root
    ∙ ap (λ (o : Option Damage). after_names committed.pages committed.second image o) (all_pass committed named image index maps pages numbers once_index once_maps once_pages)
    ∙ (λ i. a_volume committed.pages committed.second (record {
      note = root.note_is i;
      bytes = bytes_named (page_number committed.second (root.depth_is i) image) (pages_of_words (root.note_is i).used) image;
    }))
    ∙ ap (λ (xs : List ℕ). a_volume committed.pages committed.second (record { note = committed.note; bytes = xs }))
    (bytes_same (page_number committed.second committed.depth image) pages (logical_of committed) image (number_is committed named image index maps pages numbers))

pub held_says : (table : Table) (image : List ℕ) → IsFit table.committed → IsNamedOnce table → Says table image → held_in image ≡ Some (committed_in table image)
unfolding held_in
held_says table image fit once says =
    let names = says.names in
    ap held_of (found_named table.committed table.named.items (λ page. get_or table.map.committed page 0) image fit says.head says.selected says.root names.index names.maps names.numbers once.index once.maps once.pages)

-- where nothing is staged, what is held is what is committed
pub blank_bytes : (table : Table) (image : List ℕ) → table.map.staged ≡ table.map.committed → IsNamedOnce table → logical_of table.committed ≤ capacity_pages table.committed.pages →
    with_zeros table.committed.pages (committed_in table image) ≡ staged_in table image
unfolding staged_bytes
blank_bytes table image blank once le =
    ap (λ (xs : List ℕ). record { note = table.committed.note; bytes = xs })
    (sym (ap (λ (list : List ℕ). bytes_named (λ page. get_or list page 0) (capacity_pages table.committed.pages) image) blank
    ∙ bytes_end (λ page. get_or table.map.committed page 0) (logical_of table.committed) (capacity_pages table.committed.pages) image le once.bare))

pub blank_holds : (a b : Outside (List ℕ)) (table : Table) → IsFit table.committed → table.map.staged ≡ table.map.committed → IsNamedOnce table → logical_of table.committed ≤ capacity_pages table.committed.pages →
    ((bytes : List ℕ) → a.contents bytes → Says table bytes) → ((bytes : List ℕ) → b.contents bytes → a.contents bytes) → (held : Option Held) → (seen table b).contents held →
    After a.contents (λ (bytes : List ℕ) (after : Option Held). option_map (with_zeros table.committed.pages) (held_in bytes) ≡ after) held
blank_holds a b table fit blank once le says same held now =
    let was = same now.from now.was in
    record {
      from = now.from;
      was = was;
      by = ap (λ (o : Option Held). option_map (with_zeros table.committed.pages) o) (held_says table now.from fit once (says now.from was))
          ∙ ap (λ (h : Held). Some h) (blank_bytes table now.from blank once le)
          ∙ now.by;
    }

-- a page, by its number
pub page_is : (number : ℕ → ℕ) (count : ℕ) (image : List ℕ) (page n pages : ℕ) (into : List ℕ) → n ≡ number page → page < count → n < pages → 4096 * pages ≤ length image → (n ≡ 0 → into ≡ replicate {A = ℕ} 4096 0) →
    (1 ≤ n → into ≡ take 4096 (drop (4096 * n) image)) → into ≡ take 4096 (drop (4096 * page) (bytes_named number count image))
page_is number count image page n pages into number_is below low long zeros read = elim (cases_eq n 0) [
  | inl none ↦ zeros none ∙ page_blank number count image page 4096 refl below (sym number_is ∙ none)
  | inr some ↦
      let least : 1 ≤ n = positive n some in
      read least ∙ ap (λ (k : ℕ). take 4096 (drop (4096 * k) image)) number_is ∙ page_read number count image page below (λ none. some (number_is ∙ none)) (omega arith)
]
  where
    positive : (n : ℕ) → n ≢ 0 → 1 ≤ n
    positive n ne = elim (cases_lt 0 n) [ inl some ↦ omega arith | inr none ↦ absurd (ne (omega arith)) ]

-- a page as it is staged
pub staged_page : (table : Table) (page n pages : ℕ) (into image : List ℕ) → n ≡ get_or table.map.staged page 0 → page < capacity_pages table.committed.pages → n < pages → 4096 * pages ≤ length image → (n ≡ 0 → into ≡ replicate {A = ℕ} 4096 0) →
    (1 ≤ n → into ≡ take 4096 (drop (4096 * n) image)) → into ≡ take 4096 (drop (4096 * page) (staged_bytes table image))
unfolding staged_bytes
staged_page table page n pages into image number_is below low long zeros read = page_is (λ (k : ℕ). get_or table.map.staged k 0) (capacity_pages table.committed.pages) image page n pages into number_is below low long zeros read
