-- What is committed stays in an image while pages are written that it doesn't name.
use Rattle.std.proofs.Common.{◌≡◌, ◌≢◌, ◌⊎◌, inl, inr, ℕ, ◌+◌, ◌*◌, ◌/◌, ◌%◌, ◌==◌, ◌<◌, ◌≤◌, Bool, true, false, List, [], length, get_or, sym, ◌∙◌, ap, subst, arith, Some}
use Rattle.std.proofs.lemmas.Bool.{cases_lt, cases_eq, both_ways}
use Rattle.ps_port.specs.Disk.{Torn, IsOutside}
use Rattle.std.proofs.lemmas.List.{get_or_past}
use Rattle.std.proofs.lemmas.List.Folds.{list_any_at}
use Rattle.page_map.specs.Pages.{names, one_names}
use Rattle.volume_parts.specs.Layout.{number_at, root_at, selects}
use Rattle.volume_parts.proofs.Numbers.{number_torn}
use Rattle.paged_volume.specs.Layout.{capacity_pages, maps_at}
use Rattle.paged_volume.specs.Found.{bytes_named, numbers_of}
use Rattle.paged_volume.specs.Standing.{IsFit, IsNamedOnce, IsSpare, Says, HasHead, HasRoot, HasNames, index_of, maps_of, map_names, place_by, logical_of, map_count, numbers_of_table, held_in}
use Rattle.paged_volume.specs.Pinning.{pinned_bytes}
use Rattle.paged_volume.specs.declared.table.Table.{Table}
use Rattle.paged_volume.proofs.Bounds.{are_low}
use Rattle.paged_volume.proofs.Numbers.{names_append, unnamed_low}
use Rattle.paged_volume.proofs.Tables.{names_number, names_at_index, unnamed_is_not, both_or}
use Rattle.paged_volume.proofs.Reading.{index_first, maps_at_none, maps_at_one, place_in}
use Rattle.paged_volume.proofs.Held.{byte_none, byte_some, bytes_alike, held_says}

-- what a page isn't that nothing committed names
pub record IsApart (table : Table) (page : ℕ) : Type 0 where
  pub low : 4 ≤ page
  pub high : page < table.committed.pages
  pub index : (i : ℕ) → i < table.committed.depth → index_of table.named.items i ≢ page
  pub maps : (i : ℕ) → i < map_count table.committed → maps_of table.named.items i ≢ page
  pub pages : (i : ℕ) → i < logical_of table.committed → get_or table.map.committed i 0 ≢ page

pub not_named : (number : ℕ → ℕ) (count page i : ℕ) → names (numbers_of number count) page ≡ false → i < count → number i ≢ page
not_named number count page i none lt same = both_ways (names (numbers_of number count) page) none (subst (λ (n : ℕ). names (numbers_of number count) n ≡ true) same (names_number number count i lt))

pub apart_spare : (table : Table) (page : ℕ) → IsSpare table page → IsApart table page
apart_spare table page spare =
    let low = unnamed_low table.committed.pages (numbers_of_table table) page spare.unnamed_is in
    let none = unnamed_is_not table.committed.pages (numbers_of_table table) page spare.unnamed_is in
    let maps = map_names table.committed.depth table.named.items (map_count table.committed) in
    let pages = numbers_of (λ page. get_or table.map.committed page 0) (logical_of table.committed) in
    let one = both_or (names maps page) (names pages page) (sym (names_append maps pages page) ∙ none) in
    let index = numbers_of (index_of table.named.items) table.committed.depth in
    let map = numbers_of (maps_of table.named.items) (map_count table.committed) in
    let two = both_or (names index page) (names map page) (sym (names_append index map page) ∙ one.0) in
    record {
      low = low.0;
      high = low.1;
      index = λ i lt. not_named (index_of table.named.items) table.committed.depth page i two.0 lt;
      maps = λ i lt. not_named (maps_of table.named.items) (map_count table.committed) page i two.1 lt;
      pages = λ i lt. not_named (λ page. get_or table.map.committed page 0) (logical_of table.committed) page i one.1 lt;
    }

-- a page isn't in the range that is written
abbrev pub Apart : ℕ → ℕ → ℕ → Type 0
Apart page at count = (4096 * page + 4096 ≤ at) ⊎ (at + count ≤ 4096 * page)

pub apart_page : (other page : ℕ) → other ≢ page → Apart other (4096 * page) 4096
apart_page other page differs = elim (cases_lt other page) [
  | inl before ↦ inl (omega arith)
  | inr behind ↦ elim (cases_lt page other) [ inl after ↦ inr (omega arith) | inr same ↦ absurd (differs (omega arith)) ]
]

-- a page behind the root pages is apart from them
pub apart_low : (other at count : ℕ) → 4 ≤ other → at + count ≤ 16384 → Apart other at count
apart_low other at count low high = inr (omega arith)

-- a number in a page that isn't written
pub number_stays : (other from at count : ℕ) (old new : List ℕ) → Torn at count old new → Apart other at count → 4096 * other ≤ from → from + 4 ≤ 4096 * other + 4096 → 4096 * other + 4096 ≤ length old →
    number_at from 4 new ≡ number_at from 4 old
number_stays other from at count old new torn apart low high long = number_torn at count from 4 old new torn (omega arith) (by apart)
  where
    by : Apart other at count → (from + 4 ≤ at) ⊎ (at + count ≤ from)
    by (inl before) = inl (omega arith)
    by (inr behind) = inr (omega arith)

-- bytes of pages of which none is written
pub bytes_stay : (number : ℕ → ℕ) (count at size : ℕ) (old new : List ℕ) → Torn at size old new → ((i : ℕ) → i < count → number i ≢ 0 → Apart (number i) at size × (4096 * number i + 4096 ≤ length old)) →
    bytes_named number count new ≡ bytes_named number count old
bytes_stay number count at size old new torn apart = bytes_alike number number count new old (λ k lt. elim (cases_eq (number (k / 4096)) 0) [
  | inl none ↦ byte_none number new k none ∙ sym (byte_none number old k none)
  | inr some ↦
      let is = apart (k / 4096) (omega arith) some in
      let long = is.1 in
      byte_some number new k some
      ∙ torn.elsewhere (4096 * number (k / 4096) + k % 4096) (omega arith) (outside (number (k / 4096)) (k % 4096) (omega arith) is.0)
      ∙ sym (byte_some number old k some)
])
  where
    outside : (other rest : ℕ) → rest < 4096 → Apart other at size → IsOutside at size (4096 * other + rest)
    outside other rest lt (inl before) = inl (omega arith)
    outside other rest lt (inr behind) = inr (omega arith)

-- the pages that pins hold
pub pinned_named : (pins : List (List ℕ)) (pin page : ℕ) → get_or (get_or pins pin []) page 0 ≢ 0 → one_names pins (get_or (get_or pins pin []) page 0) ≡ true
unfolding one_names
pinned_named pins pin page some =
    let list = get_or pins pin [] in
    let in_list : page < length list = elim (cases_lt page (length list)) [ inl lt ↦ lt | inr past ↦ absurd (some (get_or_past list page 0 past)) ] in
    let in_pins : pin < length pins = elim (cases_lt pin (length pins)) [ inl lt ↦ lt | inr past ↦ absurd (some (ap (λ (xs : List ℕ). get_or xs page 0) (get_or_past pins pin [] past))) ] in
    list_any_at (λ (xs : List ℕ). names xs (get_or list page 0)) pins pin [] in_pins (names_at_index list page in_list)

pub pinned_torn : (table : Table) (at count : ℕ) (old new : List ℕ) → 4096 * table.committed.pages ≤ length old → Torn at count old new →
    ((page : ℕ) → 1 ≤ page → one_names table.map.pins page ≡ true → (4 ≤ page) × (page < table.committed.pages)) → ((page : ℕ) → 4 ≤ page → one_names table.map.pins page ≡ true → Apart page at count) → (pin : ℕ) →
    pinned_bytes table pin new ≡ pinned_bytes table pin old
unfolding pinned_bytes
pinned_torn table at count old new long torn low apart pin =
    bytes_stay (λ k. get_or (get_or table.map.pins pin []) k 0) (capacity_pages table.committed.pages) at count old new torn (λ k lt some.
    let page = get_or (get_or table.map.pins pin []) k 0 in
    let pinned = pinned_named table.map.pins pin k some in
    let there = low page (positive page some) pinned in
    let high = there.1 in
    (apart page there.0 pinned, omega arith))
  where
    positive : (n : ℕ) → n ≢ 0 → 1 ≤ n
    positive n ne = elim (cases_lt 0 n) [ inl some ↦ omega arith | inr none ↦ absurd (ne (omega arith)) ]

pub not_pinned : (table : Table) (page other : ℕ) → IsSpare table page → one_names table.map.pins other ≡ true → other ≢ page
not_pinned table page other spare pinned same = both_ways (one_names table.map.pins page) spare.unpinned (subst (λ (n : ℕ). one_names table.map.pins n ≡ true) same pinned)

-- a range that is apart from what says what is committed, but for the selector, and from the pages that are committed
pub record IsClear (table : Table) (at count : ℕ) : Type 0 where
  pub head : 12 ≤ at
  pub root : (root_at table.committed.second + 4096 ≤ at) ⊎ (at + count ≤ root_at table.committed.second)
  pub index : (i : ℕ) → i < table.committed.depth → Apart (index_of table.named.items i) at count
  pub maps : (i : ℕ) → i < map_count table.committed → Apart (maps_of table.named.items i) at count
  pub pages : (i : ℕ) → i < logical_of table.committed → Apart (get_or table.map.committed i 0) at count

pub root_page : (second : Bool) → (8192 ≤ root_at second) × (root_at second + 4096 ≤ 16384)
root_page true = (omega arith, omega arith)
root_page false = (omega arith, omega arith)

pub clear_page : (table : Table) (page : ℕ) → IsApart table page → IsClear table (4096 * page) 4096
clear_page table page apart =
    let low = apart.low in
    let root = root_page table.committed.second in
    let most = root.1 in
    record {
      head = omega arith;
      root = inl (omega arith);
      index = λ i lt. apart_page (index_of table.named.items i) page (apart.index i lt);
      maps = λ i lt. apart_page (maps_of table.named.items i) page (apart.maps i lt);
      pages = λ i lt. apart_page (get_or table.map.committed i 0) page (apart.pages i lt);
    }

-- what says what is committed, but for the selector
pub record SaysBut (table : Table) (image : List ℕ) : Type 0 where
  pub head : HasHead table.committed.format table.committed.pages image
  pub root : HasRoot table.committed.second table.committed.note table.committed.depth image
  pub names : HasNames table.committed table.named.items table.map.committed image

pub says_but : (table : Table) (image : List ℕ) → Says table image → SaysBut table image
says_but table image says = record { head = says.head; root = says.root; names = says.names }

pub says_selected : (table : Table) (image : List ℕ) → SaysBut table image → selects image ≡ table.committed.second → Says table image
says_selected table image says selected = record { head = says.head; selected = selected; root = says.root; names = says.names }

-- it stays while other bytes are written
module _ (table : Table) (at count : ℕ) (old new : List ℕ) (fit : IsFit table.committed) (once : IsNamedOnce table) (clear : IsClear table at count) (torn : Torn at count old new) (says : SaysBut table old) where
  long : 4096 * table.committed.pages ≤ length old
  long = says.head.long

  pages_least : 32 ≤ table.committed.pages
  pages_least = fit.head.least

  root_number : (skip width : ℕ) → skip + width ≤ 4096 → number_at (root_at table.committed.second + skip) width new ≡ number_at (root_at table.committed.second + skip) width old
  root_number skip width fits =
      let bytes = long in
      let least = pages_least in
      let root = root_page table.committed.second in
      let most = root.1 in
      number_torn at count (root_at table.committed.second + skip) width old new torn (omega arith) (by clear.root)
    where
      by : (root_at table.committed.second + 4096 ≤ at) ⊎ (at + count ≤ root_at table.committed.second) → (root_at table.committed.second + skip + width ≤ at) ⊎ (at + count ≤ root_at table.committed.second + skip)
      by (inl before) = inl (omega arith)
      by (inr behind) = inr (omega arith)

  head_number : (place width : ℕ) → place + width ≤ 12 → number_at place width new ≡ number_at place width old
  head_number place width fits =
      let bytes = long in
      let least = pages_least in
      let head = clear.head in
      number_torn at count place width old new torn (omega arith) (inl (omega arith))

  map_number_stays : (i : ℕ) → i < map_count table.committed →
      number_at (maps_at table.committed.second table.committed.depth (get_or table.named.items 0 0) + 4 * i) 4 new ≡ number_at (maps_at table.committed.second table.committed.depth (get_or table.named.items 0 0) + 4 * i) 4 old
  map_number_stays i lt = elim (cases_eq table.committed.depth 0) [
    | inl none ↦
        let few = (are_low table.committed fit).few in
        ap (λ (n : ℕ). number_at (n + 4 * i) 4 new) (maps_at_none table.committed.second table.committed.depth (get_or table.named.items 0 0) none)
        ∙ ap (λ (n : ℕ). number_at n 4 new) (omega arith)
        ∙ root_number (28 + 4 * i) 4 (omega arith)
        ∙ ap (λ (n : ℕ). number_at n 4 old) (omega arith)
        ∙ ap (λ (n : ℕ). number_at (n + 4 * i) 4 old) (sym (maps_at_none table.committed.second table.committed.depth (get_or table.named.items 0 0) none))
    | inr deep ↦
        let few = (are_low table.committed fit).few in
        let some : 0 < table.committed.depth = positive table.committed.depth deep in
        let low = unnamed_low table.committed.pages _ (index_of table.named.items 0) (once.index 0 some) in
        let high = low.1 in
        let first = index_first table.named.items 0 in
        let bytes = long in
        ap (λ (n : ℕ). number_at (n + 4 * i) 4 new) (maps_at_one table.committed.second table.committed.depth (get_or table.named.items 0 0) deep)
        ∙ number_stays (get_or table.named.items 0 0) (4096 * get_or table.named.items 0 0 + 4 * i) at count old new torn (subst (λ (n : ℕ). Apart n at count) first (clear.index 0 some)) (omega arith) (omega arith) (omega (arith, first))
        ∙ ap (λ (n : ℕ). number_at (n + 4 * i) 4 old) (sym (maps_at_one table.committed.second table.committed.depth (get_or table.named.items 0 0) deep))
  ]
    where
      positive : (depth : ℕ) → depth ≢ 0 → 0 < depth
      positive depth ne = elim (cases_lt 0 depth) [ inl some ↦ some | inr none ↦ absurd (ne (omega arith)) ]

  page_number_stays : (k : ℕ) → k < logical_of table.committed → number_at (place_by table.named.items k) 4 new ≡ number_at (place_by table.named.items k) 4 old
  page_number_stays k lt =
      let i = k / 1024 in
      let rest = k % 1024 in
      let i_lt : i < map_count table.committed = omega arith in
      let low = unnamed_low table.committed.pages _ (maps_of table.named.items i) (once.maps i i_lt) in
      let high = low.1 in
      let k_is : 1024 * i + rest ≡ k = omega arith in
      let place : place_by table.named.items k ≡ 4096 * maps_of table.named.items i + 4 * rest = ap (λ (n : ℕ). place_by table.named.items n) (sym k_is) ∙ place_in table.named.items i rest (omega arith) in
      let bytes = long in
      number_stays (maps_of table.named.items i) (place_by table.named.items k) at count old new torn (clear.maps i i_lt) (omega (arith, place)) (omega (arith, place)) (omega arith)

  pub but_stays : SaysBut table new
  but_stays =
      let longer = torn.no_shorter in
      let bytes = long in
      let least = pages_least in
      let head = clear.head in
      let names = says.names in
      let commits : number_at (root_at table.committed.second) 8 new ≡ number_at (root_at table.committed.second) 8 old =
      ap (λ (n : ℕ). number_at n 8 new) (omega arith) ∙ root_number 0 8 (omega arith) ∙ ap (λ (n : ℕ). number_at n 8 old) (omega arith) in
      record {
        head = record {
          long = omega arith;
          opened = torn.elsewhere 0 (omega arith) (inl (omega arith)) ∙ says.head.opened;
          spelled = head_number 1 6 (omega arith) ∙ says.head.spelled;
          format_is = head_number 7 1 (omega arith) ∙ says.head.format_is;
          pages_are = head_number 8 4 (omega arith) ∙ says.head.pages_are;
        };
        root = record {
          note_is = (λ j. record { commits = commits j; used = root_number 8 8 (omega arith) j; directory = root_number 16 8 (omega arith) j }) ∙ says.root.note_is;
          logical = root_number 24 4 (omega arith) ∙ says.root.logical;
          depth_is = root_number 4092 4 (omega arith) ∙ says.root.depth_is;
        };
        names = record {
          index = λ i lt. root_number 28 4 (omega arith) ∙ names.index i lt;
          maps = λ i lt. map_number_stays i lt ∙ names.maps i lt;
          numbers = λ k lt. page_number_stays k lt ∙ names.numbers k lt;
        };
      }

  pub selected_stays : 4097 ≤ at → selects new ≡ selects old
  selected_stays behind =
      let bytes = long in
      let least = pages_least in
      ap (λ (byte : ℕ). byte % 2 == 1) (torn.elsewhere 4096 (omega arith) (inl (omega arith)))

  -- the pages that are committed
  pub committed_stays : bytes_named (λ page. get_or table.map.committed page 0) (logical_of table.committed) new ≡ bytes_named (λ page. get_or table.map.committed page 0) (logical_of table.committed) old
  committed_stays = bytes_stay (λ page. get_or table.map.committed page 0) (logical_of table.committed) at count old new torn (λ i lt some.
      let low = unnamed_low table.committed.pages _ (get_or table.map.committed i 0) (once.pages i lt) in
      let high = low.1 in
      let bytes = long in
      (clear.pages i lt, omega arith))

-- a write that is apart from it, and from the selector, whole or torn, leaves what is committed
pub clear_stays : (table : Table) (at count : ℕ) (old new : List ℕ) → IsFit table.committed → IsNamedOnce table → IsClear table at count → 4097 ≤ at → Torn at count old new → Says table old → Says table new × (held_in new ≡ held_in old)
clear_stays table at count old new fit once clear behind torn says =
    let but = but_stays table at count old new fit once clear torn (says_but table old says) in
    let is = says_selected table new but (selected_stays table at count old new fit once clear torn (says_but table old says) behind ∙ says.selected) in (
      is,
      held_says table new fit once is
          ∙ ap (λ (xs : List ℕ). Some (record { note = table.committed.note; bytes = xs })) (committed_stays table at count old new fit once clear torn (says_but table old says))
          ∙ sym (held_says table old fit once says),
    )

-- a write of a page that nothing committed names
module _ (table : Table) (page : ℕ) (old new : List ℕ) (fit : IsFit table.committed) (once : IsNamedOnce table) (apart : IsApart table page) (torn : Torn (4096 * page) 4096 old new) (says : Says table old) where
  both : Says table new × (held_in new ≡ held_in old)
  both = let low = apart.low in clear_stays table (4096 * page) 4096 old new fit once (clear_page table page apart) (omega arith) torn says

  pub says_stays : Says table new
  says_stays = both.0

  pub held_stays : held_in new ≡ held_in old
  held_stays = both.1
