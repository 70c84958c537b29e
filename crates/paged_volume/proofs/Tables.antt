-- A table is in order.
use Rattle.std.proofs.Common.{◌≡◌, ◌≢◌, ◌⊎◌, inl, inr, ℕ, zero, suc, ◌+◌, ◌-◌, ◌^◌, ◌<◌, ◌≤◌, Bool, true, false, not, ◌&&◌, ◌||◌, List, [], ◌∷◌, ◌++◌, length, get_or, slice_index, refl, sym, ◌∙◌, ap, subst, arith}
use Rattle.std.specs.Prelude.{◌==◌}
use Rattle.std.specs.List.{list_any}
use Rattle.std.proofs.lemmas.Bool.{cases_lt, cases_eq, eq-eqb, eqb-true, ne_eqb, lt-leb, le-leb, both_ways, or_cases, or_left, or_right}
use Rattle.std.proofs.lemmas.List.Folds.{list_any_at}
use Rattle.page_map.specs.Pages.{is_free, free_where, may_be_free, names, one_names}
use Rattle.page_map.specs.Map.{MapView, settled}
use Rattle.page_map.proofs.PageLaws.{is_free_where, length_where, within, one_names_none}
use Rattle.paged_volume.specs.Layout.{capacity_pages, map_pages_of}
use Rattle.paged_volume.specs.Found.{numbers_of, unnamed}
use Rattle.paged_volume.specs.Standing.{IsFit, IsTable, IsPinned, IsBare, AreUnnamed, index_of, maps_of, map_names, logical_of, map_count, uses}
use Rattle.paged_volume.specs.Pinning.{pin_of, pinned_list, IsPin}
use Rattle.paged_volume.specs.Naming.{IsNaming}
use Rattle.paged_volume.specs.declared.table.Table.{Table}
use Rattle.paged_volume.specs.declared.committed.Committed.{Committed}
use Rattle.paged_volume.proofs.Bounds.{are_low}
use Rattle.paged_volume.proofs.Naming.{length_free}
use Rattle.paged_volume.proofs.Reading.{index_first}
use Rattle.paged_volume.proofs.Numbers.{numbers_none, numbers_more, length_numbers, number_at_index, names_append, names_one, is_unnamed, unnamed_low}

-- a number of a list is named by it
pub names_at_index : (list : List ℕ) (i : ℕ) → i < length list → names list (get_or list i 0) ≡ true
unfolding names
names_at_index list i lt = list_any_at (λ number. number == get_or list i 0) list i 0 lt (eq-eqb (get_or list i 0) (get_or list i 0) refl)

pub names_number : (number : ℕ → ℕ) (count i : ℕ) → i < count → names (numbers_of number count) (number i) ≡ true
names_number number count i lt =
    subst (λ (n : ℕ). names (numbers_of number count) n ≡ true) (number_at_index number count i lt) (names_at_index (numbers_of number count) i (omega (arith, length_numbers number count)))

pub names_nothing : (page : ℕ) → names [] page ≡ false
unfolding names
names_nothing page = refl

-- a page that none of so many numbers names
pub none_names : (number : ℕ → ℕ) (count page : ℕ) → ((i : ℕ) → i < count → number i ≢ page) → names (numbers_of number count) page ≡ false
none_names number zero page none = ap (λ (xs : List ℕ). names xs page) (numbers_none number) ∙ names_nothing page
none_names number (suc count) page none =
    ap (λ (xs : List ℕ). names xs page) (ap (λ (n : ℕ). numbers_of number n) (omega arith) ∙ numbers_more number count)
    ∙ names_append (numbers_of number count) (number count ∷ []) page
    ∙ (λ j. none_names number count page (λ i lt. none i (omega arith)) j || (names_one (number count) page ∙ ne_eqb (number count) page (none count (omega arith))) j)

-- a page that is unnamed
pub unnamed_is_not : (pages : ℕ) (numbers : List ℕ) (page : ℕ) → is_free (unnamed pages numbers) page ≡ true → names numbers page ≡ false
unnamed_is_not pages numbers page is =
    let low = unnamed_low pages numbers page is in
    by (names numbers page) (sym (is_unnamed pages numbers page low.1 ∙ ap (λ (b : Bool). b && not (names numbers page)) (le-leb 4 page low.0)) ∙ is)
  where
    by : (b : Bool) → not b ≡ true → b ≡ false
    by true e = sym e
    by false e = refl

pub is_not_unnamed : (pages : ℕ) (numbers : List ℕ) (page : ℕ) → 4 ≤ page → page < pages → names numbers page ≡ false → is_free (unnamed pages numbers) page ≡ true
is_not_unnamed pages numbers page low high none =
    is_unnamed pages numbers page high ∙ (λ i. le-leb 4 page low i && not (none i))

pub and_both : (a b : Bool) → (a && b) ≡ true → (a ≡ true) × (b ≡ true)
and_both true b e = (refl, e)
and_both false b e = absurd (both_ways false refl e)

pub or_both : (a b : Bool) → a ≡ false → b ≡ false → (a || b) ≡ false
or_both a b e f = (λ i. e i || f i)

pub both_or : (a b : Bool) → (a || b) ≡ false → (a ≡ false) × (b ≡ false)
both_or false false e = (refl, refl)
both_or false true e = (refl, e)
both_or true b e = (e, by e)
  where
    by : true ≡ false → b ≡ false
    by e = absurd (both_ways true e refl)

-- a number that names a page which none before it names
pub unnamed_at : (pages : ℕ) (before : List ℕ) (number : ℕ → ℕ) (i : ℕ) → (4 ≤ number i) × (number i < pages) → names before (number i) ≡ false → ((k : ℕ) → k < i → number k ≢ number i) →
    is_free (unnamed pages (before ++ numbers_of number i)) (number i) ≡ true
unnamed_at pages before number i low none apart =
    is_not_unnamed pages (before ++ numbers_of number i) (number i) low.0 low.1 (names_append before (numbers_of number i) (number i) ∙ or_both _ _ none (none_names number i (number i) apart))

-- numbers that name pages once are apart
pub once_apart : (pages : ℕ) (before : List ℕ) (number : ℕ → ℕ) (count i j : ℕ) → AreUnnamed pages before number count → i < j → j < count → number i ≢ number j
once_apart pages before number count i j are lt below same =
    let none = unnamed_is_not pages (before ++ numbers_of number j) (number j) (are j below) in
    let behind = (both_or (names before (number j)) (names (numbers_of number j) (number j)) (sym (names_append before (numbers_of number j) (number j)) ∙ none)).1 in
    both_ways (names (numbers_of number j) (number j)) behind (subst (λ (n : ℕ). names (numbers_of number j) n ≡ true) same (names_number number j i lt))

pub once_once : (pages : ℕ) (before : List ℕ) (number : ℕ → ℕ) (count i j : ℕ) → AreUnnamed pages before number count → i < count → j < count → number i ≡ number j → i ≡ j
once_once pages before number count i j are i_lt j_lt same = elim (cases_lt i j) [
  | inl less ↦ absurd (once_apart pages before number count i j are less j_lt same)
  | inr more ↦ elim (cases_lt j i) [
    | inl less ↦ absurd (once_apart pages before number count j i are less i_lt (sym same))
    | inr le ↦ omega arith
  ]
]

-- where a list names a page
pub record IsAt (list : List ℕ) (page : ℕ) : Type 0 where
  pub index : ℕ
  pub below : index < length list
  pub is : get_or list index 0 ≡ page

pub named_at : (list : List ℕ) (page : ℕ) → names list page ≡ true → IsAt list page
unfolding names
named_at [] page named = absurd (both_ways false refl named)
named_at (x ∷ xs) page named = elim (or_cases (x == page) (list_any (λ number. number == page) xs) named) [
  | inl this ↦ record { index = 0; below = omega arith; is = eqb-true x page this }
  | inr rest ↦ let at = named_at xs page rest in let below = at.below in record { index = suc at.index; below = omega arith; is = at.is }
]

pub map_is : (named : List ℕ) (map_page : ℕ) → maps_of named map_page ≡ get_or named (1 + map_page) 0
unfolding maps_of
map_is named map_page = refl

-- what the numbers of the index page and of the map pages name
pub bare_names : (committed : Committed) (named : List ℕ) (page : ℕ) → IsBare committed named → 1 ≤ page → names named page ≡ true → names (map_names committed.depth named (map_count committed)) page ≡ true
bare_names committed named page bare some is =
    let at = named_at named page is in
    names_append (numbers_of (index_of named) committed.depth) (numbers_of (maps_of named) (map_count committed)) page ∙ elim (cases_eq at.index 0) [
      | inl first ↦
          let number : index_of named 0 ≡ page = index_first named 0 ∙ ap (λ (i : ℕ). get_or named i 0) (sym first) ∙ at.is in
          elim (cases_eq committed.depth 0) [
            | inl none ↦ let zero_is = bare.index none in absurd (omega (arith, number, index_first named 0))
            | inr deep ↦ or_left _ _ (subst (λ (n : ℕ). names (numbers_of (index_of named) committed.depth) n ≡ true) number (names_number (index_of named) committed.depth 0 (omega arith)))
          ]
      | inr later ↦
          let i = at.index - 1 in
          let number : maps_of named i ≡ page = map_is named i ∙ ap (λ (k : ℕ). get_or named k 0) (omega arith) ∙ at.is in
          elim (cases_lt i (map_count committed)) [
            | inl lt ↦ or_right (names (numbers_of (index_of named) committed.depth) page) _ (subst (λ (n : ℕ). names (numbers_of (maps_of named) (map_count committed)) n ≡ true) number (names_number (maps_of named) (map_count committed) i lt))
            | inr past ↦ absurd (omega (arith, number, bare.maps i past))
          ]
    ]

-- what is settled: of what is staged each page is named once, and past the logical pages none is named
pub record IsSettling (committed : Committed) (map : MapView) (named : List ℕ) : Type 0 where
  pub fit : IsFit committed
  pub commits : committed.note.commits < 2 ^ 64
  pub names : length named ≡ 1 + map_pages_of (capacity_pages committed.pages)
  pub staged : length map.staged ≡ capacity_pages committed.pages
  pub free : length map.free ≡ committed.pages
  pub index_once : AreUnnamed committed.pages [] (index_of named) committed.depth
  pub maps_once : AreUnnamed committed.pages (numbers_of (index_of named) committed.depth) (maps_of named) (map_count committed)
  pub pages_once : AreUnnamed committed.pages (map_names committed.depth named (map_count committed)) (slice_index map.staged) (logical_of committed)
  pub bare_names : IsBare committed named
  pub bare : (page : ℕ) → logical_of committed ≤ page → get_or map.staged page 0 ≡ 0
  pub pinned : (page : ℕ) → 1 ≤ page → one_names map.pins page ≡ true → IsPinned committed named page

-- of numbers that were read
pub settling_read : (table : Table) → IsNaming table table.committed.depth (map_count table.committed) (logical_of table.committed) → IsSettling table.committed table.map table.named.items
settling_read table is = record {
  fit = is.fit;
  commits = is.commits;
  names = is.names;
  staged = is.staged;
  free = length_free is;
  index_once = is.index_once;
  maps_once = is.maps_once;
  pages_once = is.pages_once;
  bare_names = record { index = is.bare_index; maps = is.bare_maps };
  bare = is.bare;
  pinned = λ page some is_pinned. absurd (both_ways (one_names [] page) (one_names_none page) (sym (ap (λ (lists : List (List ℕ)). one_names lists page) is.pins) ∙ is_pinned));
}

-- after settling: what was staged is committed, and exactly those pages are free that nothing names
module _ (table : Table) (is : IsSettling table.committed table.map table.named.items) where
  names_index : (i : ℕ) → i < table.committed.depth → names table.named.items (index_of table.named.items i) ≡ true
  unfolding index_of
  names_index i lt = let size = is.names in names_at_index table.named.items 0 (omega arith)

  names_map : (i : ℕ) → i < map_count table.committed → names table.named.items (maps_of table.named.items i) ≡ true
  unfolding maps_of
  names_map i lt =
      let size = is.names in
      let low = are_low table.committed is.fit in
      let most = low.maps in
      names_at_index table.named.items (1 + i) (omega arith)

  names_page : (i : ℕ) → i < logical_of table.committed → names table.map.staged (get_or table.map.staged i 0) ≡ true
  names_page i lt =
      let size = is.staged in
      let low = are_low table.committed is.fit in
      let within = low.within in
      names_at_index table.map.staged i (omega arith)

  differs : (list : List ℕ) (page number : ℕ) → names list page ≡ false → names list number ≡ true → number ≢ page
  differs list page number none named same = both_ways (names list page) none (subst (λ (n : ℕ). names list n ≡ true) same named)

  settled_table : Table
  settled_table = record { committed = table.committed; map = settled table.map table.named.items; named = table.named; next = table.next; pins = table.pins }

  free_is_spare : (page : ℕ) → is_free (settled table.map table.named.items).free page ≡ true →
      (is_free (unnamed table.committed.pages (map_names table.committed.depth table.named.items (map_count table.committed) ++ numbers_of (λ page. get_or table.map.staged page 0) (logical_of table.committed))) page ≡ true)
      × (one_names table.map.pins page ≡ false)
  free_is_spare page free =
      let test = λ (page : ℕ). may_be_free page && not (names table.map.staged page || (names table.named.items page || one_names table.map.pins page)) in
      let below : page < length table.map.free = omega (arith, within (free_where (length table.map.free) test) page free, length_where (length table.map.free) test) in
      let passes = sym (is_free_where (length table.map.free) test page below) ∙ free in
      let parts = and_parts (may_be_free page) (names table.map.staged page) (names table.named.items page) (one_names table.map.pins page) passes in
      let size = is.free in
      let low = above (cases_lt page 4) parts.0 in
      let none_index = none_names (index_of table.named.items) table.committed.depth page (λ i lt. differs table.named.items page (index_of table.named.items i) parts.2 (names_index i lt)) in
      let none_maps = none_names (maps_of table.named.items) (map_count table.committed) page (λ i lt. differs table.named.items page (maps_of table.named.items i) parts.2 (names_map i lt)) in
      let none_pages = none_names (λ page. get_or table.map.staged page 0) (logical_of table.committed) page (λ i lt. differs table.map.staged page (get_or table.map.staged i 0) parts.1 (names_page i lt)) in (
        is_not_unnamed table.committed.pages _ page low (omega arith)
            (names_append (map_names table.committed.depth table.named.items (map_count table.committed)) (numbers_of (λ page. get_or table.map.staged page 0) (logical_of table.committed)) page
            ∙ or_both _ _ (names_append (numbers_of (index_of table.named.items) table.committed.depth) (numbers_of (maps_of table.named.items) (map_count table.committed)) page ∙ or_both _ _ none_index none_maps) none_pages),
        parts.3,
      )
    where
      and_parts : (may one two three : Bool) → (may && not (one || (two || three))) ≡ true → (may ≡ true) × (one ≡ false) × (two ≡ false) × (three ≡ false)
      and_parts true false false false e = (refl, refl, refl, refl)
      and_parts true true two three e = absurd (both_ways false refl e)
      and_parts true false true three e = absurd (both_ways false refl e)
      and_parts true false false true e = absurd (both_ways false refl e)
      and_parts false one two three e = absurd (both_ways false refl e)

      above : (page < 4) ⊎ (4 ≤ page) → may_be_free page ≡ true → 4 ≤ page
      above (inl first) may = absurd (both_ways (may_be_free page) (lt-leb 4 page first) may)
      above (inr high) may = high

  in_use : (page : ℕ) → 4 ≤ page → page < table.committed.pages → is_free (settled table.map table.named.items).free page ≡ false → uses settled_table page ≡ true
  unfolding settled_table
  in_use page low high taken =
      let test = λ (page : ℕ). may_be_free page && not (names table.map.staged page || (names table.named.items page || one_names table.map.pins page)) in
      let size = is.free in
      let fails : test page ≡ false = sym (is_free_where (length table.map.free) test page (omega arith)) ∙ taken in
      let one = named (may_be_free page) (names table.map.staged page || (names table.named.items page || one_names table.map.pins page)) (le-leb 4 page low) fails in
      let before = map_names table.committed.depth table.named.items (map_count table.committed) in
      let pages = numbers_of (λ page. get_or table.map.staged page 0) (logical_of table.committed) in
      elim (or_cases (names table.map.staged page) (names table.named.items page || one_names table.map.pins page) one) [
        | inl staged ↦ or_right (names (before ++ pages) page) _ (or_left (names table.map.staged page) (one_names table.map.pins page) staged)
        | inr more ↦ elim (or_cases (names table.named.items page) (one_names table.map.pins page) more) [
          | inl mapped ↦ or_left (names (before ++ pages) page) _ (names_append before pages page ∙ or_left (names before page) (names pages page) (bare_names table.committed table.named.items page is.bare_names (omega arith) mapped))
          | inr pinned ↦ or_right (names (before ++ pages) page) _ (or_right (names table.map.staged page) (one_names table.map.pins page) pinned)
        ]
      ]
    where
      named : (may some : Bool) → may ≡ true → (may && not some) ≡ false → some ≡ true
      named true true e f = refl
      named true false e f = absurd (both_ways true f refl)
      named false some e f = absurd (both_ways false refl e)

  settled_apart : (one other : ℕ) → get_or table.map.staged one 0 ≡ get_or table.map.staged other 0 → 1 ≤ get_or table.map.staged one 0 → one ≡ other
  settled_apart one other same some =
      once_once table.committed.pages _ (λ page. get_or table.map.staged page 0) (logical_of table.committed) one other is.pages_once (below one some) (below other (omega arith)) same
    where
      below : (page : ℕ) → 1 ≤ get_or table.map.staged page 0 → page < logical_of table.committed
      below page some = elim (cases_lt page (logical_of table.committed)) [ inl lt ↦ lt | inr past ↦ absurd (omega (arith, is.bare page past)) ]

  pub settled_is_table : length table.next.items ≡ length table.named.items → length table.pins.items ≡ length table.map.pins →
      ((pin : ℕ) → pin < length table.map.pins → IsPin (record { committed = table.committed; map = settled table.map table.named.items; named = table.named; next = table.next; pins = table.pins }) (pinned_list table pin) (pin_of table pin)) →
      IsTable (record { committed = table.committed; map = settled table.map table.named.items; named = table.named; next = table.next; pins = table.pins })
  unfolding settled_table
  settled_is_table nexts pin_count pins = record {
    fit = is.fit;
    commits = is.commits;
    logical = is.staged;
    lists = refl;
    pages = length_where (length table.map.free) _ ∙ is.free;
    names = is.names;
    nexts = nexts;
    once = record { index = is.index_once; maps = is.maps_once; pages = is.pages_once; bare = is.bare };
    bare = is.bare_names;
    held = λ page free. let both = free_is_spare page free in record { unnamed_is = both.0; unpinned = both.1 };
    used = in_use;
    pinned = is.pinned;
    pin_count = pin_count;
    pins = pins;
    apart = λ one other lt below same some. settled_apart one other same some;
    staged = λ page. inl refl;
  }

-- what a staged number is
pub staged_low : (table : Table) → IsTable table → (page : ℕ) → get_or table.map.staged page 0 ≢ 0 → (4 ≤ get_or table.map.staged page 0) × (get_or table.map.staged page 0 < table.committed.pages)
staged_low table is page some = elim (is.staged page) [
  | inl same ↦ elim (cases_lt page (logical_of table.committed)) [
    | inl lt ↦
        let low = unnamed_low table.committed.pages _ (get_or table.map.committed page 0) (is.once.pages page lt) in
        (omega (arith, low.0, same), omega (arith, low.1, same))
    | inr past ↦ absurd (some (same ∙ is.once.bare page past))
  ]
  | inr spare ↦ unnamed_low table.committed.pages _ (get_or table.map.staged page 0) spare.unnamed_is
]

pub staged_below : (table : Table) → IsTable table → (page : ℕ) → get_or table.map.staged page 0 < table.committed.pages
staged_below table is page = elim (cases_eq (get_or table.map.staged page 0) 0) [
  | inl none ↦ let least = is.fit.head.least in omega arith
  | inr some ↦ (staged_low table is page some).1
]

-- a page that is committed is staged
pub committed_staged : (table : Table) → IsTable table → (page : ℕ) → page < logical_of table.committed → 1 ≤ get_or table.map.staged page 0
committed_staged table is page lt = elim (is.staged page) [
  | inl same ↦ let low = unnamed_low table.committed.pages _ (get_or table.map.committed page 0) (is.once.pages page lt) in omega (arith, low.0, same)
  | inr spare ↦ let low = unnamed_low table.committed.pages _ (get_or table.map.staged page 0) spare.unnamed_is in omega (arith, low.0)
]
