-- What is committed next, once the pages that name it are chosen.
use Rattle.std.proofs.Common.{◌≡◌, ◌≢◌, ◌⊎◌, inl, inr, ℕ, zero, suc, ◌+◌, ◌-◌, ◌*◌, ◌<◌, ◌≤◌, Bool, true, false, not, List, [], ◌++◌, length, get_or, refl, sym, ◌∙◌, ap, subst, arith, if◌then◌else◌, None}
use Rattle.std.specs.Prelude.{◌==◌, ◌||◌}
use Rattle.std.proofs.lemmas.Bool.{cases_lt, both_ways, or_left, or_right, le-ltb}
use Rattle.std.proofs.lemmas.List.{get_or_past}
use Rattle.page_map.specs.Pages.{is_free, names, one_names}
use Rattle.page_map.specs.Map.{MapView, IsMap}
use Rattle.paged_volume.specs.Layout.{least_indexed, capacity_pages}
use Rattle.paged_volume.specs.Found.{numbers_of, unnamed}
use Rattle.paged_volume.specs.Staging.{HasPages}
use Rattle.paged_volume.specs.Standing.{IsTable, IsSpare, IsPinned, AreUnnamed, HasNames, index_of, maps_of, map_names, logical_of, map_count}
use Rattle.paged_volume.specs.Pinning.{IsPin}
use Rattle.paged_volume.specs.Changing.{next_number, differs, one_of, is_changed}
use Rattle.paged_volume.specs.Switching.{IsNext, StaysMap, MovesMap}
use Rattle.paged_volume.specs.Planning.{depth_of, Follows, IsGiven, HasPlace, moves, stays, IsChosen, IsPlanned}
use Rattle.paged_volume.specs.declared.table.Table.{Table}
use Rattle.paged_volume.specs.declared.committed.Committed.{Committed}
use Rattle.paged_volume.proofs.Bounds.{are_low}
use Rattle.paged_volume.proofs.Numbers.{names_append, are_same, unnamed_low}
use Rattle.paged_volume.proofs.Tables.{none_names, names_nothing, unnamed_at, or_both, unnamed_is_not, both_or, once_apart, names_at_index, staged_low}
use Rattle.paged_volume.proofs.PinLaws.{pin_same}
use Rattle.paged_volume.proofs.Changed.{next_below, next_past, same_by, unchanged}
use Rattle.paged_volume.proofs.Staying.{IsApart, apart_spare, not_named, not_pinned}

-- what a map page has to name doesn't change while pages are chosen, and what is past the logical pages is given up
one_same : (one other : ℕ → Bool) (count : ℕ) → ((i : ℕ) → i < count → one i ≡ other i) → one_of one count ≡ one_of other count
unfolding one_of
one_same one other zero same = refl
one_same one other (suc count) same =
    let before = one_same one other count (λ i lt. same i (omega arith)) in
    let here = same count (omega arith) in
    (λ j. before j || here j)

next_again : (old new : MapView) (logical page : ℕ) → ((page : ℕ) → get_or new.staged page 0 ≡ next_number old logical page) → next_number new logical page ≡ next_number old logical page
next_again old new logical page staged = elim (cases_lt page logical) [
  | inl below ↦ next_below new logical page below ∙ staged page
  | inr past ↦ next_past new logical page past ∙ sym (next_past old logical page past)
]

differs_again : (old new : MapView) (logical page : ℕ) → new.committed ≡ old.committed → ((page : ℕ) → get_or new.staged page 0 ≡ next_number old logical page) → differs new logical page ≡ differs old logical page
unfolding differs
differs_again old new logical page committed staged =
    let next = next_again old new logical page staged in
    (λ i. not (next i == get_or (committed i) page 0))

pub changed_again : (old new : MapView) (logical map_page : ℕ) → new.committed ≡ old.committed → ((page : ℕ) → get_or new.staged page 0 ≡ next_number old logical page) → is_changed new logical map_page ≡ is_changed old logical map_page
unfolding is_changed
changed_again old new logical map_page committed staged =
    one_same (λ i. differs new logical (1024 * map_page + i)) (λ i. differs old logical (1024 * map_page + i)) 1024 (λ i lt. differs_again old new logical (1024 * map_page + i) committed staged)

few_pages : (pages : ℕ) → pages < 88 → capacity_pages pages ≤ 40
unfolding capacity_pages
few_pages pages lt = omega arith

-- the pages that were chosen
module _ (table : Table) (next : Committed) (now : MapView) (items : List ℕ) (is : IsTable table) (sound : IsMap table.map) (follows : Follows table.committed next) (has : HasPages table (logical_of next))
    (chosen : IsChosen table.map now table.named.items items (logical_of next) next.depth (map_count next)) where
  logical : ℕ
  logical = logical_of next

  -- each is one that may be written
  given_spare : (page : ℕ) → IsGiven table.map now page → IsSpare table page
  given_spare page given = is.held page given.was

  given_apart : (page : ℕ) → IsGiven table.map now page → IsApart table page
  given_apart page given = apart_spare table page (given_spare page given)

  -- a map page that stays is one of those that are committed
  pub stays_was : (map_page : ℕ) → map_page < map_count next → is_changed table.map (logical_of next) map_page ≡ false → map_page < map_count table.committed
  stays_was map_page lt same =
      let first = 1024 * map_page in
      let below : first < logical_of next = omega arith in
      let number : next_number table.map (logical_of next) first ≡ get_or table.map.committed first 0 =
      same_by table.map (logical_of next) first (ap (λ (n : ℕ). differs table.map (logical_of next) n) (omega arith) ∙ unchanged table.map (logical_of next) map_page 0 same (omega arith)) in
      let some = has first below in
      elim (cases_lt first (logical_of table.committed)) [
        | inl committed ↦ omega arith
        | inr past ↦ absurd (omega (arith, number, next_below table.map (logical_of next) first below, is.once.bare first past))
      ]

  place : (map_page : ℕ) → map_page < map_count next →
      ((is_changed table.map (logical_of next) map_page ≡ true) × IsGiven table.map now (maps_of items map_page))
      ⊎ ((is_changed table.map (logical_of next) map_page ≡ false) × (map_page < map_count table.committed) × (maps_of items map_page ≡ maps_of table.named.items map_page))
  place map_page lt = by (chosen.maps map_page lt)
    where
      by : HasPlace table.map now (logical_of next) map_page (maps_of table.named.items map_page) (maps_of items map_page) →
          ((is_changed table.map (logical_of next) map_page ≡ true) × IsGiven table.map now (maps_of items map_page))
          ⊎ ((is_changed table.map (logical_of next) map_page ≡ false) × (map_page < map_count table.committed) × (maps_of items map_page ≡ maps_of table.named.items map_page))
      by (moves changed given) = inl (changed, given)
      by (stays same number_is) = inr (same, stays_was map_page lt same, number_is)

  -- they are apart from one another
  distinct : (one other : ℕ) → one < other → other < map_count next → maps_of items one ≢ maps_of items other
  distinct one other lt below = elim (place one (omega arith)) [
    | inl moved ↦ elim (place other below) [
      | inl also ↦ chosen.apart one other lt below moved.0 also.0
      | inr stayed ↦ λ same. (given_apart (maps_of items one) moved.1).maps other stayed.1 (sym stayed.2 ∙ sym same)
    ]
    | inr kept ↦ elim (place other below) [
      | inl also ↦ λ same. (given_apart (maps_of items other) also.1).maps one kept.1 (sym kept.2 ∙ same)
      | inr stayed ↦ λ same. once_apart table.committed.pages _ (maps_of table.named.items) (map_count table.committed) one other is.once.maps lt stayed.1 (sym kept.2 ∙ same ∙ stayed.2)
    ]
  ]

  index_apart : (i map_page : ℕ) → i < next.depth → map_page < map_count next → index_of items i ≢ maps_of items map_page
  index_apart i map_page lt below = elim (place map_page below) [
    | inl moved ↦ chosen.apart_index i map_page lt below moved.0
    | inr kept ↦ λ same. (given_apart (index_of items i) (chosen.index i lt)).maps map_page kept.1 (sym kept.2 ∙ sym same)
  ]

  map_low : (map_page : ℕ) → map_page < map_count next → (4 ≤ maps_of items map_page) × (maps_of items map_page < table.committed.pages)
  map_low map_page lt = elim (place map_page lt) [
    | inl moved ↦ let apart = given_apart (maps_of items map_page) moved.1 in (apart.low, apart.high)
    | inr kept ↦
        let low = unnamed_low table.committed.pages _ (maps_of table.named.items map_page) (is.once.maps map_page kept.1) in
        let number = kept.2 in
        (omega (arith, low.0, number), omega (arith, low.1, number))
  ]

  -- and from the pages that are staged
  staged_taken : (page : ℕ) → 1 ≤ get_or table.map.staged page 0 → is_free table.map.free (get_or table.map.staged page 0) ≡ false
  staged_taken page some =
      let in_list : page < length table.map.staged = elim (cases_lt page (length table.map.staged)) [ inl lt ↦ lt | inr past ↦ absurd (omega (arith, get_or_past table.map.staged page 0 past)) ] in
      let named = names_at_index table.map.staged page in_list in
      (sound.named (get_or table.map.staged page 0) some (or_right (names table.map.committed (get_or table.map.staged page 0)) _ (or_left (names table.map.staged (get_or table.map.staged page 0)) _ named))).in_use

  given_unstaged : (number page : ℕ) → IsGiven table.map now number → 1 ≤ get_or table.map.staged page 0 → number ≢ get_or table.map.staged page 0
  given_unstaged number page given some same = both_ways (is_free table.map.free number) (ap (λ (n : ℕ). is_free table.map.free n) same ∙ staged_taken page some) given.was

  map_unstaged : (map_page page : ℕ) → map_page < map_count next → 1 ≤ get_or table.map.staged page 0 → maps_of items map_page ≢ get_or table.map.staged page 0
  map_unstaged map_page page lt some = elim (place map_page lt) [
    | inl moved ↦ given_unstaged (maps_of items map_page) page moved.1 some
    | inr kept ↦ elim (is.staged page) [
      | inr spare ↦ λ same. (apart_spare table (get_or table.map.staged page 0) spare).maps map_page kept.1 (sym kept.2 ∙ same)
      | inl committed ↦ elim (cases_lt page (logical_of table.committed)) [
        | inr past ↦ absurd (omega (arith, committed, is.once.bare page past))
        | inl below ↦
            let none = unnamed_is_not table.committed.pages _ (get_or table.map.committed page 0) (is.once.pages page below) in
            let before = map_names table.committed.depth table.named.items (map_count table.committed) in
            let front = (both_or _ _ (sym (names_append before (numbers_of (λ k. get_or table.map.committed k 0) page) (get_or table.map.committed page 0)) ∙ none)).0 in
            let both = both_or _ _ (sym (names_append (numbers_of (index_of table.named.items) table.committed.depth) (numbers_of (maps_of table.named.items) (map_count table.committed)) (get_or table.map.committed page 0)) ∙ front) in
            λ same. not_named (maps_of table.named.items) (map_count table.committed) (get_or table.map.committed page 0) map_page both.1 kept.1 (sym kept.2 ∙ same ∙ committed)
      ]
    ]
  ]

  staged_high : (page : ℕ) → 1 ≤ get_or table.map.staged page 0 → (4 ≤ get_or table.map.staged page 0) × (get_or table.map.staged page 0 < table.committed.pages)
  staged_high page some = staged_low table is page (λ none. absurd (omega arith))

  staged_apart : (one other : ℕ) → one < other → other < logical_of next → get_or table.map.staged one 0 ≢ get_or table.map.staged other 0
  staged_apart one other lt below same =
      let low = are_low next follows.fit in
      let within = low.within in
      let lists = is.lists in
      let size = is.logical in
      let capacity : capacity_pages next.pages ≡ capacity_pages table.committed.pages = ap capacity_pages follows.pages in
      absurd (omega (arith, is.apart one other (omega arith) (omega arith) same (has one (omega arith))))

  unnamed_next : (before : List ℕ) (number : ℕ → ℕ) (i : ℕ) → (4 ≤ number i) × (number i < table.committed.pages) → names before (number i) ≡ false → ((k : ℕ) → k < i → number k ≢ number i) →
      is_free (unnamed next.pages (before ++ numbers_of number i)) (number i) ≡ true
  unnamed_next before number i low none apart =
      let pages = follows.pages in
      unnamed_at next.pages before number i (low.0, omega (arith, low.1)) none apart

  pub chosen_index_once : AreUnnamed next.pages [] (index_of items) next.depth
  chosen_index_once i lt =
      let apart = given_apart (index_of items i) (chosen.index i lt) in
      let most = follows.fit.depth.at_most_one in
      unnamed_next [] (index_of items) i (apart.low, apart.high) (names_nothing (index_of items i)) (λ k below. absurd (omega arith))

  pub chosen_maps_once : AreUnnamed next.pages (numbers_of (index_of items) next.depth) (maps_of items) (map_count next)
  chosen_maps_once i lt =
      unnamed_next (numbers_of (index_of items) next.depth) (maps_of items) i (map_low i lt) (none_names (index_of items) next.depth (maps_of items i) (λ k below. index_apart k i below lt)) (λ k below. distinct k i below lt)

  pub chosen_pages_once : AreUnnamed next.pages (map_names next.depth items (map_count next)) (λ page. get_or table.map.staged page 0) (logical_of next)
  chosen_pages_once i lt =
      let some = has i lt in
      unnamed_next (map_names next.depth items (map_count next)) (λ page. get_or table.map.staged page 0) i (staged_high i some)
      (names_append (numbers_of (index_of items) next.depth) (numbers_of (maps_of items) (map_count next)) (get_or table.map.staged i 0)
      ∙ or_both _ _ (none_names (index_of items) next.depth (get_or table.map.staged i 0) (λ k below. given_unstaged (index_of items k) i (chosen.index k below) some))
      (none_names (maps_of items) (map_count next) (get_or table.map.staged i 0) (λ k below. map_unstaged k i below some)))
      (λ k below. staged_apart k i below lt)

  pub chosen_pinned : (page : ℕ) → 1 ≤ page → one_names table.map.pins page ≡ true → IsPinned next items page
  chosen_pinned page some pinned =
      let held = is.pinned page some pinned in
      let high = held.high in
      let pages = follows.pages in
      let both = both_or _ _ (sym (names_append (numbers_of (index_of table.named.items) table.committed.depth) (numbers_of (maps_of table.named.items) (map_count table.committed)) page) ∙ held.unmapped) in
      record {
        low = held.low;
        high = omega arith;
        unmapped = names_append (numbers_of (index_of items) next.depth) (numbers_of (maps_of items) (map_count next)) page
            ∙ or_both _ _ (none_names (index_of items) next.depth page (λ i lt same. not_pinned table (index_of items i) page (given_spare (index_of items i) (chosen.index i lt)) pinned (sym same)))
            (none_names (maps_of items) (map_count next) page (λ i lt. elim (place i lt) [
              | inl moved ↦ λ same. not_pinned table (maps_of items i) page (given_spare (maps_of items i) moved.1) pinned (sym same)
              | inr kept ↦ λ same. not_named (maps_of table.named.items) (map_count table.committed) page i both.1 kept.1 (sym kept.2 ∙ same)
            ]));
      }

  pub chosen_one_map : next.depth ≡ 0 → map_count next ≡ 1
  chosen_one_map none =
      let few : table.committed.pages < least_indexed = small table.committed.pages (sym follows.depth ∙ none) in
      let low = are_low next follows.fit in
      let within = low.within in
      let some = low.some in
      let pages = follows.pages in
      let most : capacity_pages next.pages ≤ 40 = few_pages next.pages (omega arith) in
      omega arith
    where
      small : (pages : ℕ) → depth_of pages ≡ 0 → pages < least_indexed
      small pages none = elim (cases_lt pages least_indexed) [
        | inl lt ↦ lt
        | inr past ↦ absurd (omega (arith, none, ap {B = ℕ} (λ (b : Bool). if b then 0 else 1) (le-ltb pages least_indexed past)))
      ]

  -- the table in which they are chosen
  module _ (new : MapView) (other : Table) (names_are : other.next.items ≡ items) (committed : new.committed ≡ table.map.committed) (pins : new.pins ≡ table.map.pins) (free : length new.free ≡ length table.map.free)
      (size : length new.staged ≡ length table.map.staged) (staged : (page : ℕ) → get_or new.staged page 0 ≡ next_number table.map (logical_of next) page) where
    planned : Table
    planned = record { committed = table.committed; map = new; named = table.named; next = other.next; pins = table.pins }

    spare_as : (page : ℕ) → IsSpare table page → IsSpare planned page
    unfolding planned
    spare_as page spare = record {
      unnamed_is = subst (λ (pages : List ℕ). is_free (unnamed table.committed.pages (map_names table.committed.depth table.named.items (map_count table.committed) ++ numbers_of (λ page. get_or pages page 0) (logical_of table.committed))) page ≡ true)
          (sym committed) spare.unnamed_is;
      unpinned = ap (λ (lists : List (List ℕ)). one_names lists page) pins ∙ spare.unpinned;
    }

    planned_maps : (map_page : ℕ) → map_page < map_count next → StaysMap planned next map_page ⊎ MovesMap planned next map_page
    unfolding planned
    planned_maps map_page lt =
        let number : maps_of other.next.items map_page ≡ maps_of items map_page = ap (λ (xs : List ℕ). maps_of xs map_page) names_are in
        elim (place map_page lt) [
          | inl moved ↦
              let spare = given_spare (maps_of items map_page) moved.1 in
              let apart = apart_spare table (maps_of items map_page) spare in
              inr (record {
                changed = changed_again table.map new (logical_of next) map_page committed staged ∙ moved.0;
                other = elim (cases_lt map_page (map_count table.committed)) [
                  | inl was ↦ λ same. apart.maps map_page was (sym same ∙ number)
                  | inr past ↦ λ same. let least = apart.low in absurd (omega (arith, same, number, is.bare.maps map_page past))
                ];
                spare = spare_as (maps_of other.next.items map_page) (subst (λ (n : ℕ). IsSpare table n) (sym number) spare);
              })
          | inr kept ↦ inl (record {
            same = number ∙ kept.2;
            was = kept.1;
            numbers = λ page here below.
                let index = page - 1024 * map_page in
                let page_is : 1024 * map_page + index ≡ page = omega arith in
                staged page
                ∙ same_by table.map (logical_of next) page (subst (λ (n : ℕ). differs table.map (logical_of next) n ≡ false) page_is (unchanged table.map (logical_of next) map_page index kept.0 (omega arith)))
                ∙ ap (λ (xs : List ℕ). get_or xs page 0) (sym committed);
          })
        ]

    planned_next : IsNext planned next
    unfolding planned
    planned_next = record {
      fit = is.fit;
      once = record {
        index = is.once.index;
        maps = is.once.maps;
        pages = subst (λ (pages : List ℕ). AreUnnamed table.committed.pages (map_names table.committed.depth table.named.items (map_count table.committed)) (λ page. get_or pages page 0) (logical_of table.committed)) (sym committed) is.once.pages;
        bare = λ page past. ap (λ (pages : List ℕ). get_or pages page 0) committed ∙ is.once.bare page past;
      };
      next_fit = follows.fit;
      pages_are = follows.pages;
      names = is.names;
      nexts = ap length names_are ∙ chosen.size ∙ is.names;
      staged = size ∙ is.lists ∙ is.logical;
      index_once = subst (λ (xs : List ℕ). AreUnnamed next.pages [] (index_of xs) next.depth) (sym names_are) chosen_index_once;
      maps_once = subst (λ (xs : List ℕ). AreUnnamed next.pages (numbers_of (index_of xs) next.depth) (maps_of xs) (map_count next)) (sym names_are) chosen_maps_once;
      pages_once = are_same next.pages (map_names next.depth other.next.items (map_count next)) (λ page. get_or table.map.staged page 0) (λ page. get_or new.staged page 0) (logical_of next)
          (λ page lt. sym (staged page ∙ next_below table.map (logical_of next) page lt))
          (subst (λ (xs : List ℕ). AreUnnamed next.pages (map_names next.depth xs (map_count next)) (λ page. get_or table.map.staged page 0) (logical_of next)) (sym names_are) chosen_pages_once);
      second = follows.second;
      format = follows.format;
      commits = follows.commits;
      one_map = chosen_one_map;
      bare = λ page past. staged page ∙ next_past table.map (logical_of next) page past;
      bare_names = record {
        index = λ none. ap (λ (xs : List ℕ). get_or xs 0 0) names_are ∙ chosen.bare_index none;
        maps = λ map_page past. ap (λ (xs : List ℕ). maps_of xs map_page) names_are ∙ chosen.bare map_page past;
      };
      free = free ∙ is.pages;
      pinned = λ page some pinned. subst (λ (xs : List ℕ). IsPinned next xs page) (sym names_are) (chosen_pinned page some (ap (λ (lists : List (List ℕ)). one_names lists page) (sym pins) ∙ pinned));
      pin_count = is.pin_count ∙ ap (λ (lists : List (List ℕ)). length lists) (sym pins);
      pins = λ pin lt. pin_same table planned (get_or new.pins pin []) (get_or table.pins.items pin None) refl refl committed
          (subst (λ (lists : List (List ℕ)). IsPin table (get_or lists pin []) (get_or table.pins.items pin None)) (sym pins) (is.pins pin (omega (arith, ap (λ (lists : List (List ℕ)). length lists) pins))));
      index = λ i lt. spare_as (index_of other.next.items i) (subst (λ (xs : List ℕ). IsSpare table (index_of xs i)) (sym names_are) (given_spare (index_of items i) (chosen.index i lt)));
      maps = planned_maps;
    }

    pub is_planned : IsPlanned table next (record { committed = table.committed; map = new; named = table.named; next = other.next; pins = table.pins })
    unfolding planned
    is_planned = record {
      ready = planned_next;
      says = λ image says. record {
        head = says.head;
        selected = says.selected;
        root = says.root;
        names = subst (λ (pages : List ℕ). HasNames table.committed table.named.items pages image) (sym committed) says.names;
      };
      committed = refl;
      lists = (committed, pins);
      pins = refl;
      staged = staged;
    }
