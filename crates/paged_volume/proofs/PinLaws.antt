-- What pins hold stays.
use Rattle.std.proofs.Common.{◌≡◌, ◌⊎◌, inl, inr, ℕ, zero, suc, ◌*◌, ◌<◌, ◌≤◌, Bool, true, false, not, ◌&&◌, ◌||◌, List, [], ◌∷◌, ◌++◌, length, map, get_or, slice_index, set, take, drop, replicate, refl, sym, ◌∙◌, ap, subst, arith, length-set, get_or-set_same, get_or-set_other, Option, Some, None}
use Rattle.std.proofs.Math.ListN.{get_or-map}
use Rattle.std.specs.List.{list_any}
use Rattle.std.specs.Option.{option_map}
use Rattle.std.proofs.lemmas.Bool.{cases_lt, cases_eq, both_ways, le-leb, leb-true, or_cases, or_left, or_right, false_from_ne_true}
use Rattle.std.proofs.lemmas.List.{same_lists, get_or_default, get_or-replicate, get_or_past, length-replicate}
use Rattle.std.proofs.lemmas.List.Folds.{list_any_at}
use Rattle.std.proofs.lemmas.Option.{same_Some}
use Rattle.ps_port.specs.ps_outside.Outside.{Outside, After}
use Rattle.page_map.specs.Pages.{is_free, may_be_free, names, one_names, no_pages}
use Rattle.page_map.specs.Map.{MapView, IsMap, list_names, with_pin, with_pins}
use Rattle.page_map.proofs.PageLaws.{is_free_where, length_where, within}
use Rattle.page_map.proofs.MapLaws.{one_names_set, one_names_no_pages}
use Rattle.volume_parts.specs.Holding.{Held}
use Rattle.volume_parts.specs.Calls.{StaysHeld}
use Rattle.paged_volume.specs.Layout.{capacity_pages, capacity_of}
use Rattle.paged_volume.specs.Found.{numbers_of, bytes_named}
use Rattle.paged_volume.specs.Standing.{IsTable, IsSpare, IsPinned, Says, held_in, with_zeros, map_names, logical_of, map_count, numbers_of_table, uses}
use Rattle.paged_volume.specs.Pinning.{pinned_list, outdated, NoneIsHeld, Pins, IsPin, pinned_bytes, pinned_in, KeepsPins}
use Rattle.paged_volume.specs.declared.pinned.Pinned.{Pinned}
use Rattle.paged_volume.specs.declared.table.Table.{Table}
use Rattle.paged_volume.proofs.Bounds.{are_low}
use Rattle.paged_volume.proofs.Numbers.{names_append, unnamed_low}
use Rattle.paged_volume.proofs.Tables.{names_nothing, names_at_index, names_number, named_at, none_names, and_both, both_or, or_both, is_not_unnamed, unnamed_is_not}
use Rattle.paged_volume.proofs.Held.{held_says, bytes_end, page_is}
use Rattle.paged_volume.proofs.Tests.{none_some}
use Rattle.paged_volume.proofs.Staying.{apart_spare, pinned_named}

-- what a pin holds is so in another table of as many pages with the same commit
pub pin_same : (old new : Table) (list : List ℕ) (held : Option Pinned) → new.committed.pages ≡ old.committed.pages → new.committed.note ≡ old.committed.note → new.map.committed ≡ old.map.committed → IsPin old list held → IsPin new list held
pin_same old new list None pages note committed is = is ∙ ap (λ (n : ℕ). replicate {A = ℕ} (capacity_pages n) 0) (sym pages)
pin_same old new list (Some held) pages note committed is = record {
  some = is.some;
  within = subst (λ (n : ℕ). held.note.used ≤ capacity_of n) (sym pages) is.within;
  below = is.below;
  pages = is.pages;
  last = λ current. let last = is.last current in (last.0 ∙ sym committed, last.1 ∙ sym note);
}

-- and after another commit
pub pin_outdated : (old new : Table) (list : List ℕ) (held : Option Pinned) → new.committed.pages ≡ old.committed.pages → IsPin old list held → IsPin new list (outdated held)
pin_outdated old new list None pages is = is ∙ ap (λ (n : ℕ). replicate {A = ℕ} (capacity_pages n) 0) (sym pages)
pin_outdated old new list (Some held) pages is = record {
  some = is.some;
  within = subst (λ (n : ℕ). held.note.used ≤ capacity_of n) (sym pages) is.within;
  below = is.below;
  pages = is.pages;
  last = λ current. absurd (both_ways false refl current);
}

pub pin_of_outdated : (pins : List (Option Pinned)) (pin : ℕ) → get_or (map outdated pins) pin None ≡ outdated (get_or pins pin None)
pin_of_outdated pins pin = get_or-map outdated pins pin None

-- what is seen through a pin goes by its note and its bytes
seen_outdated : (held : Option Pinned) (bytes : List ℕ) → option_map {U = Held} (λ (p : Pinned). record { note = p.note; bytes = bytes }) (outdated held) ≡ option_map {U = Held} (λ (p : Pinned). record { note = p.note; bytes = bytes }) held
seen_outdated None bytes = refl
seen_outdated (Some held) bytes = refl

-- calls over which the pages that pins hold stand as they did
module _ (a b : Outside (List ℕ)) (old new : Table) (same : (pin : ℕ) (x y : List ℕ) → pinned_bytes new pin y ≡ pinned_bytes old pin x → pinned_in new pin y ≡ pinned_in old pin x)
    (from : (y : List ℕ) → b.contents y → After a.contents (λ x y. (pin : ℕ) → pinned_bytes new pin y ≡ pinned_bytes old pin x) y) where
  pub keeps_pins : ((x y : List ℕ) → a.contents x → a.contents y → x ≡ y) → StaysHeld a b → KeepsPins old new a b
  keeps_pins one stays = record {
    kept = λ pin held was.
        let now = stays was.from was.was in
        let back = from now.0 now.1 in
        record {
          from = now.0;
          was = now.1;
          by = same pin back.from now.0 (back.by pin) ∙ ap (λ (x : List ℕ). pinned_in old pin x) (one back.from was.from back.was was.was) ∙ was.by;
        };
    no_other = λ pin held now.
        let back = from now.from now.was in
        record { from = back.from; was = back.was; by = sym (same pin back.from now.from (back.by pin)) ∙ now.by };
  }

pub same_pins : (old new : Table) → new.pins.items ≡ old.pins.items → (pin : ℕ) (x y : List ℕ) → pinned_bytes new pin y ≡ pinned_bytes old pin x → pinned_in new pin y ≡ pinned_in old pin x
same_pins old new pins pin x y bytes = (λ i. option_map {U = Held} (λ (p : Pinned). record { note = p.note; bytes = bytes i }) (get_or (pins i) pin None))

pub outdated_pins : (old new : Table) → new.pins.items ≡ map outdated old.pins.items → (pin : ℕ) (x y : List ℕ) → pinned_bytes new pin y ≡ pinned_bytes old pin x → pinned_in new pin y ≡ pinned_in old pin x
outdated_pins old new pins pin x y bytes =
    (λ i. option_map {U = Held} (λ (p : Pinned). record { note = p.note; bytes = bytes i }) (get_or (pins i) pin None))
    ∙ ap (λ (o : Option Pinned). option_map {U = Held} (λ (p : Pinned). record { note = p.note; bytes = pinned_bytes old pin x }) o) (pin_of_outdated old.pins.items pin)
    ∙ seen_outdated (get_or old.pins.items pin None) (pinned_bytes old pin x)

pub pinned_as : (table other : Table) (pin : ℕ) (image : List ℕ) → other.committed.pages ≡ table.committed.pages → other.map.pins ≡ table.map.pins → pinned_bytes other pin image ≡ pinned_bytes table pin image
unfolding pinned_bytes
pinned_as table other pin image pages pins = (λ i. bytes_named (λ page. get_or (get_or (pins i) pin []) page 0) (capacity_pages (pages i)) image)

-- a page that one of the lists names is named by the one that is given up, or by one of those that stay
one_names_kept : (lists : List (List ℕ)) (place : ℕ) (list : List ℕ) (page : ℕ) → one_names lists page ≡ true → names (get_or lists place []) page ≡ false → one_names (set lists place list) page ≡ true
unfolding one_names
one_names_kept [] place list page named none = absurd (both_ways false refl named)
one_names_kept (xs ∷ rest) zero list page named none = elim (or_cases (names xs page) (list_any (λ ys. names ys page) rest) named) [
  | inl first ↦ absurd (both_ways (names xs page) none first)
  | inr more ↦ or_right (names list page) (list_any (λ ys. names ys page) rest) more
]
one_names_kept (xs ∷ rest) (suc place) list page named none = elim (or_cases (names xs page) (list_any (λ ys. names ys page) rest) named) [
  | inl first ↦ or_left (names xs page) (list_any (λ ys. names ys page) (set rest place list)) first
  | inr more ↦ or_right (names xs page) (list_any (λ ys. names ys page) (set rest place list)) (one_names_kept rest place list page more none)
]

one_names_at : (lists : List (List ℕ)) (place page : ℕ) → names (get_or lists place []) page ≡ true → one_names lists page ≡ true
unfolding one_names
one_names_at lists place page named = elim (cases_lt place (length lists)) [
  | inl lt ↦ list_any_at (λ (xs : List ℕ). names xs page) lists place [] lt named
  | inr past ↦ absurd (both_ways (names [] page) (names_nothing page) (subst (λ (xs : List ℕ). names xs page ≡ true) (get_or_past lists place [] past) named))
]

-- a page of what is committed
module _ (table : Table) (is : IsTable table) (page : ℕ) (four : 4 ≤ page) where
  committed_at : names table.map.committed page ≡ true → (i : ℕ) × (i < logical_of table.committed) × (get_or table.map.committed i 0 ≡ page)
  committed_at named =
      let at = named_at table.map.committed page named in
      let number = at.is in
      elim (cases_lt at.index (logical_of table.committed)) [
        | inl lt ↦ (at.index, lt, number)
        | inr past ↦ absurd (omega (arith, is.once.bare at.index past))
      ]

  pub committed_used : names table.map.committed page ≡ true → names (numbers_of_table table) page ≡ true
  committed_used named =
      let at = committed_at named in
      let before = map_names table.committed.depth table.named.items (map_count table.committed) in
      let pages = numbers_of (λ k. get_or table.map.committed k 0) (logical_of table.committed) in
      names_append before pages page ∙ or_right (names before page) (names pages page) (subst (λ (n : ℕ). names pages n ≡ true) at.2 (names_number (λ k. get_or table.map.committed k 0) (logical_of table.committed) at.0 at.1))

  spare_uncommitted : IsSpare table page → names table.map.committed page ≡ true → ⊥
  spare_uncommitted spare named = let at = committed_at named in (apart_spare table page spare).pages at.0 at.1 at.2

  committed_pinned : names table.map.committed page ≡ true → IsPinned table.committed table.named.items page
  committed_pinned named =
      let at = committed_at named in
      let before = map_names table.committed.depth table.named.items (map_count table.committed) in
      let number = at.2 in
      let low = unnamed_low table.committed.pages _ (get_or table.map.committed at.0 0) (is.once.pages at.0 at.1) in
      let none = unnamed_is_not table.committed.pages _ (get_or table.map.committed at.0 0) (is.once.pages at.0 at.1) in
      record {
        low = four;
        high = omega (arith, low.1, number);
        unmapped = subst (λ (n : ℕ). names before n ≡ false) at.2
            (both_or _ _ (sym (names_append before (numbers_of (λ k. get_or table.map.committed k 0) at.0) (get_or table.map.committed at.0 0)) ∙ none)).0;
      }

-- a pin holds another list, of pages that are committed
module _ (table other : Table) (pin : ℕ) (list : List ℕ) (held : Option Pinned) (is : IsTable table) (sound : IsMap table.map) (below : pin < length table.pins.items)
    (known : (page : ℕ) → 1 ≤ page → names list page ≡ true → names table.map.committed page ≡ true) (pins_are : other.pins.items ≡ set table.pins.items pin held) where
  repinned : Table
  repinned = record { committed = table.committed; map = with_pin table.map pin list; named = table.named; next = table.next; pins = other.pins }

  lists : List (List ℕ)
  lists = set table.map.pins pin list

  now : MapView
  now = record (table.map) { pins = set table.map.pins pin list }

  frees : ℕ → Bool
  frees page = is_free table.map.free page || (may_be_free page && (names (get_or table.map.pins pin []) page && not (list_names now page)))

  is_frees : (page : ℕ) → page < table.committed.pages → is_free (with_pin table.map pin list).free page ≡ frees page
  unfolding frees now
  is_frees page lt = let size = is.pages in is_free_where (length table.map.free) frees page (omega arith)

  -- a page that may be written still may be
  still_spare : (page : ℕ) → IsSpare table page → one_names (set table.map.pins pin list) page ≡ false
  still_spare page spare =
      let four = (apart_spare table page spare).low in
      false_from_ne_true (one_names (set table.map.pins pin list) page) (λ named. elim (one_names_set table.map.pins pin list page named) [
        | inl this ↦ spare_uncommitted table is page four spare (known page (omega arith) this)
        | inr old ↦ both_ways (one_names table.map.pins page) spare.unpinned old
      ])

  spare_again : (page : ℕ) → IsSpare table page → IsSpare repinned page
  unfolding repinned
  spare_again page spare = record { unnamed_is = spare.unnamed_is; unpinned = still_spare page spare }

  -- a page that was given up may be written
  given_up : (page : ℕ) → names (get_or table.map.pins pin []) page ≡ true → 1 ≤ page → list_names now page ≡ false → IsSpare repinned page
  unfolding repinned now
  given_up page given some unnamed =
      let pinned = is.pinned page some (one_names_at table.map.pins pin page given) in
      let none = both_or (names table.map.committed page) (names table.map.staged page || one_names (set table.map.pins pin list) page) unnamed in
      let before = map_names table.committed.depth table.named.items (map_count table.committed) in
      let pages = numbers_of (λ k. get_or table.map.committed k 0) (logical_of table.committed) in
      let low = are_low table.committed is.fit in
      let within = low.within in
      let size = is.logical in
      record {
        unnamed_is = is_not_unnamed table.committed.pages (before ++ pages) page pinned.low pinned.high
            (names_append before pages page ∙ or_both (names before page) (names pages page) pinned.unmapped
            (none_names (λ k. get_or table.map.committed k 0) (logical_of table.committed) page
            (λ i lt same. both_ways (names table.map.committed page) none.0 (subst (λ (n : ℕ). names table.map.committed n ≡ true) same (names_at_index table.map.committed i (omega arith))))));
        unpinned = (both_or (names table.map.staged page) (one_names (set table.map.pins pin list) page) none.1).1;
      }

  free_again : (page : ℕ) → is_free (with_pin table.map pin list).free page ≡ true → IsSpare repinned page
  unfolding frees now
  free_again page free =
      let size = is.pages in
      let inside : page < length table.map.free = omega (arith, within (with_pin table.map pin list).free page free, length_where (length table.map.free) frees) in
      elim (or_cases (is_free table.map.free page) (may_be_free page && (names (get_or table.map.pins pin []) page && not (list_names now page))) (sym (is_frees page (omega arith)) ∙ free)) [
        | inl old ↦ spare_again page (is.held page old)
        | inr given ↦
            let both = and_both (may_be_free page) (names (get_or table.map.pins pin []) page && not (list_names now page)) given in
            let more = and_both (names (get_or table.map.pins pin []) page) (not (list_names now page)) both.1 in
            let four = leb-true 4 page both.0 in
            given_up page more.0 (omega arith) (not_true (list_names now page) more.1)
      ]
    where
      not_true : (b : Bool) → not b ≡ true → b ≡ false
      not_true true e = sym e
      not_true false e = refl

  -- a page that is in use is still named
  used_named : (page : ℕ) → 4 ≤ page → frees page ≡ false → one_names table.map.pins page ≡ true → (list_names now page ≡ true) ⊎ (one_names (set table.map.pins pin list) page ≡ true)
  unfolding frees now
  used_named page four taken pinned = by (list_names now page) refl
    where
      not_given : (may given named : Bool) → may ≡ true → named ≡ false → (may && (given && not named)) ≡ false → given ≡ false
      not_given true true false e f g = absurd (both_ways true g refl)
      not_given true true true e f g = absurd (both_ways true f refl)
      not_given true false named e f g = refl
      not_given false given named e f g = absurd (both_ways false refl e)

      by : (b : Bool) → list_names now page ≡ b → (list_names now page ≡ true) ⊎ (one_names (set table.map.pins pin list) page ≡ true)
      by true e = inl e
      by false e =
          let none = (both_or (is_free table.map.free page) (may_be_free page && (names (get_or table.map.pins pin []) page && not (list_names now page))) taken).1 in
          inr (one_names_kept table.map.pins pin list page pinned (not_given (may_be_free page) (names (get_or table.map.pins pin []) page) (list_names now page) (le-leb 4 page four) e none))

  used_again : (page : ℕ) → 4 ≤ page → page < table.committed.pages → is_free (with_pin table.map pin list).free page ≡ false → uses repinned page ≡ true
  unfolding repinned frees now
  used_again page four high taken =
      let fails = sym (is_frees page high) ∙ taken in
      let old = (both_or (is_free table.map.free page) (may_be_free page && (names (get_or table.map.pins pin []) page && not (list_names now page))) fails).0 in
      let committed = names (numbers_of_table table) page in
      let staged = names table.map.staged page in
      let pinned = one_names (set table.map.pins pin list) page in
      elim (or_cases committed (staged || one_names table.map.pins page) (is.used page four high old)) [
        | inl one ↦ or_left committed (staged || pinned) one
        | inr more ↦ elim (or_cases staged (one_names table.map.pins page) more) [
          | inl two ↦ or_right committed (staged || pinned) (or_left staged pinned two)
          | inr three ↦ elim (used_named page four fails three) [
            | inr still ↦ or_right committed (staged || pinned) (or_right staged pinned still)
            | inl named ↦ elim (or_cases (names table.map.committed page) (staged || pinned) named) [
              | inl one ↦ or_left committed (staged || pinned) (committed_used table is page four one)
              | inr rest ↦ or_right committed (staged || pinned) rest
            ]
          ]
        ]
      ]

  pinned_again : (page : ℕ) → 1 ≤ page → one_names (set table.map.pins pin list) page ≡ true → IsPinned table.committed table.named.items page
  pinned_again page some named = elim (one_names_set table.map.pins pin list page named) [
    | inl this ↦
        let committed = known page some this in
        let four = (sound.named page some (or_left (names table.map.committed page) (names table.map.staged page || one_names table.map.pins page) committed)).above in
        committed_pinned table is page four committed
    | inr old ↦ is.pinned page some old
  ]

  pub repinned_table : IsPin (record { committed = table.committed; map = with_pin table.map pin list; named = table.named; next = table.next; pins = other.pins }) list held →
      IsTable (record { committed = table.committed; map = with_pin table.map pin list; named = table.named; next = table.next; pins = other.pins })
  unfolding repinned now
  repinned_table holds =
      let count = is.pin_count in
      record {
        fit = is.fit;
        commits = is.commits;
        logical = is.logical;
        lists = is.lists;
        pages = length_where (length table.map.free) _ ∙ is.pages;
        names = is.names;
        nexts = is.nexts;
        once = record { index = is.once.index; maps = is.once.maps; pages = is.once.pages; bare = is.once.bare };
        bare = is.bare;
        held = free_again;
        used = used_again;
        pinned = pinned_again;
        pin_count = ap (λ (xs : List (Option Pinned)). length xs) pins_are ∙ length-set table.pins.items pin held ∙ is.pin_count ∙ sym (length-set table.map.pins pin list);
        pins = λ place lt. elim (cases_eq place pin) [
          | inl same ↦
              subst (λ (k : ℕ). IsPin repinned (get_or (set table.map.pins pin list) k []) (get_or other.pins.items k None)) (sym same)
              (subst (λ (xs : List ℕ). IsPin repinned xs (get_or other.pins.items pin None)) (sym (get_or-set_same table.map.pins pin list [] (omega arith)))
              (subst (λ (o : Option Pinned). IsPin repinned list o) (sym (ap (λ (xs : List (Option Pinned)). get_or xs pin None) pins_are ∙ get_or-set_same table.pins.items pin held None below)) holds))
          | inr apart ↦
              subst (λ (xs : List ℕ). IsPin repinned xs (get_or other.pins.items place None)) (sym (get_or-set_other table.map.pins pin place list [] apart))
              (subst (λ (o : Option Pinned). IsPin repinned (get_or table.map.pins place []) o) (sym (ap (λ (xs : List (Option Pinned)). get_or xs place None) pins_are ∙ get_or-set_other table.pins.items pin place held None apart))
              (pin_same table repinned (get_or table.map.pins place []) (get_or table.pins.items place None) refl refl refl (is.pins place (omega (arith, length-set table.map.pins pin list)))))
        ];
        apart = is.apart;
        staged = λ page. elim (is.staged page) [ inl same ↦ inl same | inr spare ↦ inr (spare_again (get_or table.map.staged page 0) spare) ];
      }

-- what is committed is a commit
pub commit_is : (table other : Table) → IsTable table → other.committed.pages ≡ table.committed.pages → other.committed.note ≡ table.committed.note → other.map.committed ≡ table.map.committed →
    IsPin other table.map.committed (Some (record { note = table.committed.note; current = true }))
commit_is table other is pages note committed = record {
  some = is.fit.some;
  within = subst (λ (n : ℕ). table.committed.note.used ≤ capacity_of n) (sym pages) is.fit.within;
  below = is.fit.below;
  pages = λ page lt. let low = unnamed_low table.committed.pages _ (get_or table.map.committed page 0) (is.once.pages page lt) in omega (arith, low.0);
  last = λ current. (sym committed, sym note);
}

-- other pins are reserved
module _ (table other : Table) (count : ℕ) (is : IsTable table) (none : NoneIsHeld table) (pins_are : other.pins.items ≡ replicate count None) where
  -- where none is held each list names no page
  pub none_pinned : table.map.pins ≡ replicate (length table.map.pins) (no_pages (length table.map.committed))
  none_pinned = same_lists table.map.pins (replicate (length table.map.pins) (no_pages (length table.map.committed))) (sym (length-replicate (length table.map.pins) (no_pages (length table.map.committed))))
      (λ k d lt.
      get_or_default table.map.pins k d [] lt
      ∙ subst (λ (o : Option Pinned). IsPin table (get_or table.map.pins k []) o) (none k) (is.pins k lt)
      ∙ ap (λ (n : ℕ). no_pages n) (sym is.logical)
      ∙ sym (get_or-replicate (length table.map.pins) k (no_pages (length table.map.committed)) d lt))

  unpinned : (page : ℕ) → 1 ≤ page → one_names table.map.pins page ≡ false
  unpinned page some = ap (λ (lists : List (List ℕ)). one_names lists page) none_pinned ∙ one_names_no_pages (length table.map.pins) (length table.map.committed) page some

  reserved : Table
  reserved = record { committed = table.committed; map = with_pins table.map (replicate count (no_pages (length table.map.committed))); named = table.named; next = table.next; pins = other.pins }

  spare_reserved : (page : ℕ) → IsSpare table page → IsSpare reserved page
  unfolding reserved
  spare_reserved page spare =
      let four = (apart_spare table page spare).low in
      record { unnamed_is = spare.unnamed_is; unpinned = one_names_no_pages count (length table.map.committed) page (omega arith) }

  pub reserved_table : IsTable (record { committed = table.committed; map = with_pins table.map (replicate count (no_pages (length table.map.committed))); named = table.named; next = table.next; pins = other.pins })
  unfolding reserved
  reserved_table = record {
    fit = is.fit;
    commits = is.commits;
    logical = is.logical;
    lists = is.lists;
    pages = is.pages;
    names = is.names;
    nexts = is.nexts;
    once = record { index = is.once.index; maps = is.once.maps; pages = is.once.pages; bare = is.once.bare };
    bare = is.bare;
    held = λ page free. spare_reserved page (is.held page free);
    used = λ page four high taken.
        let committed = names (numbers_of_table table) page in
        let staged = names table.map.staged page in
        let pinned = one_names (replicate count (no_pages (length table.map.committed))) page in
        elim (or_cases committed (staged || one_names table.map.pins page) (is.used page four high taken)) [
          | inl one ↦ or_left committed (staged || pinned) one
          | inr more ↦ elim (or_cases staged (one_names table.map.pins page) more) [
            | inl two ↦ or_right committed (staged || pinned) (or_left staged pinned two)
            | inr three ↦ absurd (both_ways (one_names table.map.pins page) (unpinned page (omega arith)) three)
          ]
        ];
    pinned = λ page some pinned. absurd (both_ways (one_names (replicate count (no_pages (length table.map.committed))) page) (one_names_no_pages count (length table.map.committed) page some) pinned);
    pin_count = ap (λ (xs : List (Option Pinned)). length xs) pins_are ∙ length-replicate count None ∙ sym (length-replicate count (no_pages (length table.map.committed)));
    pins = λ pin lt.
        let below : pin < count = omega (arith, length-replicate count (no_pages (length table.map.committed))) in
        subst (λ (o : Option Pinned). IsPin reserved (get_or (replicate count (no_pages (length table.map.committed))) pin []) o) (sym (ap (λ (xs : List (Option Pinned)). get_or xs pin None) pins_are ∙ get_or-replicate count pin None None below))
        (get_or-replicate count pin (no_pages (length table.map.committed)) [] below ∙ ap (λ (n : ℕ). no_pages n) is.logical);
    apart = is.apart;
    staged = λ page. elim (is.staged page) [ inl same ↦ inl same | inr spare ↦ inr (spare_reserved (get_or table.map.staged page 0) spare) ];
  }

-- what is seen through a pin that holds what is committed
pub pinned_committed : (table new : Table) (pin : ℕ) (image : List ℕ) → IsTable table → Pins pin table new → Says table image → option_map (with_zeros table.committed.pages) (held_in image) ≡ pinned_in new pin image
unfolding pinned_bytes
pinned_committed table new pin image is pins says =
    let low = are_low table.committed is.fit in
    let number = λ (page : ℕ). get_or table.map.committed page 0 in
    ap (λ (o : Option Held). option_map (with_zeros table.committed.pages) o) (held_says table image is.fit is.once says)
    ∙ ap (λ (xs : List ℕ). Some (record { note = table.committed.note; bytes = xs })) (sym (bytes_end number (logical_of table.committed) (capacity_pages table.committed.pages) image low.within is.once.bare))
    ∙ sym (ap (λ (o : Option Pinned). option_map {U = Held} (λ (p : Pinned). record { note = p.note; bytes = bytes_named (slice_index (pinned_list new pin)) (capacity_pages new.committed.pages) image }) o) pins.here
    ∙ (λ i. Some (record { note = table.committed.note; bytes = bytes_named (slice_index (pins.list_is i)) (capacity_pages (pins.committed i).pages) image })))

-- the bytes that are seen through a pin
pub bytes_pinned : (held : Option Pinned) (bytes : List ℕ) (found : Held) → option_map {U = Held} (λ (p : Pinned). record { note = p.note; bytes = bytes }) held ≡ Some found → bytes ≡ found.bytes
bytes_pinned None bytes found e = none_some (sym e)
bytes_pinned (Some held) bytes found e = ap (λ (h : Held). h.bytes) (same_Some (record { note = held.note; bytes = bytes }) found e)

-- the page of a pin
pub pinned_low : (table : Table) (pin page : ℕ) → IsTable table → get_or (get_or table.map.pins pin []) page 0 < table.committed.pages
pinned_low table pin page is = elim (cases_lt 0 (get_or (get_or table.map.pins pin []) page 0)) [
  | inl some ↦ (is.pinned (get_or (get_or table.map.pins pin []) page 0) (omega arith) (pinned_named table.map.pins pin page (λ none. absurd (omega arith)))).high
  | inr none ↦ let least = is.fit.head.least in omega arith
]

pub pinned_page : (table : Table) (pin page n pages : ℕ) (into image : List ℕ) → n ≡ get_or (get_or table.map.pins pin []) page 0 → page < capacity_pages table.committed.pages → n < pages → 4096 * pages ≤ length image → (n ≡ 0 → into ≡ replicate {A = ℕ} 4096 0) →
    (1 ≤ n → into ≡ take 4096 (drop (4096 * n) image)) → into ≡ take 4096 (drop (4096 * page) (pinned_bytes table pin image))
unfolding pinned_bytes
pinned_page table pin page n pages into image number_is below low long zeros read =
    page_is (λ (k : ℕ). get_or (get_or table.map.pins pin []) k 0) (capacity_pages table.committed.pages) image page n pages into number_is below low long zeros read
