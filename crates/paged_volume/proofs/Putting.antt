-- What putting a page leaves.
use Rattle.std.proofs.Common.{◌≡◌, ◌≢◌, ◌⊎◌, inl, inr, ℕ, ◌+◌, ◌*◌, ◌/◌, ◌%◌, ◌<◌, ◌≤◌, Bool, true, false, not, ◌&&◌, ◌||◌, List, [], None, length, get_or, set, refl, sym, ◌∙◌, ap, subst, arith, length-set, length-drop, length-take, get_or-set_same, get_or-set_other, Option, Some, None, Result}
use Rattle.std.specs.Option.{option_map}
use Rattle.std.proofs.lemmas.Bool.{cases_lt, cases_eq, ne_eqb, both_ways, or_cases, or_left, or_right}
use Rattle.std.proofs.lemmas.Grind.{same_number_lists}
use Rattle.std.proofs.lemmas.List.{get_or_past}
use Rattle.ps_port.specs.ps_outside.Outside.{Outside, Leaves, LeavesSame, After, IsDeviceCall}
use Rattle.ps_port.specs.Disk.{Torn, Written, written, IsOutside}
use Rattle.ps_port.specs.DiskLaws.{written_elsewhere, written_torn, length-written}
use Rattle.ps_port.proofs.of_ps_outside.Moments.{along_as, along_now}
use Rattle.page_map.specs.Pages.{is_free, names, one_names}
use Rattle.page_map.specs.Map.{MapView, IsMap, with_staged}
use Rattle.page_map.proofs.PageLaws.{is_free_taken, and_true}
use Rattle.volume_parts.specs.Holding.{Held}
use Rattle.volume_parts.proofs.Gate.{written_inside}
use Rattle.paged_volume.specs.Layout.{capacity_pages}
use Rattle.paged_volume.specs.Found.{byte_named, bytes_named, numbers_of}
use Rattle.paged_volume.specs.Standing.{IsAlive, IsTable, IsSpare, Says, map_names, logical_of, map_count, numbers_of_table, uses, held_in, staged_in, staged_bytes, seen}
use Rattle.paged_volume.specs.Pinning.{pinned_bytes, KeepsPins}
use Rattle.paged_volume.specs.Staging.{IsPlace, again, given, with_page, Marks, Stages}
use Rattle.paged_volume.specs.declared.table.Table.{Table}
use Rattle.paged_volume.proofs.Numbers.{names_append}
use Rattle.paged_volume.proofs.Tables.{names_at_index, names_number, named_at, and_both, both_or, staged_low}
use Rattle.paged_volume.proofs.Held.{length_bytes, byte_at, byte_none, byte_some, byte_same}
use Rattle.paged_volume.proofs.Staying.{IsApart, apart_spare, apart_page, pinned_torn, not_pinned, says_stays, held_stays}
use Rattle.paged_volume.proofs.PinLaws.{pin_same, same_pins, keeps_pins, pinned_as}

-- a logical page is put in a page that may be written, and no other logical page has it
pub record IsPut (table : Table) (page number : ℕ) (next : MapView) : Type 0 where
  pub spare : IsSpare table number
  pub alone : (other : ℕ) → other ≢ page → get_or table.map.staged other 0 ≢ number
  pub long : length next.free ≡ length table.map.free
  pub frees : (page : ℕ) → is_free next.free page ≡ true → is_free table.map.free page ≡ true
  pub takes : (page : ℕ) → is_free next.free page ≡ false → (number ≡ page) ⊎ (is_free table.map.free page ≡ false)
  pub was : (get_or table.map.staged page 0 ≡ get_or table.map.committed page 0) ⊎ ((get_or table.map.staged page 0 ≡ 0) ⊎ (get_or table.map.staged page 0 ≡ number))
  pub next_is : next ≡ record (table.map) { staged = set table.map.staged page number; free = next.free }

-- finding a place changes neither what is committed nor what pins hold
pub place_lists : (old new : MapView) (page number : ℕ) → IsPlace old new page number → (new.committed ≡ old.committed) × (new.pins ≡ old.pins)
place_lists old new page number (again staged other some taken same) = (ap (λ (m : MapView). m.committed) same, ap (λ (m : MapView). m.pins) same)
place_lists old new page number (given unstaged free unnamed taken same) = (ap (λ (m : MapView). m.committed) same, ap (λ (m : MapView). m.pins) same)

pub is_put : (table : Table) (between : MapView) (page number : ℕ) → IsTable table → IsPlace table.map between page number → IsPut table page number (with_staged between page number)
is_put table between page number is (again staged other some taken same) =
    subst (λ (m : MapView). IsPut table page number (with_staged m page number)) (sym same) (record {
      spare = by (is.staged page);
      alone = λ one differs e. elim (cases_lt one (length table.map.staged)) [
        | inl lt ↦ elim (cases_lt page (length table.map.staged)) [
          | inl there ↦ differs (is.apart one page lt there (e ∙ sym staged) (omega arith))
          | inr past ↦ let none = get_or_past table.map.staged page 0 past in absurd (omega arith)
        ]
        | inr past ↦ let none = get_or_past table.map.staged one 0 past in absurd (omega arith)
      ];
      long = refl;
      frees = λ p free. free;
      takes = λ p taken. inr taken;
      was = inr (inr staged);
      next_is = refl;
    })
  where
    by : (get_or table.map.staged page 0 ≡ get_or table.map.committed page 0) ⊎ IsSpare table (get_or table.map.staged page 0) → IsSpare table number
    by (inl committed) = absurd (other (sym staged ∙ committed))
    by (inr spare) = subst (λ (n : ℕ). IsSpare table n) staged spare
is_put table between page number is (given unstaged free unnamed taken same) =
    subst (λ (m : MapView). IsPut table page number (with_staged m page number)) (sym same) (record {
      spare = is.held number free;
      alone = λ one differs e. elim (cases_lt one (length table.map.staged)) [
        | inl lt ↦
            let none = (both_or (names table.map.staged number) _ (both_or (names table.map.committed number) _ unnamed).1).0 in
            both_ways (names table.map.staged number) none (subst (λ (n : ℕ). names table.map.staged n ≡ true) e (names_at_index table.map.staged one lt))
        | inr past ↦ let none = get_or_past table.map.staged one 0 past in let low = (apart_spare table number (is.held number free)).low in absurd (omega arith)
      ];
      long = length-set table.map.free number false;
      frees = λ p still. (and_both (is_free table.map.free p) _ (sym (is_free_taken table.map.free number p) ∙ still)).0;
      takes = λ p in_use. elim (cases_eq number p) [
        | inl same ↦ inl same
        | inr other ↦ inr (sym (and_true (is_free table.map.free p)) ∙ sym (ap (λ (b : Bool). is_free table.map.free p && not b) (ne_eqb number p other)) ∙ sym (is_free_taken table.map.free number p) ∙ in_use)
      ];
      was = elim unstaged [ inl same ↦ inl same | inr none ↦ inr (inl none) ];
      next_is = refl;
    })

outside_page : (k page : ℕ) (from : List ℕ) → length from ≡ 4096 → k / 4096 ≢ page → IsOutside (4096 * page) (length from) k
outside_page k page from size differs = elim (cases_lt (k / 4096) page) [
  | inl before ↦ inl (omega arith)
  | inr behind ↦ elim (cases_lt page (k / 4096)) [ inl after ↦ inr (omega arith) | inr same ↦ absurd (differs (omega arith)) ]
]

module _ (table : Table) (page number : ℕ) (next : MapView) (is : IsTable table) (below : page < length table.map.staged) (put : IsPut table page number next) where
  low : 4 ≤ number
  low = (apart_spare table number put.spare).low

  after : Table
  after = record { committed = table.committed; map = record (table.map) { staged = set table.map.staged page number; free = next.free }; named = table.named; next = table.next; pins = table.pins }

  number_here : get_or (set table.map.staged page number) page 0 ≡ number
  number_here = get_or-set_same table.map.staged page number 0 below

  number_there : (other : ℕ) → other ≢ page → get_or (set table.map.staged page number) other 0 ≡ get_or table.map.staged other 0
  number_there other differs = get_or-set_other table.map.staged page other number 0 differs

  spare_after : (p : ℕ) → IsSpare table p → IsSpare after p
  unfolding after
  spare_after p spare = record { unnamed_is = spare.unnamed_is; unpinned = spare.unpinned }

  staged_after : (p : ℕ) → (get_or (set table.map.staged page number) p 0 ≡ get_or table.map.committed p 0) ⊎ IsSpare after (get_or (set table.map.staged page number) p 0)
  staged_after p = elim (cases_eq p page) [
    | inl same ↦ inr (subst (λ (n : ℕ). IsSpare after n) (sym (ap (λ (k : ℕ). get_or (set table.map.staged page number) k 0) same ∙ number_here)) (spare_after number put.spare))
    | inr differs ↦ elim (is.staged p) [
      | inl committed ↦ inl (number_there p differs ∙ committed)
      | inr spare ↦ inr (subst (λ (n : ℕ). IsSpare after n) (sym (number_there p differs)) (spare_after (get_or table.map.staged p 0) spare))
    ]
  ]

  apart_after : (one other : ℕ) → one < length table.map.staged → other < length table.map.staged → get_or (set table.map.staged page number) one 0 ≡ get_or (set table.map.staged page number) other 0 →
      1 ≤ get_or (set table.map.staged page number) one 0 → one ≡ other
  apart_after one other lt also same some = elim (cases_eq one page) [
    | inl here ↦ elim (cases_eq other page) [
      | inl there ↦ here ∙ sym there
      | inr differs ↦ absurd (put.alone other differs (sym (number_there other differs) ∙ sym same ∙ ap (λ (k : ℕ). get_or (set table.map.staged page number) k 0) here ∙ number_here))
    ]
    | inr differs ↦ elim (cases_eq other page) [
      | inl there ↦ absurd (put.alone one differs (sym (number_there one differs) ∙ same ∙ ap (λ (k : ℕ). get_or (set table.map.staged page number) k 0) there ∙ number_here))
      | inr also_differs ↦ is.apart one other lt also (sym (number_there one differs) ∙ same ∙ number_there other also_differs) (omega (arith, number_there one differs))
    ]
  ]

  named_after : names (set table.map.staged page number) number ≡ true
  named_after = subst (λ (n : ℕ). names (set table.map.staged page number) n ≡ true) number_here (names_at_index (set table.map.staged page number) page (omega (arith, length-set table.map.staged page number)))

  -- a page that is staged is so afterwards, or it is committed
  staged_still : (p : ℕ) → 4 ≤ p → names table.map.staged p ≡ true → (names (set table.map.staged page number) p ≡ true) ⊎ (names (numbers_of_table table) p ≡ true)
  staged_still p four staged =
      let at = named_at table.map.staged p staged in
      let below_at = at.below in
      elim (cases_eq at.index page) [
        | inr differs ↦ inl (subst (λ (n : ℕ). names (set table.map.staged page number) n ≡ true) (number_there at.index differs ∙ at.is)
            (names_at_index (set table.map.staged page number) at.index (omega (arith, length-set table.map.staged page number))))
        | inl here ↦
            let is_page : get_or table.map.staged page 0 ≡ p = ap (λ (k : ℕ). get_or table.map.staged k 0) (sym here) ∙ at.is in
            elim put.was [
              | inl same ↦
                  let committed : get_or table.map.committed page 0 ≡ p = sym same ∙ is_page in
                  elim (cases_lt page (logical_of table.committed)) [
                    | inl lt ↦
                        let before = map_names table.committed.depth table.named.items (map_count table.committed) in
                        let pages = numbers_of (λ k. get_or table.map.committed k 0) (logical_of table.committed) in
                        inr (names_append before pages p ∙ or_right (names before p) (names pages p)
                        (subst (λ (n : ℕ). names pages n ≡ true) committed (names_number (λ k. get_or table.map.committed k 0) (logical_of table.committed) page lt)))
                    | inr past ↦ absurd (omega (arith, is.once.bare page past))
                  ]
              | inr other ↦ elim other [
                | inl none ↦ absurd (omega arith)
                | inr own ↦ inl (subst (λ (n : ℕ). names (set table.map.staged page number) n ≡ true) (sym own ∙ is_page) named_after)
              ]
            ]
      ]

  uses_after : (p : ℕ) → 4 ≤ p → p < table.committed.pages → is_free next.free p ≡ false → uses after p ≡ true
  unfolding after
  uses_after p four high taken =
      let committed = names (numbers_of_table table) p in
      let staged = names (set table.map.staged page number) p in
      let pinned = one_names table.map.pins p in
      elim (put.takes p taken) [
        | inl same ↦ or_right committed (staged || pinned) (or_left staged pinned (subst (λ (n : ℕ). names (set table.map.staged page number) n ≡ true) same named_after))
        | inr was ↦ elim (or_cases committed (names table.map.staged p || pinned) (is.used p four high was)) [
          | inl one ↦ or_left committed (staged || pinned) one
          | inr more ↦ elim (or_cases (names table.map.staged p) pinned more) [
            | inl two ↦ elim (staged_still p four two) [
              | inl still ↦ or_right committed (staged || pinned) (or_left staged pinned still)
              | inr one ↦ or_left committed (staged || pinned) one
            ]
            | inr three ↦ or_right committed (staged || pinned) (or_right staged pinned three)
          ]
        ]
      ]

  table_after : IsTable after
  unfolding after
  table_after = record {
    fit = is.fit;
    commits = is.commits;
    logical = is.logical;
    lists = length-set table.map.staged page number ∙ is.lists;
    pages = put.long ∙ is.pages;
    names = is.names;
    nexts = is.nexts;
    once = record { index = is.once.index; maps = is.once.maps; pages = is.once.pages; bare = is.once.bare };
    bare = is.bare;
    held = λ p free. spare_after p (is.held p (put.frees p free));
    used = uses_after;
    pinned = is.pinned;
    pin_count = is.pin_count;
    pins = λ pin lt. pin_same table after (get_or table.map.pins pin []) (get_or table.pins.items pin None) refl refl refl (is.pins pin lt);
    apart = λ one other lt also same some. apart_after one other (omega (arith, length-set table.map.staged page number)) (omega (arith, length-set table.map.staged page number)) same some;
    staged = staged_after;
  }

  pub put_table : IsTable (record { committed = table.committed; map = next; named = table.named; next = table.next; pins = table.pins })
  unfolding after
  put_table = subst (λ (m : MapView). IsTable (record { committed = table.committed; map = m; named = table.named; next = table.next; pins = table.pins })) (sym put.next_is) table_after

  pub says_put : (image : List ℕ) → Says table image → Says (record { committed = table.committed; map = next; named = table.named; next = table.next; pins = table.pins }) image
  says_put image says = subst (λ (m : MapView). Says (record { committed = table.committed; map = m; named = table.named; next = table.next; pins = table.pins }) image) (sym put.next_is)
      (record { head = says.head; selected = says.selected; root = says.root; names = says.names })

  elsewhere : (old from : List ℕ) → length from ≡ 4096 → (k : ℕ) → k / 4096 ≢ page → ((p : ℕ) → get_or table.map.staged p 0 ≢ 0 → 4096 * get_or table.map.staged p 0 + 4096 ≤ length old) →
      byte_named (λ p. get_or table.map.staged p 0) (written (4096 * number) from old) k ≡ byte_named (λ p. get_or table.map.staged p 0) old k
  elsewhere old from size k there all =
      let f = λ (p : ℕ). get_or table.map.staged p 0 in
      elim (cases_eq (f (k / 4096)) 0) [
        | inl none ↦ byte_none f (written (4096 * number) from old) k none ∙ sym (byte_none f old k none)
        | inr some ↦
            let m = f (k / 4096) in
            let inside = all (k / 4096) some in
            let place : (4096 * m + k % 4096) / 4096 ≡ m = omega arith in
            byte_some f (written (4096 * number) from old) k some
            ∙ written_elsewhere (4096 * number) from old (4096 * m + k % 4096) (omega arith) (outside_page (4096 * m + k % 4096) number from size (λ e. put.alone (k / 4096) there (sym place ∙ e)))
            ∙ sym (byte_some f old k some)
      ]

  -- the bytes of all pages
  bytes_put : (old from : List ℕ) → length from ≡ 4096 → 4096 * number + 4096 ≤ length old → ((p : ℕ) → get_or table.map.staged p 0 ≢ 0 → 4096 * get_or table.map.staged p 0 + 4096 ≤ length old) → page < capacity_pages table.committed.pages →
      bytes_named (λ p. get_or (set table.map.staged page number) p 0) (capacity_pages table.committed.pages) (written (4096 * number) from old)
      ≡ written (4096 * page) from (bytes_named (λ p. get_or table.map.staged p 0) (capacity_pages table.committed.pages) old)
  bytes_put old from size long all inside =
      let f = λ (p : ℕ). get_or table.map.staged p 0 in
      let g = λ (p : ℕ). get_or (set table.map.staged page number) p 0 in
      let n = capacity_pages table.committed.pages in
      let bytes = bytes_named f n old in
      let was = length_bytes f n old in
      same_number_lists (bytes_named g n (written (4096 * number) from old)) (written (4096 * page) from bytes)
      (omega (arith, length_bytes g n (written (4096 * number) from old), was, length-written (4096 * page) from bytes, length-take (4096 * page) bytes, length-drop (4096 * page + length from) bytes))
      (λ k lt.
      let in_all : k < 4096 * n = omega (arith, length_bytes g n (written (4096 * number) from old)) in
      byte_at g n (written (4096 * number) from old) k in_all
      ∙ elim (cases_eq (k / 4096) page) [
        | inl here ↦
            let value : g (k / 4096) ≡ number = ap g here ∙ number_here in
            byte_some g (written (4096 * number) from old) k (λ none. absurd (omega (arith, low, value, none)))
            ∙ ap (λ (m : ℕ). get_or (written (4096 * number) from old) (4096 * m + k % 4096) 0) value
            ∙ written_inside (4096 * number) from old (4096 * number + k % 4096) (omega arith) (omega arith) (omega arith)
            ∙ ap (λ (m : ℕ). get_or from m 0) (omega arith)
            ∙ sym (written_inside (4096 * page) from bytes k (omega arith) (omega arith) (omega arith))
        | inr there ↦
            let value : g (k / 4096) ≡ f (k / 4096) = number_there (k / 4096) there in
            byte_same g f (written (4096 * number) from old) k value
            ∙ elsewhere old from size k there all
            ∙ sym (byte_at f n old k in_all)
            ∙ sym (written_elsewhere (4096 * page) from bytes k (omega arith) (outside_page k page from size there))
      ])

-- The write as it is seen from above.
module _ (a b : Outside (List ℕ)) (lives : Bool) (table : Table) (page number : ℕ) (next : MapView) (alive : IsAlive lives table a) (below : page < capacity_pages table.committed.pages) (put : IsPut table page number next)
    (write : Leaves a b (After (a.images a.clock) (Torn (4096 * number) 4096))) where
  in_list : page < length table.map.staged
  in_list = let size = alive.is_table.lists in let logical = alive.is_table.logical in omega arith

  apart : IsApart table number
  apart = apart_spare table number put.spare

  pub put_says : (image : List ℕ) → b.images b.clock image → Says table image
  put_says image now =
      let after = along_now write image now in
      says_stays table number after.from image alive.is_table.fit alive.is_table.once apart after.by (alive.says after.from after.was)

  pub put_images : (other : Table) → LeavesSame (seen table a) (seen other b)
  put_images other =
      along_as held_in (λ (held : Option Held). After (a.images a.clock) (λ (x : List ℕ) (z : Option Held). held_in x ≡ z) held) write (λ image after.
      record { from = after.from; was = after.was; by = sym (held_stays table number after.from image alive.is_table.fit alive.is_table.once apart after.by (alive.says after.from after.was)) })

  pub put_alive : IsAlive lives (record { committed = table.committed; map = next; named = table.named; next = table.next; pins = table.pins }) b
  put_alive = record {
    living = alive.living;
    is_table = put_table table page number next alive.is_table in_list put;
    says = λ image now. says_put table page number next alive.is_table in_list put image (put_says image now);
  }

  put_staged : (from old : List ℕ) → length from ≡ 4096 → Says table old → staged_bytes (record { committed = table.committed; map = next; named = table.named; next = table.next; pins = table.pins }) (written (4096 * number) from old) ≡ written (4096 * page) from (staged_bytes table old)
  unfolding staged_bytes
  put_staged from old size says =
      let long = says.head.long in
      let high = apart.high in
      ap (λ (m : MapView). bytes_named (λ p. get_or m.staged p 0) (capacity_pages table.committed.pages) (written (4096 * number) from old)) put.next_is
      ∙ bytes_put table page number next alive.is_table in_list put old from size (omega arith) (λ p some. let low = staged_low table alive.is_table p some in let top = low.1 in omega arith) below

  pub put_contents : (from : List ℕ) → length from ≡ 4096 → ((image : List ℕ) → a.contents image → a.images a.clock image) →
      ((image : List ℕ) → b.contents image → After a.contents (Written (4096 * number) from) image) →
      (found : Option Held) → (seen (record { committed = table.committed; map = next; named = table.named; next = table.next; pins = table.pins }) b).contents found →
      After (seen table a).contents (λ (before after : Option Held). option_map (with_page page from) before ≡ after) found
  put_contents from size law wrote found now =
      let after = wrote now.from now.was in
      let says = alive.says after.from (law after.from after.was) in
      record {
        from = Some (staged_in table after.from);
        was = record { from = after.from; was = after.was; by = refl };
        by = ap (λ (xs : List ℕ). Some (record { note = table.committed.note; bytes = xs })) (sym (put_staged from after.from size says))
            ∙ ap (λ (x : List ℕ). Some (staged_in (record { committed = table.committed; map = next; named = table.named; next = table.next; pins = table.pins }) x)) (sym after.by)
            ∙ now.by;
      }

  pub put_stays : (from : List ℕ) → length from ≡ 4096 → ((image : List ℕ) → a.contents image → a.images a.clock image) →
      ((image : List ℕ) → a.contents image → b.contents (written (4096 * number) from image)) →
      (found : Option Held) → (seen table a).contents found → (seen (record { committed = table.committed; map = next; named = table.named; next = table.next; pins = table.pins }) b).contents (option_map (with_page page from) found)
  put_stays from size law wrote found was =
      let says = alive.says was.from (law was.from was.was) in
      record {
        from = written (4096 * number) from was.from;
        was = wrote was.from was.was;
        by = ap (λ (xs : List ℕ). Some (record { note = table.committed.note; bytes = xs })) (put_staged from was.from size says)
            ∙ ap (λ (o : Option Held). option_map (with_page page from) o) was.by;
      }

  pub put_marks : Marks page table (record { committed = table.committed; map = next; named = table.named; next = table.next; pins = table.pins })
  put_marks = record {
    marked = let least = apart.low in let here = ap (λ (m : MapView). get_or m.staged page 0) put.next_is ∙ number_here table page number next alive.is_table in_list put in omega arith;
    kept = λ other differs. ap (λ (m : MapView). get_or m.staged other 0) put.next_is ∙ number_there table page number next alive.is_table in_list put other differs;
  }

  pub put_staging : (other : Table) {T E : Type 0} (result : Result T E) → IsDeviceCall a b result → Stages (seen table a) (seen other b) 1
  put_staging other result call = record {
    told = call.told;
    images = put_images other;
    counts = call.counts;
    output = call.output;
    calls = let calls = call.calls in omega arith;
  }

pub put_as : (table : Table) (between next : MapView) (page number : ℕ) → IsTable table → IsPlace table.map between page number → next ≡ with_staged between page number → IsPut table page number next
put_as table between next page number is place next_is = subst (λ (m : MapView). IsPut table page number m) (sym next_is) (is_put table between page number is place)

-- the write, by its place
pub write_as : (a b : Outside (List ℕ)) (at number size : ℕ) → at ≡ 4096 * number → size ≡ 4096 → Leaves a b (After (a.images a.clock) (Torn at size)) → Leaves a b (After (a.images a.clock) (Torn (4096 * number) 4096))
write_as a b at number size at_is size_is = subst (λ (n : ℕ). Leaves a b (After (a.images a.clock) (Torn at size)) → Leaves a b (After (a.images a.clock) (Torn n 4096))) at_is
    (subst (λ (n : ℕ). Leaves a b (After (a.images a.clock) (Torn at size)) → Leaves a b (After (a.images a.clock) (Torn at n))) size_is (λ is. is))

pub written_as : (a b : Outside (List ℕ)) (at number : ℕ) (from : List ℕ) → at ≡ 4096 * number → ((image : List ℕ) → b.contents image → After a.contents (Written at from) image) →
    (image : List ℕ) → b.contents image → After a.contents (Written (4096 * number) from) image
written_as a b at number from at_is wrote image now = subst (λ (n : ℕ). After a.contents (Written n from) image) at_is (wrote image now)

pub holds_as : (a b : Outside (List ℕ)) (at number : ℕ) (from : List ℕ) → at ≡ 4096 * number → ((image : List ℕ) → a.contents image → b.contents (written at from image)) →
    (image : List ℕ) → a.contents image → b.contents (written (4096 * number) from image)
holds_as a b at number from at_is wrote image now = subst (λ (n : ℕ). b.contents (written n from image)) at_is (wrote image now)

pub placed_again : (map : MapView) (page staged number committed : ℕ) → staged ≡ get_or map.staged page 0 → committed ≡ get_or map.committed page 0 → staged ≢ committed → staged ≢ 0 → page < length map.committed → IsMap map → IsPlace map map page staged
placed_again map page staged number committed staged_is committed_is differs some below sound =
    let there : page < length map.staged = let same = sound.staged in omega arith in
    let named : names map.staged staged ≡ true = subst (λ (n : ℕ). names map.staged n ≡ true) (sym staged_is) (names_at_index map.staged page there) in
    let least : 1 ≤ staged = positive staged some in
    again (sym staged_is) (λ e. differs (e ∙ sym committed_is)) least (sound.named staged least (or_right (names map.committed staged) _ (or_left (names map.staged staged) _ named))) refl
  where
    positive : (n : ℕ) → n ≢ 0 → 1 ≤ n
    positive n ne = elim (cases_lt 0 n) [ inl some ↦ omega arith | inr none ↦ absurd (ne (omega arith)) ]

-- what pins hold stays where a page is put
module _ (a b : Outside (List ℕ)) (lives : Bool) (table : Table) (page number : ℕ) (next : MapView) (alive : IsAlive lives table a) (put : IsPut table page number next) where
  pins_put : (from old : List ℕ) → length from ≡ 4096 → Says table old → (pin : ℕ) → pinned_bytes table pin (written (4096 * number) from old) ≡ pinned_bytes table pin old
  pins_put from old size says pin =
      pinned_torn table (4096 * number) 4096 old (written (4096 * number) from old) says.head.long
      (subst (λ (n : ℕ). Torn (4096 * number) n old (written (4096 * number) from old)) size (written_torn (4096 * number) from old))
      (λ held some pinned. let is = alive.is_table.pinned held some pinned in (is.low, is.high))
      (λ held four pinned. apart_page held number (not_pinned table number held put.spare pinned)) pin

  pub put_pinned : (from : List ℕ) → length from ≡ 4096 → ((image : List ℕ) → a.contents image → a.images a.clock image) → ((x y : List ℕ) → a.contents x → a.contents y → x ≡ y) →
      ((image : List ℕ) → b.contents image → After a.contents (Written (4096 * number) from) image) → ((image : List ℕ) → a.contents image → b.contents (written (4096 * number) from image)) →
      KeepsPins table (record { committed = table.committed; map = next; named = table.named; next = table.next; pins = table.pins }) a b
  put_pinned from size law one wrote holds =
      let after : Table = record { committed = table.committed; map = next; named = table.named; next = table.next; pins = table.pins } in
      keeps_pins a b table after (same_pins table after refl) (λ image now.
      let was = wrote image now in
      record {
        from = was.from;
        was = was.was;
        by = λ pin.
            pinned_as table after pin image refl (ap (λ (m : MapView). m.pins) put.next_is)
            ∙ ap (λ (xs : List ℕ). pinned_bytes table pin xs) was.by
            ∙ pins_put from was.from size (alive.says was.from (law was.from was.was)) pin;
      }) one (λ image now. (written (4096 * number) from image, holds image now))
