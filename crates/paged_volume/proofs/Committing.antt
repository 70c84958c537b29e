-- What is committed next is committed, and a switch as it is seen from above.
use Rattle.std.proofs.Common.{◌≡◌, ◌⊎◌, inl, inr, ℕ, zero, suc, ◌+◌, ◌*◌, ◌/◌, ◌<◌, ◌≤◌, true, List, [], length, get_or, take, refl, sym, ◌∙◌, ap, subst, arith, map, Option, Some, None, if◌then◌else◌}
use Rattle.std.proofs.lemmas.List.{length-map}
use Rattle.std.specs.Option.{option_map}
use Rattle.ps_port.specs.ps_outside.Outside.{Outside, Leaves}
use Rattle.ps_port.proofs.of_ps_outside.Moments.{along_as}
use Rattle.page_map.specs.Map.{MapView, settled}
use Rattle.volume_parts.specs.Layout.{pages_of_words}
use Rattle.volume_parts.specs.Holding.{Held}
use Rattle.volume_parts.specs.Holding.{saved, next_note}
use Rattle.volume_parts.specs.Calls.{Was, StaysHeld}
use Rattle.paged_volume.specs.Layout.{capacity_pages, capacity_of, map_pages_of}
use Rattle.paged_volume.specs.Found.{bytes_named}
use Rattle.paged_volume.specs.Standing.{IsFit, IsTable, IsAlive, Says, HasNames, map_count, held_in, staged_in, staged_bytes, committed_in, seen, with_zeros}
use Rattle.paged_volume.specs.Pinning.{outdated, IsPin, KeepsPins}
use Rattle.paged_volume.specs.declared.pinned.Pinned.{Pinned}
use Rattle.paged_volume.specs.Changing.{next_number, changed_pages}
use Rattle.paged_volume.specs.Switching.{IsNext, IsSwitched, IsEither, next_table}
use Rattle.paged_volume.specs.Planning.{switched, wanted_pages, Follows, IsPlanned}
use Rattle.paged_volume.specs.Committing.{TakesCalls, IsTurned}
use Rattle.paged_volume.specs.declared.table.Table.{Table}
use Rattle.paged_volume.specs.declared.committed.Committed.{Committed}
use Rattle.paged_volume.proofs.Bounds.{are_low, depth_fits}
use Rattle.paged_volume.proofs.Tables.{IsSettling, settled_is_table}
use Rattle.paged_volume.proofs.Held.{bytes_front, bytes_same, held_says, blank_bytes}
use Rattle.paged_volume.proofs.Changed.{next_below, changed_most}
use Rattle.paged_volume.proofs.PinLaws.{pin_outdated, pin_of_outdated, keeps_pins, outdated_pins, pinned_as}
use Rattle.paged_volume.proofs.Planned.{changed_again}
use Rattle.paged_volume.proofs.Selecting.{next_once}

settling_next : (old : Table) (next : Committed) → IsNext old next → IsSettling next old.map old.next.items
settling_next old next is = record {
  fit = is.next_fit;
  commits = is.commits;
  names = is.nexts ∙ ap (λ (n : ℕ). 1 + map_pages_of (capacity_pages n)) (sym is.pages_are);
  staged = is.staged ∙ ap capacity_pages (sym is.pages_are);
  free = is.free ∙ sym is.pages_are;
  index_once = is.index_once;
  maps_once = is.maps_once;
  pages_once = is.pages_once;
  bare_names = is.bare_names;
  bare = is.bare;
  pinned = is.pinned;
}

-- what is committed next is committed
module _ (old other : Table) (next : Committed) (is : IsNext old next) (names_are : other.named.items ≡ old.next.items) (pins_are : other.pins.items ≡ map outdated old.pins.items) where
  table : Table
  table = record { committed = next; map = old.map; named = other.named; next = old.next; pins = other.pins }

  turned_now : Table
  turned_now = record { committed = next; map = settled old.map other.named.items; named = other.named; next = old.next; pins = other.pins }

  turned_table : IsTable (record { committed = next; map = settled old.map other.named.items; named = other.named; next = old.next; pins = other.pins })
  unfolding table turned_now
  turned_table = settled_is_table table (subst (λ (xs : List ℕ). IsSettling next old.map xs) (sym names_are) (settling_next old next is)) (sym (ap length names_are)) (ap (λ (xs : List (Option Pinned)). length xs) pins_are ∙ length-map old.pins.items outdated ∙ is.pin_count)
      (λ pin lt. subst (λ (held : Option Pinned). IsPin turned_now (get_or old.map.pins pin []) held) (sym (ap (λ (xs : List (Option Pinned)). get_or xs pin None) pins_are ∙ pin_of_outdated old.pins.items pin))
      (pin_outdated old turned_now (get_or old.map.pins pin []) (get_or old.pins.items pin None) is.pages_are (is.pins pin lt)))

  pub turned : (map : MapView) (names : List ℕ) → names ≡ old.next.items → map ≡ settled old.map names → IsTurned old next (record { committed = next; map = map; named = other.named; next = old.next; pins = other.pins })
  turned map names same map_is =
      let map_as : map ≡ settled old.map other.named.items = map_is ∙ ap (λ (xs : List ℕ). settled old.map xs) (same ∙ sym names_are) in
      subst (λ (m : MapView). IsTurned old next (record { committed = next; map = m; named = other.named; next = old.next; pins = other.pins })) (sym map_as) (record {
        table = turned_table;
        says = λ image says. record {
          head = says.head;
          selected = says.selected;
          root = says.root;
          names = subst (λ (xs : List ℕ). HasNames next xs old.map.staged image) (sym names_are) says.names;
        };
        committed = refl;
        blank = refl;
        lists = (refl, refl);
        pins = pins_are;
      })

-- what may be committed next
pub follows_switched : (committed : Committed) (used directory : ℕ) → IsFit committed → 1 ≤ used → used ≤ capacity_of committed.pages → directory < used → Follows committed (switched used directory committed)
follows_switched committed used directory fit some within below = record {
  fit = record { head = fit.head; some = some; within = within; below = below; depth = depth_fits committed.format committed.pages };
  pages = refl;
  format = refl;
  second = refl;
  depth = refl;
  commits = omega arith;
}

changed_alike : (old new : MapView) (logical count : ℕ) → new.committed ≡ old.committed → ((page : ℕ) → get_or new.staged page 0 ≡ next_number old logical page) → changed_pages new logical count ≡ changed_pages old logical count
unfolding changed_pages
changed_alike old new logical zero committed staged = refl
changed_alike old new logical (suc count) committed staged =
    let before = changed_alike old new logical count committed staged in
    let here = changed_again old new logical count committed staged in
    (λ i. before i + (if here i then 1 else 0))

-- the map pages of so many used words
few_maps : (used : ℕ) → map_pages_of (pages_of_words used) ≤ (used + 524287) / 524288
few_maps used = omega arith

-- a switch, for which the pages were chosen
module _ (a b : Outside (List ℕ)) (table planned : Table) (used directory : ℕ) (is_table : IsTable table) (follows : Follows table.committed (switched used directory table.committed))
    (is : IsPlanned table (switched used directory table.committed) planned) where
  logical : ℕ
  logical = pages_of_words used

  within : pages_of_words used ≤ capacity_pages table.committed.pages
  within = (are_low (switched used directory table.committed) follows.fit).within

  -- the pages that are saved
  saved_bytes : (image : List ℕ) → take (4096 * pages_of_words used) (staged_bytes table image) ≡ bytes_named (λ page. get_or planned.map.staged page 0) (pages_of_words used) image
  unfolding staged_bytes
  saved_bytes image =
      bytes_front (λ page. get_or table.map.staged page 0) (pages_of_words used) (capacity_pages table.committed.pages) image within
      ∙ bytes_same (λ page. get_or table.map.staged page 0) (λ page. get_or planned.map.staged page 0) (pages_of_words used) image
      (λ page lt. sym (is.staged page ∙ next_below table.map (pages_of_words used) page lt))

  planned_bytes : (image : List ℕ) → take (4096 * pages_of_words used) (staged_bytes planned image) ≡ bytes_named (λ page. get_or planned.map.staged page 0) (pages_of_words used) image
  unfolding staged_bytes
  planned_bytes image =
      ap (λ (k : Committed). take (4096 * pages_of_words used) (bytes_named (λ page. get_or planned.map.staged page 0) (capacity_pages k.pages) image)) is.committed
      ∙ bytes_front (λ page. get_or planned.map.staged page 0) (pages_of_words used) (capacity_pages table.committed.pages) image within

  -- what stands in an image after the switch
  held_is : (image : List ℕ) (done : IsSwitched a planned (switched used directory table.committed) image) → Some (saved used directory (staged_in table done.staged.from)) ≡ held_in image
  held_is image done =
      ap (λ (xs : List ℕ). Some (record { note = next_note used directory table.committed.note; bytes = xs }))
      (saved_bytes done.staged.from ∙ sym (planned_bytes done.staged.from) ∙ ap (λ (xs : List ℕ). take (4096 * pages_of_words used) xs) (sym done.staged.by.staged) ∙ planned_bytes image)
      ∙ sym (held_says (next_table planned (switched used directory table.committed)) image follows.fit (next_once planned (switched used directory table.committed) is.ready) done.says)

  is_saved : (image : List ℕ) → IsSwitched a planned (switched used directory table.committed) image → Was (seen table a) (saved used directory) (held_in image)
  is_saved image done = record {
    from = Some (staged_in table done.staged.from);
    was = record { from = done.staged.from; was = done.staged.was; by = refl };
    by = held_is image done;
  }

  is_either : (image : List ℕ) → IsEither a planned (switched used directory table.committed) image → (seen table a).images a.clock (held_in image) ⊎ Was (seen table a) (saved used directory) (held_in image)
  is_either image (inl kept) = inl (record { from = kept.from; was = kept.was; by = kept.held })
  is_either image (inr done) = inr (is_saved image done)

  pub seen_images : (other : Table) → Leaves a b (IsEither a planned (switched used directory table.committed)) →
      Leaves (seen table a) (seen other b) (λ found. (seen table a).images a.clock found ⊎ Was (seen table a) (saved used directory) found)
  seen_images other images =
      along_as held_in (λ (found : Option Held). (seen table a).images a.clock found ⊎ Was (seen table a) (saved used directory) found) images (λ image either. is_either image either)

  pub takes_calls : b.device_calls ≤ a.device_calls + (wanted_pages planned.map (switched used directory table.committed) + 5) → TakesCalls a b table.map (switched used directory table.committed) used
  takes_calls calls =
      let next = switched used directory table.committed in
      let same = changed_alike table.map planned.map (pages_of_words used) (map_count next) is.lists.0 is.staged in
      let depth = follows.fit.depth.at_most_one in
      record { changed = omega (arith, same); most = omega (arith, same, changed_most table.map (pages_of_words used) (map_count next), few_maps used) }

  module _ (new : Table) (done : (image : List ℕ) → b.images b.clock image → IsSwitched a planned (switched used directory table.committed) image) (turned : IsTurned planned (switched used directory table.committed) new) where
    pub seen_kept : (other : Table) (found : Option Held) → (seen other b).images b.clock found → Was (seen table a) (saved used directory) found
    seen_kept other found after = subst (λ (o : Option Held). Was (seen table a) (saved used directory) o) after.by (is_saved after.from (done after.from after.was))

    new_says : (image : List ℕ) → b.images b.clock image → Says new image
    new_says image now = turned.says image (done image now).says

    -- what is held then
    holds_is : (image : List ℕ) (now : b.images b.clock image) → option_map (with_zeros table.committed.pages) (Some (saved used directory (staged_in table (done image now).staged.from))) ≡ Some (staged_in new image)
    holds_is image now =
        let low = are_low new.committed turned.table.fit in
        ap (λ (o : Option Held). option_map (with_zeros table.committed.pages) o) (held_is image (done image now) ∙ held_says new image turned.table.fit turned.table.once (new_says image now))
        ∙ ap (λ (k : Committed). Some (with_zeros k.pages (committed_in new image))) (sym turned.committed)
        ∙ ap (λ (h : Held). Some h) (blank_bytes new image turned.blank turned.table.once low.within)

    pub seen_holds : ((image : List ℕ) → b.contents image → b.images b.clock image) → (found : Option Held) → (seen new b).contents found → Was (seen table a) (λ held. with_zeros table.committed.pages (saved used directory held)) found
    seen_holds law found now =
        let there = law now.from now.was in
        let from = (done now.from there).staged in
        record {
          from = Some (staged_in table from.from);
          was = record { from = from.from; was = from.was; by = refl };
          by = holds_is now.from there ∙ now.by;
        }

    pub seen_stays : ((image : List ℕ) → b.contents image → b.images b.clock image) → ((x y : List ℕ) → a.contents x → a.contents y → x ≡ y) → StaysHeld a b → (found : Option Held) →
        Was (seen table a) (λ held. with_zeros table.committed.pages (saved used directory held)) found → (seen new b).contents found
    seen_stays law one stays found was =
        let now = stays was.was.from was.was.was in
        let there = law now.0 now.1 in
        let from = (done now.0 there).staged in
        let same = one from.from was.was.from from.was was.was.was in
        record {
          from = now.0;
          was = now.1;
          by = sym (holds_is now.0 there)
              ∙ ap (λ (x : List ℕ). option_map (λ (held : Held). with_zeros table.committed.pages (saved used directory held)) (Some (staged_in table x))) same
              ∙ ap (λ (o : Option Held). option_map (λ (held : Held). with_zeros table.committed.pages (saved used directory held)) o) was.was.by
              ∙ was.by;
        }

    pub switched_alive : IsAlive true new b
    switched_alive = record { living = refl; is_table = turned.table; says = new_says }

    pub pinned_stay : ((image : List ℕ) → b.contents image → b.images b.clock image) → ((x y : List ℕ) → a.contents x → a.contents y → x ≡ y) → StaysHeld a b → KeepsPins table new a b
    pinned_stay law one stays =
        keeps_pins a b table new (outdated_pins table new (turned.pins ∙ ap (λ (xs : List (Option Pinned)). map outdated xs) is.pins)) (λ image now.
        let from = (done image (law image now)).staged in
        record {
          from = from.from;
          was = from.was;
          by = λ pin.
              pinned_as planned new pin image (ap (λ (k : Committed). k.pages) turned.committed ∙ sym (ap (λ (k : Committed). k.pages) is.committed)) turned.lists.1
              ∙ from.by.pinned pin
              ∙ pinned_as table planned pin from.from (ap (λ (k : Committed). k.pages) is.committed) is.lists.1;
        }) one stays
