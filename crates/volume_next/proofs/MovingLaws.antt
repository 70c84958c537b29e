-- A volume that was committed once more, or looked at alone.
use Rattle.std.proofs.Common.{◌≡◌, ◌⊎◌, inr, ⊎_elim, ℕ, ◌+◌, ◌-◌, ◌*◌, ◌/◌, ◌≤◌, Bool, true, false, List, [], length, get_or, replicate, refl, sym, ◌∙◌, ap, subst, arith, nat_eq, nat_lt, if◌then◌else◌, Option, Some, None}
use Rattle.std.specs.Option.{option_map}
use Rattle.std.proofs.lemmas.List.{take-append-le, take_all}
use Rattle.ps_port.specs.ps_outside.Outside.{Outside, After, Leaves, TellsNothing, Rose}
use Rattle.ps_port.specs.ps_outside.Past.{KeepsPast}
use Rattle.ps_port.proofs.of_ps_outside.Moments.{along_then, along_now}
use Rattle.ps_port.proofs.of_ps_outside.PastMoments.{past_along, past_then}
use Rattle.volume_parts.specs.Layout.{pages_of_words}
use Rattle.volume_parts.specs.Holding.{Held}
use Rattle.volume_parts.specs.Holding.{saved}
use Rattle.volume_parts.specs.Calls.{Was}
use Rattle.volume_parts.specs.declared.note.Note.{Note}
use Rattle.paged_volume.specs.Layout.{least_indexed, capacity_pages, map_pages_of}
use Rattle.paged_volume.specs.Found.{Found, held_at}
use Rattle.paged_volume.specs.Planning.{depth_of}
use Rattle.paged_volume.specs.Standing.{held_in, held_of, seen, staged_in, with_zeros, map_count}
use Rattle.paged_volume.specs.Attaching.{IsAttached, IsFound}
use Rattle.paged_volume.specs.Committing.{IsSwitchFault}
use Rattle.paged_volume.specs.declared.committed.Committed.{Committed}
use Rattle.paged_volume.specs.declared.pinned.Pinned.{Pinned}
use Rattle.paged_volume.specs.declared.table.Table.{Table}
use Rattle.paged_volume.specs.declared.volume.VolumeFault.{VolumeFault}
use Rattle.paged_volume.specs.declared.volume.VolumeFault.TheVariants.{Device, Full}
use Rattle.paged_volume.proofs.Bounds.{are_low}
use Rattle.paged_volume.proofs.Held.{length_bytes}
use Rattle.volume_next.specs.Moving.{IsKeptIn, IsCommittedIn, KeepsFrom, Moves, IsMigrated, CallsFew, maps_held, lacks_at, lacks_page, lacks_index}

-- a file in which a volume is found that has an index page, or needs none
pub indexed_by : (committed : Committed) (bytes : List ℕ) → IsFound committed bytes → lacks_at committed.pages committed.depth ≡ false → lacks_index bytes ≡ false
indexed_by committed bytes is none =
    ap (λ (found : Found). lacks_page found bytes) is.volume ∙ ap (λ (depth : ℕ). lacks_at committed.pages depth) is.depth ∙ none

-- a commit gives it one
pub switched_lacks : (pages : ℕ) → lacks_at pages (depth_of pages) ≡ false
switched_lacks pages = by (nat_lt pages least_indexed)
  where
    by : (small : Bool) → (if small then false else nat_eq (if small then 0 else 1) 0) ≡ false
    by true = refl
    by false = refl

-- as many calls as a switch takes
pub few_maps : (used : ℕ) → (used + 524287) / 524288 ≡ map_pages_of (pages_of_words used)
few_maps used = omega arith

-- what was found where nothing was committed since
module _ (a b : Outside (List ℕ)) (lives : Bool) (table : Table) (is : IsAttached a b lives table) where
  abbrev start : List ℕ → Held
  start bytes = held_at table.committed.second bytes

  started : (bytes : List ℕ) → a.contents bytes → held_in bytes ≡ Some (start bytes)
  unfolding held_in
  started bytes at = ap held_of (is.found bytes at).volume

  start_used : (bytes : List ℕ) → a.contents bytes → (start bytes).note ≡ table.committed.note
  start_used bytes at = (is.found bytes at).note

  -- a file in which the same is found holds the same
  kept_by : (image bytes : List ℕ) → a.contents bytes → held_in image ≡ held_in bytes → IsKeptIn bytes image
  kept_by image bytes at same = record {
    was = start bytes;
    now = start bytes;
    was_found = started bytes at;
    now_found = same ∙ started bytes at;
    same = record { used = refl; directory = refl; bytes = refl };
  }

  pub kept_as : (image bytes : List ℕ) → a.contents bytes → held_in image ≡ held_in bytes → After a.contents IsKeptIn image
  kept_as image bytes at same = record { from = bytes; was = at; by = kept_by image bytes at same }

  -- looking leaves what was held
  pub looked : KeepsFrom a b
  looked = record {
    since = is.settles.since;
    from = is.settles.from;
    until = is.settles.until;
    before = λ m image low high at. is.looks.images.each m image low (let until = is.settles.until in omega arith) at;
    settled = λ m image low high at. kept_as image image (is.settles.settled m image low high at) refl;
    untold = is.settles.untold;
  }

  -- the map pages of what is held
  maps_are : (bytes : List ℕ) → a.contents bytes → maps_held (held_in bytes) ≡ map_count table.committed
  maps_are bytes at = ap maps_held (started bytes at) ∙ ap (λ (n : Note). map_pages_of (pages_of_words n.used)) (start_used bytes at)

  -- so many calls
  looked_few : CallsFew a b false
  looked_few =
      let low = (are_low table.committed is.alive.is_table.fit).few in
      let first = is.looks.calls in
      record {
        told = λ bytes at. let maps = maps_are bytes at in omega arith;
        most = omega arith;
      }

  pub committed_few : (c : Outside (List ℕ)) → c.device_calls ≤ b.device_calls + (map_count table.committed + 6) → CallsFew a c true
  committed_few c more =
      let low = (are_low table.committed is.alive.is_table.fit).few in
      let first = is.looks.calls in
      record {
        told = λ bytes at. let maps = maps_are bytes at in omega arith;
        most = omega arith;
      }

  pub looks_moves : Moves a b
  looks_moves = record { told = is.looks.told; past = past_along is.looks.images; counts = is.looks.counts; output = is.looks.output; keeps = looked }

  -- what a read gives then has its index page, where it needs none
  pub looked_indexed : lacks_at table.committed.pages table.committed.depth ≡ false → (bytes : List ℕ) → b.contents bytes → lacks_index bytes ≡ false
  looked_indexed none bytes at = indexed_by table.committed bytes (is.found bytes (is.looks.same.no_other bytes at)) none

  pub looked_alone : IsMigrated a b false
  looked_alone = record {
    moves = looks_moves;
    still = λ bytes at. record { from = bytes; was = is.looks.same.kept bytes at; by = kept_by bytes bytes at refl };
    once = λ e. absurd (cc);
    left = λ e. (is.looks.images, is.looks.same);
    calls = looked_few;
  }

  module _ (c : Outside (List ℕ)) (other : Table) (past : KeepsPast b c) (told : TellsNothing b c)
      (images : Leaves (seen table b) (seen other c) (λ found. (seen table b).images b.clock found ⊎ Was (seen table b) (saved table.committed.note.used table.committed.note.directory) found)) where
    -- what is committed then
    abbrev next : List ℕ → Held
    next bytes = saved table.committed.note.used table.committed.note.directory (with_zeros table.committed.pages (start bytes))

    next_bytes : (bytes : List ℕ) → a.contents bytes → (next bytes).bytes ≡ (start bytes).bytes
    next_bytes bytes at =
        let used : (start bytes).note.used ≡ table.committed.note.used = ap (λ (n : Note). n.used) (start_used bytes at) in
        let count = 4096 * pages_of_words table.committed.note.used in
        let long : length (start bytes).bytes ≡ count =
        length_bytes _ (pages_of_words (start bytes).note.used) bytes ∙ ap (λ (n : ℕ). 4096 * pages_of_words n) used in
        take-append-le count (start bytes).bytes (replicate (4096 * capacity_pages table.committed.pages - length (start bytes).bytes) 0) (omega arith) ∙ take_all count (start bytes).bytes (omega arith)

    pub committed_as : (image : List ℕ) → Was (seen table b) (saved table.committed.note.used table.committed.note.directory) (held_in image) → After a.contents IsCommittedIn image
    committed_as image was =
        let at = is.holds was.from was.was in
        let bytes = at.from in
        let found : held_in image ≡ Some (next bytes) =
        sym was.by
        ∙ ap (λ (o : Option Held). option_map (saved table.committed.note.used table.committed.note.directory) o) (sym at.by ∙ ap (λ (o : Option Held). option_map (with_zeros table.committed.pages) o) (started bytes at.was)) in
        record {
          from = bytes;
          was = at.was;
          by = record {
            was = start bytes;
            now = next bytes;
            was_found = started bytes at.was;
            now_found = found;
            same = record {
              used = sym (ap (λ (n : Note). n.used) (start_used bytes at.was));
              directory = sym (ap (λ (n : Note). n.directory) (start_used bytes at.was));
              bytes = next_bytes bytes at.was;
            };
            counted = refl;
          };
        }

    kept_then : (image : List ℕ) → After a.contents IsCommittedIn image → After a.contents IsKeptIn image
    kept_then image at = record {
      from = at.from;
      was = at.was;
      by = record { was = at.by.was; now = at.by.now; was_found = at.by.was_found; now_found = at.by.now_found; same = at.by.same };
    }

    either : (m n : ℕ) → (m ≤ n) ⊎ (n ≤ m)
    either m n = grind arith

    -- an image since the last look
    image_since : (m : ℕ) (image : List ℕ) → b.clock ≤ m → m ≤ c.clock → c.images m image → After a.contents IsKeptIn image
    image_since m image low high at = ⊎_elim
        (λ old. kept_as image old.from (is.settles.settled b.clock old.from is.settles.until (omega arith) old.was) (sym old.by))
        (λ new. kept_then image (committed_as image new))
        (images.each m (held_in image) low high (record { from = image; was = at; by = refl }))

    pub switched_keeps : KeepsFrom a c
    switched_keeps =
        let until = is.settles.until in
        let later = past.later in
        record {
          since = is.settles.since;
          from = is.settles.from;
          until = omega arith;
          before = λ m image low high at. is.looks.images.each m image low (omega arith) (past.no_other m image (omega arith) at);
          settled = λ m image low high at. ⊎_elim
              (λ early. kept_as image image (is.settles.settled m image low early (past.no_other m image early at)) refl)
              (λ late. image_since m image late high at)
              (either m b.clock);
          untold = λ m bytes low high at. is.settles.untold m bytes low high (told.no_other m bytes (omega arith) at);
        }

    pub switched_moves : b.device_faults ≤ c.device_faults → c.output_faults ≡ b.output_faults → Moves a c
    switched_moves counts output = record {
      told = along_then is.looks.told told (along_now is.looks.told);
      past = past_then (past_along is.looks.images) past;
      counts = let first = is.looks.counts in omega arith;
      output = output ∙ is.looks.output;
      keeps = switched_keeps;
    }

    -- the images at the end, and what a read gives then
    module _ (kept : (found : Option Held) → (seen other c).images c.clock found → Was (seen table b) (saved table.committed.note.used table.committed.note.directory) found)
        (stays : (found : Option Held) → Was (seen table b) (λ held. with_zeros table.committed.pages (saved table.committed.note.used table.committed.note.directory held)) found → (seen other c).contents found)
        (is_image : (image : List ℕ) → c.contents image → c.images c.clock image) (one : (x y : List ℕ) → a.contents x → a.contents y → x ≡ y) where
      committed_at : (image : List ℕ) → c.images c.clock image → After a.contents IsCommittedIn image
      committed_at image at = committed_as image (kept (held_in image) (record { from = image; was = at; by = refl }))

      -- what was held at the start is held in what a read gives then
      still_held : (bytes : List ℕ) → a.contents bytes → After c.contents (λ now was. IsKeptIn was now) bytes
      still_held bytes at =
          let now = stays _ (record { from = Some (staged_in table bytes); was = record { from = bytes; was = is.looks.same.kept bytes at; by = refl }; by = refl }) in
          let kept_now = kept_then now.from (committed_at now.from (is_image now.from now.was)) in
          record { from = now.from; was = now.was; by = subst (λ (was : List ℕ). IsKeptIn was now.from) (one kept_now.from bytes kept_now.was at) kept_now.by }

      pub committed_once : b.device_faults ≤ c.device_faults → c.output_faults ≡ b.output_faults → c.device_calls ≤ b.device_calls + (map_count table.committed + 6) → IsMigrated a c true
      committed_once counts output calls = record {
        moves = switched_moves counts output;
        still = still_held;
        once = λ e. committed_at;
        left = λ e. absurd (cc);
        calls = committed_few c calls;
      }

-- without pins nothing is committed only where the device failed
pub switch_failed : {H : Type 0} (outside : H → Outside (List ℕ)) (old new : H) (lived lives : Bool) (p q : Table) (next : Committed) (fault : VolumeFault) → p.pins.items ≡ []
    → IsSwitchFault outside old new lived lives p q next fault → Rose (outside old).device_faults (outside new).device_faults
switch_failed outside old new lived lives p q next Device none is = is.0
switch_failed outside old new lived lives p q next (Full held wanted pages) none is =
    absurd (is.7 (λ pin lt. inr (ap (λ (pins : List (Option Pinned)). get_or pins pin None) none)))
