-- A volume that was moved into the last form, and then attached.
use Rattle.std.proofs.Common.{◌≡◌, ℕ, ◌+◌, ◌≤◌, Bool, true, false, List, [], ◌∷◌, refl, sym, ◌∙◌, ap, subst, arith, Option, Some, None}
use Rattle.std.specs.Option.{option_map}
use Rattle.ps_port.specs.ps_outside.Outside.{Outside, LeavesSame, TellsNothing}
use Rattle.ps_port.proofs.of_ps_outside.Moments.{along_then, along_now}
use Rattle.ps_port.proofs.of_ps_outside.PastMoments.{past_along, past_then}
use Rattle.volume_next.specs.Moving.{HoldsSame, IsKeptIn, KeepsFrom, IsMigrated, IsUnmoved, lacks_index, maps_held, moving_calls}
use Rattle.volume_next.specs.Moving as moving
use Rattle.obj_store.specs.volume_parts.Layout.{pages_of_words}
use Rattle.obj_store.specs.volume_parts.declared.note.Note.{Note}
use Rattle.obj_store.specs.volume_parts.Holding.{Held}
use Rattle.obj_store.specs.volume_parts.declared.open_fault.OpenFault.{OpenFault}
use Rattle.obj_store.specs.volume_parts.declared.open_fault.OpenFault.TheVariants.{Device, NotAVolume, Damaged, Memory}
use Rattle.obj_store.proofs.of_volume_parts.Looking.{rose_then}
use Rattle.obj_store.specs.paged_volume.Attaching.{IsFound, IsNoVolume, IsRefused}
use Rattle.obj_store.specs.paged_volume.Layout.{map_pages_of}
use Rattle.obj_store.specs.paged_volume.declared.committed.Committed.{Committed}
use Rattle.obj_store.specs.paged_volume.Found.{Found, a_volume, no_volume, damaged, damage, found_in}
use Rattle.obj_store.specs.paged_volume.Standing.{held_in, held_of, map_count}
use Rattle.obj_store.specs.obj_layout.Stored.{Space}
use Rattle.obj_store.specs.Opening.{IsOpened}
use Rattle.obj_store.specs.Spaces.{space_of, words_of}
use Rattle.obj_store.specs.Store.{Store, is_alone}
use Rattle.ps_reports.specs.declared.report.Report.{Report}
use Rattle.ps_volumes.specs.Attaching.{HasVolume, KeepsHeld, KeepsVolume, AttachesInFew, IsStored, IsUnattached, attaching_calls, report_for}
use Rattle.ps_volumes.proofs.Refused.{unattached_by}
use Rattle.ps_volumes.proofs.Settled.{from_then, held_from}

-- where there is no pin none holds anything
none_alone : {P : Type 0} (pins : List (Option P)) → pins ≡ [] → is_alone pins ≡ true
unfolding is_alone
none_alone [] none = refl
none_alone (pin ∷ pins) none = absurd cc

-- the space of what is held
abbrev spaced : Option Held → Option Space
spaced found = option_map (λ (held : Held). space_of held.note.used held) found

same_space : (was now : Held) → HoldsSame was now → Some (space_of now.note.used now) ≡ Some (space_of was.note.used was)
same_space was now same = λ i. Some (record { words = words_of (same.used i) (same.bytes i); directory = same.directory i; file = [] })

-- files that hold the same have the same space
one_space : (was now : List ℕ) → IsKeptIn was now → spaced (held_in now) ≡ spaced (held_in was)
one_space was now is = ap spaced is.now_found ∙ same_space is.was is.now is.same ∙ sym (ap spaced is.was_found)

-- in a file that holds something a volume is found
volume_by : (bytes : List ℕ) (found : Found) (held : Held) → found_in bytes ≡ found → held_of found ≡ Some held → HasVolume bytes
volume_by bytes (a_volume pages second other) held is some = record { pages = pages; second = second; held = other; found = is }
volume_by bytes (no_volume size gate) held is some = absurd (cc)
volume_by bytes (damaged why) held is some = absurd (cc)

has_volume : (bytes : List ℕ) (held : Held) → held_in bytes ≡ Some held → HasVolume bytes
unfolding held_in
has_volume bytes held is = volume_by bytes (found_in bytes) held refl is

holds_none : (bytes : List ℕ) (held : Held) (found : Found) → held_of found ≡ None → held_in bytes ≡ Some held → found_in bytes ≡ found → ⊥
unfolding held_in
holds_none bytes held found none some is =
    let e : None ≡ Some held = sym none ∙ sym (ap held_of is) ∙ some in
    cc

-- the same map pages are read
same_maps : (was now : List ℕ) → IsKeptIn was now → maps_held (held_in was) ≡ maps_held (held_in now)
same_maps was now is =
    ap maps_held is.was_found ∙ ap (λ (used : ℕ). map_pages_of (pages_of_words used)) (sym is.same.used) ∙ sym (ap maps_held is.now_found)

maps_opened : (committed : Committed) (bytes : List ℕ) → IsFound committed bytes → maps_held (held_in bytes) ≡ map_count committed
unfolding held_in
maps_opened committed bytes is =
    ap (λ (found : Found). maps_held (held_of found)) is.volume ∙ ap (λ (n : Note). map_pages_of (pages_of_words n.used)) is.note

-- few calls, and as many as a look takes
few_then : (start mid now : ℕ) (committed : Bool) → mid ≤ start + moving_calls committed 488 → now ≤ mid + 496 → now ≤ start + attaching_calls true 488
few_then start mid now true first next = omega arith
few_then start mid now false first next = omega arith

-- so attaching it refuses for no other cause than before
refused_before : (cause : OpenFault) (was now : List ℕ) → IsKeptIn was now → IsNoVolume cause now → IsNoVolume cause was
refused_before Device was now is why = tt
refused_before (NotAVolume size gate) was now is why = absurd (holds_none now is.now (no_volume size gate) refl is.now_found why)
refused_before (Damaged at found wanted) was now is why = absurd (holds_none now is.now (damaged (damage at found wanted)) refl is.now_found why)
refused_before Memory was now is why = tt

module _ (a b : Outside (List ℕ)) (is_image : (bytes : List ℕ) → b.contents bytes → b.images b.clock bytes) where
  -- the volume wasn't moved
  pub unattached_before : (cause : OpenFault) (report : Report) → report ≡ report_for cause → IsUnmoved a b cause → IsUnattached a b report
  unattached_before cause report report_is (moving.refused is) = unattached_by a b cause report is report_is
  unattached_before cause report report_is (moving.cut is rose moves calls) = record {
    cause = cause;
    why = record { device = λ e. rose; found = λ bytes at. subst (λ (why : OpenFault). IsNoVolume why bytes) (sym is) tt };
    report_is = report_is;
    told = moves.told;
    calm = moves.output;
    calls = let few = calls.most in omega arith;
    keeps = held_from a b moves.keeps moves.past is_image;
  }

  -- It was moved, or looked at, and then looked at once more.
  module _ (committed : Bool) (is : IsMigrated a b committed) (c : Outside (List ℕ)) (images : LeavesSame b c) (told : TellsNothing b c) (counts : b.device_faults ≤ c.device_faults)
      (output : c.output_faults ≡ b.output_faults) (law : (bytes : List ℕ) → c.contents bytes → c.images c.clock bytes) where
    then_kept : KeepsFrom a c
    then_kept = from_then a b c is.moves.keeps images (past_along told)

    then_held : KeepsHeld a c
    then_held = held_from a c then_kept (past_then is.moves.past (past_along images)) law

    then_told : TellsNothing a c
    then_told = along_then is.moves.told told (along_now is.moves.told)

    then_kept_volume : KeepsVolume a c
    then_kept_volume = record {
      keeps = then_held;
      from = then_kept;
      found = λ bytes at. let by = (is.still bytes at).by in has_volume bytes by.was by.was_found;
    }

    pub unattached_after : (cause : OpenFault) (report : Report) → report ≡ report_for cause → IsRefused b c cause → IsUnattached a c report
    unattached_after cause report report_is refused = record {
      cause = cause;
      why = record {
        device = λ e. rose_then a.device_faults b.device_faults c.device_faults is.moves.counts (refused.refusal.device e);
        found = λ bytes at. let now = is.still bytes at in refused_before cause bytes now.from now.by (refused.refusal.found now.from now.was);
      };
      report_is = report_is;
      told = then_told;
      calm = output ∙ is.moves.output;
      calls = few_then _ _ _ committed is.calls.most refused.looks.calls;
      keeps = then_held;
    }

  -- the map pages of what was found
  maps_found : {H : Type 0} (outside : H → Outside (List ℕ)) (store : Store H) → IsOpened outside b store → (was now : List ℕ) → IsKeptIn was now → b.contents now → maps_held (held_in was) ≡ map_count store.table.committed
  maps_found outside store opened was now is at = same_maps was now is ∙ maps_opened store.table.committed now (opened.found now at)

  opened_calls : {H : Type 0} (outside : H → Outside (List ℕ)) (store : Store H) → IsOpened outside b store → (committed : Bool) → IsMigrated a b committed
      → ((bytes : List ℕ) → a.contents bytes → committed ≡ lacks_index bytes) → AttachesInFew a (outside store.host)
  opened_calls outside store opened committed is when = record {
    told = λ bytes at.
        let now = is.still bytes at in
        let maps = maps_found outside store opened bytes now.from now.by now.was in
        let first = is.calls.told bytes at in
        let next = opened.looks.calls in
        let moves = ap (λ (c : Bool). moving_calls c (maps_held (held_in bytes))) (when bytes at) in
        omega arith;
    most = few_then _ _ _ committed is.calls.most (let next = opened.looks.calls in let few = opened.few in omega arith);
  }

  -- the store of the volume holds what was committed in the file at the start
  pub stored_by : {H : Type 0} (outside : H → Outside (List ℕ)) (committed : Bool) (store : Store H) → IsMigrated a b committed → IsOpened outside b store
      → ((bytes : List ℕ) → a.contents bytes → committed ≡ lacks_index bytes) → ((bytes : List ℕ) → b.contents bytes → lacks_index bytes ≡ false)
      → ((bytes : List ℕ) → (outside store.host).contents bytes → (outside store.host).images (outside store.host).clock bytes) → IsStored outside a store
  stored_by outside committed store is opened when moved law = record {
    keeps = then_kept_volume committed is (outside store.host) opened.looks.images opened.looks.told opened.looks.counts opened.looks.output law;
    moved = λ bytes at. moved bytes (opened.looks.same.no_other bytes at);
    calls = opened_calls outside store opened committed is when;
    told = then_told committed is (outside store.host) opened.looks.images opened.looks.told opened.looks.counts opened.looks.output law;
    counts = let first = is.moves.counts in let next = opened.looks.counts in omega arith;
    output = opened.looks.output ∙ is.moves.output;
    live = opened.live;
    alone = none_alone store.table.pins.items opened.unpinned;
    used = opened.used;
    holds = λ space at.
        let now = opened.holds space at in
        let was = is.moves.keeps.settled b.clock now.from is.moves.keeps.until (omega arith) (is_image now.from now.was) in
        record { from = was.from; was = was.was; by = sym (one_space was.from now.from was.by) ∙ now.by };
    stays = λ space was.
        let now = is.still was.from was.was in
        opened.stays space (record { from = now.from; was = now.was; by = one_space was.from now.from now.by ∙ was.by });
  }
