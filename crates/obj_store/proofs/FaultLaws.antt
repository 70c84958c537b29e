-- What the faults of a store say.
use Rattle.std.proofs.Common.{◌≡◌, inl, inr, ℕ, ◌+◌, ◌<◌, false, List, Option, Some, ◌∙◌, arith, Result, Ok, Err, refl}
use Rattle.obj_layout.specs.ps_outside.Outside.{Outside, Rose}
use Rattle.obj_layout.specs.ps_outside.Past.{KeepsPast}
use Rattle.obj_layout.proofs.of_ps_outside.PastMoments.{past_as}
use Rattle.obj_layout.proofs.of_ps_outside.Moments.{same_as}
use Rattle.paged_volume.specs.Standing.{seen}
use Rattle.paged_volume.specs.Planning.{wanted_pages}
use Rattle.paged_volume.specs.declared.committed.Committed.{Committed}
use Rattle.paged_volume.specs.declared.table.Table.{Table}
use Rattle.obj_layout.specs.declared.vault.VaultFault.{VaultFault}
use Rattle.obj_layout.specs.declared.vault.VaultFault.TheVariants.{Device, Output, Full, NoPages, Damaged}
use Rattle.obj_layout.specs.Stored.{Space}
use Rattle.obj_layout.specs.Storing.{TestsObject, IsStoreCall, IsStagingCall}
use Rattle.obj_store.specs.Spaces.{spaces, spaces_at, space_filed}
use Rattle.paged_volume.specs.Staging.{Stages}
use Rattle.obj_store.specs.Tested.{IsObjectFault, IsOverwriteFault, IsAppendFault, IsSettleFault}
use Rattle.volume_parts.specs.Calls.{Looks}
use Rattle.obj_store.specs.declared.source.Source.{Source}
use Rattle.obj_store.specs.Lacking.{IsRefusal}
use Rattle.obj_store.specs.Store.{is_alone}
use Rattle.obj_store.proofs.SettleLaws.{same_images}
use Rattle.obj_store.proofs.LackLaws.{short_lacks}

-- a refusal of an object is one of its tests
pub tests_fault : {T : Type 0} (old new : Outside Space) (pid : ℕ) (wanted : Option ℕ) (fault : VaultFault) → IsObjectFault old new pid wanted fault → TestsObject {T = T} old pid wanted (Err fault)
tests_fault {T = T} old new pid wanted fault (inl failed) = record {
  sound = tt;
  at_pid = λ at found bound e. absurd (differ at found bound e);
  damaged = λ at found bound e. absurd (differ at found bound e);
}
  where
    differ : (at found bound : ℕ) → ◌≡◌ {A = Result T VaultFault} (Err fault) (Err (Damaged at found bound)) → ⊥
    differ at found bound e = let is = failed.0 in cc
tests_fault {T = T} old new pid wanted fault (inr tells) = record {
  sound = tt;
  at_pid = λ at found bound e. let is = tells.fault_is in cc;
  damaged = λ at found bound e space held.
      let is = tells.fault_is in
      let f : tells.damage.found ≡ found = cc in
      let w : tells.damage.wanted ≡ bound = cc in
      tells.is space.words (record { space = space; held = held; are = refl }) ∙ (λ i. Some (record { found = f i; wanted = w i }));
}

-- and a refusal to write over one too
pub tests_overwrite : {T : Type 0} (old new : Outside Space) (table : Table) (pid : ℕ) (wanted : Option ℕ) (fault : VaultFault) → IsOverwriteFault old new table pid wanted fault →
    TestsObject {T = T} old pid wanted (Err fault)
tests_overwrite old new table pid wanted fault (inl object) = tests_fault old new pid wanted fault object
tests_overwrite {T = T} old new table pid wanted fault (inr short) = record {
  sound = tt;
  at_pid = λ at found bound e. absurd (differ at found bound e);
  damaged = λ at found bound e. absurd (differ at found bound e);
}
  where
    differ : (at found bound : ℕ) → ◌≡◌ {A = Result T VaultFault} (Err fault) (Err (Damaged at found bound)) → ⊥
    differ at found bound e = let is = short.fault_is in cc

-- words that weren't staged
pub append_refused : (a b : Outside (List ℕ)) (table : Table) (used wanted capacity : ℕ) (fault : VaultFault) → IsRefusal a b table 1 fault → IsAppendFault a b table used wanted capacity fault
append_refused a b table used wanted capacity fault (inl failed) = inl failed
append_refused a b table used wanted capacity fault (inr short) = inr (inr short)

pub overwrite_refused : (used : ℕ) (p q : Table) (a b : Outside (List ℕ)) (pid : ℕ) (wanted : Option ℕ) (fault : VaultFault) → IsRefusal a b q 1 fault →
    IsOverwriteFault (spaces used p a) (spaces used q b) q pid wanted fault
overwrite_refused used p q a b pid wanted fault (inl failed) = inl (inl failed)
overwrite_refused used p q a b pid wanted fault (inr short) = inr short

-- what an object's refusal never is
module _ {T : Type 0} (old new : Outside Space) (pid : ℕ) (wanted : Option ℕ) (fault : VaultFault) where
  pub object_cause : IsObjectFault old new pid wanted fault → ◌≡◌ {A = Result T VaultFault} (Err fault) (Err Device) → Rose old.device_faults new.device_faults
  object_cause (inl failed) e = failed.1
  object_cause (inr tells) e = let is = tells.fault_is in absurd (cc)

  pub object_other : IsObjectFault old new pid wanted fault → ◌≡◌ {A = Result T VaultFault} (Err fault) (Err Output) → ⊥
  object_other (inl failed) e = let is = failed.0 in cc
  object_other (inr tells) e = let is = tells.fault_is in cc

  pub object_room : IsObjectFault old new pid wanted fault → (used more capacity : ℕ) → ◌≡◌ {A = Result T VaultFault} (Err fault) (Err (Full used more capacity)) → ⊥
  object_room (inl failed) used more capacity e = let is = failed.0 in cc
  object_room (inr tells) used more capacity e = let is = tells.fault_is in cc

  pub object_pages : IsObjectFault old new pid wanted fault → (held more pages : ℕ) → ◌≡◌ {A = Result T VaultFault} (Err fault) (Err (NoPages held more pages)) → ⊥
  object_pages (inl failed) held more pages e = let is = failed.0 in cc
  object_pages (inr tells) held more pages e = let is = tells.fault_is in cc

-- calls that look are those of a store
module _ {T : Type 0} (source : Source) (used next most : ℕ) (p q : Table) (a b : Outside (List ℕ)) (looks : Looks a b most) where
  pub look_call : (value : T) → IsStoreCall (spaces_at source used p a) (spaces_at source next q b) most (Ok value)
  look_call value = record {
    told = looks.told;
    images = same_as a b space_filed looks.images;
    counts = looks.counts;
    output = looks.output;
    cause = λ e. absurd (cc);
    other = λ e. cc;
    calls = looks.calls;
  }

  pub look_refused : (pid : ℕ) (wanted : Option ℕ) (fault : VaultFault) → IsObjectFault (spaces_at source used p a) (spaces_at source next q b) pid wanted fault →
      IsStoreCall {T = T} (spaces_at source used p a) (spaces_at source next q b) most (Err fault)
  look_refused pid wanted fault is = record {
    told = looks.told;
    images = same_as a b space_filed looks.images;
    counts = looks.counts;
    output = looks.output;
    cause = object_cause (spaces_at source used p a) (spaces_at source next q b) pid wanted fault is;
    other = object_other (spaces_at source used p a) (spaces_at source next q b) pid wanted fault is;
    calls = tt;
  }

-- calls that stage are those of a store
module _ {T : Type 0} (used next most : ℕ) (p q : Table) (a b : Outside (List ℕ)) (past : KeepsPast a b) (stages : Stages (seen p a) (seen q b) most) where
  pub store_call : (value : T) → IsStagingCall (spaces used p a) (spaces next q b) most (Ok value)
  store_call value = record {
    told = stages.told;
    images = same_images used next p q a b stages.images;
    past = past_as a b space_filed past;
    counts = stages.counts;
    output = stages.output;
    cause = λ e. absurd (cc);
    other = λ e. cc;
    calls = stages.calls;
  }

  pub overwrite_call : (pid : ℕ) (wanted : Option ℕ) (fault : VaultFault) → IsOverwriteFault (spaces used p a) (spaces next q b) q pid wanted fault →
      IsStagingCall {T = T} (spaces used p a) (spaces next q b) most (Err fault)
  overwrite_call pid wanted fault is = record {
    told = stages.told;
    images = same_images used next p q a b stages.images;
    past = past_as a b space_filed past;
    counts = stages.counts;
    output = stages.output;
    cause = λ e. cause is e;
    other = λ e. other is e;
    calls = tt;
  }
    where
      cause : IsOverwriteFault (spaces used p a) (spaces next q b) q pid wanted fault → ◌≡◌ {A = Result T VaultFault} (Err fault) (Err Device) → Rose a.device_faults b.device_faults
      cause (inl object) e = object_cause (spaces used p a) (spaces next q b) pid wanted fault object e
      cause (inr short) e = let is = short.fault_is in absurd (cc)

      other : IsOverwriteFault (spaces used p a) (spaces next q b) q pid wanted fault → ◌≡◌ {A = Result T VaultFault} (Err fault) (Err Output) → ⊥
      other (inl object) e = object_other (spaces used p a) (spaces next q b) pid wanted fault object e
      other (inr short) e = let is = short.fault_is in cc

  pub append_call : (wanted capacity : ℕ) (fault : VaultFault) → IsAppendFault a b q used wanted capacity fault → IsStagingCall {T = T} (spaces used p a) (spaces next q b) most (Err fault)
  append_call wanted capacity fault is = record {
    told = stages.told;
    images = same_images used next p q a b stages.images;
    past = past_as a b space_filed past;
    counts = stages.counts;
    output = stages.output;
    cause = λ e. cause e is;
    other = λ e. other e is;
    calls = tt;
  }
    where
      cause : ◌≡◌ {A = Result T VaultFault} (Err fault) (Err Device) → IsAppendFault a b q used wanted capacity fault → Rose a.device_faults b.device_faults
      cause e (inl failed) = failed.1
      cause e (inr (inl full)) = let is = full.0 in absurd (cc)
      cause e (inr (inr short)) = let is = short.fault_is in absurd (cc)

      other : ◌≡◌ {A = Result T VaultFault} (Err fault) (Err Output) → IsAppendFault a b q used wanted capacity fault → ⊥
      other e (inl failed) = let is = failed.0 in cc
      other e (inr (inl full)) = let is = full.0 in cc
      other e (inr (inr short)) = let is = short.fault_is in cc

-- an object that isn't written over, for want of room or of pages
module _ {T : Type 0} (old new : Outside Space) (p q : Table) (pid : ℕ) (wanted : Option ℕ) (fault : VaultFault) where
  pub overwrite_room : IsOverwriteFault old new q pid wanted fault → (used more capacity : ℕ) → ◌≡◌ {A = Result T VaultFault} (Err fault) (Err (Full used more capacity)) → ⊥
  overwrite_room (inl object) used more capacity e = object_room old new pid wanted fault object used more capacity e
  overwrite_room (inr short) used more capacity e = let is = short.fault_is in cc

  pub overwrite_lacks : q.pins.items ≡ p.pins.items → IsOverwriteFault old new q pid wanted fault → (held more pages : ℕ) →
      ◌≡◌ {A = Result T VaultFault} (Err fault) (Err (NoPages held more pages)) → (is_alone p.pins.items ≡ false) × (pages < held + more)
  overwrite_lacks pins (inl object) held more pages e = absurd (object_pages old new pid wanted fault object held more pages e)
  overwrite_lacks pins (inr short) held more pages e = short_lacks p q 1 fault pins short held more pages e

-- and one that isn't appended
module _ {T : Type 0} (a b : Outside (List ℕ)) (p q : Table) (used wanted capacity : ℕ) (fault : VaultFault) where
  pub append_sound : IsAppendFault a b q used wanted capacity fault → (at found bound : ℕ) → ◌≡◌ {A = Result T VaultFault} (Err fault) (Err (Damaged at found bound)) → ⊥
  append_sound (inl failed) at found bound e = let is = failed.0 in cc
  append_sound (inr (inl full)) at found bound e = let is = full.0 in cc
  append_sound (inr (inr short)) at found bound e = let is = short.fault_is in cc

  pub append_lacks : q.pins.items ≡ p.pins.items → IsAppendFault a b q used wanted capacity fault → (held more pages : ℕ) →
      ◌≡◌ {A = Result T VaultFault} (Err fault) (Err (NoPages held more pages)) → (is_alone p.pins.items ≡ false) × (pages < held + more)
  append_lacks pins (inl failed) held more pages e = let is = failed.0 in absurd (cc)
  append_lacks pins (inr (inl full)) held more pages e = let is = full.0 in absurd (cc)
  append_lacks pins (inr (inr short)) held more pages e = short_lacks p q 1 fault pins short held more pages e

-- what isn't settled
module _ {T : Type 0} (p : Table) (next : Committed) (fault : VaultFault) where
  pub settle_room : IsSettleFault p next fault → (used more capacity : ℕ) → ◌≡◌ {A = Result T VaultFault} (Err fault) (Err (Full used more capacity)) → ⊥
  settle_room (inl failed) used more capacity e = let is = failed.0 in cc
  settle_room (inr short) used more capacity e = let is = short.fault_is in cc

  pub settle_sound : IsSettleFault p next fault → (at found bound : ℕ) → ◌≡◌ {A = Result T VaultFault} (Err fault) (Err (Damaged at found bound)) → ⊥
  settle_sound (inl failed) at found bound e = let is = failed.0 in cc
  settle_sound (inr short) at found bound e = let is = short.fault_is in cc

  pub settle_lacks : IsSettleFault p next fault → (held more pages : ℕ) → ◌≡◌ {A = Result T VaultFault} (Err fault) (Err (NoPages held more pages)) →
      (is_alone p.pins.items ≡ false) × (pages < held + more)
  settle_lacks (inl failed) held more pages e = let is = failed.0 in absurd (cc)
  settle_lacks (inr short) held more pages e = short_lacks p p (wanted_pages p.map next) fault refl short held more pages e

-- an object that doesn't fit is refused with these numbers
pub full_fault : {T : Type 0} (a b : Outside (List ℕ)) (table : Table) (used wanted capacity : ℕ) (fault : VaultFault) → IsAppendFault a b table used wanted capacity fault →
    (u w m : ℕ) → ◌≡◌ {A = Result T VaultFault} (Err fault) (Err (Full u w m)) → (u ≡ used) × (w ≡ wanted) × (m ≡ capacity) × (m < u + w)
full_fault a b table used wanted capacity fault (inl failed) u w m e = let is = failed.0 in absurd (cc)
full_fault a b table used wanted capacity fault (inr (inr short)) u w m e = let is = short.fault_is in absurd (cc)
full_fault a b table used wanted capacity fault (inr (inl full)) u w m e =
    let is = full.0 in
    let more = full.1 in
    let one : u ≡ used = cc in
    let two : w ≡ wanted = cc in
    let three : m ≡ capacity = cc in
    (one, two, three, omega arith)
