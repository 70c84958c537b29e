-- Why a store has too few pages.
use Rattle.std.proofs.Common.{◌≡◌, inl, inr, ℕ, zero, suc, ◌+◌, ◌<◌, ◌≤◌, Bool, true, false, List, [], ◌∷◌, map, get_or, refl, sym, ◌∙◌, ap, subst, arith, Option, Some, None, Result, Err}
use Rattle.std.proofs.lemmas.Bool.{false_from_ne_true}
use Rattle.obj_layout.specs.ps_outside.Outside.{Outside}
use Rattle.volume_parts.proofs.Looking.{rose_then}
use Rattle.paged_volume.specs.Standing.{IsTable}
use Rattle.paged_volume.specs.Staging.{IsPutFault}
use Rattle.paged_volume.specs.Committing.{IsSwitchFault}
use Rattle.paged_volume.specs.Pinning.{outdated}
use Rattle.paged_volume.specs.declared.pinned.Pinned.{Pinned}
use Rattle.paged_volume.specs.declared.committed.Committed.{Committed}
use Rattle.paged_volume.specs.declared.table.Table.{Table}
use Rattle.paged_volume.specs.declared.volume.VolumeFault.{VolumeFault}
use Rattle.paged_volume.specs.declared.volume.VolumeFault.TheVariants.{Device, Full}
use Rattle.paged_volume.proofs.Choosing.{none_free}
use Rattle.obj_layout.specs.declared.vault.VaultFault.{VaultFault}
use Rattle.obj_layout.specs.declared.vault.VaultFault.TheVariants.{NoPages}
use Rattle.obj_store.specs.Lacking.{Lacks, IsShort, IsRefusal, IsVolumeFault, told_fault}
use Rattle.obj_store.specs.Tested.{IsSettleFault}
use Rattle.obj_store.specs.Store.{is_alone}

-- a page isn't put
pub put_fault : {H : Type 0} (outside : H → Outside (List ℕ)) (old new : H) (lived lives : Bool) (p q : Table) (page : ℕ) (fault : VolumeFault) → IsTable p →
    IsPutFault outside old new lived lives p q page fault → IsVolumeFault (outside old) (outside new) q 1 fault
put_fault outside old new lived lives p q page Device is fault = fault.0
put_fault outside old new lived lives p q page (Full held wanted pages) is fault =
    subst (λ (t : Table). Lacks t 1 held wanted pages) (sym fault.2) (record {
      held_is = fault.5;
      wanted_is = fault.6;
      pages_are = fault.7;
      more = let all = none_free p.map.free fault.3.none in omega (arith, all, fault.5, fault.6, fault.7, is.pages);
      older = fault.4;
    })

-- the same of calls before which no fault of the device was taken back
pub fault_then : (a b c : Outside (List ℕ)) (table : Table) (most : ℕ) (fault : VolumeFault) → a.device_faults ≤ b.device_faults → IsVolumeFault b c table most fault → IsVolumeFault a c table most fault
fault_then a b c table most Device counts is = rose_then a.device_faults b.device_faults c.device_faults counts is
fault_then a b c table most (Full held wanted pages) counts is = is

-- a refusal to put is told by a vault
pub fault_told : (a b : Outside (List ℕ)) (table : Table) (most : ℕ) (fault : VolumeFault) → IsVolumeFault a b table most fault → IsRefusal a b table most (told_fault fault)
fault_told a b table most Device is = inl (refl, is)
fault_told a b table most (Full held wanted pages) is = inr (record { held = held; wanted = wanted; pages = pages; fault_is = refl; lacks = is })

-- and one to switch
pub switch_fault : {H : Type 0} (outside : H → Outside (List ℕ)) (old new : H) (lived lives : Bool) (p q : Table) (next : Committed) (fault : VolumeFault) →
    IsSwitchFault outside old new lived lives p q next fault → IsSettleFault p next (told_fault fault)
switch_fault outside old new lived lives p q next Device is = inl (refl, is.2)
switch_fault outside old new lived lives p q next (Full held wanted pages) is = inr (record {
  held = held;
  wanted = wanted;
  pages = pages;
  fault_is = refl;
  lacks = record { held_is = is.3; wanted_is = is.4; pages_are = is.5; more = is.6; older = is.7 };
})

-- where no pin holds anything, none of them does
alone_none : {P : Type 0} (pins : List (Option P)) (pin : ℕ) → is_alone pins ≡ true → get_or pins pin None ≡ None
unfolding is_alone
alone_none [] pin e = refl
alone_none (None ∷ pins) zero e = refl
alone_none (None ∷ pins) (suc pin) e = alone_none pins pin e
alone_none (Some held ∷ pins) pin e = absurd (cc)

-- a commit changes nothing of that
pub alone_outdated : (pins : List (Option Pinned)) → is_alone (map outdated pins) ≡ is_alone pins
unfolding is_alone
alone_outdated [] = refl
alone_outdated (None ∷ pins) = alone_outdated pins
alone_outdated (Some held ∷ pins) = refl

-- pages are lacked beside pins alone
pub short_lacks : {T : Type 0} (p q : Table) (most : ℕ) (fault : VaultFault) → q.pins.items ≡ p.pins.items → IsShort q most fault → (held wanted pages : ℕ) →
    ◌≡◌ {A = Result T VaultFault} (Err fault) (Err (NoPages held wanted pages)) → (is_alone p.pins.items ≡ false) × (pages < held + wanted)
short_lacks p q most fault pins is held wanted pages e =
    let told = is.fault_is in
    let one : is.held ≡ held = cc in
    let two : is.wanted ≡ wanted = cc in
    let three : is.pages ≡ pages = cc in
    let more = is.lacks.more in
    (false_from_ne_true (is_alone p.pins.items) (λ alone. is.lacks.older (λ pin lt. inr (alone_none q.pins.items pin (ap is_alone pins ∙ alone)))), omega arith)
