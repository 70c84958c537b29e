-- What is said where a volume has too few pages.
use Rattle.std.specs.Prelude.{◌≡◌, ◌⊎◌, ℕ, ◌+◌, ◌<◌, not, List, count_by}
use Rattle.obj_layout.specs.ps_outside.Outside.{Outside, Rose}
use Rattle.paged_volume.specs.Pinning.{AreLatest}
use Rattle.paged_volume.specs.declared.table.Table.{Table}
use Rattle.paged_volume.specs.declared.volume.VolumeFault.{VolumeFault}
use Rattle.paged_volume.specs.declared.volume.VolumeFault.TheVariants as volume
use Rattle.obj_layout.specs.declared.vault.VaultFault.{VaultFault}
use Rattle.obj_layout.specs.declared.vault.VaultFault.TheVariants.{Device, NoPages}

-- Of the pages so many are held, by what is committed, staged and pinned; with those that are wanted they are more than there are. That comes only where a
-- pin holds an older list than the committed one.
pub record Lacks (table : Table) (most held wanted pages : ℕ) : Type 0 where
  pub held_is : held ≡ count_by not table.map.free
  pub wanted_is : wanted ≡ most
  pub pages_are : pages ≡ table.committed.pages
  pub more : pages < held + wanted
  pub older : ¬ AreLatest table

-- why a volume refuses: the device failed, or it has too few pages where so many are wanted
abbrev pub IsVolumeFault : Outside (List ℕ) → Outside (List ℕ) → Table → ℕ → VolumeFault → Type 0
IsVolumeFault old new table most volume.Device = Rose old.device_faults new.device_faults
IsVolumeFault old new table most (volume.Full held wanted pages) = Lacks table most held wanted pages

-- and so a vault tells it
abbrev pub told_fault : VolumeFault → VaultFault
told_fault volume.Device = Device
told_fault (volume.Full held wanted pages) = NoPages held wanted pages

-- the fault tells that there are too few pages
pub record IsShort (table : Table) (most : ℕ) (fault : VaultFault) : Type 0 where
  pub held : ℕ
  pub wanted : ℕ
  pub pages : ℕ
  pub fault_is : fault ≡ NoPages held wanted pages
  pub lacks : Lacks table most held wanted pages

-- why words aren't staged: the device failed, or there are too few pages
abbrev pub IsRefusal : Outside (List ℕ) → Outside (List ℕ) → Table → ℕ → VaultFault → Type 0
IsRefusal old new table most fault = ((fault ≡ Device) × Rose old.device_faults new.device_faults) ⊎ IsShort table most fault
