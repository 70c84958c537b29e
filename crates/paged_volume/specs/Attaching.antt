-- What attaching says: that it only looks, and why it found no volume.
use Rattle.std.specs.Prelude.{◌≡◌, ℕ, ◌+◌, Bool, List, [], Option}
use Rattle.std.specs.Option.{option_map}
use Rattle.ps_port.specs.ps_outside.Outside.{Outside, SettlesFrom, After, Rose}
use Rattle.volume_parts.specs.Layout.{number_at, root_at}
use Rattle.volume_parts.specs.Holding.{Held, note_at}
use Rattle.volume_parts.specs.Calls.{Looks}
use Rattle.volume_parts.specs.declared.open_fault.OpenFault.{OpenFault}
use Rattle.volume_parts.specs.declared.open_fault.OpenFault.TheVariants.{Device, NotAVolume, Damaged, Memory}
use Rattle.paged_volume.specs.Layout.{depth_at}
use Rattle.paged_volume.specs.Found.{a_volume, no_volume, damaged, damage, found_in, held_at}
use Rattle.paged_volume.specs.Standing.{IsAlive, seen, held_in, with_zeros, map_count}
use Rattle.paged_volume.specs.declared.head.Head.{Head}
use Rattle.paged_volume.specs.declared.root.Root.{Root}
use Rattle.paged_volume.specs.declared.table.Table.{Table}
use Rattle.paged_volume.specs.declared.committed.Committed.{Committed}

-- the volume that was found, and what is committed in it
pub record IsFound (committed : Committed) (bytes : List ℕ) : Type 0 where
  pub volume : found_in bytes ≡ a_volume committed.pages committed.second (held_at committed.second bytes)
  pub note : note_at (root_at committed.second) bytes ≡ committed.note
  pub depth : depth_at committed.second bytes ≡ committed.depth

-- why there is no volume, for each content that was output
abbrev pub IsNoVolume : OpenFault → List ℕ → Type 0
IsNoVolume Device bytes = Unit {0}
IsNoVolume (NotAVolume size gate) bytes = found_in bytes ≡ no_volume size gate
IsNoVolume (Damaged at found wanted) bytes = found_in bytes ≡ damaged (damage at found wanted)
IsNoVolume Memory bytes = Unit {0}

-- The cause of a refusal: Device only where a fault of the device was counted.
pub record IsRefusal (old new : Outside (List ℕ)) (fault : OpenFault) : Type 0 where
  pub device : fault ≡ Device → Rose old.device_faults new.device_faults
  pub found : (bytes : List ℕ) → old.contents bytes → IsNoVolume fault bytes

-- An attached volume: it is what was found in each content that was output, nothing is staged, there are no pins, and a crash leaves what was looked at, from a
-- moment on before which nothing was output. The map pages were read once, and eight calls more were made at most.
pub record IsAttached (old new : Outside (List ℕ)) (lives : Bool) (table : Table) : Type 0 where
  pub looks : Looks old new (map_count table.committed + 8)
  pub settles : SettlesFrom old new
  pub found : (bytes : List ℕ) → old.contents bytes → IsFound table.committed bytes
  pub blank : table.map.staged ≡ table.map.committed
  pub unpinned : table.pins.items ≡ []
  pub holds : (held : Option Held) → (seen table new).contents held →
      After old.contents (λ (bytes : List ℕ) (after : Option Held). option_map (with_zeros table.committed.pages) (held_in bytes) ≡ after) held
  pub alive : IsAlive lives table new

-- a refusal, and why: the largest volume has 488 map pages
pub record IsRefused (old new : Outside (List ℕ)) (fault : OpenFault) : Type 0 where
  pub looks : Looks old new 496
  pub refusal : IsRefusal old new fault

-- the numbers of page 0 and of a root page
pub record IsHead (bytes : List ℕ) (head : Head) : Type 0 where
  pub spelled : number_at 1 6 bytes ≡ head.spelled
  pub format : number_at 7 1 bytes ≡ head.format
  pub pages : number_at 8 4 bytes ≡ head.pages

pub record IsRoot (root : ℕ) (bytes : List ℕ) (says : Root) : Type 0 where
  pub note : note_at root bytes ≡ says.note
  pub logical : number_at (root + 24) 4 bytes ≡ says.logical
  pub depth : number_at (root + 4092) 4 bytes ≡ says.depth
