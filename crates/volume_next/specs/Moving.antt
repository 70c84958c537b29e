-- What is left of a volume that gets its index page.
use Rattle.std.specs.Prelude.{◌≡◌, ℕ, ◌+◌, ◌*◌, ◌%◌, ◌^◌, ◌≤◌, Bool, true, false, nat_lt, nat_eq, if◌then◌else◌, List, Option, Some, None}
use Rattle.ps_port.specs.ps_outside.Outside.{Outside, After, LeavesSame, SameContents, TellsNothing, Rose}
use Rattle.ps_port.specs.ps_outside.Past.{KeepsPast}
use Rattle.volume_parts.specs.Layout.{pages_of_words}
use Rattle.volume_parts.specs.Holding.{Held}
use Rattle.volume_parts.specs.declared.open_fault.OpenFault.{OpenFault}
use Rattle.volume_parts.specs.declared.open_fault.OpenFault.TheVariants.{Device}
use Rattle.paged_volume.specs.Layout.{least_indexed, depth_at, map_pages_of}
use Rattle.paged_volume.specs.Found.{Found, a_volume, no_volume, damaged, found_in}
use Rattle.paged_volume.specs.Standing.{held_in}
use Rattle.paged_volume.specs.Attaching.{IsRefused}

-- the same words under the same directory, whichever commit it is
pub record HoldsSame (old new : Held) : Type 0 where
  pub used : new.note.used ≡ old.note.used
  pub directory : new.note.directory ≡ old.note.directory
  pub bytes : new.bytes ≡ old.bytes

-- a file holds what another one held
pub record IsKeptIn (old new : List ℕ) : Type 0 where
  pub was : Held
  pub now : Held
  pub was_found : held_in old ≡ Some was
  pub now_found : held_in new ≡ Some now
  pub same : HoldsSame was now

-- and by one commit more
pub record IsCommittedIn (old new : List ℕ) : Type 0 where
  pub was : Held
  pub now : Held
  pub was_found : held_in old ≡ Some was
  pub now_found : held_in new ≡ Some now
  pub same : HoldsSame was now
  pub counted : now.note.commits ≡ (was.note.commits + 1) % 2 ^ 64

-- Up to some moment a crash leaves what it could leave before; from then on it leaves a file that holds what a read gave at the start, and up to that moment
-- nothing was output.
pub record KeepsFrom (old new : Outside (List ℕ)) : Type 0 where
  pub since : ℕ
  pub from : old.clock ≤ since
  pub until : since ≤ new.clock
  pub before : (m : ℕ) (image : List ℕ) → old.clock ≤ m → m ≤ since → new.images m image → old.images old.clock image
  pub settled : (m : ℕ) (image : List ℕ) → since ≤ m → m ≤ new.clock → new.images m image → After old.contents IsKeptIn image
  pub untold : (m : ℕ) (bytes : List ℕ) → old.clock ≤ m → m ≤ since → new.told m bytes → old.told old.clock bytes

-- how many map pages there are in a file, by what is found in it
abbrev pub maps_held : Option Held → ℕ
maps_held None = 0
maps_held (Some held) = map_pages_of (pages_of_words held.note.used)

-- how often the device is called with so many map pages: attaching reads each of them, and a commit may write each
abbrev pub moving_calls : Bool → ℕ → ℕ
moving_calls true maps = 2 * maps + 14
moving_calls false maps = maps + 8

-- It is called as often for the map pages of what a read gives at the start; and never more than for the 488 of the largest volume.
pub record CallsFew (old new : Outside (List ℕ)) (committed : Bool) : Type 0 where
  pub told : (bytes : List ℕ) → old.contents bytes → new.device_calls ≤ old.device_calls + moving_calls committed (maps_held (held_in bytes))
  pub most : new.device_calls ≤ old.device_calls + moving_calls committed 488

-- A volume of at least 88 pages has no index page, where its depth is 0.
abbrev pub lacks_at : ℕ → ℕ → Bool
lacks_at pages depth = if nat_lt pages least_indexed then false else nat_eq depth 0

abbrev pub lacks_page : Found → List ℕ → Bool
lacks_page (a_volume pages second held) image = lacks_at pages (depth_at second image)
lacks_page (no_volume size gate) image = false
lacks_page (damaged damage) image = false

abbrev pub lacks_index : List ℕ → Bool
lacks_index image = lacks_page (found_in image) image

-- Calls of the device that output nothing; what is seen of the moments that have been stays, and each image of the way holds what was held.
pub record Moves (old new : Outside (List ℕ)) : Type 0 where
  pub told : TellsNothing old new
  pub past : KeepsPast old new
  pub counts : old.device_faults ≤ new.device_faults
  pub output : new.output_faults ≡ old.output_faults
  pub keeps : KeepsFrom old new

-- Whether it was committed: then each image at the end holds it by one commit more; else the device was only looked at. And where a read gave a file at the start, at the end
-- one gives a file that holds the same.
pub record IsMigrated (old new : Outside (List ℕ)) (committed : Bool) : Type 0 where
  pub moves : Moves old new
  pub still : (bytes : List ℕ) → old.contents bytes → After new.contents (λ now was. IsKeptIn was now) bytes
  pub once : committed ≡ true → (image : List ℕ) → new.images new.clock image → After old.contents IsCommittedIn image
  pub left : committed ≡ false → LeavesSame old new × SameContents old new
  pub calls : CallsFew old new committed

-- Why there is no such volume: as attaching says; or the device failed while it was committed, and each image holds what was held.
pub data IsUnmoved (old new : Outside (List ℕ)) (cause : OpenFault) : Type 0 where
  refused : IsRefused old new cause → IsUnmoved old new cause
  cut : cause ≡ Device → Rose old.device_faults new.device_faults → Moves old new → CallsFew old new true → IsUnmoved old new cause
