-- All that a commit stores, as one step of a space.
use Rattle.std.specs.Prelude.{◌≡◌, ◌≢◌, ◌⊎◌, ℕ, ◌+◌, List, length, Some}
use Rattle.swizzle.specs.obj_layout.ps_outside.Outside.{Outside, LeavesSame, Rose}
use Rattle.swizzle.specs.obj_layout.declared.vault.VaultFault.{VaultFault}
use Rattle.swizzle.specs.obj_layout.declared.vault.VaultFault.TheVariants.{Device, Output, Full, Damaged}
use Rattle.swizzle.specs.obj_layout.Stored.{Space, damage_at, directed}
use Rattle.swizzle.specs.obj_layout.Storing.{unfiled, settling}
use Rattle.swizzle.specs.Objects.{size_of}
use Rattle.swizzle.specs.Heap.{Heap, object_at, header_at}
use Rattle.commit_images.specs.Images.{words_of, with_images, over_images}
use Rattle.commit_images.specs.Staging.{most_calls, AreThere, IsOneOf, IsFullAt}

-- the space with the images of new objects after its words, those of changed ones in place of theirs, and this directory
unfoldable pub saved : Heap → List ℕ → List ℕ → ℕ → Space → Space
saved heap new changed directory space = directed directory (over_images heap changed (with_images heap new space))

-- most device calls of all that: for the images, and to settle with so many used words
abbrev pub saving : Heap → List ℕ → List ℕ → ℕ → ℕ
saving heap new changed used = most_calls (words_of heap new + words_of heap changed) (length new + length changed) + settling used

-- The words under the PID of one of the changed objects are no object that is as long, by these numbers of a test.
pub record IsDamagedBehind (heap : Heap) (new changed : List ℕ) (old : Outside Space) (at found bound : ℕ) : Type 0 where
  pub one : IsOneOf changed
  pub at_is : at ≡ (header_at heap one.at).pid
  pub tested : (space : Space) → old.contents space →
      damage_at (over_images heap one.front (with_images heap new space)).words at (Some (size_of (object_at heap one.at))) ≡ Some (record { found = found; wanted = bound })

-- Why not all was stored: the device failed, there was no room for a new object, or the vault has no object in the place of a changed one. Either nothing that a
-- crash leaves has changed, or all images were staged, and the vault had an object in the place of each changed one.
pub record FailsSave (heap : Heap) (new changed : List ℕ) (old now : Outside Space) (used most : ℕ) (fault : VaultFault) : Type 0 where
  pub device : fault ≡ Device → Rose old.device_faults now.device_faults
  pub output : fault ≢ Output
  pub full : (found wanted capacity : ℕ) → fault ≡ Full found wanted capacity → IsFullAt heap new used most found wanted capacity
  pub damaged : (at found bound : ℕ) → fault ≡ Damaged at found bound → IsDamagedBehind heap new changed old at found bound
  pub whole : LeavesSame (unfiled old) (unfiled now) ⊎ ((space : Space) → old.contents space → AreThere heap changed (with_images heap new space))
