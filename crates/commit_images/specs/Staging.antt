-- Images of several objects are staged, one after the other.
use Rattle.std.specs.Prelude.{◌≡◌, ◌≢◌, ℕ, ◌+◌, ◌*◌, ◌/◌, ◌<◌, ◌≤◌, List, [], ◌∷◌, ◌++◌, length, Some, None}
use Rattle.swizzle.specs.obj_layout.ps_outside.Outside.{Outside, LeavesSame, TellsNothing, Rose}
use Rattle.swizzle.specs.obj_layout.ps_outside.Past.{KeepsPast}
use Rattle.swizzle.specs.obj_layout.declared.vault.VaultFault.{VaultFault}
use Rattle.swizzle.specs.obj_layout.declared.vault.VaultFault.TheVariants.{Device, Output, Full, Damaged}
use Rattle.swizzle.specs.obj_layout.Stored.{Space, damage_at, overwritten}
use Rattle.swizzle.specs.obj_layout.Storing.{unfiled, Becomes}
use Rattle.swizzle.specs.Objects.{size_of}
use Rattle.swizzle.specs.Heap.{Heap, IsHeld, object_at, header_at}
use Rattle.swizzle.specs.Image.{HasPids}
use Rattle.reaching.specs.Reaching.{IsIn}
use Rattle.commit_images.specs.Images.{image_of, words_of, with_images, over_images}

-- Nothing is output, and a crash leaves what it could leave before: the words and the directory, and of the moments that have been the file too.
pub record Stages (old new : Outside Space) : Type 0 where
  pub told : TellsNothing old new
  pub images : LeavesSame (unfiled old) (unfiled new)
  pub past : KeepsPast old new
  pub counts : old.device_faults ≤ new.device_faults
  pub output : new.output_faults ≡ old.output_faults

-- each of these objects lies in the area, and all to which it refers has a PID
abbrev pub AreReady : Heap → List ℕ → Type 0
AreReady heap xs = (x : ℕ) → IsIn x xs → IsHeld heap x × HasPids heap x

-- most device calls for the images of so many objects with so many words
abbrev pub most_calls : ℕ → ℕ → ℕ
most_calls words count = words / 256 + 6 * count

-- The images of these objects were stored after what was there, and so many words are used now.
pub record Appends (heap : Heap) (xs : List ℕ) (old new : Outside Space) (used now most : ℕ) : Type 0 where
  pub becomes : Becomes old new (with_images heap xs)
  pub used_is : now ≡ used + words_of heap xs
  pub room : 1 ≤ length xs → now ≤ most
  pub calls : new.device_calls ≤ old.device_calls + most_calls (words_of heap xs) (length xs)

-- One of these objects: those before it, and those behind it.
pub record IsOneOf (xs : List ℕ) : Type 0 where
  pub front : List ℕ
  pub at : ℕ
  pub back : List ℕ
  pub is : xs ≡ front ++ at ∷ back

-- The image of one of these objects has no room: so many words were used with those before it.
pub record IsFullAt (heap : Heap) (xs : List ℕ) (used most : ℕ) (found wanted capacity : ℕ) : Type 0 where
  pub one : IsOneOf xs
  pub used_is : found ≡ used + words_of heap one.front
  pub wanted_is : wanted ≡ size_of (object_at heap one.at)
  pub capacity_is : capacity ≡ most
  pub full : capacity < found + wanted

-- Why not all of these images were stored: the device failed, or there was no room for one.
pub record FailsAppend (heap : Heap) (xs : List ℕ) (old new : Outside Space) (used most : ℕ) (fault : VaultFault) : Type 0 where
  pub device : fault ≡ Device → Rose old.device_faults new.device_faults
  pub output : fault ≢ Output
  pub sound : (at found bound : ℕ) → fault ≢ Damaged at found bound
  pub full : (found wanted capacity : ℕ) → fault ≡ Full found wanted capacity → IsFullAt heap xs used most found wanted capacity

-- The words under the PID of each of these objects pass the tests of an object that is as long, in a space with the images of those before it.
unfoldable pub AreThere : Heap → List ℕ → Space → Type 0
AreThere heap [] space = Unit {0}
AreThere heap (x ∷ xs) space =
    (damage_at space.words (header_at heap x).pid (Some (size_of (object_at heap x))) ≡ None) × AreThere heap xs (overwritten (header_at heap x).pid (image_of heap x) space)

-- The images of these objects were put in place of their words.
pub record Overwrites (heap : Heap) (xs : List ℕ) (old new : Outside Space) : Type 0 where
  pub becomes : Becomes old new (over_images heap xs)
  pub there : (space : Space) → old.contents space → AreThere heap xs space
  pub calls : new.device_calls ≤ old.device_calls + most_calls (words_of heap xs) (length xs)

-- The words under the PID of one of these objects are no object that is as long, by these numbers of a test.
pub record IsDamagedAt (heap : Heap) (xs : List ℕ) (old : Outside Space) (at found bound : ℕ) : Type 0 where
  pub one : IsOneOf xs
  pub at_is : at ≡ (header_at heap one.at).pid
  pub tested : (space : Space) → old.contents space →
      damage_at (over_images heap one.front space).words at (Some (size_of (object_at heap one.at))) ≡ Some (record { found = found; wanted = bound })

-- Why not all of these images were put in place: the device failed, or the vault has no such object there.
pub record FailsOverwrite (heap : Heap) (xs : List ℕ) (old new : Outside Space) (fault : VaultFault) : Type 0 where
  pub device : fault ≡ Device → Rose old.device_faults new.device_faults
  pub output : fault ≢ Output
  pub room : (found wanted capacity : ℕ) → fault ≢ Full found wanted capacity
  pub damaged : (at found bound : ℕ) → fault ≡ Damaged at found bound → IsDamagedAt heap xs old at found bound
