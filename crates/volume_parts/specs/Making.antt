-- What making a volume leaves.
use Rattle.std.specs.Prelude.{◌≡◌, ◌≢◌, ◌⊎◌, ℕ, ◌+◌, ◌<◌, ◌≤◌, List, length, replicate, slice_index, Option, Some, None}
use Rattle.ps_port.specs.ps_outside.Outside.{Outside, After, Leaves, LeavesSame, SameContents, Rose}
use Rattle.ps_port.specs.Disk.{Torn}
use Rattle.volume_parts.specs.Layout.{gate}
use Rattle.volume_parts.specs.Holding.{Held}
use Rattle.volume_parts.specs.declared.note.Note.{Note}
use Rattle.volume_parts.specs.declared.format_fault.FormatFault.{FormatFault}
use Rattle.volume_parts.specs.declared.format_fault.FormatFault.TheVariants.{Device, AlreadyVolume}

-- a volume without a database: nothing is committed, word 0 alone is used
abbrev pub empty_note : Note
empty_note = record { commits = 0; used = 1; directory = 0 }

abbrev pub empty_held : Held
empty_held = record { note = empty_note; bytes = replicate 4096 0 }

-- an image from before, in which byte 0 may be anything
abbrev pub IsOld : Outside (List ℕ) → List ℕ → Type 0
IsOld outside image = After (outside.images outside.clock) (Torn 0 1) image

-- the gate is shut
pub record IsShut (image : List ℕ) : Type 0 where
  pub long : 1 ≤ length image
  pub shut : gate image ≡ 0

-- The calls up to the sync of the shut gate, at most four of the device: each image is one from before, with any byte 0.
pub record IsBeforeShut {H : Type 0} (outside : H → Outside (List ℕ)) (old shut : H) : Type 0 where
  pub images : Leaves (outside old) (outside shut) (IsOld (outside old))
  pub calls : (outside shut).device_calls ≤ (outside old).device_calls + 4

-- up to one moment each image is one from before, with any byte 0, and from there on the gate of each is shut
pub record StaysShut (old new : Outside (List ℕ)) : Type 0 where
  pub shut_from : ℕ
  pub from : old.clock ≤ shut_from
  pub until : shut_from ≤ new.clock
  pub before : (m : ℕ) (image : List ℕ) → old.clock ≤ m → m ≤ shut_from → new.images m image → IsOld old image
  pub shut : (m : ℕ) (image : List ℕ) → shut_from ≤ m → m ≤ new.clock → new.images m image → IsShut image

-- no volume is found there: there are too few bytes, or the gate isn't open
abbrev pub IsNone : List ℕ → Type 0
IsNone bytes = (length bytes < 16384) ⊎ (gate bytes ≢ 1)

-- why none was made
abbrev pub IsCause : Outside (List ℕ) → Outside (List ℕ) → FormatFault → Type 0
IsCause old new Device = Rose old.device_faults new.device_faults
IsCause old new (AlreadyVolume g) =
    LeavesSame old new × SameContents old new × ((bytes : List ℕ) → old.contents bytes → (16384 ≤ length bytes) × (g ≡ gate bytes) × (gate bytes ≡ 1))

-- zeros were written from one place up to another: what stood before them stays
pub record IsZeroed (from to : ℕ) (old new : List ℕ) : Type 0 where
  pub long : to ≤ length new
  pub before : (k : ℕ) → k < from → slice_index new k ≡ slice_index old k
  pub zeros : (k : ℕ) → from ≤ k → k < to → slice_index new k ≡ 0

-- the gate of a volume that is there, or none where there is no volume
abbrev pub IsGateOf : List ℕ → Option ℕ → Type 0
IsGateOf bytes (Some g) = (16384 ≤ length bytes) × (g ≡ gate bytes) × (gate bytes ≡ 1)
IsGateOf bytes None = IsNone bytes
