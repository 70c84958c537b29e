-- The space that is found in an image of a volume.
use Rattle.std.specs.Prelude.{◌≡◌, ℕ, List, Option}
use Rattle.std.specs.Option.{option_map}
use Rattle.ps_volumes.specs.volume_parts.Holding.{Held}
use Rattle.ps_volumes.specs.paged_volume.Standing.{held_in}
use Rattle.ps_volumes.specs.volume_parts.declared.note.Note.{Note}
use Rattle.ps_volumes.specs.obj_layout.Stored.{Space}
use Rattle.ps_volumes.specs.obj_store.Spaces.{space_of, space_held}

-- the space that is found in an image: as many words as are used; None where no volume is found
unfoldable pub space_in : List ℕ → Option Space
space_in image = option_map (λ held. space_of held.note.used held) (held_in image)

-- two files hold the same: the same used words under the same directory, or both no volume
abbrev pub HoldSame : List ℕ → List ℕ → Type 0
HoldSame a b = space_held a ≡ space_held b

-- what is held where the pages have these bytes
abbrev pub holding : Note → List ℕ → Held
holding note bytes = record { note = note; bytes = bytes }
