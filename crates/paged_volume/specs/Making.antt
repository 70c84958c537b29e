-- What making a volume leaves.
use Rattle.std.specs.Prelude.{◌≡◌, ◌⊎◌, ℕ, ◌+◌, ◌-◌, ◌*◌, ◌<◌, ◌≤◌, ◌&&◌, List, [], ◌∷◌, length, slice_index, nat_le, nat_lt, if◌then◌else◌}
use Rattle.byteorder.specs.Endian.{little_bytes}
use Rattle.ps_port.specs.ps_outside.Outside.{Outside, Leaves}
use Rattle.volume_parts.specs.Layout.{magic, gate}
use Rattle.volume_parts.specs.Making.{IsOld, IsShut, IsBeforeShut}
use Rattle.paged_volume.specs.Planning.{depth_of}

-- a number in a file: where it stands, how many bytes it has, and what it is
pub record Number : Type 0 where
  pub at : ℕ
  pub width : ℕ
  pub value : ℕ

abbrev pub number : ℕ → ℕ → ℕ → Number
number at width value = record { at = at; width = width; value = value }

-- The numbers of a new volume after its gate: those of page 0, of the first root page with its depth, and of the pages 4 and 5. Below 88 pages page 4
-- is the map page and names page 5; from there on it is the index page and names page 5, the map page, which names page 6.
unfoldable pub new_numbers : ℕ → List Number
new_numbers pages =
    number 1 6 magic ∷ number 7 1 2 ∷ number 8 4 pages ∷ number 8200 8 1 ∷ number 8216 4 1 ∷ number 8220 4 4 ∷ number 12284 4 (depth_of pages) ∷ number 16384 4 5
    ∷ number 20480 4 (6 * depth_of pages) ∷ []

-- byte k of a file in which these numbers stand, and otherwise zeros
unfoldable pub byte_of : List Number → ℕ → ℕ
byte_of [] k = 0
byte_of (n ∷ rest) k = if nat_le n.at k && nat_lt k (n.at + n.width) then slice_index (little_bytes n.width n.value) (k - n.at) else byte_of rest k

-- these numbers stand in bytes, and otherwise zeros
abbrev pub Stand : List Number → List ℕ → Type 0
Stand numbers bytes = (k : ℕ) → k < length bytes → slice_index bytes k ≡ byte_of numbers k

-- After the gate stands a new volume of so many pages.
pub record IsNew (pages : ℕ) (image : List ℕ) : Type 0 where
  pub long : 4096 * pages ≤ length image
  pub bytes : (k : ℕ) → 1 ≤ k → k < 4096 * pages → slice_index image k ≡ byte_of (new_numbers pages) k

-- a new volume after a gate that is shut
pub record IsBegun (pages : ℕ) (image : List ℕ) : Type 0 where
  pub is_new : IsNew pages image
  pub shut : gate image ≡ 0

-- While a volume is made: an image from before in which byte 0 may be anything; or one whose gate is shut, or after whose gate the new volume
-- stands whole.
abbrev pub IsMaking : Outside (List ℕ) → ℕ → List ℕ → Type 0
IsMaking outside pages image = IsOld outside image ⊎ (gate image ≡ 1 → IsNew pages image)

-- The gate was shut by then, for good, until at most two calls of the device were left, the last write and its sync; then the new volume stands
-- whole after the gate.
pub record OpensGate {H : Type 0} (outside : H → Outside (List ℕ)) (pages : ℕ) (old new : H) : Type 0 where
  pub shut : H
  pub full : H
  pub before : IsBeforeShut outside old shut
  pub stays : Leaves (outside shut) (outside full) IsShut
  pub opens : Leaves (outside full) (outside new) (IsNew pages)
  pub calls : (outside new).device_calls ≤ (outside full).device_calls + 2

-- how far the making of a volume came
pub data ShutsGate {H : Type 0} (outside : H → Outside (List ℕ)) (pages : ℕ) (old new : H) : Type 0 where
  not_shut : Leaves (outside old) (outside new) (IsOld (outside old)) → ShutsGate outside pages old new
  still_shut : (shut : H) → IsBeforeShut outside old shut → Leaves (outside shut) (outside new) IsShut → ShutsGate outside pages old new
  opened : OpensGate outside pages old new → ShutsGate outside pages old new
