-- A store that holds word 0 alone and no object, and tells by a host.
use Rattle.std.specs.Prelude.{◌≡◌, ℕ, List, [], ◌∷◌}
use Rattle.obj_layout.specs.ps_outside.Outside.{Outside}
use Rattle.obj_layout.specs.Stored.{Space, Holds, without_file}

-- the space of no object: word 0 alone, and no directory
abbrev pub word_0 : Space
word_0 = record { words = 0 ∷ []; directory = 0; file = [] }

-- What is seen of a store without objects. It tells what its host tells, and counts the faults of that output; it holds word 0 alone, and makes no call of
-- a device. What a crash may leave of the host's device it shows as it is, as a file beside word 0: so who leaves the images of the store leaves those of
-- the device.
abbrev pub outside_of : Outside (List ℕ) → Outside Space
outside_of host = record {
  clock = host.clock;
  told = host.told;
  images = λ moment space. host.images moment space.file × (without_file space ≡ word_0);
  contents = λ space. space ≡ word_0;
  device_faults = 0;
  output_faults = host.output_faults;
  device_calls = 0;
}

-- the outside holds no object
abbrev pub HoldsNothing : Outside Space → Type 0
HoldsNothing outside = (pid : ℕ) (words : List ℕ) → Holds outside pid words → ⊥
