-- A vault without objects, from which nothing is ever told.
use Rattle.std.specs.Prelude.{◌≡◌, [], ◌∷◌}
use Rattle.swizzle.specs.obj_layout.ps_outside.Outside.{Outside}
use Rattle.swizzle.specs.obj_layout.Stored.{Space}

-- word 0 alone, which is no object's
abbrev pub word_0 : Space
word_0 = record { words = 0 ∷ []; directory = 0; file = [] }

abbrev pub outside : Outside Space
outside = record {
  clock = 0;
  told = λ moment bytes. ⊥;
  images = λ moment space. ⊥;
  contents = λ space. space ≡ word_0;
  device_faults = 0;
  output_faults = 0;
  device_calls = 0;
}
