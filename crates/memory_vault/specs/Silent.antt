-- An outside that tells nothing of itself.
use Rattle.obj_layout.specs.ps_outside.Outside.{Outside}

abbrev pub nothing_told : {X : Type 0} → Outside X
nothing_told = record {
  clock = 0;
  told = λ m bytes. ⊥;
  images = λ m x. ⊥;
  contents = λ x. ⊥;
  device_faults = 0;
  output_faults = 0;
  device_calls = 0;
}
