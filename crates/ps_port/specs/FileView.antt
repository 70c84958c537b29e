-- What is seen of a host that tells nothing of its content: the counts alone.
use Rattle.std.specs.Prelude.{ℕ, List}
use Rattle.ps_outside.specs.Outside.{Outside}

abbrev pub silent : ℕ → ℕ → ℕ → ℕ → Outside (List ℕ)
silent clock device_calls device_faults output_faults = record {
  clock = clock;
  told = λ moment bytes. ⊥;
  images = λ moment image. ⊥;
  contents = λ bytes. ⊥;
  device_faults = device_faults;
  output_faults = output_faults;
  device_calls = device_calls;
}
