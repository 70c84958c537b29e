use Rattle.std.proofs.Common.{refl, arith}
use Rattle.obj_store.specs.obj_layout.declared.kind.Kind.TheVariants.{Text}
use Rattle.bench_volume.proofs.text.Goals as goal

pub returns : goal.returns
returns c = record {
  header = record { kind = Text; flags = 0; refs = 0; nums = 12; bytes = 88; pid = 0; chain = 0 };
  fields = record { flags = omega arith; refs = omega arith; nums = omega arith; bytes = omega arith; pid = omega arith; chain = omega arith };
  lengths = record { bytes = omega arith; words = omega arith };
  spelled = refl;
  long = refl;
}
