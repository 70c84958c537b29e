use Rattle.std.proofs.Common.{refl, arith}
use Rattle.obj_store.specs.obj_layout.declared.kind.Kind.TheVariants.{Text}
use Rattle.obj_store_tests.proofs.pins.page_text.Goals as goal

pub returns : goal.returns
returns c = record {
  header = record { kind = Text; flags = 0; refs = 0; nums = 508; bytes = 4048; pid = 0; chain = 0 };
  fields = record { flags = omega arith; refs = omega arith; nums = omega arith; bytes = omega arith; pid = omega arith; chain = omega arith };
  lengths = record { bytes = omega arith; words = omega arith };
  spelled = refl;
  long = refl;
}
