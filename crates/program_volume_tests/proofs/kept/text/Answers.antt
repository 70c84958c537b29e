use Rattle.std.proofs.Common.{refl, arith}
use Rattle.command_answers.specs.obj_layout.declared.kind.Kind.TheVariants.{Text}
use Rattle.program_volume_tests.proofs.kept.text.Goals as goal

pub returns : goal.returns
returns c = record {
  header = record { kind = Text; flags = 0; refs = 0; nums = 2; bytes = 8; pid = 0; chain = 0 };
  fields = record { flags = omega arith; refs = omega arith; nums = omega arith; bytes = omega arith; pid = omega arith; chain = omega arith };
  lengths = record { bytes = omega arith; words = omega arith };
  spelled = refl;
  long = refl;
}
