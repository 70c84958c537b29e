-- A loop whose test stands after what is done, with and without something after the test.
use Rattle.std.proofs.Common.{◌≡◌, refl}
use Rattle.ps_base.specs.declared.line.Line.{Line}
use Rattle.ps_tree.specs.Phrase.{Phrase, absent, present}
use Rattle.ps_tree.specs.Phrase as form
use Rattle.ps_checked.specs.ps_typing.Names.{Names}
use Rattle.ps_checked.specs.ps_typing.Checking.{◌>>=◌, check_form}
use Rattle.ps_checked.specs.inside.Parts.{check_double, check_triple}
use Rattle.ps_checked.specs.declared.double.Double.TheVariants as double
use Rattle.ps_checked.specs.declared.triple.Triple.TheVariants as triple

pub repeat_once : (names : Names) (line : Line) (a c : Phrase) → check_form names line (form.Repeat a c absent) ≡ check_double double.Repeat names a c
unfolding ◌>>=◌
repeat_once names line a c = refl

pub repeat_twice : (names : Names) (line : Line) (a c b : Phrase) → check_form names line (form.Repeat a c (present b)) ≡ check_triple triple.Repeat names a c b
repeat_twice names line a c b = refl
