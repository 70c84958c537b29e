-- What the tests of a clause's type stand for.
use Rattle.std.specs.Prelude.{Bool}
use Rattle.ps_base.specs.TyView.{TyView}
use Rattle.ps_base.specs.TyView as types
use Rattle.ps_declared.specs.ps_typing.Checking.{is_vector, is_equated, is_comparable, is_writable, isnt_void}
use Rattle.ps_checked.specs.declared.fits.Test.{Test}
use Rattle.ps_checked.specs.declared.fits.Test.TheVariants as test

-- the test of a type that stands for this one
abbrev pub test_of : Test → TyView → Bool
test_of test.NotVoid = isnt_void
test_of test.Equated = is_equated
test_of (test.Compared op) = is_comparable op
test_of test.Written = is_writable
test_of test.Vector = is_vector

-- the type that is wanted where a test fails
abbrev pub wanted_by : Test → TyView
wanted_by test.NotVoid = types.Bool
wanted_by test.Equated = types.Int
wanted_by (test.Compared op) = types.Int
wanted_by test.Written = types.Int
wanted_by test.Vector = types.Vector types.Int
