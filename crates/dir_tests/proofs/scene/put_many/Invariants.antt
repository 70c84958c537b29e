use Rattle.std.specs.Prelude.{IfSome}
use Rattle.db_dir.specs.Directories.{IsShaped}
use Rattle.dir_tests.proofs.scene.put_many.Given as goal

abbrev pub invariant-loop-number : goal.invariant-loop-number
invariant-loop-number l = IfSome l.last (IsShaped l.sw)
