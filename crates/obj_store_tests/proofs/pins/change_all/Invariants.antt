use Rattle.std.proofs.Common.{◌≡◌, true}
use Rattle.obj_store_tests.proofs.pins.change_all.Given as goal

abbrev pub invariant-loop-number : goal.invariant-loop-number
invariant-loop-number l = l.store.live ≡ true
