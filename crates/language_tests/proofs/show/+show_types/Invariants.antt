-- The depth that is left.
use Rattle.std.proofs.Common.{◌+◌, ◌*◌}
use Rattle.language_tests.proofs.show.+show_types.Given as goal

abbrev pub decreases-show_type : goal.decreases-show_type
decreases-show_type l = 2 * l.depth

abbrev pub decreases-show_types : goal.decreases-show_types
decreases-show_types l = 2 * l.depth + 1
