-- The depth that is left.
use Rattle.std.proofs.Common.{◌+◌, ◌*◌}
use Rattle.language_tests.proofs.show.+show.Given as goal

abbrev pub decreases-show : goal.decreases-show
decreases-show l = 10 * l.depth

abbrev pub decreases-show_lists : goal.decreases-show_lists
decreases-show_lists l = 10 * l.depth + 8

abbrev pub decreases-show_clauses : goal.decreases-show_clauses
decreases-show_clauses l = 10 * l.depth + 7

abbrev pub decreases-show_pairs : goal.decreases-show_pairs
decreases-show_pairs l = 10 * l.depth + 6

abbrev pub decreases-show_one : goal.decreases-show_one
decreases-show_one l = 10 * l.depth + 1

abbrev pub decreases-show_two : goal.decreases-show_two
decreases-show_two l = 10 * l.depth + 2

abbrev pub decreases-show_three : goal.decreases-show_three
decreases-show_three l = 10 * l.depth + 3

abbrev pub decreases-show_maybe : goal.decreases-show_maybe
decreases-show_maybe l = 10 * l.depth + 2

abbrev pub decreases-show_all : goal.decreases-show_all
decreases-show_all l = 10 * l.depth + 2

abbrev pub decreases-show_arms : goal.decreases-show_arms
decreases-show_arms l = 10 * l.depth + 3

abbrev pub decreases-show_items : goal.decreases-show_items
decreases-show_items l = 10 * l.depth + 3
