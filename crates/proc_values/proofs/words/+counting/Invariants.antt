-- The measures of what goes over a unit, and what the loop keeps.
use Rattle.std.proofs.Common.{◌≡◌, ◌+◌, ◌*◌, drop}
use Rattle.ps_base.specs.CodeUnit.{constant_view, constants_view, unit_view}
use Rattle.proc_values.specs.Units.{unit_words, constants_words, constant_words}
use Rattle.proc_values.proofs.words.+counting.Given as goal

abbrev pub decreases-words_of_unit : goal.decreases-words_of_unit
decreases-words_of_unit l = 3 * unit_words (unit_view l.unit.now)

abbrev pub decreases-words_of_constant : goal.decreases-words_of_constant
decreases-words_of_constant l = 3 * constant_words (constant_view l.constant.now) + 1

abbrev pub decreases-words_of_constants : goal.decreases-words_of_constants
decreases-words_of_constants l = 3 * constants_words (constants_view l.constants.now) + 2

-- what was counted, and what is left
abbrev pub invariant-words_of_constants-loop-constant : goal.invariant-words_of_constants-loop-constant
invariant-words_of_constants-loop-constant l = l.words + constants_words (constants_view (drop l.constant-index l.constants)) ≡ constants_words
    (constants_view l.constants)
