use Rattle.std.proofs.Common.{◌+◌, ◌*◌, length}
use Rattle.text_forms.specs.inside.Reading.{AreSame, BeginsParameters, BeginsFurther}
use Rattle.text_forms.proofs.strict.+reading.Given as goal

abbrev pub decreases-behind_parameters : goal.decreases-behind_parameters
decreases-behind_parameters l = 3 * l.depth + 2

abbrev pub decreases-behind_result : goal.decreases-behind_result
decreases-behind_result l = 3 * l.depth + 1

abbrev pub decreases-behind_type : goal.decreases-behind_type
decreases-behind_type l = 3 * l.depth

-- after each parameter stand the further ones
abbrev pub invariant-behind_parameters-loop-next : goal.invariant-behind_parameters-loop-next
invariant-behind_parameters-loop-next l = AreSame (BeginsParameters l.depth l.rest) (BeginsFurther l.depth l.left)

abbrev pub decreases-behind_parameters-loop-next : goal.decreases-behind_parameters-loop-next
decreases-behind_parameters-loop-next l = length l.left
