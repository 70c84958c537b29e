use Rattle.std.proofs.Common.{◌↔◌, length}
use Rattle.text_forms.specs.Strict.{deepest}
use Rattle.text_forms.specs.inside.Reading.{AreFields, AreFurther}
use Rattle.text_forms.proofs.strict.are_fields.Given as goal

-- after each field stand the further ones
abbrev pub invariant-loop-next : goal.invariant-loop-next
invariant-loop-next l = AreFields deepest l.fn.rest ↔ AreFurther deepest l.left

abbrev pub decreases-loop-next : goal.decreases-loop-next
decreases-loop-next l = length l.left
