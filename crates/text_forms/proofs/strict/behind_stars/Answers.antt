use Rattle.text_forms.proofs.Reading.{same-steps, star-same}
use Rattle.text_forms.proofs.strict.behind_stars.Goals as goal

pub loop-element-preserved : goal.loop-element-preserved
loop-element-preserved c depth = same-steps (c.loop-element.invariant depth)
    (star-same depth c.loop-element.left.now c.in-Some.element.now c.in-Some.ensures.left.spelled)
