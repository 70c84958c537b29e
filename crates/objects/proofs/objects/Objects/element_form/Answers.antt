use Rattle.joint_ops.specs.text_forms.declared.forms.Form.{Form}
use Rattle.objects.proofs.LastingLaws.{keeps-lasts}
use Rattle.objects.proofs.KnownLaws.{right-stays}
use Rattle.objects.proofs.BrokenLaws.{keeps-broken}
use Rattle.objects.proofs.objects.Objects.element_form.Goals as goal

pub invariant_of-self : goal.invariant_of-self
invariant_of-self g c =
    right-stays c.self.inside.sw c.form_of-got.new.sw c.self.inside.known c.self.invariant (keeps-lasts c.self.inside.sw c.form_of-got.new.sw c.in-Ok.ensures.keeps)

pub invariant_of-self-in-Err : goal.invariant_of-self-in-Err
invariant_of-self-in-Err g c =
    c.keep.ensures.right c.self.inside.sw c.form_of-got.new.sw c.self.invariant (keeps-broken Form c.self.inside.sw c.form_of-got.new.sw c.in-Err.fault c.in-Err.ensures.keeps)

pub returns-in-Ok-clause-got : goal.returns-in-Ok-clause-got
returns-in-Ok-clause-got g c = rw c.self.view_is at c.in-Ok.ensures.got
