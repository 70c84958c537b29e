use Rattle.std.proofs.Common.{ap, ◌∙◌}
use Rattle.heap_meaning.specs.text_forms.Forms.{element_of}
use Rattle.joint_ops.proofs.SeenLaws.{vector-denoted, vector-at}
use Rattle.joint_ops.proofs.ElementLaws.{answers-form, breaks-form}
use Rattle.joint_ops.proofs.vectors.form_of.Goals as goal

pub returns-in-Ok-clause-got : goal.returns-in-Ok-clause-got
returns-in-Ok-clause-got g c of names id world d =
    let old = c.args.sw.now in
    let before = g.V.Vault.outside c.args.vault.now in
    answers-form old c.first_text-touched.new.sw before (g.V.Vault.outside c.first_text-touched.new.vault) of names
    c.sound.ensures c.sound-2.ensures world
    (g.met.V.Vault.one c.args.vault.now) (g.met.V.Vault.one c.first_text-touched.new.vault) c.args.vector id c.in-Ok.text c.element_form.result
    (vector-at old before of names c.args.vector id c.sound.ensures world
    (vector-denoted old before names c.args.vector id c.sound.ensures d)) c.in-Ok.ensures.touched
    (c.element_form.ensures ∙ ap element_of c.text.ensures.value)

pub returns-in-Err-clause-got : goal.returns-in-Err-clause-got
returns-in-Err-clause-got g c of names id world d =
    let old = c.args.sw.now in
    let before = g.V.Vault.outside c.args.vault.now in
    breaks-form old c.first_text-touched.new.sw before (g.V.Vault.outside c.first_text-touched.new.vault) of names
    c.sound.ensures c.sound-2.ensures world
    (g.met.V.Vault.one c.args.vault.now) (g.met.V.Vault.one c.first_text-touched.new.vault) c.args.vector id c.in-Err.fault
    (vector-at old before of names c.args.vector id c.sound.ensures world
    (vector-denoted old before names c.args.vector id c.sound.ensures d)) c.in-Err.ensures.touched

pub returns-in-Ok-clause-keeps : goal.returns-in-Ok-clause-keeps
returns-in-Ok-clause-keeps g c = c.in-Ok.ensures.touched.reads.keeps
