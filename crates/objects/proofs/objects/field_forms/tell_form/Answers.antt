use Rattle.std.proofs.Common.{List, ℕ, sym, ap, ◌∙◌}
use Rattle.joint_ops.specs.text_forms.Forms.{forms_of, located_in}
use Rattle.objects.proofs.LastingLaws.{keeps-lasts}
use Rattle.objects.proofs.KnownLaws.{right-stays}
use Rattle.objects.proofs.NamedLaws.{damaged-earlier}
use Rattle.objects.proofs.FieldForms.{form-failed, form-found, form-lacks}
use Rattle.objects.proofs.objects.field_forms.tell_form.Goals as goal

pub returns-in-Err-clause-given : goal.returns-in-Err-clause-given
returns-in-Err-clause-given g c bytes row frame is =
    form-failed c.args.sw.now c.class_at.new.sw (g.V.Vault.outside c.args.vault.now) (g.V.Vault.outside c.class_at.new.vault) c.args.code c.args.constant
    c.args.field row c.in-Err.fault (c.in-Err.ensures.given bytes row frame is)

pub returns-in-Err-clause-right : goal.returns-in-Err-clause-right
returns-in-Err-clause-right g c = c.clear.ensures c.class_at.new.sw

pub returns-in-Some-clause-given : goal.returns-in-Some-clause-given
returns-in-Some-clause-given g c bytes row frame is =
    form-found c.args.sw.now c.class_at.new.sw (g.V.Vault.outside c.args.vault.now) (g.V.Vault.outside c.class_at.new.vault) c.args.code c.args.constant
    c.args.field row c.in-Ok.class c.sound.ensures (c.in-Ok.ensures.given bytes row frame is) c.in-Some.located
    (sym c.in-Some.is ∙ c.locate.ensures ∙ ap (λ (x : List ℕ). located_in (forms_of x) c.args.field) c.text.ensures.value)

pub returns-in-Some-clause-right : goal.returns-in-Some-clause-right
returns-in-Some-clause-right g c =
    right-stays c.args.sw.now c.class_at.new.sw c.args.known.now c.requires.right (keeps-lasts c.args.sw.now c.class_at.new.sw c.in-Ok.ensures.keeps)

pub returns-in-None-clause-given : goal.returns-in-None-clause-given
returns-in-None-clause-given g c bytes row frame is =
    form-lacks c.args.sw.now c.class_at.new.sw (g.V.Vault.outside c.args.vault.now) (g.V.Vault.outside c.class_at.new.vault) c.args.code c.args.constant
    c.args.field row c.in-Ok.class c.sound.ensures (c.in-Ok.ensures.given bytes row frame is) c.no_field.result
    (damaged-earlier c.args.sw.now c.class_at.new.sw c.args.code c.no_field.result c.in-Ok.ensures.keeps c.requires.held c.no_field.ensures)
    (ap (λ (x : List ℕ). located_in (forms_of x) c.args.field) (sym c.text.ensures.value) ∙ sym c.locate.ensures ∙ c.in-None.is)

pub returns-in-None-clause-right : goal.returns-in-None-clause-right
returns-in-None-clause-right g c =
    right-stays c.args.sw.now c.class_at.new.sw c.args.known.now c.requires.right (keeps-lasts c.args.sw.now c.class_at.new.sw c.in-Ok.ensures.keeps)
