use Rattle.std.proofs.Common.{sym, ◌∙◌, subst}
use Rattle.std.specs.Prelude.{Ok, Err}
use Rattle.joint_ops.specs.heap_texts.declared.fault.OpFault.{OpFault}
use Rattle.joint_ops.specs.heap_places.declared.value.Value.{Value}
use Rattle.joint_ops.specs.World.{BreaksAsReading}
use Rattle.objects.proofs.LastingLaws.{keeps-lasts}
use Rattle.objects.proofs.KnownLaws.{right-stays, right-layouts, right-fields}
use Rattle.objects.proofs.LaterLaws.{field-answered, found-lacks, none-found, unless-broken, breaks-later}
use Rattle.objects.proofs.ReachedLaws.{GetsAll}
use Rattle.objects.proofs.objects.fields.read_field.Goals as goal

pub returns-in-Err-clause-right : goal.returns-in-Err-clause-right
returns-in-Err-clause-right g c = c.clear.ensures c.class_at.new.sw

pub locate-requires-clause-so : goal.locate-requires-clause-so
locate-requires-clause-so g c =
    (right-stays c.args.sw.now c.class_at.new.sw c.args.known.now c.requires.right (keeps-lasts c.args.sw.now c.class_at.new.sw c.in-Ok.ensures.keeps)).layouts

pub returns-in_default-clause-got : goal.returns-in_default-clause-got
returns-in_default-clause-got g c of names class l o w n is d =
    absurd (none-found c.args.sw.now c.class_at.new.sw (g.V.Vault.outside c.args.vault.now) (g.V.Vault.outside c.class_at.new.vault) c.args.code c.args.constant
    c.args.field c.in-Ok.class c.sound.ensures c.in-Ok.ensures.given class l n is (sym c.locate.ensures.place ∙ c.in_default.is))

pub returns-in_default-clause-right : goal.returns-in_default-clause-right
returns-in_default-clause-right g c =
    let mid = c.class_at.new.sw in
    right-layouts mid c.args.known.now c.locate.new.self
    (right-stays c.args.sw.now mid c.args.known.now c.requires.right (keeps-lasts c.args.sw.now mid c.in-Ok.ensures.keeps)) c.locate.ensures.so

pub learn-requires-clause-so : goal.learn-requires-clause-so
learn-requires-clause-so g c =
    let mid = c.class_at.new.sw in
    let new = c.get_field-got.new.sw in
    let right = right-stays c.args.sw.now mid c.args.known.now c.requires.right (keeps-lasts c.args.sw.now mid c.in-Ok.ensures.keeps) in
    (right-stays mid new c.args.known.now right (keeps-lasts mid new c.in-Ok-got.ensures.keeps)).fields

pub returns-in-Ok-got-clause-got : goal.returns-in-Ok-got-clause-got
returns-in-Ok-got-clause-got g c =
    field-answered c.args.sw.now c.class_at.new.sw c.get_field-got.new.sw (g.V.Vault.outside c.args.vault.now) (g.V.Vault.outside c.class_at.new.vault)
    (g.V.Vault.outside c.get_field-got.new.vault) c.args.code c.args.constant c.args.field c.in-Ok.class c.args.object c.in-Some.located c.sound.ensures
    c.in-Ok.ensures.keeps c.in-Ok.ensures.leaves c.in-Ok.ensures.world c.in-Ok.ensures.given c.in-Some.ensures.place (Ok c.in-Ok-got.value) c.in-Ok-got.ensures.got

pub returns-in-Ok-got-clause-damaged : goal.returns-in-Ok-got-clause-damaged
returns-in-Ok-got-clause-damaged g c lacks =
    absurd (found-lacks c.args.sw.now c.class_at.new.sw c.get_field-got.new.sw (g.V.Vault.outside c.args.vault.now) (g.V.Vault.outside c.class_at.new.vault)
    (g.V.Vault.outside c.get_field-got.new.vault) c.args.code c.args.constant c.args.field c.in-Ok.class c.args.object c.in-Some.located c.sound.ensures
    c.in-Ok.ensures.keeps c.in-Ok.ensures.leaves c.in-Ok.ensures.world c.in-Ok.ensures.given c.in-Some.ensures.place lacks)

pub returns-in-Ok-got-clause-right : goal.returns-in-Ok-got-clause-right
returns-in-Ok-got-clause-right g c =
    let mid = c.class_at.new.sw in
    let new = c.get_field-got.new.sw in
    right-fields new (record c.args.known.now { layouts = c.locate.new.self }) c.learn.new.self
    (right-stays mid new (record c.args.known.now { layouts = c.locate.new.self }) (right-layouts mid c.args.known.now c.locate.new.self
    (right-stays c.args.sw.now mid c.args.known.now c.requires.right (keeps-lasts c.args.sw.now mid c.in-Ok.ensures.keeps)) c.locate.ensures.so) (keeps-lasts mid new c.in-Ok-got.ensures.keeps)) c.learn.ensures

pub returns-in-Err-got-clause-got : goal.returns-in-Err-got-clause-got
returns-in-Err-got-clause-got g c =
    let start = g.V.Vault.outside c.args.vault.now in
    let after = g.V.Vault.outside c.get_field-got.new.vault in
    subst (λ (f : OpFault). GetsAll c.args.sw.now c.get_field-got.new.sw start after c.args.code c.args.constant c.args.field c.args.object (Err f))
    (sym c.keep.ensures.same)
    (field-answered c.args.sw.now c.class_at.new.sw c.get_field-got.new.sw start (g.V.Vault.outside c.class_at.new.vault) after c.args.code c.args.constant
    c.args.field c.in-Ok.class c.args.object c.in-Some.located c.sound.ensures c.in-Ok.ensures.keeps c.in-Ok.ensures.leaves c.in-Ok.ensures.world
    c.in-Ok.ensures.given c.in-Some.ensures.place (Err c.in-Err-got.fault) c.in-Err-got.ensures.got)

pub returns-in-Err-got-clause-damaged : goal.returns-in-Err-got-clause-damaged
returns-in-Err-got-clause-damaged g c lacks =
    absurd (found-lacks c.args.sw.now c.class_at.new.sw c.get_field-got.new.sw (g.V.Vault.outside c.args.vault.now) (g.V.Vault.outside c.class_at.new.vault)
    (g.V.Vault.outside c.get_field-got.new.vault) c.args.code c.args.constant c.args.field c.in-Ok.class c.args.object c.in-Some.located c.sound.ensures
    c.in-Ok.ensures.keeps c.in-Ok.ensures.leaves c.in-Ok.ensures.world c.in-Ok.ensures.given c.in-Some.ensures.place lacks)

pub returns-in-Err-got-clause-fails : goal.returns-in-Err-got-clause-fails
returns-in-Err-got-clause-fails g c =
    let start = g.V.Vault.outside c.args.vault.now in
    let before = g.V.Vault.outside c.class_at.new.vault in
    let after = g.V.Vault.outside c.get_field-got.new.vault in
    subst (λ (f : OpFault). BreaksAsReading {T = Value} start after (Err f)) (sym c.keep.ensures.same)
    (breaks-later {T = Value} start before after (Err c.in-Err-got.fault) c.in-Ok.ensures.leaves c.in-Err-got.ensures.fails)

pub returns-in-Err-got-clause-right : goal.returns-in-Err-got-clause-right
returns-in-Err-got-clause-right g c =
    let mid = c.class_at.new.sw in
    let new = c.get_field-got.new.sw in
    c.keep.ensures.right mid new (right-layouts mid c.args.known.now c.locate.new.self
    (right-stays c.args.sw.now mid c.args.known.now c.requires.right (keeps-lasts c.args.sw.now mid c.in-Ok.ensures.keeps)) c.locate.ensures.so) (unless-broken Value mid new c.in-Err-got.fault c.in-Err-got.ensures.keeps)
