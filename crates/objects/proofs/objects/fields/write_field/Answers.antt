use Rattle.std.proofs.Common.{◌≡◌, sym, ◌∙◌, subst}
use Rattle.std.specs.Prelude.{Ok, Err}
use Rattle.joint_ops.specs.swizzle.Heap.{Stands as AllStand}
use Rattle.joint_ops.specs.swizzle.Text.{text_at}
use Rattle.joint_ops.specs.heap_texts.declared.fault.OpFault.{OpFault}
use Rattle.joint_ops.specs.heap_places.Places.{IsNear}
use Rattle.joint_ops.specs.heap_ops.Outcomes.{UnlessFault}
use Rattle.joint_ops.specs.World.{BreaksAsReading}
use Rattle.objects.specs.Putting.{NotesWritten}
use Rattle.objects.proofs.LastingLaws.{keeps-lasts}
use Rattle.objects.proofs.KnownLaws.{right-stays, right-layouts, right-fields}
use Rattle.objects.proofs.LaterLaws.{SetsAll, field-written, found-lacks-place, found-other, none-found, held-later, stands-later, breaks-later}
use Rattle.objects.proofs.BrokenLaws.{size-later}
use Rattle.objects.proofs.PuttingLaws.{kept-near, near-later, notes-later, sets-notes, sets-lasts, unless-lasts}
use Rattle.objects.proofs.objects.fields.write_field.Goals as goal

pub returns-in-Err-clause-right : goal.returns-in-Err-clause-right
returns-in-Err-clause-right g c = c.clear.ensures c.class_at.new.sw

pub locate-requires-clause-so : goal.locate-requires-clause-so
locate-requires-clause-so g c =
    (right-stays c.args.sw.now c.class_at.new.sw c.args.known.now c.requires.right (keeps-lasts c.args.sw.now c.class_at.new.sw c.in-Ok.ensures.keeps)).layouts

pub returns-in_default-clause-set : goal.returns-in_default-clause-set
returns-in_default-clause-set g c of names class l o v w n is row d for =
    absurd (none-found c.args.sw.now c.class_at.new.sw (g.V.Vault.outside c.args.vault.now) (g.V.Vault.outside c.class_at.new.vault) c.args.code c.args.constant
    c.args.field c.in-Ok.class c.sound.ensures c.in-Ok.ensures.given class l n is (sym c.locate.ensures.place ∙ c.in_default.is))

pub returns-in_default-clause-right : goal.returns-in_default-clause-right
returns-in_default-clause-right g c =
    let mid = c.class_at.new.sw in
    right-layouts mid c.args.known.now c.locate.new.self
    (right-stays c.args.sw.now mid c.args.known.now c.requires.right (keeps-lasts c.args.sw.now mid c.in-Ok.ensures.keeps)) c.locate.ensures.so

pub returns-in_default-kept-clause-set : goal.returns-in_default-kept-clause-set
returns-in_default-kept-clause-set g c of names class l o v w n is row d for =
    absurd (found-other c.args.sw.now c.class_at.new.sw c.class_at.new.sw (g.V.Vault.outside c.args.vault.now) (g.V.Vault.outside c.class_at.new.vault)
    (g.V.Vault.outside c.class_at.new.vault) c.args.code c.args.constant c.args.field c.in-Ok.class c.args.object c.in-Some.located c.sound.ensures
    c.in-Ok.ensures.keeps c.in-Ok.ensures.leaves c.in-Ok.ensures.world c.in-Ok.ensures.given c.in-Some.ensures.place c.args.to class l c.in_default-kept.ensures n is
    row)

pub returns-in_default-kept-clause-right : goal.returns-in_default-kept-clause-right
returns-in_default-kept-clause-right g c =
    let mid = c.class_at.new.sw in
    right-layouts mid c.args.known.now c.locate.new.self
    (right-stays c.args.sw.now mid c.args.known.now c.requires.right (keeps-lasts c.args.sw.now mid c.in-Ok.ensures.keeps)) c.locate.ensures.so

pub set_field-set-requires-clause-near : goal.set_field-set-requires-clause-near
set_field-set-requires-clause-near g c =
    let kept = c.in-Some-kept.ensures in
    subst (IsNear c.class_at.new.sw) (sym kept.2)
    (kept-near c.class_at.new.sw c.in-Some.located.place.form c.args.to kept.0
    (near-later c.args.sw.now c.class_at.new.sw c.args.to c.in-Ok.ensures.keeps c.requires.near))

pub learn-requires-clause-so : goal.learn-requires-clause-so
learn-requires-clause-so g c =
    let mid = c.class_at.new.sw in
    let new = c.set_field-set.new.sw in
    let right = right-stays c.args.sw.now mid c.args.known.now c.requires.right (keeps-lasts c.args.sw.now mid c.in-Ok.ensures.keeps) in
    (right-stays mid new c.args.known.now right
    (sets-lasts mid new (g.V.Vault.outside c.class_at.new.vault) (g.V.Vault.outside c.set_field-set.new.vault) c.args.object (text_at mid c.in-Ok.class)
    c.in-Some.located c.in-Some-kept.value (Ok tt) (held-later c.args.sw.now mid c.args.object c.in-Ok.ensures.keeps c.requires.held) c.in-Ok-set.ensures.does)).fields

pub returns-in-Ok-set-clause-set : goal.returns-in-Ok-set-clause-set
returns-in-Ok-set-clause-set g c =
    let kept = c.in-Some-kept.ensures in
    field-written c.args.sw.now c.class_at.new.sw c.set_field-set.new.sw (g.V.Vault.outside c.args.vault.now) (g.V.Vault.outside c.class_at.new.vault)
    (g.V.Vault.outside c.set_field-set.new.vault) c.args.code c.args.constant c.args.field c.in-Ok.class c.args.object c.in-Some.located c.sound.ensures
    c.in-Ok.ensures.keeps c.in-Ok.ensures.leaves c.in-Ok.ensures.world c.in-Ok.ensures.given c.in-Some.ensures.place c.args.to c.in-Some-kept.value (Ok tt)
    kept.0 kept.2 c.in-Ok-set.ensures.set

pub returns-in-Ok-set-clause-damaged : goal.returns-in-Ok-set-clause-damaged
returns-in-Ok-set-clause-damaged g c lacks =
    absurd (found-lacks-place c.args.sw.now c.class_at.new.sw c.set_field-set.new.sw (g.V.Vault.outside c.args.vault.now) (g.V.Vault.outside c.class_at.new.vault)
    (g.V.Vault.outside c.set_field-set.new.vault) c.args.code c.args.constant c.args.field c.in-Ok.class c.args.object c.in-Some.located c.sound.ensures
    c.in-Ok.ensures.keeps c.in-Ok.ensures.leaves c.in-Ok.ensures.world c.in-Ok.ensures.given c.in-Some.ensures.place c.args.to c.in-Some-kept.ensures.0 lacks)

pub returns-in-Ok-set-clause-notes : goal.returns-in-Ok-set-clause-notes
returns-in-Ok-set-clause-notes g c =
    let mid = c.class_at.new.sw in
    let new = c.set_field-set.new.sw in
    notes-later c.args.sw.now mid new c.args.object (Ok tt) c.in-Ok.ensures.keeps c.requires.held
    (sets-notes mid new (g.V.Vault.outside c.class_at.new.vault) (g.V.Vault.outside c.set_field-set.new.vault) c.args.object (text_at mid c.in-Ok.class)
    c.in-Some.located c.in-Some-kept.value (Ok tt) (held-later c.args.sw.now mid c.args.object c.in-Ok.ensures.keeps c.requires.held) c.in-Ok-set.ensures.does)

pub returns-in-Ok-set-clause-stands : goal.returns-in-Ok-set-clause-stands
returns-in-Ok-set-clause-stands g c =
    stands-later {T = Unit {0}} c.args.sw.now c.class_at.new.sw c.set_field-set.new.sw (Ok (tt {0})) c.in-Ok.ensures.keeps c.in-Ok-set.ensures.stands

pub returns-in-Ok-set-clause-right : goal.returns-in-Ok-set-clause-right
returns-in-Ok-set-clause-right g c =
    let mid = c.class_at.new.sw in
    let new = c.set_field-set.new.sw in
    right-fields new (record c.args.known.now { layouts = c.locate.new.self }) c.learn.new.self
    (right-stays mid new (record c.args.known.now { layouts = c.locate.new.self }) (right-layouts mid c.args.known.now c.locate.new.self
    (right-stays c.args.sw.now mid c.args.known.now c.requires.right (keeps-lasts c.args.sw.now mid c.in-Ok.ensures.keeps)) c.locate.ensures.so) (sets-lasts mid new (g.V.Vault.outside c.class_at.new.vault) (g.V.Vault.outside c.set_field-set.new.vault) c.args.object (text_at mid c.in-Ok.class)
    c.in-Some.located c.in-Some-kept.value (Ok tt) (held-later c.args.sw.now mid c.args.object c.in-Ok.ensures.keeps c.requires.held)
    c.in-Ok-set.ensures.does)) c.learn.ensures

pub returns-in-Err-set-clause-set : goal.returns-in-Err-set-clause-set
returns-in-Err-set-clause-set g c =
    let start = g.V.Vault.outside c.args.vault.now in
    let after = g.V.Vault.outside c.set_field-set.new.vault in
    let kept = c.in-Some-kept.ensures in
    subst (λ (f : OpFault). SetsAll c.args.sw.now c.set_field-set.new.sw start after c.args.code c.args.constant c.args.field c.args.object c.args.to (Err f))
    (sym c.keep.ensures.same)
    (field-written c.args.sw.now c.class_at.new.sw c.set_field-set.new.sw start (g.V.Vault.outside c.class_at.new.vault) after c.args.code c.args.constant
    c.args.field c.in-Ok.class c.args.object c.in-Some.located c.sound.ensures c.in-Ok.ensures.keeps c.in-Ok.ensures.leaves c.in-Ok.ensures.world
    c.in-Ok.ensures.given c.in-Some.ensures.place c.args.to c.in-Some-kept.value (Err c.in-Err-set.fault) kept.0 kept.2 c.in-Err-set.ensures.set)

pub returns-in-Err-set-clause-damaged : goal.returns-in-Err-set-clause-damaged
returns-in-Err-set-clause-damaged g c lacks =
    absurd (found-lacks-place c.args.sw.now c.class_at.new.sw c.set_field-set.new.sw (g.V.Vault.outside c.args.vault.now) (g.V.Vault.outside c.class_at.new.vault)
    (g.V.Vault.outside c.set_field-set.new.vault) c.args.code c.args.constant c.args.field c.in-Ok.class c.args.object c.in-Some.located c.sound.ensures
    c.in-Ok.ensures.keeps c.in-Ok.ensures.leaves c.in-Ok.ensures.world c.in-Ok.ensures.given c.in-Some.ensures.place c.args.to c.in-Some-kept.ensures.0 lacks)

pub returns-in-Err-set-clause-notes : goal.returns-in-Err-set-clause-notes
returns-in-Err-set-clause-notes g c =
    let mid = c.class_at.new.sw in
    let new = c.set_field-set.new.sw in
    subst (λ (f : OpFault). NotesWritten c.args.sw.now new c.args.object (Err f)) (sym c.keep.ensures.same)
    (notes-later c.args.sw.now mid new c.args.object (Err c.in-Err-set.fault) c.in-Ok.ensures.keeps c.requires.held
    (sets-notes mid new (g.V.Vault.outside c.class_at.new.vault) (g.V.Vault.outside c.set_field-set.new.vault) c.args.object (text_at mid c.in-Ok.class)
    c.in-Some.located c.in-Some-kept.value (Err c.in-Err-set.fault) (held-later c.args.sw.now mid c.args.object c.in-Ok.ensures.keeps c.requires.held)
    c.in-Err-set.ensures.does))

pub returns-in-Err-set-clause-stands : goal.returns-in-Err-set-clause-stands
returns-in-Err-set-clause-stands g c =
    let new = c.set_field-set.new.sw in
    subst (λ (f : OpFault). UnlessFault {T = Unit {0}} (Err f) (AllStand c.args.sw.now new)) (sym c.keep.ensures.same)
    (stands-later {T = Unit {0}} c.args.sw.now c.class_at.new.sw new (Err c.in-Err-set.fault) c.in-Ok.ensures.keeps c.in-Err-set.ensures.stands)

pub returns-in-Err-set-clause-fails : goal.returns-in-Err-set-clause-fails
returns-in-Err-set-clause-fails g c =
    let start = g.V.Vault.outside c.args.vault.now in
    let before = g.V.Vault.outside c.class_at.new.vault in
    let after = g.V.Vault.outside c.set_field-set.new.vault in
    subst (λ (f : OpFault). BreaksAsReading {T = Unit {0}} start after (Err f)) (sym c.keep.ensures.same)
    (breaks-later {T = Unit {0}} start before after (Err c.in-Err-set.fault) c.in-Ok.ensures.leaves c.in-Err-set.ensures.fails)

pub returns-in-Err-set-clause-right : goal.returns-in-Err-set-clause-right
returns-in-Err-set-clause-right g c =
    let mid = c.class_at.new.sw in
    let new = c.set_field-set.new.sw in
    c.keep.ensures.right mid new (right-layouts mid c.args.known.now c.locate.new.self
    (right-stays c.args.sw.now mid c.args.known.now c.requires.right (keeps-lasts c.args.sw.now mid c.in-Ok.ensures.keeps)) c.locate.ensures.so) (unless-lasts (Unit {0}) mid new c.in-Err-set.fault
    (sets-lasts mid new (g.V.Vault.outside c.class_at.new.vault) (g.V.Vault.outside c.set_field-set.new.vault) c.args.object (text_at mid c.in-Ok.class)
    c.in-Some.located c.in-Some-kept.value (Err c.in-Err-set.fault) (held-later c.args.sw.now mid c.args.object c.in-Ok.ensures.keeps c.requires.held)
    c.in-Err-set.ensures.does))

pub returns-in-Ok-set-clause-size : goal.returns-in-Ok-set-clause-size
returns-in-Ok-set-clause-size g c =
    let mid = c.class_at.new.sw in
    let new = c.set_field-set.new.sw in
    size-later {T = Unit {0}} c.args.sw.now mid new (Ok (tt {0})) c.in-Ok.ensures.keeps
    (sets-lasts mid new (g.V.Vault.outside c.class_at.new.vault) (g.V.Vault.outside c.set_field-set.new.vault) c.args.object (text_at mid c.in-Ok.class)
    c.in-Some.located c.in-Some-kept.value (Ok tt) (held-later c.args.sw.now mid c.args.object c.in-Ok.ensures.keeps c.requires.held)
    c.in-Ok-set.ensures.does)

pub returns-in-Err-set-clause-size : goal.returns-in-Err-set-clause-size
returns-in-Err-set-clause-size g c =
    let mid = c.class_at.new.sw in
    let new = c.set_field-set.new.sw in
    let old = c.args.sw.now in
    subst (λ (f : OpFault). UnlessFault {T = Unit {0}} (Err f) (new.size ≡ old.size)) (sym c.keep.ensures.same)
    (size-later {T = Unit {0}} old mid new (Err c.in-Err-set.fault) c.in-Ok.ensures.keeps
    (sets-lasts mid new (g.V.Vault.outside c.class_at.new.vault) (g.V.Vault.outside c.set_field-set.new.vault) c.args.object (text_at mid c.in-Ok.class)
    c.in-Some.located c.in-Some-kept.value (Err c.in-Err-set.fault) (held-later c.args.sw.now mid c.args.object c.in-Ok.ensures.keeps c.requires.held)
    c.in-Err-set.ensures.does))
