use Rattle.std.proofs.Common.{sym, subst}
use Rattle.std.specs.Prelude.{Bool, Ok, Err}
use Rattle.joint_ops.specs.heap_texts.declared.fault.OpFault.{OpFault}
use Rattle.joint_ops.specs.World.{BreaksAsReading}
use Rattle.objects.proofs.LastingLaws.{keeps-lasts}
use Rattle.objects.proofs.KnownLaws.{right-stays}
use Rattle.objects.proofs.LaterLaws.{unless-broken, breaks-later}
use Rattle.objects.proofs.ClassLaws.{TellsAll, class-told, class-lacks}
use Rattle.objects.proofs.objects.structures.tell_class.Goals as goal

pub returns-in-Err-clause-right : goal.returns-in-Err-clause-right
returns-in-Err-clause-right g c = c.clear.ensures c.class_at.new.sw

pub returns-in-Ok-told-clause-got : goal.returns-in-Ok-told-clause-got
returns-in-Ok-told-clause-got g c =
    class-told c.args.sw.now c.class_at.new.sw c.is_class-told.new.sw (g.V.Vault.outside c.args.vault.now) (g.V.Vault.outside c.class_at.new.vault)
    (g.V.Vault.outside c.is_class-told.new.vault) c.args.code c.args.constant c.in-Ok.class c.sound.ensures c.in-Ok.ensures.keeps c.in-Ok.ensures.leaves
    c.in-Ok.ensures.world c.in-Ok.ensures.given c.args.object (Ok c.in-Ok-told.is') c.in-Ok-told.ensures.got

pub returns-in-Ok-told-clause-damaged : goal.returns-in-Ok-told-clause-damaged
returns-in-Ok-told-clause-damaged g c lacks =
    absurd (class-lacks c.args.sw.now c.class_at.new.sw c.is_class-told.new.sw (g.V.Vault.outside c.args.vault.now) (g.V.Vault.outside c.class_at.new.vault)
    (g.V.Vault.outside c.is_class-told.new.vault) c.args.code c.args.constant c.in-Ok.class c.sound.ensures c.in-Ok.ensures.keeps c.in-Ok.ensures.leaves
    c.in-Ok.ensures.world c.in-Ok.ensures.given lacks)

pub returns-in-Ok-told-clause-right : goal.returns-in-Ok-told-clause-right
returns-in-Ok-told-clause-right g c =
    let mid = c.class_at.new.sw in
    right-stays mid c.is_class-told.new.sw c.args.known.now
    (right-stays c.args.sw.now mid c.args.known.now c.requires.right (keeps-lasts c.args.sw.now mid c.in-Ok.ensures.keeps))
    (keeps-lasts mid c.is_class-told.new.sw c.in-Ok-told.ensures.keeps)

pub returns-in-Err-told-clause-got : goal.returns-in-Err-told-clause-got
returns-in-Err-told-clause-got g c =
    let start = g.V.Vault.outside c.args.vault.now in
    let after = g.V.Vault.outside c.is_class-told.new.vault in
    subst (λ (f : OpFault). TellsAll c.args.sw.now c.is_class-told.new.sw start after c.args.code c.args.constant c.args.object (Err f))
    (sym c.keep.ensures.same)
    (class-told c.args.sw.now c.class_at.new.sw c.is_class-told.new.sw start (g.V.Vault.outside c.class_at.new.vault) after c.args.code c.args.constant
    c.in-Ok.class c.sound.ensures c.in-Ok.ensures.keeps c.in-Ok.ensures.leaves c.in-Ok.ensures.world c.in-Ok.ensures.given c.args.object
    (Err c.in-Err-told.fault) c.in-Err-told.ensures.got)

pub returns-in-Err-told-clause-damaged : goal.returns-in-Err-told-clause-damaged
returns-in-Err-told-clause-damaged g c lacks =
    absurd (class-lacks c.args.sw.now c.class_at.new.sw c.is_class-told.new.sw (g.V.Vault.outside c.args.vault.now) (g.V.Vault.outside c.class_at.new.vault)
    (g.V.Vault.outside c.is_class-told.new.vault) c.args.code c.args.constant c.in-Ok.class c.sound.ensures c.in-Ok.ensures.keeps c.in-Ok.ensures.leaves
    c.in-Ok.ensures.world c.in-Ok.ensures.given lacks)

pub returns-in-Err-told-clause-fails : goal.returns-in-Err-told-clause-fails
returns-in-Err-told-clause-fails g c =
    let start = g.V.Vault.outside c.args.vault.now in
    let before = g.V.Vault.outside c.class_at.new.vault in
    let after = g.V.Vault.outside c.is_class-told.new.vault in
    subst (λ (f : OpFault). BreaksAsReading {T = Bool} start after (Err f)) (sym c.keep.ensures.same)
    (breaks-later {T = Bool} start before after (Err c.in-Err-told.fault) c.in-Ok.ensures.leaves c.in-Err-told.ensures.fails)

pub returns-in-Err-told-clause-right : goal.returns-in-Err-told-clause-right
returns-in-Err-told-clause-right g c =
    let mid = c.class_at.new.sw in
    c.keep.ensures.right mid c.is_class-told.new.sw
    (right-stays c.args.sw.now mid c.args.known.now c.requires.right (keeps-lasts c.args.sw.now mid c.in-Ok.ensures.keeps))
    (unless-broken Bool mid c.is_class-told.new.sw c.in-Err-told.fault c.in-Err-told.ensures.keeps)
