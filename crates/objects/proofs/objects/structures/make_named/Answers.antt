use Rattle.objects.proofs.LastingLaws.{keeps-lasts}
use Rattle.objects.proofs.KnownLaws.{right-stays}
use Rattle.objects.proofs.ClassLaws.{class-made, class-lacks}
use Rattle.objects.proofs.MadeLaws.{made-keeps, made-breaks, are-near-later}
use Rattle.objects.proofs.objects.structures.make_named.Goals as goal

pub returns-in-Err-clause-right : goal.returns-in-Err-clause-right
returns-in-Err-clause-right g c = c.clear.ensures c.class_at.new.sw

pub make_structure-requires-clause-near : goal.make_structure-requires-clause-near
make_structure-requires-clause-near g c = are-near-later c.args.sw.now c.class_at.new.sw c.args.fields.now c.in-Ok.ensures.keeps c.requires.near

pub returns-clause-made : goal.returns-clause-made
returns-clause-made g c =
    class-made c.args.sw.now c.class_at.new.sw c.make_structure.new.sw (g.V.Vault.outside c.args.vault.now) (g.V.Vault.outside c.class_at.new.vault)
    (g.V.Vault.outside c.class_at.new.vault) c.args.code c.args.constant c.in-Ok.class c.sound.ensures c.in-Ok.ensures.keeps c.in-Ok.ensures.leaves
    c.in-Ok.ensures.world c.in-Ok.ensures.given c.args.fields.now c.make_structure.result c.make_structure.ensures.made

pub returns-clause-damaged : goal.returns-clause-damaged
returns-clause-damaged g c lacks =
    absurd (class-lacks c.args.sw.now c.class_at.new.sw c.make_structure.new.sw (g.V.Vault.outside c.args.vault.now) (g.V.Vault.outside c.class_at.new.vault)
    (g.V.Vault.outside c.class_at.new.vault) c.args.code c.args.constant c.in-Ok.class c.sound.ensures c.in-Ok.ensures.keeps c.in-Ok.ensures.leaves
    c.in-Ok.ensures.world c.in-Ok.ensures.given lacks)

pub returns-clause-keeps : goal.returns-clause-keeps
returns-clause-keeps g c =
    made-keeps c.args.sw.now c.class_at.new.sw c.make_structure.new.sw c.make_structure.result c.in-Ok.ensures.keeps c.make_structure.ensures.keeps

pub returns-clause-fails : goal.returns-clause-fails
returns-clause-fails g c =
    made-breaks c.class_at.new.sw c.make_structure.new.sw (g.V.Vault.outside c.args.vault.now) (g.V.Vault.outside c.class_at.new.vault) c.make_structure.result
    c.in-Ok.ensures.leaves c.make_structure.ensures.fails

pub returns-clause-right : goal.returns-clause-right
returns-clause-right g c =
    let mid = c.class_at.new.sw in
    right-stays mid c.make_structure.new.sw c.args.known.now
    (right-stays c.args.sw.now mid c.args.known.now c.requires.right (keeps-lasts c.args.sw.now mid c.in-Ok.ensures.keeps))
    (keeps-lasts mid c.make_structure.new.sw c.make_structure.ensures.keeps)
