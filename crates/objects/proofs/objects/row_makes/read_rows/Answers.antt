use Rattle.objects.proofs.LastingLaws.{keeps-lasts}
use Rattle.objects.proofs.KnownLaws.{right-stays, right-makes}
use Rattle.objects.proofs.RowsTold.{rows-told, rows-has}
use Rattle.objects.proofs.objects.row_makes.read_rows.Goals as goal

pub returns-in-Err-clause-right : goal.returns-in-Err-clause-right
returns-in-Err-clause-right g c = c.clear.ensures c.class_at.new.sw

pub learn-requires-clause-code : goal.learn-requires-clause-code
learn-requires-clause-code g c = (c.in-Ok.ensures.keeps.objects c.args.code c.requires.held).held

pub learn-requires-clause-so : goal.learn-requires-clause-so
learn-requires-clause-so g c =
    (right-stays c.args.sw.now c.class_at.new.sw c.args.known.now c.requires.right (keeps-lasts c.args.sw.now c.class_at.new.sw c.in-Ok.ensures.keeps)).makes

pub returns-clause-given : goal.returns-clause-given
returns-clause-given g c bytes row frame is =
    rows-told c.args.sw.now c.class_at.new.sw (g.V.Vault.outside c.args.vault.now) (g.V.Vault.outside c.class_at.new.vault) c.args.code c.args.constant
    c.in-Ok.text row c.learn.result c.sound.ensures (c.in-Ok.ensures.given bytes row frame is) c.learn.ensures.class

pub returns-clause-class : goal.returns-clause-class
returns-clause-class g c = rows-has c.class_at.new.sw c.in-Ok.text c.learn.result c.learn.ensures.class

pub returns-clause-right : goal.returns-clause-right
returns-clause-right g c =
    let mid = c.class_at.new.sw in
    right-makes mid c.args.known.now c.learn.new.self
    (right-stays c.args.sw.now mid c.args.known.now c.requires.right (keeps-lasts c.args.sw.now mid c.in-Ok.ensures.keeps)) c.learn.ensures.so
