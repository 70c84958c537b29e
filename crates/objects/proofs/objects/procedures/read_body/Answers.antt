use Rattle.objects.proofs.LastingLaws.{keeps-lasts}
use Rattle.objects.proofs.KnownLaws.{right-stays, right-procedures}
use Rattle.objects.proofs.objects.procedures.read_body.Goals as goal

pub returns-in-Ok-clause-right : goal.returns-in-Ok-clause-right
returns-in-Ok-clause-right g c =
    let new = c.fetch_body-got.new.sw in
    let right = right-stays c.args.sw.now new c.args.known.now c.requires.right (keeps-lasts c.args.sw.now new c.in-Ok.ensures.keeps) in
    right-procedures new c.args.known.now c.keep.new.self right (c.keep.ensures new right.procedures c.in-Ok.ensures.body)

pub returns-in-Err-clause-right : goal.returns-in-Err-clause-right
returns-in-Err-clause-right g c = c.clear.ensures c.fetch_body-got.new.sw
