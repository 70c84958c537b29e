use Rattle.std.proofs.Common.{◌∙◌, None, sym, ap}
use Rattle.obj_layout.specs.Stored.{length_in}
use Rattle.obj_layout.proofs.HeaderLaws.{length_spelled}
use Rattle.obj_store.specs.Spaces.{spaces_at}
use Rattle.obj_store.proofs.HeldLaws.{held_length}
use Rattle.obj_store.proofs.objects.length_at.Goals as goal

pub returns-in-Ok-clause-told : goal.returns-in-Ok-clause-told
returns-in-Ok-clause-told g c = λ words h.
    let v = c.args.volume.now in
    held_length (spaces_at c.args.source c.args.used v.table (g.H.Host.outside v.host)) c.args.pid None c.in-Ok.header words h c.in-Ok.ensures.fits.fields c.in-Ok.ensures.header
    ∙ sym c.length_of.ensures

pub returns-in-Ok-clause-stands : goal.returns-in-Ok-clause-stands
returns-in-Ok-clause-stands g c = λ space told.
    ap length_in (c.in-Ok.ensures.header.spelled space told) ∙ length_spelled c.in-Ok.header c.in-Ok.ensures.fits.fields ∙ sym c.length_of.ensures
