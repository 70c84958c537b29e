use Rattle.ps_log.proofs.Kept.{replaced}
use Rattle.ps_log.proofs.last.restore_place.Goals as goal

pub returns-in-Some : goal.returns-in-Some
returns-in-Some c there =
    let updates = (c.get_mut.follows.holds c.args.place).3 there in
    replaced c.args.last.now (c.get_mut.follows.lender c.args.place) c.args.name.now c.args.place updates.1 updates.3
