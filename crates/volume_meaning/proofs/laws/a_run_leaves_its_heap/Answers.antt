use Rattle.volume_meaning.proofs.Volumes.{stands-since, stands-after}
use Rattle.volume_meaning.proofs.laws.a_run_leaves_its_heap.Goals as goal

pub returns-clause-since : goal.returns-clause-since
returns-clause-since g c =
    let host = g.H.Host in
    stands-since (host.outside c.args.host.now) (host.outside c.args.back.now)

pub returns-clause-after : goal.returns-clause-after
returns-clause-after g c =
    let host = g.H.Host in
    stands-after (host.outside c.args.host.now) (host.outside c.args.back.now)
