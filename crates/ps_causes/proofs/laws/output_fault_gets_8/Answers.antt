use Rattle.ps_causes.proofs.Converse.{counted_faults}
use Rattle.ps_causes.proofs.laws.output_fault_gets_8.Goals as goal

pub returns-clause-never_falls : goal.returns-clause-never_falls
returns-clause-never_falls g c due status answered answers = let host = g.H.Host in
    (counted_faults (host.outside c.args.before.now) (host.outside c.args.after.now) due status answered answers).0

pub returns-clause-stands : goal.returns-clause-stands
returns-clause-stands g c due status answered answers = let host = g.H.Host in
    (counted_faults (host.outside c.args.before.now) (host.outside c.args.after.now) due status answered answers).1
