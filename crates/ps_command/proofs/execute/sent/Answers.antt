use Rattle.std.proofs.Common.{List, ℕ, subst}
use Rattle.ps_port.specs.Telling.{FailsAfter, TellsAll}
use Rattle.ps_command.specs.inside.Running.{all, not_all}
use Rattle.ps_command.proofs.execute.sent.Goals as goal

pub returns-in-Ok-clause-sends : goal.returns-in-Ok-clause-sends
returns-in-Ok-clause-sends g c =
    let o = g.H.Host.outside in
    all (subst (λ (bytes : List ℕ). TellsAll (o c.args.host) (o c.piece.new.host) bytes) c.owed.ensures.owed c.in-Ok.ensures.tells)

pub returns-clause-sends : goal.returns-clause-sends
returns-clause-sends g c =
    let o = g.H.Host.outside in
    not_all (subst (λ (bytes : List ℕ). FailsAfter (o c.args.host) (o c.piece.new.host) bytes) c.owed.ensures.owed c.in-Err.ensures.tells)
