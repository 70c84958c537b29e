use Rattle.std.proofs.Common.{◌≡◌, ℕ, List, rules, subst}
use Rattle.ps_port.specs.Telling.{FailsAfter, TellsAll}
use Rattle.ps_causes.specs.ps_reports.Answering.{cut, whole}
use Rattle.ps_command.proofs.command.tell_text.Goals as goal

pub returns-in-Ok-clause-answers : goal.returns-in-Ok-clause-answers
returns-in-Ok-clause-answers g c =
    let o = g.H.Host.outside in
    let same : c.as_bytes.result.now ≡ c.args.text.now = search rules in
    whole (subst (λ (bytes : List ℕ). TellsAll (o c.args.host) (o c.piece.new.host) bytes) same c.in-Ok.ensures.tells)

pub returns-in-Err-clause-answers : goal.returns-in-Err-clause-answers
returns-in-Err-clause-answers g c =
    let o = g.H.Host.outside in
    let same : c.as_bytes.result.now ≡ c.args.text.now = search rules in
    cut (subst (λ (bytes : List ℕ). FailsAfter (o c.args.host) (o c.piece.new.host) bytes) same c.in-Err.ensures.tells)
