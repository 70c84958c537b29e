use Rattle.std.proofs.Common.{subst}
use Rattle.ps_reports.specs.Answering.{Answers}
use Rattle.ps_reports.specs.Reports.{unreadable_line}
use Rattle.ps_reports.proofs.report.unreadable.Goals as goal

pub returns-clause-answers : goal.returns-clause-answers
returns-clause-answers g c =
    let host = g.H.Host in
    subst (λ file. Answers (host.outside c.args.host.now) (host.outside c.answer.new.host) (unreadable_line file) 7 c.answer.result) c.as_bytes.ensures.value c.answer.ensures.answers
