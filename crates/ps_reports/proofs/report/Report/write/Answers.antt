use Rattle.std.proofs.Common.{sym, subst}
use Rattle.ps_reports.specs.Answering.{Answers}
use Rattle.ps_reports.specs.Reporting.{line_of, status_of}
use Rattle.ps_reports.specs.Statuses.{number_of}
use Rattle.ps_reports.proofs.report.Report.write.Goals as goal

pub returns-in-Usage-clause-answers : goal.returns-in-Usage-clause-answers
returns-in-Usage-clause-answers g c =
    let o = g.H.Host.outside in
    subst (λ r. Answers (o c.args.host.now) (o c.answer.new.host) (line_of r) (number_of (status_of r)) c.answer.result) (sym c.in-Usage.is) c.answer.ensures.answers

pub returns-in-Device-clause-answers : goal.returns-in-Device-clause-answers
returns-in-Device-clause-answers g c =
    let o = g.H.Host.outside in
    subst (λ r. Answers (o c.args.host.now) (o c.answer-in-Device.new.host) (line_of r) (number_of (status_of r)) c.answer-in-Device.result) (sym c.in-Device.is)
    c.answer-in-Device.ensures.answers

pub returns-in-AlreadyAVolume-clause-answers : goal.returns-in-AlreadyAVolume-clause-answers
returns-in-AlreadyAVolume-clause-answers g c =
    let o = g.H.Host.outside in
    subst (λ r. Answers (o c.args.host.now) (o c.answer-in-AlreadyAVolume.new.host) (line_of r) (number_of (status_of r)) c.answer-in-AlreadyAVolume.result) (sym c.in-AlreadyAVolume.is)
    c.answer-in-AlreadyAVolume.ensures.answers
