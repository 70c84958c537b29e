use Rattle.std.proofs.Common.{ℕ, List, ◌++◌, ◌∙◌, subst}
use Rattle.std.specs.Prelude.{codes, decimal}
use Rattle.ps_reports.specs.Answering.{Answers}
use Rattle.ps_reports.proofs.report.not_a_volume.Goals as goal

pub returns-clause-answers : goal.returns-clause-answers
returns-clause-answers g c =
    let old = g.H.Host.outside c.args.host.now in
    let new = g.H.Host.outside c.answer.new.host in
    let size = c.as_bytes-size.ensures.value ∙ c.format.ensures.text in
    let gate = c.as_bytes-gate.ensures.value ∙ c.format-2.ensures.text in
    subst (λ (digits : List ℕ). Answers old new (codes "not a volume: " ++ (decimal c.args.size ++ (codes " bytes, gate " ++ (digits ++ codes "\n")))) 9 c.answer.result) gate
    (subst (λ (digits : List ℕ). Answers old new (codes "not a volume: " ++ (digits ++ (codes " bytes, gate " ++ (c.as_bytes-gate.result.now ++ codes "\n")))) 9 c.answer.result) size
    c.answer.ensures.answers)
