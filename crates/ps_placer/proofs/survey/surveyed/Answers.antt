use Rattle.std.proofs.Common.{◌∙◌, ap}
use Rattle.ps_program.specs.NodeView.{body_of}
use Rattle.ps_placer.specs.inside.Marks.{marks_of, marks_body, is_kept, join}
use Rattle.ps_placer.proofs.Marking.{none_join}
use Rattle.ps_placer.proofs.Keeping.{kept_names_is}
use Rattle.ps_placer.proofs.Unnested.{keeps_nothing}
use Rattle.ps_placer.proofs.survey.surveyed.Goals as goal
use Rattle.ps_placer.proofs.survey.surveyed.Goals.{then-literal+in_ok-body, else-literal}

pub returns : goal.returns
returns c =
    let of = body_of c.args.body.now in
    elim c.if-literal.branch [
      | then-literal+in_ok-body w ↦
          λ k. ap (λ s. is_kept (marks_of s) k) w.survey-is
          ∙ ap (λ m. is_kept m k) (w.in_ok-body.ensures ∙ ap (λ m. join m (marks_body 0 of)) c.new-survey.ensures ∙ none_join (marks_body 0 of))
          ∙ kept_names_is of k
      | else-literal w ↦
          λ k. ap (λ s. is_kept (marks_of s) k) w.survey-is ∙ ap (λ m. is_kept m k) c.new-survey.ensures ∙ keeps_nothing of (c.requires w.if-literal.false) k
    ]
