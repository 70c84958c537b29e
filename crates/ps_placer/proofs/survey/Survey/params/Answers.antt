use Rattle.std.proofs.Common.{◌∙◌, [], List, map, sym, ap}
use Rattle.std.proofs.lemmas.List.{drop_all}
use Rattle.ps_program.specs.declared.body.Param.{Param}
use Rattle.ps_program.specs.NodeView.{params_of}
use Rattle.ps_typing.specs.Mentions.{seen, numbers}
use Rattle.ps_placer.specs.inside.Marks.{marks_of, marks_in, join}
use Rattle.ps_placer.proofs.Marking.{part_more, join_none, params_from}
use Rattle.ps_placer.proofs.survey.Survey.params.Goals as goal

pub loop-param-preserved : goal.loop-param-preserved
loop-param-preserved c =
    part_more _ _ _ _ _ c.in_ok-declare.ensures
    (ap (join (marks_of c.loop-param.self)) (sym (params_from c.args.literals c.args.params.now c.loop-param.param-index c.param-item.result _ c.param-item.is c.loop-param-test.true)) ∙ c.loop-param.invariant)

pub returns : goal.returns
returns c =
    sym (join_none (marks_of c.loop-param.self))
    ∙ ap (λ (ps : List Param). join (marks_of c.loop-param.self) (marks_in c.args.literals [] (map (λ k. seen k 0) (numbers (params_of ps))))) (sym (drop_all c.loop-param.param-index c.args.params.now c.loop-param-test.false))
    ∙ c.loop-param.invariant
