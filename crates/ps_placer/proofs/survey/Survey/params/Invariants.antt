-- the parameters before the place are marked
use Rattle.std.proofs.Common.{◌≡◌, [], map, drop}
use Rattle.ps_program.specs.NodeView.{params_of}
use Rattle.ps_typing.specs.Mentions.{seen, numbers}
use Rattle.ps_placer.specs.inside.Marks.{marks_of, marks_in, join}
use Rattle.ps_placer.proofs.survey.Survey.params.Given as goal

abbrev pub invariant-loop-param : goal.invariant-loop-param
invariant-loop-param l =
    join (marks_of l.self) (marks_in l.literals [] (map (λ k. seen k 0) (numbers (params_of (drop l.param-index l.params)))))
    ≡ join (marks_of l.initial.self) (marks_in l.literals [] (map (λ k. seen k 0) (numbers (params_of l.params))))
