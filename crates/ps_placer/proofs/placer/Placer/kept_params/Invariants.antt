-- what was found and what is left make the whole
use Rattle.std.proofs.Common.{◌≡◌, ◌++◌, drop}
use Rattle.ps_program.specs.NodeView.{params_of}
use Rattle.ps_typing.specs.Mentions.{numbers}
use Rattle.ps_placer.specs.inside.Marks.{marks_of, is_kept}
use Rattle.ps_placer.specs.inside.Standing.{chosen}
use Rattle.ps_placer.proofs.placer.Placer.kept_params.Given as goal

abbrev pub invariant-loop-param : goal.invariant-loop-param
invariant-loop-param l = l.kept.items ++ chosen (is_kept (marks_of l.self.survey)) (numbers (params_of (drop l.param-index l.params))) ≡ chosen (is_kept (marks_of l.self.survey)) (numbers (params_of l.params))
