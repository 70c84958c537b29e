use Rattle.std.proofs.Common.{◌≡◌, drop}
use Rattle.text_forms.specs.Steps.{behind_first}
use Rattle.text_forms.proofs.steps.behind.Given as goal

-- what stands after the first mark stands after the first one in what is left
abbrev pub invariant-loop-place : goal.invariant-loop-place
invariant-loop-place l = behind_first l.mark (drop l.place l.bytes) ≡ behind_first l.mark l.bytes
