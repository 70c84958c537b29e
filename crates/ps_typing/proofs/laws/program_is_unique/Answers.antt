use Rattle.std.proofs.Common.{sym, ap, ◌∙◌}
use Rattle.ps_program.specs.Node.{BodyNode}
use Rattle.ps_typing.specs.Program.{Verdict, Typed, Fails}
use Rattle.ps_typing.proofs.laws.program_is_unique.Goals as goal

abbrev program_in : BodyNode → Verdict → BodyNode
program_in otherwise (Typed program) = program
program_in otherwise (Fails fault) = otherwise

pub returns : goal.returns
returns c = λ tree program other is was. ap (program_in program) (sym is ∙ was)
