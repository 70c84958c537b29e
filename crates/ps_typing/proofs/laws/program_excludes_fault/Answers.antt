use Rattle.std.proofs.Common.{sym, ◌∙◌, subst}
use Rattle.ps_typing.specs.Program.{Verdict, Typed, Fails}
use Rattle.ps_typing.proofs.laws.program_excludes_fault.Goals as goal

abbrev IsProgram : Verdict → Type 0
IsProgram (Typed program) = Unit {0}
IsProgram (Fails fault) = ⊥

pub returns : goal.returns
returns c = λ tree program fault is was. subst IsProgram (sym is ∙ was) tt
