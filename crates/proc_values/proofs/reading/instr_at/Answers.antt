use Rattle.std.proofs.Common.{List, ℕ, subst, sym}
use Rattle.proc_values.specs.Reading.{IsSpelled}
use Rattle.proc_values.proofs.reading.instr_at.Goals as goal

pub returns-in-None : goal.returns-in-None
returns-in-None c = (
  c.no_instruction.ensures,
  λ kind i next s. c.in-None.ensures i next (subst (λ (b : List ℕ). IsSpelled b c.args.at i next) (sym c.text.ensures.value) s),
)
