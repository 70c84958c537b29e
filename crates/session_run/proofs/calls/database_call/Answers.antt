use Rattle.std.proofs.Common.{◌≡◌, true, sym, subst, arith}
use Rattle.ps_base.specs.declared.instr.Instr.{Instr}
use Rattle.machine_core.specs.ps_stepping.Plain.{is_plain}
use Rattle.session_run.proofs.Others.{plain-call}
use Rattle.session_run.proofs.calls.database_call.Goals as goal

pub returns-in_default-k : goal.returns-in_default-k
returns-in_default-k c = subst (λ (i : Instr). is_plain i ≡ true) (sym c.in-Lib.is) (plain-call c.in-Lib.k (omega arith))
