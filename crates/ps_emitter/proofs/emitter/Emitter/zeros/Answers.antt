use Rattle.std.proofs.Common.{ap}
use Rattle.ps_base.specs.declared.instr.Instr.TheVariants as instr
use Rattle.ps_emitter.proofs.Putting.{seq}
use Rattle.ps_emitter.proofs.Steps.{one_is}
use Rattle.ps_emitter.proofs.emitter.Emitter.zeros.Goals as goal

pub returns : goal.returns
returns c =
    seq c.in_ok-put.ensures (seq c.in_ok-put-2.ensures (seq c.in_ok-put-3.ensures (seq (one_is (ap instr.SetM c.in_ok-second.ensures) c.in_ok-put-4.ensures)
    (seq c.in_ok-put-5.ensures (one_is (ap instr.SetM c.in_ok-third.ensures) c.in_ok-put-6.ensures)))))
