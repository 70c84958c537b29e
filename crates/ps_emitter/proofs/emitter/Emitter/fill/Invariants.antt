use Rattle.std.proofs.Common.{◌≡◌, drop}
use Rattle.ps_base.specs.Instr.{spelling}
use Rattle.ps_emitter.specs.Pieces.{state_of, fill}
use Rattle.ps_emitter.proofs.emitter.Emitter.fill.Given as goal

abbrev pub invariant-loop-hole : goal.invariant-loop-hole
invariant-loop-hole l = fill (spelling l.instr) (drop l.hole-index l.holes) (state_of l.self) ≡ fill (spelling l.instr) l.holes (state_of l.fn.self)
