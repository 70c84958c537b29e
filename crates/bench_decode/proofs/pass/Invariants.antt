use Rattle.std.proofs.Common.{length}
use Rattle.bench_decode.proofs.pass.Given as goal

abbrev pub decreases-loop-instr : goal.decreases-loop-instr
decreases-loop-instr l = length l.rest
