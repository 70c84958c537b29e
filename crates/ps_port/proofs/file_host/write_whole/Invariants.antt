use Rattle.std.proofs.Common.{length}
use Rattle.ps_port.proofs.file_host.write_whole.Given as goal

-- what is still to be written
abbrev pub decreases-loop-rest : goal.decreases-loop-rest
decreases-loop-rest g l = length l.rest
