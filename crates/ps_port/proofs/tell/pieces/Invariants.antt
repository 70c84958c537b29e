-- The pieces before the next one were output.
use Rattle.std.proofs.Common.{drop}
use Rattle.ps_port.specs.Telling.{joined}
use Rattle.ps_port.proofs.Telling.{SoFar}
use Rattle.ps_port.proofs.tell.pieces.Given as goal

abbrev pub invariant-loop-part : goal.invariant-loop-part
invariant-loop-part g l = SoFar (g.H.Host.outside l.initial.host) (g.H.Host.outside l.host) (joined l.parts) (joined (drop l.part-index l.parts))
