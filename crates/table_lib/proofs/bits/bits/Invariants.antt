use Rattle.table_lib.proofs.BitLaws.{IsCounting}
use Rattle.table_lib.proofs.bits.bits.Given as goal

abbrev pub invariant-loop-rest : goal.invariant-loop-rest
invariant-loop-rest l = record { counting : IsCounting l.number l.count l.rest }

abbrev pub decreases-loop-rest : goal.decreases-loop-rest
decreases-loop-rest l = l.rest
