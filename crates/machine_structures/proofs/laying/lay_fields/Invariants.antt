use Rattle.std.proofs.Common.{◌≤◌, length, vec_capacity}
use Rattle.machine_core.specs.Holding.{most_values}
use Rattle.machine_structures.proofs.LaidOut.{IsLaidOut}
use Rattle.machine_structures.proofs.laying.lay_fields.Given as goal

abbrev pub invariant-loop-rest : goal.invariant-loop-rest
invariant-loop-rest l = record {
  so : IsLaidOut l.text l.rest l.nums l.refs l.passed l.values.items;
  room : most_values ≤ vec_capacity l.values;
}

abbrev pub decreases-loop-rest : goal.decreases-loop-rest
decreases-loop-rest l = length l.rest
