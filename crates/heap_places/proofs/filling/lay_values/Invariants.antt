use Rattle.std.proofs.Common.{drop}
use Rattle.heap_places.specs.inside.Laying.{with_values}
use Rattle.heap_places.proofs.FillingLaws.{IsLaying}
use Rattle.heap_places.proofs.filling.lay_values.Given as goal

abbrev pub invariant-loop-value : goal.invariant-loop-value
invariant-loop-value l = IsLaying (with_values l.fn.sw l.object l.fn.first l.values) l.sw l.object l.next (drop l.value-index l.values)
