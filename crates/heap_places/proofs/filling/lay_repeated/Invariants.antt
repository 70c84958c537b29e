use Rattle.std.proofs.Common.{◌-◌, replicate}
use Rattle.heap_places.specs.inside.Laying.{with_values}
use Rattle.heap_places.proofs.FillingLaws.{IsLaying}
use Rattle.heap_places.proofs.filling.lay_repeated.Given as goal

abbrev pub invariant-loop : goal.invariant-loop
invariant-loop l = IsLaying (with_values l.fn.sw l.object l.fn.first (replicate l.count l.value)) l.sw l.object l.next (replicate (l.count - l.counter) l.value)
