-- A table that was made.
use Rattle.std.proofs.Common.{ℕ, Result, Ok, Err, IfOk, MatchResult, get_or, slice_index, ap}
use Rattle.table_nodes.specs.heap_places.obj_layout.declared.kind.Kind.TheVariants.{Table}
use Rattle.table_nodes.specs.heap_places.swizzle.Heap.{Heap, IsFull, IsMade, blank}
use Rattle.table_nodes.specs.heap_places.swizzle.declared.fault.SwizzleFault.{SwizzleFault}
use Rattle.table_nodes.proofs.of_heap_places.of_swizzle.MadeLaws.{made-held, made-object}
use Rattle.table_lib.specs.Tables.{IsUnused}

-- a table that was made has had no key
pub made_unused : (old new : Heap) (result : Result ℕ SwizzleFault) → MatchResult result (λ at. IsMade old new at (blank Table 1 3 0)) (λ fault. IsFull old new 8 fault) → IfOk result (IsUnused new)
made_unused old new (Err fault) made = tt
made_unused old new (Ok at) made =
    let o = made-object old new at (blank Table 1 3 0) made in
    record {
      shape = record { held = made-held old new at (blank Table 1 3 0) made; kind = ap (λ x. x.header.kind) o; refs = ap (λ x. x.header.refs) o; nums = ap (λ x. x.header.nums) o };
      kind = ap (λ x. slice_index x.nums 1) o;
      count = ap (λ x. slice_index x.nums 2) o;
      root = ap (λ x. get_or x.refs 0 Rattle.table_nodes.specs.heap_places.obj_layout.declared.reference.Reference.TheVariants.Nil) o;
    }
