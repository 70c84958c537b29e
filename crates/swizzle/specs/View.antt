-- A swizzle is seen as the heap of its area.
use Rattle.std.specs.Prelude.{vec_capacity}
use Rattle.swizzle.specs.Heap.{Heap}
use Rattle.swizzle.specs.Kept.{Beside, IsKept, Noted, heap_from}
use Rattle.swizzle.specs.declared.swizzle.Swizzle.TheInside.{Inside}

abbrev pub noted_of : Inside → Noted
noted_of a = record { assigned = a.assigned.items; reached = a.reached.items }

abbrev pub heap_of : Inside → Heap
heap_of a = heap_from a.area.words a.area.size (noted_of a)

abbrev pub beside_of : Inside → Beside
beside_of a = record { places = vec_capacity a.assigned; stops = vec_capacity a.reached; heads = a.map.heads.items; greatest = a.greatest; room = vec_capacity a.buffer }

abbrev pub IsKeptIn : Inside → Type 0
IsKeptIn a = IsKept a.area.words a.area.size (noted_of a) (beside_of a)
