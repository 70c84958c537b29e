-- A heap that was kept, without what no root reaches.
use Rattle.std.specs.Prelude.{Bool, true, length, Option, Some}
use Rattle.ps_heap.specs.reaching.Reaching.{is_in}
use Rattle.ps_heap.specs.Tables.{without_keys}
use Rattle.ps_heap.specs.Objects.{Object, Keyed, object_at}
use Rattle.ps_heap.specs.Held.{StoredHeap, row, reached_from_roots}

abbrev pub if_reached : Bool → Option Object → Object
if_reached true (Some object) = object
if_reached reached found = Keyed without_keys

-- an empty table stands in place of each object that no root reaches
abbrev pub cleaned : StoredHeap → StoredHeap
cleaned stored =
    record stored { objects = row (λ id. if_reached (is_in id (reached_from_roots stored)) (object_at stored.objects id)) 0 (length stored.objects) }
