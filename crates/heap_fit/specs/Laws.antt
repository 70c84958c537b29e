-- What is so of fit heaps.
use Rattle.std.specs.Prelude.{◌≡◌, ℕ, Option, Some, List}
use Rattle.ps_heap.specs.Values.{Value}
use Rattle.ps_heap.specs.Objects.{Scope, object_at}
use Rattle.ps_heap.specs.Held.{StoredHeap}
use Rattle.database_meaning.specs.Same.{IsInHeap}
use Rattle.heap_fit.specs.Heaps.{IsOut, IsFitHeap}

-- No scope that is reached is its own parent, directly or through parents.
abbrev pub NoOwnParents : Type 0
NoOwnParents = (stored : StoredHeap) (id out : ℕ) (text : List ℕ) (parent : Option ℕ) (values : List Value) → IsFitHeap stored → IsInHeap stored id →
    object_at stored.objects id ≡ Some (Scope text parent values) → IsOut stored.objects id parent out → ⊥
