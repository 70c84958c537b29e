-- The key of a node, written.
use Rattle.std.specs.Prelude.{ℕ, Some}
use Rattle.heap_places.specs.swizzle.Heap.{Heap, with_num, with_ref, reference_to}
use Rattle.heap_places.specs.Words.{int_word}
use Rattle.table_nodes.specs.declared.keys.Key.{Key}
use Rattle.table_nodes.specs.declared.keys.Key.TheVariants.{Int, Text}

abbrev pub with_key : Heap → ℕ → Key → Heap
with_key heap at (Int value) = with_num heap at 1 (int_word value)
with_key heap at (Text text) = with_ref heap at 2 (reference_to (Some text))
