-- The keys of a table: all ints, or all strings.
use Rattle.std.specs.Prelude.{◌≡◌, ℕ, ℤ, List, Some}
use Rattle.std.specs.Ordering.{int_cmp}
use Rattle.std.specs.declared.cmp.Ordering.{Ordering}
use Rattle.heap_places.specs.ps_heap.Texts.{order_of}
use Rattle.heap_places.specs.obj_layout.declared.reference.Reference.{Reference}
use Rattle.heap_places.specs.swizzle.Joint.{Shown}
use Rattle.heap_places.specs.Words.{int_in}
use Rattle.heap_places.specs.Shapes.{slot_of, word_in, IsText}

pub data Keys : Type 0 where
  by_ints : Keys
  by_texts : Keys

-- a string is its bytes
abbrev pub KeyOf : Keys → Type 0
KeyOf by_ints = ℤ
KeyOf by_texts = List ℕ

-- ints as numbers, strings by their bytes
abbrev pub order_by : (ks : Keys) → KeyOf ks → KeyOf ks → Ordering
order_by by_ints = int_cmp
order_by by_texts = order_of

abbrev pub Seen : Type 1
Seen = Reference → Shown → Type 0

-- What is seen of a node has this key: an int in its number word 1, or the text that its reference 2 names.
abbrev pub IsKey : (ks : Keys) → Seen → Shown → KeyOf ks → Type 0
IsKey by_ints seen it key = int_in (word_in it 1) ≡ Some key
IsKey by_texts seen it key = IsText seen (slot_of it 2) key
