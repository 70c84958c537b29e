-- A key that is sought, and how it stands to the keys of nodes.
use Rattle.std.specs.Prelude.{◌≡◌, ℕ, ℤ, true, Result, Ok, MatchResult}
use Rattle.heap_places.specs.ps_outside.Outside.{Outside}
use Rattle.heap_places.specs.ps_heap.Operators.{is_int}
use Rattle.heap_places.specs.obj_layout.Stored.{Space}
use Rattle.heap_places.specs.obj_layout.declared.kind.Kind.TheVariants.{Text as TextKind}
use Rattle.heap_places.specs.obj_layout.declared.reference.Reference.{Reference}
use Rattle.heap_places.specs.swizzle.declared.fault.SwizzleFault.{SwizzleFault}
use Rattle.heap_places.specs.swizzle.Heap.{Heap, IsHeld, header_at}
use Rattle.heap_places.specs.swizzle.Text.{text_at}
use Rattle.table_nodes.specs.declared.keys.Key.{Key}
use Rattle.table_nodes.specs.declared.keys.Key.TheVariants.{Int, Text}
use Rattle.table_nodes.specs.declared.keys.KeyKind.{KeyKind}
use Rattle.table_nodes.specs.declared.keys.KeyKind.TheVariants.{Ints, Texts}
use Rattle.node_rows.specs.Keys.{Keys, by_ints, by_texts, KeyOf}
use Rattle.node_rows.specs.Nodes.{Seat}
use Rattle.table_nodes.specs.Nodes.{IsNamed, IsFetchFault, rows_in}

abbrev pub keys_of : KeyKind → Keys
keys_of Ints = by_ints
keys_of Texts = by_texts

abbrev pub kind_of : Key → Keys
kind_of (Int value) = by_ints
kind_of (Text at) = by_texts

-- the int, or the string of the text in the area
abbrev pub key_in : Heap → (key : Key) → KeyOf (kind_of key)
key_in heap (Int value) = value
key_in heap (Text at) = text_at heap at

-- a text of the area
pub record IsTextHeld (heap : Heap) (at : ℕ) : Type 0 where
  pub held : IsHeld heap at
  pub kind : (header_at heap at).kind ≡ TextKind

-- a key has 32 bits, or its text is one of the area
abbrev pub IsKeyHeld : Heap → Key → Type 0
IsKeyHeld heap (Int value) = is_int value ≡ true
IsKeyHeld heap (Text at) = IsTextHeld heap at

-- The int key of a node that stands is answered.
abbrev pub ReadsInt : Heap → Outside Space → ℕ → Result ℤ SwizzleFault → Type 0
ReadsInt heap outside at result = (n : Reference) (row : Seat by_ints) → IsNamed heap at n → rows_in by_ints heap outside n row → result ≡ Ok row.entry.key

-- The text of a node's key is answered, or it couldn't be fetched.
abbrev pub ReadsText : Heap → Heap → Outside Space → ℕ → Result ℕ SwizzleFault → Type 0
ReadsText old new outside at result = (n : Reference) (row : Seat by_texts) → IsNamed old at n → rows_in by_texts old outside n row
    → MatchResult result (λ text. text_at new text ≡ row.entry.key) (IsFetchFault old outside)
