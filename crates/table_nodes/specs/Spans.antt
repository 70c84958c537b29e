-- Keys that rise on the way down: those of a part of a tree lie between the keys of two nodes above it, where there are such nodes.
use Rattle.std.specs.Prelude.{◌≡◌, ◌≢◌, ℕ, Option, Some, List, IfSome, Result, MatchResult}
use Rattle.std.specs.List.{AllByRecursion}
use Rattle.std.specs.Ordering.{int_cmp}
use Rattle.std.specs.declared.cmp.Ordering.{Ordering}
use Rattle.std.specs.declared.cmp.Ordering.TheVariants.{Less, Equal, Greater}
use Rattle.heap_places.specs.ps_heap.Texts.{order_of}
use Rattle.heap_places.specs.obj_layout.declared.reference.Reference.{Reference}
use Rattle.heap_places.specs.obj_layout.declared.vault.VaultFault.TheVariants.{Damaged}
use Rattle.heap_places.specs.swizzle.declared.fault.SwizzleFault.{SwizzleFault}
use Rattle.heap_places.specs.swizzle.declared.fault.SwizzleFault.TheVariants.{Vault}
use Rattle.heap_places.specs.swizzle.Heap.{Heap, header_at}
use Rattle.heap_places.specs.swizzle.Joint.{Shown, name_at, shown_at}
use Rattle.heap_places.specs.swizzle.Text.{text_at}
use Rattle.heap_places.specs.Shapes.{slot_of, word_in}
use Rattle.heap_places.specs.Words.{int_in, int_word}
use Rattle.avl_trees.specs.Trees.{Tree, node, items}
use Rattle.avl_trees.specs.Standing.{Stands, IsRising}
use Rattle.table_nodes.specs.declared.keys.Key.{Key}
use Rattle.table_nodes.specs.declared.keys.Key.TheVariants.{Int, Text}
use Rattle.table_nodes.specs.declared.span.Span.{Span}
use Rattle.table_nodes.specs.declared.placing.Placed.{Placed}
use Rattle.node_rows.specs.Keys.{Keys, by_ints, by_texts, KeyOf, order_by}
use Rattle.node_rows.specs.Nodes.{Seat, I}
use Rattle.table_nodes.specs.Nodes.{IsNode, IsNamed, IsFetchFault}
use Rattle.table_nodes.specs.Sought.{IsKeyHeld}
use Rattle.table_nodes.specs.Steps.{Place, rows_of}

-- by what a key is reported: an int's word, or the PID of a text
abbrev pub key_number : Heap → Key → ℕ
key_number heap (Int value) = int_word value
key_number heap (Text at) = (header_at heap at).pid

-- how two keys of one kind stand to each other
abbrev pub keys_order : Heap → Key → Key → Ordering
keys_order heap (Int a) (Int b) = int_cmp a b
keys_order heap (Text a) (Text b) = order_of (text_at heap a) (text_at heap b)
keys_order heap (Int a) (Text b) = Equal
keys_order heap (Text a) (Int b) = Equal

-- what is seen of a node has this key
abbrev pub ShowsKey : Heap → Shown → Key → Type 0
ShowsKey heap it (Int value) = int_in (word_in it 1) ≡ Some value
ShowsKey heap it (Text at) = slot_of it 2 ≡ name_at heap at

-- a node of the area has this key
pub record HasKey (heap : Heap) (at : ℕ) (key : Key) : Type 0 where
  pub node : IsNode heap at
  pub held : IsKeyHeld heap key
  pub shows : ShowsKey heap (shown_at heap at) key

-- some node has this key
abbrev pub IsPassed : Heap → Key → Type 0
IsPassed heap key = (at : ℕ) × HasKey heap at key

-- the ends of a span are keys of nodes
pub record IsSpan (heap : Heap) (span : Span) : Type 0 where
  pub low_is : IfSome span.low (IsPassed heap)
  pub high_is : IfSome span.high (IsPassed heap)

-- the node has the sought key
pub record HasSought (heap : Heap) (at : ℕ) (key : Key) : Type 0 where
  pub own : Key
  pub has : HasKey heap at own
  pub same : keys_order heap key own ≡ Equal

-- some node has the sought key, and this object for its value
pub record IsValueOf (heap : Heap) (key : Key) (value : ℕ) : Type 0 where
  pub at : ℕ
  pub sought : HasSought heap at key
  pub value_is : slot_of (shown_at heap at) 3 ≡ name_at heap value

-- The key of a node isn't on the wanted side of an end of the span, and so it is reported.
pub record IsOutside (heap : Heap) (at : ℕ) (own : Key) (edge : Option Key) (wanted : Ordering) (fault : SwizzleFault) : Type 0 where
  pub end : Key
  pub end_is : edge ≡ Some end
  pub outside : keys_order heap own end ≢ wanted
  pub is : fault ≡ Vault (Damaged (header_at heap at).pid (key_number heap own) (key_number heap end))

-- the span on the side of a node that the search takes
abbrev pub narrow : Ordering → Key → Span → Span
narrow Less own span = record { low = span.low; high = Some own }
narrow Equal own span = record { low = Some own; high = span.high }
narrow Greater own span = record { low = Some own; high = span.high }

-- a key of a table of this kind
abbrev pub IsKeyOf : (ks : Keys) → Heap → Key → KeyOf ks → Type 0
IsKeyOf by_ints heap (Int value) k = value ≡ k
IsKeyOf by_ints heap (Text at) k = ⊥
IsKeyOf by_texts heap (Int value) k = ⊥
IsKeyOf by_texts heap (Text at) k = text_at heap at ≡ k

-- the keys of these pairs are above this one
pub record IsLow (ks : Keys) (heap : Heap) (is : List (I ks)) (end : Key) : Type 0 where
  pub key : KeyOf ks
  pub key_is : IsKeyOf ks heap end key
  pub above : AllByRecursion (λ a. order_by ks key a.entry.key ≡ Less) is

-- and below it
pub record IsHigh (ks : Keys) (heap : Heap) (is : List (I ks)) (end : Key) : Type 0 where
  pub key : KeyOf ks
  pub key_is : IsKeyOf ks heap end key
  pub below : AllByRecursion (λ a. order_by ks a.entry.key key ≡ Less) is

pub record IsWithin (ks : Keys) (heap : Heap) (span : Span) (is : List (I ks)) : Type 0 where
  pub low_is : IfSome span.low (IsLow ks heap is)
  pub high_is : IfSome span.high (IsHigh ks heap is)

-- The key of a node that stands is answered, or it couldn't be fetched.
abbrev pub ReadsKey : (ks : Keys) → Place → Heap → ℕ → Result Key SwizzleFault → Type 0
ReadsKey ks old new at result = (n : Reference) (row : Seat ks) → IsNamed old.heap at n → rows_of ks old n row
    → MatchResult result (λ own. IsKeyOf ks new own row.entry.key) (IsFetchFault old.heap old.outside)

-- at a node, how the key stands to that of the node, and within what the keys of its sides lie
pub record IsPlaced (ks : Keys) (heap : Heap) (key : KeyOf ks) (x : Tree (I ks)) (b : I ks) (y : Tree (I ks)) (placed : Placed) : Type 0 where
  pub order : placed.order ≡ order_by ks key b.entry.key
  pub left : placed.order ≡ Less → IsWithin ks heap placed.span (items x)
  pub right : placed.order ≢ Less → IsWithin ks heap placed.span (items y)

abbrev pub PlacesAt : (ks : Keys) → Place → Heap → ℕ → KeyOf ks → Span → Result Placed SwizzleFault → Type 0
PlacesAt ks old new at key span result = (x : Tree (I ks)) (b : I ks) (y : Tree (I ks)) → Stands (rows_of ks old) (node x b y) → IsNamed old.heap at b.name
    → IsRising (order_by ks) (node x b y) → IsWithin ks old.heap span (items (node x b y)) → MatchResult result (IsPlaced ks new key x b y) (IsFetchFault old.heap old.outside)

-- At a node whose key is below the higher end of a span, the span on its left side is answered.
abbrev pub NarrowsAt : (ks : Keys) → Place → Heap → ℕ → Span → Result Span SwizzleFault → Type 0
NarrowsAt ks old new at span result = (x : Tree (I ks)) (b : I ks) (y : Tree (I ks)) → Stands (rows_of ks old) (node x b y) → IsNamed old.heap at b.name
    → IsRising (order_by ks) (node x b y) → IsWithin ks old.heap span (items (node x b y)) → MatchResult result (λ narrow. IsWithin ks new narrow (items x)) (IsFetchFault old.heap old.outside)
