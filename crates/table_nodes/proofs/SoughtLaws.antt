-- A node's key, read and compared.
use Rattle.std.proofs.Common.{w32, to_z, of_z, arith, true, ◌≡◌, ℕ, ◌*◌, ◌-◌, ◌^◌, ℤ, pos, None, Some, Ok, Result, refl, sym, ap, ◌∙◌, subst, take, drop, inl, inr}
use Rattle.heap_places.specs.ps_outside.Outside.{Outside}
use Rattle.heap_places.specs.obj_area.Words.{bytes_of}
use Rattle.heap_places.specs.obj_layout.Stored.{Space, Holds}
use Rattle.heap_places.specs.obj_layout.declared.kind.Kind.{Kind}
use Rattle.heap_places.specs.obj_layout.declared.kind.Kind.TheVariants.{Text as TextKind}
use Rattle.heap_places.specs.obj_layout.declared.reference.Reference.{Reference}
use Rattle.heap_places.specs.obj_layout.declared.reference.Reference.TheVariants.{Nil}
use Rattle.heap_places.specs.swizzle.Objects.{words_before}
use Rattle.heap_places.specs.swizzle.Heap.{Heap, IsHeap, header_at, ref_at}
use Rattle.heap_places.specs.swizzle.Joint.{Shown, shown_at, name_at, name_of}
use Rattle.heap_places.specs.swizzle.Changes.{Within}
use Rattle.heap_places.specs.swizzle.Reading.{joint}
use Rattle.heap_places.specs.swizzle.Text.{text_at}
use Rattle.heap_places.specs.swizzle.Touch.{Keeps, Denotes}
use Rattle.heap_places.proofs.of_swizzle.NameLaws.{name-not_nil}
use Rattle.heap_places.proofs.of_swizzle.ReadingLaws.{texts-kept}
use Rattle.heap_places.proofs.PlaceLaws.{slot-name}
use Rattle.heap_places.specs.Shapes.{slot_of, word_in, shown_text}
use Rattle.heap_places.specs.Words.{int_in}
use Rattle.table_nodes.specs.declared.keys.Key.{Key}
use Rattle.table_nodes.specs.declared.keys.Key.TheVariants.{Int, Text}
use Rattle.node_rows.specs.Keys.{by_ints, by_texts}
use Rattle.node_rows.specs.Nodes.{Seat}
use Rattle.table_nodes.specs.Nodes.{IsNamed, rows_in, seen}
use Rattle.table_nodes.proofs.SeenLaws.{seen_joint}
use Rattle.std.specs.Prelude.{negsuc}
use Rattle.std.proofs.lemmas.Bool.{cases_lt, ltb-true, lt-ltb}
use Rattle.std.proofs.lemmas.Int.{to_z-of_z}
use Rattle.heap_places.specs.ps_heap.Operators.{is_int}
use Rattle.heap_places.proofs.WordLaws.{int-low, int-mid, int-high}
use Rattle.heap_places.specs.swizzle.declared.fault.SwizzleFault.{SwizzleFault}
use Rattle.table_nodes.specs.Sought.{key_in, IsKeyHeld}
use Rattle.table_nodes.proofs.NodeLaws.{seen_held, seat_at}

pub bytes_shown : (heap : Heap) (text : ℕ) → (header_at heap text).kind ≡ TextKind → shown_text (shown_at heap text) ≡ text_at heap text
bytes_shown heap text kind = ap (λ (k : Kind). take (header_at heap text).bytes (drop (8 * words_before k) (bytes_of (shown_at heap text).nums))) (sym kind)

-- the object that a slot names, after a touch, shows what was seen under the name
module _ (old new : Heap) (a b : Outside Space) (at to : ℕ) (slot : ℕ) where
  pub slot_seen : IsHeap new → Within (joint old a) (joint new b) → Denotes new (Some to) (name_of old (ref_at old at slot)) → (it : Shown) → seen old a (slot_of (shown_at old at) slot) it → it ≡ shown_at new to
  slot_seen h w d it there =
      let named : joint old a (name_at new to) it = subst (λ n. joint old a n it) (slot-name old at slot ∙ sym d.1) (seen_joint old a (slot_of (shown_at old at) slot) it there) in
      seen_held new (Holds b) to it h d.0 (w (name_at new to) it named)

-- the text of a node's key
pub text_of_key : (old new : Heap) (a b : Outside Space) (at to : ℕ) (n : Reference) (row : Seat by_texts) → IsHeap old → IsHeap new → Within (joint old a) (joint new b)
    → Denotes new (Some to) (name_of old (ref_at old at 2)) → IsNamed old at n → rows_in by_texts old a n row → ((header_at new to).kind ≡ TextKind) × (text_at new to ≡ row.entry.key)
text_of_key old new a b at to n row h h_new w d named r =
    let k = (seat_at by_texts old a at n row h named r).key in
    let same = slot_seen old new a b at to 2 h_new w d k.it k.there in
    let kind : (header_at new to).kind ≡ TextKind = ap (λ it. it.kind) (sym same) ∙ k.kind in
    (kind, sym (bytes_shown new to kind) ∙ (ap shown_text (sym same) ∙ k.bytes_are))

-- the int of a node's key
pub int_of_key : (heap : Heap) (outside : Outside Space) (at : ℕ) (n : Reference) (row : Seat by_ints) → IsHeap heap → IsNamed heap at n → rows_in by_ints heap outside n row → int_in (word_in (shown_at heap at) 1) ≡ Some row.entry.key
int_of_key heap outside at n row h named r = (seat_at by_ints heap outside at n row h named r).key

-- a key stays where objects do
pub key_held_kept : (old new : Heap) (key : Key) → Keeps old new → IsKeyHeld old key → IsKeyHeld new key
key_held_kept old new (Int value) keeps held = held
key_held_kept old new (Text at) keeps held = let t = texts-kept old new keeps at held.held held.kind in record { held = t.held; kind = t.kind }

pub key_in_kept : (old new : Heap) (key : Key) → Keeps old new → IsKeyHeld old key → key_in new key ≡ key_in old key
key_in_kept old new (Int value) keeps held = refl
key_in_kept old new (Text at) keeps held = (texts-kept old new keeps at held.held held.kind).bytes

-- How the sought key stands to a key that was read.

pub same_ok : (x y : ℤ) (r : Result ℤ SwizzleFault) → r ≡ Ok x → r ≡ Ok y → x ≡ y
same_ok x y r e f = cc

-- An int of 32 bits comes back from code as it is, and what a word stands for is one.
pub int_same : (z : ℤ) → is_int z ≡ true → to_z w32 (of_z w32 z) ≡ z
int_same (pos n) e = to_z-of_z w32 (pos n) (record { sfits = ltb-true n (2 ^ 31) e })
int_same (negsuc n) e = to_z-of_z w32 (negsuc n) (record { sfits = ltb-true n (2 ^ 31) e })

pub int_read : (word : ℕ) (z : ℤ) → int_in word ≡ Some z → is_int z ≡ true
int_read word z e = elim (cases_lt word (2 ^ 31)) [
  | inl low ↦
      let same : pos word ≡ z = let both : Some (pos word) ≡ Some z = sym (int-low word low) ∙ e in cc in
      subst (λ (y : ℤ). is_int y ≡ true) same (lt-ltb word (2 ^ 31) low)
  | inr ge ↦ elim (cases_lt word (2 ^ 64 - 2 ^ 31)) [
    | inl mid ↦ let bad : None ≡ Some z = sym (int-mid word ge mid) ∙ e in absurd (cc)
    | inr high ↦
        let same : negsuc (2 ^ 64 - 1 - word) ≡ z = let both : Some (negsuc (2 ^ 64 - 1 - word)) ≡ Some z = sym (int-high word high) ∙ e in cc in
        subst (λ (y : ℤ). is_int y ≡ true) same (lt-ltb (2 ^ 64 - 1 - word) (2 ^ 31) (omega (arith, high)))
  ]
]

-- the int of a node's key comes back from code as it is
pub int_key_same : (heap : Heap) (outside : Outside Space) (at : ℕ) (n : Reference) (row : Seat by_ints) (int : ℤ) → IsHeap heap → IsNamed heap at n → rows_in by_ints heap outside n row → int ≡ row.entry.key → to_z w32 (of_z w32 int) ≡ row.entry.key
int_key_same heap outside at n row int h named r same =
    ap (λ y. to_z w32 (of_z w32 y)) same ∙ int_same row.entry.key (int_read (word_in (shown_at heap at) 1) row.entry.key (int_of_key heap outside at n row h named r))

-- nil names no object
pub nil_unseen : (heap : Heap) (outside : Outside Space) (it : Shown) → seen heap outside Nil it → ⊥
nil_unseen heap outside it (inl a) = name-not_nil heap a.at (sym a.name_is)
nil_unseen heap outside it (inr v) = let e = v.name_is in absurd (cc)

pub text_not_nil : (heap : Heap) (outside : Outside Space) (at : ℕ) (n : Reference) (row : Seat by_texts) → IsHeap heap → name_of heap (ref_at heap at 2) ≡ Nil → IsNamed heap at n → rows_in by_texts heap outside n row → ⊥
text_not_nil heap outside at n row h nil named r =
    let k = (seat_at by_texts heap outside at n row h named r).key in
    nil_unseen heap outside k.it (subst (λ m. seen heap outside m k.it) (slot-name heap at 2 ∙ nil) k.there)
