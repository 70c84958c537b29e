-- A node that was made: its row, and what else is seen.
use Rattle.std.proofs.Common.{◌≡◌, ℕ, ◌≤◌, List, zero, suc, ◌-◌, inr, ◌^◌, ℤ, pos, negsuc, true, [], ◌∷◌, Some, refl, sym, ap, ◌∙◌, subst, arith, inl}
use Rattle.heap_places.specs.ps_outside.Outside.{Outside}
use Rattle.heap_places.specs.obj_layout.Stored.{Space, Holds}
use Rattle.heap_places.specs.obj_layout.declared.kind.Kind.TheVariants.{Node}
use Rattle.heap_places.specs.obj_layout.declared.reference.Reference.{Reference}
use Rattle.heap_places.specs.obj_layout.declared.reference.Reference.TheVariants.{Nil, Local}
use Rattle.heap_places.specs.swizzle.Objects.{Object}
use Rattle.heap_places.specs.swizzle.Heap.{Heap, IsHeap, IsHeld, IsMade, IsInside, object_at, top_of, blank, with_ref, with_num, reference_to}
use Rattle.heap_places.specs.swizzle.Joint.{Shown, Joint, shown, shown_at, name_at, name_of}
use Rattle.heap_places.specs.swizzle.Changes.{Within, ChangedAt}
use Rattle.heap_places.specs.swizzle.Touch.{Keeps}
use Rattle.heap_places.proofs.of_swizzle.TouchLaws.{keeps-new}
use Rattle.heap_places.proofs.of_swizzle.JointLaws.{joint-made, name-fresh, held-cases}
use Rattle.heap_places.proofs.of_swizzle.MadeLaws.{made-held, made-object, made-other}
use Rattle.heap_places.proofs.of_swizzle.of_obj_layout.StoredLaws.{Holds-low}
use Rattle.std.proofs.lemmas.Bool.{ltb-true}
use Rattle.heap_places.specs.ps_heap.Operators.{is_int}
use Rattle.heap_places.proofs.WordLaws.{int-low, int-high}
use Rattle.heap_places.proofs.FillingLaws.{made-ref, made-num}
use Rattle.heap_places.specs.Words.{int_in, int_word}
use Rattle.table_nodes.specs.declared.keys.Key.{Key}
use Rattle.table_nodes.specs.declared.keys.Key.TheVariants.{Int, Text}
use Rattle.heap_places.specs.Shapes.{slot_of}
use Rattle.node_rows.specs.Keys.{IsKey, by_ints}
use Rattle.table_nodes.specs.Fetching.{IsNew, Fetches}
use Rattle.table_nodes.specs.Nodes.{IsNode, IsNamed, IsStored, seen}
use Rattle.table_nodes.specs.Sought.{kind_of, key_in, IsKeyHeld}
use Rattle.table_nodes.specs.Making.{with_key}
use Rattle.table_nodes.specs.Entering.{Makes}
use Rattle.table_nodes.proofs.NodeLaws.{rows_grow}
use Rattle.table_nodes.proofs.SoughtLaws.{bytes_shown}

-- the key of a new node, as a reference and as a word
abbrev pub key_ref : Key → Reference
key_ref (Int value) = Nil
key_ref (Text text) = Local text

abbrev pub key_word : Key → ℕ
key_word (Int value) = int_word value
key_word (Text text) = 0

abbrev pub node_object : Key → ℕ → Object
node_object key value = record (blank Node 4 3 0) { refs = Nil ∷ Nil ∷ key_ref key ∷ Local value ∷ []; nums = 0 ∷ key_word key ∷ 1 ∷ [] }

pub node_made : (old mid m1 m2 m3 : Heap) (at value : ℕ) (key : Key) → IsMade old mid at (blank Node 4 3 0) → m1 ≡ with_key mid at key → m2 ≡ with_ref m1 at 3 (reference_to (Some value)) → m3 ≡ with_num m2 at 2 1
    → IsMade old m3 at (node_object key value)
node_made old mid m1 m2 m3 at value (Int z) made e1 e2 e3 = made-num old m2 m3 at 2 1 _ (made-ref old m1 m2 at 3 _ (Local value) (made-num old mid m1 at 1 (int_word z) _ made e1) e2) e3
node_made old mid m1 m2 m3 at value (Text text) made e1 e2 e3 = made-num old m2 m3 at 2 1 _ (made-ref old m1 m2 at 3 _ (Local value) (made-ref old mid m1 at 2 _ (Local text) made e1) e2) e3

-- what was there stays where an object is made
pub made_keeps : (old new : Heap) (at : ℕ) (object : Object) → IsHeap old → IsMade old new at object → Keeps old new
made_keeps old new at object h made = subst (Keeps old) (sym made.made) (keeps-new old object h)

-- a node was made
pub made_fetches : (old new : Heap) (x : Outside Space) (at value : ℕ) (key : Key) → IsMade old new at (node_object key value) → Fetches (kind_of key) old new x
made_fetches old new x at value key made j held = elim (held-cases old (node_object key value) j (subst (λ (h : Heap). IsHeld h j) made.made held)) [
  | inl was ↦ inl was
  | inr top ↦ inr (inr (subst (IsNew (kind_of key) new) (made.place ∙ sym top) here))
]
  where
    o : object_at new at ≡ node_object key value
    o = made-object old new at (node_object key value) made

    plain : (k : Key) → kind_of k ≡ by_ints → slot_of (shown (name_of new) (node_object k value)) 2 ≡ Nil
    plain (Int z) e = refl
    plain (Text t) e = absurd (cc)

    here : IsNew (kind_of key) new at
    here = record {
      node = record { held = made-held old new at (node_object key value) made; kind = ap (λ (b : Object). b.header.kind) o; refs = ap (λ (b : Object). b.header.refs) o; nums = ap (λ (b : Object). b.header.nums) o };
      unstored = ap (λ (b : Object). b.header.pid) o;
      bytes = ap (λ (b : Object). b.header.bytes) o;
      plain = λ e. ap (λ (b : Object). slot_of (shown (name_of new) b) 2) o ∙ plain key e;
    }

-- each reference of it is to an object of before
same_local : (i j : ℕ) → Local i ≡ Local j → i ≡ j
same_local i j e = cc

node_inside : (heap : Heap) (key : Key) (value : ℕ) → IsKeyHeld heap key → IsHeld heap value → IsInside heap (node_object key value)
node_inside heap key value k v zero to e = absurd (cc)
node_inside heap key value k v (suc zero) to e = absurd (cc)
node_inside heap (Int z) value k v (suc (suc zero)) to e = absurd (cc)
node_inside heap (Text text) value k v (suc (suc zero)) to e = subst (IsHeld heap) (same_local text to e) k.held
node_inside heap key value k v (suc (suc (suc zero))) to e = subst (IsHeld heap) (same_local value to e) v
node_inside heap key value k v (suc (suc (suc (suc n)))) to e = absurd (cc)

-- An int comes back from the word that it is stored as.
int_back : (z : ℤ) → is_int z ≡ true → int_in (int_word z) ≡ Some z
unfolding int_word
int_back (pos n) e = int-low n (ltb-true n (2 ^ 31) e)
int_back (negsuc n) e =
    let lt = ltb-true n (2 ^ 31) e in
    int-high (2 ^ 64 - 1 - n) (omega (arith, lt)) ∙ ap (λ (k : ℕ). Some (negsuc k)) (omega (arith, lt))

-- the key of the new node
node_key : (old new : Heap) (outside : Outside Space) (value : ℕ) (key : Key) → IsKeyHeld old key → Within (seen old outside) (seen new outside)
    → IsKey (kind_of key) (seen new outside) (shown (name_of old) (node_object key value)) (key_in old key)
node_key old new outside value (Int z) held within = int_back z held
node_key old new outside value (Text text) held within =
    record { it = shown_at old text; there = within (name_at old text) (shown_at old text) (inl (record { at = text; held = held.held; name_is = refl; shown_is = refl })); kind = held.kind; bytes_are = bytes_shown old text held.kind }

module _ (old new : Heap) (outside : Outside Space) (at value : ℕ) (key : Key) (h : IsHeap old) (h_new : IsHeap new) (held : IsKeyHeld old key) (v : IsHeld old value) (made : IsMade old new at (node_object key value)) where
  abbrev pub it : Shown
  it = shown (name_of old) (node_object key value)

  changed : (holds : ℕ → List ℕ → Type 0) → ((pid : ℕ) (words : List ℕ) → holds pid words → 1 ≤ pid) → ChangedAt (Joint old holds) (Local at) it (Joint new holds)
  changed holds low = subst (λ n. ChangedAt (Joint old holds) (Local n) it (Joint new holds)) (sym made.place)
      (subst (λ m. ChangedAt (Joint old holds) (Local (top_of old)) it (Joint m holds)) (sym made.made) (joint-made old holds (node_object key value) h (node_inside old key value held v) refl low))

  unseen : (holds : ℕ → List ℕ → Type 0) (x : Shown) → Joint old holds (Local at) x → ⊥
  unseen holds x there = name-fresh old holds x h (subst (λ n. Joint old holds (Local n) x) made.place there)

  within : (holds : ℕ → List ℕ → Type 0) → ((pid : ℕ) (words : List ℕ) → holds pid words → 1 ≤ pid) → Within (Joint old holds) (Joint new holds)
  within holds low n x there = (changed holds low).stays n x (λ e. unseen holds x (subst (λ m. Joint old holds m x) e there)) there

  held_low : (pid : ℕ) (words : List ℕ) → Holds outside pid words → 1 ≤ pid
  held_low pid words there = Holds-low outside pid words there

  stored_low : (pid : ℕ) (words : List ℕ) → IsStored outside pid words → 1 ≤ pid
  stored_low pid words s = Holds-low outside pid words s.there

  nodes : (j : ℕ) → IsNode old j → IsNode new j
  nodes j n = let other = made-other old new at (node_object key value) j made n.held in
      record { held = other.0; kind = ap (λ x. x.header.kind) other.1 ∙ n.kind; refs = ap (λ x. x.header.refs) other.1 ∙ n.refs; nums = ap (λ x. x.header.nums) other.1 ∙ n.nums }

  name_same : (j : ℕ) → IsHeld old j → name_at new j ≡ name_at old j
  name_same j n = let other = made-other old new at (node_object key value) j made n in ap (λ x. Rattle.heap_places.specs.swizzle.Joint.name_by x.header j) other.1

  here : IsNamed new at (Local at)
  here =
      let o = made-object old new at (node_object key value) made in
      record {
        node = record { held = made-held old new at (node_object key value) made; kind = ap (λ x. x.header.kind) o; refs = ap (λ x. x.header.refs) o; nums = ap (λ x. x.header.nums) o };
        name = ap (λ x. Rattle.heap_places.specs.swizzle.Joint.name_by x.header at) o;
      }

  pub node_makes : Makes (kind_of key) old new outside at (key_in old key) (name_at old value)
  node_makes = record {
    there = record { it = it; there = (changed (IsStored outside) stored_low).there; is = record { kind = refl; refs = refl; nums = refl; left = refl; right = refl; key = node_key old new outside value key held (within (IsStored outside) stored_low); value = refl; height = refl } };
    fresh = unseen (Holds outside);
    seen = within (Holds outside) held_low;
    rows = λ other. rows_grow other (seen old outside) (seen new outside) (within (IsStored outside) stored_low);
    here = here;
    nodes = nodes;
    named = λ j n m. record { node = nodes j m.node; name = name_same j m.node.held ∙ m.name };
    heap = h_new;
    keeps = made_keeps old new at (node_object key value) h made;
    fetched = made_fetches old new outside at value key made;
  }
