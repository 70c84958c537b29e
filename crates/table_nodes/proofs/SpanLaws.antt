-- The keys of a part of a tree lie in a span, and the search for a key narrows it.
use Rattle.std.proofs.Common.{◌≡◌, ◌≢◌, ℕ, List, ◌∷◌, Option, Some, None, IfSome, refl, sym, ap, ◌∙◌, subst}
use Rattle.std.specs.List.{AllByRecursion}
use Rattle.std.specs.Ordering.{int_cmp, ordering_reverse}
use Rattle.std.specs.declared.cmp.Ordering.{Ordering}
use Rattle.std.specs.declared.cmp.Ordering.TheVariants.{Less, Equal, Greater}
use Rattle.heap_places.specs.ps_heap.Texts.{order_of}
use Rattle.heap_places.specs.ps_outside.Outside.{Outside}
use Rattle.heap_places.specs.obj_layout.Stored.{Space}
use Rattle.heap_places.specs.swizzle.declared.fault.SwizzleFault.{SwizzleFault}
use Rattle.heap_places.specs.swizzle.Heap.{Heap, IsHeld, ref_at}
use Rattle.heap_places.specs.swizzle.Joint.{Shown, name_at, name_of, shown_at}
use Rattle.heap_places.specs.swizzle.Text.{text_at}
use Rattle.heap_places.specs.swizzle.Touch.{Denotes, Keeps}
use Rattle.heap_places.specs.Shapes.{slot_of, word_in}
use Rattle.heap_places.specs.Words.{int_in}
use Rattle.heap_places.proofs.PlaceLaws.{slot-name}
use Rattle.heap_places.proofs.of_swizzle.ReadingLaws.{texts-kept}
use Rattle.avl_trees.specs.Trees.{Tree, node, items}
use Rattle.avl_trees.specs.Standing.{IsRising, under}
use Rattle.avl_trees.proofs.Ordered.{all_front, all_back, around}
use Rattle.table_nodes.specs.declared.keys.Key.{Key}
use Rattle.table_nodes.specs.declared.keys.Key.TheVariants.{Int, Text}
use Rattle.table_nodes.specs.declared.span.Span.{Span}
use Rattle.table_nodes.specs.Faults.{IsNodeFault, misfit, out_of_order}
use Rattle.node_rows.specs.Keys.{Keys, by_ints, by_texts, KeyOf, order_by}
use Rattle.table_nodes.specs.Nodes.{IsNode}
use Rattle.table_nodes.specs.Sought.{IsKeyHeld, kind_of, key_in}
use Rattle.table_nodes.specs.Spans.{HasKey, HasSought, IsHigh, IsKeyOf, IsLow, IsOutside, IsPassed, IsPlaced, IsSpan, IsValueOf, IsWithin, ShowsKey, keys_order, narrow}
use Rattle.node_rows.specs.Nodes.{I}
use Rattle.table_nodes.proofs.KeyLaws.{total}
use Rattle.table_nodes.proofs.SoughtLaws.{key_held_kept}

-- the slot of an object after it was touched
pub slot_shown : (old new : Heap) (at slot to : ℕ) → Keeps old new → IsHeld old at → Denotes new (Some to) (name_of old (ref_at old at slot)) → slot_of (shown_at new at) slot ≡ name_at new to
slot_shown old new at slot to keeps held d = ap (λ (it : Shown). slot_of it slot) (keeps.objects at held).shown_as ∙ (slot-name old at slot ∙ sym d.1)

-- Where objects stay, keys do.

shows_kept : (old new : Heap) (at : ℕ) (key : Key) → Keeps old new → IsHeld old at → IsKeyHeld old key → ShowsKey old (shown_at old at) key → ShowsKey new (shown_at new at) key
shows_kept old new at (Int value) keeps held k s = ap (λ (it : Shown). int_in (word_in it 1)) (keeps.objects at held).shown_as ∙ s
shows_kept old new at (Text t) keeps held k s = ap (λ (it : Shown). slot_of it 2) (keeps.objects at held).shown_as ∙ (s ∙ sym (keeps.objects t k.held).name)

node_kept : (old new : Heap) (at : ℕ) → Keeps old new → IsNode old at → IsNode new at
node_kept old new at keeps m = let s = keeps.objects at m.held in record { held = s.held; kind = ap (λ it. it.kind) s.shown_as ∙ m.kind; refs = s.refs ∙ m.refs; nums = s.nums ∙ m.nums }

pub has_kept : (old new : Heap) (at : ℕ) (key : Key) → Keeps old new → HasKey old at key → HasKey new at key
has_kept old new at key keeps h = record { node = node_kept old new at keeps h.node; held = key_held_kept old new key keeps h.held; shows = shows_kept old new at key keeps h.node.held h.held h.shows }

passed_kept : (old new : Heap) (end : Option Key) → Keeps old new → IfSome end (IsPassed old) → IfSome end (IsPassed new)
passed_kept old new None keeps h = tt
passed_kept old new (Some key) keeps h = (h.0, has_kept old new h.0 key keeps h.1)

pub span_kept : (old new : Heap) (span : Span) → Keeps old new → IsSpan old span → IsSpan new span
span_kept old new span keeps s = record { low_is = passed_kept old new span.low keeps s.low_is; high_is = passed_kept old new span.high keeps s.high_is }

pub end_held : (heap : Heap) (end : Option Key) → IfSome end (IsPassed heap) → IfSome end (IsKeyHeld heap)
end_held heap None h = tt
end_held heap (Some key) h = h.1.held

order_kept : (old new : Heap) (a b : Key) → Keeps old new → IsKeyHeld old a → IsKeyHeld old b → keys_order new a b ≡ keys_order old a b
order_kept old new (Int a) (Int b) keeps h k = refl
order_kept old new (Int a) (Text b) keeps h k = refl
order_kept old new (Text a) (Int b) keeps h k = refl
order_kept old new (Text a) (Text b) keeps h k =
    ap (λ t. order_of t (text_at new b)) (texts-kept old new keeps a h.held h.kind).bytes ∙ ap (order_of (text_at old a)) (texts-kept old new keeps b k.held k.kind).bytes

pub sought_kept : (old new : Heap) (at : ℕ) (key : Key) → Keeps old new → IsKeyHeld old key → HasSought old at key → HasSought new at key
sought_kept old new at key keeps held s = record { own = s.own; has = has_kept old new at s.own keeps s.has; same = order_kept old new key s.own keeps held s.has.held ∙ s.same }

key_of_kept : (ks : Keys) (old new : Heap) (end : Key) (key : KeyOf ks) → Keeps old new → IsKeyHeld old end → IsKeyOf ks old end key → IsKeyOf ks new end key
key_of_kept by_ints old new (Int value) key keeps held e = e
key_of_kept by_ints old new (Text at) key keeps held e = e
key_of_kept by_texts old new (Int value) key keeps held e = e
key_of_kept by_texts old new (Text at) key keeps held e = (texts-kept old new keeps at held.held held.kind).bytes ∙ e

module _ (ks : Keys) where
  low_kept : (old new : Heap) (is : List (I ks)) (end : Option Key) → Keeps old new → IfSome end (IsPassed old) → IfSome end (IsLow ks old is) → IfSome end (IsLow ks new is)
  low_kept old new is None keeps p h = tt
  low_kept old new is (Some end) keeps p h = record { key = h.key; key_is = key_of_kept ks old new end h.key keeps p.1.held h.key_is; above = h.above }

  high_kept : (old new : Heap) (is : List (I ks)) (end : Option Key) → Keeps old new → IfSome end (IsPassed old) → IfSome end (IsHigh ks old is) → IfSome end (IsHigh ks new is)
  high_kept old new is None keeps p h = tt
  high_kept old new is (Some end) keeps p h = record { key = h.key; key_is = key_of_kept ks old new end h.key keeps p.1.held h.key_is; below = h.below }

  pub within_kept : (old new : Heap) (span : Span) (is : List (I ks)) → Keeps old new → IsSpan old span → IsWithin ks old span is → IsWithin ks new span is
  within_kept old new span is keeps s w = record { low_is = low_kept old new is span.low keeps s.low_is w.low_is; high_is = high_kept old new is span.high keeps s.high_is w.high_is }

  -- where there is no node above
  pub within_all : (heap : Heap) (is : List (I ks)) → IsWithin ks heap (record { low = None; high = None }) is
  within_all heap is = record { low_is = tt; high_is = tt }

  low_of : (heap : Heap) (end : Option Key) (is js : List (I ks)) → ((P : I ks → Type 0) → AllByRecursion P is → AllByRecursion P js) → IfSome end (IsLow ks heap is) → IfSome end (IsLow ks heap js)
  low_of heap None is js f h = tt
  low_of heap (Some end) is js f h = record { key = h.key; key_is = h.key_is; above = f (λ a. order_by ks h.key a.entry.key ≡ Less) h.above }

  high_of : (heap : Heap) (end : Option Key) (is js : List (I ks)) → ((P : I ks → Type 0) → AllByRecursion P is → AllByRecursion P js) → IfSome end (IsHigh ks heap is) → IfSome end (IsHigh ks heap js)
  high_of heap None is js f h = tt
  high_of heap (Some end) is js f h = record { key = h.key; key_is = h.key_is; below = f (λ a. order_by ks a.entry.key h.key ≡ Less) h.below }

  -- two keys of this kind, compared
  pub keys_ordered : (heap : Heap) (a b : Key) (x y : KeyOf ks) → IsKeyOf ks heap a x → IsKeyOf ks heap b y → keys_order heap a b ≡ order_by ks x y
  keys_ordered heap a b x y e f = go ks a b x y e f
    where
      go : (ks : Keys) (a b : Key) (x y : KeyOf ks) → IsKeyOf ks heap a x → IsKeyOf ks heap b y → keys_order heap a b ≡ order_by ks x y
      go by_ints (Int a) (Int b) x y e f = ap (λ z. int_cmp z b) e ∙ ap (int_cmp x) f
      go by_ints (Int a) (Text b) x y e f = absurd f
      go by_ints (Text a) b x y e f = absurd e
      go by_texts (Text a) (Text b) x y e f = ap (λ t. order_of t (text_at heap b)) e ∙ ap (order_of x) f
      go by_texts (Text a) (Int b) x y e f = absurd f
      go by_texts (Int a) b x y e f = absurd e

  module _ (heap : Heap) (span : Span) (own : Key) (x : Tree (I ks)) (b : I ks) (y : Tree (I ks)) (within : IsWithin ks heap span (items (node x b y))) (own_is : IsKeyOf ks heap own b.entry.key) where
    -- on the left of the node, and on its right

    pub within_left : IsRising (order_by ks) (node x b y) → IsWithin ks heap (narrow Less own span) (items x)
    within_left rising = record {
      low_is = low_of heap span.low (items (node x b y)) (items x) (λ P h. all_front P (items x) (b ∷ items y) h) within.low_is;
      high_is = record { key = b.entry.key; key_is = own_is; below = (around (under (order_by ks)) (items x) b (items y) rising).before };
    }

    pub within_right : IsRising (order_by ks) (node x b y) → IsWithin ks heap (narrow Greater own span) (items y)
    within_right rising = record {
      low_is = record { key = b.entry.key; key_is = own_is; above = (around (under (order_by ks)) (items x) b (items y) rising).behind };
      high_is = high_of heap span.high (items (node x b y)) (items y) (λ P h. (all_back P (items x) (b ∷ items y) h).1) within.high_is;
    }

    -- the node's key lies in the span

    high_here : (end : Option Key) (at : ℕ) (fault : SwizzleFault) → IfSome end (IsHigh ks heap (items (node x b y))) → IsOutside heap at own end Less fault → ⊥
    high_here None at fault h o = let e = o.end_is in absurd (cc)
    high_here (Some end) at fault h o =
        let same : end ≡ o.end = let e = o.end_is in cc in
        let below = (all_back (λ a. order_by ks a.entry.key h.key ≡ Less) (items x) (b ∷ items y) h.below).0 in
        o.outside (ap (keys_order heap own) (sym same) ∙ (keys_ordered heap own end b.entry.key h.key own_is h.key_is ∙ below))

    low_here : (end : Option Key) (at : ℕ) (fault : SwizzleFault) → IfSome end (IsLow ks heap (items (node x b y))) → IsOutside heap at own end Greater fault → ⊥
    low_here None at fault h o = let e = o.end_is in absurd (cc)
    low_here (Some end) at fault h o =
        let same : end ≡ o.end = let e = o.end_is in cc in
        let above = (all_back (λ a. order_by ks h.key a.entry.key ≡ Less) (items x) (b ∷ items y) h.above).0 in
        o.outside (ap (keys_order heap own) (sym same) ∙ (keys_ordered heap own end b.entry.key h.key own_is h.key_is ∙ ((total ks).antisymm b.entry.key h.key ∙ ap ordering_reverse above)))

    pub not_above : (at : ℕ) (fault : SwizzleFault) → IsOutside heap at own span.high Less fault → ⊥
    not_above at fault o = high_here span.high at fault within.high_is o

    pub not_outside : (at : ℕ) (order : Ordering) (fault : SwizzleFault) → (order ≡ Less → IsOutside heap at own span.high Less fault) → (order ≢ Less → IsOutside heap at own span.low Greater fault) → ⊥
    not_outside at Less fault l g = high_here span.high at fault within.high_is (l refl)
    not_outside at Equal fault l g = low_here span.low at fault within.low_is (g (λ e. cc))
    not_outside at Greater fault l g = low_here span.low at fault within.low_is (g (λ e. cc))

    -- where the key was found, or belongs
    pub placed_at : (key : KeyOf ks) (order : Ordering) (new : Span) → IsRising (order_by ks) (node x b y) → order ≡ order_by ks key b.entry.key → new ≡ narrow order own span → IsPlaced ks heap key x b y (record { order = order; span = new })
    placed_at key order new rising e is = record {
      order = e;
      left = λ f. subst (λ (s : Span). IsWithin ks heap s (items x)) (sym (is ∙ ap (λ o. narrow o own span) f)) (within_left rising);
      right = λ f. subst (λ (s : Span). IsWithin ks heap s (items y)) (sym is) (on_right order f);
    }
      where
        on_right : (order : Ordering) → order ≢ Less → IsWithin ks heap (narrow order own span) (items y)
        on_right Less f = absurd (f refl)
        on_right Equal f = within_right rising
        on_right Greater f = within_right rising

-- the sought key is one of its kind
pub sought_is : (heap : Heap) (key : Key) → IsKeyOf (kind_of key) heap key (key_in heap key)
sought_is heap (Int value) = refl
sought_is heap (Text at) = refl

-- the ends of a narrower span are keys of nodes
pub narrow_span : (heap : Heap) (order : Ordering) (at : ℕ) (own : Key) (span new : Span) → new ≡ narrow order own span → HasKey heap at own → IsSpan heap span → IsSpan heap new
narrow_span heap order at own span new is has s = subst (λ (x : Span). IsSpan heap x) (sym is) (go order)
  where
    go : (order : Ordering) → IsSpan heap (narrow order own span)
    go Less = record { low_is = s.low_is; high_is = (at, has) }
    go Equal = record { low_is = (at, has); high_is = s.high_is }
    go Greater = record { low_is = (at, has); high_is = s.high_is }

-- a key that isn't in its span is reported so
end_failed : (before after : Outside Space) (heap : Heap) (at : ℕ) (own : Key) (end : Option Key) (wanted : Ordering) (fault : SwizzleFault) → HasKey heap at own → IfSome end (IsPassed heap) → IsOutside heap at own end wanted fault
    → IsNodeFault before after heap fault
end_failed before after heap at own end wanted fault has p o =
    let there = subst (λ (e : Option Key). IfSome e (IsPassed heap)) o.end_is p in
    misfit at _ _ has.node.held (out_of_order own o.end there.0 has there.1 refl refl) o.is

pub high_failed : (before after : Outside Space) (heap : Heap) (at : ℕ) (own : Key) (span : Span) (fault : SwizzleFault) → HasKey heap at own → IsSpan heap span → IsOutside heap at own span.high Less fault → IsNodeFault before after heap fault
high_failed before after heap at own span fault has s o = end_failed before after heap at own span.high Less fault has s.high_is o

pub span_failed : (before after : Outside Space) (heap : Heap) (at : ℕ) (order : Ordering) (own : Key) (span : Span) (fault : SwizzleFault) → HasKey heap at own → IsSpan heap span
    → (order ≡ Less → IsOutside heap at own span.high Less fault) → (order ≢ Less → IsOutside heap at own span.low Greater fault) → IsNodeFault before after heap fault
span_failed before after heap at Less own span fault has s l g = end_failed before after heap at own span.high Less fault has s.high_is (l refl)
span_failed before after heap at Equal own span fault has s l g = end_failed before after heap at own span.low Greater fault has s.low_is (g (λ e. cc))
span_failed before after heap at Greater own span fault has s l g = end_failed before after heap at own span.low Greater fault has s.low_is (g (λ e. cc))

-- the value of a node where the sought key was found
pub value_found : (old new : Heap) (at value : ℕ) (key : Key) → Keeps old new → IsKeyHeld old key → HasSought old at key → slot_of (shown_at new at) 3 ≡ name_at new value → IsValueOf new key value
value_found old new at value key keeps held s e = record { at = at; sought = sought_kept old new at key keeps held s; value_is = e }
