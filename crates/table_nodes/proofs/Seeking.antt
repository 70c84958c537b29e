-- A key is sought, from the root of a tree down.
use Rattle.std.proofs.Common.{◌≡◌, ◌∷◌, ℕ, ◌+◌, ◌<◌, Option, Some, None, Result, Ok, Err, MatchResult, refl, sym, ◌∙◌, subst, arith, inl, inr}
use Rattle.std.specs.List.{AllByRecursion}
use Rattle.std.specs.declared.cmp.Ordering.TheVariants.{Less, Equal, Greater}
use Rattle.heap_places.specs.swizzle.declared.fault.SwizzleFault.{SwizzleFault}
use Rattle.heap_places.specs.obj_layout.declared.reference.Reference.{Reference}
use Rattle.heap_places.specs.swizzle.Heap.{Heap, IsHeld}
use Rattle.heap_places.specs.swizzle.Joint.{name_at}
use Rattle.avl_trees.specs.Trees.{Tree, leaf, node, height, items, lookup}
use Rattle.avl_trees.specs.Standing.{Stands, IsRising, seek, root_of, row_of, under}
use Rattle.avl_trees.proofs.Ordered.{all_front, all_back, around}
use Rattle.avl_trees.proofs.Standing.{stands_grown}
use Rattle.node_rows.specs.Keys.{Keys, KeyOf, order_by}
use Rattle.node_rows.specs.Nodes.{Seat, I, HasValue}
use Rattle.heap_places.specs.swizzle.Changes.{IsKnown}
use Rattle.table_nodes.specs.Nodes.{IsNamed, IsLinked, IsFetchFault, seen}
use Rattle.table_nodes.specs.Steps.{Place, rows_of, Touches}
use Rattle.table_nodes.specs.Searching.{AreSeen, IsTree, looks, value_of, IsObject, ReadsValue, IsStep}
use Rattle.table_nodes.specs.Spans.{IsWithin}
use Rattle.table_nodes.specs.declared.search.Step.TheVariants.{Found, Down}
use Rattle.table_nodes.specs.declared.span.Span.{Span}
use Rattle.table_nodes.specs.declared.span.Way.{Way}
use Rattle.table_nodes.proofs.SeenLaws.{fetch_back, grown_seen}
use Rattle.table_nodes.proofs.StepLaws.{touches_then}
use Rattle.table_nodes.proofs.SpanLaws.{within_all}

module _ (ks : Keys) (key : KeyOf ks) where
  abbrev sought_in : Tree (I ks) → Option (I ks)
  sought_in t = lookup (seek (order_by ks) key) t

  abbrev looks_in : Tree (I ks) → ℕ
  looks_in t = looks (seek (order_by ks) key) t

  -- What is sought in a tree is sought in this part of it, which is lower than the bound; so many steps
  -- were taken before and up to now.
  pub record Sought (first p : Place) (at : Option ℕ) (span : Span) (bound before now : ℕ) (t : Tree (I ks)) : Type 0 where
    pub part : Tree (I ks)
    pub looked : before + looks_in t ≡ now + looks_in part
    pub stands : Stands (rows_of ks p) part
    pub root_is : IsLinked p.heap at (root_of part)
    pub same : sought_in part ≡ sought_in t
    pub lower : height part < bound
    pub values : AllByRecursion HasValue (items part)
    pub rising : IsRising (order_by ks) part
    pub within : IsWithin ks p.heap span (items part)
    pub known : AreSeen ks first.heap first.outside (items t) → AreSeen ks first.heap first.outside (items part)

  -- before the first step
  pub sought_whole : (p : Place) (root : Option ℕ) (bound before : ℕ) (t : Tree (I ks)) → IsTree ks p root t → height t < bound → Sought p p root (record { low = None; high = None }) bound before before t
  sought_whole p root bound before t h low = record { part = t; looked = refl; stands = h.stands; root_is = h.root_is; same = refl; lower = low; values = h.values; rising = h.rising; within = within_all ks p.heap (items t); known = λ k. k }

  -- nothing is left
  pub sought_none : (first p : Place) (new : Heap) (span : Span) (bound before now : ℕ) (t : Tree (I ks)) → Sought first p None span bound before now t → IsObject new None (value_of (sought_in t))
  unfolding lookup
  sought_none first p new span bound before now t s = go s.part s.root_is s.same
    where
      go : (part : Tree (I ks)) → IsLinked p.heap None (root_of part) → sought_in part ≡ sought_in t → IsObject new None (value_of (sought_in t))
      go leaf e f = subst (λ o. IsObject new None (value_of o)) f tt
      go (node x b y) e f = absurd e

  pub looked_none : (first p : Place) (span : Span) (bound before now : ℕ) (t : Tree (I ks)) → Sought first p None span bound before now t → now ≡ before + looks_in t
  unfolding looks
  looked_none first p span bound before now t s = go s.part s.root_is s.looked
    where
      go : (part : Tree (I ks)) → IsLinked p.heap None (root_of part) → before + looks_in t ≡ now + looks_in part → now ≡ before + looks_in t
      go leaf e f = omega (arith, f)
      go (node x b y) e f = absurd e

  -- the part at a node
  pub record AtNode (first p : Place) (n : ℕ) (span : Span) (bound before now : ℕ) (t : Tree (I ks)) : Type 0 where
    pub x : Tree (I ks)
    pub b : I ks
    pub y : Tree (I ks)
    pub stands : Stands (rows_of ks p) (node x b y)
    pub name : IsNamed p.heap n b.name
    pub same : sought_in (node x b y) ≡ sought_in t
    pub lower : height (node x b y) < bound
    pub values : AllByRecursion HasValue (items (node x b y))
    pub rising : IsRising (order_by ks) (node x b y)
    pub within : IsWithin ks p.heap span (items (node x b y))
    pub looked : before + looks_in t ≡ now + looks_in (node x b y)
    pub known : AreSeen ks first.heap first.outside (items t) → AreSeen ks first.heap first.outside (items (node x b y))

  pub at_node : (first p : Place) (n : ℕ) (span : Span) (bound before now : ℕ) (t : Tree (I ks)) → Sought first p (Some n) span bound before now t → AtNode first p n span bound before now t
  at_node first p n span bound before now t s = go s.part s.stands s.root_is s.same s.lower s.values s.looked s.rising s.within s.known
    where
      go : (part : Tree (I ks)) → Stands (rows_of ks p) part → IsLinked p.heap (Some n) (root_of part) → sought_in part ≡ sought_in t → height part < bound → AllByRecursion HasValue (items part) → before + looks_in t ≡ now + looks_in part → IsRising (order_by ks) part → IsWithin ks p.heap span (items part) → (AreSeen ks first.heap first.outside (items t) → AreSeen ks first.heap first.outside (items part)) → AtNode first p n span bound before now t
      go leaf h e f l v k r w j = absurd e
      go (node x b y) h e f l v k r w j = record { known = j; looked = k; rising = r; within = w; x = x; b = b; y = y; stands = h; name = e; same = f; lower = l; values = v }

  pub lookup_here : (x : Tree (I ks)) (b : I ks) (y : Tree (I ks)) → order_by ks key b.entry.key ≡ Equal → sought_in (node x b y) ≡ Some b
  unfolding lookup
  lookup_here x b y e = rw e refl

  pub lookup_left : (x : Tree (I ks)) (b : I ks) (y : Tree (I ks)) → order_by ks key b.entry.key ≡ Less → sought_in (node x b y) ≡ sought_in x
  unfolding lookup
  lookup_left x b y e = rw e refl

  pub lookup_right : (x : Tree (I ks)) (b : I ks) (y : Tree (I ks)) → order_by ks key b.entry.key ≡ Greater → sought_in (node x b y) ≡ sought_in y
  unfolding lookup
  lookup_right x b y e = rw e refl

  looks_here : (x : Tree (I ks)) (b : I ks) (y : Tree (I ks)) → order_by ks key b.entry.key ≡ Equal → looks_in (node x b y) ≡ 1
  unfolding looks
  looks_here x b y e = rw e refl

  looks_left : (x : Tree (I ks)) (b : I ks) (y : Tree (I ks)) → order_by ks key b.entry.key ≡ Less → looks_in (node x b y) ≡ 1 + looks_in x
  unfolding looks
  looks_left x b y e = rw e refl

  looks_right : (x : Tree (I ks)) (b : I ks) (y : Tree (I ks)) → order_by ks key b.entry.key ≡ Greater → looks_in (node x b y) ≡ 1 + looks_in y
  unfolding looks
  looks_right x b y e = rw e refl

  -- the height that was read
  pub height_read : (first p : Place) (n : ℕ) (span : Span) (bound before now : ℕ) (t : Tree (I ks)) (s : AtNode first p n span bound before now t) (h : ℕ) → ((at : ℕ) (k : Reference) (row : Seat ks) → Some n ≡ Some at → IsNamed p.heap at k → rows_of ks p k row → h ≡ row.height) → h ≡ height (node s.x s.b s.y)
  height_read first p n span bound before now t s h f = f n s.b.name (row_of s.x s.b s.y) refl s.name s.stands.0

  module _ (first p m : Place) (n : ℕ) (span : Span) (bound before now : ℕ) (t : Tree (I ks)) (s : AtNode first p n span bound before now t) (grows : Touches p m) where
    -- the node's value is seen, where those of the tree are
    pub value_seen : Touches first p → AreSeen ks first.heap first.outside (items t) → IsKnown (seen m.heap m.outside) s.b.entry.value
    value_seen from k =
        let value = (all_back (λ a. IsKnown (seen first.heap first.outside) a.entry.value) (items s.x) (s.b ∷ items s.y) (s.known k)).0 in
        record { it = value.it; is = grown_seen first.heap m.heap first.outside m.outside (touches_then first p m from grows) s.b.entry.value value.it value.is }

    -- the key was found, and its value read
    pub sought_found : Touches first p → (new : Place) → IsStep ks m.heap key s.x s.b s.y Found → (result : Result ℕ SwizzleFault) → ReadsValue m.heap new.heap m.outside n result
        → MatchResult result (λ value. IsHeld new.heap value → IsObject new.heap (Some value) (value_of (sought_in t))) (λ fault. AreSeen ks first.heap first.outside (items t) → IsFetchFault first.heap first.outside fault)
    sought_found from new found result reads =
        let not_nil = (all_back HasValue (items s.x) (s.b ∷ items s.y) s.values).0 in
        go result (reads ks s.b.name (row_of s.x s.b s.y) (grows.named n s.b.name s.name) (grows.rows ks s.b.name (row_of s.x s.b s.y) s.stands.0) not_nil)
      where
        all : Touches first m
        all = touches_then first p m from grows

        go : (result : Result ℕ SwizzleFault) → MatchResult result (λ value. name_at new.heap value ≡ s.b.entry.value) (λ fault. IsKnown (seen m.heap m.outside) s.b.entry.value → IsFetchFault m.heap m.outside fault)
            → MatchResult result (λ value. IsHeld new.heap value → IsObject new.heap (Some value) (value_of (sought_in t))) (λ fault. AreSeen ks first.heap first.outside (items t) → IsFetchFault first.heap first.outside fault)
        go (Ok value) e = λ held. subst (λ o. IsObject new.heap (Some value) (value_of o)) (sym (lookup_here s.x s.b s.y found) ∙ s.same) (held, e)
        go (Err fault) w = λ k. fetch_back first.heap m.heap first.outside m.outside fault all (w (value_seen from k))

    pub looked_found : (later : ℕ) → later ≡ now + 1 → IsStep ks m.heap key s.x s.b s.y Found → later ≡ before + looks_in t
    looked_found later e found =
        let one = looks_here s.x s.b s.y found in
        let all = s.looked in
        omega (arith, e, one, all)

    -- the search goes on at a side
    pub sought_down : (later : ℕ) → later ≡ now + 1 → (h : ℕ) (way : Way) → IsStep ks m.heap key s.x s.b s.y (Down way) → h ≡ height (node s.x s.b s.y) → Sought first m way.side way.span h before later t
    sought_down later one h way (inl w) e = record {
      part = s.x;
      looked = (let more = looks_left s.x s.b s.y w.0 in let all = s.looked in omega (arith, one, more, all));
      stands = stands_grown (rows_of ks p) (rows_of ks m) (grows.rows ks) s.x s.stands.1;
      root_is = w.1;
      rising = (around (under (order_by ks)) (items s.x) s.b (items s.y) s.rising).left;
      within = w.2;
      same = sym (lookup_left s.x s.b s.y w.0) ∙ s.same;
      lower = omega (arith, e);
      values = all_front HasValue (items s.x) (s.b ∷ items s.y) s.values;
      known = λ k. all_front (λ a. IsKnown (seen first.heap first.outside) a.entry.value) (items s.x) (s.b ∷ items s.y) (s.known k);
    }
    sought_down later one h way (inr w) e = record {
      part = s.y;
      looked = (let more = looks_right s.x s.b s.y w.0 in let all = s.looked in omega (arith, one, more, all));
      stands = stands_grown (rows_of ks p) (rows_of ks m) (grows.rows ks) s.y s.stands.2;
      root_is = w.1;
      rising = (around (under (order_by ks)) (items s.x) s.b (items s.y) s.rising).right;
      within = w.2;
      same = sym (lookup_right s.x s.b s.y w.0) ∙ s.same;
      lower = omega (arith, e);
      values = (all_back HasValue (items s.x) (s.b ∷ items s.y) s.values).1;
      known = λ k. (all_back (λ a. IsKnown (seen first.heap first.outside) a.entry.value) (items s.x) (s.b ∷ items s.y) (s.known k)).1;
    }
