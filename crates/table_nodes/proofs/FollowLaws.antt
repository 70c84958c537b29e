-- The next key is sought, from the root of a tree down.
use Rattle.std.proofs.Common.{◌≡◌, ◌≢◌, ℕ, ◌<◌, Option, Some, None, refl, sym, ◌∙◌, subst, arith, inl, inr}
use Rattle.std.specs.declared.cmp.Ordering.{Ordering}
use Rattle.std.specs.declared.cmp.Ordering.TheVariants.{Less, Equal, Greater}
use Rattle.heap_places.specs.obj_layout.declared.reference.Reference.{Reference}
use Rattle.avl_trees.specs.Rising.{pick}
use Rattle.avl_trees.specs.Trees.{Tree, leaf, node, height, items, next}
use Rattle.avl_trees.specs.Standing.{Stands, IsRising, root_of, row_of, under}
use Rattle.avl_trees.proofs.Ordered.{around}
use Rattle.avl_trees.proofs.Standing.{stands_grown}
use Rattle.node_rows.specs.Keys.{Keys, order_by}
use Rattle.node_rows.specs.Nodes.{Seat, I}
use Rattle.table_nodes.specs.Nodes.{IsNamed, IsLinked}
use Rattle.table_nodes.specs.Steps.{Place, rows_of, Touches}
use Rattle.table_nodes.specs.Searching.{IsTree}
use Rattle.table_nodes.specs.Following.{IsTurn, item_name}
use Rattle.table_nodes.specs.Spans.{IsWithin}
use Rattle.table_nodes.specs.declared.span.Span.{Span}
use Rattle.table_nodes.specs.declared.follow.Turn.{Turn}
use Rattle.table_nodes.proofs.SpanLaws.{within_all}
use Rattle.table_nodes.proofs.StepLaws.{linked_kept}

module _ (ks : Keys) (probe : I ks → Ordering) where
  abbrev above_in : Tree (I ks) → Option (I ks) → Option (I ks)
  above_in t other = next probe t other

  -- The next key of a tree is that of this part, or else the last one above, whose node this is.
  pub record Following (p : Place) (at last : Option ℕ) (span : Span) (bound : ℕ) (t : Tree (I ks)) : Type 0 where
    pub part : Tree (I ks)
    pub other : Option (I ks)
    pub stands : Stands (rows_of ks p) part
    pub root_is : IsLinked p.heap at (root_of part)
    pub last_is : IsLinked p.heap last (item_name other)
    pub same : above_in part other ≡ above_in t None
    pub lower : height part < bound
    pub rising : IsRising (order_by ks) part
    pub within : IsWithin ks p.heap span (items part)

  -- before the first step
  pub following_whole : (p : Place) (root : Option ℕ) (bound : ℕ) (t : Tree (I ks)) → IsTree ks p root t → height t < bound → Following p root None (record { low = None; high = None }) bound t
  following_whole p root bound t h low = record { part = t; other = None; stands = h.stands; root_is = h.root_is; last_is = tt; same = refl; lower = low; rising = h.rising; within = within_all ks p.heap (items t) }

  -- nothing is left
  pub following_none : (p : Place) (last : Option ℕ) (span : Span) (bound : ℕ) (t : Tree (I ks)) → Following p None last span bound t → IsLinked p.heap last (item_name (above_in t None))
  unfolding next
  following_none p last span bound t s = go s.part s.root_is s.same
    where
      go : (part : Tree (I ks)) → IsLinked p.heap None (root_of part) → above_in part s.other ≡ above_in t None → IsLinked p.heap last (item_name (above_in t None))
      go leaf e f = subst (λ o. IsLinked p.heap last (item_name o)) f s.last_is
      go (node x b y) e f = absurd e

  -- the part at a node
  pub record AtTurn (p : Place) (n : ℕ) (last : Option ℕ) (span : Span) (bound : ℕ) (t : Tree (I ks)) : Type 0 where
    pub x : Tree (I ks)
    pub b : I ks
    pub y : Tree (I ks)
    pub other : Option (I ks)
    pub stands : Stands (rows_of ks p) (node x b y)
    pub name : IsNamed p.heap n b.name
    pub last_is : IsLinked p.heap last (item_name other)
    pub same : above_in (node x b y) other ≡ above_in t None
    pub lower : height (node x b y) < bound
    pub rising : IsRising (order_by ks) (node x b y)
    pub within : IsWithin ks p.heap span (items (node x b y))

  pub at_turn : (p : Place) (n : ℕ) (last : Option ℕ) (span : Span) (bound : ℕ) (t : Tree (I ks)) → Following p (Some n) last span bound t → AtTurn p n last span bound t
  at_turn p n last span bound t s = go s.part s.stands s.root_is s.same s.lower s.rising s.within
    where
      go : (part : Tree (I ks)) → Stands (rows_of ks p) part → IsLinked p.heap (Some n) (root_of part) → above_in part s.other ≡ above_in t None → height part < bound → IsRising (order_by ks) part → IsWithin ks p.heap span (items part) → AtTurn p n last span bound t
      go leaf h e f l r w = absurd e
      go (node x b y) h e f l r w = record { rising = r; within = w; x = x; b = b; y = y; other = s.other; stands = h; name = e; last_is = s.last_is; same = f; lower = l }

  next_left : (x : Tree (I ks)) (b : I ks) (y : Tree (I ks)) (other : Option (I ks)) → probe b ≡ Less → above_in (node x b y) other ≡ above_in x (Some b)
  unfolding next
  next_left x b y other e = rw e refl

  next_right : (x : Tree (I ks)) (b : I ks) (y : Tree (I ks)) (other : Option (I ks)) → probe b ≢ Less → above_in (node x b y) other ≡ above_in y other
  unfolding next
  next_right x b y other ne =
      (elim (probe b) as (λ o. probe b ≡ o → pick o (above_in x (Some b)) (above_in y other) (above_in y other) ≡ above_in y other) [
        | Less ↦ λ e. absurd (ne e)
        | Equal ↦ λ e. refl
        | Greater ↦ λ e. refl
      ]) refl

  -- the height that was read
  pub height_at : (p : Place) (n : ℕ) (last : Option ℕ) (span : Span) (bound : ℕ) (t : Tree (I ks)) (s : AtTurn p n last span bound t) (h : ℕ) → ((at : ℕ) (k : Reference) (row : Seat ks) → Some n ≡ Some at → IsNamed p.heap at k → rows_of ks p k row → h ≡ row.height) → h ≡ height (node s.x s.b s.y)
  height_at p n last span bound t s h f = f n s.b.name (row_of s.x s.b s.y) refl s.name s.stands.0

  module _ (p m : Place) (n : ℕ) (last : Option ℕ) (span : Span) (bound : ℕ) (t : Tree (I ks)) (s : AtTurn p n last span bound t) (grows : Touches p m) where
    -- the search goes on at a side
    pub following_on : (h : ℕ) (turn : Turn) → IsTurn ks m.heap n last (probe s.b) s.x s.y turn → h ≡ height (node s.x s.b s.y) → Following m turn.side turn.last turn.span h t
    following_on h turn (inl w) e = record {
      part = s.x;
      other = Some s.b;
      stands = stands_grown (rows_of ks p) (rows_of ks m) (grows.rows ks) s.x s.stands.1;
      root_is = w.2;
      rising = (around (under (order_by ks)) (items s.x) s.b (items s.y) s.rising).left;
      within = w.3;
      last_is = subst (λ o. IsLinked m.heap o (Some s.b.name)) (sym w.1) (grows.named n s.b.name s.name);
      same = sym (next_left s.x s.b s.y s.other w.0) ∙ s.same;
      lower = omega (arith, e);
    }
    following_on h turn (inr w) e = record {
      part = s.y;
      other = s.other;
      stands = stands_grown (rows_of ks p) (rows_of ks m) (grows.rows ks) s.y s.stands.2;
      root_is = w.2;
      rising = (around (under (order_by ks)) (items s.x) s.b (items s.y) s.rising).right;
      within = w.3;
      last_is = subst (λ o. IsLinked m.heap o (item_name s.other)) (sym w.1) (linked_kept p.heap m.heap grows.named last (item_name s.other) s.last_is);
      same = sym (next_right s.x s.b s.y s.other w.0) ∙ s.same;
      lower = omega (arith, e);
    }
