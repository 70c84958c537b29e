-- What is seen of a table's nodes tells which tree they stand for: nil stands for no item, and a node that is seen for a tree of its height.
use Rattle.std.proofs.Common.{inl, ◌≡◌, ℕ, List, [], ◌∷◌, ◌++◌, refl, sym, ◌∙◌, ap, subst, Option, Some, None}
use Rattle.std.specs.List.{AllByRecursion}
use Rattle.std.specs.declared.cmp.Ordering.{Ordering}
use Rattle.std.specs.declared.cmp.Ordering.TheVariants.{Less}
use Rattle.proc_values.specs.obj_layout.declared.reference.Reference.{Reference}
use Rattle.proc_values.specs.obj_layout.declared.reference.Reference.TheVariants.{Nil, Pid}
use Rattle.proc_values.specs.swizzle.Joint.{Shown}
use Rattle.proc_values.specs.ps_heap.Tables.{Entry, AreInKeyOrder}
use Rattle.proc_values.specs.ps_heap.Values.{Pointer}
use Rattle.heap_ops.specs.heap_places.Shapes.{slot_of, word_in}
use Rattle.node_rows.specs.avl_trees.Rising.{AreRising}
use Rattle.node_rows.specs.avl_trees.Trees.{Tree, leaf, node, height, items}
use Rattle.node_rows.specs.avl_trees.Standing.{Item, root_of, under, Stands as TreeStands}
use Rattle.node_rows.specs.Keys.{Keys, KeyOf}
use Rattle.node_rows.specs.Nodes.{I, IsAmong, HasNode, link_of}
use Rattle.heap_meaning.specs.Standing.{Seen, Pairing, StandsFor, IsOne}
use Rattle.heap_meaning.specs.Tables.{ArePairs, names_of}
use Rattle.heap_meaning.proofs.TableLaws.{among-back}

-- nil stands for no item
pub nil-leaf : (ks : Keys) (t : Tree (I ks)) → link_of Nil ≡ root_of t → t ≡ leaf
nil-leaf ks leaf root = refl
nil-leaf ks (node l a r) root = absurd (cc)

-- a tree with its sides, for which the sides of a node stand
pub record Sides (ks : Keys) (seen : Seen) (it : Shown) (t : Tree (I ks)) : Type 0 where
  pub l : Tree (I ks)
  pub item : I ks
  pub r : Tree (I ks)
  pub tree_is : t ≡ node l item r
  pub high_is : word_in it 2 ≡ height t
  pub value_is : slot_of it 3 ≡ item.entry.value
  pub left_is : link_of (slot_of it 0) ≡ root_of l
  pub right_is : link_of (slot_of it 1) ≡ root_of r
  pub on_left : TreeStands (HasNode ks seen) l
  pub on_right : TreeStands (HasNode ks seen) r

pub sides-of : (ks : Keys) (seen : Seen) (n : ℕ) (it : Shown) (t : Tree (I ks)) → IsOne seen → seen (Pid n) it → link_of (Pid n) ≡ root_of t → TreeStands (HasNode ks seen) t → Sides ks seen it t
sides-of ks seen n it leaf one there root stands = absurd (cc)
sides-of ks seen n it (node l a r) one there root stands =
    let h = stands.0 in
    let named : a.name ≡ Pid n = cc in
    let same = one (Pid n) h.it it (subst (λ (m : Reference). seen m h.it) named h.there) there in
    record {
      l = l;
      item = a;
      r = r;
      tree_is = refl;
      high_is = sym (ap (λ (x : Shown). word_in x 2) same) ∙ h.is.height;
      value_is = sym (ap (λ (x : Shown). slot_of x 3) same) ∙ h.is.value;
      left_is = sym (ap (λ (x : Shown). link_of (slot_of x 0)) same) ∙ h.is.left;
      right_is = sym (ap (λ (x : Shown). link_of (slot_of x 1)) same) ∙ h.is.right;
      on_left = stands.1;
      on_right = stands.2;
    }

-- the root of a tree is one of its nodes
pub root-among : (ks : Keys) (t : Tree (I ks)) (n : Reference) → link_of n ≡ root_of t → link_of n ≡ Some n → IsAmong n (names_of (items t))
root-among ks leaf n root some = absurd (cc)
root-among ks (node l a r) n root some =
    let named : n ≡ a.name = cc in
    among-back (items l) (a ∷ items r) n (inl named)

-- the only entry of a tree with one item alone
pub one-value : (ks : Keys) (seen : Seen) (pair : Pairing) (l : Tree (I ks)) (a : I ks) (r : Tree (I ks)) (e : Entry (KeyOf ks)) → l ≡ leaf → r ≡ leaf
    → ArePairs seen pair (items (node l a r)) (e ∷ []) → ArePairs seen pair (a ∷ []) (e ∷ [])
one-value ks seen pair l a r e left right p =
    subst (λ (u : Tree (I ks)). ArePairs seen pair (a ∷ items u) (e ∷ [])) right (subst (λ (u : Tree (I ks)). ArePairs seen pair (items u ++ a ∷ items r) (e ∷ [])) left p)

-- the value of a node's pair stands for an object
pub pair-under : {K : Type 0} (seen : Seen) (pair : Pairing) (before : List (Item Reference K Reference)) (a : Item Reference K Reference) (behind : List (Item Reference K Reference))
    (es : List (Entry K)) → ArePairs seen pair (before ++ a ∷ behind) es → (id : ℕ) × StandsFor seen pair a.entry.value (Pointer id)
pair-under seen pair [] a behind (e ∷ es) p = (e.object, p.1)
pair-under seen pair [] a behind [] p = absurd p
pair-under seen pair (b ∷ before) a behind (e ∷ es) p = pair-under seen pair before a behind es p.2
pair-under seen pair (b ∷ before) a behind [] p = absurd p

-- The entries of a table stand in the order of their keys.

above-all : {K : Type 0} (order : K → K → Ordering) (seen : Seen) (pair : Pairing) (a : Item Reference K Reference) (e : Entry K) (is : List (Item Reference K Reference)) (es : List (Entry K))
    → a.entry.key ≡ e.key → AllByRecursion (under order a) is → ArePairs seen pair is es → AllByRecursion (λ f. order e.key f.key ≡ Less) es
above-all order seen pair a e [] [] same u p = tt
above-all order seen pair a e (b ∷ is) (f ∷ es) same u p =
    (sym (ap (λ (k : _). order k f.key) same) ∙ (sym (ap (order a.entry.key) p.0) ∙ u.0), above-all order seen pair a e is es same u.1 p.2)
above-all order seen pair a e [] (f ∷ es) same u p = absurd p
above-all order seen pair a e (b ∷ is) [] same u p = absurd p

pub entries-rise : {K : Type 0} (order : K → K → Ordering) (seen : Seen) (pair : Pairing) (is : List (Item Reference K Reference)) (es : List (Entry K)) → AreRising (under order) is
    → ArePairs seen pair is es → AreInKeyOrder order es
entries-rise order seen pair [] [] u p = tt
entries-rise order seen pair (a ∷ is) (e ∷ es) u p = (above-all order seen pair a e is es p.0 u.0 p.2, entries-rise order seen pair is es u.1 p.2)
entries-rise order seen pair [] (e ∷ es) u p = absurd p
entries-rise order seen pair (a ∷ is) [] u p = absurd p
