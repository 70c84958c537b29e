-- A table is one under the new names of its nodes, and where it and its nodes have new homes.
use Rattle.std.proofs.Common.{inl, inr, ◌⊎◌, ◌≡◌, ◌≢◌, ℕ, zero, suc, ◌+◌, List, [], ◌∷◌, ◌++◌, length, map, get_or, slice_index, max, refl, sym, ap, ◌∙◌, subst, Option, Some, None}
use Rattle.std.specs.List.{AllByRecursion}
use Rattle.std.specs.Option.{option_map}
use Rattle.std.specs.declared.cmp.Ordering.{Ordering}
use Rattle.std.proofs.lemmas.List.{length-map, map-append}
use Rattle.heap_meaning.specs.obj_layout.declared.kind.Kind.TheVariants as kind
use Rattle.heap_meaning.specs.obj_layout.declared.reference.Reference.{Reference}
use Rattle.heap_meaning.specs.obj_layout.declared.reference.Reference.TheVariants as name
use Rattle.heap_meaning.specs.swizzle.Joint.{Shown}
use Rattle.heap_meaning.specs.heap_places.Shapes.{slot_of, word_in, IsText}
use Rattle.heap_meaning.specs.ps_heap.Values.{Pointer}
use Rattle.heap_meaning.specs.ps_heap.Tables.{Entry, Table, without_keys, by_strings, by_ints}
use Rattle.heap_meaning.specs.avl_trees.Rising.{AreRising}
use Rattle.heap_meaning.specs.avl_trees.Trees.{Tree, leaf, node, height, items, IsBalanced, Near}
use Rattle.heap_meaning.specs.avl_trees.Standing.{Item, Row, row_of, root_of, under, Stands as TreeStands}
use Rattle.heap_meaning.specs.node_rows.Keys.{Keys, by_ints as int_keys, by_texts as text_keys, KeyOf, order_by, IsKey}
use Rattle.heap_meaning.specs.node_rows.Nodes.{Seat, I, IsAmong, IsSeat, HasNode, HasValue, link_of}
use Rattle.heap_meaning.specs.Standing.{Seen, Pairing}
use Rattle.heap_meaning.specs.Tables.{ArePairs, names_of, HasEntries, HasNodes, IsTable}
use Rattle.heap_meaning.proofs.StandingLaws.{Fixed, Kinds, Pairs, fixed-text}
use Rattle.heap_meaning.proofs.TableLaws.{key-more, pairs-more}
use Rattle.renames.specs.Renames.{renamed, Renames, IsRehomed, Now}
use Rattle.renames.proofs.RenameLaws.{Moves, text-moved, stands-moved}

-- New names.

pub record AmongBefore (ρ : Reference → Reference) (n : Reference) (names : List Reference) : Type 0 where
  pub before : Reference
  pub is : IsAmong before names
  pub now : n ≡ ρ before

pub among-moved : (ρ : Reference → Reference) (n : Reference) (names : List Reference) → IsAmong n (map ρ names) → AmongBefore ρ n names
among-moved ρ n [] a = absurd a
among-moved ρ n (m ∷ ms) a = elim a [
  | inl e ↦ record { before = m; is = inl refl; now = e }
  | inr b ↦ let more = among-moved ρ n ms b in record { before = more.before; is = inr more.is; now = more.now }
]

link-some : (n : Reference) → n ≢ name.Nil → link_of n ≡ Some n
link-some name.Nil ne = absurd (ne refl)
link-some (name.Pid p) ne = refl
link-some (name.Local i) ne = refl

get-moved : (ρ : Reference → Reference) (ns : List Reference) (k : ℕ) → ρ name.Nil ≡ name.Nil → get_or (map ρ ns) k name.Nil ≡ ρ (get_or ns k name.Nil)
get-moved ρ [] k nil = sym nil
get-moved ρ (n ∷ ns) zero nil = refl
get-moved ρ (n ∷ ns) (suc k) nil = get-moved ρ ns k nil

-- an item, and a tree of items, under the new names
abbrev moved_item : {K : Type 0} → (Reference → Reference) → Item Reference K Reference → Item Reference K Reference
moved_item ρ a = record { name = ρ a.name; entry = record { key = a.entry.key; value = ρ a.entry.value } }

abbrev moved_tree : {K : Type 0} → (Reference → Reference) → Tree (Item Reference K Reference) → Tree (Item Reference K Reference)
moved_tree ρ leaf = leaf
moved_tree ρ (node l a r) = node (moved_tree ρ l) (moved_item ρ a) (moved_tree ρ r)

items-moved : {K : Type 0} (ρ : Reference → Reference) (t : Tree (Item Reference K Reference)) → items (moved_tree ρ t) ≡ map (moved_item ρ) (items t)
items-moved ρ leaf = refl
items-moved ρ (node l a r) =
    ap (λ (is : List _). is ++ moved_item ρ a ∷ items (moved_tree ρ r)) (items-moved ρ l)
    ∙ ap (λ (is : List _). map (moved_item ρ) (items l) ++ moved_item ρ a ∷ is) (items-moved ρ r)
    ∙ sym (map-append (moved_item ρ) (items l) (a ∷ items r))

height-moved : {K : Type 0} (ρ : Reference → Reference) (t : Tree (Item Reference K Reference)) → height (moved_tree ρ t) ≡ height t
height-moved ρ leaf = refl
height-moved ρ (node l a r) = ap (λ (h : ℕ). max h (height (moved_tree ρ r)) + 1) (height-moved ρ l) ∙ ap (λ (h : ℕ). max (height l) h + 1) (height-moved ρ r)

root-moved : {K : Type 0} (ρ : Reference → Reference) (t : Tree (Item Reference K Reference)) → root_of (moved_tree ρ t) ≡ option_map ρ (root_of t)
root-moved ρ leaf = refl
root-moved ρ (node l a r) = refl

balanced-moved : {K : Type 0} (ρ : Reference → Reference) (t : Tree (Item Reference K Reference)) → IsBalanced t → IsBalanced (moved_tree ρ t)
balanced-moved ρ leaf b = tt
balanced-moved ρ (node l a r) b = (
  balanced-moved ρ l b.0,
  balanced-moved ρ r b.1,
  subst (λ (h : ℕ). Near 1 h (height (moved_tree ρ r))) (sym (height-moved ρ l)) (subst (λ (h : ℕ). Near 1 (height l) h) (sym (height-moved ρ r)) b.2),
)

module _ {K : Type 0} (cmp : K → K → Ordering) (ρ : Reference → Reference) where
  all-under : (a : Item Reference K Reference) (is : List (Item Reference K Reference)) → AllByRecursion (under cmp a) is → AllByRecursion (under cmp (moved_item ρ a)) (map (moved_item ρ) is)
  all-under a [] u = tt
  all-under a (b ∷ is) u = (u.0, all-under a is u.1)

  rising-moved : (is : List (Item Reference K Reference)) → AreRising (under cmp) is → AreRising (under cmp) (map (moved_item ρ) is)
  rising-moved [] u = tt
  rising-moved (a ∷ is) u = (all-under a is u.0, rising-moved is u.1)

values-moved : {K : Type 0} (ρ : Reference → Reference) (is : List (Item Reference K Reference)) → ((n : Reference) → ρ n ≡ name.Nil → n ≡ name.Nil) → AllByRecursion HasValue is
    → AllByRecursion HasValue (map (moved_item ρ) is)
values-moved ρ [] some h = tt
values-moved ρ (a ∷ is) some h = ((λ e. h.0 (some a.entry.value e)), values-moved ρ is some h.1)

names-moved : {K : Type 0} (ρ : Reference → Reference) (is : List (Item Reference K Reference)) → map ρ (names_of is) ≡ names_of (map (moved_item ρ) is)
names-moved ρ [] = refl
names-moved ρ (a ∷ is) = ap (λ (ns : List Reference). ρ a.name ∷ ns) (names-moved ρ is)

module _ (seen now : Seen) (ρ : Reference → Reference) (r : Renames seen now ρ) where
  slot-moved : (it : Shown) (k : ℕ) → slot_of (renamed ρ it) k ≡ ρ (slot_of it k)
  slot-moved it k = get-moved ρ it.refs k r.nil

  link-moved : (n : Reference) → link_of (ρ n) ≡ option_map ρ (link_of n)
  link-moved name.Nil = ap link_of r.nil
  link-moved (name.Pid p) = link-some (ρ (name.Pid p)) (λ e. let bad = r.only_nil (name.Pid p) e in absurd (cc))
  link-moved (name.Local i) = link-some (ρ (name.Local i)) (λ e. let bad = r.only_nil (name.Local i) e in absurd (cc))

  key-moved : (ks : Keys) (it : Shown) (key : KeyOf ks) → IsKey ks seen it key → IsKey ks now (renamed ρ it) key
  key-moved int_keys it key k = k
  key-moved text_keys it key k = subst (λ (n : Reference). IsText now n key) (sym (slot-moved it 2)) (text-moved seen now ρ (slot_of it 2) key r k)

  node-moved : (ks : Keys) (l : Tree (I ks)) (a : I ks) (s : Tree (I ks)) → HasNode ks seen a.name (row_of l a s)
      → HasNode ks now (ρ a.name) (row_of (moved_tree ρ l) (moved_item ρ a) (moved_tree ρ s))
  node-moved ks l a s h = record {
    it = renamed ρ h.it;
    there = r.forth a.name h.it h.there;
    is = record {
      kind = h.is.kind;
      refs = length-map h.it.refs ρ ∙ h.is.refs;
      nums = h.is.nums;
      left = ap link_of (slot-moved h.it 0) ∙ (link-moved (slot_of h.it 0) ∙ (ap (option_map ρ) h.is.left ∙ sym (root-moved ρ l)));
      right = ap link_of (slot-moved h.it 1) ∙ (link-moved (slot_of h.it 1) ∙ (ap (option_map ρ) h.is.right ∙ sym (root-moved ρ s)));
      key = key-moved ks h.it a.entry.key h.is.key;
      value = slot-moved h.it 3 ∙ ap ρ h.is.value;
      height = h.is.height ∙ sym (height-moved ρ (node l a s));
    };
  }

  tree-moved : (ks : Keys) (t : Tree (I ks)) → TreeStands (HasNode ks seen) t → TreeStands (HasNode ks now) (moved_tree ρ t)
  tree-moved ks leaf s = tt
  tree-moved ks (node l a k) s = (node-moved ks l a k s.0, tree-moved ks l s.1, tree-moved ks k s.2)

  module _ (pair more : Pairing) (moves : Moves ρ pair more) where
    pairs-moved : {K : Type 0} (is : List (Item Reference K Reference)) (es : List (Entry K)) → ArePairs seen pair is es → ArePairs now more (map (moved_item ρ) is) es
    pairs-moved [] [] p = tt
    pairs-moved (a ∷ is) (e ∷ es) p = (p.0, stands-moved seen now ρ pair more a.entry.value (Pointer e.object) r moves p.1, pairs-moved is es p.2)
    pairs-moved [] (e ∷ es) p = absurd p
    pairs-moved (a ∷ is) [] p = absurd p

    entries-moved : (ks : Keys) (root : Reference) (es : List (Entry (KeyOf ks))) (names : List Reference) → HasEntries ks seen pair root es names → HasEntries ks now more (ρ root) es (map ρ names)
    entries-moved ks root es names h =
        let there = items-moved ρ h.tree in
        record {
          tree = moved_tree ρ h.tree;
          root_is = link-moved root ∙ (ap (option_map ρ) h.root_is ∙ sym (root-moved ρ h.tree));
          stands = tree-moved ks h.tree h.stands;
          rising = subst (AreRising (under (order_by ks))) (sym there) (rising-moved (order_by ks) ρ (items h.tree) h.rising);
          balanced = balanced-moved ρ h.tree h.balanced;
          values = subst (AllByRecursion HasValue) (sym there) (values-moved ρ (items h.tree) r.only_nil h.values);
          pairs = subst (λ (is : List (I ks)). ArePairs now more is es) (sym there) (pairs-moved (items h.tree) es h.pairs);
          nodes_are = ap (map ρ) h.nodes_are ∙ (names-moved ρ (items h.tree) ∙ ap names_of (sym there));
        }

    nodes-moved : (root : Reference) (table : Table) (names : List Reference) → HasNodes seen pair root table names → HasNodes now more (ρ root) table (map ρ names)
    nodes-moved root without_keys names h = (ap ρ h.0 ∙ r.nil, ap (map ρ) h.1)
    nodes-moved root (by_strings es) names h = entries-moved text_keys root es names h
    nodes-moved root (by_ints es) names h = entries-moved int_keys root es names h

pub table-moved : (seen now : Seen) (ρ : Reference → Reference) (pair more : Pairing) (n : Reference) (table : Table) (names : List Reference) → Renames seen now ρ → Moves ρ pair more
    → IsTable seen pair n table names → IsTable now more (ρ n) table (map ρ names)
table-moved seen now ρ pair more n table names r moves t = record {
  it = renamed ρ t.it;
  there = r.forth n t.it t.there;
  kind_is = t.kind_is;
  root = ρ t.root;
  home = t.home;
  refs = ap (map ρ) t.refs;
  nums = t.nums;
  has = nodes-moved seen now ρ r pair more moves t.root table names t.has;
}

-- New homes.

-- the words behind the home
record SameWords (it now : Shown) : Type 0 where
  kind : now.kind ≡ it.kind
  refs : now.refs ≡ it.refs
  long : length now.nums ≡ length it.nums
  words : (k : ℕ) → word_in now (suc k) ≡ word_in it (suc k)

same-words : (it now : Shown) → (now ≡ it) ⊎ IsRehomed it now → SameWords it now
same-words it now h = elim h [
  | inl e ↦ record {
    kind = ap (λ (s : Shown). s.kind) e;
    refs = ap (λ (s : Shown). s.refs) e;
    long = ap (λ (s : Shown). length s.nums) e;
    words = λ k. ap (λ (s : Shown). word_in s (suc k)) e;
  }
  | inr m ↦ record {
    kind = m.kind;
    refs = m.refs;
    long = ap length m.after ∙ sym (ap length m.before);
    words = λ k. ap (λ (ws : List ℕ). slice_index ws (suc k)) m.after ∙ sym (ap (λ (ws : List ℕ). slice_index ws (suc k)) m.before);
  }
]

module _ (seen now : Seen) (fixed : Fixed seen now) (homes : (n : Reference) (it : Shown) → seen n it → Now now n it) where
  key-rehomed : (ks : Keys) (it new : Shown) (key : KeyOf ks) → SameWords it new → IsKey ks seen it key → IsKey ks now new key
  key-rehomed int_keys it new key s k = subst (λ (w : ℕ). IsKey int_keys now (record it { nums = 0 ∷ w ∷ [] }) key) (sym (s.words 0)) k
  key-rehomed text_keys it new key s k = fixed-text seen now (slot_of new 2) key fixed (subst (λ (rs : List Reference). IsText seen (get_or rs 2 name.Nil) key) (sym s.refs) k)

  node-rehomed : (ks : Keys) (n : Reference) (row : Seat ks) → HasNode ks seen n row → HasNode ks now n row
  node-rehomed ks n row h =
      let at = homes n h.it h.there in
      let s = same-words h.it at.now at.is in
      let slot : (k : ℕ) → slot_of at.now k ≡ slot_of h.it k = λ k. ap (λ (rs : List Reference). get_or rs k name.Nil) s.refs in
      record {
        it = at.now;
        there = at.there;
        is = record {
          kind = s.kind ∙ h.is.kind;
          refs = ap length s.refs ∙ h.is.refs;
          nums = s.long ∙ h.is.nums;
          left = ap link_of (slot 0) ∙ h.is.left;
          right = ap link_of (slot 1) ∙ h.is.right;
          key = key-rehomed ks h.it at.now row.entry.key s h.is.key;
          value = slot 3 ∙ h.is.value;
          height = s.words 1 ∙ h.is.height;
        };
      }

  tree-rehomed : (ks : Keys) (t : Tree (I ks)) → TreeStands (HasNode ks seen) t → TreeStands (HasNode ks now) t
  tree-rehomed ks leaf s = tt
  tree-rehomed ks (node l a r) s = (node-rehomed ks a.name (row_of l a r) s.0, tree-rehomed ks l s.1, tree-rehomed ks r s.2)

  module _ (kinds : Kinds seen now) (pair : Pairing) where
    entries-rehomed : (ks : Keys) (root : Reference) (es : List (Entry (KeyOf ks))) (names : List Reference) → HasEntries ks seen pair root es names → HasEntries ks now pair root es names
    entries-rehomed ks root es names h = record {
      tree = h.tree;
      root_is = h.root_is;
      stands = tree-rehomed ks h.tree h.stands;
      rising = h.rising;
      balanced = h.balanced;
      values = h.values;
      pairs = pairs-more seen now pair pair (items h.tree) es fixed kinds (λ n i q. q) h.pairs;
      nodes_are = h.nodes_are;
    }

    nodes-rehomed : (root : Reference) (table : Table) (names : List Reference) → HasNodes seen pair root table names → HasNodes now pair root table names
    nodes-rehomed root without_keys names h = h
    nodes-rehomed root (by_strings es) names h = entries-rehomed text_keys root es names h
    nodes-rehomed root (by_ints es) names h = entries-rehomed int_keys root es names h

pub table-rehomed : (seen now : Seen) (pair : Pairing) (n : Reference) (table : Table) (names : List Reference) → Fixed seen now → Kinds seen now → ((m : Reference) (it : Shown) → seen m it → Now now m it)
    → IsTable seen pair n table names → IsTable now pair n table names
table-rehomed seen now pair n table names fixed kinds homes t =
    let at = homes n t.it t.there in
    let s = same-words t.it at.now at.is in
    record {
      it = at.now;
      there = at.there;
      kind_is = s.kind ∙ t.kind_is;
      root = t.root;
      home = home_of at.now at.is t.home _ t.nums;
      refs = s.refs ∙ t.refs;
      nums = nums_of at.now at.is t.home _ t.nums;
      has = nodes-rehomed seen now fixed homes kinds pair t.root table names t.has;
    }
  where
    home_of : (new : Shown) → (new ≡ t.it) ⊎ IsRehomed t.it new → (home : ℕ) (words : List ℕ) → t.it.nums ≡ home ∷ words → ℕ
    home_of new (inl e) home words is = home
    home_of new (inr m) home words is = m.second

    nums_of : (new : Shown) (is : (new ≡ t.it) ⊎ IsRehomed t.it new) (home : ℕ) (words : List ℕ) (e : t.it.nums ≡ home ∷ words) → new.nums ≡ home_of new is home words e ∷ words
    nums_of new (inl same) home words e = ap (λ (s : Shown). s.nums) same ∙ e
    nums_of new (inr m) home words e = m.after ∙ ap (λ (ws : List ℕ). m.second ∷ ws) (tail_same m.first home m.words words (sym m.before ∙ e))
      where
        tail_same : (a b : ℕ) (xs ys : List ℕ) → a ∷ xs ≡ b ∷ ys → xs ≡ ys
        tail_same a b xs ys i = cc
