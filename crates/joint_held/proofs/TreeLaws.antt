-- One tree stands from a root; and it hangs together still where its nodes stay.
use Rattle.std.proofs.Common.{inl, inr, ◌⊎◌, ◌≡◌, ℕ, List, [], ◌∷◌, ◌++◌, refl, sym, ap, ◌∙◌, subst, Some, None}
use Rattle.joint_ops.specs.obj_layout.declared.kind.Kind.TheVariants as kind
use Rattle.joint_ops.specs.obj_layout.declared.reference.Reference.{Reference}
use Rattle.joint_ops.specs.obj_layout.declared.reference.Reference.TheVariants.{Nil}
use Rattle.joint_ops.specs.swizzle.Heap as area
use Rattle.joint_ops.specs.swizzle.Heap.{IsHeld, IsListed, header_at}
use Rattle.joint_ops.specs.swizzle.Joint.{Shown, name_at}
use Rattle.joint_ops.specs.heap_places.Shapes.{slot_of, IsText}
use Rattle.joint_ops.specs.heap_meaning.avl_trees.Trees.{Tree, leaf, node, items}
use Rattle.joint_ops.specs.heap_meaning.avl_trees.Standing.{Item, Stands, root_of}
use Rattle.joint_ops.specs.heap_meaning.node_rows.Keys.{Keys, by_texts, by_ints, KeyOf, IsKey}
use Rattle.joint_ops.specs.heap_meaning.node_rows.Nodes.{I, IsAmong, HasNode, link_of}
use Rattle.joint_ops.specs.heap_meaning.Tables.{names_of, HasNodes, IsTable}
use Rattle.joint_ops.specs.heap_meaning.Standing.{Seen, Pairing, IsOne}
use Rattle.joint_ops.specs.ps_heap.Tables as table
use Rattle.joint_ops.specs.ps_heap.Tables.{Table, without_keys, by_strings}
use Rattle.heap_meaning.proofs.PlaceLaws.{text-one}
use Rattle.heap_meaning.proofs.TableLaws.{among-front, among-back}
use Rattle.joint_held.specs.Held.{IsHere, HasChanged, AreHung, HaveNoTexts, IsTree, IsKeyed}

-- what is seen of nodes and of texts stays
pub record Stays (seen now : Seen) : Type 0 where
  pub nodes : (n : Reference) (it : Shown) → it.kind ≡ kind.Node → seen n it → now n it
  pub texts : (n : Reference) (bytes : List ℕ) → IsText seen n bytes → IsText now n bytes

key-stays : (ks : Keys) (seen now : Seen) (it : Shown) (key : KeyOf ks) → Stays seen now → IsKey ks seen it key → IsKey ks now it key
key-stays by_ints seen now it key stays k = k
key-stays by_texts seen now it key stays k = stays.texts (slot_of it 2) key k

pub tree-stays : (ks : Keys) (seen now : Seen) (t : Tree (I ks)) → Stays seen now → Stands (HasNode ks seen) t → Stands (HasNode ks now) t
tree-stays ks seen now leaf stays s = tt
tree-stays ks seen now (node l a r) stays s = (
  record {
    it = s.0.it;
    there = stays.nodes a.name s.0.it s.0.is.kind s.0.there;
    is = record {
      kind = s.0.is.kind;
      refs = s.0.is.refs;
      nums = s.0.is.nums;
      left = s.0.is.left;
      right = s.0.is.right;
      key = key-stays ks seen now s.0.it a.entry.key stays s.0.is.key;
      value = s.0.is.value;
      height = s.0.is.height;
    };
  },
  tree-stays ks seen now l stays s.1,
  tree-stays ks seen now r stays s.2,
)

key-one : (ks : Keys) (seen : Seen) (it : Shown) (a b : KeyOf ks) → IsOne seen → IsKey ks seen it a → IsKey ks seen it b → a ≡ b
key-one by_ints seen it a b one k l = let both : Some a ≡ Some b = sym k ∙ l in cc
key-one by_texts seen it a b one k l = text-one seen (slot_of it 2) a b one k l

some_name : (a b : Reference) → Some a ≡ Some b → a ≡ b
some_name a b e = cc

abbrev item_by : {K : Type 0} → Reference → K → Reference → Item Reference K Reference
item_by name key value = record { name = name; entry = record { key = key; value = value } }

item-same : {K : Type 0} (a b : Item Reference K Reference) → a.name ≡ b.name → a.entry.key ≡ b.entry.key → a.entry.value ≡ b.entry.value → a ≡ b
item-same a b n k v =
    ap (λ (x : Reference). item_by x a.entry.key a.entry.value) n
    ∙ (ap (λ x. item_by b.name x a.entry.value) k ∙ ap (λ (x : Reference). item_by b.name b.entry.key x) v)

-- from one root one tree stands
pub tree-one : (ks : Keys) (seen : Seen) (t u : Tree (I ks)) → IsOne seen → root_of t ≡ root_of u → Stands (HasNode ks seen) t → Stands (HasNode ks seen) u → t ≡ u
tree-one ks seen leaf leaf one e s r = refl
tree-one ks seen leaf (node l b m) one e s r = let bad : None ≡ Some b.name = e in absurd (cc)
tree-one ks seen (node l a m) leaf one e s r = let bad : Some a.name ≡ None = e in absurd (cc)
tree-one ks seen (node l a m) (node p b q) one e s r =
    let names : a.name ≡ b.name = some_name a.name b.name e in
    let same : s.0.it ≡ r.0.it = one b.name s.0.it r.0.it (subst (λ n. seen n s.0.it) names s.0.there) r.0.there in
    let left = tree-one ks seen l p one (sym s.0.is.left ∙ (ap (λ (i : Shown). link_of (slot_of i 0)) same ∙ r.0.is.left)) s.1 r.1 in
    let right = tree-one ks seen m q one (sym s.0.is.right ∙ (ap (λ (i : Shown). link_of (slot_of i 1)) same ∙ r.0.is.right)) s.2 r.2 in
    let key = key-one ks seen r.0.it a.entry.key b.entry.key one (subst (λ (i : Shown). IsKey ks seen i a.entry.key) same s.0.is.key) r.0.is.key in
    let value = sym s.0.is.value ∙ (ap (λ (i : Shown). slot_of i 3) same ∙ r.0.is.value) in
    three (node) left (item-same a b names key value) right
  where
    three : (f : Tree (I ks) → I ks → Tree (I ks) → Tree (I ks)) {x y : Tree (I ks)} {i j : I ks} {v w : Tree (I ks)} → x ≡ y → i ≡ j → v ≡ w → f x i v ≡ f y j w
    three f e g h = cc

-- the tree of a table
pub record TreeIn (ks : Keys) (seen : Seen) (root : Reference) (nodes : List Reference) : Type 0 where
  pub tree : Tree (I ks)
  pub root_is : link_of root ≡ root_of tree
  pub stands : Stands (HasNode ks seen) tree
  pub nodes_are : nodes ≡ names_of (items tree)

pub tree-in : (ks : Keys) (seen : Seen) (pair : Pairing) (root : Reference) (of : Table) (nodes : List Reference) → IsKeyed ks of → HasNodes seen pair root of nodes → TreeIn ks seen root nodes
tree-in by_texts seen pair root (by_strings es) nodes k h = record { tree = h.tree; root_is = h.root_is; stands = h.stands; nodes_are = h.nodes_are }
tree-in by_ints seen pair root (table.by_ints es) nodes k h = record { tree = h.tree; root_is = h.root_is; stands = h.stands; nodes_are = h.nodes_are }
tree-in by_texts seen pair root (table.by_ints es) nodes k h = absurd k
tree-in by_texts seen pair root without_keys nodes k h = absurd k
tree-in by_ints seen pair root (by_strings es) nodes k h = absurd k
tree-in by_ints seen pair root without_keys nodes k h = absurd k

root-at : (seen : Seen) (pair : Pairing) (n : Reference) (of : Table) (nodes : List Reference) (t : IsTable seen pair n of nodes) → slot_of t.it 0 ≡ t.root
root-at seen pair n of nodes t = ap (λ (r : List Reference). Rattle.std.specs.Prelude.get_or r 0 Nil) t.refs

-- a table has the nodes that it had
pub nodes-one : (seen now : Seen) (pair more : Pairing) (n : Reference) (of : Table) (a b : List Reference) → IsOne now → Stays seen now → IsTable seen pair n of a → (t : IsTable now more n of b)
    → ((it : Shown) → seen n it → now n it) → a ≡ b
nodes-one seen now pair more n of a b one stays was is here = go of was.has is.has
  where
    same : was.it ≡ is.it
    same = one n was.it is.it (here was.it was.there) is.there

    roots : was.root ≡ is.root
    roots = sym (root-at seen pair n of a was) ∙ (ap (λ (s : Shown). slot_of s 0) same ∙ root-at now more n of b is)

    trees : (ks : Keys) (v w : TreeIn ks seen was.root a) → (u : TreeIn ks now is.root b) → a ≡ b
    trees ks v w u =
        let one_tree = tree-one ks now v.tree u.tree one (sym v.root_is ∙ (ap link_of roots ∙ u.root_is)) (tree-stays ks seen now v.tree stays v.stands) u.stands in
        v.nodes_are ∙ (ap (λ (t : Tree (I ks)). names_of (items t)) one_tree ∙ sym u.nodes_are)

    go : (u : Table) → HasNodes seen pair was.root u a → HasNodes now more is.root u b → a ≡ b
    go without_keys h k = h.1 ∙ sym k.1
    go (by_strings es) h k = let v = tree-in by_texts seen pair was.root (by_strings es) a tt h in trees by_texts v v (tree-in by_texts now more is.root (by_strings es) b tt k)
    go (table.by_ints es) h k = let v = tree-in by_ints seen pair was.root (table.by_ints es) a tt h in trees by_ints v v (tree-in by_ints now more is.root (table.by_ints es) b tt k)

-- An object of the area that isn't stored or is noted as assigned, and was so before.
pub record WasOpen (old : area.Heap) (n : Reference) : Type 0 where
  pub at : ℕ
  pub held : IsHeld old at
  pub name : name_at old at ≡ n
  pub why : ((header_at old at).pid ≡ 0) ⊎ IsListed at old.assigned

abbrev pub Opens : area.Heap → area.Heap → List Reference → Type 0
Opens old new ns = (x : ℕ) → IsHeld new x → IsAmong (name_at new x) ns → ((header_at new x).pid ≡ 0) ⊎ IsListed x new.assigned → WasOpen old (name_at new x)

changed-back : (old new : area.Heap) (ns : List Reference) → Opens old new ns → HasChanged new ns → HasChanged old ns
changed-back old new ns opens c =
    let w = opens c.at c.held c.among c.why in
    record { at = w.at; held = w.held; among = subst (λ m. IsAmong m ns) (sym w.name) c.among; why = w.why }

hung-stays : (old new : area.Heap) (ks : Keys) (t : Tree (I ks)) → Opens old new (names_of (items t)) → ((n : Reference) → IsHere old n → IsHere new n) → AreHung old t → AreHung new t
hung-stays old new ks leaf opens here h = tt
hung-stays old new ks (node l a r) opens here h = (
  (λ c. here a.name (h.0 (changed-back old new (names_of (items (node l a r))) opens c))),
  hung-stays old new ks l (λ x held k why. opens x held (among-front (items l) (a ∷ items r) (name_at new x) k) why) here h.1,
  hung-stays old new ks r (λ x held k why. opens x held (among-back (items l) (a ∷ items r) (name_at new x) (inr k)) why) here h.2,
)

-- each of these names has something seen that is seen still
texts-stay : (ks : Keys) (seen now : Seen) (ns : List Reference) → IsOne now → ((n : Reference) → IsAmong n ns → (it : Shown) × seen n it × now n it) → HaveNoTexts ks seen ns → HaveNoTexts ks now ns
texts-stay by_texts seen now ns one known p = tt
texts-stay by_ints seen now ns one known p = λ n it k there.
    let w = known n k in ap (λ (s : Shown). slot_of s 2) (one n it w.0 there w.2) ∙ p n w.0 k w.1

pub node-known : (ks : Keys) (seen now : Seen) (t : Tree (I ks)) → Stays seen now → Stands (HasNode ks seen) t → (n : Reference) → IsAmong n (names_of (items t)) → (it : Shown) × seen n it × now n it
node-known ks seen now leaf stays s n k = absurd k
node-known ks seen now (node l a r) stays s n k = elim (cases (items l) (a ∷ items r) k) [
  | inl m ↦ node-known ks seen now l stays s.1 n m
  | inr (inl e) ↦
      let there = subst (λ m. seen m s.0.it) (sym e) s.0.there in
      (s.0.it, there, stays.nodes n s.0.it s.0.is.kind there)
  | inr (inr m) ↦ node-known ks seen now r stays s.2 n m
]
  where
    cases : {K : Type 0} (xs ys : List (Item Reference K Reference)) → IsAmong n (names_of (xs ++ ys)) → IsAmong n (names_of xs) ⊎ IsAmong n (names_of ys)
    cases [] ys a = inr a
    cases (x ∷ xs) ys a = elim a [ inl e ↦ inl (inl e) | inr b ↦ elim (cases xs ys b) [ inl c ↦ inl (inr c) | inr c ↦ inr c ] ]

-- The tree of a table stays so.
pub is-tree : (old new : area.Heap) (seen now : Seen) (n : Reference) (ks : Keys) (t : Tree (I ks)) → IsOne now → Stays seen now → Stands (HasNode ks seen) t → Opens old new (names_of (items t))
    → ((m : Reference) → IsHere old m → IsHere new m) → (HasChanged old (n ∷ []) → HasChanged new (n ∷ [])) → IsTree old seen n ks t → IsTree new now n ks t
is-tree old new seen now n ks t one stays stands opens here top i = record {
  hung = hung-stays old new ks t opens here i.hung;
  plain = texts-stay ks seen now (names_of (items t)) one (node-known ks seen now t stays stands) i.plain;
  top = λ c. top (i.top (changed-back old new (names_of (items t)) opens c));
  stored = i.stored;
}
