-- The walk over the area meets what is reached of the ids.
use Rattle.std.proofs.Common.{true, false, inl, inr, ◌⊎◌, ◌≡◌, ◌≢◌, ℕ, zero, suc, ◌<◌, List, [], ◌∷◌, length, refl, sym, ap, ◌∙◌, subst, arith, Option, Some, None, nat_eq}
use Rattle.std.proofs.lemmas.Bool.{true≢false, cases_Bool, eqb-true}
use Rattle.joint_ops.specs.heap_meaning.ps_base.CodeUnit.{UnitView, ConstantView, ConstantsView}
use Rattle.joint_ops.specs.heap_meaning.ps_base.CodeUnit as units
use Rattle.joint_ops.specs.obj_layout.Kind.{kind_number}
use Rattle.joint_ops.specs.obj_layout.declared.kind.Kind.{Kind}
use Rattle.joint_ops.specs.obj_layout.declared.kind.Kind.TheVariants as kind
use Rattle.joint_ops.specs.obj_layout.declared.header.Header.{Header}
use Rattle.joint_ops.specs.obj_layout.declared.reference.Reference.{Reference}
use Rattle.joint_ops.specs.obj_layout.declared.reference.Reference.TheVariants.{Nil, Pid, Local}
use Rattle.joint_ops.specs.swizzle.Heap as area
use Rattle.joint_ops.specs.swizzle.Joint.{Shown, Joint, name_at, shown_at}
use Rattle.swizzle.proofs.NameLaws.{names-decided, name-not_nil, name_at-injective}
use Rattle.joint_ops.specs.heap_places.Shapes.{slot_of}
use Rattle.joint_ops.specs.ps_heap.Tables.{Table}
use Rattle.joint_ops.specs.ps_heap.Objects.{Heap, Object, Structure, Elements, Scope, Keyed, object_at}
use Rattle.joint_ops.specs.ps_heap.References.{scope_ids, next_in, object_ids}
use Rattle.joint_ops.specs.heap_meaning.Units.{IsUnitSeen, AreSeen, IsConstantSeen}
use Rattle.joint_ops.specs.heap_meaning.Tables.{names_of}
use Rattle.joint_ops.specs.heap_meaning.avl_trees.Trees.{Tree, leaf, node, items}
use Rattle.joint_ops.specs.heap_meaning.avl_trees.Standing.{Stands as TreeStands, root_of}
use Rattle.joint_ops.specs.heap_meaning.node_rows.Keys.{Keys}
use Rattle.joint_ops.specs.heap_meaning.node_rows.Nodes.{I, IsAmong, HasNode, link_of}
use Rattle.joint_ops.specs.heap_meaning.Standing.{Seen, Pairing, IsKindOf, StandsForScope, IsLike, IsPlain}
use Rattle.joint_ops.specs.heap_meaning.Paired.{name_in, paired}
use Rattle.heap_meaning.proofs.TableLaws.{among-back}
use Rattle.reaching.specs.Reaching.{IsIn}
use Rattle.reaching.specs.Refined.{Through, straight, over, IsPaired, IsHidden, Target, IsRefined}
use Rattle.reaching.proofs.Lists.{then_is, else_is}
use Rattle.commit_walk.specs.Walk.{Goes, May, is_walked}
use Rattle.joint_held.specs.Held.{IsOf, AreHung}
use Rattle.joint_reach.proofs.Tied.{IsChanged, IsTied}
use Rattle.joint_reach.proofs.SeenLaws.{ids_in, among-at, goes-named, named-goes, local-known, nil-unknown, local-none, name-of_none, known}
use Rattle.joint_reach.proofs.RowLaws.{ClosureOf, ObjectOf, Means, to_none, to_text, to_object, to_closure, like-means, Through_closure, like-leads}
use Rattle.joint_reach.proofs.TreeLaws.{NodeOf, node_text, node_below, node_value, node-leads, table-leads, IsItem, item-cases, item-among, item-seen, tree-for}

-- Kinds of objects that have an id.
abbrev pub IsObjectKind : Kind → Type 0
IsObjectKind kind.Structure = Unit {0}
IsObjectKind kind.Vector = Unit {0}
IsObjectKind kind.Scope = Unit {0}
IsObjectKind kind.Table = Unit {0}
IsObjectKind _ = ⊥

pub like-kind : (seen : Seen) (pair : Pairing) (it : Shown) (object : Object) → IsLike seen pair it object → IsObjectKind it.kind
like-kind seen pair it (Structure class fields) l = subst IsObjectKind (sym l.kind_is) tt
like-kind seen pair it (Elements ty low elements) l = subst IsObjectKind (sym l.rows.kind_is) tt
like-kind seen pair it (Scope text parent names) l = subst IsObjectKind (sym l.kind_is) tt
like-kind seen pair it (Keyed table) l = subst IsObjectKind (sym l) tt

not_node : (k : Kind) → IsObjectKind k → nat_eq (kind_number k) 8 ≡ false
not_node kind.Structure o = refl
not_node kind.Vector o = refl
not_node kind.Scope o = refl
not_node kind.Text o = absurd o
not_node kind.Closure o = absurd o
not_node kind.Code o = absurd o
not_node kind.Table o = refl
not_node kind.Node o = absurd o
not_node kind.Directory o = absurd o

pub may-none : (h : Header) → is_walked h ≡ true → IsObjectKind h.kind → h.pid ≡ 0
unfolding is_walked
may-none h may o =
    elim (cases_Bool (nat_eq h.pid 0)) [
      | inl none ↦ eqb-true h.pid 0 none
      | inr some ↦ absurd (true≢false (sym may ∙ (else_is (nat_eq h.pid 0) true (nat_eq (kind_number h.kind) 8) some ∙ not_node h.kind o)))
    ]

pub none-may : (h : Header) → h.pid ≡ 0 → is_walked h ≡ true
unfolding is_walked
none-may h none = then_is (nat_eq h.pid 0) true (nat_eq (kind_number h.kind) 8) (ap (λ n. nat_eq n 0) none)

node-may : (h : Header) → h.kind ≡ kind.Node → is_walked h ≡ true
unfolding is_walked
node-may h is =
    elim (cases_Bool (nat_eq h.pid 0)) [
      | inl none ↦ then_is (nat_eq h.pid 0) true (nat_eq (kind_number h.kind) 8) none
      | inr some ↦ else_is (nat_eq h.pid 0) true (nat_eq (kind_number h.kind) 8) some ∙ ap (λ k. nat_eq (kind_number k) 8) is
    ]

-- a constant is a text, or the code of a literal
constant-is : (seen : Seen) (ns : List Reference) (cs : ConstantsView) (n : Reference) → AreSeen seen ns cs → IsAmong n ns → IsKindOf seen n kind.Text ⊎ ((u : UnitView) × IsUnitSeen seen n u)
unfolding AreSeen IsConstantSeen
constant-is seen [] units.no_constants n a k = absurd k
constant-is seen (m ∷ ns) units.no_constants n a k = absurd a
constant-is seen [] (units.constant_then c cs) n a k = absurd k
constant-is seen (m ∷ ns) (units.constant_then (units.text bytes) cs) n a (inl e) =
    inl (subst (λ x. IsKindOf seen x kind.Text) (sym e) (record { it = a.0.it; there = a.0.there; kind_is = a.0.kind }))
constant-is seen (m ∷ ns) (units.constant_then (units.literal u) cs) n a (inl e) = inr (u, subst (λ x. IsUnitSeen seen x u) (sym e) a.0)
constant-is seen (m ∷ ns) (units.constant_then c cs) n a (inr k) = constant-is seen ns cs n a.1 k

-- what is seen of a unit's code
record CodeSeen (seen : Seen) (n : Reference) : Type 0 where
  it : Shown
  there : seen n it
  kind_is : it.kind ≡ kind.Code
  constants : ConstantsView
  are : AreSeen seen it.refs constants

code-seen : (seen : Seen) (n : Reference) (u : UnitView) → IsUnitSeen seen n u → CodeSeen seen n
unfolding IsUnitSeen
code-seen seen n (units.unit code cs frame) i = record { it = i.0; there = i.1; kind_is = i.2.kind_is; constants = cs; are = i.3 }

pub code-kind : (seen : Seen) (n : Reference) (u : UnitView) → IsUnitSeen seen n u → (it : Shown) × seen n it × (it.kind ≡ kind.Code)
code-kind seen n u i = let c = code-seen seen n u i in (c.it, c.there, c.kind_is)

-- the root of a tree is one of its nodes
pub root-node : (seen : Seen) (pair : Pairing) (n : Reference) (ids : List ℕ) (nodes : List Reference) (of : NodeOf seen pair n ids nodes) → IsAmong n (names_of (items of.tree))
root-node seen pair n ids nodes of = go of.ks of.tree of.root
  where
    go : (ks : Keys) (t : Tree (I ks)) → Some n ≡ root_of t → IsAmong n (names_of (items t))
    go ks leaf e = let bad : Some n ≡ None = e in absurd (cc)
    go ks (node l a r) e = among-back (items l) (a ∷ items r) n (inl (some_same n a.name e))
      where
        some_same : (a b : Reference) → Some a ≡ Some b → a ≡ b
        some_same a b e = cc

-- what is seen of the root of a tree
record RootSeen (seen : Seen) (n : Reference) : Type 0 where
  it : Shown
  there : seen n it
  kind_is : it.kind ≡ kind.Node

root-seen : (seen : Seen) (pair : Pairing) (n : Reference) (ids : List ℕ) (nodes : List Reference) → NodeOf seen pair n ids nodes → RootSeen seen n
root-seen seen pair n ids nodes of = go of.ks of.tree of.root of.stands
  where
    go : (ks : Keys) (t : Tree (I ks)) → Some n ≡ root_of t → TreeStands (HasNode ks seen) t → RootSeen seen n
    go ks leaf e s = let bad : Some n ≡ None = e in absurd (cc)
    go ks (node l a r) e s =
        let same : n ≡ a.name = some_same n a.name e in
        record { it = s.0.it; there = subst (λ m. seen m s.0.it) (sym same) s.0.there; kind_is = s.0.is.kind }
      where
        some_same : (a b : Reference) → Some a ≡ Some b → a ≡ b
        some_same a b e = cc

-- what an object without an id may be that a walk comes to from one with these ids
pub data Status (seen : Seen) (pair : Pairing) (n : Reference) (ids : List ℕ) (nodes : List Reference) : Type 0 where
  is_text : (is : IsKindOf seen n kind.Text) → Status seen pair n ids nodes
  is_code : (u : UnitView) (is : IsUnitSeen seen n u) → Status seen pair n ids nodes
  is_closure : (is : ClosureOf seen pair n ids) → Status seen pair n ids nodes
  is_node : (is : NodeOf seen pair n ids nodes) → Status seen pair n ids nodes

module _ (here : area.Heap) (holds : ℕ → List ℕ → Type 0) (heap : Heap) (names : List Reference) (free : ℕ → Type 0) (t : IsTied here holds heap names free) where
  abbrev S : Seen
  S = Joint here holds

  abbrev P : Pairing
  P = paired names

  abbrev Next : ℕ → ℕ → Type 0
  Next i j = IsIn j (next_in heap i)

  abbrev Hidden : ℕ → Type 0
  Hidden = IsHidden (IsOf here names)

  abbrev Way : ℕ → ℕ → Type 0
  Way x y = Through (Goes here) (May here) Hidden x y

  shown_is : (x : ℕ) (it : Shown) → area.IsHeld here x → S (name_at here x) it → it ≡ shown_at here x
  shown_is x it held k = t.one (name_at here x) it (shown_at here x) k (known here holds x held)

  pub pair-kind : (n : Reference) (j : ℕ) (it : Shown) → P n j → S n it → IsObjectKind it.kind
  pair-kind n j it p k =
      let b = t.stands.stands.both n j p in
      let same = t.one n b.it it b.there k in
      subst (λ (s : Shown). IsObjectKind s.kind) same (like-kind S P b.it b.object b.like)

  -- an object of another kind has no id
  kind-hidden : (x : ℕ) → area.IsHeld here x → (IsObjectKind (area.header_at here x).kind → ⊥) → Hidden x
  kind-hidden x held other k q = other (pair-kind (name_at here x) k (shown_at here x) q.named (known here holds x held))

  not_paired : (n : Reference) (j : ℕ) (ids : List ℕ) (nodes : List Reference) → P n j → Status S P n ids nodes → ⊥
  not_paired n j ids nodes p (is_text is) = subst IsObjectKind is.kind_is (pair-kind n j is.it p is.there)
  not_paired n j ids nodes p (is_code u is) = let c = code-seen S n u is in subst IsObjectKind c.kind_is (pair-kind n j c.it p c.there)
  not_paired n j ids nodes p (is_closure c) = subst IsObjectKind c.is.kind_is (pair-kind n j c.it p c.there)
  not_paired n j ids nodes p (is_node is) = let c = root-seen S P n ids nodes is in subst IsObjectKind c.kind_is (pair-kind n j c.it p c.there)

  -- what a name that means something leads to
  landing : (y : ℕ) (ids : List ℕ) (nodes : List Reference) → Means S P (name_at here y) ids → Status S P (name_at here y) ids nodes ⊎ ObjectOf P (name_at here y) ids
  landing y ids nodes (to_none is) = absurd (name-not_nil here y is)
  landing y ids nodes (to_text is) = inl (is_text is)
  landing y ids nodes (to_object is) = inr is
  landing y ids nodes (to_closure is) = inl (is_closure is)

  scope_case : (y : ℕ) (ids : List ℕ) (nodes : List Reference) (scope : Option ℕ) (n : Reference) → StandsForScope S P n scope → ((j : ℕ) → IsIn j (scope_ids scope) → IsIn j ids) → name_at here y ≡ n
      → Status S P (name_at here y) ids nodes ⊎ ObjectOf P (name_at here y) ids
  scope_case y ids nodes None n s within e = absurd (name-not_nil here y (e ∙ s))
  scope_case y ids nodes (Some id) n s within e = inr (record { id = id; is = subst (λ m. P m id) (sym e) s.0; within = within id (inl refl) })

  pub step : (z y : ℕ) (ids : List ℕ) (nodes : List Reference) → area.IsHeld here z → Status S P (name_at here z) ids nodes → IsAmong (name_at here y) (shown_at here z).refs
      → Status S P (name_at here y) ids nodes ⊎ ObjectOf P (name_at here y) ids
  step z y ids nodes held (is_text is) k =
      let same = shown_is z is.it held is.there in
      absurd (t.texts z (name_at here y) held (ap (λ (s : Shown). s.kind) (sym same) ∙ is.kind_is) k)
  step z y ids nodes held (is_code u is) k =
      let c = code-seen S (name_at here z) u is in
      let same = shown_is z c.it held c.there in
      elim (constant-is S c.it.refs c.constants (name_at here y) c.are (subst (IsAmong (name_at here y)) (ap (λ (s : Shown). s.refs) (sym same)) k)) [
        | inl text ↦ inl (is_text text)
        | inr unit ↦ inl (is_code unit.0 unit.1)
      ]
  step z y ids nodes held (is_closure c) k =
      let same = shown_is z c.it held c.there in
      elim (subst (IsAmong (name_at here y)) (ap (λ (s : Shown). s.refs) (sym same) ∙ c.is.refs) k) [
        | inl e ↦ inl (is_code c.of (subst (λ n. IsUnitSeen S n c.of) (sym e) c.is.is_unit))
        | inr r ↦ elim r [
          | inl e ↦ scope_case y ids nodes c.scope c.is.scope_name c.is.is_scope c.within e
          | inr q ↦ absurd q
        ]
      ]
  step z y ids nodes held (is_node is) k =
      elim (node-leads S P (name_at here z) (name_at here y) ids nodes (shown_at here z) (λ a b p q. t.one (name_at here z) a b p q) (name-not_nil here y) is (known here holds z held) k) [
        | node_text text ↦ inl (is_text text)
        | node_below below ↦ inl (is_node below)
        | node_value value ↦ inr value
      ]

  way-held : (x y : ℕ) → Way x y → area.IsHeld here y
  way-held x y (straight w goes may) = goes.names.held
  way-held x y (over z w before hidden goes may) = goes.names.held

  -- what the slots of a paired object lead to
  pub first : (x i y : ℕ) (object : Object) → area.IsHeld here x → P (name_at here x) i → object_at heap i ≡ Some object → IsLike S P (shown_at here x) object
      → IsAmong (name_at here y) (shown_at here x).refs → Status S P (name_at here y) (ids_in object) (t.stands.stands.tables.nodes i) ⊎ ObjectOf P (name_at here y) (ids_in object)
  first x i y (Keyed table) held p means like k =
      let tab = t.stands.stands.tables.each (name_at here x) i table p means in
      let same = shown_is x tab.it held tab.there in
      let refs = subst (λ (s : Shown). IsAmong (name_at here y) s.refs) (sym same) k in
      inl (is_node (table-leads S P (name_at here x) (name_at here y) table (t.stands.stands.tables.nodes i) tab (name-not_nil here y)
      (λ ks tree keyed root stands. (t.trees (name_at here x) i table tab.it ks tree p means keyed tab.there root stands).plain) refs))
  first x i y (Structure class fields) held p means like k = landing y (ids_in (Structure class fields)) (t.stands.stands.tables.nodes i) (like-means S P (shown_at here x) (Structure class fields) (name_at here y) tt like k)
  first x i y (Elements ty low elements) held p means like k = landing y (ids_in (Elements ty low elements)) (t.stands.stands.tables.nodes i) (like-means S P (shown_at here x) (Elements ty low elements) (name_at here y) tt like k)
  first x i y (Scope text parent values) held p means like k = landing y (ids_in (Scope text parent values)) (t.stands.stands.tables.nodes i) (like-means S P (shown_at here x) (Scope text parent values) (name_at here y) tt like k)

  way-lands : (x i y : ℕ) (object : Object) → area.IsHeld here x → P (name_at here x) i → object_at heap i ≡ Some object → IsLike S P (shown_at here x) object → Way x y
      → Status S P (name_at here y) (ids_in object) (t.stands.stands.tables.nodes i) ⊎ ObjectOf P (name_at here y) (ids_in object)
  way-lands x i y object held p means like (straight w goes may) = first x i y object held p means like (goes-named here x y t.sound held goes)
  way-lands x i y object held p means like (over z w before hidden goes may) =
      let z_held = way-held x z before in
      elim (way-lands x i z object held p means like before) [
        | inl s ↦ step z y (ids_in object) (t.stands.stands.tables.nodes i) z_held s (goes-named here z y t.sound z_held goes)
        | inr o ↦ absurd (hidden o.id (record { held = z_held; named = o.is }))
      ]

  way-may : (x y : ℕ) → Way x y → May here y
  way-may x y (straight w goes may) = may
  way-may x y (over z w before hidden goes may) = may

  next-is : (i : ℕ) (object : Object) → object_at heap i ≡ Some object → next_in heap i ≡ ids_in object
  unfolding next_in
  next-is i object means = ap object_ids means

  pub back : (x i y j : ℕ) → IsOf here names x i → Way x y → IsOf here names y j → Next i j × free j
  back x i y j p way q =
      let b = t.stands.stands.both (name_at here x) i p.named in
      let like = subst (λ (s : Shown). IsLike S P s b.object) (shown_is x b.it p.held b.there) b.like in
      let kind_is = pair-kind (name_at here y) j (shown_at here y) q.named (known here holds y q.held) in
      elim (way-lands x i y b.object p.held p.named b.means like way) [
        | inl s ↦ absurd (not_paired (name_at here y) j (ids_in b.object) (t.stands.stands.tables.nodes i) q.named s)
        | inr o ↦
            let same = t.stands.stands.one_number (name_at here y) o.id j o.is q.named in (
              subst (IsIn j) (sym (next-is i b.object b.means)) (subst (λ k. IsIn k (ids_in b.object)) same o.within),
              t.local_free y j q (may-none (area.header_at here y) (way-may x y way) kind_is),
            )
      ]

  -- Down the nodes of a table.

  local-may : (y : ℕ) → (area.header_at here y).pid ≡ 0 → May here y
  local-may y none = none-may (area.header_at here y) none

  -- a slot of a node that lies in the area names an object of the area
  slot-goes : (z y slot : ℕ) → area.IsHeld here z → area.IsHeld here y → length (shown_at here z).refs ≡ 4 → slot < 4 → slot_of (shown_at here z) slot ≡ name_at here y → Goes here z y
  slot-goes z y slot held to long lt e =
      named-goes here z y t.sound held to (subst (λ n. IsAmong n (shown_at here z).refs) e (among-at (shown_at here z).refs slot (omega (arith, lt, long))))

  some_name : (a b : Reference) → Some a ≡ Some b → a ≡ b
  some_name a b e = cc

  link_name : (n m : Reference) → link_of n ≡ Some m → n ≡ m
  link_name Nil m e = let bad : None ≡ Some m = e in absurd (cc)
  link_name (Pid p) m e = some_name (Pid p) m e
  link_name (Local x) m e = some_name (Local x) m e

  -- where a tree has a changed node, its root lies in the area
  root-here : (ks : Keys) (l r : Tree (I ks)) (b a : I ks) → IsItem a (items (node l b r)) → (it : Shown) → IsChanged here a.name it → AreHung here (node l b r)
      → (z : ℕ) × area.IsHeld here z × (name_at here z ≡ b.name)
  root-here ks l r b a k it c hung =
      let ns = names_of (items (node l b r)) in
      let among = subst (λ n. IsAmong n ns) c.name (item-among a (items (node l b r)) k) in
      let h = hung.0 (record { at = c.at; held = c.held; among = among; why = c.why }) in
      (h.at, h.held, h.name)

  root-kind : (ks : Keys) (u : Tree (I ks)) (v : ℕ) → area.IsHeld here v → Some (name_at here v) ≡ root_of u → TreeStands (HasNode ks S) u → (area.header_at here v).kind ≡ kind.Node
  root-kind ks leaf v held e stands = let bad : Some (name_at here v) ≡ None = e in absurd (cc)
  root-kind ks (node l b r) v held e stands =
      let named : name_at here v ≡ b.name = some_name (name_at here v) b.name e in
      ap (λ (s : Shown). s.kind) (sym (shown_is v stands.0.it held (subst (λ n. S n stands.0.it) (sym named) stands.0.there))) ∙ stands.0.is.kind

  -- one step down: the root of a side
  side-way : (x z slot : ℕ) (ks : Keys) (u : Tree (I ks)) → area.IsHeld here z → length (shown_at here z).refs ≡ 4 → Hidden z → Way x z → slot < 4 → link_of (slot_of (shown_at here z) slot) ≡ root_of u
      → TreeStands (HasNode ks S) u → (v : ℕ) → area.IsHeld here v → Some (name_at here v) ≡ root_of u → Way x v
  side-way x z slot ks u held long hidden way lt link stands v held_v e =
      over z v way hidden (slot-goes z v slot held held_v long lt (link_name (slot_of (shown_at here z) slot) (name_at here v) (link ∙ sym e)))
      (node-may (area.header_at here v) (root-kind ks u v held_v e stands))

  -- the way to a changed node
  pub node-way : (x : ℕ) (ks : Keys) (tree : Tree (I ks)) (a : I ks) (it : Shown) → ((v : ℕ) → area.IsHeld here v → Some (name_at here v) ≡ root_of tree → Way x v) → TreeStands (HasNode ks S) tree
      → AreHung here tree → IsItem a (items tree) → (c : IsChanged here a.name it) → Way x c.at
  node-way x ks leaf a it from stands hung k c = absurd k
  node-way x ks (node l b r) a it from stands hung k c =
      let w = root-here ks l r b a k it c hung in
      let z = w.0 in
      let held = w.1 in
      let way = from z held (ap Some w.2) in
      let h = stands.0 in
      let there : S (name_at here z) h.it = subst (λ n. S n h.it) (sym w.2) h.there in
      let same : h.it ≡ shown_at here z = shown_is z h.it held there in
      let long : length (shown_at here z).refs ≡ 4 = subst (λ (s : Shown). length s.refs ≡ 4) same h.is.refs in
      let is_node_kind : (area.header_at here z).kind ≡ kind.Node = subst (λ (s : Shown). s.kind ≡ kind.Node) same h.is.kind in
      let hidden : Hidden z = kind-hidden z held (λ o. subst IsObjectKind is_node_kind o) in
      elim (item-cases a (items l) (b ∷ items r) k) [
        | inl m ↦
            let link : link_of (slot_of (shown_at here z) 0) ≡ root_of l = subst (λ (s : Shown). link_of (slot_of s 0) ≡ root_of l) same h.is.left in
            node-way x ks l a it (side-way x z 0 ks l held long hidden way (omega arith) link stands.1) stands.1 hung.1 m c
        | inr (inl is) ↦
            let one_place : z ≡ c.at = name_at-injective here z c.at t.sound held c.held (w.2 ∙ (ap (λ (i : I ks). i.name) (sym is) ∙ c.name)) in
            subst (Way x) one_place way
        | inr (inr m) ↦
            let link : link_of (slot_of (shown_at here z) 1) ≡ root_of r = subst (λ (s : Shown). link_of (slot_of s 1) ≡ root_of r) same h.is.right in
            node-way x ks r a it (side-way x z 1 ks r held long hidden way (omega arith) link stands.2) stands.2 hung.2 m c
      ]

  -- from a table of the area to the root of its tree
  pub table-root : (x : ℕ) (ks : Keys) (tree : Tree (I ks)) → area.IsHeld here x → 0 < length (shown_at here x).refs → link_of (slot_of (shown_at here x) 0) ≡ root_of tree → TreeStands (HasNode ks S) tree
      → (v : ℕ) → area.IsHeld here v → Some (name_at here v) ≡ root_of tree → Way x v
  table-root x ks tree held_x some root stands v held e = straight v
      (named-goes here x v t.sound held_x held
      (subst (λ n. IsAmong n (shown_at here x).refs) (link_name (slot_of (shown_at here x) 0) (name_at here v) (root ∙ sym e)) (among-at (shown_at here x).refs 0 some)))
      (node-may (area.header_at here v) (root-kind ks tree v held e stands))

  -- From a name of a paired object to a free one.

  table-forth : (x i j : ℕ) (table : Table) → IsOf here names x i → object_at heap i ≡ Some (Keyed table) → IsIn j (ids_in (Keyed table)) → free j → Target (IsOf here names) (λ y. Way x y) j
  table-forth x i j table p means l f =
      let nodes = t.stands.stands.tables.nodes i in
      let tab = t.stands.stands.tables.each (name_at here x) i table p.named means in
      let same : tab.it ≡ shown_at here x = shown_is x tab.it p.held tab.there in
      let w = tree-for S P (name_at here x) table nodes tab j l in
      let hung = (t.trees (name_at here x) i table tab.it w.ks w.tree p.named means w.keyed tab.there w.root w.stands).hung in
      let a = w.item.item in
      let y = t.free_local a.entry.value j w.item.goes f in
      let seen_a = item-seen w.ks S w.tree a w.stands w.item.among in
      let value : slot_of seen_a.it 3 ≡ Local y.at = seen_a.value ∙ (y.is ∙ name-of_none here y.at y.none) in
      let slots : 3 < length seen_a.it.refs = (let long = seen_a.refs in omega (arith, long)) in
      let refs : IsAmong (Local y.at) seen_a.it.refs = subst (λ n. IsAmong n seen_a.it.refs) value (among-at seen_a.it.refs 3 slots) in
      let in_nodes : IsAmong a.name nodes = subst (IsAmong a.name) (sym w.nodes_are) (item-among a (items w.tree) w.item.among) in
      let c = t.changed (name_at here x) a.name i table seen_a.it y.at p.named means in_nodes seen_a.there refs in
      let root : link_of (slot_of (shown_at here x) 0) ≡ root_of w.tree = subst (λ (s : Shown). link_of (slot_of s 0) ≡ root_of w.tree) same w.root in
      let some : 0 < length (shown_at here x).refs = subst (λ (s : Shown). 0 < length s.refs) same (let long = ap length tab.refs in omega (arith, long)) in
      let way = node-way x w.ks w.tree a seen_a.it (table-root x w.ks w.tree p.held some root w.stands) w.stands hung w.item.among c in
      let kind_is : (area.header_at here c.at).kind ≡ kind.Node = ap (λ (s : Shown). s.kind) (sym c.shown) ∙ seen_a.kind_is in
      let hidden : Hidden c.at = kind-hidden c.at c.held (λ o. subst IsObjectKind kind_is o) in
      let long : length (shown_at here c.at).refs ≡ 4 = subst (λ (s : Shown). length s.refs ≡ 4) c.shown seen_a.refs in
      let slot : slot_of (shown_at here c.at) 3 ≡ name_at here y.at = subst (λ (s : Shown). slot_of s 3 ≡ a.entry.value) c.shown seen_a.value ∙ y.is in
      record {
        at = y.at;
        is = record { held = y.held; named = w.item.goes ∙ ap Some y.is };
        there = over c.at y.at way hidden (slot-goes c.at y.at 3 c.held y.held long (omega arith) slot) (local-may y.at y.none);
      }

  closure_local : (n : Reference) (j y : ℕ) (c : Through_closure S P n j) → c.to ≡ Local y → (z : ℕ) × area.IsHeld here z × (name_at here z ≡ Local z) × (n ≡ Local z) × (c.it ≡ shown_at here z)
  closure_local Nil j y c e = absurd (nil-unknown here holds c.it c.there)
  closure_local (Pid p) j y c e = absurd (t.closures p c.it y c.there c.kind_is (subst (λ n. IsAmong n c.it.refs) e c.has))
  closure_local (Local z) j y c e = let k = local-known here holds z c.it c.there in (z, k.0, k.1, refl, k.2)

  plain-forth : (x i j : ℕ) (object : Object) → IsPlain object → IsOf here names x i → IsLike S P (shown_at here x) object → IsIn j (ids_in object) → free j
      → Target (IsOf here names) (λ y. Way x y) j
  plain-forth x i j object plain p like next f =
      let l = like-leads S P (shown_at here x) object j plain like next in
      elim l.way [
        | inl q ↦
            let y = t.free_local l.by j q f in
            let goes = named-goes here x y.at t.sound p.held y.held (subst (λ n. IsAmong n (shown_at here x).refs) y.is l.has) in
            record { at = y.at; is = record { held = y.held; named = q ∙ ap Some y.is }; there = straight y.at goes (local-may y.at y.none) }
        | inr c ↦
            let y = t.free_local c.to j c.goes f in
            let z = closure_local l.by j y.at c (y.is ∙ name-of_none here y.at y.none) in
            let held_z = z.1 in
            let goes_z = named-goes here x z.0 t.sound p.held held_z (subst (λ n. IsAmong n (shown_at here x).refs) (z.3 ∙ sym z.2) l.has) in
            let refs = subst (λ (s : Shown). IsAmong c.to s.refs) z.4 c.has in
            let goes = named-goes here z.0 y.at t.sound held_z y.held (subst (λ n. IsAmong n (shown_at here z.0).refs) y.is refs) in
            let hidden : Hidden z.0 = kind-hidden z.0 held_z (λ o. subst IsObjectKind (ap (λ (s : Shown). s.kind) (sym z.4) ∙ c.kind_is) o) in
            record {
              at = y.at;
              is = record { held = y.held; named = c.goes ∙ ap Some y.is };
              there = over z.0 y.at (straight z.0 goes_z (local-may z.0 (local-none here z.0 z.0 z.2).0)) hidden goes (local-may y.at y.none);
            }
      ]

  object-forth : (x i j : ℕ) (object : Object) → IsOf here names x i → object_at heap i ≡ Some object → IsLike S P (shown_at here x) object → IsIn j (ids_in object) → free j
      → Target (IsOf here names) (λ y. Way x y) j
  object-forth x i j (Keyed table) p means like next f = table-forth x i j table p means next f
  object-forth x i j (Structure class fields) p means like next f = plain-forth x i j (Structure class fields) tt p like next f
  object-forth x i j (Elements ty low elements) p means like next f = plain-forth x i j (Elements ty low elements) tt p like next f
  object-forth x i j (Scope text parent values) p means like next f = plain-forth x i j (Scope text parent values) tt p like next f

  pub forth : (x i j : ℕ) → IsOf here names x i → Next i j → free j → Target (IsOf here names) (λ y. Way x y) j
  forth x i j p next f =
      let b = t.stands.stands.both (name_at here x) i p.named in
      let like = subst (λ (s : Shown). IsLike S P s b.object) (shown_is x b.it p.held b.there) b.like in
      object-forth x i j b.object p b.means like (subst (IsIn j) (next-is i b.object b.means) next) f

  named_or : (n : Reference) (from : List Reference) → ((i : ℕ) × (name_in from i ≡ Some n)) ⊎ ((i : ℕ) → name_in from i ≡ Some n → ⊥)
  named_or n [] = inr (λ i e. let bad : None ≡ Some n = e in absurd (cc))
  named_or n (m ∷ ms) =
      elim (names-decided m n) [
        | inl same ↦ inl (0, ap Some same)
        | inr apart ↦
            elim (named_or n ms) [
              | inl f ↦ inl (suc f.0, f.1)
              | inr none ↦ inr (λ i e. not_named m n ms i apart none e)
            ]
      ]
    where
      not_named : (m n : Reference) (ms : List Reference) (i : ℕ) → m ≢ n → ((k : ℕ) → name_in ms k ≡ Some n → ⊥) → name_in (m ∷ ms) i ≡ Some n → ⊥
      not_named m n ms zero apart none e = let same : m ≡ n = cc in apart same
      not_named m n ms (suc i) apart none e = none i e

  held_or : (x : ℕ) (r : Option Rattle.joint_ops.specs.swizzle.Objects.Object) → area.found here x ≡ r → area.IsHeld here x ⊎ (area.IsHeld here x → ⊥)
  held_or x None e = inr (λ h. let bad : None ≡ Some h.object = sym e ∙ h.is in absurd (cc))
  held_or x (Some o) e = inl (record { object = o; is = e })

  pub decided : (x : ℕ) → IsPaired (IsOf here names) x ⊎ Hidden x
  decided x =
      elim (held_or x (area.found here x) refl) [
        | inl held ↦
            elim (named_or (name_at here x) names) [
              | inl f ↦ inl (record { id = f.0; is = record { held = held; named = f.1 } })
              | inr none ↦ inr (λ i p. none i p.named)
            ]
        | inr away ↦ inr (λ i p. away p.held)
      ]

  pub one : (x i j : ℕ) → IsOf here names x i → IsOf here names x j → i ≡ j
  one x i j p q = t.stands.stands.one_number (name_at here x) i j p.named q.named

  -- With the sources and the roots paired, a walk meets what is reached.
  pub refined : (source root id_source id_root : ℕ → Type 0) → ((x : ℕ) → source x → Target (λ i y. IsOf here names y i) id_source x) → ((i : ℕ) → id_source i → Target (IsOf here names) source i)
      → ((x : ℕ) → root x → Target (λ i y. IsOf here names y i) (λ i. id_root i × free i) x) → ((i : ℕ) → id_root i → free i → Target (IsOf here names) (λ x. root x × May here x) i)
      → IsRefined (IsOf here names) (Goes here) Next (May here) free source root id_source id_root
  refined source root id_source id_root sources id_sources roots id_roots = record {
    decided = decided;
    forth = forth;
    back = back;
    sources = sources;
    id_sources = id_sources;
    roots = roots;
    id_roots = id_roots;
    one = one;
  }
