-- An object of the area gets the next id.
use Rattle.std.proofs.Common.{inl, inr, ◌⊎◌, ◌≡◌, ℕ, zero, suc, ◌≤◌, List, [], ◌∷◌, ◌++◌, length, arith, refl, sym, ap, ◌∙◌, subst, Option, Some, None}
use Rattle.std.proofs.lemmas.List.{length-append}
use Rattle.joint_ops.specs.ps_outside.Outside.{Outside}
use Rattle.joint_ops.specs.obj_layout.Stored.{Space}
use Rattle.joint_ops.specs.obj_layout.declared.reference.Reference.{Reference}
use Rattle.joint_ops.specs.obj_layout.declared.reference.Reference.TheVariants.{Pid, Local}
use Rattle.joint_ops.specs.swizzle.Heap as area
use Rattle.joint_ops.specs.swizzle.Heap.{IsHeap, IsHeld, IsListed, header_at}
use Rattle.joint_ops.specs.swizzle.Joint.{Shown, name_at, shown_at}
use Rattle.swizzle.proofs.NameLaws.{name-none, name-pid}
use Rattle.joint_ops.specs.World.{seen}
use Rattle.joint_ops.proofs.SeenLaws.{seen-one}
use Rattle.joint_ops.specs.heap_places.Shapes.{slot_of}
use Rattle.joint_ops.specs.heap_meaning.avl_trees.Trees.{Tree}
use Rattle.joint_ops.specs.heap_meaning.avl_trees.Standing.{root_of, Stands}
use Rattle.joint_ops.specs.heap_meaning.node_rows.Keys.{Keys, by_texts, by_ints}
use Rattle.joint_ops.specs.heap_meaning.node_rows.Nodes.{I, IsAmong, HasNode, link_of}
use Rattle.joint_ops.specs.heap_meaning.Standing.{Seen, Pairing, IsOne}
use Rattle.joint_ops.specs.heap_meaning.Paired.{paired, and_name}
use Rattle.heap_meaning.proofs.PairedLaws.{name-before, name-cases}
use Rattle.heap_meaning.proofs.StandingLaws.{object-last, object-before}
use Rattle.joint_ops.specs.ps_heap.Tables as table
use Rattle.joint_ops.specs.ps_heap.Tables.{Table, without_keys, by_strings}
use Rattle.joint_ops.specs.ps_heap.Objects.{Object, Structure, Elements, Scope, Keyed, object_at}
use Rattle.joint_ops.specs.ps_heap.Databases.{Directory}
use Rattle.joint_ops.specs.ps_heap.Held.{Held, home_at, made}
use Rattle.db_dir.specs.Directories.{IsDirectoryAt, AreNamed}
use Rattle.commit_walk.specs.Homes.{source_at}
use Rattle.commit_walk.specs.declared.homes.Source.{Source}
use Rattle.joint_held.specs.Held.{IsAtHome, IsOf, IsTree, IsKeyed, IsOfHeap, HasRoot, HoldsRun}
use Rattle.joint_ops.specs.Made.{IsFresh}
use Rattle.joint_held.specs.Keeping.{GetsId}
use Rattle.joint_held.proofs.TreeLaws as trees
use Rattle.joint_held.proofs.TreeLaws.{nodes-one}
use Rattle.joint_held.proofs.StoreLaws.{unasked-stays, unasked-as}

-- a row of a directory stands under more names
named-pairs : (seen : Seen) (pair more : Pairing) (ns : List Reference) (ds : Directory) → ((n : Reference) (id : ℕ) → pair n id → more n id) → AreNamed seen pair ns ds → AreNamed seen more ns ds
named-pairs seen pair more (name ∷ password ∷ root ∷ ns) (d ∷ ds) w a =
    (a.0, a.1, record { paired = w root d.root a.2.paired; kind = a.2.kind }, named-pairs seen pair more ns ds w a.3)
named-pairs seen pair more [] [] w a = tt
named-pairs seen pair more [] (d ∷ ds) w a = absurd a
named-pairs seen pair more (x ∷ []) ds w a = absurd a
named-pairs seen pair more (x ∷ y ∷ []) ds w a = absurd a
named-pairs seen pair more (x ∷ y ∷ z ∷ ns) [] w a = absurd a

-- a fresh object has no keys
no-keys : (ks : Keys) (object : Object) (of : Table) → IsFresh object → object ≡ Keyed of → IsKeyed ks of → ⊥
no-keys ks (Structure class fields) of f e k = let bad : Structure class fields ≡ Keyed of = e in absurd (cc)
no-keys ks (Elements ty low elements) of f e k = let bad : Elements ty low elements ≡ Keyed of = e in absurd (cc)
no-keys ks (Scope text parent names) of f e k = let bad : Scope text parent names ≡ Keyed of = e in absurd (cc)
no-keys ks (Keyed without_keys) of f e k = let same : without_keys ≡ of = cc in none ks (subst (IsKeyed ks) (sym same) k)
  where
    none : (ks : Keys) → IsKeyed ks without_keys → ⊥
    none by_texts k = k
    none by_ints k = k
no-keys ks (Keyed (by_strings es)) of f e k = f
no-keys ks (Keyed (table.by_ints es)) of f e k = f

some_object : (a b : Object) → Some a ≡ Some b → a ≡ b
some_object a b e = cc

-- an id beyond the homes has none
home-past : (homes : List (Option ℕ)) (id : ℕ) → length homes ≤ id → home_at homes id ≡ None
unfolding home_at
home-past [] id low = refl
home-past (home ∷ homes) zero low = absurd (omega (arith, low))
home-past (home ∷ homes) (suc id) low = home-past homes id (omega (arith, low))

module _ (here : area.Heap) (outside : Outside Space) (names : List Reference) (writing : List Source) (directory : Option ℕ) (h : Held) (at : ℕ) (object : Object) (sound : IsHeap here)
    (g : GetsId here outside names h at object) (run : HoldsRun here outside names writing directory h) where
  abbrev S : Seen
  S = seen here outside

  one : IsOne (seen here outside)
  one = seen-one here outside sound run.store.one

  abbrev More : List Reference
  More = and_name names (name_at here at)

  long : length names ≡ length h.objects
  long = run.world.row.long

  name-is : name_at here at ≡ Local at
  name-is = name-none (header_at here at) at g.unstored

  before : (n : Reference) (id : ℕ) → paired names n id → paired More n id
  before n id p = name-before names n (name_at here at) id p

  cases : (n : Reference) (id : ℕ) → paired More n id → paired names n id ⊎ ((n ≡ name_at here at) × (id ≡ length h.objects))
  cases n id p = elim (name-cases names n (name_at here at) id p) [ inl old ↦ inl old | inr last ↦ inr (last.0, last.1 ∙ long) ]

  homes : (n : Reference) (id : ℕ) → paired More n id → IsAtHome S n (home_at h.homes id)
  homes n id p = elim (cases n id p) [
    | inl old ↦ run.homes n id old
    | inr last ↦
        let none : home_at h.homes id ≡ None = home-past h.homes id (omega (arith, run.homed, last.1)) in
        subst (λ m. IsAtHome S m (home_at h.homes id)) (sym (last.0 ∙ name-is)) (subst (IsAtHome S (Local at)) (sym none) tt)
  ]

  of-more : (x id : ℕ) → IsOf here names x id → IsOf here More x id
  of-more x id p = record { held = p.held; named = before (name_at here x) id p.named }

  -- a stored object had its id before
  of-old : (x id : ℕ) → IsOf here More x id → 1 ≤ (header_at here x).pid → IsOf here names x id
  of-old x id p low = elim (cases (name_at here x) id p.named) [
    | inl old ↦ record { held = p.held; named = old }
    | inr last ↦
        let bad : Pid (header_at here x).pid ≡ Local at = sym (name-pid (header_at here x) x low) ∙ (last.0 ∙ name-is) in
        absurd (cc)
  ]

  -- an id with a name from before has the object from before
  old-object : (n : Reference) (id : ℕ) (of : Table) → paired names n id → object_at (h.objects ++ object ∷ []) id ≡ Some (Keyed of) → object_at h.objects id ≡ Some (Keyed of)
  old-object n id of p is =
      let b = run.world.row.stands.both n id p in
      let same : Some b.object ≡ Some (Keyed of) = sym (object-before h.objects object b.object id b.means) ∙ is in
      b.means ∙ same

  last-object : (id : ℕ) (of : Table) → id ≡ length h.objects → object_at (h.objects ++ object ∷ []) id ≡ Some (Keyed of) → object ≡ Keyed of
  last-object id of e is = some_object object (Keyed of) (sym (object-last h.objects object) ∙ (ap (object_at (h.objects ++ object ∷ [])) (sym e) ∙ is))

  are-trees : (n : Reference) (id : ℕ) (of : Table) (it : Shown) (ks : Keys) (u : Tree (I ks)) → paired More n id → object_at (h.objects ++ object ∷ []) id ≡ Some (Keyed of) → IsKeyed ks of → S n it
      → link_of (slot_of it 0) ≡ root_of u → Stands (HasNode ks S) u → IsTree here S n ks u
  are-trees n id of it ks u p is keyed there root stands = elim (cases n id p) [
    | inl old ↦ run.trees n id of it ks u old (old-object n id of old is) keyed there root stands
    | inr last ↦ absurd (no-keys ks object of g.fresh (last-object id of last.1 is) keyed)
  ]

  same-stays : trees.Stays S S
  same-stays = record { nodes = λ n it k s. s; texts = λ n bytes x. x }

  of-heap : (x : ℕ) → IsOfHeap here (h.objects ++ object ∷ []) More g.world.row.stands.tables.nodes x → IsOfHeap here h.objects names run.world.row.stands.tables.nodes x
  of-heap x (inl other) = inl other
  of-heap x (inr n) = elim (cases n.name n.id n.named) [
    | inl old ↦
        let is = old-object n.name n.id n.table old n.table_is in
        let a = run.world.row.stands.tables.each n.name n.id n.table old is in
        let b = g.world.row.stands.tables.each n.name n.id n.table n.named n.table_is in
        let same = nodes-one S S (paired names) (paired More) n.name n.table (run.world.row.stands.tables.nodes n.id) (g.world.row.stands.tables.nodes n.id) one same-stays a b (λ it s. s) in
        inr (record { name = n.name; id = n.id; named = old; table = n.table; table_is = is; among = subst (IsAmong (name_at here x)) (sym same) n.among })
    | inr last ↦ absurd (no-nodes n.table (last-object n.id n.table last.1 n.table_is) (g.world.row.stands.tables.each n.name n.id n.table n.named n.table_is).root (g.world.row.stands.tables.nodes n.id) (g.world.row.stands.tables.each n.name n.id n.table n.named n.table_is).has n.among)
  ]
    where
      no-nodes : (of : Table) → object ≡ Keyed of → (root : Reference) (nodes : List Reference) → Rattle.joint_ops.specs.heap_meaning.Tables.HasNodes S (paired More) root of nodes → IsAmong (name_at here x) nodes → ⊥
      no-nodes without_keys e root nodes has k = subst (IsAmong (name_at here x)) has.1 k
      no-nodes (by_strings es) e root nodes has k = no-keys by_texts object (by_strings es) g.fresh e tt
      no-nodes (table.by_ints es) e root nodes has k = no-keys by_ints object (table.by_ints es) g.fresh e tt

  directory-more : (d : Option ℕ) → IsDirectoryAt here S (paired names) d h.directory → IsDirectoryAt here S (paired More) d h.directory
  directory-more None is = is
  directory-more (Some x) is = record {
    kind_is = is.kind_is;
    home = is.home;
    some = is.some;
    few = is.few;
    fit = is.fit;
    names = named-pairs S (paired names) (paired More) (shown_at here x).refs h.directory before is.names;
  }

  root-more : (number x : ℕ) → HasRoot here names h number x → HasRoot here More (made object h) number x
  root-more number x r = record { database = r.database; is = r.is; root = of-more x r.database.root r.root }

  pub id-given : HoldsRun here outside More writing directory (made object h)
  id-given = record {
    store = run.store;
    world = g.world;
    homes = homes;
    homed = omega (arith, run.homed, length-append h.objects (object ∷ []));
    assigned = record {
      noted = λ id k. let n = run.assigned.noted id k in (n.0, of-more n.0 id n.1, n.2);
      placed = λ x id p n. run.assigned.placed x id (of-old x id p n.stored) n;
      known = λ x n home. let k = run.assigned.known x n home in (k.0, of-more x k.0 k.1);
    };
    trees = are-trees;
    current = record {
      told = run.current.told;
      stored = λ x held low away of. run.current.stored x held low away (of-heap x of);
      noted = run.current.noted;
    };
    sources = record {
      numbers = run.sources.numbers;
      each = λ place lt. record {
        made = λ x e. let m = (run.sources.each place lt).made x e in (m.0, root-more (source_at writing place).number x m.1);
        other = (run.sources.each place lt).other;
      };
      made = run.sources.made;
      roots = run.sources.roots;
      others = run.sources.others;
    };
    asked = λ e. directory-more directory (run.asked e);
    unasked = λ e.
        unasked-as here outside More h (made object h) directory refl refl refl
        (unasked-stays here here outside outside names More h directory (λ space is. is) (λ n it k s. s) (λ ns a. named-pairs S (paired names) (paired More) ns h.directory before a) (run.unasked e));
  }
