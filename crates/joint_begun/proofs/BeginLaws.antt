-- A run begins over a space that stands for a heap whose ids are all reached.
use Rattle.std.proofs.Common.{true, inl, inr, ◌≡◌, ℕ, ℤ, zero, suc, ◌<◌, ◌≤◌, List, [], ◌∷◌, length, refl, sym, ap, ◌∙◌, subst, arith, Option, Some, None}
use Rattle.std.specs.Prelude.{take}
use Rattle.std.specs.List.{AllByRecursion}
use Rattle.std.proofs.lemmas.List.{length-take-le, length-map}
use Rattle.reaching.specs.Reaching.{at_start}
use Rattle.swizzle.specs.obj_layout.ps_outside.Outside.{Outside}
use Rattle.swizzle.specs.obj_layout.declared.kind.Kind.TheVariants as kind
use Rattle.swizzle.specs.obj_layout.declared.reference.Reference.{Reference}
use Rattle.swizzle.specs.obj_layout.declared.reference.Reference.TheVariants.{Nil, Pid}
use Rattle.swizzle.specs.obj_layout.Stored.{Space, without_file}
use Rattle.swizzle.proofs.of_obj_layout.StoredLaws.{Holds-one}
use Rattle.swizzle.specs.Heap.{IsHeld, fresh_heap}
use Rattle.swizzle.specs.Joint.{Shown, shown_words}
use Rattle.heap_meaning.specs.heap_places.Shapes.{word_in, slot_of}
use Rattle.heap_meaning.specs.avl_trees.Trees.{Tree, leaf, node, items}
use Rattle.heap_meaning.specs.avl_trees.Standing.{root_of, Stands as TreeStands}
use Rattle.heap_meaning.specs.node_rows.Keys.{Keys, by_ints as int_keys, by_texts as text_keys}
use Rattle.heap_meaning.specs.node_rows.Nodes.{I, IsAmong, HasNode, link_of}
use Rattle.heap_meaning.specs.Tables.{names_of, IsTable}
use Rattle.heap_meaning.specs.Standing.{Seen, Pairing, IsLike, IsOne}
use Rattle.heap_meaning.specs.Paired.{paired, StandsRow}
use Rattle.heap_meaning.proofs.StandingLaws.{Fixed, Kinds, like-more, kind-more}
use Rattle.heap_meaning.proofs.TableLaws.{table-more}
use Rattle.heap_fit.specs.ps_heap.Values.{Routine}
use Rattle.heap_fit.specs.ps_heap.Tables.{Entry, Table, without_keys, by_strings, by_ints}
use Rattle.heap_fit.specs.ps_heap.Objects.{Object, Structure, Elements, Scope, Keyed, object_at}
use Rattle.heap_fit.specs.ps_heap.References.{values_of, pointers}
use Rattle.heap_fit.specs.ps_heap.Databases.{Database, database_at, is_there, each_once}
use Rattle.heap_fit.specs.ps_heap.Held.{Reply, Held, StoredHeap, home_at, home_if, started, reached_from_roots}
use Rattle.heap_fit.specs.database_meaning.Same.{IsInHeap}
use Rattle.database_meaning.proofs.GrownPairs.{there-object}
use Rattle.database_meaning.proofs.SameStarts.{home-kept}
use Rattle.ps_code_laws.specs.Compiled.{compiled_object, compiled_heap, compiled_held}
use Rattle.joint_ops.specs.World.{seen}
use Rattle.reach_commit.specs.commit_images.Stored.{IsCut}
use Rattle.joint_held.specs.db_dir.Directories.{IsDirectoryUnder}
use Rattle.joint_held.specs.Held.{IsAtHome, AreHung, HaveNoTexts, IsKeyed, AreTrees, IsOneStore, HoldsRun}
use Rattle.joint_held.proofs.TreeLaws.{tree-one}
use Rattle.space_meaning.specs.Space.{SeenIn}
use Rattle.space_meaning.specs.Stands.{HasUnits, IsThing, IsHome, stored, SpaceStands}
use Rattle.space_meaning.proofs.SameHeaps.{stands-same}
use Rattle.space_meaning.proofs.KeptLaws.{seen-far, object-kept}
use Rattle.joint_begun.specs.Beginning.{IsCompact, BeginsOver, BeginsOverSame}
use Rattle.joint_begun.proofs.CompactLaws.{has-compact}
use Rattle.joint_begun.proofs.SeenLaws.{space-seen}
use Rattle.joint_begun.proofs.DirectoryLaws.{directory-begun}
use Rattle.joint_begun.proofs.ReachedLaws.{reached-pid}
use Rattle.joint_begun.proofs.RowLaws.{name-take, take-name, name-below, compiled-at, keyed-back, row-long, root-among}

no-object : (size x : ℕ) → IsHeld (fresh_heap size) x → ⊥
no-object size x held = let bad : None ≡ Some held.object = held.is in absurd (cc)

-- under each name one object is seen
fresh-one : (outside : Outside Space) (size : ℕ) → ((a b : Space) → outside.contents a → outside.contents b → a ≡ b) → IsOne (seen (fresh_heap size) outside)
fresh-one outside size one n a b (inl x) s = absurd (no-object size x.at x.held)
fresh-one outside size one n a b (inr v) (inl x) = absurd (no-object size x.at x.held)
fresh-one outside size one n a b (inr v) (inr w) =
    let names : Pid v.pid ≡ Pid w.pid = sym v.name_is ∙ w.name_is in
    let pids : v.pid ≡ w.pid = cc in
    let words = Holds-one outside w.pid v.words w.words one (subst (λ pid. Rattle.swizzle.specs.obj_layout.Stored.Holds outside pid v.words) pids v.there.there) w.there.there in
    v.shown_is ∙ (ap shown_words words ∙ sym w.shown_is)

-- What is a thing is like the compiled object, and its procedures have units.

like-of : (seen : Seen) (pair : Pairing) (it : Shown) (o : Object) → IsThing seen pair it o → IsLike seen pair it (compiled_object o)
like-of seen pair it (Structure class fields) t = t.0
like-of seen pair it (Elements ty low elements) t = t.0
like-of seen pair it (Scope text parent names) t = t.0
like-of seen pair it (Keyed table) t = t

pointers-units : {K : Type 0} (es : List (Entry K)) → AllByRecursion HasUnits (pointers es)
pointers-units [] = tt
pointers-units (e ∷ es) = (tt, pointers-units es)

units-of : (seen : Seen) (pair : Pairing) (it : Shown) (o : Object) → IsThing seen pair it o → AllByRecursion HasUnits (values_of o)
units-of seen pair it (Structure class fields) t = t.1
units-of seen pair it (Elements ty low elements) t = t.1
units-of seen pair it (Scope text parent names) t = t.1
units-of seen pair it (Keyed without_keys) t = tt
units-of seen pair it (Keyed (by_strings es)) t = pointers-units es
units-of seen pair it (Keyed (by_ints es)) t = pointers-units es

-- no tree has a changed node
none-hung : {K : Type 0} (size : ℕ) (t : Tree (Rattle.heap_meaning.specs.avl_trees.Standing.Item Reference K Reference)) → AreHung (fresh_heap size) t
none-hung size leaf = tt
none-hung size (node l a r) = ((λ c. absurd (no-object size c.at c.held)), none-hung size l, none-hung size r)

none-some : {A : Type 0} (a b : A) → Some a ≡ Some b → a ≡ b
none-some a b e = cc

module _ (outside : Outside Space) (store : IsOneStore outside) (space : Space) (is : outside.contents space) (heap : StoredHeap)
    (stands : SpaceStands (without_file space) heap) (compact : IsCompact heap) (size : ℕ) where
  one : (a b : Space) → outside.contents a → outside.contents b → a ≡ b
  one a b p q = store.one a b p q

  abbrev before : Seen
  before = SeenIn (without_file space)

  abbrev now : Seen
  now = seen (fresh_heap size) outside

  grows : (n : Reference) (it : Shown) → before n it → now n it
  grows = space-seen outside space is size

  fixed : Fixed before now
  fixed n it k s = grows n it s

  kinds : Kinds before now
  kinds n it s = record { it = it; there = grows n it s; kind_is = refl }

  -- The row has a name for each id.
  abbrev names : List Reference
  names = take (length heap.objects) stands.names

  long : length names ≡ length heap.objects
  long = length-take-le (length heap.objects) stands.names (enough (length heap.objects) (λ id low. compact id low))
    where
      enough : (k : ℕ) → ((id : ℕ) → id < k → IsInHeap heap id) → k ≤ length stands.names
      enough zero all = omega arith
      enough (suc k) all =
          let h = reached-pid (without_file space) stands.names heap stands.stands k (all k (omega arith)) in
          let low = name-below stands.names k (Pid h.pid) h.named in
          omega (arith, low)

  -- a paired name is a PID
  record Named (n : Reference) (id : ℕ) : Type 0 where
    pid : ℕ
    is_pid : n ≡ Pid pid
    before : paired stands.names (Pid pid) id
    reached : IsInHeap heap id

  named : (n : Reference) (id : ℕ) → paired names n id → Named n id
  named n id p =
      let t = take-name stands.names (length heap.objects) id n p in
      let there = compact id t.0 in
      let h = reached-pid (without_file space) stands.names heap stands.stands id there in
      record { pid = h.pid; is_pid = none-some n (Pid h.pid) (sym t.1 ∙ h.named); before = h.named; reached = there }

  on-row : (pid id : ℕ) → paired stands.names (Pid pid) id → paired names (Pid pid) id
  on-row pid id p =
      let b = stands.stands.both pid id p in
      name-take stands.names (length heap.objects) id (there-object heap.objects id b.object b.means) ∙ p

  stored-row : (n : Reference) (id : ℕ) → stored stands.names n id → paired names n id
  stored-row n id s = subst (λ (m : Reference). paired names m id) (sym s.2) (on-row s.1 id (subst (λ (m : Reference). paired stands.names m id) s.2 s.0))

  row-stored : (n : Reference) (id : ℕ) → paired names n id → stored stands.names n id
  row-stored n id p = let k = named n id p in (subst (λ (m : Reference). paired stands.names m id) (sym k.is_pid) k.before, k.pid, k.is_pid)

  -- the object of a name is like that of its id, compiled
  thing-like : (pid id : ℕ) (it : Shown) (o : Object) → before (Pid pid) it → IsThing before (paired stands.names) it o → IsLike now (paired names) it (compiled_object o)
  thing-like pid id it o s t =
      let nil : (jt : Shown) → before Nil jt → ⊥ = λ jt j. let bad : Nil ≡ Pid j.pid = j.name_is in absurd (cc) in
      let mine = object-kept before (without_file space) nil (λ q jt j other. j) (paired stands.names) (paired names) on-row it o (seen-far (without_file space) (Pid pid) it s)
      (units-of before (paired stands.names) it o t) (like-of before (paired stands.names) it o t) in
      like-more before now (paired names) (paired names) it (compiled_object o) fixed kinds (λ n i p. p) (like-of before (paired names) it o mine)

  table-at : (n : Reference) (id : ℕ) (table : Table) → paired names n id → object_at (compiled_heap heap.objects) id ≡ Some (Keyed table)
      → IsTable now (paired names) n table (stands.stands.tables.nodes id)
  table-at n id table p e =
      table-more before now (stored stands.names) (paired names) n table (stands.stands.tables.nodes id) fixed kinds stored-row (λ it k s. grows n it s) (λ m it a k s. grows m it s)
      (stands.stands.tables.each n id table (row-stored n id p) (keyed-back heap.objects id table e))

  stands-row : StandsRow now (compiled_heap heap.objects) names
  stands-row = record {
    stands = record {
      both = λ n id p.
          let k = named n id p in
          let b = stands.stands.both k.pid id k.before in
          record {
            it = b.it;
            object = compiled_object b.object;
            there = grows n b.it (subst (λ (m : Reference). before m b.it) (sym k.is_pid) b.there);
            means = compiled-at heap.objects id b.object b.means;
            like = thing-like k.pid id b.it b.object b.there b.like;
          };
      one_number = λ n i j p q.
          let k = named n i p in
          stands.stands.one_number k.pid i j k.before (subst (λ (m : Reference). paired stands.names m j) k.is_pid (row-stored n j q).0);
      one_name = λ n m id p q. none-some n m (sym p ∙ q);
      tables = record {
        nodes = stands.stands.tables.nodes;
        each = table-at;
        are_nodes = λ id n a. kind-more before now n kind.Node kinds (stands.stands.tables.are_nodes id n a);
        apart = stands.stands.tables.apart;
      };
    };
    long = long ∙ sym (length-map heap.objects compiled_object);
  }

  -- a node of a table with int keys names no key text
  plain-now : (n : Reference) (id : ℕ) (entries : List (Entry ℤ)) (it : Shown) (t : Tree (I int_keys)) → paired names n id
      → object_at (compiled_heap heap.objects) id ≡ Some (Keyed (by_ints entries)) → now n it → link_of (slot_of it 0) ≡ root_of t → TreeStands (HasNode int_keys now) t
      → HaveNoTexts int_keys now (names_of (items t))
  plain-now n id entries it t p e there root tree m jt among s =
      let own_name = named n id p in
      let own = table-at n id (by_ints entries) p e in
      let same : own.it ≡ it = fresh-one outside size one n own.it it own.there there in
      let slot : slot_of it 0 ≡ own.root = ap (λ (x : Shown). slot_of x 0) (sym same) ∙ ap (λ (rs : List Reference). Rattle.std.specs.Prelude.get_or rs 0 Nil) own.refs in
      let roots : root_of own.has.tree ≡ root_of t = sym own.has.root_is ∙ (ap link_of (sym slot) ∙ root) in
      let trees = tree-one int_keys now own.has.tree t (fresh-one outside size one) roots own.has.stands tree in
      let nodes : names_of (items t) ≡ stands.stands.tables.nodes id = ap (λ (u : Tree (I int_keys)). names_of (items u)) (sym trees) ∙ sym own.has.nodes_are in
      let listed = subst (IsAmong m) nodes among in
      let k = stands.stands.tables.are_nodes id m listed in
      let shown : k.it ≡ jt = fresh-one outside size one m k.it jt (grows m k.it k.there) s in
      ap (λ (x : Shown). slot_of x 2) (sym shown) ∙ stands.stands.plain own_name.pid id entries own_name.before (keyed-back heap.objects id (by_ints entries) e) m k.it listed k.there

  trees-hold : AreTrees (fresh_heap size) now (compiled_heap heap.objects) names
  trees-hold n id table it ks t p e keyed there root tree = record {
    hung = none-hung size t;
    plain = plain-by ks table t e keyed root tree;
    top = λ c. absurd (no-object size c.at c.held);
    stored = λ pid a. let k = named n id p in (k.pid, k.is_pid);
  }
    where
      plain-by : (ls : Keys) (of : Table) (u : Tree (I ls)) → object_at (compiled_heap heap.objects) id ≡ Some (Keyed of) → IsKeyed ls of → link_of (slot_of it 0) ≡ root_of u
          → TreeStands (HasNode ls now) u → HaveNoTexts ls now (names_of (items u))
      plain-by text_keys of u means k r s = tt
      plain-by int_keys without_keys u means k r s = absurd k
      plain-by int_keys (by_strings entries) u means k r s = absurd k
      plain-by int_keys (by_ints entries) u means k r s = plain-now n id entries it u p means there r s

  -- the directory of the space is that of the heap, beside the vault
  directory-now : IsDirectoryUnder now (paired names) space.directory heap.directory
  directory-now =
      directory-begun (without_file space) now (paired stands.names) (paired names) grows on-row space.directory heap.objects heap.directory stands.fit.few stands.fit.databases
      stands.stands.directory

  all-there : (id : ℕ) → IsInHeap heap id → id < length heap.objects
  all-there id r = let at = stands.fit.each id r in there-object heap.objects id at.object at.is

  module _ (weigh : Routine → ℕ) (replies : List Reply) (counted : ℕ) where
    abbrev h : Held
    h = compiled_held (started weigh replies counted heap)

    home-is : (id : ℕ) → IsInHeap heap id → home_at h.homes id ≡ home_at heap.homes id
    home-is id r = home-kept heap all-there id r

    home-of : (n : Reference) (id : ℕ) → paired names n id → IsAtHome now n (home_at h.homes id)
    home-of n id p =
        let k = named n id p in
        let b = stands.stands.both k.pid id k.before in
        let at = stands.fit.each id k.reached in
        subst (λ (m : Reference). IsAtHome now m (home_at h.homes id)) (sym k.is_pid)
        (subst (IsAtHome now (Pid k.pid)) (sym (home-is id k.reached ∙ at.home_is))
        (b.it, grows (Pid k.pid) b.it b.there, subst (IsHome (word_in b.it 0)) at.home_is b.home))

    root-home : (number : ℕ) (d : Database) → database_at heap.directory number ≡ Some d → is_there (home_at h.homes d.root) ≡ true
    root-home number d e =
        let r = at_start d.root (root-among heap.directory number d e) tt in
        let at = stands.fit.each d.root r in
        ap (λ (o : Option ℕ). is_there o) (home-is d.root r ∙ at.home_is)

    holds : HoldsRun (fresh_heap size) outside names [] None h
    unfolding each_once
    holds = record {
      store = store;
      world = record { row = stands-row };
      homes = home-of;
      homed = let a = row-long (λ id. home_if (Rattle.reaching.specs.Reaching.is_in id (reached_from_roots heap)) (home_at heap.homes id)) 0 (length heap.objects) in
          let b = length-map heap.objects compiled_object in
          omega (arith, a, b);
      assigned = record { noted = λ id k. absurd k; placed = λ x id p n. absurd (no-object size x p.held); known = λ x n home. absurd n.listed };
      trees = trees-hold;
      current = record {
        told = record {
          content = space;
          is = is;
          cut = λ other k. subst IsCut (one space other is k) (record { objects = stands.objects; cut = stands.cut });
          there = λ x held low. absurd (no-object size x held);
          whole = λ x held. absurd (no-object size x held);
        };
        stored = λ x held low away of. absurd (no-object size x held);
        noted = λ x l. absurd l;
      };
      sources = record {
        numbers = refl;
        each = λ place lt. absurd (omega (arith, lt));
        made = λ number l. absurd l;
        roots = λ place at lt r. absurd (omega (arith, lt));
        others = λ number d e away. root-home number d e;
      };
      asked = λ a. absurd (cc);
      unasked = λ a. record {
        openings = refl;
        created = refl;
        none = refl;
        named = λ other k. subst (λ (s : Space). IsDirectoryUnder now (paired names) s.directory heap.directory) (one space other is k) directory-now;
      };
    }

    pub begins-over : BeginsOver size outside weigh replies counted heap
    begins-over = record { names = names; holds = holds }

-- and so it begins over each heap for which the space stands, with other ids
pub begins-over_same : (outside : Outside Space) → IsOneStore outside → (space : Space) → outside.contents space → (heap : StoredHeap)
    → SpaceStands (without_file space) heap → (size : ℕ) (weigh : Routine → ℕ) (replies : List Reply) (counted : ℕ)
    → BeginsOverSame size outside weigh replies counted (without_file space) heap
begins-over_same outside store space is heap stands size weigh replies counted =
    let c = has-compact heap stands.fit in
    let then = stands-same (without_file space) heap c.compact c.same stands in
    record { compact = c.compact; same = c.same; stands = then; begins = begins-over outside store space is c.compact then c.all size weigh replies counted }
