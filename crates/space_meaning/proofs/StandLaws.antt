-- A space that keeps what is seen of area and vault stands for the heap that they stand for.
use Rattle.std.proofs.Common.{◌≡◌, ℕ, zero, suc, List, [], ◌∷◌, refl, sym, ap, ◌∙◌, subst, Option, Some, None}
use Rattle.std.specs.List.{AllByRecursion}
use Rattle.heap_meaning.specs.obj_layout.declared.reference.Reference.{Reference}
use Rattle.heap_meaning.specs.obj_layout.declared.reference.Reference.TheVariants.{Nil, Pid, Local}
use Rattle.heap_meaning.specs.obj_layout.Objects.{Placed, HoldsObjects}
use Rattle.heap_meaning.specs.obj_layout.Stored.{Space}
use Rattle.heap_meaning.specs.swizzle.Joint.{Shown}
use Rattle.heap_meaning.specs.heap_places.Shapes.{slot_of, word_in}
use Rattle.heap_meaning.specs.node_rows.Nodes.{IsAmong}
use Rattle.heap_meaning.specs.Standing.{Seen, IsLike}
use Rattle.heap_meaning.specs.Tables.{IsTable}
use Rattle.heap_meaning.specs.Paired.{name_in, paired, StandsRow}
use Rattle.heap_meaning.proofs.TableLaws.{no-node}
use Rattle.heap_fit.specs.ps_heap.Objects.{Heap, Object, Structure, Elements, Scope, Keyed, object_at}
use Rattle.heap_fit.specs.ps_heap.References.{values_of}
use Rattle.heap_fit.specs.ps_heap.Tables.{Table, by_ints}
use Rattle.heap_fit.specs.ps_heap.Held.{StoredHeap, home_at}
use Rattle.heap_fit.specs.Heaps.{IsFitHeap}
use Rattle.ps_code_laws.specs.Compiled.{compiled_object, compiled_heap}
use Rattle.space_meaning.specs.Space.{SeenIn}
use Rattle.space_meaning.specs.Stands.{HasUnits, IsHome, Both, IsDirectoryOf, stored, StandsUnder, SpaceStands}
use Rattle.space_meaning.specs.Keeping.{HaveUnits, IsKept}
use Rattle.space_meaning.proofs.Seen.{seen-one}
use Rattle.space_meaning.proofs.KeptLaws.{object-kept, table-kept, seen-far}

-- An object of the machine's heap is one of the meaning's, compiled.
record Source (heap : Heap) (id : ℕ) (made : Object) : Type 0 where
  object : Object
  is : object_at heap id ≡ Some object
  made_is : made ≡ compiled_object object
  units : AllByRecursion HasUnits (values_of object)

source-of : (heap : Heap) (id : ℕ) (made : Object) → HaveUnits heap → object_at (compiled_heap heap) id ≡ Some made → Source heap id made
source-of [] id made u e = absurd (cc)
source-of (o ∷ os) zero made u e = record { object = o; is = refl; made_is = cc; units = u.0 }
source-of (o ∷ os) (suc id) made u e =
    let s = source-of os id made u.1 e in record { object = s.object; is = s.is; made_is = s.made_is; units = s.units }

compiled-at : (heap : Heap) (id : ℕ) (table : Table) → object_at heap id ≡ Some (Keyed table) → object_at (compiled_heap heap) id ≡ Some (Keyed table)
compiled-at [] id table e = absurd (cc)
compiled-at (o ∷ os) zero table e = let same : o ≡ Keyed table = cc in ap (λ (p : Object). Some (compiled_object p)) same
compiled-at (o ∷ os) (suc id) table e = compiled-at os id table e

-- the nodes of the tables that have PIDs
abbrev stored_nodes : Option Reference → Option Object → List Reference → List Reference
stored_nodes (Some (Pid pid)) (Some (Keyed table)) nodes = nodes
stored_nodes _ _ nodes = []

record Of (named : Option Reference) (object : Option Object) (nodes : List Reference) (n : Reference) : Type 0 where
  pid : ℕ
  is : named ≡ Some (Pid pid)
  table : Table
  table_is : object ≡ Some (Keyed table)
  among : IsAmong n nodes

stored-of : (named : Option Reference) (object : Option Object) (nodes : List Reference) (n : Reference) → IsAmong n (stored_nodes named object nodes) → Of named object nodes n
stored-of (Some (Pid pid)) (Some (Keyed table)) nodes n a = record { pid = pid; is = refl; table = table; table_is = refl; among = a }
stored-of (Some (Pid pid)) (Some (Structure class fields)) nodes n a = absurd a
stored-of (Some (Pid pid)) (Some (Elements ty low elements)) nodes n a = absurd a
stored-of (Some (Pid pid)) (Some (Scope text parent values)) nodes n a = absurd a
stored-of (Some (Pid pid)) None nodes n a = absurd a
stored-of (Some Nil) object nodes n a = absurd a
stored-of (Some (Local at)) object nodes n a = absurd a
stored-of None object nodes n a = absurd a

of-stored : (named : Option Reference) (object : Option Object) (nodes : List Reference) (pid : ℕ) (table : Table) → named ≡ Some (Pid pid) → object ≡ Some (Keyed table)
    → stored_nodes named object nodes ≡ nodes
of-stored named object nodes pid table e f =
    ap (λ (m : Option Reference). stored_nodes m object nodes) e ∙ ap (λ (o : Option Object). stored_nodes (Some (Pid pid)) o nodes) f

module _ (seen : Seen) (space : Space) (heap : StoredHeap) (names : List Reference)
    (row : StandsRow seen (compiled_heap heap.objects) names)
    (units : HaveUnits heap.objects)
    (kept : IsKept seen space (compiled_heap heap.objects) names row.stands.tables.nodes)
    (homes : (pid id : ℕ) → paired names (Pid pid) id → (it : Shown) → SeenIn space (Pid pid) it → IsHome (word_in it 0) (home_at heap.homes id))
    (directory : IsDirectoryOf (SeenIn space) (paired names) space.directory heap.directory) where
  -- what has a PID is kept
  both-kept : (pid id : ℕ) → paired names (Pid pid) id → Both (SeenIn space) heap (paired names) (Pid pid) id
  both-kept pid id p =
      let b = row.stands.both (Pid pid) id p in
      let o = source-of heap.objects id b.object units b.means in
      let there = kept.things pid b.it b.there (no-node seen (paired names) b.it b.object b.like) in
      record {
        it = b.it;
        object = o.object;
        there = there;
        means = o.is;
        like = object-kept seen space kept.nil kept.things (paired names) (paired names) (λ q i r. r) b.it o.object (seen-far space (Pid pid) b.it there) o.units
            (subst (IsLike seen (paired names) b.it) o.made_is b.like);
        home = homes pid id p b.it there;
      }

  abbrev nodes : ℕ → List Reference
  nodes id = stored_nodes (name_in names id) (object_at (compiled_heap heap.objects) id) (row.stands.tables.nodes id)

  table-at : (pid id : ℕ) (table : Table) → paired names (Pid pid) id → object_at heap.objects id ≡ Some (Keyed table) → IsTable (SeenIn space) (stored names) (Pid pid) table (nodes id)
  table-at pid id table p e =
      let tables = row.stands.tables in
      let made = compiled-at heap.objects id table e in
      subst (IsTable (SeenIn space) (stored names) (Pid pid) table) (sym (of-stored (name_in names id) (object_at (compiled_heap heap.objects) id) (tables.nodes id) pid table p made))
      (table-kept seen space kept.nil kept.things (paired names) (stored names) (λ q i r. (r, q, refl)) (tables.nodes id) (kept.in_tables pid id table p made) (Pid pid) table tt
      (tables.each (Pid pid) id table p made))

  pub stands-under : StandsUnder space heap names
  stands-under = record {
    directory = directory;
    both = both-kept;
    one_number = λ pid i j p q. row.stands.one_number (Pid pid) i j p q;
    tables = record {
      nodes = nodes;
      each = λ n id table p e.
          subst (λ (m : Reference). IsTable (SeenIn space) (stored names) m table (nodes id)) (sym p.2)
          (table-at p.1 id table (subst (λ (m : Reference). paired names m id) p.2 p.0) e);
      are_nodes = λ id n a.
          let o = stored-of (name_in names id) (object_at (compiled_heap heap.objects) id) (row.stands.tables.nodes id) n a in
          let k = row.stands.tables.are_nodes id n o.among in
          record { it = k.it; there = kept.in_tables o.pid id o.table o.is o.table_is n o.among k.it k.there; kind_is = k.kind_is };
      apart = λ i j n a b.
          let x = stored-of (name_in names i) (object_at (compiled_heap heap.objects) i) (row.stands.tables.nodes i) n a in
          let y = stored-of (name_in names j) (object_at (compiled_heap heap.objects) j) (row.stands.tables.nodes j) n b in
          row.stands.tables.apart i j n x.among y.among;
    };
    plain = λ pid id entries p e n it a there.
        let o = stored-of (name_in names id) (object_at (compiled_heap heap.objects) id) (row.stands.tables.nodes id) n a in
        let made = compiled-at heap.objects id (by_ints entries) e in
        let k = row.stands.tables.are_nodes id n o.among in
        let same = seen-one space n it k.it there (kept.in_tables pid id (by_ints entries) p made n o.among k.it k.there) in
        ap (λ (x : Shown). slot_of x 2) same ∙ kept.plain pid id entries p made n k.it o.among k.there;
  }

  pub space-stands : (objects : List Placed) → HoldsObjects space.words objects → IsFitHeap heap → SpaceStands space heap
  space-stands objects cut fit = record { fit = fit; objects = objects; cut = cut; names = names; stands = stands-under }
