-- What the operand of a call on a table is, by the value that it denotes.
use Rattle.std.proofs.Common.{suc, ◌≡◌, ◌≢◌, ◌⊎◌, ℕ, List, [], ◌∷◌, length, get_or, slice_index, Option, Some, None, Result, Err, refl, sym, ap, ◌∙◌, subst, inl, inr}
use Rattle.ps_base.specs.declared.trap.Trap.{Trap}
use Rattle.ps_base.specs.declared.trap.Trap.TheVariants as trap
use Rattle.joint_ops.specs.ps_outside.Outside.{Outside}
use Rattle.joint_ops.specs.obj_layout.Stored.{Space}
use Rattle.joint_ops.specs.obj_layout.declared.kind.Kind.{Kind}
use Rattle.joint_ops.specs.obj_layout.declared.kind.Kind.TheVariants as kind
use Rattle.joint_ops.specs.obj_layout.declared.reference.Reference.{Reference}
use Rattle.joint_ops.specs.obj_layout.declared.reference.Reference.TheVariants as name
use Rattle.joint_ops.specs.swizzle.Heap as area
use Rattle.joint_ops.specs.swizzle.Heap.{IsHeap, IsHeld, header_at, num_at, ref_at}
use Rattle.joint_ops.specs.swizzle.Joint.{Shown, name_at, name_of, shown_at}
use Rattle.joint_ops.specs.ps_heap.Values.{Value, Num, Flag, Text, Nil, Pointer, Vector, Procedure, Nothing}
use Rattle.joint_ops.specs.ps_heap.Texts.{Attempt, Yields, Fails}
use Rattle.joint_ops.specs.ps_heap.Calls.{then_try}
use Rattle.joint_ops.specs.heap_texts.declared.fault.OpFault.{OpFault}
use Rattle.joint_ops.specs.heap_texts.declared.fault.OpFault.TheVariants as op
use Rattle.table_lib.specs.Operations.{Uses}
use Rattle.joint_ops.specs.ps_heap.Tables.{Entry, Table, without_keys, by_strings, by_ints, cardinality}
use Rattle.joint_ops.specs.ps_heap.Objects.{Heap, Object, Structure, Elements, Scope, Keyed, table_in, table_of}
use Rattle.joint_ops.specs.ps_heap.Objects as meaning
use Rattle.joint_ops.specs.World.{IsWorld, DenotesIn, seen}
use Rattle.joint_ops.specs.heap_meaning.Paired.{paired}
use Rattle.joint_ops.specs.heap_meaning.Standing.{IsLike, Pairing, Seen}
use Rattle.joint_ops.specs.heap_meaning.Tables as standing
use Rattle.joint_ops.specs.heap_meaning.Tables.{ArePairs, HasEntries, names_of}
use Rattle.joint_ops.proofs.SeenLaws.{none-nil, some-not_nil, seen-is, text-denoted, pointer-denoted, vector-denoted, procedure-kind, both-at}
use Rattle.joint_ops.proofs.of_swizzle.NameLaws.{shown-counts}
use Rattle.joint_ops.proofs.of_heap_places.PlaceLaws.{slot-name}
use Rattle.table_lib.specs.Tables.{IsTable, IsTableAt, IsUnused, key_number}
use Rattle.table_lib.proofs.RootLaws.{nil_named}
use Rattle.table_lib.specs.table_nodes.avl_trees.Trees.{Tree, items}
use Rattle.table_lib.specs.table_nodes.avl_trees.Standing.{Item}
use Rattle.table_lib.specs.table_nodes.node_rows.Keys as keys
use Rattle.table_lib.specs.table_nodes.node_rows.Keys.{Keys, KeyOf}
use Rattle.table_lib.specs.table_nodes.node_rows.Nodes.{I, link_of}
use Rattle.table_lib.specs.table_nodes.Nodes as nodes
use Rattle.table_lib.specs.table_nodes.Steps.{place}
use Rattle.joint_tables.proofs.SeenLaws.{seen-nodes, tree-within}

-- a table with entries of this kind
abbrev pub keyed : (ks : Keys) → List (Entry (KeyOf ks)) → Table
keyed keys.by_texts entries = by_strings entries
keyed keys.by_ints entries = by_ints entries

-- A table of the heap stands in the area and the vault: its tree, whose pairs are its entries, and its nodes.
pub record HasTree (ks : Keys) (here : area.Heap) (outside : Outside Space) (names : List Reference) (at : ℕ) (entries : List (Entry (KeyOf ks)))
    (mine : List Reference) : Type 0 where
  pub tree : Tree (I ks)
  pub table : IsTable ks (place here outside) at tree
  pub pairs : ArePairs (seen here outside) (paired names) (items tree) entries
  pub nodes_are : mine ≡ names_of (items tree)

-- what stands for a table
abbrev pub IsTreeOf : area.Heap → Outside Space → List Reference → ℕ → Table → List Reference → Type 0
IsTreeOf here outside names at without_keys mine = IsUnused here at × (mine ≡ [])
IsTreeOf here outside names at (by_strings entries) mine = HasTree keys.by_texts here outside names at entries mine
IsTreeOf here outside names at (by_ints entries) mine = HasTree keys.by_ints here outside names at entries mine

pub long-pairs : {K : Type 0} (a : Seen) (pair : Pairing) (is : List (Item Reference K Reference)) (es : List (Entry K)) → ArePairs a pair is es
    → length is ≡ length es
long-pairs a pair [] [] p = refl
long-pairs a pair (x ∷ is) (e ∷ es) p = ap suc (long-pairs a pair is es p.2)
long-pairs a pair [] (e ∷ es) p = absurd p
long-pairs a pair (x ∷ is) [] p = absurd p

module _ (here : area.Heap) (outside : Outside Space) (of : Heap) (names : List Reference) (h : IsHeap here) (w : IsWorld here outside of names) where
  -- The nodes of the table of a number.
  abbrev pub mine : ℕ → List Reference
  mine id = w.row.stands.tables.nodes id

  -- What an object of the area that denotes a table shows.
  record ShowsTable (at : ℕ) (table : Table) (names_are : List Reference) : Type 0 where
    pub root : Reference
    pub home : ℕ
    pub refs : (shown_at here at).refs ≡ root ∷ []
    pub nums : (shown_at here at).nums ≡ home ∷ standing.key_kind table ∷ cardinality table ∷ []
    pub kind_is : (header_at here at).kind ≡ kind.Table
    pub has : standing.HasNodes (seen here outside) (paired names) root table names_are

  shows-table : (at id : ℕ) (table : Table) → IsHeld here at → paired names (name_at here at) id → meaning.object_at of id ≡ Some (Keyed table)
      → ShowsTable at table (mine id)
  shows-table at id table held p is =
      let t = w.row.stands.tables.each (name_at here at) id table p is in
      let same = seen-is here outside at (name_at here at) t.it h held refl t.there in
      record {
        root = t.root;
        home = t.home;
        refs = sym (ap (λ (x : Shown). x.refs) same) ∙ t.refs;
        nums = sym (ap (λ (x : Shown). x.nums) same) ∙ t.nums;
        kind_is = sym (ap (λ (x : Shown). x.kind) same) ∙ t.kind_is;
        has = t.has;
      }

  shape : (at : ℕ) (table : Table) (ns : List Reference) → IsHeld here at → ShowsTable at table ns → IsTableAt here at
  shape at table ns held s =
      let counts = shown-counts here at h held in
      record {
        held = held;
        kind = s.kind_is;
        refs = sym counts.0 ∙ ap (λ (rs : List Reference). length rs) s.refs;
        nums = sym counts.1 ∙ ap (λ (ws : List ℕ). length ws) s.nums;
      }

  root-is : (at : ℕ) (table : Table) (ns : List Reference) (s : ShowsTable at table ns) → name_of here (ref_at here at 0) ≡ s.root
  root-is at table ns s = sym (slot-name here at 0) ∙ ap (λ (rs : List Reference). get_or rs 0 name.Nil) s.refs

  entries-tree : (ks : Keys) (at : ℕ) (table : Table) (entries : List (Entry (KeyOf ks))) (ns : List Reference) → IsHeld here at
      → (s : ShowsTable at table ns) → standing.key_kind table ≡ key_number ks
      → cardinality table ≡ length entries → HasEntries ks (seen here outside) (paired names) s.root entries ns
      → HasTree ks here outside names at entries ns
  entries-tree ks at table entries ns held s kind_is count e = record {
    tree = e.tree;
    table = record {
      keys = record { shape = shape at table ns held s; kind = ap (λ (ws : List ℕ). slice_index ws 1) s.nums ∙ kind_is };
      count =
          ap (λ (ws : List ℕ). slice_index ws 2) s.nums ∙
          (count ∙ sym (long-pairs (seen here outside) (paired names) (items e.tree) entries e.pairs));
      root = ap link_of (root-is at table ns s) ∙ e.root_is;
      stands = tree-within ks (seen here outside) (nodes.seen here outside) e.tree (seen-nodes here outside) e.stands;
      rising = e.rising;
      balanced = e.balanced;
      values = e.values;
    };
    pairs = e.pairs;
    nodes_are = e.nodes_are;
  }

  pub tree-of : (at id : ℕ) (table : Table) → IsHeld here at → paired names (name_at here at) id → meaning.object_at of id ≡ Some (Keyed table)
      → IsTreeOf here outside names at table (mine id)
  unfolding cardinality
  tree-of at id without_keys held p is =
      let s = shows-table at id without_keys held p is in (
        record {
          shape = shape at without_keys (mine id) held s;
          kind = ap (λ (ws : List ℕ). slice_index ws 1) s.nums;
          count = ap (λ (ws : List ℕ). slice_index ws 2) s.nums;
          root = nil_named here (ref_at here at 0) (root-is at without_keys (mine id) s ∙ s.has.0);
        },
        s.has.1,
      )
  tree-of at id (by_strings entries) held p is =
      let s =
      shows-table at id (by_strings entries) held p is in entries-tree keys.by_texts at (by_strings entries) entries (mine id) held s refl refl s.has
  tree-of at id (by_ints entries) held p is =
      let s = shows-table at id (by_ints entries) held p is in entries-tree keys.by_ints at (by_ints entries) entries (mine id) held s refl refl s.has

  -- a table, by its operand
  pub record TableOf (at : ℕ) (v : Value) : Type 0 where
    pub id : ℕ
    pub table : Table
    pub v_is : v ≡ Pointer id
    pub means : meaning.object_at of id ≡ Some (Keyed table)
    pub held : IsHeld here at
    pub pair : paired names (name_at here at) id
    pub yields : table_of of v ≡ Yields table
    pub is : IsTreeOf here outside names at table (mine id)

  -- Nil is no table, and no other object is one; or it is a table.
  pub data Operand (operand : Option ℕ) (v : Value) : Type 0 where
    no_table : operand ≡ None → table_of of v ≡ Fails trap.Nil → Operand operand v
    other_object : (at : ℕ) → operand ≡ Some at → (header_at here at).kind ≢ kind.Table → table_of of v ≡ Fails trap.WrongClass → Operand operand v
    a_table : (at : ℕ) → operand ≡ Some at → TableOf at v → Operand operand v

  not-table : (at : ℕ) (v : Value) (k : Kind) → (header_at here at).kind ≡ k → k ≢ kind.Table → table_of of v ≡ Fails trap.WrongClass
      → Operand (Some at) v
  not-table at v k e ne f = other_object at refl (λ t. ne (sym e ∙ t)) f

  pointed : (at id : ℕ) → IsHeld here at → paired names (name_at here at) id → (o : Object) → meaning.object_at of id ≡ Some o
      → IsLike (seen here outside) (paired names) (shown_at here at) o → Operand (Some at) (Pointer id)
  unfolding table_of
  pointed at id held p (Structure class fields) means like = not-table at (Pointer id) kind.Structure like.kind_is (λ e. cc) (ap table_in means)
  pointed at id held p (Elements ty low elements) means like = not-table at (Pointer id) kind.Vector like.rows.kind_is (λ e. cc) (ap table_in means)
  pointed at id held p (Scope text parent values) means like = not-table at (Pointer id) kind.Scope like.kind_is (λ e. cc) (ap table_in means)
  pointed at id held p (Keyed table) means like =
      a_table at refl (record { id = id; table = table; v_is = refl; means = means; held = held; pair = p; yields = ap table_in means; is = tree-of at id table held p means })

  some-operand : (at : ℕ) (v : Value) → DenotesIn here outside names (Some at) v → Operand (Some at) v
  unfolding table_of
  some-operand at Nil d = absurd (some-not_nil here outside names at d)
  some-operand at (Pointer id) d =
      let p = pointer-denoted here outside names at id h d in
      let b = both-at here outside of names at id h w p.held p.pair in
      pointed at id p.held p.pair (b.0) (b.1) (b.2)
  some-operand at (Text bytes) d = not-table at (Text bytes) kind.Text (text-denoted here outside names at bytes h d).kind (λ e. cc) refl
  some-operand at (Vector id) d = not-table at (Vector id) kind.Vector (vector-denoted here outside names at id h d).kind (λ e. cc) refl
  some-operand at (Procedure does scope) d =
      not-table at (Procedure does scope) kind.Closure (procedure-kind here outside names at does scope h d) (λ e. cc) refl
  some-operand at (Num z) d = absurd (d.stands)
  some-operand at (Flag b) d = absurd (d.stands)
  some-operand at Nothing d = absurd (d.stands)

  pub operand-is : (operand : Option ℕ) (v : Value) → DenotesIn here outside names operand v → Operand operand v
  unfolding table_of
  operand-is None v d = no_table refl (ap (table_of of) (none-nil here outside names v d))
  operand-is (Some at) v d = some-operand at v d

  -- What an operation answers, from what it answers of each operand.
  pub through : {T A : Type 0} (ks : Keys) (unused : Result T OpFault → Type 0) (used : ℕ → Tree (I ks) → Result T OpFault → Type 0)
      (operand : Option ℕ) (v : Value) (step : Table → Attempt A)
      (so : Attempt A → Result T OpFault → Type 0) (result : Result T OpFault) → Uses ks
      (place here outside) operand unused used result → DenotesIn here outside names operand v
      → ((t : Trap) → result ≡ Err (op.Trap t) → so (Fails t) (Err (op.Trap t)))
      → ((at : ℕ) (t : TableOf at v) → operand ≡ Some at → t.table ≡ without_keys → IsUnused here at → mine t.id ≡ [] → unused result → so (step without_keys) result)
      → ((at : ℕ) (t : TableOf at v) (entries : List (Entry (KeyOf ks))) (x : HasTree ks here outside names at entries (mine t.id)) → operand ≡ Some at → t.table ≡ keyed ks entries → used at x.tree result
      → so (step (keyed ks entries)) result)
      → ((other : Keys) (entries : List (Entry (KeyOf other))) → other ≢ ks → step (keyed other entries) ≡ Fails trap.KeyKind)
      → so (then_try (table_of of v) step) result
  through ks unused used operand v step so result u d traps on_unused on_used on_other = go (operand-is operand v d)
    where
      trapped : (t : Trap) (attempt : Attempt _) → attempt ≡ Fails t → result ≡ Err (op.Trap t) → so attempt result
      trapped t attempt e f =
          subst (λ (r : Result _ OpFault). so attempt r) (sym f) (subst (λ (a : Attempt _). so a (Err (op.Trap t))) (sym e) (traps t f))

      kinds : (a b : Keys) → (a ≡ b) ⊎ (a ≢ b)
      kinds keys.by_ints keys.by_ints = inl refl
      kinds keys.by_ints keys.by_texts = inr (λ e. cc)
      kinds keys.by_texts keys.by_ints = inr (λ e. cc)
      kinds keys.by_texts keys.by_texts = inl refl

      of_kind : (other : Keys) (at : ℕ) (t : TableOf at v) (entries : List (Entry (KeyOf other))) → operand ≡ Some at → t.table ≡ keyed other entries
          → HasTree other here outside names at entries (mine t.id)
          → so (step (keyed other entries)) result
      of_kind other at t entries e f x = elim (kinds other ks) [
        | inl same ↦ same_kind other same entries f x
        | inr differ ↦ trapped trap.KeyKind (step (keyed other entries)) (on_other other entries differ) (u.other at other x.tree differ e x.table)
      ]
        where
          same_kind : (k : Keys) → k ≡ ks → (es : List (Entry (KeyOf k))) → t.table ≡ keyed k es → HasTree k here outside names at es (mine t.id)
              → so (step (keyed k es)) result
          same_kind k same es f x =
              subst (λ (j : Keys). (es : List (Entry (KeyOf j))) → t.table ≡ keyed j es → HasTree j here outside names at es (mine t.id) → so
              (step (keyed j es)) result) (sym same)
              (λ es f x. on_used at t es x e f (u.used_is at x.tree e x.table)) es f x

      table_case : (at : ℕ) (t : TableOf at v) → operand ≡ Some at → (table : Table) → t.table ≡ table
          → IsTreeOf here outside names at table (mine t.id) → so (step table) result
      table_case at t e without_keys f x = on_unused at t e f x.0 x.1 (u.unused_is at e x.0)
      table_case at t e (by_strings entries) f x = of_kind keys.by_texts at t entries e f x
      table_case at t e (by_ints entries) f x = of_kind keys.by_ints at t entries e f x

      go : Operand operand v → so (then_try (table_of of v) step) result
      go (no_table e f) = trapped trap.Nil (then_try (table_of of v) step) (ap (λ (a : Attempt Table). then_try a step) f) (u.nil e)
      go (other_object at e ne f) =
          trapped trap.WrongClass (then_try (table_of of v) step) (ap (λ (a : Attempt Table). then_try a step) f) (u.class at e ne)
      go (a_table at e t) = subst (λ (a : Attempt Table). so (then_try a step) result) (sym t.yields) (table_case at t e t.table refl t.is)
