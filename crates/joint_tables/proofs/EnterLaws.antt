-- What entering a key into a table does, where area and vault stand for a heap.
use Rattle.std.proofs.Common.{◌≡◌, ◌≢◌, ◌⊎◌, ℕ, ◌^◌, ◌<◌, List, [], ◌∷◌, length, get_or, slice_index, Option, Some, None, Result, Ok, Err, OnOk, OnErr, MatchResult, refl, sym, ap, ◌∙◌, subst, arith, inl, inr}
use Rattle.std.proofs.Math.ListN.{length-set}
use Rattle.ps_base.specs.declared.trap.Trap.{Trap}
use Rattle.ps_base.specs.declared.trap.Trap.TheVariants as trap
use Rattle.joint_ops.specs.ps_outside.Outside.{Outside}
use Rattle.joint_ops.specs.obj_layout.Stored.{Space, Holds}
use Rattle.joint_ops.proofs.of_heap_meaning.of_obj_layout.StoredLaws.{Holds-one}
use Rattle.joint_ops.specs.obj_layout.declared.kind.Kind.TheVariants as kind
use Rattle.joint_ops.specs.obj_layout.declared.reference.Reference.{Reference}
use Rattle.joint_ops.specs.obj_layout.declared.reference.Reference.TheVariants as name
use Rattle.joint_ops.specs.swizzle.declared.fault.SwizzleFault.{SwizzleFault}
use Rattle.joint_ops.specs.swizzle.declared.fault.SwizzleFault.TheVariants.{AreaFull, Vault}
use Rattle.joint_ops.specs.swizzle.Heap as area
use Rattle.joint_ops.specs.swizzle.Heap.{IsHeap, IsHeld, IsListed, header_at, num_at, ref_at}
use Rattle.joint_ops.specs.swizzle.Joint.{Shown, name_at, name_of, shown_at}
use Rattle.joint_ops.specs.swizzle.Reading.{joint}
use Rattle.joint_ops.proofs.of_heap_places.PlaceLaws.{slot-name}
use Rattle.joint_ops.proofs.of_swizzle.NameLaws.{shown-counts}
use Rattle.joint_ops.specs.heap_texts.declared.fault.OpFault.{OpFault}
use Rattle.joint_ops.specs.heap_texts.declared.fault.OpFault.TheVariants as op
use Rattle.joint_ops.specs.ps_heap.Values.{Value, Num, Flag, Text, Nil, Pointer, Vector, Procedure, Nothing}
use Rattle.joint_ops.specs.ps_heap.Texts.{Attempt, Yields, Fails}
use Rattle.joint_ops.specs.ps_heap.Tables as Tables
use Rattle.joint_ops.specs.ps_heap.Tables.{Entry, Table, by_ints, by_strings, cardinality, entered, on_yield, with_under, without_keys}
use Rattle.joint_ops.specs.ps_heap.Objects.{Heap, Keyed, id_of, object_at, with_object}
use Rattle.joint_ops.specs.World.{IsWorld, DenotesIn, BreaksAsReading, Carries, Carried, Stands, seen}
use Rattle.joint_ops.proofs.GainLaws.{gains-stands}
use Rattle.joint_ops.specs.proc_values.Loaded.{CodeStays}
use Rattle.joint_ops.specs.heap_meaning.Paired.{paired}
use Rattle.joint_ops.specs.heap_meaning.Standing.{IsKindOf, Pairing, Seen, StandsFor}
use Rattle.joint_ops.specs.heap_meaning.Tables as standing
use Rattle.joint_ops.specs.heap_meaning.Tables.{ArePairs, names_of}
use Rattle.joint_ops.proofs.of_heap_meaning.StandingLaws.{Fixed, IsFixed, Kinds}
use Rattle.joint_ops.proofs.of_heap_meaning.TableLaws.{pairs-more}
use Rattle.joint_ops.proofs.of_heap_meaning.HeapLaws.{stands-entered}
use Rattle.joint_ops.proofs.SeenLaws.{Passes, carries-scope, carries-unit, carries-value, none-nil, seen-held, seen-is, seen-joint, seen-one, some-not_nil}
use Rattle.table_lib.specs.Entries.{Enters, EntersPair, HasNow, IsOpEnterFault, IsOpen, SparesBut, StaysUnused, TakesKey}
use Rattle.table_lib.specs.Operations.{IsOpFetchFault}
use Rattle.table_lib.specs.Tables.{IsTable, IsTableAt, key_number}
use Rattle.table_lib.specs.table_nodes.avl_trees.Rising.{enter, without}
use Rattle.table_lib.specs.table_nodes.avl_trees.Trees.{Tree, items}
use Rattle.table_lib.specs.table_nodes.avl_trees.Standing.{IsApart, fresh_item, put, seek}
use Rattle.table_lib.specs.table_nodes.node_rows.Keys as keys
use Rattle.table_lib.specs.table_nodes.node_rows.Keys.{Keys, KeyOf, order_by}
use Rattle.table_lib.specs.table_nodes.node_rows.Nodes.{I, IsAmong}
use Rattle.table_lib.specs.table_nodes.Nodes as nodes
use Rattle.table_lib.specs.table_nodes.Steps.{IsPlace, place}
use Rattle.table_lib.specs.table_nodes.Entering.{IsEnterFault, IsNoRoom}
use Rattle.table_lib.proofs.of_table_nodes.NodeLaws.{joint_one, single_kept}
use Rattle.table_lib.proofs.of_table_nodes.SeenLaws as nodes_seen
use Rattle.joint_tables.specs.Tables.{Changes, EntersKey, IsNotedTable, IsPntr, LacksNode}
use Rattle.joint_tables.proofs.SeenLaws.{breaks-off, grown-stands, nodes-seen, seen-nodes, stayed-gains, tree-within}
use Rattle.joint_tables.proofs.OperandLaws.{IsTreeOf, TableOf, keyed, long-pairs, mine, through}
use Rattle.joint_tables.proofs.PairLaws.{apart-names, enter-names, enter-pairs, without-names, without-pairs}
use Rattle.joint_tables.proofs.ReadLaws.{key_of}
use Rattle.joint_tables.proofs.CountLaws.{count-low}

-- lists by their lengths
one_ref : (rs : List Reference) → length rs ≡ 1 → rs ≡ get_or rs 0 name.Nil ∷ []
one_ref [] e = absurd (omega (arith, e))
one_ref (r ∷ []) e = refl
one_ref (r ∷ s ∷ rs) e = absurd (omega (arith, e))

three_nums : (ws : List ℕ) → length ws ≡ 3 → ws ≡ slice_index ws 0 ∷ slice_index ws 1 ∷ slice_index ws 2 ∷ []
three_nums [] e = absurd (omega (arith, e))
three_nums (a ∷ []) e = absurd (omega (arith, e))
three_nums (a ∷ b ∷ []) e = absurd (omega (arith, e))
three_nums (a ∷ b ∷ c ∷ []) e = refl
three_nums (a ∷ b ∷ c ∷ d ∷ ws) e = absurd (omega (arith, e))

module _ (old new : area.Heap) (before after : Outside Space) (of : Heap) (names : List Reference) (h : IsHeap old) (now : IsHeap new)
    (w : IsWorld old before of names)
    (was_one : (a b : Space) → before.contents a → before.contents b → a ≡ b) where
  single : nodes.IsSingle before
  single = record { one = λ pid a b p q. Holds-one before pid a b was_one p q }

  -- what an object of the area shows that is a table
  words : (at : ℕ) (number count : ℕ) → IsTableAt new at → num_at new at 1 ≡ number → num_at new at 2 ≡ count
      → (shown_at new at).nums ≡ num_at new at 0 ∷ number ∷ count ∷ []
  words at number count t e f =
      let counts = shown-counts new at now t.held in
      three_nums (shown_at new at).nums (counts.1 ∙ t.nums)
      ∙ ap (λ (n : ℕ). num_at new at 0 ∷ n ∷ num_at new at 2 ∷ []) e ∙ ap (λ (n : ℕ). num_at new at 0 ∷ number ∷ n ∷ []) f

  slots : (at : ℕ) → IsTableAt new at → (shown_at new at).refs ≡ name_of new (ref_at new at 0) ∷ []
  slots at t =
      let counts = shown-counts new at now t.held in
      one_ref (shown_at new at).refs (counts.0 ∙ t.refs) ∙ ap (λ (r : Reference). r ∷ []) (slot-name new at 0)

  -- A table was written.
  module _ (at id : ℕ) (was : Table) (spares : SparesBut at old new before after) (held : IsHeld old at)
      (table : (header_at old at).kind ≡ kind.Table) (pair : paired names (name_at old at) id)
      (means : object_at of id ≡ Some (Keyed was)) where
    kinds : Kinds (seen old before) (seen new after)
    kinds n it s =
        let k = spares.kinds single n it (seen-joint old before n it s) in
        go k.it k.there k.kind_is s
      where
        go : (that : Shown) → joint new after n that → that.kind ≡ it.kind → seen old before n it → IsKindOf (seen new after) n it.kind
        go that (inl a) e s = record { it = that; there = inl a; kind_is = e }
        go that (inr v) e s =
            let known =
            nodes_seen.known_lasts old new before after spares.lasts spares.contents n (record { it = it; is = seen-nodes old before n it s }) in
            cases known.it (nodes-seen new after n known.it known.is) (inr v) e
          where
            cases : (x : Shown) → seen new after n x → joint new after n that → that.kind ≡ it.kind → IsKindOf (seen new after) n it.kind
            cases x t j e =
                let same = joint_one new after now (single_kept before after spares.contents single) n x that (seen-joint new after n x t) j in
                record { it = x; there = t; kind_is = ap (λ (y : Shown). y.kind) same ∙ e }

    unlike : (n : Reference) (it : Shown) → it.kind ≢ kind.Table → seen old before n it → n ≢ name_at old at
    unlike n it ne s e = ne (ap (λ (x : Shown). x.kind) (seen-is old before at n it h held (sym e) s) ∙ table)

    fixed : Fixed (seen old before) (seen new after)
    fixed n it f s =
        let no_table : it.kind ≢ kind.Table = λ e. subst IsFixed e f in
        let no_node : it.kind ≢ kind.Node = λ e. subst IsFixed e f in
        nodes-seen new after n it (nodes_seen.seen_from old new before after now spares.lasts spares.contents n it (seen-nodes old before n it s)
        (spares.others single n it no_node (unlike n it no_table s) (seen-joint old before n it s)))

    passes : Passes old new (seen old before) (seen new after)
    passes = record { names = λ j there. (let l = spares.lasts j there in (l.held, l.name)); fixed = fixed; kinds = kinds }

    code : CodeStays old new
    code j there bytes =
        let l = spares.lasts j there in
        record { held = l.held; name = l.name; shown_as = shows (spares.kept j there); flags = flags (spares.flags j there); refs = l.refs; nums = l.nums }
      where
        no_open : IsOpen at new j → ⊥
        no_open (inl e) =
            (let k = ap (λ (i : ℕ). (header_at old i).kind) e ∙ table in elim bytes [ inl t ↦ absurd (cc (k, t)) | inr t ↦ absurd (cc (k, t)) ])
        no_open (inr n) = (let e = sym (spares.lasts j there).kind ∙ n.kind in elim bytes [ inl t ↦ absurd (cc (e, t)) | inr t ↦ absurd (cc (e, t)) ])

        shows : (shown_at new j ≡ shown_at old j) ⊎ (IsOpen at new j × IsListed j new.assigned) → shown_at new j ≡ shown_at old j
        shows (inl e) = e
        shows (inr o) = absurd (no_open o.0)

        flags : ((header_at new j).flags ≡ (header_at old j).flags) ⊎ IsOpen at new j → (header_at new j).flags ≡ (header_at old j).flags
        flags (inl e) = e
        flags (inr o) = absurd (no_open o)

    pub carried : Carries old new before after names names
    carried = record {
      values = λ to v d. carries-value old new (seen old before) (seen new after) (paired names) (paired names) to v passes (λ n i p. p) d;
      scopes = λ to scope d. carries-scope old new (seen old before) (seen new after) (paired names) (paired names) to scope passes (λ n i p. p) d;
      units = λ c u i. carries-unit old new before after c u passes i;
      code = code;
      size = spares.size;
      top = spares.top;
    }

    -- area and vault stand for the heap with the table as it is now
    pub entered-stands : (u : Table) (later : List Reference)
        → ((m : Reference) (it : Shown) → m ≢ name_at old at → (IsAmong m (w.row.stands.tables.nodes id) → ⊥) → joint old before m it → joint new after m it)
        → standing.IsTable (seen new after) (paired names) (name_at old at) u later
        → ((m : Reference) → IsAmong m later → IsAmong m (w.row.stands.tables.nodes id) ⊎ ((it : Shown) → seen old before m it → ⊥))
        → Carried old new before after (with_object of id (Keyed u)) names
    entered-stands u later others is fresh = record {
      world = record {
        row = record {
          stands =
              stands-entered (seen old before) (seen new after) of (paired names) (name_at old at) id was u later
              (seen-one old before h was_one) w.row.stands pair means kinds
              (λ m it ne apart s. nodes-seen new after m it
              (nodes_seen.seen_from old new before after now spares.lasts spares.contents m it (seen-nodes old before m it s)
              (others m it ne apart (seen-joint old before m it s))))
              is fresh;
          long = w.row.long ∙ sym (length-set of id (Keyed u));
        };
      };
      carries = carried;
    }

    -- what is seen of the table now
    table-now : (ks : Keys) (tree : Tree (I ks)) (entries : List (Entry (KeyOf ks))) (u : Table) → IsTable ks (place new after) at tree
        → ArePairs (seen new after) (paired names) (items tree) entries
        → standing.key_kind u ≡ key_number ks → cardinality u ≡ length (items tree)
        → (standing.HasEntries ks (seen new after) (paired names) (name_of new (ref_at new at 0)) entries (names_of (items tree)) → standing.HasNodes (seen new after) (paired names) (name_of new (ref_at new at 0)) u (names_of (items tree)))
        → standing.IsTable (seen new after) (paired names) (name_at old at) u (names_of (items tree))
    table-now ks tree entries u t pairs number count has = record {
      it = shown_at new at;
      there = subst (λ (n : Reference). seen new after n (shown_at new at)) (spares.lasts at held).name (seen-held new after at t.keys.shape.held);
      kind_is = t.keys.shape.kind;
      root = name_of new (ref_at new at 0);
      home = num_at new at 0;
      refs = slots at t.keys.shape;
      nums = words at (standing.key_kind u) (cardinality u) t.keys.shape (t.keys.kind ∙ sym number) (t.count ∙ sym count);
      has = has (record {
        tree = tree;
        root_is = t.root;
        stands = tree-within ks (nodes.seen new after) (seen new after) tree (nodes-seen new after) t.stands;
        rising = t.rising;
        balanced = t.balanced;
        values = t.values;
        pairs = pairs;
        nodes_are = refl;
      });
    }

-- Tables of a kind.

keyed-kind : (ks : Keys) (es : List (Entry (KeyOf ks))) → standing.key_kind (keyed ks es) ≡ key_number ks
keyed-kind keys.by_texts es = refl
keyed-kind keys.by_ints es = refl

keyed-count : (ks : Keys) (es : List (Entry (KeyOf ks))) → cardinality (keyed ks es) ≡ length es
unfolding cardinality
keyed-count keys.by_texts es = refl
keyed-count keys.by_ints es = refl

keyed-nodes : (ks : Keys) (a : Seen) (pair : Pairing) (root : Reference) (es : List (Entry (KeyOf ks))) (ns : List Reference)
    → standing.HasEntries ks a pair root es ns → standing.HasNodes a pair root (keyed ks es) ns
keyed-nodes keys.by_texts a pair root es ns h = h
keyed-nodes keys.by_ints a pair root es ns h = h

-- What the meaning's operator gives.

stepped : (ks : Keys) (key : KeyOf ks) (object : Option ℕ) (es : List (Entry (KeyOf ks)))
    → entered (key_of ks key) object (keyed ks es) ≡ Yields (keyed ks (with_under (order_by ks) key object es))
unfolding entered
stepped keys.by_texts key object es = refl
stepped keys.by_ints key object es = refl

stepped-first : (ks : Keys) (key : KeyOf ks) (object : ℕ) → entered (key_of ks key)
    (Some object) without_keys ≡ Yields (keyed ks (with_under (order_by ks) key (Some object) []))
unfolding entered
stepped-first keys.by_texts key object = refl
stepped-first keys.by_ints key object = refl

stepped-none : (ks : Keys) (key : KeyOf ks) → entered (key_of ks key) None without_keys ≡ Yields without_keys
unfolding entered
stepped-none keys.by_texts key = refl
stepped-none keys.by_ints key = refl

stepped-wrong : (ks : Keys) (key : KeyOf ks) (object : Option ℕ) (other : Keys) (es : List (Entry (KeyOf other))) → other ≢ ks
    → entered (key_of ks key) object (keyed other es) ≡ Fails trap.KeyKind
unfolding entered
stepped-wrong keys.by_texts key object keys.by_texts es ne = absurd (ne refl)
stepped-wrong keys.by_texts key object keys.by_ints es ne = refl
stepped-wrong keys.by_ints key object keys.by_texts es ne = refl
stepped-wrong keys.by_ints key object keys.by_ints es ne = absurd (ne refl)

room-lacks : (heap : area.Heap) (fault : SwizzleFault) → IsNoRoom heap fault → LacksNode heap fault
room-lacks heap (AreaFull top wanted size) n = n
room-lacks heap (Vault fault) n = n

module _ (old new : area.Heap) (before after : Outside Space) (of : Heap) (names : List Reference) (h : IsHeap old) (now : IsHeap new)
    (w : IsWorld old before of names)
    (was_one : (a b : Space) → before.contents a → before.contents b → a ≡ b)
    (low : (pid : ℕ) (words : List ℕ) → Holds before pid words → pid < 2 ^ 30) where
  here : IsPlace (place old before)
  here = record { heap = h; single = record { one = λ pid a b p q. Holds-one before pid a b was_one p q } }

  module _ (ks : Keys) (key : KeyOf ks) (at : ℕ) (v : Value) (t : TableOf old before of names h w at v) (spares : SparesBut at old new before after)
      (is : List (I ks)) (es : List (Entry (KeyOf ks)))
      (pairs : ArePairs (seen old before) (paired names) is es) (mine_is : mine old before of names h w t.id ≡ names_of is) where
    kind_is : (header_at old at).kind ≡ kind.Table
    kind_is = (tree-kind t.table t.is)
      where
        tree-kind : (table : Table) → IsTreeOf old before names at table (mine old before of names h w t.id) → (header_at old at).kind ≡ kind.Table
        tree-kind without_keys x = x.0.shape.kind
        tree-kind (by_strings entries) x = x.table.keys.shape.kind
        tree-kind (by_ints entries) x = x.table.keys.shape.kind

    beside : (m : Reference) → (IsAmong m (mine old before of names h w t.id) → ⊥) → IsApart m is
    beside m f = apart-names m is (λ a. f (subst (IsAmong m) (sym mine_is) a))

    pairs-later : (js : List (I ks)) (fs : List (Entry (KeyOf ks))) → ArePairs (seen old before) (paired names) js fs → ArePairs (seen new after)
        (paired names) js fs
    pairs-later js fs p =
        pairs-more (seen old before) (seen new after) (paired names) (paired names) js fs
        (fixed old new before after of names h now w was_one at t.id t.table spares t.held kind_is t.pair t.means)
        (kinds old new before after of names h now w was_one at t.id t.table spares t.held kind_is t.pair t.means) (λ n i q. q) p

    stands-with : (tree : Tree (I ks)) (fs : List (Entry (KeyOf ks))) → HasNow ks (place old before) (place new after) at is tree
        → ArePairs (seen new after) (paired names) (items tree) fs
        → ((m : Reference) → IsAmong m (names_of (items tree)) → IsAmong m (names_of is) ⊎ ((it : Shown) → seen old before m it → ⊥))
        → Carried old new before after (with_object of t.id (Keyed (keyed ks fs))) names
    stands-with tree fs n p fresh =
        entered-stands old new before after of names h now w was_one at t.id t.table spares t.held kind_is t.pair t.means (keyed ks fs)
        (names_of (items tree))
        (λ m it ne apart j. n.others m it ne (beside m apart) j)
        (table-now old new before after of names h now w was_one at t.id t.table spares t.held kind_is t.pair t.means ks tree fs
        (keyed ks fs) n.table p (keyed-kind ks fs)
        (keyed-count ks fs ∙ sym (long-pairs (seen new after) (paired names) (items tree) fs p))
        (λ e. keyed-nodes ks (seen new after) (paired names) (name_of new (ref_at new at 0)) fs (names_of (items tree)) e))
        (λ m a. elim (fresh m a) [ inl b ↦ inl (subst (IsAmong m) (sym mine_is) b) | inr none ↦ inr none ])

    agree : (a : I ks) (e : Entry (KeyOf ks)) → a.entry.key ≡ e.key → order_by ks key a.entry.key ≡ order_by ks key e.key
    agree a e f = ap (order_by ks key) f

    put-stands : (value : Reference) (object : ℕ) → StandsFor (seen old before) (paired names) value (Pointer object)
        → EntersPair ks (place old before) (place new after) at is key value
        → Carried old new before after (with_object of t.id (Keyed (keyed ks (with_under (order_by ks) key (Some object) es)))) names
    put-stands value object s e =
        let more =
        enter-pairs (seen old before) (paired names) (seek (order_by ks) key)
        (Tables.seek (order_by ks) key) agree e.fresh key value object s is es pairs in
        stands-with e.tree (with_under (order_by ks) key (Some object) es) e.now
        (subst (λ (js : List (I ks)). ArePairs (seen new after) (paired names) js (with_under (order_by ks) key (Some object) es)) (sym e.pairs)
        (pairs-later (enter (seek (order_by ks) key) (put value) (fresh_item e.fresh key value) is)
        (with_under (order_by ks) key (Some object) es) more))
        (λ m a. elim (enter-names (seek (order_by ks) key) e.fresh key value m is (subst (λ (js : List (I ks)). IsAmong m (names_of js)) e.pairs a)) [
          | inl b ↦ inl b
          | inr f ↦ inr (λ it j. e.is_fresh it (seen-joint old before e.fresh it (subst (λ (n : Reference). seen old before n it) f j)))
        ])

    take-stands : TakesKey ks (place old before) (place new after) at is key
        → Carried old new before after (with_object of t.id (Keyed (keyed ks (with_under (order_by ks) key None es)))) names
    take-stands e =
        let less = without-pairs (seen old before) (paired names) (seek (order_by ks) key) (Tables.seek (order_by ks) key) agree is es pairs in
        stands-with e.tree (with_under (order_by ks) key None es) e.now
        (subst (λ (js : List (I ks)). ArePairs (seen new after) (paired names) js (with_under (order_by ks) key None es)) (sym e.pairs)
        (pairs-later (without (seek (order_by ks) key) is) (with_under (order_by ks) key None es) less))
        (λ m a. inl (without-names (seek (order_by ks) key) m is (subst (λ (js : List (I ks)). IsAmong m (names_of js)) e.pairs a)))

    -- a table that never had a key stays one
    rest-stands : StaysUnused (place old before) (place new after) at → Carried old new before after (with_object of t.id (Keyed without_keys)) names
    unfolding cardinality
    rest-stands e =
        entered-stands old new before after of names h now w was_one at t.id t.table spares t.held kind_is t.pair t.means without_keys []
        (λ m it ne apart j. e.others m it j)
        (record {
          it = shown_at new at;
          there =
              subst (λ (n : Reference). seen new after n (shown_at new at)) (spares.lasts at t.held).name
              (seen-held new after at e.unused.shape.held);
          kind_is = e.unused.shape.kind;
          root = name_of new (ref_at new at 0);
          home = num_at new at 0;
          refs = slots old new before after of names h now w was_one at e.unused.shape;
          nums = words old new before after of names h now w was_one at 0 0 e.unused.shape e.unused.kind e.unused.count;
          has = (ap (name_of new) e.unused.root, refl);
        })
        (λ m a. absurd a)

  -- What the whole call answers.
  module _ (ks : Keys) (key : KeyOf ks) (operand : Option ℕ) (v : Value) (result : Result (Unit {0}) OpFault)
      (d : DenotesIn old before names operand v) (fails : BreaksAsReading before after result)
      (spares : (at : ℕ) → operand ≡ Some at → OnOk result (SparesBut at old new before after))
      (still : OnErr result (nodes.Grows old new before after)) (stays : (t : Trap) → result ≡ Err (op.Trap t) → new ≡ old) where
    step : Option ℕ → Table → Attempt Heap
    step object t = on_yield (entered (key_of ks key) object t) (λ new. with_object of (id_of v) (Keyed new))

    So : Attempt Heap → Result (Unit {0}) OpFault → Type 0
    So attempt r = Changes old new before after of names operand attempt r

    -- it ended in a trap, and nothing was done
    trapped : (t : Trap) → result ≡ Err (op.Trap t) → Stands old new before after of names
    trapped t e =
        let grows = subst (λ (x : Result (Unit {0}) OpFault). OnErr x (nodes.Grows old new before after)) e still in
        gains-stands old new before after of names (stayed-gains old new before after h grows (stays t e)) w

    noted : (at : ℕ) → operand ≡ Some at → IsListed at new.assigned → IsNotedTable new operand
    noted at e l = subst (IsNotedTable new) (sym e) l

    -- the heap with the table that an attempt to change it yields
    steps : (object : Option ℕ) (from u : Table) → entered (key_of ks key) object from ≡ Yields u
        → step object from ≡ Yields (with_object of (id_of v) (Keyed u))
    unfolding step
    steps object from u f = ap (λ (a : Attempt Table). on_yield a (λ new. with_object of (id_of v) (Keyed new))) f

    finished : (object : Option ℕ) (at : ℕ) (t : TableOf old before of names h w at v) (from u : Table) → operand ≡ Some at
        → entered (key_of ks key) object from ≡ Yields u → IsListed at new.assigned
        → Carried old new before after (with_object of t.id (Keyed u)) names → So (step object from) (Ok tt)
    unfolding step So
    finished object at t from u e f l s = (
      with_object of (id_of v) (Keyed u),
      steps object from u f,
      subst (λ (i : ℕ). Carried old new before after (with_object of i (Keyed u)) names) (sym (ap id_of t.v_is)) s,
      noted at e l,
    )

    faulted : (attempt : Attempt Heap) (later : Heap) → attempt ≡ Yields later → (fault : SwizzleFault)
        → BreaksAsReading {T = Unit {0}} before after (Err (op.Swizzle fault)) → nodes.Grows old new before after → IsEnterFault old before fault
        → So attempt (Err (op.Swizzle fault))
    unfolding So
    faulted attempt later yields fault f g (inl b) = (grown-stands old new before after of names g w, inl (breaks-off old new before after fault f b))
    faulted attempt later yields fault f g (inr n) = (grown-stands old new before after of names g w, inr (room-lacks old fault n, (later, yields)))

    put-answers : (at : ℕ) (t : TableOf old before of names h w at v) (from : Table) (is : List (I ks)) (es : List (Entry (KeyOf ks)))
        (value : Reference) (object : ℕ) (r : Result (Unit {0}) OpFault)
        → operand ≡ Some at → ArePairs (seen old before) (paired names) is es → mine old before of names h w t.id ≡ names_of is
        → entered (key_of ks key) (Some object) from ≡ Yields (keyed ks (with_under (order_by ks) key (Some object) es))
        → StandsFor (seen old before) (paired names) value (Pointer object)
        → BreaksAsReading before after r → OnOk r (SparesBut at old new before after) → OnErr r (nodes.Grows old new before after)
        → MatchResult r (λ done. EntersPair ks (place old before) (place new after) at is key value) (IsOpEnterFault old before)
        → So (step (Some object) from) r
    put-answers at t from is es value object (Ok done) e p m f s fails sp st x =
        done_with (put-stands ks key at v t sp is es p m value object s x)
      where
        done_with : Carried old new before after (with_object of t.id (Keyed (keyed ks (with_under (order_by ks) key (Some object) es)))) names
            → So (step (Some object) from) (Ok tt)
        done_with z = finished (Some object) at t from (keyed ks (with_under (order_by ks) key (Some object) es)) e f x.now.noted z
    put-answers at t from is es value object (Err (op.Trap trap)) e p m f s fails sp st x = absurd x
    put-answers at t from is es value object (Err (op.Swizzle fault)) e p m f s fails sp st x =
        let u = keyed ks (with_under (order_by ks) key (Some object) es) in
        faulted (step (Some object) from) (with_object of (id_of v) (Keyed u)) (steps (Some object) from u f) fault fails st x

    take-answers : (at : ℕ) (t : TableOf old before of names h w at v) (is : List (I ks)) (es : List (Entry (KeyOf ks)))
        (r : Result (Unit {0}) OpFault)
        → operand ≡ Some at → ArePairs (seen old before) (paired names) is es → mine old before of names h w t.id ≡ names_of is
        → BreaksAsReading before after r → OnOk r (SparesBut at old new before after) → OnErr r (nodes.Grows old new before after)
        → MatchResult r (λ done. TakesKey ks (place old before) (place new after) at is key) (IsOpFetchFault old before)
        → So (step None (keyed ks es)) r
    take-answers at t is es (Ok done) e p m fails sp st x =
        done_with (take-stands ks key at v t sp is es p m x)
      where
        done_with : Carried old new before after (with_object of t.id (Keyed (keyed ks (with_under (order_by ks) key None es)))) names
            → So (step None (keyed ks es)) (Ok tt)
        done_with z = finished None at t (keyed ks es) (keyed ks (with_under (order_by ks) key None es)) e (stepped ks key None es) x.now.noted z
    take-answers at t is es (Err (op.Trap trap)) e p m fails sp st x = absurd x
    take-answers at t is es (Err (op.Swizzle fault)) e p m fails sp st x =
        let u = keyed ks (with_under (order_by ks) key None es) in
        faulted (step None (keyed ks es)) (with_object of (id_of v) (Keyed u)) (steps None (keyed ks es) u (stepped ks key None es)) fault fails st (inl x)

    rest-answers : (at : ℕ) (t : TableOf old before of names h w at v) (r : Result (Unit {0}) OpFault) → operand ≡ Some at
        → mine old before of names h w t.id ≡ []
        → OnOk r (SparesBut at old new before after) → MatchResult r (λ done. StaysUnused (place old before) (place new after) at) (λ fault. ⊥)
        → So (step None without_keys) r
    rest-answers at t (Ok done) e m sp x =
        done_with (rest-stands ks key at v t sp [] [] tt m x)
      where
        done_with : Carried old new before after (with_object of t.id (Keyed without_keys)) names → So (step None without_keys) (Ok tt)
        done_with z = finished None at t without_keys without_keys e (stepped-none ks key) x.noted z
    rest-answers at t (Err fault) e m sp x = absurd x

    wrong : (object : Option ℕ) (other : Keys) (es : List (Entry (KeyOf other))) → other ≢ ks → step object (keyed other es) ≡ Fails trap.KeyKind
    unfolding step
    wrong object other es ne =
        ap (λ (a : Attempt Table). on_yield a (λ new. with_object of (id_of v) (Keyed new))) (stepped-wrong ks key object other es ne)

    pub entered-key : (to : Option ℕ) (wanted : Value) → IsPntr wanted → DenotesIn old before names to wanted → Enters ks (place old before)
        (place new after) operand key to result
        → EntersKey old new before after of names operand v (key_of ks key) wanted result
    unfolding step So
    entered-key None Nil pntr dw enters =
        through old before of names h w ks _ _ operand v (step None) So result enters d
        (λ t e. (refl, trapped t e))
        (λ at t e f unused none x. rest-answers at t result e none (spares at e) (x at e here))
        (λ at t es x e f m. take-answers at t (items x.tree) es result e x.pairs x.nodes_are fails (spares at e) still (m here))
        (λ other es ne. wrong None other es ne)
    entered-key (Some a) (Pointer object) pntr dw enters =
        let s = subst (λ (n : Reference). StandsFor (seen old before) (paired names) n (Pointer object)) (sym dw.denotes.1) dw.stands in
        through old before of names h w ks _ _ operand v (step (Some object)) So result enters d
        (λ t e. (refl, trapped t e))
        (λ at t e f unused none x. put-answers at t without_keys [] [] (name_at old a) object result e tt none (stepped-first ks key object) s fails
        (spares at e) still (x at e here))
        (λ at t es x e f m. put-answers at t (keyed ks es) (items x.tree) es (name_at old a) object result e x.pairs x.nodes_are
        (stepped ks key (Some object) es) s fails (spares at e) still
        (m here (let small = count-low old before here low ks at x.tree x.table in omega (arith, small))))
        (λ other es ne. wrong (Some object) other es ne)
    entered-key None (Pointer object) pntr dw enters = let bad = none-nil old before names (Pointer object) dw in absurd (cc)
    entered-key (Some a) Nil pntr dw enters = absurd (some-not_nil old before names a dw)
    entered-key to (Num z) pntr dw enters = absurd pntr
    entered-key to (Flag b) pntr dw enters = absurd pntr
    entered-key to (Text bytes) pntr dw enters = absurd pntr
    entered-key to (Vector i) pntr dw enters = absurd pntr
    entered-key to (Procedure does scope) pntr dw enters = absurd pntr
    entered-key to Nothing pntr dw enters = absurd pntr
