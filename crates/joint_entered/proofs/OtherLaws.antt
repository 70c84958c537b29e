-- The trees of other tables hang together as they did.
use Rattle.std.proofs.Common.{◌≡◌, ◌≢◌, ℕ, List, [], ◌∷◌, refl, sym, ap, ◌∙◌, subst, inl, inr}
use Rattle.std.specs.List.{AllByRecursion}
use Rattle.joint_ops.specs.ps_outside.Outside.{Outside}
use Rattle.joint_ops.specs.obj_layout.Stored.{Space}
use Rattle.joint_ops.specs.obj_layout.declared.kind.Kind.TheVariants as kind
use Rattle.joint_ops.specs.obj_layout.declared.reference.Reference.{Reference}
use Rattle.joint_ops.specs.swizzle.Heap.{Heap, IsHeap, IsHeld, header_at}
use Rattle.joint_ops.specs.swizzle.Joint.{Shown, name_at}
use Rattle.joint_ops.specs.heap_places.Shapes.{IsText, slot_of}
use Rattle.joint_ops.specs.heap_meaning.Tables.{names_of}
use Rattle.joint_ops.specs.World.{seen}
use Rattle.joint_ops.proofs.SeenLaws.{seen-is, seen-joint}
use Rattle.avl_trees.specs.Trees.{Tree, leaf, node, items}
use Rattle.avl_trees.specs.Standing.{IsApart, Item, Stands}
use Rattle.avl_trees.proofs.Standing.{stands_kept}
use Rattle.heap_meaning.proofs.TableLaws.{among-back, among-front}
use Rattle.node_rows.specs.Keys.{Keys, KeyOf, IsKey, by_ints, by_texts}
use Rattle.node_rows.specs.Nodes.{I, HasNode, IsAmong, Seat}
use Rattle.table_nodes.specs.Nodes as nodes
use Rattle.table_nodes.proofs.SeenLaws as nodes_seen
use Rattle.table_nodes.proofs.FetchLaws.{pid_lasts}
use Rattle.table_nodes.proofs.NodeLaws.{node_seen, rows_grow}
use Rattle.table_lib.specs.Entries.{SparesBut}
use Rattle.joint_tables.proofs.PairLaws.{apart-names}
use Rattle.joint_tables.proofs.SeenLaws.{nodes-seen, seen-nodes}
use Rattle.joint_held.specs.Held.{AreHung, HasChanged, HaveNoTexts, IsHere, IsTree}
use Rattle.joint_entered.proofs.OutcomeLaws.{StaysBeside}
use Rattle.joint_entered.proofs.SeenLaws.{text-kept, tree-known}

-- these names are of changed objects only where they were
abbrev pub Back : Heap → Heap → List Reference → Type 0
Back old new ns = (m : Reference) → IsAmong m ns → HasChanged new (m ∷ []) → HasChanged old (m ∷ [])

changed-back : (old new : Heap) (ns : List Reference) → Back old new ns → HasChanged new ns → HasChanged old ns
changed-back old new ns back c = go (back (name_at new c.at) c.among (record { at = c.at; held = c.held; among = inl refl; why = c.why }))
  where
    go : HasChanged old (name_at new c.at ∷ []) → HasChanged old ns
    go o = record { at = o.at; held = o.held; among = elim (o.among) [ inl e ↦ subst (λ (m : Reference). IsAmong m ns) (sym e) c.among | inr k ↦ absurd k ]; why = o.why }

hung-stays : (ks : Keys) (old new : Heap) → ((m : Reference) → IsHere old m → IsHere new m) → (t : Tree (I ks)) → Back old new (names_of (items t)) → AreHung old t → AreHung new t
hung-stays ks old new here leaf back h = tt
hung-stays ks old new here (node l a r) back h = (
  (λ c. here a.name (h.0 (changed-back old new (names_of (items (node l a r))) back c))),
  hung-stays ks old new here l (λ m k. back m (among-front (items l) (a ∷ items r) m k)) h.1,
  hung-stays ks old new here r (λ m k. back m (among-back (items l) (a ∷ items r) m (inr k))) h.2,
)

-- items whose names aren't among those of others are apart from them
pub all-apart : {K L : Type 0} (js : List (Item Reference K Reference)) (is : List (Item Reference L Reference)) → ((m : Reference) → IsAmong m (names_of js) → IsAmong m (names_of is) → ⊥) → AllByRecursion (λ a. IsApart {N = Reference} {K = L} {V = Reference} a.name is) js
all-apart [] is f = tt
all-apart (j ∷ js) is f = (apart-names j.name is (λ k. f j.name (inl refl) k), all-apart js is (λ m k. f m (inr k)))

module _ (ks : Keys) (old new : Heap) (before after : Outside Space) (x : ℕ) (mine : List Reference) (was_sound : IsHeap old) (sound : IsHeap new) (single : nodes.IsSingle before) (spares : SparesBut x old new before after)
    (b : StaysBeside ks old new before after x mine) (there : IsHeld old x) (table : (header_at old x).kind ≡ kind.Table) where
  -- what is neither a node nor the table is seen still
  pub others-seen : (n : Reference) (it : Shown) → it.kind ≢ kind.Node → n ≢ name_at old x → seen old before n it → seen new after n it
  others-seen n it no_node ne s =
      nodes-seen new after n it (nodes_seen.seen_from old new before after sound spares.lasts spares.contents n it (seen-nodes old before n it s) (spares.others single n it no_node ne (seen-joint old before n it s)))

  -- the table's name is that of no object of another kind
  pub unlike-table : (n : Reference) (it : Shown) → it.kind ≢ kind.Table → seen old before n it → n ≢ name_at old x
  unlike-table n it ne s e = ne (ap (λ (i : Shown). i.kind) (seen-is old before x n it was_sound there (sym e) s) ∙ table)

  node-seen : (n : Reference) (it : Shown) → it.kind ≡ kind.Node → IsApart n b.is → seen old before n it → seen new after n it
  node-seen n it is_node apart s =
      let ne = unlike-table n it (λ e. (let bad : kind.Node ≡ kind.Table = sym is_node ∙ e in cc)) s in
      nodes-seen new after n it (nodes_seen.seen_from old new before after sound spares.lasts spares.contents n it (seen-nodes old before n it s) (b.others n it ne apart (seen-joint old before n it s)))

  text-seen : (n : Reference) (bytes : List ℕ) → IsText (seen old before) n bytes → IsText (seen new after) n bytes
  text-seen n bytes k = record {
    it = k.it;
    there =
        others-seen n k.it (λ e. (let bad : kind.Text ≡ kind.Node = sym k.kind ∙ e in cc)) (unlike-table n k.it (λ e. (let bad : kind.Text ≡ kind.Table = sym k.kind ∙ e in cc)) k.there) k.there;
    kind = k.kind;
    bytes_are = k.bytes_are;
  }

  key-seen : (ks2 : Keys) (it : Shown) (key : KeyOf ks2) → IsKey ks2 (seen old before) it key → IsKey ks2 (seen new after) it key
  key-seen by_ints it key k = k
  key-seen by_texts it key k = text-seen (slot_of it 2) key k

  row-kept : (ks2 : Keys) (n : Reference) (row : Seat ks2) → IsApart n b.is → HasNode ks2 (seen old before) n row → HasNode ks2 (seen new after) n row
  row-kept ks2 n row apart r = record {
    it = r.it;
    there = node-seen n r.it r.is.kind apart r.there;
    is = record {
      kind = r.is.kind;
      refs = r.is.refs;
      nums = r.is.nums;
      left = r.is.left;
      right = r.is.right;
      key = key-seen ks2 r.it row.entry.key r.is.key;
      value = r.is.value;
      height = r.is.height;
    };
  }

  here-still : (m : Reference) → IsHere old m → IsHere new m
  here-still m k = let l = spares.lasts k.at k.held in record { at = k.at; held = l.held; name = l.name ∙ k.name }

  changed-still : (n : Reference) → HasChanged old (n ∷ []) → HasChanged new (n ∷ [])
  changed-still n c =
      let l = spares.lasts c.at c.held in
      record {
        at = c.at;
        held = l.held;
        among = subst (λ (m : Reference). IsAmong m (n ∷ [])) (sym l.name) c.among;
        why = elim c.why [ inl none ↦ inl (pid_lasts old new c.at l ∙ none) | inr noted ↦ inr (spares.noted c.at noted) ];
      }

  -- Another tree, no node of which is one of the table's.
  module _ (ks2 : Keys) (t : Tree (I ks2)) (stands : Stands (HasNode ks2 (seen old before)) t) (apart : (m : Reference) → IsAmong m (names_of (items t)) → IsAmong m (names_of b.is) → ⊥) where
    pub other-stands : Stands (HasNode ks2 (seen new after)) t
    other-stands = stands_kept (HasNode ks2 (seen old before)) (HasNode ks2 (seen new after)) (λ m. IsApart m b.is) (row-kept ks2) t (all-apart (items t) b.is apart) stands

    back : Back old new (names_of (items t))
    back m k c =
        let known = tree-known ks2 (seen old before) t stands m k in
        let beside = apart-names m b.is (apart m k) in
        let name : name_at new c.at ≡ m = elim (c.among) [ inl e ↦ e | inr bad ↦ absurd bad ] in
        let is_node = now-node m known.row (row-kept ks2 m known.row beside known.has) c.at c.held name in
        let o = b.steady m known.has.it beside (seen-joint old before m known.has.it known.has.there) (record { at = c.at; named = record { node = is_node; name = name }; why = c.why }) in
        record { at = o.at; held = o.named.node.held; among = inl o.named.name; why = o.why }
      where
        -- an object of the area that is seen as a node of the tree is one
        now-node : (m : Reference) (row : Seat ks2) → HasNode ks2 (seen new after) m row → (y : ℕ) → IsHeld new y → name_at new y ≡ m → nodes.IsNode new y
        now-node m row r y there name =
            node_seen ks2 new after y sound there (rows_grow ks2 (seen new after) (nodes.seen new after) (seen-nodes new after) (name_at new y) row (subst (λ (n : Reference). HasNode ks2 (seen new after) n row) (sym name) r))

    pub other-tree : (n : Reference) → IsTree old (seen old before) n ks2 t → IsTree new (seen new after) n ks2 t
    other-tree n i = record {
      hung = hung-stays ks2 old new here-still t back i.hung;
      plain = plain ks2 t stands i.plain;
      top = λ c. changed-still n (i.top (changed-back old new (names_of (items t)) back c));
      stored = i.stored;
    }
      where
        plain : (k : Keys) (u : Tree (I k)) → Stands (HasNode k (seen old before)) u → HaveNoTexts k (seen old before) (names_of (items u)) → HaveNoTexts k (seen new after) (names_of (items u))
        plain by_texts u s p = tt
        plain by_ints u s p = λ m it k now.
            let known = tree-known by_ints (seen old before) u s m k in
            text-kept ks old new before after x mine was_sound sound single spares b m known.has.it it known.has.there now ∙ p m known.has.it k known.has.there
