-- What has become of the table's tree.
use Rattle.std.proofs.Common.{◌≡◌, ◌≢◌, ◌⊎◌, ℕ, ◌^◌, ◌<◌, ◌-◌, List, [], Option, Some, None, Ok, refl, sym, subst, inl, inr}
use Rattle.joint_ops.specs.ps_outside.Outside.{Outside}
use Rattle.joint_ops.specs.obj_layout.Stored.{Space}
use Rattle.joint_ops.specs.obj_layout.declared.reference.Reference.{Reference}
use Rattle.joint_ops.specs.swizzle.Heap as area
use Rattle.joint_ops.specs.swizzle.Heap.{IsHeap, IsHeld}
use Rattle.joint_ops.specs.swizzle.Joint.{Shown, name_at}
use Rattle.joint_ops.specs.swizzle.Reading.{joint}
use Rattle.joint_ops.specs.ps_heap.Tables.{Table, Entry, without_keys, by_strings}
use Rattle.joint_ops.specs.ps_heap.Tables as meant
use Rattle.joint_ops.specs.heap_meaning.Tables.{names_of}
use Rattle.joint_ops.specs.World.{seen}
use Rattle.joint_ops.proofs.SeenLaws.{seen-joint}
use Rattle.table_lib.specs.Entries.{Enters, EntersPair, HasNow, StaysUnused, TakesKey}
use Rattle.table_lib.specs.Tables.{HasPairs, IsUnused}
use Rattle.table_lib.proofs.EnterLaws.{no_pairs}
use Rattle.table_lib.proofs.RootLaws.{pairs_of}
use Rattle.table_nodes.specs.Fetching.{Fetches}
use Rattle.table_nodes.specs.Hanging as nodes
use Rattle.table_nodes.specs.Nodes.{IsChanged}
use Rattle.table_nodes.specs.Steps.{IsPlace, place}
use Rattle.avl_trees.specs.Trees.{Tree, leaf, items}
use Rattle.avl_trees.specs.Standing.{IsApart, seek}
use Rattle.node_rows.specs.Keys as keys
use Rattle.node_rows.specs.Keys.{Keys, KeyOf, order_by}
use Rattle.node_rows.specs.Nodes.{I, IsAmong}
use Rattle.joint_tables.proofs.OperandLaws.{HasTree, IsTreeOf, keyed}
use Rattle.joint_tables.proofs.PairLaws.{enter-names, without-names}

-- The table's tree has become another one.
pub record HasChanged (ks : Keys) (old new : area.Heap) (before after : Outside Space) (x : ℕ) (mine : List Reference) : Type 0 where
  pub was : Tree (I ks)
  pub pairs : HasPairs ks (place old before) x was
  pub mine_is : mine ≡ names_of (items was)
  pub now : Tree (I ks)
  pub names : (m : Reference) → IsAmong m (names_of (items now)) → IsAmong m (names_of (items was)) ⊎ ((it : Shown) → seen old before m it → ⊥)
  pub has : HasNow ks (place old before) (place new after) x (items was) now
  pub fetched : Fetches ks old new before
  pub hung : nodes.AreHung old was → nodes.AreHung new now

-- or the table never had a key, and has none now
pub data Outcome (ks : Keys) (old new : area.Heap) (before after : Outside Space) (x : ℕ) (table : Table) (mine : List Reference) : Type 0 where
  first : table ≡ without_keys → (c : HasChanged ks old new before after x mine) → c.was ≡ leaf → Outcome ks old new before after x table mine
  again : (entries : List (Entry (KeyOf ks))) → table ≡ keyed ks entries → HasChanged ks old new before after x mine → Outcome ks old new before after x table mine
  rest : mine ≡ [] → StaysUnused (place old before) (place new after) x → Outcome ks old new before after x table mine

-- What both say: all but the table and these nodes is as it was, and what came.
pub record StaysBeside (ks : Keys) (old new : area.Heap) (before after : Outside Space) (x : ℕ) (mine : List Reference) : Type 0 where
  pub is : List (I ks)
  pub mine_is : mine ≡ names_of is
  pub others : (n : Reference) (it : Shown) → n ≢ name_at old x → IsApart n is → joint old before n it → joint new after n it
  pub steady : (n : Reference) (it : Shown) → IsApart n is → joint old before n it → IsChanged new n → IsChanged old n
  pub fetched : Fetches ks old new before
  pub noted : area.IsListed x new.assigned

kinds : (a b : Keys) → (a ≡ b) ⊎ (a ≢ b)
kinds keys.by_ints keys.by_ints = inl refl
kinds keys.by_ints keys.by_texts = inr (λ e. cc)
kinds keys.by_texts keys.by_ints = inr (λ e. cc)
kinds keys.by_texts keys.by_texts = inl refl

module _ (ks : Keys) (old new : area.Heap) (before after : Outside Space) (x : ℕ) (mine : List Reference) (key : KeyOf ks) where
  put : (t : Tree (I ks)) → HasPairs ks (place old before) x t → mine ≡ names_of (items t) → (value : Reference) → EntersPair ks (place old before) (place new after) x (items t) key value
      → HasChanged ks old new before after x mine
  put t h mine_is value e = record {
    was = t;
    pairs = h;
    mine_is = mine_is;
    now = e.tree;
    names = λ m a. elim (enter-names (seek (order_by ks) key) e.fresh key value m (items t) (subst (λ (js : List (I ks)). IsAmong m (names_of js)) e.pairs a)) [
      | inl b ↦ inl b
      | inr f ↦ inr (λ it j. e.is_fresh it (seen-joint old before e.fresh it (subst (λ (n : Reference). seen old before n it) f j)))
    ];
    has = e.now;
    fetched = e.fetched;
    hung = e.hung t h;
  }

  took : (t : Tree (I ks)) → HasPairs ks (place old before) x t → mine ≡ names_of (items t) → TakesKey ks (place old before) (place new after) x (items t) key → HasChanged ks old new before after x mine
  took t h mine_is e = record {
    was = t;
    pairs = h;
    mine_is = mine_is;
    now = e.tree;
    names = λ m a. inl (without-names (seek (order_by ks) key) m (items t) (subst (λ (js : List (I ks)). IsAmong m (names_of js)) e.pairs a));
    has = e.now;
    fetched = e.fetched;
    hung = e.hung t h;
  }

  pub stays-beside : (table : Table) → Outcome ks old new before after x table mine → StaysBeside ks old new before after x mine
  stays-beside table (first e c l) = record { is = items c.was; mine_is = c.mine_is; others = c.has.others; steady = c.has.steady; fetched = c.fetched; noted = c.has.noted }
  stays-beside table (again entries e c) = record { is = items c.was; mine_is = c.mine_is; others = c.has.others; steady = c.has.steady; fetched = c.fetched; noted = c.has.noted }
  stays-beside table (rest e r) = record {
    is = [];
    mine_is = e;
    others = λ n it ne p k. r.others n it k;
    steady = λ n it p k c. r.steady n c;
    fetched = λ at held. inl (r.none at held);
    noted = r.noted;
  }

  module _ (p : IsPlace (place old before)) (low : (k : Keys) (t : Tree (I k)) → Rattle.table_lib.specs.Tables.IsTable k (place old before) x t → Rattle.std.specs.Prelude.length (items t) < 2 ^ 64 - 1) where
    unused-outcome : (to : Option ℕ) → Enters {T = Unit {0}} ks (place old before) (place new after) (Some x) key to (Ok tt) → IsUnused old x → mine ≡ [] → Outcome ks old new before after x without_keys mine
    unfolding put
    unused-outcome (Some a) w u e = first refl (put leaf (no_pairs ks (place old before) x u) e (name_at old a) (w.unused_is x refl u x refl p)) refl
    unused-outcome None w u e = rest e (w.unused_is x refl u x refl p)

    used-outcome : (to : Option ℕ) → Enters {T = Unit {0}} ks (place old before) (place new after) (Some x) key to (Ok tt) → (names : List Reference) (entries : List (Entry (KeyOf ks)))
        → HasTree ks old before names x entries mine → Outcome ks old new before after x (keyed ks entries) mine
    used-outcome (Some a) w names entries h = again entries refl (put h.tree (pairs_of ks (place old before) x h.tree h.table) h.nodes_are (name_at old a) (w.used_is x h.tree refl h.table p (low ks h.tree h.table)))
    used-outcome None w names entries h = again entries refl (took h.tree (pairs_of ks (place old before) x h.tree h.table) h.nodes_are (w.used_is x h.tree refl h.table p))

    other-kind : (to : Option ℕ) → Enters {T = Unit {0}} ks (place old before) (place new after) (Some x) key to (Ok tt) → (k : Keys) → k ≢ ks → (names : List Reference) (entries : List (Entry (KeyOf k))) → HasTree k old before names x entries mine → ⊥
    other-kind (Some a) w k ne names entries h = let bad = w.other x k h.tree ne refl h.table in cc
    other-kind None w k ne names entries h = let bad = w.other x k h.tree ne refl h.table in cc

    of-kind : (to : Option ℕ) → Enters {T = Unit {0}} ks (place old before) (place new after) (Some x) key to (Ok tt) → (k : Keys) (names : List Reference) (entries : List (Entry (KeyOf k)))
        → HasTree k old before names x entries mine → Outcome ks old new before after x (keyed k entries) mine
    of-kind to w k names entries h = elim (kinds k ks) [
      | inl same ↦ same_kind k same entries h
      | inr ne ↦ absurd (other-kind to w k ne names entries h)
    ]
      where
        same_kind : (j : Keys) → j ≡ ks → (es : List (Entry (KeyOf j))) → HasTree j old before names x es mine → Outcome ks old new before after x (keyed j es) mine
        same_kind j same es h =
            subst (λ (i : Keys). (es : List (Entry (KeyOf i))) → HasTree i old before names x es mine → Outcome ks old new before after x (keyed i es) mine) (sym same)
            (λ es h. used-outcome to w names es h) es h

    pub outcome : (to : Option ℕ) → Enters {T = Unit {0}} ks (place old before) (place new after) (Some x) key to (Ok tt) → (names : List Reference) (table : Table) → IsTreeOf old before names x table mine
        → Outcome ks old new before after x table mine
    outcome to w names without_keys t = unused-outcome to w t.0 t.1
    outcome to w names (by_strings entries) t = of-kind to w keys.by_texts names entries t
    outcome to w names (meant.by_ints entries) t = of-kind to w keys.by_ints names entries t
