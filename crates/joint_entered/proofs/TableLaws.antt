-- The tree of the table that was changed hangs together.
use Rattle.std.proofs.Common.{◌≡◌, ℕ, List, [], refl, sym, ap, ◌∙◌, inl, inr}
use Rattle.joint_ops.specs.ps_outside.Outside.{Outside}
use Rattle.joint_ops.specs.obj_layout.Stored.{Space}
use Rattle.joint_ops.specs.obj_layout.declared.reference.Reference.{Reference}
use Rattle.joint_ops.specs.obj_layout.declared.reference.Reference.TheVariants.{Pid, Local}
use Rattle.joint_ops.specs.swizzle.Heap.{Heap, IsHeap, IsHeld, header_at}
use Rattle.joint_ops.specs.swizzle.Joint.{Shown, name_at}
use Rattle.swizzle.proofs.NameLaws.{name-none}
use Rattle.joint_ops.specs.heap_places.Shapes.{slot_of}
use Rattle.joint_ops.specs.heap_meaning.Tables.{names_of}
use Rattle.joint_ops.specs.World.{seen}
use Rattle.avl_trees.specs.Trees.{leaf, items}
use Rattle.avl_trees.specs.Standing.{Stands}
use Rattle.node_rows.specs.Keys.{Keys, Seen, by_ints, by_texts}
use Rattle.node_rows.specs.Nodes.{HasNode, IsAmong}
use Rattle.table_nodes.specs.Nodes as nodes
use Rattle.table_lib.specs.Entries.{SparesBut}
use Rattle.joint_tables.proofs.SeenLaws.{nodes-seen, tree-within}
use Rattle.joint_held.specs.Held.{HaveNoTexts, IsTree}
use Rattle.joint_entered.proofs.OutcomeLaws.{HasChanged, StaysBeside}
use Rattle.joint_entered.proofs.SeenLaws.{fresh-node, hung-held, hung-nodes, text-kept, tree-known}

-- a table without nodes
pub empty-tree : (ks : Keys) (here : Heap) (seen : Seen) (n : Reference) → IsTree here seen n ks leaf
empty-tree ks here seen n = record { hung = tt; plain = plain ks; top = λ c. absurd c.among; stored = λ pid k. absurd k }
  where
    plain : (k : Keys) → HaveNoTexts k seen []
    plain by_texts = tt
    plain by_ints = λ m it k s. absurd k

-- no node of a tree with int keys has a key text
plain-now : (ks : Keys) (old new : Heap) (before after : Outside Space) (x : ℕ) (mine : List Reference) → IsHeap old → IsHeap new → nodes.IsSingle before → SparesBut x old new before after
    → StaysBeside ks old new before after x mine → (c : HasChanged ks old new before after x mine) → Stands (HasNode ks (seen old before)) c.was → HaveNoTexts ks (seen old before) (names_of (items c.was))
    → HaveNoTexts ks (seen new after) (names_of (items c.now))
plain-now by_texts old new before after x mine was_sound sound single spares b c s p = tt
plain-now by_ints old new before after x mine was_sound sound single spares b c s p = λ m it k there. elim (c.names m k) [
  | inl was ↦
      let known = tree-known by_ints (seen old before) c.was s m was in
      text-kept by_ints old new before after x mine was_sound sound single spares b m known.has.it it known.has.there there ∙ p m known.has.it was known.has.there
  | inr unseen ↦
      let f = fresh-node by_ints old new before after x mine was_sound sound single spares b m it unseen there in
      ap (λ (i : Shown). slot_of i 2) f.shown ∙ f.made.plain refl
]

module _ (ks : Keys) (old new : Heap) (before after : Outside Space) (x : ℕ) (mine : List Reference) (was_sound : IsHeap old) (sound : IsHeap new) (single : nodes.IsSingle before) (spares : SparesBut x old new before after)
    (b : StaysBeside ks old new before after x mine) (c : HasChanged ks old new before after x mine) (there : IsHeld old x) (n : Reference) (named : name_at old x ≡ n) (was : IsTree old (seen old before) n ks c.was) where
  stood : Stands (HasNode ks (seen old before)) c.was
  stood = tree-within ks (nodes.seen old before) (seen old before) c.was (nodes-seen old before) c.pairs.stands

  pub now-stands : Stands (HasNode ks (seen new after)) c.now
  now-stands = tree-within ks (nodes.seen new after) (seen new after) c.now (nodes-seen new after) c.has.table.stands

  stored : (pid : ℕ) → IsAmong (Pid pid) (names_of (items c.now)) → (at : ℕ) × (n ≡ Pid at)
  stored pid k = elim (c.names (Pid pid) k) [
    | inl among ↦ was.stored pid among
    | inr unseen ↦
        let known = tree-known ks (seen new after) c.now now-stands (Pid pid) k in
        let f = fresh-node ks old new before after x mine was_sound sound single spares b (Pid pid) known.has.it unseen known.has.there in
        let bad : Local f.at ≡ Pid pid = sym (name-none (header_at new f.at) f.at f.made.unstored) ∙ f.name in
        absurd (cc)
  ]

  pub changed-tree : IsTree new (seen new after) n ks c.now
  changed-tree = record {
    hung = hung-held ks new after sound c.now c.has.table.stands (c.hung (hung-nodes ks old before was_sound c.was c.pairs.stands was.hung));
    plain = plain-now ks old new before after x mine was_sound sound single spares b c stood was.plain;
    top = λ k. (let l = spares.lasts x there in record { at = x; held = l.held; among = inl (l.name ∙ named); why = inr c.has.noted });
    stored = stored;
  }
