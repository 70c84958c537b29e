-- The value of a node was written, or is the one that it has.
use Rattle.std.proofs.Common.{◌≡◌, ℕ, List, set, Some, refl, sym, ap, ◌∙◌, subst, arith}
use Rattle.std.proofs.Math.ListN.{length-set}
use Rattle.std.proofs.lemmas.List.{get_or-set_same, get_or-set_other}
use Rattle.heap_places.specs.ps_outside.Outside.{Outside}
use Rattle.heap_places.specs.obj_layout.Stored.{Space, Holds}
use Rattle.heap_places.specs.obj_layout.declared.kind.Kind.TheVariants.{Node}
use Rattle.heap_places.specs.obj_layout.declared.reference.Reference.{Reference}
use Rattle.heap_places.specs.obj_layout.declared.reference.Reference.TheVariants.{Nil, Local}
use Rattle.heap_places.specs.swizzle.Heap.{Heap, IsHeap, Stands, with_ref, with_mark}
use Rattle.heap_places.specs.swizzle.Joint.{Shown, Joint, shown_at, name_at}
use Rattle.heap_places.specs.swizzle.Changes.{ChangedAt}
use Rattle.heap_places.proofs.of_swizzle.JointLaws.{joint-ref}
use Rattle.heap_places.proofs.PlaceLaws.{slot-name}
use Rattle.avl_trees.specs.Standing.{IsWritten}
use Rattle.node_rows.specs.Keys.{Keys, Seen}
use Rattle.node_rows.specs.Nodes.{Seat, IsSeat}
use Rattle.table_nodes.specs.Nodes.{IsNode, IsNamed, IsSingle, IsSlot, IsStored, OthersStay, rows_in, seen}
use Rattle.table_nodes.specs.Entering.{Puts, with_value}
use Rattle.table_nodes.proofs.BringLaws.{none_ref}
use Rattle.table_nodes.proofs.NodeLaws.{marked_steady, seat_at, seat_one, seen_one, changed-same, written_from, key_like, mark_joint, mark_seen, stand_nodes, stand_named, renamed}

seat_value : (ks : Keys) (seen : Seen) (it : Shown) (row : Seat ks) (n : Reference) → IsSeat ks seen it row → IsSeat ks seen (record it { refs = set it.refs 3 n }) (with_value n row)
seat_value ks seen it row n s = record {
  kind = s.kind;
  refs = length-set it.refs 3 n ∙ s.refs;
  nums = s.nums;
  left = ap Rattle.node_rows.specs.Nodes.link_of (get_or-set_other it.refs 3 0 n Nil (omega arith)) ∙ s.left;
  right = ap Rattle.node_rows.specs.Nodes.link_of (get_or-set_other it.refs 3 1 n Nil (omega arith)) ∙ s.right;
  key = key_like ks seen it _ row.entry.key refl (get_or-set_other it.refs 3 2 n Nil (omega arith)) s.key;
  value = get_or-set_same it.refs 3 n Nil (omega (arith, s.refs));
  height = s.height;
}

pub puts : (h0 h1 h2 : Heap) (outside : Outside Space) (at value : ℕ) → IsNode h0 at → IsHeap h0 → IsHeap h1 → IsHeap h2
    → h1 ≡ with_ref h0 at 3 (Local value) → h2 ≡ with_mark h1 at → Stands h0 h1 → Stands h1 h2 → Puts h0 h2 outside at value
puts h0 h1 h2 outside at value node i0 i1 i2 e1 e2 s1 s2 = record {
  heap = i2;
  written = written;
  others = others;
  steady = marked_steady h0 h1 h2 at (s1 at node.held).held s1 (none_ref h0 h1 at 3 (Local value) node.held e1) (ap (λ (x : Heap). x.assigned) e1) s2 e2;
  nodes = λ j m. stand_nodes h1 h2 s2 j (stand_nodes h0 h1 s1 j m);
  named = λ j n m. stand_named h1 h2 s2 j n (stand_named h0 h1 s1 j n m);
}
  where
    it1 : Shown
    it1 = record (shown_at h0 at) { refs = set (shown_at h0 at).refs 3 (name_at h0 value) }

    c1 : (holds : ℕ → List ℕ → Type 0) → ChangedAt (Joint h0 holds) (name_at h0 at) it1 (Joint h1 holds)
    c1 holds = subst (λ x. ChangedAt (Joint h0 holds) (name_at h0 at) it1 (Joint x holds)) (sym e1) (joint-ref h0 holds at 3 (Local value) i0 node.held)

    others : IsSingle outside → OthersStay h0 h2 outside at
    others single n it ne k = (mark_joint h1 h2 outside at i1 (s1 at node.held).held e2 single).grows n it ((c1 (Holds outside)).stays n it ne k)

    written : (ks : Keys) (n : Reference) (row : Seat ks) → IsSingle outside → IsNamed h0 at n → rows_in ks h0 outside n row
        → IsWritten (rows_in ks h0 outside) n (with_value (name_at h0 value) row) (rows_in ks h2 outside)
    written ks n row single named r =
        let seat0 = seat_at ks h0 outside at n row i0 named r in
        let seat1 = seat_value ks (seen h0 outside) (shown_at h0 at) row (name_at h0 value) seat0 in
        let d1 = renamed h0 h1 outside (name_at h0 at) n it1 named.name (c1 (IsStored outside)) in
        let nodes : (x : Shown) → seen h0 outside n x → x.kind ≡ Node = λ x there. ap (λ it. it.kind) (seen_one h0 outside i0 single n x (r.it) there r.there) ∙ r.is.kind in
        written_from ks (seen h0 outside) (seen h2 outside) n it1 (with_value (name_at h0 value) row) (seen_one h2 outside i2 single) nodes (changed-same (seen h0 outside) (seen h1 outside) (seen h2 outside) n it1 d1 (mark_seen h1 h2 outside at i1 (s1 at node.held).held e2 single)) seat1

-- nothing was written: the node has this value already
pub puts_still : (heap : Heap) (outside : Outside Space) (at value : ℕ) → IsHeap heap → IsSlot heap at 3 (Some value) → Puts heap heap outside at value
puts_still heap outside at value h has = record {
  heap = h;
  written = written;
  others = λ single n it ne k. k;
  steady = λ n ne c. c;
  nodes = λ j m. m;
  named = λ j n m. m;
}
  where
    written : (ks : Keys) (n : Reference) (row : Seat ks) → IsSingle outside → IsNamed heap at n → rows_in ks heap outside n row
        → IsWritten (rows_in ks heap outside) n (with_value (name_at heap value) row) (rows_in ks heap outside)
    written ks n row single named r =
        let seat = seat_at ks heap outside at n row h named r in
        let e : row.entry.value ≡ name_at heap value = sym seat.value ∙ (slot-name heap at 3 ∙ has) in
        let same : row ≡ with_value (name_at heap value) row = λ i. record { left = row.left; right = row.right; entry = record { key = row.entry.key; value = e i }; height = row.height } in
        let one : (other : Seat ks) → rows_in ks heap outside n other → other ≡ row =
        λ other o. seat_one ks (seen heap outside) (r.it) other row (seen_one heap outside h single) (subst (λ it. IsSeat ks (seen heap outside) it other) (seen_one heap outside h single n o.it r.it o.there r.there) o.is) r.is in
        let written : IsWritten (rows_in ks heap outside) n row (rows_in ks heap outside) = record { there = r; alone = one; stays = λ m other ne k. k; back = λ m other ne k. k } in
        subst (λ x. IsWritten (rows_in ks heap outside) n x (rows_in ks heap outside)) same written
