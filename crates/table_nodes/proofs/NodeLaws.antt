-- Nodes of the area: what is seen of one, what a touch leaves, and what a write does.
use Rattle.std.proofs.Common.{◌≡◌, ◌≢◌, ◌⊎◌, ℕ, zero, suc, ◌<◌, List, length, set, Option, Some, None, Result, refl, sym, ap, ◌∙◌, subst, arith, inl, inr}
use Rattle.std.proofs.Math.ListN.{length-set}
use Rattle.std.proofs.lemmas.List.{get_or-set_same, get_or-set_other}
use Rattle.heap_places.specs.ps_outside.Outside.{Outside, SameContents}
use Rattle.heap_places.specs.obj_layout.Stored.{Space, Holds}
use Rattle.heap_places.specs.obj_layout.declared.kind.Kind.TheVariants.{Node}
use Rattle.heap_places.specs.obj_layout.declared.reference.Reference.{Reference}
use Rattle.heap_places.specs.obj_layout.declared.reference.Reference.TheVariants.{Nil, Pid, Local}
use Rattle.heap_places.specs.swizzle.Heap.{Heap, IsHeap, IsHeld, IsListed, Stands, ref_at, with_ref, with_num, with_mark, reference_to}
use Rattle.heap_places.specs.swizzle.Joint.{Shown, Joint, shown_at, name_at, name_of}
use Rattle.heap_places.specs.swizzle.Changes.{Within, Same, ChangedAt, Touched}
use Rattle.heap_places.specs.swizzle.Reading.{joint, LeavesOutside}
use Rattle.heap_places.proofs.of_swizzle.DamageLaws.{passes-same, reports-same}
use Rattle.heap_places.specs.swizzle.Touch.{Keeps, Denotes, IsTouchCall, IsTouchFault}
use Rattle.heap_places.proofs.of_swizzle.JointLaws.{joint-ref, joint-num}
use Rattle.heap_places.proofs.of_swizzle.MarkLaws.{joint-mark}
use Rattle.heap_places.proofs.of_swizzle.ReadingLaws.{leaves-touch, leaves-none, leaves-then}
use Rattle.heap_places.proofs.of_swizzle.TouchLaws.{keeps-refl, keeps-trans}
use Rattle.heap_places.proofs.of_swizzle.NameLaws.{Joint-one, name_at-injective, not_away, shown-counts, name-not_nil}
use Rattle.heap_places.proofs.PlaceLaws.{slot-name}
use Rattle.avl_trees.specs.Standing.{IsWritten}
use Rattle.heap_places.specs.Words.{int_in}
use Rattle.heap_places.specs.Shapes.{slot_of, word_in, IsText}
use Rattle.node_rows.specs.Keys.{Keys, by_ints, by_texts, KeyOf, Seen, IsKey}
use Rattle.table_nodes.proofs.BringLaws.{none_mark, none_num, none_ref}
use Rattle.table_nodes.proofs.MarkingLaws.{listed_marked}
use Rattle.table_nodes.proofs.KeyLaws.{AreSingle, key_one, key_grows, key_changed, key_back}
use Rattle.node_rows.specs.Nodes.{Seat, link_of, IsSeat, HasNode}
use Rattle.table_nodes.specs.Bringing.{NoneCome}
use Rattle.table_nodes.specs.Nodes.{IsSteady, rows_in, seen, IsStored, IsSingle, IsNode, IsNamed, IsLinked, Grows, OthersStay, side_of, with_sides, Links, HasSides, IsSide}
use Rattle.table_nodes.proofs.SeenLaws.{IsSeen, seen_joint, seen_grows}
use Rattle.heap_places.specs.swizzle.declared.fault.SwizzleFault.{SwizzleFault}
use Rattle.heap_places.specs.swizzle.declared.fault.SwizzleFault.TheVariants.{AreaFull, Vault}

-- what is seen under the name of an object of the area is that object
pub seen_held : (heap : Heap) (holds : ℕ → List ℕ → Type 0) (at : ℕ) (it : Shown) → IsHeap heap → IsHeld heap at → Joint heap holds (name_at heap at) it → it ≡ shown_at heap at
seen_held heap holds at it h held (inl a) = a.shown_is ∙ ap (shown_at heap) (name_at-injective heap a.at at h a.held held (sym a.name_is))
seen_held heap holds at it h held (inr v) = absurd (not_away heap at v.pid h held (sym v.name_is) v.away)

-- its row is told by its slots and words
pub seat_at : (ks : Keys) (heap : Heap) (outside : Outside Space) (at : ℕ) (n : Reference) (row : Seat ks) → IsHeap heap → IsNamed heap at n → rows_in ks heap outside n row → IsSeat ks (seen heap outside) (shown_at heap at) row
seat_at ks heap outside at n row h named r =
    let there : Joint heap (IsStored outside) (name_at heap at) r.it = subst (λ m. Joint heap (IsStored outside) m r.it) (sym named.name) r.there in
    subst (λ it. IsSeat ks (seen heap outside) it row) (seen_held heap (IsStored outside) at r.it h named.node.held there) r.is

-- an object of the area that shows as a node is one
pub node_seen : (ks : Keys) (heap : Heap) (outside : Outside Space) (at : ℕ) {row : Seat ks} → IsHeap heap → IsHeld heap at → HasNode ks (seen heap outside) (name_at heap at) row → IsNode heap at
node_seen ks heap outside at h held r =
    let same = seen_held heap (IsStored outside) at r.it h held r.there in
    let counts = shown-counts heap at h held in
    record { held = held; kind = sym (ap (λ it. it.kind) same) ∙ r.is.kind; refs = sym counts.0 ∙ (sym (ap (λ it. length it.refs) same) ∙ r.is.refs); nums = sym counts.1 ∙ (sym (ap (λ it. length it.nums) same) ∙ r.is.nums) }

-- the same seat, where its key is seen otherwise
seat_keyed : (ks : Keys) (old new : Seen) (it : Shown) (row : Seat ks) → IsSeat ks old it row → IsKey ks new it row.entry.key → IsSeat ks new it row
seat_keyed ks old new it row s key = record { kind = s.kind; refs = s.refs; nums = s.nums; left = s.left; right = s.right; key = key; value = s.value; height = s.height }

-- where all that was seen is seen, nodes are
pub rows_grow : (ks : Keys) (old new : Seen) → Within old new → (n : Reference) (row : Seat ks) → HasNode ks old n row → HasNode ks new n row
rows_grow ks old new w n row r = record { it = r.it; there = w n r.it r.there; is = seat_keyed ks old new r.it row r.is (key_grows ks old new r.it row.entry.key w r.is.key) }

-- where objects stay and nothing that is held is lost
grows_seen : (old new : Heap) (a b : Outside Space) → IsHeap new → Keeps old new → Within (joint old a) (joint new b) → LeavesOutside a b → Grows old new a b
grows_seen old new a b h keeps joints leaves = record {
  heap = h;
  leaves = leaves;
  seen = joints;
  keeps = keeps;
  rows = λ ks. rows_grow ks (seen old a) (seen new b) (seen_grows old new a b keeps joints leaves.contents);
  nodes = nodes;
  named = λ at n m. record { node = nodes at m.node; name = (keeps.objects at m.node.held).name ∙ m.name };
}
  where
    nodes : (at : ℕ) → IsNode old at → IsNode new at
    nodes at m = let s = keeps.objects at m.held in record { held = s.held; kind = ap (λ it. it.kind) s.shown_as ∙ m.kind; refs = s.refs ∙ m.refs; nums = s.nums ∙ m.nums }

pub grows_touch : {T : Type 0} {result : Result T SwizzleFault} (old new : Heap) (a b : Outside Space) (name : Reference) → IsHeap old → IsHeap new → IsTouchCall old new a b result → Keeps old new → Touched (joint old a) (joint new b) name
    → Grows old new a b
grows_touch old new a b name h h_new call keeps touched = grows_seen old new a b h_new keeps touched.grows (leaves-touch old new a b _ call)

-- what the vault holds stays
joint_outside : (heap : Heap) (a b : Outside Space) (n : Reference) (it : Shown) → SameContents a b → joint heap a n it → joint heap b n it
joint_outside heap a b n it same (inl k) = inl k
joint_outside heap a b n it same (inr v) =
    inr (record { pid = v.pid; words = v.words; name_is = v.name_is; there = record { space = v.there.space; is = same.kept v.there.space v.there.is; has = v.there.has }; away = v.away; shown_is = v.shown_is })

-- the link of a name that denotes an object of the area
pub linked_some : (heap : Heap) (to : ℕ) (n : Reference) (row_side : Option Reference) → IsNode heap to → Denotes heap (Some to) n → link_of n ≡ row_side → IsLinked heap (Some to) row_side
linked_some heap to Nil side node d e = absurd (name-not_nil heap to d.1)
linked_some heap to (Pid pid) side node d e = subst (λ s. IsLinked heap (Some to) s) e (record { node = node; name = d.1 })
linked_some heap to (Local at) side node d e = subst (λ s. IsLinked heap (Some to) s) e (record { node = node; name = d.1 })

pub linked_none : (heap : Heap) (n : Reference) (row_side : Option Reference) → n ≡ Nil → link_of n ≡ row_side → IsLinked heap None row_side
linked_none heap n side nil e = subst (λ s. IsLinked heap None s) (sym (ap link_of nil) ∙ e) tt

-- the side of a node that a slot names
pub side_seen : (ks : Keys) (heap : Heap) (outside : Outside Space) (at slot : ℕ) (row : Seat ks) → slot < 2 → IsSeat ks (seen heap outside) (shown_at heap at) row → link_of (name_of heap (ref_at heap at slot)) ≡ side_of slot row
side_seen ks heap outside at zero row lt s = ap link_of (sym (slot-name heap at zero)) ∙ s.left
side_seen ks heap outside at (suc zero) row lt s = ap link_of (sym (slot-name heap at (suc zero))) ∙ s.right
side_seen ks heap outside at (suc (suc n)) row lt s = absurd (omega arith)

pub joint_one : (heap : Heap) (outside : Outside Space) → IsHeap heap → IsSingle outside → AreSingle (joint heap outside)
joint_one heap outside h single n a b p q = Joint-one heap (Holds outside) n a b h single.one p q

pub seen_one : (heap : Heap) (outside : Outside Space) → IsHeap heap → IsSingle outside → AreSingle (seen heap outside)
seen_one heap outside h single n a b p q = joint_one heap outside h single n a b (seen_joint heap outside n a p) (seen_joint heap outside n b q)

-- nothing was touched, or a touch was refused
pub grows_none : (heap : Heap) (outside : Outside Space) → IsHeap heap → Grows heap heap outside outside
grows_none heap outside h = record {
  rows = λ ks n row k. k;
  nodes = λ at k. k;
  named = λ at n k. k;
  heap = h;
  leaves = leaves-none outside;
  seen = λ n it k. k;
  keeps = keeps-refl heap;
}

pub grows_refused : {T : Type 0} {result : Result T SwizzleFault} (old new : Heap) (a b : Outside Space) → IsHeap old → IsTouchCall old new a b result → new ≡ old → Grows old new a b
grows_refused old new a b h call same =
    let leaves = leaves-touch old new a b _ call in
    let keeps : Keeps old new = subst (λ (x : Heap). Keeps old x) (sym same) (keeps-refl old) in
    let joints : Within (joint old a) (joint new b) = λ n it k. subst (λ (x : Heap). joint x b n it) (sym same) (joint_outside old a b n it leaves.contents k) in
    grows_seen old new a b (subst IsHeap (sym same) h) keeps joints leaves

-- touches one after another
pub grows_then : (old mid new : Heap) (a b c : Outside Space) → Grows old mid a b → Grows mid new b c → Grows old new a c
grows_then old mid new a b c f g = record {
  rows = λ ks n row h. g.rows ks n row (f.rows ks n row h);
  nodes = λ at h. g.nodes at (f.nodes at h);
  named = λ at n h. g.named at n (f.named at n h);
  heap = g.heap;
  leaves = leaves-then a b c f.leaves g.leaves;
  seen = λ n it k. g.seen n it (f.seen n it k);
  keeps = keeps-trans old mid new f.keeps g.keeps;
}

-- Changes, one after another.

changed-then : (a b c : Seen) (n : Reference) (it new : Shown) → ChangedAt a n it b → ChangedAt b n new c → ChangedAt a n new c
changed-then a b c n it new f g = record {
  there = g.there;
  alone = g.alone;
  stays = λ m other ne h. g.stays m other ne (f.stays m other ne h);
  no_more = λ m other ne h. f.no_more m other ne (g.no_more m other ne h);
}

pub changed-same : (a b c : Seen) (n : Reference) (it : Shown) → ChangedAt a n it b → Same b c → ChangedAt a n it c
changed-same a b c n it f s = record {
  there = s.grows n it f.there;
  alone = λ other h. f.alone other (s.no_more n other h);
  stays = λ m other ne h. s.grows m other (f.stays m other ne h);
  no_more = λ m other ne h. f.no_more m other ne (s.no_more m other h);
}

-- what is seen has one row
pub seat_one : (ks : Keys) (seen : Seen) (it : Shown) (a b : Seat ks) → AreSingle seen → IsSeat ks seen it a → IsSeat ks seen it b → a ≡ b
seat_one ks seen it a b one p q =
    let key : a.entry.key ≡ b.entry.key = key_one ks seen it a.entry.key b.entry.key one p.key q.key in
    λ i. record { left = (sym p.left ∙ q.left) i; right = (sym p.right ∙ q.right) i; entry = record { key = key i; value = (sym p.value ∙ q.value) i }; height = (sym p.height ∙ q.height) i }

-- a node was written, whose key is seen as before
pub written_from : (ks : Keys) (old new : Seen) (n : Reference) (it : Shown) (row : Seat ks) → AreSingle new → ((x : Shown) → old n x → x.kind ≡ Node) → ChangedAt old n it new
    → IsSeat ks old it row → IsWritten (HasNode ks old) n row (HasNode ks new)
written_from ks old new n it row one nodes c s =
    let now : IsSeat ks new it row = seat_keyed ks old new it row s (key_changed ks old new n it it row.entry.key nodes c s.key) in
    record {
      there = record { it = it; there = c.there; is = now };
      alone = λ other h. seat_one ks new it other row one (subst (λ t. IsSeat ks new t other) (c.alone h.it h.there) h.is) now;
      stays = λ m other ne h. record { it = h.it; there = c.stays m h.it ne h.there; is = seat_keyed ks old new h.it other h.is (key_changed ks old new n it h.it other.entry.key nodes c h.is.key) };
      back = λ m other ne h. record { it = h.it; there = c.no_more m h.it ne h.there; is = seat_keyed ks new old h.it other h.is (key_back ks old new n it h.it other.entry.key s.kind c h.is.key) };
    }

-- a slot or the height of a node was written

pub key_like : (ks : Keys) (seen : Seen) (a b : Shown) (key : KeyOf ks) → word_in b 1 ≡ word_in a 1 → slot_of b 2 ≡ slot_of a 2 → IsKey ks seen a key → IsKey ks seen b key
key_like by_ints seen a b key w s k = ap int_in w ∙ k
key_like by_texts seen a b key w s k = subst (λ n. IsText seen n key) (sym s) k

seat_left : (ks : Keys) (seen : Seen) (it : Shown) (row : Seat ks) (n : Reference) (l : Option Reference) → IsSeat ks seen it row → link_of n ≡ l → IsSeat ks seen (record it { refs = set it.refs 0 n }) (record row { left = l })
seat_left ks seen it row n l s e = record {
  kind = s.kind;
  refs = length-set it.refs 0 n ∙ s.refs;
  nums = s.nums;
  left = ap link_of (get_or-set_same it.refs 0 n Nil (omega (arith, s.refs))) ∙ e;
  right = ap link_of (get_or-set_other it.refs 0 1 n Nil (omega arith)) ∙ s.right;
  key = key_like ks seen it _ row.entry.key refl (get_or-set_other it.refs 0 2 n Nil (omega arith)) s.key;
  value = get_or-set_other it.refs 0 3 n Nil (omega arith) ∙ s.value;
  height = s.height;
}

seat_right : (ks : Keys) (seen : Seen) (it : Shown) (row : Seat ks) (n : Reference) (r : Option Reference) → IsSeat ks seen it row → link_of n ≡ r → IsSeat ks seen (record it { refs = set it.refs 1 n }) (record row { right = r })
seat_right ks seen it row n r s e = record {
  kind = s.kind;
  refs = length-set it.refs 1 n ∙ s.refs;
  nums = s.nums;
  left = ap link_of (get_or-set_other it.refs 1 0 n Nil (omega arith)) ∙ s.left;
  right = ap link_of (get_or-set_same it.refs 1 n Nil (omega (arith, s.refs))) ∙ e;
  key = key_like ks seen it _ row.entry.key refl (get_or-set_other it.refs 1 2 n Nil (omega arith)) s.key;
  value = get_or-set_other it.refs 1 3 n Nil (omega arith) ∙ s.value;
  height = s.height;
}

seat_height : (ks : Keys) (seen : Seen) (it : Shown) (row : Seat ks) (h : ℕ) → IsSeat ks seen it row → IsSeat ks seen (record it { nums = set it.nums 2 h }) (record row { height = h })
seat_height ks seen it row h s = record {
  kind = s.kind;
  refs = s.refs;
  nums = length-set it.nums 2 h ∙ s.nums;
  left = s.left;
  right = s.right;
  key = key_like ks seen it _ row.entry.key (get_or-set_other it.nums 2 1 h 0 (omega arith)) refl s.key;
  value = s.value;
  height = get_or-set_same it.nums 2 h 0 (omega (arith, s.nums));
}

-- objects that stand where they were keep their names
pub stand_nodes : (a b : Heap) → Stands a b → (j : ℕ) → IsNode a j → IsNode b j
stand_nodes a b s j m = let t = s j m.held in record { held = t.held; kind = t.kind ∙ m.kind; refs = t.refs ∙ m.refs; nums = t.nums ∙ m.nums }

pub name_stands : (a b : Heap) → Stands a b → (j : ℕ) → IsHeld a j → name_at b j ≡ name_at a j
name_stands a b s j held = let t = s j held in ap (λ p. Rattle.std.specs.Prelude.if◌then◌else◌ (Rattle.std.specs.Prelude.◌==◌ p 0) (Local j) (Pid p)) t.pid

pub stand_named : (a b : Heap) → Stands a b → (j : ℕ) (n : Reference) → IsNamed a j n → IsNamed b j n
stand_named a b s j n m = record { node = stand_nodes a b s j m.node; name = name_stands a b s j m.node.held ∙ m.name }

pub stand_linked : (a b : Heap) → Stands a b → (side : Option ℕ) (l : Option Reference) → IsLinked a side l → IsLinked b side l
stand_linked a b s None None m = tt
stand_linked a b s (Some j) (Some n) m = stand_named a b s j n m
stand_linked a b s None (Some n) m = m
stand_linked a b s (Some j) None m = m

-- the name of a side's node is its link
link_named : (heap : Heap) (j : ℕ) (n : Reference) → name_at heap j ≡ n → link_of (name_at heap j) ≡ Some n
link_named heap j Nil e = absurd (name-not_nil heap j e)
link_named heap j (Pid pid) e = ap link_of e
link_named heap j (Local at) e = ap link_of e

pub link_side : (heap : Heap) (side : Option ℕ) (l : Option Reference) → IsLinked heap side l → link_of (name_of heap (reference_to side)) ≡ l
link_side heap None None m = refl
link_side heap (Some j) (Some n) m = link_named heap j n m.name
link_side heap None (Some n) m = absurd m
link_side heap (Some j) None m = absurd m

-- after a write the object shows what was written
pub shown_now : (a b : Heap) (outside : Outside Space) (at : ℕ) (it : Shown) → IsHeap b → IsHeld a at → Stands a b → ChangedAt (seen a outside) (name_at a at) it (seen b outside) → shown_at b at ≡ it
shown_now a b outside at it h held s c = sym (seen_held b (IsStored outside) at it h (s at held).held (subst (λ n. seen b outside n it) (sym (name_stands a b s at held)) c.there))

pub renamed : (a b : Heap) (outside : Outside Space) (m n : Reference) (it : Shown) → m ≡ n → ChangedAt (seen a outside) m it (seen b outside) → ChangedAt (seen a outside) n it (seen b outside)
renamed a b outside m n it e c = subst (λ k. ChangedAt (seen a outside) k it (seen b outside)) e c

-- a mark changes nothing that is seen
pub mark_joint : (a b : Heap) (outside : Outside Space) (at : ℕ) → IsHeap a → IsHeld a at → b ≡ with_mark a at → IsSingle outside → Same (joint a outside) (joint b outside)
mark_joint a b outside at h held e single = subst (λ x. Same (joint a outside) (joint x outside)) (sym e) (joint-mark a (Holds outside) at h held single.one)

pub mark_seen : (a b : Heap) (outside : Outside Space) (at : ℕ) → IsHeap a → IsHeld a at → b ≡ with_mark a at → IsSingle outside → Same (seen a outside) (seen b outside)
mark_seen a b outside at h held e single =
    subst (λ x. Same (seen a outside) (seen x outside)) (sym e) (joint-mark a (IsStored outside) at h held (λ pid x y p q. single.one pid x y p.there q.there))

-- No node but the marked one has changed, where an object was written.

pub stand_then : (a b c : Heap) → Stands a b → Stands b c → Stands a c
stand_then a b c f g j h = let s = f j h in let t = g j s.held in record { held = t.held; kind = t.kind ∙ s.kind; refs = t.refs ∙ s.refs; nums = t.nums ∙ s.nums; bytes = t.bytes ∙ s.bytes; pid = t.pid ∙ s.pid }

pub write_steady : (a b : Heap) (at : ℕ) → Stands a b → NoneCome a b → ((j : ℕ) → IsListed j b.assigned → IsListed j a.assigned ⊎ (j ≡ at)) → IsSteady a b at
write_steady a b at s none only n ne c =
    let held = none c.at c.named.node.held in
    let t = s c.at held in
    let name : name_at a c.at ≡ n = sym (name_stands a b s c.at held) ∙ c.named.name in
    record {
      at = c.at;
      named = record { node = record { held = held; kind = sym t.kind ∙ c.named.node.kind; refs = sym t.refs ∙ c.named.node.refs; nums = sym t.nums ∙ c.named.node.nums }; name = name };
      why = elim c.why [
        | inl z ↦ inl (sym t.pid ∙ z)
        | inr l ↦ elim (only c.at l) [ inl m ↦ inr m | inr e ↦ absurd (ne (sym name ∙ ap (name_at a) e)) ]
      ];
    }

pub marked_steady : (a b c : Heap) (at : ℕ) → IsHeld b at → Stands a b → NoneCome a b → b.assigned ≡ a.assigned → Stands b c → c ≡ with_mark b at → IsSteady a c at
marked_steady a b c at held s none same t e =
    write_steady a c at (stand_then a b c s t) (λ j k. none j (none_mark b c at held e j k))
    (λ j l. elim (listed_marked b at j (subst (λ (x : Heap). IsListed j x.assigned) e l)) [ inl m ↦ inl (subst (IsListed j) same m) | inr d ↦ inr d ])

pub links : (h0 h1 h2 h3 h4 : Heap) (outside : Outside Space) (at : ℕ) (left right : Option ℕ) (height : ℕ) → IsNode h0 at → IsHeap h0 → IsHeap h1 → IsHeap h2 → IsHeap h3 → IsHeap h4
    → h1 ≡ with_ref h0 at 0 (reference_to left) → h2 ≡ with_ref h1 at 1 (reference_to right) → h3 ≡ with_num h2 at 2 height → h4 ≡ with_mark h3 at
    → Stands h0 h1 → Stands h1 h2 → Stands h2 h3 → Stands h3 h4 → Links h0 h4 outside at left right height
links h0 h1 h2 h3 h4 outside at left right height node i0 i1 i2 i3 i4 e1 e2 e3 e4 s1 s2 s3 s4 = record {
  heap = i4;
  written = written;
  others = others;
  steady = marked_steady h0 h3 h4 at held3 (stand_then h0 h2 h3 (stand_then h0 h1 h2 s1 s2) s3)
      (λ j k. none_ref h0 h1 at 0 (reference_to left) node.held e1 j (none_ref h1 h2 at 1 (reference_to right) held1 e2 j (none_num h2 h3 at 2 height held2 e3 j k)))
      (ap (λ (x : Heap). x.assigned) e3 ∙ (ap (λ (x : Heap). x.assigned) e2 ∙ ap (λ (x : Heap). x.assigned) e1)) s4 e4;
  nodes = λ j m. stand_nodes h3 h4 s4 j (stand_nodes h2 h3 s3 j (stand_nodes h1 h2 s2 j (stand_nodes h0 h1 s1 j m)));
  named = λ j n m. stand_named h3 h4 s4 j n (stand_named h2 h3 s3 j n (stand_named h1 h2 s2 j n (stand_named h0 h1 s1 j n m)));
}
  where
    held1 : IsHeld h1 at
    held1 = (s1 at node.held).held

    held2 : IsHeld h2 at
    held2 = (s2 at held1).held

    held3 : IsHeld h3 at
    held3 = (s3 at held2).held

    it1 : Shown
    it1 = record (shown_at h0 at) { refs = set (shown_at h0 at).refs 0 (name_of h0 (reference_to left)) }

    it2 : Shown
    it2 = record (shown_at h1 at) { refs = set (shown_at h1 at).refs 1 (name_of h1 (reference_to right)) }

    it3 : Shown
    it3 = record (shown_at h2 at) { nums = set (shown_at h2 at).nums 2 height }

    c1 : (holds : ℕ → List ℕ → Type 0) → ChangedAt (Joint h0 holds) (name_at h0 at) it1 (Joint h1 holds)
    c1 holds = subst (λ x. ChangedAt (Joint h0 holds) (name_at h0 at) it1 (Joint x holds)) (sym e1) (joint-ref h0 holds at 0 (reference_to left) i0 node.held)

    c2 : (holds : ℕ → List ℕ → Type 0) → ChangedAt (Joint h1 holds) (name_at h1 at) it2 (Joint h2 holds)
    c2 holds = subst (λ x. ChangedAt (Joint h1 holds) (name_at h1 at) it2 (Joint x holds)) (sym e2) (joint-ref h1 holds at 1 (reference_to right) i1 held1)

    c3 : (holds : ℕ → List ℕ → Type 0) → ChangedAt (Joint h2 holds) (name_at h2 at) it3 (Joint h3 holds)
    c3 holds = subst (λ x. ChangedAt (Joint h2 holds) (name_at h2 at) it3 (Joint x holds)) (sym e3) (joint-num h2 holds at 2 height i2 held2)

    marked : IsSingle outside → Same (joint h3 outside) (joint h4 outside)
    marked single = mark_joint h3 h4 outside at i3 held3 e4 single

    others : IsSingle outside → OthersStay h0 h4 outside at
    others single n it ne k =
        let ne1 : n ≢ name_at h1 at = λ e. ne (e ∙ name_stands h0 h1 s1 at node.held) in
        let ne2 : n ≢ name_at h2 at = λ e. ne1 (e ∙ name_stands h1 h2 s2 at held1) in
        (marked single).grows n it ((c3 (Holds outside)).stays n it ne2 ((c2 (Holds outside)).stays n it ne1 ((c1 (Holds outside)).stays n it ne k)))

    written : (ks : Keys) (n : Reference) (l r : Option Reference) (row : Seat ks) → IsSingle outside → IsNamed h0 at n → IsLinked h0 left l → IsLinked h0 right r
        → rows_in ks h0 outside n row → IsWritten (rows_in ks h0 outside) n (with_sides l r height row) (rows_in ks h4 outside)
    written ks n l s row single named ll ls r =
        let seat0 = seat_at ks h0 outside at n row i0 named r in
        let seat1 = seat_left ks (seen h0 outside) (shown_at h0 at) row (name_of h0 (reference_to left)) l seat0 (link_side h0 left l ll) in
        let seat1' = subst (λ it. IsSeat ks (seen h0 outside) it (record row { left = l })) (sym (shown_now h0 h1 outside at it1 i1 node.held s1 (c1 (IsStored outside)))) seat1 in
        let seat2 = seat_right ks (seen h0 outside) (shown_at h1 at) (record row { left = l }) (name_of h1 (reference_to right)) s seat1' (link_side h1 right s (stand_linked h0 h1 s1 right s ls)) in
        let seat2' = subst (λ it. IsSeat ks (seen h0 outside) it (record row { left = l; right = s })) (sym (shown_now h1 h2 outside at it2 i2 held1 s2 (c2 (IsStored outside)))) seat2 in
        let seat3 = seat_height ks (seen h0 outside) (shown_at h2 at) (record row { left = l; right = s }) height seat2' in
        let n1 = name_stands h0 h1 s1 at node.held ∙ named.name in
        let n2 = name_stands h1 h2 s2 at held1 ∙ n1 in
        let d1 = renamed h0 h1 outside (name_at h0 at) n it1 named.name (c1 (IsStored outside)) in
        let d2 = renamed h1 h2 outside (name_at h1 at) n it2 n1 (c2 (IsStored outside)) in
        let d3 = renamed h2 h3 outside (name_at h2 at) n it3 n2 (c3 (IsStored outside)) in
        let d = changed-then (seen h0 outside) (seen h2 outside) (seen h3 outside) n it2 it3 (changed-then (seen h0 outside) (seen h1 outside) (seen h2 outside) n it1 it2 d1 d2) d3 in
        let nodes : (x : Shown) → seen h0 outside n x → x.kind ≡ Node = λ x there. ap (λ it. it.kind) (seen_one h0 outside i0 single n x (r.it) there r.there) ∙ r.is.kind in
        written_from ks (seen h0 outside) (seen h4 outside) n it3 (with_sides l s height row) (seen_one h4 outside i4 single) nodes (changed-same (seen h0 outside) (seen h3 outside) (seen h4 outside) n it3 d (mark_seen h3 h4 outside at i3 held3 e4 single)) seat3

-- nothing was written: the node has these sides already
pub links_still : (heap : Heap) (outside : Outside Space) (at : ℕ) (left right : Option ℕ) (height : ℕ) → IsHeap heap → HasSides heap at left right height
    → Links heap heap outside at left right height
links_still heap outside at left right height h has = record {
  heap = h;
  written = written;
  others = λ single n it ne k. k;
  steady = λ n ne c. c;
  nodes = λ j m. m;
  named = λ j n m. m;
}
  where
    written : (ks : Keys) (n : Reference) (l r : Option Reference) (row : Seat ks) → IsSingle outside → IsNamed heap at n → IsLinked heap left l → IsLinked heap right r
        → rows_in ks heap outside n row → IsWritten (rows_in ks heap outside) n (with_sides l r height row) (rows_in ks heap outside)
    written ks n l s row single named ll ls r =
        let seat = seat_at ks heap outside at n row h named r in
        let el : row.left ≡ l = sym seat.left ∙ (ap link_of (slot-name heap at 0 ∙ has.left_is) ∙ link_side heap left l ll) in
        let er : row.right ≡ s = sym seat.right ∙ (ap link_of (slot-name heap at 1 ∙ has.right_is) ∙ link_side heap right s ls) in
        let eh : row.height ≡ height = sym seat.height ∙ has.height_is in
        let same : row ≡ with_sides l s height row = λ i. record { left = el i; right = er i; entry = row.entry; height = eh i } in
        let one : (other : Seat ks) → rows_in ks heap outside n other → other ≡ row =
        λ other o. seat_one ks (seen heap outside) (r.it) other row (seen_one heap outside h single) (subst (λ it. IsSeat ks (seen heap outside) it other) (seen_one heap outside h single n o.it r.it o.there r.there) o.is) r.is in
        let written : IsWritten (rows_in ks heap outside) n row (rows_in ks heap outside) = record { there = r; alone = one; stays = λ m other ne k. k; back = λ m other ne k. k } in
        subst (λ x. IsWritten (rows_in ks heap outside) n x (rows_in ks heap outside)) same written

-- the node that a side names
pub side_kind : (ks : Keys) (old new : Heap) (a b : Outside Space) (to : ℕ) (n : Reference) (side : Option Reference) → IsHeap new → Grows old new a b → ((m : Reference) → side ≡ Some m → (r : Seat ks) × rows_in ks old a m r) → Denotes new (Some to) n → link_of n ≡ side → IsNode new to
side_kind ks old new a b to Nil side h g row d e = absurd (name-not_nil new to d.1)
side_kind ks old new a b to (Pid pid) side h g row d e = node_seen ks new b to h d.0 (subst (λ m. HasNode ks (seen new b) m (row (Pid pid) (sym e)).0) (sym d.1) (g.rows ks _ _ (row (Pid pid) (sym e)).1))
side_kind ks old new a b to (Local at) side h g row d e = node_seen ks new b to h d.0 (subst (λ m. HasNode ks (seen new b) m (row (Local at) (sym e)).0) (sym d.1) (g.rows ks _ _ (row (Local at) (sym e)).1))

pub single_kept : (a b : Outside Space) → SameContents a b → IsSingle a → IsSingle b
single_kept a b same s = record { one = λ pid x y k l. s.one pid x y (back pid x k) (back pid y l) }
  where
    back : (pid : ℕ) (x : List ℕ) → Holds b pid x → Holds a pid x
    back pid x k = record { space = k.space; is = same.no_other k.space k.is; has = k.has }

pub touch_back : (a b : Outside Space) (heap : Heap) (reference : Reference) (fault : SwizzleFault) → SameContents a b → IsTouchFault heap b reference fault → IsTouchFault heap a reference fault
touch_back a b heap reference (AreaFull top wanted size) same f =
    (f.0, f.1, f.2, (f.3.0, f.3.1, f.3.2, passes-same a b f.3.0 same f.3.3, λ words k. f.3.4 words (record { space = k.space; is = same.kept k.space k.is; has = k.has })))
touch_back a b heap reference (Vault fault) same f = (f.0, f.1, f.2, reports-same a b f.0 fault same f.3)

pub side_row : (ks : Keys) (heap : Heap) (outside : Outside Space) (side : Option Reference) → IsSide ks heap outside side → (m : Reference) → side ≡ Some m → (r : Seat ks) × rows_in ks heap outside m r
side_row ks heap outside None s m e = absurd (cc)
side_row ks heap outside (Some n) s m e = let same : n ≡ m = cc in subst (λ k. (r : Seat ks) × rows_in ks heap outside k r) same s

-- the node of a side is seen
pub side_known : (ks : Keys) (heap : Heap) (outside : Outside Space) (n : Reference) (side : Option Reference) → link_of n ≡ side → IsSide ks heap outside side → IsSeen heap outside n
side_known ks heap outside n side e s pid f =
    let row = side_row ks heap outside side s n (sym e ∙ (ap link_of f ∙ ap Some (sym f))) in
    record { it = row.1.it; is = row.1.there }
