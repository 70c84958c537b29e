-- Objects that are no nodes stay where nodes are read and written, one step after another.
use Rattle.std.proofs.Common.{slice_index, ◌≡◌, ◌≢◌, ◌⊎◌, ℕ, ◌+◌, true, false, if◌then◌else◌, arith, [], ◌∷◌, ◌++◌, List, set, Option, Result, Ok, Err, OnOk, refl, sym, ap, ◌∙◌, subst, inl, inr}
use Rattle.std.proofs.lemmas.Bool.{cases_eq}
use Rattle.std.proofs.lemmas.List.{get_or-set_other}
use Rattle.heap_places.specs.ps_outside.Outside.{Outside, SameContents}
use Rattle.heap_places.specs.obj_layout.Stored.{Space, Holds}
use Rattle.heap_places.specs.obj_layout.declared.reference.Reference.{Reference}
use Rattle.heap_places.specs.obj_layout.declared.reference.Reference.TheVariants.{Nil}
use Rattle.heap_places.specs.swizzle.declared.fault.SwizzleFault.{SwizzleFault}
use Rattle.heap_places.specs.swizzle.Heap.{Heap, IsHeap, IsHeld, IsListed, Stands, flagged, header_at, is_assigned, object_at, reference_to, top_of, with_mark, with_num, with_object, with_ref, num_at}
use Rattle.heap_places.specs.swizzle.Objects.{Object, replace_from}
use Rattle.heap_places.proofs.of_swizzle.HeapLaws.{size-replaced}
use Rattle.heap_places.proofs.of_swizzle.KeptLaws.{held_is}
use Rattle.heap_places.proofs.of_swizzle.StandLaws.{like_nums, like_flags}
use Rattle.heap_places.specs.swizzle.Joint.{Shown, Joint, shown_at, name_at, name_of}
use Rattle.heap_places.specs.swizzle.Changes.{Same, ChangedAt, Within}
use Rattle.heap_places.specs.swizzle.Reading.{joint}
use Rattle.heap_places.specs.Shapes.{slot_of}
use Rattle.heap_places.specs.swizzle.Touch.{Keeps}
use Rattle.heap_places.proofs.of_swizzle.JointLaws.{IsLike, joint-ref, joint-num, like_long, like_ref, object-replaced_other, object-replaced}
use Rattle.heap_places.proofs.of_swizzle.MarkLaws.{joint-mark}
use Rattle.heap_places.proofs.of_swizzle.NameLaws.{name_at-injective, not_away}
use Rattle.node_rows.specs.Keys.{Keys, KeyOf}
use Rattle.table_nodes.specs.Nodes.{IsNode, IsSingle, OthersStay, Grows}
use Rattle.table_nodes.specs.Entering.{Makes}
use Rattle.table_nodes.specs.Sparing.{IsNoted, IsOfKind, Lasts, Spares}
use Rattle.table_nodes.proofs.MarkingLaws.{marked_listed, listed_still, listed_marked}
use Rattle.table_nodes.proofs.NodeLaws.{name_stands, seen_held, single_kept}

pub node_lasts : (old new : Heap) (at : ℕ) → Lasts old new at → IsNode old at → IsNode new at
node_lasts old new at l n = record { held = l.held; kind = l.kind ∙ n.kind; refs = l.refs ∙ n.refs; nums = l.nums ∙ n.nums }

pub lasts_then : (a b c : Heap) (at : ℕ) → Lasts a b at → Lasts b c at → Lasts a c at
lasts_then a b c at f g = record { held = g.held; name = g.name ∙ f.name; kind = g.kind ∙ f.kind; refs = g.refs ∙ f.refs; nums = g.nums ∙ f.nums; bytes = g.bytes ∙ f.bytes }

pub spares_none : (heap : Heap) (outside : Outside Space) → Spares heap heap outside outside
spares_none heap outside = record {
  lasts = λ at h. record { held = h; name = refl; kind = refl; refs = refl; nums = refl; bytes = refl };
  kept = λ at h. inl refl;
  noted = λ at l. l;
  only = λ at l. inl l;
  others = λ single n it ne h. h;
  kinds = λ single n it h. record { it = it; there = h; kind_is = refl };
  flags = λ at h. inl refl;
  homes = λ at h. refl;
  texts = λ at h. refl;
  size = refl;
  top = omega arith;
  contents = record { kept = λ x h. h; no_other = λ x h. h };
}

-- nothing was written
pub spares_seen : (old new : Heap) (a b : Outside Space) → Keeps old new → Within (joint old a) (joint new b) → SameContents a b → Spares old new a b
spares_seen old new a b keeps seen same = record {
  lasts = λ at h. (let s = keeps.objects at h in record { held = s.held; name = s.name; kind = ap (λ it. it.kind) s.shown_as; refs = s.refs; nums = s.nums; bytes = ap (λ it. it.bytes) s.shown_as });
  kept = λ at h. inl (keeps.objects at h).shown_as;
  noted = λ at l. subst (λ is. IsListed at is) (sym keeps.assigned) l;
  only = λ at l. inl (subst (λ is. IsListed at is) keeps.assigned l);
  others = λ single n it ne h. seen n it h;
  kinds = λ single n it h. record { it = it; there = seen n it h; kind_is = refl };
  flags = λ at h. inl (keeps.objects at h).flags;
  homes = λ at h. ap (λ (it : Shown). slice_index it.nums 0) (keeps.objects at h).shown_as;
  texts = λ at h. ap (λ (it : Shown). slot_of it 2) (keeps.objects at h).shown_as;
  size = keeps.size;
  top = keeps.top;
  contents = same;
}

pub spares_touched : (old new : Heap) (a b : Outside Space) → Keeps old new → Grows old new a b → Spares old new a b
spares_touched old new a b keeps grows = spares_seen old new a b keeps grows.seen grows.leaves.contents

-- a node was made
pub spares_made : (ks : Keys) (old new : Heap) (outside : Outside Space) (at : ℕ) (key : KeyOf ks) (value : Reference) → Keeps old new → Makes ks old new outside at key value → Spares old new outside outside
spares_made ks old new outside at key value keeps made = spares_seen old new outside outside keeps made.seen (record { kept = λ x h. h; no_other = λ x h. h })

module _ (a b c : Heap) (x y z : Outside Space) (s : Spares a b x y) (t : Spares b c y z) where
  kept_then : (at : ℕ) → (shown_at b at ≡ shown_at a at) ⊎ IsNoted b at → (shown_at c at ≡ shown_at b at) ⊎ IsNoted c at → (shown_at c at ≡ shown_at a at) ⊎ IsNoted c at
  kept_then at (inl e) (inl d) = inl (d ∙ e)
  kept_then at (inr n) (inl d) = inr (node_lasts b c at (t.lasts at n.0.held) n.0, t.noted at n.1)
  kept_then at (inl e) (inr m) = inr m
  kept_then at (inr n) (inr m) = inr m

  only_then : (at : ℕ) → IsListed at b.assigned ⊎ IsNode c at → IsListed at a.assigned ⊎ IsNode c at
  only_then at (inl l) = elim (s.only at l) [ inl m ↦ inl m | inr n ↦ inr (node_lasts b c at (t.lasts at n.held) n) ]
  only_then at (inr n) = inr n

  flags_then : (at : ℕ) → IsHeld b at → ((header_at b at).flags ≡ (header_at a at).flags) ⊎ IsNode b at → ((header_at c at).flags ≡ (header_at b at).flags) ⊎ IsNode c at
      → ((header_at c at).flags ≡ (header_at a at).flags) ⊎ IsNode c at
  flags_then at h (inl e) (inl d) = inl (d ∙ e)
  flags_then at h (inr n) (inl d) = inr (node_lasts b c at (t.lasts at h) n)
  flags_then at h (inl e) (inr m) = inr m
  flags_then at h (inr n) (inr m) = inr m

  pub spares_then : Spares a c x z
  spares_then = record {
    lasts = λ at h. (let f = s.lasts at h in lasts_then a b c at f (t.lasts at f.held));
    kept = λ at h. kept_then at (s.kept at h) (t.kept at (s.lasts at h).held);
    noted = λ at l. t.noted at (s.noted at l);
    only = λ at l. only_then at (t.only at l);
    others = λ single n it ne h. t.others (single_kept x y s.contents single) n it ne (s.others single n it ne h);
    kinds = λ single n it h.
        (let k = s.kinds single n it h in
        let m = t.kinds (single_kept x y s.contents single) n k.it k.there in
        record { it = m.it; there = m.there; kind_is = m.kind_is ∙ k.kind_is });
    flags = λ at h. (let there = (s.lasts at h).held in flags_then at there (s.flags at h) (t.flags at there));
    homes = λ at h. t.homes at (s.lasts at h).held ∙ s.homes at h;
    texts = λ at h. t.texts at (s.lasts at h).held ∙ s.texts at h;
    size = t.size ∙ s.size;
    top = omega (arith, s.top, t.top);
    contents = record { kept = λ k h. t.contents.kept k (s.contents.kept k h); no_other = λ k h. s.contents.no_other k (t.contents.no_other k h) };
  }

-- where it was answered
pub spares_after : {T : Type 0} (a b c : Heap) (x y z : Outside Space) → Spares a b x y → (result : Result T SwizzleFault) → OnOk result (Spares b c y z) → OnOk result (Spares a c x z)
spares_after a b c x y z s (Ok v) t = spares_then a b c x y z s t
spares_after a b c x y z s (Err fault) t = tt

-- One object was written, and all others are seen as they were.

-- no object came or went, each keeps its home, and others than this one keep their flags
pub record IsInPlace (a b : Heap) (at : ℕ) : Type 0 where
  pub size : b.size ≡ a.size
  pub top : top_of b ≡ top_of a
  pub flags : (j : ℕ) → j ≢ at → (header_at b j).flags ≡ (header_at a j).flags
  pub homes : (j : ℕ) → num_at b j 0 ≡ num_at a j 0

in_place : (heap : Heap) (at : ℕ) (new : Object) → IsHeld heap at → IsLike (object_at heap at) new → slice_index new.nums 0 ≡ num_at heap at 0 → IsInPlace heap (with_object heap at new) at
in_place heap at new held like home =
    let long = like_long (object_at heap at) new like in
    record {
      size = refl;
      top = ap (λ (n : ℕ). 1 + n) (size-replaced 1 heap.objects at (object_at heap at) new (held_is heap at held) long);
      flags = λ j ne. ap (λ (x : Object). x.header.flags) (object-replaced_other heap at j new held long ne);
      homes = λ j. elim (cases_eq j at) [
        | inl same ↦
            ap (num_at_zero (with_object heap at new)) same ∙ (ap (λ (x : Object). slice_index x.nums 0) (object-replaced heap at new held) ∙ (home ∙ ap (num_at_zero heap) (sym same)))
        | inr apart ↦ ap (λ (x : Object). slice_index x.nums 0) (object-replaced_other heap at j new held long apart)
      ];
    }
  where
    num_at_zero : Heap → ℕ → ℕ
    num_at_zero h j = num_at h j 0

place_mark : (heap : Heap) (at : ℕ) → IsHeld heap at → IsInPlace heap (with_mark heap at) at
place_mark heap at held =
    let p = in_place heap at (flagged (object_at heap at)) held (like_flags (object_at heap at)) refl in
    elim (is_assigned (object_at heap at)) as
    (λ b. IsInPlace heap (if b then heap else record heap { objects = replace_from 1 heap.objects at (flagged (object_at heap at)); assigned = heap.assigned ++ at ∷ [] }) at) [
      | true ↦ record { size = refl; top = refl; flags = λ j ne. refl; homes = λ j. refl }
      | false ↦ record { size = refl; top = p.top; flags = p.flags; homes = p.homes }
    ]

place_then : (a b c : Heap) (at : ℕ) → IsInPlace a b at → IsInPlace b c at → IsInPlace a c at
place_then a b c at p q = record { size = q.size ∙ p.size; top = q.top ∙ p.top; flags = λ j ne. q.flags j ne ∙ p.flags j ne; homes = λ j. q.homes j ∙ p.homes j }

pub record Beside (a b : Heap) (outside : Outside Space) (at : ℕ) : Type 0 where
  pub stands : Stands a b
  pub list : b.assigned ≡ a.assigned
  pub shows : (j : ℕ) → IsHeld a j → j ≢ at → shown_at b j ≡ shown_at a j
  pub others : OthersStay a b outside at
  pub place : IsInPlace a b at
  pub texts : (j : ℕ) → IsHeld a j → slot_of (shown_at b j) 2 ≡ slot_of (shown_at a j) 2

-- nothing is stored
abbrev none : ℕ → List ℕ → Type 0
none pid words = ⊥

shown_beside : (a b : Heap) (at : ℕ) (it : Shown) → IsHeap a → IsHeap b → IsHeld a at → Stands a b → ChangedAt (Joint a none) (name_at a at) it (Joint b none) → (j : ℕ) → IsHeld a j → j ≢ at → shown_at b j ≡ shown_at a j
shown_beside a b at it ha hb held s c j there ne =
    let k : Joint b none (name_at a j) (shown_at a j) = c.stays (name_at a j) (shown_at a j) (λ e. ne (name_at-injective a j at ha there held e)) (inl (record { at = j; held = there; name_is = refl; shown_is = refl })) in
    sym (seen_held b none j (shown_at a j) hb (s j there).held (subst (λ n. Joint b none n (shown_at a j)) (sym (name_stands a b s j there)) k))

-- the third reference of each object is what it was, where that of the written one is
texts_beside : (a b : Heap) (at : ℕ) (it : Shown) → IsHeap b → IsHeld a at → Stands a b → ChangedAt (Joint a none) (name_at a at) it (Joint b none) → slot_of it 2 ≡ slot_of (shown_at a at) 2
    → ((j : ℕ) → IsHeld a j → j ≢ at → shown_at b j ≡ shown_at a j) → (j : ℕ) → IsHeld a j → slot_of (shown_at b j) 2 ≡ slot_of (shown_at a j) 2
texts_beside a b at it hb held s c same shows j there = elim (cases_eq j at) [
  | inl e ↦
      let now = seen_held b none at it hb (s at held).held (subst (λ n. Joint b none n it) (sym (name_stands a b s at held)) c.there) in
      subst (λ i. slot_of (shown_at b i) 2 ≡ slot_of (shown_at a i) 2) (sym e) (ap (λ (x : Shown). slot_of x 2) (sym now) ∙ same)
  | inr ne ↦ ap (λ (x : Shown). slot_of x 2) (shows j there ne)
]

pub beside_ref : (a b : Heap) (outside : Outside Space) (at slot : ℕ) (to : Reference) → 2 ≢ slot → IsHeap a → IsHeap b → IsHeld a at → b ≡ with_ref a at slot to → Stands a b → Beside a b outside at
beside_ref a b outside at slot to other ha hb held e s = record {
  stands = s;
  list = ap (λ (x : Heap). x.assigned) e;
  shows = shows;
  others = (subst (λ x. ChangedAt (joint a outside) (name_at a at) it (joint x outside)) (sym e) (joint-ref a (Holds outside) at slot to ha held)).stays;
  place = subst (λ (x : Heap). IsInPlace a x at) (sym e) (in_place a at _ held (like_ref a at slot to) refl);
  texts = texts_beside a b at it hb held s changed (get_or-set_other (shown_at a at).refs slot 2 (name_of a to) Nil other) shows;
}
  where
    it : Shown
    it = record (shown_at a at) { refs = set (shown_at a at).refs slot (name_of a to) }

    changed : ChangedAt (Joint a none) (name_at a at) it (Joint b none)
    changed = subst (λ x. ChangedAt (Joint a none) (name_at a at) it (Joint x none)) (sym e) (joint-ref a none at slot to ha held)

    shows : (j : ℕ) → IsHeld a j → j ≢ at → shown_at b j ≡ shown_at a j
    shows = shown_beside a b at it ha hb held s changed

pub beside_num : (a b : Heap) (outside : Outside Space) (at index value : ℕ) → 0 ≢ index → IsHeap a → IsHeap b → IsHeld a at → b ≡ with_num a at index value → Stands a b → Beside a b outside at
beside_num a b outside at index value first ha hb held e s = record {
  stands = s;
  list = ap (λ (x : Heap). x.assigned) e;
  shows = shows;
  others = (subst (λ x. ChangedAt (joint a outside) (name_at a at) it (joint x outside)) (sym e) (joint-num a (Holds outside) at index value ha held)).stays;
  place = subst (λ (x : Heap). IsInPlace a x at) (sym e) (in_place a at _ held (like_nums (object_at a at) _) (get_or-set_other (object_at a at).nums index 0 value 0 first));
  texts = texts_beside a b at it hb held s changed refl shows;
}
  where
    it : Shown
    it = record (shown_at a at) { nums = set (shown_at a at).nums index value }

    changed : ChangedAt (Joint a none) (name_at a at) it (Joint b none)
    changed = subst (λ x. ChangedAt (Joint a none) (name_at a at) it (Joint x none)) (sym e) (joint-num a none at index value ha held)

    shows : (j : ℕ) → IsHeld a j → j ≢ at → shown_at b j ≡ shown_at a j
    shows = shown_beside a b at it ha hb held s changed

pub beside_then : (a b c : Heap) (outside : Outside Space) (at : ℕ) → IsHeld a at → Beside a b outside at → Beside b c outside at → Beside a c outside at
beside_then a b c outside at held f g = record {
  stands = λ j h. (let s = f.stands j h in let t = g.stands j s.held in record { held = t.held; kind = t.kind ∙ s.kind; refs = t.refs ∙ s.refs; nums = t.nums ∙ s.nums; bytes = t.bytes ∙ s.bytes; pid = t.pid ∙ s.pid });
  list = g.list ∙ f.list;
  shows = λ j h ne. g.shows j (f.stands j h).held ne ∙ f.shows j h ne;
  others = λ n it ne k. g.others n it (λ e. ne (e ∙ name_stands a b f.stands at held)) (f.others n it ne k);
  place = place_then a b c at f.place g.place;
  texts = λ j h. g.texts j (f.stands j h).held ∙ f.texts j h;
}

-- It was marked then.
pub record WritesOne (a c : Heap) (outside : Outside Space) (at : ℕ) : Type 0 where
  pub lasts : (j : ℕ) → IsHeld a j → Lasts a c j
  pub kept : (j : ℕ) → IsHeld a j → j ≢ at → shown_at c j ≡ shown_at a j
  pub noted : (j : ℕ) → IsListed j a.assigned → IsListed j c.assigned
  pub only : (j : ℕ) → IsListed j c.assigned → IsListed j a.assigned ⊎ (j ≡ at)
  pub listed : IsListed at c.assigned
  pub others : IsSingle outside → OthersStay a c outside at
  pub place : IsInPlace a c at
  pub texts : (j : ℕ) → IsHeld a j → slot_of (shown_at c j) 2 ≡ slot_of (shown_at a j) 2

pub shown_marked : (a b : Heap) (at : ℕ) → IsHeap a → IsHeap b → IsHeld a at → Stands a b → b ≡ with_mark a at → (j : ℕ) → IsHeld a j → shown_at b j ≡ shown_at a j
shown_marked a b at ha hb held s e j there =
    let same : Same (Joint a none) (Joint b none) = subst (λ x. Same (Joint a none) (Joint x none)) (sym e) (joint-mark a none at ha held (λ pid x y f g. absurd f)) in
    let k : Joint b none (name_at a j) (shown_at a j) = same.grows (name_at a j) (shown_at a j) (inl (record { at = j; held = there; name_is = refl; shown_is = refl })) in
    sym (seen_held b none j (shown_at a j) hb (s j there).held (subst (λ n. Joint b none n (shown_at a j)) (sym (name_stands a b s j there)) k))

pub writes_one : (a b c : Heap) (outside : Outside Space) (at : ℕ) → IsHeap b → IsHeap c → IsHeld a at → Beside a b outside at → c ≡ with_mark b at → Stands b c → WritesOne a c outside at
writes_one a b c outside at hb hc held f e s =
    let held1 = (f.stands at held).held in
    record {
      lasts = λ j h. (let t = f.stands j h in let u = s j t.held in record { held = u.held; name = name_stands b c s j t.held ∙ name_stands a b f.stands j h; kind = u.kind ∙ t.kind; refs = u.refs ∙ t.refs; nums = u.nums ∙ t.nums; bytes = u.bytes ∙ t.bytes });
      kept = λ j h ne. shown_marked b c at hb hc held1 s e j (f.stands j h).held ∙ f.shows j h ne;
      texts = λ j h. ap (λ (x : Shown). slot_of x 2) (shown_marked b c at hb hc held1 s e j (f.stands j h).held) ∙ f.texts j h;
      noted = λ j l. subst (λ (x : Heap). IsListed j x.assigned) (sym e) (listed_still b at j (subst (λ is. IsListed j is) (sym f.list) l));
      only = λ j l. elim (listed_marked b at j (subst (λ (x : Heap). IsListed j x.assigned) e l)) [ inl m ↦ inl (subst (λ is. IsListed j is) f.list m) | inr d ↦ inr d ];
      listed = subst (λ (x : Heap). IsListed at x.assigned) (sym e) (marked_listed b at hb held1);
      place = place_then a b c at f.place (subst (λ (x : Heap). IsInPlace b x at) (sym e) (place_mark b at held1));
      others = λ single n it ne k. (subst (λ x. Same (joint b outside) (joint x outside)) (sym e) (joint-mark b (Holds outside) at hb held1 single.one)).grows n it (f.others n it ne k);
    }

-- an object that is seen under the name of an object of another kind isn't it
pub unlike : (heap : Heap) (outside : Outside Space) (at : ℕ) (n : Reference) (it : Shown) → IsHeap heap → IsHeld heap at → it.kind ≢ (shown_at heap at).kind → joint heap outside n it → n ≢ name_at heap at
unlike heap outside at n it h held ne k e = ne (ap (λ (x : Shown). x.kind) (seen_held heap (Holds outside) at it h held (subst (λ m. joint heap outside m it) e k)))

-- where one object was written each keeps its kind
pub kinds_kept : (a c : Heap) (outside : Outside Space) (at : ℕ) → IsHeap a → IsHeld a at → ((j : ℕ) → IsHeld a j → Lasts a c j) → OthersStay a c outside at → (n : Reference) (it : Shown) → joint a outside n it → IsOfKind c outside n it.kind
kinds_kept a c outside at h held lasts others n it (inl k) =
    let l = lasts k.at k.held in
    record { it = shown_at c k.at; there = inl (record { at = k.at; held = l.held; name_is = k.name_is ∙ sym l.name; shown_is = refl }); kind_is = l.kind ∙ sym (ap (λ (x : Shown). x.kind) k.shown_is) }
kinds_kept a c outside at h held lasts others n it (inr v) =
    record { it = it; there = others n it (λ e. not_away a at v.pid h held (sym v.name_is ∙ e) v.away) (inr v); kind_is = refl }

-- a node was written
pub spares_written : (a c : Heap) (outside : Outside Space) (at : ℕ) → IsHeap a → IsNode a at → WritesOne a c outside at → Spares a c outside outside
spares_written a c outside at h node w =
    let now = node_lasts a c at (w.lasts at node.held) node in
    record {
      lasts = w.lasts;
      kept = λ j there. elim (cases_eq j at) [
        | inl same ↦ inr (subst (IsNoted c) (sym same) (now, w.listed))
        | inr apart ↦ inl (w.kept j there apart)
      ];
      noted = w.noted;
      only = λ j l. elim (w.only j l) [ inl m ↦ inl m | inr d ↦ inr (subst (IsNode c) (sym d) now) ];
      others = λ single n it ne k. w.others single n it (unlike a outside at n it h node.held (λ e. ne (e ∙ node.kind)) k) k;
      kinds = λ single n it k. kinds_kept a c outside at h node.held w.lasts (w.others single) n it k;
      flags = λ j there. elim (cases_eq j at) [ inl same ↦ inr (subst (IsNode c) (sym same) now) | inr apart ↦ inl (w.place.flags j apart) ];
      homes = λ j there. w.place.homes j;
      texts = w.texts;
      size = w.place.size;
      top = omega (arith, w.place.top);
      contents = record { kept = λ x k. k; no_other = λ x k. k };
    }

-- its sides and its height
pub spares_sides : (h0 h1 h2 h3 h4 : Heap) (outside : Outside Space) (at : ℕ) (left right : Option ℕ) (height : ℕ) → IsNode h0 at → IsHeap h0 → IsHeap h1 → IsHeap h2 → IsHeap h3 → IsHeap h4
    → h1 ≡ with_ref h0 at 0 (reference_to left) → h2 ≡ with_ref h1 at 1 (reference_to right) → h3 ≡ with_num h2 at 2 height → h4 ≡ with_mark h3 at
    → Stands h0 h1 → Stands h1 h2 → Stands h2 h3 → Stands h3 h4 → Spares h0 h4 outside outside
spares_sides h0 h1 h2 h3 h4 outside at left right height node i0 i1 i2 i3 i4 e1 e2 e3 e4 s1 s2 s3 s4 =
    let held1 = (s1 at node.held).held in
    let b1 = beside_ref h0 h1 outside at 0 (reference_to left) (λ e. cc) i0 i1 node.held e1 s1 in
    let b2 = beside_ref h1 h2 outside at 1 (reference_to right) (λ e. cc) i1 i2 held1 e2 s2 in
    let b3 = beside_num h2 h3 outside at 2 height (λ e. cc) i2 i3 (s2 at held1).held e3 s3 in
    spares_written h0 h4 outside at i0 node (writes_one h0 h3 h4 outside at i3 i4 node.held (beside_then h0 h2 h3 outside at node.held (beside_then h0 h1 h2 outside at node.held b1 b2) b3) e4 s4)

-- its value
pub spares_value : (h0 h1 h2 : Heap) (outside : Outside Space) (at slot : ℕ) (to : Reference) → 2 ≢ slot → IsNode h0 at → IsHeap h0 → IsHeap h1 → IsHeap h2 → h1 ≡ with_ref h0 at slot to → h2 ≡ with_mark h1 at → Stands h0 h1 → Stands h1 h2
    → Spares h0 h2 outside outside
spares_value h0 h1 h2 outside at slot to other node i0 i1 i2 e1 e2 s1 s2 =
    spares_written h0 h2 outside at i0 node (writes_one h0 h1 h2 outside at i1 i2 node.held (beside_ref h0 h1 outside at slot to other i0 i1 node.held e1 s1) e2 s2)
