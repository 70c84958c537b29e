-- A table's words are written, and all else stays.
use Rattle.std.proofs.Common.{◌≡◌, ◌≢◌, ◌⊎◌, ℕ, List, length, set, Option, Some, None, IfSome, refl, sym, ap, ◌∙◌, subst, arith, inl, inr}
use Rattle.std.proofs.lemmas.Bool.{cases_eq}
use Rattle.std.proofs.lemmas.List.{get_or-set_same, get_or-set_other}
use Rattle.table_nodes.specs.heap_places.ps_outside.Outside.{Outside}
use Rattle.table_nodes.specs.heap_places.obj_layout.Stored.{Space, Holds}
use Rattle.table_nodes.specs.heap_places.obj_layout.declared.reference.Reference.{Reference}
use Rattle.table_nodes.specs.heap_places.obj_layout.declared.reference.Reference.TheVariants.{Nil}
use Rattle.table_nodes.specs.heap_places.swizzle.Heap.{Heap, IsHeap, IsHeld, IsListed, Stands, header_at, reference_to, ref_at, with_mark, with_num, with_ref}
use Rattle.table_nodes.specs.heap_places.swizzle.Joint.{Shown, shown_at, name_at, name_of}
use Rattle.table_nodes.specs.heap_places.swizzle.Changes.{Same, ChangedAt}
use Rattle.table_nodes.specs.heap_places.swizzle.Reading.{joint}
use Rattle.table_nodes.specs.heap_places.swizzle.Touch.{Keeps}
use Rattle.table_nodes.specs.heap_places.Shapes.{slot_of}
use Rattle.table_nodes.proofs.of_heap_places.of_swizzle.JointLaws.{joint-ref, joint-num}
use Rattle.table_nodes.proofs.of_heap_places.of_swizzle.MarkLaws.{joint-mark}
use Rattle.table_nodes.proofs.of_heap_places.of_swizzle.NameLaws.{name_at-injective, names-decided, shown-counts}
use Rattle.table_nodes.proofs.of_heap_places.PlaceLaws.{slot-name}
use Rattle.table_nodes.specs.node_rows.Keys.{Keys, by_ints, by_texts, KeyOf, IsKey}
use Rattle.table_nodes.specs.node_rows.Nodes.{Seat}
use Rattle.table_nodes.specs.Bringing.{NoneCome}
use Rattle.table_nodes.specs.Fetching.{Came, IsNew, Fetches}
use Rattle.table_nodes.specs.Nodes.{IsNode, IsSteady, IsStored, OthersStay, rows_in, seen}
use Rattle.table_nodes.proofs.SeenLaws.{seen_from, seen_joint}
use Rattle.table_nodes.specs.Sparing.{Lasts, IsNoted, Spares}
use Rattle.table_nodes.proofs.BringLaws.{none_mark, none_num, none_ref}
use Rattle.table_nodes.proofs.FetchLaws.{came_lasts, new_lasts}
use Rattle.table_nodes.proofs.NodeLaws.{marked_steady, shown_now, single_kept, stand_nodes, stand_named, stand_then}
use Rattle.table_nodes.proofs.Sparing.{kinds_kept, WritesOne, node_lasts, lasts_then, beside_ref, beside_num, beside_then, writes_one, shown_marked, unlike}
use Rattle.table_lib.specs.Tables.{key_number, IsTableAt}
use Rattle.table_lib.specs.Entries.{IsOpen, NoneChange, SparesBut, WritesTable, MarksTable}

-- What a call spares, step by step.

pub but_written : (a c : Heap) (outside : Outside Space) (at : ℕ) → IsHeap a → IsHeld a at → WritesOne a c outside at → SparesBut at a c outside outside
but_written a c outside at h held w = record {
  lasts = w.lasts;
  kept = λ j there. elim (cases_eq j at) [
    | inl same ↦ inr (inl same, subst (λ i. IsListed i c.assigned) (sym same) w.listed)
    | inr apart ↦ inl (w.kept j there apart)
  ];
  noted = w.noted;
  only = λ j l. elim (w.only j l) [ inl m ↦ inl m | inr d ↦ inr (inl d) ];
  others = λ single n it ne nt k. w.others single n it nt k;
  kinds = λ single n it k. kinds_kept a c outside at h held w.lasts (w.others single) n it k;
  flags = λ j there. elim (cases_eq j at) [ inl same ↦ inr (inl same) | inr apart ↦ inl (w.place.flags j apart) ];
  homes = λ j there. w.place.homes j;
  texts = w.texts;
  size = w.place.size;
  top = omega (arith, w.place.top);
  contents = record { kept = λ x k. k; no_other = λ x k. k };
}

module _ (at : ℕ) (a b c : Heap) (x y z : Outside Space) (held : IsHeld a at) (s : Spares a b x y) (t : SparesBut at b c y z) where
  kept_but : (j : ℕ) → (shown_at b j ≡ shown_at a j) ⊎ IsNoted b j → (shown_at c j ≡ shown_at b j) ⊎ (IsOpen at c j × IsListed j c.assigned) → (shown_at c j ≡ shown_at a j) ⊎ (IsOpen at c j × IsListed j c.assigned)
  kept_but j (inl e) (inl d) = inl (d ∙ e)
  kept_but j (inr n) (inl d) = inr (inr (node_lasts b c j (t.lasts j n.0.held) n.0), t.noted j n.1)
  kept_but j (inl e) (inr o) = inr o
  kept_but j (inr n) (inr o) = inr o

  only_but : (j : ℕ) → IsListed j b.assigned ⊎ IsOpen at c j → IsListed j a.assigned ⊎ IsOpen at c j
  only_but j (inl l) = elim (s.only j l) [ inl m ↦ inl m | inr n ↦ inr (inr (node_lasts b c j (t.lasts j n.held) n)) ]
  only_but j (inr o) = inr o

  flags_but : (j : ℕ) → IsHeld b j → ((header_at b j).flags ≡ (header_at a j).flags) ⊎ IsNode b j → ((header_at c j).flags ≡ (header_at b j).flags) ⊎ IsOpen at c j
      → ((header_at c j).flags ≡ (header_at a j).flags) ⊎ IsOpen at c j
  flags_but j h (inl e) (inl d) = inl (d ∙ e)
  flags_but j h (inr n) (inl d) = inr (inr (node_lasts b c j (t.lasts j h) n))
  flags_but j h (inl e) (inr o) = inr o
  flags_but j h (inr n) (inr o) = inr o

  pub but_then : SparesBut at a c x z
  but_then = record {
    lasts = λ j h. (let f = s.lasts j h in lasts_then a b c j f (t.lasts j f.held));
    kept = λ j h. kept_but j (s.kept j h) (t.kept j (s.lasts j h).held);
    noted = λ j l. t.noted j (s.noted j l);
    only = λ j l. only_but j (t.only j l);
    others = λ single n it ne nt k. t.others (single_kept x y s.contents single) n it ne (λ e. nt (e ∙ (s.lasts at held).name)) (s.others single n it ne k);
    kinds = λ single n it k.
        (let f = s.kinds single n it k in
        let m = t.kinds (single_kept x y s.contents single) n f.it f.there in
        record { it = m.it; there = m.there; kind_is = m.kind_is ∙ f.kind_is });
    flags = λ j h. (let there = (s.lasts j h).held in flags_but j there (s.flags j h) (t.flags j there));
    homes = λ j h. t.homes j (s.lasts j h).held ∙ s.homes j h;
    texts = λ j h. t.texts j (s.lasts j h).held ∙ s.texts j h;
    size = t.size ∙ s.size;
    top = omega (arith, s.top, t.top);
    contents = record { kept = λ k h. t.contents.kept k (s.contents.kept k h); no_other = λ k h. s.contents.no_other k (t.contents.no_other k h) };
  }

-- a table is one still
pub table_lasts : (a b : Heap) (at : ℕ) → Lasts a b at → IsTableAt a at → IsTableAt b at
table_lasts a b at l t = record { held = l.held; kind = l.kind ∙ t.kind; refs = l.refs ∙ t.refs; nums = l.nums ∙ t.nums }

pub table_kept : (a b : Heap) (at : ℕ) → Keeps a b → IsTableAt a at → IsTableAt b at
table_kept a b at keeps t = let s = keeps.objects at t.held in record { held = s.held; kind = ap (λ (it : Shown). it.kind) s.shown_as ∙ t.kind; refs = s.refs ∙ t.refs; nums = s.nums ∙ t.nums }

-- Where a table was written, no node has changed that hadn't.
pub table_steady : (a c : Heap) (at : ℕ) → IsHeap c → IsTableAt a at → Lasts a c at → IsSteady a c at → NoneChange a c
table_steady a c at h table l steady n k = elim (names-decided n (name_at a at)) [
  | inl e ↦
      let same = name_at-injective c k.at at h k.named.node.held l.held (k.named.name ∙ (e ∙ sym l.name)) in
      let node_is = ap (λ i. (header_at c i).kind) (sym same) ∙ k.named.node.kind in
      let table_is = l.kind ∙ table.kind in
      absurd (cc (node_is, table_is))
  | inr ne ↦ steady n ne k
]

-- What came stays so where a table is written that was there.
pub fetches_but : (ks : Keys) (at : ℕ) (a b c : Heap) (x y z : Outside Space) → IsHeld a at → SparesBut at b c y z → NoneCome b c → Fetches ks a b x → Fetches ks a c x
fetches_but ks at a b c x y z held s none f j now = elim (f j (none j now)) [
  | inl was ↦ inl was
  | inr k ↦ elim (cases_eq j at) [
    | inl e ↦ inl (subst (IsHeld a) (sym e) held)
    | inr ne ↦ inr (go ne k)
  ]
]
  where
    noted : j ≢ at → (shown_at c j ≡ shown_at b j) ⊎ (IsOpen at c j × IsListed j c.assigned) → (shown_at c j ≡ shown_at b j) ⊎ IsNoted c j
    noted ne (inl e) = inl e
    noted ne (inr (inl e, l)) = absurd (ne e)
    noted ne (inr (inr n, l)) = inr (n, l)

    go : j ≢ at → Came b x j ⊎ IsNew ks b j → Came c x j ⊎ IsNew ks c j
    go ne (inl k) = (let there = none j now in inl (came_lasts b c x j (s.lasts j there) (s.texts j there) (noted ne (s.kept j there)) (s.noted j) k))
    go ne (inr n) = (let there = none j now in inr (new_lasts ks b c j (s.lasts j there) (s.texts j there) n))

-- its words stay where nodes are written
pub words_spared : (a b : Heap) (x y : Outside Space) (at : ℕ) → Spares a b x y → IsTableAt a at → shown_at b at ≡ shown_at a at
words_spared a b x y at s t = go (s.kept at t.held)
  where
    go : (shown_at b at ≡ shown_at a at) ⊎ IsNoted b at → shown_at b at ≡ shown_at a at
    go (inl e) = e
    go (inr n) = let k = (s.lasts at t.held).kind ∙ t.kind in absurd (cc (k, n.0.kind))

-- Nodes have their rows where a table is written.
pub rows_stay : (ks : Keys) (a c : Heap) (outside : Outside Space) (at : ℕ) → IsHeap a → IsHeap c → IsTableAt a at → ((j : ℕ) → IsHeld a j → Lasts a c j) → OthersStay a c outside at → (n : Reference) (row : Seat ks) → rows_in ks a outside n row → rows_in ks c outside n row
rows_stay ks a c outside at h now table lasts others n row r = record {
  it = r.it;
  there = stays n r.it (λ e. (let k = table.kind in let m = r.is.kind in absurd (cc (e, k, m)))) r.there;
  is = record { kind = r.is.kind; refs = r.is.refs; nums = r.is.nums; left = r.is.left; right = r.is.right; key = key ks row.entry.key r.is.key; value = r.is.value; height = r.is.height };
}
  where
    stays : (m : Reference) (it : Shown) → it.kind ≢ (shown_at a at).kind → seen a outside m it → seen c outside m it
    stays m it ne there =
        let held = seen_joint a outside m it there in
        seen_from a c outside outside now lasts (record { kept = λ x k. k; no_other = λ x k. k }) m it there (others m it (unlike a outside at m it h table.held ne held) held)

    key : (ks : Keys) (k : KeyOf ks) → IsKey ks (seen a outside) r.it k → IsKey ks (seen c outside) r.it k
    key by_ints k is = is
    key by_texts k is = record { it = is.it; there = stays (slot_of r.it 2) is.it (λ e. (let f = table.kind in let m = is.kind in absurd (cc (e, f, m)))) is.there; kind = is.kind; bytes_are = is.bytes_are }

module _ (h0 h1 h2 h3 h4 : Heap) (outside : Outside Space) (at : ℕ) (root : Option ℕ) (ks : Keys) (number count : ℕ) (is_number : number ≡ key_number ks) (table : IsTableAt h0 at) (roots : IfSome root (IsNode h0)) (i0 : IsHeap h0) (i1 : IsHeap h1) (i2 : IsHeap h2) (i3 : IsHeap h3) (i4 : IsHeap h4)
    (e1 : h1 ≡ with_ref h0 at 0 (reference_to root)) (e2 : h2 ≡ with_num h1 at 1 number) (e3 : h3 ≡ with_num h2 at 2 count) (e4 : h4 ≡ with_mark h3 at) (s1 : Stands h0 h1) (s2 : Stands h1 h2) (s3 : Stands h2 h3) (s4 : Stands h3 h4) where
  held1 : IsHeld h1 at
  held1 = (s1 at table.held).held

  held2 : IsHeld h2 at
  held2 = (s2 at held1).held

  held3 : IsHeld h3 at
  held3 = (s3 at held2).held

  abbrev it1 : Shown
  it1 = record (shown_at h0 at) { refs = set (shown_at h0 at).refs 0 (name_of h0 (reference_to root)) }

  abbrev it2 : Shown
  it2 = record (shown_at h1 at) { nums = set (shown_at h1 at).nums 1 number }

  abbrev it3 : Shown
  it3 = record (shown_at h2 at) { nums = set (shown_at h2 at).nums 2 count }

  c1 : ChangedAt (seen h0 outside) (name_at h0 at) it1 (seen h1 outside)
  c1 = subst (λ x. ChangedAt (seen h0 outside) (name_at h0 at) it1 (seen x outside)) (sym e1) (joint-ref h0 (IsStored outside) at 0 (reference_to root) i0 table.held)

  c2 : ChangedAt (seen h1 outside) (name_at h1 at) it2 (seen h2 outside)
  c2 = subst (λ x. ChangedAt (seen h1 outside) (name_at h1 at) it2 (seen x outside)) (sym e2) (joint-num h1 (IsStored outside) at 1 number i1 held1)

  c3 : ChangedAt (seen h2 outside) (name_at h2 at) it3 (seen h3 outside)
  c3 = subst (λ x. ChangedAt (seen h2 outside) (name_at h2 at) it3 (seen x outside)) (sym e3) (joint-num h2 (IsStored outside) at 2 count i2 held2)

  shows1 : shown_at h1 at ≡ it1
  shows1 = shown_now h0 h1 outside at it1 i1 table.held s1 c1

  shows2 : shown_at h2 at ≡ it2
  shows2 = shown_now h1 h2 outside at it2 i2 held1 s2 c2

  shows3 : shown_at h3 at ≡ it3
  shows3 = shown_now h2 h3 outside at it3 i3 held2 s3 c3

  shows4 : shown_at h4 at ≡ shown_at h3 at
  shows4 = shown_marked h3 h4 at i3 i4 held3 s4 e4 at held3

  nums_are : (shown_at h4 at).nums ≡ set (set (shown_at h0 at).nums 1 number) 2 count
  nums_are = ap (λ (x : Shown). x.nums) (shows4 ∙ shows3) ∙ (ap (λ (x : Shown). set x.nums 2 count) shows2 ∙ ap (λ (x : Shown). set (set x.nums 1 number) 2 count) shows1)

  refs_are : (shown_at h4 at).refs ≡ set (shown_at h0 at).refs 0 (name_of h0 (reference_to root))
  refs_are = ap (λ (x : Shown). x.refs) (shows4 ∙ shows3) ∙ (ap (λ (x : Shown). x.refs) shows2 ∙ ap (λ (x : Shown). x.refs) shows1)

  three : length (shown_at h0 at).nums ≡ 3
  three = (shown-counts h0 at i0 table.held).1 ∙ table.nums

  one : length (shown_at h0 at).refs ≡ 1
  one = (shown-counts h0 at i0 table.held).0 ∙ table.refs

  pub wrote_one : WritesOne h0 h4 outside at
  wrote_one = writes_one h0 h3 h4 outside at i3 i4 table.held
      (beside_then h0 h2 h3 outside at table.held (beside_then h0 h1 h2 outside at table.held (beside_ref h0 h1 outside at 0 (reference_to root) (λ e. cc) i0 i1 table.held e1 s1) (beside_num h1 h2 outside at 1 number (λ e. cc) i1 i2 held1 e2 s2)) (beside_num h2 h3 outside at 2 count (λ e. cc) i2 i3 held2 e3 s3))
      e4 s4

  same_name : (side : Option ℕ) → IfSome side (IsNode h0) → name_of h0 (reference_to side) ≡ name_of h4 (reference_to side)
  same_name None n = refl
  same_name (Some r) n = sym (wrote_one.lasts r n.held).name

  pub table_written : WritesTable ks h0 h4 outside at root count
  table_written = record {
    keys = record { shape = table_lasts h0 h4 at (wrote_one.lasts at table.held) table; kind = ap (λ (is : List ℕ). Rattle.std.specs.Prelude.slice_index is 1) nums_are ∙ (get_or-set_other (set (shown_at h0 at).nums 1 number) 2 1 count 0 (omega arith) ∙ (get_or-set_same (shown_at h0 at).nums 1 number 0 (omega (arith, three)) ∙ is_number)) };
    count_is = ap (λ (is : List ℕ). Rattle.std.specs.Prelude.slice_index is 2) nums_are ∙ get_or-set_same (set (shown_at h0 at).nums 1 number) 2 count 0 (let l = Rattle.std.proofs.Math.ListN.length-set (shown_at h0 at).nums 1 number in omega (arith, l, three));
    root_is = sym (slot-name h4 at 0) ∙ (ap (λ (is : List Reference). Rattle.std.specs.Prelude.get_or is 0 Nil) refs_are ∙ (get_or-set_same (shown_at h0 at).refs 0 (name_of h0 (reference_to root)) Nil (omega (arith, one)) ∙ same_name root roots));
    home = ap (λ (is : List ℕ). Rattle.std.specs.Prelude.slice_index is 0) nums_are ∙ (get_or-set_other (set (shown_at h0 at).nums 1 number) 2 0 count 0 (omega arith) ∙ get_or-set_other (shown_at h0 at).nums 1 0 number 0 (omega arith));
    noted = wrote_one.listed;
    heap = i4;
    lasts = wrote_one.lasts;
    steady = table_steady h0 h4 at i4 table (wrote_one.lasts at table.held) (marked_steady h0 h3 h4 at held3 (stand_then h0 h2 h3 (stand_then h0 h1 h2 s1 s2) s3)
        (λ j k. none_ref h0 h1 at 0 (reference_to root) table.held e1 j (none_num h1 h2 at 1 number held1 e2 j (none_num h2 h3 at 2 count held2 e3 j k)))
        (ap (λ (x : Heap). x.assigned) e3 ∙ (ap (λ (x : Heap). x.assigned) e2 ∙ ap (λ (x : Heap). x.assigned) e1)) s4 e4);
    holds = record { nodes = λ j m. stand_nodes h3 h4 s4 j (stand_nodes h2 h3 s3 j (stand_nodes h1 h2 s2 j (stand_nodes h0 h1 s1 j m))); named = λ j n m. stand_named h3 h4 s4 j n (stand_named h2 h3 s3 j n (stand_named h1 h2 s2 j n (stand_named h0 h1 s1 j n m))) };
    others = wrote_one.others;
  }

-- A table was marked.
module _ (a b : Heap) (outside : Outside Space) (at : ℕ) (table : IsTableAt a at) (ha : IsHeap a) (hb : IsHeap b) (e : b ≡ with_mark a at) (s : Stands a b) where
  same_words : shown_at b at ≡ shown_at a at
  same_words = shown_marked a b at ha hb table.held s e at table.held

  pub marked_one : WritesOne a b outside at
  marked_one = writes_one a a b outside at ha hb table.held (record { stands = λ j h. record { held = h; kind = refl; refs = refl; nums = refl; bytes = refl; pid = refl }; list = refl; shows = λ j h ne. refl; others = λ n it ne k. k; place = record { size = refl; top = refl; flags = λ j ne. refl; homes = λ j. refl }; texts = λ j h. refl }) e s

  no_root : (to : Reference) → name_of b to ≡ Nil → to ≡ Nil
  no_root to f = Rattle.table_lib.proofs.RootLaws.nil_named b to f

  pub table_marked : MarksTable a b outside outside at
  table_marked = record {
    unused = λ u. record {
      shape = table_lasts a b at (marked_one.lasts at table.held) table;
      kind = ap (λ (x : Shown). Rattle.std.specs.Prelude.slice_index x.nums 1) same_words ∙ u.kind;
      count = ap (λ (x : Shown). Rattle.std.specs.Prelude.slice_index x.nums 2) same_words ∙ u.count;
      root = no_root (ref_at b at 0) (sym (slot-name b at 0) ∙ (ap (λ (x : Shown). slot_of x 0) same_words ∙ (slot-name a at 0 ∙ ap (name_of a) u.root)));
    };
    home = ap (λ (x : Shown). Rattle.std.specs.Prelude.slice_index x.nums 0) same_words;
    noted = marked_one.listed;
    none = none_mark a b at table.held e;
    steady = table_steady a b at hb table (marked_one.lasts at table.held)
        (marked_steady a a b at table.held (λ j h. record { held = h; kind = refl; refs = refl; nums = refl; bytes = refl; pid = refl }) (λ j h. h) refl s e);
    heap = hb;
    single = λ single. single;
    seen = λ single n it k. (subst (λ x. Same (joint a outside) (joint x outside)) (sym e) (joint-mark a (Holds outside) at ha table.held single.one)).grows n it k;
  }
