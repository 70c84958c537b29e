-- What a run keeps ties the objects of the area to the ids of the heap.
use Rattle.std.proofs.Common.{true, false, inl, inr, ◌⊎◌, ◌≡◌, ℕ, zero, suc, ◌+◌, ◌<◌, ◌≤◌, List, [], ◌∷◌, ◌++◌, length, map, get_or, refl, sym, ap, ◌∙◌, subst, arith, Option, Some, None, nat_eq, if◌then◌else◌}
use Rattle.std.specs.Prelude.{slice_index}
use Rattle.std.proofs.lemmas.Bool.{cases_Bool, cases_eq, true≢false}
use Rattle.std.proofs.lemmas.List.{get_or-append-add, get_or_append_left, get_or-map, length-map}
use Rattle.joint_ops.specs.ps_outside.Outside.{Outside}
use Rattle.joint_ops.specs.obj_layout.Stored.{Space}
use Rattle.joint_ops.specs.obj_layout.Header.{header_words}
use Rattle.joint_ops.specs.obj_layout.Reference.{reference_word}
use Rattle.joint_ops.specs.obj_layout.Objects.{Contents, HasContents, kind_of, counts_of, text, structure, vector_of_references, vector_of_numbers, scope, closure, code, table, node, directory}
use Rattle.joint_ops.specs.obj_layout.Objects as layout
use Rattle.joint_ops.specs.obj_layout.Kind.{kind_number}
use Rattle.joint_ops.specs.obj_layout.declared.kind.Kind.TheVariants as kind
use Rattle.joint_ops.specs.obj_layout.declared.header.Header.{Header}
use Rattle.joint_ops.specs.obj_layout.declared.reference.Reference.{Reference}
use Rattle.joint_ops.specs.obj_layout.declared.reference.Reference.TheVariants.{Nil, Pid, Local}
use Rattle.joint_ops.specs.swizzle.Objects.{Object, object_words, object_in}
use Rattle.joint_ops.specs.swizzle.Image.{far_object}
use Rattle.joint_ops.specs.swizzle.Heap as area
use Rattle.joint_ops.specs.swizzle.Heap.{IsHeap, IsHeld, IsListed, header_at, num_at, top_of}
use Rattle.joint_ops.specs.swizzle.Joint.{Shown, name_at, name_of, shown_at, far_of}
use Rattle.swizzle.proofs.FetchedLaws.{header-spelled, far_header}
use Rattle.swizzle.proofs.ObjectLaws.{split}
use Rattle.swizzle.proofs.ImageLaws.{refs-long}
use Rattle.swizzle.proofs.KeptLaws.{held_is, inside_kept}
use Rattle.swizzle.proofs.JointLaws.{held-lt}
use Rattle.swizzle.proofs.NameLaws.{shown-counts}
use Rattle.joint_ops.specs.World.{IsStored, seen}
use Rattle.joint_ops.proofs.SeenLaws.{seen-is}
use Rattle.joint_ops.specs.heap_meaning.Standing.{Seen, IsOne}
use Rattle.joint_ops.specs.heap_meaning.Paired.{name_in, paired}
use Rattle.joint_ops.specs.heap_meaning.node_rows.Nodes.{IsAmong}
use Rattle.joint_ops.specs.heap_places.Shapes.{word_in}
use Rattle.joint_ops.specs.ps_heap.Tables.{Table}
use Rattle.joint_ops.specs.ps_heap.Objects.{Keyed, object_at}
use Rattle.joint_ops.specs.ps_heap.Databases.{is_there}
use Rattle.joint_ops.specs.ps_heap.Held.{Held, home_at}
use Rattle.joint_ops.specs.ps_heap.Commit.{loose, loose_from}
use Rattle.reaching.specs.Reaching.{IsIn}
use Rattle.reaching.proofs.Lists.{then_is, else_is}
use Rattle.commit_walk.specs.Walk.{has_home}
use Rattle.commit_walk.specs.declared.homes.Source.{Source}
use Rattle.reach_commit.specs.commit_images.Images.{image_of}
use Rattle.joint_held.specs.Held.{IsAtHome, IsOf, IsOfHeap, HoldsRun}
use Rattle.joint_reach.proofs.Tied.{IsLocal, IsChanged, IsTied}
use Rattle.joint_reach.proofs.SeenLaws.{slot-of, local-none, name-of_none, pid-some, local-known}

-- A number is listed or it isn't.
pub listed_or : (x : ℕ) (xs : List ℕ) → IsListed x xs ⊎ (IsListed x xs → ⊥)
listed_or x [] = inr (λ l. l)
listed_or x (y ∷ ys) =
    elim (cases_eq x y) [
      | inl e ↦ inl (inl e)
      | inr ne ↦ elim (listed_or x ys) [ inl l ↦ inl (inr l) | inr away ↦ inr (λ l. elim l [ inl e ↦ ne e | inr m ↦ away m ]) ]
    ]

-- Ids without a home.

pub loose-home : (homes : List (Option ℕ)) (from n id : ℕ) → IsIn id (loose_from homes from n) → home_at homes id ≡ None
unfolding loose_from
loose-home homes from zero id l = absurd l
loose-home homes from (suc n) id l =
    elim (cases_Bool (is_there (home_at homes from))) [
      | inl some ↦ loose-home homes (suc from) n id (subst (IsIn id) (then_is (is_there (home_at homes from)) (loose_from homes (suc from) n) (from ∷ loose_from homes (suc from) n) some) l)
      | inr none ↦
          elim (subst (IsIn id) (else_is (is_there (home_at homes from)) (loose_from homes (suc from) n) (from ∷ loose_from homes (suc from) n) none) l) [
            | inl e ↦ subst (λ i. home_at homes i ≡ None) (sym e) (not_there (home_at homes from) none)
            | inr m ↦ loose-home homes (suc from) n id m
          ]
    ]
  where
    not_there : (home : Option ℕ) → is_there home ≡ false → home ≡ None
    not_there None e = refl
    not_there (Some n) e = absurd (true≢false e)

pub home-loose : (homes : List (Option ℕ)) (from n id : ℕ) → from ≤ id → id < from + n → home_at homes id ≡ None → IsIn id (loose_from homes from n)
unfolding loose_from
home-loose homes from zero id low high e = absurd (omega (arith, low, high))
home-loose homes from (suc n) id low high e =
    elim (cases_eq id from) [
      | inl same ↦
          let none : is_there (home_at homes from) ≡ false = ap is_there (ap (home_at homes) (sym same) ∙ e) in
          subst (IsIn id) (sym (else_is (is_there (home_at homes from)) (loose_from homes (suc from) n) (from ∷ loose_from homes (suc from) n) none)) (inl same)
      | inr ne ↦
          let rest = home-loose homes (suc from) n id (omega (arith, low)) (omega (arith, high)) e in
          elim (cases_Bool (is_there (home_at homes from))) [
            | inl some ↦ subst (IsIn id) (sym (then_is (is_there (home_at homes from)) (loose_from homes (suc from) n) (from ∷ loose_from homes (suc from) n) some)) rest
            | inr none ↦ subst (IsIn id) (sym (else_is (is_there (home_at homes from)) (loose_from homes (suc from) n) (from ∷ loose_from homes (suc from) n) none)) (inr rest)
          ]
    ]

name-below : (names : List Reference) (n : Reference) (id : ℕ) → name_in names id ≡ Some n → id < length names
name-below [] n id e = let bad : None ≡ Some n = e in absurd (cc)
name-below (m ∷ ms) n zero e = omega arith
name-below (m ∷ ms) n (suc id) e = let lt = name-below ms n id e in omega (arith, lt)

-- Slots of images.

word-of_slot : (o : Object) (slot : ℕ) → slot < length o.refs → slice_index (object_words o) (4 + slot) ≡ reference_word (get_or o.refs slot Nil)
word-of_slot o slot lt =
    get_or-append-add (header_words o.header) (map reference_word o.refs ++ o.nums) slot 0
    ∙ get_or_append_left (map reference_word o.refs) o.nums 0 slot (let long = length-map o.refs reference_word in omega (arith, lt, long))
    ∙ get_or-map reference_word o.refs slot Nil 0 lt

no-far : (rs : List Reference) (y : ℕ) → IsAmong (Local y) (map far_of rs) → ⊥
no-far [] y k = k
no-far (r ∷ rs) y (inl e) = not_local r e
  where
    not_local : (r : Reference) → Local y ≡ far_of r → ⊥
    not_local Nil e = let bad : Local y ≡ Nil = e in absurd (cc)
    not_local (Pid p) e = let bad : Local y ≡ Pid p = e in absurd (cc)
    not_local (Local z) e = let bad : Local y ≡ Nil = e in absurd (cc)
no-far (r ∷ rs) y (inr k) = no-far rs y k

-- a reference whose name isn't a PID is to an object of the area
local-of : (here : area.Heap) (r : Reference) (y : ℕ) → name_of here r ≡ Local y → r ≡ Local y
local-of here Nil y e = let bad : Nil ≡ Local y = e in absurd (cc)
local-of here (Pid p) y e = let bad : Pid p ≡ Local y = e in absurd (cc)
local-of here (Local z) y e = ap Local (local-none here z y e).1

no-home : (h : Header) → h.kind ≡ kind.Closure → has_home h ≡ true → ⊥
unfolding has_home
no-home h is home = true≢false (sym home ∙ ap (λ k. if nat_eq (kind_number k) 2 then true else (if nat_eq (kind_number k) 3 then true else (if nat_eq (kind_number k) 4 then true else nat_eq (kind_number k) 7))) is)

module _ (here : area.Heap) (outside : Outside Space) (names : List Reference) (writing : List Source) (directory : Option ℕ) (h : Held) (sound : IsHeap here) (one : IsOne (seen here outside))
    (run : HoldsRun here outside names writing directory h) where
  abbrev S : Seen
  S = seen here outside

  -- What refers to an object that isn't stored isn't stored as it is.

  not_far : (x y : ℕ) → IsHeld here x → IsAmong (Local y) (shown_at here x).refs → IsStored outside (header_at here x).pid (image_of here x) → ⊥
  unfolding image_of
  not_far x y held k s =
      let o = area.object_at here x in
      let f = far_object here x in
      let t = slot-of (map (name_of here) o.refs) (Local y) k in
      let is_local = local-of here (get_or o.refs t.slot Nil) y (sym (get_or-map (name_of here) o.refs t.slot Nil Nil (let below = t.below in let long = length-map o.refs (name_of here) in omega (arith, below, long))) ∙ t.is) in
      let lt = held-lt here y sound (inside_kept here x sound held t.slot y is_local) in
      let fit = (split 1 here.objects x o sound.fit (held_is here x held)).fit in
      let place = (split 1 here.objects y (area.object_at here y) sound.fit (held_is here y (inside_kept here x sound held t.slot y is_local))).place in
      let low : 1 ≤ y = omega (arith, place) in
      let spelled = header-spelled (object_words f) f.header (record { flags = omega arith; refs = fit.fields.refs; nums = fit.fields.nums; bytes = fit.fields.bytes; pid = omega arith; chain = omega arith }) refl in
      let head : s.header ≡ f.header = sym (far_header (object_words f) s.header s.far) ∙ spelled in
      let count = refs-long here x sound held in
      let long = length-map o.refs (name_of here) in
      let far = s.far.refs t.slot (let same = ap (λ (g : Header). g.refs) head in let below = t.below in omega (arith, same, below, long, count)) in
      let word : slice_index (object_words f) (4 + t.slot) ≡ y = word-of_slot f t.slot t.below ∙ ap reference_word t.is in
      let small = sound.small in
      let within = sound.within in
      elim far [ inl zero_is ↦ omega (arith, zero_is, word, low) | inr high ↦ omega (arith, high, word, lt, small, within) ]

  abbrev OfHeap : ℕ → Type 0
  OfHeap x = IsOfHeap here h.objects names run.world.row.stands.tables.nodes x

  held-changed : (x y : ℕ) → IsHeld here x → OfHeap x → IsAmong (Local y) (shown_at here x).refs → ((header_at here x).pid ≡ 0) ⊎ IsListed x here.assigned
  held-changed x y held of k =
      elim (cases_eq (header_at here x).pid 0) [
        | inl none ↦ inl none
        | inr some ↦
            elim (listed_or x here.assigned) [
              | inl l ↦ inr l
              | inr away ↦ absurd (not_far x y held k (run.current.stored x held (omega arith) away of))
            ]
      ]

  seen-changed : (n : Reference) (it : Shown) (y : ℕ) → S n it → ((x : ℕ) → n ≡ name_at here x → it ≡ shown_at here x → OfHeap x) → IsAmong (Local y) it.refs → IsChanged here n it
  seen-changed n it y (inl a) of k =
      record {
        at = a.at;
        held = a.held;
        name = a.name_is;
        shown = a.shown_is;
        why = held-changed a.at y a.held (of a.at a.name_is a.shown_is) (subst (λ (s : Shown). IsAmong (Local y) s.refs) a.shown_is k);
      }
  seen-changed n it y (inr v) of k = absurd (no-far (object_in v.words).refs y (subst (λ (s : Shown). IsAmong (Local y) s.refs) v.shown_is k))

  pub changed : (m n : Reference) (id : ℕ) (of : Table) (it : Shown) (y : ℕ) → paired names m id → object_at h.objects id ≡ Some (Keyed of) → IsAmong n (run.world.row.stands.tables.nodes id)
      → S n it → IsAmong (Local y) it.refs → IsChanged here n it
  changed m n id of it y p is among k refs =
      seen-changed n it y k
      (λ x e shown. inr (record { name = m; id = id; named = p; table = of; table_is = is; among = subst (λ q. IsAmong q (run.world.row.stands.tables.nodes id)) e among })) refs

  pub closures : (p : ℕ) (it : Shown) (y : ℕ) → S (Pid p) it → it.kind ≡ kind.Closure → IsAmong (Local y) it.refs → ⊥
  closures p it y k is refs =
      let c = seen-changed (Pid p) it y k
      (λ x e shown. inl (λ node_is. let bad : kind.Closure ≡ kind.Node = sym is ∙ (ap (λ (s : Shown). s.kind) shown ∙ node_is) in absurd (cc))) refs in
      let kind_is : (header_at here c.at).kind ≡ kind.Closure = ap (λ (s : Shown). s.kind) (sym c.shown) ∙ is in
      elim c.why [
        | inl none ↦ let some = pid-some here c.at p (sym c.name) in absurd (omega (arith, none, some))
        | inr listed ↦
            elim (run.current.noted c.at listed) [
              | inl home ↦ no-home (header_at here c.at) kind_is home
              | inr node_is ↦ let bad : kind.Closure ≡ kind.Node = sym kind_is ∙ node_is in absurd (cc)
            ]
      ]

  text-refs : (c : Contents) → kind_of c ≡ kind.Text → (counts_of c).refs ≡ 0
  text-refs (text b) e = refl
  text-refs (structure r n) e = let bad : kind.Structure ≡ kind.Text = e in absurd (cc)
  text-refs (vector_of_references n) e = let bad : kind.Vector ≡ kind.Text = e in absurd (cc)
  text-refs (vector_of_numbers n) e = let bad : kind.Vector ≡ kind.Text = e in absurd (cc)
  text-refs (scope r n) e = let bad : kind.Scope ≡ kind.Text = e in absurd (cc)
  text-refs closure e = let bad : kind.Closure ≡ kind.Text = e in absurd (cc)
  text-refs (code c b) e = let bad : kind.Code ≡ kind.Text = e in absurd (cc)
  text-refs table e = let bad : kind.Table ≡ kind.Text = e in absurd (cc)
  text-refs node e = let bad : kind.Node ≡ kind.Text = e in absurd (cc)
  text-refs (layout.directory d) e = let bad : kind.Directory ≡ kind.Text = e in absurd (cc)

  pub texts : (x : ℕ) (n : Reference) → IsHeld here x → (header_at here x).kind ≡ kind.Text → IsAmong n (shown_at here x).refs → ⊥
  texts x n held is k =
      let w = run.current.told.whole x held in
      let none : (header_at here x).refs ≡ 0 = ap (λ (c : layout.Counts). c.refs) w.counts.counted ∙ text-refs w.contents (sym w.counts.kind ∙ is) in
      let long = (shown-counts here x sound held).0 in
      let s = slot-of (shown_at here x).refs n k in
      let below = s.below in
      omega (arith, none, long, below)

  -- Homes.

  pub home-none : (n : Reference) (i : ℕ) → paired names n i → home_at h.homes i ≡ None → IsLocal here n
  home-none n i p e = go n (subst (IsAtHome S n) e (run.homes n i p)) (run.world.row.stands.both n i p).it (run.world.row.stands.both n i p).there
    where
      go : (m : Reference) → IsAtHome S m None → (it : Shown) → S m it → IsLocal here m
      go Nil a it k = absurd a
      go (Pid q) a it k = absurd a
      go (Local z) a it k = let f = local-known here (IsStored outside) z it k in record { at = z; held = f.0; none = (local-none here z z f.1).0; is = sym f.1 }

  pub local-home : (x i : ℕ) → IsOf here names x i → (header_at here x).pid ≡ 0 → home_at h.homes i ≡ None
  local-home x i p none = go (home_at h.homes i) (subst (λ m. IsAtHome S m (home_at h.homes i)) (name-of_none here x none) (run.homes (name_at here x) i p.named))
    where
      go : (home : Option ℕ) → IsAtHome S (Local x) home → home ≡ None
      go None a = refl
      go (Some n) a = absurd a

  -- a stored object is at home where its first number word says
  pub stored-home : (x i : ℕ) → IsOf here names x i → 1 ≤ (header_at here x).pid → home_at h.homes i ≡ Some (num_at here x 0)
  stored-home x i p some = go (name_at here x) (home_at h.homes i) refl (run.homes (name_at here x) i p.named)
    where
      go : (n : Reference) (home : Option ℕ) → n ≡ name_at here x → IsAtHome S n home → home ≡ Some (num_at here x 0)
      go Nil home e a = absurd a
      go (Local z) home e a = let none = (local-none here x z (sym e)).0 in absurd (omega (arith, none, some))
      go (Pid q) None e a = absurd a
      go (Pid q) (Some n) e a = ap Some (sym a.2 ∙ ap (λ (s : Shown). word_in s 0) (seen-is here outside x (Pid q) a.0 sound p.held (sym e) a.1))

  pub below : (n : Reference) (i : ℕ) → paired names n i → i < length h.objects
  below n i p = let long = run.world.row.long in let lt = name-below names n i p in omega (arith, long, lt)

  pub free-local : (n : Reference) (i : ℕ) → paired names n i → IsIn i (loose h) → IsLocal here n
  unfolding loose
  free-local n i p l = home-none n i p (loose-home h.homes 0 (length h.objects) i l)

  pub local-free : (x i : ℕ) → IsOf here names x i → (header_at here x).pid ≡ 0 → IsIn i (loose h)
  unfolding loose
  local-free x i p none = home-loose h.homes 0 (length h.objects) i (omega arith) (let lt = below (name_at here x) i p.named in omega (arith, lt)) (local-home x i p none)

  abbrev pub tied : IsTied here (IsStored outside) h.objects names (λ i. IsIn i (loose h))
  tied = record {
    sound = sound;
    stands = run.world.row;
    one = one;
    free_local = free-local;
    local_free = local-free;
    changed = changed;
    closures = closures;
    texts = texts;
    trees = run.trees;
  }
