-- What a run holds after a field, an element or a kept name got a value.
use Rattle.std.proofs.Common.{Bool, true, false, inl, inr, ◌⊎◌, ◌≡◌, ◌≢◌, ℕ, ◌≤◌, List, [], ◌∷◌, ◌++◌, map, get_or, refl, sym, ap, ◌∙◌, subst, arith, Option, Some, None, nat_eq, if◌then◌else◌}
use Rattle.std.specs.Prelude.{◌&&◌}
use Rattle.std.proofs.lemmas.Bool.{cases_Bool, cases_eq, eqb-true, true≢false}
use Rattle.joint_ops.specs.ps_outside.Outside.{Outside}
use Rattle.joint_ops.specs.obj_layout.Stored.{Space, Holds}
use Rattle.joint_ops.specs.obj_layout.Kind.{kind_number}
use Rattle.joint_ops.specs.obj_layout.declared.kind.Kind.{Kind}
use Rattle.joint_ops.specs.obj_layout.declared.kind.Kind.TheVariants as kind
use Rattle.joint_ops.specs.obj_layout.declared.header.Header.{Header}
use Rattle.joint_ops.specs.obj_layout.declared.reference.Reference.{Reference}
use Rattle.joint_ops.specs.obj_layout.declared.reference.Reference.TheVariants.{Nil, Pid, Local}
use Rattle.joint_ops.specs.swizzle.Objects.{Object, object_words}
use Rattle.joint_ops.specs.swizzle.Heap as area
use Rattle.joint_ops.specs.swizzle.Heap.{IsHeap, IsHeld, IsListed, header_at, num_at, local_of}
use Rattle.joint_ops.specs.swizzle.Joint.{Shown, name_by, name_at, name_of, shown, shown_at}
use Rattle.swizzle.proofs.NameLaws.{names-decided, name-pid, name-none, not_away}
use Rattle.swizzle.proofs.FetchedLaws.{local-place}
use Rattle.joint_ops.specs.World.{IsStored, seen}
use Rattle.joint_ops.proofs.SeenLaws.{seen-is, seen-held, seen-one}
use Rattle.joint_ops.specs.heap_places.Shapes.{slot_of, word_in, IsText}
use Rattle.joint_ops.specs.heap_meaning.avl_trees.Trees.{Tree}
use Rattle.joint_ops.specs.heap_meaning.avl_trees.Standing.{root_of, Stands}
use Rattle.joint_ops.specs.heap_meaning.node_rows.Keys.{Keys}
use Rattle.joint_ops.specs.heap_meaning.node_rows.Nodes.{I, IsAmong, HasNode, link_of}
use Rattle.joint_ops.specs.heap_meaning.Tables.{names_of}
use Rattle.joint_ops.specs.heap_meaning.Standing.{Seen, Pairing, IsOne, IsKindOf}
use Rattle.joint_ops.specs.heap_meaning.Paired.{paired}
use Rattle.heap_meaning.proofs.TableLaws.{table-nodes}
use Rattle.joint_ops.specs.ps_heap.Tables.{Table, is_same_key}
use Rattle.joint_ops.specs.ps_heap.Objects.{Heap, Keyed, object_at}
use Rattle.joint_ops.specs.ps_heap.Databases.{Directory, is_there}
use Rattle.joint_ops.specs.ps_heap.Held.{Place, Part, Under, object_of, is_same_place, is_among, places_with, Held, home_at, assigning}
use Rattle.db_dir.specs.Directories.{IsDirectory, IsDirectoryAt, AreNamed}
use Rattle.reaching.proofs.Lists.{then_is, else_is}
use Rattle.commit_walk.specs.Walk.{has_home}
use Rattle.commit_walk.specs.Homes.{source_at}
use Rattle.commit_walk.specs.declared.homes.Source.{Source}
use Rattle.reach_commit.specs.commit_images.Images.{image_of}
use Rattle.reach_commit.specs.commit_images.Stored.{IsWhole}
use Rattle.joint_held.specs.Held.{IsAtHome, IsOf, IsNoted, HasPlace, IsHere, HasChanged, IsTree, IsKeyed, IsOfHeap, HasRoot, HoldsRun}
use Rattle.joint_ops.specs.Writing.{HasParts}
use Rattle.joint_held.specs.Writing.{WritesObject}
use Rattle.joint_held.proofs.TreeLaws as trees
use Rattle.joint_held.proofs.TreeLaws.{tree-stays, tree-one, tree-in, nodes-one, WasOpen, is-tree}
use Rattle.joint_held.proofs.ImageLaws.{far-same, contents-same}
use Rattle.joint_held.proofs.StoreLaws.{unasked-stays, unasked-as}
use Rattle.joint_held.proofs.GainLaws.{home-by_kind}

-- Places.

first-true : (c d : Bool) → (c && d) ≡ true → c ≡ true
first-true true d e = refl
first-true false d e = e

same-object : (p q : Place) → is_same_place p q ≡ true → object_of p ≡ object_of q
same-object (Part a i) (Part b j) e = eqb-true a b (first-true (nat_eq a b) (nat_eq i j) e)
same-object (Under a k) (Under b l) e = eqb-true a b (first-true (nat_eq a b) (is_same_key k l) e)
same-object (Part a i) (Under b l) e = absurd (true≢false (sym e))
same-object (Under a k) (Part b j) e = absurd (true≢false (sym e))

among-place : (p : Place) (ps : List Place) → is_among p ps ≡ true → HasPlace ps (object_of p)
unfolding is_among
among-place p [] e = true≢false (sym e)
among-place p (q ∷ ps) e =
    elim (cases_Bool (is_same_place p q)) [
      | inl same ↦ inl (sym (same-object p q same))
      | inr apart ↦ inr (among-place p ps (sym (else_is (is_same_place p q) true (is_among p ps) apart) ∙ e))
    ]

place-front : (ps qs : List Place) (i : ℕ) → HasPlace ps i → HasPlace (ps ++ qs) i
place-front [] qs i k = absurd k
place-front (p ∷ ps) qs i (inl e) = inl e
place-front (p ∷ ps) qs i (inr k) = inr (place-front ps qs i k)

place-back : (ps qs : List Place) (i : ℕ) → HasPlace qs i → HasPlace (ps ++ qs) i
place-back [] qs i k = k
place-back (p ∷ ps) qs i k = inr (place-back ps qs i k)

place-cases : (ps qs : List Place) (i : ℕ) → HasPlace (ps ++ qs) i → HasPlace ps i ⊎ HasPlace qs i
place-cases [] qs i k = inr k
place-cases (p ∷ ps) qs i (inl e) = inl (inl e)
place-cases (p ∷ ps) qs i (inr k) = elim (place-cases ps qs i k) [ inl a ↦ inl (inr a) | inr b ↦ inr b ]

-- a place with one more noted
pub with-place : (homes : List (Option ℕ)) (p : Place) (ps : List Place) (i : ℕ) → HasPlace ps i → HasPlace (places_with homes p ps) i
unfolding places_with
with-place homes p ps i k =
    let more = if is_among p ps then ps else ps ++ p ∷ [] in
    elim (cases_Bool (is_there (home_at homes (object_of p)))) [
      | inr none ↦ subst (λ l. HasPlace l i) (sym (else_is (is_there (home_at homes (object_of p))) more ps none)) k
      | inl some ↦ subst (λ l. HasPlace l i) (sym (then_is (is_there (home_at homes (object_of p))) more ps some)) (elim (cases_Bool (is_among p ps)) [
        | inl there ↦ subst (λ l. HasPlace l i) (sym (then_is (is_among p ps) ps (ps ++ p ∷ []) there)) k
        | inr away ↦ subst (λ l. HasPlace l i) (sym (else_is (is_among p ps) ps (ps ++ p ∷ []) away)) (place-front ps (p ∷ []) i k)
      ])
    ]

pub with-this : (homes : List (Option ℕ)) (p : Place) (ps : List Place) → is_there (home_at homes (object_of p)) ≡ true → HasPlace (places_with homes p ps) (object_of p)
unfolding places_with
with-this homes p ps some =
    let more = if is_among p ps then ps else ps ++ p ∷ [] in
    subst (λ l. HasPlace l (object_of p)) (sym (then_is (is_there (home_at homes (object_of p))) more ps some)) (elim (cases_Bool (is_among p ps)) [
      | inl there ↦ subst (λ l. HasPlace l (object_of p)) (sym (then_is (is_among p ps) ps (ps ++ p ∷ []) there)) (among-place p ps there)
      | inr away ↦ subst (λ l. HasPlace l (object_of p)) (sym (else_is (is_among p ps) ps (ps ++ p ∷ []) away)) (place-back ps (p ∷ []) (object_of p) (inl refl))
    ])

pub place-with : (homes : List (Option ℕ)) (p : Place) (ps : List Place) (i : ℕ) → HasPlace (places_with homes p ps) i → HasPlace ps i ⊎ ((object_of p ≡ i) × (is_there (home_at homes (object_of p)) ≡ true))
unfolding places_with
place-with homes p ps i k =
    let more = if is_among p ps then ps else ps ++ p ∷ [] in
    elim (cases_Bool (is_there (home_at homes (object_of p)))) [
      | inr none ↦ inl (subst (λ l. HasPlace l i) (else_is (is_there (home_at homes (object_of p))) more ps none) k)
      | inl some ↦
          let m = subst (λ l. HasPlace l i) (then_is (is_there (home_at homes (object_of p))) more ps some) k in
          elim (cases_Bool (is_among p ps)) [
            | inl there ↦ inl (subst (λ l. HasPlace l i) (then_is (is_among p ps) ps (ps ++ p ∷ []) there) m)
            | inr away ↦
                elim (place-cases ps (p ∷ []) i (subst (λ l. HasPlace l i) (else_is (is_among p ps) ps (ps ++ p ∷ []) away) m)) [
                  | inl a ↦ inl a
                  | inr b ↦ elim b [ inl e ↦ inr (e, some) | inr none ↦ absurd none ]
                ]
          ]
    ]

-- a directory is seen so still, where texts and tables are
pub named-stays : (seen now : Seen) (pair : Pairing) (ns : List Reference) (ds : Directory) → ((n : Reference) (bytes : List ℕ) → IsText seen n bytes → IsText now n bytes)
    → ((n : Reference) → IsKindOf seen n kind.Table → IsKindOf now n kind.Table) → AreNamed seen pair ns ds → AreNamed now pair ns ds
named-stays seen now pair (name ∷ password ∷ root ∷ ns) (d ∷ ds) text tab a =
    (text name d.name a.0, text password d.password a.1, record { paired = a.2.paired; kind = tab root a.2.kind }, named-stays seen now pair ns ds text tab a.3)
named-stays seen now pair [] [] text tab a = tt
named-stays seen now pair [] (d ∷ ds) text tab a = absurd a
named-stays seen now pair (x ∷ []) ds text tab a = absurd a
named-stays seen now pair (x ∷ y ∷ []) ds text tab a = absurd a
named-stays seen now pair (x ∷ y ∷ z ∷ ns) [] text tab a = absurd a

parts-home : (h : Header) → HasParts h.kind → has_home h ≡ true
unfolding has_home
parts-home h p = go h.kind p
  where
    go : (k : Kind) → HasParts k → (if nat_eq (kind_number k) 2 then true else (if nat_eq (kind_number k) 3 then true else (if nat_eq (kind_number k) 4 then true else nat_eq (kind_number k) 7))) ≡ true
    go kind.Structure p = refl
    go kind.Vector p = refl
    go kind.Scope p = refl
    go kind.Text p = absurd p
    go kind.Closure p = absurd p
    go kind.Code p = absurd p
    go kind.Table p = absurd p
    go kind.Node p = absurd p
    go kind.Directory p = absurd p

module _ (old new : area.Heap) (outside : Outside Space) (names : List Reference) (writing : List Source) (directory : Option ℕ) (h : Held) (x : ℕ) (place : Place) (objects : Heap)
    (was_sound : IsHeap old) (sound : IsHeap new) (w : WritesObject old new outside names h x (object_of place) objects)
    (run : HoldsRun old outside names writing directory h) where
  abbrev S : Seen
  S = seen old outside

  abbrev N : Seen
  N = seen new outside

  was_one : IsOne (seen old outside)
  was_one = seen-one old outside was_sound run.store.one

  one : IsOne (seen new outside)
  one = seen-one new outside sound run.store.one

  abbrev Id : ℕ
  Id = object_of place

  name-same : (y : ℕ) → name_at new y ≡ name_at old y
  name-same y = elim (cases_eq y x) [
    | inr ne ↦ ap (λ (o : Object). name_by o.header y) (w.write.others y ne)
    | inl e ↦ subst (λ z. name_at new z ≡ name_at old z) (sym e) (ap (λ p. if nat_eq p 0 then Local x else Pid p) w.write.pid)
  ]

  pid-same : (y : ℕ) → (header_at new y).pid ≡ (header_at old y).pid
  pid-same y = elim (cases_eq y x) [
    | inr ne ↦ ap (λ (o : Object). o.header.pid) (w.write.others y ne)
    | inl e ↦ subst (λ z. (header_at new z).pid ≡ (header_at old z).pid) (sym e) w.write.pid
  ]

  kind-same : (y : ℕ) → (header_at new y).kind ≡ (header_at old y).kind
  kind-same y = elim (cases_eq y x) [
    | inr ne ↦ ap (λ (o : Object). o.header.kind) (w.write.others y ne)
    | inl e ↦ subst (λ z. (header_at new z).kind ≡ (header_at old z).kind) (sym e) w.write.kind
  ]

  of-name : (r : Reference) → name_of new r ≡ name_of old r
  of-name Nil = refl
  of-name (Pid p) = refl
  of-name (Local y) = name-same y

  names-same : (rs : List Reference) → map (name_of new) rs ≡ map (name_of old) rs
  names-same [] = refl
  names-same (r ∷ rs) = ap (λ (n : Reference). n ∷ map (name_of new) rs) (of-name r) ∙ ap (λ (ns : List Reference). name_of old r ∷ ns) (names-same rs)

  shown-same : (y : ℕ) → y ≢ x → shown_at new y ≡ shown_at old y
  shown-same y ne =
      ap (λ (o : Object). shown (name_of new) o) (w.write.others y ne)
      ∙ ap (λ (rs : List Reference). record (shown_at old y) { refs = rs }) (names-same (area.object_at old y).refs)

  -- What is seen under other names is seen still, and nothing else.

  away-new : (pid : ℕ) → 1 ≤ pid → local_of old pid ≡ None → local_of new pid ≡ None
  away-new pid low away = go (local_of new pid) refl
    where
      go : (r : Option ℕ) → local_of new pid ≡ r → local_of new pid ≡ None
      go None e = e
      go (Some at) e =
          let l = local-place new pid at low e in
          absurd (not_away old at pid was_sound (w.write.back at l.held) (sym l.name ∙ name-same at) away)

  seen-new : (n : Reference) (it : Shown) → n ≢ name_at old x → S n it → N n it
  seen-new n it ne (inl a) =
      let apart : a.at ≢ x = λ e. ne (a.name_is ∙ ap (name_at old) e) in
      inl (record { at = a.at; held = w.write.stand a.at a.held; name_is = a.name_is ∙ sym (name-same a.at); shown_is = a.shown_is ∙ sym (shown-same a.at apart) })
  seen-new n it ne (inr v) =
      inr (record { pid = v.pid; words = v.words; name_is = v.name_is; there = v.there; away = away-new v.pid (Rattle.joint_ops.proofs.of_heap_meaning.of_obj_layout.StoredLaws.Holds-low outside v.pid v.words v.there.there) v.away; shown_is = v.shown_is })

  -- the object that was written has parts: what is of another kind is another one
  not-x : (n : Reference) (it : Shown) → S n it → (HasParts it.kind → ⊥) → n ≢ name_at old x
  not-x n it s other e = other (subst (λ (i : Shown). HasParts i.kind) (sym (seen-is old outside x n it was_sound w.write.held (sym e) s)) w.write.parts)

  text-stays : (n : Reference) (bytes : List ℕ) → IsText S n bytes → IsText N n bytes
  text-stays n bytes k = record {
    it = k.it;
    there = seen-new n k.it (not-x n k.it k.there (λ p. subst HasParts k.kind p)) k.there;
    kind = k.kind;
    bytes_are = k.bytes_are;
  }

  stays : trees.Stays S N
  stays = record { nodes = λ n it is s. seen-new n it (not-x n it s (λ p. subst HasParts is p)) s; texts = text-stays }

  table-stays : (n : Reference) (it : Shown) → it.kind ≡ kind.Table → S n it → N n it
  table-stays n it is s = seen-new n it (not-x n it s (λ p. subst HasParts is p)) s

  -- Homes and ids.

  homes : (n : Reference) (id : ℕ) → paired names n id → IsAtHome N n (home_at h.homes id)
  homes n id p = go n (home_at h.homes id) (run.homes n id p)
    where
      go : (m : Reference) (home : Option ℕ) → IsAtHome S m home → IsAtHome N m home
      go Nil home a = absurd a
      go (Pid q) None a = absurd a
      go (Local z) None a = a
      go (Local z) (Some n) a = absurd a
      go (Pid q) (Some n) a = elim (names-decided (Pid q) (name_at old x)) [
        | inr ne ↦ (a.0, seen-new (Pid q) a.0 ne a.1, a.2)
        | inl e ↦
            let was : a.0 ≡ shown_at old x = seen-is old outside x (Pid q) a.0 was_sound w.write.held (sym e) a.1 in
            let now : N (Pid q) (shown_at new x) = subst (λ (m : Reference). N m (shown_at new x)) (name-same x ∙ sym e) (seen-held new outside x (w.write.stand x w.write.held)) in
            (shown_at new x, now, w.write.home ∙ (sym (ap (λ (s : Shown). word_in s 0) was) ∙ a.2))
      ]

  of-new : (y id : ℕ) → IsOf old names y id → IsOf new names y id
  of-new y id p = record { held = w.write.stand y p.held; named = p.named ∙ ap Some (sym (name-same y)) }

  of-old : (y id : ℕ) → IsOf new names y id → IsOf old names y id
  of-old y id p = record { held = w.write.back y p.held; named = p.named ∙ ap Some (name-same y) }

  -- a committed object is stored, and a stored one is committed
  home-stored : (y id : ℕ) → IsOf old names y id → is_there (home_at h.homes id) ≡ true → 1 ≤ (header_at old y).pid
  home-stored y id p some = elim (cases_eq (header_at old y).pid 0) [
    | inr ne ↦ omega (arith, ne)
    | inl none ↦ go (home_at h.homes id) some (subst (λ m. IsAtHome S m (home_at h.homes id)) (name-none (header_at old y) y none) (run.homes (name_at old y) id p.named))
  ]
    where
      go : (home : Option ℕ) → is_there home ≡ true → IsAtHome S (Local y) home → 1 ≤ (header_at old y).pid
      go None e a = absurd (true≢false (sym e))
      go (Some n) e a = absurd a

  stored-home : (y id : ℕ) → IsOf old names y id → 1 ≤ (header_at old y).pid → is_there (home_at h.homes id) ≡ true
  stored-home y id p low = go (home_at h.homes id) (subst (λ m. IsAtHome S m (home_at h.homes id)) (name-pid (header_at old y) y low) (run.homes (name_at old y) id p.named))
    where
      go : (home : Option ℕ) → IsAtHome S (Pid (header_at old y).pid) home → is_there home ≡ true
      go None a = absurd a
      go (Some n) a = refl

  one-id : (id : ℕ) → IsOf old names x id → id ≡ Id
  one-id id p = run.world.row.stands.one_number (name_at old x) id Id p.named w.of.named

  noted : (id : ℕ) → HasPlace (places_with h.homes place h.assigned) id → (y : ℕ) × IsOf new names y id × IsNoted new y
  noted id k = elim (place-with h.homes place h.assigned id k) [
    | inl was ↦
        let n = run.assigned.noted id was in
        (n.0, of-new n.0 id n.1, record { stored = (let same = pid-same n.0 in let low = n.2.stored in omega (arith, same, low)); listed = w.write.kept n.0 n.2.listed })
    | inr now ↦
        let low = home-stored x Id w.of now.1 in
        (x, subst (IsOf new names x) now.0 (of-new x Id w.of), record { stored = (let same = pid-same x in omega (arith, same, low)); listed = w.write.noted })
  ]

  placed : (y id : ℕ) → IsOf new names y id → IsNoted new y → HasPlace (places_with h.homes place h.assigned) id
  placed y id p n =
      let q = of-old y id p in
      let low : 1 ≤ (header_at old y).pid = (let same = pid-same y in let now = n.stored in omega (arith, same, now)) in
      elim (w.write.only y n.listed) [
        | inl was ↦ with-place h.homes place h.assigned id (run.assigned.placed y id q (record { stored = low; listed = was }))
        | inr e ↦
            let here = subst (λ z. IsOf old names z id) e q in
            let low_x = subst (λ z. 1 ≤ (header_at old z).pid) e low in
            subst (HasPlace (places_with h.homes place h.assigned)) (sym (one-id id here)) (with-this h.homes place h.assigned (stored-home x Id w.of low_x))
      ]

  known : (y : ℕ) → IsNoted new y → has_home (header_at new y) ≡ true → (id : ℕ) × IsOf new names y id
  known y n home =
      let low : 1 ≤ (header_at old y).pid = (let same = pid-same y in let now = n.stored in omega (arith, same, now)) in
      elim (w.write.only y n.listed) [
        | inl was ↦
            let k = run.assigned.known y (record { stored = low; listed = was }) (sym (home-by_kind (header_at new y) (header_at old y) (kind-same y)) ∙ home) in
            (k.0, of-new y k.0 k.1)
        | inr e ↦ (Id, subst (λ z. IsOf new names z Id) (sym e) (of-new x Id w.of))
      ]

  -- Tables.

  old-table : (id : ℕ) (table : Table) → object_at objects id ≡ Some (Keyed table) → object_at h.objects id ≡ Some (Keyed table)
  old-table id table is = elim (cases_eq id Id) [
    | inl e ↦ absurd (w.plain table (subst (λ i. object_at objects i ≡ Some (Keyed table)) e is))
    | inr ne ↦ sym (w.others id ne) ∙ is
  ]

  here : (m : Reference) → IsHere old m → IsHere new m
  here m k = record { at = k.at; held = w.write.stand k.at k.held; name = name-same k.at ∙ k.name }

  changed-new : (ns : List Reference) → HasChanged old ns → HasChanged new ns
  changed-new ns c = record {
    at = c.at;
    held = w.write.stand c.at c.held;
    among = subst (λ m. IsAmong m ns) (sym (name-same c.at)) c.among;
    why = elim c.why [ inl none ↦ inl (pid-same c.at ∙ none) | inr l ↦ inr (w.write.kept c.at l) ];
  }

  was-open : (y : ℕ) → IsHeld new y → IsKindOf S (name_at new y) kind.Node → ((header_at new y).pid ≡ 0) ⊎ IsListed y new.assigned → WasOpen old (name_at new y)
  was-open y held k (inl none) = record { at = y; held = w.write.back y held; name = sym (name-same y); why = inl (sym (pid-same y) ∙ none) }
  was-open y held k (inr l) = elim (w.write.only y l) [
    | inl was ↦ record { at = y; held = w.write.back y held; name = sym (name-same y); why = inr was }
    | inr e ↦ absurd (not-x (name_at new y) k.it k.there (λ p. subst HasParts k.kind_is p) (name-same y ∙ ap (name_at old) e))
  ]

  are-trees : (n : Reference) (id : ℕ) (table : Table) (it : Shown) (ks : Keys) (u : Tree (I ks)) → paired names n id → object_at objects id ≡ Some (Keyed table) → IsKeyed ks table → N n it
      → link_of (slot_of it 0) ≡ root_of u → Stands (HasNode ks N) u → IsTree new N n ks u
  are-trees n id table it ks u named is keyed there root stands =
      let was_is = old-table id table is in
      let tab = run.world.row.stands.tables.each n id table named was_is in
      let v = tree-in ks S (paired names) tab.root table (run.world.row.stands.tables.nodes id) keyed tab.has in
      let slot : slot_of tab.it 0 ≡ tab.root = ap (λ (r : List Reference). get_or r 0 Nil) tab.refs in
      let was_root : link_of (slot_of tab.it 0) ≡ root_of v.tree = ap link_of slot ∙ v.root_is in
      let same : tab.it ≡ it = one n tab.it it (table-stays n tab.it tab.kind_is tab.there) there in
      let one_tree = tree-one ks N v.tree u one (sym was_root ∙ (ap (λ (s : Shown). link_of (slot_of s 0)) same ∙ root)) (tree-stays ks S N v.tree stays v.stands) stands in
      let was = run.trees n id table tab.it ks v.tree named was_is keyed tab.there was_root v.stands in
      subst (IsTree new N n ks) one_tree
      (is-tree old new S N n ks v.tree one stays v.stands
      (λ y held k why. was-open y held (table-nodes S (paired names) n table (run.world.row.stands.tables.nodes id) (name_at new y) tab (subst (IsAmong (name_at new y)) (sym v.nodes_are) k)) why)
      here (changed-new (n ∷ [])) was)

  -- What the vault has.

  was-node : (y : ℕ) → IsOfHeap new objects names w.world.row.stands.tables.nodes y → IsOfHeap old h.objects names run.world.row.stands.tables.nodes y
  was-node y (inl other) = inl (λ e. other (kind-same y ∙ e))
  was-node y (inr n) =
      let was_is = old-table n.id n.table n.table_is in
      let a = run.world.row.stands.tables.each n.name n.id n.table n.named was_is in
      let b = w.world.row.stands.tables.each n.name n.id n.table n.named n.table_is in
      let same = nodes-one S N (paired names) (paired names) n.name n.table (run.world.row.stands.tables.nodes n.id) (w.world.row.stands.tables.nodes n.id) one stays a b
      (λ it s. table-stays n.name it (table-kind n.name a it s) s) in
      inr (record {
        name = n.name;
        id = n.id;
        named = n.named;
        table = n.table;
        table_is = was_is;
        among = subst (IsAmong (name_at old y)) (sym same) (subst (λ m. IsAmong m (w.world.row.stands.tables.nodes n.id)) (name-same y) n.among);
      })
    where
      table-kind : {table : Table} {nodes : List Reference} (n : Reference) (a : Rattle.joint_ops.specs.heap_meaning.Tables.IsTable S (paired names) n table nodes) (it : Shown) → S n it → it.kind ≡ kind.Table
      table-kind n a it s = ap (λ (i : Shown). i.kind) (was_one n it a.it s a.there) ∙ a.kind_is

  image-same : (y : ℕ) → y ≢ x → image_of new y ≡ image_of old y
  unfolding image_of
  image-same y ne =
      let o = w.write.others y ne in
      ap object_words (far-same old new y (ap (λ (b : Object). b.header.kind) o) (ap (λ (b : Object). b.header.refs) o) (ap (λ (b : Object). b.header.nums) o) (ap (λ (b : Object). b.header.bytes) o)
      (ap (λ (s : Shown). s.refs) (shown-same y ne)) (ap (λ (b : Object). b.nums) o))

  stored : (y : ℕ) → IsHeld new y → 1 ≤ (header_at new y).pid → (IsListed y new.assigned → ⊥) → IsOfHeap new objects names w.world.row.stands.tables.nodes y
      → IsStored outside (header_at new y).pid (image_of new y)
  stored y held low away of =
      let ne : y ≢ x = λ e. away (subst (λ z. IsListed z new.assigned) (sym e) w.write.noted) in
      let same = pid-same y in
      let s = run.current.stored y (w.write.back y held) (omega (arith, same, low)) (λ l. away (w.write.kept y l)) (was-node y of) in
      subst (λ p. IsStored outside p (image_of new y)) (sym same) (subst (IsStored outside (header_at old y).pid) (sym (image-same y ne)) s)

  whole : (y : ℕ) → IsHeld new y → IsWhole new y
  whole y held =
      let k = run.current.told.whole y (w.write.back y held) in
      elim (cases_eq y x) [
        | inr ne ↦
            let o = w.write.others y ne in
            record {
              contents = k.contents;
              counts = contents-same (header_at old y) (header_at new y) k.contents (ap (λ (b : Object). b.header.kind) o) (ap (λ (b : Object). b.header.refs) o) (ap (λ (b : Object). b.header.nums) o)
                  (ap (λ (b : Object). b.header.bytes) o) k.counts;
            }
        | inl e ↦
            let v = run.current.told.whole x w.write.held in
            subst (IsWhole new) (sym e) (record { contents = v.contents; counts = contents-same (header_at old x) (header_at new x) v.contents w.write.kind w.write.refs w.write.nums w.write.bytes v.counts })
      ]

  noted-kind : (y : ℕ) → IsListed y new.assigned → (has_home (header_at new y) ≡ true) ⊎ ((header_at new y).kind ≡ kind.Node)
  noted-kind y l = elim (w.write.only y l) [
    | inl was ↦
        elim (run.current.noted y was) [
          | inl home ↦ inl (home-by_kind (header_at new y) (header_at old y) (kind-same y) ∙ home)
          | inr node_is ↦ inr (kind-same y ∙ node_is)
        ]
    | inr e ↦ inl (home-by_kind (header_at new y) (header_at old x) (kind-same y ∙ ap (λ z. (header_at old z).kind) e) ∙ parts-home (header_at old x) w.write.parts)
  ]

  kind-stays : (n : Reference) → IsKindOf S n kind.Table → IsKindOf N n kind.Table
  kind-stays n k = record { it = k.it; there = table-stays n k.it k.kind_is k.there; kind_is = k.kind_is }

  directory-seen : (n : Reference) (it : Shown) → it.kind ≡ kind.Directory → S n it → N n it
  directory-seen n it k s = seen-new n it (not-x n it s (λ p. subst HasParts k p)) s

  directory-new : (d : Option ℕ) → IsDirectoryAt old S (paired names) d h.directory → IsDirectoryAt new N (paired names) d h.directory
  directory-new None is = is
  directory-new (Some at) is =
      let ne : at ≢ x = λ e. subst HasParts is.kind_is (subst (λ z. HasParts (header_at old z).kind) (sym e) w.write.parts) in
      subst (λ (s : Shown). IsDirectory N (paired names) s h.directory) (sym (shown-same at ne)) (record {
        kind_is = is.kind_is;
        home = is.home;
        some = is.some;
        few = is.few;
        fit = is.fit;
        names = named-stays S N (paired names) (shown_at old at).refs h.directory text-stays kind-stays is.names;
      })

  root-new : (number at : ℕ) → HasRoot old names h number at → HasRoot new names (assigning place objects h) number at
  root-new number at r = record { database = r.database; is = r.is; root = of-new at r.database.root r.root }

  pub written : HoldsRun new outside names writing directory (assigning place objects h)
  written = record {
    store = run.store;
    world = w.world;
    homes = homes;
    homed = omega (arith, run.homed, run.world.row.long, w.world.row.long);
    assigned = record { noted = noted; placed = placed; known = known };
    trees = are-trees;
    current = record {
      told = record {
        content = run.current.told.content;
        is = run.current.told.is;
        cut = run.current.told.cut;
        there = λ y held low.
            let same = pid-same y in
            let k = run.current.told.there y (w.write.back y held) (omega (arith, same, low)) in
            (k.0, subst (λ p. Holds outside p k.0) (sym same) k.1);
        whole = whole;
      };
      stored = stored;
      noted = noted-kind;
    };
    sources = record {
      numbers = run.sources.numbers;
      each = λ q lt. record {
        made = λ at e. let m = (run.sources.each q lt).made at e in (m.0, root-new (source_at writing q).number at m.1);
        other = (run.sources.each q lt).other;
      };
      made = run.sources.made;
      roots = λ q at lt e.
          let r = run.sources.roots q at lt e in
          record { held = w.write.stand at r.held; unstored = pid-same at ∙ r.unstored; kind = kind-same at ∙ r.kind; only = r.only };
      others = run.sources.others;
    };
    asked = λ e. directory-new directory (run.asked e);
    unasked = λ e.
        unasked-as new outside names h (assigning place objects h) directory refl refl refl
        (unasked-stays old new outside outside names names h directory (λ space is. is) directory-seen (λ ns a. named-stays S N (paired names) ns h.directory text-stays kind-stays a) (run.unasked e));
  }
