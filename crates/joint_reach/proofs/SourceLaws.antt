-- The databases that are open for writing: what each reaches in code and in the meaning.
use Rattle.std.proofs.Common.{true, inl, inr, ◌≡◌, ℕ, zero, suc, ◌<◌, List, [], ◌∷◌, length, map, get_or, refl, sym, ap, ◌∙◌, subst, arith, Option, Some, None, nat_eq, if◌then◌else◌}
use Rattle.std.proofs.lemmas.Bool.{cases_Bool, cases_eq, true≢false}
use Rattle.joint_ops.specs.ps_outside.Outside.{Outside}
use Rattle.joint_ops.specs.obj_layout.Stored.{Space}
use Rattle.joint_ops.specs.obj_layout.Kind.{kind_number}
use Rattle.joint_ops.specs.obj_layout.declared.kind.Kind.{Kind}
use Rattle.joint_ops.specs.obj_layout.declared.kind.Kind.TheVariants as kind
use Rattle.joint_ops.specs.obj_layout.declared.header.Header.{Header}
use Rattle.joint_ops.specs.obj_layout.declared.reference.Reference.{Reference}
use Rattle.joint_ops.specs.swizzle.Heap as area
use Rattle.joint_ops.specs.swizzle.Heap.{IsHeap, IsHeld, IsListed, header_at, num_at}
use Rattle.joint_ops.specs.swizzle.Joint.{name_at, shown_at}
use Rattle.swizzle.proofs.NameLaws.{name_at-injective}
use Rattle.joint_ops.specs.World.{IsStored, seen}
use Rattle.joint_ops.specs.heap_meaning.Standing.{IsOne}
use Rattle.joint_ops.specs.ps_heap.Objects.{Heap}
use Rattle.joint_ops.specs.ps_heap.References.{next_in}
use Rattle.joint_ops.specs.ps_heap.Databases.{Directory, Database, database_at, root_of}
use Rattle.joint_ops.specs.ps_heap.Held.{Place, object_of, Held, home_at}
use Rattle.joint_ops.specs.ps_heap.Commit.{loose, roots_of, after_places, is_home, at_home, source_of}
use Rattle.reaching.specs.Reaching.{IsIn, is_in, Reached, ReachedIn}
use Rattle.reaching.specs.Refined.{Target, StartsOf, IsRefined}
use Rattle.reaching.proofs.Lists.{then_is, else_is, is_in-in, in-is_in, in-append, in-front, in-behind}
use Rattle.reaching.proofs.RefinedLaws.{found-id, id-found}
use Rattle.commit_walk.specs.Walk.{Goes, May, has_home, IsAt, Starts, Finds}
use Rattle.commit_walk.specs.Homes.{source_at}
use Rattle.commit_walk.specs.declared.homes.Source.{Source}
use Rattle.commit_walk.proofs.SteadyLaws.{reached-map, in-listed}
use Rattle.commit_walk.proofs.FromLaws.{in-index, index-in}
use Rattle.reach_commit.specs.Deciding.{IsWriting}
use Rattle.joint_held.specs.Held.{IsOf, IsNoted, HasPlace, HoldsRun}
use Rattle.joint_reach.proofs.MeetLaws.{IsObjectKind, none-may, pair-kind, refined}
use Rattle.joint_reach.proofs.SeenLaws.{known}
use Rattle.joint_reach.proofs.TiedLaws.{stored-home, local-free, tied}

pub listed-in : (x : ℕ) (xs : List ℕ) → IsListed x xs → IsIn x xs
listed-in x [] l = l
listed-in x (y ∷ ys) (inl e) = inl e
listed-in x (y ∷ ys) (inr l) = inr (listed-in x ys l)

some_same : (a b : ℕ) → Some a ≡ Some b → a ≡ b
some_same a b e = cc

some_database : (a b : Database) → Some a ≡ Some b → a ≡ b
some_database a b e = cc

home-kind : (h : Header) → IsObjectKind h.kind → has_home h ≡ true
unfolding has_home
home-kind h o = go h.kind o
  where
    go : (k : Kind) → IsObjectKind k → (if nat_eq (kind_number k) 2 then true else (if nat_eq (kind_number k) 3 then true else (if nat_eq (kind_number k) 4 then true else nat_eq (kind_number k) 7))) ≡ true
    go kind.Structure o = refl
    go kind.Vector o = refl
    go kind.Scope o = refl
    go kind.Table o = refl
    go kind.Text o = absurd o
    go kind.Closure o = absurd o
    go kind.Code o = absurd o
    go kind.Node o = absurd o
    go kind.Directory o = absurd o

-- What stands behind places.

pub record Behind (heap : Heap) (places : List Place) (z : ℕ) : Type 0 where
  pub id : ℕ
  pub place : HasPlace places id
  pub there : IsIn z (next_in heap id)

pub after-behind : (heap : Heap) (places : List Place) (z : ℕ) → IsIn z (after_places heap places) → Behind heap places z
unfolding after_places
after-behind heap [] z l = absurd l
after-behind heap (p ∷ ps) z l =
    elim (in-append z (next_in heap (object_of p)) (after_places heap ps) l) [
      | inl k ↦ record { id = object_of p; place = inl refl; there = k }
      | inr k ↦ let b = after-behind heap ps z k in record { id = b.id; place = inr b.place; there = b.there }
    ]

pub behind-after : (heap : Heap) (places : List Place) (z i : ℕ) → HasPlace places i → IsIn z (next_in heap i) → IsIn z (after_places heap places)
unfolding after_places
behind-after heap [] z i p l = absurd p
behind-after heap (p ∷ ps) z i (inl e) l = in-front z (next_in heap (object_of p)) (after_places heap ps) (subst (λ j. IsIn z (next_in heap j)) (sym e) l)
behind-after heap (p ∷ ps) z i (inr k) l = in-behind z (next_in heap (object_of p)) (after_places heap ps) (behind-after heap ps z i k l)

-- places of objects at home in one database
pub at_home-place : (homes : List (Option ℕ)) (n : ℕ) (places : List Place) (i : ℕ) → HasPlace (at_home homes n places) i → HasPlace places i × (home_at homes i ≡ Some n)
unfolding at_home
at_home-place homes n [] i p = absurd p
at_home-place homes n (p ∷ ps) i k =
    elim (cases_Bool (is_home n (home_at homes (object_of p)))) [
      | inl there ↦
          elim (subst (λ l. HasPlace l i) (then_is (is_home n (home_at homes (object_of p))) (p ∷ at_home homes n ps) (at_home homes n ps) there) k) [
            | inl e ↦ (inl e, ap (home_at homes) (sym e) ∙ home-is n (home_at homes (object_of p)) there)
            | inr m ↦ let r = at_home-place homes n ps i m in (inr r.0, r.1)
          ]
      | inr away ↦ let r = at_home-place homes n ps i (subst (λ l. HasPlace l i) (else_is (is_home n (home_at homes (object_of p))) (p ∷ at_home homes n ps) (at_home homes n ps) away) k) in (inr r.0, r.1)
    ]
  where
    home-is : (n : ℕ) (home : Option ℕ) → is_home n home ≡ true → home ≡ Some n
    home-is n None e = absurd (true≢false (sym e))
    home-is n (Some m) e = ap Some (sym (Rattle.std.proofs.lemmas.Bool.eqb-true n m e))

pub place-at_home : (homes : List (Option ℕ)) (n : ℕ) (places : List Place) (i : ℕ) → HasPlace places i → home_at homes i ≡ Some n → HasPlace (at_home homes n places) i
unfolding at_home
place-at_home homes n [] i p e = absurd p
place-at_home homes n (p ∷ ps) i (inl same) e =
    let there : is_home n (home_at homes (object_of p)) ≡ true = ap (is_home n) (ap (home_at homes) same ∙ e) ∙ Rattle.std.proofs.lemmas.Bool.eq-eqb n n refl in
    subst (λ l. HasPlace l i) (sym (then_is (is_home n (home_at homes (object_of p))) (p ∷ at_home homes n ps) (at_home homes n ps) there)) (inl same)
place-at_home homes n (p ∷ ps) i (inr k) e =
    let rest = place-at_home homes n ps i k e in
    elim (cases_Bool (is_home n (home_at homes (object_of p)))) [
      | inl there ↦ subst (λ l. HasPlace l i) (sym (then_is (is_home n (home_at homes (object_of p))) (p ∷ at_home homes n ps) (at_home homes n ps) there)) (inr rest)
      | inr away ↦ subst (λ l. HasPlace l i) (sym (else_is (is_home n (home_at homes (object_of p))) (p ∷ at_home homes n ps) (at_home homes n ps) away)) rest
    ]

-- Roots.

pub record RootOf (d : Directory) (numbers : List ℕ) (z : ℕ) : Type 0 where
  pub number : ℕ
  pub among : IsIn number numbers
  pub there : IsIn z (root_of (database_at d number))

pub roots-root : (d : Directory) (numbers : List ℕ) (z : ℕ) → IsIn z (roots_of d numbers) → RootOf d numbers z
unfolding roots_of
roots-root d [] z l = absurd l
roots-root d (n ∷ ns) z l =
    elim (in-append z (root_of (database_at d n)) (roots_of d ns) l) [
      | inl k ↦ record { number = n; among = inl refl; there = k }
      | inr k ↦ let r = roots-root d ns z k in record { number = r.number; among = inr r.among; there = r.there }
    ]

pub root-roots : (d : Directory) (numbers : List ℕ) (z n : ℕ) → IsIn n numbers → IsIn z (root_of (database_at d n)) → IsIn z (roots_of d numbers)
unfolding roots_of
root-roots d [] z n l k = absurd l
root-roots d (m ∷ ns) z n (inl e) k = in-front z (root_of (database_at d m)) (roots_of d ns) (subst (λ i. IsIn z (root_of (database_at d i))) e k)
root-roots d (m ∷ ns) z n (inr l) k = in-behind z (root_of (database_at d m)) (roots_of d ns) (root-roots d ns z n l k)

-- the one root of a database
pub record IsRootOf (d : Option Database) (z : ℕ) : Type 0 where
  pub database : Database
  pub is : d ≡ Some database
  pub root : z ≡ database.root

pub root-is : (d : Option Database) (z : ℕ) → IsIn z (root_of d) → IsRootOf d z
root-is None z l = absurd l
root-is (Some d) z (inl e) = record { database = d; is = refl; root = e }
root-is (Some d) z (inr l) = absurd l

-- a number of a list of sources
pub place-of : (writing : List Source) (n : ℕ) → IsIn n (map (λ s. s.number) writing) → IsWriting writing n
place-of [] n l = absurd l
place-of (s ∷ ss) n (inl e) = record { place = 0; below = omega arith; is = sym e }
place-of (s ∷ ss) n (inr l) = let w = place-of ss n l in record { place = suc w.place; below = (let b = w.below in omega (arith, b)); is = w.is }

pub of-place : (writing : List Source) (place : ℕ) → place < length writing → IsIn (source_at writing place).number (map (λ s. s.number) writing)
of-place [] place lt = omega arith
of-place (s ∷ ss) zero lt = inl refl
of-place (s ∷ ss) (suc place) lt = inr (of-place ss place (omega (arith, lt)))

module _ (here : area.Heap) (outside : Outside Space) (names : List Reference) (writing : List Source) (directory : Option ℕ) (h : Held) (sound : IsHeap here) (one : IsOne (seen here outside))
    (run : HoldsRun here outside names writing directory h) where
  abbrev Free : ℕ → Type 0
  Free i = IsIn i (loose h)

  abbrev Next : ℕ → ℕ → Type 0
  Next i j = IsIn j (next_in h.objects i)

  tied_here : Rattle.joint_reach.proofs.Tied.IsTied here (IsStored outside) h.objects names (λ i. IsIn i (loose h))
  tied_here = tied here outside names writing directory h sound one run

  -- two objects of an id are one
  pub one-object : (x y i : ℕ) → IsOf here names x i → IsOf here names y i → x ≡ y
  one-object x y i p q = name_at-injective here x y sound p.held q.held (run.world.row.stands.one_name (name_at here x) (name_at here y) i p.named q.named)

  pub object-kind : (x i : ℕ) → IsOf here names x i → IsObjectKind (header_at here x).kind
  object-kind x i p = pair-kind here (IsStored outside) h.objects names Free tied_here (name_at here x) i (shown_at here x) p.named (known here (IsStored outside) x p.held)

  pub object-home : (x i : ℕ) → IsOf here names x i → has_home (header_at here x) ≡ true
  object-home x i p = home-kind (header_at here x) (object-kind x i p)

  pub record RootAt (number z : ℕ) : Type 0 where
    pub place : ℕ
    pub below : place < length writing
    pub number_is : (source_at writing place).number ≡ number
    pub at : ℕ
    pub root : (source_at writing place).root ≡ Some at
    pub is : IsOf here names at z

  root-case : (place number z : ℕ) → place < length writing → (source_at writing place).number ≡ number → IsIn number h.created → IsIn z (root_of (database_at h.directory number))
      → (r : Option ℕ) → (source_at writing place).root ≡ r → RootAt number z
  root-case place number z lt same l k None e = absurd ((run.sources.each place lt).other e (subst (λ n. IsIn n h.created) (sym same) l))
  root-case place number z lt same l k (Some at) e =
      let m = (run.sources.each place lt).made at e in
      let r = root-is (database_at h.directory number) z k in
      let both : Some m.1.database ≡ Some r.database = sym m.1.is ∙ (ap (database_at h.directory) same ∙ r.is) in
      let id : m.1.database.root ≡ z = ap (λ (d : Database). d.root) (some_database m.1.database r.database both) ∙ sym r.root in
      record { place = place; below = lt; number_is = same; at = at; root = e; is = subst (IsOf here names at) id m.1.root }

  -- the root of a database that was made
  pub root-at : (number z : ℕ) → IsIn number h.created → IsIn z (root_of (database_at h.directory number)) → RootAt number z
  root-at number z l k =
      let w = place-of writing number (subst (IsIn number) (sym run.sources.numbers) (run.sources.made number l)) in
      root-case w.place number z w.below w.is l k (source_at writing w.place).root refl

  -- One database that is open for writing.

  module _ (place : ℕ) (lt : place < length writing) where
    abbrev Number : ℕ
    Number = (source_at writing place).number

    abbrev Root : Option ℕ
    Root = (source_at writing place).root

    record IsSourceAt (x : ℕ) : Type 0 where
      listed : IsListed x here.assigned
      at : IsAt here Number x

    record IsSourceId (i : ℕ) : Type 0 where
      place_is : HasPlace h.assigned i
      home : home_at h.homes i ≡ Some Number

    abbrev IsRootAt : ℕ → Type 0
    IsRootAt x = Root ≡ Some x

    abbrev RootIds : List ℕ
    RootIds = if is_in Number h.created then root_of (database_at h.directory Number) else []

    abbrev IsRootId : ℕ → Type 0
    IsRootId i = IsIn i RootIds

    sources : (x : ℕ) → IsSourceAt x → Target (λ i y. IsOf here names y i) IsSourceId x
    sources x s =
        let noted : IsNoted here x = record { stored = s.at.stored; listed = s.listed } in
        let k = run.assigned.known x noted s.at.kind in
        record { at = k.0; is = k.1; there = record { place_is = run.assigned.placed x k.0 k.1 noted; home = stored-home here outside names writing directory h sound one run x k.0 k.1 s.at.stored ∙ ap Some s.at.home } }

    id_sources : (i : ℕ) → IsSourceId i → Target (IsOf here names) IsSourceAt i
    id_sources i s =
        let n = run.assigned.noted i s.place_is in
        let home : num_at here n.0 0 ≡ Number = some_same (num_at here n.0 0) Number (sym (stored-home here outside names writing directory h sound one run n.0 i n.1 n.2.stored) ∙ s.home) in
        record { at = n.0; is = n.1; there = record { listed = n.2.listed; at = record { stored = n.2.stored; kind = object-home n.0 i n.1; home = home } } }

    roots : (x : ℕ) → IsRootAt x → Target (λ i y. IsOf here names y i) (λ i. IsRootId i × Free i) x
    roots x e =
        let m = (run.sources.each place lt).made x e in
        let new = run.sources.roots place x lt e in
        let there : IsRootId m.1.database.root =
        subst (IsIn m.1.database.root) (sym (then_is (is_in Number h.created) (root_of (database_at h.directory Number)) [] (in-is_in Number h.created m.0) ∙ ap root_of m.1.is)) (inl refl) in
        record { at = m.1.database.root; is = m.1.root; there = (there, local-free here outside names writing directory h sound one run x m.1.database.root m.1.root new.unstored) }

    id_roots : (i : ℕ) → IsRootId i → Free i → Target (IsOf here names) (λ x. IsRootAt x × May here x) i
    id_roots i l f =
        elim (cases_Bool (is_in Number h.created)) [
          | inl created ↦
              let k = subst (IsIn i) (then_is (is_in Number h.created) (root_of (database_at h.directory Number)) [] created) l in
              let r = root-case place Number i lt refl (is_in-in Number h.created created) k Root refl in
              let at_place = root_here i k created Root refl in
              record { at = at_place.0; is = at_place.2; there = (at_place.1, none-may (header_at here at_place.0) (run.sources.roots place at_place.0 lt at_place.1).unstored) }
          | inr none ↦ absurd (subst (IsIn i) (else_is (is_in Number h.created) (root_of (database_at h.directory Number)) [] none) l)
        ]
      where
        root_here : (i : ℕ) → IsIn i (root_of (database_at h.directory Number)) → is_in Number h.created ≡ true → (r : Option ℕ) → Root ≡ r → (x : ℕ) × (Root ≡ Some x) × IsOf here names x i
        root_here i k created None e = absurd ((run.sources.each place lt).other e (is_in-in Number h.created created))
        root_here i k created (Some at) e =
            let m = (run.sources.each place lt).made at e in
            let r = root-is (database_at h.directory Number) i k in
            let id : m.1.database.root ≡ i = ap (λ (d : Database). d.root) (some_database m.1.database r.database (sym m.1.is ∙ r.is)) ∙ sym r.root in
            (at, e, subst (IsOf here names at) id m.1.root)

    meets : IsRefined (IsOf here names) (Goes here) Next (May here) Free IsSourceAt IsRootAt IsSourceId IsRootId
    meets = refined here (IsStored outside) h.objects names Free tied_here IsSourceAt IsRootAt IsSourceId IsRootId sources id_sources roots id_roots

    finds-starts : (y : ℕ) → Finds here Number Root y → Reached (Goes here) (May here) (StartsOf (Goes here) IsSourceAt IsRootAt) y
    finds-starts y f = reached-map (Goes here) (Goes here) (May here) (May here) (Starts here Number Root) (StartsOf (Goes here) IsSourceAt IsRootAt) (λ x z g. g) (λ z m. m)
        (λ z s. elim s [
          | inl e ↦ inl e
          | inr t ↦ inr (record { from = get_or here.assigned t.place 0; is = record { listed = in-listed (get_or here.assigned t.place 0) here.assigned (index-in here.assigned t.place t.below); at = t.at }; goes_there = t.goes })
        ]) y f

    starts-finds : (y : ℕ) → Reached (Goes here) (May here) (StartsOf (Goes here) IsSourceAt IsRootAt) y → Finds here Number Root y
    starts-finds y f = reached-map (Goes here) (Goes here) (May here) (May here) (StartsOf (Goes here) IsSourceAt IsRootAt) (Starts here Number Root) (λ x z g. g) (λ z m. m)
        (λ z s. elim s [
          | inl e ↦ inl e
          | inr b ↦
              let i = in-index here.assigned b.from (listed-in b.from here.assigned b.is.listed) in
              inr (record { place = i.place; below = i.below; at = subst (IsAt here Number) (sym i.is) b.is.at; goes = subst (λ x. Goes here x z) (sym i.is) b.goes_there })
        ]) y f

    ids-starts : (j : ℕ) → Reached Next Free (StartsOf Next IsSourceId IsRootId) j → ReachedIn (next_in h.objects) (loose h) (source_of h Number).starts j
    unfolding source_of
    ids-starts j r = reached-map Next Next Free Free (StartsOf Next IsSourceId IsRootId) (λ z. IsIn z (source_of h Number).starts) (λ x z g. g) (λ z m. m)
        (λ z s. elim s [
          | inl l ↦ in-front z RootIds (after_places h.objects (at_home h.homes Number h.assigned)) l
          | inr b ↦ in-behind z RootIds (after_places h.objects (at_home h.homes Number h.assigned)) (behind-after h.objects (at_home h.homes Number h.assigned) z b.from (place-at_home h.homes Number h.assigned b.from b.is.place_is b.is.home) b.goes_there)
        ]) j r

    starts-ids : (j : ℕ) → ReachedIn (next_in h.objects) (loose h) (source_of h Number).starts j → Reached Next Free (StartsOf Next IsSourceId IsRootId) j
    unfolding source_of
    starts-ids j r = reached-map Next Next Free Free (λ z. IsIn z (source_of h Number).starts) (StartsOf Next IsSourceId IsRootId) (λ x z g. g) (λ z m. m)
        (λ z l. elim (in-append z RootIds (after_places h.objects (at_home h.homes Number h.assigned)) l) [
          | inl k ↦ inl k
          | inr k ↦
              let b = after-behind h.objects (at_home h.homes Number h.assigned) z k in
              let p = at_home-place h.homes Number h.assigned b.id b.place in
              inr (record { from = b.id; is = record { place_is = p.0; home = p.1 }; goes_there = b.there })
        ]) j r

    -- what the database reaches in code it reaches in the meaning
    pub finds-reached : (y j : ℕ) → IsOf here names y j → Finds here Number Root y → ReachedIn (next_in h.objects) (loose h) (source_of h Number).starts j
    finds-reached y j p f =
        ids-starts j (found-id (IsOf here names) (Goes here) Next (May here) Free IsSourceAt IsRootAt IsSourceId IsRootId meets y j (finds-starts y f) p)

    -- and back
    pub reached-finds : (j : ℕ) → ReachedIn (next_in h.objects) (loose h) (source_of h Number).starts j → Target (IsOf here names) (Finds here Number Root) j
    reached-finds j r =
        let t = id-found (IsOf here names) (Goes here) Next (May here) Free IsSourceAt IsRootAt IsSourceId IsRootId meets j (starts-ids j r) in
        record { at = t.at; is = t.is; there = starts-finds t.at t.there }
