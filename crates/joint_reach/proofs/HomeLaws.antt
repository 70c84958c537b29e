-- The homes that a commit gives.
use Rattle.std.proofs.Common.{false, inl, inr, ◌⊎◌, ◌≡◌, ℕ, zero, suc, ◌+◌, ◌<◌, List, [], ◌∷◌, length, map, refl, sym, ap, ◌∙◌, subst, arith, Option, Some, None}
use Rattle.std.proofs.lemmas.Bool.{cases_Bool, cases_eq, true≢false}
use Rattle.joint_ops.specs.ps_outside.Outside.{Outside}
use Rattle.joint_ops.specs.obj_layout.Stored.{Space}
use Rattle.joint_ops.specs.obj_layout.declared.reference.Reference.{Reference}
use Rattle.joint_ops.specs.swizzle.Heap as area
use Rattle.joint_ops.specs.swizzle.Heap.{IsHeap, IsHeld, header_at, num_at}
use Rattle.joint_ops.specs.World.{seen}
use Rattle.joint_ops.specs.heap_meaning.Standing.{IsOne}
use Rattle.joint_ops.specs.ps_heap.References.{next_in}
use Rattle.joint_ops.specs.ps_heap.Databases.{Directory, database_at, root_of}
use Rattle.joint_ops.specs.ps_heap.Held.{Held, home_at, row}
use Rattle.joint_ops.specs.ps_heap.Commit.{loose, source_of, sources, first_database, created_with, or_else, home_after, homes_after}
use Rattle.reaching.specs.Reaching.{IsIn, is_in, ReachedIn, at_start, first_source, IsFirstSource}
use Rattle.reaching.proofs.Lists.{then_is, else_is, is_in-in, in-is_in, not-is_in}
use Rattle.reaching.proofs.WalkLaws.{first-is, is-first}
use Rattle.commit_walk.specs.Walk.{Finds}
use Rattle.commit_walk.specs.Homes.{source_at, FindsFrom}
use Rattle.commit_walk.specs.declared.homes.Source.{Source}
use Rattle.reach_commit.specs.Deciding.{AreWritable}
use Rattle.reach_commit.specs.Becoming.{with_directory, IsReached, IsRoot}
use Rattle.reach_commit.specs.Committing.{Commits}
use Rattle.joint_held.specs.Held.{IsOf, HoldsRun}
use Rattle.joint_reach.specs.Meets.{MeetsHomes}
use Rattle.joint_reach.proofs.MeetLaws.{none-may}
use Rattle.joint_reach.proofs.TiedLaws.{local-home}
use Rattle.joint_reach.proofs.SourceLaws.{one-object, object-home, root-at, finds-reached, reached-finds}
use Rattle.joint_reach.proofs.ReachLaws.{left-source, last-source, directory-found, found-in}

-- The created database with a root.

none-created : (d : Directory) (ns : List ℕ) (id : ℕ) → ((n : ℕ) → IsIn n ns → IsIn id (root_of (database_at d n)) → ⊥) → created_with d ns id ≡ None
unfolding created_with
none-created d [] id none = refl
none-created d (n ∷ ns) id none =
    else_is (is_in id (root_of (database_at d n))) (Some n) (created_with d ns id) (not-is_in id (root_of (database_at d n)) (none n (inl refl)))
    ∙ none-created d ns id (λ m l. none m (inr l))

one-created : (d : Directory) (ns : List ℕ) (id number : ℕ) → ((n : ℕ) → IsIn n ns → IsIn id (root_of (database_at d n)) → n ≡ number) → IsIn number ns → IsIn id (root_of (database_at d number))
    → created_with d ns id ≡ Some number
unfolding created_with
one-created d [] id number one l k = absurd l
one-created d (n ∷ ns) id number one l k =
    elim (cases_Bool (is_in id (root_of (database_at d n)))) [
      | inl here ↦ then_is (is_in id (root_of (database_at d n))) (Some n) (created_with d ns id) here ∙ ap Some (one n (inl refl) (is_in-in id (root_of (database_at d n)) here))
      | inr away ↦
          else_is (is_in id (root_of (database_at d n))) (Some n) (created_with d ns id) away
          ∙ one-created d ns id number (λ m j. one m (inr j)) (behind l away) k
    ]
  where
    behind : IsIn number (n ∷ ns) → is_in id (root_of (database_at d n)) ≡ false → IsIn number ns
    behind (inl e) away = absurd (true≢false (sym (in-is_in id (root_of (database_at d n)) (subst (λ m. IsIn id (root_of (database_at d m))) e k)) ∙ away))
    behind (inr j) away = j

-- The first database.

Reaches : Held → ℕ → ℕ → Type 0
Reaches h id n = ReachedIn (next_in h.objects) (loose h) (source_of h n).starts id

first-at : (h : Held) (id : ℕ) (ws : List Source) (place : ℕ) → place < length ws → Reaches h id (source_at ws place).number
    → ((p : ℕ) → p < place → Reaches h id (source_at ws p).number → ⊥)
    → IsFirstSource (next_in h.objects) (loose h) (sources h (map (λ s. s.number) ws)) id (source_at ws place).number
unfolding sources source_of Reaches
first-at h id [] place lt r none = omega (arith, lt)
first-at h id (w ∷ ws) zero lt r none = inl (r, refl)
first-at h id (w ∷ ws) (suc place) lt r none = inr (none 0 (omega arith), first-at h id ws place (omega (arith, lt)) r (λ p low. none (suc p) (omega (arith, low))))

-- the first source is one of them
record Among (h : Held) (id : ℕ) (ws : List Source) : Type 0 where
  place : ℕ
  below : place < length ws
  reaches : Reaches h id (source_at ws place).number

among-first : (h : Held) (id number : ℕ) (ws : List Source) → IsFirstSource (next_in h.objects) (loose h) (sources h (map (λ s. s.number) ws)) id number → Among h id ws
unfolding sources source_of Reaches
among-first h id number [] f = absurd f
among-first h id number (w ∷ ws) (inl f) = record { place = 0; below = omega arith; reaches = f.0 }
among-first h id number (w ∷ ws) (inr f) = let a = among-first h id number ws f.1 in record { place = suc a.place; below = (let b = a.below in omega (arith, b)); reaches = a.reaches }

row-at : (f : ℕ → Option ℕ) (from n id : ℕ) → id < n → home_at (row f from n) id ≡ f (from + id)
unfolding row home_at
row-at f from zero id lt = absurd (omega (arith, lt))
row-at f from (suc n) zero lt = ap f (omega arith)
row-at f from (suc n) (suc id) lt = row-at f (suc from) n id (omega (arith, lt)) ∙ ap f (omega arith)

-- the homes after a saved commit, one by one
pub homes-after : (h : Held) (id : ℕ) → id < length h.objects → home_at (homes_after h) id ≡ home_after h id
unfolding homes_after
homes-after h id lt = let same : 0 + id ≡ id = omega arith in row-at (home_after h) 0 (length h.objects) id lt ∙ ap (home_after h) same

pub home-kept : (h : Held) (id number : ℕ) → home_at h.homes id ≡ Some number → home_after h id ≡ Some number
unfolding home_after
home-kept h id number e = ap (λ home. or_else home (or_else (created_with h.directory h.created id) (first_database h id))) e

home-new : (h : Held) (id : ℕ) → home_at h.homes id ≡ None → home_after h id ≡ or_else (created_with h.directory h.created id) (first_database h id)
unfolding home_after
home-new h id e = ap (λ home. or_else home (or_else (created_with h.directory h.created id) (first_database h id))) e

module _ (here : area.Heap) (outside : Outside Space) (names : List Reference) (writing : List Source) (directory : Option ℕ) (h : Held) (sound : IsHeap here) (one : IsOne (seen here outside))
    (run : HoldsRun here outside names writing directory h) (writable : AreWritable here writing) where
  none-home : (x id : ℕ) → IsOf here names x id → (header_at here x).pid ≡ 0 → home_at h.homes id ≡ None
  none-home x id p none = local-home here outside names writing directory h sound one run x id p none

  -- a created database whose root this id is has the object as its root in code
  created-root : (x id n : ℕ) → IsOf here names x id → IsIn n h.created → IsIn id (root_of (database_at h.directory n))
      → (place : ℕ) × (place < length writing) × ((source_at writing place).root ≡ Some x) × ((source_at writing place).number ≡ n)
  created-root x id n p l k =
      let r = root-at here outside names writing directory h sound one run n id l k in
      let same = one-object here outside names writing directory h sound one run r.at x id r.is p in
      (r.place, r.below, r.root ∙ ap Some same, r.number_is)

  -- The root of a database that was made.
  root-home : (x id place : ℕ) → IsOf here names x id → place < length writing → (source_at writing place).root ≡ Some x → created_with h.directory h.created id ≡ Some (source_at writing place).number
  root-home x id place p lt e =
      let number = (source_at writing place).number in
      let m = (run.sources.each place lt).made x e in
      let same : id ≡ m.1.database.root = run.world.row.stands.one_number (Rattle.joint_ops.specs.swizzle.Joint.name_at here x) id m.1.database.root p.named m.1.root.named in
      let there : IsIn id (root_of (database_at h.directory number)) = subst (IsIn id) (sym (ap root_of m.1.is)) (inl same) in
      one-created h.directory h.created id number
      (λ n l k.
      let r = created-root x id n p l k in
      let places : r.0 ≡ place = (run.sources.roots place x lt e).only r.0 r.1 r.2 in
      sym r.3 ∙ ap (λ q. (source_at writing q).number) places)
      m.0 there

  not-root : (x id : ℕ) → IsOf here names x id → (IsRoot writing x → ⊥) → created_with h.directory h.created id ≡ None
  not-root x id p none = none-created h.directory h.created id (λ n l k. let r = created-root x id n p l k in none (record { place = r.0; below = r.1; is = r.2 }))

  first-home : (x id place : ℕ) → IsOf here names x id → place < length writing → Finds here (source_at writing place).number (source_at writing place).root x
      → ((p : ℕ) → p < place → Finds here (source_at writing p).number (source_at writing p).root x → ⊥) → first_database h id ≡ Some (source_at writing place).number
  unfolding first_database Reaches
  first-home x id place p lt finds none =
      ap (λ ns. first_source (next_in h.objects) (loose h) (sources h ns) id) (sym run.sources.numbers)
      ∙ is-first (next_in h.objects) (loose h) (sources h (map (λ s. s.number) writing)) id (source_at writing place).number
      (first-at h id writing place lt (finds-reached here outside names writing directory h sound one run place lt x id p finds)
      (λ q low r.
      let t = reached-finds here outside names writing directory h sound one run q (omega (arith, low, lt)) id r in
      let same = one-object here outside names writing directory h sound one run t.at x id t.is p in
      none q low (subst (Finds here (source_at writing q).number (source_at writing q).root) same t.there)))

  -- the first source of all that finds an object with an id is a database
  first-below : (x id place : ℕ) → IsOf here names x id → place < length writing + 1 → FindsFrom here (with_directory writing directory) place x
      → ((p : ℕ) → p < place → FindsFrom here (with_directory writing directory) p x → ⊥) → place < length writing
  first-below x id place p lt finds none =
      elim (cases_eq place (length writing)) [
        | inr ne ↦ omega (arith, lt, ne)
        | inl e ↦
            let is : source_at (with_directory writing directory) place ≡ record { number = 0; root = directory } = ap (source_at (with_directory writing directory)) e ∙ last-source writing directory in
            let f = directory-found here outside names writing directory h sound one run writable x id p (subst (λ (s : Source). Finds here s.number s.root x) is finds) in
            let low = f.below in
            absurd (none f.place (omega (arith, low, e)) (subst (λ (s : Source). Finds here s.number s.root x) (sym (left-source writing directory f.place f.below)) f.finds))
      ]

  loose-none : (x id : ℕ) → IsOf here names x id → (IsReached here writing directory x → ⊥) → (r : Option ℕ) → first_database h id ≡ r → first_database h id ≡ None
  unfolding first_database Reaches
  loose-none x id p away None e = e
  loose-none x id p away (Some n) e =
      let same = ap (λ ns. first_source (next_in h.objects) (loose h) (sources h ns) id) run.sources.numbers in
      let f = first-is (next_in h.objects) (loose h) (sources h (map (λ s. s.number) writing)) id n (same ∙ e) in
      let a = among-first h id n writing f in
      let t = reached-finds here outside names writing directory h sound one run a.place a.below id a.reaches in
      let at = one-object here outside names writing directory h sound one run t.at x id t.is p in
      absurd (away (subst (IsReached here writing directory) at
      (found-in here outside names writing directory h sound one run writable t.at (record { place = a.place; below = a.below; finds = t.there }))))

  root-or : (x : ℕ) (ws : List Source) → ((place : ℕ) × (place < length ws) × ((source_at ws place).root ≡ Some x)) ⊎ ((place : ℕ) → place < length ws → (source_at ws place).root ≡ Some x → ⊥)
  root-or x [] = inr (λ place lt e. omega (arith, lt))
  root-or x (w ∷ ws) =
      elim (is-root w.root) [
        | inl e ↦ inl (0, omega arith, e)
        | inr ne ↦
            elim (root-or x ws) [
              | inl f ↦ inl (suc f.0, (let lt = f.1 in omega (arith, lt)), f.2)
              | inr none ↦ inr (λ place lt e. case place lt e ne none)
            ]
      ]
    where
      is-root : (r : Option ℕ) → (r ≡ Some x) ⊎ (r ≡ Some x → ⊥)
      is-root None = inr (λ e. let bad : None ≡ Some x = e in absurd (cc))
      is-root (Some y) = elim (cases_eq y x) [ inl e ↦ inl (ap Some e) | inr ne ↦ inr (λ e. ne (some_same y x e)) ]
        where
          some_same : (a b : ℕ) → Some a ≡ Some b → a ≡ b
          some_same a b e = cc

      case : (place : ℕ) → place < length (w ∷ ws) → (source_at (w ∷ ws) place).root ≡ Some x → (w.root ≡ Some x → ⊥) → ((p : ℕ) → p < length ws → (source_at ws p).root ≡ Some x → ⊥) → ⊥
      case zero lt e ne none = ne e
      case (suc place) lt e ne none = none place (omega (arith, lt)) e

  pub meets-homes : (new : area.Heap) (used : ℕ) (fresh changed : List ℕ) → Commits here new writing directory used fresh changed → MeetsHomes here new names writing directory h
  meets-homes new used fresh changed c = record {
    fresh = λ x id p none reached.
        let listed = c.fresh_all x reached none in
        home-new h id (none-home x id p none) ∙ elim (root-or x writing) [
          | inl r ↦
              ap (λ home. or_else home (first_database h id)) (root-home x id r.0 p r.1 r.2) ∙ ap Some (sym (c.homes.root r.0 x r.1 r.2))
          | inr apart ↦
              let unrooted : IsRoot writing x → ⊥ = λ r. apart r.place r.below r.is in
              let f = c.homes.first x listed unrooted in
              let lt = first-below x id f.place p f.below f.finds f.first in
              let same = left-source writing directory f.place lt in
              let finds = subst (λ (s : Source). Finds here s.number s.root x) same f.finds in
              let first : (q : ℕ) → q < f.place → Finds here (source_at writing q).number (source_at writing q).root x → ⊥ =
              λ q low k. f.first q low (subst (λ (s : Source). Finds here s.number s.root x) (sym (left-source writing directory q (omega (arith, low, lt)))) k) in
              ap (λ home. or_else home (first_database h id)) (not-root x id p unrooted)
              ∙ (first-home x id f.place p lt finds first
              ∙ ap Some (sym (f.home (object-home here outside names writing directory h sound one run x id p) ∙ ap (λ (s : Source). s.number) same)))
        ];
    loose = λ x id p none away.
        let unrooted : IsRoot writing x → ⊥ = λ r. away (found-in here outside names writing directory h sound one run writable x
        (record { place = r.place; below = r.below; finds = at_start x (inl r.is) (none-may (header_at here x) none) })) in
        home-new h id (none-home x id p none) ∙ (ap (λ home. or_else home (first_database h id)) (not-root x id p unrooted) ∙ loose-none x id p away (first_database h id) refl);
    stays = λ x some. c.homes.others x (λ l. let none = (c.fresh_only x l).1 in omega (arith, none, some));
    kept = home-kept h;
  }
