-- What all databases that are open for writing reach together.
use Rattle.std.proofs.Common.{Bool, true, false, inl, inr, ◌⊎◌, ◌≡◌, ℕ, suc, ◌+◌, ◌<◌, ◌≤◌, List, [], ◌∷◌, length, get_or, refl, sym, ap, ◌∙◌, subst, arith, Option, Some, None, nat_eq, if◌then◌else◌}
use Rattle.std.specs.Prelude.{◌↔◌, IfSome}
use Rattle.std.proofs.lemmas.Bool.{cases_Bool, cases_eq, true≢false}
use Rattle.std.proofs.lemmas.List.{get_or-append-add, get_or_append_left}
use Rattle.joint_ops.specs.ps_outside.Outside.{Outside}
use Rattle.joint_ops.specs.obj_layout.Stored.{Space}
use Rattle.joint_ops.specs.obj_layout.declared.kind.Kind.TheVariants as kind
use Rattle.joint_ops.specs.obj_layout.declared.reference.Reference.{Reference}
use Rattle.joint_ops.specs.swizzle.Heap as area
use Rattle.joint_ops.specs.swizzle.Heap.{IsHeap, IsHeld, IsListed, header_at, num_at}
use Rattle.joint_ops.specs.swizzle.Joint.{Shown, name_at, shown_at}
use Rattle.joint_ops.specs.World.{seen}
use Rattle.joint_ops.proofs.SeenLaws.{seen-is}
use Rattle.joint_ops.specs.heap_places.Shapes.{IsText}
use Rattle.joint_ops.specs.heap_meaning.Standing.{Seen, Pairing, IsOne}
use Rattle.joint_ops.specs.heap_meaning.Paired.{paired}
use Rattle.joint_ops.specs.heap_meaning.node_rows.Nodes.{IsAmong}
use Rattle.joint_ops.specs.ps_heap.References.{next_in}
use Rattle.joint_ops.specs.ps_heap.Databases.{Directory, Database, database_at, database_from, root_of, is_there}
use Rattle.joint_ops.specs.ps_heap.Held.{Held, home_at}
use Rattle.joint_ops.specs.ps_heap.Commit.{loose, roots_of, after_places, starts, newly_reached, at_home, source_of}
use Rattle.db_dir.specs.Directories.{IsDirectory, IsDirectoryAt, AreNamed}
use Rattle.reaching.specs.Reaching.{IsIn, is_in, at_start, by_step, ReachedIn}
use Rattle.reaching.proofs.Lists.{then_is, else_is, is_in-in, in-is_in, in-append, in-front, in-behind}
use Rattle.reaching.proofs.WalkLaws.{least-in, in-least}
use Rattle.commit_walk.specs.Walk.{Goes, May, IsAt, StartsAt, Finds}
use Rattle.commit_walk.specs.Homes.{source_at}
use Rattle.commit_walk.specs.declared.homes.Source.{Source}
use Rattle.commit_walk.proofs.SteadyLaws.{reached-map}
use Rattle.commit_walk.proofs.FromLaws.{index-in}
use Rattle.reach_commit.specs.Deciding.{AreWritable}
use Rattle.reach_commit.specs.Becoming.{with_directory, IsReached}
use Rattle.joint_held.specs.Held.{IsOf, HoldsRun}
use Rattle.joint_reach.specs.Meets.{MeetsReach}
use Rattle.joint_reach.proofs.MeetLaws.{IsObjectKind, may-none}
use Rattle.joint_reach.proofs.SeenLaws.{goes-named}
use Rattle.joint_reach.proofs.TiedLaws.{local-home, stored-home, texts}
use Rattle.joint_reach.proofs.SourceLaws.{listed-in, after-behind, behind-after, place-at_home, at_home-place, roots-root, root-roots, one-object, object-kind, object-home, root-at, finds-reached, reached-finds}

-- The sources with the directory last.

pub left-source : (writing : List Source) (directory : Option ℕ) (place : ℕ) → place < length writing → source_at (with_directory writing directory) place ≡ source_at writing place
left-source writing directory place lt = get_or_append_left writing (record { number = 0; root = directory } ∷ []) (record { number = 0; root = None }) place lt

pub last-source : (writing : List Source) (directory : Option ℕ) → source_at (with_directory writing directory) (length writing) ≡ record { number = 0; root = directory }
last-source writing directory = ap (source_at (with_directory writing directory)) (sym (omega arith)) ∙ get_or-append-add writing (record { number = 0; root = directory } ∷ []) 0 (record { number = 0; root = None })

-- A name of a directory is that of a text, or of the root of a database.

pub data Entry (seen : Seen) (pair : Pairing) (n : Reference) (first : ℕ) (ds : Directory) : Type 0 where
  entry_text : (bytes : List ℕ) (is : IsText seen n bytes) → Entry seen pair n first ds
  entry_root : (number : ℕ) (d : Database) (is : database_from first ds number ≡ Some d) (goes : pair n d.root) → Entry seen pair n first ds

pub entry-of : (seen : Seen) (pair : Pairing) (ns : List Reference) (ds : Directory) (first : ℕ) (n : Reference) → AreNamed seen pair ns ds → IsAmong n ns → Entry seen pair n first ds
unfolding database_from
entry-of seen pair (name ∷ password ∷ root ∷ more) (d ∷ ds) first n a (inl e) = entry_text d.name (subst (λ m. IsText seen m d.name) (sym e) a.0)
entry-of seen pair (name ∷ password ∷ root ∷ more) (d ∷ ds) first n a (inr (inl e)) = entry_text d.password (subst (λ m. IsText seen m d.password) (sym e) a.1)
entry-of seen pair (name ∷ password ∷ root ∷ more) (d ∷ ds) first n a (inr (inr (inl e))) =
    entry_root first d (then_is (nat_eq first first) (Some d) (database_from (suc first) ds first) (Rattle.std.proofs.lemmas.Bool.eq-eqb first first refl)) (subst (λ m. pair m d.root) (sym e) a.2.paired)
entry-of seen pair (name ∷ password ∷ root ∷ more) (d ∷ ds) first n a (inr (inr (inr k))) = later (entry-of seen pair more ds (suc first) n a.3 k)
  where
    above : (ds : Directory) (from number : ℕ) (o : Database) → database_from from ds number ≡ Some o → from ≤ number
    above [] from number o e = let bad : None ≡ Some o = e in absurd (cc)
    above (d ∷ ds) from number o e = elim (cases_Bool (nat_eq from number)) [
      | inl same ↦ let eq = Rattle.std.proofs.lemmas.Bool.eqb-true from number same in omega (arith, eq)
      | inr apart ↦ let le = above ds (suc from) number o (sym (else_is (nat_eq from number) (Some d) (database_from (suc from) ds number) apart) ∙ e) in omega (arith, le)
    ]

    later : Entry seen pair n (suc first) ds → Entry seen pair n first (d ∷ ds)
    later (entry_text bytes is) = entry_text bytes is
    later (entry_root number o is goes) =
        let le = above ds (suc first) number o is in
        entry_root number o (else_is (nat_eq first number) (Some d) (database_from (suc first) ds number) (Rattle.std.proofs.lemmas.Bool.ne_eqb first number (λ e. omega (arith, le, e))) ∙ is) goes
entry-of seen pair [] [] first n a k = absurd k
entry-of seen pair [] (d ∷ ds) first n a k = absurd a
entry-of seen pair (x ∷ []) ds first n a k = absurd a
entry-of seen pair (x ∷ y ∷ []) ds first n a k = absurd a
entry-of seen pair (x ∷ y ∷ z ∷ more) [] first n a k = absurd a

module _ (here : area.Heap) (outside : Outside Space) (names : List Reference) (writing : List Source) (directory : Option ℕ) (h : Held) (sound : IsHeap here) (one : IsOne (seen here outside))
    (run : HoldsRun here outside names writing directory h) (writable : AreWritable here writing) where
  abbrev S : Seen
  S = seen here outside

  -- one of the databases that are open for writing finds it
  pub record IsFoundBy (y : ℕ) : Type 0 where
    pub place : ℕ
    pub below : place < length writing
    pub finds : Finds here (source_at writing place).number (source_at writing place).root y

  pub found-step : (x y : ℕ) → IsFoundBy x → Goes here x y → May here y → IsFoundBy y
  found-step x y f goes may = record { place = f.place; below = f.below; finds = by_step x y f.finds goes may }

  -- an object with a number where it starts: its database is open for writing
  found-behind : (number y : ℕ) → StartsAt here number here.assigned (length here.assigned) y → May here y → IsFoundBy y
  found-behind number y s may =
      let x = get_or here.assigned s.place 0 in
      let w = writable x (record { listed = index-in here.assigned s.place s.below; homed = record { stored = s.at.stored; kind = s.at.kind } }) in
      let at : IsAt here (source_at writing w.place).number x = record { stored = s.at.stored; kind = s.at.kind; home = sym w.is } in
      record { place = w.place; below = w.below; finds = at_start y (inr (record { place = s.place; below = s.below; at = at; goes = s.goes })) may }

  -- What is found from the directory: itself, a text, or what a database finds.
  data FromDirectory (y : ℕ) : Type 0 where
    is_directory : (is : directory ≡ Some y) → FromDirectory y
    is_text : (held : IsHeld here y) (is : (header_at here y).kind ≡ kind.Text) → FromDirectory y
    is_found : (by : IsFoundBy y) → FromDirectory y

  asked-true : (asked : Bool) → h.asked ≡ asked → (at : ℕ) → directory ≡ Some at → h.asked ≡ true
  asked-true true e at d = e
  asked-true false e at d = let none = (run.unasked e).none in let bad : None ≡ Some at = sym none ∙ d in absurd (cc)

  pub directory-is : (at : ℕ) → directory ≡ Some at → IsDirectory S (paired names) (shown_at here at) h.directory
  directory-is at e = subst (λ d. IsDirectoryAt here S (paired names) d h.directory) e (run.asked (asked-true h.asked refl at e))

  pub directory-held : (at : ℕ) → directory ≡ Some at → IsHeld here at
  directory-held at e = go (area.found here at) refl
    where
      go : (r : Option Rattle.joint_ops.specs.swizzle.Objects.Object) → area.found here at ≡ r → IsHeld here at
      go (Some o) is = record { object = o; is = is }
      go None is =
          let text_kind : (shown_at here at).kind ≡ kind.Text = ap (λ (f : Option Rattle.joint_ops.specs.swizzle.Objects.Object). (Rattle.std.specs.Prelude.unwrap_or f area.nothing).header.kind) is in
          let bad : kind.Text ≡ kind.Directory = sym text_kind ∙ (directory-is at e).kind_is in
          absurd (cc)

  from-entry : (y : ℕ) → IsHeld here y → May here y → Entry S (paired names) (name_at here y) 1 h.directory → FromDirectory y
  unfolding database_at
  from-entry y held may (entry_text bytes is) = is_text held (ap (λ (s : Shown). s.kind) (sym (seen-is here outside y (name_at here y) is.it sound held refl is.there)) ∙ is.kind)
  from-entry y held may (entry_root number d is goes) =
      let p : IsOf here names y d.root = record { held = held; named = goes } in
      let none = may-none (header_at here y) may (object-kind here outside names writing directory h sound one run y d.root p) in
      let home = local-home here outside names writing directory h sound one run y d.root p none in
      elim (cases_Bool (is_in number h.created)) [
        | inl created ↦
            let r = root-at here outside names writing directory h sound one run number d.root (is_in-in number h.created created) (subst (IsIn d.root) (sym (ap root_of is)) (inl refl)) in
            let same = one-object here outside names writing directory h sound one run r.at y d.root r.is p in
            is_found (record { place = r.place; below = r.below; finds = at_start y (inl (r.root ∙ ap Some same)) may })
        | inr old ↦
            let there = run.sources.others number d is (λ l. true≢false (sym (in-is_in number h.created l) ∙ old)) in
            absurd (true≢false (sym there ∙ ap is_there home))
      ]

  from-directory : (y : ℕ) → Finds here 0 directory y → FromDirectory y
  from-directory y (at_start z (inl e) may) = is_directory e
  from-directory y (at_start z (inr s) may) = is_found (found-behind 0 y s may)
  from-directory y (by_step x z before goes may) = step (from-directory x before)
    where
      step : FromDirectory x → FromDirectory y
      step (is_directory e) =
          let held = directory-held x e in
          from-entry y goes.names.held may (entry-of S (paired names) (shown_at here x).refs h.directory 1 (name_at here y) (directory-is x e).names (goes-named here x y sound held goes))
      step (is_text held is) = absurd (texts here outside names writing directory h sound one run x (name_at here y) held is (goes-named here x y sound held goes))
      step (is_found by) = is_found (found-step x y by goes may)

  -- an object with an id that is found from the directory is found by a database
  pub directory-found : (y i : ℕ) → IsOf here names y i → Finds here 0 directory y → IsFoundBy y
  directory-found y i p f = go (from-directory y f)
    where
      of_kind : IsObjectKind (header_at here y).kind
      of_kind = object-kind here outside names writing directory h sound one run y i p

      go : FromDirectory y → IsFoundBy y
      go (is_directory e) = absurd (subst IsObjectKind (directory-is y e).kind_is of_kind)
      go (is_text held is) = absurd (subst IsObjectKind is of_kind)
      go (is_found by) = by

  pub found-in : (y : ℕ) → IsFoundBy y → IsReached here writing directory y
  found-in y f =
      let lt = f.below in
      let same = left-source writing directory f.place lt in
      record { place = f.place; below = omega (arith, lt); finds = subst (λ (s : Source). Finds here s.number s.root y) (sym same) f.finds }

  pub in-found : (y i : ℕ) → IsOf here names y i → IsReached here writing directory y → IsFoundBy y
  in-found y i p f =
      elim (below-or f.place (length writing) f.below) [
        | inl lt ↦ record { place = f.place; below = lt; finds = subst (λ (s : Source). Finds here s.number s.root y) (left-source writing directory f.place lt) f.finds }
        | inr last ↦
            let is : source_at (with_directory writing directory) f.place ≡ record { number = 0; root = directory } = ap (source_at (with_directory writing directory)) last ∙ last-source writing directory in
            directory-found y i p (subst (λ (s : Source). Finds here s.number s.root y) is f.finds)
      ]
    where
      below-or : (a b : ℕ) → a < b + 1 → (a < b) ⊎ (a ≡ b)
      below-or a b lt = elim (cases_eq a b) [ inl e ↦ inr e | inr ne ↦ inl (omega arith) ]

  -- The ids that one of the databases reaches.

  pub record IsReachedBy (j : ℕ) : Type 0 where
    pub place : ℕ
    pub below : place < length writing
    pub reached : ReachedIn (next_in h.objects) (loose h) (source_of h (source_at writing place).number).starts j

  reached-start : (z : ℕ) → IsIn z (loose h) → IsIn z (starts h) → IsReachedBy z
  unfolding starts source_of
  reached-start z f l =
      elim (in-append z (roots_of h.directory h.created) (after_places h.objects h.assigned) l) [
        | inl k ↦
            let r = roots-root h.directory h.created z k in
            let a = root-at here outside names writing directory h sound one run r.number z r.among r.there in
            let number = (source_at writing a.place).number in
            let created = subst (λ n. IsIn n h.created) (sym a.number_is) r.among in
            let roots = if is_in number h.created then root_of (database_at h.directory number) else [] in
            let there : IsIn z roots =
            subst (IsIn z) (sym (then_is (is_in number h.created) (root_of (database_at h.directory number)) [] (in-is_in number h.created created))) (subst (λ n. IsIn z (root_of (database_at h.directory n))) (sym a.number_is) r.there) in
            record { place = a.place; below = a.below; reached = at_start z (in-front z roots (after_places h.objects (at_home h.homes number h.assigned)) there) f }
        | inr k ↦
            let b = after-behind h.objects h.assigned z k in
            let x = run.assigned.noted b.id b.place in
            let w = writable x.0 (record { listed = listed-in x.0 here.assigned x.2.listed; homed = record { stored = x.2.stored; kind = object-home here outside names writing directory h sound one run x.0 b.id x.1 } }) in
            let number = (source_at writing w.place).number in
            let home : home_at h.homes b.id ≡ Some number = stored-home here outside names writing directory h sound one run x.0 b.id x.1 x.2.stored ∙ ap Some (sym w.is) in
            let roots = if is_in number h.created then root_of (database_at h.directory number) else [] in
            let there = behind-after h.objects (at_home h.homes number h.assigned) z b.id (place-at_home h.homes number h.assigned b.id b.place home) b.there in
            record { place = w.place; below = w.below; reached = at_start z (in-behind z roots (after_places h.objects (at_home h.homes number h.assigned)) there) f }
      ]

  pub reached-by : (j : ℕ) → ReachedIn (next_in h.objects) (loose h) (starts h) j → IsReachedBy j
  reached-by j (at_start z l f) = reached-start z f l
  reached-by j (by_step i z before l f) =
      let r = reached-by i before in
      record { place = r.place; below = r.below; reached = by_step i z r.reached l f }

  source-start : (n z : ℕ) → IsIn z (source_of h n).starts → IsIn z (starts h)
  unfolding starts source_of
  source-start n z l =
      let roots = if is_in n h.created then root_of (database_at h.directory n) else [] in
      elim (in-append z roots (after_places h.objects (at_home h.homes n h.assigned)) l) [
        | inl k ↦
            elim (cases_Bool (is_in n h.created)) [
              | inl created ↦
                  in-front z (roots_of h.directory h.created) (after_places h.objects h.assigned)
                  (root-roots h.directory h.created z n (is_in-in n h.created created) (subst (IsIn z) (then_is (is_in n h.created) (root_of (database_at h.directory n)) [] created) k))
              | inr none ↦ absurd (subst (IsIn z) (else_is (is_in n h.created) (root_of (database_at h.directory n)) [] none) k)
            ]
        | inr k ↦
            let b = after-behind h.objects (at_home h.homes n h.assigned) z k in
            in-behind z (roots_of h.directory h.created) (after_places h.objects h.assigned)
            (behind-after h.objects h.assigned z b.id (at_home-place h.homes n h.assigned b.id b.place).0 b.there)
      ]

  pub by-reached : (j : ℕ) → IsReachedBy j → ReachedIn (next_in h.objects) (loose h) (starts h) j
  by-reached j r =
      let n = (source_at writing r.place).number in
      reached-map (λ x z. IsIn z (next_in h.objects x)) (λ x z. IsIn z (next_in h.objects x)) (λ z. IsIn z (loose h)) (λ z. IsIn z (loose h)) (λ z. IsIn z (source_of h n).starts) (λ z. IsIn z (starts h))
      (λ x z g. g) (λ z m. m) (source-start n) j r.reached

  -- Both.

  pub found-reached : (y j : ℕ) → IsOf here names y j → IsFoundBy y → IsReachedBy j
  found-reached y j p f = record { place = f.place; below = f.below; reached = finds-reached here outside names writing directory h sound one run f.place f.below y j p f.finds }

  pub reached-found : (j : ℕ) → IsReachedBy j → (y : ℕ) × IsOf here names y j × IsFoundBy y
  reached-found j r =
      let t = reached-finds here outside names writing directory h sound one run r.place r.below j r.reached in
      (t.at, t.is, record { place = r.place; below = r.below; finds = t.there })

  found-none : (y j : ℕ) → IsOf here names y j → IsFoundBy y → (header_at here y).pid ≡ 0
  found-none y j p f = may-none (header_at here y) (may-of (source_at writing f.place).number (source_at writing f.place).root y f.finds) (object-kind here outside names writing directory h sound one run y j p)
    where
      may-of : (n : ℕ) (root : Option ℕ) (z : ℕ) → Finds here n root z → May here z
      may-of n root z (at_start x is allowed) = allowed
      may-of n root z (by_step x w before is allowed) = allowed

  pub meets-reach : MeetsReach here names writing directory h
  unfolding newly_reached
  meets-reach = record {
    reached = λ x id p none. (
      (λ r. in-least (next_in h.objects) (loose h) (starts h) id (by-reached id (found-reached x id p (in-found x id p r)))),
      (λ l.
          let f = reached-found id (reached-by id (least-in (next_in h.objects) (loose h) (starts h) id l)) in
          let same = one-object here outside names writing directory h sound one run f.0 x id f.1 p in
          subst (IsReached here writing directory) same (found-in f.0 f.2)),
    );
    each = λ id l.
        let f = reached-found id (reached-by id (least-in (next_in h.objects) (loose h) (starts h) id l)) in
        (f.0, f.1, found-none f.0 id f.1 f.2);
  }
