-- A commit over what is the same but for ids is refused, does nothing or saves a heap that is the same but for ids.
use Rattle.std.proofs.Common.{Bool, true, false, inl, inr, ◌≡◌, ℕ, zero, suc, List, [], ◌∷◌, ◌++◌, map, length, refl, sym, ap, ◌∙◌, subst, Option, Some, None, if◌then◌else◌, nat_eq}
use Rattle.std.specs.Option.{option_map}
use Rattle.std.proofs.lemmas.Bool.{cases_Bool}
use Rattle.std.proofs.lemmas.List.{map-append}
use Rattle.reaching.specs.Reaching.{IsIn, is_in, at_start, by_step, ReachedIn, reach, first_source}
use Rattle.reaching.proofs.Lists.{in-is_in, is_in-in, not_in, not-is_in, in-append}
use Rattle.reaching.proofs.WalkLaws.{least-in, in-least}
use Rattle.ps_heap.specs.Objects.{object_at}
use Rattle.ps_heap.specs.References.{object_ids, next_in}
use Rattle.ps_heap.specs.Databases.{Database, Directory, database_from, database_at, root_of, every_root, open_for_writing, is_there}
use Rattle.ps_heap.specs.Held.{Held, Place, Part, Under, object_of, home_at}
use Rattle.ps_heap.specs.Commit.{loose_from, loose, after_places, is_home, at_home, source_of, sources, first_database, created_with, or_else, home_after, homes_after, is_writable, are_writable, is_empty, saved}
use Rattle.database_meaning.specs.Same.{renamed_database, IsInHeap, IsSame}
use Rattle.database_meaning.specs.Sound.{HasPlace}
use Rattle.database_meaning.specs.SameRuns.{Pairing, AreAmong, AreSameHomes, renamed_place, IsSameHeld}
use Rattle.database_meaning.proofs.HomeLaws.{in_after_places, has-at_home}
use Rattle.database_meaning.proofs.CommitLaws.{in-loose, after-is, after-below}
use Rattle.database_meaning.proofs.RenamedObjects.{in-map, map-in, ids-renamed}
use Rattle.database_meaning.proofs.GrownPairs.{new-there}
use Rattle.database_meaning.proofs.SameTouches.{same-id}

-- Uncommitted ids.

loose_from-in : (homes : List (Option ℕ)) (from n id : ℕ) → IsIn id (loose_from homes from n) → home_at homes id ≡ None
unfolding loose_from
loose_from-in homes from zero id l = absurd l
loose_from-in homes from (suc n) id l = go (home_at homes from) refl l (λ k. loose_from-in homes (suc from) n id k)
  where
    go : (home : Option ℕ) → home_at homes from ≡ home → IsIn id (if is_there home then loose_from homes (suc from) n else from ∷ loose_from homes (suc from) n)
        → (IsIn id (loose_from homes (suc from) n) → home_at homes id ≡ None) → home_at homes id ≡ None
    go (Some m) e k rest = rest k
    go None e (inl same) rest = ap (home_at homes) same ∙ e
    go None e (inr k) rest = rest k

loose-in : (h : Held) (id : ℕ) → IsIn id (loose h) → home_at h.homes id ≡ None
unfolding loose
loose-in h id l = loose_from-in h.homes 0 (length h.objects) id l

-- Directories with other ids.

database-renamed : (f : ℕ → ℕ) (n : ℕ) (ds : Directory) (number : ℕ) → database_from n (map (renamed_database f) ds) number ≡ option_map (renamed_database f) (database_from n ds number)
unfolding database_from
database-renamed f n [] number = refl
database-renamed f n (d ∷ ds) number = ap (λ rest. if nat_eq n number then Some (renamed_database f d) else rest) (database-renamed f (suc n) ds number) ∙ go (nat_eq n number)
  where
    go : (b : Bool) → (if b then Some (renamed_database f d) else option_map (renamed_database f) (database_from (suc n) ds number))
        ≡ option_map (renamed_database f) (if b then Some d else database_from (suc n) ds number)
    go true = refl
    go false = refl

root-renamed : (f : ℕ → ℕ) (d : Option Database) → root_of (option_map (renamed_database f) d) ≡ map f (root_of d)
root-renamed f None = refl
root-renamed f (Some d) = refl

root-in : (n : ℕ) (ds : Directory) (number x : ℕ) → IsIn x (root_of (database_from n ds number)) → IsIn x (every_root ds)
unfolding database_from every_root
root-in n [] number x l = absurd l
root-in n (d ∷ ds) number x l = go (nat_eq n number) l (λ m. root-in (suc n) ds number x m)
  where
    go : (b : Bool) → IsIn x (root_of (if b then Some d else database_from (suc n) ds number)) → (IsIn x (root_of (database_from (suc n) ds number)) → IsIn x (every_root ds))
        → IsIn x (d.root ∷ every_root ds)
    go true (inl e) rest = inl e
    go true (inr m) rest = absurd m
    go false m rest = inr (rest m)

object-renamed : (f : ℕ → ℕ) (place : Place) → object_of (renamed_place f place) ≡ f (object_of place)
object-renamed f (Part id n) = refl
object-renamed f (Under id key) = refl

empty-map : {A B : Type 0} (f : A → B) (xs : List A) → is_empty (map f xs) ≡ is_empty xs
empty-map f [] = refl
empty-map f (x ∷ xs) = refl

append-mapped : (f : ℕ → ℕ) (c : Bool) (xs ys : List ℕ) → (if c then map f xs else []) ++ map f ys ≡ map f ((if c then xs else []) ++ ys)
append-mapped f true xs ys = sym (map-append f xs ys)
append-mapped f false xs ys = refl

module _ {p : Pairing} {a b : Held} (s : IsSameHeld p a b) where
  -- What is reached.

  next-same : (id : ℕ) → IsIn id p.ids → next_in b.objects (p.new id) ≡ map p.new (next_in a.objects id)
  unfolding next_in
  next-same id l = ap object_ids (s.objects.same id l) ∙ ids-renamed p.new (object_at a.objects id)

  loose-forth : (id : ℕ) → IsIn id p.ids → IsIn id (loose a) → IsIn (p.new id) (loose b)
  loose-forth id l free = in-loose b (p.new id) (s.homes.same id l ∙ loose-in a id free) (new-there s id l)

  loose-back : (id : ℕ) → IsIn id p.ids → IsIn (p.new id) (loose b) → IsIn id (loose a)
  loose-back id l free = in-loose a id (sym (s.homes.same id l) ∙ loose-in b (p.new id) free) (s.objects.there id l)

  module _ (from : List ℕ) (known : AreAmong from p.ids) where
    inside : (x : ℕ) → ReachedIn (next_in a.objects) (loose a) from x → IsIn x p.ids
    inside x (at_start y is allowed) = known x is
    inside x (by_step w y before goes allowed) = s.objects.closed w (inside w before) x goes

    forth : (x : ℕ) → ReachedIn (next_in a.objects) (loose a) from x → ReachedIn (next_in b.objects) (loose b) (map p.new from) (p.new x)
    forth x (at_start y is allowed) = at_start (p.new x) (in-map p.new x from is) (loose-forth x (known x is) allowed)
    forth x (by_step w y before goes allowed) =
        let l = inside w before in
        by_step (p.new w) (p.new x) (forth w before) (subst (IsIn (p.new x)) (sym (next-same w l)) (in-map p.new x (next_in a.objects w) goes)) (loose-forth x (s.objects.closed w l x goes) allowed)

    -- the id that goes with one that is reached
    record Old (z : ℕ) : Type 0 where
      old : ℕ
      there : IsIn old p.ids
      is : z ≡ p.new old
      reached : ReachedIn (next_in a.objects) (loose a) from old

    back : (z : ℕ) → ReachedIn (next_in b.objects) (loose b) (map p.new from) z → Old z
    back z (at_start y is allowed) =
        let r = map-in p.new z from is in
        let l = known r.old r.there in
        record { old = r.old; there = l; is = r.is; reached = at_start r.old r.there (loose-back r.old l (subst (λ k. IsIn k (loose b)) r.is allowed)) }
    back z (by_step w y before goes allowed) =
        let f = back w before in
        let r = map-in p.new z (next_in a.objects f.old) (subst (IsIn z) (ap (next_in b.objects) f.is ∙ next-same f.old f.there) goes) in
        let l = s.objects.closed f.old f.there r.old r.there in
        record { old = r.old; there = l; is = r.is; reached = by_step f.old r.old f.reached r.there (loose-back r.old l (subst (λ k. IsIn k (loose b)) r.is allowed)) }

    reach-same : (id : ℕ) → IsIn id p.ids → is_in (p.new id) (reach (next_in b.objects) (loose b) (map p.new from)) ≡ is_in id (reach (next_in a.objects) (loose a) from)
    reach-same id l =
        let found = reach (next_in a.objects) (loose a) from in
        let others = reach (next_in b.objects) (loose b) (map p.new from) in
        elim (cases_Bool (is_in id found)) [
          | inl here ↦
              in-is_in (p.new id) others (in-least (next_in b.objects) (loose b) (map p.new from) (p.new id) (forth id (least-in (next_in a.objects) (loose a) from id (is_in-in id found here))))
              ∙ sym here
          | inr away ↦
              not-is_in (p.new id) others (λ m.
              let f = back (p.new id) (least-in (next_in b.objects) (loose b) (map p.new from) (p.new id) m) in
              let one : id ≡ f.old = sym (s.objects.one id l) ∙ (ap p.back f.is ∙ s.objects.one f.old f.there) in
              not_in id found away (in-least (next_in a.objects) (loose a) from id (subst (ReachedIn (next_in a.objects) (loose a) from) (sym one) f.reached)))
              ∙ sym away
        ]

  -- Where a database reaches from.

  roots-same : (n : ℕ) → root_of (database_at b.directory n) ≡ map p.new (root_of (database_at a.directory n))
  unfolding database_at
  roots-same n = ap (λ ds. root_of (database_from 1 ds n)) s.directory.is ∙ (ap root_of (database-renamed p.new 1 a.directory n) ∙ root-renamed p.new (database_from 1 a.directory n))

  roots-known : (n : ℕ) → AreAmong (root_of (database_at a.directory n)) p.ids
  unfolding database_at
  roots-known n x l = s.directory.roots x (root-in 1 a.directory n x l)

  abbrev AreKnown : List Place → Type 0
  AreKnown places = (place : Place) → HasPlace place places → IsIn (object_of place) p.ids

  pub home-same : (place : Place) → IsIn (object_of place) p.ids → home_at b.homes (object_of (renamed_place p.new place)) ≡ home_at a.homes (object_of place)
  home-same place l = ap (home_at b.homes) (object-renamed p.new place) ∙ s.homes.same (object_of place) l

  at_home-same : (n : ℕ) (places : List Place) → AreKnown places → at_home b.homes n (map (renamed_place p.new) places) ≡ map (renamed_place p.new) (at_home a.homes n places)
  unfolding at_home
  at_home-same n [] known = refl
  at_home-same n (place ∷ places) known =
      let new = renamed_place p.new place in
      let rest = at_home b.homes n (map (renamed_place p.new) places) in
      ap (λ home. if is_home n home then new ∷ rest else rest) (home-same place (known place (inl refl)))
      ∙ (ap (λ ps. if is_home n (home_at a.homes (object_of place)) then new ∷ ps else ps) (at_home-same n places (λ q h. known q (inr h)))
      ∙ go (is_home n (home_at a.homes (object_of place))))
    where
      go : (c : Bool) → (if c then renamed_place p.new place ∷ map (renamed_place p.new) (at_home a.homes n places) else map (renamed_place p.new) (at_home a.homes n places))
          ≡ map (renamed_place p.new) (if c then place ∷ at_home a.homes n places else at_home a.homes n places)
      go true = refl
      go false = refl

  after_places-same : (places : List Place) → AreKnown places → after_places b.objects (map (renamed_place p.new) places) ≡ map p.new (after_places a.objects places)
  unfolding after_places
  after_places-same [] known = refl
  after_places-same (place ∷ places) known =
      ap (λ xs. xs ++ after_places b.objects (map (renamed_place p.new) places))
      (ap (next_in b.objects) (object-renamed p.new place) ∙ next-same (object_of place) (known place (inl refl)))
      ∙ (ap (λ xs. map p.new (next_in a.objects (object_of place)) ++ xs) (after_places-same places (λ q h. known q (inr h)))
      ∙ sym (map-append p.new (next_in a.objects (object_of place)) (after_places a.objects places)))

  home-known : (n : ℕ) → AreKnown (at_home a.homes n a.assigned)
  home-known n place h = s.assigned.objects place (has-at_home a.homes n a.assigned place h)

  starts-same : (n : ℕ) → (source_of b n).starts ≡ map p.new (source_of a n).starts
  unfolding source_of
  starts-same n =
      let roots = root_of (database_at b.directory n) in
      let places = at_home a.homes n a.assigned in
      ap (λ c. (if is_in n c then roots else []) ++ after_places b.objects (at_home b.homes n b.assigned)) s.created
      ∙ (ap (λ r. (if is_in n a.created then r else []) ++ after_places b.objects (at_home b.homes n b.assigned)) (roots-same n)
      ∙ (ap (λ ps. (if is_in n a.created then map p.new (root_of (database_at a.directory n)) else []) ++ ps)
      (ap (λ ps. after_places b.objects (at_home b.homes n ps)) s.assigned.are
      ∙ (ap (after_places b.objects) (at_home-same n a.assigned s.assigned.objects) ∙ after_places-same places (home-known n)))
      ∙ append-mapped p.new (is_in n a.created) (root_of (database_at a.directory n)) (after_places a.objects places)))

  starts-known : (n : ℕ) → AreAmong (source_of a n).starts p.ids
  unfolding source_of
  starts-known n x l =
      elim (in-append x (if is_in n a.created then root_of (database_at a.directory n) else []) (after_places a.objects (at_home a.homes n a.assigned)) l) [
        | inl k ↦ go (is_in n a.created) k
        | inr k ↦ let f = in_after_places a.objects (at_home a.homes n a.assigned) x k in s.objects.closed (object_of f.0) (home-known n f.0 f.1) x f.2
      ]
    where
      go : (c : Bool) → IsIn x (if c then root_of (database_at a.directory n) else []) → IsIn x p.ids
      go true k = roots-known n x k
      go false k = absurd k

  -- Homes.

  number-same : (n : ℕ) → (source_of b n).number ≡ (source_of a n).number
  unfolding source_of
  number-same n = refl

  first-same : (ns : List ℕ) (id : ℕ) → IsIn id p.ids → first_source (next_in b.objects) (loose b) (sources b ns) (p.new id) ≡ first_source (next_in a.objects) (loose a) (sources a ns) id
  unfolding first_source sources
  first-same [] id l = refl
  first-same (n ∷ ns) id l =
      let from = (source_of a n).starts in
      ap (λ i. if i then Some (source_of b n).number else first_source (next_in b.objects) (loose b) (sources b ns) (p.new id))
      (ap (λ xs. is_in (p.new id) (reach (next_in b.objects) (loose b) xs)) (starts-same n) ∙ reach-same from (starts-known n) id l)
      ∙ (ap (λ m. if is_in id (reach (next_in a.objects) (loose a) from) then Some m else first_source (next_in b.objects) (loose b) (sources b ns) (p.new id)) (number-same n)
      ∙ ap (λ r. if is_in id (reach (next_in a.objects) (loose a) from) then Some (source_of a n).number else r) (first-same ns id l))

  in-same : (xs : List ℕ) → AreAmong xs p.ids → (id : ℕ) → IsIn id p.ids → is_in (p.new id) (map p.new xs) ≡ is_in id xs
  unfolding is_in
  in-same [] known id l = refl
  in-same (x ∷ xs) known id l =
      ap (λ e. if e then true else is_in (p.new id) (map p.new xs)) (same-id s id x l (known x (inl refl)))
      ∙ ap (λ i. if nat_eq id x then true else i) (in-same xs (λ y m. known y (inr m)) id l)

  created-same : (ns : List ℕ) (id : ℕ) → IsIn id p.ids → created_with b.directory ns (p.new id) ≡ created_with a.directory ns id
  unfolding created_with
  created-same [] id l = refl
  created-same (n ∷ ns) id l =
      ap (λ i. if i then Some n else created_with b.directory ns (p.new id))
      (ap (is_in (p.new id)) (roots-same n) ∙ in-same (root_of (database_at a.directory n)) (roots-known n) id l)
      ∙ ap (λ r. if is_in id (root_of (database_at a.directory n)) then Some n else r) (created-same ns id l)

  home_after-same : (id : ℕ) → IsIn id p.ids → home_after b (p.new id) ≡ home_after a id
  unfolding home_after first_database
  home_after-same id l =
      let writing = open_for_writing a.openings in
      ap (λ home. or_else home (or_else (created_with b.directory b.created (p.new id)) (first_source (next_in b.objects) (loose b) (sources b (open_for_writing b.openings)) (p.new id)))) (s.homes.same id l)
      ∙ ap (or_else (home_at a.homes id))
      (ap (λ made. or_else made (first_source (next_in b.objects) (loose b) (sources b (open_for_writing b.openings)) (p.new id)))
      (ap (λ ns. created_with b.directory ns (p.new id)) s.created ∙ created-same a.created id l)
      ∙ ap (or_else (created_with a.directory a.created id))
      (ap (λ os. first_source (next_in b.objects) (loose b) (sources b (open_for_writing os)) (p.new id)) s.openings ∙ first-same writing id l))

  pub after-same : AreSameHomes p a.objects b.objects (homes_after a) (homes_after b)
  after-same = record {
    same = λ id l. after-is b (p.new id) (new-there s id l) ∙ (home_after-same id l ∙ sym (after-is a id (s.objects.there id l)));
    first = λ id n e. after-below a id n e;
    second = λ id n e. after-below b id n e;
  }

  -- What is saved, and whether it is.

  in-heap : (id : ℕ) → IsInHeap (saved a) id → IsIn id p.ids
  unfolding saved
  in-heap id (at_start x is u) = s.directory.roots id is
  in-heap id (by_step x y before goes u) = s.objects.closed x (in-heap x before) id goes

  pub saved-same : IsSame (saved a) (saved b)
  unfolding saved
  saved-same = record {
    new = p.new;
    back = p.back;
    databases = s.directory.is;
    one = λ id r. s.objects.one id (in-heap id r);
    objects = λ id r. s.objects.same id (in-heap id r);
    homes = λ id r. after-same.same id (in-heap id r);
  }

  places-writable : (writing : List ℕ) (places : List Place) → AreKnown places → are_writable b.homes writing (map (renamed_place p.new) places) ≡ are_writable a.homes writing places
  unfolding are_writable
  places-writable writing [] known = refl
  places-writable writing (place ∷ places) known =
      ap (λ home. if is_writable writing home then are_writable b.homes writing (map (renamed_place p.new) places) else false) (home-same place (known place (inl refl)))
      ∙ ap (λ r. if is_writable writing (home_at a.homes (object_of place)) then r else false) (places-writable writing places (λ q h. known q (inr h)))

  pub writable-same : are_writable b.homes (open_for_writing b.openings) b.assigned ≡ are_writable a.homes (open_for_writing a.openings) a.assigned
  writable-same =
      ap (λ os. are_writable b.homes (open_for_writing os) b.assigned) s.openings
      ∙ (ap (are_writable b.homes (open_for_writing a.openings)) s.assigned.are ∙ places-writable (open_for_writing a.openings) a.assigned s.assigned.objects)

  pub empty-same : is_empty b.assigned ≡ is_empty a.assigned
  empty-same = ap is_empty s.assigned.are ∙ empty-map (renamed_place p.new) a.assigned
