-- A heap that is the same but for its ids, all of which are reached: the new id of a reached id is its place in the list of what is reached.
use Rattle.std.proofs.Common.{inl, inr, ◌≡◌, ℕ, zero, suc, ◌<◌, Bool, true, false, nat_eq, List, [], ◌∷◌, ◌++◌, length, map, refl, sym, ap, ◌∙◌, subst, arith, Option, Some, None}
use Rattle.std.specs.Prelude.{if◌then◌else◌}
use Rattle.std.specs.Option.{option_map}
use Rattle.std.proofs.lemmas.Bool.{cases_Bool, eq-eqb, eqb-true, eqb-false}
use Rattle.reaching.specs.Reaching.{IsIn, is_in, without, walk, reach}
use Rattle.reaching.proofs.Lists.{then_is, else_is, in-without}
use Rattle.heap_fit.specs.ps_heap.Tables.{without_keys}
use Rattle.heap_fit.specs.ps_heap.Objects.{Object, Keyed, object_at}
use Rattle.heap_fit.specs.ps_heap.References.{next_in}
use Rattle.heap_fit.specs.ps_heap.Databases.{every_root}
use Rattle.heap_fit.specs.ps_heap.Held.{StoredHeap, home_at, every_id, reached_from_roots}
use Rattle.heap_fit.specs.database_meaning.Same.{renamed, renamed_database, IsInHeap, IsSame}
use Rattle.heap_fit.specs.Heaps.{IsFitHeap}
use Rattle.database_meaning.proofs.GrownPairs.{there-object}
use Rattle.database_meaning.proofs.SameLaws.{reached-forth}
use Rattle.database_meaning.proofs.SameStarts.{reached-heap, heap-reached}
use Rattle.joint_begun.specs.Beginning.{HasCompact, IsCompact}

-- A list in which each number stands once.

abbrev AreOnce : List ℕ → Type 0
AreOnce [] = Unit {0}
AreOnce (x ∷ xs) = (IsIn x xs → ⊥) × AreOnce xs

without-not : (x : ℕ) (ys : List ℕ) → IsIn x (without x ys) → ⊥
unfolding without
without-not x [] l = l
without-not x (y ∷ ys) l = elim (cases_Bool (nat_eq x y)) [
  | inl same ↦ without-not x ys (subst (IsIn x) (then_is (nat_eq x y) (without x ys) (y ∷ without x ys) same) l)
  | inr other ↦ elim (subst (IsIn x) (else_is (nat_eq x y) (without x ys) (y ∷ without x ys) other) l) [
    | inl e ↦ eqb-false x y other e
    | inr k ↦ without-not x ys k
  ]
]

-- what a walk finds was left
walk-left : (next : ℕ → List ℕ) (n : ℕ) (left todo : List ℕ) (z : ℕ) → IsIn z (walk next n left todo) → IsIn z left
unfolding walk
walk-left next n left [] z l = absurd l
walk-left next zero left (x ∷ todo) z l = absurd l
walk-left next (suc n) left (x ∷ todo) z l = elim (cases_Bool (is_in x left)) [
  | inl here ↦ elim (subst (IsIn z) (then_is (is_in x left) (x ∷ walk next n (without x left) (next x ++ todo)) (walk next (suc n) left todo) here) l) [
    | inl e ↦ subst (λ y. IsIn y left) (sym e) (Rattle.reaching.proofs.Lists.is_in-in x left here)
    | inr k ↦ in-without x z left (walk-left next n (without x left) (next x ++ todo) z k)
  ]
  | inr away ↦ walk-left next (suc n) left todo z (subst (IsIn z) (else_is (is_in x left) (x ∷ walk next n (without x left) (next x ++ todo)) (walk next (suc n) left todo) away) l)
]

-- it finds each once
walk-once : (next : ℕ → List ℕ) (n : ℕ) (left todo : List ℕ) → AreOnce (walk next n left todo)
unfolding walk
walk-once next n left [] = tt
walk-once next zero left (x ∷ todo) = tt
walk-once next (suc n) left (x ∷ todo) = elim (cases_Bool (is_in x left)) [
  | inl here ↦ subst AreOnce (sym (then_is (is_in x left) (x ∷ walk next n (without x left) (next x ++ todo)) (walk next (suc n) left todo) here))
      ((λ l. without-not x left (walk-left next n (without x left) (next x ++ todo) x l)), walk-once next n (without x left) (next x ++ todo))
  | inr away ↦ subst AreOnce (sym (else_is (is_in x left) (x ∷ walk next n (without x left) (next x ++ todo)) (walk next (suc n) left todo) away)) (walk-once next (suc n) left todo)
]

reached-once : (heap : StoredHeap) → AreOnce (reached_from_roots heap)
unfolding reached_from_roots reach
reached-once heap = walk-once (next_in heap.objects) (length (every_id heap.objects)) (every_id heap.objects) (every_root heap.directory)

-- The place of a number in a list, and the number at a place.

place : List ℕ → ℕ → ℕ
place [] x = 0
place (y ∷ ys) x = if nat_eq y x then 0 else suc (place ys x)

number : List ℕ → ℕ → ℕ
number [] k = 0
number (y ∷ ys) zero = y
number (y ∷ ys) (suc k) = number ys k

number-in : (ys : List ℕ) (k : ℕ) → k < length ys → IsIn (number ys k) ys
unfolding number
number-in [] k low = absurd (omega (arith, low))
number-in (y ∷ ys) zero low = inl refl
number-in (y ∷ ys) (suc k) low = inr (number-in ys k (omega (arith, low)))

-- of what is listed the number at its place is it
number-place : (ys : List ℕ) (x : ℕ) → IsIn x ys → number ys (place ys x) ≡ x
unfolding number place
number-place [] x l = absurd l
number-place (y ∷ ys) x l = by (nat_eq y x) refl (λ k. number-place ys x k)
  where
    by : (b : Bool) → nat_eq y x ≡ b → (IsIn x ys → number ys (place ys x) ≡ x) → number (y ∷ ys) (if b then 0 else suc (place ys x)) ≡ x
    by true same more = eqb-true y x same
    by false other more = elim l [ inl e ↦ absurd (eqb-false y x other (sym e)) | inr k ↦ more k ]

-- and where each is listed once, a place is that of its number
place-number : (ys : List ℕ) (k : ℕ) → AreOnce ys → k < length ys → place ys (number ys k) ≡ k
unfolding number place
place-number [] k once low = absurd (omega (arith, low))
place-number (y ∷ ys) zero once low = ap (λ (b : Bool). if b then 0 else suc (place ys y)) (eq-eqb y y refl)
place-number (y ∷ ys) (suc k) once low = by (nat_eq y (number ys k)) refl (place-number ys k once.1 (omega (arith, low)))
  where
    by : (b : Bool) → nat_eq y (number ys k) ≡ b → place ys (number ys k) ≡ k → (if b then 0 else suc (place ys (number ys k))) ≡ suc k
    by true same more = absurd (once.0 (subst (λ z. IsIn z ys) (sym (eqb-true y (number ys k) same)) (number-in ys k (omega (arith, low)))))
    by false other more = ap suc more

-- What is made for each number of a list, at the place of one.

object-place : (f : ℕ → Object) (ys : List ℕ) (x : ℕ) → IsIn x ys → object_at (map f ys) (place ys x) ≡ Some (f x)
unfolding place
object-place f [] x l = absurd l
object-place f (y ∷ ys) x l = by (nat_eq y x) refl (λ k. object-place f ys x k)
  where
    by : (b : Bool) → nat_eq y x ≡ b → (IsIn x ys → object_at (map f ys) (place ys x) ≡ Some (f x)) → object_at (map f (y ∷ ys)) (if b then 0 else suc (place ys x)) ≡ Some (f x)
    by true same more = ap (λ z. Some (f z)) (eqb-true y x same)
    by false other more = elim l [ inl e ↦ absurd (eqb-false y x other (sym e)) | inr k ↦ more k ]

home-place : (f : ℕ → Option ℕ) (ys : List ℕ) (x : ℕ) → IsIn x ys → home_at (map f ys) (place ys x) ≡ f x
unfolding place home_at
home-place f [] x l = absurd l
home-place f (y ∷ ys) x l = by (nat_eq y x) refl (λ k. home-place f ys x k)
  where
    by : (b : Bool) → nat_eq y x ≡ b → (IsIn x ys → home_at (map f ys) (place ys x) ≡ f x) → home_at (map f (y ∷ ys)) (if b then 0 else suc (place ys x)) ≡ f x
    by true same more = ap f (eqb-true y x same)
    by false other more = elim l [ inl e ↦ absurd (eqb-false y x other (sym e)) | inr k ↦ more k ]

-- The heap of what is reached.

abbrev or_table : Option Object → Object
or_table None = Keyed without_keys
or_table (Some o) = o

module _ (heap : StoredHeap) where
  abbrev ids : List ℕ
  ids = reached_from_roots heap

  abbrev new : ℕ → ℕ
  new id = place ids id

  abbrev object_of : ℕ → Object
  object_of id = renamed new (or_table (object_at heap.objects id))

  pub compact_of : StoredHeap
  compact_of = record { objects = map object_of ids; homes = map (home_at heap.homes) ids; directory = map (renamed_database new) heap.directory }

  module _ (fit : IsFitHeap heap) where
    all-there : (id : ℕ) → IsInHeap heap id → id < length heap.objects
    all-there id r = let at = fit.each id r in there-object heap.objects id at.object at.is

    listed : (id : ℕ) → IsInHeap heap id → IsIn id (reached_from_roots heap)
    listed id r = heap-reached heap all-there id r

    pub same-compact : IsSame heap compact_of
    unfolding compact_of
    same-compact = record {
      new = new;
      back = number ids;
      databases = refl;
      one = λ id r. number-place ids id (listed id r);
      objects = λ id r.
          let at = fit.each id r in
          object-place object_of ids id (listed id r)
          ∙ (ap (λ (o : Option Object). Some (renamed new (or_table o))) at.is ∙ sym (ap (option_map (renamed new)) at.is));
      homes = λ id r. home-place (home_at heap.homes) ids id (listed id r);
    }

    pub compact-all : IsCompact compact_of
    unfolding compact_of same-compact
    compact-all j low =
        let long : length (map object_of ids) ≡ length ids = Rattle.std.proofs.lemmas.List.length-map ids object_of in
        let below : j < length ids = omega (arith, long, low) in
        let there = reached-heap heap (number ids j) (number-in ids j below) in
        subst (IsInHeap compact_of) (place-number ids j (reached-once heap) below) (reached-forth heap compact_of same-compact (number ids j) there)

pub has-compact : (heap : StoredHeap) → IsFitHeap heap → HasCompact heap
has-compact heap fit = record { compact = compact_of heap; same = same-compact heap fit; all = compact-all heap fit }
