-- Objects that change together, and places that are assigned together.
use Rattle.std.proofs.Common.{Bool, true, false, inl, inr, ◌≡◌, ◌≢◌, ℕ, zero, suc, List, [], ◌∷◌, ◌++◌, map, set, refl, sym, ap, ◌∙◌, subst, arith, Some, if◌then◌else◌, nat_eq}
use Rattle.std.specs.Prelude.{◌&&◌}
use Rattle.std.specs.Option.{option_map}
use Rattle.std.proofs.lemmas.Bool.{cases_eq}
use Rattle.std.proofs.lemmas.List.{map-append, length-set}
use Rattle.reaching.specs.Reaching.{IsIn}
use Rattle.ps_heap.specs.Values.{Value}
use Rattle.ps_heap.specs.Tables.{is_same_key}
use Rattle.ps_heap.specs.Objects.{Object, Structure, Elements, Scope, Keyed, object_at}
use Rattle.ps_heap.specs.References.{with_part, value_ids, object_ids, next_in}
use Rattle.ps_heap.specs.Databases.{is_there}
use Rattle.ps_heap.specs.Held.{Held, Place, Part, Under, object_of, is_same_place, is_among, home_at, places_with, noted, put_part, assigned_part}
use Rattle.database_meaning.specs.Same.{renamed_value, renamed}
use Rattle.database_meaning.specs.Sound.{HasPlace}
use Rattle.database_meaning.specs.SameRuns.{Pairing, AreAmong, AreSameObjects, renamed_place, IsSameHeld}
use Rattle.database_meaning.proofs.KeptLaws.{object-set, object-other, has-append, part-ids}
use Rattle.database_meaning.proofs.GrownPairs.{object-there}
use Rattle.database_meaning.proofs.SameTouches.{same-id}
use Rattle.database_meaning.proofs.SameCommits.{home-same}

module _ {p : Pairing} {a b : Held} (s : IsSameHeld p a b) where
  -- Another object stands under an id.

  module _ (id : ℕ) (known : IsIn id p.ids) (o : Object) (among : AreAmong (object_ids (Some o)) p.ids) where
    old : (was : Object) × (object_at a.objects id ≡ Some was)
    old = object-there a.objects id (s.objects.there id known)

    here : object_at (set a.objects id o) id ≡ Some o
    here = object-set a.objects id old.0 o old.1

    also-here : object_at (set b.objects (p.new id) (renamed p.new o)) (p.new id) ≡ Some (renamed p.new o)
    also-here = object-set b.objects (p.new id) (renamed p.new old.0) (renamed p.new o) (s.objects.same id known ∙ ap (option_map (renamed p.new)) old.1)

    new-apart : (x : ℕ) → IsIn x p.ids → x ≢ id → p.new x ≢ p.new id
    new-apart x l apart e = apart (sym (s.objects.one x l) ∙ (ap p.back e ∙ s.objects.one id known))

    objects : AreSameObjects p (set a.objects id o) (set b.objects (p.new id) (renamed p.new o))
    unfolding next_in
    objects = record {
      one = s.objects.one;
      there = λ x l. omega (arith, s.objects.there x l, length-set a.objects id o);
      closed = λ x l y m. elim (cases_eq x id) [
        | inl same ↦ among y (subst (λ k. IsIn y (object_ids k)) (ap (object_at (set a.objects id o)) same ∙ here) m)
        | inr apart ↦ s.objects.closed x l y (subst (λ k. IsIn y (object_ids k)) (object-other a.objects id x o apart) m)
      ];
      same = λ x l. elim (cases_eq x id) [
        | inl same ↦
            ap (λ k. object_at (set b.objects (p.new id) (renamed p.new o)) (p.new k)) same
            ∙ (also-here ∙ ap (option_map (renamed p.new)) (sym (ap (object_at (set a.objects id o)) same ∙ here)))
        | inr apart ↦
            object-other b.objects (p.new id) (p.new x) (renamed p.new o) (new-apart x l apart)
            ∙ (s.objects.same x l ∙ ap (option_map (renamed p.new)) (sym (object-other a.objects id x o apart)))
      ];
    }

    pub changed-same : IsSameHeld p (record a { objects = set a.objects id o }) (record b { objects = set b.objects (p.new id) (renamed p.new o) })
    changed-same = record {
      objects = objects;
      homes = record {
        same = s.homes.same;
        first = λ x n e. omega (arith, s.homes.first x n e, length-set a.objects id o);
        second = λ x n e. omega (arith, s.homes.second x n e, length-set b.objects (p.new id) (renamed p.new o));
      };
      directory = s.directory;
      openings = s.openings;
      created = s.created;
      assigned = s.assigned;
      touched = record {
        same = s.touched.same;
        first = λ x l. omega (arith, s.touched.first x l, length-set a.objects id o);
        second = λ x l. omega (arith, s.touched.second x l, length-set b.objects (p.new id) (renamed p.new o));
      };
      asked = s.asked;
      replies = s.replies;
      counted = s.counted;
      weigh = s.weigh;
    }

  -- A place is assigned.

  same-place : (q r : Place) → IsIn (object_of q) p.ids → IsIn (object_of r) p.ids → is_same_place (renamed_place p.new q) (renamed_place p.new r) ≡ is_same_place q r
  same-place (Part x i) (Part y j) l m = ap (λ e. e && nat_eq i j) (same-id s x y l m)
  same-place (Under x k) (Under y o) l m = ap (λ e. e && is_same_key k o) (same-id s x y l m)
  same-place (Part x i) (Under y o) l m = refl
  same-place (Under x k) (Part y j) l m = refl

  same-among : (q : Place) (places : List Place) → IsIn (object_of q) p.ids → ((r : Place) → HasPlace r places → IsIn (object_of r) p.ids)
      → is_among (renamed_place p.new q) (map (renamed_place p.new) places) ≡ is_among q places
  unfolding is_among
  same-among q [] l known = refl
  same-among q (r ∷ rs) l known =
      ap (λ e. if e then true else is_among (renamed_place p.new q) (map (renamed_place p.new) rs)) (same-place q r l (known r (inl refl)))
      ∙ ap (λ e. if is_same_place q r then true else e) (same-among q rs l (λ o h. known o (inr h)))

  module _ (q : Place) (known : IsIn (object_of q) p.ids) where
    noted-are : places_with b.homes (renamed_place p.new q) b.assigned ≡ map (renamed_place p.new) (places_with a.homes q a.assigned)
    unfolding places_with
    noted-are =
        ap (λ home. if is_there home then (if is_among new b.assigned then b.assigned else b.assigned ++ new ∷ []) else b.assigned) (home-same s q known)
        ∙ (ap (λ ps. if is_there (home_at a.homes (object_of q)) then (if is_among new ps then ps else ps ++ new ∷ []) else ps) s.assigned.are
        ∙ (ap (λ e. if is_there (home_at a.homes (object_of q)) then (if e then map (renamed_place p.new) a.assigned else map (renamed_place p.new) a.assigned ++ new ∷ []) else map (renamed_place p.new) a.assigned)
        (same-among q a.assigned known s.assigned.objects)
        ∙ go (is_there (home_at a.homes (object_of q))) (is_among q a.assigned)))
      where
        new : Place
        new = renamed_place p.new q

        go : (t m : Bool) → (if t then (if m then map (renamed_place p.new) a.assigned else map (renamed_place p.new) a.assigned ++ renamed_place p.new q ∷ []) else map (renamed_place p.new) a.assigned)
            ≡ map (renamed_place p.new) (if t then (if m then a.assigned else a.assigned ++ q ∷ []) else a.assigned)
        go true true = refl
        go true false = sym (map-append (renamed_place p.new) a.assigned (q ∷ []))
        go false m = refl

    noted-known : (place : Place) → HasPlace place (places_with a.homes q a.assigned) → IsIn (object_of place) p.ids
    unfolding places_with
    noted-known place h = go (is_there (home_at a.homes (object_of q))) (is_among q a.assigned) h
      where
        go : (t m : Bool) → HasPlace place (if t then (if m then a.assigned else a.assigned ++ q ∷ []) else a.assigned) → IsIn (object_of place) p.ids
        go true true k = s.assigned.objects place k
        go false m k = s.assigned.objects place k
        go true false k = elim (has-append place a.assigned (q ∷ []) k) [
          | inl was ↦ s.assigned.objects place was
          | inr (inl e) ↦ subst (λ r. IsIn (object_of r) p.ids) (sym e) known
          | inr (inr no_more) ↦ absurd no_more
        ]

    pub noted-same : IsSameHeld p (noted q a) (noted (renamed_place p.new q) b)
    noted-same = record {
      objects = s.objects;
      homes = s.homes;
      directory = s.directory;
      openings = s.openings;
      created = s.created;
      assigned = record { are = noted-are; objects = noted-known };
      touched = s.touched;
      asked = s.asked;
      replies = s.replies;
      counted = s.counted;
      weigh = s.weigh;
    }

-- A field, an element or a kept name.

pub set-map : (f : ℕ → ℕ) (vs : List Value) (n : ℕ) (v : Value) → set (map (renamed_value f) vs) n (renamed_value f v) ≡ map (renamed_value f) (set vs n v)
set-map f [] n v = refl
set-map f (w ∷ ws) zero v = refl
set-map f (w ∷ ws) (suc n) v = ap (λ xs. renamed_value f w ∷ xs) (set-map f ws n v)

part-renamed : (f : ℕ → ℕ) (o : Object) (n : ℕ) (v : Value) → with_part (renamed f o) n (renamed_value f v) ≡ renamed f (with_part o n v)
part-renamed f (Structure class fields) n v = ap (Structure class) (set-map f fields n v)
part-renamed f (Elements ty low elements) n v = ap (Elements ty low) (set-map f elements n v)
part-renamed f (Scope text parent names) n v = ap (Scope text (option_map f parent)) (set-map f names n v)
part-renamed f (Keyed table) n v = refl

pub assigned-same : {p : Pairing} {a b : Held} (s : IsSameHeld p a b) (id n : ℕ) (v : Value) → IsIn id p.ids → AreAmong (value_ids v) p.ids
    → IsSameHeld p (assigned_part id n v a) (assigned_part (p.new id) n (renamed_value p.new v) b)
unfolding next_in
assigned-same {p = p} {a = a} {b = b} s id n v known among =
    let o = object-there a.objects id (s.objects.there id known) in
    let changed = changed-same s id known (with_part o.0 n v) (λ x l. elim (part-ids o.0 n v x l) [
      | inl was ↦ s.objects.closed id known x (subst (λ k. IsIn x (object_ids k)) (sym o.1) was)
      | inr new ↦ among x new
    ]) in
    subst (λ k. IsSameHeld p (noted (Part id n) (record a { objects = put_part k id n v a.objects })) (assigned_part (p.new id) n (renamed_value p.new v) b)) (sym o.1)
    (subst (λ k. IsSameHeld p (noted (Part id n) (record a { objects = set a.objects id (with_part o.0 n v) }))
    (noted (Part (p.new id) n) (record b { objects = put_part k (p.new id) n (renamed_value p.new v) b.objects })))
    (sym (s.objects.same id known ∙ ap (option_map (renamed p.new)) o.1))
    (subst (λ k. IsSameHeld p (noted (Part id n) (record a { objects = set a.objects id (with_part o.0 n v) }))
    (noted (Part (p.new id) n) (record b { objects = set b.objects (p.new id) k }))) (sym (part-renamed p.new o.0 n v))
    (noted-same changed (Part id n) known)))
