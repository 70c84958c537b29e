-- An object that both runs make is one pair more.
use Rattle.std.proofs.Common.{Bool, false, inl, inr, ◌≡◌, ℕ, zero, suc, ◌+◌, ◌<◌, List, [], ◌∷◌, ◌++◌, map, length, refl, sym, ap, ◌∙◌, subst, arith, Option, Some, None, nat_eq}
use Rattle.std.specs.Option.{option_map}
use Rattle.std.proofs.lemmas.Bool.{eq-eqb, ne_eqb}
use Rattle.std.proofs.lemmas.List.{length-append}
use Rattle.reaching.specs.Reaching.{IsIn, is_in}
use Rattle.reaching.proofs.Lists.{then_is, else_is, not-is_in}
use Rattle.ps_heap.specs.Objects.{Object, Heap, object_at}
use Rattle.ps_heap.specs.References.{object_ids, next_in}
use Rattle.ps_heap.specs.Databases.{Opening}
use Rattle.ps_heap.specs.Held.{Held, Place, Part, Under, object_of, Reply, home_at, counting, with_object}
use Rattle.database_meaning.specs.Same.{renamed}
use Rattle.database_meaning.specs.Sound.{HasPlace}
use Rattle.database_meaning.specs.SameRuns.{Pairing, AreAmong, GoesOn, with_pair, AreSameObjects, AreHomesOf, AreIdsOf, AreSameHomes, AreSameTouched, renamed_place, IsSameHeld}
use Rattle.database_meaning.proofs.CommitLaws.{cases_Option, none≢some}
use Rattle.database_meaning.proofs.KeptLaws.{object-low, object-last}
use Rattle.database_meaning.proofs.RenamedObjects.{object-agrees, databases-agree}

-- Objects that are there.

pub object-there : (heap : Heap) (id : ℕ) → id < length heap → (o : Object) × (object_at heap id ≡ Some o)
object-there [] id l = absurd (omega (arith, l))
object-there (o ∷ os) zero l = (o, refl)
object-there (o ∷ os) (suc id) l = object-there os id (omega (arith, l))

pub there-object : (heap : Heap) (id : ℕ) (o : Object) → object_at heap id ≡ Some o → id < length heap
there-object [] id o e = absurd (none≢some e)
there-object (o ∷ os) zero p e = omega arith
there-object (o ∷ os) (suc id) p e = omega (arith, there-object os id p e)

no_home : (heap : Heap) (homes : List (Option ℕ)) → AreHomesOf heap homes → home_at homes (length heap) ≡ None
no_home heap homes homed = elim (cases_Option (home_at homes (length heap))) [ inl none ↦ none | inr some ↦ absurd (omega (arith, homed (length heap) some.0 some.1)) ]

no_id : (heap : Heap) (ids : List ℕ) → AreIdsOf heap ids → is_in (length heap) ids ≡ false
no_id heap ids low = not-is_in (length heap) ids (λ l. absurd (omega (arith, low (length heap) l)))

places-agree : (f g : ℕ → ℕ) (places : List Place) → ((place : Place) → HasPlace place places → f (object_of place) ≡ g (object_of place))
    → map (renamed_place f) places ≡ map (renamed_place g) places
places-agree f g [] k = refl
places-agree f g (Part id n ∷ places) k =
    ap (λ x. Part x n ∷ map (renamed_place f) places) (k (Part id n) (inl refl)) ∙ ap (λ ps. Part (g id) n ∷ ps) (places-agree f g places (λ p h. k p (inr h)))
places-agree f g (Under id key ∷ places) k =
    ap (λ x. Under x key ∷ map (renamed_place f) places) (k (Under id key) (inl refl)) ∙ ap (λ ps. Under (g id) key ∷ ps) (places-agree f g places (λ p h. k p (inr h)))

pub goes_same : (p : Pairing) → GoesOn p p
goes_same p = record { ids = λ x l. l; new = λ id l. refl }

-- only numbers, openings and replies differ from before
pub told-same : {p : Pairing} {a b : Held} → IsSameHeld p a b → {openings openings′ : List Opening} {created created′ : List ℕ} {asked asked′ : Bool}
    {replies replies′ : List Reply} {counted counted′ : ℕ} → openings′ ≡ openings → created′ ≡ created → asked′ ≡ asked → replies′ ≡ replies → counted′ ≡ counted
    → IsSameHeld p (record a { openings = openings; created = created; asked = asked; replies = replies; counted = counted })
    (record b { openings = openings′; created = created′; asked = asked′; replies = replies′; counted = counted′ })
told-same s openings created asked replies counted = record {
  objects = s.objects;
  homes = s.homes;
  directory = s.directory;
  openings = openings;
  created = created;
  assigned = s.assigned;
  touched = s.touched;
  asked = asked;
  replies = replies;
  counted = counted;
  weigh = s.weigh;
}

pub counting-same : {p : Pairing} {a b : Held} (bytes other : ℕ) → other ≡ bytes → IsSameHeld p a b → IsSameHeld p (counting bytes a) (counting other b)
counting-same {a = a} bytes other is s =
    told-same s s.openings s.created s.asked s.replies (ap (λ n. n + other) s.counted ∙ ap (λ n. a.counted + n) is)

-- Both make an object.

module _ {p : Pairing} {a b : Held} (s : IsSameHeld p a b) where
  abbrev pub last : ℕ
  last = length a.objects

  abbrev pub other : ℕ
  other = length b.objects

  abbrev pub grown : Pairing
  grown = with_pair last other p

  pub new-there : (id : ℕ) → IsIn id p.ids → p.new id < length b.objects
  new-there id l =
      let o = object-there a.objects id (s.objects.there id l) in
      there-object b.objects (p.new id) (renamed p.new o.0) (s.objects.same id l ∙ ap (option_map (renamed p.new)) o.1)

  new-old : (id : ℕ) → IsIn id p.ids → grown.new id ≡ p.new id
  new-old id l = else_is (nat_eq id last) other (p.new id) (ne_eqb id last (λ e. absurd (omega (arith, s.objects.there id l, e))))

  pub new-last : grown.new last ≡ other
  new-last = then_is (nat_eq last last) other (p.new last) (eq-eqb last last refl)

  pub grown-goes : GoesOn p grown
  grown-goes = record { ids = λ x l. inr l; new = new-old }

  one : (id : ℕ) → IsIn id grown.ids → grown.back (grown.new id) ≡ id
  one id (inl e) = ap (λ k. grown.back (grown.new k)) e ∙ (ap grown.back new-last ∙ (then_is (nat_eq other other) last (p.back other) (eq-eqb other other refl) ∙ sym e))
  one id (inr l) =
      ap grown.back (new-old id l)
      ∙ (else_is (nat_eq (p.new id) other) last (p.back (p.new id)) (ne_eqb (p.new id) other (λ e. absurd (omega (arith, new-there id l, e)))) ∙ s.objects.one id l)

  module _ (o : Object) (known : AreAmong (object_ids (Some o)) p.ids) where
    longer : length (a.objects ++ o ∷ []) ≡ last + 1
    longer = length-append a.objects (o ∷ [])

    also-longer : length (b.objects ++ renamed p.new o ∷ []) ≡ other + 1
    also-longer = length-append b.objects (renamed p.new o ∷ [])

    old-closed : (id : ℕ) → IsIn id p.ids → AreAmong (object_ids (object_at a.objects id)) p.ids
    unfolding next_in
    old-closed id l x m = s.objects.closed id l x m

    closed : (id : ℕ) → IsIn id grown.ids → AreAmong (object_ids (object_at (a.objects ++ o ∷ []) id)) grown.ids
    closed id (inl e) x m = inr (known x (subst (λ k. IsIn x (object_ids k)) (ap (object_at (a.objects ++ o ∷ [])) e ∙ object-last a.objects o) m))
    closed id (inr l) x m = inr (old-closed id l x (subst (λ k. IsIn x (object_ids k)) (object-low a.objects o id (s.objects.there id l)) m))

    same : (id : ℕ) → IsIn id grown.ids → object_at (b.objects ++ renamed p.new o ∷ []) (grown.new id) ≡ option_map (renamed grown.new) (object_at (a.objects ++ o ∷ []) id)
    same id (inl e) =
        ap (object_at (b.objects ++ renamed p.new o ∷ [])) (ap grown.new e ∙ new-last)
        ∙ (object-last b.objects (renamed p.new o)
        ∙ (object-agrees p.new grown.new (Some o) (λ x m. sym (new-old x (known x m)))
        ∙ ap (option_map (renamed grown.new)) (sym (ap (object_at (a.objects ++ o ∷ [])) e ∙ object-last a.objects o))))
    same id (inr l) =
        ap (object_at (b.objects ++ renamed p.new o ∷ [])) (new-old id l)
        ∙ (object-low b.objects (renamed p.new o) (p.new id) (new-there id l)
        ∙ (s.objects.same id l
        ∙ (object-agrees p.new grown.new (object_at a.objects id) (λ x m. sym (new-old x (old-closed id l x m)))
        ∙ ap (option_map (renamed grown.new)) (sym (object-low a.objects o id (s.objects.there id l))))))

    objects : AreSameObjects grown (a.objects ++ o ∷ []) (b.objects ++ renamed p.new o ∷ [])
    unfolding next_in
    objects = record {
      one = one;
      there = λ id l. elim l [ inl e ↦ omega (arith, longer, e) | inr m ↦ omega (arith, longer, s.objects.there id m) ];
      closed = closed;
      same = same;
    }

    homes : AreSameHomes grown (a.objects ++ o ∷ []) (b.objects ++ renamed p.new o ∷ []) a.homes b.homes
    homes = record {
      same = λ id l. elim l [
        | inl e ↦
            ap (home_at b.homes) (ap grown.new e ∙ new-last) ∙ (no_home b.objects b.homes s.homes.second ∙ sym (ap (home_at a.homes) e ∙ no_home a.objects a.homes s.homes.first))
        | inr m ↦ ap (home_at b.homes) (new-old id m) ∙ s.homes.same id m
      ];
      first = λ id n e. omega (arith, longer, s.homes.first id n e);
      second = λ id n e. omega (arith, also-longer, s.homes.second id n e);
    }

    touched : AreSameTouched grown (a.objects ++ o ∷ []) (b.objects ++ renamed p.new o ∷ []) a.touched b.touched
    touched = record {
      same = λ id l. elim l [
        | inl e ↦
            ap (λ x. is_in x b.touched) (ap grown.new e ∙ new-last)
            ∙ (no_id b.objects b.touched s.touched.second ∙ sym (ap (λ x. is_in x a.touched) e ∙ no_id a.objects a.touched s.touched.first))
        | inr m ↦ ap (λ x. is_in x b.touched) (new-old id m) ∙ s.touched.same id m
      ];
      first = λ id l. omega (arith, longer, s.touched.first id l);
      second = λ id l. omega (arith, also-longer, s.touched.second id l);
    }

    pub made-same : IsSameHeld grown (with_object o a) (with_object (renamed p.new o) b)
    made-same = record {
      objects = objects;
      homes = homes;
      directory = record { is = s.directory.is ∙ databases-agree p.new grown.new a.directory (λ x l. sym (new-old x (s.directory.roots x l))); roots = λ x l. inr (s.directory.roots x l) };
      openings = s.openings;
      created = s.created;
      assigned = record {
        are = s.assigned.are ∙ places-agree p.new grown.new a.assigned (λ place h. sym (new-old (object_of place) (s.assigned.objects place h)));
        objects = λ place h. inr (s.assigned.objects place h);
      };
      touched = touched;
      asked = s.asked;
      replies = s.replies;
      counted = s.counted;
      weigh = s.weigh;
    }
