-- What a run holds stays as the laws of commits ask for, from its start on.
use Rattle.std.proofs.Common.{Bool, true, false, inl, inr, ◌⊎◌, ◌≡◌, ◌≢◌, ℕ, zero, suc, ◌+◌, ◌<◌, ◌≤◌, List, [], ◌∷◌, ◌++◌, length, refl, sym, ap, ◌∙◌, subst, arith, Option, Some, None, if◌then◌else◌, nat_eq, set}
use Rattle.std.specs.Prelude.{◌&&◌}
use Rattle.std.proofs.lemmas.Bool.{cases_Bool, cases_eq, cases_order, true≢false, eqb-true, eqb-false}
use Rattle.std.proofs.lemmas.List.{length-set, length-append}
use Rattle.ps_heap.specs.Values.{Value, Routine}
use Rattle.reaching.specs.Reaching.{IsIn, is_in, by_step}
use Rattle.reaching.proofs.Lists.{then_is, else_is, is_in-in, in-is_in, in-append, in-front, in-behind}
use Rattle.reaching.proofs.WalkLaws.{least-in, in-least}
use Rattle.ps_heap.specs.Tables.{is_same_key}
use Rattle.ps_heap.specs.Objects.{Object, Structure, Elements, Scope, Keyed, Heap, object_at}
use Rattle.ps_heap.specs.References.{with_part, scope_ids, value_ids, values_ids, object_ids, next_in}
use Rattle.ps_heap.specs.Databases.{every_root, is_there}
use Rattle.ps_heap.specs.Held.{Held, Place, Part, Under, object_of, is_same_place, is_among, home_at, home_if, places_with, noted, put_part, assigned_part, with_object, touching, StoredHeap, row, every_id, reached_from_roots, Reply, started}
use Rattle.ps_heap.specs.Commit.{homes_after, Saves, saved, decision, after_decision}
use Rattle.database_meaning.specs.Sound.{HasPlace, IsCommitted, AreThere, IsAssigned, AreHomed, IsRight}
use Rattle.database_meaning.proofs.CommitLaws.{none≢some, row-at, row-below, after-below, saved-is, closed}

-- The start.

pub in-row : (from n id : ℕ) → from ≤ id → id < from + n → IsIn id (row (λ k. k) from n)
unfolding row
in-row from zero id low high = absurd (omega (arith, low, high))
in-row from (suc n) id low high =
    elim (cases_Bool (nat_eq id from)) [
      | inl same ↦ inl (eqb-true id from same)
      | inr apart ↦ inr (in-row (suc from) n id (omega (arith, low, eqb-false id from apart)) (omega (arith, high)))
    ]

pub home-if : (b : Bool) (home : Option ℕ) (n : ℕ) → home_if b home ≡ Some n → (b ≡ true) × (home ≡ Some n)
home-if true home n e = (refl, e)
home-if false home n e = absurd (none≢some e)

module _ (weigh : Routine → ℕ) (replies : List Reply) (counted : ℕ) (stored : StoredHeap) (there : AreThere stored.objects) (homed : AreHomed stored) where
  abbrev homes : List (Option ℕ)
  homes = row (λ id. home_if (is_in id (reached_from_roots stored)) (home_at stored.homes id)) 0 (length stored.objects)

  start-home : (id : ℕ) → id < length stored.objects → home_at homes id ≡ home_if (is_in id (reached_from_roots stored)) (home_at stored.homes id)
  start-home id l = row-at (λ k. home_if (is_in k (reached_from_roots stored)) (home_at stored.homes k)) 0 (length stored.objects) id l
      ∙ ap (λ k. home_if (is_in k (reached_from_roots stored)) (home_at stored.homes k)) (omega arith)

  start-below : (id n : ℕ) → home_at homes id ≡ Some n → id < length stored.objects
  start-below id n e = row-below (λ k. home_if (is_in k (reached_from_roots stored)) (home_at stored.homes k)) 0 (length stored.objects) id n e

  start-next : (x y : ℕ) → IsIn x (reached_from_roots stored) → IsIn y (next_in stored.objects x) → IsIn y (reached_from_roots stored)
  unfolding reached_from_roots
  start-next x y r goes =
      in-least (next_in stored.objects) (every_id stored.objects) (every_root stored.directory) y
      (by_step x y (least-in (next_in stored.objects) (every_id stored.objects) (every_root stored.directory) x r) goes (in-row 0 (length stored.objects) y (omega arith) (omega (arith, there x y goes))))

  start-closed : (x y : ℕ) → IsCommitted homes x → IsIn y (next_in stored.objects x) → IsCommitted homes y
  start-closed x y c goes =
      let is = home-if (is_in x (reached_from_roots stored)) (home_at stored.homes x) c.0 (sym (start-home x (start-below x c.0 c.1)) ∙ c.1) in
      let next = start-next x y (is_in-in x (reached_from_roots stored) is.0) goes in
      let home = homed y next in
      (home.0, start-home y (there x y goes) ∙ (ap (λ b. home_if b (home_at stored.homes y)) (in-is_in y (reached_from_roots stored) next) ∙ home.1))

  pub start-right : IsRight (started weigh replies counted stored)
  start-right = record {
    sound = record { committed = λ place h. absurd h; open_too = λ n h. absurd h };
    there = there;
    homed = λ id n e. start-below id n e;
    closed = λ x y c goes. inl (start-closed x y c goes);
  }

-- Objects of a heap that grew, and of one in which one object is another.

pub object-low : (heap : Heap) (new : Object) (id : ℕ) → id < length heap → object_at (heap ++ new ∷ []) id ≡ object_at heap id
object-low [] new id l = absurd (omega (arith, l))
object-low (o ∷ os) new zero l = refl
object-low (o ∷ os) new (suc id) l = object-low os new id (omega (arith, l))

pub object-last : (heap : Heap) (new : Object) → object_at (heap ++ new ∷ []) (length heap) ≡ Some new
object-last [] new = refl
object-last (o ∷ os) new = object-last os new

pub object-high : (heap : Heap) (id : ℕ) → length heap ≤ id → object_at heap id ≡ None
object-high [] id l = refl
object-high (o ∷ os) zero l = absurd (omega (arith, l))
object-high (o ∷ os) (suc id) l = object-high os id (omega (arith, l))

pub object-set : (heap : Heap) (id : ℕ) (old new : Object) → object_at heap id ≡ Some old → object_at (set heap id new) id ≡ Some new
object-set [] id old new e = absurd (none≢some e)
object-set (o ∷ os) zero old new e = refl
object-set (o ∷ os) (suc id) old new e = object-set os id old new e

pub object-other : (heap : Heap) (id other : ℕ) (new : Object) → other ≢ id → object_at (set heap id new) other ≡ object_at heap other
object-other [] id other new apart = refl
object-other (o ∷ os) zero zero new apart = absurd (apart refl)
object-other (o ∷ os) zero (suc other) new apart = refl
object-other (o ∷ os) (suc id) zero new apart = refl
object-other (o ∷ os) (suc id) (suc other) new apart = object-other os id other new (λ e. apart (ap suc e))

-- A new object, which isn't committed.

pub made-right : (object : Object) (h : Held) → IsRight h → ((y : ℕ) → IsIn y (object_ids (Some object)) → y < length h.objects) → IsRight (with_object object h)
unfolding next_in
made-right object h r ids = record {
  sound = record { committed = r.sound.committed; open_too = r.sound.open_too };
  there = there;
  homed = λ id n e. omega (arith, r.homed id n e, length-append h.objects (object ∷ []));
  closed = λ x y c goes. elim (r.closed x y c (subst (λ o. IsIn y (object_ids o)) (object-low h.objects object x (r.homed x c.0 c.1)) goes)) [
    | inl is ↦ inl is
    | inr a ↦ inr (record { place = a.place; there = a.there; object_is = a.object_is })
  ];
}
  where
    longer : length (h.objects ++ object ∷ []) ≡ length h.objects + 1
    longer = length-append h.objects (object ∷ [])

    there : (x y : ℕ) → IsIn y (object_ids (object_at (h.objects ++ object ∷ []) x)) → y < length (h.objects ++ object ∷ [])
    there x y goes =
        elim (cases_order x (length h.objects)) [
          | inl same ↦ omega (arith, longer, ids y (subst (λ o. IsIn y (object_ids o)) (ap (object_at (h.objects ++ object ∷ [])) same ∙ object-last h.objects object) goes))
          | inr (inl low) ↦ omega (arith, longer, r.there x y (subst (λ o. IsIn y (object_ids o)) (object-low h.objects object x low) goes))
          | inr (inr high) ↦ absurd (subst (λ o. IsIn y (object_ids o)) (object-high (h.objects ++ object ∷ []) x (omega (arith, longer, high))) goes)
        ]

-- A place that is assigned.

pub has-append : (p : Place) (ps qs : List Place) → HasPlace p (ps ++ qs) → HasPlace p ps ⊎ HasPlace p qs
has-append p [] qs h = inr h
has-append p (q ∷ ps) qs (inl e) = inl (inl e)
has-append p (q ∷ ps) qs (inr h) = elim (has-append p ps qs h) [ inl a ↦ inl (inr a) | inr b ↦ inr b ]

pub has-before : (p : Place) (ps qs : List Place) → HasPlace p ps → HasPlace p (ps ++ qs)
has-before p [] qs h = absurd h
has-before p (q ∷ ps) qs (inl e) = inl e
has-before p (q ∷ ps) qs (inr h) = inr (has-before p ps qs h)

pub has-last : (p : Place) (ps : List Place) → HasPlace p (ps ++ p ∷ [])
has-last p [] = inl refl
has-last p (q ∷ ps) = inr (has-last p ps)

pub both-true : (a b : Bool) → (a && b) ≡ true → a ≡ true
both-true true b e = refl
both-true false b e = e

pub same-object : (p q : Place) → is_same_place p q ≡ true → object_of q ≡ object_of p
same-object (Part a i) (Part b j) e = sym (eqb-true a b (both-true (nat_eq a b) (nat_eq i j) e))
same-object (Under a k) (Under b l) e = sym (eqb-true a b (both-true (nat_eq a b) (is_same_key k l) e))
same-object (Part a i) (Under b l) e = absurd (true≢false (sym e))
same-object (Under a k) (Part b j) e = absurd (true≢false (sym e))

record Among (id : ℕ) (places : List Place) : Type 0 where
  place : Place
  there : HasPlace place places
  object_is : object_of place ≡ id

among : (p : Place) (places : List Place) → is_among p places ≡ true → Among (object_of p) places
unfolding is_among
among p [] e = absurd (true≢false (sym e))
among p (q ∷ qs) e =
    elim (cases_Bool (is_same_place p q)) [
      | inl same ↦ record { place = q; there = inl refl; object_is = same-object p q same }
      | inr apart ↦ let a = among p qs (sym (else_is (is_same_place p q) true (is_among p qs) apart) ∙ e) in record { place = a.place; there = inr a.there; object_is = a.object_is }
    ]

pub committed-is : (homes : List (Option ℕ)) (id : ℕ) → is_there (home_at homes id) ≡ true → IsCommitted homes id
committed-is homes id e = go (home_at homes id) refl
  where
    go : (home : Option ℕ) → home_at homes id ≡ home → IsCommitted homes id
    go None is = absurd (true≢false (sym e ∙ ap is_there is))
    go (Some n) is = (n, is)

-- objects that may have changed in one place alone: what they refer to is what they referred to, or what that place refers to now
abbrev pub ChangesAt : Held → Heap → ℕ → Type 0
ChangesAt h objects id = (x y : ℕ) → IsIn y (next_in objects x) → IsIn y (next_in h.objects x) ⊎ ((x ≡ id) × (y < length h.objects))

module _ (h : Held) (objects : Heap) (place : Place) (r : IsRight h) (long : length objects ≡ length h.objects) (changes : ChangesAt h objects (object_of place)) where
  abbrev changed : Held
  changed = record h { objects = objects }

  all-there : AreThere objects
  all-there x y goes = elim (changes x y goes) [ inl old ↦ omega (arith, long, r.there x y old) | inr new ↦ omega (arith, long, new.1) ]

  all-homed : (id n : ℕ) → home_at h.homes id ≡ Some n → id < length objects
  all-homed id n e = omega (arith, long, r.homed id n e)

  same-places : ((x : ℕ) → x ≡ object_of place → IsCommitted h.homes x → IsAssigned h x) → IsRight changed
  same-places known = record {
    sound = record { committed = r.sound.committed; open_too = r.sound.open_too };
    there = all-there;
    homed = all-homed;
    closed = λ x y c goes. elim (changes x y goes) [
      | inl old ↦ elim (r.closed x y c old) [ inl is ↦ inl is | inr a ↦ inr (record { place = a.place; there = a.there; object_is = a.object_is }) ]
      | inr new ↦ let a = known x new.0 c in inr (record { place = a.place; there = a.there; object_is = a.object_is })
    ];
  }

  one-more : is_there (home_at h.homes (object_of place)) ≡ true → IsRight (record changed { assigned = h.assigned ++ place ∷ [] })
  one-more is = record {
    sound = record {
      committed = λ p has. elim (has-append p h.assigned (place ∷ []) has) [
        | inl old ↦ r.sound.committed p old
        | inr (inl e) ↦ subst (λ q. IsCommitted h.homes (object_of q)) (sym e) (committed-is h.homes (object_of place) is)
        | inr (inr no_more) ↦ absurd no_more
      ];
      open_too = r.sound.open_too;
    };
    there = all-there;
    homed = all-homed;
    closed = λ x y c goes. elim (changes x y goes) [
      | inl old ↦ elim (r.closed x y c old) [ inl is ↦ inl is | inr a ↦ inr (record { place = a.place; there = has-before a.place h.assigned (place ∷ []) a.there; object_is = a.object_is }) ]
      | inr new ↦ inr (record { place = place; there = has-last place h.assigned; object_is = sym new.0 })
    ];
  }

  pub change-right : IsRight (noted place changed)
  unfolding places_with
  change-right =
      elim (cases_Bool (is_there (home_at h.homes (object_of place)))) [
        | inr loose ↦
            subst IsWith (sym (else_is (is_there (home_at h.homes (object_of place))) inner h.assigned loose))
            (same-places (λ x e c. absurd (true≢false (sym (ap is_there c.1) ∙ (ap (λ k. is_there (home_at h.homes k)) e ∙ loose)))))
        | inl is ↦
            subst IsWith (sym (then_is (is_there (home_at h.homes (object_of place))) inner h.assigned is))
            (elim (cases_Bool (is_among place h.assigned)) [
              | inl old ↦
                  subst IsWith (sym (then_is (is_among place h.assigned) h.assigned (h.assigned ++ place ∷ []) old))
                  (same-places (λ x e c. let a = among place h.assigned old in record { place = a.place; there = a.there; object_is = a.object_is ∙ sym e }))
              | inr new ↦ subst IsWith (sym (else_is (is_among place h.assigned) h.assigned (h.assigned ++ place ∷ []) new)) (one-more is)
            ])
      ]
    where
      IsWith : List Place → Type 0
      IsWith places = IsRight (record changed { assigned = places })

      inner : List Place
      inner = if is_among place h.assigned then h.assigned else h.assigned ++ place ∷ []

-- A field, an element or a kept name.

pub set-ids : (vs : List Value) (n : ℕ) (v : Value) (y : ℕ) → IsIn y (values_ids (set vs n v)) → IsIn y (values_ids vs) ⊎ IsIn y (value_ids v)
set-ids [] n v y l = inl l
set-ids (w ∷ ws) zero v y l = elim (in-append y (value_ids v) (values_ids ws) l) [ inl a ↦ inr a | inr b ↦ inl (in-behind y (value_ids w) (values_ids ws) b) ]
set-ids (w ∷ ws) (suc n) v y l =
    elim (in-append y (value_ids w) (values_ids (set ws n v)) l) [
      | inl a ↦ inl (in-front y (value_ids w) (values_ids ws) a)
      | inr b ↦ elim (set-ids ws n v y b) [ inl c ↦ inl (in-behind y (value_ids w) (values_ids ws) c) | inr d ↦ inr d ]
    ]

pub part-ids : (o : Object) (n : ℕ) (v : Value) (y : ℕ) → IsIn y (object_ids (Some (with_part o n v))) → IsIn y (object_ids (Some o)) ⊎ IsIn y (value_ids v)
part-ids (Structure class fields) n v y l = set-ids fields n v y l
part-ids (Elements ty low elements) n v y l = set-ids elements n v y l
part-ids (Scope text parent names) n v y l =
    elim (in-append y (scope_ids parent) (values_ids (set names n v)) l) [
      | inl a ↦ inl (in-front y (scope_ids parent) (values_ids names) a)
      | inr b ↦ elim (set-ids names n v y b) [ inl c ↦ inl (in-behind y (scope_ids parent) (values_ids names) c) | inr d ↦ inr d ]
    ]
part-ids (Keyed table) n v y l = inl l

pub assigned-right : (id n : ℕ) (v : Value) (h : Held) → IsRight h → ((y : ℕ) → IsIn y (value_ids v) → y < length h.objects) → IsRight (assigned_part id n v h)
unfolding next_in
assigned-right id n v h r low = go (object_at h.objects id) refl
  where
    go : (o : Option Object) → object_at h.objects id ≡ o → IsRight (noted (Part id n) (record h { objects = put_part o id n v h.objects }))
    go None is = change-right h h.objects (Part id n) r refl (λ x y goes. inl goes)
    go (Some o) is = change-right h (set h.objects id (with_part o n v)) (Part id n) r (length-set h.objects id (with_part o n v)) changes
      where
        changes : ChangesAt h (set h.objects id (with_part o n v)) id
        changes x y goes =
            elim (cases_eq x id) [
              | inl same ↦
                  let here : IsIn y (object_ids (Some (with_part o n v))) =
                  subst (λ p. IsIn y (object_ids p)) (ap (object_at (set h.objects id (with_part o n v))) same ∙ object-set h.objects id o (with_part o n v) is) goes in
                  elim (part-ids o n v y here) [
                    | inl old ↦ inl (subst (λ p. IsIn y (object_ids p)) (sym (ap (object_at h.objects) same ∙ is)) old)
                    | inr new ↦ inr (same, low y new)
                  ]
              | inr apart ↦ inl (subst (λ p. IsIn y (object_ids p)) (object-other h.objects id x (with_part o n v) apart) goes)
            ]

-- Touching and counting change nothing of this.

pub touching-right : (ids : List ℕ) (h : Held) → IsRight h → IsRight (touching ids h)
touching-right ids h r = record {
  sound = record { committed = r.sound.committed; open_too = r.sound.open_too };
  there = r.there;
  homed = r.homed;
  closed = λ x y c goes. elim (r.closed x y c goes) [ inl is ↦ inl is | inr a ↦ inr (record { place = a.place; there = a.there; object_is = a.object_is }) ];
}

-- A commit.

pub saved-right : (h : Held) (heap : StoredHeap) → IsRight h → decision h ≡ Saves heap → IsRight (after_decision (Saves heap) h)
unfolding saved
saved-right h heap r e =
    let s = saved-is h heap e in
    let homes : heap.homes ≡ homes_after h = ap (λ x. x.homes) s.1 in
    let right : IsRight (record h { homes = homes_after h; created = []; assigned = [] }) = record {
      sound = record { committed = λ place has. absurd has; open_too = λ n has. absurd has };
      there = r.there;
      homed = λ id n is. after-below h id n is;
      closed = λ x y c goes. inl (closed h r.sound r.there r.closed s.0 x y c goes);
    } in
    subst (λ hs. IsRight (record h { homes = hs; created = []; assigned = [] })) (sym homes) right
