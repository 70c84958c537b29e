-- When a commit is refused, does nothing, or saves; and that a touch counts once.
use Rattle.std.proofs.Common.{arith, Bool, true, false, inl, inr, ◌≡◌, ◌≢◌, ℕ, ◌+◌, List, [], ◌∷◌, refl, sym, ap, ◌∙◌, Option, Some, None, if◌then◌else◌}
use Rattle.std.specs.Prelude.{not, ◌&&◌}
use Rattle.std.proofs.lemmas.Bool.{cases_Bool, true≢false}
use Rattle.reaching.specs.Reaching.{IsIn}
use Rattle.reaching.proofs.Lists.{then_is, in-is_in, not_in}
use Rattle.ps_heap.specs.Databases.{open_for_writing, is_there}
use Rattle.ps_heap.specs.Held.{Held, StoredHeap, Place, object_of, home_at, weight_at, is_first_touch, touched_after, touched_weight, touching}
use Rattle.ps_heap.specs.Objects.{object_at}
use Rattle.ps_heap.specs.Commit.{is_writable, are_writable, is_empty, Decision, NotWritable, NothingToDo, Saves, saved, decision}
use Rattle.database_meaning.specs.Sound.{HasPlace, IsWritable, IsRefused}
use Rattle.database_meaning.proofs.HomeLaws.{writable-in}

-- The tests, as Booleans.

all-places : (homes : List (Option ℕ)) (writing : List ℕ) (places : List Place)
    → ((place : Place) (n : ℕ) → HasPlace place places → home_at homes (object_of place) ≡ Some n → IsIn n writing) → are_writable homes writing places ≡ true
unfolding are_writable
all-places homes writing [] w = refl
all-places homes writing (q ∷ qs) w =
    then_is (is_writable writing (home_at homes (object_of q))) (are_writable homes writing qs) false (here (home_at homes (object_of q)) refl)
    ∙ all-places homes writing qs (λ place n h e. w place n (inr h) e)
  where
    here : (home : Option ℕ) → home_at homes (object_of q) ≡ home → is_writable writing home ≡ true
    here None e = refl
    here (Some n) e = in-is_in n writing (w q n (inl refl) e)

pub all-writable : (h : Held) → IsWritable h → are_writable h.homes (open_for_writing h.openings) h.assigned ≡ true
all-writable h w = all-places h.homes (open_for_writing h.openings) h.assigned w

record Refusal (homes : List (Option ℕ)) (writing : List ℕ) (places : List Place) : Type 0 where
  place : Place
  there : HasPlace place places
  home : ℕ
  home_is : home_at homes (object_of place) ≡ Some home
  closed : IsIn home writing → ⊥

refusing : (homes : List (Option ℕ)) (writing : List ℕ) (places : List Place) → are_writable homes writing places ≡ false → Refusal homes writing places
unfolding are_writable
refusing homes writing [] e = absurd (true≢false e)
refusing homes writing (q ∷ qs) e =
    elim (cases_Bool (is_writable writing (home_at homes (object_of q)))) [
      | inl is ↦
          let r = refusing homes writing qs (sym (then_is (is_writable writing (home_at homes (object_of q))) (are_writable homes writing qs) false is) ∙ e) in
          record { place = r.place; there = inr r.there; home = r.home; home_is = r.home_is; closed = r.closed }
      | inr not_open ↦ here (home_at homes (object_of q)) refl not_open
    ]
  where
    here : (home : Option ℕ) → home_at homes (object_of q) ≡ home → is_writable writing home ≡ false → Refusal homes writing (q ∷ qs)
    here None is bad = absurd (true≢false bad)
    here (Some n) is bad = record { place = q; there = inl refl; home = n; home_is = is; closed = not_in n writing bad }

-- The decision by its two tests.

first-test : (w b : Bool) (x : StoredHeap) → (if not w then NotWritable else if b then NothingToDo else Saves x) ≡ NotWritable → w ≡ false
first-test false b x e = refl
first-test true true x e = absurd (cc)
first-test true false x e = absurd (cc)

second-test : (w b : Bool) (x : StoredHeap) → (if not w then NotWritable else if b then NothingToDo else Saves x) ≡ NothingToDo → b ≡ true
second-test false b x e = absurd (cc)
second-test true true x e = refl
second-test true false x e = absurd (cc)

third-test : (w b : Bool) (x : StoredHeap) → w ≡ true → (if not w then NotWritable else if b then NothingToDo else Saves x) ≢ NothingToDo
    → (if not w then NotWritable else if b then NothingToDo else Saves x) ≡ Saves x
third-test false b x w e = absurd (true≢false (sym w))
third-test true true x w e = absurd (e refl)
third-test true false x w e = refl

is_writing : Held → Bool
is_writing h = are_writable h.homes (open_for_writing h.openings) h.assigned

pub refused-is : (h : Held) → decision h ≡ NotWritable → IsRefused h
unfolding decision
refused-is h e =
    let r = refusing h.homes (open_for_writing h.openings) h.assigned
    (first-test (are_writable h.homes (open_for_writing h.openings) h.assigned) (is_empty h.assigned && is_empty h.created) (saved h) e) in
    record { place = r.place; there = r.there; home = r.home; home_is = r.home_is; closed = r.closed }

pub is-refused : (h : Held) → IsRefused h → decision h ≡ NotWritable
unfolding decision
is-refused h r =
    let writing = open_for_writing h.openings in
    elim (cases_Bool (are_writable h.homes writing h.assigned)) [
      | inl w ↦ absurd (r.closed (writable-in h.homes writing h.assigned r.place r.home w r.there r.home_is))
      | inr w ↦ ap (λ b. if not b then NotWritable else if is_empty h.assigned && is_empty h.created then NothingToDo else Saves (saved h)) w
    ]

both : {A B : Type 0} (xs : List A) (ys : List B) → (is_empty xs && is_empty ys) ≡ true → (xs ≡ []) × (ys ≡ [])
both [] [] e = (refl, refl)
both [] (y ∷ ys) e = absurd (true≢false (sym e))
both (x ∷ xs) ys e = absurd (true≢false (sym e))

pub nothing-is : (h : Held) → decision h ≡ NothingToDo → (h.assigned ≡ []) × (h.created ≡ [])
unfolding decision
nothing-is h e =
    both h.assigned h.created (second-test (are_writable h.homes (open_for_writing h.openings) h.assigned) (is_empty h.assigned && is_empty h.created) (saved h) e)

decide : List Place → List ℕ → Held → Decision
decide assigned created h = if not (are_writable h.homes (open_for_writing h.openings) assigned) then NotWritable else if is_empty assigned && is_empty created then NothingToDo else Saves (saved h)

pub is-nothing : (h : Held) → (h.assigned ≡ []) × (h.created ≡ []) → decision h ≡ NothingToDo
unfolding decision decide are_writable
is-nothing h e =
    let same : decide h.assigned h.created h ≡ decide [] [] h = ap (λ a. decide a h.created h) e.0 ∙ ap (λ c. decide [] c h) e.1 in
    same

pub saves-is : (h : Held) → IsWritable h → decision h ≢ NothingToDo → decision h ≡ Saves (saved h)
unfolding decision
saves-is h w some = third-test (are_writable h.homes (open_for_writing h.openings) h.assigned) (is_empty h.assigned && is_empty h.created) (saved h) (all-writable h w) some

-- Touching.

touch : Bool → ℕ → ℕ → Held → Held
touch first id weight h = record h { touched = if first then id ∷ h.touched else h.touched; counted = h.counted + ((if first then weight else 0) + 0) }

no_more : (h : Held) → record h { counted = h.counted + (0 + 0) } ≡ h
no_more h = let same : h.counted + (0 + 0) ≡ h.counted = omega arith in ap (λ n. record h { counted = n }) same

never_again : (homes : List (Option ℕ)) (id : ℕ) (touched : List ℕ) → is_first_touch homes id (id ∷ touched) ≡ false
unfolding is_first_touch
never_again homes id touched = ap (λ b. is_there (home_at homes id) && not b) (in-is_in id (id ∷ touched) (inl refl)) ∙ none (is_there (home_at homes id))
  where
    none : (b : Bool) → (b && false) ≡ false
    none true = refl
    none false = refl

pub touched-once : (h : Held) (id : ℕ) → touching (id ∷ []) (touching (id ∷ []) h) ≡ touching (id ∷ []) h
unfolding touched_after touched_weight touch
touched-once h id =
    elim (cases_Bool (is_first_touch h.homes id h.touched)) [
      | inl is ↦
          let first : touching (id ∷ []) h ≡ touch true id weight h = ap (λ b. touch b id weight h) is in
          ap (touching (id ∷ [])) first ∙ (again ∙ sym first)
      | inr was ↦ ap (touching (id ∷ [])) (ap (λ b. touch b id weight h) was ∙ no_more h)
    ]
  where
    weight : ℕ
    weight = weight_at h.weigh (object_at h.objects id)

    again : touching (id ∷ []) (touch true id weight h) ≡ touch true id weight h
    again = ap (λ b. touch b id weight (touch true id weight h)) (never_again h.homes id h.touched) ∙ no_more (touch true id weight h)
