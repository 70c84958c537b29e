-- The walks of the databases together reach what is newly reached.
use Rattle.std.proofs.Common.{true, false, inl, inr, ◌≡◌, ℕ, List, [], ◌∷◌, refl, sym, ap, ◌∙◌, subst, Option, Some, None, if◌then◌else◌}
use Rattle.std.proofs.lemmas.Bool.{cases_Bool, true≢false, eq-eqb}
use Rattle.reaching.specs.Reaching.{IsIn, is_in, at_start, by_step, ReachedIn, reach, first_source}
use Rattle.reaching.proofs.Lists.{then_is, else_is, is_in-in, in-is_in, in-append, in-front, in-behind}
use Rattle.reaching.proofs.WalkLaws.{least-in, in-least}
use Rattle.ps_heap.specs.Objects.{Heap}
use Rattle.ps_heap.specs.References.{next_in}
use Rattle.ps_heap.specs.Databases.{Directory, database_at, root_of, open_for_writing}
use Rattle.ps_heap.specs.Held.{Held, Place, object_of, home_at}
use Rattle.ps_heap.specs.Commit.{loose, roots_of, after_places, starts, IsNewlyReached, is_home, at_home, source_of, sources, is_writable, are_writable}
use Rattle.database_meaning.specs.Sound.{HasPlace, IsSound}

abbrev ReachedOf : Held → ℕ → ℕ → Type 0
ReachedOf h n id = ReachedIn (next_in h.objects) (loose h) (source_of h n).starts id

-- Lists of starts.

in-roots : (directory : Directory) (ns : List ℕ) (x : ℕ) → IsIn x (roots_of directory ns) → (n : ℕ) × IsIn n ns × IsIn x (root_of (database_at directory n))
unfolding roots_of
in-roots directory [] x l = absurd l
in-roots directory (n ∷ ns) x l =
    elim (in-append x (root_of (database_at directory n)) (roots_of directory ns) l) [
      | inl k ↦ (n, inl refl, k)
      | inr k ↦ let rest = in-roots directory ns x k in (rest.0, inr rest.1, rest.2)
    ]

pub roots-in : (directory : Directory) (ns : List ℕ) (n x : ℕ) → IsIn n ns → IsIn x (root_of (database_at directory n)) → IsIn x (roots_of directory ns)
unfolding roots_of
roots-in directory [] n x m l = absurd m
roots-in directory (m ∷ ns) n x (inl e) l = in-front x (root_of (database_at directory m)) (roots_of directory ns) (subst (λ k. IsIn x (root_of (database_at directory k))) e l)
roots-in directory (m ∷ ns) n x (inr k) l = in-behind x (root_of (database_at directory m)) (roots_of directory ns) (roots-in directory ns n x k l)

pub in_after_places : (heap : Heap) (places : List Place) (x : ℕ) → IsIn x (after_places heap places) → (place : Place) × HasPlace place places × IsIn x (next_in heap (object_of place))
unfolding after_places
in_after_places heap [] x l = absurd l
in_after_places heap (q ∷ qs) x l =
    elim (in-append x (next_in heap (object_of q)) (after_places heap qs) l) [
      | inl k ↦ (q, inl refl, k)
      | inr k ↦ let rest = in_after_places heap qs x k in (rest.0, inr rest.1, rest.2)
    ]

pub after_places-in : (heap : Heap) (places : List Place) (place : Place) (x : ℕ) → HasPlace place places → IsIn x (next_in heap (object_of place)) → IsIn x (after_places heap places)
unfolding after_places
after_places-in heap [] place x h l = absurd h
after_places-in heap (q ∷ qs) place x (inl e) l = in-front x (next_in heap (object_of q)) (after_places heap qs) (subst (λ r. IsIn x (next_in heap (object_of r))) e l)
after_places-in heap (q ∷ qs) place x (inr h) l = in-behind x (next_in heap (object_of q)) (after_places heap qs) (after_places-in heap qs place x h l)

at_home-has : (homes : List (Option ℕ)) (n : ℕ) (places : List Place) (place : Place) → HasPlace place places → home_at homes (object_of place) ≡ Some n → HasPlace place (at_home homes n places)
unfolding at_home
at_home-has homes n [] place h e = absurd h
at_home-has homes n (q ∷ qs) place (inl same) e =
    let is : is_home n (home_at homes (object_of q)) ≡ true = ap (λ r. is_home n (home_at homes (object_of r))) (sym same) ∙ (ap (is_home n) e ∙ eq-eqb n n refl) in
    subst (HasPlace place) (sym (then_is (is_home n (home_at homes (object_of q))) (q ∷ at_home homes n qs) (at_home homes n qs) is)) (inl same)
at_home-has homes n (q ∷ qs) place (inr h) e =
    elim (cases_Bool (is_home n (home_at homes (object_of q)))) [
      | inl is ↦ subst (HasPlace place) (sym (then_is (is_home n (home_at homes (object_of q))) (q ∷ at_home homes n qs) (at_home homes n qs) is)) (inr (at_home-has homes n qs place h e))
      | inr not ↦ subst (HasPlace place) (sym (else_is (is_home n (home_at homes (object_of q))) (q ∷ at_home homes n qs) (at_home homes n qs) not)) (at_home-has homes n qs place h e)
    ]

pub has-at_home : (homes : List (Option ℕ)) (n : ℕ) (places : List Place) (place : Place) → HasPlace place (at_home homes n places) → HasPlace place places
unfolding at_home
has-at_home homes n [] place h = h
has-at_home homes n (q ∷ qs) place h =
    elim (cases_Bool (is_home n (home_at homes (object_of q)))) [
      | inl is ↦ elim (subst (HasPlace place) (then_is (is_home n (home_at homes (object_of q))) (q ∷ at_home homes n qs) (at_home homes n qs) is) h) [ inl e ↦ inl e | inr k ↦ inr (has-at_home homes n qs place k) ]
      | inr not ↦ inr (has-at_home homes n qs place (subst (HasPlace place) (else_is (is_home n (home_at homes (object_of q))) (q ∷ at_home homes n qs) (at_home homes n qs) not) h))
    ]

pub writable-in : (homes : List (Option ℕ)) (writing : List ℕ) (places : List Place) (place : Place) (n : ℕ) → are_writable homes writing places ≡ true → HasPlace place places → home_at homes (object_of place) ≡ Some n → IsIn n writing
unfolding are_writable
writable-in homes writing [] place n w h e = absurd h
writable-in homes writing (q ∷ qs) place n w h e =
    elim (cases_Bool (is_writable writing (home_at homes (object_of q)))) [
      | inl is ↦
          elim h [
            | inl same ↦ is_in-in n writing (sym (ap (λ r. is_writable writing (home_at homes (object_of r))) (sym same) ∙ ap (is_writable writing) e) ∙ is)
            | inr k ↦ writable-in homes writing qs place n (sym (then_is (is_writable writing (home_at homes (object_of q))) (are_writable homes writing qs) false is) ∙ w) k e
          ]
      | inr not ↦ absurd (true≢false (sym w ∙ else_is (is_writable writing (home_at homes (object_of q))) (are_writable homes writing qs) false not))
    ]

-- The starts of one database.

root-starts : (h : Held) (n x : ℕ) → IsIn n h.created → IsIn x (root_of (database_at h.directory n)) → IsIn x (source_of h n).starts
unfolding source_of
root-starts h n x c l =
    let roots = root_of (database_at h.directory n) in
    in-front x (if is_in n h.created then roots else []) (after_places h.objects (at_home h.homes n h.assigned)) (subst (IsIn x) (sym (then_is (is_in n h.created) roots [] (in-is_in n h.created c))) l)

place-starts : (h : Held) (n x : ℕ) (place : Place) → HasPlace place h.assigned → home_at h.homes (object_of place) ≡ Some n → IsIn x (next_in h.objects (object_of place)) → IsIn x (source_of h n).starts
unfolding source_of
place-starts h n x place there e l =
    in-behind x (if is_in n h.created then root_of (database_at h.directory n) else []) (after_places h.objects (at_home h.homes n h.assigned))
    (after_places-in h.objects (at_home h.homes n h.assigned) place x (at_home-has h.homes n h.assigned place there e) l)

starts-all : (h : Held) (n x : ℕ) → IsIn x (source_of h n).starts → IsIn x (starts h)
unfolding source_of starts
starts-all h n x l =
    let roots = root_of (database_at h.directory n) in
    elim (in-append x (if is_in n h.created then roots else []) (after_places h.objects (at_home h.homes n h.assigned)) l) [
      | inl k ↦
          elim (cases_Bool (is_in n h.created)) [
            | inl c ↦ in-front x (roots_of h.directory h.created) (after_places h.objects h.assigned) (roots-in h.directory h.created n x (is_in-in n h.created c) (subst (IsIn x) (then_is (is_in n h.created) roots [] c) k))
            | inr c ↦ absurd (subst (IsIn x) (else_is (is_in n h.created) roots [] c) k)
          ]
      | inr k ↦
          let f = in_after_places h.objects (at_home h.homes n h.assigned) x k in
          in-behind x (roots_of h.directory h.created) (after_places h.objects h.assigned) (after_places-in h.objects h.assigned f.0 x (has-at_home h.homes n h.assigned f.0 f.1) f.2)
    ]

-- Reached by one of them, and by all.

by_one : (h : Held) (id : ℕ) → IsSound h → are_writable h.homes (open_for_writing h.openings) h.assigned ≡ true → IsNewlyReached h id → (n : ℕ) × IsIn n (open_for_writing h.openings) × ReachedOf h n id
unfolding starts
by_one h id sound writable (at_start x is allowed) =
    elim (in-append id (roots_of h.directory h.created) (after_places h.objects h.assigned) is) [
      | inl k ↦ let f = in-roots h.directory h.created id k in (f.0, sound.open_too f.0 f.1, at_start id (root-starts h f.0 id f.1 f.2) allowed)
      | inr k ↦
          let f = in_after_places h.objects h.assigned id k in
          let home = sound.committed f.0 f.1 in
          (home.0, writable-in h.homes (open_for_writing h.openings) h.assigned f.0 home.0 writable f.1 home.1, at_start id (place-starts h home.0 id f.0 f.1 home.1 f.2) allowed)
    ]
by_one h id sound writable (by_step x y before is allowed) =
    let f = by_one h x sound writable before in
    (f.0, f.1, by_step x id f.2 is allowed)

of_all : (h : Held) (n id : ℕ) → ReachedOf h n id → IsNewlyReached h id
of_all h n id (at_start x is allowed) = at_start id (starts-all h n id is) allowed
of_all h n id (by_step x y before is allowed) = by_step x id (of_all h n x before) is allowed

some_first : (h : Held) (ns : List ℕ) (n id : ℕ) → IsIn n ns → ReachedOf h n id → (m : ℕ) × (first_source (next_in h.objects) (loose h) (sources h ns) id ≡ Some m)
unfolding first_source sources
some_first h [] n id l r = absurd l
some_first h (k ∷ ks) n id l r =
    let s = source_of h k in
    let found = reach (next_in h.objects) (loose h) s.starts in
    let rest = first_source (next_in h.objects) (loose h) (sources h ks) id in
    elim (cases_Bool (is_in id found)) [
      | inl here ↦ (s.number, then_is (is_in id found) (Some s.number) rest here)
      | inr away ↦
          elim l [
            | inl e ↦ absurd (true≢false (sym (in-is_in id found (in-least (next_in h.objects) (loose h) s.starts id (subst (λ m. ReachedOf h m id) e r))) ∙ away))
            | inr m ↦ let more = some_first h ks n id m r in (more.0, else_is (is_in id found) (Some s.number) rest away ∙ more.1)
          ]
    ]

first_some : (h : Held) (ns : List ℕ) (m id : ℕ) → first_source (next_in h.objects) (loose h) (sources h ns) id ≡ Some m → (n : ℕ) × ReachedOf h n id
unfolding first_source sources
first_some h [] m id e = let bad : None ≡ Some m = e in absurd (cc)
first_some h (k ∷ ks) m id e =
    let s = source_of h k in
    let found = reach (next_in h.objects) (loose h) s.starts in
    elim (cases_Bool (is_in id found)) [
      | inl here ↦ (k, least-in (next_in h.objects) (loose h) s.starts id (is_in-in id found here))
      | inr away ↦ first_some h ks m id (sym (else_is (is_in id found) (Some s.number) (first_source (next_in h.objects) (loose h) (sources h ks) id) away) ∙ e)
    ]

pub homed : (h : Held) (id : ℕ) → IsSound h → are_writable h.homes (open_for_writing h.openings) h.assigned ≡ true → IsNewlyReached h id
    → (n : ℕ) × (first_source (next_in h.objects) (loose h) (sources h (open_for_writing h.openings)) id ≡ Some n)
homed h id sound writable r = let f = by_one h id sound writable r in some_first h (open_for_writing h.openings) f.0 id f.1 f.2

pub homed-back : (h : Held) (id n : ℕ) → IsSound h → first_source (next_in h.objects) (loose h) (sources h (open_for_writing h.openings)) id ≡ Some n → IsNewlyReached h id
homed-back h id n sound e = let f = first_some h (open_for_writing h.openings) n id e in of_all h f.0 id f.1
