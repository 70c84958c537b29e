-- Heaps that differ in flags, the list of the reached and homes alone.
use Rattle.std.proofs.Common.{Bool, true, false, inl, inr, ◌⊎◌, ◌≡◌, ◌≢◌, ℕ, ◌+◌, ◌<◌, ◌≤◌, List, [], ◌∷◌, ◌++◌, length, refl, sym, ap, ◌∙◌, subst, arith, Option, Some, get_or, ◌==◌, if◌then◌else◌}
use Rattle.std.specs.Prelude.{slice_index}
use Rattle.std.proofs.lemmas.Bool.{cases_Bool, cases_eq, true≢false}
use Rattle.swizzle.specs.obj_layout.declared.reference.Reference.TheVariants.{Nil, Pid, Local}
use Rattle.swizzle.specs.obj_layout.declared.reference.Reference.{Reference}
use Rattle.swizzle.specs.Joint.{name_at, name_of}
use Rattle.swizzle.specs.Objects.{Object}
use Rattle.swizzle.specs.Heap.{Heap, IsHeap, IsHeld, IsListed, object_at, header_at, ref_at, num_at, with_object, with_reach, is_assigned, is_reached, reach_flagged, marked_in}
use Rattle.swizzle.proofs.HeapLaws.{held-replaced, size-replaced, room-objects}
use Rattle.swizzle.proofs.KeptLaws.{held_is}
use Rattle.swizzle.proofs.JointLaws.{object-replaced, object-replaced_other, held-back}
use Rattle.swizzle.proofs.NotedLaws.{bit-le}
use Rattle.reaching.specs.Reaching.{IsIn, is_in, Reached, at_start, by_step}
use Rattle.reaching.proofs.Lists.{then_is, else_is, is_in-in, in-is_in}
use Rattle.commit_walk.specs.Walk.{bare, Steady, Lists, Names, Goes, May, IsAt, StartsAt, Starts, Finds, GoesFrom, IsWalked, IsClosed, Grows, and_once, is_walked, has_home}
use Rattle.commit_walk.proofs.GrowLaws.{grows-none, grows-one, grows-as, grows-then}

pub steady-none : (heap : Heap) → Steady heap heap
steady-none heap = record { size = refl; assigned = refl; top = refl; headers = λ y. refl; refs = λ y slot. refl; nums = λ y i le. refl; held = λ y h. h; back = λ y h. h }

pub steady-then : (a b c : Heap) → Steady a b → Steady b c → Steady a c
steady-then a b c f g = record {
  size = g.size ∙ f.size;
  assigned = g.assigned ∙ f.assigned;
  top = g.top ∙ f.top;
  headers = λ y. g.headers y ∙ f.headers y;
  refs = λ y slot. g.refs y slot ∙ f.refs y slot;
  nums = λ y i le. g.nums y i le ∙ f.nums y i le;
  held = λ y h. g.held y (f.held y h);
  back = λ y h. f.back y (g.back y h);
}

-- Objects, headers but for flags, and references are the same.
pub record Alike (old new : Heap) : Type 0 where
  pub headers : (y : ℕ) → bare (header_at new y) ≡ bare (header_at old y)
  pub refs : (y slot : ℕ) → ref_at new y slot ≡ ref_at old y slot
  pub held : (y : ℕ) → IsHeld old y → IsHeld new y
  pub back : (y : ℕ) → IsHeld new y → IsHeld old y

pub alike : (old new : Heap) → Steady old new → Alike old new
alike old new o = record { headers = o.headers; refs = o.refs; held = o.held; back = o.back }

pub alike-back : (old new : Heap) → Alike old new → Alike new old
alike-back old new a = record { headers = λ y. sym (a.headers y); refs = λ y slot. sym (a.refs y slot); held = a.back; back = a.held }

-- names are the same
pub name_at-alike : (old new : Heap) → Alike old new → (y : ℕ) → name_at new y ≡ name_at old y
name_at-alike old new a y = ap (λ p. if p == 0 then Local y else Pid p) (ap (λ h. h.pid) (a.headers y))

pub name_of-alike : (old new : Heap) → Alike old new → (r : Reference) → name_of new r ≡ name_of old r
name_of-alike old new a Nil = refl
name_of-alike old new a (Pid pid) = refl
name_of-alike old new a (Local y) = name_at-alike old new a y

pub names-alike : (old new : Heap) → Alike old new → (x slot y : ℕ) → Names old x slot y → Names new x slot y
names-alike old new a x slot y n =
    record { held = a.held y n.held; is = ap (name_of new) (a.refs x slot) ∙ (name_of-alike old new a (ref_at old x slot) ∙ (n.is ∙ sym (name_at-alike old new a y))) }

pub goes-alike : (old new : Heap) → Alike old new → (x y : ℕ) → Goes old x y → Goes new x y
goes-alike old new a x y g =
    let count = ap (λ h. h.refs) (a.headers x) in
    record { slot = g.slot; below = omega (arith, g.below, count); names = names-alike old new a x g.slot y g.names }

pub may-alike : (old new : Heap) → Alike old new → (y : ℕ) → May old y → May new y
unfolding is_walked
may-alike old new a y m = ap is_walked (a.headers y) ∙ m

pub home-alike : (old new : Heap) → Alike old new → (y : ℕ) → has_home (header_at new y) ≡ has_home (header_at old y)
unfolding has_home
home-alike old new a y = ap has_home (a.headers y)

pub pid-alike : (old new : Heap) → Alike old new → (y : ℕ) → (header_at new y).pid ≡ (header_at old y).pid
pid-alike old new a y = ap (λ h. h.pid) (a.headers y)

-- the objects that are stored have their homes still
abbrev pub HomesStay : Heap → Heap → Type 0
HomesStay old new = (x : ℕ) → 1 ≤ (header_at old x).pid → has_home (header_at old x) ≡ true → num_at new x 0 ≡ num_at old x 0

pub homes-back : (old new : Heap) → Alike old new → HomesStay old new → HomesStay new old
homes-back old new a stay x le home = let pid = pid-alike old new a x in sym (stay x (omega (arith, pid, le)) (sym (home-alike old new a x) ∙ home))

pub at-alike : (old new : Heap) → Alike old new → HomesStay old new → (number x : ℕ) → IsAt old number x → IsAt new number x
at-alike old new a homes number x at =
    let pid = pid-alike old new a x in
    record { stored = omega (arith, pid, at.stored); kind = home-alike old new a x ∙ at.kind; home = homes x at.stored at.kind ∙ at.home }

pub starts-alike : (old new : Heap) → Alike old new → HomesStay old new → (number : ℕ) (list : List ℕ) (count y : ℕ) → StartsAt old number list count y → StartsAt new number list count y
starts-alike old new a homes number list count y s =
    let x = get_or list s.place 0 in
    record { place = s.place; below = s.below; at = at-alike old new a homes number x s.at; goes = goes-alike old new a x y s.goes }

-- a larger set is reached from more, along more
pub reached-map : (G K : ℕ → ℕ → Type 0) (M N S T : ℕ → Type 0) → ((x y : ℕ) → G x y → K x y) → ((y : ℕ) → M y → N y) → ((y : ℕ) → S y → T y) → (y : ℕ) → Reached G M S y → Reached K N T y
reached-map G K M N S T g m s y (at_start x is allowed) = at_start y (s y is) (m y allowed)
reached-map G K M N S T g m s y (by_step x z before is allowed) = by_step x y (reached-map G K M N S T g m s x before) (g x y is) (m y allowed)

pub finds-alike : (old new : Heap) → Alike old new → new.assigned ≡ old.assigned → HomesStay old new → (number : ℕ) (root : Option ℕ) (y : ℕ) → Finds old number root y → Finds new number root y
finds-alike old new a list homes number root y f =
    reached-map (Goes old) (Goes new) (May old) (May new) (Starts old number root) (Starts new number root) (goes-alike old new a) (may-alike old new a)
    (λ z s. elim s [
      | inl e ↦ inl e
      | inr t ↦ inr (subst (λ l. StartsAt new number l (length l) z) (sym list) (starts-alike old new a homes number old.assigned (length old.assigned) z t))
    ])
    y f

pub closed-alike : (old new : Heap) (list : List ℕ) → Alike old new → IsClosed old list → IsClosed new list
closed-alike old new list a closed x y l goes may = closed x y l (goes-alike new old (alike-back old new a) x y goes) (may-alike new old (alike-back old new a) y may)

pub walked-alike : (old new : Heap) (before : List ℕ) (from : ℕ) (after : List ℕ) → Alike old new → IsWalked old before from after → IsWalked new before from after
walked-alike old new before from after a w =
    let back = alike-back old new a in
    record {
      more = w.more;
      is = w.is;
      only = λ y l. reached-map (Goes old) (Goes new) (May old) (May new) (GoesFrom old before from) (GoesFrom new before from) (goes-alike old new a) (may-alike old new a)
          (λ z b. record { place = b.place; low = b.low; high = b.high; goes = goes-alike old new a (get_or before b.place 0) z b.goes }) y (w.only y l);
      fresh = w.fresh;
      done = λ place y low high goes may. w.done place y low high (goes-alike new old back (get_or after place 0) y goes) (may-alike new old back y may);
    }

-- Steps of a walk, one after the other.

pub lists-as : (old new : Heap) (P Q : ℕ → Type 0) → Lists old new P → ((y : ℕ) → P y → Q y) → ((y : ℕ) → Q y → P y) → Lists old new Q
lists-as old new P Q l forth back = record { steady = l.steady; homes = l.homes; grows = grows-as old.reached new.reached P Q l.grows forth back }

pub lists-none : (heap : Heap) (P : ℕ → Type 0) → ((y : ℕ) → P y → ⊥) → Lists heap heap P
lists-none heap P none = record { steady = steady-none heap; homes = λ y. refl; grows = grows-none heap.reached P none }

pub lists-then : (a b c : Heap) (P Q : ℕ → Type 0) → Lists a b P → Lists b c Q → Lists a c (λ y. P y ⊎ Q y)
lists-then a b c P Q l m = record {
  steady = steady-then a b c l.steady m.steady;
  homes = λ y. m.homes y ∙ l.homes y;
  grows = grows-then a.reached b.reached c.reached P Q l.grows m.grows;
}

pub homes-stay : (old new : Heap) → ((y : ℕ) → num_at new y 0 ≡ num_at old y 0) → HomesStay old new
homes-stay old new homes x le home = homes x

-- An object is noted.

listed-in : (x : ℕ) (xs : List ℕ) → IsListed x xs → IsIn x xs
listed-in x [] l = l
listed-in x (y ∷ ys) (inl e) = inl e
listed-in x (y ∷ ys) (inr l) = inr (listed-in x ys l)

pub in-listed : (x : ℕ) (xs : List ℕ) → IsIn x xs → IsListed x xs
in-listed x [] l = l
in-listed x (y ∷ ys) (inl e) = inl e
in-listed x (y ∷ ys) (inr l) = inr (in-listed x ys l)

-- the objects that are listed lie in the area
pub listed-held : (heap : Heap) (x : ℕ) → IsHeap heap → IsIn x heap.reached → IsHeld heap x
listed-held heap x h l = let m = h.walked.marked x (in-listed x heap.reached l) in record { object = m.object; is = m.is }

marked-le : (has : Object → Bool) (os : List Object) → marked_in has os ≤ length os
marked-le has [] = omega arith
marked-le has (o ∷ os) = omega (arith, bit-le (has o), marked-le has os)

pub few-reached : (heap : Heap) → IsHeap heap → length heap.reached < heap.size
few-reached heap h = omega (arith, h.walked.counted, marked-le is_reached heap.objects, room-objects heap.objects h.fit, h.within)

pub few-assigned : (heap : Heap) → IsHeap heap → length heap.assigned < heap.size
few-assigned heap h = omega (arith, h.noted.counted, marked-le is_assigned heap.objects, room-objects heap.objects h.fit, h.within)

walked_on : Heap → ℕ → Heap
walked_on heap x = record (with_object heap x (reach_flagged (object_at heap x))) { reached = heap.reached ++ x ∷ [] }

flagged-nums : (heap : Heap) (x y i : ℕ) → IsHeld heap x → num_at (walked_on heap x) y i ≡ num_at heap y i
unfolding walked_on
flagged-nums heap x y i held =
    let new = reach_flagged (object_at heap x) in
    elim (cases_eq y x) [
      | inl e ↦ ap (λ z. num_at (with_object heap x new) z i) e ∙ (ap (λ p. slice_index p.nums i) (object-replaced heap x new held) ∙ ap (λ z. num_at heap z i) (sym e))
      | inr ne ↦ ap (λ p. slice_index p.nums i) (object-replaced_other heap x y new held refl ne)
    ]

flagged-steady : (heap : Heap) (x : ℕ) → IsHeld heap x → Steady heap (walked_on heap x)
unfolding walked_on
flagged-steady heap x held =
    let o = object_at heap x in
    let new = reach_flagged o in
    let is = held_is heap x held in
    let here = object-replaced heap x new held in
    let away : (y : ℕ) → y ≢ x → object_at (with_object heap x new) y ≡ object_at heap y = λ y ne. object-replaced_other heap x y new held refl ne in
    record {
      size = refl;
      assigned = refl;
      top = ap (λ n. 1 + n) (size-replaced 1 heap.objects x o new is refl);
      headers = λ y. elim (cases_eq y x) [
        | inl e ↦ ap (λ z. bare (header_at (with_object heap x new) z)) e ∙ (ap (λ p. bare p.header) here ∙ ap (λ z. bare (header_at heap z)) (sym e))
        | inr ne ↦ ap (λ p. bare p.header) (away y ne)
      ];
      refs = λ y slot. elim (cases_eq y x) [
        | inl e ↦ ap (λ z. ref_at (with_object heap x new) z slot) e ∙ (ap (λ p. get_or p.refs slot Nil) here ∙ ap (λ z. ref_at heap z slot) (sym e))
        | inr ne ↦ ap (λ p. get_or p.refs slot Nil) (away y ne)
      ];
      nums = λ y i le. flagged-nums heap x y i held;
      held = λ y h. let now = held-replaced heap x o new y is refl h in record { object = now.object; is = now.is };
      back = λ y h. held-back heap x y new held refl (record { object = h.object; is = h.is });
    }

some_same : (a b : Object) → Some a ≡ Some b → a ≡ b
some_same a b e = cc

isnt_in : (x : ℕ) (xs : List ℕ) → (IsIn x xs → ⊥) → is_in x xs ≡ false
isnt_in x xs away = elim (cases_Bool (is_in x xs)) [ inl e ↦ absurd (away (is_in-in x xs e)) | inr e ↦ e ]

-- the object was noted before
reach-before : (heap : Heap) (x : ℕ) → IsHeap heap → IsHeld heap x → is_reached (object_at heap x) ≡ true → Lists heap heap (λ y. x ≡ y)
unfolding and_once
reach-before heap x h held is =
    let there = h.walked.listed x (record { object = object_at heap x; is = held_is heap x held; flag = is }) in
    let once : and_once heap.reached x ≡ heap.reached = then_is (is_in x heap.reached) heap.reached (heap.reached ++ x ∷ []) (in-is_in x heap.reached (listed-in x heap.reached there)) in
    record {
      steady = steady-none heap;
      homes = λ y. refl;
      grows = grows-as heap.reached heap.reached (λ y. y ≡ x) (λ y. x ≡ y) (subst (λ l. Grows heap.reached l (λ y. y ≡ x)) once (grows-one heap.reached x)) (λ y e. sym e) (λ y e. sym e);
    }

-- or it wasn't
reach-first : (heap : Heap) (x : ℕ) → IsHeap heap → IsHeld heap x → is_reached (object_at heap x) ≡ false → Lists heap (walked_on heap x) (λ y. x ≡ y)
unfolding and_once walked_on
reach-first heap x h held not_yet =
    let away : IsIn x heap.reached → ⊥ = λ l.
    let m = h.walked.marked x (in-listed x heap.reached l) in
    let same : Some (object_at heap x) ≡ Some m.object = sym (held_is heap x held) ∙ m.is in
    true≢false (sym m.flag ∙ (ap is_reached (sym (some_same (object_at heap x) m.object same)) ∙ not_yet)) in
    let once : and_once heap.reached x ≡ heap.reached ++ x ∷ [] = else_is (is_in x heap.reached) heap.reached (heap.reached ++ x ∷ []) (isnt_in x heap.reached away) in
    record {
      steady = flagged-steady heap x held;
      homes = λ y. flagged-nums heap x y 0 held;
      grows = grows-as heap.reached (heap.reached ++ x ∷ []) (λ y. y ≡ x) (λ y. x ≡ y) (subst (λ l. Grows heap.reached l (λ y. y ≡ x)) once (grows-one heap.reached x)) (λ y e. sym e) (λ y e. sym e);
    }

pub reach-lists : (old new : Heap) (x : ℕ) → IsHeap old → IsHeld old x → new ≡ with_reach old x → Lists old new (λ y. x ≡ y)
unfolding walked_on
reach-lists old new x h held e =
    elim (cases_Bool (is_reached (object_at old x))) [
      | inl is ↦ subst (λ n. Lists old n (λ y. x ≡ y)) (sym (e ∙ then_is (is_reached (object_at old x)) old (walked_on old x) is)) (reach-before old x h held is)
      | inr not_yet ↦ subst (λ n. Lists old n (λ y. x ≡ y)) (sym (e ∙ else_is (is_reached (object_at old x)) old (walked_on old x) not_yet)) (reach-first old x h held not_yet)
    ]
