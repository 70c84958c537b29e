-- Slots that are apart: those of a clause are its own and those of its parts, and a name that is declared takes one that no local in scope has.
use Rattle.std.proofs.Common.{◌≡◌, ◌≢◌, ℕ, zero, suc, ◌+◌, ◌-◌, ◌<◌, ◌≤◌, Bool, true, false, List, [], ◌∷◌, ◌++◌, refl, sym, ap, subst, arith, if◌then◌else◌}
use Rattle.std.specs.Prelude.{not}
use Rattle.std.specs.List.{AllByRecursion}
use Rattle.ps_heap.specs.ps_base.TyView.{TyView}
use Rattle.ps_soundness.specs.ps_program.declared.place.Place.TheVariants.{Plain}
use Rattle.ps_soundness.specs.ps_typing.Placing.{is_number}
use Rattle.ps_soundness.specs.ps_typing.WellTyped.{Local}
use Rattle.ps_soundness.specs.ps_meaning.Frames.{stands_on}
use Rattle.ps_heap.specs.Held.{row}
use Rattle.ps_soundness.proofs.Places.{IsSpare}
use Rattle.ps_soundness.proofs.Sequences.{all_left, all_right}
use Rattle.heap_fit.specs.Slots.{from, slot_on}
use Rattle.heap_fit.specs.Bodies.{AreApart}
use Rattle.fit_soundness.specs.Levels.{AreFreeOf, HasRoom}

abbrev pub Taken : Type 0
Taken = Bool → List ℕ

abbrev pub joint : Taken → Taken → Taken
joint first rest numbers = first numbers ++ rest numbers

-- the slots of one part, and of those after it

apart_left : (xs ys : List ℕ) → AreApart (xs ++ ys) → AreApart xs
apart_left [] ys h = tt
apart_left (x ∷ xs) ys h = (all_left (λ y. y ≢ x) xs ys h.0, apart_left xs ys h.1)

apart_right : (xs ys : List ℕ) → AreApart (xs ++ ys) → AreApart ys
apart_right [] ys h = h
apart_right (x ∷ xs) ys h = apart_right xs ys h.1

free_left : (locals : List Local) (first rest : Taken) → AreFreeOf locals (joint first rest) → AreFreeOf locals first
free_left [] first rest h = tt
free_left (local ∷ locals) first rest h =
    (all_left (λ y. y ≢ local.slot) (first (is_number local.ty)) (rest (is_number local.ty)) h.0, free_left locals first rest h.1)

free_right : (locals : List Local) (first rest : Taken) → AreFreeOf locals (joint first rest) → AreFreeOf locals rest
free_right [] first rest h = tt
free_right (local ∷ locals) first rest h =
    (all_right (λ y. y ≢ local.slot) (first (is_number local.ty)) (rest (is_number local.ty)) h.0, free_right locals first rest h.1)

pub room_left : {locals : List Local} (first rest : Taken) → HasRoom locals (joint first rest) → HasRoom locals first
room_left {locals = locals} first rest h =
    record { apart = λ numbers. apart_left (first numbers) (rest numbers) (h.apart numbers); free = free_left locals first rest h.free }

pub room_right : {locals : List Local} (first rest : Taken) → HasRoom locals (joint first rest) → HasRoom locals rest
room_right {locals = locals} first rest h =
    record { apart = λ numbers. apart_right (first numbers) (rest numbers) (h.apart numbers); free = free_right locals first rest h.free }

free_as : (locals : List Local) (taken other : Taken) → ((numbers : Bool) → taken numbers ≡ other numbers) → AreFreeOf locals taken → AreFreeOf locals other
free_as [] taken other same h = tt
free_as (local ∷ locals) taken other same h =
    (subst (AllByRecursion (λ y. y ≢ local.slot)) (same (is_number local.ty)) h.0, free_as locals taken other same h.1)

pub room_as : {locals : List Local} (taken other : Taken) → ((numbers : Bool) → taken numbers ≡ other numbers) → HasRoom locals taken → HasRoom locals other
room_as {locals = locals} taken other same h =
    record { apart = λ numbers. subst AreApart (same numbers) (h.apart numbers); free = free_as locals taken other same h.free }

-- without the slots of a part between two others
all_skip : (P : ℕ → Type 0) (xs ys zs : List ℕ) → AllByRecursion P (xs ++ (ys ++ zs)) → AllByRecursion P (xs ++ zs)
all_skip P [] ys zs h = all_right P ys zs h
all_skip P (x ∷ xs) ys zs h = (h.0, all_skip P xs ys zs h.1)

apart_skip : (xs ys zs : List ℕ) → AreApart (xs ++ (ys ++ zs)) → AreApart (xs ++ zs)
apart_skip [] ys zs h = apart_right ys zs h
apart_skip (x ∷ xs) ys zs h = (all_skip (λ y. y ≢ x) xs ys zs h.0, apart_skip xs ys zs h.1)

free_skip : (locals : List Local) (first between rest : Taken) → AreFreeOf locals (joint first (joint between rest)) → AreFreeOf locals (joint first rest)
free_skip [] first between rest h = tt
free_skip (local ∷ locals) first between rest h = (
  all_skip (λ y. y ≢ local.slot) (first (is_number local.ty)) (between (is_number local.ty)) (rest (is_number local.ty)) h.0,
  free_skip locals first between rest h.1,
)

pub room_skip : {locals : List Local} (first between rest : Taken) → HasRoom locals (joint first (joint between rest)) → HasRoom locals (joint first rest)
room_skip {locals = locals} first between rest h =
    record { apart = λ numbers. apart_skip (first numbers) (between numbers) (rest numbers) (h.apart numbers); free = free_skip locals first between rest h.free }

-- a slot that is taken here is that of no local
spare_by : (number : Bool) (slot : ℕ) (taken : Taken) (locals : List Local) → ((P : ℕ → Type 0) → AllByRecursion P (taken number) → P slot) → AreFreeOf locals taken →
    IsSpare number slot locals
spare_by number slot taken [] has h = tt
spare_by number slot taken (local ∷ locals) has h = (
  λ same e. has (λ y. y ≢ local.slot) (subst (λ b. AllByRecursion (λ y. y ≢ local.slot) (taken b)) (sym same) h.0) e,
  spare_by number slot taken locals has h.1,
)

-- a name in a slot takes it on its stack
here_by : (ty : TyView) (b : Bool) → is_number ty ≡ b → stands_on b ty ≡ true
here_by ty true e = e
here_by ty false e = ap not e

pub slot_here : (ty : TyView) (slot : ℕ) → slot_on (is_number ty) ty (Plain slot) ≡ slot ∷ []
slot_here ty slot = ap (λ b. if b then slot ∷ [] else []) (here_by ty (is_number ty) refl)

pub named_spare : {locals : List Local} (ty : TyView) (slot : ℕ) (rest : Taken) → HasRoom locals (joint (λ numbers. slot_on numbers ty (Plain slot)) rest) →
    IsSpare (is_number ty) slot locals
named_spare {locals = locals} ty slot rest h =
    spare_by (is_number ty) slot (λ numbers. slot_on numbers ty (Plain slot)) locals
    (λ P all. (subst (AllByRecursion P) (slot_here ty slot) all).0)
    (free_left locals (λ numbers. slot_on numbers ty (Plain slot)) rest h.free)

-- and after it what follows is apart from it too
pub room_named : {locals : List Local} (ty : TyView) (slot : ℕ) (rest : Taken) → HasRoom locals (joint (λ numbers. slot_on numbers ty (Plain slot)) rest) →
    HasRoom (record { slot = slot; ty = ty } ∷ locals) rest
room_named {locals = locals} ty slot rest h =
    let own : Taken = λ numbers. slot_on numbers ty (Plain slot) in
    let after = room_right own rest h in
    let apart = subst (λ xs. AreApart (xs ++ rest (is_number ty))) (slot_here ty slot) (h.apart (is_number ty)) in
    record { apart = after.apart; free = (apart.0, after.free) }

-- three slots from one on, where a loop or a scan takes them
pub three_has : (first at : ℕ) → first ≤ at → at < first + 3 → (P : ℕ → Type 0) → AllByRecursion P (from first 3) → P at
unfolding row
three_has first at low high P h = go (at - first) (omega (arith, low))
  where
    go : (n : ℕ) → at ≡ first + n → P at
    go zero e = subst P (omega (arith, e)) h.0
    go (suc zero) e = subst P (omega (arith, e)) h.1.0
    go (suc (suc zero)) e = subst P (omega (arith, e)) h.1.1.0
    go (suc (suc (suc n))) e = absurd (omega (arith, e, high))

-- so a value in one of them leaves the locals in scope
pub three_spare : (locals : List Local) (number : Bool) (taken : Taken) (first at : ℕ) → first ≤ at → at < first + 3 → taken number ≡ from first 3 →
    AreFreeOf locals taken → IsSpare number at locals
three_spare locals number taken first at low high is h =
    spare_by number at taken locals (λ P all. three_has first at low high P (subst (AllByRecursion P) is all)) h
