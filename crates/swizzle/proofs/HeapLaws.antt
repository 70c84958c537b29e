-- What a heap has after an object was replaced, or came at its end.
use Rattle.std.proofs.Common.{inl, inr, ◌⊎◌, ◌≡◌, ◌≢◌, ℕ, ◌+◌, ◌*◌, ◌≤◌, ◌==◌, List, [], ◌∷◌, ◌++◌, length, get_or, refl, sym, ap, ◌∙◌, arith, Option, Some, None, if◌then◌else◌}
use Rattle.std.proofs.lemmas.Bool.{cases_eq}
use Rattle.obj_layout.specs.declared.reference.Reference.TheVariants.{Nil}
use Rattle.swizzle.specs.Objects.{Object, size_of, IsFit, AreFit, size_of_all, find_from, replace_from}
use Rattle.swizzle.specs.Heap.{Heap, IsHeap, IsHeld, found, top_of, local_from, local_of, with_new, AreNoted, is_assigned, is_reached, IsInside, with_object}
use Rattle.swizzle.proofs.ObjectLaws.{here, elsewhere, split, fit_replaced, AreFit-append, size_of_all-append}

-- One object in the place of another.

pub find-replaced : (at : ℕ) (os : List Object) (i : ℕ) (o new : Object) → find_from at os i ≡ Some o → find_from at (replace_from at os i new) i ≡ Some new
find-replaced at [] i o new e = absurd (cc)
find-replaced at (p ∷ os) i o new e =
    elim (cases_eq i at) [
      | inl same ↦ ap (λ (r : List Object). find_from at r i) (here i at (new ∷ os) (p ∷ replace_from (at + size_of p) os i new) same) ∙ here i at (Some new) (find_from (at + size_of new) os i) same
      | inr apart ↦
          ap (λ (r : List Object). find_from at r i) (elsewhere i at (new ∷ os) (p ∷ replace_from (at + size_of p) os i new) apart)
          ∙ elsewhere i at (Some p) (find_from (at + size_of p) (replace_from (at + size_of p) os i new) i) apart
          ∙ find-replaced (at + size_of p) os i o new (sym (elsewhere i at (Some p) (find_from (at + size_of p) os i) apart) ∙ e)
    ]

-- one object begins at a place
pub same_object : (found : Option Object) (o p : Object) → found ≡ Some o → found ≡ Some p → o ≡ p
same_object found o p one two = let e : Some o ≡ Some p = sym one ∙ two in cc

-- the first object is the one that was looked for
pub first_is : (at : ℕ) (p : Object) (os : List Object) (i : ℕ) (o : Object) → find_from at (p ∷ os) i ≡ Some o → i ≡ at → p ≡ o
first_is at p os i o e same =
    let both : Some p ≡ Some o = sym (here i at (Some p) (find_from (at + size_of p) os i) same) ∙ e in
    cc

-- the one that was looked for is after the first
pub behind_is : (at : ℕ) (p : Object) (os : List Object) (i : ℕ) (o : Object) → find_from at (p ∷ os) i ≡ Some o → i ≢ at → find_from (at + size_of p) os i ≡ Some o
behind_is at p os i o e apart = sym (elsewhere i at (Some p) (find_from (at + size_of p) os i) apart) ∙ e

pub find-replaced_other : (at : ℕ) (os : List Object) (i j : ℕ) (o new : Object) → find_from at os i ≡ Some o → size_of new ≡ size_of o → j ≢ i → find_from at (replace_from at os i new) j ≡ find_from at os j
find-replaced_other at [] i j o new e long ne = refl
find-replaced_other at (p ∷ os) i j o new e long ne =
    elim (cases_eq i at) [
      | inl same ↦
          let apart : j ≢ at = λ (q : j ≡ at). ne (omega arith) in
          let size : size_of new ≡ size_of p = long ∙ ap size_of (sym (first_is at p os i o e same)) in
          ap (λ (r : List Object). find_from at r j) (here i at (new ∷ os) (p ∷ replace_from (at + size_of p) os i new) same)
          ∙ elsewhere j at (Some new) (find_from (at + size_of new) os j) apart
          ∙ ap (λ (n : ℕ). find_from (at + n) os j) size
          ∙ sym (elsewhere j at (Some p) (find_from (at + size_of p) os j) apart)
      | inr apart ↦
          ap (λ (r : List Object). find_from at r j) (elsewhere i at (new ∷ os) (p ∷ replace_from (at + size_of p) os i new) apart)
          ∙ ap (λ (r : Option Object). if j == at then Some p else r) (find-replaced_other (at + size_of p) os i j o new (behind_is at p os i o e apart) long ne)
    ]

pub local-replaced : (at : ℕ) (os : List Object) (i pid : ℕ) (o new : Object) → find_from at os i ≡ Some o → size_of new ≡ size_of o → new.header.pid ≡ o.header.pid → local_from at (replace_from at os i new) pid ≡ local_from at os pid
local-replaced at [] i pid o new e long same_pid = refl
local-replaced at (p ∷ os) i pid o new e long same_pid =
    elim (cases_eq i at) [
      | inl same ↦
          let is = first_is at p os i o e same in
          let size : size_of new ≡ size_of p = long ∙ ap size_of (sym is) in
          let pids : new.header.pid ≡ p.header.pid = same_pid ∙ ap (λ (x : Object). x.header.pid) (sym is) in
          ap (λ (r : List Object). local_from at r pid) (here i at (new ∷ os) (p ∷ replace_from (at + size_of p) os i new) same)
          ∙ ap (λ (n : ℕ). if pid == n then Some at else local_from (at + size_of new) os pid) pids
          ∙ ap (λ (n : ℕ). if pid == p.header.pid then Some at else local_from (at + n) os pid) size
      | inr apart ↦
          ap (λ (r : List Object). local_from at r pid) (elsewhere i at (new ∷ os) (p ∷ replace_from (at + size_of p) os i new) apart)
          ∙ ap (λ (r : Option ℕ). if pid == p.header.pid then Some at else r) (local-replaced (at + size_of p) os i pid o new (behind_is at p os i o e apart) long same_pid)
    ]

pub size-replaced : (at : ℕ) (os : List Object) (i : ℕ) (o new : Object) → find_from at os i ≡ Some o → size_of new ≡ size_of o → size_of_all (replace_from at os i new) ≡ size_of_all os
size-replaced at [] i o new e long = refl
size-replaced at (p ∷ os) i o new e long =
    elim (cases_eq i at) [
      | inl same ↦
          ap size_of_all (here i at (new ∷ os) (p ∷ replace_from (at + size_of p) os i new) same)
          ∙ ap (λ (n : ℕ). n + size_of_all os) (long ∙ ap size_of (sym (first_is at p os i o e same)))
      | inr apart ↦
          ap size_of_all (elsewhere i at (new ∷ os) (p ∷ replace_from (at + size_of p) os i new) apart)
          ∙ ap (λ (n : ℕ). size_of p + n) (size-replaced (at + size_of p) os i o new (behind_is at p os i o e apart) long)
    ]

pub held-replaced : (heap : Heap) (at : ℕ) (o new : Object) (j : ℕ) → found heap at ≡ Some o → size_of new ≡ size_of o → IsHeld heap j → IsHeld (with_object heap at new) j
held-replaced heap at o new j e long held =
    elim (cases_eq j at) [
      | inl there ↦ record { object = new; is = ap (found (with_object heap at new)) there ∙ find-replaced 1 heap.objects at o new e }
      | inr apart ↦ record { object = held.object; is = find-replaced_other 1 heap.objects at j o new e long apart ∙ held.is }
    ]

-- the heap stays one
pub IsHeap-replaced : (heap : Heap) (at : ℕ) (o new : Object) (assigned reached : List ℕ) → IsHeap heap → found heap at ≡ Some o → IsFit new → size_of new ≡ size_of o → new.header.pid ≡ o.header.pid → AreNoted is_assigned (replace_from 1 heap.objects at new) assigned → AreNoted is_reached (replace_from 1 heap.objects at new) reached → IsInside heap new → IsHeap (record { objects = replace_from 1 heap.objects at new; size = heap.size; assigned = assigned; reached = reached })
IsHeap-replaced heap at o new assigned reached h e fit long same_pid noted walked refs = record {
  inside = λ j p is slot to r.
      elim (cases_eq j at) [
        | inl there ↦
            let both : Some new ≡ Some p = sym (find-replaced 1 heap.objects at o new e) ∙ ap (λ (n : ℕ). found (with_object heap at new) n) (sym there) ∙ is in
            let it : new ≡ p = cc in
            let held = refs slot to (ap (λ (x : Object). get_or x.refs slot Nil) it ∙ r) in
            let now = held-replaced heap at o new to e long held in
            record { object = now.object; is = now.is }
        | inr apart ↦
            let held = h.inside j p (sym (find-replaced_other 1 heap.objects at j o new e long apart) ∙ is) slot to r in
            let now = held-replaced heap at o new to e long held in
            record { object = now.object; is = now.is }
      ];
  fit = fit_replaced 1 heap.objects at o new (split 1 heap.objects at o h.fit e) fit;
  within = omega (arith, h.within, size-replaced 1 heap.objects at o new e long);
  small = h.small;
  one = λ j p is some.
      let same = local-replaced 1 heap.objects at p.header.pid o new e long same_pid in
      elim (cases_eq j at) [
        | inl there ↦
            let both : Some new ≡ Some p = sym (find-replaced 1 heap.objects at o new e) ∙ ap (λ (n : ℕ). found (with_object heap at new) n) (sym there) ∙ is in
            let it : new ≡ p = cc in
            let pids : p.header.pid ≡ o.header.pid = ap (λ (x : Object). x.header.pid) (sym it) ∙ same_pid in
            same ∙ ap (λ (n : ℕ). local_of heap n) pids ∙ h.one at o e (omega arith) ∙ ap (λ (n : ℕ). Some n) (sym there)
        | inr apart ↦
            same ∙ h.one j p (sym (find-replaced_other 1 heap.objects at j o new e long apart) ∙ is) some
      ];
  noted = noted;
  walked = walked;
}

pub room-objects : (os : List Object) → AreFit os → 5 * length os ≤ size_of_all os
room-objects [] fit = omega arith
room-objects (o ∷ os) fit = omega (arith, fit.0.home, room-objects os fit.1)

-- One more object at the end.

pub find-append : (at : ℕ) (os : List Object) (new : Object) (i : ℕ) (o : Object) → find_from at os i ≡ Some o → find_from at (os ++ new ∷ []) i ≡ Some o
find-append at [] new i o e = absurd (cc)
find-append at (p ∷ os) new i o e =
    elim (cases_eq i at) [
      | inl same ↦ here i at (Some p) (find_from (at + size_of p) (os ++ new ∷ []) i) same ∙ ap (λ (x : Object). Some x) (first_is at p os i o e same)
      | inr apart ↦ elsewhere i at (Some p) (find_from (at + size_of p) (os ++ new ∷ []) i) apart ∙ find-append (at + size_of p) os new i o (behind_is at p os i o e apart)
    ]

pub find-new : (at : ℕ) (os : List Object) (new : Object) → find_from at (os ++ new ∷ []) (at + size_of_all os) ≡ Some new
find-new at [] new = here (at + 0) at (Some new) None (omega arith)
find-new at (p ∷ os) new =
    let place : at + size_of_all (p ∷ os) ≡ at + size_of p + size_of_all os = omega arith in
    elsewhere (at + size_of_all (p ∷ os)) at (Some p) (find_from (at + size_of p) (os ++ new ∷ []) (at + size_of_all (p ∷ os))) (λ (q : at + size_of_all (p ∷ os) ≡ at). omega arith)
    ∙ ap (find_from (at + size_of p) (os ++ new ∷ [])) place
    ∙ find-new (at + size_of p) os new

-- what is found was there, or is the new one
pub find-append_cases : (at : ℕ) (os : List Object) (new : Object) (i : ℕ) (o : Object) → find_from at (os ++ new ∷ []) i ≡ Some o → (find_from at os i ≡ Some o) ⊎ ((i ≡ at + size_of_all os) × (o ≡ new))
find-append_cases at [] new i o e =
    elim (cases_eq i at) [
      | inl same ↦ inr (omega arith, sym (first_is at new [] i o e same))
      | inr apart ↦ let none = behind_is at new [] i o e apart in absurd (cc)
    ]
find-append_cases at (p ∷ os) new i o e =
    elim (cases_eq i at) [
      | inl same ↦ inl (here i at (Some p) (find_from (at + size_of p) os i) same ∙ ap (λ (x : Object). Some x) (first_is at p (os ++ new ∷ []) i o e same))
      | inr apart ↦
          elim (find-append_cases (at + size_of p) os new i o (behind_is at p (os ++ new ∷ []) i o e apart)) [
            | inl was ↦ inl (elsewhere i at (Some p) (find_from (at + size_of p) os i) apart ∙ was)
            | inr it ↦ inr (omega (arith, it.0), it.1)
          ]
    ]

-- where an object with a PID lies among more
pub local-append : (at : ℕ) (os : List Object) (new : Object) (pid i : ℕ) → local_from at os pid ≡ Some i → local_from at (os ++ new ∷ []) pid ≡ Some i
local-append at [] new pid i e = absurd (cc)
local-append at (p ∷ os) new pid i e =
    elim (cases_eq pid p.header.pid) [
      | inl same ↦ here pid p.header.pid (Some at) (local_from (at + size_of p) (os ++ new ∷ []) pid) same ∙ sym (here pid p.header.pid (Some at) (local_from (at + size_of p) os pid) same) ∙ e
      | inr apart ↦ elsewhere pid p.header.pid (Some at) (local_from (at + size_of p) (os ++ new ∷ []) pid) apart ∙ local-append (at + size_of p) os new pid i (sym (elsewhere pid p.header.pid (Some at) (local_from (at + size_of p) os pid) apart) ∙ e)
    ]

-- a PID that no object has, among more
pub local-append_none : (at : ℕ) (os : List Object) (new : Object) (pid : ℕ) → local_from at os pid ≡ None → local_from at (os ++ new ∷ []) pid ≡ (if pid == new.header.pid then Some (at + size_of_all os) else None)
local-append_none at [] new pid e = ap (λ (n : ℕ). if pid == new.header.pid then Some n else None) (omega arith)
local-append_none at (p ∷ os) new pid e =
    elim (cases_eq pid p.header.pid) [
      | inl same ↦ let some = sym (here pid p.header.pid (Some at) (local_from (at + size_of p) os pid) same) ∙ e in absurd (cc)
      | inr apart ↦
          let place : at + size_of p + size_of_all os ≡ at + size_of_all (p ∷ os) = omega arith in
          elsewhere pid p.header.pid (Some at) (local_from (at + size_of p) (os ++ new ∷ []) pid) apart
          ∙ local-append_none (at + size_of p) os new pid (sym (elsewhere pid p.header.pid (Some at) (local_from (at + size_of p) os pid) apart) ∙ e)
          ∙ ap (λ (n : ℕ). if pid == new.header.pid then Some n else None) place
    ]

pub local-append_other : (at : ℕ) (os : List Object) (new : Object) (pid : ℕ) → pid ≢ new.header.pid → local_from at (os ++ new ∷ []) pid ≡ local_from at os pid
local-append_other at [] new pid ne = elsewhere pid new.header.pid (Some at) None ne
local-append_other at (p ∷ os) new pid ne =
    ap (λ (r : Option ℕ). if pid == p.header.pid then Some at else r) (local-append_other (at + size_of p) os new pid ne)

pub held-new : (heap : Heap) (new : Object) (at : ℕ) → IsHeld heap at → IsHeld (with_new heap new) at
held-new heap new at held = record { object = held.object; is = find-append 1 heap.objects new at held.object held.is }

pub IsHeap-new : (heap : Heap) (new : Object) → IsHeap heap → IsFit new → top_of heap + size_of new ≤ heap.size → AreNoted is_assigned (heap.objects ++ new ∷ []) heap.assigned → AreNoted is_reached (heap.objects ++ new ∷ []) heap.reached → (1 ≤ new.header.pid → local_of heap new.header.pid ≡ None) → IsInside heap new → IsHeap (with_new heap new)
IsHeap-new heap new h fit room noted walked apart refs = record {
  inside = λ j p is slot to r.
      elim (find-append_cases 1 heap.objects new j p is) [
        | inl was ↦ held-new heap new to (h.inside j p was slot to r)
        | inr it ↦ held-new heap new to (refs slot to (ap (λ (x : Object). get_or x.refs slot Nil) (sym it.1) ∙ r))
      ];
  fit = AreFit-append heap.objects (new ∷ []) h.fit (fit, tt);
  within = omega (arith, size_of_all-append heap.objects (new ∷ []));
  small = h.small;
  one = λ j p is some.
      elim (find-append_cases 1 heap.objects new j p is) [
        | inl was ↦ local-append 1 heap.objects new p.header.pid j (h.one j p was some)
        | inr it ↦
            let pids : p.header.pid ≡ new.header.pid = ap (λ (x : Object). x.header.pid) it.1 in
            let none = apart (omega arith) in
            ap (local_from 1 (heap.objects ++ new ∷ [])) pids
            ∙ local-append_none 1 heap.objects new new.header.pid none
            ∙ here new.header.pid new.header.pid (Some (top_of heap)) None refl
            ∙ ap (λ (n : ℕ). Some n) (sym it.0)
      ];
  noted = noted;
  walked = walked;
}

-- Where the object of a PID is.
pub record LocalAt (at : ℕ) (os : List Object) (pid i : ℕ) : Type 0 where
  pub object : Object
  pub is : find_from at os i ≡ Some object
  pub pid_is : object.header.pid ≡ pid
  pub from : at ≤ i

pub local-is : (at : ℕ) (os : List Object) (pid i : ℕ) → local_from at os pid ≡ Some i → LocalAt at os pid i
local-is at [] pid i e = absurd (cc)
local-is at (p ∷ os) pid i e =
    elim (cases_eq pid p.header.pid) [
      | inl same ↦
          let both : Some at ≡ Some i = sym (here pid p.header.pid (Some at) (local_from (at + size_of p) os pid) same) ∙ e in
          let there : at ≡ i = cc in
          record { object = p; is = here i at (Some p) (find_from (at + size_of p) os i) (sym there); pid_is = sym same; from = omega arith }
      | inr apart ↦
          let more = local-is (at + size_of p) os pid i (sym (elsewhere pid p.header.pid (Some at) (local_from (at + size_of p) os pid) apart) ∙ e) in
          record { object = more.object; is = elsewhere i at (Some p) (find_from (at + size_of p) os i) (λ q. omega (arith, more.from)) ∙ more.is; pid_is = more.pid_is; from = omega (arith, more.from) }
    ]
