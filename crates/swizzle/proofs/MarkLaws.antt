-- The one map stays as objects get flags and lose them.
use Rattle.std.proofs.Common.{Bool, true, false, inl, inr, ◌⊎◌, ◌≡◌, ℕ, ◌+◌, ◌-◌, ◌==◌, List, [], ◌∷◌, ◌++◌, map, refl, sym, ap, ◌∙◌, subst, arith, Option, Some, None, unwrap_or, if◌then◌else◌}
use Rattle.std.proofs.lemmas.Bool.{cases_eq}
use Rattle.obj_layout.specs.declared.reference.Reference.TheVariants.{Pid, Local}
use Rattle.swizzle.specs.Objects.{Object, size_of, find_from}
use Rattle.swizzle.specs.Heap.{Heap, IsHeap, IsHeld, found, object_at, local_from, nothing, with_object, with_mark, with_no_marks, is_assigned, flagged, unflagged, without_mark, with_reach, with_none_reached, is_reached, reach_flagged, reach_unflagged, without_reach}
use Rattle.swizzle.specs.Joint.{shown, name_at, name_of, shown_at, Joint}
use Rattle.swizzle.specs.Changes.{Same}
use Rattle.swizzle.proofs.ObjectLaws.{here, elsewhere}
use Rattle.swizzle.proofs.HeapLaws.{held-replaced}
use Rattle.swizzle.proofs.NotedLaws.{flagged-is}
use Rattle.swizzle.proofs.KeptLaws.{held_is}
use Rattle.swizzle.proofs.NameLaws.{Joint-one, names_kept, shown-same, names-decided}
use Rattle.swizzle.proofs.JointLaws.{IsLike, same-changed, object-replaced, name-replaced, joint-replaced}
use Rattle.swizzle.proofs.TouchLaws.{same-refl, same-then}

-- A flag.

-- the object with other flags
abbrev pub flagged_as : Object → ℕ → Object
flagged_as o flags = record o { header = record (o.header) { flags = flags } }

like-flagged : (o : Object) (flags : ℕ) → IsLike o (flagged_as o flags)
like-flagged o flags = record { kind = refl; refs = refl; nums = refl; bytes = refl; pid = refl }

pub joint-flagged : (heap : Heap) (holds : ℕ → List ℕ → Type 0) (at flags : ℕ) → IsHeap heap → IsHeld heap at → ((pid : ℕ) (a b : List ℕ) → holds pid a → holds pid b → a ≡ b)
    → Same (Joint heap holds) (Joint (with_object heap at (flagged_as (object_at heap at) flags)) holds)
joint-flagged heap holds at flags h held one =
    let o = object_at heap at in
    let new = flagged_as o flags in
    let was : Joint heap holds (name_at heap at) (shown (name_of heap) new) = inl (record { at = at; held = held; name_is = refl; shown_is = refl }) in
    same-changed (Joint heap holds) (Joint (with_object heap at new) holds) (name_at heap at) (shown (name_of heap) new) (λ n. names-decided n (name_at heap at)) was
    (λ other j. Joint-one heap holds (name_at heap at) other (shown (name_of heap) new) h one j was)
    (joint-replaced heap holds at new h held (like-flagged o flags))

abbrev with_lists : Heap → List ℕ → List ℕ → Heap
with_lists heap assigned reached = record heap { assigned = assigned; reached = reached }

names_listed : (heap : Heap) (assigned reached : List ℕ) (at : ℕ) → shown_at heap at ≡ shown_at (with_lists heap assigned reached) at
names_listed heap assigned reached at =
    let now = with_lists heap assigned reached in
    shown-same now heap (object_at heap at) (object_at heap at) refl refl refl (sym (names_kept heap now (object_at heap at).refs (λ slot to r. refl)))

-- a heap with other lists has the same objects
joint-listed : (heap : Heap) (assigned reached : List ℕ) (holds : ℕ → List ℕ → Type 0) → Same (Joint heap holds) (Joint (with_lists heap assigned reached) holds)
joint-listed heap assigned reached holds = record {
  grows = λ n it j. elim j [
    | inl a ↦ inl (record { at = a.at; held = record { object = a.held.object; is = a.held.is }; name_is = a.name_is; shown_is = a.shown_is ∙ names_listed heap assigned reached a.at })
    | inr v ↦ inr (record { pid = v.pid; words = v.words; name_is = v.name_is; there = v.there; away = v.away; shown_is = v.shown_is })
  ];
  no_more = λ n it j. elim j [
    | inl a ↦ inl (record { at = a.at; held = record { object = a.held.object; is = a.held.is }; name_is = a.name_is; shown_is = a.shown_is ∙ sym (names_listed heap assigned reached a.at) })
    | inr v ↦ inr (record { pid = v.pid; words = v.words; name_is = v.name_is; there = v.there; away = v.away; shown_is = v.shown_is })
  ];
}

-- What a mark keeps: names, what is shown, and the one map.
pub record Marked (old new : Heap) (at : ℕ) : Type 0 where
  pub held : (j : ℕ) → IsHeld old j → IsHeld new j
  pub names : (j : ℕ) → IsHeld old j → name_at new j ≡ name_at old j
  pub is : is_assigned (object_at new at) ≡ true

if_cases : {X : Type 0} (b : Bool) (x y : X) → ((b ≡ true) × ((if b then x else y) ≡ x)) ⊎ ((b ≡ false) × ((if b then x else y) ≡ y))
if_cases true x y = inl (refl, refl)
if_cases false x y = inr (refl, refl)

listed : Heap → ℕ → Heap
listed heap at = record (with_object heap at (flagged (object_at heap at))) { assigned = heap.assigned ++ at ∷ [] }

walked : Heap → ℕ → Heap
walked heap at = record (with_object heap at (reach_flagged (object_at heap at))) { reached = heap.reached ++ at ∷ [] }

marked-listed : (heap : Heap) (at : ℕ) → IsHeap heap → IsHeld heap at → is_assigned (object_at heap at) ≡ false → Marked heap (listed heap at) at
unfolding listed
marked-listed heap at h held e =
    let o = object_at heap at in
    let like = like-flagged o (o.header.flags + 1) in
    record {
      held = λ j there. let now = held-replaced heap at o (flagged o) j (held_is heap at held) refl there in record { object = now.object; is = now.is };
      names = λ j there. name-replaced heap at j (flagged o) held like;
      is = ap is_assigned (object-replaced heap at (flagged o) held) ∙ flagged-is o e;
    }

pub marked-mark : (heap : Heap) (at : ℕ) → IsHeap heap → IsHeld heap at → Marked heap (with_mark heap at) at
unfolding listed
marked-mark heap at h held =
    elim (if_cases (is_assigned (object_at heap at)) heap (listed heap at)) [
      | inl set_one ↦ subst (λ (x : Heap). Marked heap x at) (sym set_one.1) (record { held = λ j there. there; names = λ j there. refl; is = set_one.0 })
      | inr clear ↦ subst (λ (x : Heap). Marked heap x at) (sym clear.1) (marked-listed heap at h held clear.0)
    ]

pub joint-mark : (heap : Heap) (holds : ℕ → List ℕ → Type 0) (at : ℕ) → IsHeap heap → IsHeld heap at → ((pid : ℕ) (a b : List ℕ) → holds pid a → holds pid b → a ≡ b) → Same (Joint heap holds) (Joint (with_mark heap at) holds)
unfolding listed
joint-mark heap holds at h held one =
    let o = object_at heap at in
    let mid = with_object heap at (flagged o) in
    elim (if_cases (is_assigned o) heap (listed heap at)) [
      | inl set_one ↦ subst (λ (x : Heap). Same (Joint heap holds) (Joint x holds)) (sym set_one.1) (same-refl (Joint heap holds))
      | inr clear ↦ subst (λ (x : Heap). Same (Joint heap holds) (Joint x holds)) (sym clear.1)
          (same-then (Joint heap holds) (Joint mid holds) (Joint (listed heap at) holds) (joint-flagged heap holds at (o.header.flags + 1) h held one)
          (joint-listed mid (heap.assigned ++ at ∷ []) heap.reached holds))
    ]

pub joint-reach : (heap : Heap) (holds : ℕ → List ℕ → Type 0) (at : ℕ) → IsHeap heap → IsHeld heap at → ((pid : ℕ) (a b : List ℕ) → holds pid a → holds pid b → a ≡ b) → Same (Joint heap holds) (Joint (with_reach heap at) holds)
unfolding walked
joint-reach heap holds at h held one =
    let o = object_at heap at in
    let mid = with_object heap at (reach_flagged o) in
    elim (if_cases (is_reached o) heap (walked heap at)) [
      | inl set_one ↦ subst (λ (x : Heap). Same (Joint heap holds) (Joint x holds)) (sym set_one.1) (same-refl (Joint heap holds))
      | inr clear ↦ subst (λ (x : Heap). Same (Joint heap holds) (Joint x holds)) (sym clear.1)
          (same-then (Joint heap holds) (Joint mid holds) (Joint (walked heap at) holds) (joint-flagged heap holds at (o.header.flags + 2) h held one)
          (joint-listed mid heap.assigned (heap.reached ++ at ∷ []) holds))
    ]

-- An object without a flag.
pub record IsBare (o new : Object) : Type 0 where
  pub like : IsLike o new
  pub refs_are : new.refs ≡ o.refs
  pub nums_are : new.nums ≡ o.nums

bare_as : (o : Object) (flags : ℕ) → IsBare o (flagged_as o flags)
bare_as o flags = record { like = like-flagged o flags; refs_are = refl; nums_are = refl }

pub bare : (o : Object) → IsBare o (without_mark o)
bare o =
    elim (if_cases (is_assigned o) (unflagged o) o) [
      | inl set_one ↦ subst (IsBare o) (sym set_one.1) (bare_as o (o.header.flags - 1))
      | inr clear ↦ subst (IsBare o) (sym clear.1) (bare_as o o.header.flags)
    ]

pub bare-reach : (o : Object) → IsBare o (without_reach o)
bare-reach o =
    elim (if_cases (is_reached o) (reach_unflagged o) o) [
      | inl set_one ↦ subst (IsBare o) (sym set_one.1) (bare_as o (o.header.flags - 2))
      | inr clear ↦ subst (IsBare o) (sym clear.1) (bare_as o o.header.flags)
    ]

-- A heap whose objects are all without the flag, with other lists.
module _ (less : Object → Object) (is : (o : Object) → IsBare o (less o)) (still : less nothing ≡ nothing) where
  less_size : (o : Object) → size_of (less o) ≡ size_of o
  less_size o = let b = is o in omega (arith, b.like.refs, b.like.nums)

  less_found : Option Object → Option Object
  less_found None = None
  less_found (Some o) = Some (less o)

  find-less : (at : ℕ) (os : List Object) (i : ℕ) → find_from at (map less os) i ≡ less_found (find_from at os i)
  unfolding less_found
  find-less at [] i = refl
  find-less at (p ∷ os) i =
      elim (cases_eq i at) [
        | inl same ↦
            here i at (Some (less p)) (find_from (at + size_of (less p)) (map less os) i) same
            ∙ ap less_found (sym (here i at (Some p) (find_from (at + size_of p) os i) same))
        | inr apart ↦
            elsewhere i at (Some (less p)) (find_from (at + size_of (less p)) (map less os) i) apart
            ∙ ap (λ (n : ℕ). find_from (at + n) (map less os) i) (less_size p)
            ∙ find-less (at + size_of p) os i
            ∙ ap less_found (sym (elsewhere i at (Some p) (find_from (at + size_of p) os i) apart))
      ]

  local-less : (at : ℕ) (os : List Object) (pid : ℕ) → local_from at (map less os) pid ≡ local_from at os pid
  local-less at [] pid = refl
  local-less at (p ∷ os) pid =
      ap (λ (n : ℕ). if pid == n then Some at else local_from (at + size_of (less p)) (map less os) pid) ((is p).like.pid)
      ∙ ap (λ (n : ℕ). if pid == p.header.pid then Some at else local_from (at + n) (map less os) pid) (less_size p)
      ∙ ap (λ (r : Option ℕ). if pid == p.header.pid then Some at else r) (local-less (at + size_of p) os pid)

  some_less : (was : Option Object) → unwrap_or (less_found was) nothing ≡ less (unwrap_or was nothing)
  unfolding less_found
  some_less None = sym still
  some_less (Some o) = refl

  module _ (heap : Heap) (assigned reached : List ℕ) where
    abbrev now : Heap
    now = record { objects = map less heap.objects; size = heap.size; assigned = assigned; reached = reached }

    pub object-less : (at : ℕ) → object_at now at ≡ less (object_at heap at)
    object-less at = ap (λ (o : Option Object). unwrap_or o nothing) (find-less 1 heap.objects at) ∙ some_less (found heap at)

    pub held-less : (at : ℕ) → IsHeld heap at → IsHeld now at
    unfolding less_found
    held-less at held = record { object = less held.object; is = find-less 1 heap.objects at ∙ ap less_found held.is }

    was_held : (at : ℕ) (o : Object) (was : Option Object) → found heap at ≡ was → less_found was ≡ Some o → IsHeld heap at
    unfolding less_found
    was_held at o None e none = absurd (cc)
    was_held at o (Some p) e some = record { object = p; is = e }

    less-held : (at : ℕ) → IsHeld now at → IsHeld heap at
    less-held at held = was_held at held.object (found heap at) refl (sym (find-less 1 heap.objects at) ∙ held.is)

    name-less : (at : ℕ) → name_at now at ≡ name_at heap at
    name-less at =
        let o = object_at heap at in
        let pids : (object_at now at).header.pid ≡ o.header.pid = ap (λ (x : Object). x.header.pid) (object-less at) ∙ (is o).like.pid in
        ap (λ (p : ℕ). if p == 0 then Local at else Pid p) pids

    shown-less : (at : ℕ) → shown_at now at ≡ shown_at heap at
    shown-less at =
        let o = object_at heap at in
        let b = is o in
        ap (shown (name_of now)) (object-less at)
        ∙ shown-same heap now (less o) o b.like.kind b.like.bytes b.nums_are
        (ap (map (name_of now)) b.refs_are ∙ names_kept heap now o.refs (λ slot to r. name-less to))

    pub joint-less : (holds : ℕ → List ℕ → Type 0) → Same (Joint heap holds) (Joint now holds)
    joint-less holds = record {
      grows = λ n it j. elim j [
        | inl a ↦ inl (record { at = a.at; held = held-less a.at a.held; name_is = a.name_is ∙ sym (name-less a.at); shown_is = a.shown_is ∙ sym (shown-less a.at) })
        | inr v ↦ inr (record { pid = v.pid; words = v.words; name_is = v.name_is; there = v.there; away = local-less 1 heap.objects v.pid ∙ v.away; shown_is = v.shown_is })
      ];
      no_more = λ n it j. elim j [
        | inl a ↦ inl (record { at = a.at; held = less-held a.at a.held; name_is = a.name_is ∙ name-less a.at; shown_is = a.shown_is ∙ shown-less a.at })
        | inr v ↦ inr (record { pid = v.pid; words = v.words; name_is = v.name_is; there = v.there; away = sym (local-less 1 heap.objects v.pid) ∙ v.away; shown_is = v.shown_is })
      ];
    }

-- no object is assigned any more
pub joint-cleared : (heap : Heap) (holds : ℕ → List ℕ → Type 0) → Same (Joint heap holds) (Joint (with_no_marks heap) holds)
joint-cleared heap holds = joint-less without_mark bare refl heap [] heap.reached holds

-- none is noted as reached any more
pub joint-left : (heap : Heap) (holds : ℕ → List ℕ → Type 0) → Same (Joint heap holds) (Joint (with_none_reached heap) holds)
joint-left heap holds = joint-less without_reach bare-reach refl heap heap.assigned [] holds
