-- A node that was marked is in the list of the assigned.
use Rattle.std.proofs.Common.{◌≡◌, ◌⊎◌, ℕ, true, false, if◌then◌else◌, List, [], ◌∷◌, ◌++◌, refl, inl, inr}
use Rattle.heap_places.specs.swizzle.Heap.{Heap, IsHeap, IsHeld, IsListed, is_assigned, flagged, object_at, with_mark}
use Rattle.heap_places.specs.swizzle.Objects.{replace_from}
use Rattle.heap_places.proofs.of_swizzle.KeptLaws.{held_is}

listed_last : (is : List ℕ) (at : ℕ) → IsListed at (is ++ at ∷ [])
listed_last [] at = inl refl
listed_last (i ∷ is) at = inr (listed_last is at)

pub marked_listed : (heap : Heap) (at : ℕ) → IsHeap heap → IsHeld heap at → IsListed at (with_mark heap at).assigned
marked_listed heap at h held =
    (elim (is_assigned (object_at heap at)) as
    (λ b. is_assigned (object_at heap at) ≡ b → IsListed at (if b then heap else record heap { objects = replace_from 1 heap.objects at (flagged (object_at heap at)); assigned = heap.assigned ++ at ∷ [] }).assigned) [
      | true ↦ λ e. h.noted.listed at (record { object = object_at heap at; is = held_is heap at held; flag = e })
      | false ↦ λ e. listed_last heap.assigned at
    ]) refl

-- what is in the list stays in it, and none but the marked one comes
listed_more : (is : List ℕ) (at j : ℕ) → IsListed j is → IsListed j (is ++ at ∷ [])
listed_more [] at j l = absurd l
listed_more (i ∷ is) at j (inl e) = inl e
listed_more (i ∷ is) at j (inr l) = inr (listed_more is at j l)

listed_parts : (is : List ℕ) (at j : ℕ) → IsListed j (is ++ at ∷ []) → IsListed j is ⊎ (j ≡ at)
listed_parts [] at j (inl e) = inr e
listed_parts [] at j (inr l) = absurd l
listed_parts (i ∷ is) at j (inl e) = inl (inl e)
listed_parts (i ∷ is) at j (inr l) = elim (listed_parts is at j l) [ inl m ↦ inl (inr m) | inr e ↦ inr e ]

pub listed_still : (heap : Heap) (at j : ℕ) → IsListed j heap.assigned → IsListed j (with_mark heap at).assigned
listed_still heap at j l =
    elim (is_assigned (object_at heap at)) as
    (λ b. IsListed j (if b then heap else record heap { objects = replace_from 1 heap.objects at (flagged (object_at heap at)); assigned = heap.assigned ++ at ∷ [] }).assigned) [
      | true ↦ l
      | false ↦ listed_more heap.assigned at j l
    ]

pub listed_marked : (heap : Heap) (at j : ℕ) → IsListed j (with_mark heap at).assigned → IsListed j heap.assigned ⊎ (j ≡ at)
listed_marked heap at j =
    elim (is_assigned (object_at heap at)) as
    (λ b. IsListed j (if b then heap else record heap { objects = replace_from 1 heap.objects at (flagged (object_at heap at)); assigned = heap.assigned ++ at ∷ [] }).assigned → IsListed j heap.assigned ⊎ (j ≡ at)) [
      | true ↦ λ l. inl l
      | false ↦ λ l. listed_parts heap.assigned at j l
    ]
