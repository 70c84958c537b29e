-- What stands in the header of a place.
use Rattle.std.proofs.Common.{◌≡◌, ℕ, ◌+◌, ◌-◌, ◌^◌, ◌<◌, List, slice_index, refl, arith, Option, Some, None}
use Rattle.pid_map.specs.Chains.{Belongs, IsFind}
use Rattle.swizzle.specs.Objects.{words_of_all, objects_of}
use Rattle.swizzle.specs.Heap.{IsHeap, IsHeld}
use Rattle.swizzle.specs.Mapped.{Noted, pid_at, link_at, IsLinked, AreChained, IsPlaceIn, heap_from}
use Rattle.swizzle.proofs.ChainedLaws.{link_is, carried}
use Rattle.swizzle.proofs.KeptLaws.{Lies, lies, lies-word_at}

module _ (words : List ℕ) (size at : ℕ) (is : IsPlaceIn words size at) where
  held : IsHeld (heap_from words size is.noted) at
  held = record { object = is.linked.object; is = is.linked.is }

  pub place-lies : Lies words (heap_from words size is.noted) at
  place-lies = lies words size is.noted (heap_from words size is.noted) at refl is.cut is.heap held

  -- its second word is its PID, and its fourth one the link
  pub place-pid : (w place : ℕ) → place ≡ at + 1 → w ≡ slice_index words (place - 1) → w ≡ pid_at (objects_of words) at
  unfolding pid_at
  place-pid w place e r = lies-word_at words (heap_from words size is.noted) at 1 place w place-lies e (omega arith) r

  place-link : (w place : ℕ) → place ≡ at + 3 → w ≡ slice_index words (place - 1) → w ≡ link_at (objects_of words) at
  unfolding link_at
  place-link w place e r = lies-word_at words (heap_from words size is.noted) at 3 place w place-lies e (omega arith) r

  pub place-next : (w place : ℕ) → place ≡ at + 3 → w ≡ slice_index words (place - 1) → (w ≡ link_at (objects_of words) at) × (w < 2 ^ 32)
  place-next w place e r =
      let it = place-link w place e r in
      let small = is.linked.small in
      let link = link_is (objects_of words) at is.linked.object is.linked.is in
      (it, omega (arith, it, link, small))

-- the map over the places of an area with these words
pub placed : (words : List ℕ) (size : ℕ) (noted : Noted) (heads : List ℕ) → words_of_all (objects_of words) ≡ words → IsHeap (heap_from words size noted) → AreChained (objects_of words) heads
    → Belongs heads (pid_at (objects_of words)) (link_at (objects_of words)) (IsPlaceIn words size)
placed words size noted heads cut h c =
    carried heads (pid_at (objects_of words)) (pid_at (objects_of words)) (link_at (objects_of words)) (link_at (objects_of words)) (IsLinked (objects_of words)) (IsPlaceIn words size) c.belongs
    (λ x i. refl) (λ x i. refl)
    (λ x linked.
    let l = lies words size noted (heap_from words size noted) x refl cut h (record { object = linked.object; is = linked.is }) in
    let to = l.to in
    record { noted = noted; cut = cut; heap = h; linked = linked; from = l.from; below = omega (arith, to) })

-- what is found over them is found in the map
pub placed-find : (words : List ℕ) (size : ℕ) (noted : Noted) (heads : List ℕ) (cut : words_of_all (objects_of words) ≡ words) (h : IsHeap (heap_from words size noted)) (c : AreChained (objects_of words) heads) (pid : ℕ) (result : Option ℕ)
    → IsFind (placed words size noted heads cut h c) pid result → IsFind c.belongs pid result
unfolding placed carried
placed-find words size noted heads cut h c pid (Some at) f = (record { bucket = f.0.bucket; below = f.0.below; is = f.0.is }, f.1)
placed-find words size noted heads cut h c pid None f = λ x i. f x (record { bucket = i.bucket; below = i.below; is = i.is })
