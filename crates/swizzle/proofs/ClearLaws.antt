-- Objects are taken from the list of the assigned, and from that of the reached, the last first.
use Rattle.std.proofs.Common.{◌≡◌, ℕ, ◌+◌, ◌-◌, ◌*◌, ◌≤◌, true, List, [], ◌∷◌, ◌++◌, length, map, slice_index, refl, sym, ap, ◌∙◌, subst, Bool, vec_capacity, arith, length-append, Option, unwrap_or}
use Rattle.obj_area.specs.Area.{AreaView, with_word}
use Rattle.swizzle.specs.Objects.{Object, replace_from}
use Rattle.swizzle.specs.Heap.{Heap, IsHeap, IsHeld, AreNoted, object_at, nothing, is_assigned, is_reached, unflagged, without_mark, with_no_marks, reach_unflagged, without_reach, with_none_reached}
use Rattle.swizzle.specs.inside.Clearing.{IsUnmarked, IsUnmarkedAll, IsLeft, AreLeft}
use Rattle.swizzle.specs.View.{heap_of, beside_of, noted_of, IsKeptIn}
use Rattle.swizzle.specs.Kept.{Noted, with_room}
use Rattle.swizzle.specs.declared.swizzle.Swizzle.TheInside.{Inside}
use Rattle.swizzle.proofs.NotedLaws.{noted-last, noted-cleared, noted-replaced, is_flag, is_reach, unflagged-is, unflagged-reached, reach_unflagged-is, reach_unflagged-assigned, without-none, without-replaced}
use Rattle.swizzle.proofs.KeptLaws.{Again, Lies, heap_with, lists_of, lies_in, lies-word_at, rewritten, clear_of_flag, clear_of_reach, IsFit-unflagged, IsFit-reach_unflagged, inside_kept}

-- The last object of a list, which has the list's flag.
pub record Last (has : Object → Bool) (a : Inside) (heap : Heap) (rest : List ℕ) (at : ℕ) : Type 0 where
  pub held : IsHeld heap at
  pub lies : Lies a.area.words heap at
  pub flag : has (object_at heap at) ≡ true
  pub noted : AreNoted has heap.objects (rest ++ at ∷ [])

last_of : (has : Object → Bool) (a : Inside) (heap : Heap) (rest : List ℕ) (at : ℕ) → heap_of a ≡ heap → IsKeptIn a → AreNoted has heap.objects (rest ++ at ∷ []) → Last has a heap rest at
last_of has a heap rest at e kept noted =
    let m = noted-last has heap.objects rest at noted in
    let held : IsHeld heap at = record { object = m.object; is = m.is } in
    let it : object_at heap at ≡ m.object = ap (λ (o : Option Object). unwrap_or o nothing) m.is in
    record { held = held; lies = lies_in a heap at e kept held; flag = ap has it ∙ m.flag; noted = noted }

listed_as : (a : Inside) (heap : Heap) (rest : List ℕ) (at : ℕ) → heap_of a ≡ heap → a.assigned.items ≡ rest ++ at ∷ [] → heap.assigned ≡ rest ++ at ∷ []
listed_as a heap rest at e items = ap (λ (h : Heap). h.assigned) (sym e) ∙ items

walked_as : (a : Inside) (heap : Heap) (rest : List ℕ) (at : ℕ) → heap_of a ≡ heap → a.reached.items ≡ rest ++ at ∷ [] → heap.reached ≡ rest ++ at ∷ []
walked_as a heap rest at e items = ap (λ (h : Heap). h.reached) (sym e) ∙ items

pub last : (a : Inside) (heap : Heap) (rest : List ℕ) (at : ℕ) → heap_of a ≡ heap → IsKeptIn a → a.assigned.items ≡ rest ++ at ∷ [] → Last is_assigned a heap rest at
last a heap rest at e kept items =
    let good : IsHeap heap = subst IsHeap e kept.heap in
    last_of is_assigned a heap rest at e kept (subst (AreNoted is_assigned heap.objects) (listed_as a heap rest at e items) good.noted)

pub last-reached : (a : Inside) (heap : Heap) (rest : List ℕ) (at : ℕ) → heap_of a ≡ heap → IsKeptIn a → a.reached.items ≡ rest ++ at ∷ [] → Last is_reached a heap rest at
last-reached a heap rest at e kept items =
    let good : IsHeap heap = subst IsHeap e kept.heap in
    last_of is_reached a heap rest at e kept (subst (AreNoted is_reached heap.objects) (walked_as a heap rest at e items) good.walked)

-- its first word counts the flag
pub last-word : (a : Inside) (heap : Heap) (rest : List ℕ) (at w : ℕ) → Last is_assigned a heap rest at → w ≡ slice_index a.area.words (at - 1) → 256 ≤ w
last-word a heap rest at w l e =
    let word = lies-word_at a.area.words heap at 0 at w l.lies (omega arith) (omega arith) e in
    let odd = is_flag (object_at heap at) l.flag in
    omega arith

pub last-reached_word : (a : Inside) (heap : Heap) (rest : List ℕ) (at w : ℕ) → Last is_reached a heap rest at → w ≡ slice_index a.area.words (at - 1) → 512 ≤ w
last-reached_word a heap rest at w l e =
    let word = lies-word_at a.area.words heap at 0 at w l.lies (omega arith) (omega arith) e in
    let odd = is_reach (object_at heap at) l.flag in
    omega arith

-- the lists without an object that was assigned last, or that was reached last
abbrev pub without_assigned : Inside → List ℕ → Noted
without_assigned a rest = record { assigned = rest; reached = a.reached.items }

abbrev pub without_reached : Inside → List ℕ → Noted
without_reached a rest = record { assigned = a.assigned.items; reached = rest }

pub unmarked-again : (a : Inside) (new : AreaView) (rest : List ℕ) (places : ℕ) (heap : Heap) (at w : ℕ) → heap_of a ≡ heap → IsKeptIn a → Last is_assigned a heap rest at → w ≡ slice_index a.area.words (at - 1)
    → new ≡ with_word a.area at (w - 256) → a.area.size ≤ 5 * places + 5
    → Again new.words new.size (without_assigned a rest) (with_room (beside_of a) places (vec_capacity a.reached)) (heap_with (replace_from 1 heap.objects at (unflagged (object_at heap at))) heap.size (without_assigned a rest))
unmarked-again a new rest places heap at w e kept l is written room =
    let o = object_at heap at in
    let word = lies-word_at a.area.words heap at 0 at w l.lies (omega arith) (omega arith) is in
    let odd = is_flag o l.flag in
    let list : heap.reached ≡ a.reached.items = ap (λ (h : Heap). h.reached) (sym e) in
    rewritten a new (without_assigned a rest) places (vec_capacity a.reached) heap at 0 at (w - 256) (unflagged o) e kept l.lies written (omega arith) (omega arith)
    (clear_of_flag o w word (omega arith)) (IsFit-unflagged o l.lies.split.fit) refl refl refl
    (noted-cleared is_assigned heap.objects rest at o (unflagged o) l.noted l.lies.is refl l.flag (unflagged-is o l.flag))
    (subst (AreNoted is_reached (replace_from 1 heap.objects at (unflagged o))) list
    (noted-replaced is_reached heap.objects heap.reached at o (unflagged o) l.lies.heap_is.walked l.lies.is refl (unflagged-reached o l.flag)))
    room kept.for_reached (inside_kept heap at l.lies.heap_is l.held)

pub left-again : (a : Inside) (new : AreaView) (rest : List ℕ) (stops : ℕ) (heap : Heap) (at w : ℕ) → heap_of a ≡ heap → IsKeptIn a → Last is_reached a heap rest at → w ≡ slice_index a.area.words (at - 1)
    → new ≡ with_word a.area at (w - 512) → a.area.size ≤ 5 * stops + 5
    → Again new.words new.size (without_reached a rest) (with_room (beside_of a) (vec_capacity a.assigned) stops) (heap_with (replace_from 1 heap.objects at (reach_unflagged (object_at heap at))) heap.size (without_reached a rest))
left-again a new rest stops heap at w e kept l is written room =
    let o = object_at heap at in
    let word = lies-word_at a.area.words heap at 0 at w l.lies (omega arith) (omega arith) is in
    let odd = is_reach o l.flag in
    let list : heap.assigned ≡ a.assigned.items = ap (λ (h : Heap). h.assigned) (sym e) in
    rewritten a new (without_reached a rest) (vec_capacity a.assigned) stops heap at 0 at (w - 512) (reach_unflagged o) e kept l.lies written (omega arith) (omega arith)
    (clear_of_reach o w word (omega arith)) (IsFit-reach_unflagged o l.lies.split.fit) refl refl refl
    (subst (AreNoted is_assigned (replace_from 1 heap.objects at (reach_unflagged o))) list
    (noted-replaced is_assigned heap.objects heap.assigned at o (reach_unflagged o) l.lies.heap_is.noted l.lies.is refl (reach_unflagged-assigned o l.flag)))
    (noted-cleared is_reached heap.objects rest at o (reach_unflagged o) l.noted l.lies.is refl l.flag (reach_unflagged-is o l.flag))
    kept.for_assigned room (inside_kept heap at l.lies.heap_is l.held)

pub unmarked-step : (a : Inside) (heap new : Heap) (rest : List ℕ) (at : ℕ) → heap_of a ≡ heap → a.assigned.items ≡ rest ++ at ∷ [] → Last is_assigned a heap rest at
    → new ≡ heap_with (replace_from 1 heap.objects at (unflagged (object_at heap at))) heap.size (without_assigned a rest) → IsUnmarked heap new
unmarked-step a heap new rest at seen items l e = record {
  size = ap (λ (h : Heap). h.size) e;
  rest = ap (λ (h : Heap). map without_mark h.objects) e ∙ without-replaced is_assigned unflagged unflagged-is 1 heap.objects at (object_at heap at) l.lies.is l.flag;
  shorter = omega (arith, ap length (listed_as a heap rest at seen items), length-append rest (at ∷ []), ap (λ (h : Heap). length h.assigned) e);
  reached = ap (λ (h : Heap). h.reached) e ∙ ap (λ (h : Heap). h.reached) seen;
}

pub left-step : (a : Inside) (heap new : Heap) (rest : List ℕ) (at : ℕ) → heap_of a ≡ heap → a.reached.items ≡ rest ++ at ∷ [] → Last is_reached a heap rest at
    → new ≡ heap_with (replace_from 1 heap.objects at (reach_unflagged (object_at heap at))) heap.size (without_reached a rest) → IsLeft heap new
left-step a heap new rest at seen items l e = record {
  size = ap (λ (h : Heap). h.size) e;
  rest = ap (λ (h : Heap). map without_reach h.objects) e ∙ without-replaced is_reached reach_unflagged reach_unflagged-is 1 heap.objects at (object_at heap at) l.lies.is l.flag;
  shorter = omega (arith, ap length (walked_as a heap rest at seen items), length-append rest (at ∷ []), ap (λ (h : Heap). length h.reached) e);
  assigned = ap (λ (h : Heap). h.assigned) e ∙ ap (λ (h : Heap). h.assigned) seen;
}

-- none is left
pub unmarked-all : (heap : Heap) → IsHeap heap → heap.assigned ≡ [] → IsUnmarkedAll heap heap
unmarked-all heap h e = record {
  stays = refl;
  empty = e;
  none = without-none is_assigned unflagged unflagged-is heap.objects (omega (arith, h.noted.counted, ap length e));
}

pub left-all : (heap : Heap) → IsHeap heap → heap.reached ≡ [] → AreLeft heap heap
left-all heap h e = record {
  stays = refl;
  empty = e;
  none = without-none is_reached reach_unflagged reach_unflagged-is heap.objects (omega (arith, h.walked.counted, ap length e));
}

same_heap : (os ps : List Object) (n m : ℕ) (a b c d : List ℕ) → os ≡ ps → n ≡ m → a ≡ b → c ≡ d → heap_with os n (record { assigned = a; reached = c }) ≡ heap_with ps m (record { assigned = b; reached = d })
same_heap os ps n m a b c d eo en ea ec =
    ap (λ (x : List Object). heap_with x n (record { assigned = a; reached = c })) eo
    ∙ ap (λ (x : ℕ). heap_with ps x (record { assigned = a; reached = c })) en
    ∙ ap (λ (x : List ℕ). heap_with ps m (record { assigned = x; reached = c })) ea
    ∙ ap (λ (x : List ℕ). heap_with ps m (record { assigned = b; reached = x })) ec

pub cleared : (old mid new : Heap) → mid.size ≡ old.size → map without_mark mid.objects ≡ map without_mark old.objects → mid.reached ≡ old.reached → IsUnmarkedAll mid new → new ≡ with_no_marks old
cleared old mid new size rest reached all =
    all.stays ∙ same_heap mid.objects (map without_mark old.objects) mid.size old.size mid.assigned [] mid.reached old.reached (sym all.none ∙ rest) size all.empty reached

pub all-left : (old mid new : Heap) → mid.size ≡ old.size → map without_reach mid.objects ≡ map without_reach old.objects → mid.assigned ≡ old.assigned → AreLeft mid new → new ≡ with_none_reached old
all-left old mid new size rest assigned all =
    all.stays ∙ same_heap mid.objects (map without_reach old.objects) mid.size old.size mid.assigned old.assigned mid.reached [] (sym all.none ∙ rest) size assigned all.empty
