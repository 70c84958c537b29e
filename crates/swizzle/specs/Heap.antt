-- What a swizzle is to its callers: the objects of its area, by the index at which each begins.
use Rattle.std.specs.Prelude.{◌≡◌, ◌⊎◌, ℕ, Bool, true, ◌-◌, ◌+◌, ◌/◌, ◌%◌, ◌^◌, ◌<◌, ◌≤◌, ◌==◌, if◌then◌else◌, List, [], ◌∷◌, ◌++◌, length, map, slice_index, slice_set, get_or, set, replicate, Option, Some, None, unwrap_or}
use Rattle.obj_layout.specs.declared.kind.Kind.{Kind}
use Rattle.obj_layout.specs.declared.kind.Kind.TheVariants.{Text}
use Rattle.obj_layout.specs.declared.header.Header.{Header}
use Rattle.obj_layout.specs.declared.reference.Reference.{Reference}
use Rattle.obj_layout.specs.declared.reference.Reference.TheVariants.{Nil, Local}
use Rattle.swizzle.specs.declared.fault.SwizzleFault.{SwizzleFault}
use Rattle.swizzle.specs.declared.fault.SwizzleFault.TheVariants.{AreaFull}
use Rattle.swizzle.specs.Objects.{Object, size_of, size_of_all, AreFit, find_from, replace_from}

pub record Heap : Type 0 where
  pub objects : List Object
  -- the index that no word reaches
  pub size : ℕ
  -- the objects that were assigned, each once, in order
  pub assigned : List ℕ
  -- the objects that a walk has reached, each once, in order
  pub reached : List ℕ

-- the index at which the next object begins
abbrev pub top_of : Heap → ℕ
top_of heap = 1 + size_of_all heap.objects

-- the object that begins there, if one does
abbrev pub found : Heap → ℕ → Option Object
found heap at = find_from 1 heap.objects at

-- an object begins there
pub record IsHeld (heap : Heap) (at : ℕ) : Type 0 where
  pub object : Object
  pub is : found heap at ≡ Some object

abbrev pub nothing : Object
nothing = record { header = record { kind = Text; flags = 0; refs = 0; nums = 0; bytes = 0; pid = 0; chain = 0 }; refs = []; nums = [] }

-- the object that begins there
abbrev pub object_at : Heap → ℕ → Object
object_at heap at = unwrap_or (found heap at) nothing

abbrev pub header_at : Heap → ℕ → Header
header_at heap at = (object_at heap at).header

-- the reference in a slot, and the number word at an index
abbrev pub ref_at : Heap → ℕ → ℕ → Reference
ref_at heap at slot = get_or (object_at heap at).refs slot Nil

abbrev pub num_at : Heap → ℕ → ℕ → ℕ
num_at heap at index = slice_index (object_at heap at).nums index

-- the heap with another object in that place
abbrev pub with_object : Heap → ℕ → Object → Heap
with_object heap at object = record heap { objects = replace_from 1 heap.objects at object }

abbrev pub with_num : Heap → ℕ → ℕ → ℕ → Heap
with_num heap at index value =
    let object = object_at heap at in
    with_object heap at (record object { nums = slice_set object.nums index value })

abbrev pub with_ref : Heap → ℕ → ℕ → Reference → Heap
with_ref heap at slot to =
    let object = object_at heap at in
    with_object heap at (record object { refs = set object.refs slot to })

-- a new object: references nil, numbers 0
abbrev pub blank : Kind → ℕ → ℕ → ℕ → Object
blank kind refs nums bytes = record {
  header = record { kind = kind; flags = 0; refs = refs; nums = nums; bytes = bytes; pid = 0; chain = 0 };
  refs = replicate refs Nil;
  nums = replicate nums 0;
}

abbrev pub with_new : Heap → Object → Heap
with_new heap object = record heap { objects = heap.objects ++ object ∷ [] }

-- the first object with this PID, of objects that lie from an index on
abbrev pub local_from : ℕ → List Object → ℕ → Option ℕ
local_from at [] pid = None
local_from at (o ∷ os) pid = if pid == o.header.pid then Some at else local_from (at + size_of o) os pid

-- where the object with this PID lies
abbrev pub local_of : Heap → ℕ → Option ℕ
local_of heap pid = local_from 1 heap.objects pid

-- flag bit 0
abbrev pub is_assigned : Object → Bool
is_assigned object = object.header.flags % 2 == 1

-- flag bit 1
abbrev pub is_reached : Object → Bool
is_reached object = object.header.flags / 2 % 2 == 1

-- 1 for an object that has a flag
abbrev pub marked_one : (Object → Bool) → Object → ℕ
marked_one has object = if has object then 1 else 0

abbrev pub sum_of : (Object → ℕ) → List Object → ℕ
sum_of f [] = 0
sum_of f (o ∷ os) = f o + sum_of f os

-- how many have it
abbrev pub marked_in : (Object → Bool) → List Object → ℕ
marked_in has os = sum_of (marked_one has) os

-- the index stands in the list
abbrev pub IsListed : ℕ → List ℕ → Type 0
IsListed at [] = ⊥
IsListed at (i ∷ is) = (at ≡ i) ⊎ IsListed at is

-- no index stands in the list twice
abbrev pub AreOnce : List ℕ → Type 0
AreOnce [] = Unit {0}
AreOnce (i ∷ is) = (IsListed i is → ⊥) × AreOnce is

-- an object that has a flag begins there
pub record IsMarked (has : Object → Bool) (objects : List Object) (at : ℕ) : Type 0 where
  pub object : Object
  pub is : find_from 1 objects at ≡ Some object
  pub flag : has object ≡ true

-- The list has exactly the objects that have a flag, each once.
pub record AreNoted (has : Object → Bool) (objects : List Object) (list : List ℕ) : Type 0 where
  pub counted : length list ≡ marked_in has objects
  pub once : AreOnce list
  pub marked : (at : ℕ) → IsListed at list → IsMarked has objects at
  pub listed : (at : ℕ) → IsMarked has objects at → IsListed at list

-- each reference of the object into the area is to an object there
abbrev pub IsInside : Heap → Object → Type 0
IsInside heap object = (slot to : ℕ) → get_or object.refs slot Nil ≡ Local to → IsHeld heap to

-- what is so of every heap
pub record IsHeap (heap : Heap) : Type 0 where
  pub fit : AreFit heap.objects
  pub within : top_of heap ≤ heap.size
  pub small : heap.size ≤ 2 ^ 25 + 1
  -- no two objects have one PID
  pub one : (at : ℕ) (object : Object) → found heap at ≡ Some object → 1 ≤ object.header.pid → local_of heap object.header.pid ≡ Some at
  pub inside : (at : ℕ) (object : Object) → found heap at ≡ Some object → IsInside heap object
  pub noted : AreNoted is_assigned heap.objects heap.assigned
  pub walked : AreNoted is_reached heap.objects heap.reached

-- a heap without objects
abbrev pub fresh_heap : ℕ → Heap
fresh_heap size = record { objects = []; size = size; assigned = []; reached = [] }

-- the object that begins there is noted as assigned, once
abbrev pub flagged : Object → Object
flagged object = record object { header = record (object.header) { flags = object.header.flags + 1 } }

abbrev pub with_mark : Heap → ℕ → Heap
with_mark heap at =
    let object = object_at heap at in
    if is_assigned object then heap else record heap {
      objects = replace_from 1 heap.objects at (flagged object);
      assigned = heap.assigned ++ at ∷ [];
    }

-- no object is assigned
abbrev pub unflagged : Object → Object
unflagged object = record object { header = record (object.header) { flags = object.header.flags - 1 } }

abbrev pub without_mark : Object → Object
without_mark object = if is_assigned object then unflagged object else object

abbrev pub with_no_marks : Heap → Heap
with_no_marks heap = record heap { objects = map without_mark heap.objects; assigned = [] }

-- the object that begins there is noted as reached, once
abbrev pub reach_flagged : Object → Object
reach_flagged object = record object { header = record (object.header) { flags = object.header.flags + 2 } }

abbrev pub with_reach : Heap → ℕ → Heap
with_reach heap at =
    let object = object_at heap at in
    if is_reached object then heap else record heap {
      objects = replace_from 1 heap.objects at (reach_flagged object);
      reached = heap.reached ++ at ∷ [];
    }

-- no object is noted as reached
abbrev pub reach_unflagged : Object → Object
reach_unflagged object = record object { header = record (object.header) { flags = object.header.flags - 2 } }

abbrev pub without_reach : Object → Object
without_reach object = if is_reached object then reach_unflagged object else object

abbrev pub with_none_reached : Heap → Heap
with_none_reached heap = record heap { objects = map without_reach heap.objects; reached = [] }

-- An object stays where it is, with its header but for its flags and its chain.
pub record Stand (old new : Heap) (at : ℕ) : Type 0 where
  pub held : IsHeld new at
  pub kind : (header_at new at).kind ≡ (header_at old at).kind
  pub refs : (header_at new at).refs ≡ (header_at old at).refs
  pub nums : (header_at new at).nums ≡ (header_at old at).nums
  pub bytes : (header_at new at).bytes ≡ (header_at old at).bytes
  pub pid : (header_at new at).pid ≡ (header_at old at).pid

-- so do all
abbrev pub Stands : Heap → Heap → Type 0
Stands old new = (at : ℕ) → IsHeld old at → Stand old new at

-- the reference to an object of the area, or to none
abbrev pub reference_to : Option ℕ → Reference
reference_to None = Nil
reference_to (Some at) = Local at

-- The object was made at the heap's end, where there was room for it, and all else stays.
pub record IsMade (old new : Heap) (at : ℕ) (object : Object) : Type 0 where
  pub room : top_of old + size_of object ≤ old.size
  pub place : at ≡ top_of old
  pub made : new ≡ with_new old object

-- There is no room for so many words, and the heap stays.
pub record IsFull (old new : Heap) (wanted : ℕ) (fault : SwizzleFault) : Type 0 where
  pub full : old.size < top_of old + wanted
  pub fault_is : fault ≡ AreaFull (top_of old) wanted old.size
  pub stays : new ≡ old
