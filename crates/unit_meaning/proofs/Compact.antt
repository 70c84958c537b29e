-- A heap for which a space stands and all of whose ids are reached: each procedure in it has a unit, and nothing in it is unreached.
use Rattle.std.proofs.Common.{◌≡◌, ℕ, zero, suc, ◌<◌, [], ◌∷◌, length, refl, sym, ap, ◌∙◌, subst, arith, Some}
use Rattle.std.specs.List.{AllByRecursion}
use Rattle.ps_heap.specs.Objects.{Heap, Object, Structure, Elements, Scope, Keyed, object_at}
use Rattle.ps_heap.specs.References.{values_of}
use Rattle.ps_heap.specs.Held.{StoredHeap}
use Rattle.fit_soundness.specs.Cleaned.{cleaned}
use Rattle.fit_soundness.specs.heap_fit.Heaps.{IsFitHeap}
use Rattle.fit_soundness.proofs.Cleaning.{cleaned_long, cleaned_same}
use Rattle.ps_code_laws.specs.Literals.{HasUnits, HaveUnits}
use Rattle.space_meaning.specs.heap_meaning.obj_layout.Stored.{Space}
use Rattle.space_meaning.specs.heap_meaning.swizzle.Joint.{Shown}
use Rattle.space_meaning.specs.heap_meaning.Standing.{Seen, Pairing}
use Rattle.space_meaning.specs.heap_meaning.Paired.{paired}
use Rattle.space_meaning.specs.Space.{SeenIn}
use Rattle.space_meaning.specs.Stands.{IsThing, SpaceStands}
use Rattle.joint_begun.specs.Beginning.{IsCompact}
use Rattle.joint_begun.proofs.ReachedLaws.{reached-pid}
use Rattle.unit_meaning.proofs.Objects.{InObject, in_table}

some_same : {A : Type 0} {a b : A} → Some a ≡ Some b → a ≡ b
some_same e = cc

thing_units : (seen : Seen) (pair : Pairing) (it : Shown) (object : Object) → IsThing seen pair it object → InObject object
thing_units seen pair it (Structure class fields) t = t.1
thing_units seen pair it (Elements ty low elements) t = t.1
thing_units seen pair it (Scope text parent names) t = t.1
thing_units seen pair it (Keyed table) t = in_table table

all_at : (P : Object → Type 0) (heap : Heap) → ((id : ℕ) (object : Object) → id < length heap → object_at heap id ≡ Some object → P object) → AllByRecursion P heap
all_at P [] h = tt
all_at P (object ∷ heap) h = (h zero object (omega arith) refl, all_at P heap (λ id other low e. h (suc id) other (omega (arith, low)) e))

-- each object has a PID, under which it is seen as one whose procedures have units
pub compact_units : (space : Space) (heap : StoredHeap) → SpaceStands space heap → IsCompact heap → HaveUnits heap.objects
compact_units space heap stands compact = all_at (λ (object : Object). AllByRecursion HasUnits (values_of object)) heap.objects (λ id object low e.
    let there = reached-pid space stands.names heap stands.stands id (compact id low) in
    let both = stands.stands.both there.pid id there.named in
    subst InObject (some_same (sym both.means ∙ e)) (thing_units (SeenIn space) (paired stands.names) both.it both.object both.like))

same_objects : (xs ys : Heap) → length xs ≡ length ys → ((id : ℕ) → id < length ys → object_at xs id ≡ object_at ys id) → xs ≡ ys
same_objects [] [] long h = refl
same_objects [] (y ∷ ys) long h = absurd (omega (arith, long))
same_objects (x ∷ xs) [] long h = absurd (omega (arith, long))
same_objects (x ∷ xs) (y ∷ ys) long h =
    let first : x ≡ y = some_same (h zero (omega arith)) in
    let rest : xs ≡ ys = same_objects xs ys (omega (arith, long)) (λ id low. h (suc id) (omega (arith, low))) in
    cc

pub cleaned_is : (heap : StoredHeap) → IsFitHeap heap → IsCompact heap → cleaned heap ≡ heap
cleaned_is heap fit compact =
    ap (λ (objects : Heap). record heap { objects = objects })
    (same_objects (cleaned heap).objects heap.objects (cleaned_long heap) (λ id low. cleaned_same heap fit id (compact id low)))
