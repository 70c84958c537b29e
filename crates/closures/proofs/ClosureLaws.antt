-- Closures that are made, and the slots of one that are read.
use Rattle.std.proofs.Common.{inr, ◌≡◌, ℕ, ◌<◌, set, replicate, Option, Some, None, refl, ap, arith}
use Rattle.std.specs.Prelude.{Result, Ok, Err, IfOk, IfErr, OnOk}
use Rattle.heap_places.specs.ps_outside.Outside.{Outside}
use Rattle.heap_places.specs.obj_layout.Stored.{Space}
use Rattle.heap_places.specs.obj_layout.declared.kind.Kind.TheVariants.{Closure}
use Rattle.heap_places.specs.obj_layout.declared.reference.Reference.{Reference}
use Rattle.heap_places.specs.obj_layout.declared.reference.Reference.TheVariants.{Nil, Pid, Local}
use Rattle.heap_places.specs.swizzle.declared.fault.SwizzleFault.{SwizzleFault}
use Rattle.heap_places.specs.swizzle.Objects.{Object}
use Rattle.heap_places.specs.swizzle.Heap.{Heap, IsHeap, IsHeld, IsMade, top_of, header_at, ref_at, with_ref, reference_to, blank}
use Rattle.heap_places.specs.swizzle.Joint.{shown_at, name_of}
use Rattle.heap_places.specs.swizzle.Changes.{Touched}
use Rattle.heap_places.specs.swizzle.Touch.{Denotes, Keeps, Only, IsNear, IsTouchCall, IsTouchFault}
use Rattle.heap_places.specs.swizzle.Reading.{joint}
use Rattle.heap_places.proofs.of_swizzle.NameLaws.{name-not_nil}
use Rattle.heap_places.proofs.of_swizzle.ReadingLaws.{fails-touch}
use Rattle.heap_places.proofs.PlaceLaws.{refs_below, reads-slot, denotes-slot}
use Rattle.heap_places.proofs.FillingLaws.{roomy-held, made-ref}
use Rattle.closures.specs.Closures.{closure_damage, closure_of}
use Rattle.closures.specs.inside.Opening.{OpensSlot}
use Rattle.closures.proofs.ShapeLaws.{shaped}

-- Its two slots were written.

pub blank-slots : (old mid : Heap) (at : ℕ) → IsMade old mid at (blank Closure 2 1 0) → (header_at mid at).refs ≡ 2
blank-slots old mid at made = ap (λ (o : Object). o.header.refs) (roomy-held old mid at (blank Closure 2 1 0) made).1

pub closure-made : (old mid ref new : Heap) (at code : ℕ) (scope : Option ℕ) → IsMade old mid at (blank Closure 2 1 0)
    → ref ≡ with_ref mid at 0 (Local code) → new ≡ with_ref ref at 1 (reference_to scope) → IsMade old new at (closure_of code scope)
unfolding closure_of
closure-made old mid ref new at code scope made first second =
    made-ref old ref new at 1 (record (blank Closure 2 1 0) { refs = set (replicate 2 Nil) 0 (Local code) }) (reference_to scope)
    (made-ref old mid ref at 0 (blank Closure 2 1 0) (Local code) made first) second

-- A slot was touched.

pub slot-below : (heap : Heap) (at slot : ℕ) → IsHeap heap → IsHeld heap at → closure_damage (shown_at heap at) ≡ None → slot < 2
    → slot < (header_at heap at).refs
slot-below heap at slot h held none below =
    refs_below heap at slot h held (omega (arith, (shaped (shown_at heap at) Closure 2 1 none).refs_are, below))

ref-nil : (heap : Heap) (r : Reference) → name_of heap r ≡ Nil → r ≡ Nil
ref-nil heap Nil e = refl
ref-nil heap (Pid pid) e = absurd (cc)
ref-nil heap (Local at) e = absurd (name-not_nil heap at e)

pub opens : (old new : Heap) (a b : Outside Space) (at slot : ℕ) (r : Result (Option ℕ) SwizzleFault) → closure_damage (shown_at old at) ≡ None
    → IfOk r (λ to. Denotes new to (name_of old (ref_at old at slot))) → OnOk r (Keeps old new)
    → OnOk r (Touched (joint old a) (joint new b) (name_of old (ref_at old at slot)))
    → ((to : Option ℕ) → ref_at old at slot ≡ reference_to to → new ≡ old)
    → (IsNear old (name_of old (ref_at old at slot)) → top_of new ≡ top_of old) → OnOk r (Only old new (name_of old (ref_at old at slot)))
    → IsTouchCall old new a b r → IfErr r (IsTouchFault old a (ref_at old at slot)) → OpensSlot old new a b at slot r
opens old new a b at slot (Ok (Some part)) shape target keeps touched still near only call fault = record {
  shape = shape;
  denotes = denotes-slot old new at slot (Some part) target;
  reads = reads-slot old new a b at slot (Some part) keeps touched near only call;
}
opens old new a b at slot (Ok None) shape target keeps touched still near only call fault = record {
  shape = shape;
  none = denotes-slot old new at slot None target;
  stays = still None (ref-nil old (ref_at old at slot) target);
  reads = reads-slot old new a b at slot None keeps touched near only call;
}
opens old new a b at slot (Err f) shape target keeps touched still near only call fault = (fails-touch old new a b f call, inr (shape, fault))
