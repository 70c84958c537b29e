-- The constants of a code object, and the place of its bytes.
use Rattle.std.proofs.Common.{◌≡◌, ◌≢◌, ℕ, ◌+◌, ◌<◌, ◌^◌, ◌∷◌, length, sym, ap, ◌∙◌, subst, Some, arith}
use Rattle.ps_base.specs.CodeUnit.{UnitView, unit}
use Rattle.heap_texts.specs.obj_layout.declared.header.Header.{Header}
use Rattle.heap_texts.specs.obj_layout.declared.kind.Kind.TheVariants.{Code}
use Rattle.heap_texts.specs.obj_layout.declared.reference.Reference.{Reference}
use Rattle.heap_texts.specs.obj_layout.declared.reference.Reference.TheVariants.{Nil}
use Rattle.heap_texts.specs.swizzle.Objects.{size_of, size_of_all}
use Rattle.heap_texts.specs.swizzle.Heap.{Heap, IsHeap, IsHeld, object_at, header_at, ref_at}
use Rattle.heap_texts.specs.swizzle.Joint.{name_of}
use Rattle.heap_texts.specs.swizzle.Touch.{Denotes}
use Rattle.heap_texts.proofs.of_swizzle.ObjectLaws.{Split, split, size_of_all-append}
use Rattle.heap_texts.proofs.of_swizzle.KeptLaws.{held_is}
use Rattle.heap_texts.proofs.of_swizzle.TextLaws.{length-text}
use Rattle.heap_texts.proofs.of_swizzle.NameLaws.{name-not_nil}
use Rattle.proc_values.specs.declared.reading.CodePlace.{CodePlace}
use Rattle.proc_values.specs.Loaded.{IsUnit, IsUnitPlace}
use Rattle.proc_values.specs.Reading.{HasConstant, IsPlaceOf}

-- what denotes an object isn't nil
pub some_denoted : (old new : Heap) (r : Reference) (at : ℕ) → Denotes new (Some at) (name_of old r) → r ≢ Nil
some_denoted old new r at d e = name-not_nil new at (d.1 ∙ ap (name_of old) e)

pub has_constant : (heap : Heap) (code index : ℕ) (header : Header) → header ≡ header_at heap code → (header_at heap code).kind ≡ Code → index < header.refs
    → ref_at heap code index ≢ Nil → HasConstant heap code index
has_constant heap code index header e kind below some = record {
  kind = kind;
  below = subst (λ (h : Header). index < h.refs) e below;
  some = some;
}

-- The place of the bytes.

parts_at : (heap : Heap) (at : ℕ) → IsHeap heap → IsHeld heap at → Split 1 heap.objects at (object_at heap at)
parts_at heap at h held = split 1 heap.objects at (object_at heap at) h.fit (held_is heap at held)

pub place-fits : (heap : Heap) (code : ℕ) → IsHeap heap → IsHeld heap code → code + 6 + (header_at heap code).refs < 2 ^ 32
place-fits heap code h held =
    let parts = parts_at heap code h held in
    let o = object_at heap code in
    let all : size_of_all heap.objects ≡ size_of_all parts.front + (size_of o + size_of_all parts.back) =
    ap size_of_all parts.is ∙ size_of_all-append parts.front (o ∷ parts.back) in
    omega (arith, parts.place, all, h.within, h.small)

-- it is where the unit says, and the unit's place is that of its object
pub unit-place : (heap : Heap) (at : ℕ) (u : UnitView) (place : CodePlace) → IsHeap heap → IsUnit heap at u → IsPlaceOf heap at place → IsUnitPlace at u place
unfolding IsUnit
unit-place heap at (unit code cs frame) place h is of =
    let fit = (parts_at heap at h of.held).fit in (
      of.first_is ∙ ap (λ (n : ℕ). at + 6 + n) is.0.count_is,
      of.count_is ∙ sym (length-text (object_at heap at) fit) ∙ ap length is.0.code_is,
    )

pub place-of_unit : (heap : Heap) (at : ℕ) (u : UnitView) (place : CodePlace) → IsHeap heap → IsUnit heap at u → IsUnitPlace at u place → IsPlaceOf heap at place
unfolding IsUnit
place-of_unit heap at (unit code cs frame) place h is of =
    let fit = (parts_at heap at h is.0.held).fit in
    record {
      held = is.0.held;
      kind = is.0.kind;
      first_is = of.0 ∙ ap (λ (n : ℕ). at + 6 + n) (sym is.0.count_is);
      count_is = of.1 ∙ sym (ap length is.0.code_is) ∙ length-text (object_at heap at) fit;
    }
