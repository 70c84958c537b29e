-- What was loaded is read.
use Rattle.std.proofs.Common.{◌≡◌, ℕ, ◌+◌, List, [], ◌∷◌, ◌++◌, map, slice_index, refl, sym, ap, ◌∙◌, subst, arith, Option, Some, unwrap_or}
use Rattle.std.specs.Prelude.{Result, Ok, Err, IfOk}
use Rattle.std.proofs.lemmas.List.{append-nil}
use Rattle.ps_base.specs.CodeUnit.{UnitView, unit, ConstantView, text, literal, ConstantsView, no_constants, constant_then}
use Rattle.ps_base.specs.declared.code_unit.Frame.{Frame}
use Rattle.heap_texts.specs.obj_layout.declared.reference.Reference.{Reference}
use Rattle.heap_texts.specs.swizzle.declared.fault.SwizzleFault.{SwizzleFault}
use Rattle.heap_texts.specs.swizzle.Objects.{Object}
use Rattle.heap_texts.specs.swizzle.Heap.{Heap, IsHeld, found, object_at, nothing, top_of}
use Rattle.heap_texts.specs.swizzle.Joint.{name_of, shown_at}
use Rattle.heap_texts.specs.swizzle.Text.{text_of}
use Rattle.heap_texts.specs.Texts.{text_object}
use Rattle.proc_values.specs.Units.{code_object, count_of, unit_objects, constants_objects, constant_objects, constants_places, constant_place, constant_words, unit_place, Loads}
use Rattle.proc_values.specs.Loaded.{IsText, IsCode, IsUnit, AreNamed, IsConstant, IsFitUnit, AreFitConstants, IsFitConstant}
use Rattle.proc_values.proofs.UnitLaws.{size-constant, length-places}
use Rattle.proc_values.proofs.FoundLaws.{Lie, lie-first, lie-rest, unit_found, text_found, place-held}
use Rattle.proc_values.proofs.WrittenLaws.{text-of_text, text-of_code, frame-of_code}

object_is : (heap : Heap) (at : ℕ) (o : Object) → found heap at ≡ Some o → object_at heap at ≡ o
object_is heap at o e = ap (λ (x : Option Object). unwrap_or x nothing) e

text_is : (heap : Heap) (at : ℕ) (bytes : List ℕ) → IsFitConstant (text bytes) → found heap at ≡ Some (text_object bytes) → IsText heap at bytes
unfolding IsFitConstant text_object
text_is heap at bytes good e =
    let it = object_is heap at (text_object bytes) e in
    record {
      held = record { object = text_object bytes; is = e };
      kind = ap (λ (o : Object). o.header.kind) it;
      bytes_are = ap text_of it ∙ text-of_text bytes good;
    }

code_is : (heap : Heap) (at : ℕ) (code : List ℕ) (frame : Frame) (cs : ConstantsView) (first : ℕ) → IsFitUnit (unit code cs frame)
    → found heap at ≡ Some (code_object code frame (constants_places first cs)) → IsCode heap at code frame (count_of cs)
unfolding IsFitUnit code_object
code_is heap at code frame cs first fit e =
    let places = constants_places first cs in
    let it = object_is heap at (code_object code frame places) e in
    record {
      held = record { object = code_object code frame places; is = e };
      kind = ap (λ (o : Object). o.header.kind) it;
      code_is = ap text_of it ∙ text-of_code code frame places fit.0;
      frame_is = ap (λ (o : Object). slice_index o.nums 1) it ∙ frame-of_code code frame places fit.1;
      count_is = ap (λ (o : Object). o.header.refs) it ∙ length-places first cs;
    }

names_are : (heap : Heap) (at : ℕ) (code : List ℕ) (frame : Frame) (places : List Reference) → found heap at ≡ Some (code_object code frame places)
    → (shown_at heap at).refs ≡ map (name_of heap) places
unfolding code_object
names_are heap at code frame places e = ap (λ (o : Object). map (name_of heap) o.refs) (object_is heap at (code_object code frame places) e)

mutual
  unfolding IsUnit IsFitUnit unit_objects

  pub unit-is : (heap : Heap) (at : ℕ) (u : UnitView) → IsFitUnit u → Lie heap at (unit_objects at u) → IsUnit heap (unit_place at u) u
  unit-is heap at (unit code cs frame) fit l =
      let place = unit_place at (unit code cs frame) in
      let e = unit_found heap at code cs frame l in
      let last = code_object code frame (constants_places at cs) ∷ [] in
      let named = named-are heap at cs fit.2 (lie-first heap at (constants_objects at cs) last l) in (
        code_is heap place code frame cs at fit e,
        subst (λ (names : List Reference). AreNamed heap names cs)
            (sym (names_are heap place code frame (constants_places at cs) e)) named,
      )

  named-are : (heap : Heap) (at : ℕ) (cs : ConstantsView) → AreFitConstants cs → Lie heap at (constants_objects at cs)
      → AreNamed heap (map (name_of heap) (constants_places at cs)) cs
  named-are heap at no_constants fit l = tt
  named-are heap at (constant_then c cs) fit l =
      let behind = constants_objects (at + constant_words c) cs in
      let here = lie-first heap at (constant_objects at c) behind l in
      let rest = lie-rest heap at (at + constant_words c) (constant_objects at c) behind l (omega (arith, size-constant at c)) in
      ((constant_place at c, (place-held heap at c here, refl), constant-is heap at c fit.0 here), named-are heap (at + constant_words c) cs fit.1 rest)

  constant-is : (heap : Heap) (at : ℕ) (c : ConstantView) → IsFitConstant c → Lie heap at (constant_objects at c) → IsConstant heap (constant_place at c) c
  constant-is heap at (text bytes) fit l = text_is heap at bytes fit (text_found heap at bytes l)
  constant-is heap at (literal u) fit l = unit-is heap at u fit l

-- the objects of what was loaded
lies-loaded : (old new : Heap) (os : List Object) (e : new ≡ record old { objects = old.objects ++ os }) → Lie new (top_of old) os
lies-loaded old new os e = record {
  front = old.objects;
  back = [];
  are = ap (λ (h : Heap). h.objects) e ∙ ap (λ (r : List Object). old.objects ++ r) (sym (append-nil os));
  from = refl;
}

pub loaded-is : (old new : Heap) (u : UnitView) (at : ℕ) → IsFitUnit u → Loads old new u (Ok at) → IsUnit new at u
loaded-is old new u at fit l =
    subst (λ (i : ℕ). IsUnit new i u) (sym l.1) (unit-is new (top_of old) u fit (lies-loaded old new (unit_objects (top_of old) u) l.0))

-- its slots are the places of its constants
pub loaded-slots : (old new : Heap) (code : List ℕ) (cs : ConstantsView) (frame : Frame) (at : ℕ) → Loads old new (unit code cs frame) (Ok at)
    → (object_at new at).refs ≡ constants_places (top_of old) cs
unfolding code_object
loaded-slots old new code cs frame at l =
    let e = unit_found new (top_of old) code cs frame (lies-loaded old new (unit_objects (top_of old) (unit code cs frame)) l.0) in
    ap (λ (i : ℕ). (object_at new i).refs) l.1
    ∙ ap (λ (o : Object). o.refs) (object_is new (unit_place (top_of old) (unit code cs frame)) (code_object code frame (constants_places (top_of old) cs)) e)

-- it is held
pub loads-held : (old new : Heap) (u : UnitView) (result : Result ℕ SwizzleFault) → Loads old new u result → IfOk result (IsHeld new)
loads-held old new (unit code cs frame) (Ok at) l =
    let os = unit_objects (top_of old) (unit code cs frame) in
    let e = unit_found new (top_of old) code cs frame (lies-loaded old new os l.0) in
    subst (IsHeld new) (sym l.1) (record { object = code_object code frame (constants_places (top_of old) cs); is = e })
loads-held old new u (Err fault) l = tt
