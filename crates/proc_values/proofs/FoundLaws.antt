-- Where the objects of a unit are found.
use Rattle.std.proofs.Common.{◌≡◌, ℕ, zero, suc, ◌+◌, List, [], ◌∷◌, ◌++◌, sym, ap, ◌∙◌, subst, arith, append_assoc, Some}
use Rattle.std.proofs.lemmas.List.{append-nil}
use Rattle.ps_base.specs.CodeUnit.{unit, ConstantView, text, literal, ConstantsView, no_constants, constant_then}
use Rattle.ps_base.specs.declared.code_unit.Frame.{Frame}
use Rattle.heap_texts.specs.obj_layout.declared.reference.Reference.{Reference}
use Rattle.heap_texts.specs.obj_layout.declared.reference.Reference.TheVariants.{Nil, Pid, Local}
use Rattle.heap_texts.specs.swizzle.Objects.{Object, size_of, size_of_all, find_from}
use Rattle.heap_texts.specs.swizzle.Heap.{Heap, IsHeld, found, with_new}
use Rattle.heap_texts.proofs.of_swizzle.ObjectLaws.{here, elsewhere, size_of_all-append}
use Rattle.heap_texts.proofs.of_swizzle.HeapLaws.{held-new}
use Rattle.heap_texts.specs.Texts.{text_object}
use Rattle.proc_values.specs.Units.{code_object, unit_objects, constants_objects, constant_objects, constants_places, constant_place, constant_words, unit_place}
use Rattle.proc_values.specs.inside.Loading.{AreLoaded, AreHeld}
use Rattle.proc_values.proofs.UnitLaws.{size-constant, size-constants}

pub find-at : (at : ℕ) (os : List Object) (o : Object) (rest : List Object) → find_from at (os ++ o ∷ rest) (at + size_of_all os) ≡ Some o
find-at at [] o rest = here (at + 0) at (Some o) (find_from (at + size_of o) rest (at + 0)) (omega arith)
find-at at (p ∷ os) o rest =
    let place : at + size_of_all (p ∷ os) ≡ at + size_of p + size_of_all os = omega arith in
    elsewhere (at + size_of_all (p ∷ os)) at (Some p) (find_from (at + size_of p) (os ++ o ∷ rest) (at + size_of_all (p ∷ os)))
    (λ (q : at + size_of_all (p ∷ os) ≡ at). omega arith)
    ∙ ap (find_from (at + size_of p) (os ++ o ∷ rest)) place
    ∙ find-at (at + size_of p) os o rest

-- These objects lie in the heap from an index on.
pub record Lie (heap : Heap) (at : ℕ) (objects : List Object) : Type 0 where
  pub front : List Object
  pub back : List Object
  pub are : heap.objects ≡ front ++ (objects ++ back)
  pub from : at ≡ 1 + size_of_all front

pub lie-found : (heap : Heap) (at place : ℕ) (before : List Object) (o : Object) (behind : List Object) → Lie heap at (before ++ o ∷ behind)
    → place ≡ at + size_of_all before → found heap place ≡ Some o
lie-found heap at place before o behind l e =
    let whole : heap.objects ≡ (l.front ++ before) ++ o ∷ (behind ++ l.back) =
    l.are ∙ ap (λ (os : List Object). l.front ++ os) (append_assoc before (o ∷ behind) l.back) ∙ sym (append_assoc l.front before (o ∷ (behind ++ l.back))) in
    let index : place ≡ 1 + size_of_all (l.front ++ before) = omega (arith, l.from, size_of_all-append l.front before) in
    ap (found heap) index
    ∙ ap (λ (os : List Object). find_from 1 os (1 + size_of_all (l.front ++ before))) whole
    ∙ find-at 1 (l.front ++ before) o (behind ++ l.back)

pub lie-first : (heap : Heap) (at : ℕ) (os ps : List Object) → Lie heap at (os ++ ps) → Lie heap at os
lie-first heap at os ps l = record {
  front = l.front;
  back = ps ++ l.back;
  are = l.are ∙ ap (λ (r : List Object). l.front ++ r) (append_assoc os ps l.back);
  from = l.from;
}

pub lie-rest : (heap : Heap) (at to : ℕ) (os ps : List Object) → Lie heap at (os ++ ps) → to ≡ at + size_of_all os → Lie heap to ps
lie-rest heap at to os ps l e = record {
  front = l.front ++ os;
  back = l.back;
  are = l.are ∙ ap (λ (r : List Object). l.front ++ r) (append_assoc os ps l.back) ∙ sym (append_assoc l.front os (ps ++ l.back));
  from = omega (arith, l.from, size_of_all-append l.front os);
}

-- The object of a unit, and of a constant, whose objects lie from an index on.

pub unit_found : (heap : Heap) (at : ℕ) (code : List ℕ) (cs : ConstantsView) (frame : Frame) → Lie heap at (unit_objects at (unit code cs frame))
    → found heap (unit_place at (unit code cs frame)) ≡ Some (code_object code frame (constants_places at cs))
unfolding unit_objects unit_place
unit_found heap at code cs frame l =
    lie-found heap at (unit_place at (unit code cs frame)) (constants_objects at cs) (code_object code frame (constants_places at cs)) [] l
    (omega (arith, size-constants at cs))

pub text_found : (heap : Heap) (at : ℕ) (bytes : List ℕ) → Lie heap at (constant_objects at (text bytes))
    → found heap (constant_place at (text bytes)) ≡ Some (text_object bytes)
unfolding constant_objects constant_place
text_found heap at bytes l = lie-found heap at at [] (text_object bytes) [] l (omega arith)

pub place-held : (heap : Heap) (at : ℕ) (c : ConstantView) → Lie heap at (constant_objects at c) → IsHeld heap (constant_place at c)
unfolding constant_objects constant_place
place-held heap at (text bytes) l = record { object = text_object bytes; is = text_found heap at bytes l }
place-held heap at (literal (unit code cs frame)) l = record {
  object = code_object code frame (constants_places at cs);
  is =
      unit_found heap at code cs frame l;
}

place_in : Reference → ℕ
place_in Nil = 0
place_in (Pid pid) = 0
place_in (Local at) = at

pub places-held : (heap : Heap) (at : ℕ) (cs : ConstantsView) → Lie heap at (constants_objects at cs) → AreHeld heap (constants_places at cs)
unfolding constants_objects constants_places place_in
places-held heap at no_constants l slot to e = absurd (cc)
places-held heap at (constant_then c cs) l zero to e =
    subst (IsHeld heap) (ap place_in e) (place-held heap at c (lie-first heap at (constant_objects at c) (constants_objects (at + constant_words c) cs) l))
places-held heap at (constant_then c cs) l (suc slot) to e =
    let behind = lie-rest heap at (at + constant_words c) (constant_objects at c) (constants_objects (at + constant_words c) cs) l
    (omega (arith, size-constant at c)) in
    places-held heap (at + constant_words c) cs behind slot to e

-- the places of constants that were loaded are held, also when more has come
pub loaded-held : (heap : Heap) (first : ℕ) (cs : ConstantsView) → AreLoaded heap first cs → AreHeld heap (constants_places first cs)
loaded-held heap first cs l =
    places-held heap first cs (record {
      front = l.before.objects;
      back = [];
      are = ap (λ (h : Heap). h.objects) l.are ∙ ap (λ (os : List Object). l.before.objects ++ os) (sym (append-nil (constants_objects first cs)));
      from = l.first_is;
    })

pub held-more : (heap new : Heap) (o : Object) (refs : List Reference) → new ≡ with_new heap o → AreHeld heap refs → AreHeld new refs
held-more heap new o refs e h slot to is = subst (λ (x : Heap). IsHeld x to) (sym e) (held-new heap o to (h slot to is))
