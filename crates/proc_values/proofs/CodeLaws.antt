-- The code object, as it is made and written.
use Rattle.std.proofs.Common.{◌≡◌, ℕ, suc, ◌+◌, ◌<◌, ◌≤◌, ◌^◌, List, ◌∷◌, length, set, replicate, sym, ap, ◌∙◌, subst, arith}
use Rattle.ps_base.specs.CodeUnit.{ConstantsView, constants_view}
use Rattle.ps_base.specs.declared.code_unit.Constant.{Constant}
use Rattle.ps_base.specs.declared.code_unit.Frame.{Frame}
use Rattle.heap_texts.specs.obj_area.Area.{words_spanned}
use Rattle.heap_texts.specs.obj_layout.declared.kind.Kind.TheVariants.{Code}
use Rattle.heap_texts.specs.obj_layout.declared.reference.Reference.{Reference}
use Rattle.heap_texts.specs.swizzle.declared.fault.SwizzleFault.{SwizzleFault}
use Rattle.heap_texts.specs.swizzle.Objects.{Object, size_of}
use Rattle.heap_texts.specs.swizzle.Heap.{Heap, IsHeap, IsHeld, IsMade, IsFull, blank, top_of, object_at, header_at, with_new, with_object, with_num}
use Rattle.heap_texts.specs.swizzle.Text.{with_bytes_at, with_text}
use Rattle.heap_texts.proofs.of_swizzle.JointLaws.{held-top, object-top}
use Rattle.heap_texts.specs.Texts.{wanted_of}
use Rattle.proc_values.specs.Units.{code_nums, code_object, frame_word, constants_objects, constants_places, constants_words}
use Rattle.proc_values.specs.inside.Loading.{AreLoaded}
use Rattle.proc_values.proofs.UnitLaws.{count-view, count-le, length-places, size-constants, size-code}
use Rattle.heap_texts.proofs.of_swizzle.MadeLaws.{object-new}
use Rattle.proc_values.proofs.LoadLaws.{top-all}

-- What is known where the constants were loaded.

pub loaded-words : (heap : Heap) (first : ℕ) (cs : ConstantsView) → AreLoaded heap first cs → top_of heap ≡ first + constants_words cs
loaded-words heap first cs l = omega (arith, ap top_of l.are, top-all l.before (constants_objects first cs), size-constants first cs, l.first_is)

pub loaded-small : (heap : Heap) (first : ℕ) (cs : ConstantsView) → IsHeap heap → AreLoaded heap first cs → first + constants_words cs ≤ 2 ^ 25 + 1
loaded-small heap first cs h l = omega (arith, loaded-words heap first cs l, h.within, h.small)

pub loaded-few : (heap : Heap) (first : ℕ) (xs : List Constant) → IsHeap heap → AreLoaded heap first (constants_view xs) → length xs < 2 ^ 32
loaded-few heap first xs h l = omega (arith, loaded-small heap first (constants_view xs) h l, count-le (constants_view xs), count-view xs)

-- The object, written step by step.

last-written : (heap mid new : Heap) (o : Object) (at : ℕ) (change : Object → Object) → mid ≡ with_new heap o → at ≡ top_of heap
    → new ≡ with_object mid at (change (object_at mid at)) → new ≡ with_new heap (change o)
last-written heap mid new o at change e place is =
    is
    ∙ ap (λ (h : Heap). with_object h at (change (object_at h at))) e
    ∙ ap (λ (i : ℕ). with_object (with_new heap o) i (change (object_at (with_new heap o) i))) place
    ∙ ap (λ (p : Object). with_object (with_new heap o) (top_of heap) (change p)) (object-top heap o)
    ∙ object-new heap o (change o)

abbrev pub framed : ℕ → ℕ → ℕ → Object
framed constants bytes word = record (blank Code constants (code_nums bytes) bytes) { nums = set (replicate (code_nums bytes) 0) 1 word }

abbrev pub spelled : ℕ → ℕ → ℕ → List ℕ → Object
spelled constants bytes word code = with_bytes_at (framed constants bytes word) 0 code

framed_nums : (n word : ℕ) → set (replicate (2 + n) 0) 1 word ≡ 0 ∷ word ∷ replicate n 0
framed_nums n word = let e : 2 + n ≡ suc (suc n) = omega arith in ap (λ (k : ℕ). set (replicate k 0) 1 word) e

code_by : List ℕ → ℕ → List Reference → List ℕ → Object
code_by code count refs nums = with_bytes_at (record (blank Code count (code_nums (length code)) (length code)) { refs = refs; nums = nums }) 0 code

pub code-written : (constants : ℕ) (code : List ℕ) (frame : Frame) (places : List Reference) → constants ≡ length places
    → record (spelled constants (length code) (frame_word frame) code) { refs = places } ≡ code_object code frame places
unfolding code_object code_by
code-written constants code frame places e =
    ap (λ (ns : List ℕ). code_by code constants places ns) (framed_nums (words_spanned (length code)) (frame_word frame))
    ∙ ap (λ (n : ℕ). code_by code n places (0 ∷ frame_word frame ∷ replicate (words_spanned (length code)) 0)) e

-- the heap after each step
pub after-num : (heap mid new : Heap) (at constants bytes word : ℕ) → IsMade heap mid at (blank Code constants (code_nums bytes) bytes)
    → new ≡ with_num mid at 1 word → new ≡ with_new heap (framed constants bytes word)
after-num heap mid new at constants bytes word m e =
    last-written heap mid new (blank Code constants (code_nums bytes) bytes) at (λ (o : Object). record o { nums = set o.nums 1 word }) m.made m.place e

pub after-text : (heap mid new : Heap) (at constants bytes word : ℕ) (code : List ℕ) → at ≡ top_of heap → mid ≡ with_new heap (framed constants bytes word)
    → new ≡ with_text mid at 0 code → new ≡ with_new heap (spelled constants bytes word code)
after-text heap mid new at constants bytes word code place m e =
    last-written heap mid new (framed constants bytes word) at (λ (o : Object). with_bytes_at o 0 code) m place e

pub after-both : (heap blank_one mid new : Heap) (at constants bytes word written : ℕ) (code : List ℕ)
    → IsMade heap blank_one at (blank Code constants (code_nums bytes) bytes) → mid ≡ with_num blank_one at 1 written → written ≡ word
    → new ≡ with_text mid at 0 code → new ≡ with_new heap (spelled constants bytes word code)
after-both heap blank_one mid new at constants bytes word written code m e same f =
    after-text heap mid new at constants bytes word code m.place (after-num heap blank_one mid at constants bytes word m
    (e ∙ ap (with_num blank_one at 1) same)) f

pub after-link : (heap mid new : Heap) (at constants bytes word : ℕ) (code : List ℕ) (places : List Reference) → at ≡ top_of heap
    → mid ≡ with_new heap (spelled constants bytes word code)
    → new ≡ with_object mid at (record (object_at mid at) { refs = places })
    → new ≡ with_new heap (record (spelled constants bytes word code) { refs = places })
after-link heap mid new at constants bytes word code places place m e =
    last-written heap mid new (spelled constants bytes word code) at (λ (o : Object). record o { refs = places }) m place e

-- What is asked at each step.

pub last-held : (heap mid : Heap) (o : Object) (at : ℕ) → mid ≡ with_new heap o → at ≡ top_of heap → IsHeld mid at
last-held heap mid o at e place = subst (λ (h : Heap). IsHeld h at) (sym e) (subst (IsHeld (with_new heap o)) (sym place) (held-top heap o))

pub last-object : (heap mid : Heap) (o : Object) (at : ℕ) → mid ≡ with_new heap o → at ≡ top_of heap → object_at mid at ≡ o
last-object heap mid o at e place = ap (λ (h : Heap). object_at h at) e ∙ ap (object_at (with_new heap o)) place ∙ object-top heap o

pub last-header : (heap mid : Heap) (o : Object) (at : ℕ) → mid ≡ with_new heap o → at ≡ top_of heap → header_at mid at ≡ o.header
last-header heap mid o at e place = ap (λ (p : Object). p.header) (last-object heap mid o at e place)

-- The code object was made, and all of it was written.
pub code-made : (heap mid last new : Heap) (at first : ℕ) (code from : List ℕ) (xs : List Constant) (frame : Frame)
    → IsMade heap mid at (blank Code (length xs) (code_nums (length from)) (length from)) → from ≡ code
    → last ≡ with_new heap (spelled (length xs) (length from) (frame_word frame) from)
    → new ≡ with_object last at (record (object_at last at) { refs = constants_places first (constants_view xs) })
    → IsMade heap new at (code_object code frame (constants_places first (constants_view xs)))
code-made heap mid last new at first code from xs frame m e l n =
    let places = constants_places first (constants_view xs) in
    let count : length xs ≡ length places = sym (length-places first (constants_view xs) ∙ count-view xs) in
    let same : code_object from frame places ≡ code_object code frame places = ap (λ (c : List ℕ). code_object c frame places) e in
    record {
      room = omega (arith, m.room, size-code code frame places, count, ap length e);
      place = m.place;
      made = after-link heap last new at (length xs) (length from) (frame_word frame) from places m.place l n
          ∙ ap (with_new heap) (code-written (length xs) from frame places count ∙ same);
    }

-- There was no room for it.
pub code-full : (heap new : Heap) (first : ℕ) (code from : List ℕ) (xs ys : List Constant) (frame : Frame) (fault : SwizzleFault) → from ≡ code → xs ≡ ys
    → IsFull heap new (wanted_of (4 + length xs + code_nums (length from))) fault
    → IsFull heap new (wanted_of (size_of (code_object code frame (constants_places first (constants_view ys))))) fault
code-full heap new first code from xs ys frame fault e f is =
    let places = constants_places first (constants_view ys) in
    let size : 4 + length xs + code_nums (length from) ≡ size_of (code_object code frame places) =
    omega (arith, size-code code frame places, length-places first (constants_view ys), count-view ys, ap length e, ap length f) in
    subst (λ (n : ℕ). IsFull heap new (wanted_of n) fault) size is
