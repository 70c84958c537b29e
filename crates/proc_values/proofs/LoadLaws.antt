-- Objects that are made one after the other.
use Rattle.std.proofs.Common.{◌≡◌, ℕ, ◌+◌, ◌<◌, ◌≤◌, List, [], ◌∷◌, ◌++◌, length, drop, get_or, refl, sym, ap, ◌∙◌, subst, arith, append_assoc}
use Rattle.std.specs.Prelude.{Result, Ok, Err}
use Rattle.std.specs.Result.{IsErrAnd}
use Rattle.std.proofs.lemmas.Result.{err_from_is_err_and}
use Rattle.std.proofs.lemmas.List.{append-nil, drop_all}
use Rattle.ps_base.specs.CodeUnit.{UnitView, unit, ConstantView, text, literal, ConstantsView, constant_view, constants_view, unit_view}
use Rattle.ps_base.specs.declared.code_unit.CodeUnit.{CodeUnit}
use Rattle.ps_base.specs.declared.code_unit.Constant.{Constant, Text}
use Rattle.ps_base.specs.declared.code_unit.Frame.{Frame}
use Rattle.heap_texts.specs.swizzle.declared.fault.SwizzleFault.{SwizzleFault}
use Rattle.heap_texts.specs.swizzle.declared.fault.SwizzleFault.TheVariants.{AreaFull}
use Rattle.heap_texts.specs.swizzle.Objects.{Object, size_of, size_of_all}
use Rattle.heap_texts.specs.swizzle.Heap.{Heap, IsFull, top_of}
use Rattle.heap_texts.proofs.of_swizzle.ObjectLaws.{size_of_all-append}
use Rattle.heap_texts.specs.Texts.{MakesText, text_object, wanted_of}
use Rattle.proc_values.specs.Units.{code_object, constants_objects, constant_objects, constants_places, constant_place, constant_words, unit_objects, unit_place, with_all, IsCut, Loads}
use Rattle.proc_values.specs.inside.Loading.{SoFar, LoadsConstant, own_object, MakesCode}
use Rattle.proc_values.proofs.UnitLaws.{constants_from, view_text, size-text, size-constant, size-constants}

pub all-none : (heap : Heap) → with_all heap [] ≡ heap
all-none heap = ap (λ (os : List Object). record heap { objects = os }) (append-nil heap.objects)

pub all-then : (heap : Heap) (os ps : List Object) → with_all (with_all heap os) ps ≡ with_all heap (os ++ ps)
all-then heap os ps = ap (λ (all : List Object). record heap { objects = all }) (append_assoc heap.objects os ps)

pub top-all : (heap : Heap) (os : List Object) → top_of (with_all heap os) ≡ top_of heap + size_of_all os
top-all heap os = omega (arith, size_of_all-append heap.objects os)

-- after those that were made
pub made-then : (old mid new : Heap) (os ps : List Object) → mid ≡ with_all old os → new ≡ with_all mid ps → new ≡ with_all old (os ++ ps)
made-then old mid new os ps e f = f ∙ ap (λ (h : Heap). with_all h ps) e ∙ all-then old os ps

-- Where a part of the objects is cut, all of them are.
pub cut-behind : (old mid new : Heap) (done objects rest : List Object) (fault : SwizzleFault) → mid ≡ with_all old done → IsCut mid new objects fault
    → IsCut old new (done ++ (objects ++ rest)) fault
cut-behind old mid new done objects rest fault e c = record {
  front = done ++ c.front;
  next = c.next;
  rest = c.rest ++ rest;
  cut =
      ap (λ (os : List Object). done ++ (os ++ rest)) c.cut
      ∙ ap (λ (os : List Object). done ++ os) (append_assoc c.front (c.next ∷ c.rest) rest)
      ∙ sym (append_assoc done c.front (c.next ∷ (c.rest ++ rest)));
  made = made-then old mid new done c.front e c.made;
  full = c.full;
  fault_is = c.fault_is;
}

-- there is no room for the next object
pub cut-full : (old mid new : Heap) (done : List Object) (next : Object) (rest : List Object) (fault : SwizzleFault) → mid ≡ with_all old done
    → IsFull mid new (wanted_of (size_of next)) fault → IsCut old new (done ++ next ∷ rest) fault
cut-full old mid new done next rest fault e f =
    let same = sym f.stays in
    record {
      front = done;
      next = next;
      rest = rest;
      cut = refl;
      made = f.stays ∙ e;
      full = subst (λ (h : Heap). h.size < top_of h + size_of next) same (omega (arith, f.full));
      fault_is = subst (λ (h : Heap). fault ≡ AreaFull (top_of h) (wanted_of (size_of next)) h.size) same f.fault_is;
    }

-- The constants, one after the other.

pub objects_from : (at : ℕ) (xs : List Constant) (i : ℕ) (x d : Constant) → x ≡ get_or xs i d → i < length xs
    → constants_objects at (constants_view (drop i xs)) ≡ constant_objects at (constant_view x) ++ constants_objects (at + constant_words (constant_view x))
    (constants_view (drop (i + 1) xs))
unfolding constants_objects
objects_from at xs i x d is below = ap (constants_objects at) (constants_from xs i x d is below)

objects_none : (at : ℕ) → constants_objects at (constants_view []) ≡ []
unfolding constants_objects constants_view
objects_none at = refl

pub sofar-none : (heap : Heap) (all : List Object) → SoFar heap heap all all
sofar-none heap all = record { done = []; made = sym (all-none heap); all_is = refl }

pub sofar-more : (old mid new : Heap) (all : List Object) (xs : List Constant) (i : ℕ) (x d : Constant) → x ≡ get_or xs i d → i < length xs
    → SoFar old mid all (constants_objects (top_of mid) (constants_view (drop i xs))) → new ≡ with_all mid (constant_objects (top_of mid) (constant_view x))
    → SoFar old new all (constants_objects (top_of new) (constants_view (drop (i + 1) xs)))
sofar-more old mid new all xs i x d is below s e =
    let c = constant_view x in
    let here = constant_objects (top_of mid) c in
    let behind = constants_view (drop (i + 1) xs) in
    let top : top_of mid + constant_words c ≡ top_of new = omega (arith, ap top_of e, top-all mid here, size-constant (top_of mid) c) in
    record {
      done = s.done ++ here;
      made = made-then old mid new s.done here s.made e;
      all_is =
          s.all_is
          ∙ ap (λ (os : List Object). s.done ++ os) (objects_from (top_of mid) xs i x d is below)
          ∙ ap (λ (n : ℕ). s.done ++ (here ++ constants_objects n behind)) top
          ∙ sym (append_assoc s.done here (constants_objects (top_of new) behind));
    }

pub sofar-cut : (old mid new : Heap) (all : List Object) (xs : List Constant) (i : ℕ) (x d : Constant) (fault : SwizzleFault) → x ≡ get_or xs i d
    → i < length xs
    → SoFar old mid all (constants_objects (top_of mid) (constants_view (drop i xs))) → IsCut mid new (constant_objects (top_of mid) (constant_view x)) fault
    → IsCut old new all fault
sofar-cut old mid new all xs i x d fault is below s c =
    let here = constant_objects (top_of mid) (constant_view x) in
    let behind = constants_objects (top_of mid + constant_words (constant_view x)) (constants_view (drop (i + 1) xs)) in
    let whole : all ≡ s.done ++ (here ++ behind) = s.all_is ∙ ap (λ (os : List Object). s.done ++ os) (objects_from (top_of mid) xs i x d is below) in
    subst (λ (os : List Object). IsCut old new os fault) (sym whole) (cut-behind old mid new s.done here behind fault s.made c)

pub sofar-ended : (old new : Heap) (all : List Object) (xs : List Constant) (i at : ℕ) → length xs ≤ i
    → SoFar old new all (constants_objects at (constants_view (drop i xs))) → new ≡ with_all old all
sofar-ended old new all xs i at h s =
    let none : constants_objects at (constants_view (drop i xs)) ≡ [] = ap (λ (ys : List Constant). constants_objects at (constants_view ys)) (drop_all i xs h)
    ∙ objects_none at in
    let whole : all ≡ s.done = s.all_is ∙ ap (λ (os : List Object). s.done ++ os) none ∙ append-nil s.done in
    s.made ∙ ap (with_all old) (sym whole)

-- The unit: its constants, and after them its code object.
pub unit-cut : (old new : Heap) (code : List ℕ) (cs : ConstantsView) (frame : Frame) (fault : SwizzleFault)
    → IsCut old new (constants_objects (top_of old) cs) fault → Loads old new (unit code cs frame) (Err fault)
unfolding unit_objects
unit-cut old new code cs frame fault c =
    cut-behind old old new [] (constants_objects (top_of old) cs) (code_object code frame (constants_places (top_of old) cs) ∷ []) fault (sym (all-none old)) c

pub unit-loads : (old mid new : Heap) (code : List ℕ) (cs : ConstantsView) (frame : Frame) (first : ℕ) (result : Result ℕ SwizzleFault)
    → first ≡ top_of old → mid ≡ with_all old (constants_objects (top_of old) cs) → MakesCode mid new first (unit code cs frame) result
    → Loads old new (unit code cs frame) result
unfolding unit_objects unit_place
unit-loads old mid new code cs frame first (Ok at) f e m =
    let objects = constants_objects (top_of old) cs in
    let last = own_object (top_of old) (unit code cs frame) in
    let is : new ≡ with_all mid (last ∷ []) = m.made ∙ ap (λ (n : ℕ). with_all mid (own_object n (unit code cs frame) ∷ [])) f in
    (made-then old mid new objects (last ∷ []) e is, omega (arith, m.place, ap top_of e, top-all old objects, size-constants (top_of old) cs))
unit-loads old mid new code cs frame first (Err fault) f e m =
    let last = own_object (top_of old) (unit code cs frame) in
    let is = subst (λ (n : ℕ). IsFull mid new (wanted_of (size_of (own_object n (unit code cs frame)))) fault) f m in
    cut-full old mid new (constants_objects (top_of old) cs) last [] fault e is

-- A constant: a text, or a unit.

text-loads : (old new : Heap) (bytes : List ℕ) (result : Result ℕ SwizzleFault) → MakesText old new bytes result → LoadsConstant old new (text bytes) result
unfolding constant_objects constant_place
text-loads old new bytes (Ok at) m = (m.made, m.place)
text-loads old new bytes (Err fault) m =
    let is = subst (λ (n : ℕ). IsFull old new (wanted_of n) fault) (sym (size-text bytes)) m in
    cut-full old old new [] (text_object bytes) [] fault (sym (all-none old)) is

literal-loads : (old new : Heap) (u : UnitView) (result : Result ℕ SwizzleFault) → Loads old new u result → LoadsConstant old new (literal u) result
unfolding constant_objects constant_place
literal-loads old new u (Ok at) l = l
literal-loads old new u (Err fault) l = l

pub constant_text : (old new : Heap) (c : Constant) (bytes from : List ℕ) (result : Result ℕ SwizzleFault) → c ≡ Text bytes → from ≡ bytes
    → MakesText old new from result → LoadsConstant old new (constant_view c) result
constant_text old new c bytes from result e f m =
    subst (λ (v : ConstantView). LoadsConstant old new v result) (sym (view_text c bytes e))
    (text-loads old new bytes result (subst (λ (b : List ℕ). MakesText old new b result) f m))

pub constant_unit : (old new : Heap) (c : Constant) (u : CodeUnit) (result : Result ℕ SwizzleFault) → constant_view c ≡ literal (unit_view u)
    → Loads old new (unit_view u) result → LoadsConstant old new (constant_view c) result
constant_unit old new c u result e l = subst (λ (v : ConstantView). LoadsConstant old new v result) (sym e) (literal-loads old new (unit_view u) result l)

-- the exit of a `?`
pub exits : {T : Type 0} (r : Result T SwizzleFault) (P : Result T SwizzleFault → Type 0) (fault : SwizzleFault) → IsErrAnd r (λ y. y ≡ fault) → P (Err fault)
    → P r
exits r P fault is h =
    let p = err_from_is_err_and r is in
    subst P (sym (p.1 ∙ ap (λ (y : SwizzleFault). Err y) p.2)) h
