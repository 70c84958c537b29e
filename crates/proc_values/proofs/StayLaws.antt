-- What was loaded stays, and what a code object's constants are read as.
use Rattle.std.proofs.Common.{inl, inr, ◌≡◌, ◌≢◌, ℕ, zero, suc, ◌+◌, ◌*◌, ◌/◌, ◌%◌, ◌^◌, ◌<◌, List, [], ◌∷◌, ◌++◌, get_or, refl, sym, ap, ◌∙◌, subst, arith, Option, Some, unwrap_or}
use Rattle.std.specs.Prelude.{Result, Ok, Err, take, drop, slice_index}
use Rattle.std.proofs.lemmas.Bool.{cases_eq}
use Rattle.ps_base.specs.CodeUnit.{UnitView, unit, ConstantView, text, literal, ConstantsView, no_constants, constant_then}
use Rattle.ps_base.specs.declared.code_unit.Frame.{Frame}
use Rattle.heap_texts.specs.obj_area.Words.{bytes_of}
use Rattle.heap_texts.specs.obj_layout.declared.reference.Reference.{Reference}
use Rattle.heap_texts.specs.obj_layout.declared.reference.Reference.TheVariants.{Nil}
use Rattle.heap_texts.specs.swizzle.declared.fault.SwizzleFault.{SwizzleFault}
use Rattle.heap_texts.specs.swizzle.Objects.{Object, size_of, words_before, find_from}
use Rattle.heap_texts.specs.swizzle.Heap.{Heap, IsHeap, IsHeld, object_at, header_at, nothing, ref_at, top_of, Stands, with_object}
use Rattle.heap_texts.specs.swizzle.Joint.{Shown, shown, name_at, name_by, name_of, shown_at}
use Rattle.heap_texts.specs.swizzle.Text.{HasBytes, text_at}
use Rattle.heap_texts.specs.swizzle.Touch.{Denotes, Stays, Keeps}
use Rattle.heap_texts.proofs.of_swizzle.ObjectLaws.{here, elsewhere, size_of_all-append}
use Rattle.heap_texts.proofs.of_swizzle.HeapLaws.{first_is, behind_is, held-replaced}
use Rattle.heap_texts.proofs.of_swizzle.KeptLaws.{held_is}
use Rattle.heap_texts.proofs.of_swizzle.JointLaws.{IsLike, like_long, object-replaced_other, name-replaced, shown-replaced_other}
use Rattle.heap_texts.proofs.of_swizzle.NameLaws.{names_kept, name_at-injective, names_at, shown-same}
use Rattle.proc_values.specs.Units.{count_of, frame_word, unit_objects, with_all, Loads}
use Rattle.proc_values.specs.Reading.{HasConstant}
use Rattle.proc_values.specs.Loaded.{IsText, IsCode, IsUnit, AreNamed, IsConstant, CodeStays, constant_numbered, IsFitFrame}
use Rattle.proc_values.proofs.ReadLaws.{some_denoted}

-- Texts and code objects that stay.

pub keeps-code : (old new : Heap) → Keeps old new → CodeStays old new
keeps-code old new k at held bytes = k.objects at held

bytes_stay : (old new : Heap) (at : ℕ) → Stays old new at → text_at new at ≡ text_at old at
bytes_stay old new at s = ap (λ (it : Shown). take it.bytes (drop (8 * words_before it.kind) (bytes_of it.nums))) s.shown_as

text-stays : (old new : Heap) (at : ℕ) (bytes : List ℕ) → CodeStays old new → IsText old at bytes → IsText new at bytes
text-stays old new at bytes k t =
    let s = k at t.held (inl t.kind) in
    record { held = s.held; kind = ap (λ (it : Shown). it.kind) s.shown_as ∙ t.kind; bytes_are = bytes_stay old new at s ∙ t.bytes_are }

code-stays : (old new : Heap) (at : ℕ) (code : List ℕ) (frame : Frame) (count : ℕ) → CodeStays old new → IsCode old at code frame count
    → IsCode new at code frame count
code-stays old new at code frame count k c =
    let s = k at c.held (inr c.kind) in
    record {
      held = s.held;
      kind = ap (λ (it : Shown). it.kind) s.shown_as ∙ c.kind;
      code_is = bytes_stay old new at s ∙ c.code_is;
      frame_is = ap (λ (it : Shown). slice_index it.nums 1) s.shown_as ∙ c.frame_is;
      count_is = s.refs ∙ c.count_is;
    }

mutual
  unfolding IsUnit AreNamed IsConstant

  pub unit-stays : (old new : Heap) (at : ℕ) (u : UnitView) → CodeStays old new → IsUnit old at u → IsUnit new at u
  unit-stays old new at (unit code cs frame) k i =
      let s = k at i.0.held (inr i.0.kind) in
      let names = ap (λ (it : Shown). it.refs) s.shown_as in (
        code-stays old new at code frame (count_of cs) k i.0,
        subst (λ (ns : List Reference). AreNamed new ns cs) (sym names)
            (named-stay old new (shown_at old at).refs cs k i.1),
      )

  named-stay : (old new : Heap) (names : List Reference) (cs : ConstantsView) → CodeStays old new → AreNamed old names cs → AreNamed new names cs
  named-stay old new [] no_constants k i = tt
  named-stay old new (name ∷ names) no_constants k i = absurd i
  named-stay old new [] (constant_then c cs) k i = absurd i
  named-stay old new (name ∷ names) (constant_then c cs) k i =
      let it = i.0 in
      let s = k it.0 it.1.0 (constant_kind old it.0 c it.2) in
      ((it.0, (s.held, s.name ∙ it.1.1), constant-stays old new it.0 c k it.2), named-stay old new names cs k i.1)

  constant_kind : (heap : Heap) (at : ℕ) (c : ConstantView) → IsConstant heap at c → HasBytes (header_at heap at).kind
  constant_kind heap at (text bytes) i = inl i.kind
  constant_kind heap at (literal (unit code cs frame)) i = inr i.0.kind

  pub constant-stays : (old new : Heap) (at : ℕ) (c : ConstantView) → CodeStays old new → IsConstant old at c → IsConstant new at c
  constant-stays old new at (text bytes) k i = text-stays old new at bytes k i
  constant-stays old new at (literal u) k i = unit-stays old new at u k i

-- Another object is written in its place.
pub code-other : (heap : Heap) (at : ℕ) (new : Object) → IsHeld heap at → (HasBytes (header_at heap at).kind → ⊥) → IsLike (object_at heap at) new
    → CodeStays heap (with_object heap at new)
code-other heap at new held none like j there bytes =
    let ne : j ≢ at = λ (e : j ≡ at). none (subst (λ (i : ℕ). HasBytes (header_at heap i).kind) e bytes) in
    let long = like_long (object_at heap at) new like in
    let same = object-replaced_other heap at j new held long ne in
    record {
      held = held-replaced heap at (object_at heap at) new j (held_is heap at held) long there;
      name = name-replaced heap at j new held like;
      shown_as = shown-replaced_other heap at j new held like ne;
      flags = ap (λ (x : Object). x.header.flags) same;
      refs = ap (λ (x : Object). x.header.refs) same;
      nums = ap (λ (x : Object). x.header.nums) same;
    }

-- Objects that come after the others.

find-before : (at : ℕ) (os ps : List Object) (i : ℕ) (o : Object) → find_from at os i ≡ Some o → find_from at (os ++ ps) i ≡ Some o
find-before at [] ps i o e = absurd (cc)
find-before at (p ∷ os) ps i o e =
    elim (cases_eq i at) [
      | inl same ↦ here i at (Some p) (find_from (at + size_of p) (os ++ ps) i) same ∙ ap (λ (x : Object). Some x) (first_is at p os i o e same)
      | inr apart ↦ elsewhere i at (Some p) (find_from (at + size_of p) (os ++ ps) i) apart
          ∙ find-before (at + size_of p) os ps i o (behind_is at p os i o e apart)
    ]

same-before : (heap : Heap) (os : List Object) (at : ℕ) → IsHeld heap at → object_at (with_all heap os) at ≡ object_at heap at
same-before heap os at held = ap (λ (x : Option Object). unwrap_or x nothing) (find-before 1 heap.objects os at (object_at heap at) (held_is heap at held))

name-before : (heap : Heap) (os : List Object) (at : ℕ) → IsHeld heap at → name_at (with_all heap os) at ≡ name_at heap at
name-before heap os at held = ap (λ (x : Object). name_by x.header at) (same-before heap os at held)

pub keeps-before : (heap : Heap) (os : List Object) → IsHeap heap → Keeps heap (with_all heap os)
keeps-before heap os h = record {
  size = refl;
  top = omega (arith, size_of_all-append heap.objects os);
  assigned = refl;
  objects = λ at held.
      let new = with_all heap os in
      let same = same-before heap os at held in
      let o = object_at heap at in
      let names = names_kept heap new o.refs (λ slot to r. name-before heap os to (h.inside at o (held_is heap at held) slot to r)) in
      record {
        held = record { object = o; is = find-before 1 heap.objects os at o (held_is heap at held) };
        name = name-before heap os at held;
        shown_as = ap (shown (name_of new)) same ∙ shown-same heap new o o refl refl refl names;
        flags = ap (λ (x : Object). x.header.flags) same;
        refs = ap (λ (x : Object). x.header.refs) same;
        nums = ap (λ (x : Object). x.header.nums) same;
      };
}

-- all stays as a unit is loaded
pub keeps-load : (old new : Heap) (u : UnitView) (result : Result ℕ SwizzleFault) → IsHeap old → Loads old new u result → Keeps old new
keeps-load old new u (Ok at) h l = subst (Keeps old) (sym l.0) (keeps-before old (unit_objects (top_of old) u) h)
keeps-load old new u (Err fault) h l = subst (Keeps old) (sym l.made) (keeps-before old l.front h)

all-stands : (heap new : Heap) (os : List Object) → new ≡ with_all heap os → Stands heap new
all-stands heap new os e =
    subst (Stands heap) (sym e) (λ at held.
    let same = same-before heap os at held in
    record {
      held = record { object = object_at heap at; is = find-before 1 heap.objects os at (object_at heap at) (held_is heap at held) };
      kind = ap (λ (x : Object). x.header.kind) same;
      refs = ap (λ (x : Object). x.header.refs) same;
      nums = ap (λ (x : Object). x.header.nums) same;
      bytes = ap (λ (x : Object). x.header.bytes) same;
      pid = ap (λ (x : Object). x.header.pid) same;
    })

pub loads-stands : (old new : Heap) (u : UnitView) (result : Result ℕ SwizzleFault) → Loads old new u result → Stands old new
loads-stands old new u (Ok at) l = all-stands old new (unit_objects (top_of old) u) l.0
loads-stands old new u (Err fault) l = all-stands old new l.front l.made

-- The constants of a unit's code object.

-- the name of one, and its object
named-at : (heap : Heap) (names : List Reference) (cs : ConstantsView) (index : ℕ) (c : ConstantView) → AreNamed heap names cs
    → constant_numbered cs index ≡ Some c → (at : ℕ) × Denotes heap (Some at) (get_or names index Nil) × IsConstant heap at c
unfolding AreNamed
named-at heap names no_constants index c n e = absurd (cc)
named-at heap [] (constant_then d cs) index c n e = absurd n
named-at heap (name ∷ names) (constant_then d cs) zero c n e =
    let same : d ≡ c = cc in
    let it = n.0 in
    (it.0, it.1, subst (IsConstant heap it.0) same it.2)
named-at heap (name ∷ names) (constant_then d cs) (suc index) c n e = named-at heap names cs index c n.1 e

numbered-below : (cs : ConstantsView) (index : ℕ) (c : ConstantView) → constant_numbered cs index ≡ Some c → index < count_of cs
unfolding count_of
numbered-below no_constants index c e = absurd (cc)
numbered-below (constant_then d cs) zero c e = omega arith
numbered-below (constant_then d cs) (suc index) c e = omega (arith, numbered-below cs index c e)

slot-at : (heap : Heap) (code index : ℕ) (bytes : List ℕ) (cs : ConstantsView) (frame : Frame) (c : ConstantView) → IsUnit heap code (unit bytes cs frame)
    → constant_numbered cs index ≡ Some c
    → (at : ℕ) × Denotes heap (Some at) (name_of heap (ref_at heap code index)) × IsConstant heap at c
unfolding IsUnit
slot-at heap code index bytes cs frame c i e =
    let it = named-at heap (shown_at heap code).refs cs index c i.1 e in
    (it.0, subst (Denotes heap (Some it.0)) (names_at heap (object_at heap code).refs index) it.1, it.2)

-- each constant of the unit is one of its code object
pub unit-has : (heap : Heap) (code index : ℕ) (bytes : List ℕ) (cs : ConstantsView) (frame : Frame) (c : ConstantView) → IsUnit heap code (unit bytes cs frame)
    → constant_numbered cs index ≡ Some c → HasConstant heap code index
unfolding IsUnit
unit-has heap code index bytes cs frame c i e =
    let it = slot-at heap code index bytes cs frame c i e in
    record {
      kind = i.0.kind;
      below = omega (arith, i.0.count_is, numbered-below cs index c e);
      some = some_denoted heap heap (ref_at heap code index) it.0 it.1;
    }

-- and what is read is its object
pub constant-read : (old new : Heap) (code index at : ℕ) (bytes : List ℕ) (cs : ConstantsView) (frame : Frame) (c : ConstantView) → IsHeap new
    → IsUnit old code (unit bytes cs frame)
    → constant_numbered cs index ≡ Some c → Keeps old new → Denotes new (Some at) (name_of old (ref_at old code index)) → IsConstant new at c
constant-read old new code index at bytes cs frame c h i e keeps d =
    let it = slot-at old code index bytes cs frame c i e in
    let s = keeps.objects it.0 it.1.0 in
    let same : it.0 ≡ at = name_at-injective new it.0 at h s.held d.0 (s.name ∙ it.1.1 ∙ sym d.1) in
    subst (λ (j : ℕ). IsConstant new j c) same (constant-stays old new it.0 c (keeps-code old new keeps) it.2)

-- The four parts of a frame's word.

pub frame-nums : (frame : Frame) → IsFitFrame frame → frame_word frame % 2 ^ 16 ≡ frame.nums
unfolding frame_word
frame-nums frame fit = omega (arith, fit.nums)

pub frame-refs : (frame : Frame) → IsFitFrame frame → frame_word frame / 2 ^ 16 % 2 ^ 16 ≡ frame.refs
unfolding frame_word
frame-refs frame fit = omega (arith, fit.nums, fit.refs)

pub frame-num_params : (frame : Frame) → IsFitFrame frame → frame_word frame / 2 ^ 32 % 2 ^ 16 ≡ frame.num_params
unfolding frame_word
frame-num_params frame fit = omega (arith, fit.nums, fit.refs, fit.num_params)

pub frame-ref_params : (frame : Frame) → IsFitFrame frame → frame_word frame / 2 ^ 48 ≡ frame.ref_params
unfolding frame_word
frame-ref_params frame fit = omega (arith, fit.nums, fit.refs, fit.num_params)
