-- A vector that was read by the text of its type.
use Rattle.std.proofs.Common.{arith, inl, inr, ◌≡◌, ◌≢◌, ℕ, ◌*◌, ◌<◌, ℤ, pos, List, take, drop, refl, sym, ap, ◌∙◌, subst, Some, None, Bool, true, false, nat_lt, if◌then◌else◌, Ok, Err}
use Rattle.std.specs.Prelude.{negsuc, ◌-ℤ◌}
use Rattle.std.proofs.lemmas.Bool.{ltb-true}
use Rattle.heap_places.specs.ps_outside.Outside.{Outside}
use Rattle.heap_places.specs.ps_heap.Objects.{place_of, place_from}
use Rattle.heap_places.specs.obj_area.Words.{bytes_of}
use Rattle.heap_places.specs.obj_layout.Stored.{Space}
use Rattle.heap_places.specs.obj_layout.declared.kind.Kind.{Kind}
use Rattle.heap_places.specs.obj_layout.declared.kind.Kind.TheVariants.{Vector}
use Rattle.heap_places.specs.obj_layout.declared.reference.Reference as reference
use Rattle.heap_places.specs.swizzle.declared.fault.SwizzleFault.{SwizzleFault}
use Rattle.heap_places.specs.swizzle.Objects.{words_before}
use Rattle.heap_places.specs.swizzle.Heap.{Heap, IsHeap, IsHeld, object_at, header_at}
use Rattle.heap_places.specs.swizzle.Joint.{Shown, shown_at}
use Rattle.heap_places.specs.swizzle.Changes.{Within}
use Rattle.heap_places.specs.swizzle.Text.{text_at}
use Rattle.heap_places.specs.swizzle.Touch.{Keeps}
use Rattle.heap_places.specs.swizzle.Reading.{joint, Reads}
use Rattle.heap_places.proofs.of_swizzle.ReadingLaws.{reads-then, fails-then}
use Rattle.heap_places.specs.text_forms.declared.forms.Form.{Form}
use Rattle.heap_places.specs.text_forms.declared.forms.Form.TheVariants as form
use Rattle.heap_places.specs.text_forms.declared.forms.Form.TheVariants.{Number, Reference}
use Rattle.heap_places.specs.text_forms.Forms.{element_of}
use Rattle.heap_places.specs.heap_texts.declared.fault.OpFault.TheVariants as op
use Rattle.heap_places.specs.Shapes.{slot_of, IsText}
use Rattle.heap_places.specs.Places.{FirstText, HasPlace, HasRow, Holds, IsNear, NamesDamage, ReadsPlace, touched_by, fit_damage, assigned_value}
use Rattle.heap_places.specs.declared.value.Value.{Value}
use Rattle.heap_places.specs.declared.value.Value.TheVariants.{Num, Flag, Ref}
use Rattle.heap_places.proofs.PlaceLaws.{fails-damage}
use Rattle.heap_ops.specs.declared.shape.Shape.{Shape}
use Rattle.heap_ops.specs.Vectors.{count_of, index_of, vector_damage, type_of, subscript, fitted, IsOfType, ReadsVector, IsShaped, ReadsShape, GetsElement, SetsElement}
use Rattle.heap_ops.proofs.ClassLaws.{damage-kept, text-grows, same-before}
use Rattle.heap_ops.proofs.FieldLaws.{damage-at, fetch-fault}

-- equal values that some hold
some_is : {v w : Value} → Some v ≡ Some w → v ≡ w
some_is e = cc

-- The text that an object refers to first is seen as one.
pub text-of : (old new : Heap) (a b : Outside Space) (at text : ℕ) → FirstText old new a b at text → IsText (joint new b) (slot_of (shown_at old at) 0) (text_at new text)
text-of old new a b at text first = record {
  it = shown_at new text;
  there = inl (record { at = text; held = first.held; name_is = sym first.denotes.1; shown_is = refl });
  kind = first.kind;
  bytes_are = sym (ap (λ (k : Kind). take (header_at new text).bytes (drop (8 * words_before k) (bytes_of (object_at new text).nums))) first.kind);
}

-- A vector keeps its shape while it is read.
pub same-shown : (old new : Heap) (a b : Outside Space) (at text : ℕ) → IsHeld old at → FirstText old new a b at text → shown_at new at ≡ shown_at old at
same-shown old new a b at text held first = (first.reads.keeps.objects at held).shown_as

pub read-vector : (old new : Heap) (a b : Outside Space) (at text : ℕ) → (shown_at old at).kind ≡ Vector → FirstText old new a b at text
    → vector_damage (shown_at old at) (element_of (text_at new text)) ≡ None → ReadsVector old new a b at (text_at new text)
read-vector old new a b at text kind first sound = record {
  is = record { kind = kind; type = text-of old new a b at text first; shape = sound };
  reads = first.reads;
}

-- The place of an element.

-- a subscript's place is below the number of elements
pub below-count : (low z : ℤ) (count n : ℕ) → place_of low count z ≡ Some n → n < count
below-count low z count n is = of (z -ℤ low) is
  where
    of : (d : ℤ) → place_from d count ≡ Some n → n < count
    of (pos k) e = tested (nat_lt k count) refl e
      where
        tested : (b : Bool) → nat_lt k count ≡ b → (if b then Some k else None) ≡ Some n → n < count
        tested true lt h = let same : k ≡ n = cc in omega (arith, ltb-true k count lt, same)
        tested false lt h = absurd (cc)
    of (negsuc k) e = absurd (cc)

counts : (it : Shown) (f : Form) (count n : ℕ) → count ≡ count_of it f → n < count → HasPlace it f (index_of f n)
unfolding count_of
counts it Number count n is lt = omega (arith, is, lt)
counts it form.Flag count n is lt = omega (arith, is, lt)
counts it Reference count n is lt = omega (arith, is, lt)

pub element-place : (it : Shown) (shape : Shape) (z : ℤ) (n : ℕ) → IsShaped it shape → place_of shape.low shape.count z ≡ Some n → HasPlace it shape.form (index_of shape.form n)
element-place it shape z n s is = counts it shape.form shape.count n s.count_is (below-count shape.low z shape.count n is)

row : (it : Shown) (f : Form) (index : ℕ) (v w : Value) → fitted f v ≡ Some w → HasPlace it f index → HasRow it index w
unfolding fitted
row it Number index (Num z) w e h = subst (HasRow it index) (some_is e) h
row it Number index (Flag b) w e h = subst (HasRow it index) (some_is e) h
row it Number index (Ref to) w e h = absurd (cc)
row it form.Flag index (Num z) w e h = subst (HasRow it index) (some_is e) h
row it form.Flag index (Flag b) w e h = subst (HasRow it index) (some_is e) h
row it form.Flag index (Ref to) w e h = absurd (cc)
row it Reference index (Num z) w e h = absurd (cc)
row it Reference index (Flag b) w e h = absurd (cc)
row it Reference index (Ref to) w e h = subst (HasRow it index) (some_is e) h

pub element-row : (it : Shown) (shape : Shape) (z : ℤ) (n : ℕ) (v w : Value) → IsShaped it shape → place_of shape.low shape.count z ≡ Some n → fitted shape.form v ≡ Some w → HasRow it (index_of shape.form n) w
element-row it shape z n v w s is fits = row it shape.form (index_of shape.form n) v w fits (element-place it shape z n s is)

-- a value's object stays in the area
pub near-kept : (old new : Heap) (v : Value) → Keeps old new → IsNear old v → IsNear new v
near-kept old new (Num z) keeps near = tt
near-kept old new (Flag b) keeps near = tt
near-kept old new (Ref None) keeps near = tt
near-kept old new (Ref (Some at)) keeps near = (keeps.objects at near).held

pub near-fitted : (heap : Heap) (f : Form) (v w : Value) → fitted f v ≡ Some w → IsNear heap v → IsNear heap w
unfolding fitted
near-fitted heap Number (Num z) w e near = subst (IsNear heap) (some_is e) tt
near-fitted heap Number (Flag b) w e near = subst (IsNear heap) (some_is e) tt
near-fitted heap Number (Ref to) w e near = absurd (cc)
near-fitted heap form.Flag (Num z) w e near = subst (IsNear heap) (some_is e) tt
near-fitted heap form.Flag (Flag b) w e near = subst (IsNear heap) (some_is e) tt
near-fitted heap form.Flag (Ref to) w e near = absurd (cc)
near-fitted heap Reference (Num z) w e near = absurd (cc)
near-fitted heap Reference (Flag b) w e near = absurd (cc)
near-fitted heap Reference (Ref to) w e near = subst (IsNear heap) (some_is e) near

-- a value that fits no element is damage
pub misfits : (f : Form) (v : Value) → fitted f v ≡ None → fit_damage f v ≢ None
unfolding fitted fit_damage
misfits Number (Num z) e = absurd (cc)
misfits Number (Flag b) e = absurd (cc)
misfits Number (Ref to) e = λ d. cc
misfits form.Flag (Num z) e = absurd (cc)
misfits form.Flag (Flag b) e = absurd (cc)
misfits form.Flag (Ref to) e = λ d. cc
misfits Reference (Num z) e = λ d. cc
misfits Reference (Flag b) e = λ d. cc
misfits Reference (Ref to) e = absurd (cc)

-- Elements, read and written.

pub the-subscript : (it : Shown) (shape : Shape) (text : List ℕ) (z : ℤ) → IsShaped it shape → shape.form ≡ element_of text → subscript it text z ≡ place_of shape.low shape.count z
the-subscript it shape text z s of =
    ap (λ (l : ℤ). place_of l (count_of it (element_of text)) z) (sym s.low_is)
    ∙ ap (λ (n : ℕ). place_of shape.low n z) (sym (s.count_is ∙ ap (count_of it) of))

type-grows : (seen now : reference.Reference → Shown → Type 0) (it : Shown) (text : List ℕ) → Within seen now → IsOfType seen it text → IsOfType now it text
type-grows seen now it text grows t = record { kind = t.kind; type = text-grows seen now (slot_of it 0) text grows t.type; shape = t.shape }

pub gets : (old mid new : Heap) (a b c : Outside Space) (at n : ℕ) (z : ℤ) (shape : Shape) (v : Value) → IsHeld old at → ReadsShape old mid a b at (Ok shape) → place_of shape.low shape.count z ≡ Some n
    → ReadsPlace mid new b c at shape.form (index_of shape.form n) (Ok v) → GetsElement old new a c at z (Ok v)
gets old mid new a b c at n z shape v held s place r =
    let text = s.0 in
    let it = shown_at old at in
    let of = s.3 in
    let same : shown_at mid at ≡ it = (s.1.reads.keeps.objects at held).shown_as in
    let seen : Holds new it shape.form (index_of shape.form n) v × Reads mid new b c (touched_by it shape.form (index_of shape.form n)) =
    subst (λ (x : Shown). Holds new x shape.form (index_of shape.form n) v × Reads mid new b c (touched_by x shape.form (index_of shape.form n))) same r in
    let typed : Holds new it (element_of text) (index_of (element_of text) n) v × Reads mid new b c (touched_by it (element_of text) (index_of (element_of text) n)) =
    subst (λ (f : Form). Holds new it f (index_of f n) v × Reads mid new b c (touched_by it f (index_of f n))) of seen in
    record {
      text = text;
      n = n;
      is = type-grows (joint mid b) (joint new c) it text typed.1.grows s.1.is;
      place = the-subscript it shape text z s.2 of ∙ place;
      value = typed.0;
      reads = reads-then old mid new a b c (type_of it) (touched_by it (element_of text) (index_of (element_of text) n)) s.1.reads typed.1;
    }

pub fails-element : (old mid new : Heap) (a b c : Outside Space) (at n : ℕ) (z : ℤ) (shape : Shape) (fault : SwizzleFault) → IsHeap mid → IsHeld old at → ReadsShape old mid a b at (Ok shape) → place_of shape.low shape.count z ≡ Some n
    → ReadsPlace mid new b c at shape.form (index_of shape.form n) (Err fault) → GetsElement old new a c at z (Err (op.Swizzle fault))
fails-element old mid new a b c at n z shape fault h held s place r =
    let text = s.0 in
    let it = shown_at old at in
    let of = s.3 in
    let stays = s.1.reads.keeps.objects at held in
    let typed : ReadsPlace mid new b c at (element_of text) (index_of (element_of text) n) (Err fault) = subst (λ (f : Form). ReadsPlace mid new b c at f (index_of f n) (Err fault)) of r in (
      fails-then old mid a b c (type_of it) fault s.1.reads typed.0,
      inr (record {
        mid = mid;
        text = text;
        n = n;
        heap = h;
        keeps = s.1.reads.keeps;
        grows = λ name it seen. same-before mid a b s.1.reads.outside.contents name it (s.1.reads.grows name it seen);
        is = type-grows (joint mid b) (joint mid a) it text (same-before mid a b s.1.reads.outside.contents) s.1.is;
        place = the-subscript it shape text z s.2 of ∙ place;
        why = elim (typed.1) [
          | inl damaged ↦ inl (damage-at old mid at (index_of (element_of text) n) (element_of text) fault s.1.reads.keeps held stays.shown_as damaged)
          | inr touched ↦ inr (touched.0, fetch-fault old mid a b at (index_of (element_of text) n) (type_of it) fault h stays.held stays.shown_as s.1.reads touched.1)
        ];
      }),
    )

pub refuses : (old mid : Heap) (a b : Outside Space) (at : ℕ) (z : ℤ) (shape : Shape) (v : Value) (fault : SwizzleFault) → IsHeld old at → ReadsShape old mid a b at (Ok shape) → fitted shape.form v ≡ None
    → NamesDamage mid at (fit_damage shape.form v) fault → SetsElement old mid a b at z v (Err (op.Swizzle fault))
refuses old mid a b at z shape v fault held s none names =
    let of = s.3 in
    let kept = damage-kept old mid at (fit_damage shape.form v) fault s.1.reads.keeps held names in (
      fails-damage a b _ _ _ fault s.1.reads.outside kept.2,
      inr (s.0, s.1.reads.keeps, s.1.reads.grows, s.1.is, ap (λ (f : Form). fitted f v) (sym of) ∙ none, subst (λ (f : Form). NamesDamage old at (fit_damage f v) fault) of kept),
    )

pub sets : (old mid new : Heap) (a b : Outside Space) (at n : ℕ) (z : ℤ) (shape : Shape) (v w : Value) → IsHeap mid → IsHeld old at → ReadsShape old mid a b at (Ok shape) → place_of shape.low shape.count z ≡ Some n → fitted shape.form v ≡ Some w
    → new ≡ assigned_value mid at (index_of shape.form n) w → SetsElement old new a b at z v (Ok tt)
sets old mid new a b at n z shape v w h held s place fits written =
    let of = s.3 in
    record {
      mid = mid;
      text = s.0;
      n = n;
      heap = h;
      vector = s.1;
      stored = w;
      fits = ap (λ (f : Form). fitted f v) (sym of) ∙ fits;
      place = the-subscript (shown_at old at) shape s.0 z s.2 of ∙ place;
      written = written ∙ ap (λ (f : Form). assigned_value mid at (index_of f n) w) of;
    }
