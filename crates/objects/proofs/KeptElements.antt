-- Values put as elements that keep them in another form: of an int a bool keeps whether it is above 0, of a bool an int keeps 1 or 0.
use Rattle.std.proofs.Common.{inl, inr, ◌≡◌, ℕ, ℤ, Bool, true, false, List, [], ◌∷◌, replicate, length, refl, sym, ap, ◌∙◌, subst, Option, Some, None}
use Rattle.std.specs.Prelude.{Result, Ok, Err}
use Rattle.joint_ops.specs.ps_outside.Outside.{Outside}
use Rattle.joint_ops.specs.obj_layout.Stored.{Space}
use Rattle.joint_ops.specs.obj_layout.declared.kind.Kind.TheVariants as kind
use Rattle.joint_ops.specs.obj_layout.declared.reference.Reference.{Reference}
use Rattle.joint_ops.specs.swizzle.Heap as area
use Rattle.joint_ops.specs.swizzle.Heap.{IsHeap}
use Rattle.joint_ops.specs.swizzle.Joint.{shown_at}
use Rattle.joint_ops.specs.swizzle.Changes.{Within}
use Rattle.joint_ops.specs.swizzle.Reading.{joint}
use Rattle.joint_ops.specs.text_forms.declared.forms.Form.{Form}
use Rattle.joint_ops.specs.text_forms.declared.forms.Form.TheVariants as form
use Rattle.joint_ops.specs.text_forms.Forms.{element_of}
use Rattle.joint_ops.specs.heap_texts.declared.fault.OpFault.{OpFault}
use Rattle.joint_ops.specs.heap_texts.declared.fault.OpFault.TheVariants as op
use Rattle.joint_ops.specs.heap_places.Shapes.{IsText, slot_of}
use Rattle.joint_ops.specs.heap_places.declared.value.Value as code
use Rattle.joint_ops.specs.heap_places.declared.value.Value.TheVariants as held
use Rattle.joint_ops.specs.heap_ops.Vectors.{fitted, SetsElement}
use Rattle.joint_ops.specs.ps_heap.Operators.{is_int}
use Rattle.joint_ops.specs.ps_heap.Values.{Value, Num, Flag, Vector, Text, Nil, Pointer, Procedure, Nothing, number_of, is_one}
use Rattle.joint_ops.specs.ps_heap.Objects.{Heap, Object, kept_as, type_in, with_element}
use Rattle.joint_ops.specs.heap_meaning.Paired.{paired}
use Rattle.joint_ops.specs.World.{IsWorld, DenotesIn, IsForIn, IsOfForm, Writes, seen}
use Rattle.joint_ops.specs.Operands.{form_in}
use Rattle.joint_ops.proofs.SeenLaws.{VectorAt, vector-at, vector-denoted, first-text, text-is, joint-one}
use Rattle.joint_ops.proofs.ElementLaws.{writes-element}
use Rattle.joint_procedures.specs.Scopes.{IsInt}

-- What a form keeps of a value it keeps as it is.
kept-again : (f : Form) (c s : code.Value) → fitted f c ≡ Some s → fitted f s ≡ Some s
unfolding fitted
kept-again form.Number (held.Num z) s e = subst (λ (x : code.Value). fitted form.Number x ≡ Some x) (let same : held.Num z ≡ s = cc in same) refl
kept-again form.Number (held.Flag b) s e = subst (λ (x : code.Value). fitted form.Number x ≡ Some x) (let same : held.Num (number_of b) ≡ s = cc in same) refl
kept-again form.Flag (held.Num z) s e = subst (λ (x : code.Value). fitted form.Flag x ≡ Some x) (let same : held.Flag (is_one z) ≡ s = cc in same) refl
kept-again form.Flag (held.Flag b) s e = subst (λ (x : code.Value). fitted form.Flag x ≡ Some x) (let same : held.Flag b ≡ s = cc in same) refl
kept-again form.Reference (held.Ref to) s e = subst (λ (x : code.Value). fitted form.Reference x ≡ Some x) (let same : held.Ref to ≡ s = cc in same) refl
kept-again form.Number (held.Ref to) s e = absurd (cc)
kept-again form.Flag (held.Ref to) s e = absurd (cc)
kept-again form.Reference (held.Num z) s e = absurd (cc)
kept-again form.Reference (held.Flag b) s e = absurd (cc)

flag-int : (b : Bool) → is_int (number_of b) ≡ true
flag-int true = refl
flag-int false = refl

one-number : (b : Bool) → b ≡ is_one (number_of b)
one-number true = refl
one-number false = refl

-- the number, or the bool, that such a value denotes
pub num-for : (here : area.Heap) (outside : Outside Space) (names : List Reference) (z : ℤ) (v : Value) → IsForIn here outside names (held.Num z) v → v ≡ Num z
num-for here outside names z (Num x) i = ap Num (sym i)
num-for here outside names z (Flag x) i = absurd i
num-for here outside names z (Text x) i = absurd i
num-for here outside names z Nil i = absurd i
num-for here outside names z (Pointer x) i = absurd i
num-for here outside names z (Vector x) i = absurd i
num-for here outside names z (Procedure x s) i = absurd i
num-for here outside names z Nothing i = absurd i

pub flag-for : (here : area.Heap) (outside : Outside Space) (names : List Reference) (b : Bool) (v : Value) → IsForIn here outside names (held.Flag b) v → v ≡ Flag b
flag-for here outside names b (Num x) i = absurd i
flag-for here outside names b (Flag x) i = ap Flag (sym i)
flag-for here outside names b (Text x) i = absurd i
flag-for here outside names b Nil i = absurd i
flag-for here outside names b (Pointer x) i = absurd i
flag-for here outside names b (Vector x) i = absurd i
flag-for here outside names b (Procedure x s) i = absurd i
flag-for here outside names b Nothing i = absurd i

-- what a form keeps is of it,
kept-form : (f : Form) (c s : code.Value) → IsInt c → fitted f c ≡ Some s → IsOfForm f s
unfolding fitted
kept-form form.Number (held.Num z) s int e = subst (IsOfForm form.Number) (let same : held.Num z ≡ s = cc in same) int
kept-form form.Number (held.Flag b) s int e = subst (IsOfForm form.Number) (let same : held.Num (number_of b) ≡ s = cc in same) (flag-int b)
kept-form form.Flag (held.Num z) s int e = subst (IsOfForm form.Flag) (let same : held.Flag (is_one z) ≡ s = cc in same) tt
kept-form form.Flag (held.Flag b) s int e = subst (IsOfForm form.Flag) (let same : held.Flag b ≡ s = cc in same) tt
kept-form form.Reference (held.Ref to) s int e = subst (IsOfForm form.Reference) (let same : held.Ref to ≡ s = cc in same) tt
kept-form form.Number (held.Ref to) s int e = absurd (cc)
kept-form form.Flag (held.Ref to) s int e = absurd (cc)
kept-form form.Reference (held.Num z) s int e = absurd (cc)
kept-form form.Reference (held.Flag b) s int e = absurd (cc)

-- and denotes what the meaning keeps.
kept-for : (here : area.Heap) (outside : Outside Space) (names : List Reference) (f : Form) (c s : code.Value) (v : Value) → fitted f c ≡ Some s
    → IsForIn here outside names c v → IsForIn here outside names s (kept_as (Some f) v)
unfolding fitted
kept-for here outside names form.Number (held.Num z) s v e i =
    subst (λ (x : code.Value). IsForIn here outside names x (kept_as (Some form.Number) v)) (let same : held.Num z ≡ s = cc in same)
    (subst (λ (x : Value). IsForIn here outside names (held.Num z) (kept_as (Some form.Number) x)) (sym (num-for here outside names z v i)) refl)
kept-for here outside names form.Number (held.Flag b) s v e i =
    subst (λ (x : code.Value). IsForIn here outside names x (kept_as (Some form.Number) v)) (let same : held.Num (number_of b) ≡ s = cc in same)
    (subst (λ (x : Value). IsForIn here outside names (held.Num (number_of b)) (kept_as (Some form.Number) x)) (sym (flag-for here outside names b v i)) refl)
kept-for here outside names form.Flag (held.Num z) s v e i =
    subst (λ (x : code.Value). IsForIn here outside names x (kept_as (Some form.Flag) v)) (let same : held.Flag (is_one z) ≡ s = cc in same)
    (subst (λ (x : Value). IsForIn here outside names (held.Flag (is_one z)) (kept_as (Some form.Flag) x)) (sym (num-for here outside names z v i)) refl)
kept-for here outside names form.Flag (held.Flag b) s v e i =
    subst (λ (x : code.Value). IsForIn here outside names x (kept_as (Some form.Flag) v)) (let same : held.Flag b ≡ s = cc in same)
    (subst (λ (x : Value). IsForIn here outside names (held.Flag b) (kept_as (Some form.Flag) x)) (sym (flag-for here outside names b v i)) (one-number b))
kept-for here outside names form.Reference (held.Ref to) s v e i =
    subst (λ (x : code.Value). IsForIn here outside names x v) (let same : held.Ref to ≡ s = cc in same) i
kept-for here outside names form.Number (held.Ref to) s v e i = absurd (cc)
kept-for here outside names form.Flag (held.Ref to) s v e i = absurd (cc)
kept-for here outside names form.Reference (held.Num z) s v e i = absurd (cc)
kept-for here outside names form.Reference (held.Flag b) s v e i = absurd (cc)

-- the form of a vector's elements, by the text of its type as it was read
form-read : (old new : area.Heap) (before after : Outside Space) (of : Heap) (names : List Reference) (at id : ℕ) (text : List ℕ) → IsHeap new
    → ((a b : Space) → after.contents a → after.contents b → a ≡ b) → Within (joint old before) (joint new after) → VectorAt old before of names at id
    → IsText (joint new after) (slot_of (shown_at old at) 0) text → form_in of id ≡ element_of text
form-read old new before after of names at id text now one grows v t =
    ap (λ (o : Option Object). element_of (type_in o)) v.means
    ∙ ap element_of (text-is old new before after (slot_of (shown_at old at) 0) v.ty text grows (joint-one new after now one)
    (first-text (seen old before) (paired names) (shown_at old at) kind.Vector v.ty (λ home. home ∷ v.is.bound ∷ [])
    (replicate (length v.elements) (element_of v.ty)) v.elements v.is.rows) t)

module _ (old new : area.Heap) (before after : Outside Space) (of : Heap) (names : List Reference)
    (h : IsHeap old) (now : IsHeap new) (w : IsWorld old before of names)
    (was_one : (a b : Space) → before.contents a → before.contents b → a ≡ b) (is_one : (a b : Space) → after.contents a → after.contents b → a ≡ b) where
  -- Where a value is put, what is kept of it is put.
  sets-kept : (at id : ℕ) (z : ℤ) (c s : code.Value) (r : Result (Unit {0}) OpFault) → VectorAt old before of names at id
      → fitted (form_in of id) c ≡ Some s → SetsElement old new before after at z c r → SetsElement old new before after at z s r
  sets-kept at id z c s (Ok done) v fits g =
      let form = form-read old g.mid before after of names at id g.text g.heap is_one g.vector.reads.grows v g.vector.is.type in
      let one : s ≡ g.stored = let both : Some s ≡ Some g.stored = sym fits ∙ ap (λ (f : Form). fitted f c) form ∙ g.fits in cc in
      record {
        mid = g.mid;
        text = g.text;
        n = g.n;
        heap = g.heap;
        vector = g.vector;
        stored = g.stored;
        fits = subst (λ (x : code.Value). fitted (element_of g.text) x ≡ Some g.stored) (sym one) (kept-again (element_of g.text) c g.stored g.fits);
        place = g.place;
        written = g.written;
      }
  sets-kept at id z c s (Err (op.Trap t)) v fits g = g
  sets-kept at id z c s (Err (op.Swizzle fault)) v fits g = (
    g.0,
    elim (g.1) [
      | inl d ↦ inl d
      | inr d ↦
          let form = form-read old new before after of names at id (d.0) now is_one (d.2) v (d.3.type) in
          let bad : Some s ≡ None = sym fits ∙ ap (λ (f : Form). fitted f c) form ∙ d.4 in
          absurd (cc)
    ],
  )

  pub writes-kept : (at id : ℕ) (z y : ℤ) (c s : code.Value) (e : Value) (r : Result (Unit {0}) OpFault) → y ≡ z
      → VectorAt old before of names at id → IsInt c → fitted (form_in of id) c ≡ Some s → IsForIn old before names c e
      → SetsElement old new before after at y c r
      → Writes old new before after (Vector id) of names (with_element of (Vector id) z (kept_as (Some (form_in of id)) e)) r
  writes-kept at id z y c s e r q v int fits for g =
      writes-element old new before after of names h now w was_one is_one at id z y s (kept_as (Some (form_in of id)) e) r q v
      (kept-form (form_in of id) c s int fits) (kept-for old before names (form_in of id) c s e fits for) (sets-kept at id y c s r v fits g)

-- An operation that writes an element, by a value that the elements keep in their form, is that of the meaning's.
abbrev pub SetsKept : area.Heap → area.Heap → Outside Space → Outside Space → ℕ → ℤ → code.Value → Result (Unit {0}) OpFault → Type 0
SetsKept old new before after vector z to result =
    (of : Heap) (names : List Reference) (id : ℕ) (v : Value) (stored : code.Value) → IsWorld old before of names
    → DenotesIn old before names (Some vector) (Vector id) → IsInt to → fitted (form_in of id) to ≡ Some stored → IsForIn old before names to v
    → Writes old new before after (Vector id) of names (with_element of (Vector id) z (kept_as (Some (form_in of id)) v)) result

pub set-kept : (old new : area.Heap) (before after : Outside Space) (vector : ℕ) (z y : ℤ) (to : code.Value) (r : Result (Unit {0}) OpFault) → IsHeap old
    → IsHeap new → ((a b : Space) → before.contents a → before.contents b → a ≡ b) → ((a b : Space) → after.contents a → after.contents b → a ≡ b)
    → y ≡ z → SetsElement old new before after vector y to r → SetsKept old new before after vector z to r
set-kept old new before after vector z y to r h now was_one is_one same does of names id v stored w d int fits for =
    writes-kept old new before after of names h now w was_one is_one vector id z y to stored v r same
    (vector-at old before of names vector id h w (vector-denoted old before names vector id h d)) int fits for does
