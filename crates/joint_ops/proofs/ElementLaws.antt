-- Vectors that are read and written, wherever the vector, its type, and what an element denotes lie.
use Rattle.std.proofs.Common.{w32, to_z, of_z, zero, ◌^◌, negsuc, nat_lt, arith, inl, inr, ◌⊎◌, ◌≡◌, ℕ, suc, ◌+◌, ◌<◌, ◌≤◌, ℤ, pos, List, [], ◌∷◌, length, get_or, set, replicate, refl, sym, ap, ◌∙◌, subst, Option, Some, None, true, nat_eq, if◌then◌else◌}
use Rattle.std.proofs.lemmas.Int.{ints, to_z-of_z}
use Rattle.std.proofs.lemmas.Bool.{ltb-true, and_parts}
use Rattle.std.specs.Prelude.{Result, Ok, Err, IfOk, ◌+ℤ◌, ◌-ℤ◌}
use Rattle.heap_meaning.specs.ps_outside.Outside.{Outside}
use Rattle.heap_meaning.specs.obj_layout.Stored.{Space, damage}
use Rattle.heap_meaning.specs.obj_layout.Kind.{kind_number}
use Rattle.heap_meaning.specs.obj_layout.declared.kind.Kind.{Kind}
use Rattle.heap_meaning.specs.obj_layout.declared.kind.Kind.TheVariants as kind
use Rattle.heap_meaning.specs.obj_layout.declared.reference.Reference as reference
use Rattle.heap_meaning.specs.swizzle.declared.fault.SwizzleFault.{SwizzleFault}
use Rattle.heap_meaning.specs.swizzle.Heap as area
use Rattle.heap_meaning.specs.swizzle.Heap.{IsHeap, header_at, ref_at}
use Rattle.heap_meaning.specs.swizzle.Joint.{Shown, shown_at}
use Rattle.heap_meaning.specs.swizzle.Changes.{Within}
use Rattle.heap_meaning.specs.swizzle.Text.{text_at}
use Rattle.heap_meaning.specs.swizzle.Touch.{IsTouchFault, Keeps}
use Rattle.heap_meaning.specs.swizzle.Reading.{joint, LeavesOutside}
use Rattle.heap_meaning.specs.text_forms.declared.forms.Form.{Form}
use Rattle.heap_meaning.specs.text_forms.declared.forms.Form.TheVariants as form
use Rattle.heap_meaning.specs.text_forms.Forms.{element_of, before_in}
use Rattle.heap_meaning.specs.heap_texts.declared.fault.OpFault.{OpFault}
use Rattle.heap_meaning.specs.heap_texts.declared.fault.OpFault.TheVariants as op
use Rattle.heap_meaning.specs.heap_places.Shapes.{IsText, slot_of, word_in}
use Rattle.heap_meaning.specs.heap_places.Words.{word_damage}
use Rattle.heap_meaning.specs.heap_places.Places.{assigned_value, Holds, FirstText, TouchesText, NoText, touched_by, IsNear}
use Rattle.heap_meaning.specs.heap_places.declared.value.Value as code
use Rattle.heap_meaning.proofs.of_heap_places.TouchedLaws.{text-seen}
use Rattle.heap_meaning.specs.heap_ops.Vectors.{count_of, index_of, kind_damage, vector_damage, subscript, fitted, FailsVector, FailsElement, TellsLow, TellsHigh, GetsElement, SetsElement}
use Rattle.heap_meaning.specs.ps_heap.Operators.{is_int}
use Rattle.heap_meaning.specs.ps_heap.Values.{Value, Vector, Nothing}
use Rattle.heap_meaning.specs.ps_heap.Texts.{Yields, Fails}
use Rattle.heap_meaning.specs.ps_heap.Objects.{Heap, Object, Elements, is_vector, place_of, low_in, elements_in, type_in, found_at, put_at, with_object, with_element}
use Rattle.heap_meaning.specs.ps_heap.Objects as meaning
use Rattle.heap_meaning.specs.Standing.{Seen, Pairing, StandsFor, IsWordOf, IsVector}
use Rattle.heap_meaning.specs.Paired.{paired}
use Rattle.heap_meaning.proofs.StandingLaws.{IsNumber, read-word}
use Rattle.heap_meaning.proofs.PlaceLaws.{word-behind, word-fits}
use Rattle.heap_meaning.proofs.WriteLaws.{element-form, element-before}
use Rattle.heap_meaning.proofs.VectorLaws.{low-is, is-long, vector-shape, subscript-is, below-count, element-read, element-written}
use Rattle.heap_meaning.proofs.GivenLaws.{shown_with}
use Rattle.heap_meaning.specs.heap_ops.Outcomes.{UnlessFault}
use Rattle.joint_ops.specs.World.{IsWorld, seen, IsForIn, IsOfForm, Stands, Answers, Writes, BreaksOff, BreaksAsReading}
use Rattle.joint_ops.specs.Operands as operands
use Rattle.joint_ops.proofs.SeenLaws.{VectorAt, first-text, Known, known-text, known-value, reads-within, as-within, IsCaused, caused-touch, caused-fetch, breaks, text-is, no-text, no-damage, joint-one}
use Rattle.joint_ops.proofs.FormLaws.{int-read, holds-form, holds-near, form-stored, form-fitted}
use Rattle.joint_ops.proofs.GainLaws.{reads-stands}
use Rattle.joint_ops.proofs.FieldLaws.{as-slot, known-touched}
use Rattle.joint_ops.proofs.RewriteLaws.{rewritten, write-stands, for-carried}
use Rattle.joint_ops.proofs.PutLaws.{kind-with, no-bytes, was-written}

-- Of one vector.

index-slot : (f : Form) (n : ℕ) → f ≡ form.Reference → 1 + n ≡ index_of f n
index-slot form.Reference n e = refl
index-slot form.Number n e = absurd (cc)
index-slot form.Flag n e = absurd (cc)

index-behind : (f : Form) (n : ℕ) → 1 ≤ index_of f n
index-behind form.Reference n = omega arith
index-behind form.Number n = omega arith
index-behind form.Flag n = omega arith

-- what an element holds fits its form
element-fits : (a : Seen) (pair : Pairing) (it : Shown) (ty : List ℕ) (low : ℤ) (vs : List Value) (n : ℕ) → IsVector a pair it ty low vs
    → n < length vs → word_damage (element_of ty) (word_in it (index_of (element_of ty) n)) ≡ None
unfolding IsNumber word_damage
element-fits a pair it ty low vs n v lt = of (element_of ty) refl
  where
    word : (f : Form) → element_of ty ≡ f → IsNumber f → word_damage f (word_in it (2 + n)) ≡ None
    word f same number =
        let forms = replicate (length vs) (element_of ty) in
        let at = element-form (element_of ty) (length vs) n lt ∙ ap Some same in
        let before : before_in f forms n ≡ n = ap (λ (g : Form). before_in g forms n) (sym same) ∙ element-before (element_of ty) (length vs) n lt in
        let w = read-word a pair f forms v.rows.names v.rows.words vs n number v.rows.are at in
        let there = word-behind it (v.rows.home ∷ v.bound ∷ []) v.rows.words 2 (before_in f forms n) refl v.rows.nums
        ∙ ap (λ (k : ℕ). word_in it (2 + k)) before in
        word-fits (word_in it (2 + n)) f (get_or vs n Nothing) (subst (λ (k : ℕ). IsWordOf k f (get_or vs n Nothing)) there w)

    of : (f : Form) → element_of ty ≡ f → word_damage (element_of ty) (word_in it (index_of (element_of ty) n)) ≡ None
    of form.Number same = ap (λ (g : Form). word_damage g (word_in it (index_of g n))) same ∙ word form.Number same tt
    of form.Flag same = ap (λ (g : Form). word_damage g (word_in it (index_of g n))) same ∙ word form.Flag same tt
    of form.Reference same = ap (λ (g : Form). word_damage g (word_in it (index_of g n))) same

vector-within : (a b : Seen) (pair : Pairing) (it : Shown) (ty : List ℕ) (low : ℤ) (vs : List Value) → Within a b → IsVector a pair it ty low vs
    → IsVector b pair it ty low vs
vector-within a b pair it ty low vs grows v = record {
  bound = v.bound;
  bound_is = v.bound_is;
  fits = v.fits;
  rows = as-within a b pair it kind.Vector ty (λ home. home ∷ v.bound ∷ []) (replicate (length vs) (element_of ty)) vs grows v.rows;
}

no-kind_damage : (it : Shown) → it.kind ≡ kind.Vector → kind_damage it ≡ None
no-kind_damage it is = ap (λ (k : Kind). if nat_eq (kind_number k) 3 then None else damage (kind_number k) 3) is

module _ (here : area.Heap) (outside : Outside Space) (of : Heap) (names : List reference.Reference) where
  type-text : (at id : ℕ) → (v : VectorAt here outside of names at id) → IsText (seen here outside) (slot_of (shown_at here at) 0) v.ty
  type-text at id v = first-text (seen here outside) (paired names) (shown_at here at) kind.Vector v.ty (λ home. home ∷ v.is.bound ∷ [])
      (replicate (length v.elements) (element_of v.ty)) v.elements v.is.rows

  type-known : (at id : ℕ) → VectorAt here outside of names at id → Known here outside (slot_of (shown_at here at) 0)
  type-known at id v = known-text here outside (slot_of (shown_at here at) 0) v.ty (type-text at id v)

  -- the form of its elements
  form-is : (at id : ℕ) → (v : VectorAt here outside of names at id) → operands.form_in of id ≡ element_of v.ty
  form-is at id v = ap (λ (o : Option Object). element_of (type_in o)) v.means

  element-slot : (it : Shown) (ty : List ℕ) (low : ℤ) (vs : List Value) (n : ℕ) → IsVector (seen here outside) (paired names) it ty low vs
      → n < length vs → element_of ty ≡ form.Reference → Known here outside (slot_of it (1 + n))
  element-slot it ty low vs n v lt reference =
      let forms = replicate (length vs) (element_of ty) in
      let before : before_in form.Reference forms n ≡ n = ap (λ (f : Form). before_in f forms n) (sym reference)
      ∙ element-before (element_of ty) (length vs) n lt in
      known-value here outside names (slot_of it (1 + n)) (get_or vs n Nothing)
      (subst (λ (k : ℕ). StandsFor (seen here outside) (paired names) (slot_of it (1 + k)) (get_or vs n Nothing)) before
      (as-slot (seen here outside) (paired names) it kind.Vector ty (λ home. home ∷ v.bound ∷ []) forms vs n v.rows
      (element-form (element_of ty) (length vs) n lt ∙ ap Some reference)))

  element-touched : (it : Shown) (ty : List ℕ) (low : ℤ) (vs : List Value) (n : ℕ) → IsVector (seen here outside) (paired names) it ty low vs
      → n < length vs → element_of ty ≡ form.Reference → Known here outside (slot_of it (index_of (element_of ty) n))
  element-touched it ty low vs n v lt e =
      subst (λ (k : ℕ). Known here outside (slot_of it k)) (index-slot (element_of ty) n e) (element-slot it ty low vs n v lt e)

  -- The place of a subscript is the one of the meaning.
  record PlaceAt (at id : ℕ) (z : ℤ) (n : ℕ) (v : VectorAt here outside of names at id) : Type 0 where
    place : place_of v.low (length v.elements) z ≡ Some n
    below : n < length v.elements

  place-at : (at id : ℕ) (z : ℤ) (n : ℕ) (text : List ℕ) → (v : VectorAt here outside of names at id) → v.ty ≡ text
      → subscript (shown_at here at) text z ≡ Some n → PlaceAt at id z n v
  place-at at id z n text v same is =
      let place = sym (subscript-is (seen here outside) (paired names) (shown_at here at) v.ty v.low v.elements z v.is)
      ∙ ap (λ (t : List ℕ). subscript (shown_at here at) t z) same ∙ is in
      record { place = place; below = below-count v.low z (length v.elements) n place }

  place-none : (at id : ℕ) (z : ℤ) (text : List ℕ) → (v : VectorAt here outside of names at id) → v.ty ≡ text
      → subscript (shown_at here at) text z ≡ None → place_of v.low (length v.elements) z ≡ None
  place-none at id z text v same is =
      sym (subscript-is (seen here outside) (paired names) (shown_at here at) v.ty v.low v.elements z v.is)
      ∙ ap (λ (t : List ℕ). subscript (shown_at here at) t z) same ∙ is

  element-meant : (at id : ℕ) (z : ℤ) → (v : VectorAt here outside of names at id)
      → meaning.element_of of (Vector id) z ≡ found_at (place_of v.low (length v.elements) z) v.elements
  unfolding meaning.element_of
  element-meant at id z v = ap (λ (o : Option Object). found_at (place_of (low_in o) (length (elements_in o)) z) (elements_in o)) v.means

  put-meant : (at id : ℕ) (z : ℤ) (e : Value) → (v : VectorAt here outside of names at id)
      → with_element of (Vector id) z e ≡ put_at of (Vector id) (place_of v.low (length v.elements) z) e
  unfolding with_element
  put-meant at id z e v = ap (λ (o : Option Object). put_at of (Vector id) (place_of (low_in o) (length (elements_in o)) z) e) v.means

  put-some : (at id n : ℕ) (e : Value) → (v : VectorAt here outside of names at id)
      → put_at of (Vector id) (Some n) e ≡ Yields (with_object of id (Elements v.ty v.low (set v.elements n e)))
  put-some at id n e v = ap
      (λ (o : Option Object). Yields (with_object of id (Elements (type_in o) (low_in o) (set (elements_in o) n e)))) v.means

  -- its bounds are ints
  pub low-int : (at id : ℕ) → VectorAt here outside of names at id → is_int (meaning.low_of of (Vector id)) ≡ true
  unfolding meaning.low_of
  low-int at id v = ap (λ (o : Option Object). is_int (low_in o)) v.means ∙ int-read v.is.bound v.low v.is.bound_is

  pub high-int : (at id : ℕ) → VectorAt here outside of names at id → is_int (meaning.high_of of (Vector id)) ≡ true
  unfolding meaning.low_of meaning.high_of
  high-int at id v =
      ap (λ (o : Option Object). is_int (low_in o +ℤ (pos (length (elements_in o)) -ℤ pos 1))) v.means ∙ upper-int v.low (length v.elements) v.is.fits
    where
      last-of : (n : ℕ) → pos (suc n) -ℤ pos 1 ≡ pos n
      last-of n = omega (arith, ints)

      upper-int : (low : ℤ) (count : ℕ) → is_vector low count ≡ true → is_int (low +ℤ (pos count -ℤ pos 1)) ≡ true
      upper-int low zero e = absurd (cc)
      upper-int low (suc n) e = ap (λ (z : ℤ). is_int (low +ℤ z)) (last-of n) ∙ (and_parts (nat_lt n (2 ^ 20)) (is_int (low +ℤ pos n)) e).1

-- Bounds are ints, so that they come back from code as they are.

int-same : (z : ℤ) → is_int z ≡ true → to_z w32 (of_z w32 z) ≡ z
int-same (pos n) e = to_z-of_z w32 (pos n) (record { sfits = ltb-true n (2 ^ 31) e })
int-same (negsuc n) e = to_z-of_z w32 (negsuc n) (record { sfits = ltb-true n (2 ^ 31) e })

pub bound-back : (so : Type 0) (z wanted : ℤ) → is_int wanted ≡ true → (x : ℤ) × (Yields wanted ≡ Yields x) × (z ≡ x) × so
    → (x : ℤ) × (Yields wanted ≡ Yields x) × (to_z w32 (of_z w32 z) ≡ x) × so
bound-back so z wanted int t =
    let is : wanted ≡ t.0 = let both = t.1 in cc in
    (t.0, t.1, int-same z (ap is_int (t.2 ∙ sym is) ∙ int) ∙ t.2, t.3)

module _ (old new : area.Heap) (before after : Outside Space) (of : Heap) (names : List reference.Reference)
    (h : IsHeap old) (now : IsHeap new) (w : IsWorld old before of names)
    (was_one : (a b : Space) → before.contents a → before.contents b → a ≡ b) (is_one : (a b : Space) → after.contents a → after.contents b → a ≡ b) where
  type-is : (at id : ℕ) (text : List ℕ) → Within (joint old before) (joint new after) → (v : VectorAt old before of names at id)
      → IsText (joint new after) (slot_of (shown_at old at) 0) text → v.ty ≡ text
  type-is at id text grows v t =
      text-is old new before after (slot_of (shown_at old at) 0) v.ty text grows (joint-one new after now is_one) (type-text old before of names at id v) t

  -- Why it broke off.

  caused-type : (at id : ℕ) (fault : SwizzleFault) → VectorAt old before of names at id
      → NoText old new before after at fault ⊎ IsTouchFault old before (ref_at old at 0) fault → IsCaused old new before after fault
  caused-type at id fault v (inl none) = absurd (no-text old new before after at v.ty fault now (type-text old before of names at id v) none)
  caused-type at id fault v (inr touch) = caused-touch old new before after at 0 fault h (type-known old before of names at id v) touch

  caused-vector : (at id : ℕ) (fault : SwizzleFault) → VectorAt old before of names at id → FailsVector old new before after at fault
      → IsCaused old new before after fault
  caused-vector at id fault v (inl d) =
      absurd (no-damage old at (kind_damage (shown_at old at)) fault (no-kind_damage (shown_at old at) v.is.rows.kind_is) d)
  caused-vector at id fault v (inr (inl t)) = caused-type at id fault v (t.1)
  caused-vector at id fault v (inr (inr d)) =
      let same = type-is at id (d.3.0) (d.2) v (d.3.1) in
      absurd (no-damage old at (vector_damage (shown_at old at) (element_of (d.3.0))) fault
      (ap (λ (t : List ℕ). vector_damage (shown_at old at) (element_of t)) (sym same)
      ∙ vector-shape (seen old before) (paired names) (shown_at old at) v.ty v.low v.elements v.is) (d.3.2))

  caused-element : (at id : ℕ) (z : ℤ) (fault : SwizzleFault) → VectorAt old before of names at id → FailsElement old before at z fault
      → IsCaused old new before after fault
  caused-element at id z fault v d =
      let it = shown_at old at in
      let same = text-is old d.mid before before (slot_of it 0) v.ty d.text d.grows (joint-one d.mid before d.heap was_one)
      (type-text old before of names at id v) d.is.type in
      let p = place-at old before of names at id z d.n d.text v same d.place in
      elim (d.why) [
        | inl k ↦ absurd (no-damage old at (word_damage (element_of d.text) (word_in it (index_of (element_of d.text) d.n))) fault
            (subst (λ (t : List ℕ). word_damage (element_of t) (word_in it (index_of (element_of t) d.n)) ≡ None) same
            (element-fits (seen old before) (paired names) it v.ty v.low v.elements d.n v.is p.below)) k)
        | inr t ↦ caused-fetch old new before after (slot_of it (index_of (element_of d.text) d.n)) fault h
            (subst (λ (x : List ℕ). Known old before (slot_of it (index_of (element_of x) d.n))) same
            (element-touched old before of names it v.ty v.low v.elements d.n v.is p.below (ap element_of same ∙ t.0))) (t.1)
      ]

  -- The form of its elements.

  pub answers-form : (at id text : ℕ) (f : Form) → VectorAt old before of names at id → FirstText old new before after at text
      → f ≡ element_of (text_at new text)
      → Answers old new before after (λ (is : Form) (wanted : Form). is ≡ wanted) of names (Yields (operands.form_in of id)) (Ok f)
  answers-form at id text f v t e =
      let same = type-is at id (text_at new text) (t.reads.grows) v (text-seen old new before after at text t) in (
        operands.form_in of id,
        refl,
        e ∙ ap element_of (sym same) ∙ sym (form-is old before of names at id v),
        reads-stands old new before after (slot_of (shown_at old at) 0 ∷ []) of names h now (type-known old before of names at id v, tt) t.reads w,
      )

  pub breaks-form : (at id : ℕ) (fault : SwizzleFault) → VectorAt old before of names at id → TouchesText old new before after at (Err fault)
      → BreaksOff old new before after fault
  breaks-form at id fault v t = breaks old new before after fault (t.0) (caused-type at id fault v (t.1))

  -- Bounds.

  pub answers-low : (at id : ℕ) (z : ℤ) → VectorAt old before of names at id → TellsLow old new before after at (Ok z)
      → (x : ℤ) × (Yields (meaning.low_of of (Vector id)) ≡ Yields x) × (z ≡ x) × Stands old new before after of names
  unfolding meaning.low_of
  answers-low at id z v t = (
    meaning.low_of of (Vector id),
    refl,
    t.2 ∙ low-is (seen old before) (paired names) (shown_at old at) v.ty v.low v.elements v.is ∙ sym (ap low_in v.means),
    reads-stands old new before after (slot_of (shown_at old at) 0 ∷ []) of names h now (type-known old before of names at id v, tt) (t.1.reads) w,
  )

  pub answers-high : (at id : ℕ) (z : ℤ) → VectorAt old before of names at id → TellsHigh old new before after at (Ok z)
      → (x : ℤ) × (Yields (meaning.high_of of (Vector id)) ≡ Yields x) × (z ≡ x) × Stands old new before after of names
  unfolding meaning.low_of meaning.high_of
  answers-high at id z v t =
      let it = shown_at old at in
      let same = type-is at id (t.0) (t.1.reads.grows) v (t.1.is.type) in
      let low = low-is (seen old before) (paired names) it v.ty v.low v.elements v.is in
      let count : count_of it (element_of (t.0)) ≡ length v.elements = ap (λ (x : List ℕ). count_of it (element_of x)) (sym same)
      ∙ (is-long (seen old before) (paired names) it v.ty v.low v.elements v.is).count in (
        meaning.high_of of (Vector id),
        refl,
        t.2 ∙ ap (λ (l : ℤ). l +ℤ (pos (count_of it (element_of (t.0))) -ℤ pos 1)) low ∙ ap (λ (n : ℕ). v.low +ℤ (pos n -ℤ pos 1)) count
            ∙ sym (ap (λ (o : Option Object). low_in o +ℤ (pos (length (elements_in o)) -ℤ pos 1)) v.means),
        reads-stands old new before after (slot_of it 0 ∷ []) of names h now (type-known old before of names at id v, tt) (t.1.reads) w,
      )

  pub breaks-low : (at id : ℕ) (fault : SwizzleFault) → VectorAt old before of names at id → TellsLow old new before after at (Err fault)
      → BreaksOff old new before after fault
  breaks-low at id fault v t = breaks old new before after fault (t.0) (caused-vector at id fault v (t.1))

  pub breaks-high : (at id : ℕ) (fault : SwizzleFault) → VectorAt old before of names at id → TellsHigh old new before after at (Err fault)
      → BreaksOff old new before after fault
  breaks-high at id fault v t = breaks old new before after fault (t.0) (caused-vector at id fault v (t.1))

  -- Elements.

  pub answers-element : (at id : ℕ) (z y : ℤ) (result : Result code.Value OpFault) → y ≡ z → VectorAt old before of names at id
      → GetsElement old new before after at y result
      → Answers old new before after (λ c v. IsOfForm (operands.form_in of id) c × IsForIn new after names c v) of names
      (meaning.element_of of (Vector id) z) result
  answers-element at id z y (Ok c) e v g =
      let it = shown_at old at in
      let touched = slot_of it 0 ∷ touched_by it (element_of g.text) (index_of (element_of g.text) g.n) in
      let same = type-is at id g.text g.reads.grows v g.is.type in
      let p = place-at old before of names at id y g.n g.text v same g.place in
      let holds = subst (λ (t : List ℕ). Holds new it (element_of t) (index_of (element_of t) g.n) c) (sym same) g.value in (
        get_or v.elements g.n Nothing,
        ap (λ (x : ℤ). meaning.element_of of (Vector id) x) (sym e) ∙ element-meant old before of names at id y v
            ∙ ap (λ (o : Option ℕ). found_at o v.elements) p.place,
        (
          subst (λ (f : Form). IsOfForm f c) (sym (form-is old before of names at id v))
              (holds-form new it (element_of v.ty) (index_of (element_of v.ty) g.n) c holds),
          element-read new (seen new after) (paired names) it v.ty v.low v.elements g.n c
              (vector-within (seen old before) (seen new after) (paired names) it v.ty v.low v.elements
              (reads-within old new before after touched g.reads) v.is) p.below holds,
        ),
        reads-stands old new before after touched of names h now (
          type-known old before of names at id v,
          known-touched (seen old before) it (element_of g.text) (index_of (element_of g.text) g.n)
              (λ e. subst (λ (x : List ℕ). Known old before (slot_of it (index_of (element_of x) g.n))) same
              (element-touched old before of names it v.ty v.low v.elements g.n v.is p.below (ap element_of same ∙ e))),
        ) g.reads w,
      )
  answers-element at id z y (Err (op.Trap t)) e v g =
      let same = type-is at id (g.1.0) (g.1.1.reads.grows) v (g.1.1.is.type) in (
        ap (λ (x : ℤ). meaning.element_of of (Vector id) x) (sym e) ∙ element-meant old before of names at id y v
            ∙ ap (λ (o : Option ℕ). found_at o v.elements) (place-none old before of names at id y (g.1.0) v same (g.1.2)) ∙ ap Fails (sym (g.0)),
        reads-stands old new before after (slot_of (shown_at old at) 0 ∷ []) of names h now (type-known old before of names at id v, tt) (g.1.1.reads) w,
      )
  answers-element at id z y (Err (op.Swizzle fault)) e v g =
      breaks old new before after fault (g.0) (elim (g.1) [
        | inl d ↦ caused-vector at id fault v d
        | inr d ↦ caused-element at id y fault v d
      ])

-- An element was written, or why not.
module _ (old new : area.Heap) (before after : Outside Space) (of : Heap) (names : List reference.Reference)
    (h : IsHeap old) (now : IsHeap new) (w : IsWorld old before of names)
    (was_one : (a b : Space) → before.contents a → before.contents b → a ≡ b) (is_one : (a b : Space) → after.contents a → after.contents b → a ≡ b) where
  pub writes-element : (at id : ℕ) (z y : ℤ) (c : code.Value) (e : Value) (result : Result (Unit {0}) OpFault) → y ≡ z
      → VectorAt old before of names at id → IsOfForm (operands.form_in of id) c → IsForIn old before names c e
      → SetsElement old new before after at y c result → Writes old new before after (Vector id) of names (with_element of (Vector id) z e) result
  writes-element at id z y c e (Ok done) q v form for g =
      let mid = g.mid in
      let touched = slot_of (shown_at old at) 0 ∷ [] in
      let reads = g.vector.reads in
      let stays = reads.keeps.objects at v.held in
      let same = type-is old mid before after of names h g.heap w was_one is_one at id g.text reads.grows v g.vector.is.type in
      let p = place-at old before of names at id y g.n g.text v same g.place in
      let shaped : IsOfForm (element_of v.ty) c = subst (λ (f : Form). IsOfForm f c) (form-is old before of names at id v) form in
      let stored : c ≡ g.stored = let both : Some c ≡ Some g.stored = sym (form-fitted (element_of v.ty) c shaped)
      ∙ ap (λ (t : List ℕ). fitted (element_of t) c) same ∙ g.fits in cc in
      let read = reads-stands old mid before after touched of names h g.heap (type-known old before of names at id v, tt) reads w in
      let there : IsVector (seen mid after) (paired names) (shown_at mid at) v.ty v.low v.elements =
      subst (λ (it : Shown). IsVector (seen mid after) (paired names) it v.ty v.low v.elements) (sym stays.shown_as)
      (vector-within (seen old before) (seen mid after) (paired names) (shown_at old at) v.ty v.low v.elements
      (reads-within old mid before after touched reads) v.is) in
      let index = index_of (element_of v.ty) g.n in
      let written = g.written ∙ ap (λ (t : List ℕ). assigned_value mid at (index_of (element_of t) g.n) g.stored) (sym same)
      ∙ ap (λ (x : code.Value). assigned_value mid at index x) (sym stored) in
      let object = Elements v.ty v.low (set v.elements g.n e) in (
        with_object of id object,
        ap (λ (x : ℤ). with_element of (Vector id) x e) (sym q) ∙ put-meant old before of names at id y e v
            ∙ ap (λ (o : Option ℕ). put_at of (Vector id) o e) p.place ∙ put-some old before of names at id g.n e v,
        write-stands old mid new before after of names at id (shown_with mid (shown_at mid at) index c) object g.heap now is_one read stays.held
            (subst (λ (m : reference.Reference). paired names m id) (sym stays.name) v.pair)
            (no-bytes (header_at mid at).kind kind.Vector there.rows.kind_is (λ x. cc) (λ x. cc))
            (kind-with mid (shown_at mid at) index c)
            (element-written mid (seen mid after) (paired names) (shown_at mid at) v.ty v.low v.elements g.n c e there p.below
            (form-stored after mid names (element_of v.ty) c e shaped (for-carried old mid before after names names c e read.carries for)))
            tt
            (was-written mid new at index c kind.Vector g.heap stays.held there.rows.kind_is tt (index-behind (element_of v.ty) g.n) written)
            (rewritten mid new at index c g.heap stays.held written),
      )
  writes-element at id z y c e (Err (op.Trap t)) q v form for g =
      let same = type-is old new before after of names h now w was_one is_one at id (g.1.0) (g.1.1.reads.grows) v (g.1.1.is.type) in (
        ap (λ (x : ℤ). with_element of (Vector id) x e) (sym q) ∙ put-meant old before of names at id y e v
            ∙ ap (λ (o : Option ℕ). put_at of (Vector id) o e) (place-none old before of names at id y (g.1.0) v same (g.1.2)) ∙ ap Fails (sym (g.0)),
        reads-stands old new before after (slot_of (shown_at old at) 0 ∷ []) of names h now (type-known old before of names at id v, tt) (g.1.1.reads) w,
      )
  writes-element at id z y c e (Err (op.Swizzle fault)) q v form for g =
      breaks old new before after fault (g.0) (elim (g.1) [
        | inl d ↦ caused-vector old new before after of names h now w was_one is_one at id fault v d
        | inr d ↦
            let same = type-is old new before after of names h now w was_one is_one at id (d.0) (d.2) v (d.3.type) in
            let shaped : IsOfForm (element_of v.ty) c = subst (λ (f : Form). IsOfForm f c) (form-is old before of names at id v) form in
            let bad : Some c ≡ None = sym (form-fitted (element_of v.ty) c shaped) ∙ ap (λ (t : List ℕ). fitted (element_of t) c) same ∙ d.4 in
            absurd (cc)
      ])

-- What is said whatever the vault.

pub element-leaves : (old new : area.Heap) (before after : Outside Space) (at : ℕ) (z : ℤ) (r : Result code.Value OpFault)
    → GetsElement old new before after at z r → LeavesOutside before after
element-leaves old new before after at z (Ok v) g = g.reads.outside
element-leaves old new before after at z (Err (op.Trap t)) g = g.1.1.reads.outside
element-leaves old new before after at z (Err (op.Swizzle fault)) g = g.0.outside

pub element-breaks : (old new : area.Heap) (before after : Outside Space) (at : ℕ) (z : ℤ) (r : Result code.Value OpFault)
    → GetsElement old new before after at z r → BreaksAsReading before after r
element-breaks old new before after at z (Ok v) g = tt
element-breaks old new before after at z (Err (op.Trap t)) g = tt
element-breaks old new before after at z (Err (op.Swizzle fault)) g = g.0

pub put-leaves : (old new : area.Heap) (before after : Outside Space) (at : ℕ) (z : ℤ) (c : code.Value) (r : Result (Unit {0}) OpFault)
    → SetsElement old new before after at z c r → LeavesOutside before after
put-leaves old new before after at z c (Ok done) g = g.vector.reads.outside
put-leaves old new before after at z c (Err (op.Trap t)) g = g.1.1.reads.outside
put-leaves old new before after at z c (Err (op.Swizzle fault)) g = g.0.outside

pub put-breaks : (old new : area.Heap) (before after : Outside Space) (at : ℕ) (z : ℤ) (c : code.Value) (r : Result (Unit {0}) OpFault)
    → SetsElement old new before after at z c r → BreaksAsReading before after r
put-breaks old new before after at z c (Ok done) g = tt
put-breaks old new before after at z c (Err (op.Trap t)) g = tt
put-breaks old new before after at z c (Err (op.Swizzle fault)) g = g.0

pub element-near : (old new : area.Heap) (before after : Outside Space) (at : ℕ) (z : ℤ) (r : Result code.Value OpFault)
    → GetsElement old new before after at z r → IfOk r (IsNear new)
element-near old new before after at z (Ok v) g = holds-near new (shown_at old at) (element_of g.text) (index_of (element_of g.text) g.n) v g.value
element-near old new before after at z (Err fault) g = tt

pub element-keeps : (old new : area.Heap) (before after : Outside Space) (at : ℕ) (z : ℤ) (r : Result code.Value OpFault)
    → GetsElement old new before after at z r → UnlessFault r (Keeps old new)
element-keeps old new before after at z (Ok v) g = g.reads.keeps
element-keeps old new before after at z (Err (op.Trap t)) g = g.1.1.reads.keeps
element-keeps old new before after at z (Err (op.Swizzle fault)) g = tt
