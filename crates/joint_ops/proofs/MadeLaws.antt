-- New structures and vectors, beside a vault.
use mir.Val.{SFits}
use Rattle.std.proofs.lemmas.Bool.{lt-ltb, ltb-true, and_parts}
use Rattle.std.proofs.Common.{arith, inl, w32, ◌^◌, ◌≤◌, negsuc, nat_lt, ◌≡◌, ℕ, zero, suc, ◌+◌, ◌*◌, ℤ, pos, List, [], ◌∷◌, length, get_or, replicate, refl, sym, ap, ◌∙◌, subst, Option, Some, None, Bool, true, false}
use Rattle.std.specs.Prelude.{Result, Ok, Err, ◌+ℤ◌, ◌-ℤ◌, IfOk}
use Rattle.std.proofs.lemmas.List.{length-replicate}
use Rattle.heap_meaning.specs.ps_outside.Outside.{Outside}
use Rattle.heap_meaning.specs.obj_layout.Objects as layout
use Rattle.heap_meaning.specs.obj_layout.Objects.{Contents, HasContents}
use Rattle.heap_meaning.specs.obj_layout.Stored.{Space}
use Rattle.heap_meaning.specs.obj_layout.declared.kind.Kind.{Kind}
use Rattle.heap_meaning.specs.obj_layout.declared.kind.Kind.TheVariants as kind
use Rattle.heap_meaning.specs.obj_layout.declared.reference.Reference as reference
use Rattle.heap_meaning.specs.obj_layout.declared.reference.Reference.TheVariants as name
use Rattle.heap_meaning.specs.swizzle.declared.fault.SwizzleFault.{SwizzleFault}
use Rattle.heap_meaning.specs.swizzle.Objects as area_objects
use Rattle.heap_meaning.specs.swizzle.Objects.{size_of}
use Rattle.heap_meaning.specs.swizzle.Heap as area
use Rattle.heap_meaning.specs.swizzle.Heap.{IsHeap, IsHeld, IsInside, IsMade, IsFull, header_at, object_at, top_of, with_new}
use Rattle.heap_meaning.specs.swizzle.Joint.{shown, shown_at, name_at, name_by, name_of}
use Rattle.heap_meaning.specs.swizzle.Changes.{ChangedAt}
use Rattle.heap_meaning.specs.swizzle.Touch.{Keeps}
use Rattle.heap_meaning.proofs.of_swizzle.NameLaws.{name-none}
use Rattle.heap_meaning.proofs.of_swizzle.JointLaws.{name-fresh}
use Rattle.heap_meaning.proofs.of_swizzle.MadeLaws.{made-held, made-object}
use Rattle.heap_meaning.specs.text_forms.declared.forms.Form.{Form}
use Rattle.heap_meaning.specs.text_forms.declared.forms.Form.TheVariants as form
use Rattle.heap_meaning.specs.text_forms.Forms.{forms_of, element_of}
use Rattle.heap_meaning.specs.heap_texts.declared.fault.OpFault.{OpFault}
use Rattle.heap_meaning.specs.heap_texts.declared.fault.OpFault.TheVariants as op
use Rattle.heap_meaning.specs.heap_texts.Texts.{wanted_of}
use Rattle.heap_meaning.specs.heap_places.Shapes.{IsText}
use Rattle.heap_meaning.specs.heap_places.Words.{int_word}
use Rattle.heap_meaning.specs.heap_places.Places.{IsNear}
use Rattle.heap_meaning.specs.heap_places.Filling.{refs_of, words_of, AreNear, filled, filled_words, Fills}
use Rattle.heap_meaning.specs.heap_places.declared.value.Value as code
use Rattle.heap_meaning.specs.heap_places.declared.value.Value.TheVariants as held
use Rattle.heap_meaning.proofs.of_heap_places.FillingLaws.{rows-length, near-repeated}
use Rattle.heap_meaning.specs.heap_ops.Vectors.{MakesVector}
use Rattle.ps_base.specs.Limits.{most_elements}
use Rattle.heap_meaning.specs.ps_heap.Operators.{is_int}
use Rattle.heap_meaning.specs.ps_heap.Values.{Value, Text, Pointer, Vector}
use Rattle.heap_meaning.specs.ps_heap.Texts.{Yields}
use Rattle.heap_meaning.specs.ps_heap.Objects.{Heap, Object, Structure, Elements, new_number, is_vector, is_made, vector_of, filled_vector, count_from}
use Rattle.heap_meaning.specs.ps_heap.Objects as meaning
use Rattle.heap_meaning.specs.ps_heap.Weights.{own_weight}
use Rattle.heap_meaning.specs.Tables.{IsNewTable}
use Rattle.heap_meaning.specs.Standing.{StandsFor, IsKindOf, IsLike}
use Rattle.heap_meaning.specs.Paired.{name_in, paired, and_name}
use Rattle.heap_meaning.proofs.StandingLaws.{Pairs, like-more}
use Rattle.heap_meaning.proofs.PairedLaws.{name-before, name-last, row-made}
use Rattle.heap_meaning.proofs.WriteLaws.{as-made}
use Rattle.joint_ops.specs.Seeing.{Gains}
use Rattle.joint_ops.specs.World.{IsStored, IsWorld, seen, DenotesIn, IsForIn, IsOfForm, Carries, Stands}
use Rattle.joint_ops.specs.Operands.{AreForIn}
use Rattle.joint_ops.specs.Made.{IsFresh, IsNew, Makes, BreaksAsMaking}
use Rattle.joint_ops.proofs.SeenLaws.{seen-held, keeps-passes, keeps-carries}
use Rattle.joint_ops.proofs.GainLaws.{made-gains, nothing-done}
use Rattle.joint_ops.proofs.GrowthLaws.{made-keeps, same-keeps, made-top, made-changed, full-short, full-breaks}
use Rattle.joint_ops.proofs.FormLaws.{int-back, are-of, are-long, are-repeated}

-- What a new object refers to lies in the area.
near-inside : (here : area.Heap) (cs : List code.Value) (slot to : ℕ) → AreNear here cs → get_or (refs_of cs) slot name.Nil ≡ name.Local to
    → IsHeld here to
unfolding refs_of
near-inside here [] slot to near e = absurd (cc)
near-inside here (held.Num z ∷ cs) slot to near e = near-inside here cs slot to (near.1) e
near-inside here (held.Flag b ∷ cs) slot to near e = near-inside here cs slot to (near.1) e
near-inside here (held.Ref None ∷ cs) zero to near e = absurd (cc)
near-inside here (held.Ref (Some at) ∷ cs) zero to near e = let same : at ≡ to = cc in subst (IsHeld here) same (near.0)
near-inside here (held.Ref x ∷ cs) (suc slot) to near e = near-inside here cs slot to (near.1) e

inside-filled : (here : area.Heap) (of : Kind) (text : ℕ) (low : Option ℤ) (cs : List code.Value) → IsHeld here text → AreNear here cs
    → IsInside here (filled of text low cs)
unfolding filled
inside-filled here of text low cs held near zero to e = let same : text ≡ to = cc in subst (IsHeld here) same held
inside-filled here of text low cs held near (suc slot) to e = near-inside here cs slot to near e

-- How many words it has.
structure-weight : (k : Kind) (text : ℕ) (cs : List code.Value) (class : List ℕ) (vs : List Value) → length cs ≡ length vs
    → 8 * size_of (filled k text None cs) ≡ own_weight (Structure class vs)
unfolding filled
structure-weight k text cs class vs long = omega (arith, rows-length cs, long)

vector-weight : (k : Kind) (text : ℕ) (low : ℤ) (cs : List code.Value) (ty : List ℕ) (vs : List Value) → length cs ≡ length vs
    → 8 * size_of (filled k text (Some low) cs) ≡ own_weight (Elements ty low vs)
unfolding filled
vector-weight k text low cs ty vs long = omega (arith, rows-length cs, long)

words-filled : (k : Kind) (text : ℕ) (low : Option ℤ) (cs : List code.Value) → filled_words low cs ≡ size_of (filled k text low cs)
unfolding filled filled_words
words-filled k text low cs = refl

-- An int of 32 bits is one of the meaning.
pub fits-int : (z : ℤ) → SFits w32 z → is_int z ≡ true
fits-int (pos n) f = lt-ltb n (2 ^ 31) (omega (arith, f.sfits))
fits-int (negsuc n) f = lt-ltb n (2 ^ 31) (omega (arith, f.sfits))

-- What it holds, by its kind.

structure-whole : (text : ℕ) (cs : List code.Value)
    → HasContents (filled kind.Structure text None cs).header (layout.structure (length (refs_of cs)) (length (words_of cs)))
unfolding filled
structure-whole text cs = record { kind = refl; counted = refl; allowed = tt }

-- a vector holds references alone, or numbers alone
contents_by : Form → ℕ → Contents
contents_by form.Reference n = layout.vector_of_references n
contents_by form.Number n = layout.vector_of_numbers n
contents_by form.Flag n = layout.vector_of_numbers n

most-elements : (low : ℤ) (n : ℕ) → is_vector low n ≡ true → (1 ≤ n) × (n ≤ most_elements)
most-elements low zero e = absurd (cc)
most-elements low (suc n) e = let lt = ltb-true n most_elements (and_parts (nat_lt n most_elements) (is_int (low +ℤ pos n)) e).0 in (omega arith, omega (arith, lt))

counts-by : (refs words r w : ℕ) → refs ≡ r → words ≡ w → layout.counts (1 + refs) (2 + words) 0 ≡ layout.counts (1 + r) (2 + w) 0
counts-by refs words r w er ew = ap (λ (k : ℕ). layout.counts (1 + k) (2 + words) 0) er ∙ ap (λ (k : ℕ). layout.counts (1 + r) (2 + k) 0) ew

module _ (old : area.Heap) (outside : Outside Space) (names : List reference.Reference) where
  -- how many of each row values of one form have
  rows-references : (n : ℕ) (cs : List code.Value) (vs : List Value) → AreForIn old outside names (replicate n form.Reference) cs vs
      → (length (refs_of cs) ≡ n) × (length (words_of cs) ≡ 0)
  unfolding refs_of words_of
  rows-references zero [] [] a = (refl, refl)
  rows-references zero [] (v ∷ vs) a = absurd a
  rows-references zero (c ∷ cs) vs a = absurd a
  rows-references (suc n) [] vs a = absurd a
  rows-references (suc n) (c ∷ cs) [] a = absurd a
  rows-references (suc n) (held.Ref to ∷ cs) (v ∷ vs) a = let r = rows-references n cs vs (a.2) in (ap suc (r.0), r.1)
  rows-references (suc n) (held.Num z ∷ cs) (v ∷ vs) a = absurd (a.0)
  rows-references (suc n) (held.Flag b ∷ cs) (v ∷ vs) a = absurd (a.0)

  of-references : (f : Form) (to : Option ℕ) → IsOfForm f (held.Ref to) → f ≡ form.Reference
  of-references form.Reference to is = refl
  of-references form.Number to is = absurd is
  of-references form.Flag to is = absurd is

  rows-numbers : (f : Form) (n : ℕ) (cs : List code.Value) (vs : List Value) → (f ≡ form.Reference → ⊥) → AreForIn old outside names (replicate n f) cs vs
      → (length (refs_of cs) ≡ 0) × (length (words_of cs) ≡ n)
  unfolding refs_of words_of
  rows-numbers f zero [] [] ne a = (refl, refl)
  rows-numbers f zero [] (v ∷ vs) ne a = absurd a
  rows-numbers f zero (c ∷ cs) vs ne a = absurd a
  rows-numbers f (suc n) [] vs ne a = absurd a
  rows-numbers f (suc n) (c ∷ cs) [] ne a = absurd a
  rows-numbers f (suc n) (held.Ref to ∷ cs) (v ∷ vs) ne a = absurd (ne (of-references f to (a.0)))
  rows-numbers f (suc n) (held.Num z ∷ cs) (v ∷ vs) ne a = let r = rows-numbers f n cs vs ne (a.2) in (r.0, ap suc (r.1))
  rows-numbers f (suc n) (held.Flag b ∷ cs) (v ∷ vs) ne a = let r = rows-numbers f n cs vs ne (a.2) in (r.0, ap suc (r.1))

  vector-whole : (f : Form) (ty : ℕ) (low at : ℤ) (cs : List code.Value) (vs : List Value) → is_vector low (length vs) ≡ true
      → AreForIn old outside names (replicate (length vs) f) cs vs → HasContents (filled kind.Vector ty (Some at) cs).header (contents_by f (length vs))
  unfolding filled contents_by
  vector-whole form.Reference ty low at cs vs fits are =
      let r = rows-references (length vs) cs vs are in
      record { kind = refl; counted = counts-by (length (refs_of cs)) (length (words_of cs)) (length vs) 0 (r.0) (r.1); allowed = most-elements low (length vs) fits }
  vector-whole form.Number ty low at cs vs fits are =
      let r = rows-numbers form.Number (length vs) cs vs (λ e. cc) are in
      record { kind = refl; counted = counts-by (length (refs_of cs)) (length (words_of cs)) 0 (length vs) (r.0) (r.1); allowed = most-elements low (length vs) fits }
  vector-whole form.Flag ty low at cs vs fits are =
      let r = rows-numbers form.Flag (length vs) cs vs (λ e. cc) are in
      record { kind = refl; counted = counts-by (length (refs_of cs)) (length (words_of cs)) 0 (length vs) (r.0) (r.1); allowed = most-elements low (length vs) fits }

module _ (outside : Outside Space) where
  -- A new object of the area that stands for a new one of the heap, whose number is paired with its name.
  pub record ObjectMade (old new : area.Heap) (of : Heap) (names : List reference.Reference) (k : Kind) (at : ℕ) (object : Object) : Type 0 where
    pub held : IsHeld new at
    pub unstored : (header_at new at).pid ≡ 0
    pub world : IsWorld new outside (meaning.with_new of object) (and_name names (name_at new at))
    pub carries : Carries old new outside outside names (and_name names (name_at new at))
    pub gains : Gains old new outside outside
    pub top : 8 * top_of new ≡ 8 * top_of old + own_weight object
    pub pair : paired (and_name names (name_at new at)) (name_at new at) (new_number of)
    pub kinds : IsKindOf (seen new outside) (name_at new at) k

  pub object-made : (old new : area.Heap) (of : Heap) (names : List reference.Reference) (at : ℕ) (o : area_objects.Object) (object : Object) (contents : Contents)
      → IsHeap old → IsHeap new → IsWorld old outside of names → IsInside old o → o.header.pid ≡ 0 → HasContents o.header contents → IsMade old new at o
      → IsLike (seen old outside) (paired names) (shown (name_of old) o) object → IsNewTable (shown (name_of old) o) object → 8 * size_of o ≡ own_weight object
      → ObjectMade old new of names o.header.kind at object
  object-made old new of names at o object contents h now w inside no_pid whole m like blank weight =
      let gains = made-gains old new outside at o contents h now inside no_pid whole m in
      let n = name_at new at in
      let more = and_name names n in
      let pairs : Pairs (paired names) (paired more) = λ i id p. name-before names i n id p in
      let passes = keeps-passes old new (seen old outside) (seen new outside) gains.keeps gains.grows in
      let grown = like-more (seen old outside) (seen new outside) (paired names) (paired more) (shown (name_of old) o) object
      passes.fixed passes.kinds pairs like in
      let there = made-held old new at o m in
      let is = made-object old new at o m in
      let named : n ≡ name.Local (top_of old) = ap (λ (x : area_objects.Object). name_by x.header at) is ∙ name-none (o.header) at no_pid
      ∙ ap (λ (i : ℕ). name.Local i) m.place in
      let changed = subst (λ (i : reference.Reference). ChangedAt (seen old outside) i (shown (name_of old) o) (seen new outside)) (sym named)
      (made-changed old new outside at o h inside no_pid m) in
      record {
        held = there;
        unstored = ap (λ (x : area_objects.Object). x.header.pid) is ∙ no_pid;
        world = record {
          row = row-made (seen old outside) (seen new outside) of names n (shown (name_of old) o) object w.row
              (λ it j. name-fresh old (IsStored outside) it h (subst (λ (i : reference.Reference). seen old outside i it) named j)) changed grown blank;
        };
        carries = keeps-carries old new outside outside names more gains.keeps gains.grows pairs;
        gains = gains;
        top = omega (arith, made-top old new at o m, weight);
        pair = ap (name_in more) (sym w.row.long) ∙ name-last names n;
        kinds = record { it = shown_at new at; there = seen-held new outside at there; kind_is = ap (λ (x : area_objects.Object). x.header.kind) is };
      }

  -- A new object that is filled with values, and denotes one.
  pub new-object : (old new : area.Heap) (of : Heap) (names : List reference.Reference) (k : Kind) (text : ℕ) (low : Option ℤ)
      (cs : List code.Value) (at : ℕ) (object : Object) (contents : Contents) (denoting : ℕ → Value) → IsHeap old → IsHeap new → IsWorld old outside of names
      → IsHeld old text → AreNear old cs → HasContents (filled k text low cs).header contents → IsMade old new at (filled k text low cs)
      → IsLike (seen old outside) (paired names) (shown (name_of old) (filled k text low cs)) object → IsFresh object
      → IsNewTable (shown (name_of old) (filled k text low cs)) object → 8 * size_of (filled k text low cs) ≡ own_weight object
      → ((n : reference.Reference) (id : ℕ) (more : List reference.Reference) → paired more n id → IsKindOf (seen new outside) n k
      → StandsFor (seen new outside) (paired more) n (denoting id))
      → IsNew old new outside of names denoting object at
  unfolding filled
  new-object old new of names k text low cs at object contents denoting h now w held near whole m like fresh blank weight stands =
      let made = object-made old new of names at (filled k text low cs) object contents h now w (inside-filled old k text low cs held near) refl whole m like blank weight in
      record {
        held = made.held;
        unstored = made.unstored;
        fresh = fresh;
        world = made.world;
        carries = made.carries;
        gains = made.gains;
        top = made.top;
        denotes = record {
          name = name_at new at;
          denotes = (made.held, refl);
          stands = stands (name_at new at) (new_number of) (and_name names (name_at new at)) made.pair made.kinds;
        };
      }

  -- its class or its type, as what it refers to first
  text-stands : (old : area.Heap) (names : List reference.Reference) (at : ℕ) (text : List ℕ) → DenotesIn old outside names (Some at) (Text text)
      → IsText (seen old outside) (name_of old (name.Local at)) text
  text-stands old names at text d = subst (λ (n : reference.Reference). IsText (seen old outside) n text) (sym (d.denotes.1)) d.stands

  -- A structure was made, or there was no room for it.

  pub makes-structure : (old new : area.Heap) (of : Heap) (names : List reference.Reference) (class : ℕ) (cs : List code.Value) (text : List ℕ)
      (vs : List Value) (at : ℕ) → IsHeap old → IsHeap new → IsHeld old class → AreNear old cs
      → Fills old new kind.Structure class None cs (Ok at) → IsWorld old outside of names → DenotesIn old outside names (Some class) (Text text)
      → AreForIn old outside names (forms_of text) cs vs
      → Makes old new outside of names Pointer (Yields (Structure text vs)) (Ok at)
  makes-structure old new of names class cs text vs at h now held near m w d are =
      let like = as-made old (seen old outside) (paired names) kind.Structure class text None (λ home. home ∷ []) (forms_of text) cs vs
      (text-stands old names class text d) refl (are-of outside old names (forms_of text) cs vs are) in (
        Structure text vs,
        refl,
        new-object old new of names kind.Structure class None cs at (Structure text vs) (layout.structure (length (refs_of cs)) (length (words_of cs))) Pointer h now w held near
            (structure-whole class cs) m like tt tt (structure-weight kind.Structure class cs text vs (are-long outside old names (forms_of text) cs vs are)) (λ n id more p k. (p, inl k)),
      )

  pub no-structure : (old new : area.Heap) (of : Heap) (names : List reference.Reference) (class : ℕ) (cs : List code.Value) (text : List ℕ)
      (vs : List Value) (fault : SwizzleFault)
      → Fills old new kind.Structure class None cs (Err fault) → AreForIn old outside names (forms_of text) cs vs
      → Makes old new outside of names Pointer (Yields (Structure text vs)) (Err (op.Swizzle fault))
  no-structure old new of names class cs text vs fault full are = (
    Structure text vs,
    refl,
    full-short old new (filled_words None cs) (own_weight (Structure text vs)) fault full
        (omega (
          arith,
          words-filled kind.Structure class None cs,
          structure-weight kind.Structure class cs text vs (are-long outside old names (forms_of text) cs vs are),
        )),
  )

  -- A vector was made, its bounds are none of a vector, or there was no room for it.

  elements-like : (old : area.Heap) (names : List reference.Reference) (ty : ℕ) (low : ℤ) (cs : List code.Value) (text : List ℕ) (vs : List Value)
      → is_int low ≡ true → is_vector low (length vs) ≡ true → DenotesIn old outside names (Some ty) (Text text)
      → AreForIn old outside names (replicate (length vs) (element_of text)) cs vs
      → IsLike (seen old outside) (paired names) (shown (name_of old) (filled kind.Vector ty (Some low) cs)) (Elements text low vs)
  elements-like old names ty low cs text vs int fits d are = record {
    bound = int_word low;
    bound_is = int-back low int;
    fits = fits;
    rows = as-made old (seen old outside) (paired names) kind.Vector ty text (Some low) (λ home. home ∷ int_word low ∷ [])
        (replicate (length vs) (element_of text)) cs vs (text-stands old names ty text d) refl
        (are-of outside old names (replicate (length vs) (element_of text)) cs vs are);
  }

  of-fits : (old new : area.Heap) (of : Heap) (names : List reference.Reference) (ty : ℕ) (low : ℤ) (cs : List code.Value) (text : List ℕ)
      (vs : List Value) (fits : Bool) (result : Result ℕ OpFault) → is_vector low (length vs) ≡ fits → IsHeap old → IsHeap new
      → IsHeld old ty → AreNear old cs → is_int low ≡ true → MakesVector old new ty low cs fits result → IsWorld old outside of names
      → DenotesIn old outside names (Some ty) (Text text) → AreForIn old outside names (replicate (length vs) (element_of text)) cs vs
      → Makes old new outside of names Vector (is_made fits (Elements text low vs)) result
  of-fits old new of names ty low cs text vs true (Ok at) fits h now held near int m w d are = (
    Elements text low vs,
    refl,
    new-object old new of names kind.Vector ty (Some low) cs at (Elements text low vs) (contents_by (element_of text) (length vs)) Vector h now w held near
        (vector-whole old outside names (element_of text) ty low low cs vs fits are) m
        (elements-like old names ty low cs text vs int fits d are) tt tt
        (vector-weight kind.Vector ty low cs text vs (are-long outside old names (replicate (length vs) (element_of text)) cs vs are))
        (λ n id more p k. (p, k)),
  )
  of-fits old new of names ty low cs text vs true (Err (op.Swizzle fault)) fits h now held near int m w d are = (
    Elements text low vs,
    refl,
    full-short old new (filled_words (Some low) cs) (own_weight (Elements text low vs)) fault m
        (omega (
          arith,
          words-filled kind.Vector ty (Some low) cs,
          vector-weight kind.Vector ty low cs text vs (are-long outside old names (replicate (length vs) (element_of text)) cs vs are),
        )),
  )
  of-fits old new of names ty low cs text vs true (Err (op.Trap t)) fits h now held near int m w d are = absurd m
  of-fits old new of names ty low cs text vs false (Ok at) fits h now held near int m w d are = let bad = m.0 in absurd (cc)
  of-fits old new of names ty low cs text vs false (Err (op.Swizzle fault)) fits h now held near int m w d are = let bad = m.0 in absurd (cc)
  of-fits old new of names ty low cs text vs false (Err (op.Trap t)) fits h now held near int m w d are = (
    (let same = m.0 in cc),
    subst (λ (x : area.Heap). Stands old x outside outside of names) (sym (m.1)) (nothing-done old outside of names h w),
  )

  pub makes-list : (old new : area.Heap) (of : Heap) (names : List reference.Reference) (ty : ℕ) (low : ℤ) (cs : List code.Value) (text : List ℕ)
      (vs : List Value) (result : Result ℕ OpFault) → IsHeap old → IsHeap new → IsHeld old ty → AreNear old cs → is_int low ≡ true
      → MakesVector old new ty low cs (is_vector low (length cs)) result → IsWorld old outside of names → DenotesIn old outside names (Some ty) (Text text)
      → AreForIn old outside names (replicate (length cs) (element_of text)) cs vs
      → Makes old new outside of names Vector (vector_of text low vs) result
  unfolding vector_of
  makes-list old new of names ty low cs text vs result h now held near int m w d are =
      let long = are-long outside old names (replicate (length cs) (element_of text)) cs vs are in
      of-fits old new of names ty low cs text vs (is_vector low (length vs)) result refl h now held near int
      (subst (λ (n : ℕ). MakesVector old new ty low cs (is_vector low n) result) long m) w d
      (subst (λ (n : ℕ). AreForIn old outside names (replicate n (element_of text)) cs vs) long are)

  pub makes-filled : (old new : area.Heap) (of : Heap) (names : List reference.Reference) (ty : ℕ) (low high : ℤ) (c : code.Value) (text : List ℕ)
      (v : Value) (result : Result ℕ OpFault) → IsHeap old → IsHeap new → IsHeld old ty
      → AreNear old (replicate (count_from (high -ℤ low)) c) → is_int low ≡ true
      → MakesVector old new ty low (replicate (count_from (high -ℤ low)) c) (is_vector low (count_from (high -ℤ low))) result → IsWorld old outside of names
      → DenotesIn old outside names (Some ty) (Text text)
      → IsOfForm (element_of text) c → IsForIn old outside names c v → Makes old new outside of names Vector (filled_vector text low high v) result
  unfolding filled_vector
  makes-filled old new of names ty low high c text v result h now held near int m w d form is =
      let n = count_from (high -ℤ low) in
      let long : length (replicate n c) ≡ n = length-replicate n c in
      makes-list old new of names ty low (replicate n c) text (replicate n v) result h now held near int
      (subst (λ (k : ℕ). MakesVector old new ty low (replicate n c) (is_vector low k) result) (sym long) m) w d
      (subst (λ (k : ℕ). AreForIn old outside names (replicate k (element_of text)) (replicate n c) (replicate n v)) (sym long)
      (are-repeated outside old names (element_of text) c v n form is))

  -- The same for bounds as the code has them.
  pub makes-filled_at : (old new : area.Heap) (of : Heap) (names : List reference.Reference) (ty : ℕ) (low high l g : ℤ) (c : code.Value)
      (text : List ℕ) (v : Value) (result : Result ℕ OpFault) → l ≡ low → g ≡ high → IsHeap old → IsHeap new → IsHeld old ty
      → IsNear old c → is_int low ≡ true → MakesVector old new ty l (replicate (count_from (g -ℤ l)) c) (is_vector l (count_from (g -ℤ l))) result
      → IsWorld old outside of names → DenotesIn old outside names (Some ty) (Text text)
      → IsOfForm (element_of text) c → IsForIn old outside names c v → Makes old new outside of names Vector (filled_vector text low high v) result
  makes-filled_at old new of names ty low high l g c text v result el eg h now held near int m w d form is =
      subst (λ (x : ℤ). Makes old new outside of names Vector (filled_vector text x high v) result) el
      (subst (λ (y : ℤ). Makes old new outside of names Vector (filled_vector text l y v) result) eg
      (makes-filled old new of names ty l g c text v result h now held (near-repeated old (count_from (g -ℤ l)) c near) (ap is_int el ∙ int) m w d form is))

  pub makes-list_at : (old new : area.Heap) (of : Heap) (names : List reference.Reference) (ty : ℕ) (low l : ℤ) (cs : List code.Value)
      (text : List ℕ) (vs : List Value) (result : Result ℕ OpFault) → l ≡ low → IsHeap old → IsHeap new → IsHeld old ty → AreNear old cs
      → is_int low ≡ true → MakesVector old new ty l cs (is_vector l (length cs)) result → IsWorld old outside of names
      → DenotesIn old outside names (Some ty) (Text text) → AreForIn old outside names (replicate (length cs) (element_of text)) cs vs
      → Makes old new outside of names Vector (vector_of text low vs) result
  makes-list_at old new of names ty low l cs text vs result el h now held near int m w d are =
      subst (λ (x : ℤ). Makes old new outside of names Vector (vector_of text x vs) result) el
      (makes-list old new of names ty l cs text vs result h now held near (ap is_int el ∙ int) m w d are)

-- What is said whatever the vault.

pub structure-breaks : (old new : area.Heap) (class : ℕ) (cs : List code.Value) (fault : SwizzleFault)
    → Fills old new kind.Structure class None cs (Err fault) → BreaksAsMaking {T = ℕ} old new (Err (op.Swizzle fault))
structure-breaks old new class cs fault full = full-breaks old new (wanted_of (filled_words None cs)) fault full

pub vector-breaks : (old new : area.Heap) (ty : ℕ) (low : ℤ) (cs : List code.Value) (fits : Bool) (result : Result ℕ OpFault)
    → MakesVector old new ty low cs fits result → BreaksAsMaking old new result
vector-breaks old new ty low cs fits (Ok at) m = tt
vector-breaks old new ty low cs fits (Err (op.Trap t)) m = tt
vector-breaks old new ty low cs true (Err (op.Swizzle fault)) m = full-breaks old new (wanted_of (filled_words (Some low) cs)) fault m
vector-breaks old new ty low cs false (Err (op.Swizzle fault)) m = let bad = m.0 in absurd (cc)

pub vector-held : (old new : area.Heap) (ty : ℕ) (low : ℤ) (cs : List code.Value) (fits : Bool) (result : Result ℕ OpFault)
    → MakesVector old new ty low cs fits result → IfOk result (IsHeld new)
vector-held old new ty low cs true (Ok at) m = made-held old new at (filled kind.Vector ty (Some low) cs) m
vector-held old new ty low cs false (Ok at) m = let bad = m.0 in absurd (cc)
vector-held old new ty low cs fits (Err fault) m = tt

pub fills-keeps : (old new : area.Heap) (k : Kind) (text : ℕ) (low : Option ℤ) (cs : List code.Value) (result : Result ℕ SwizzleFault) → IsHeap old
    → Fills old new k text low cs result → Keeps old new
fills-keeps old new k text low cs (Ok at) h m = made-keeps old new at (filled k text low cs) h m
fills-keeps old new k text low cs (Err fault) h full = same-keeps old new full.stays

pub vector-keeps : (old new : area.Heap) (ty : ℕ) (low : ℤ) (cs : List code.Value) (fits : Bool) (result : Result ℕ OpFault) → IsHeap old
    → MakesVector old new ty low cs fits result → Keeps old new
vector-keeps old new ty low cs true (Ok at) h m = fills-keeps old new kind.Vector ty (Some low) cs (Ok at) h m
vector-keeps old new ty low cs true (Err (op.Swizzle fault)) h m = fills-keeps old new kind.Vector ty (Some low) cs (Err fault) h m
vector-keeps old new ty low cs true (Err (op.Trap t)) h m = absurd m
vector-keeps old new ty low cs false result h m = same-keeps old new (m.1)
