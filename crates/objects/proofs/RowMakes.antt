-- Structures that are made of the rows of their fields.
use Rattle.std.proofs.Common.{◌≡◌, ◌+◌, ℕ, ℤ, suc, List, [], ◌∷◌, length, refl, sym, ap, ◌∙◌, subst, arith, None}
use Rattle.std.specs.Prelude.{Result, Ok, Err}
use Rattle.joint_ops.specs.ps_outside.Outside.{Outside}
use Rattle.joint_ops.specs.obj_layout.Stored.{Space}
use Rattle.joint_ops.specs.obj_layout.declared.kind.Kind.TheVariants as kind
use Rattle.joint_ops.specs.obj_layout.declared.reference.Reference as reference
use Rattle.joint_ops.specs.obj_layout.declared.reference.Reference.TheVariants.{Local}
use Rattle.joint_ops.specs.swizzle.declared.fault.SwizzleFault.{SwizzleFault}
use Rattle.joint_ops.specs.swizzle.Objects as area_objects
use Rattle.joint_ops.specs.swizzle.Heap as area
use Rattle.joint_ops.specs.swizzle.Heap.{IsHeap, IsMade, IsFull, blank}
use Rattle.joint_ops.specs.swizzle.Text.{text_at}
use Rattle.joint_ops.specs.text_forms.declared.forms.Form.{Form}
use Rattle.joint_ops.specs.text_forms.declared.forms.Form.TheVariants as form
use Rattle.joint_ops.specs.text_forms.declared.forms.Rows.{Rows}
use Rattle.joint_ops.specs.text_forms.Forms.{forms_of, rows_of}
use Rattle.joint_ops.specs.heap_texts.Texts.{wanted_of}
use Rattle.joint_ops.specs.heap_texts.declared.fault.OpFault.TheVariants as op
use Rattle.joint_ops.specs.heap_places.declared.value.Value as code
use Rattle.joint_ops.specs.heap_places.declared.value.Value.TheVariants as held
use Rattle.joint_ops.specs.heap_places.Filling.{AreNear, Fills, refs_of, words_of, filled, filled_words}
use Rattle.joint_ops.proofs.of_heap_places.FillingLaws.{rows-length}
use Rattle.joint_ops.specs.ps_heap.Texts.{Yields}
use Rattle.joint_ops.specs.ps_heap.Values.{Value, Pointer, is_one}
use Rattle.joint_ops.specs.ps_heap.Objects.{Heap, Structure}
use Rattle.joint_ops.specs.ps_heap.Weights.{own_weight}
use Rattle.joint_ops.specs.World.{IsWorld, IsForIn}
use Rattle.joint_ops.specs.Operands.{AreForIn}
use Rattle.joint_ops.specs.Made.{Makes}
use Rattle.joint_ops.proofs.MadeLaws.{makes-structure}
use Rattle.joint_ops.proofs.GrowthLaws.{full-short}
use Rattle.joint_ops.proofs.ValueLaws.{denotes-text}
use Rattle.structure_rows.specs.Rows.{named, row_values, AreInts}
use Rattle.structure_rows.proofs.RowLaws.{codes, same-refs, same-words}
use Rattle.objects.specs.declared.class_rows.ClassRows.{ClassRows}
use Rattle.objects.specs.Makes.{HasRows, AreRowsFor}

-- An object made of the same references and words is the same.

filled-same : (class : ℕ) (xs ys : List code.Value) → refs_of xs ≡ refs_of ys → words_of xs ≡ words_of ys
    → filled kind.Structure class None xs ≡ filled kind.Structure class None ys
unfolding filled
filled-same class xs ys refs words =
    ap (λ (rs : List reference.Reference). record (blank kind.Structure (1 + length rs) (1 + length (words_of xs)) 0) {
      refs = Local class ∷ rs;
      nums = 0 ∷ words_of xs;
    }) refs
    ∙ ap (λ (ns : List ℕ). record (blank kind.Structure (1 + length (refs_of ys)) (1 + length ns) 0) {
      refs = Local class ∷ refs_of ys;
      nums = 0 ∷ ns;
    }) words

wanted-same : (xs ys : List code.Value) → refs_of xs ≡ refs_of ys → words_of xs ≡ words_of ys → filled_words None xs ≡ filled_words None ys
unfolding filled_words
wanted-same xs ys refs words =
    ap (λ (rs : List reference.Reference). 4 + (1 + length rs) + (1 + length (words_of xs))) refs
    ∙ ap (λ (ns : List ℕ). 4 + (1 + length (refs_of ys)) + (1 + length ns)) words

fills-same : (old new : area.Heap) (class : ℕ) (xs ys : List code.Value) (r : Result ℕ SwizzleFault) → refs_of xs ≡ refs_of ys
    → words_of xs ≡ words_of ys → Fills old new kind.Structure class None xs r → Fills old new kind.Structure class None ys r
fills-same old new class xs ys (Ok at) refs words f =
    subst (λ (o : area_objects.Object). IsMade old new at o) (filled-same class xs ys refs words) f
fills-same old new class xs ys (Err fault) refs words f =
    subst (λ (n : ℕ). IsFull old new (wanted_of n) fault) (wanted-same xs ys refs words) f

-- The values in the order of the fields.

near-codes : (here : area.Heap) (fs : List Form) (zs : List ℤ) (ws : List ℕ) → AreNear here (named ws) → AreNear here (codes fs zs ws)
near-codes here [] zs ws near = tt
near-codes here (form.Reference ∷ fs) zs (w ∷ ws) near = (near.0, near-codes here fs zs ws near.1)
near-codes here (form.Reference ∷ fs) zs [] near = tt
near-codes here (form.Number ∷ fs) (z ∷ zs) ws near = (tt, near-codes here fs zs ws near)
near-codes here (form.Number ∷ fs) [] ws near = tt
near-codes here (form.Flag ∷ fs) (z ∷ zs) ws near = (tt, near-codes here fs zs ws near)
near-codes here (form.Flag ∷ fs) [] ws near = tt

module _ (here : area.Heap) (outside : Outside Space) (names : List reference.Reference) where
  rows-codes : (fs : List Form) (zs : List ℤ) (ws : List ℕ) (vs : List Value) → AreInts zs → AreRowsFor here outside names fs zs ws vs
      → AreForIn here outside names fs (codes fs zs ws) vs
  rows-codes [] [] [] [] ints are = tt
  rows-codes [] [] [] (v ∷ vs) ints are = absurd are
  rows-codes [] [] (w ∷ ws) vs ints are = absurd are
  rows-codes [] (z ∷ zs) ws vs ints are = absurd are
  rows-codes (form.Number ∷ fs) (z ∷ zs) ws (v ∷ vs) ints are = (
    ints 0 z (omega arith),
    subst (λ (x : Value). IsForIn here outside names (held.Num z) x) (sym are.0) refl,
    rows-codes fs zs ws vs (λ i d below. ints (suc i) d (omega (arith, below))) are.1,
  )
  rows-codes (form.Number ∷ fs) (z ∷ zs) ws [] ints are = absurd are
  rows-codes (form.Number ∷ fs) [] ws vs ints are = absurd are
  rows-codes (form.Flag ∷ fs) (z ∷ zs) ws (v ∷ vs) ints are = (
    tt,
    subst (λ (x : Value). IsForIn here outside names (held.Flag (is_one z)) x) (sym are.0) refl,
    rows-codes fs zs ws vs (λ i d below. ints (suc i) d (omega (arith, below))) are.1,
  )
  rows-codes (form.Flag ∷ fs) (z ∷ zs) ws [] ints are = absurd are
  rows-codes (form.Flag ∷ fs) [] ws vs ints are = absurd are
  rows-codes (form.Reference ∷ fs) zs (w ∷ ws) (v ∷ vs) ints are = (tt, are.0, rows-codes fs zs ws vs ints are.1)
  rows-codes (form.Reference ∷ fs) zs (w ∷ ws) [] ints are = absurd are
  rows-codes (form.Reference ∷ fs) zs [] vs ints are = absurd are

  codes-long : (fs : List Form) (zs : List ℤ) (ws : List ℕ) (vs : List Value) → AreRowsFor here outside names fs zs ws vs
      → length (codes fs zs ws) ≡ length vs
  codes-long [] [] [] [] are = refl
  codes-long [] [] [] (v ∷ vs) are = absurd are
  codes-long [] [] (w ∷ ws) vs are = absurd are
  codes-long [] (z ∷ zs) ws vs are = absurd are
  codes-long (form.Number ∷ fs) (z ∷ zs) ws (v ∷ vs) are = ap suc (codes-long fs zs ws vs are.1)
  codes-long (form.Number ∷ fs) (z ∷ zs) ws [] are = absurd are
  codes-long (form.Number ∷ fs) [] ws vs are = absurd are
  codes-long (form.Flag ∷ fs) (z ∷ zs) ws (v ∷ vs) are = ap suc (codes-long fs zs ws vs are.1)
  codes-long (form.Flag ∷ fs) (z ∷ zs) ws [] are = absurd are
  codes-long (form.Flag ∷ fs) [] ws vs are = absurd are
  codes-long (form.Reference ∷ fs) zs (w ∷ ws) (v ∷ vs) are = ap suc (codes-long fs zs ws vs are.1)
  codes-long (form.Reference ∷ fs) zs (w ∷ ws) [] are = absurd are
  codes-long (form.Reference ∷ fs) zs [] vs are = absurd are

module _ (old new : area.Heap) (outside : Outside Space) (of : Heap) (names : List reference.Reference) (class : ClassRows) (zs : List ℤ) (ws : List ℕ)
    (vs : List Value) (has : HasRows old class) (nums : length zs ≡ class.fields.rows.nums) (refs : length ws ≡ class.fields.rows.refs)
    (are : AreRowsFor old outside names (forms_of (text_at old class.text)) zs ws vs) where
  abbrev bytes : List ℕ
  bytes = text_at old class.text

  abbrev fs : List Form
  fs = forms_of bytes

  n : (rows_of fs).nums ≡ length zs
  n = sym (nums ∙ ap (λ (r : Rows). r.nums) has.tells.rows)

  r : (rows_of fs).refs ≡ length ws
  r = sym (refs ∙ ap (λ (x : Rows). x.refs) has.tells.rows)

  pub rows-made : (at : ℕ) → IsHeap old → IsHeap new → AreNear old (named ws) → AreInts zs
      → Fills old new kind.Structure class.text None (row_values class.fields.flags.bits zs ws) (Ok at) → IsWorld old outside of names
      → Makes old new outside of names Pointer (Yields (Structure bytes vs)) (Ok at)
  rows-made at heap now near ints f world =
      makes-structure outside old new of names class.text (codes fs zs ws) bytes vs at heap now has.held (near-codes old fs zs ws near)
      (fills-same old new class.text (row_values class.fields.flags.bits zs ws) (codes fs zs ws) (Ok at) (same-refs fs class.fields.flags.bits zs ws n r)
      (same-words fs class.fields.flags.bits zs ws has.tells.marked n r) f) world
      (denotes-text old outside names class.text bytes has.held has.kind refl) (rows-codes old outside names fs zs ws vs ints are)

  pub rows-full : (fault : SwizzleFault) → Fills old new kind.Structure class.text None (row_values class.fields.flags.bits zs ws) (Err fault)
      → Makes old new outside of names Pointer (Yields (Structure bytes vs)) (Err (op.Swizzle fault))
  unfolding filled_words
  rows-full fault f =
      let long = codes-long old outside names fs zs ws vs are in
      let all = rows-length (codes fs zs ws) in (
        Structure bytes vs,
        refl,
        full-short old new (filled_words None (codes fs zs ws)) (own_weight (Structure bytes vs)) fault
            (fills-same old new class.text (row_values class.fields.flags.bits zs ws) (codes fs zs ws) (Err fault)
            (same-refs fs class.fields.flags.bits zs ws n r) (same-words fs class.fields.flags.bits zs ws has.tells.marked n r) f)
            (omega (arith, all, long)),
      )
