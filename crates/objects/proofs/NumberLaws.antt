-- Numbers of elements that are reached by what is known of their vector.
use mir.Syntax.{w32}
use mir.Val.{to_z, of_z}
use Rattle.std.proofs.lemmas.Int.{to_z-of_z}
use Rattle.std.proofs.lemmas.Bool.{cases_lt, ltb-true}
use Rattle.std.proofs.lemmas.Grind.{common_steps}
use Rattle.std.proofs.Common.{inl, inr, ◌≡◌, ℕ, ◌+◌, ◌-◌, ◌%◌, ◌<◌, ◌^◌, ℤ, pos, negsuc, Bool, true, List, refl, sym, ap, ◌∙◌, subst, arith, Option, Some, None, IfSome}
use Rattle.std.specs.Prelude.{Err}
use Rattle.joint_ops.specs.ps_outside.Outside.{Outside}
use Rattle.joint_ops.specs.obj_layout.Stored.{Space, Damage, damage}
use Rattle.joint_ops.specs.obj_layout.declared.reference.Reference.{Reference}
use Rattle.joint_ops.specs.obj_layout.declared.vault.VaultFault.TheVariants.{Damaged}
use Rattle.joint_ops.specs.swizzle.declared.fault.SwizzleFault.{SwizzleFault}
use Rattle.joint_ops.specs.swizzle.declared.fault.SwizzleFault.TheVariants.{Vault}
use Rattle.joint_ops.specs.swizzle.Heap.{Heap, IsHeap, header_at, num_at}
use Rattle.joint_ops.specs.swizzle.Joint.{shown_at}
use Rattle.joint_ops.proofs.of_swizzle.ReadingLaws.{leaves-none}
use Rattle.joint_ops.specs.text_forms.declared.forms.Form.{Form}
use Rattle.joint_ops.specs.text_forms.declared.forms.Form.TheVariants as form
use Rattle.joint_ops.specs.text_forms.Forms.{is_number_form}
use Rattle.joint_ops.specs.heap_texts.declared.fault.OpFault.TheVariants as op
use Rattle.joint_ops.specs.heap_places.Shapes.{word_in}
use Rattle.joint_ops.specs.heap_places.Words.{int_in, flag_in, word_damage, unless}
use Rattle.joint_ops.specs.heap_places.Places.{Holds, ReadsPlace}
use Rattle.joint_ops.specs.heap_places.declared.value.Value as code
use Rattle.joint_ops.specs.heap_places.declared.value.Value.TheVariants as held
use Rattle.joint_ops.proofs.of_heap_places.PlaceLaws.{fails-damage}
use Rattle.joint_ops.proofs.of_heap_places.WordLaws.{int-low, int-mid, int-high}
use Rattle.joint_ops.specs.heap_ops.Vectors.{index_of, GetsElement}
use Rattle.joint_ops.proofs.of_heap_ops.VectorLaws.{fails-element}
use Rattle.joint_ops.specs.ps_heap.Operators.{is_int}
use Rattle.joint_ops.specs.ps_heap.Values.{Value, Vector, word_of, number_of}
use Rattle.joint_ops.specs.ps_heap.Objects as meaning
use Rattle.joint_ops.specs.World.{IsWorld, DenotesIn, IsForIn, IsOfForm}
use Rattle.joint_ops.specs.Operands.{form_in}
use Rattle.joint_ops.proofs.SeenLaws.{vector-at, vector-denoted}
use Rattle.joint_ops.proofs.FormLaws.{int-read}
use Rattle.joint_ops.proofs.ElementLaws.{answers-element}
use Rattle.objects.specs.Vectors.{ReachesElement, HasNumber, IsNumber}
use Rattle.objects.proofs.VectorEntries.{shape_of, so-read}
use Rattle.objects.proofs.ElementLaws.{element-got}
use Rattle.objects.proofs.KeptElements.{num-for, flag-for}

-- The low half of an int's word, and of a bool's.

int-same : (z : ℤ) → is_int z ≡ true → to_z w32 (of_z w32 z) ≡ z
int-same (pos n) e = to_z-of_z w32 (pos n) (record { sfits = ltb-true n (2 ^ 31) e })
int-same (negsuc n) e = to_z-of_z w32 (negsuc n) (record { sfits = ltb-true n (2 ^ 31) e })

half-int : (word : ℕ) (z : ℤ) → word < 2 ^ 64 → int_in word ≡ Some z → of_z w32 z ≡ word % 2 ^ 32
half-int word z fits e = elim (cases_lt word (2 ^ 31)) [
  | inl low ↦
      let same : pos word ≡ z = let both : Some (pos word) ≡ Some z = sym (int-low word low) ∙ e in cc in
      sym (ap (of_z w32) same) ∙ omega (arith, low)
  | inr ge ↦ elim (cases_lt word (2 ^ 64 - 2 ^ 31)) [
    | inl mid ↦ let bad : None ≡ Some z = sym (int-mid word ge mid) ∙ e in absurd (cc)
    | inr high ↦
        let same : negsuc (2 ^ 64 - 1 - word) ≡ z = let both : Some (negsuc (2 ^ 64 - 1 - word)) ≡ Some z = sym (int-high word high) ∙ e in cc in
        sym (ap (of_z w32) same) ∙ omega (arith, high, fits)
  ]
]

pub low-int : (word : ℕ) (z : ℤ) → word < 2 ^ 64 → int_in word ≡ Some z → to_z w32 (word % 2 ^ 32) ≡ z
low-int word z fits e = ap (to_z w32) (sym (half-int word z fits e)) ∙ int-same z (int-read word z e)

pub low-flag : (word : ℕ) (b : Bool) → flag_in word ≡ Some b → to_z w32 (word % 2 ^ 32) ≡ number_of b
unfolding flag_in
low-flag word b e = grind (arith, common_steps, e)

-- A word that isn't damaged.

int-kept : (word : ℕ) → word_damage form.Number word ≡ None → (z : ℤ) × (int_in word ≡ Some z)
unfolding word_damage
int-kept word sound = of (int_in word) refl sound
  where
    of : (o : Option ℤ) → int_in word ≡ o → unless o (damage word (2 ^ 31)) ≡ None → (z : ℤ) × (int_in word ≡ Some z)
    of (Some z) is e = (z, is)
    of None is e = absurd (cc)

flag-kept : (word : ℕ) → word_damage form.Flag word ≡ None → (b : Bool) × (flag_in word ≡ Some b)
unfolding word_damage
flag-kept word sound = of (flag_in word) refl sound
  where
    of : (o : Option Bool) → flag_in word ≡ o → unless o (damage word 2) ≡ None → (b : Bool) × (flag_in word ≡ Some b)
    of (Some b) is e = (b, is)
    of None is e = absurd (cc)

-- what is of a number's form
number-form : (f : Form) (c : code.Value) → ((to : Option ℕ) → c ≡ held.Ref to → ⊥) → IsOfForm f c → is_number_form f ≡ true
number-form form.Number c other is = refl
number-form form.Flag c other is = refl
number-form form.Reference (held.Ref to) other is = absurd (other to refl)
number-form form.Reference (held.Num z) other is = absurd is
number-form form.Reference (held.Flag b) other is = absurd is

module _ (here : Heap) (outside : Outside Space) (of : meaning.Heap) (names : List Reference) (vector id : ℕ) (z y : ℤ) (h : IsHeap here)
    (one : (a b : Space) → outside.contents a → outside.contents b → a ≡ b) (same : y ≡ z) (w : IsWorld here outside of names)
    (d : DenotesIn here outside names (Some vector) (Vector id)) where
  -- Where area and vault stand for a heap, the word of an element fits its form.
  fits : (f : Form) (n : ℕ) → ReachesElement here vector y f n → word_damage f (word_in (shown_at here vector) (index_of f n)) ≡ None
  fits f n r = cases (word_damage f word) refl
    where
      word : ℕ
      word = word_in (shown_at here vector) (index_of f n)

      -- as it would be read, if it didn't
      damaged : (e : Damage) → word_damage f word ≡ Some e → ⊥
      damaged e is =
          let known = r.known in
          let fault : SwizzleFault = Vault (Damaged (header_at here known.vector).pid e.found e.wanted) in
          let names_it = subst (λ (v : ℕ). word_damage f (word_in (shown_at here v) (index_of f n)) ≡ Some e) (sym r.vector_is) is in
          let reads : ReadsPlace here here outside outside known.vector f (index_of f n) (Err fault) =
          (fails-damage outside outside _ e.found e.wanted fault (leaves-none outside) refl, inl (e, names_it, refl)) in
          let failed = fails-element here here here outside outside outside known.vector n y (shape_of known) fault h r.so.held
          (so-read here known h r.so outside) r.place_is
          (subst (λ (g : Form). ReadsPlace here here outside outside known.vector g (index_of g n) (Err fault)) (sym r.form_is) reads) in
          let v = vector-at here outside of names vector id h w (vector-denoted here outside names vector id h d) in
          answers-element here here outside outside of names h h w one one vector id z y (Err (op.Swizzle fault)) same v
          (subst (λ (k : ℕ). GetsElement here here outside outside k y (Err (op.Swizzle fault))) r.vector_is failed)

      cases : (o : Option Damage) → word_damage f word ≡ o → word_damage f word ≡ None
      cases None is = is
      cases (Some e) is = absurd (damaged e is)

  -- The element is the number that was read.
  pub number-got : (x : ℤ) → HasNumber here vector y x → IsNumber of id z x
  number-got x has = cases has.form refl has.row
    where
      given : (g : Form) (c : code.Value) → has.form ≡ g → ((to : Option ℕ) → c ≡ held.Ref to → ⊥)
          → ((value : Value) → IsForIn here outside names c value → word_of value ≡ x)
          → Holds here (shown_at here vector) g (index_of g has.place) c → IsNumber of id z x
      given g c e other denoted holds =
          let got = element-got here outside of names vector id z y c h one same w d (record {
            form = has.form;
            place = has.place;
            reached = has.reached;
            holds = subst (λ (k : Form). Holds here (shown_at here vector) k (index_of k has.place) c) (sym e) holds;
          }) in
          record { value = got.0; is = got.1; row = number-form (form_in of id) c other (got.2.0); word_is = denoted (got.0) (got.2.1) }

      at : ℕ
      at = num_at here vector (2 + has.place)

      sound : (g : Form) → has.form ≡ g → word_damage g (word_in (shown_at here vector) (index_of g has.place)) ≡ None
      sound g e = subst (λ (k : Form). word_damage k (word_in (shown_at here vector) (index_of k has.place)) ≡ None) e (fits has.form has.place has.reached)

      cases : (g : Form) → has.form ≡ g → is_number_form g ≡ true → IsNumber of id z x
      cases form.Number e row =
          let n = int-kept at (sound form.Number e) in
          given form.Number (held.Num (n.0)) e (λ to e. cc) (λ v for. ap word_of (num-for here outside names (n.0) v for) ∙ sym (has.int (n.0) (n.1))) (n.1)
      cases form.Flag e row =
          let b = flag-kept at (sound form.Flag e) in
          given form.Flag (held.Flag (b.0)) e (λ to e. cc) (λ v for. ap word_of (flag-for here outside names (b.0) v for) ∙ sym (has.flag (b.0) (b.1))) (b.1)
      cases form.Reference e row = absurd (cc)

  pub numbers-got : (r : Option ℤ) → IfSome r (HasNumber here vector y) → IfSome r (IsNumber of id z)
  numbers-got None is = tt
  numbers-got (Some x) is = number-got x is

-- what isn't a reference is a number
pub other-form : (f : Form) → (f ≡ form.Reference → ⊥) → is_number_form f ≡ true
other-form form.Number other = refl
other-form form.Flag other = refl
other-form form.Reference other = absurd (other refl)

pub number-there : (here : Heap) (vector : ℕ) (at x : ℤ) (f : Form) (n word : ℕ) → ReachesElement here vector at f n → is_number_form f ≡ true
    → word ≡ num_at here vector (2 + n) → ((z : ℤ) → int_in word ≡ Some z → x ≡ z) → ((b : Bool) → flag_in word ≡ Some b → x ≡ number_of b)
    → HasNumber here vector at x
number-there here vector at x f n word r row is int flag = record {
  form = f;
  place = n;
  reached = r;
  row = row;
  int = subst (λ (k : ℕ). (z : ℤ) → int_in k ≡ Some z → x ≡ z) is int;
  flag = subst (λ (k : ℕ). (b : Bool) → flag_in k ≡ Some b → x ≡ number_of b) is flag;
}
