-- Entries of vectors that are so, and the shapes that they tell.
use Rattle.std.proofs.Common.{nat_eq, true, if◌then◌else◌, inl, inr, ◌≡◌, ◌^◌, ℕ, ℤ, pos, zero, suc, ◌<◌, ◌⊎◌, Bool, List, [], ◌∷◌, length, set, replicate, get_or, take, ◌++◌, Option, Some, None, unwrap_or, refl, sym, ap, ◌∙◌, arith, subst}
use Rattle.std.specs.Prelude.{Ok}
use Rattle.joint_ops.specs.ps_outside.Outside.{Outside}
use Rattle.joint_ops.specs.obj_layout.Stored.{Space, damage}
use Rattle.joint_ops.specs.swizzle.Heap.{Heap, IsHeap}
use Rattle.joint_ops.specs.swizzle.Joint.{Shown, shown_at}
use Rattle.joint_ops.specs.swizzle.Text.{text_at}
use Rattle.joint_ops.proofs.of_swizzle.NameLaws.{shown-counts}
use Rattle.joint_ops.proofs.of_swizzle.ReadingLaws.{reads-none}
use Rattle.joint_ops.specs.text_forms.declared.forms.Form.{Form}
use Rattle.joint_ops.specs.text_forms.declared.forms.Form.TheVariants as form
use Rattle.joint_ops.specs.text_forms.Forms.{element_of, is_number_form}
use Rattle.joint_ops.specs.heap_places.Shapes.{slot_of, word_in}
use Rattle.joint_ops.specs.heap_places.Words.{int_in}
use Rattle.joint_ops.specs.heap_places.Places.{FirstText}
use Rattle.joint_ops.specs.heap_ops.declared.shape.Shape.{Shape}
use Rattle.joint_ops.specs.heap_ops.Vectors.{count_of, low_of, of_bounds, vector_damage, IsShaped, ReadsShape}
use Rattle.joint_ops.proofs.of_heap_ops.VectorLaws.{below-count, read-vector}
use Rattle.joint_ops.specs.ps_heap.Objects.{is_vector, place_of}
use Rattle.objects.specs.Lasting.{Lasts}
use Rattle.objects.specs.declared.known_vectors.KnownVector.{KnownVector}
use Rattle.objects.specs.Vectors.{IsSo, AreSo, SaysNothing, ReachesElement, refs_of, nums_of}
use Rattle.objects.proofs.FieldEntries.{texts-stay}

-- what an entry says is so, or it says nothing
abbrev Says : Heap → KnownVector → Type 0
Says here known = SaysNothing known ⊎ IsSo here known

module _ (old new : Heap) (lasts : Lasts old new) where
  so-stays : (known : KnownVector) → IsSo old known → IsSo new known
  so-stays known so =
      let stand = lasts.stands known.vector so.held in
      let bound = lasts.bounds known.vector so.held so.kind in
      let text = lasts.code so.type.text so.type.denotes.0 (inl so.type.kind) in
      let bytes = texts-stay old new lasts.code so.type.text so.type.denotes.0 so.type.kind in
      record {
        held = stand.held;
        kind = stand.kind ∙ so.kind;
        refs = stand.refs ∙ so.refs;
        nums = stand.nums ∙ so.nums;
        low = ap int_in bound.bound ∙ so.low;
        fits = so.fits;
        type = record {
          text = so.type.text;
          denotes = (text.held, text.name ∙ so.type.denotes.1 ∙ sym bound.type);
          kind = bytes.kind;
          tells = so.type.tells ∙ ap element_of (sym bytes.bytes);
        };
      }

  stays : (known : KnownVector) → Says old known → Says new known
  stays known (inl none) = inl none
  stays known (inr so) = inr (so-stays known so)

  pub vectors-stay : (entries : List KnownVector) → AreSo old entries → AreSo new entries
  vectors-stay [] so = tt
  vectors-stay (known ∷ rest) so = (stays known so.0, vectors-stay rest so.1)

module _ (here : Heap) where
  none-so : (n : ℕ) (known : KnownVector) → SaysNothing known → AreSo here (replicate n known)
  none-so zero known none = tt
  none-so (suc n) known none = (inl none, none-so n known none)

  pub put-so : (entries : List KnownVector) (index : ℕ) (known : KnownVector) → AreSo here entries → IsSo here known → AreSo here (set entries index known)
  put-so [] index known so is = tt
  put-so (k ∷ ks) zero known so is = (inr is, so.1)
  put-so (k ∷ ks) (suc index) known so is = (so.0, put-so ks index known so.1 is)

  said : (entries : List KnownVector) (index : ℕ) (known : KnownVector) → AreSo here entries → index < length entries → known ≡ get_or entries index known → Says here known
  said [] index known so below e = absurd (omega arith)
  said (k ∷ ks) zero known so below e = subst (Says here) (sym e) so.0
  said (k ∷ ks) (suc index) known so below e = said ks index known so.1 (omega (arith, below)) e

  -- the entry that has an element at the subscript says what is so
  pub reached-so : (entries : List KnownVector) (index vector place : ℕ) (at : ℤ) (known : KnownVector) → AreSo here entries → index < length entries
      → known ≡ get_or entries index known → known.vector ≡ vector → place_of known.low known.count at ≡ Some place
      → ReachesElement here vector at known.form place
  reached-so entries index vector place at known so below found same is = elim (said entries index known so below found) [
    | inl none ↦
        let lower = below-count known.low at known.count place is in
        let empty = none.1 in
        absurd (omega (arith, lower, empty))
    | inr fact ↦ record { known = known; vector_is = same; form_is = refl; place_is = is; so = fact }
  ]

  -- entries that were put after none
  pub fresh-so : (items before : List KnownVector) (n : ℕ) (known : KnownVector) → before ≡ [] → SaysNothing known → items ≡ take 64 before ++ replicate n known → AreSo here items
  fresh-so items before n known empty none is =
      let all : items ≡ replicate n known = is ∙ ap (λ (x : List KnownVector). take 64 x ++ replicate n known) empty in
      subst (AreSo here) (sym all) (none-so n known none)

  pub cleared-so : (items : List KnownVector) (n : ℕ) (known : KnownVector) → SaysNothing known → items ≡ replicate n known → AreSo here items
  cleared-so items n known none is = subst (AreSo here) (sym is) (none-so n known none)

-- The shape that an entry tells.

abbrev pub shape_of : KnownVector → Shape
shape_of known = record { form = known.form; low = known.low; count = known.count }

count-within : (it : Shown) (f : Form) (count : ℕ) → length it.refs ≡ refs_of f count → length it.nums ≡ nums_of f count → count_of it f ≡ count
unfolding count_of
count-within it form.Number count refs nums = omega (arith, nums)
count-within it form.Flag count refs nums = omega (arith, nums)
count-within it form.Reference count refs nums = omega (arith, refs)

-- the other row holds no more than that of each vector
rest-is : (it : Shown) (f : Form) (count : ℕ) → length it.refs ≡ refs_of f count → length it.nums ≡ nums_of f count
    → nat_eq (if is_number_form f then length it.refs else length it.nums) (if is_number_form f then 1 else 2) ≡ true
rest-is it form.Number count refs nums = ap (λ (n : ℕ). nat_eq n 1) refs
rest-is it form.Flag count refs nums = ap (λ (n : ℕ). nat_eq n 1) refs
rest-is it form.Reference count refs nums = ap (λ (n : ℕ). nat_eq n 2) nums

sound-is : (it : Shown) (f : Form) (low : ℤ) (count : ℕ) → length it.refs ≡ refs_of f count → length it.nums ≡ nums_of f count
    → int_in (word_in it 1) ≡ Some low → is_vector low count ≡ true → vector_damage it f ≡ None
unfolding vector_damage
sound-is it f low count refs nums bound fits =
    let rest = if is_number_form f then length it.refs else length it.nums in
    let wanted = if is_number_form f then 1 else 2 in
    let word = word_in it 1 in
    ap (λ (b : Bool). if b then of_bounds (int_in word) word (count_of it f) else damage rest wanted) (rest-is it f count refs nums)
    ∙ ap (λ (o : Option ℤ). of_bounds o word (count_of it f)) bound
    ∙ ap (λ (n : ℕ). of_bounds (Some low) word n) (count-within it f count refs nums)
    ∙ ap (λ (b : Bool). if b then None else damage count (2 ^ 20)) fits

module _ (here : Heap) (known : KnownVector) (h : IsHeap here) (so : IsSo here known) where
  abbrev it : Shown
  it = shown_at here known.vector

  refs-long : length it.refs ≡ refs_of known.form known.count
  refs-long = (shown-counts here known.vector h so.held).0 ∙ so.refs

  nums-long : length it.nums ≡ nums_of known.form known.count
  nums-long = (shown-counts here known.vector h so.held).1 ∙ so.nums

  pub so-shaped : IsShaped it (shape_of known)
  unfolding low_of
  so-shaped = record {
    sound = sound-is it known.form known.low known.count refs-long nums-long so.low so.fits;
    low_is = sym (ap (λ (o : Option ℤ). unwrap_or o (pos 0)) so.low);
    count_is = sym (count-within it known.form known.count refs-long nums-long);
    fits = so.fits;
  }

  -- as it is read, where nothing is fetched
  pub so-read : (outside : Outside Space) → ReadsShape here here outside outside known.vector (Ok (shape_of known))
  so-read outside =
      let first : FirstText here here outside outside known.vector so.type.text = record {
        held = so.type.denotes.0;
        kind = so.type.kind;
        denotes = so.type.denotes;
        reads = reads-none here outside (slot_of it 0 ∷ []);
      } in
      let shaped = so-shaped in (
        text_at here so.type.text,
        read-vector here here outside outside known.vector so.type.text so.kind first
            (ap (vector_damage it) (sym so.type.tells) ∙ shaped.sound),
        shaped,
        so.type.tells,
      )
