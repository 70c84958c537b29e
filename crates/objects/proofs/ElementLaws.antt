-- Elements that are reached by what is known of their vector.
use Rattle.std.proofs.lemmas.Bool.{ltb-true, and_parts}
use Rattle.std.proofs.Common.{List, get_or, unwrap_or, None, nat_lt, true, false, Bool, if◌then◌else◌, ◌≡◌, ◌≢◌, ◌^◌, ℕ, ℤ, pos, zero, suc, ◌+◌, ◌<◌, length, Option, Some, refl, sym, ap, ◌∙◌, arith, subst}
use Rattle.std.specs.Prelude.{◌+ℤ◌, Result, Ok, Err}
use Rattle.joint_ops.specs.ps_outside.Outside.{Outside}
use Rattle.joint_ops.specs.obj_layout.Stored.{Space}
use Rattle.joint_ops.specs.obj_layout.declared.kind.Kind.TheVariants as kind
use Rattle.joint_ops.specs.obj_layout.declared.reference.Reference.{Reference}
use Rattle.joint_ops.specs.obj_layout.declared.reference.Reference.TheVariants as reference
use Rattle.joint_ops.specs.swizzle.Objects.{Object}
use Rattle.joint_ops.specs.swizzle.Heap.{Heap, IsHeap, IsHeld, header_at, ref_at, num_at, reference_to, nothing}
use Rattle.joint_ops.specs.swizzle.Joint.{Shown, shown_at, name_of}
use Rattle.joint_ops.specs.swizzle.Touch.{Denotes}
use Rattle.joint_ops.proofs.of_swizzle.ReadingLaws.{reads-none}
use Rattle.joint_ops.specs.text_forms.declared.forms.Form.{Form}
use Rattle.joint_ops.specs.text_forms.declared.forms.Form.TheVariants as form
use Rattle.joint_ops.specs.text_forms.Forms.{element_of, is_number_form}
use Rattle.joint_ops.specs.heap_texts.declared.fault.OpFault.{OpFault}
use Rattle.joint_ops.specs.heap_texts.declared.fault.OpFault.TheVariants as op
use Rattle.joint_ops.specs.heap_places.declared.value.Value.{Value}
use Rattle.joint_ops.specs.heap_places.declared.value.Value.TheVariants.{Num, Flag, Ref}
use Rattle.joint_ops.specs.heap_places.Places.{HasPlace, HasRow, Holds, assigned_value, touched_by}
use Rattle.joint_ops.specs.heap_places.Shapes.{slot_of}
use Rattle.joint_ops.specs.heap_places.Words.{int_in, flag_in}
use Rattle.joint_ops.proofs.of_heap_places.PlaceLaws.{nums_below, refs_below, slot-name}
use Rattle.joint_ops.specs.heap_ops.Outcomes.{UnlessFault}
use Rattle.joint_ops.specs.heap_ops.Vectors.{index_of, fitted, GetsElement, SetsElement}
use Rattle.joint_ops.proofs.of_heap_ops.VectorLaws.{below-count, element-place, element-row, gets, sets}
use Rattle.joint_ops.specs.ps_heap.Values.{number_of, is_one}
use Rattle.joint_ops.specs.ps_heap.Objects as meaning
use Rattle.joint_ops.specs.ps_heap.Values as meant
use Rattle.joint_ops.specs.ps_heap.Operators.{is_int}
use Rattle.joint_ops.specs.ps_heap.Objects.{is_vector, place_of}
use Rattle.objects.specs.declared.known_vectors.KnownVector.{KnownVector}
use Rattle.joint_ops.specs.World.{IsWorld, DenotesIn, IsForIn, IsOfForm, Answers, Writes}
use Rattle.joint_ops.specs.Operands.{form_in}
use Rattle.joint_ops.proofs.SeenLaws.{vector-at, vector-denoted}
use Rattle.joint_ops.proofs.ElementLaws.{answers-element, writes-element}
use Rattle.joint_ops.proofs.PutLaws.{no-bytes}
use Rattle.objects.specs.Lasting.{Lasts}
use Rattle.objects.specs.Vectors.{CanPut, HasElement, IsPut, ReachesElement, refs_of}
use Rattle.objects.proofs.LastingLaws.{lasts-then, keeps-lasts}
use Rattle.objects.proofs.WrittenLaws.{written-lasts, fitted-behind}
use Rattle.objects.proofs.VectorEntries.{shape_of, so-shaped, so-read}

-- a place in a vector is small
is-small : (low : ℤ) (count n : ℕ) → is_vector low count ≡ true → n < count → n < 2 ^ 20
is-small low zero n e lt = omega (arith, lt)
is-small low (suc m) n e lt = let a = ltb-true m (2 ^ 20) (and_parts (nat_lt m (2 ^ 20)) (is_int (low +ℤ pos m)) e).0 in omega (arith, a, lt)

-- numbers stand behind two words, references behind one
pub number-index : (f : Form) (n : ℕ) → is_number_form f ≡ true → index_of f n ≡ 2 + n
number-index form.Number n is = refl
number-index form.Flag n is = refl
number-index form.Reference n is = absurd (cc)

pub reference-index : (f : Form) (n : ℕ) → is_number_form f ≡ false → index_of f n ≡ 1 + n
reference-index form.Reference n is = refl
reference-index form.Number n is = absurd (cc)
reference-index form.Flag n is = absurd (cc)

number-placed : (it : Shown) (n : ℕ) (f : Form) → is_number_form f ≡ true → HasPlace it f n → n < length it.nums
number-placed it n form.Number is p = p
number-placed it n form.Flag is p = p
number-placed it n form.Reference is p = absurd (cc)

reference-placed : (it : Shown) (n : ℕ) (f : Form) → is_number_form f ≡ false → HasPlace it f n → n < length it.refs
reference-placed it n form.Reference is p = p
reference-placed it n form.Number is p = absurd (cc)
reference-placed it n form.Flag is p = absurd (cc)

-- what a form keeps is of its row
kept-number : (f : Form) (v c : Value) → fitted f v ≡ Some c → ((to : Option ℕ) → c ≢ Ref to) → is_number_form f ≡ true
unfolding fitted
kept-number form.Number v c e other = refl
kept-number form.Flag v c e other = refl
kept-number form.Reference (Ref to) c e other = let same : Ref to ≡ c = cc in absurd (other to (sym same))
kept-number form.Reference (Num z) c e other = absurd (cc)
kept-number form.Reference (Flag b) c e other = absurd (cc)

kept-reference : (f : Form) (v c : Value) (to : Option ℕ) → fitted f v ≡ Some c → c ≡ Ref to → is_number_form f ≡ false
unfolding fitted
kept-reference form.Reference v c to e is = refl
kept-reference form.Number (Num z) c to e is = let same : Num z ≡ c = cc in absurd (cc)
kept-reference form.Number (Flag b) c to e is = let same : Num (number_of b) ≡ c = cc in absurd (cc)
kept-reference form.Number (Ref o) c to e is = absurd (cc)
kept-reference form.Flag (Num z) c to e is = let same : Flag (is_one z) ≡ c = cc in absurd (cc)
kept-reference form.Flag (Flag b) c to e is = let same : Flag b ≡ c = cc in absurd (cc)
kept-reference form.Flag (Ref o) c to e is = absurd (cc)

module _ (here : Heap) (vector : ℕ) (at : ℤ) (f : Form) (n : ℕ) (h : IsHeap here) (r : ReachesElement here vector at f n) where
  abbrev known : KnownVector
  known = r.known

  pub reached-small : n < 2 ^ 20
  reached-small = is-small known.low known.count n r.so.fits (below-count known.low at known.count n r.place_is)

  pub reached-held : IsHeld here vector
  reached-held = subst (IsHeld here) r.vector_is r.so.held

  pub reached-place : HasPlace (shown_at here vector) f (index_of f n)
  reached-place = subst (λ (v : ℕ). HasPlace (shown_at here v) f (index_of f n)) r.vector_is
      (subst (λ (g : Form). HasPlace (shown_at here known.vector) g (index_of g n)) r.form_is
      (element-place (shown_at here known.vector) (shape_of known) at n (so-shaped here known h r.so) r.place_is))

  pub reached-refs : is_number_form f ≡ true → 1 ≡ (header_at here vector).refs
  reached-refs row =
      subst (λ (v : ℕ). 1 ≡ (header_at here v).refs) r.vector_is
      (sym (r.so.refs ∙ ap (λ (g : Form). refs_of g known.count) r.form_is ∙ ap (λ (b : Bool). if b then 1 else 1 + known.count) row))

  pub number-below : is_number_form f ≡ true → 2 + n < (header_at here vector).nums
  number-below row = nums_below here vector (2 + n) h reached-held
      (number-placed (shown_at here vector) (2 + n) f row
      (subst (HasPlace (shown_at here vector) f) (number-index f n row) reached-place))

  pub reference-below : is_number_form f ≡ false → 1 + n < (header_at here vector).refs
  reference-below row = refs_below here vector (1 + n) h reached-held
      (reference-placed (shown_at here vector) (1 + n) f row
      (subst (HasPlace (shown_at here vector) f) (reference-index f n row) reached-place))

  -- a value that its form keeps has its place
  pub reached-row : (v c : Value) → fitted f v ≡ Some c → HasRow (shown_at here vector) (index_of f n) c
  reached-row v c fits = subst (λ (k : ℕ). HasRow (shown_at here k) (index_of f n) c) r.vector_is
      (subst (λ (g : Form). HasRow (shown_at here known.vector) (index_of g n) c) r.form_is
      (element-row (shown_at here known.vector) (shape_of known) at n v c (so-shaped here known h r.so) r.place_is
      (ap (λ (g : Form). fitted g v) r.form_is ∙ fits)))

  -- What is read so is what a reading gives, and nothing is done.
  pub reached-got : (outside : Outside Space) (c : Value) → Holds here (shown_at here vector) f (index_of f n) c
      → GetsElement here here outside outside vector at (Ok c)
  reached-got outside c holds =
      let it = shown_at here known.vector in
      let there = subst (λ (v : ℕ). Holds here (shown_at here v) f (index_of f n) c) (sym r.vector_is) holds in
      let is = subst (λ (g : Form). Holds here it g (index_of g n) c) (sym r.form_is) there in
      subst (λ (v : ℕ). GetsElement here here outside outside v at (Ok c)) r.vector_is
      (gets here here here outside outside outside known.vector n at (shape_of known) c r.so.held (so-read here known h r.so outside) r.place_is
      (is, reads-none here outside (touched_by it known.form (index_of known.form n))))

  -- What is written so is written as a writing does.
  pub reached-put : (new : Heap) (outside : Outside Space) (v c : Value) → fitted f v ≡ Some c → new ≡ assigned_value here vector (index_of f n) c
      → SetsElement here new outside outside vector at v (Ok tt)
  reached-put new outside v c fits written =
      let to = written ∙ ap (λ (k : ℕ). assigned_value here k (index_of f n) c) (sym r.vector_is)
      ∙ ap (λ (g : Form). assigned_value here known.vector (index_of g n) c) (sym r.form_is) in
      subst (λ (k : ℕ). SetsElement here new outside outside k at v (Ok tt)) r.vector_is
      (sets here here new outside outside known.vector n at (shape_of known) v c h r.so.held (so-read here known h r.so outside) r.place_is
      (ap (λ (g : Form). fitted g v) r.form_is ∙ fits) to)

-- A value that belongs there can be put there.
pub can-put : (here : Heap) (vector : ℕ) (at : ℤ) (v : Value) (f : Form) (n : ℕ) (c : Value) → IsHeap here → IsPut here vector at v f n c
    → CanPut here vector f n c
can-put here vector at v f n c h p = record {
  held = reached-held here vector at f n h p.reached;
  small = reached-small here vector at f n h p.reached;
  row = reached-row here vector at f n h p.reached v c p.kept;
  number = λ other. let is = kept-number f v c p.kept other in (is, reached-refs here vector at f n h p.reached is);
  reference = λ to is. kept-reference f v c to p.kept is;
}

-- An element was written: objects last.
pub put-lasts : (old new : Heap) (before after : Outside Space) (at : ℕ) (z : ℤ) (c : Value) (r : Result (Unit {0}) OpFault) → IsHeld old at
    → SetsElement old new before after at z c r → UnlessFault r (Lasts old new)
put-lasts old new before after at z c (Ok done) held g =
    let mid = g.mid in
    let keeps = g.vector.reads.keeps in
    let stays = keeps.objects at held in
    let is : (header_at mid at).kind ≡ kind.Vector = ap (λ (it : Shown). it.kind) stays.shown_as ∙ g.vector.is.kind in
    lasts-then old mid new (keeps-lasts old mid keeps)
    (written-lasts mid new at _ g.stored g.heap stays.held (no-bytes (header_at mid at).kind kind.Vector is (λ e. cc) (λ e. cc))
    (λ e. let bad : kind.Vector ≡ kind.Closure = sym is ∙ e in cc)
    (λ e. fitted-behind (element_of g.text) g.n c g.stored g.fits) g.written)
put-lasts old new before after at z c (Err (op.Trap t)) held g = keeps-lasts old new g.1.1.reads.keeps
put-lasts old new before after at z c (Err (op.Swizzle fault)) held g = tt

-- A number that is put lies among the number words.
number-row : (it : Shown) (index : ℕ) (c : Value) → ((to : Option ℕ) → c ≢ Ref to) → HasRow it index c → index < length it.nums
number-row it index (Num z) other row = row
number-row it index (Flag b) other row = row
number-row it index (Ref to) other row = absurd (other to refl)

pub put-below : (here : Heap) (vector : ℕ) (f : Form) (n : ℕ) (c : Value) → IsHeap here → CanPut here vector f n c → ((to : Option ℕ) → c ≢ Ref to)
    → 2 + n < (header_at here vector).nums
put-below here vector f n c h p other = nums_below here vector (2 + n) h p.held
    (subst (λ (k : ℕ). k < length (shown_at here vector).nums) (number-index f n (p.number other).0)
    (number-row (shown_at here vector) (index_of f n) c other p.row))

-- a reference to an object of the area, or to none
pub near-denoted : (here : Heap) (at slot : ℕ) (to : Option ℕ) → IsHeap here → IsHeld here at → ref_at here at slot ≡ reference_to to
    → Denotes here to (slot_of (shown_at here at) slot)
near-denoted here at slot None h held is = slot-name here at slot ∙ ap (name_of here) is
near-denoted here at slot (Some k) h held is = (
  h.inside at held.object held.is slot k (sym (ap (λ (o : Option Object). get_or (unwrap_or o nothing).refs slot reference.Nil) held.is) ∙ is),
  sym (slot-name here at slot ∙ ap (name_of here) is),
)

-- What the element holds that is reached.
module _ (here : Heap) (vector : ℕ) (at : ℤ) (f : Form) (n : ℕ) (r : ReachesElement here vector at f n) where
  abbrev Has : Value → Type 0
  Has c = HasElement here vector at c

  held-there : (g : Form) (c : Value) → f ≡ g → Holds here (shown_at here vector) g (index_of g n) c → Has c
  held-there g c is holds = record {
    form = f;
    place = n;
    reached = r;
    holds = subst (λ (k : Form). Holds here (shown_at here vector) k (index_of k n) c) (sym is) holds;
  }

  pub int-there : (z : ℤ) → f ≡ form.Number → int_in (num_at here vector (2 + n)) ≡ Some z → Has (Num z)
  int-there z is read = held-there form.Number (Num z) is read

  pub flag-there : (b : Bool) → f ≡ form.Flag → flag_in (num_at here vector (2 + n)) ≡ Some b → Has (Flag b)
  flag-there b is read = held-there form.Flag (Flag b) is read

  pub reference-there : (to : Option ℕ) → IsHeap here → f ≡ form.Reference → ref_at here vector (1 + n) ≡ reference_to to → Has (Ref to)
  reference-there to h is read =
      held-there form.Reference (Ref to) is (near-denoted here vector (1 + n) to h (reached-held here vector at f n h r) read)

-- It is that of the meaning's.
pub element-got : (here : Heap) (outside : Outside Space) (of : meaning.Heap) (names : List Reference) (vector id : ℕ) (z y : ℤ) (c : Value)
    → IsHeap here → ((a b : Space) → outside.contents a → outside.contents b → a ≡ b) → y ≡ z → IsWorld here outside of names
    → DenotesIn here outside names (Some vector) (meant.Vector id) → HasElement here vector y c
    → Answers here here outside outside (λ k v. IsOfForm (form_in of id) k × IsForIn here outside names k v) of names (meaning.element_of of (meant.Vector id) z) (Ok c)
element-got here outside of names vector id z y c h one same w d e =
    answers-element here here outside outside of names h h w one one vector id z y (Ok c) same
    (vector-at here outside of names vector id h w (vector-denoted here outside names vector id h d))
    (reached-got here vector y e.form e.place h e.reached outside c e.holds)

-- An operation that writes an element is that of the meaning's.
abbrev pub Sets : Heap → Heap → Outside Space → Outside Space → ℕ → ℤ → Value → Result (Unit {0}) OpFault → Type 0
Sets old new before after vector z to result =
    (of : meaning.Heap) (names : List Reference) (id : ℕ) (v : meant.Value) → IsWorld old before of names
    → DenotesIn old before names (Some vector) (meant.Vector id) → IsOfForm (form_in of id) to → IsForIn old before names to v
    → Writes old new before after (meant.Vector id) of names (meaning.with_element of (meant.Vector id) z v) result

pub element-set : (here new : Heap) (outside : Outside Space) (vector : ℕ) (z y : ℤ) (to : Value) → IsHeap here → IsHeap new
    → ((a b : Space) → outside.contents a → outside.contents b → a ≡ b) → y ≡ z → SetsElement here new outside outside vector y to (Ok tt)
    → Sets here new outside outside vector z to (Ok tt)
element-set here new outside vector z y to h now one same does of names id v w d form for =
    writes-element here new outside outside of names h now w one one vector id z y to v (Ok tt) same
    (vector-at here outside of names vector id h w (vector-denoted here outside names vector id h d)) form for does
