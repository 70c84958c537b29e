-- What the operations on structures answer is what the meaning's operators give.
use Rattle.std.proofs.Common.{inl, inr, ◌≡◌, ◌≢◌, ℕ, List, get_or, set, refl, sym, ap, ◌∙◌, subst, Option, Some, Bool, true, false, if◌then◌else◌}
use Rattle.std.proofs.lemmas.Slice.Eq.{bytes_eq-Decides}
use Rattle.std.proofs.lemmas.Map.Text.{is_eq-slice_cmp}
use Rattle.proc_values.specs.ps_base.declared.trap.Trap.TheVariants as trap
use Rattle.proc_values.specs.obj_layout.declared.kind.Kind.TheVariants as kind
use Rattle.proc_values.specs.obj_layout.declared.reference.Reference as reference
use Rattle.proc_values.specs.swizzle.Joint.{Shown}
use Rattle.heap_ops.specs.Structures.{IsOfClass, IsOfOther}
use Rattle.proc_values.specs.ps_heap.Values.{Value, Pointer, Nothing}
use Rattle.proc_values.specs.ps_heap.Texts.{Yields, Fails, is_same_text}
use Rattle.proc_values.specs.ps_heap.Objects.{Heap, Object, Structure, Elements, Scope, Keyed, object_at, is_class, is_of, field_of, fields_in, with_field, with_object}
use Rattle.heap_meaning.specs.Standing.{Seen, Pairing, IsStructure, IsLike, Both, Stands, IsOne}
use Rattle.heap_meaning.proofs.PlaceLaws.{structure-class}

-- Texts are the same exactly where their bytes are.
pub same-text : (a : List ℕ) → is_same_text a a ≡ true
same-text a = is_eq-slice_cmp a a ∙ (bytes_eq-Decides a a).1 refl

pub other-text : (a b : List ℕ) → a ≢ b → is_same_text a b ≡ false
other-text a b ne = of (is_same_text a b) refl
  where
    of : (r : Bool) → is_same_text a b ≡ r → is_same_text a b ≡ false
    of true is = absurd (ne ((bytes_eq-Decides a b).0 (sym (is_eq-slice_cmp a b) ∙ is)))
    of false is = is

-- An object of a class, on both sides.
pub record BothOfClass (seen : Seen) (heap : Heap) (pair : Pairing) (it : Shown) (id : ℕ) (class : List ℕ) : Type 0 where
  pub fields : List Value
  pub means : object_at heap id ≡ Some (Structure class fields)
  pub stands : IsStructure seen pair it class fields

pub of-class : (seen : Seen) (heap : Heap) (pair : Pairing) (n : reference.Reference) (id : ℕ) (it : Shown) (class : List ℕ) → IsOne seen → Stands seen heap pair → pair n id → seen n it
    → IsOfClass seen it class → BothOfClass seen heap pair it id class
of-class seen heap pair n id it class one s p there is = of b.object b.means (subst (λ (x : Shown). IsLike seen pair x b.object) (one n b.it it b.there there) b.like)
  where
    b : Both seen heap pair n id
    b = s.both n id p

    of : (o : Object) → object_at heap id ≡ Some o → IsLike seen pair it o → BothOfClass seen heap pair it id class
    of (Structure c fields) means like =
        let same = structure-class seen pair it c class fields one like is.class in
        record {
          fields = fields;
          means = means ∙ ap (λ (t : List ℕ). Some (Structure t fields)) same;
          stands = subst (λ (t : List ℕ). IsStructure seen pair it t fields) same like;
        }
    of (Elements ty low elements) means like = let bad : kind.Vector ≡ kind.Structure = sym like.rows.kind_is ∙ is.kind in absurd (cc)
    of (Scope text parent names) means like = let bad : kind.Scope ≡ kind.Structure = sym like.kind_is ∙ is.kind in absurd (cc)
    of (Keyed table) means like = let bad : kind.Table ≡ kind.Structure = sym like ∙ is.kind in absurd (cc)

-- an object of another class, or of none
pub of-other : (seen : Seen) (heap : Heap) (pair : Pairing) (n : reference.Reference) (id : ℕ) (it : Shown) (class : List ℕ) → IsOne seen → Stands seen heap pair → pair n id → seen n it
    → IsOfOther seen it class → is_of (object_at heap id) class ≡ false
of-other seen heap pair n id it class one s p there other = ap (λ (o : Option Object). is_of o class) b.means ∙ of b.object (subst (λ (x : Shown). IsLike seen pair x b.object) (one n b.it it b.there there) b.like) other
  where
    b : Both seen heap pair n id
    b = s.both n id p

    of : (o : Object) → IsLike seen pair it o → IsOfOther seen it class → is_of (Some o) class ≡ false
    of (Structure c fields) like (inl none) = absurd (none like.kind_is)
    of (Structure c fields) like (inr t) = other-text c class (λ e. t.2 (sym (structure-class seen pair it c t.0 fields one like t.1) ∙ e))
    of (Elements ty low elements) like other = refl
    of (Scope text parent names) like other = refl
    of (Keyed table) like other = refl

-- What `is` answers.
pub is-class : (seen : Seen) (heap : Heap) (pair : Pairing) (n : reference.Reference) (id : ℕ) (it : Shown) (class : List ℕ) → IsOne seen → Stands seen heap pair → pair n id → seen n it
    → IsOfClass seen it class → is_class heap (Pointer id) class ≡ true
unfolding is_class
is-class seen heap pair n id it class one s p there is =
    let b = of-class seen heap pair n id it class one s p there is in
    ap (λ (o : Option Object). is_of o class) b.means ∙ same-text class

pub is-other : (seen : Seen) (heap : Heap) (pair : Pairing) (n : reference.Reference) (id : ℕ) (it : Shown) (class : List ℕ) → IsOne seen → Stands seen heap pair → pair n id → seen n it
    → IsOfOther seen it class → is_class heap (Pointer id) class ≡ false
unfolding is_class
is-other seen heap pair n id it class one s p there other = of-other seen heap pair n id it class one s p there other

-- A field of an object of the class has the value of its place.
pub field-is : (heap : Heap) (id : ℕ) (class : List ℕ) (fields : List Value) (k : ℕ) → object_at heap id ≡ Some (Structure class fields) → field_of heap (Pointer id) class k ≡ Yields (get_or fields k Nothing)
unfolding field_of
field-is heap id class fields k means =
    ap (λ (o : Option Object). if is_of o class then Yields (get_or (fields_in o) k Nothing) else Fails trap.WrongClass) means
    ∙ ap (λ (r : Bool). if r then Yields (get_or fields k Nothing) else Fails trap.WrongClass) (same-text class)

-- one of another class has none
pub no-field : (heap : Heap) (id : ℕ) (class : List ℕ) (k : ℕ) → is_of (object_at heap id) class ≡ false → field_of heap (Pointer id) class k ≡ Fails trap.WrongClass
unfolding field_of
no-field heap id class k other =
    ap (λ (r : Bool). if r then Yields (get_or (fields_in (object_at heap id)) k Nothing) else Fails trap.WrongClass) other

-- the same where a field is written
pub field-put : (heap : Heap) (id : ℕ) (class : List ℕ) (fields : List Value) (k : ℕ) (v : Value) → object_at heap id ≡ Some (Structure class fields)
    → with_field heap (Pointer id) class k v ≡ Yields (with_object heap id (Structure class (set fields k v)))
unfolding with_field
field-put heap id class fields k v means =
    ap (λ (o : Option Object). if is_of o class then Yields (with_object heap id (Structure class (set (fields_in o) k v))) else Fails trap.WrongClass) means
    ∙ ap (λ (r : Bool). if r then Yields (with_object heap id (Structure class (set fields k v))) else Fails trap.WrongClass) (same-text class)

pub no-field_put : (heap : Heap) (id : ℕ) (class : List ℕ) (k : ℕ) (v : Value) → is_of (object_at heap id) class ≡ false → with_field heap (Pointer id) class k v ≡ Fails trap.WrongClass
unfolding with_field
no-field_put heap id class k v other =
    ap (λ (r : Bool). if r then Yields (with_object heap id (Structure class (set (fields_in (object_at heap id)) k v))) else Fails trap.WrongClass) other
