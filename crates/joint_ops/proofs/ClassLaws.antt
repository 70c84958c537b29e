-- The class of a structure, wherever the structure and its class lie.
use Rattle.std.proofs.Common.{inl, inr, ◌≡◌, ◌≢◌, ℕ, List, [], ◌∷◌, refl, sym, ap, ◌∙◌, subst, Option, Some, None, Bool, true, false}
use Rattle.std.specs.Prelude.{Result, Ok, Err}
use Rattle.heap_meaning.specs.ps_outside.Outside.{Outside}
use Rattle.heap_meaning.specs.obj_layout.Stored.{Space}
use Rattle.heap_meaning.specs.obj_layout.declared.kind.Kind.TheVariants as kind
use Rattle.heap_meaning.specs.obj_layout.declared.reference.Reference as reference
use Rattle.heap_meaning.specs.swizzle.declared.fault.SwizzleFault.{SwizzleFault}
use Rattle.heap_meaning.specs.swizzle.Heap as area
use Rattle.heap_meaning.specs.swizzle.Heap.{IsHeap, header_at}
use Rattle.heap_meaning.specs.swizzle.Joint.{shown_at}
use Rattle.heap_meaning.specs.swizzle.Changes.{Within}
use Rattle.heap_meaning.specs.swizzle.Reading.{joint, LeavesOutside}
use Rattle.heap_meaning.specs.text_forms.declared.forms.Located.{Located}
use Rattle.heap_meaning.specs.text_forms.Forms.{forms_of, located_in}
use Rattle.heap_meaning.specs.heap_texts.declared.fault.OpFault.TheVariants as op
use Rattle.heap_meaning.specs.heap_places.Shapes.{IsText, slot_of}
use Rattle.heap_meaning.specs.heap_ops.Structures.{IsOfOther, TellsClass, FailsClass, FailsFields, structure_damage}
use Rattle.heap_meaning.specs.ps_heap.Values.{Value, Num, Flag, Text, Nil, Pointer, Vector, Procedure, Nothing}
use Rattle.heap_meaning.specs.ps_heap.Texts.{Yields, is_same_text}
use Rattle.heap_meaning.specs.ps_heap.Objects.{Heap, Object, Structure, object_at, is_class, is_of}
use Rattle.heap_meaning.specs.Standing.{IsStructure}
use Rattle.heap_meaning.specs.Paired.{paired}
use Rattle.heap_meaning.proofs.FieldLaws.{same-text, other-text}
use Rattle.heap_meaning.proofs.GivenLaws as given
use Rattle.heap_meaning.specs.swizzle.Touch.{Keeps}
use Rattle.joint_ops.specs.World.{IsWorld, seen, DenotesIn, Stands, Answers}
use Rattle.joint_ops.proofs.SeenLaws.{none-nil, some-not_nil, text-denoted, vector-denoted, procedure-kind, StructureAt, structure-pointed, no-class, first-text, Known, known-text, IsCaused, caused-touch, breaks, text-is, no-text, no-damage, joint-one}
use Rattle.joint_ops.proofs.GainLaws.{reads-stands}

-- A value that a structure denotes is a pointer.
pub structure-value : (here : area.Heap) (outside : Outside Space) (names : List reference.Reference) (at : ℕ) (o : Value) → IsHeap here
    → DenotesIn here outside names (Some at) o → (header_at here at).kind ≡ kind.Structure → (id : ℕ) × (o ≡ Pointer id)
structure-value here outside names at Nil h d k = absurd (some-not_nil here outside names at d)
structure-value here outside names at (Text bytes) h d k =
    let bad : kind.Text ≡ kind.Structure = sym (text-denoted here outside names at bytes h d).kind ∙ k in absurd (cc)
structure-value here outside names at (Pointer id) h d k = (id, refl)
structure-value here outside names at (Vector id) h d k =
    let bad : kind.Vector ≡ kind.Structure = sym (vector-denoted here outside names at id h d).kind ∙ k in absurd (cc)
structure-value here outside names at (Num z) h d k = absurd (d.stands)
structure-value here outside names at (Flag b) h d k = absurd (d.stands)
structure-value here outside names at (Procedure does scope) h d k =
    let bad : kind.Closure ≡ kind.Structure = sym (procedure-kind here outside names at does scope h d) ∙ k in absurd (cc)
structure-value here outside names at Nothing h d k = absurd (d.stands)

-- and what no structure denotes is of no class
pub other-value : (here : area.Heap) (outside : Outside Space) (of : Heap) (names : List reference.Reference) (at : ℕ) (o : Value) (text : List ℕ)
    → IsHeap here → IsWorld here outside of names → DenotesIn here outside names (Some at) o → (header_at here at).kind ≢ kind.Structure → is_class of o text ≡ false
unfolding is_class
other-value here outside of names at Nil text h w d k = refl
other-value here outside of names at (Text bytes) text h w d k = refl
other-value here outside of names at (Pointer id) text h w d k = no-class here outside of names at id text h w d k
other-value here outside of names at (Vector id) text h w d k = refl
other-value here outside of names at (Num z) text h w d k = refl
other-value here outside of names at (Flag b) text h w d k = refl
other-value here outside of names at (Procedure whole scope) text h w d k = refl
other-value here outside of names at Nothing text h w d k = refl

pub none-value : (here : area.Heap) (outside : Outside Space) (of : Heap) (names : List reference.Reference) (o : Value) (text : List ℕ)
    → DenotesIn here outside names None o → is_class of o text ≡ false
unfolding is_class
none-value here outside of names o text d = ap (λ (v : Value). is_class of v text) (none-nil here outside names o d)

module _ (old new : area.Heap) (before after : Outside Space) (of : Heap) (names : List reference.Reference)
    (h : IsHeap old) (now : IsHeap new) (w : IsWorld old before of names)
    (was_one : (a b : Space) → before.contents a → before.contents b → a ≡ b) (is_one : (a b : Space) → after.contents a → after.contents b → a ≡ b) where
  -- The class of a structure.

  pub class-text : (at id : ℕ) → (s : StructureAt old before of names at id) → IsText (seen old before) (slot_of (shown_at old at) 0) s.class
  class-text at id s = first-text (seen old before) (paired names) (shown_at old at) kind.Structure s.class (λ home. home ∷ []) (forms_of s.class) s.fields s.is

  pub class-known : (at id : ℕ) → StructureAt old before of names at id → Known old before (slot_of (shown_at old at) 0)
  class-known at id s = known-text old before (slot_of (shown_at old at) 0) s.class (class-text at id s)

  pub class-is : (at id : ℕ) (text : List ℕ) → Within (joint old before) (joint new after) → (s : StructureAt old before of names at id)
      → IsText (joint new after) (slot_of (shown_at old at) 0) text → s.class ≡ text
  class-is at id text grows s t =
      text-is old new before after (slot_of (shown_at old at) 0) s.class text grows (joint-one new after now is_one) (class-text at id s) t

  pub other-class : (at id : ℕ) (text : List ℕ) → Within (joint old before) (joint new after) → StructureAt old before of names at id
      → IsOfOther (joint new after) (shown_at old at) text → is_of (object_at of id) text ≡ false
  other-class at id text grows s (inl ne) = absurd (ne s.is.kind_is)
  other-class at id text grows s (inr t) =
      ap (λ (o : Option Object). is_of o text) s.means
      ∙ other-text s.class text (λ e. t.2 (sym (class-is at id (t.0) grows s (t.1)) ∙ e))

  -- The structure, as one of a class.

  pub record FieldAt (at id : ℕ) (text : List ℕ) (fields : List Value) : Type 0 where
    pub means : object_at of id ≡ Some (Structure text fields)
    pub is : IsStructure (seen old before) (paired names) (shown_at old at) text fields

  pub field-at : (at id : ℕ) (text : List ℕ) → (s : StructureAt old before of names at id) → s.class ≡ text → FieldAt at id text s.fields
  field-at at id text s same = record {
    means = s.means ∙ ap (λ (t : List ℕ). Some (Structure t s.fields)) same;
    is = subst (λ (t : List ℕ). IsStructure (seen old before) (paired names) (shown_at old at) t s.fields) same s.is;
  }

  -- Why it broke off.

  pub caused-class : (at id : ℕ) (fault : SwizzleFault) → StructureAt old before of names at id → FailsClass old new before after at fault
      → IsCaused old new before after fault
  caused-class at id fault s f = elim (f.1) [
    | inl none ↦ absurd (no-text old new before after at s.class fault now (class-text at id s) none)
    | inr touch ↦ caused-touch old new before after at 0 fault h (class-known at id s) touch
  ]

  pub caused-fields : (at id : ℕ) (text : List ℕ) (n : ℕ) (l : Located) (fault : SwizzleFault) → StructureAt old before of names at id
      → located_in (forms_of text) n ≡ Some l → FailsFields old new before after at text l.rows fault → IsCaused old new before after fault
  caused-fields at id text n l fault s is (inl c) = caused-class at id fault s c
  caused-fields at id text n l fault s is (inr d) =
      let f = field-at at id text s (class-is at id text (d.1) s (d.2.class)) in
      absurd (no-damage old at (structure_damage (shown_at old at) l.rows) fault
      (given.no-damage (seen old before) (paired names) (shown_at old at) text s.fields n l f.is is) (d.3))

  -- Whether it is of a class.

  pointer-class : (at id : ℕ) (text : List ℕ) (is : Bool) → StructureAt old before of names at id
      → TellsClass old new before after (Some at) text (Ok is) → (is ≡ is_class of (Pointer id) text) × Stands old new before after of names
  unfolding is_class
  pointer-class at id text true s t =
      let same = class-is at id text (t.1.grows) s (t.0.class) in (
        sym (ap (λ (o : Option Object). is_of o text) s.means ∙ ap (λ (c : List ℕ). is_same_text c text) same ∙ same-text text),
        reads-stands old new before after (slot_of (shown_at old at) 0 ∷ []) of names h now (class-known at id s, tt) (t.1) w,
      )
  pointer-class at id text false s t = (
    sym (other-class at id text (t.1.grows) s (t.0)),
    reads-stands old new before after (slot_of (shown_at old at) 0 ∷ []) of names h now (class-known at id s, tt) (t.1) w,
  )

  pub answers-class : (at : ℕ) (given_text text : List ℕ) (o : Value) (is : Bool) → given_text ≡ text → (header_at old at).kind ≡ kind.Structure
      → DenotesIn old before names (Some at) o → TellsClass old new before after (Some at) given_text (Ok is)
      → Answers old new before after (λ (x : Bool) (wanted : Bool). x ≡ wanted) of names (Yields (is_class of o text)) (Ok is)
  answers-class at given_text text o is e k d t =
      let p = structure-value old before names at o h d k in
      let s = structure-pointed old before of names at (p.0) h w (subst (DenotesIn old before names (Some at)) (p.1) d) k in
      let told = pointer-class at (p.0) text is s (subst (λ (x : List ℕ). TellsClass old new before after (Some at) x (Ok is)) e t) in
      (is_class of o text, refl, told.0 ∙ ap (λ (v : Value). is_class of v text) (sym (p.1)), told.1)

  pub breaks-class : (at : ℕ) (given_text text : List ℕ) (o : Value) (fault : SwizzleFault) → (header_at old at).kind ≡ kind.Structure
      → DenotesIn old before names (Some at) o → TellsClass old new before after (Some at) given_text (Err fault)
      → Answers old new before after (λ (x : Bool) (wanted : Bool). x ≡ wanted) of names (Yields (is_class of o text)) (Err (op.Swizzle fault))
  breaks-class at given_text text o fault k d t =
      let p = structure-value old before names at o h d k in
      let s = structure-pointed old before of names at (p.0) h w (subst (DenotesIn old before names (Some at)) (p.1) d) k in
      breaks old new before after fault (t.0) (caused-class at (p.0) fault s (t.1))

-- What is said whatever the vault.

pub class-leaves : (old new : area.Heap) (before after : Outside Space) (at : ℕ) (text : List ℕ) (r : Result Bool SwizzleFault)
    → TellsClass old new before after (Some at) text r → LeavesOutside before after
class-leaves old new before after at text (Ok true) t = t.1.outside
class-leaves old new before after at text (Ok false) t = t.1.outside
class-leaves old new before after at text (Err fault) t = t.0.outside

pub class-keeps : (old new : area.Heap) (before after : Outside Space) (at : ℕ) (text : List ℕ) (is : Bool)
    → TellsClass old new before after (Some at) text (Ok is) → Keeps old new
class-keeps old new before after at text true t = t.1.keeps
class-keeps old new before after at text false t = t.1.keeps
