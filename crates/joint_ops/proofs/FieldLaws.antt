-- Fields of structures that are read, whatever the residence of the structure, of its class, and of what the field denotes.
use Rattle.std.proofs.Common.{arith, inl, inr, ◌⊎◌, ◌≡◌, ◌≢◌, ℕ, suc, ◌+◌, List, [], ◌∷◌, get_or, refl, sym, ap, ◌∙◌, subst, Option, Some, None}
use Rattle.std.specs.Prelude.{Result, Ok, Err, IfOk}
use Rattle.heap_meaning.specs.ps_base.declared.trap.Trap.TheVariants as trap
use Rattle.heap_meaning.specs.ps_outside.Outside.{Outside}
use Rattle.heap_meaning.specs.obj_layout.Stored.{Space}
use Rattle.heap_meaning.specs.obj_layout.declared.kind.Kind.TheVariants as kind
use Rattle.heap_meaning.specs.obj_layout.declared.reference.Reference as reference
use Rattle.heap_meaning.specs.obj_layout.declared.reference.Reference.TheVariants as name
use Rattle.heap_meaning.specs.swizzle.declared.fault.SwizzleFault.{SwizzleFault}
use Rattle.heap_meaning.specs.swizzle.Heap as area
use Rattle.heap_meaning.specs.swizzle.Heap.{IsHeap, header_at}
use Rattle.heap_meaning.specs.swizzle.Joint.{Shown, shown_at}
use Rattle.heap_meaning.specs.swizzle.Changes.{IsKnown}
use Rattle.heap_meaning.specs.swizzle.Reading.{AreKnown, LeavesOutside}
use Rattle.heap_meaning.specs.text_forms.declared.forms.Form.{Form}
use Rattle.heap_meaning.specs.text_forms.declared.forms.Form.TheVariants as form
use Rattle.heap_meaning.specs.text_forms.declared.forms.Located.{Located}
use Rattle.heap_meaning.specs.text_forms.Forms.{forms_of, form_in, before_in, located_in}
use Rattle.heap_meaning.specs.heap_texts.declared.fault.OpFault.{OpFault}
use Rattle.heap_meaning.specs.heap_texts.declared.fault.OpFault.TheVariants as op
use Rattle.heap_meaning.specs.heap_places.Shapes.{slot_of, word_in}
use Rattle.heap_meaning.specs.heap_places.Words.{word_damage}
use Rattle.heap_meaning.specs.heap_places.Places.{touched_by, IsNear}
use Rattle.heap_meaning.specs.heap_places.declared.value.Value as code
use Rattle.heap_meaning.specs.heap_ops.Structures.{GetsField, FailsValue}
use Rattle.heap_meaning.specs.ps_heap.Values.{Value, Num, Flag, Text, Nil, Pointer, Vector, Procedure, Nothing}
use Rattle.heap_meaning.specs.ps_heap.Texts.{Attempt, Fails}
use Rattle.heap_meaning.specs.ps_heap.Objects.{Heap, field_of}
use Rattle.heap_meaning.specs.Standing.{Seen, Pairing, StandsFor, IsAs, IsStructure}
use Rattle.heap_meaning.specs.Paired.{paired}
use Rattle.heap_meaning.proofs.StandingLaws.{read-reference}
use Rattle.heap_meaning.proofs.FieldLaws.{field-is, no-field}
use Rattle.heap_meaning.proofs.GivenLaws.{located-at, field-read, field-fits}
use Rattle.heap_meaning.specs.heap_ops.Outcomes.{UnlessFault}
use Rattle.heap_meaning.specs.swizzle.Touch.{Keeps}
use Rattle.joint_ops.specs.World.{IsWorld, seen, DenotesIn, IsForIn, IsOfForm, Answers, BreaksAsReading}
use Rattle.joint_ops.proofs.SeenLaws.{none-nil, some-not_nil, StructureAt, structure-pointed, no-class, Known, known-value, reads-within, as-within, IsCaused, caused-fetch, breaks, text-is, no-damage, joint-one}
use Rattle.joint_ops.proofs.GainLaws.{reads-stands}
use Rattle.joint_ops.proofs.FormLaws.{holds-form, holds-near}
use Rattle.joint_ops.proofs.ClassLaws.{structure-value, class-text, class-known, class-is, other-class, field-at, caused-fields}

step : (n : ℕ) → suc n ≡ 1 + n
step n = omega arith

pub as-slot : (a : Seen) (pair : Pairing) (it : Shown) (of : _) (text : List ℕ) (first : ℕ → List ℕ) (forms : List Form) (vs : List Value)
    (n : ℕ) → IsAs a pair it of text first forms vs → form_in forms n ≡ Some form.Reference
    → StandsFor a pair (slot_of it (1 + before_in form.Reference forms n)) (get_or vs n Nothing)
as-slot a pair it of text first forms vs n s is =
    let r = read-reference a pair forms s.names s.words vs n s.are is in
    subst (λ (x : List reference.Reference). StandsFor a pair (get_or x (1 + before_in form.Reference forms n) name.Nil) (get_or vs n Nothing))
    (sym s.refs)
    (subst (λ (k : ℕ). StandsFor a pair (get_or (s.text_name ∷ s.names) k name.Nil) (get_or vs n Nothing))
    (step (before_in form.Reference forms n)) r)

-- the name of a place of references is the only one that is touched
pub known-touched : (a : Seen) (it : Shown) (f : Form) (index : ℕ) → (f ≡ form.Reference → (slot_of it index ≡ name.Nil) ⊎ IsKnown a (slot_of it index))
    → AreKnown a (touched_by it f index)
known-touched a it form.Reference index known = (known refl, tt)
known-touched a it form.Number index known = tt
known-touched a it form.Flag index known = tt

module _ (old new : area.Heap) (before after : Outside Space) (of : Heap) (names : List reference.Reference)
    (h : IsHeap old) (now : IsHeap new) (w : IsWorld old before of names)
    (was_one : (a b : Space) → before.contents a → before.contents b → a ≡ b) (is_one : (a b : Space) → after.contents a → after.contents b → a ≡ b) where
  field-slot : (it : Shown) (text : List ℕ) (fields : List Value) (n : ℕ) (l : Located) → IsStructure (seen old before) (paired names) it text fields
      → located_in (forms_of text) n ≡ Some l → l.place.form ≡ form.Reference → Known old before (slot_of it (suc l.place.index))
  field-slot it text fields n l s is reference =
      let at = located-at (forms_of text) n l is in
      let index : l.place.index ≡ before_in form.Reference (forms_of text) n = at.index_is
      ∙ ap (λ (f : Form). before_in f (forms_of text) n) reference in
      known-value old before names (slot_of it (suc l.place.index)) (get_or fields n Nothing)
      (subst (λ (k : ℕ). StandsFor (seen old before) (paired names) (slot_of it k) (get_or fields n Nothing)) (omega (arith, index))
      (as-slot (seen old before) (paired names) it kind.Structure text (λ home. home ∷ []) (forms_of text) fields n s (at.form_is ∙ ap Some reference)))

  -- what is touched for it is known
  field-touched : (it : Shown) (text : List ℕ) (fields : List Value) (n : ℕ) (l : Located) → IsStructure (seen old before) (paired names) it text fields
      → located_in (forms_of text) n ≡ Some l → AreKnown (seen old before) (touched_by it l.place.form (suc l.place.index))
  field-touched it text fields n l s is = known-touched (seen old before) it l.place.form (suc l.place.index) (field-slot it text fields n l s is)

  caused-value : (at id : ℕ) (text : List ℕ) (n : ℕ) (l : Located) (fault : SwizzleFault) → StructureAt old before of names at id
      → located_in (forms_of text) n ≡ Some l → FailsValue old before at text l.rows l.place.form (suc l.place.index) fault
      → IsCaused old new before after fault
  caused-value at id text n l fault s is v =
      let same = text-is old v.mid before before (slot_of (shown_at old at) 0) s.class text v.grows (joint-one v.mid before v.heap was_one)
      (class-text old new before after of names h now w was_one is_one at id s) (v.class.class) in
      let f = field-at old new before after of names h now w was_one is_one at id text s same in
      elim (v.why) [
        | inl d ↦ absurd (no-damage old at (word_damage l.place.form (word_in (shown_at old at) (suc l.place.index))) fault
            (field-fits (seen old before) (paired names) (shown_at old at) text s.fields n l f.is is) d)
        | inr t ↦ caused-fetch old new before after (slot_of (shown_at old at) (suc l.place.index)) fault h
            (field-slot (shown_at old at) text s.fields n l f.is is (t.0)) (t.1)
      ]

  abbrev Gives : Attempt Value → Located → Result code.Value OpFault → Type 0
  Gives attempt l result = Answers old new before after (λ c v. IsOfForm l.place.form c × IsForIn new after names c v) of names attempt result

  pointer-field : (at id : ℕ) (text : List ℕ) (n : ℕ) (l : Located) (result : Result code.Value OpFault) → StructureAt old before of names at id
      → located_in (forms_of text) n ≡ Some l → GetsField old new before after (Some at) text l result → Gives (field_of of (Pointer id) text n) l result
  pointer-field at id text n l (Ok v) s is g =
      let it = shown_at old at in
      let touched = slot_of it 0 ∷ touched_by it l.place.form (suc l.place.index) in
      let f = field-at old new before after of names h now w was_one is_one at id text s (class-is old new before after of names h now w was_one is_one at id text (g.2.grows) s (g.0.class.class)) in
      let later = as-within (seen old before) (seen new after) (paired names) it kind.Structure text (λ home. home ∷ []) (forms_of text) s.fields
      (reads-within old new before after touched (g.2)) f.is in (
        get_or s.fields n Nothing,
        field-is of id text s.fields n f.means,
        (
          holds-form new it l.place.form (suc l.place.index) v (g.1),
          field-read new (seen new after) (paired names) it text s.fields n l v later is (g.1),
        ),
        reads-stands old new before after touched of names h now
            (class-known old new before after of names h now w was_one is_one at id s, field-touched it text s.fields n l f.is is) (g.2) w,
      )
  pointer-field at id text n l (Err (op.Trap t)) s is g = (
    no-field of id text n (other-class old new before after of names h now w was_one is_one at id text (g.2.grows) s (g.1)) ∙ ap Fails (sym (g.0)),
    reads-stands old new before after (slot_of (shown_at old at) 0 ∷ []) of names h now
        (class-known old new before after of names h now w was_one is_one at id s, tt) (g.2) w,
  )
  pointer-field at id text n l (Err (op.Swizzle fault)) s is g =
      breaks old new before after fault (g.0) (elim (g.1) [
        | inl fields ↦ caused-fields old new before after of names h now w was_one is_one at id text n l fault s is fields
        | inr v ↦ caused-value at id text n l fault s is v
      ])

  pub answers-field : (at : ℕ) (given_text text : List ℕ) (n : ℕ) (o : Value) (l : Located) (result : Result code.Value OpFault)
      → given_text ≡ text → (header_at old at).kind ≡ kind.Structure → DenotesIn old before names (Some at) o → located_in (forms_of text) n ≡ Some l
      → GetsField old new before after (Some at) given_text l result → Gives (field_of of o text n) l result
  answers-field at given_text text n o l result e k d is g =
      let p = structure-value old before names at o h d k in
      let s = structure-pointed old before of names at (p.0) h w (subst (DenotesIn old before names (Some at)) (p.1) d) k in
      subst (λ (v : Value). Gives (field_of of v text n) l result) (sym (p.1))
      (pointer-field at (p.0) text n l result s is (subst (λ (t : List ℕ). GetsField old new before after (Some at) t l result) e g))

-- What is no structure has no field, and nothing is read.

pub wrong-class : (here : area.Heap) (outside : Outside Space) (of : Heap) (names : List reference.Reference) (at : ℕ) (text : List ℕ) (n : ℕ) (o : Value)
    → IsHeap here → IsWorld here outside of names → (header_at here at).kind ≢ kind.Structure → DenotesIn here outside names (Some at) o
    → field_of of o text n ≡ Fails trap.WrongClass
unfolding field_of
wrong-class here outside of names at text n (Pointer id) h w ne d = no-field of id text n (no-class here outside of names at id text h w d ne)
wrong-class here outside of names at text n (Text bytes) h w ne d = refl
wrong-class here outside of names at text n (Vector id) h w ne d = refl
wrong-class here outside of names at text n Nil h w ne d = absurd (some-not_nil here outside names at d)
wrong-class here outside of names at text n (Num z) h w ne d = absurd (d.stands)
wrong-class here outside of names at text n (Flag b) h w ne d = absurd (d.stands)
wrong-class here outside of names at text n (Procedure does scope) h w ne d = refl
wrong-class here outside of names at text n Nothing h w ne d = absurd (d.stands)

pub nil-field : (here : area.Heap) (outside : Outside Space) (of : Heap) (names : List reference.Reference) (text : List ℕ) (n : ℕ) (o : Value)
    → DenotesIn here outside names None o → field_of of o text n ≡ Fails trap.Nil
unfolding field_of
nil-field here outside of names text n o d = ap (λ (v : Value). field_of of v text n) (none-nil here outside names o d)

pub gets-leaves : (old new : area.Heap) (before after : Outside Space) (object : Option ℕ) (text : List ℕ) (l : Located)
    (result : Result code.Value OpFault) → GetsField old new before after object text l result → LeavesOutside before after
gets-leaves old new before after None text l (Ok v) g = absurd g
gets-leaves old new before after (Some at) text l (Ok v) g = g.2.outside
gets-leaves old new before after None text l (Err (op.Trap t)) g = g.1.outside
gets-leaves old new before after (Some at) text l (Err (op.Trap t)) g = g.2.outside
gets-leaves old new before after None text l (Err (op.Swizzle fault)) g = absurd g
gets-leaves old new before after (Some at) text l (Err (op.Swizzle fault)) g = g.0.outside

pub gets-breaks : (old new : area.Heap) (before after : Outside Space) (object : Option ℕ) (text : List ℕ) (l : Located)
    (result : Result code.Value OpFault) → GetsField old new before after object text l result → BreaksAsReading before after result
gets-breaks old new before after object text l (Ok v) g = tt
gets-breaks old new before after object text l (Err (op.Trap t)) g = tt
gets-breaks old new before after None text l (Err (op.Swizzle fault)) g = absurd g
gets-breaks old new before after (Some at) text l (Err (op.Swizzle fault)) g = g.0

pub gets-near : (old new : area.Heap) (before after : Outside Space) (object : Option ℕ) (text : List ℕ) (l : Located)
    (result : Result code.Value OpFault) → GetsField old new before after object text l result → IfOk result (IsNear new)
gets-near old new before after None text l (Ok v) g = absurd g
gets-near old new before after (Some at) text l (Ok v) g = holds-near new (shown_at old at) l.place.form (suc l.place.index) v (g.1)
gets-near old new before after object text l (Err fault) g = tt

pub gets-keeps : (old new : area.Heap) (before after : Outside Space) (object : Option ℕ) (text : List ℕ) (l : Located)
    (result : Result code.Value OpFault) → GetsField old new before after object text l result → UnlessFault result (Keeps old new)
gets-keeps old new before after None text l (Ok v) g = absurd g
gets-keeps old new before after (Some at) text l (Ok v) g = g.2.keeps
gets-keeps old new before after None text l (Err (op.Trap t)) g = g.1.keeps
gets-keeps old new before after (Some at) text l (Err (op.Trap t)) g = g.2.keeps
gets-keeps old new before after object text l (Err (op.Swizzle fault)) g = tt
