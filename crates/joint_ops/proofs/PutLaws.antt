-- Fields that are written, wherever the structure and its class lie.
use Rattle.std.proofs.Common.{arith, inl, inr, ◌≡◌, ◌≢◌, ℕ, suc, ◌≤◌, List, [], ◌∷◌, set, refl, sym, ap, ◌∙◌, subst, Option, Some, None}
use Rattle.std.specs.Prelude.{Result, Ok, Err}
use Rattle.heap_meaning.specs.ps_base.declared.trap.Trap.TheVariants as trap
use Rattle.heap_meaning.specs.ps_outside.Outside.{Outside}
use Rattle.heap_meaning.specs.obj_layout.Stored.{Space}
use Rattle.heap_meaning.specs.obj_layout.declared.kind.Kind.{Kind}
use Rattle.heap_meaning.specs.obj_layout.declared.kind.Kind.TheVariants as kind
use Rattle.heap_meaning.specs.obj_layout.declared.reference.Reference as reference
use Rattle.heap_meaning.specs.swizzle.Heap as area
use Rattle.heap_meaning.specs.swizzle.Heap.{IsHeap, IsHeld, header_at}
use Rattle.heap_meaning.specs.swizzle.Joint.{Shown, shown_at}
use Rattle.heap_meaning.specs.swizzle.Text.{HasBytes}
use Rattle.heap_meaning.specs.swizzle.Reading.{LeavesOutside}
use Rattle.heap_meaning.specs.text_forms.declared.forms.Located.{Located}
use Rattle.heap_meaning.specs.text_forms.Forms.{forms_of, located_in}
use Rattle.heap_meaning.specs.heap_texts.declared.fault.OpFault.{OpFault}
use Rattle.heap_meaning.specs.heap_texts.declared.fault.OpFault.TheVariants as op
use Rattle.heap_meaning.specs.heap_places.Shapes.{slot_of}
use Rattle.heap_meaning.specs.heap_places.Places.{assigned_value}
use Rattle.heap_meaning.specs.heap_places.declared.value.Value as code
use Rattle.heap_meaning.specs.heap_places.declared.value.Value.TheVariants as held
use Rattle.heap_meaning.proofs.of_swizzle.ReadingLaws.{reads-none}
use Rattle.heap_meaning.specs.heap_ops.Structures.{class_of, SetsField}
use Rattle.heap_meaning.specs.ps_heap.Values.{Value, Num, Flag, Text, Nil, Pointer, Vector, Procedure, Nothing}
use Rattle.heap_meaning.specs.ps_heap.Texts.{Fails}
use Rattle.heap_meaning.specs.ps_heap.Objects.{Heap, Structure, with_object, with_field}
use Rattle.heap_meaning.specs.Standing.{IsStructure}
use Rattle.heap_meaning.specs.Paired.{paired}
use Rattle.heap_meaning.proofs.FieldLaws.{field-put, no-field_put}
use Rattle.heap_meaning.proofs.GivenLaws.{shown_with, field-written}
use Rattle.joint_ops.specs.Writing.{HasParts, IsWrite}
use Rattle.joint_ops.specs.World.{IsWorld, seen, DenotesIn, IsForIn, IsOfForm, Writes, BreaksAsReading}
use Rattle.joint_ops.proofs.SeenLaws.{none-nil, some-not_nil, StructureAt, structure-pointed, no-class, reads-within, as-within, breaks}
use Rattle.joint_ops.proofs.GainLaws.{reads-stands}
use Rattle.joint_ops.proofs.WriteLaws.{value-write, behind}
use Rattle.joint_ops.proofs.FormLaws.{form-stored}
use Rattle.joint_ops.proofs.ClassLaws.{structure-value, class-known, class-is, other-class, field-at, caused-fields}
use Rattle.joint_ops.proofs.RewriteLaws.{rewritten, write-stands, for-carried}

-- What is written to keeps its kind.
pub kind-with : (here : area.Heap) (it : Shown) (index : ℕ) (c : code.Value) → (shown_with here it index c).kind ≡ it.kind
kind-with here it index (held.Num z) = refl
kind-with here it index (held.Flag b) = refl
kind-with here it index (held.Ref to) = refl

-- a structure and a vector have no bytes
pub no-bytes : (k of : Kind) → k ≡ of → of ≢ kind.Text → of ≢ kind.Code → HasBytes k → ⊥
no-bytes k of e t c (inl is) = t (sym e ∙ is)
no-bytes k of e t c (inr is) = c (sym e ∙ is)

-- What is written to has parts.
pub was-written : (mid new : area.Heap) (at index : ℕ) (c : code.Value) (k : Kind) → IsHeap mid → IsHeld mid at → (header_at mid at).kind ≡ k → HasParts k
    → 1 ≤ index → new ≡ assigned_value mid at index c → IsWrite mid new at
was-written mid new at index c k h held is parts le e =
    subst (λ (x : area.Heap). IsWrite mid x at) (sym e) (value-write mid at index c h held (subst HasParts (sym is) parts) (behind c index le))

module _ (old new : area.Heap) (before after : Outside Space) (of : Heap) (names : List reference.Reference)
    (h : IsHeap old) (now : IsHeap new) (w : IsWorld old before of names)
    (was_one : (a b : Space) → before.contents a → before.contents b → a ≡ b) (is_one : (a b : Space) → after.contents a → after.contents b → a ≡ b) where
  pointer-put : (at id : ℕ) (text : List ℕ) (n : ℕ) (l : Located) (c : code.Value) (v : Value) (result : Result (Unit {0}) OpFault)
      → StructureAt old before of names at id → located_in (forms_of text) n ≡ Some l → IsOfForm l.place.form c → IsForIn old before names c v
      → SetsField old new before after (Some at) text l c result → Writes old new before after (Pointer id) of names (with_field of (Pointer id) text n v) result
  pointer-put at id text n l c v (Ok done) s is form for g =
      let mid = g.mid in
      let touched = slot_of (shown_at old at) 0 ∷ [] in
      let stays = g.reads.keeps.objects at s.held in
      let same = class-is old mid before after of names h g.heap w was_one is_one at id text g.reads.grows s (g.fields.class.class) in
      let f = field-at old mid before after of names h g.heap w was_one is_one at id text s same in
      let read = reads-stands old mid before after touched of names h g.heap
      (class-known old mid before after of names h g.heap w was_one is_one at id s, tt) g.reads w in
      let there : IsStructure (seen mid after) (paired names) (shown_at mid at) text s.fields =
      subst (λ (it : Shown). IsStructure (seen mid after) (paired names) it text s.fields) (sym stays.shown_as)
      (as-within (seen old before) (seen mid after) (paired names) (shown_at old at) kind.Structure text (λ home. home ∷ []) (forms_of text) s.fields
      (reads-within old mid before after touched g.reads) f.is) in
      let stored = form-stored after mid names l.place.form c v form (for-carried old mid before after names names c v read.carries for) in
      let index = suc l.place.index in
      let object = Structure text (set s.fields n v) in (
        with_object of id object,
        field-put of id text s.fields n v f.means,
        write-stands old mid new before after of names at id (shown_with mid (shown_at mid at) index c) object g.heap now is_one read stays.held
            (subst (λ (m : reference.Reference). paired names m id) (sym stays.name) s.pair)
            (no-bytes (header_at mid at).kind kind.Structure there.kind_is (λ e. cc) (λ e. cc))
            (kind-with mid (shown_at mid at) index c)
            (field-written mid (seen mid after) (paired names) (shown_at mid at) text s.fields n l c v there is stored)
            tt
            (was-written mid new at index c kind.Structure g.heap stays.held there.kind_is tt (omega arith) g.written)
            (rewritten mid new at index c g.heap stays.held g.written),
      )
  pointer-put at id text n l c v (Err (op.Trap t)) s is form for g = (
    no-field_put of id text n v (other-class old new before after of names h now w was_one is_one at id text (g.2.grows) s (g.1))
        ∙ ap Fails (sym (g.0)),
    reads-stands old new before after (slot_of (shown_at old at) 0 ∷ []) of names h now
        (class-known old new before after of names h now w was_one is_one at id s, tt) (g.2) w,
  )
  pointer-put at id text n l c v (Err (op.Swizzle fault)) s is form for g =
      breaks old new before after fault (g.0) (caused-fields old new before after of names h now w was_one is_one at id text n l fault s is (g.1))

  pub writes-field : (at : ℕ) (given_text text : List ℕ) (n : ℕ) (o : Value) (l : Located) (c : code.Value) (v : Value)
      (result : Result (Unit {0}) OpFault) → given_text ≡ text → (header_at old at).kind ≡ kind.Structure → DenotesIn old before names (Some at) o
      → located_in (forms_of text) n ≡ Some l → IsOfForm l.place.form c → IsForIn old before names c v
      → SetsField old new before after (Some at) given_text l c result → Writes old new before after o of names (with_field of o text n v) result
  writes-field at given_text text n o l c v result e k d is form for g =
      let p = structure-value old before names at o h d k in
      let s = structure-pointed old before of names at (p.0) h w (subst (DenotesIn old before names (Some at)) (p.1) d) k in
      subst (λ (x : Value). Writes old new before after x of names (with_field of x text n v) result) (sym (p.1))
      (pointer-put at (p.0) text n l c v result s is form for (subst (λ (t : List ℕ). SetsField old new before after (Some at) t l c result) e g))

-- What is no structure has no field to write, and nothing is read.

pub wrong-put : (here : area.Heap) (outside : Outside Space) (of : Heap) (names : List reference.Reference) (at : ℕ) (text : List ℕ) (n : ℕ) (o v : Value)
    → IsHeap here → IsWorld here outside of names → (header_at here at).kind ≢ kind.Structure → DenotesIn here outside names (Some at) o
    → with_field of o text n v ≡ Fails trap.WrongClass
unfolding with_field
wrong-put here outside of names at text n (Pointer id) v h w ne d = no-field_put of id text n v (no-class here outside of names at id text h w d ne)
wrong-put here outside of names at text n (Text bytes) v h w ne d = refl
wrong-put here outside of names at text n (Vector id) v h w ne d = refl
wrong-put here outside of names at text n Nil v h w ne d = absurd (some-not_nil here outside names at d)
wrong-put here outside of names at text n (Num z) v h w ne d = absurd (d.stands)
wrong-put here outside of names at text n (Flag b) v h w ne d = absurd (d.stands)
wrong-put here outside of names at text n (Procedure does scope) v h w ne d = refl
wrong-put here outside of names at text n Nothing v h w ne d = absurd (d.stands)

pub nil-put : (here : area.Heap) (outside : Outside Space) (of : Heap) (names : List reference.Reference) (text : List ℕ) (n : ℕ) (o v : Value)
    → DenotesIn here outside names None o → with_field of o text n v ≡ Fails trap.Nil
unfolding with_field
nil-put here outside of names text n o v d = ap (λ (x : Value). with_field of x text n v) (none-nil here outside names o d)

-- What is said whatever the vault.

pub sets-leaves : (old new : area.Heap) (before after : Outside Space) (object : Option ℕ) (text : List ℕ) (l : Located) (c : code.Value)
    (result : Result (Unit {0}) OpFault) → SetsField old new before after object text l c result → LeavesOutside before after
sets-leaves old new before after None text l c (Ok done) g = absurd g
sets-leaves old new before after (Some at) text l c (Ok done) g = g.reads.outside
sets-leaves old new before after None text l c (Err (op.Trap t)) g = g.1.outside
sets-leaves old new before after (Some at) text l c (Err (op.Trap t)) g = g.2.outside
sets-leaves old new before after None text l c (Err (op.Swizzle fault)) g = absurd g
sets-leaves old new before after (Some at) text l c (Err (op.Swizzle fault)) g = g.0.outside

pub sets-breaks : (old new : area.Heap) (before after : Outside Space) (object : Option ℕ) (text : List ℕ) (l : Located) (c : code.Value)
    (result : Result (Unit {0}) OpFault) → SetsField old new before after object text l c result → BreaksAsReading before after result
sets-breaks old new before after object text l c (Ok done) g = tt
sets-breaks old new before after object text l c (Err (op.Trap t)) g = tt
sets-breaks old new before after None text l c (Err (op.Swizzle fault)) g = absurd g
sets-breaks old new before after (Some at) text l c (Err (op.Swizzle fault)) g = g.0

-- what is no structure, or none at all, isn't written
pub sets-none : (here : area.Heap) (outside : Outside Space) (object : Option ℕ) (text : List ℕ) (l : Located) (c : code.Value) → object ≡ None
    → SetsField here here outside outside object text l c (Err (op.Trap trap.Nil))
sets-none here outside object text l c e =
    subst (λ (x : Option ℕ). SetsField here here outside outside x text l c (Err (op.Trap trap.Nil))) (sym e) (refl, reads-none here outside [])

pub sets-other : (here : area.Heap) (outside : Outside Space) (object : Option ℕ) (at : ℕ) (text : List ℕ) (l : Located) (c : code.Value) → object ≡ Some at
    → (header_at here at).kind ≢ kind.Structure → SetsField here here outside outside object text l c (Err (op.Trap trap.WrongClass))
sets-other here outside object at text l c e ne =
    subst (λ (x : Option ℕ). SetsField here here outside outside x text l c (Err (op.Trap trap.WrongClass))) (sym e)
    (refl, inl ne, reads-none here outside (class_of (shown_at here at)))
