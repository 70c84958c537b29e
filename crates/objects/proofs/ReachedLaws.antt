-- Fields that are reached by what is known of them: what is read of them and what is written to them are those of the meaning's.
use Rattle.std.proofs.Common.{arith, ◌≡◌, ℕ, suc, ◌+◌, List, get_or, set, refl, sym, ap, ◌∙◌, subst, Option, Some, add-one}
use Rattle.std.specs.Prelude.{Result, Ok}
use Rattle.ps_base.specs.CodeUnit.{ConstantsView, unit, text}
use Rattle.ps_base.specs.declared.code_unit.Frame.{Frame}
use Rattle.joint_ops.specs.ps_outside.Outside.{Outside}
use Rattle.joint_ops.specs.obj_layout.Stored.{Space}
use Rattle.joint_ops.specs.obj_layout.declared.kind.Kind.TheVariants as kind
use Rattle.joint_ops.specs.obj_layout.declared.reference.Reference as reference
use Rattle.joint_ops.specs.swizzle.Heap as area
use Rattle.joint_ops.specs.swizzle.Heap.{IsHeap, header_at}
use Rattle.joint_ops.specs.swizzle.Joint.{Shown, shown_at, name_at, name_of}
use Rattle.joint_ops.specs.swizzle.Text.{text_at}
use Rattle.joint_ops.specs.text_forms.declared.forms.Located.{Located}
use Rattle.joint_ops.specs.text_forms.Forms.{forms_of, located_in}
use Rattle.joint_ops.specs.heap_texts.declared.fault.OpFault.{OpFault}
use Rattle.joint_ops.specs.heap_places.Shapes.{IsText, slot_of}
use Rattle.joint_ops.specs.heap_places.Places.{HasPlace, HasRow, Holds, IsNear, assigned_value}
use Rattle.joint_ops.specs.heap_places.declared.value.Value as held
use Rattle.joint_ops.proofs.of_heap_places.PlaceLaws.{slot-name}
use Rattle.joint_ops.specs.ps_heap.Values.{Value, Pointer, Nothing}
use Rattle.joint_ops.specs.ps_heap.Objects as meaning
use Rattle.joint_ops.specs.proc_values.Loaded.{constant_numbered}
use Rattle.joint_ops.specs.ps_heap.Objects.{Heap, Structure, with_object, kept_as}
use Rattle.joint_ops.specs.heap_meaning.Paired.{paired}
use Rattle.joint_ops.proofs.of_heap_meaning.PlaceLaws.{text-one}
use Rattle.joint_ops.proofs.of_heap_meaning.FieldLaws.{field-is, field-put}
use Rattle.joint_ops.proofs.of_heap_meaning.GivenLaws.{field-read, field-written, shown_with}
use Rattle.joint_ops.specs.World.{IsWorld, DenotesIn, IsForIn, IsOfForm, IsUnitIn, Answers, Rewritten, Writes, seen}
use Rattle.joint_ops.proofs.SeenLaws.{seen-held, seen-one, shown-bytes, StructureAt, structure-pointed}
use Rattle.joint_ops.proofs.GainLaws.{nothing-done}
use Rattle.joint_ops.proofs.FormLaws.{holds-form, holds-near, form-stored}
use Rattle.joint_ops.proofs.ClassLaws.{structure-value, class-text, field-at}
use Rattle.joint_ops.proofs.PutLaws.{no-bytes, kind-with, was-written}
use Rattle.joint_ops.proofs.RewriteLaws.{rewritten, write-stands}
use Rattle.objects.specs.declared.known_fields.KnownField.{KnownField}
use Rattle.objects.specs.declared.objects.fields.Put.{Put}
use Rattle.objects.specs.Classes.{NamesClass, LacksField}
use Rattle.objects.specs.Fields.{RefersTo, IsConstantText, IsKnown, IsReached, HasReached}
use Rattle.objects.specs.Lasting.{Lasts}
use Rattle.objects.specs.Putting.{IsOfRow, kept_in, LacksPlace, NotesWritten, IsPut}
use Rattle.objects.proofs.NamedLaws.{named-class, constant-is}
use Rattle.objects.proofs.PuttingLaws.{kept-for, kept-near, row-of, write-notes, field-lasts}
use Rattle.objects.proofs.LaterLaws.{SetsAll}

-- a value that an object denotes is a structure, if the object is one
record IsStructureOf (here : area.Heap) (outside : Outside Space) (of : Heap) (names : List reference.Reference) (at : ℕ) (o : Value) : Type 0 where
  pub id : ℕ
  pub value_is : o ≡ Pointer id
  pub at_is : StructureAt here outside of names at id

structure-of : (here : area.Heap) (outside : Outside Space) (of : Heap) (names : List reference.Reference) (at : ℕ) (o : Value) → IsHeap here
    → IsWorld here outside of names → DenotesIn here outside names (Some at) o → (header_at here at).kind ≡ kind.Structure
    → IsStructureOf here outside of names at o
structure-of here outside of names at o h w d k =
    let p = structure-value here outside names at o h d k in
    record {
      id = p.0;
      value_is = p.1;
      at_is = structure-pointed here outside of names at (p.0) h w (subst (DenotesIn here outside names (Some at)) (p.1) d) k;
    }

module _ (here : area.Heap) (outside : Outside Space) (code constant field at : ℕ) (known : KnownField) (h : IsHeap here)
    (r : IsReached here code constant field at known) where
  -- What is known of the field is so of the class that the constant names.

  named-so : IsConstantText here code constant r.is.so.named
  named-so =
      subst (λ (x : ℕ). IsConstantText here x constant r.is.so.named) r.is.code_is
      (subst (λ (x : ℕ). IsConstantText here known.code x r.is.so.named) r.is.constant_is r.is.so.constant)

  reached-class : (class : List ℕ) → NamesClass here outside code constant class → text_at here known.text ≡ class
  reached-class class n = r.is.so.same ∙ named-class here outside code constant r.is.so.named class h n named-so

  named-text : (bytes : List ℕ) (row : ConstantsView) (frame : Frame) → IsUnitIn here outside code (unit bytes row frame) → (class : List ℕ)
      → constant_numbered row constant ≡ Some (text class) → text_at here known.text ≡ class
  named-text bytes row frame u class is =
      reached-class class (record { bytes = bytes; row = row; frame = frame; unit_is = u; class_is = is })

  place-is : located_in (forms_of (text_at here known.text)) field ≡ Some known.located
  place-is = ap (λ (n : ℕ). located_in (forms_of (text_at here known.text)) n) (sym r.is.field_is) ∙ r.is.so.place

  reached-place : (class : List ℕ) (l : Located) → text_at here known.text ≡ class → located_in (forms_of class) field ≡ Some l → known.located ≡ l
  reached-place class l same is =
      let both : Some known.located ≡ Some l = sym place-is ∙ ap (λ (x : List ℕ). located_in (forms_of x) field) same ∙ is in
      let one : known.located ≡ l = cc in
      one

  -- It isn't one that the unit lacks.
  pub reached-lacks : LacksField here outside code constant field → ⊥
  reached-lacks lacks =
      lacks.none (text_at here known.text) known.located
      (constant-is here outside code constant r.is.so.named lacks.bytes lacks.row lacks.frame h lacks.unit_is named-so
      ∙ ap (λ (x : List ℕ). Some (text x)) (sym r.is.so.same)) place-is

  module _ (of : Heap) (names : List reference.Reference) (class : List ℕ) (o : Value) (l : Located) (w : IsWorld here outside of names)
      (one : (a b : Space) → outside.contents a → outside.contents b → a ≡ b) (n : NamesClass here outside code constant class)
      (is : located_in (forms_of class) field ≡ Some l) (d : DenotesIn here outside names (Some at) o) where
    s : IsStructureOf here outside of names at o
    s = structure-of here outside of names at o h w d r.refers.kind

    abbrev it : Shown
    it = shown_at here at

    first : slot_of it 0 ≡ name_at here known.text
    first = slot-name here at 0 ∙ ap (name_of here) r.refers.class

    text-there : IsText (seen here outside) (slot_of it 0) class
    text-there = record {
      it = shown_at here known.text;
      there = subst (λ (m : reference.Reference). seen here outside m (shown_at here known.text)) (sym first) (seen-held here outside known.text r.is.so.held);
      kind = r.is.so.kind;
      bytes_are = sym (shown-bytes here known.text r.is.so.kind) ∙ reached-class class n;
    }

    same : s.at_is.class ≡ class
    same = text-one (seen here outside) (slot_of it 0) s.at_is.class class (seen-one here outside h one)
        (class-text here here outside outside of names h h w one one at s.id s.at_is) text-there

    located : known.located ≡ l
    located = reached-place class l (reached-class class n) is

    abbrev Gives : held.Value → Type 0
    Gives c = Answers here here outside outside (λ k v. IsOfForm l.place.form k × IsForIn here outside names k v) of names (meaning.field_of of o class field) (Ok c)

    pub reached-got : (c : held.Value) → Holds here it known.located.place.form (known.located.place.index + 1) c → Gives c
    reached-got c got =
        let f = field-at here here outside outside of names h h w one one at s.id class s.at_is same in
        let of_l : Holds here it l.place.form (l.place.index + 1) c =
        subst (λ (k : Located). Holds here it k.place.form (k.place.index + 1) c) located got in
        let there : Holds here it l.place.form (suc l.place.index) c =
        subst (λ (k : ℕ). Holds here it l.place.form k c) (add-one l.place.index) of_l in (
          get_or s.at_is.fields field Nothing,
          ap (λ (v : Value). meaning.field_of of v class field) s.value_is ∙ field-is of s.id class s.at_is.fields field f.means,
          (
            holds-form here it l.place.form (suc l.place.index) c there,
            field-read here (seen here outside) (paired names) it class s.at_is.fields field l c f.is is there,
          ),
          nothing-done here outside of names h w,
        )

    pub reached-put : (new : area.Heap) (c : held.Value) (v : Value) → IsHeap new → IsOfForm l.place.form c → IsForIn here outside names c v
        → new ≡ assigned_value here at (known.located.place.index + 1) c
        → Writes here new outside outside o of names (meaning.with_field of o class field v) (Ok tt)
    reached-put new c v now form for written =
        let f = field-at here here outside outside of names h h w one one at s.id class s.at_is same in
        let index = suc l.place.index in
        let at_l : new ≡ assigned_value here at (l.place.index + 1) c =
        subst (λ (k : Located). new ≡ assigned_value here at (k.place.index + 1) c) located written in
        let at_index : new ≡ assigned_value here at index c = subst (λ (k : ℕ). new ≡ assigned_value here at k c) (add-one l.place.index) at_l in
        let object = Structure class (set s.at_is.fields field v) in (
          with_object of s.id object,
          ap (λ (x : Value). meaning.with_field of x class field v) s.value_is ∙ field-put of s.id class s.at_is.fields field v f.means,
          subst (λ (id : ℕ). Rewritten here new outside outside id of (with_object of s.id object) names) (sym (ap meaning.id_of s.value_is))
              (write-stands here here new outside outside of names at s.id (shown_with here it index c) object h now one (nothing-done here outside of names h w)
              s.at_is.held s.at_is.pair (no-bytes (header_at here at).kind kind.Structure r.refers.kind (λ e. cc) (λ e. cc))
              (kind-with here it index c)
              (field-written here (seen here outside) (paired names) it class s.at_is.fields field l c v f.is is
              (form-stored outside here names l.place.form c v form for))
              tt
              (was-written here new at index c kind.Structure h s.at_is.held r.refers.kind tt (omega arith) at_index)
              (rewritten here new at index c h s.at_is.held at_index)),
        )

-- What is known of a field of structures that refer to a text leads to the field of each.
pub reached-so : (here : area.Heap) (code constant field class at : ℕ) (known : KnownField) → RefersTo here at class
    → IsKnown here code constant field class known → HasPlace (shown_at here at) known.located.place.form (known.located.place.index + 1)
    → IsReached here code constant field at known
reached-so here code constant field class at known refers k place = record {
  refers = subst (RefersTo here at) (sym k.text_is) refers;
  is = record { text_is = refl; code_is = k.code_is; constant_is = k.constant_is; field_is = k.field_is; so = k.so };
  place = place;
}

-- The value of a field that is reached so is that of the meaning's.

abbrev pub GetsAll : area.Heap → area.Heap → Outside Space → Outside Space → ℕ → ℕ → ℕ → Option ℕ → Result held.Value OpFault → Type 0
GetsAll old new before after code constant field object result =
    (of : Heap) (names : List reference.Reference) (class : List ℕ) (l : Located) (o : Value) → IsWorld old before of names
    → NamesClass old before code constant class → located_in (forms_of class) field ≡ Some l → DenotesIn old before names object o
    → Answers old new before after (λ k v. IsOfForm l.place.form k × IsForIn new after names k v) of names (meaning.field_of of o class field) result

value-here : (here : area.Heap) (outside : Outside Space) (code constant field : ℕ) (object : Option ℕ) (c : held.Value) → IsHeap here
    → ((a b : Space) → outside.contents a → outside.contents b → a ≡ b) → HasReached here code constant field object c
    → GetsAll here here outside outside code constant field object (Ok c)
value-here here outside code constant field object c h one r of names class l o w n is d =
    reached-got here outside code constant field r.at r.known h r.reached of names class o l w one n is
    (subst (λ (x : Option ℕ). DenotesIn here outside names x o) r.object_is d) c r.holds

pub value-got : (here view : area.Heap) (outside : Outside Space) (code constant field : ℕ) (object : Option ℕ) (c : held.Value) → here ≡ view → IsHeap here
    → ((a b : Space) → outside.contents a → outside.contents b → a ≡ b) → HasReached here code constant field object c
    → GetsAll view view outside outside code constant field object (Ok c)
value-got here view outside code constant field object c e h one r =
    subst (λ (x : area.Heap). GetsAll x x outside outside code constant field object (Ok c)) e
    (value-here here outside code constant field object c h one r)

pub value-lacks : (here view : area.Heap) (outside : Outside Space) (code constant field : ℕ) (object : Option ℕ) (c : held.Value) → here ≡ view → IsHeap here
    → HasReached here code constant field object c → LacksField view outside code constant field → ⊥
value-lacks here view outside code constant field object c e h r lacks =
    reached-lacks here outside code constant field r.at r.known h r.reached
    (subst (λ (x : area.Heap). LacksField x outside code constant field) (sym e) lacks)

pub value-near : (here view : area.Heap) (code constant field : ℕ) (object : Option ℕ) (c : held.Value) → here ≡ view → HasReached here code constant field object c
    → IsNear view c
value-near here view code constant field object c e r =
    subst (λ (x : area.Heap). IsNear x c) e
    (holds-near here (shown_at here r.at) r.known.located.place.form (r.known.located.place.index + 1) c r.holds)

-- What is put into a field that is reached so is what the meaning's puts.

put-here : (here new : area.Heap) (outside : Outside Space) (code constant field : ℕ) (object : Option ℕ) (to : held.Value) (put : Put) → IsHeap here → IsHeap new
    → ((a b : Space) → outside.contents a → outside.contents b → a ≡ b) → (p : IsPut here code constant field object to put)
    → new ≡ assigned_value here put.object put.index put.value → SetsAll here new outside outside code constant field object to (Ok tt)
put-here here new outside code constant field object to put h now one p written of names class l o v w n is row d for =
    let at = put.object in
    let k = p.known in
    let same = reached-place here outside code constant field at k h p.reached class l
    (reached-class here outside code constant field at k h p.reached class n) is in
    let value_is : put.value ≡ kept_in l.place.form to = p.value_is ∙ ap (λ (x : Located). kept_in x.place.form to) same in
    let there : IsForIn here outside names put.value (kept_as (Some l.place.form) v) =
    subst (λ (x : held.Value). IsForIn here outside names x (kept_as (Some l.place.form) v)) (sym value_is)
    (kept-for here outside names l.place.form to v row for) in
    let form : IsOfForm l.place.form put.value = subst (λ (x : Located). IsOfForm x.place.form put.value) same p.formed in
    reached-put here outside code constant field at k h p.reached of names class o l w one n is
    (subst (λ (x : Option ℕ). DenotesIn here outside names x o) p.object_is d) new put.value (kept_as (Some l.place.form) v) now form there
    (subst (λ (x : ℕ). new ≡ assigned_value here at x put.value) p.index_is written)

pub put-set : (here view new : area.Heap) (outside : Outside Space) (code constant field : ℕ) (object : Option ℕ) (to : held.Value) (put : Put) → here ≡ view
    → IsHeap here → IsHeap new → ((a b : Space) → outside.contents a → outside.contents b → a ≡ b) → IsPut here code constant field object to put
    → new ≡ assigned_value here put.object put.index put.value → SetsAll view new outside outside code constant field object to (Ok tt)
put-set here view new outside code constant field object to put e h now one p written =
    subst (λ (x : area.Heap). SetsAll x new outside outside code constant field object to (Ok tt)) e
    (put-here here new outside code constant field object to put h now one p written)

pub put-lacks : (here view : area.Heap) (outside : Outside Space) (code constant field : ℕ) (object : Option ℕ) (to : held.Value) (put : Put) → here ≡ view
    → IsHeap here → IsPut here code constant field object to put → LacksPlace view outside code constant field to → ⊥
put-lacks here view outside code constant field object to put e h p given =
    let lacks = subst (λ (x : area.Heap). LacksPlace x outside code constant field to) (sym e) given in
    reached-lacks here outside code constant field put.object p.known h p.reached (record {
      bytes = lacks.bytes;
      row = lacks.row;
      frame = lacks.frame;
      unit_is = lacks.unit_is;
      none = λ class l named is. lacks.none class l named is
          (subst (λ (x : Located). IsOfRow x.place.form to)
          (reached-place here outside code constant field put.object p.known h p.reached class l
          (named-text here outside code constant field put.object p.known h p.reached lacks.bytes lacks.row lacks.frame lacks.unit_is class named) is) p.row);
    })

pub put-notes : (here view new : area.Heap) (code constant field : ℕ) (object : Option ℕ) (to : held.Value) (put : Put) → here ≡ view
    → IsPut here code constant field object to put → new ≡ assigned_value here put.object put.index put.value → NotesWritten view new object (Ok tt)
put-notes here view new code constant field object to put e p written =
    subst (λ (x : area.Heap). NotesWritten x new object (Ok tt)) e
    (subst (λ (x : Option ℕ). NotesWritten here new x (Ok tt)) (sym p.object_is)
    (write-notes here new put.object put.index put.value p.there written))

pub put-lasts : (here new : area.Heap) (code constant field : ℕ) (object : Option ℕ) (to : held.Value) (put : Put) → IsHeap here
    → IsPut here code constant field object to put → new ≡ assigned_value here put.object put.index put.value → Lasts here new
put-lasts here new code constant field object to put h p written =
    field-lasts here new put.object put.index put.value h p.there p.reached.refers.kind written

pub put-row : (here : area.Heap) (code constant field : ℕ) (object : Option ℕ) (to : held.Value) (put : Put) → IsPut here code constant field object to put
    → HasRow (shown_at here put.object) put.index put.value
put-row here code constant field object to put p =
    subst (λ (x : ℕ). HasRow (shown_at here put.object) x put.value) (sym p.index_is)
    (row-of (shown_at here put.object) p.known.located.place.form (p.known.located.place.index + 1) put.value p.formed p.reached.place)

pub put-near : (here view : area.Heap) (code constant field : ℕ) (object : Option ℕ) (to : held.Value) (put : Put) → here ≡ view
    → IsPut here code constant field object to put → IsNear view to → IsNear here put.value
put-near here view code constant field object to put e p near =
    subst (IsNear here) (sym p.value_is)
    (kept-near here p.known.located.place.form to p.row (subst (λ (x : area.Heap). IsNear x to) (sym e) near))
