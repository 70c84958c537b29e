-- Elements and bounds of vectors that are read.
use Rattle.std.proofs.Common.{◌≡◌, ℕ, ℤ, true, false, List, Option, Some, None, refl, sym, ap, ◌∙◌, subst}
use Rattle.std.specs.Prelude.{Result, IfOk}
use Rattle.ps_base.specs.declared.line.Line.{Line}
use Rattle.machine_core.specs.ps_outside.Outside.{Outside}
use Rattle.machine_core.specs.obj_layout.Stored.{Space}
use Rattle.machine_core.specs.obj_layout.declared.reference.Reference.{Reference}
use Rattle.machine_core.specs.swizzle.Heap as area
use Rattle.machine_core.specs.swizzle.Reading.{LeavesOutside}
use Rattle.machine_core.specs.swizzle.Touch.{Keeps}
use Rattle.machine_core.specs.text_forms.declared.forms.Form.{Form}
use Rattle.machine_core.specs.text_forms.declared.forms.Form.TheVariants as form
use Rattle.machine_core.specs.text_forms.Forms.{element_of, is_number_form}
use Rattle.machine_core.specs.heap_places.Places.{IsNear}
use Rattle.machine_core.specs.heap_places.declared.value.Value as code
use Rattle.machine_core.specs.heap_places.declared.value.Value.TheVariants as held
use Rattle.machine_core.specs.heap_ops.Outcomes.{UnlessFault}
use Rattle.machine_core.specs.heap_texts.declared.fault.OpFault.{OpFault}
use Rattle.machine_core.specs.ps_heap.Values.{Value, Vector, word_of}
use Rattle.machine_core.specs.ps_heap.Texts.{Attempt, Yields}
use Rattle.machine_core.specs.ps_heap.Held.{reading, denoted}
use Rattle.machine_core.specs.ps_heap.Objects.{Heap, Object, Structure, Elements, Scope, Keyed, object_at, type_in, element_of as element_at}
use Rattle.machine_core.specs.ps_stepping.Config.{Config}
use Rattle.machine_core.specs.ps_stepping.Steps.{Step, Stuck, attempted, push_num}
use Rattle.machine_core.specs.ps_stepping.Objects.{type_of, type_of_object, pop_vector, when_number, when_reference, having}
use Rattle.machine_core.specs.joint_ops.World.{IsWorld, DenotesIn, IsForIn, IsOfForm, Answers}
use Rattle.machine_core.specs.joint_ops.Operands.{form_in}
use Rattle.machine_core.specs.objects.Vectors.{IsNumber}
use Rattle.machine_core.specs.declared.machine.Machine.{Machine}
use Rattle.machine_core.specs.declared.stepped.Stepped.{Stepped}
use Rattle.machine_core.specs.declared.stepped.Stepped.TheVariants.{Damaged}
use Rattle.machine_core.specs.Holding.{HeldBy, words_of, world_in}
use Rattle.machine_core.specs.Naming.{NamesObjects}
use Rattle.machine_core.specs.Stepped.{Takes}
use Rattle.machine_core.specs.inside.Taking.{Leaves}
use Rattle.machine_core.proofs.Carrying.{touched-held}
use Rattle.machine_operands.specs.Popping.{PopsVector, anything}
use Rattle.machine_operands.specs.Giving.{GivesBound, GivesNumber, GivesReference}
use Rattle.machine_vectors.specs.inside.Elements.{TakesVector, number_read, reference_read}
use Rattle.machine_vectors.proofs.Parts.{parts-taken, parts-stuck, does-as, whatever, names-after, size-after}

-- the form of the elements, by the type's text
pub typed-form : (heap : Heap) (id : ℕ) (ty : List ℕ) → type_of heap (Vector id) ≡ Some ty → form_in heap id ≡ element_of ty
typed-form heap id ty is = of (object_at heap id) is
  where
    of : (o : Option Object) → type_of_object o ≡ Some ty → element_of (type_in o) ≡ element_of ty
    of (Some (Elements text low elements)) is = ap element_of (let same : text ≡ ty = cc in same)
    of (Some (Structure class fields)) is = absurd (cc)
    of (Some (Scope text parent values)) is = absurd (cc)
    of (Some (Keyed table)) is = absurd (cc)
    of None is = absurd (cc)

-- Whether a form is of the row that an instruction wants.

pub number-row : (f : Form) → is_number_form f ≡ true → (s : Step) → when_number (Some f) s ≡ s
number-row form.Number row s = refl
number-row form.Flag row s = refl
number-row form.Reference row s = absurd (cc)

pub no-number-row : (f : Form) → is_number_form f ≡ false → (s : Step) → when_number (Some f) s ≡ Stuck
no-number-row form.Number row s = absurd (cc)
no-number-row form.Flag row s = absurd (cc)
no-number-row form.Reference row s = refl

pub reference-row : (f : Form) → is_number_form f ≡ false → (s : Step) → when_reference (Some f) s ≡ s
reference-row form.Number row s = absurd (cc)
reference-row form.Flag row s = absurd (cc)
reference-row form.Reference row s = refl

pub no-reference-row : (f : Form) → is_number_form f ≡ true → (s : Step) → when_reference (Some f) s ≡ Stuck
no-reference-row form.Number row s = refl
no-reference-row form.Flag row s = refl
no-reference-row form.Reference row s = absurd (cc)

pub reference-form : (f : Form) → is_number_form f ≡ false → f ≡ form.Reference
reference-form form.Number row = absurd (cc)
reference-form form.Flag row = absurd (cc)
reference-form form.Reference row = refl

-- a form of references holds each
pub reference-fits : (f : Form) (to : Option ℕ) → is_number_form f ≡ false → IsOfForm f (held.Ref to)
reference-fits form.Reference to row = tt
reference-fits form.Number to row = absurd (cc)
reference-fits form.Flag to row = absurd (cc)

-- A vector was popped.
module _ (before : Outside Space) (old last : Machine) (left : Leaves old last) (of : List ℕ → Value → Config → Step) where
  pub no-vector : PopsVector before old last None → Takes before before (λ c. pop_vector c of) old last Damaged
  no-vector p = parts-stuck before before (λ c. pop_vector c of) old last left (λ names c h. p.gives names c h of)

  pub vector-then : (after : Outside Space) (new : Machine) (r : Stepped) (vector : ℕ) → PopsVector before old last (Some vector)
      → TakesVector before after anything of vector last new r → Takes before after (λ c. pop_vector c of) old new r
  vector-then after new r vector p t =
      parts-taken before after (λ c. pop_vector c of) old last left new r t.sound t.names t.size
      (λ names c h.
      let x = p.gives names c h in
      does-as before after last.objects.size (pop_vector c of) (of x.2 (Vector x.1) x.0) r new (x.3 of) (t.does names x.0 x.1 x.2 x.5 x.6 x.4 tt))

-- The element is a number that is known.
pub number-known : (out : Outside Space) (m new : Machine) (r : Stepped) (vector : ℕ) (line : Line) (at place z number : ℤ) → place ≡ at → number ≡ z
    → NamesObjects m
    → ((of : Heap) (names : List Reference) (id : ℕ) → IsWorld m.objects out of names → DenotesIn m.objects out names (Some vector) (Vector id)
    → IsNumber of id place z)
    → Takes out out (push_num number) m new r → TakesVector out out anything (number_read line place) vector m new r
number-known out m new r vector line at place z number same_at same_z n known push = record {
  sound = push.sound;
  names = push.names n;
  size = push.size;
  does = λ names c id ty h d typed such.
      let k = known c.store.held.objects names id (world_in h.run) d in
      let f = element_of ty in
      let row : is_number_form f ≡ true = ap is_number_form (sym (typed-form c.store.held.objects id ty typed)) ∙ k.row in
      let read = having (reading k.value) c in
      does-as out out m.objects.size (number_read line place ty (Vector id) c) (push_num number read) r new
      (ap (λ (a : Attempt Value). attempted line a (λ w. when_number (Some f) (push_num (word_of w) (having (reading w) c)))) k.is
      ∙ number-row f row (push_num (word_of k.value) read) ∙ ap (λ (x : ℤ). push_num x read) (k.word_is ∙ sym same_z))
      (push.does read (record { names = names; held = touched-held m.objects out names (words_of m) c (denoted k.value) h }));
}

-- An element that was read.
module _ (before after : Outside Space) (m new : Machine) (now : area.Heap) (r : Stepped) (vector : ℕ) (line : Line) (at : ℤ) (n : NamesObjects m)
    (left : LeavesOutside before after) (got : Result code.Value OpFault) (keeps : UnlessFault got (Keeps m.objects now)) where
  abbrev pub Got : Type 0
  Got = (of : Heap) (names : List Reference) (id : ℕ) → IsWorld m.objects before of names → DenotesIn m.objects before names (Some vector) (Vector id)
      → Answers m.objects now before after (λ c v. IsOfForm (form_in of id) c × IsForIn now after names c v) of names (element_at of (Vector id) at) got

  typed-got : Got → (names : List Reference) (c : Config) (id : ℕ) (ty : List ℕ) → HeldBy before names m c
      → DenotesIn m.objects before names (Some vector) (Vector id) → type_of c.store.held.objects (Vector id) ≡ Some ty
      → Answers m.objects now before after (λ k v. IsOfForm (element_of ty) k × IsForIn now after names k v) c.store.held.objects names
      (element_at c.store.held.objects (Vector id) at) got
  typed-got found names c id ty h d typed =
      subst (λ (f : Form). Answers m.objects now before after (λ k v. IsOfForm f k × IsForIn now after names k v) c.store.held.objects names
      (element_at c.store.held.objects (Vector id) at) got) (typed-form c.store.held.objects id ty typed) (found c.store.held.objects names id (world_in h.run) d)

  pub number-found : Got → GivesNumber before after (record m { objects = now }) new r line got
      → TakesVector before after anything (number_read line at) vector m new r
  number-found found g = record {
    sound = g.ends.sound;
    names = g.ends.names (names-after m now got n keeps) (whatever got);
    size = g.ends.size m.objects.size (size-after m now got keeps);
    does = λ names c id ty h d typed such.
        g.does m.objects names c (element_of ty) (element_at c.store.held.objects (Vector id) at) left h (typed-got found names c id ty h d typed);
  }

  pub reference-found : Got → IfOk got (IsNear now) → GivesReference before after (record m { objects = now }) new r line got
      → TakesVector before after anything (reference_read line at) vector m new r
  reference-found found near g = record {
    sound = g.ends.sound;
    names = g.ends.names (names-after m now got n keeps) near;
    size = g.ends.size m.objects.size (size-after m now got keeps);
    does = λ names c id ty h d typed such.
        g.does m.objects names c (element_of ty) (element_at c.store.held.objects (Vector id) at) left h
        (typed-got found names c id ty h d typed);
  }

-- A bound that was read.
pub bound-found : (before after : Outside Space) (m new : Machine) (now : area.Heap) (r : Stepped) (vector : ℕ) (of : Heap → Value → ℤ) → NamesObjects m
    → LeavesOutside before after → (got : Result ℤ OpFault) → UnlessFault got (Keeps m.objects now)
    → ((heap : Heap) (names : List Reference) (id : ℕ) → IsWorld m.objects before heap names
    → DenotesIn m.objects before names (Some vector) (Vector id)
    → Answers m.objects now before after (λ z wanted. z ≡ wanted) heap names (Yields (of heap (Vector id))) got)
    → GivesBound before after (record m { objects = now }) new r got
    → TakesVector before after anything (λ ty v c. push_num (of c.store.held.objects v) c) vector m new r
bound-found before after m new now r vector of n left got keeps found g = record {
  sound = g.ends.sound;
  names = g.ends.names (names-after m now got n keeps) (whatever got);
  size = g.ends.size m.objects.size (size-after m now got keeps);
  does = λ names c id ty h d typed such.
      g.does m.objects names c (of c.store.held.objects (Vector id)) left h (found c.store.held.objects names id (world_in h.run) d);
}
