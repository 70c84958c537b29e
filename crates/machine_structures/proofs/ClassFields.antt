-- Fields of classes that are constants of a unit: what follows where there is such a field, and that nothing does where there is none.
use Rattle.std.proofs.Common.{◌≡◌, ◌⊎◌, inl, inr, ℕ, List, Option, Some, None, refl, sym, ap, ◌∙◌}
use Rattle.ps_base.specs.CodeUnit.{UnitView, unit, ConstantView, text, literal}
use Rattle.machine_core.specs.ps_outside.Outside.{Outside}
use Rattle.machine_core.specs.obj_layout.Stored.{Space}
use Rattle.machine_core.specs.swizzle.Heap as area
use Rattle.machine_core.specs.text_forms.declared.forms.Form.{Form}
use Rattle.machine_core.specs.text_forms.declared.forms.Form.TheVariants as form
use Rattle.machine_core.specs.text_forms.declared.forms.Located.{Located}
use Rattle.machine_core.specs.text_forms.Forms.{forms_of, form_in, before_in, rows_of, located_in, located_as}
use Rattle.machine_core.specs.heap_places.declared.value.Value as code
use Rattle.machine_core.specs.ps_stepping.Config.{constants_in, constant_at}
use Rattle.machine_core.specs.ps_stepping.Steps.{Step, Stuck, text_in}
use Rattle.machine_core.specs.joint_ops.World.{IsUnitIn}
use Rattle.machine_core.specs.objects.Classes.{NamesClass, LacksClass, LacksField}
use Rattle.machine_core.specs.objects.Putting.{IsOfRow, LacksPlace}
use Rattle.machine_core.proofs.of_heap_meaning.GivenLaws.{located-at}
use Rattle.machine_operands.proofs.Reading.{same-constant}
use Rattle.machine_structures.specs.declared.traps.Row.{Row}
use Rattle.machine_structures.specs.declared.traps.Row.TheVariants.{Numbers, References}
use Rattle.machine_structures.specs.inside.Fields.{when_in_row}

-- A unit that names a class by a constant, and one that doesn't.

pub record HasClass (u : UnitView) (k : ℕ) : Type 0 where
  pub class : List ℕ
  pub is : constant_at (constants_in u) k ≡ Some (text class)

pub class-or-none : (u : UnitView) (k : ℕ) → HasClass u k ⊎ (HasClass u k → ⊥)
class-or-none u k = of (constant_at (constants_in u) k) refl
  where
    of : (o : Option ConstantView) → constant_at (constants_in u) k ≡ o → HasClass u k ⊎ (HasClass u k → ⊥)
    of None e = inr (λ h. let bad : None ≡ Some (text h.class) = sym e ∙ h.is in cc)
    of (Some (literal l)) e = inr (λ h. let bad : Some (literal l) ≡ Some (text h.class) = sym e ∙ h.is in cc)
    of (Some (text class)) e = inl (record { class = class; is = e })

pub class-follows : (u : UnitView) (k : ℕ) (h : HasClass u k) (next : List ℕ → Step) → text_in (constant_at (constants_in u) k) next ≡ next h.class
class-follows u k h next = ap (λ (o : Option ConstantView). text_in o next) h.is

pub no-class : (u : UnitView) (k : ℕ) → (HasClass u k → ⊥) → (next : List ℕ → Step) → text_in (constant_at (constants_in u) k) next ≡ Stuck
no-class u k none next = of (constant_at (constants_in u) k) refl
  where
    of : (o : Option ConstantView) → constant_at (constants_in u) k ≡ o → text_in o next ≡ Stuck
    of None e = refl
    of (Some (literal l)) e = refl
    of (Some (text class)) e = absurd (none (record { class = class; is = e }))

module _ (here : area.Heap) (outside : Outside Space) (at k : ℕ) where
  pub names-class : (u : UnitView) → IsUnitIn here outside at u → (h : HasClass u k) → NamesClass here outside at k h.class
  names-class (unit bytes row frame) is h = record {
    bytes = bytes;
    row = row;
    frame = frame;
    unit_is = is;
    class_is = sym (same-constant row k) ∙ h.is;
  }

  pub lacks-class : (u : UnitView) → IsUnitIn here outside at u → (HasClass u k → ⊥) → LacksClass here outside at k
  lacks-class (unit bytes row frame) is none = record {
    bytes = bytes;
    row = row;
    frame = frame;
    unit_is = is;
    none = λ class e. none (record { class = class; is = same-constant row k ∙ e });
  }

-- A unit that names a class with a field of this number, and one that doesn't.

pub record HasField (u : UnitView) (k n : ℕ) : Type 0 where
  pub named : HasClass u k
  pub located : Located
  pub place : located_in (forms_of named.class) n ≡ Some located

pub field-or-none : (u : UnitView) (k n : ℕ) → HasField u k n ⊎ (HasField u k n → ⊥)
field-or-none u k n = elim (class-or-none u k) [ inl h ↦ of h (located_in (forms_of h.class) n) refl | inr none ↦ inr (λ f. none f.named) ]
  where
    of : (h : HasClass u k) (o : Option Located) → located_in (forms_of h.class) n ≡ o → HasField u k n ⊎ (HasField u k n → ⊥)
    of h (Some l) e = inl (record { named = h; located = l; place = e })
    of h None e =
        inr
        (λ f.
        let both : Some (text h.class) ≡ Some (text f.named.class) = sym h.is ∙ f.named.is in
        let same : h.class ≡ f.named.class = cc in
        let bad : None ≡ Some f.located = sym e ∙ ap (λ (class : List ℕ). located_in (forms_of class) n) same ∙ f.place in
        cc)

-- where there is a form there is a place
place-of : (forms : List Form) (n : ℕ) (f : Form) → form_in forms n ≡ Some f → (l : Located) × (located_in forms n ≡ Some l)
unfolding located_in
place-of forms n f e =
    (record { place = record { form = f; index = before_in f forms n }; rows = rows_of forms }, ap (λ (o : Option Form). located_as forms n o) e)

-- A form that is another row's stops what follows.
pub none-in-row : (row : Row) (s : Step) → when_in_row row None s ≡ Stuck
none-in-row Numbers s = refl
none-in-row References s = refl

pub stuck-in-row : (row : Row) (f : Option Form) → when_in_row row f Stuck ≡ Stuck
stuck-in-row Numbers None = refl
stuck-in-row Numbers (Some form.Number) = refl
stuck-in-row Numbers (Some form.Flag) = refl
stuck-in-row Numbers (Some form.Reference) = refl
stuck-in-row References None = refl
stuck-in-row References (Some form.Number) = refl
stuck-in-row References (Some form.Flag) = refl
stuck-in-row References (Some form.Reference) = refl

module _ (u : UnitView) (k n : ℕ) (row : Row) (next : List ℕ → Option Form → Step) where
  abbrev Following : Step
  Following = text_in (constant_at (constants_in u) k) (λ class. when_in_row row (form_in (forms_of class) n) (next class (form_in (forms_of class) n)))

  pub field-follows : (f : HasField u k n) → Following ≡ when_in_row row (Some f.located.place.form) (next f.named.class (Some f.located.place.form))
  field-follows f =
      class-follows u k f.named (λ class. when_in_row row (form_in (forms_of class) n) (next class (form_in (forms_of class) n)))
      ∙ ap (λ (g : Option Form). when_in_row row g (next f.named.class g)) (located-at (forms_of f.named.class) n f.located f.place).form_is

  pub no-field : (HasField u k n → ⊥) → Following ≡ Stuck
  no-field none = elim (class-or-none u k) [
    | inl h ↦ class-follows u k h (λ class. when_in_row row (form_in (forms_of class) n) (next class (form_in (forms_of class) n))) ∙ of h
        (form_in (forms_of h.class) n) refl
    | inr other ↦ no-class u k other (λ class. when_in_row row (form_in (forms_of class) n) (next class (form_in (forms_of class) n)))
  ]
    where
      of : (h : HasClass u k) (o : Option Form) → form_in (forms_of h.class) n ≡ o → when_in_row row o (next h.class o) ≡ Stuck
      of h None e = none-in-row row (next h.class None)
      of h (Some f) e = let l = place-of (forms_of h.class) n f e in absurd (none (record { named = h; located = l.0; place = l.1 }))

-- the unit has one such field
pub one-field : (u : UnitView) (k n : ℕ) (f g : HasField u k n) → f.located ≡ g.located
one-field u k n f g =
    let both : Some (text f.named.class) ≡ Some (text g.named.class) = sym f.named.is ∙ g.named.is in
    let same : f.named.class ≡ g.named.class = cc in
    let places : Some f.located ≡ Some g.located = sym f.place ∙ ap (λ (class : List ℕ). located_in (forms_of class) n) same ∙ g.place in
    cc

module _ (here : area.Heap) (outside : Outside Space) (at k n : ℕ) where
  pub lacks-field : (u : UnitView) → IsUnitIn here outside at u → (HasField u k n → ⊥) → LacksField here outside at k n
  lacks-field (unit bytes row frame) is none = record {
    bytes = bytes;
    row = row;
    frame = frame;
    unit_is = is;
    none = λ class l e place. none (record { named = record { class = class; is = same-constant row k ∙ e }; located = l; place = place });
  }

  -- no field keeps a value of this row
  pub lacks-place : (u : UnitView) (to : code.Value) → IsUnitIn here outside at u → ((f : HasField u k n) → IsOfRow f.located.place.form to → ⊥)
      → LacksPlace here outside at k n to
  lacks-place (unit bytes row frame) to is none = record {
    bytes = bytes;
    row = row;
    frame = frame;
    unit_is = is;
    none = λ class l e place. none (record { named = record { class = class; is = same-constant row k ∙ e }; located = l; place = place });
  }
