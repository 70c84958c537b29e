-- Traps of operations on fields, as an instruction has them.
use Rattle.std.proofs.Common.{false, ◌≡◌, ◌≢◌, ◌⊎◌, inl, inr, ℕ, true, List, Option, Some, refl, sym, ap, ◌∙◌, subst}
use Rattle.std.specs.Prelude.{Result, Ok}
use Rattle.ps_base.specs.CodeUnit.{ConstantsView, unit, text}
use Rattle.ps_base.specs.declared.code_unit.Frame.{Frame}
use Rattle.ps_base.specs.declared.line.Line.{Line}
use Rattle.ps_base.specs.declared.trap.Trap.{Trap}
use Rattle.machine_core.specs.ps_outside.Outside.{Outside}
use Rattle.machine_core.specs.obj_layout.Stored.{Space}
use Rattle.machine_core.specs.obj_layout.declared.reference.Reference.{Reference}
use Rattle.machine_core.specs.swizzle.Heap as area
use Rattle.machine_core.specs.swizzle.Touch.{Keeps}
use Rattle.machine_core.specs.swizzle.declared.fault.SwizzleFault.{SwizzleFault}
use Rattle.machine_core.specs.text_forms.declared.forms.Form.{Form}
use Rattle.machine_core.specs.text_forms.declared.forms.Form.TheVariants as form
use Rattle.machine_core.specs.text_forms.declared.forms.Located.{Located}
use Rattle.machine_core.specs.text_forms.Forms.{forms_of, located_in}
use Rattle.machine_core.specs.ps_heap.Ends.{Trapped}
use Rattle.machine_core.specs.ps_heap.Values.{Value}
use Rattle.machine_core.specs.ps_stepping.Steps.{Step, Stops, Stuck}
use Rattle.machine_core.specs.joint_ops.World.{DenotesIn, IsUnitIn}
use Rattle.machine_core.specs.joint_ops.Operands.{IsOfSort}
use Rattle.machine_core.specs.joint_ops.declared.values.Sort.{Sort}
use Rattle.machine_core.specs.joint_ops.declared.values.Sort.TheVariants as sort
use Rattle.machine_core.specs.objects.Classes.{NamesClass, AnswersForm}
use Rattle.machine_core.specs.declared.machine.Machine.{Machine}
use Rattle.machine_core.specs.declared.run_end.RunEnd.TheVariants as in_code
use Rattle.machine_core.specs.declared.stepped.Stepped.{Stepped}
use Rattle.machine_core.specs.declared.stepped.Stepped.TheVariants.{Halts, Damaged}
use Rattle.machine_core.specs.Holding.{IsSound}
use Rattle.machine_core.specs.Naming.{NamesObjects}
use Rattle.machine_core.specs.Stepped.{Does, UnlessBroken, end_of, ended}
use Rattle.machine_operands.proofs.Popping.{nil-object, pointer-object, other-object}
use Rattle.machine_core.proofs.Carrying.{sound-kept}
use Rattle.machine_operands.proofs.Reading.{names-kept}
use Rattle.machine_structures.specs.declared.traps.Field.{Field}
use Rattle.machine_structures.specs.declared.traps.Row.{Row}
use Rattle.machine_structures.specs.declared.traps.Row.TheVariants.{Numbers, References}
use Rattle.machine_structures.specs.inside.Fields.{IsObject, IsNoObject, IsInRow, TrapsAt, TrapsOf, trap_at, when_in_row}
use Rattle.machine_structures.proofs.ClassFields.{stuck-in-row}

-- What an object is, by its sort.
module _ (here : area.Heap) (outside : Outside Space) (object : Option ℕ) (s : Sort)
    (sorted : (names : List Reference) (v : Value) → DenotesIn here outside names object v → IsOfSort v s) where
  pub object-is : (s ≡ sort.Nil) ⊎ (s ≡ sort.Pointer) → IsObject here outside object
  object-is (inl is) names v d c next = nil-object v (subst (IsOfSort v) is (sorted names v d)) c next
  object-is (inr is) names v d c next = pointer-object v (subst (IsOfSort v) is (sorted names v d)) c next

  pub other-is : s ≢ sort.Nil → s ≢ sort.Pointer → IsNoObject here outside object
  other-is nil structure names v d c next = other-object s nil structure v (sorted names v d) c next

-- by a form in the row the step follows
pub in-row-follows : (row : Row) (f : Form) → IsInRow row f true → (s : Step) → when_in_row row (Some f) s ≡ s
in-row-follows Numbers form.Number is s = refl
in-row-follows Numbers form.Flag is s = refl
in-row-follows Numbers form.Reference is s = absurd (cc)
in-row-follows References form.Number is s = absurd (cc)
in-row-follows References form.Flag is s = absurd (cc)
in-row-follows References form.Reference is s = refl

-- by a form in the other row there is no step
pub other-row-stuck : (row : Row) (f : Form) → IsInRow row f false → (s : Step) → when_in_row row (Some f) s ≡ Stuck
other-row-stuck Numbers form.Number is s = absurd (cc)
other-row-stuck Numbers form.Flag is s = absurd (cc)
other-row-stuck Numbers form.Reference is s = refl
other-row-stuck References form.Number is s = refl
other-row-stuck References form.Flag is s = refl
other-row-stuck References form.Reference is s = absurd (cc)

-- The machine with its answer.
so-halted : (P : Machine → Type 0) (r : Stepped) (new m : Machine) → r ≡ Halts → new ≡ m → P m → UnlessBroken r (P new)
so-halted P r new m answer left so =
    subst (λ (x : Stepped). UnlessBroken x (P new)) (sym answer) (subst P (sym left) so)

module _ (before after : Outside Space) (object : Option ℕ) (trap : Trap) (line : Line) (m : Machine) where
  abbrev stopped : Machine
  stopped = ended (in_code.Trapped trap line) m

  -- the trap is the step
  stops : (new : Machine) (r : Stepped) (size : ℕ) (s : Step) → r ≡ Halts → new ≡ stopped → s ≡ Stops (Trapped trap line) 0 → Does before after size s r new
  stops new r size s answer left is =
      subst (λ (x : Stepped). Does before after size s x new) (sym answer)
      (0, subst (λ (n : Machine). s ≡ Stops (end_of n.end) 0) (sym left) is)

  pub object-trapped : (new : Machine) (r : Stepped) → IsSound new → r ≡ Halts → new ≡ stopped → IsObject m.objects before object
      → TrapsOf before after object trap line m new r
  object-trapped new r sound answer left is = record {
    sound = sound;
    names = λ n. so-halted (λ x. NamesObjects x) r new stopped answer left n;
    size = so-halted (λ x. x.objects.size ≡ m.objects.size) r new stopped answer left refl;
    does = λ size names c v d. stops new r size (trap_at v trap line c) answer left (is names v d c (λ o e. Stops (Trapped trap line) 0));
  }

-- Traps of readings of fields.
module _ (before after : Outside Space) (field : Field) (row : Row) (object : Option ℕ) (trap : Trap) (line : Line) (m : Machine) where
  pub no-object-at : IsSound m → NamesObjects m → IsNoObject m.objects before object → TrapsAt before after field row object trap line m m Damaged
  no-object-at sound names none = record {
    sound = sound;
    names = names;
    size = refl;
    does = λ ns c v class l named place d.
        ap (λ (s : Step). when_in_row row (Some l.place.form) s) (none ns v d c (λ o e. Stops (Trapped trap line) 0)) ∙ stuck-in-row row (Some l.place.form);
  }

  module _ (now : area.Heap) where
    abbrev Told : Result Form SwizzleFault → Type 0
    Told told = (bytes : List ℕ) (cs : ConstantsView) (frame : Frame) → IsUnitIn m.objects before field.code (unit bytes cs frame)
        → AnswersForm m.objects now before after field.code cs field.constant field.number told

    -- it is the form of the field
    told-form : (f : Form) → Told (Ok f) → (class : List ℕ) (l : Located) → NamesClass m.objects before field.code field.constant class
        → located_in (forms_of class) field.number ≡ Some l → f ≡ l.place.form
    told-form f told class l n place =
        let a = told n.bytes n.row n.frame n.unit_is in
        let both : Some (text a.0) ≡ Some (text class) = sym a.2 ∙ n.class_is in
        let same : a.0 ≡ class = cc in
        let places : Some a.1 ≡ Some l = sym a.3 ∙ ap (λ (x : List ℕ). located_in (forms_of x) field.number) same ∙ place in
        let one : a.1 ≡ l = cc in
        a.4 ∙ ap (λ (x : Located). x.place.form) one

    abbrev over : Machine
    over = record m { objects = now }

    pub field-trapped : (f : Form) (new : Machine) (r : Stepped) → IsSound new → NamesObjects m → Keeps m.objects now → Told (Ok f) → IsInRow row f true
        → IsObject m.objects before object → r ≡ Halts → new ≡ ended (in_code.Trapped trap line) over → TrapsAt before after field row object trap line m new r
    field-trapped f new r sound names keeps told in_it is answer left = record {
      sound = sound;
      names = so-halted (λ x. NamesObjects x) r new (ended (in_code.Trapped trap line) over) answer left (names-kept m now keeps names);
      size = so-halted (λ x. x.objects.size ≡ m.objects.size) r new (ended (in_code.Trapped trap line) over) answer left keeps.size;
      does = λ ns c v class l named place d.
          stops before after object trap line over new r m.objects.size (when_in_row row (Some l.place.form) (trap_at v trap line c)) answer left
          (ap (λ (g : Form). when_in_row row (Some g) (trap_at v trap line c)) (sym (told-form f told class l named place))
          ∙ in-row-follows row f in_it (trap_at v trap line c)
          ∙ is ns v d c (λ o e. Stops (Trapped trap line) 0));
    }

    -- a field of the other row
    pub other-row : (f : Form) → IsSound m → NamesObjects m → Keeps m.objects now → Told (Ok f) → IsInRow row f false
        → TrapsAt before after field row object trap line m over Damaged
    other-row f sound names keeps told other = record {
      sound = sound-kept m now sound;
      names = names-kept m now keeps names;
      size = keeps.size;
      does = λ ns c v class l named place d.
          ap (λ (g : Form). when_in_row row (Some g) (trap_at v trap line c)) (sym (told-form f told class l named place))
          ∙ other-row-stuck row f other (trap_at v trap line c);
    }
