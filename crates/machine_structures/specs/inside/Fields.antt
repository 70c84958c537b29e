-- Fields as instructions name them, what is put into them, and traps of operations on them.
use Rattle.std.specs.Prelude.{◌≡◌, ℕ, Bool, true, false, List, Option, Some}
use Rattle.ps_base.specs.declared.line.Line.{Line}
use Rattle.ps_base.specs.declared.trap.Trap.{Trap}
use Rattle.machine_core.specs.ps_outside.Outside.{Outside}
use Rattle.machine_core.specs.obj_layout.Stored.{Space}
use Rattle.machine_core.specs.obj_layout.declared.reference.Reference.{Reference}
use Rattle.machine_core.specs.swizzle.Heap as area
use Rattle.machine_core.specs.text_forms.declared.forms.Form.{Form}
use Rattle.machine_core.specs.text_forms.declared.forms.Located.{Located}
use Rattle.machine_core.specs.text_forms.Forms.{forms_of, located_in, is_number_form}
use Rattle.machine_core.specs.heap_places.declared.value.Value as code
use Rattle.machine_core.specs.ps_heap.Ends.{Trapped}
use Rattle.machine_core.specs.ps_heap.Objects.{with_field, kept_as, id_of}
use Rattle.machine_core.specs.ps_heap.Held.{Part}
use Rattle.machine_core.specs.ps_heap.Values.{Value}
use Rattle.machine_core.specs.ps_stepping.Config.{Config}
use Rattle.machine_core.specs.ps_stepping.Steps.{Step, Stops, Stuck, attempted}
use Rattle.machine_core.specs.ps_stepping.Objects.{object_of, pop_object, changed, when_number, when_reference}
use Rattle.machine_core.specs.joint_ops.World.{DenotesIn, IsForIn}
use Rattle.machine_core.specs.objects.Classes.{NamesClass}
use Rattle.machine_core.specs.objects.Putting.{IsOfRow, LacksPlace}
use Rattle.machine_core.specs.declared.machine.Machine.{Machine}
use Rattle.machine_core.specs.declared.stepped.Stepped.{Stepped}
use Rattle.machine_core.specs.Holding.{HeldBy, IsSound}
use Rattle.machine_core.specs.Naming.{NamesObjects}
use Rattle.machine_core.specs.Stepped.{Does, UnlessBroken}
use Rattle.machine_structures.specs.declared.traps.Field.{Field}
use Rattle.machine_structures.specs.declared.traps.Row.{Row}
use Rattle.machine_structures.specs.declared.traps.Row.TheVariants.{Numbers, References}

-- what goes on where a field has a form of this row
abbrev pub when_in_row : Row → Option Form → Step → Step
when_in_row Numbers form s = when_number form s
when_in_row References form s = when_reference form s

abbrev pub IsInRow : Row → Form → Bool → Type 0
IsInRow Numbers form is = is_number_form form ≡ is
IsInRow References form true = is_number_form form ≡ false
IsInRow References form false = is_number_form form ≡ true

module _ (here : area.Heap) (outside : Outside Space) where
  -- what goes on with nil or a structure goes on with each value that the object denotes, or with none
  abbrev pub IsObject : Option ℕ → Type 0
  IsObject object = (names : List Reference) (v : Value) → DenotesIn here outside names object v
      → (c : Config) (next : Value → Config → Step) → object_of v c next ≡ next v c

  abbrev pub IsNoObject : Option ℕ → Type 0
  IsNoObject object = (names : List Reference) (v : Value) → DenotesIn here outside names object v
      → (c : Config) (next : Value → Config → Step) → object_of v c next ≡ Stuck

-- the step of an operation on what this value denotes that ends in a trap
abbrev pub trap_at : Value → Trap → Line → Config → Step
trap_at v trap line c = object_of v c (λ o d. Stops (Trapped trap line) 0)

module _ (before after : Outside Space) where
  -- The trap of an operation on what an object denotes was answered, in an area of whatever size.
  pub record TrapsOf (object : Option ℕ) (trap : Trap) (line : Line) (old new : Machine) (answer : Stepped) : Type 0 where
    pub sound : IsSound new
    pub names : NamesObjects old → UnlessBroken answer (NamesObjects new)
    pub size : UnlessBroken answer (new.objects.size ≡ old.objects.size)
    pub does : (size : ℕ) (names : List Reference) (c : Config) (v : Value) → DenotesIn old.objects before names object v
        → Does before after size (trap_at v trap line c) answer new

  -- And so that of a reading of a field, where the field lies in this row.
  pub record TrapsAt (field : Field) (row : Row) (object : Option ℕ) (trap : Trap) (line : Line) (old new : Machine) (answer : Stepped) : Type 0 where
    pub sound : IsSound new
    pub names : UnlessBroken answer (NamesObjects new)
    pub size : UnlessBroken answer (new.objects.size ≡ old.objects.size)
    pub does : (names : List Reference) (c : Config) (v : Value) (class : List ℕ) (located : Located)
        → NamesClass old.objects before field.code field.constant class → located_in (forms_of class) field.number ≡ Some located
        → DenotesIn old.objects before names object v
        → Does before after old.objects.size (when_in_row row (Some located.place.form) (trap_at v trap line c)) answer new

  -- A value was put into a field of what was popped, as the field keeps it, where the class has such a field, in the value's row; else there is no step.
  pub record PutsField (field : Field) (to : code.Value) (line : Line) (old new : Machine) (answer : Stepped) : Type 0 where
    pub sound : IsSound new
    pub names : UnlessBroken answer (NamesObjects new)
    pub size : UnlessBroken answer (new.objects.size ≡ old.objects.size)
    pub does : (names : List Reference) (c : Config) (v : Value) (class : List ℕ) (located : Located) → HeldBy before names old c
        → NamesClass old.objects before field.code field.constant class → located_in (forms_of class) field.number ≡ Some located
        → IsOfRow located.place.form to → IsForIn old.objects before names to v
        → Does before after old.objects.size
        (pop_object c (λ o d. attempted line (with_field d.store.held.objects o class field.number (kept_as (Some located.place.form) v)) (λ heap. changed (Part (id_of o) field.number) heap d)))
        answer new
    pub damaged : (s : Step) → s ≡ Stuck → LacksPlace old.objects before field.code field.constant field.number to → Does before after old.objects.size s
        answer new
