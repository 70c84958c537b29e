-- What is kept under names of scopes, as it is pushed and written.
use Rattle.std.specs.Prelude.{◌≡◌, ℕ, List}
use Rattle.machine_core.specs.ps_outside.Outside.{Outside}
use Rattle.machine_core.specs.obj_layout.Stored.{Space}
use Rattle.machine_core.specs.obj_layout.declared.reference.Reference.{Reference}
use Rattle.machine_core.specs.text_forms.Forms.{forms_of, form_in}
use Rattle.machine_core.specs.heap_places.declared.value.Value as code
use Rattle.machine_core.specs.heap_places.declared.value.Value.TheVariants as held
use Rattle.machine_core.specs.ps_heap.Values.{Value, number_of}
use Rattle.machine_core.specs.ps_heap.Held.{assigned_name}
use Rattle.machine_core.specs.ps_stepping.Config.{Config}
use Rattle.machine_core.specs.ps_stepping.Steps.{Step, Stuck, on, push_num, push_ref}
use Rattle.machine_core.specs.ps_stepping.Objects.{having, when_number, when_reference}
use Rattle.machine_core.specs.ps_stepping.Procedures.{at_level}
use Rattle.machine_core.specs.joint_ops.World.{IsForIn}
use Rattle.machine_core.specs.declared.machine.Machine.{Machine}
use Rattle.machine_core.specs.declared.stepped.Stepped.{Stepped}
use Rattle.machine_core.specs.Holding.{HeldBy, IsSound}
use Rattle.machine_core.specs.Naming.{NamesObjects}
use Rattle.machine_core.specs.Stepped.{Takes, Does, UnlessBroken}
use Rattle.machine_core.specs.inside.Taking.{TakesRef}

-- what goes on where the name of this number of the scope so many levels out is a number, and where it is a reference
abbrev pub number_kept : ℕ → ℕ → Config → Step → Step
number_kept up name c s = at_level up c (λ of. when_number (form_in (forms_of of) name) s)

abbrev pub reference_kept : ℕ → ℕ → Config → Step → Step
reference_kept up name c s = at_level up c (λ of. when_reference (form_in (forms_of of) name) s)

-- the name gets a value
abbrev pub name_put : ℕ → ℕ → Value → Config → Step
name_put up name v c = on (having (assigned_name c.scope up name v) c)

-- what goes on where the name is of the row of a value
abbrev pub row_kept : code.Value → ℕ → ℕ → Config → Step → Step
row_kept (held.Num z) up name c s = number_kept up name c s
row_kept (held.Flag b) up name c s = number_kept up name c s
row_kept (held.Ref to) up name c s = reference_kept up name c s

-- a number is pushed, and what isn't one is stuck
abbrev pub number_pushed : code.Value → Config → Step
number_pushed (held.Num z) c = push_num z c
number_pushed (held.Flag b) c = push_num (number_of b) c
number_pushed (held.Ref to) c = Stuck

module _ (before after : Outside Space) where
  -- a reference was pushed, or what isn't one was stuck
  abbrev pub PushesReference : code.Value → Machine → Machine → Stepped → Type 0
  PushesReference (held.Ref to) old new answer = TakesRef before after push_ref old to new answer
  PushesReference _ old new answer = Takes before after (λ c. Stuck) old new answer

  -- A value was kept under the name, from each configuration that the machine holds.
  pub record WritesName (up name : ℕ) (to : code.Value) (old new : Machine) (answer : Stepped) : Type 0 where
    pub sound : IsSound new
    pub names : UnlessBroken answer (NamesObjects new)
    pub size : UnlessBroken answer (new.objects.size ≡ old.objects.size)
    pub does : (names : List Reference) (c : Config) (v : Value) → HeldBy before names old c → IsForIn old.objects before names to v
        → Does before after old.objects.size (row_kept to up name c (name_put up name v c)) answer new
