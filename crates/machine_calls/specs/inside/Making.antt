-- How an instruction ends that makes a scope or a procedure beside a vault that stays.
use Rattle.std.specs.Prelude.{◌≡◌, ℕ, List, Some}
use Rattle.ps_base.specs.CodeUnit.{UnitView}
use Rattle.machine_core.specs.ps_outside.Outside.{Outside}
use Rattle.machine_core.specs.obj_layout.Stored.{Space}
use Rattle.machine_core.specs.obj_layout.declared.reference.Reference.{Reference}
use Rattle.machine_core.specs.proc_values.Loaded.{IsFitUnit}
use Rattle.machine_core.specs.ps_heap.Values.{Text, Procedure, as_compiled}
use Rattle.machine_core.specs.ps_heap.Objects.{new_number}
use Rattle.machine_core.specs.ps_heap.Scopes.{new_scope}
use Rattle.machine_core.specs.ps_meaning.Meaning.{and_object, and_closure}
use Rattle.machine_core.specs.ps_stepping.Config.{Config}
use Rattle.machine_core.specs.ps_stepping.Steps.{Step, on, push_ref}
use Rattle.machine_core.specs.ps_stepping.Objects.{holding}
use Rattle.machine_core.specs.joint_ops.World.{DenotesIn, IsUnitIn}
use Rattle.machine_core.specs.declared.machine.Machine.{Machine}
use Rattle.machine_core.specs.declared.stepped.Stepped.{Stepped}
use Rattle.machine_core.specs.Holding.{HeldBy, IsSound}
use Rattle.machine_core.specs.Naming.{NamesObjects}
use Rattle.machine_core.specs.Stepped.{Does, UnlessBroken}

-- a new scope of this text inside the current one is the current one
abbrev pub in_scope : List ℕ → Config → Step
in_scope of c = on (record (holding (and_object (new_scope of c.scope) c.store) c) { scope = Some (new_number c.store.held.objects) })

-- a procedure of this unit, made in the current scope, is pushed
abbrev pub with_procedure : UnitView → Config → Step
with_procedure of c = push_ref (Procedure (as_compiled of) c.scope) (holding (and_closure c.store) c)

module _ (outside : Outside Space) where
  -- The scope of a text was made, from each configuration that the machine holds.
  pub record MakesScopeOf (text : ℕ) (old new : Machine) (answer : Stepped) : Type 0 where
    pub sound : IsSound new
    pub names : UnlessBroken answer (NamesObjects new)
    pub size : UnlessBroken answer (new.objects.size ≡ old.objects.size)
    pub does : (names : List Reference) (c : Config) (bytes : List ℕ) → HeldBy outside names old c → DenotesIn old.objects outside names (Some text) (Text bytes)
        → Does outside outside old.objects.size (in_scope bytes c) answer new

  -- And so the procedure of a unit.
  pub record MakesProcedureOf (code : ℕ) (old new : Machine) (answer : Stepped) : Type 0 where
    pub sound : IsSound new
    pub names : UnlessBroken answer (NamesObjects new)
    pub size : UnlessBroken answer (new.objects.size ≡ old.objects.size)
    pub does : (names : List Reference) (c : Config) (u : UnitView) → HeldBy outside names old c → IsUnitIn old.objects outside code u → IsFitUnit u
        → Does outside outside old.objects.size (with_procedure u c) answer new
