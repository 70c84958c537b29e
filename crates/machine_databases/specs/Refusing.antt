-- A refused call pushes an error record.
use Rattle.std.specs.Prelude.{◌≡◌, ℕ, ◌≤◌, List}
use Rattle.machine_core.specs.ps_outside.Outside.{Outside}
use Rattle.machine_core.specs.obj_layout.Stored.{Space}
use Rattle.machine_core.specs.obj_layout.declared.reference.Reference.{Reference}
use Rattle.machine_core.specs.ps_heap.Calls.{Answer, error_record, refused}
use Rattle.machine_core.specs.ps_heap.Databases.{Fault}
use Rattle.machine_core.specs.ps_heap.Held.{Held}
use Rattle.machine_core.specs.ps_heap.Weights.{whole_weight}
use Rattle.machine_core.specs.ps_stepping.Config.{Config}
use Rattle.machine_core.specs.ps_stepping.Library.{gives_ref}
use Rattle.machine_core.specs.joint_held.Writing.{HoldsAlike}
use Rattle.machine_core.specs.declared.machine.Machine.{Machine}
use Rattle.machine_core.specs.declared.stepped.Stepped.{Stepped}
use Rattle.machine_core.specs.Holding.{HeldBy, IsSound}
use Rattle.machine_core.specs.Naming.{NamesObjects}
use Rattle.machine_core.specs.Stepped.{UnlessBroken}
use Rattle.machine_databases.specs.Calls.{DoesCall}

-- The answer of a refused call, but for what is nothing to what a run holds; and the record is counted.
pub record IsRefusal (context : List ℕ) (fault : Fault) (h : Held) (a : Answer) : Type 0 where
  pub value : a.value ≡ (refused context fault h).value
  pub held : HoldsAlike (refused context fault h).held a.held
  pub counted : whole_weight h.weigh (error_record context fault) ≤ a.held.counted

-- From each configuration that the machine holds, giving such an answer is what was answered.
pub record GivesRefusal (outside : Outside Space) (context : List ℕ) (fault : Fault) (old new : Machine) (answer : Stepped) : Type 0 where
  pub sound : IsSound new
  pub names : UnlessBroken answer (NamesObjects new)
  pub size : UnlessBroken answer (new.objects.size ≡ old.objects.size)
  pub does : (names : List Reference) (c : Config) (a : Answer) → HeldBy outside names old c → IsRefusal context fault c.store.held a
      → DoesCall outside outside old.objects.size (gives_ref a c) answer new
