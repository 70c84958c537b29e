-- A call on databases asks first: the directory is known from then on.
use Rattle.std.specs.Prelude.{◌≡◌, true, List, Result, Ok, Err, OnOk}
use Rattle.machine_core.specs.ps_outside.Outside.{Outside}
use Rattle.machine_core.specs.obj_layout.Stored.{Space}
use Rattle.machine_core.specs.obj_layout.declared.reference.Reference.{Reference}
use Rattle.machine_core.specs.swizzle.Heap.{Stands as AllStand}
use Rattle.machine_core.specs.swizzle.declared.fault.SwizzleFault.{SwizzleFault}
use Rattle.machine_core.specs.ps_heap.Calls.{directory_known}
use Rattle.machine_core.specs.ps_stepping.Config.{Config}
use Rattle.machine_core.specs.ps_stepping.Objects.{having}
use Rattle.machine_core.specs.joint_ops.World.{Carries, BreaksOff}
use Rattle.machine_core.specs.declared.machine.Machine.{Machine}
use Rattle.machine_core.specs.Holding.{HeldBy, IsSound}
use Rattle.machine_core.specs.Naming.{NamesObjects}

-- the configuration whose run knows its directory
abbrev pub knowing : Config → Config
knowing c = having directory_known c

module _ (before after : Outside Space) (old new : Machine) where
  -- The machine holds what it held, with the directory known; or it broke off.
  abbrev pub Knows : List Reference → Config → Result (Unit {0}) SwizzleFault → Type 0
  Knows names c (Ok done) = HeldBy after names new (knowing c) × Carries old.objects new.objects before after names names
  Knows names c (Err fault) = BreaksOff old.objects new.objects before after fault

  pub record Asks (result : Result (Unit {0}) SwizzleFault) : Type 0 where
    pub sound : IsSound old → IsSound new
    pub rest : new ≡ record old { objects = new.objects; databases = new.databases }
    pub names : OnOk result (NamesObjects new)
    pub stands : OnOk result (AllStand old.objects new.objects)
    pub size : OnOk result (new.objects.size ≡ old.objects.size)
    pub asked : OnOk result (new.databases.asked ≡ true)
    pub knows : (names : List Reference) (c : Config) → HeldBy before names old c → Knows names c result
