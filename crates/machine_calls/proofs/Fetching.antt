-- A machine after a reading of objects, and after an operation that broke off.
use Rattle.std.proofs.Common.{◌≡◌, ℕ, refl, sym, subst}
use Rattle.machine_core.specs.ps_outside.Outside.{Outside}
use Rattle.machine_core.specs.obj_layout.Stored.{Space}
use Rattle.machine_core.specs.swizzle.Heap as area
use Rattle.machine_core.specs.swizzle.Reading.{LeavesOutside}
use Rattle.machine_core.specs.swizzle.Touch.{Keeps}
use Rattle.machine_core.specs.swizzle.declared.fault.SwizzleFault.{SwizzleFault}
use Rattle.machine_core.proofs.of_heap_ops.ClassLaws.{stands-kept}
use Rattle.machine_core.specs.ps_stepping.Config.{Config}
use Rattle.machine_core.specs.ps_stepping.Steps.{Step, Stuck}
use Rattle.joint_procedures.specs.Scopes.{IsDamage}
use Rattle.machine_core.specs.declared.machine.Machine.{Machine}
use Rattle.machine_core.specs.declared.stepped.Stepped.{Stepped}
use Rattle.machine_core.specs.declared.stepped.Stepped.TheVariants.{Breaks}
use Rattle.machine_core.specs.Full.{BreaksBy}
use Rattle.machine_core.specs.Holding.{Holds, IsSound, words_of}
use Rattle.machine_core.specs.Naming.{NamesObjects}
use Rattle.machine_core.specs.Stepped.{Takes, Does}
use Rattle.machine_core.proofs.Carrying.{does-behind}
use Rattle.machine_core.proofs.Naming.{names-last}

-- the machine that broke off with this fault, over these objects
abbrev pub broken : Machine → area.Heap → SwizzleFault → Machine
broken m now fault = record m { objects = now; fault = fault }

-- the objects and the fault are no part of what is said of the stacks
pub sound-broken : (m : Machine) (now : area.Heap) (fault : SwizzleFault) → IsSound m → IsSound (broken m now fault)
sound-broken m now fault sound = record {
  nums_fit = sound.nums_fit;
  refs_fit = sound.refs_fit;
  nums_below = sound.nums_below;
  refs_below = sound.refs_below;
  nums_room = sound.nums_room;
  refs_room = sound.refs_room;
  values_room = sound.values_room;
  waiting = sound.waiting;
}

-- what holds of the area after the reading holds of a machine over it
pub names-kept : (m : Machine) (now : area.Heap) → Keeps m.objects now → NamesObjects m → NamesObjects (record m { objects = now })
names-kept m now keeps n = names-last m.objects now (stands-kept m.objects now keeps) (words_of m) m.writing.item n

-- a fault that damage is no step's
pub damage-breaks : (before after : Outside Space) (size : ℕ) (s : Step) (fault : SwizzleFault) → s ≡ Stuck → IsDamage fault → BreaksBy before after size s fault
damage-breaks before after size s fault stuck d = subst (λ (f : SwizzleFault). BreaksBy before after size s f) (sym d.3) stuck

module _ (before after : Outside Space) (old : Machine) (now : area.Heap) where
  -- what was done after the reading was done from before it
  pub done-behind : (s : Step) (new : Machine) (r : Stepped) → LeavesOutside before after → Keeps old.objects now → Does after after now.size s r new
      → Does before after old.objects.size s r new
  done-behind s new r left keeps d = does-behind before after after old.objects.size now.size s r new left keeps.size d

  -- the operation broke off, and so did the step
  pub breaks-takes : (of : Config → Step) (fault : SwizzleFault) (new : Machine) (r : Stepped) → r ≡ Breaks → new ≡ broken old now fault → IsSound old
      → ((c : Config) → Holds before old c → BreaksBy before after old.objects.size (of c) fault) → Takes before after of old new r
  breaks-takes of fault new r answer is sound why =
      let t : Takes before after of old (broken old now fault) Breaks =
      record { sound = sound-broken old now fault sound; names = λ n. tt; size = tt; does = why } in
      subst (λ (x : Stepped). Takes before after of old new x) (sym answer)
      (subst (λ (m : Machine). Takes before after of old m Breaks) (sym is) t)
