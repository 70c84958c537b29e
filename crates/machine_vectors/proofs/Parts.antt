-- What an instruction over vectors does, from what its parts take from the stacks and give.
use Rattle.std.proofs.Common.{◌≡◌, ℕ, List, Option, sym, ap, subst}
use Rattle.std.specs.Prelude.{Result, Ok, Err, IfOk}
use Rattle.machine_core.specs.ps_outside.Outside.{Outside}
use Rattle.machine_core.specs.obj_layout.Stored.{Space}
use Rattle.machine_core.specs.obj_layout.declared.reference.Reference.{Reference}
use Rattle.machine_core.specs.swizzle.Heap as area
use Rattle.machine_core.specs.swizzle.Touch.{Keeps}
use Rattle.machine_core.specs.heap_ops.Outcomes.{UnlessFault}
use Rattle.machine_core.specs.heap_texts.declared.fault.OpFault.{OpFault}
use Rattle.machine_core.specs.ps_heap.Values.{Value}
use Rattle.machine_core.specs.ps_stepping.Config.{Config}
use Rattle.machine_core.specs.ps_stepping.Steps.{Step, Stuck}
use Rattle.machine_core.specs.joint_ops.World.{DenotesIn}
use Rattle.machine_core.specs.declared.machine.Machine.{Machine}
use Rattle.machine_core.specs.declared.stepped.Stepped.{Stepped}
use Rattle.machine_core.specs.declared.stepped.Stepped.TheVariants.{Breaks, Damaged}
use Rattle.machine_core.specs.Holding.{HeldBy, IsSound}
use Rattle.machine_core.specs.Naming.{NamesObjects}
use Rattle.machine_core.specs.Stepped.{Does, Takes, UnlessBroken}
use Rattle.machine_core.specs.inside.Taking.{Leaves}
use Rattle.machine_operands.proofs.Parts.{unless-fault}
use Rattle.machine_operands.proofs.Reading.{names-kept}

-- Where the objects stay, so do their size and what they denote.
module _ (old last : Machine) (same : last.objects ≡ old.objects) where
  pub size-there : (r : Stepped) (new : Machine) → UnlessBroken r (new.objects.size ≡ last.objects.size) → UnlessBroken r (new.objects.size ≡ old.objects.size)
  size-there r new size = subst (λ (here : area.Heap). UnlessBroken r (new.objects.size ≡ here.size)) same size

  pub does-there : (before after : Outside Space) (s : Step) (r : Stepped) (new : Machine) → Does before after last.objects.size s r new
      → Does before after old.objects.size s r new
  does-there before after s r new d = subst (λ (here : area.Heap). Does before after here.size s r new) same d

  pub denotes-there : (out : Outside Space) (names : List Reference) (to : Option ℕ) (v : Value) → DenotesIn old.objects out names to v
      → DenotesIn last.objects out names to v
  denotes-there out names to v d = subst (λ (here : area.Heap). DenotesIn here out names to v) (sym same) d

module _ (before after : Outside Space) (of : Config → Step) (old last : Machine) (left : Leaves old last) where
  -- What is done after parts that left the objects is told of what the machine held before them.
  pub parts-taken : (new : Machine) (r : Stepped) → IsSound new → UnlessBroken r (NamesObjects new)
      → UnlessBroken r (new.objects.size ≡ last.objects.size)
      → ((names : List Reference) (c : Config) → HeldBy before names old c → Does before after last.objects.size (of c) r new) → Takes before after of old new r
  parts-taken new r sound names size does = record {
    sound = sound;
    names = λ n. names;
    size = size-there old last left.objects r new size;
    does = λ c h. does-there old last left.objects before after (of c) r new (does h.names c h.held);
  }

  -- what an instruction wants isn't there
  pub parts-stuck : ((names : List Reference) (c : Config) → HeldBy before names old c → of c ≡ Stuck) → Takes before after of old last Damaged
  parts-stuck stuck = record {
    sound = left.sound;
    names = left.names;
    size = ap (λ (here : area.Heap). here.size) left.objects;
    does = λ c h. stuck h.names c h.held;
  }

-- the step is another one
pub does-as : (before after : Outside Space) (size : ℕ) (s t : Step) (r : Stepped) (m : Machine) → s ≡ t → Does before after size t r m → Does before after size s r m
does-as before after size s t r m same d = subst (λ (x : Step). Does before after size x r m) (sym same) d

-- a step that broke off is one of which nothing else is said
pub unless-breaks : (r : Stepped) (so : Type 0) → r ≡ Breaks → UnlessBroken r so
unless-breaks r so breaks = subst (λ (x : Stepped). UnlessBroken x so) (sym breaks) tt

pub whatever : {T : Type 0} (got : Result T OpFault) → IfOk got (λ given. Unit {0})
whatever (Ok given) = tt
whatever (Err fault) = tt

-- After an operation that reads, what the machine's words name stays in the area, and that keeps its size.
pub names-after : {T : Type 0} (m : Machine) (now : area.Heap) (got : Result T OpFault) → NamesObjects m → UnlessFault got (Keeps m.objects now)
    → UnlessFault got (NamesObjects (record m { objects = now }))
names-after m now got n keeps = unless-fault got (λ k. names-kept m now k n) keeps

pub size-after : {T : Type 0} (m : Machine) (now : area.Heap) (got : Result T OpFault) → UnlessFault got (Keeps m.objects now)
    → UnlessFault got (now.size ≡ m.objects.size)
size-after m now got keeps = unless-fault got (λ k. k.size) keeps
