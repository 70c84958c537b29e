-- What an instruction does, from what its parts do: what it takes from the stacks, an operation on objects, and its end.
use Rattle.std.proofs.Common.{◌≡◌, ℕ, List, sym, ◌∙◌, ap, subst}
use Rattle.std.specs.Prelude.{IfOk, Result, Ok, Err}
use Rattle.ps_base.specs.declared.trap.Trap.{Trap}
use Rattle.machine_core.specs.ps_outside.Outside.{Outside}
use Rattle.machine_core.specs.obj_layout.Stored.{Space}
use Rattle.machine_core.specs.obj_layout.declared.reference.Reference.{Reference}
use Rattle.machine_core.specs.swizzle.Heap as area
use Rattle.machine_core.specs.swizzle.Heap.{Stands as AllStand}
use Rattle.machine_core.specs.heap_ops.Outcomes.{UnlessFault}
use Rattle.machine_core.specs.heap_texts.declared.fault.OpFault.{OpFault}
use Rattle.machine_core.specs.heap_texts.declared.fault.OpFault.TheVariants as op
use Rattle.machine_core.specs.ps_stepping.Config.{Config}
use Rattle.machine_core.specs.ps_stepping.Steps.{Step}
use Rattle.machine_core.specs.joint_ops.Made.{BreaksAsMaking}
use Rattle.machine_core.specs.joint_ops.World.{BreaksAsReading}
use Rattle.machine_core.specs.declared.machine.Machine.{Machine}
use Rattle.machine_core.specs.declared.stepped.Stepped.{Stepped}
use Rattle.machine_core.specs.declared.stepped.Stepped.TheVariants.{Quiet, Turns, Writes, Halts, Breaks, Damaged}
use Rattle.machine_core.specs.Failing.{FailsAsReading}
use Rattle.machine_core.specs.Holding.{HeldBy, IsSound}
use Rattle.machine_core.specs.Naming.{NamesObjects}
use Rattle.machine_core.specs.Stepped.{Does, Takes, UnlessBroken}
use Rattle.machine_core.specs.inside.Taking.{Leaves}
use Rattle.machine_core.proofs.Failing.{breaks-failing, off-failing, room-failing, whole-failing}
use Rattle.machine_operands.specs.Giving.{BreaksAs, EndsSoundly}
use Rattle.machine_operands.proofs.Reading.{names-stand}

-- after two parts that left the objects
pub both-leave : (old mid new : Machine) → Leaves old mid → Leaves mid new → Leaves old new
both-leave old mid new a b = record {
  sound = b.sound;
  objects = b.objects ∙ a.objects;
  values = b.values ∙ a.values;
  names = λ n. b.names (a.names n);
}

-- what is so is so unless a step broke off
pub so-unless : (r : Stepped) (P : Type 0) → P → UnlessBroken r P
so-unless Quiet P p = p
so-unless Turns P p = p
so-unless Writes P p = p
so-unless Halts P p = p
so-unless Breaks P p = tt
so-unless Damaged P p = p

-- what follows from what holds unless an operation failed as a whole
pub unless-fault : {T : Type 0} (got : Result T OpFault) {A B : Type 0} → (A → B) → UnlessFault got A → UnlessFault got B
unless-fault (Ok given) f a = f a
unless-fault (Err (op.Trap t)) f a = f a
unless-fault (Err (op.Swizzle fault)) f a = tt

pub after-trap : {T : Type 0} (got : Result T OpFault) (t : Trap) (P : Type 0) → got ≡ Err (op.Trap t) → UnlessFault got P → P
after-trap {T} got t P is p = subst (λ (x : Result T OpFault). UnlessFault x P) is p

-- An instruction that broke off exactly where its operation did.
module _ (r : Stepped) (new : Machine) where
  pub so-after : {T : Type 0} (got : Result T OpFault) (P : Type 0) → BreaksAs got r new → UnlessFault got P → UnlessBroken r P
  so-after (Ok given) P breaks p = so-unless r P p
  so-after (Err (op.Trap t)) P breaks p = so-unless r P p
  so-after (Err (op.Swizzle fault)) P breaks p = subst (λ (x : Stepped). UnlessBroken x P) (sym breaks.0) tt

  pub fails-after : {T : Type 0} (before after : Outside Space) (got : Result T OpFault) → BreaksAs got r new → BreaksAsReading before after got
      → FailsAsReading before after r new
  fails-after before after (Ok given) breaks fails = whole-failing before after r new breaks
  fails-after before after (Err (op.Trap t)) breaks fails = whole-failing before after r new breaks
  fails-after before after (Err (op.Swizzle fault)) breaks fails = breaks-failing before after new fault r breaks.0 breaks.1 fails

-- an instruction that makes an object broke off for want of room alone
pub making-fails : (outside : Outside Space) (old now : area.Heap) (new : Machine) (r : Stepped) (made : Result ℕ OpFault)
    → (r ≡ Breaks → made ≡ Err (op.Swizzle new.fault)) → BreaksAsMaking old now made → FailsAsReading outside outside r new
making-fails outside old now new r made breaks lacks =
    off-failing outside outside r new (λ b. room-failing outside old now new.fault (subst (λ (x : Result ℕ OpFault). BreaksAsMaking old now x) (breaks b) lacks))

-- the area had the same size before parts that left the objects
pub does-earlier : (before after : Outside Space) (old mid new : Machine) (s : Step) (r : Stepped) → Leaves old mid → Does before after mid.objects.size s r new
    → Does before after old.objects.size s r new
does-earlier before after old mid new s r left does = subst (λ (here : area.Heap). Does before after here.size s r new) left.objects does

module _ (before after : Outside Space) (of : Config → Step) (old mid : Machine) (left : Leaves old mid) where
  -- After the parts that left the objects, the step is this one of what the machine holds then.
  pub after-parts : (step : Config → Step) (new : Machine) (r : Stepped) → Takes before after step mid new r
      → ((names : List Reference) (c : Config) → HeldBy before names old c → (d : Config) × (of c ≡ step d) × HeldBy before names mid d)
      → Takes before after of old new r
  after-parts step new r t leads = record {
    sound = t.sound;
    names = λ n. t.names (left.names n);
    size = subst (λ (here : area.Heap). UnlessBroken r (new.objects.size ≡ here.size)) left.objects t.size;
    does = λ c h.
        let d = leads h.names c h.held in
        subst (λ (s : Step). Does before after old.objects.size s r new) (sym d.1)
        (does-earlier before after old mid new (step d.0) r left (t.does d.0 (record { names = h.names; held = d.2 })));
  }

  -- An operation on objects followed them, and the instruction ended as it did.
  pub ends-after : {T : Type 0} (got : Result T OpFault) (lies : T → Type 0) (now : area.Heap) (new : Machine) (r : Stepped)
      → EndsSoundly got lies (record mid { objects = now }) new r → UnlessFault got (AllStand mid.objects now) → UnlessFault got (now.size ≡ mid.objects.size)
      → IfOk got lies → ((names : List Reference) (c : Config) → HeldBy before names old c → Does before after mid.objects.size (of c) r new)
      → Takes before after of old new r
  ends-after got lies now new r ends stand size lie does = record {
    sound = ends.sound;
    names = λ n. ends.names (unless-fault got (λ s. names-stand mid now s (left.names n)) stand) lie;
    size = ends.size old.objects.size (unless-fault got (λ s. s ∙ ap (λ (here : area.Heap). here.size) left.objects) size);
    does = λ c h. does-earlier before after old mid new (of c) r left (does h.names c h.held);
  }

  -- The operation broke off, and so did the instruction.
  pub broken-after : (new : Machine) (r : Stepped) → IsSound new → r ≡ Breaks
      → ((names : List Reference) (c : Config) → HeldBy before names old c → Does before after mid.objects.size (of c) r new) → Takes before after of old new r
  broken-after new r sound answer does = record {
    sound = sound;
    names = λ n. subst (λ (x : Stepped). UnlessBroken x (NamesObjects new)) (sym answer) tt;
    size = subst (λ (x : Stepped). UnlessBroken x (new.objects.size ≡ old.objects.size)) (sym answer) tt;
    does = λ c h. does-earlier before after old mid new (of c) r left (does h.names c h.held);
  }
