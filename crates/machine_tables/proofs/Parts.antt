-- What a call on tables does, from what its parts take from the stacks and give.
use Rattle.std.proofs.Common.{◌≡◌, ℕ, List, [], ◌∷◌, Option, refl, sym, ap, ◌∙◌, subst}
use Rattle.std.specs.Prelude.{Result, Ok, Err}
use Rattle.machine_core.specs.ps_outside.Outside.{Outside}
use Rattle.machine_core.specs.obj_layout.Stored.{Space}
use Rattle.machine_core.specs.obj_layout.declared.reference.Reference.{Reference}
use Rattle.machine_core.specs.swizzle.Heap as area
use Rattle.machine_core.specs.swizzle.Touch.{Keeps}
use Rattle.machine_core.specs.heap_ops.Outcomes.{UnlessFault}
use Rattle.machine_core.specs.heap_texts.declared.fault.OpFault.{OpFault}
use Rattle.machine_core.specs.heap_texts.declared.fault.OpFault.TheVariants as op
use Rattle.machine_core.specs.ps_heap.Values.{Value, Num, Flag, Text, Nil, Pointer, Vector, Procedure, Nothing}
use Rattle.machine_core.specs.ps_stepping.Config.{Config}
use Rattle.machine_core.specs.ps_stepping.Steps.{Step, Stuck, on, pop_ref_of}
use Rattle.machine_core.specs.ps_stepping.Objects.{object_of, pop_object}
use Rattle.machine_core.specs.joint_ops.World.{DenotesIn}
use Rattle.machine_core.specs.declared.machine.Machine.{Machine}
use Rattle.machine_core.specs.declared.stepped.Stepped.{Stepped}
use Rattle.machine_core.specs.declared.stepped.Stepped.TheVariants.{Damaged}
use Rattle.machine_core.specs.Holding.{HeldBy, IsSound}
use Rattle.machine_core.specs.Naming.{NamesObjects}
use Rattle.machine_core.specs.Stepped.{Does, Takes, UnlessBroken}
use Rattle.machine_core.specs.inside.Taking.{Leaves}
use Rattle.machine_operands.proofs.Reading.{names-kept}
use Rattle.joint_tables.specs.Tables.{IsPntr}

-- the step is another one
pub does-as : (before after : Outside Space) (size : ℕ) (s t : Step) (r : Stepped) (m : Machine) → s ≡ t → Does before after size t r m → Does before after size s r m
does-as before after size s t r m same d = subst (λ (x : Step). Does before after size x r m) (sym same) d

-- what was denoted is so still where the objects stay
pub denotes-there : (old last : Machine) → last.objects ≡ old.objects → (out : Outside Space) (names : List Reference) (to : Option ℕ) (v : Value)
    → DenotesIn old.objects out names to v → DenotesIn last.objects out names to v
denotes-there old last same out names to v d = subst (λ (here : area.Heap). DenotesIn here out names to v) (sym same) d

module _ (before after : Outside Space) (of : Config → Step) (old last : Machine) (left : Leaves old last) where
  -- What is done after parts that left the objects is told of what the machine held before them.
  pub parts-taken : (new : Machine) (r : Stepped) → IsSound new → UnlessBroken r (NamesObjects new)
      → UnlessBroken r (new.objects.size ≡ last.objects.size)
      → ((names : List Reference) (c : Config) → HeldBy before names old c → Does before after last.objects.size (of c) r new) → Takes before after of old new r
  parts-taken new r sound names size does = record {
    sound = sound;
    names = λ n. names;
    size = subst (λ (here : area.Heap). UnlessBroken r (new.objects.size ≡ here.size)) left.objects size;
    does = λ c h. subst (λ (here : area.Heap). Does before after here.size (of c) r new) left.objects (does h.names c h.held);
  }

  -- what a call wants isn't there
  pub parts-stuck : ((names : List Reference) (c : Config) → HeldBy before names old c → of c ≡ Stuck) → Takes before after of old last Damaged
  parts-stuck stuck = record {
    sound = left.sound;
    names = left.names;
    size = ap (λ (here : area.Heap). here.size) left.objects;
    does = λ c h. stuck h.names c h.held;
  }

-- After an operation that reads, what the machine's words name stays in the area, and that keeps its size.
pub names-after : {T : Type 0} (m : Machine) (now : area.Heap) (got : Result T OpFault) → NamesObjects m → Keeps m.objects now
    → UnlessFault got (NamesObjects (record m { objects = now }))
names-after m now (Ok given) n keeps = names-kept m now keeps n
names-after m now (Err (op.Trap t)) n keeps = names-kept m now keeps n
names-after m now (Err (op.Swizzle fault)) n keeps = tt

pub size-after : {T : Type 0} (m : Machine) (now : area.Heap) (got : Result T OpFault) → Keeps m.objects now → UnlessFault got (now.size ≡ m.objects.size)
size-after m now (Ok given) keeps = keeps.size
size-after m now (Err (op.Trap t)) keeps = keeps.size
size-after m now (Err (op.Swizzle fault)) keeps = tt

-- what goes on with an object is only asked where there is nil or a structure
abbrev pub is-object : Value → Config → Step
is-object Nil c = on c
is-object (Pointer id) c = on c
is-object (Num z) c = Stuck
is-object (Flag b) c = Stuck
is-object (Text bytes) c = Stuck
is-object (Vector id) c = Stuck
is-object (Procedure does scope) c = Stuck
is-object Nothing c = Stuck

object-asked : (v : Value) (d : Config) → object_of v d is-object ≡ object_of v d (λ w e. on e)
object-asked Nil d = refl
object-asked (Pointer id) d = refl
object-asked (Num z) d = refl
object-asked (Flag b) d = refl
object-asked (Text bytes) d = refl
object-asked (Vector id) d = refl
object-asked (Procedure does scope) d = refl
object-asked Nothing d = refl

asked : (c : Config) → pop_object c is-object ≡ pop_object c (λ w e. on e)
asked c = of c.refs
  where
    of : (vs : List Value) → pop_ref_of vs c (λ v d. object_of v d is-object) ≡ pop_ref_of vs c (λ v d. object_of v d (λ w e. on e))
    of [] = refl
    of (v ∷ vs) = object-asked v _

-- What was popped as an object is of type pntr.
pub is-pntr : (c d : Config) (w : Value) → ((next : Value → Config → Step) → pop_object c next ≡ next w d) → IsPntr w
is-pntr c d w pops = by w (sym (pops is-object) ∙ asked c ∙ pops (λ w e. on e))
  where
    by : (w : Value) → is-object w d ≡ on d → IsPntr w
    by Nil e = tt
    by (Pointer id) e = tt
    by (Num z) e = absurd (cc)
    by (Flag b) e = absurd (cc)
    by (Text bytes) e = absurd (cc)
    by (Vector id) e = absurd (cc)
    by (Procedure does scope) e = absurd (cc)
    by Nothing e = absurd (cc)
