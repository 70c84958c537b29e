-- The text constants of the code that a machine runs, and what a machine still stands for after an operation that read.
use Rattle.std.proofs.Common.{◌≡◌, ℕ, zero, suc, List, Option, Some, None, inl, inr, refl, sym, ap, ◌∙◌, subst}
use Rattle.std.specs.Prelude.{IfSome, Result, Ok, Err}
use Rattle.ps_base.specs.CodeUnit.{UnitView, unit, ConstantView, ConstantsView, no_constants, constant_then}
use Rattle.ps_base.specs.declared.code_unit.Frame.{Frame}
use Rattle.machine_core.specs.ps_outside.Outside.{Outside}
use Rattle.machine_core.specs.obj_layout.Stored.{Space}
use Rattle.machine_core.specs.obj_layout.declared.reference.Reference.{Reference}
use Rattle.machine_core.specs.swizzle.Heap as area
use Rattle.machine_core.specs.swizzle.Heap.{IsHeld, Stands as AllStand}
use Rattle.machine_core.specs.swizzle.Touch.{Keeps}
use Rattle.machine_core.specs.swizzle.declared.fault.SwizzleFault.{SwizzleFault}
use Rattle.machine_core.specs.proc_values.Loaded.{constant_numbered}
use Rattle.machine_core.specs.ps_heap.Values.{Value}
use Rattle.machine_core.specs.ps_heap.Objects.{Heap}
use Rattle.machine_core.specs.ps_stepping.Config.{Config, constants_in, constant_at}
use Rattle.machine_core.specs.ps_stepping.Steps.{Step, Stuck, text_in, with_text}
use Rattle.machine_core.specs.joint_ops.World.{DenotesIn, IsUnitIn, Stands}
use Rattle.machine_core.specs.joint_ops.Code.{StandsBy}
use Rattle.joint_procedures.specs.Units.{AnswersText}
use Rattle.machine_core.specs.declared.machine.Machine.{Machine}
use Rattle.machine_core.specs.declared.stepped.Stepped.{Stepped}
use Rattle.machine_core.specs.declared.stepped.Stepped.TheVariants.{Quiet, Turns, Writes, Halts, Breaks, Damaged}
use Rattle.machine_core.specs.Holding.{HeldBy, IsSound, words_of, world_in}
use Rattle.machine_core.specs.Naming.{NamesObjects}
use Rattle.machine_core.specs.Stepped.{Does, UnlessBroken}
use Rattle.machine_core.proofs.Carrying.{read-holds, sound-kept}
use Rattle.machine_core.proofs.of_heap_ops.ClassLaws.{stands-kept}
use Rattle.machine_core.proofs.Naming.{names-last}
use Rattle.machine_operands.specs.Constants.{EndsReading, ReadsConstant, Refetched, StillHolds, UnlessBrokenOff}
use Rattle.machine_operands.specs.Giving.{BreaksWith}

-- An operation that leaves objects as they were leaves them where they are: what a machine's words name stays in its area.
pub names-kept : (m : Machine) (now : area.Heap) → Keeps m.objects now → NamesObjects m → NamesObjects (record m { objects = now })
names-kept m now keeps n = names-last m.objects now (stands-kept m.objects now keeps) (words_of m) m.writing.item n

-- so it stays in it where all objects stay, whatever was written to them
pub names-stand : (m : Machine) (now : area.Heap) → AllStand m.objects now → NamesObjects m → NamesObjects (record m { objects = now })
names-stand m now stand n = names-last m.objects now stand (words_of m) m.writing.item n

-- the constant of a number is the same as code and machine tell it
pub same-constant : (cs : ConstantsView) (k : ℕ) → constant_at cs k ≡ constant_numbered cs k
same-constant no_constants k = refl
same-constant (constant_then c cs) zero = refl
same-constant (constant_then c cs) (suc k) = same-constant cs k

-- the code object that runs is that of the configuration's unit, by its parts
pub unit-parts : {P : ConstantsView → Type 0} (here : area.Heap) (outside : Outside Space) (code : ℕ) (u : UnitView)
    → ((bytes : List ℕ) (row : ConstantsView) (frame : Frame) → IsUnitIn here outside code (unit bytes row frame) → P row) → IsUnitIn here outside code u
    → P (constants_in u)
unit-parts here outside code (unit bytes row frame) of is = of bytes row frame is

module _ (before after : Outside Space) (m : Machine) (now : area.Heap) where
  -- after an operation that read, the machine still stands for the configuration
  pub still-holds : (names : List Reference) (c : Config) → HeldBy before names m c → Stands m.objects now before after c.store.held.objects names
      → StillHolds before after names c m (record m { objects = now })
  still-holds names c h s = record { held = read-holds m.objects now before after names (words_of m) c h s; carries = s.carries }

  module _ (k : ℕ) where
    abbrev Given : Result (Option ℕ) SwizzleFault → Type 0
    Given r = (bytes : List ℕ) (row : ConstantsView) (frame : Frame) → IsUnitIn m.objects before m.code (unit bytes row frame)
        → AnswersText m.objects now before after m.code row k r

    given-of : (r : Result (Option ℕ) SwizzleFault) → Given r → (c : Config) (names : List Reference) → HeldBy before names m c
        → AnswersText m.objects now before after m.code (constants_in c.unit) k r
    given-of r g c names h = unit-parts {P = λ row. AnswersText m.objects now before after m.code row k r} m.objects before m.code c.unit g h.unit_is

    pub constant-read : (at : ℕ) → Given (Ok (Some at))
        → StandsBy m.objects now before after m.code
        → ReadsConstant before after k m (record m { objects = now }) (Ok at)
    constant-read at g kept = record {
      gives = λ names c h.
          let a = given-of (Ok (Some at)) g c names h in
          (a.0, same-constant (constants_in c.unit) k ∙ a.1, still-holds names c h (kept c.unit h.unit_is c.store.held.objects names (world_in h.run)), a.2 names);
    }

    pub constant-none : Given (Ok None) → ReadsConstant before after k m (record m { objects = now }) (Err Damaged)
    constant-none g = record {
      gives = λ names c h next.
          let a = given-of (Ok None) g c names h in
          ap (λ (o : Option ConstantView). text_in o next) (same-constant (constants_in c.unit) k ∙ a.1);
    }

    pub constant-broken : (new : Machine) (r : Stepped) (fault : SwizzleFault) → Given (Err fault) → BreaksWith before after (record m { objects = now }) new r fault
        → ReadsConstant before after k m new (Err r)
    constant-broken new r fault g b = record { gives = λ names c h next. of c next (given-of (Err fault) g c names h) }
      where
        of : (c : Config) (next : List ℕ → Step) → AnswersText m.objects now before after m.code (constants_in c.unit) k (Err fault)
            → Does before after m.objects.size (with_text k c next) r new
        of c next (inl a) =
            b.damaged m.objects m.code (with_text k c next) (ap (λ (o : Option ConstantView). text_in o next) (same-constant (constants_in c.unit) k ∙ a.0)) a.1
        of c next (inr a) = b.off m.objects (with_text k c next) a.2

-- how it is kept
module _ (m : Machine) (now : area.Heap) (sound : IsSound m) where
  pub refetched : Keeps m.objects now → Refetched m (record m { objects = now })
  refetched keeps = record { is = refl; keeps = keeps }

  pub reading-ends : {T : Type 0} (answer : Result T Stepped) → NamesObjects m → Keeps m.objects now → EndsReading m (record m { objects = now }) answer
  reading-ends answer n keeps = record {
    sound = sound-kept m now sound;
    names = unless answer (NamesObjects (record m { objects = now })) (names-kept m now keeps n);
    size = unless answer (now.size ≡ m.objects.size) keeps.size;
  }
    where
      unbroken : (r : Stepped) (P : Type 0) → P → UnlessBroken r P
      unbroken Quiet P p = p
      unbroken Turns P p = p
      unbroken Writes P p = p
      unbroken Halts P p = p
      unbroken Breaks P p = tt
      unbroken Damaged P p = p

      unless : {T : Type 0} (answer : Result T Stepped) (P : Type 0) → P → UnlessBrokenOff answer P
      unless (Ok given) P p = p
      unless (Err r) P p = unbroken r P p

-- it broke off
pub broken-ends : {T : Type 0} (m new : Machine) (r : Stepped) → r ≡ Breaks → IsSound new → EndsReading {T = T} m new (Err r)
broken-ends {T} m new r breaks sound = record {
  sound = sound;
  names = subst (λ (x : Stepped). UnlessBroken x (NamesObjects new)) (sym breaks) tt;
  size = subst (λ (x : Stepped). UnlessBroken x (new.objects.size ≡ m.objects.size)) (sym breaks) tt;
}
