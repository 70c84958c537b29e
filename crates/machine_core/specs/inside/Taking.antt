-- What a part of an instruction takes from the machine.
use Rattle.std.specs.Prelude.{◌≡◌, ℕ, ℤ, true, false, List, [], ◌∷◌, Option, Some, None, IfSome}
use Rattle.joint_ops.specs.ps_outside.Outside.{Outside}
use Rattle.joint_ops.specs.obj_layout.Stored.{Space}
use Rattle.joint_ops.specs.obj_layout.declared.reference.Reference.{Reference}
use Rattle.joint_ops.specs.swizzle.Heap.{IsHeld}
use Rattle.ps_stepping.specs.ps_heap.Values.{Value}
use Rattle.ps_stepping.specs.Config.{Config}
use Rattle.ps_stepping.specs.Machine.{Step, Stuck, pop_two, is_num_slot, is_ref_slot}
use Rattle.machine_core.specs.declared.machine.Machine.{Machine}
use Rattle.machine_core.specs.declared.stepped.Stepped.{Stepped}
use Rattle.machine_core.specs.Stepped.{Does, UnlessBroken}
use Rattle.machine_core.specs.Holding.{Holds, HeldBy, IsSound, object_in}
use Rattle.machine_core.specs.Naming.{NamesObjects}
use Rattle.joint_ops.specs.World.{DenotesIn}

-- The objects and the values stay as they were, whatever the machine holds, and its words name objects of the area where they did.
pub record Leaves (old new : Machine) : Type 0 where
  pub sound : IsSound new
  pub objects : new.objects ≡ old.objects
  pub values : new.values ≡ old.values
  pub names : NamesObjects old → NamesObjects new

module _ (outside : Outside Space) where
  -- What follows gets the number that was taken and the configuration that the machine holds then; or nothing is there to take.
  abbrev pub Gives : {T : Type 0} → List Reference → ((T → Config → Step) → Step) → Option T → Machine → Type 0
  Gives {T} names taking None m = (next : T → Config → Step) → taking next ≡ Stuck
  Gives {T} names taking (Some t) m = (d : Config) × ((next : T → Config → Step) → taking next ≡ next t d) × HeldBy outside names m d

  -- And so with a reference: what follows gets a value that the word denotes.
  abbrev pub GivesRef : List Reference → ((Value → Config → Step) → Step) → Option ℕ → Machine → Type 0
  GivesRef names taking None m = (next : Value → Config → Step) → taking next ≡ Stuck
  GivesRef names taking (Some w) m =
      (d : Config) × (v : Value) × ((next : Value → Config → Step) → taking next ≡ next v d) × HeldBy outside names m d
      × DenotesIn m.objects outside names (object_in w) v

  pub record Taken {T : Type 0} (taking : Config → (T → Config → Step) → Step) (old new : Machine) (answer : Option T) : Type 0 where
    pub gives : (names : List Reference) (c : Config) → HeldBy outside names old c → Gives names (taking c) answer new

  pub record TakenRef (taking : Config → (Value → Config → Step) → Step) (old new : Machine) (answer : Option ℕ) : Type 0 where
    pub gives : (names : List Reference) (c : Config) → HeldBy outside names old c → GivesRef names (taking c) answer new

  -- the reference on top, and the value that it denotes
  abbrev pub HasTopRef : Machine → Config → Option ℕ → Type 0
  HasTopRef m c None = c.refs ≡ []
  HasTopRef m c (Some w) =
      (v : Value) × (rest : List Value) × (c.refs ≡ v ∷ rest) × (names : List Reference) × HeldBy outside names m c × DenotesIn m.objects outside names (object_in w) v

  -- a local among the references, where the frame has its slot
  abbrev pub ReadsRef : ℕ → Machine → Config → Option ℕ → Type 0
  ReadsRef slot m c None = is_ref_slot c slot ≡ false
  ReadsRef slot m c (Some w) =
      (is_ref_slot c slot ≡ true) × (names : List Reference) × HeldBy outside names m c × DenotesIn m.objects outside names (object_in w) (c.locals.refs slot)

  -- the machine holds the configuration that this makes of one that it held
  pub record Becomes (of : Config → Config) (old new : Machine) : Type 0 where
    pub holds : (c : Config) → Holds outside old c → Holds outside new (of c)

module _ (before after : Outside Space) where
  -- The function's step after the pop of two numbers is what was answered.
  pub record TakesTwo (of : Config → Step) (old new : Machine) (answer : Stepped) : Type 0 where
    pub sound : IsSound new
    pub names : NamesObjects old → UnlessBroken answer (NamesObjects new)
    pub size : UnlessBroken answer (new.objects.size ≡ old.objects.size)
    pub does : (c : Config) (a b : ℤ) (rest : List ℤ) → Holds before old c → c.nums ≡ b ∷ a ∷ rest
        → Does before after old.objects.size (of (record c { nums = rest })) answer new

  -- What follows a reference that denotes a value is what was answered.
  pub record TakesRef (of : Value → Config → Step) (old : Machine) (to : Option ℕ) (new : Machine) (answer : Stepped) : Type 0 where
    pub sound : IsSound new
    pub names : NamesObjects old → IfSome to (IsHeld old.objects) → UnlessBroken answer (NamesObjects new)
    pub size : UnlessBroken answer (new.objects.size ≡ old.objects.size)
    pub does : (names : List Reference) (v : Value) (c : Config) → HeldBy before names old c → DenotesIn old.objects before names to v
        → Does before after old.objects.size (of v c) answer new

-- the two numbers on top, the left operand first, or there aren't two
abbrev pub HasTwo : Config → Option (ℤ × ℤ) → Type 0
HasTwo c None = (next : ℤ → ℤ → Config → Step) → pop_two c next ≡ Stuck
HasTwo c (Some p) = (rest : List ℤ) × (c.nums ≡ p.1 ∷ p.0 ∷ rest)

-- the number on top of those pushed, or none is
abbrev pub HasTop : Config → Option ℤ → Type 0
HasTop c None = c.nums ≡ []
HasTop c (Some z) = (rest : List ℤ) × (c.nums ≡ z ∷ rest)

-- a local among the numbers, where the frame has its slot
abbrev pub ReadsNum : ℕ → Config → Option ℤ → Type 0
ReadsNum slot c None = is_num_slot c slot ≡ false
ReadsNum slot c (Some z) = (is_num_slot c slot ≡ true) × (c.locals.nums slot ≡ z)
