-- What stands on the stacks for a call on a table, and what follows once it was popped.
use Rattle.std.specs.Prelude.{◌≡◌, ℕ, ℤ, List, [], ◌∷◌, Option, Some}
use Rattle.ps_base.specs.declared.line.Line.{Line}
use Rattle.machine_core.specs.ps_outside.Outside.{Outside}
use Rattle.machine_core.specs.obj_layout.Stored.{Space}
use Rattle.machine_core.specs.obj_layout.declared.reference.Reference.{Reference}
use Rattle.machine_core.specs.swizzle.Heap as area
use Rattle.machine_core.specs.ps_heap.Values.{Value, Num, Text}
use Rattle.machine_core.specs.ps_heap.Library.{EnterString, LookUpString, EnterInt, LookUpInt}
use Rattle.machine_core.specs.ps_stepping.Config.{Config}
use Rattle.machine_core.specs.ps_stepping.Steps.{Step}
use Rattle.machine_core.specs.ps_stepping.Library.{answered_by, gives_nothing, gives_ref}
use Rattle.machine_core.specs.joint_ops.World.{DenotesIn}
use Rattle.machine_core.specs.declared.machine.Machine.{Machine}
use Rattle.machine_core.specs.declared.stepped.Stepped.{Stepped}
use Rattle.machine_core.specs.Holding.{HeldBy, IsSound}
use Rattle.machine_core.specs.Naming.{NamesObjects}
use Rattle.machine_core.specs.Stepped.{Does, UnlessBroken}
use Rattle.joint_tables.specs.Tables.{IsPntr}

-- The operands of a call, as what the machine popped denotes them: a string and a table, or these and what is entered; and so with an int, which is known.
pub record StringAndTable : Type 0 where
  pub bytes : List ℕ
  pub table : Value

pub record TableAndEntry : Type 0 where
  pub table : Value
  pub entry : Value

pub record StringTableEntry : Type 0 where
  pub bytes : List ℕ
  pub table : Value
  pub entry : Value

module _ (here : area.Heap) (outside : Outside Space) where
  pub record AreStringAndTable (key : ℕ) (table : Option ℕ) (names : List Reference) (of : StringAndTable) : Type 0 where
    pub key_is : DenotesIn here outside names (Some key) (Text of.bytes)
    pub table_is : DenotesIn here outside names table of.table

  pub record IsTable (table : Option ℕ) (names : List Reference) (of : Value) : Type 0 where
    pub table_is : DenotesIn here outside names table of

  pub record AreTableAndEntry (table to : Option ℕ) (names : List Reference) (of : TableAndEntry) : Type 0 where
    pub table_is : DenotesIn here outside names table of.table
    pub entry_is : DenotesIn here outside names to of.entry
    pub is_pntr : IsPntr of.entry

  pub record AreStringTableEntry (key : ℕ) (table to : Option ℕ) (names : List Reference) (of : StringTableEntry) : Type 0 where
    pub key_is : DenotesIn here outside names (Some key) (Text of.bytes)
    pub table_is : DenotesIn here outside names table of.table
    pub entry_is : DenotesIn here outside names to of.entry
    pub is_pntr : IsPntr of.entry

-- What is looked up and entered then.
abbrev pub string_looked_up : Line → StringAndTable → Config → Step
string_looked_up line of c = answered_by LookUpString line gives_ref (Text of.bytes ∷ of.table ∷ []) c

abbrev pub int_looked_up : Line → ℤ → Value → Config → Step
int_looked_up line key table c = answered_by LookUpInt line gives_ref (Num key ∷ table ∷ []) c

abbrev pub string_entered : Line → StringTableEntry → Config → Step
string_entered line of c = answered_by EnterString line gives_nothing (Text of.bytes ∷ of.table ∷ of.entry ∷ []) c

abbrev pub int_entered : Line → ℤ → TableAndEntry → Config → Step
int_entered line key of c = answered_by EnterInt line gives_nothing (Num key ∷ of.table ∷ of.entry ∷ []) c

-- From each configuration that the machine holds, and for all operands that it denotes, what follows them is what was answered.
module _ (before after : Outside Space) where
  pub record Follows {A : Type 0} (denotes : List Reference → A → Type 0) (of : A → Config → Step) (old new : Machine) (answer : Stepped) : Type 0 where
    pub sound : IsSound new
    pub names : UnlessBroken answer (NamesObjects new)
    pub size : UnlessBroken answer (new.objects.size ≡ old.objects.size)
    pub does : (names : List Reference) (c : Config) (a : A) → HeldBy before names old c → denotes names a → Does before after old.objects.size (of a c) answer new
