-- The parts of a scan.
use Rattle.std.specs.Prelude.{◌≡◌, ℕ, ◌+◌, ◌<◌, ℤ, Bool, true, List, [], Option, Some, None, if◌then◌else◌}
use Rattle.machine_core.specs.ps_outside.Outside.{Outside}
use Rattle.machine_core.specs.obj_layout.Stored.{Space}
use Rattle.machine_core.specs.obj_layout.declared.reference.Reference.{Reference}
use Rattle.machine_core.specs.swizzle.Heap as area
use Rattle.machine_core.specs.ps_heap.Scans.{Found, next_key, shown_key}
use Rattle.machine_core.specs.ps_heap.Tables.{Key, string_key}
use Rattle.machine_core.specs.ps_heap.Values.{Value, Text, bytes_of, is_one}
use Rattle.machine_core.specs.ps_stepping.Config.{Config}
use Rattle.machine_core.specs.ps_stepping.Steps.{Step, Stuck, attempted, is_num_slot, on, with_num}
use Rattle.machine_core.specs.ps_stepping.Jumps.{back}
use Rattle.machine_core.specs.ps_stepping.Scans.{called_with, last_of, one_more, scan_found, scan_on}
use Rattle.machine_core.specs.joint_ops.World.{DenotesIn}
use Rattle.machine_core.specs.declared.machine.Machine.{Machine}
use Rattle.joint_tables.specs.Tables.{AreFoundInt, AreFoundText, IsLastText, last_int_key}
use Rattle.joint_tables.specs.table_lib.table_nodes.Sought.{IsTextHeld}
use Rattle.machine_tables.specs.declared.last.LastString.{LastString}
use Rattle.machine_tables.specs.declared.last.LastString.TheVariants as last
use Rattle.machine_tables.specs.declared.scan.Scan.{Scan}

-- The three locals of each kind are locals of the frame.
pub record HasLocals (m : Machine) (scan : Scan) : Type 0 where
  pub refs : scan.refs + 2 < m.frame.refs
  pub nums : scan.nums + 2 < m.frame.nums

-- The key that was the last is no text: then the empty string stands for it.
abbrev pub IsLastString : area.Heap → Outside Space → List Reference → LastString → Option Key → Type 0
IsLastString here outside names last.None key = key ≡ None
IsLastString here outside names (last.Text at) key = (bytes : List ℕ) × (key ≡ Some (string_key bytes)) × DenotesIn here outside names (Some at) (Text bytes)
IsLastString here outside names last.Empty key = key ≡ Some (string_key [])

abbrev pub IsHeldLast : area.Heap → LastString → Type 0
IsHeldLast here last.None = Unit {0}
IsHeldLast here (last.Text at) = IsTextHeld here at
IsHeldLast here last.Empty = Unit {0}

-- a value is this text of the area, or none
abbrev pub HasText : Outside Space → Machine → List Reference → Value → Option ℕ → Type 0
HasText outside m names v None = bytes_of v ≡ []
HasText outside m names v (Some at) = (bytes : List ℕ) × (v ≡ Text bytes) × DenotesIn m.objects outside names (Some at) (Text bytes)

module _ (strings : Bool) (scan : Scan) where
  -- what a scan does with what was found
  abbrev pub goes_on_with : Option Found → Config → Step
  goes_on_with found c = scan_found strings scan.own scan.refs scan.nums scan.end scan.line found c

  -- and with a pair, where it isn't one too many
  abbrev pub hands_over : Found → Config → Step
  hands_over found c = called_with strings scan.refs scan.nums (shown_key found.key) found.object c

  -- what it does after a key in a table
  abbrev pub goes_after : Option Key → Value → Config → Step
  goes_after key table c = attempted scan.line (next_key strings c.store.held.objects table key) (λ found. goes_on_with found c)

-- a table, and the last key of a scan of it
pub record TableAndKey : Type 0 where
  pub table : Value
  pub key : Option Key

-- what a scan does after such a key
abbrev pub goes_after_key : Bool → Scan → TableAndKey → Config → Step
goes_after_key strings scan of c = goes_after strings scan of.key of.table c

-- and after the empty string
abbrev pub after_empty : Scan → Value → Config → Step
after_empty scan table c = goes_after true scan (Some (string_key [])) table c

-- what follows what the procedure answered
abbrev pub call_counted : ℕ → ℕ → ℕ → ℤ → Config → Step
call_counted own slot to more c =
    if is_num_slot c (slot + 2) then
    (if is_one more then back own to (with_num c slot (one_more (c.locals.nums slot))) else on (with_num c slot (one_more (c.locals.nums slot)))) else Stuck

module _ (here : area.Heap) (outside : Outside Space) where
  pub record AreTableAndInt (table : Option ℕ) (after : Option ℤ) (names : List Reference) (of : TableAndKey) : Type 0 where
    pub table_is : DenotesIn here outside names table of.table
    pub key_is : last_int_key after ≡ of.key

  pub record AreTableAndText (table after : Option ℕ) (names : List Reference) (of : TableAndKey) : Type 0 where
    pub table_is : DenotesIn here outside names table of.table
    pub key_is : IsLastText here outside names after of.key

  -- A key that was found, and the object under it.
  pub record IsFoundText (key object : ℕ) (names : List Reference) (of : Found) : Type 0 where
    pub is : AreFoundText here outside names (Some (key, object)) (Some of)

  pub record IsFoundInt (key : ℤ) (object : ℕ) (names : List Reference) (of : Found) : Type 0 where
    pub is : AreFoundInt here outside names (Some (key, object)) (Some of)

-- The table of a scan and whether there is one: a scan goes on in what its first local denotes; or it is stuck.
module _ (outside : Outside Space) (m : Machine) (scan : Scan) (names : List Reference) (c : Config) where
  abbrev pub ReadsTable : Option (Option ℕ) → Type 0
  ReadsTable None = (strings : Bool) → scan_on strings scan.own scan.refs scan.nums scan.end scan.line c ≡ Stuck
  ReadsTable (Some to) =
      (table : Value) × DenotesIn m.objects outside names to table
      × ((strings : Bool) → scan_on strings scan.own scan.refs scan.nums scan.end scan.line c
      ≡ goes_after strings scan (last_of strings scan.refs scan.nums c) table c)
