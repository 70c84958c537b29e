-- The operations on tables as the meaning has them, of an area and a vault together.
use Rattle.std.specs.Prelude.{◌≡◌, ◌⊎◌, ℕ, ◌+◌, ◌≤◌, ◌<◌, ℤ, true, false, Option, Some, None, Result, Ok, Err, List}
use Rattle.joint_ops.specs.ps_outside.Outside.{Outside}
use Rattle.joint_ops.specs.obj_layout.Stored.{Space}
use Rattle.joint_ops.specs.obj_layout.declared.kind.Kind.TheVariants as kind
use Rattle.joint_ops.specs.obj_layout.declared.reference.Reference.{Reference}
use Rattle.joint_ops.specs.swizzle.declared.fault.SwizzleFault.{SwizzleFault}
use Rattle.joint_ops.specs.swizzle.declared.fault.SwizzleFault.TheVariants.{AreaFull, Vault}
use Rattle.joint_ops.specs.swizzle.Heap as area
use Rattle.joint_ops.specs.swizzle.Heap.{IsListed, header_at, top_of}
use Rattle.joint_ops.specs.heap_texts.declared.fault.OpFault.{OpFault}
use Rattle.joint_ops.specs.heap_texts.declared.fault.OpFault.TheVariants as op
use Rattle.joint_ops.specs.ps_heap.Values.{Value, Text, Nil, Pointer, Num}
use Rattle.joint_ops.specs.ps_heap.Texts.{Attempt, Yields, Fails}
use Rattle.joint_ops.specs.ps_heap.Tables.{Key, string_key, int_key, cardinality, entered, looked_up, on_yield}
use Rattle.joint_ops.specs.ps_heap.Objects.{Heap, Keyed, table_of, id_of, object_of_value, value_of_object, with_object}
use Rattle.joint_ops.specs.ps_heap.Calls.{then_try}
use Rattle.joint_ops.specs.ps_heap.Scans.{Found, next_key, shown_key}
use Rattle.joint_ops.specs.World.{DenotesIn, Answers, BreaksOff, Carried, Stands}

-- What the meaning's operators give of what a value denotes: what is under a key, how many entries there are, and the heap with an entry.

abbrev pub under_key : Heap → Value → Key → Attempt (Option ℕ)
under_key of table key = then_try (table_of of table) (looked_up key)

abbrev pub entries_of : Heap → Value → Attempt ℕ
entries_of of table = on_yield (table_of of table) cardinality

abbrev pub with_entry : Heap → Value → Key → Value → Attempt Heap
with_entry of table key v =
    then_try (table_of of table) (λ t. on_yield (entered key (object_of_value v) t) (λ new. with_object of (id_of table) (Keyed new)))

-- a value of type pntr
abbrev pub IsPntr : Value → Type 0
IsPntr Nil = Unit {0}
IsPntr (Pointer id) = Unit {0}
IsPntr _ = ⊥

-- a text of the area, or none, is the last key that a scan had
abbrev pub IsLastText : area.Heap → Outside Space → List Reference → Option ℕ → Option Key → Type 0
IsLastText here outside names None None = Unit {0}
IsLastText here outside names (Some at) (Some (string_key bytes)) = DenotesIn here outside names (Some at) (Text bytes)
IsLastText here outside names _ _ = ⊥

-- an int, or none, is the last key
abbrev pub last_int_key : Option ℤ → Option Key
last_int_key None = None
last_int_key (Some z) = Some (int_key z)

-- the text of a key and the object under it, or none
abbrev pub AreFoundText : area.Heap → Outside Space → List Reference → Option (ℕ × ℕ) → Option Found → Type 0
AreFoundText here outside names None None = Unit {0}
AreFoundText here outside names (Some pair) (Some found) =
    DenotesIn here outside names (Some pair.0) (shown_key found.key) × DenotesIn here outside names (Some pair.1) (Pointer found.object)
AreFoundText here outside names _ _ = ⊥

-- an int key and the object under it, or none
abbrev pub AreFoundInt : area.Heap → Outside Space → List Reference → Option (ℤ × ℕ) → Option Found → Type 0
AreFoundInt here outside names None None = Unit {0}
AreFoundInt here outside names (Some pair) (Some found) =
    (shown_key found.key ≡ Num pair.0) × DenotesIn here outside names (Some pair.1) (Pointer found.object)
AreFoundInt here outside names _ _ = ⊥

-- there was no room for the 11 words of a node, in an area as touches left it
abbrev pub LacksNode : area.Heap → SwizzleFault → Type 0
LacksNode old (AreaFull top wanted size) = (top_of old ≤ top) × (size ≡ old.size) × (wanted ≡ 11) × (size < top + wanted)
LacksNode old (Vault fault) = ⊥

-- the table of the operand is noted as assigned
abbrev pub IsNotedTable : area.Heap → Option ℕ → Type 0
IsNotedTable here None = ⊥
IsNotedTable here (Some at) = IsListed at here.assigned

-- the operand is a table of the area
pub record NamesTable (here : area.Heap) (operand : Option ℕ) : Type 0 where
  pub at : ℕ
  pub is : operand ≡ Some at
  pub kind : (header_at here at).kind ≡ kind.Table

module _ (old new : area.Heap) (before after : Outside Space) where
  -- The object under a key is answered, nil where there is none.
  abbrev pub LooksUp : Heap → List Reference → Value → Key → Result (Option ℕ) OpFault → Type 0
  LooksUp of names table key result =
      Answers old new before after (λ to found. DenotesIn new after names to (value_of_object found)) of names (under_key of table key) result

  -- The least key above the last one is answered, or the least of all, with the object under it; or none.
  abbrev pub NextText : Heap → List Reference → Value → Option Key → Result (Option (ℕ × ℕ)) OpFault → Type 0
  NextText of names table last result = Answers old new before after (AreFoundText new after names) of names (next_key true of table last) result

  abbrev pub NextInt : Heap → List Reference → Value → Option Key → Result (Option (ℤ × ℕ)) OpFault → Type 0
  NextInt of names table last result = Answers old new before after (AreFoundInt new after names) of names (next_key false of table last) result

  -- An attempt to change a table: area and vault stand for the heap that it yields, and the table is noted as assigned; or it ends in its trap; or
  -- there was a fault, and nothing was written: an object couldn't be fetched, or there was no room for a node of what it yields.
  abbrev pub Changes : Heap → List Reference → Option ℕ → Attempt Heap → Result (Unit {0}) OpFault → Type 0
  Changes of names operand attempt (Ok done) =
      (later : Heap) × (attempt ≡ Yields later) × Carried old new before after later names × IsNotedTable new operand
  Changes of names operand attempt (Err (op.Trap t)) = (attempt ≡ Fails t) × Stands old new before after of names
  Changes of names operand attempt (Err (op.Swizzle fault)) =
      Carried old new before after of names × (BreaksOff old new before after fault ⊎ (LacksNode old fault × ((later : Heap) × (attempt ≡ Yields later))))

  -- A value is entered under a key, or the key is taken out where the value is nil.
  abbrev pub EntersKey : Heap → List Reference → Option ℕ → Value → Key → Value → Result (Unit {0}) OpFault → Type 0
  EntersKey of names operand table key v result = Changes of names operand (with_entry of table key v) result
