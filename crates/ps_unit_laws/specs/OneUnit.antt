-- Which unit a body has, and what is within the limits of one.
use Rattle.std.specs.Prelude.{◌≡◌, ◌<◌, ◌≤◌, ◌^◌, true, false, length}
use Rattle.std.specs.List.{AllByRecursion}
use Rattle.ps_gen.specs.ps_base.Limits.{most_slots}
use Rattle.ps_gen.specs.ps_base.CodeUnit.{UnitView}
use Rattle.ps_gen.specs.ps_base.Instr.{spelled}
use Rattle.ps_gen.specs.ps_program.Node.{BodyNode}
use Rattle.ps_gen.specs.ps_program.Slots.{slot_count}
use Rattle.ps_typing_laws.specs.ps_typing.Program.{bodies}
use Rattle.ps_typing_laws.specs.ps_typing.Locals.{locals_on}
use Rattle.ps_gen.specs.Units.{instrs_of, unit_of, HasUnit}
use Rattle.ps_unit_laws.specs.Fields.{BodyFieldsFit}

-- the locals of a body on each stack are no more than its slots may be
abbrev pub HasFrame : BodyNode → Type 0
HasFrame of = (locals_on true of ≤ most_slots) × (locals_on false of ≤ most_slots)

-- A body has this unit: its instructions and those of the literals in it can be spelled, and each has a frame.
pub record IsUnitOf (of : BodyNode) (made : UnitView) : Type 0 where
  pub is : made ≡ unit_of of
  pub spelled_out : AllByRecursion HasUnit (bodies of)
  pub framed : AllByRecursion HasFrame (bodies of)

-- a body is within the limits of a unit: its slots are few, its numbers have 32 bits, and its own code has fewer than 2^32 bytes
pub record IsWithinLimits (of : BodyNode) : Type 0 where
  pub slots : slot_count of ≤ most_slots
  pub fields : BodyFieldsFit of
  pub bytes : length (spelled (instrs_of of)) < 2 ^ 32
