-- What stays where texts and tables are made.
use Rattle.std.proofs.Common.{ℕ, List, Option, Some, None, Result, Ok, Err, ap, ◌∙◌}
use Rattle.std.specs.Prelude.{IfSome}
use Rattle.db_dir.specs.joint_ops.swizzle.declared.fault.SwizzleFault.{SwizzleFault}
use Rattle.db_dir.specs.joint_ops.obj_layout.declared.kind.Kind.TheVariants.{Table}
use Rattle.db_dir.specs.joint_ops.swizzle.Objects.{Object}
use Rattle.db_dir.specs.joint_ops.swizzle.Heap.{Heap, IsMade, Stands, blank}
use Rattle.db_dir.specs.joint_ops.heap_texts.Texts.{MakesText, HoldsText}
use Rattle.db_dir.specs.Directories.{IsShaped}
use Rattle.dir_tests.specs.Tables.{HoldsTable}
use Rattle.db_dir.proofs.of_swizzle.MadeLaws.{made-held, made-object}
use Rattle.db_dir.proofs.of_swizzle.StandLaws.{stands-new, stands-same}
use Rattle.db_dir.proofs.ShapeLaws.{shaped-stands}

pub made-stands : (old new : Heap) (bytes : List ℕ) (result : Result ℕ SwizzleFault) → MakesText old new bytes result → Stands old new
made-stands old new bytes (Ok at) m = stands-new old new _ m.made
made-stands old new bytes (Err fault) m = stands-same old new m.stays

pub text-stands : (old new : Heap) (at : ℕ) → Stands old new → HoldsText old at → HoldsText new at
text-stands old new at stands t = let stand = stands at t.held in record { held = stand.held; kind = stand.kind ∙ t.kind }

pub directory-stands : (old new : Heap) (directory : Option ℕ) → Stands old new → IfSome directory (IsShaped old) → IfSome directory (IsShaped new)
directory-stands old new None stands s = s
directory-stands old new (Some at) stands s = shaped-stands old new at stands s

-- a table that was made is one
pub table-made : (old new : Heap) (at : ℕ) → IsMade old new at (blank Table 1 3 0) → HoldsTable new at
table-made old new at m = record { held = made-held old new at _ m; kind = ap (λ (o : Object). o.header.kind) (made-object old new at _ m) }
