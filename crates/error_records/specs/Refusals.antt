-- Which call is refused, and why, as the meaning has them.
use Rattle.std.specs.Prelude.{ℕ, List, codes}
use Rattle.joint_held.specs.joint_ops.ps_heap.Databases.{Fault}
use Rattle.joint_held.specs.joint_ops.ps_heap.Databases as meant
use Rattle.joint_held.specs.db_dir.Answers.{fault_of}
use Rattle.error_records.specs.declared.refusals.Call.{Call}
use Rattle.error_records.specs.declared.refusals.Call.TheVariants as call
use Rattle.error_records.specs.declared.refusals.Refusal.{Refusal}
use Rattle.error_records.specs.declared.refusals.Refusal.TheVariants as refusal

-- the name of a call is the context of its error records
abbrev pub context_of : Call → List ℕ
context_of call.Create = codes "create.database"
context_of call.Open = codes "open.database"
context_of call.Commit = codes "commit"

abbrev pub fault_by : Refusal → Fault
fault_by (refusal.Directory fault) = fault_of fault
fault_by refusal.NotWritable = meant.NotWritable
fault_by refusal.BusyWriter = meant.BusyWriter
fault_by refusal.StaleStart = meant.StaleStart
