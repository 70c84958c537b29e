-- Which call on databases an instruction is.
use Rattle.std.specs.Prelude.{◌≡◌, true, Option, Some, None}
use Rattle.ps_base.specs.declared.line.Line.{Line}
use Rattle.ps_base.specs.declared.instr.Instr.{Instr}
use Rattle.ps_base.specs.declared.instr.Instr.TheVariants.{Lib}
use Rattle.machine_core.specs.ps_stepping.Plain.{is_plain}
use Rattle.session_run.specs.declared.calls.DatabaseCall.{DatabaseCall}
use Rattle.session_run.specs.declared.calls.DatabaseCall.TheVariants.{Create, Open, Commit}

abbrev pub IsCall : Instr → Option DatabaseCall → Type 0
IsCall i None = is_plain i ≡ true
IsCall i (Some Create) = (line : Line) × (i ≡ Lib 0 line)
IsCall i (Some Open) = (line : Line) × (i ≡ Lib 1 line)
IsCall i (Some Commit) = (line : Line) × (i ≡ Lib 2 line)
