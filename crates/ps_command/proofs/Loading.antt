-- The unit of a program that can be run is loaded itself, or there is no room for it.
use Rattle.std.proofs.Common.{◌≡◌, ℕ, ◌+◌, ◌*◌, ◌≤◌, List, refl, sym, ap, subst, arith}
use Rattle.std.specs.Prelude.{Result, Ok, Err}
use Rattle.ps_base.specs.CodeUnit.{UnitView, unit_view}
use Rattle.ps_base.specs.declared.code_unit.CodeUnit.{CodeUnit}
use Rattle.ps_port.specs.ps_outside.Outside.{Outside}
use Rattle.machine_run.specs.obj_layout.Stored.{Space}
use Rattle.ps_unit_weights.specs.proc_values.Units.{unit_objects, unit_words}
use Rattle.ps_unit_weights.proofs.Weighing.{unit_weighs}
use Rattle.ps_unit_weights.proofs.UnitWords.{unit_is}
use Rattle.ps_program.specs.Node.{BodyNode, body}
use Rattle.ps_program.specs.Slots.{slot_count}
use Rattle.ps_causes.specs.ps_typing.WellTyped.{IsWellTyped}
use Rattle.ps_code_laws.specs.ps_typing_laws.Counted.{IsCounted}
use Rattle.ps_code_laws.proofs.of_ps_typing_laws.Tracked.{program_counted}
use Rattle.ps_causes.specs.ps_heap.Weights.{code_weight}
use Rattle.ps_unit_weights.specs.ps_gen.Units.{unit_of, frame_of}
use Rattle.ps_code_laws.specs.ps_stepping.Config.{frame_in}
use Rattle.machine_run.specs.swizzle.declared.fault.SwizzleFault.{SwizzleFault}
use Rattle.machine_run.specs.machine_core.declared.machine.Machine.{Machine}
use Rattle.machine_run.specs.Loaded.{IsFrame, IsLoaded, EndsBefore, HasNoRoom, RunsAs, itself, LoadsUnit, Loads}
use Rattle.machine_run.specs.Loaded as load
use Rattle.ps_command.specs.inside.Steps.{IsRunnable}
use Rattle.ps_command.proofs.Programs.{first_fits}

-- the frame of a program that can be run is none that a machine refuses
frame_is : (program : BodyNode) → IsCounted program → slot_count program ≤ 512 → IsFrame (frame_of program)
frame_is (body params gives tree scope line) counted fits = let room = counted.room in record { nums_fit = omega arith; refs_fit = omega arith }

first_counted : (program : BodyNode) → IsWellTyped program → IsCounted program
first_counted (body params gives tree scope line) typed = (program_counted (body params gives tree scope line) typed).0

frame_in_unit : (program : BodyNode) → frame_in (unit_of program) ≡ frame_of program
frame_in_unit (body params gives tree scope line) = refl

has_frame : (unit : CodeUnit) (program : BodyNode) → IsRunnable unit program → IsFrame (frame_in (unit_view unit))
has_frame unit program r =
    subst (λ (u : UnitView). IsFrame (frame_in u)) (sym r.unit_is) (subst IsFrame (sym (frame_in_unit program)) (frame_is program (first_counted program r.typed) (first_fits program r.simple)))

-- a unit whose frame fits is loaded itself
itself_run : (u run : UnitView) → IsFrame (frame_in u) → RunsAs u run → run ≡ u
itself_run u run fits (itself is) = refl
itself_run u run fits (load.damaged is_too_large) = absurd (is_too_large fits)

loads_itself : (outside : Outside Space) (u : UnitView) (turns : ℕ) (input : List ℕ) (old new : Machine) (answer : Result (Unit {0}) SwizzleFault)
    → IsFrame (frame_in u) → Loads outside u turns input old new answer → LoadsUnit outside u turns input old new answer
loads_itself outside u turns input old new answer fits l =
    subst (λ (run : UnitView). LoadsUnit outside run turns input old new answer) (itself_run u l.run fits l.chosen) l.loads

loads-program : (outside : Outside Space) (unit : CodeUnit) (program : BodyNode) (turns : ℕ) (input : List ℕ) (old new : Machine) (answer : Result (Unit {0}) SwizzleFault)
    → IsRunnable unit program → Loads outside (unit_view unit) turns input old new answer → LoadsUnit outside (unit_of program) turns input old new answer
loads-program outside unit program turns input old new answer r l =
    subst (λ (u : UnitView). LoadsUnit outside u turns input old new answer) r.unit_is
    (loads_itself outside (unit_view unit) turns input old new answer (has_frame unit program r) l)

-- where there is no room for the unit its objects end within what is counted for the code
pub within-code : (program : BodyNode) (old new : Machine) (fault : SwizzleFault) (lacks : HasNoRoom (unit_of program) old new fault) → 8 * (lacks.top + lacks.wanted) ≤ code_weight program
within-code program old new fault lacks = let words = unit_is (unit_of program) in let most = unit_weighs program in let within = lacks.within in omega (arith, words, most, within)

pub loaded-ok : (outside : Outside Space) (unit : CodeUnit) (program : BodyNode) (turns : ℕ) (input : List ℕ) (old new : Machine) (answer : Result (Unit {0}) SwizzleFault) (done : Unit {0})
    → IsRunnable unit program → Loads outside (unit_view unit) turns input old new answer → answer ≡ Ok done → IsLoaded outside (unit_of program) turns input old new
loaded-ok outside unit program turns input old new answer done r l is =
    subst (λ (a : Result (Unit {0}) SwizzleFault). LoadsUnit outside (unit_of program) turns input old new a) is (loads-program outside unit program turns input old new answer r l)

pub loaded-err : (outside : Outside Space) (unit : CodeUnit) (program : BodyNode) (turns : ℕ) (input : List ℕ) (old new : Machine) (answer : Result (Unit {0}) SwizzleFault) (fault : SwizzleFault)
    → IsRunnable unit program → Loads outside (unit_view unit) turns input old new answer → answer ≡ Err fault → HasNoRoom (unit_of program) old new fault
loaded-err outside unit program turns input old new answer fault r l is =
    subst (λ (a : Result (Unit {0}) SwizzleFault). LoadsUnit outside (unit_of program) turns input old new a) is (loads-program outside unit program turns input old new answer r l)
