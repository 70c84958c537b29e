-- A program that can be run, and its input.
use Rattle.std.specs.Prelude.{◌≡◌, List, [], ℕ, Option, Some, None}
use Rattle.std.specs.List.{AllByRecursion}
use Rattle.ps_base.specs.CodeUnit.{unit_view}
use Rattle.ps_base.specs.declared.code_unit.CodeUnit.{CodeUnit}
use Rattle.ps_program.specs.Node.{BodyNode}
use Rattle.ps_causes.specs.ps_typing.Program.{bodies, first_complex}
use Rattle.ps_causes.specs.ps_typing.WellTyped.{IsWellTyped}
use Rattle.fit_soundness.specs.Laws.{IsChecked}
use Rattle.ps_unit_weights.specs.ps_gen.Units.{unit_of, HasUnit}
use Rattle.ps_causes.specs.ps_args.Words.{RunOf}
use Rattle.ps_causes.specs.Command.{GivesProgram, GivesInput}
use Rattle.ps_causes.specs.Steps.{UnreadWhy}

-- This unit is that of a program that can be run: one that passes the check and so is well typed, each of whose bodies has slots enough and a unit.
pub record IsRunnable (unit : CodeUnit) (program : BodyNode) : Type 0 where
  pub checked : IsChecked program
  pub typed : IsWellTyped program
  pub simple : first_complex (bodies program) ≡ None
  pub units : AllByRecursion HasUnit (bodies program)
  pub unit_is : unit_view unit ≡ unit_of program

-- What was prepared is of the program and the input of a run, as the shelf gives them.
pub record IsPrepared (holds : List ℕ → List ℕ → Type 0) (lacks : List ℕ → Type 0) (run : RunOf) (unit : CodeUnit) (input : List ℕ) : Type 0 where
  pub program : BodyNode
  pub runnable : IsRunnable unit program
  pub gives : GivesProgram holds lacks run program
  pub given : GivesInput holds lacks run.input input

-- the input of a run isn't read, or there was no memory for it
abbrev pub IsInputUnread : (List ℕ → List ℕ → Type 0) → (List ℕ → Type 0) → (List ℕ → Type 0) → Type 0 → Option (List ℕ) → List ℕ → ℕ → Type 0
IsInputUnread holds lacks may_fail failed None bytes status = ⊥
IsInputUnread holds lacks may_fail failed (Some name) bytes status = UnreadWhy (holds name) (lacks name) (may_fail name) failed name bytes status
