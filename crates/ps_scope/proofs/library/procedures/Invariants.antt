use Rattle.std.proofs.Common.{◌≡◌, ◌++◌, map, take}
use Rattle.ps_scope.specs.Content.{declared_of}
use Rattle.ps_scope.specs.inside.Declarations.{declared_routine}
use Rattle.ps_scope.proofs.library.procedures.Given as goal

-- the rows before the place were declared after those that are no rows
abbrev pub invariant-loop-routine : goal.invariant-loop-routine
invariant-loop-routine l = map declared_of l.made.items ≡ map declared_of l.initial.made.items ++ map declared_routine (take l.routine-index l.rows)
