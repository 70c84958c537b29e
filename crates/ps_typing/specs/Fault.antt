-- Why a tree is no program.
use Rattle.std.specs.Prelude.{ℕ}
use Rattle.ps_tree.specs.ps_base.TyView.{TyView}
use Rattle.ps_tree.specs.ps_base.declared.line.Line.{Line}

pub data Fault : Type 0 where
  -- a name, a class or a field isn't in scope
  Unknown : (line : Line) → Fault
  -- a name or a field name is declared a second time in its block
  Twice : (line : Line) → Fault
  -- another type is needed
  Mismatch : (line : Line) (found wanted : TyView) → Fault
  -- the left side of `:=` is no variable, no element and no field
  NotAssignable : (line : Line) → Fault
  -- an application of something else, or with another number of arguments; a class or a library procedure that isn't applied
  NotApplicable : (line : Line) → Fault
  -- a structure has more than 64 fields, or a procedure more than 64 parameters
  Limit : (line : Line) (count : ℕ) → Fault
  -- a body has a slot count above 512
  TooComplex : (line : Line) (count : ℕ) → Fault
