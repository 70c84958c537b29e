use Rattle.std.proofs.Common.{ℕ, true, ◌+◌, ◌-◌, ◌*◌, length}
use Rattle.ps_base.specs.TyView.{ty_views}
use Rattle.ps_reader.specs.Grammar.{Go, parameter_types, MoreTypes}
use Rattle.ps_reader.specs.inside.Parsing.{GoesOn}
use Rattle.ps_reader.proofs.reader.Reader.+types.Given as goal

-- A call of the cycle reads a smaller part of the grammar, or opens a type, and then has less room.
abbrev work : ℕ → ℕ → ℕ
work room rank = 10 * room + rank

abbrev pub decreases-ty : goal.decreases-ty
decreases-ty l = work l.room 0

abbrev pub decreases-types : goal.decreases-types
decreases-types l = work l.room 1

abbrev pub decreases-parameter_types : goal.decreases-parameter_types
decreases-parameter_types l = work l.room 2

abbrev pub decreases-result_type : goal.decreases-result_type
decreases-result_type l = work l.room 1

abbrev pub decreases-vector_type : goal.decreases-vector_type
decreases-vector_type l = work l.room 1

abbrev pub decreases-procedure_type : goal.decreases-procedure_type
decreases-procedure_type l = work l.room 3

abbrev pub decreases-typed_as : goal.decreases-typed_as
decreases-typed_as l = work l.room 4

abbrev pub invariant-types-loop-at : goal.invariant-types-loop-at
invariant-types-loop-at l = GoesOn l.self l.room (parameter_types true) l.fn.at (Go (MoreTypes (ty_views l.types.items))) l.at

abbrev pub decreases-types-loop-at : goal.decreases-types-loop-at
decreases-types-loop-at l = length l.self.symbols.now - l.at
