-- The calls of the library that the machine has, by their numbers.
use Rattle.std.proofs.Common.{◌≡◌, ◌≤◌, ℕ, zero, suc, refl, arith}
use Rattle.ps_base.specs.declared.line.Line.{Line}
use Rattle.machine_core.specs.ps_heap.Library.{MakeTable, EnterString, LookUpString, EnterInt, LookUpInt, Cardinality, library_procedure}
use Rattle.machine_core.specs.ps_stepping.Config.{Config}
use Rattle.machine_core.specs.ps_stepping.Steps.{Stuck}
use Rattle.machine_core.specs.ps_stepping.Library.{call_on_heap, read_line, at_end, text_length, int_text}
use Rattle.machine_core.specs.ps_stepping.Plain.{plain_library}

pub table-call : (line : Line) → plain_library 3 line ≡ call_on_heap MakeTable line
unfolding library_procedure
table-call line = refl

pub enter-string-call : (line : Line) → plain_library 4 line ≡ call_on_heap EnterString line
unfolding library_procedure
enter-string-call line = refl

pub string-call : (line : Line) → plain_library 5 line ≡ call_on_heap LookUpString line
unfolding library_procedure
string-call line = refl

pub enter-int-call : (line : Line) → plain_library 6 line ≡ call_on_heap EnterInt line
unfolding library_procedure
enter-int-call line = refl

pub int-call : (line : Line) → plain_library 7 line ≡ call_on_heap LookUpInt line
unfolding library_procedure
int-call line = refl

pub cardinality-call : (line : Line) → plain_library 8 line ≡ call_on_heap Cardinality line
unfolding library_procedure
cardinality-call line = refl

pub line-call : (line : Line) → plain_library 9 line ≡ read_line line
unfolding library_procedure
line-call line = refl

pub end-call : (line : Line) → plain_library 10 line ≡ at_end
unfolding library_procedure
end-call line = refl

pub length-call : (line : Line) → plain_library 11 line ≡ text_length
unfolding library_procedure
length-call line = refl

pub int-text-call : (line : Line) → plain_library 12 line ≡ int_text
unfolding library_procedure
int-text-call line = refl

-- all others are those of databases, or none
pub no-plain-call : (k : ℕ) (line : Line) (c : Config) → (3 ≤ k → k ≤ 12 → ⊥) → plain_library k line c ≡ Stuck
unfolding library_procedure
no-plain-call zero line c none = refl
no-plain-call (suc zero) line c none = refl
no-plain-call (suc (suc zero)) line c none = refl
no-plain-call (suc (suc (suc zero))) line c none = absurd (none (omega arith) (omega arith))
no-plain-call (suc (suc (suc (suc zero)))) line c none = absurd (none (omega arith) (omega arith))
no-plain-call (suc (suc (suc (suc (suc zero))))) line c none = absurd (none (omega arith) (omega arith))
no-plain-call (suc (suc (suc (suc (suc (suc zero)))))) line c none = absurd (none (omega arith) (omega arith))
no-plain-call (suc (suc (suc (suc (suc (suc (suc zero))))))) line c none = absurd (none (omega arith) (omega arith))
no-plain-call (suc (suc (suc (suc (suc (suc (suc (suc zero)))))))) line c none = absurd (none (omega arith) (omega arith))
no-plain-call (suc (suc (suc (suc (suc (suc (suc (suc (suc zero))))))))) line c none = absurd (none (omega arith) (omega arith))
no-plain-call (suc (suc (suc (suc (suc (suc (suc (suc (suc (suc zero)))))))))) line c none = absurd (none (omega arith) (omega arith))
no-plain-call (suc (suc (suc (suc (suc (suc (suc (suc (suc (suc (suc zero))))))))))) line c none = absurd (none (omega arith) (omega arith))
no-plain-call (suc (suc (suc (suc (suc (suc (suc (suc (suc (suc (suc (suc zero)))))))))))) line c none = absurd (none (omega arith) (omega arith))
no-plain-call (suc (suc (suc (suc (suc (suc (suc (suc (suc (suc (suc (suc (suc n))))))))))))) line c none = refl
