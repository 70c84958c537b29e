-- The fault at which the reading of a rule halts, and how one reading goes on as another.
use Rattle.std.specs.Prelude.{◌≡◌, ◌≢◌, ◌≤◌, ℕ, suc, ◌+◌, List, Some, None, slice_get}
use Rattle.ps_tree.specs.declared.fault.ParseFault.{ParseFault}
use Rattle.ps_tree.specs.declared.fault.ParseFault.TheVariants.{TooNested, Memory}
use Rattle.ps_tree.specs.ps_symbols.declared.kind.Kind.{Kind}
use Rattle.ps_tree.specs.ps_symbols.declared.symbol.Symbol.{Symbol}
use Rattle.ps_reader.specs.Grammar.{Made, Part, Nested, Rule, Take, Go, Open, Then, inside, row}
use Rattle.ps_reader.specs.Reading.{kind_at, Reads}
use Rattle.ps_reader.specs.Faults.{unexpected}

-- no symbol of the kind stands at this place
abbrev pub IsNotAt : List Symbol → ℕ → Kind → Type 0
IsNotAt symbols place kind = (symbol : Symbol) → slice_get symbols place ≡ Some symbol → symbol.kind ≢ kind

-- with room for so many clauses and types inside one another, the reading of the rule from this place on
-- halts with this fault. Want of memory can halt it anywhere.
pub data HaltsWith (text : List ℕ) (count : ℕ) (symbols : List Symbol) : ℕ → Rule → ℕ → ParseFault → Type 0 where
  out_of_memory : {room from : ℕ} {rule : Rule} {fault : ParseFault} → fault ≡ Memory → HaltsWith text count symbols room rule from fault
  wrong_token : {room from : ℕ} {kind : Kind} {next : Symbol → Rule} {fault : ParseFault} → IsNotAt symbols from kind → fault ≡ unexpected text count (slice_get symbols from) → HaltsWith text count symbols room (Take kind next) from fault
  no_part : {room from : ℕ} {part : Part} {fault : ParseFault} → row text part (kind_at symbols from) ≡ None → fault ≡ unexpected text count (slice_get symbols from) → HaltsWith text count symbols room (Go part) from fault
  nothing_inside : {room from : ℕ} {nested : Nested} {fault : ParseFault} → inside text nested (kind_at symbols from) ≡ None → fault ≡ unexpected text count (slice_get symbols from) → HaltsWith text count symbols room (Open nested) from fault
  no_room : {from : ℕ} {nested : Nested} {rule : Rule} {symbol : Symbol} {fault : ParseFault} → slice_get symbols from ≡ Some symbol → inside text nested symbol.kind ≡ Some rule → fault ≡ TooNested symbol.token.line → HaltsWith text count symbols 0 (Open nested) from fault
  behind_token : {room from : ℕ} {kind : Kind} {next : Symbol → Rule} {symbol : Symbol} {fault : ParseFault} → slice_get symbols from ≡ Some symbol → symbol.kind ≡ kind → HaltsWith text count symbols room (next symbol) (from + 1) fault → HaltsWith text count symbols room (Take kind next) from fault
  in_part : {room from : ℕ} {part : Part} {rule : Rule} {fault : ParseFault} → row text part (kind_at symbols from) ≡ Some rule → HaltsWith text count symbols room rule from fault → HaltsWith text count symbols room (Go part) from fault
  in_nested : {room from : ℕ} {nested : Nested} {rule : Rule} {fault : ParseFault} → inside text nested (kind_at symbols from) ≡ Some rule → HaltsWith text count symbols room rule from fault → HaltsWith text count symbols (suc room) (Open nested) from fault
  in_first : {room from : ℕ} {first : Rule} {next : Made → Rule} {fault : ParseFault} → HaltsWith text count symbols room first from fault → HaltsWith text count symbols room (Then first next) from fault
  in_next : {room from middle : ℕ} {first : Rule} {next : Made → Rule} {one : Made} {fault : ParseFault} → Reads text symbols room first from one middle → HaltsWith text count symbols room (next one) middle fault → HaltsWith text count symbols room (Then first next) from fault

-- the reading of a rule from a place on goes on as another from another place on, which is no earlier
pub record Continues (text : List ℕ) (count : ℕ) (symbols : List Symbol) (room : ℕ) (rule : Rule) (from : ℕ) (rest : Rule) (at : ℕ) : Type 0 where
  pub reads : (made : Made) (to : ℕ) → Reads text symbols room rest at made to → Reads text symbols room rule from made to
  pub halts : (fault : ParseFault) → HaltsWith text count symbols room rest at fault → HaltsWith text count symbols room rule from fault
  pub forward : from ≤ at
