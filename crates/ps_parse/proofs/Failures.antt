-- Where a reading fails: the fault of `HaltsWith` with the place of its symbol.
use Rattle.std.proofs.Common.{◌≡◌, ◌≢◌, ℕ, suc, ◌+◌, List, Bool, true, false, Some, None, slice_get, sym, subst, ap}
use Rattle.ps_tree.specs.declared.fault.ParseFault.{ParseFault}
use Rattle.ps_tree.specs.declared.fault.ParseFault.TheVariants.{TooNested, Memory}
use Rattle.ps_tree.specs.ps_symbols.declared.kind.Kind.{Kind}
use Rattle.ps_tree.specs.ps_symbols.declared.symbol.Symbol.{Symbol}
use Rattle.ps_reader.specs.Grammar.{Made, Part, Nested, Rule, Take, Go, Open, Then, inside, row}
use Rattle.ps_reader.specs.Faults.{unexpected}
use Rattle.ps_reader.specs.Reading.{kind_at, Reads, gives, takes, goes, opens, joins, Opens}
use Rattle.ps_reader.specs.inside.Stopping.{IsNotAt, HaltsWith}
use Rattle.ps_parse.proofs.Unique.{unique, reads_as, reads_from, some_same}

-- with room for so many clauses and types inside one another, the reading of the rule from one place on fails
-- at the other: for want of room where the flag says so, else by what stands there
pub data Fails (text : List ℕ) (symbols : List Symbol) : Bool → ℕ → Rule → ℕ → ℕ → Type 0 where
  wrong_token : {room from : ℕ} {kind : Kind} {next : Symbol → Rule} → IsNotAt symbols from kind → Fails text symbols false room (Take kind next) from from
  no_part : {room from : ℕ} {part : Part} → row text part (kind_at symbols from) ≡ None → Fails text symbols false room (Go part) from from
  nothing_inside : {room from : ℕ} {nested : Nested} → inside text nested (kind_at symbols from) ≡ None → Fails text symbols false room (Open nested) from from
  no_room : {from : ℕ} {nested : Nested} {rule : Rule} {symbol : Symbol} → slice_get symbols from ≡ Some symbol → inside text nested symbol.kind ≡ Some rule → Fails text symbols true 0 (Open nested) from from
  behind_token : {deep : Bool} {room from place : ℕ} {kind : Kind} {next : Symbol → Rule} {symbol : Symbol} → slice_get symbols from ≡ Some symbol → symbol.kind ≡ kind → Fails text symbols deep room (next symbol) (from + 1) place → Fails text symbols deep room (Take kind next) from place
  in_part : {deep : Bool} {room from place : ℕ} {part : Part} {rule : Rule} → row text part (kind_at symbols from) ≡ Some rule → Fails text symbols deep room rule from place → Fails text symbols deep room (Go part) from place
  in_nested : {deep : Bool} {room from place : ℕ} {nested : Nested} {rule : Rule} → inside text nested (kind_at symbols from) ≡ Some rule → Fails text symbols deep room rule from place → Fails text symbols deep (suc room) (Open nested) from place
  in_first : {deep : Bool} {room from place : ℕ} {first : Rule} {next : Made → Rule} → Fails text symbols deep room first from place → Fails text symbols deep room (Then first next) from place
  in_next : {deep : Bool} {room from middle place : ℕ} {first : Rule} {next : Made → Rule} {one : Made} → Reads text symbols room first from one middle → Fails text symbols deep room (next one) middle place → Fails text symbols deep room (Then first next) from place

-- the fault of a failure at a place
pub data IsFaultAt (text : List ℕ) (count : ℕ) (symbols : List Symbol) : Bool → ℕ → ParseFault → Type 0 where
  by_symbol : {place : ℕ} {fault : ParseFault} → fault ≡ unexpected text count (slice_get symbols place) → IsFaultAt text count symbols false place fault
  by_depth : {place : ℕ} {symbol : Symbol} {fault : ParseFault} → slice_get symbols place ≡ Some symbol → fault ≡ TooNested symbol.token.line → IsFaultAt text count symbols true place fault

abbrev pub FailsWith : List ℕ → ℕ → List Symbol → ℕ → Rule → ℕ → ParseFault → Type 0
FailsWith text count symbols room rule from fault = (deep : Bool) × (place : ℕ) × Fails text symbols deep room rule from place × IsFaultAt text count symbols deep place fault

module _ {text : List ℕ} {symbols : List Symbol} where
  pub fails_as : {deep : Bool} {room from place : ℕ} {rule other : Rule} → rule ≡ other → Fails text symbols deep room rule from place → Fails text symbols deep room other from place
  fails_as {deep} {room} {from} {place} same = subst (λ (r : Rule). Fails text symbols deep room r from place) same

  pub fails_from : {deep : Bool} {room from other place : ℕ} {rule : Rule} → from ≡ other → Fails text symbols deep room rule from place → Fails text symbols deep room rule other place
  fails_from {deep} {room} {place = place} {rule = rule} same = subst (λ (p : ℕ). Fails text symbols deep room rule p place) same

  pub opens_as : {n from place : ℕ} {rule other : Rule} → rule ≡ other → Opens text symbols n rule from place → Opens text symbols n other from place
  opens_as {n} {from} {place} same = subst (λ (r : Rule). Opens text symbols n r from place) same

  pub opens_from : {n from other place : ℕ} {rule : Rule} → from ≡ other → Opens text symbols n rule from place → Opens text symbols n rule other place
  opens_from {n} {place = place} {rule = rule} same = subst (λ (p : ℕ). Opens text symbols n rule p place) same

  -- what stops not for want of memory fails at a place
  pub fails_of : {count room : ℕ} {rule : Rule} {from : ℕ} {fault : ParseFault} → HaltsWith text count symbols room rule from fault → fault ≢ Memory → FailsWith text count symbols room rule from fault
  fails_of (HaltsWith.out_of_memory is) other = absurd (other is)
  fails_of (HaltsWith.wrong_token {from = from} wrong is) other = (false, from, Fails.wrong_token wrong, IsFaultAt.by_symbol is)
  fails_of (HaltsWith.no_part {from = from} none is) other = (false, from, Fails.no_part none, IsFaultAt.by_symbol is)
  fails_of (HaltsWith.nothing_inside {from = from} none is) other = (false, from, Fails.nothing_inside none, IsFaultAt.by_symbol is)
  fails_of (HaltsWith.no_room {from = from} here rule is) other = (true, from, Fails.no_room here rule, IsFaultAt.by_depth here is)
  fails_of (HaltsWith.behind_token here is more) other = let f = fails_of more other in (f.0, f.1, Fails.behind_token here is f.2, f.3)
  fails_of (HaltsWith.in_part is more) other = let f = fails_of more other in (f.0, f.1, Fails.in_part is f.2, f.3)
  fails_of (HaltsWith.in_nested is more) other = let f = fails_of more other in (f.0, f.1, Fails.in_nested is f.2, f.3)
  fails_of (HaltsWith.in_first more) other = let f = fails_of more other in (f.0, f.1, Fails.in_first f.2, f.3)
  fails_of (HaltsWith.in_next first more) other = let f = fails_of more other in (f.0, f.1, Fails.in_next first f.2, f.3)

  -- what fails by a symbol isn't read, however deep its clauses and types stand inside one another
  pub unread : {room : ℕ} {rule : Rule} {from place : ℕ} → Fails text symbols false room rule from place → {nesting : ℕ} {made : Made} {to : ℕ} → Reads text symbols nesting rule from made to → ⊥
  unread (Fails.wrong_token wrong) (takes {symbol = symbol} here is more) = wrong symbol here is
  unread (Fails.no_part none) (goes is more) = absurd (cc)
  unread (Fails.nothing_inside none) (opens is more) = absurd (cc)
  unread (Fails.behind_token {next = next} here is more) (takes here' is' more') = unread more (reads_as (ap next (some_same here' here)) more')
  unread (Fails.in_part is more) (goes is' more') = unread more (reads_as (some_same is' is) more')
  unread (Fails.in_nested is more) (opens is' more') = unread more (reads_as (some_same is' is) more')
  unread (Fails.in_first more) (joins first' more') = unread more first'
  unread (Fails.in_next {next = next} first more) (joins first' more') =
      let same = unique first first' in
      unread more (reads_as (ap next (sym same.0)) (reads_from (sym same.1) more'))

  -- what fails isn't read with the same room
  pub unread_here : {deep : Bool} {room : ℕ} {rule : Rule} {from place : ℕ} → Fails text symbols deep room rule from place → {made : Made} {to : ℕ} → Reads text symbols room rule from made to → ⊥
  unread_here (Fails.wrong_token wrong) (takes {symbol = symbol} here is more) = wrong symbol here is
  unread_here (Fails.no_part none) (goes is more) = absurd (cc)
  unread_here (Fails.nothing_inside none) (opens is more) = absurd (cc)
  unread_here (Fails.no_room here is) read = elim read [ ]
  unread_here (Fails.behind_token {next = next} here is more) (takes here' is' more') = unread_here more (reads_as (ap next (some_same here' here)) more')
  unread_here (Fails.in_part is more) (goes is' more') = unread_here more (reads_as (some_same is' is) more')
  unread_here (Fails.in_nested is more) (opens is' more') = unread_here more (reads_as (some_same is' is) more')
  unread_here (Fails.in_first more) (joins first' more') = unread_here more first'
  unread_here (Fails.in_next {next = next} first more) (joins first' more') =
      let same = unique first first' in
      unread_here more (reads_as (ap next (sym same.0)) (reads_from (sym same.1) more'))

  -- a reading with room for so many clauses and types opens no deeper one
  pub no_deeper : {nesting : ℕ} {rule : Rule} {from : ℕ} {made : Made} {to : ℕ} → Reads text symbols nesting rule from made to → {place : ℕ} → Opens text symbols (suc nesting) rule from place → ⊥
  no_deeper gives way = elim way [ ]
  no_deeper (takes {next = next} here is more) (Opens.behind_token here' is' more') = no_deeper more (opens_as (ap next (some_same here' here)) more')
  no_deeper (goes is more) (Opens.in_part is' more') = no_deeper more (opens_as (some_same is' is) more')
  no_deeper (opens is more) (Opens.in_nested is' more') = no_deeper more (opens_as (some_same is' is) more')
  no_deeper (joins first more) (Opens.in_first more') = no_deeper first more'
  no_deeper (joins {next = next} first more) (Opens.in_next first' more') =
      let same = unique first first' in
      no_deeper more (opens_as (ap next (sym same.0)) (opens_from (sym same.1) more'))

-- a reading and a stop exclude each other
pub exclusion : (text : List ℕ) (count : ℕ) (symbols : List Symbol) (room : ℕ) (rule : Rule) (from : ℕ) (made : Made) (to : ℕ) (fault : ParseFault) → Reads text symbols room rule from made to → HaltsWith text count symbols room rule from fault → fault ≢ Memory → ⊥
exclusion text count symbols room rule from made to fault reads stops other = unread_here (fails_of stops other).2 reads
