-- A reading looks at no symbol after the one at its end, and a failure at none after its place.
use Rattle.std.proofs.Common.{◌≡◌, ◌≢◌, ℕ, zero, suc, ◌+◌, ◌<◌, ◌≤◌, List, [], ◌∷◌, ◌++◌, Bool, false, Option, length, take, slice_get, refl, sym, ap, ◌∙◌, arith}
use Rattle.std.proofs.lemmas.Option.{slice_get_within}
use Rattle.ps_tree.specs.ps_symbols.declared.symbol.Symbol.{Symbol}
use Rattle.ps_reader.specs.Grammar.{Made, Part, Nested, Rule, Go, Program, inside, row}
use Rattle.ps_parse.specs.Program.{BeginsProgram}
use Rattle.ps_reader.specs.Faults.{unexpected}
use Rattle.ps_reader.specs.Reading.{kind_at, kind_of_next, Reads, gives, takes, goes, opens, joins}
use Rattle.ps_reader.specs.inside.Stopping.{HaltsWith}
use Rattle.ps_tree.specs.declared.fault.ParseFault.{ParseFault}
use Rattle.ps_tree.specs.declared.fault.ParseFault.TheVariants.{TooNested, Memory}
use Rattle.ps_parse.proofs.Unique.{some_same}
use Rattle.ps_parse.proofs.Failures.{Fails, IsFaultAt, fails_of, unread}

module _ {text : List ℕ} {symbols : List Symbol} where
  pub forward : {nesting : ℕ} {rule : Rule} {from : ℕ} {made : Made} {to : ℕ} → Reads text symbols nesting rule from made to → from ≤ to
  forward gives = omega arith
  forward (takes here is more) = let h = forward more in omega (arith, h)
  forward (goes is more) = forward more
  forward (opens is more) = forward more
  forward (joins first more) = let h = forward first in let k = forward more in omega (arith, h, k)

  pub fails_forward : {deep : Bool} {room : ℕ} {rule : Rule} {from place : ℕ} → Fails text symbols deep room rule from place → from ≤ place
  fails_forward (Fails.wrong_token wrong) = omega arith
  fails_forward (Fails.no_part none) = omega arith
  fails_forward (Fails.nothing_inside none) = omega arith
  fails_forward (Fails.no_room here is) = omega arith
  fails_forward (Fails.behind_token here is more) = let h = fails_forward more in omega (arith, h)
  fails_forward (Fails.in_part is more) = fails_forward more
  fails_forward (Fails.in_nested is more) = fails_forward more
  fails_forward (Fails.in_first more) = fails_forward more
  fails_forward (Fails.in_next first more) = let h = forward first in let k = fails_forward more in omega (arith, h, k)

  -- a reading that begins within the symbols, or at their end, ends so
  pub within : {nesting : ℕ} {rule : Rule} {from : ℕ} {made : Made} {to : ℕ} → Reads text symbols nesting rule from made to → from ≤ length symbols → to ≤ length symbols
  within gives begins = begins
  within (takes {from = from} {symbol = symbol} here is more) begins = let h = slice_get_within symbols from symbol here in within more (omega (arith, h))
  within (goes is more) begins = within more begins
  within (opens is more) begins = within more begins
  within (joins first more) begins = within more (within first begins)

  pub fails_within : {deep : Bool} {room : ℕ} {rule : Rule} {from place : ℕ} → Fails text symbols deep room rule from place → from ≤ length symbols → place ≤ length symbols
  fails_within (Fails.wrong_token wrong) begins = begins
  fails_within (Fails.no_part none) begins = begins
  fails_within (Fails.nothing_inside none) begins = begins
  fails_within (Fails.no_room here is) begins = begins
  fails_within (Fails.behind_token {from = from} {symbol = symbol} here is more) begins = let h = slice_get_within symbols from symbol here in fails_within more (omega (arith, h))
  fails_within (Fails.in_part is more) begins = fails_within more begins
  fails_within (Fails.in_nested is more) begins = fails_within more begins
  fails_within (Fails.in_first more) begins = fails_within more begins
  fails_within (Fails.in_next first more) begins = fails_within more (within first begins)

  -- more room does no harm
  pub roomier : {nesting : ℕ} {rule : Rule} {from : ℕ} {made : Made} {to : ℕ} → Reads text symbols nesting rule from made to → (larger : ℕ) → nesting ≤ larger → Reads text symbols larger rule from made to
  roomier gives larger more = gives
  roomier (takes here is read) larger more = takes here is (roomier read larger more)
  roomier (goes is read) larger more = goes is (roomier read larger more)
  roomier (opens is read) zero more = absurd (omega (arith, more))
  roomier (opens is read) (suc larger) more = opens is (roomier read larger (omega (arith, more)))
  roomier (joins first read) larger more = joins (roomier first larger more) (roomier read larger more)

-- the symbols agree up to this place and with it
abbrev pub Agree : List Symbol → List Symbol → ℕ → Type 0
Agree symbols other place = (i : ℕ) → i ≤ place → slice_get symbols i ≡ slice_get other i

pub row_alike : (text : List ℕ) (symbols other : List Symbol) (part : Part) (from : ℕ) {rule : Option Rule} → slice_get symbols from ≡ slice_get other from → row text part (kind_at symbols from) ≡ rule → row text part (kind_at other from) ≡ rule
row_alike text symbols other part from same is = ap (λ (o : Option Symbol). row text part (kind_of_next o)) (sym same) ∙ is

pub inside_alike : (text : List ℕ) (symbols other : List Symbol) (nested : Nested) (from : ℕ) {rule : Option Rule} → slice_get symbols from ≡ slice_get other from → inside text nested (kind_at symbols from) ≡ rule → inside text nested (kind_at other from) ≡ rule
inside_alike text symbols other nested from same is = ap (λ (o : Option Symbol). inside text nested (kind_of_next o)) (sym same) ∙ is

module _ {text : List ℕ} {symbols other : List Symbol} where
  -- symbols that agree up to the end of a reading are read alike
  pub reads_alike : {nesting : ℕ} {rule : Rule} {from : ℕ} {made : Made} {to : ℕ} → Reads text symbols nesting rule from made to → Agree symbols other to → Reads text other nesting rule from made to
  reads_alike gives same = gives
  reads_alike (takes {from = from} here is more) same = let h = forward more in takes (sym (same from (omega (arith, h))) ∙ here) is (reads_alike more same)
  reads_alike (goes {from = from} {part = part} is more) same = goes (row_alike text symbols other part from (same from (forward more)) is) (reads_alike more same)
  reads_alike (opens {from = from} {nested = nested} is more) same = opens (inside_alike text symbols other nested from (same from (forward more)) is) (reads_alike more same)
  reads_alike (joins first more) same = let h = forward more in joins (reads_alike first λ i below. same i (omega (arith, h, below))) (reads_alike more same)

  -- symbols that agree up to the place of a failure and with it fail alike
  pub fails_alike : {deep : Bool} {room : ℕ} {rule : Rule} {from place : ℕ} → Fails text symbols deep room rule from place → Agree symbols other place → Fails text other deep room rule from place
  fails_alike (Fails.wrong_token {from = from} wrong) same = Fails.wrong_token λ symbol here. wrong symbol (same from (omega arith) ∙ here)
  fails_alike (Fails.no_part {from = from} {part = part} none) same = Fails.no_part (row_alike text symbols other part from (same from (omega arith)) none)
  fails_alike (Fails.nothing_inside {from = from} {nested = nested} none) same = Fails.nothing_inside (inside_alike text symbols other nested from (same from (omega arith)) none)
  fails_alike (Fails.no_room {from = from} here is) same = Fails.no_room (sym (same from (omega arith)) ∙ here) is
  fails_alike (Fails.behind_token {from = from} here is more) same = let h = fails_forward more in Fails.behind_token (sym (same from (omega (arith, h))) ∙ here) is (fails_alike more same)
  fails_alike (Fails.in_part {from = from} {part = part} is more) same = Fails.in_part (row_alike text symbols other part from (same from (fails_forward more)) is) (fails_alike more same)
  fails_alike (Fails.in_nested {from = from} {nested = nested} is more) same = Fails.in_nested (inside_alike text symbols other nested from (same from (fails_forward more)) is) (fails_alike more same)
  fails_alike (Fails.in_first more) same = Fails.in_first (fails_alike more same)
  fails_alike (Fails.in_next first more) same = let h = fails_forward more in Fails.in_next (reads_alike first λ i below. same i (omega (arith, h, below))) (fails_alike more same)

pub slice_get-take-append : (xs ys : List Symbol) (n i : ℕ) → i < n → n ≤ length xs → slice_get xs i ≡ slice_get (take n xs ++ ys) i
slice_get-take-append [] ys n i before fits = absurd (omega (arith, before, fits))
slice_get-take-append (x ∷ xs) ys zero i before fits = absurd (omega (arith, before))
slice_get-take-append (x ∷ xs) ys (suc n) zero before fits = refl
slice_get-take-append (x ∷ xs) ys (suc n) (suc i) before fits = slice_get-take-append xs ys n i (omega (arith, before)) (omega (arith, fits))

-- what fails by a symbol begins no program up to that symbol and with it: nothing after it matters
pub no_continuation : (text : List ℕ) (symbols : List Symbol) (room place : ℕ) → Fails text symbols false room (Go Program) 0 place → place < length symbols → BeginsProgram text (take (place + 1) symbols) → ⊥
no_continuation text symbols room place fails inside begins =
    unread (fails_alike fails λ i before. slice_get-take-append symbols begins.0 (place + 1) i (omega (arith, before)) (omega (arith, inside))) begins.1.1.1.1

module _ {text : List ℕ} {count : ℕ} {symbols : List Symbol} where
  stops_of : {deep : Bool} {room : ℕ} {rule : Rule} {from place : ℕ} {fault : ParseFault} → Fails text symbols deep room rule from place → IsFaultAt text count symbols deep place fault → HaltsWith text count symbols room rule from fault
  stops_of (Fails.wrong_token wrong) (IsFaultAt.by_symbol is) = HaltsWith.wrong_token wrong is
  stops_of (Fails.no_part none) (IsFaultAt.by_symbol is) = HaltsWith.no_part none is
  stops_of (Fails.nothing_inside none) (IsFaultAt.by_symbol is) = HaltsWith.nothing_inside none is
  stops_of (Fails.no_room found opened) (IsFaultAt.by_depth found' is) = HaltsWith.no_room found opened (is ∙ ap (λ (s : Symbol). TooNested s.token.line) (some_same found' found))
  stops_of (Fails.behind_token found is more) fault = HaltsWith.behind_token found is (stops_of more fault)
  stops_of (Fails.in_part is more) fault = HaltsWith.in_part is (stops_of more fault)
  stops_of (Fails.in_nested is more) fault = HaltsWith.in_nested is (stops_of more fault)
  stops_of (Fails.in_first more) fault = HaltsWith.in_first (stops_of more fault)
  stops_of (Fails.in_next first more) fault = HaltsWith.in_next first (stops_of more fault)

fault_alike : {text : List ℕ} {count : ℕ} (symbols other : List Symbol) {deep : Bool} {place : ℕ} {fault : ParseFault} → slice_get symbols place ≡ slice_get other place → IsFaultAt text count symbols deep place fault → IsFaultAt text count other deep place fault
fault_alike {text} {count} symbols other same (IsFaultAt.by_symbol is) = IsFaultAt.by_symbol (is ∙ ap (λ (o : Option Symbol). unexpected text count o) same)
fault_alike symbols other same (IsFaultAt.by_depth found is) = IsFaultAt.by_depth (sym same ∙ found) is

-- the fault names the symbol at this place, or the end of the text
abbrev pub IsNamed : List ℕ → ℕ → List Symbol → ℕ → ParseFault → Type 0
IsNamed text count symbols place fault = (deep : Bool) × IsFaultAt text count symbols deep place fault

-- a stop names a place, and all symbols that agree up to that place and with it stop alike
pub stops_alike : (text : List ℕ) (count : ℕ) (symbols : List Symbol) (room : ℕ) (rule : Rule) (from : ℕ) (fault : ParseFault) → HaltsWith text count symbols room rule from fault → fault ≢ Memory → (place : ℕ) × IsNamed text count symbols place fault × ((other : List Symbol) → Agree symbols other place → HaltsWith text count other room rule from fault)
stops_alike text count symbols room rule from fault stops other =
    let f = fails_of stops other in
    (f.1, (f.0, f.3), λ alike agree. stops_of (fails_alike f.2 agree) (fault_alike symbols alike (agree f.1 (omega arith)) f.3))
