-- How the reading of a rule goes on, step by step, in the form that the parser's proofs use: places and trees by equations.
use Rattle.std.proofs.Common.{◌≡◌, ℕ, ◌-◌, ◌≤◌, ◌<◌, length, List, Some, Result, Ok, Err, IfOk, IfErr, IsErrAnd, MatchResult, false, sym, subst, ap, ◌∙◌, arith}
use Rattle.std.proofs.lemmas.Option.{slice_get_within}
use Rattle.ps_tree.specs.declared.fault.ParseFault.{ParseFault}
use Rattle.ps_tree.specs.declared.fault.ParseFault.TheVariants.{Memory}
use Rattle.ps_tree.specs.declared.rough.Rough.{Rough}
use Rattle.ps_tree.specs.declared.rough.Named.{Named}
use Rattle.ps_tree.specs.Phrase.{Phrase, NameAt, phrase_of, named}
use Rattle.ps_tree.specs.ps_symbols.declared.kind.Kind.{Kind}
use Rattle.ps_tree.specs.ps_symbols.declared.kind.Kind.TheVariants as kind
use Rattle.ps_tree.specs.ps_symbols.declared.symbol.Symbol.{Symbol}
use Rattle.ps_reader.specs.declared.reader.Reader.{Reader}
use Rattle.ps_reader.specs.Grammar.{Made, a_clause, Part, Rule, Give, Take, Go, Then, name_at, row}
use Rattle.ps_reader.specs.Reading.{kind_at, kind_of_next, Reads}
use Rattle.ps_reader.specs.inside.Parsing.{Taken, NameTaken, TakesName, IsMissing, IsOther, is_end, Halts}
use Rattle.ps_reader.specs.inside.Stopping.{HaltsWith, Continues}

module _ {text : List ℕ} {symbols : List Symbol} where
  given_alone : {room from at to : ℕ} {rule : Rule} {one made : Made} → Reads text symbols room (Give one) at made to → Reads text symbols room rule from one at → Reads text symbols room rule from made to
  given_alone Reads.gives read = read

module _ {text : List ℕ} {count : ℕ} {symbols : List Symbol} where
  pub on : {room from middle at : ℕ} {rule between rest : Rule} → Continues text count symbols room rule from between middle → Continues text count symbols room between middle rest at → Continues text count symbols room rule from rest at
  on one two = record { reads = λ made to more. one.reads made to (two.reads made to more); halts = λ fault more. one.halts fault (two.halts fault more); forward = omega (arith, one.forward, two.forward) }

  pub nowhere : {room from : ℕ} {rule : Rule} → Continues text count symbols room rule from rule from
  nowhere = record { reads = λ made to more. more; halts = λ fault more. more; forward = omega arith }

  pub by_row : {room from : ℕ} {part : Part} {rule : Rule} → row text part (kind_at symbols from) ≡ Some rule → Continues text count symbols room (Go part) from rule from
  by_row is = record { reads = λ made to more. Reads.goes is more; halts = λ fault more. HaltsWith.in_part is more; forward = omega arith }

  pub behind_first : {room from middle : ℕ} {first : Rule} {next : Made → Rule} {one : Made} → Continues text count symbols room first from (Give one) middle → Continues text count symbols room (Then first next) from (next one) middle
  behind_first first = record { reads = λ made to more. Reads.joins (first.reads _ _ Reads.gives) more; halts = λ fault more. HaltsWith.in_next (first.reads _ _ Reads.gives) more; forward = first.forward }

  -- the same rule, made of parts that are equal
  pub same : {room from : ℕ} {rule other : Rule} → rule ≡ other → Continues text count symbols room rule from other from
  same {room} {from} {rule} is = subst (λ (r : Rule). Continues text count symbols room rule from r from) is nowhere

  -- the whole rule is read as this
  pub reads_as_this : {room from to : ℕ} {rule : Rule} {made : Made} → Continues text count symbols room rule from (Give made) to → Reads text symbols room rule from made to
  reads_as_this goes = goes.reads _ _ Reads.gives

  halts_alone : {room from at : ℕ} {rule : Rule} {one : Made} {fault : ParseFault} → HaltsWith text count symbols room (Give one) at fault → HaltsWith text count symbols room rule from fault
  halts_alone (HaltsWith.out_of_memory is) = HaltsWith.out_of_memory is

  -- what is read leaves nothing
  pub given : {room from to : ℕ} {rule : Rule} {made : Made} → Reads text symbols room rule from made to → from ≤ to → Continues text count symbols room rule from (Give made) to
  given read forward = record { reads = λ other at more. given_alone more read; halts = λ fault more. halts_alone more; forward = forward }

  -- what is returned where a call failed: its fault, or want of memory
  pub failed : {A : Type 0} (P : A → Type 0) {room from : ℕ} {rule : Rule} {fault : ParseFault} (result : Result A ParseFault) → IsErrAnd result (λ given. given ≡ fault) → HaltsWith text count symbols room rule from fault → MatchResult result P (λ given. HaltsWith text count symbols room rule from given)
  failed P (Ok made) is halts = absurd is
  failed P {room = room} {from = from} {rule = rule} (Err given) is halts = subst (λ (f : ParseFault). HaltsWith text count symbols room rule from f) (sym is) halts

  -- a call at the end does what is left of the rule
  pub tail : {A : Type 0} (last : A → Rule) (to : ℕ) {room from at : ℕ} {rule rest : Rule} (result : Result A ParseFault) → MatchResult result (λ made. Continues text count symbols room rest at (last made) to) (λ fault. HaltsWith text count symbols room rest at fault) → Continues text count symbols room rule from rest at → MatchResult result (λ made. Continues text count symbols room rule from (last made) to) (λ fault. HaltsWith text count symbols room rule from fault)
  tail last to (Ok made) does goes = on goes does
  tail last to (Err fault) does goes = goes.halts fault does

  -- what is made at the end is what the rule is read as
  pub built : {room from to : ℕ} {rule : Rule} {tree : Phrase} (result : Result Rough ParseFault) → IfOk result (λ made. phrase_of made ≡ tree) → IfErr result (λ fault. fault ≡ Memory) → Continues text count symbols room rule from (Give (a_clause tree)) to → MatchResult result (λ made. Continues text count symbols room rule from (Give (a_clause (phrase_of made))) to) (λ fault. HaltsWith text count symbols room rule from fault)
  built (Ok made) is memory goes = on goes (same (ap (λ (t : Phrase). Give (a_clause t)) (sym is)))
  built (Err fault) is memory goes = HaltsWith.out_of_memory memory

  -- a call at the end reads what stands first, and what is asked for after it stands there
  pub tail_first : {A : Type 0} (view : A → Made) (next : Made → Rule) (to : ℕ) {room from at : ℕ} {rule first : Rule} (result : Result A ParseFault) → MatchResult result (λ made. Continues text count symbols room first at (Give (view made)) to) (λ fault. HaltsWith text count symbols room first at fault) → Continues text count symbols room rule from (Then first next) at → MatchResult result (λ made. Continues text count symbols room rule from (next (view made)) to) (λ fault. HaltsWith text count symbols room rule from fault)
  tail_first view next to (Ok made) does goes = on goes (behind_first does)
  tail_first view next to (Err fault) does goes = goes.halts fault (HaltsWith.in_first does)

module _ {reader : Reader} where
  pub took : {room from to : ℕ} {kind : Kind} {next : Symbol → Rule} {symbol : Symbol} → Taken reader kind from symbol to → Continues reader.text.now reader.tokens reader.symbols.now room (Take kind next) from (next symbol) to
  took {room} {from} {to} {kind} {next} {symbol} taken =
      subst (λ (p : ℕ). Continues reader.text.now reader.tokens reader.symbols.now room (Take kind next) from (next symbol) p) (sym taken.at) (record { reads = λ made to more. Reads.takes taken.here taken.is more; halts = λ fault more. HaltsWith.behind_token taken.here taken.is more; forward = omega arith })

  pub missing : {room from : ℕ} {kind : Kind} {next : Symbol → Rule} {fault : ParseFault} → IsMissing reader kind from fault → Halts reader room (Take kind next) from fault
  missing none = HaltsWith.wrong_token none.other none.is

  -- after a token there are fewer symbols left
  pub nearer : {from place to later : ℕ} {kind : Kind} {symbol : Symbol} → Taken reader kind place symbol to → from ≤ place → to ≤ later → length reader.symbols.now - later < length reader.symbols.now - from
  nearer {place = place} {symbol = symbol} taken first last = let w = slice_get_within reader.symbols.now place symbol taken.here in omega (arith, first, w, taken.at, last)

  -- the kind of a symbol that was taken is the one at its place
  pub stood : {from to : ℕ} {kind : Kind} {symbol : Symbol} → Taken reader kind from symbol to → kind_at reader.symbols.now from ≡ kind
  stood taken = ap kind_of_next taken.here ∙ taken.is

  -- a part begins with a symbol that was taken since it stood there
  pub began : {room from to : ℕ} {part : Part} {kind : Kind} {next : Symbol → Rule} {symbol : Symbol} → Taken reader kind from symbol to → row reader.text.now part kind ≡ Some (Take kind next) → Continues reader.text.now reader.tokens reader.symbols.now room (Go part) from (next symbol) to
  began {part = part} taken is = on (by_row (ap (row reader.text.now part) (stood taken) ∙ is)) (took taken)

  -- where no symbol was taken nothing has moved
  pub unmoved : {room from to : ℕ} {rule : Rule} {kind : Kind} → IsOther reader kind from to → Continues reader.text.now reader.tokens reader.symbols.now room rule from rule to
  unmoved {room} {from} {rule = rule} none = subst (λ (p : ℕ). Continues reader.text.now reader.tokens reader.symbols.now room rule from rule p) (sym none.stays) nowhere

  -- a part begins otherwise, where no symbol of the kind stands
  pub otherwise : {room from to : ℕ} {part : Part} {kind : Kind} {rule : Rule} → IsOther reader kind from to → is_end kind ≡ false → ((k : Kind) → (k ≡ kind → ⊥) → row reader.text.now part k ≡ Some rule) → Continues reader.text.now reader.tokens reader.symbols.now room (Go part) from rule to
  otherwise {room} {from} {part = part} {rule = rule} none is row_is = subst (λ (p : ℕ). Continues reader.text.now reader.tokens reader.symbols.now room (Go part) from rule p) (sym none.stays) (by_row (row_is (kind_at reader.symbols.now from) (none.other is)))

  -- a name that was taken is what is asked for
  pub took_name : (next : NameAt → Rule) {room from to : ℕ} {name : NameAt} → NameTaken reader from name to → Continues reader.text.now reader.tokens reader.symbols.now room (Take kind.Name (λ symbol. next (name_at reader.text.now symbol))) from (next name) to
  took_name next taken = on (took taken.taken) (same (ap next (sym taken.spells)))

  -- a name that was spelled out is the one that stands there, unless there is no memory for it
  pub spelled : {from to : ℕ} {symbol : Symbol} (result : Result Named ParseFault) → MatchResult result (λ made. named made ≡ name_at reader.text.now symbol) (λ fault. fault ≡ Memory) → Taken reader kind.Name from symbol to → TakesName reader from result to
  spelled {symbol = symbol} (Ok made) is taken = record { symbol = symbol; taken = taken; spells = is }
  spelled (Err fault) is taken = λ room next. HaltsWith.out_of_memory is

  -- no name was taken, since none stands there
  pub no_name : (to : ℕ) {from : ℕ} {fault : ParseFault} (result : Result Named ParseFault) → IsErrAnd result (λ given. given ≡ fault) → IsMissing reader kind.Name from fault → TakesName reader from result to
  no_name to (Ok made) is none = absurd is
  no_name to {from} (Err given) is none = λ room next. subst (λ (f : ParseFault). Halts reader room (Take kind.Name next) from f) (sym is) (missing none)

pub ruleset steps = (nowhere, HaltsWith.out_of_memory, HaltsWith.no_part, HaltsWith.nothing_inside, HaltsWith.no_room)
