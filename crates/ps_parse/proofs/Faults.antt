-- The fault at which the reading of a program stops is the one that its text has.
use Rattle.std.proofs.Common.{◌≡◌, ◌≢◌, ℕ, suc, ◌+◌, ◌<◌, ◌≤◌, inl, inr, List, ◌++◌, Bool, true, false, Some, None, length, take, drop, slice_get, sym, subst, ap, ◌∙◌, arith}
use Rattle.std.proofs.lemmas.Option.{slice_get_within}
use Rattle.std.proofs.lemmas.List.{take-append-drop, take-take, append_assoc}
use Rattle.std.proofs.lemmas.Bool.{cases_order}
use Rattle.std.proofs.Math.Nat.{eq-or-lt_of_le}
use Rattle.ps_reader.specs.ps_scan.declared.token.Token.{Token}
use Rattle.ps_tree.specs.declared.fault.ParseFault.{ParseFault}
use Rattle.ps_tree.specs.declared.fault.ParseFault.TheVariants.{TooNested, Memory}
use Rattle.ps_tree.specs.ps_symbols.declared.symbol.Symbol.{Symbol}
use Rattle.ps_tree.specs.Phrase.{Phrase}
use Rattle.ps_reader.specs.Grammar.{Made, a_clause, Rule, Go, Program}
use Rattle.ps_parse.specs.Program.{BeginsProgram, CanStand, ReadsAs, IsTooDeep, IsUnexpected, IsTooNested, IsParseFault, unexpected_at, too_nested_at}
use Rattle.ps_reader.specs.Faults.{unexpected}
use Rattle.ps_reader.specs.Reading.{Reads, takes, goes, opens, joins, Opens}
use Rattle.ps_reader.specs.inside.Stopping.{HaltsWith}
use Rattle.ps_tree.specs.ps_symbols.Symbols.{symbols as read_as}
use Rattle.ps_parse.proofs.Unique.{unique, some_same, reads_as, reads_from}
use Rattle.ps_parse.proofs.Failures.{Fails, IsFaultAt, fails_of, unread, no_deeper, opens_as, opens_from}
use Rattle.ps_parse.proofs.Prefixes.{forward, fails_within, no_continuation}
use Rattle.std.specs.List.{All}
use Rattle.std.proofs.lemmas.List.Elements.{All-append, All-drop, All-take}
use Rattle.ps_parse.proofs.Ends.{symbols_stand}
use Rattle.ps_parse.proofs.Completions.{begins_program, reaches, reaches_behind}

module _ {text : List ℕ} {symbols : List Symbol} where
  opens_forward : {n : ℕ} {rule : Rule} {from place : ℕ} → Opens text symbols n rule from place → from ≤ place
  opens_forward (Opens.here inside) = omega arith
  opens_forward (Opens.behind_token found is more) = let h = opens_forward more in omega (arith, h)
  opens_forward (Opens.in_part is more) = opens_forward more
  opens_forward (Opens.in_nested is more) = opens_forward more
  opens_forward (Opens.in_first more) = opens_forward more
  opens_forward (Opens.in_next first more) = let h = forward first in let k = opens_forward more in omega (arith, h, k)

  not_zeroth : {rule : Rule} {from place : ℕ} → Opens text symbols 0 rule from place → ⊥
  not_zeroth (Opens.behind_token found is more) = not_zeroth more
  not_zeroth (Opens.in_part is more) = not_zeroth more
  not_zeroth (Opens.in_first more) = not_zeroth more
  not_zeroth (Opens.in_next first more) = not_zeroth more

  -- what is read in spite of a failure goes after its place
  fails_before : {deep : Bool} {room : ℕ} {rule : Rule} {from place : ℕ} → Fails text symbols deep room rule from place → {nesting : ℕ} {made : Made} {to : ℕ} → Reads text symbols nesting rule from made to → place ≤ to
  fails_before (Fails.wrong_token wrong) read = forward read
  fails_before (Fails.no_part none) read = forward read
  fails_before (Fails.nothing_inside none) read = forward read
  fails_before (Fails.no_room found is) read = forward read
  fails_before (Fails.behind_token {next = next} found is more) (takes found' is' more') = fails_before more (reads_as (ap next (some_same found' found)) more')
  fails_before (Fails.in_part is more) (goes is' more') = fails_before more (reads_as (some_same is' is) more')
  fails_before (Fails.in_nested is more) (opens is' more') = fails_before more (reads_as (some_same is' is) more')
  fails_before (Fails.in_first more) (joins first' more') = let h = fails_before more first' in let k = forward more' in omega (arith, h, k)
  fails_before (Fails.in_next {next = next} first more) (joins first' more') =
      let same = unique first first' in
      fails_before more (reads_as (ap next (sym same.0)) (reads_from (sym same.1) more'))

  -- before the place of a failure no clause and no type is opened for which there is no room
  pub none_too_deep : {deep : Bool} {room : ℕ} {rule : Rule} {from place : ℕ} → Fails text symbols deep room rule from place → {earlier : ℕ} → Opens text symbols (suc room) rule from earlier → earlier < place → ⊥
  none_too_deep (Fails.wrong_token wrong) (Opens.behind_token {symbol = symbol} found is more) before = wrong symbol found is
  none_too_deep (Fails.no_part none) (Opens.in_part is more) before = absurd (cc)
  none_too_deep (Fails.nothing_inside none) way before = let h = opens_forward way in absurd (omega (arith, h, before))
  none_too_deep (Fails.no_room found is) way before = let h = opens_forward way in absurd (omega (arith, h, before))
  none_too_deep (Fails.behind_token {next = next} found is more) (Opens.behind_token found' is' more') before = none_too_deep more (opens_as (ap next (some_same found' found)) more') before
  none_too_deep (Fails.in_part is more) (Opens.in_part is' more') before = none_too_deep more (opens_as (some_same is' is) more') before
  none_too_deep (Fails.in_nested is more) (Opens.in_nested is' more') before = none_too_deep more (opens_as (some_same is' is) more') before
  none_too_deep (Fails.in_first more) (Opens.in_first more') before = none_too_deep more more' before
  none_too_deep (Fails.in_first more) (Opens.in_next first' more') before =
      let h = fails_before more first' in
      let k = opens_forward more' in
      absurd (omega (arith, h, k, before))
  none_too_deep (Fails.in_next first more) (Opens.in_first more') before = no_deeper first more'
  none_too_deep (Fails.in_next {next = next} first more) (Opens.in_next first' more') before =
      let same = unique first first' in
      none_too_deep more (opens_as (ap next (sym same.0)) (opens_from (sym same.1) more')) before

  -- a failure for want of room is at a clause or a type that is too deep
  pub too_deep_there : {room : ℕ} {rule : Rule} {from place : ℕ} → Fails text symbols true room rule from place → Opens text symbols (suc room) rule from place
  too_deep_there (Fails.no_room {from = from} {symbol = symbol} found is) = Opens.here (slice_get_within symbols from symbol found)
  too_deep_there (Fails.behind_token found is more) = Opens.behind_token found is (too_deep_there more)
  too_deep_there (Fails.in_part is more) = Opens.in_part is (too_deep_there more)
  too_deep_there (Fails.in_nested is more) = Opens.in_nested is (too_deep_there more)
  too_deep_there (Fails.in_first more) = Opens.in_first (too_deep_there more)
  too_deep_there (Fails.in_next first more) = Opens.in_next first (too_deep_there more)

pub unexpected_there : (text : List ℕ) (symbols : List Symbol) (place : ℕ) → Fails text symbols false 100 (Go Program) 0 place → IsUnexpected text symbols place
unexpected_there text symbols place fails =
    let inside = fails_within fails (omega arith) in
    record { within = inside; before = begins_program text symbols place inside (reaches fails); here = λ before. no_continuation text symbols 100 place fails before; at_end = λ last nesting tree program. unread fails program; first = λ earlier before way. none_too_deep fails way before }

pub too_nested_there : (text : List ℕ) (symbols : List Symbol) (place : ℕ) (symbol : Symbol) → slice_get symbols place ≡ Some symbol → Fails text symbols true 100 (Go Program) 0 place → IsTooNested text symbols place
too_nested_there text symbols place symbol found fails =
    let inside = slice_get_within symbols place symbol found in
    record { too_deep = record { opens = too_deep_there fails; first = λ earlier before way. none_too_deep fails way before }; expected = begins_program text symbols (place + 1) (omega (arith, inside)) (reaches_behind fails) }

fault_of : (text : List ℕ) (tokens : List Token) {deep : Bool} {place : ℕ} {fault : ParseFault} → Fails text (read_as tokens) deep 100 (Go Program) 0 place → IsFaultAt text (length tokens) (read_as tokens) deep place fault → IsParseFault text tokens fault
fault_of text tokens fails (IsFaultAt.by_symbol {place = place} is) = subst (λ (f : ParseFault). IsParseFault text tokens f) (sym is) (unexpected_at place (unexpected_there text (read_as tokens) place fails))
fault_of text tokens fails (IsFaultAt.by_depth {place = place} {symbol = symbol} found is) = subst (λ (f : ParseFault). IsParseFault text tokens f) (sym is) (too_nested_at place symbol found (too_nested_there text (read_as tokens) place symbol found fails))

-- where the reading of the whole text stops, and not for want of memory, the text has that fault
pub fault_of_stop : (text : List ℕ) (tokens : List Token) (fault : ParseFault) → HaltsWith text (length tokens) (read_as tokens) 100 (Go Program) 0 fault → fault ≢ Memory → IsParseFault text tokens fault
fault_of_stop text tokens fault stops other =
    let f = fails_of stops other in
    fault_of text tokens f.2 f.3

-- a text with a tree has no fault
pub no_fault_of_tree : (text : List ℕ) (tokens : List Token) (tree : Phrase) (fault : ParseFault) → ReadsAs text tokens tree → IsParseFault text tokens fault → ⊥
no_fault_of_tree text tokens tree fault reads (unexpected_at place is) =
    elim (eq-or-lt_of_le is.within) [ inl last ↦ is.at_end last 100 tree reads.program | inr before ↦ is.here before (drop (place + 1) (read_as tokens), (All-drop CanStand (place + 1) (read_as tokens) (symbols_stand None 0 tokens), (100, (tree, subst (λ (all : List Symbol). Reads text all 100 (Go Program) 0 (a_clause tree) (length all)) (sym (take-append-drop (place + 1) (read_as tokens))) reads.program)))) ]
no_fault_of_tree text tokens tree fault reads (too_nested_at place symbol found is) = no_deeper reads.program is.too_deep.opens

-- a prefix of what begins a program begins one
begins_less : (text : List ℕ) (symbols : List Symbol) → All CanStand symbols → (shorter longer : ℕ) → shorter ≤ longer → BeginsProgram text (take longer symbols) → BeginsProgram text (take shorter symbols)
begins_less text symbols stand shorter longer less begins =
    let front = take-take shorter longer symbols less in
    let all : take longer symbols ++ begins.0 ≡ take shorter symbols ++ (drop shorter (take longer symbols) ++ begins.0) = ap (λ (s : List Symbol). s ++ begins.0) (sym (take-append-drop shorter (take longer symbols))) ∙ append_assoc (take shorter (take longer symbols)) (drop shorter (take longer symbols)) begins.0 ∙ ap (λ (s : List Symbol). s ++ (drop shorter (take longer symbols) ++ begins.0)) front in
    let more_stand = All-append CanStand (drop shorter (take longer symbols)) begins.0 (All-drop CanStand shorter (take longer symbols) (All-take CanStand longer symbols stand)) begins.1.0 in
    (drop shorter (take longer symbols) ++ begins.0, (more_stand, (begins.1.1.0, (begins.1.1.1.0, subst (λ (s : List Symbol). Reads text s begins.1.1.0 (Go Program) 0 (a_clause begins.1.1.1.0) (length s)) all begins.1.1.1.1))))

not_before : (text : List ℕ) (symbols : List Symbol) → All CanStand symbols → (place other : ℕ) → IsUnexpected text symbols place → IsUnexpected text symbols other → place < other → ⊥
not_before text symbols stand place other is was before =
    let h = was.within in
    is.here (omega (arith, before, h)) (begins_less text symbols stand (place + 1) other (omega (arith, before)) was.before)

one_place : (text : List ℕ) (symbols : List Symbol) → All CanStand symbols → (place other : ℕ) → IsUnexpected text symbols place → IsUnexpected text symbols other → place ≡ other
one_place text symbols stand place other is was = elim (cases_order place other) [ inl same ↦ same | inr (inl before) ↦ absurd (not_before text symbols stand place other is was before) | inr (inr behind) ↦ absurd (not_before text symbols stand other place was is behind) ]

one_depth : (text : List ℕ) (symbols : List Symbol) (place other : ℕ) → IsTooDeep text symbols place → IsTooDeep text symbols other → place ≡ other
one_depth text symbols place other is was = elim (cases_order place other) [ inl same ↦ same | inr (inl before) ↦ absurd (was.first place before is.opens) | inr (inr behind) ↦ absurd (is.first other behind was.opens) ]

not_both : (text : List ℕ) (symbols : List Symbol) → All CanStand symbols → (place other : ℕ) (symbol : Symbol) → slice_get symbols other ≡ Some symbol → IsUnexpected text symbols place → IsTooNested text symbols other → ⊥
not_both text symbols stand place other symbol found is was =
    let h = slice_get_within symbols other symbol found in
    elim (cases_order place other) [ inl same ↦ is.here (omega (arith, same, h)) (begins_less text symbols stand (place + 1) (other + 1) (omega (arith, same)) was.expected) | inr (inl before) ↦ is.here (omega (arith, before, h)) (begins_less text symbols stand (place + 1) (other + 1) (omega (arith, before)) was.expected) | inr (inr behind) ↦ is.first other behind was.too_deep.opens ]

-- a text has at most one fault
pub one_fault : (text : List ℕ) (tokens : List Token) {fault other : ParseFault} → IsParseFault text tokens fault → IsParseFault text tokens other → fault ≡ other
one_fault text tokens (unexpected_at place is) (unexpected_at place' is') = ap (λ (p : ℕ). unexpected text (length tokens) (slice_get (read_as tokens) p)) (one_place text (read_as tokens) (symbols_stand None 0 tokens) place place' is is')
one_fault text tokens (unexpected_at place is) (too_nested_at place' symbol found is') = absurd (not_both text (read_as tokens) (symbols_stand None 0 tokens) place place' symbol found is is')
one_fault text tokens (too_nested_at place symbol found is) (unexpected_at place' is') = absurd (not_both text (read_as tokens) (symbols_stand None 0 tokens) place' place symbol found is' is)
one_fault text tokens (too_nested_at place symbol found is) (too_nested_at place' symbol' found' is') = ap (λ (s : Symbol). TooNested s.token.line) (some_same (ap (λ (p : ℕ). slice_get (read_as tokens) p) (sym (one_depth text (read_as tokens) place place' is.too_deep is'.too_deep)) ∙ found) found')
