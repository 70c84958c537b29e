-- The symbols before the place that a reading reaches begin a program.
use Rattle.std.proofs.Common.{◌≡◌, ℕ, suc, ◌+◌, ◌<◌, ◌≤◌, inl, inr, List, [], ◌∷◌, ◌++◌, Bool, true, false, Option, Some, None, length, take, option_map, slice_get, refl, sym, subst, ap, ◌∙◌, arith}
use Rattle.std.proofs.Math.Nat.{eq-or-lt_of_le}
use Rattle.std.proofs.lemmas.List.{length-take-le}
use Rattle.ps_base.specs.declared.line.Line.{Line}
use Rattle.ps_reader.specs.ps_scan.Tokens.{line_of}
use Rattle.ps_reader.specs.ps_scan.declared.token.TokenKind.TheVariants as scanned
use Rattle.ps_tree.specs.ps_symbols.declared.kind.Kind.{Kind}
use Rattle.ps_tree.specs.ps_symbols.declared.kind.Kind.TheVariants as kind
use Rattle.ps_tree.specs.ps_symbols.declared.kind.Kind.TheVariants.{Int, EndOfText}
use Rattle.ps_tree.specs.ps_symbols.declared.kind.Level.{Level}
use Rattle.ps_tree.specs.ps_symbols.declared.kind.Level.TheVariants.{Disjunction, Conjunction, Sum, Product}
use Rattle.ps_tree.specs.ps_symbols.declared.kind.Opening.{Opening}
use Rattle.ps_tree.specs.ps_symbols.declared.kind.Opening.TheVariants as opening
use Rattle.ps_tree.specs.ps_symbols.declared.kind.Operation.{Operation}
use Rattle.ps_tree.specs.ps_symbols.declared.kind.Relating.{Relating}
use Rattle.ps_tree.specs.ps_symbols.declared.kind.Relating.TheVariants.{Compares, IsOf}
use Rattle.ps_tree.specs.ps_symbols.declared.kind.TypeStart.{TypeStart}
use Rattle.ps_tree.specs.ps_symbols.declared.kind.TypeStart.TheVariants as typed
use Rattle.ps_tree.specs.ps_symbols.declared.symbol.Symbol.{Symbol}
use Rattle.ps_tree.specs.ps_symbols.Kinds.{operation_of, relating_of, begins_item, begins_type, opening_of, type_start_of}
use Rattle.ps_tree.specs.Phrase.{Phrase, Phrases}
use Rattle.ps_reader.specs.Grammar.{Made, a_clause, all_groups, the_clause, Part, Nested, a_clause_inside, a_type_inside, Rule, Give, Take, Go, Open, Then, Clause, Program, Ending, Ended, Items, MoreItems, Item, Binding, Literal, Parameters, Groups, MoreGroups, NextGroup, Result, ParameterTypes, MoreTypes, Choice, Until, Test, Between, Step, Body, Cases, Labels, Written, Width, MoreWritten, Assignment, Chain, MoreChain, Relative, Compared, Comparison, Factor, Application, Applied, Arguments, SecondArgument, MoreArguments, Primary, MoreElements, inside, row, ending, ended, items, parameters, parameter_types, more_chain, comparison, opened, typed_as}
use Rattle.ps_parse.specs.Program.{BeginsProgram, CanStand}
use Rattle.std.specs.List.{All}
use Rattle.std.proofs.lemmas.List.Elements.{All-nil, All-cons}
use Rattle.ps_parse.proofs.Ends.{real, all_real, both_true, each_true, real_stands}
use Rattle.ps_reader.specs.Reading.{kind_at, kind_of_next, Reads, gives, takes, goes, opens, joins}
use Rattle.ps_parse.proofs.Unique.{some_same, reads_as}
use Rattle.ps_parse.proofs.Failures.{Fails}
use Rattle.ps_parse.proofs.Prefixes.{forward, reads_alike, row_alike, inside_alike, slice_get-take-append}
use Rattle.ps_parse.proofs.Closings.{Closer, do_closes, else_closes, of_closes, to_closes, while_closes, colon_closes, double_closes, semicolon_closes, round_closes, square_closes, ItemsCloser, curly_behind, word_behind, IsRound, is_end, is_round, first_of, Spells, Closes, Readable, split, join_readable, closes_reads, an_int, a_body, a_test, a_default, a_width, a_literal, a_bracket, a_square, an_int_type, a_name, word_inside, FitsInside, word_of, Fits, part_closes, nested_closes, closes_items, closes_item}

operator_real : (level : Level) (found : Kind) {operation : Operation} → operation_of level found ≡ Some operation → real found ≡ true
operator_real Disjunction EndOfText is = absurd (cc)
operator_real Disjunction _ is = refl
operator_real Conjunction EndOfText is = absurd (cc)
operator_real Conjunction _ is = refl
operator_real Sum EndOfText is = absurd (cc)
operator_real Sum _ is = refl
operator_real Product EndOfText is = absurd (cc)
operator_real Product _ is = refl

relation_real : (found : Kind) {relating : Relating} → relating_of found ≡ Some relating → real found ≡ true
relation_real EndOfText is = absurd (cc)
relation_real _ is = refl

-- a rule of the grammar, the word that closes it, and the kind before which it does
pub data Sound : Kind → Rule → List Kind → Type 0 where
  give : {follow : Kind} {made : Made} → Sound follow (Give made) []
  take_one : {follow kind : Kind} {next : Symbol → Rule} {word : List Kind} → real kind ≡ true → ((symbol : Symbol) → Sound follow (next symbol) word) → Sound follow (Take kind next) (kind ∷ word)
  go : {follow : Kind} {part : Part} → Fits part follow → Sound follow (Go part) (word_of part)
  begin : {follow : Kind} {nested : Nested} → FitsInside nested follow → Sound follow (Open nested) (word_inside nested)
  join : {follow : Kind} {first : Rule} {next : Made → Rule} → (one two : List Kind) → Sound (first_of two follow) first one → ((made : Made) → Sound follow (next made) two) → Sound follow (Then first next) (one ++ two)

pub sound_closes : {text : List ℕ} {follow : Kind} {rule : Rule} {word : List Kind} → Sound follow rule word → Closes text follow rule word
sound_closes give = Closes.given
sound_closes (take_one is more) = Closes.taken λ symbol. sound_closes (more symbol)
sound_closes (go {part = part} fits) = part_closes part fits
sound_closes (begin {nested = nested} fits) = nested_closes nested fits
sound_closes (join one two first more) = Closes.joined one two (sound_closes first) λ made. sound_closes (more made)

append_real : (one two : List Kind) → all_real one ≡ true → all_real two ≡ true → all_real (one ++ two) ≡ true
append_real [] two is was = was
append_real (first ∷ one) two is was =
    let b = each_true (real first) (all_real one) is in
    both_true (real first) (all_real (one ++ two)) b.0 (append_real one two b.1 was)

word_real : (part : Part) → all_real (word_of part) ≡ true
word_real Program = refl
word_real _ = refl

inside_real : (nested : Nested) → all_real (word_inside nested) ≡ true
inside_real a_clause_inside = refl
inside_real a_type_inside = refl

-- a symbol of a kind
abbrev of_kind : Kind → Symbol
of_kind kind = record { kind = kind; number = 0; token = record { what = scanned.Int; line = line_of 1; from = 0; to = 0 } }

-- a word that closes a rule has kinds that symbols can have
sound_real : {follow : Kind} {rule : Rule} {word : List Kind} → Sound follow rule word → all_real word ≡ true
sound_real give = refl
sound_real (take_one {kind = kind} {word = word} is more) = both_true (real kind) (all_real word) is (sound_real (more (of_kind kind)))
sound_real (go {part = part} fits) = word_real part
sound_real (begin {nested = nested} fits) = inside_real nested
sound_real (join one two first more) = append_real one two (sound_real first) (sound_real (more (all_groups [])))

-- a rule that stands in a row of a part, of a clause or of a type is closed too
abbrev RowIsSound : Kind → Option Rule → Type 0
RowIsSound follow None = Unit {0}
RowIsSound follow (Some rule) = (word : List Kind) × Sound follow rule word

module _ {follow : Kind} where
  -- a clause at the end of a rule
  last_clause : {next : Made → Rule} → Closer follow → ((made : Made) → Sound follow (next made) []) → Sound follow (Then Clause next) an_int
  last_clause closer more = join an_int [] (begin closer) more

  opening_sound : (text : List ℕ) (how : Opening) → Closer follow → RowIsSound follow (Some (opened text how))
  opening_sound text opening.Condition closer = (_, take_one refl λ word. join an_int a_body (begin do_closes) λ c. go closer)
  opening_sound text opening.Repetition closer = (_, take_one refl λ word. join an_int a_body (begin do_closes) λ c. take_one refl λ mark. last_clause closer λ a. give)
  opening_sound text opening.Repeating closer = (_, take_one refl λ word. join an_int a_test (begin while_closes) λ a. go closer)
  opening_sound text opening.Counting closer = (_, take_one refl λ word. take_one refl λ name. take_one refl λ mark. join an_int (kind.To ∷ Int ∷ a_body) (begin to_closes) λ a. take_one refl λ to. join an_int a_body (begin do_closes) λ b. go closer)
  opening_sound text opening.Choosing closer = (_, take_one refl λ word. join an_int (kind.Of ∷ a_default) (begin of_closes) λ e. take_one refl λ last. go closer)
  opening_sound text opening.Writing closer = (_, take_one refl λ word. join (an_int ++ a_width) [] (go closer) λ first. go closer)
  opening_sound text opening.Aborting closer = (_, take_one refl λ word. give)
  opening_sound text opening.Procedure closer = (_, take_one refl λ word. go closer)
  opening_sound text opening.Filling closer = (_, take_one refl λ word. join an_int (kind.DoubleColon ∷ Int ∷ kind.Of ∷ an_int) (begin double_closes) λ l. take_one refl λ mark. join an_int (kind.Of ∷ an_int) (begin of_closes) λ u. take_one refl λ last. last_clause closer λ e. give)
  opening_sound text opening.Expression closer = (_, join an_int [] (go closer) λ left. go closer)

  openings_sound : (text : List ℕ) (how : Option Opening) → Closer follow → RowIsSound follow (option_map (opened text) how)
  openings_sound text None closer = tt
  openings_sound text (Some how) closer = opening_sound text how closer

  items_sound : (line : Line) (before : Phrases) (stands : Bool) → ItemsCloser follow → RowIsSound follow (Some (items line before stands))
  items_sound line before true closer = (_, join an_int [] (go (closes_item closer)) λ one. go closer)
  items_sound line before false closer = (_, go closer)

  parameters_sound : (stands : Bool) → IsRound follow → RowIsSound follow (Some (parameters stands))
  parameters_sound true closer = (_, go closer)
  parameters_sound false closer = (_, give)

  parameter_types_sound : (stands : Bool) → IsRound follow → RowIsSound follow (Some (parameter_types stands))
  parameter_types_sound true closer = (_, join an_int_type [] (begin tt) λ t. go closer)
  parameter_types_sound false closer = (_, give)

  chain_sound : (level : Level) (left : Phrase) (found : Kind) (operation : Option Operation) → operation_of level found ≡ operation → Closer follow → RowIsSound follow (Some (more_chain level left found operation))
  chain_sound level left found None is closer = (_, give)
  chain_sound Disjunction left found (Some operation) is closer = (_, take_one (operator_real Disjunction found is) λ mark. join an_int [] (go closer) λ right. go closer)
  chain_sound Conjunction left found (Some operation) is closer = (_, take_one (operator_real Conjunction found is) λ mark. join an_int [] (go closer) λ right. go closer)
  chain_sound Sum left found (Some operation) is closer = (_, take_one (operator_real Sum found is) λ mark. join an_int [] (go closer) λ right. go closer)
  chain_sound Product left found (Some operation) is closer = (_, take_one (operator_real Product found is) λ mark. join an_int [] (go closer) λ right. go closer)

  comparison_sound : (text : List ℕ) (left : Phrase) (found : Kind) (relating : Option Relating) → relating_of found ≡ relating → Closer follow → RowIsSound follow (Some (comparison text left found relating))
  comparison_sound text left found None is closer = (_, give)
  comparison_sound text left found (Some (Compares op)) is closer = (_, take_one (relation_real found is) λ mark. join an_int [] (go closer) λ right. give)
  comparison_sound text left found (Some (IsOf negated)) is closer = (_, take_one (relation_real found is) λ mark. take_one refl λ name. give)

module _ (follow : Kind) where
  typed_sound : (start : TypeStart) → RowIsSound follow (Some (typed_as start))
  typed_sound typed.Int = (_, take_one refl λ word. give)
  typed_sound typed.Bool = (_, take_one refl λ word. give)
  typed_sound typed.Str = (_, take_one refl λ word. give)
  typed_sound typed.Pntr = (_, take_one refl λ word. give)
  typed_sound typed.Vector = (_, take_one refl λ mark. join an_int_type [] (begin tt) λ element. give)
  typed_sound typed.Proc = (_, take_one refl λ word. take_one refl λ mark. join [] a_bracket (go is_round) λ params. join [] a_bracket (go is_round) λ gives. take_one refl λ last. give)

  types_sound : (start : Option TypeStart) → RowIsSound follow (option_map typed_as start)
  types_sound None = tt
  types_sound (Some start) = typed_sound start

  insides_sound : (text : List ℕ) (nested : Nested) (found : Kind) → FitsInside nested follow → RowIsSound follow (inside text nested found)
  insides_sound text a_clause_inside found fits = openings_sound text (opening_of found) fits
  insides_sound text a_type_inside found fits = types_sound (type_start_of found)

  pub inside_sound : (text : List ℕ) (nested : Nested) (found : Kind) {rule : Rule} → FitsInside nested follow → inside text nested found ≡ Some rule → RowIsSound follow (Some rule)
  inside_sound text nested found fits is = subst (λ (o : Option Rule). RowIsSound follow o) is (insides_sound text nested found fits)

rows_sound : (follow : Kind) (text : List ℕ) (part : Part) (found : Kind) → Fits part follow → RowIsSound follow (row text part found)
rows_sound follow text Program found fits = (_, join [] [] (go (closes_items fits)) λ all. go fits)
rows_sound follow text (Ending all) kind.Question fits = (_, take_one refl λ mark. go fits)
rows_sound follow text (Ending all) kind.EndOfText fits = (_, give)
rows_sound follow text (Ending all) _ fits = tt
rows_sound follow text (Ended all) kind.EndOfText fits = (_, give)
rows_sound follow text (Ended all) _ fits = tt
rows_sound follow text (Items line before) found fits = items_sound line before (begins_item found) fits
rows_sound follow text (MoreItems line before) kind.Semicolon fits = (_, take_one refl λ mark. go fits)
rows_sound follow text (MoreItems line before) _ fits = (_, give)
rows_sound follow text Item kind.Let fits = (_, take_one refl λ word. take_one refl λ name. go fits)
rows_sound follow text Item kind.Structure fits = (_, take_one refl λ word. take_one refl λ name. take_one refl λ mark. join [] a_bracket (go is_round) λ fields. take_one refl λ last. give)
rows_sound follow text Item kind.Procedure fits = (_, take_one refl λ word. take_one refl λ name. join a_literal [] (go fits) λ e. give)
rows_sound follow text Item _ fits = (_, begin fits)
rows_sound follow text (Binding line name) kind.Equals fits = (_, take_one refl λ mark. last_clause fits λ e. give)
rows_sound follow text (Binding line name) kind.Becomes fits = (_, take_one refl λ mark. last_clause fits λ e. give)
rows_sound follow text (Binding line name) _ fits = tt
rows_sound follow text (Literal line) found fits = (_, take_one refl λ mark. join [] (kind.CloseRound ∷ kind.Semicolon ∷ an_int) (go is_round) λ params. join [] (kind.CloseRound ∷ kind.Semicolon ∷ an_int) (go is_round) λ gives. take_one refl λ bracket. take_one refl λ last. last_clause fits λ s. give)
rows_sound follow text Parameters found fits = parameters_sound (begins_type found) fits
rows_sound follow text (Groups before) found fits = (_, join an_int_type a_name (begin tt) λ t. take_one refl λ name. go fits)
rows_sound follow text (MoreGroups of_last before) kind.Comma fits = (_, take_one refl λ mark. go fits)
rows_sound follow text (MoreGroups of_last before) kind.Semicolon fits = (_, take_one refl λ mark. go fits)
rows_sound follow text (MoreGroups of_last before) _ fits = (_, give)
rows_sound follow text (NextGroup of_last before) kind.Name fits = (_, take_one refl λ name. go fits)
rows_sound follow text (NextGroup of_last before) _ fits = (_, go fits)
rows_sound follow text Result kind.Arrow fits = (_, take_one refl λ mark. begin tt)
rows_sound follow text Result _ fits = (_, give)
rows_sound follow text ParameterTypes found fits = parameter_types_sound (begins_type found) fits
rows_sound follow text (MoreTypes before) kind.Comma fits = (_, take_one refl λ mark. join an_int_type [] (begin tt) λ t. go fits)
rows_sound follow text (MoreTypes before) _ fits = (_, give)
rows_sound follow text (Choice line c) kind.Do fits = (_, take_one refl λ mark. last_clause fits λ a. give)
rows_sound follow text (Choice line c) kind.Then fits = (_, take_one refl λ mark. join an_int (kind.Else ∷ an_int) (begin else_closes) λ a. take_one refl λ word. last_clause fits λ b. give)
rows_sound follow text (Choice line c) _ fits = tt
rows_sound follow text (Until line a) kind.Semicolon fits = (_, take_one refl λ mark. go fits)
rows_sound follow text (Until line a) _ fits = (_, go fits)
rows_sound follow text (Test line a) found fits = (_, take_one refl λ word. join an_int a_body (begin do_closes) λ c. go fits)
rows_sound follow text (Between line a c) kind.Do fits = (_, take_one refl λ mark. last_clause fits λ b. give)
rows_sound follow text (Between line a c) _ fits = (_, give)
rows_sound follow text (Step line name a b) kind.By fits = (_, take_one refl λ mark. join an_int a_body (begin do_closes) λ c. go fits)
rows_sound follow text (Step line name a b) _ fits = (_, go fits)
rows_sound follow text (Body line name a b c) found fits = (_, take_one refl λ mark. last_clause fits λ s. give)
rows_sound follow text (Cases line e before) kind.Default fits = (_, take_one refl λ word. take_one refl λ mark. last_clause fits λ d. give)
rows_sound follow text (Cases line e before) _ fits = (_, join an_int (kind.Colon ∷ Int ∷ kind.Semicolon ∷ a_default) (begin colon_closes) λ label. go fits)
rows_sound follow text (Labels line e before all) kind.Comma fits = (_, take_one refl λ mark. join an_int (kind.Colon ∷ Int ∷ kind.Semicolon ∷ a_default) (begin colon_closes) λ label. go fits)
rows_sound follow text (Labels line e before all) _ fits = (_, take_one refl λ mark. join an_int (kind.Semicolon ∷ a_default) (begin semicolon_closes) λ a. take_one refl λ last. go fits)
rows_sound follow text Written found fits = (_, join an_int a_width (begin colon_closes) λ e. go fits)
rows_sound follow text (Width e) kind.Colon fits = (_, take_one refl λ mark. last_clause fits λ w. give)
rows_sound follow text (Width e) _ fits = (_, give)
rows_sound follow text (MoreWritten line before) kind.Comma fits = (_, take_one refl λ mark. join (an_int ++ a_width) [] (go fits) λ one. go fits)
rows_sound follow text (MoreWritten line before) _ fits = (_, give)
rows_sound follow text (Assignment left) kind.Becomes fits = (_, take_one refl λ mark. last_clause fits λ e. give)
rows_sound follow text (Assignment left) _ fits = (_, give)
rows_sound follow text (Chain Disjunction) found fits = (_, join an_int [] (go fits) λ left. go fits)
rows_sound follow text (Chain Conjunction) found fits = (_, join an_int [] (go fits) λ left. go fits)
rows_sound follow text (Chain Sum) found fits = (_, join an_int [] (go fits) λ left. go fits)
rows_sound follow text (Chain Product) found fits = (_, join an_int [] (go fits) λ left. go fits)
rows_sound follow text (MoreChain level left) found fits = chain_sound level left found (operation_of level found) refl fits
rows_sound follow text Relative kind.Tilde fits = (_, take_one refl λ mark. join an_int [] (go fits) λ e. give)
rows_sound follow text Relative _ fits = (_, go fits)
rows_sound follow text Compared found fits = (_, join an_int [] (go fits) λ left. go fits)
rows_sound follow text (Comparison left) found fits = comparison_sound text left found (relating_of found) refl fits
rows_sound follow text Factor kind.Plus fits = (_, take_one refl λ mark. join an_int [] (go fits) λ e. give)
rows_sound follow text Factor kind.Minus fits = (_, take_one refl λ mark. join an_int [] (go fits) λ e. give)
rows_sound follow text Factor _ fits = (_, go fits)
rows_sound follow text Application found fits = (_, join an_int [] (go fits) λ f. go fits)
rows_sound follow text (Applied f) kind.OpenRound fits = (_, take_one refl λ mark. join a_bracket [] (go fits) λ made. go fits)
rows_sound follow text (Applied f) _ fits = (_, give)
rows_sound follow text (Arguments line f) kind.CloseRound fits = (_, take_one refl λ mark. give)
rows_sound follow text (Arguments line f) _ fits = (_, join an_int a_bracket (begin round_closes) λ first. go fits)
rows_sound follow text (SecondArgument line f first) kind.Bar fits = (_, take_one refl λ mark. join an_int a_bracket (begin round_closes) λ n. take_one refl λ last. give)
rows_sound follow text (SecondArgument line f first) _ fits = (_, go fits)
rows_sound follow text (MoreArguments line f before) kind.Comma fits = (_, take_one refl λ mark. join an_int a_bracket (begin round_closes) λ one. go fits)
rows_sound follow text (MoreArguments line f before) _ fits = (_, take_one refl λ mark. give)
rows_sound follow text Primary kind.Name fits = (_, take_one refl λ name. give)
rows_sound follow text Primary kind.Int fits = (_, take_one refl λ int. give)
rows_sound follow text Primary kind.Text fits = (_, take_one refl λ string. give)
rows_sound follow text Primary kind.True fits = (_, take_one refl λ word. give)
rows_sound follow text Primary kind.False fits = (_, take_one refl λ word. give)
rows_sound follow text Primary kind.Nil fits = (_, take_one refl λ word. give)
rows_sound follow text Primary kind.OpenRound fits = (_, take_one refl λ mark. join an_int a_bracket (begin round_closes) λ e. take_one refl λ last. give)
rows_sound follow text Primary kind.Begin fits = (_, take_one refl λ mark. join [] (kind.End ∷ []) (go word_behind) λ all. take_one refl λ last. give)
rows_sound follow text Primary kind.OpenCurly fits = (_, take_one refl λ mark. join [] (kind.CloseCurly ∷ []) (go curly_behind) λ all. take_one refl λ last. give)
rows_sound follow text Primary kind.Lwb fits = (_, take_one refl λ word. take_one refl λ mark. join an_int a_bracket (begin round_closes) λ e. take_one refl λ last. give)
rows_sound follow text Primary kind.Upb fits = (_, take_one refl λ word. take_one refl λ mark. join an_int a_bracket (begin round_closes) λ e. take_one refl λ last. give)
rows_sound follow text Primary kind.At fits = (_, take_one refl λ mark. join an_int (kind.Of ∷ kind.IntType ∷ kind.OpenSquare ∷ Int ∷ a_square) (begin of_closes) λ l. take_one refl λ word. join an_int_type (kind.OpenSquare ∷ Int ∷ a_square) (begin tt) λ t. take_one refl λ bracket. join an_int a_square (begin square_closes) λ first. go fits)
rows_sound follow text Primary _ fits = tt
rows_sound follow text (MoreElements line l t before) kind.Comma fits = (_, take_one refl λ mark. join an_int a_square (begin square_closes) λ one. go fits)
rows_sound follow text (MoreElements line l t before) _ fits = (_, take_one refl λ mark. give)

pub row_sound : (follow : Kind) (text : List ℕ) (part : Part) (found : Kind) {rule : Rule} → Fits part follow → row text part found ≡ Some rule → RowIsSound follow (Some rule)
row_sound follow text part found fits is = subst (λ (o : Option Rule). RowIsSound follow o) is (rows_sound follow text part found fits)

-- the reading of a rule from one place on comes to the other. A part of which nothing has been read
-- there is not chosen yet, since other symbols may stand after that place.
pub data Reaches (text : List ℕ) (symbols : List Symbol) : Rule → ℕ → ℕ → Type 0 where
  arrived : {rule : Rule} {from : ℕ} → Reaches text symbols rule from from
  behind_token : {from place : ℕ} {kind : Kind} {next : Symbol → Rule} {symbol : Symbol} → slice_get symbols from ≡ Some symbol → symbol.kind ≡ kind → Reaches text symbols (next symbol) (from + 1) place → Reaches text symbols (Take kind next) from place
  in_part : {from place : ℕ} {part : Part} {rule : Rule} → from < place → row text part (kind_at symbols from) ≡ Some rule → Reaches text symbols rule from place → Reaches text symbols (Go part) from place
  in_nested : {from place : ℕ} {nested : Nested} {rule : Rule} → from < place → inside text nested (kind_at symbols from) ≡ Some rule → Reaches text symbols rule from place → Reaches text symbols (Open nested) from place
  in_first : {from place : ℕ} {first : Rule} {next : Made → Rule} → Reaches text symbols first from place → Reaches text symbols (Then first next) from place
  in_next : {nesting from middle place : ℕ} {first : Rule} {next : Made → Rule} {one : Made} → Reads text symbols nesting first from one middle → middle < place → Reaches text symbols (next one) middle place → Reaches text symbols (Then first next) from place

-- the symbols agree before this place
abbrev AgreeBefore : List Symbol → List Symbol → ℕ → Type 0
AgreeBefore symbols other place = (i : ℕ) → i < place → slice_get symbols i ≡ slice_get other i

-- whatever agrees with the symbols before a place, and spells the word there before the kind, is
-- read by the rule
abbrev Completes : List ℕ → List Symbol → Kind → Rule → ℕ → ℕ → List Kind → Type 0
Completes text symbols follow rule from place word = (other : List Symbol) (to : ℕ) → AgreeBefore symbols other place → Spells other place word to follow → Readable text other rule from to

module _ {text : List ℕ} {symbols : List Symbol} where
  reaches_forward : {rule : Rule} {from place : ℕ} → Reaches text symbols rule from place → from ≤ place
  reaches_forward Reaches.arrived = omega arith
  reaches_forward (Reaches.behind_token found is more) = let h = reaches_forward more in omega (arith, h)
  reaches_forward (Reaches.in_part before is more) = reaches_forward more
  reaches_forward (Reaches.in_nested before is more) = reaches_forward more
  reaches_forward (Reaches.in_first more) = reaches_forward more
  reaches_forward (Reaches.in_next first before more) = let h = forward first in let k = reaches_forward more in omega (arith, h, k)

  arrived_at : {rule : Rule} {from place : ℕ} → from ≡ place → Reaches text symbols rule from place
  arrived_at {rule} {from} same = subst (λ (p : ℕ). Reaches text symbols rule from p) same Reaches.arrived

  -- a part, a clause or a type of which nothing has been read is still to be read
  part_reaches : {from place : ℕ} {part : Part} {rule : Rule} → row text part (kind_at symbols from) ≡ Some rule → Reaches text symbols rule from place → Reaches text symbols (Go part) from place
  part_reaches is more = elim (eq-or-lt_of_le (reaches_forward more)) [ inl same ↦ arrived_at same | inr before ↦ Reaches.in_part before is more ]

  nested_reaches : {from place : ℕ} {nested : Nested} {rule : Rule} → inside text nested (kind_at symbols from) ≡ Some rule → Reaches text symbols rule from place → Reaches text symbols (Open nested) from place
  nested_reaches is more = elim (eq-or-lt_of_le (reaches_forward more)) [ inl same ↦ arrived_at same | inr before ↦ Reaches.in_nested before is more ]

  reaches_to : {rule : Rule} {from middle place : ℕ} → middle ≡ place → Reaches text symbols rule from middle → Reaches text symbols rule from place
  reaches_to {rule} {from} same = subst (λ (p : ℕ). Reaches text symbols rule from p) same

  -- where the second of two things has not been begun, the first may go on
  next_reaches : {nesting from middle place : ℕ} {first : Rule} {next : Made → Rule} {one : Made} → Reads text symbols nesting first from one middle → Reaches text symbols first from middle → Reaches text symbols (next one) middle place → Reaches text symbols (Then first next) from place
  next_reaches first its_end more = elim (eq-or-lt_of_le (reaches_forward more)) [ inl same ↦ Reaches.in_first (reaches_to same its_end) | inr before ↦ Reaches.in_next first before more ]

  -- a reading reaches its end
  read_reaches : {nesting from to : ℕ} {rule : Rule} {made : Made} → Reads text symbols nesting rule from made to → Reaches text symbols rule from to
  read_reaches gives = Reaches.arrived
  read_reaches (takes found is more) = Reaches.behind_token found is (read_reaches more)
  read_reaches (goes is more) = part_reaches is (read_reaches more)
  read_reaches (opens is more) = nested_reaches is (read_reaches more)
  read_reaches (joins first more) = next_reaches first (read_reaches first) (read_reaches more)

  -- where a reading has come to a place, a word completes it
  pub completed : {rule : Rule} {from place : ℕ} → Reaches text symbols rule from place → {follow : Kind} {word : List Kind} → Sound follow rule word → (end : List Kind) × (all_real end ≡ true) × Completes text symbols follow rule from place end
  completed Reaches.arrived {word = word} sound = (word, sound_real sound, λ other to agree spelled. closes_reads (sound_closes sound) spelled)
  completed (Reaches.behind_token {from = from} {symbol = symbol} found is more) (take_one real_kind sound) =
      let h = reaches_forward more in
      let c = completed more (sound symbol) in
      (c.0, c.1, λ other to agree spelled. let r = c.2 other to agree spelled in (r.0, r.1, takes (sym (agree from (omega (arith, h))) ∙ found) is r.2))
  completed (Reaches.in_part {from = from} {part = part} before row_is more) {follow} (go fits) =
      let s = row_sound follow text part (kind_at symbols from) fits row_is in
      let c = completed more s.1 in
      (c.0, c.1, λ other to agree spelled. let r = c.2 other to agree spelled in (r.0, r.1, goes (row_alike text symbols other part from (agree from before) row_is) r.2))
  completed (Reaches.in_nested {from = from} {nested = nested} before inside_is more) {follow} (begin fits) =
      let s = inside_sound follow text nested (kind_at symbols from) fits inside_is in
      let c = completed more s.1 in
      (c.0, c.1, λ other to agree spelled. let r = c.2 other to agree spelled in (suc r.0, r.1, opens (inside_alike text symbols other nested from (agree from before) inside_is) r.2))
  completed (Reaches.in_first {next = next} more) (join one two sound sound') =
      let c = completed more sound in
      (c.0 ++ two, append_real c.0 two c.1 (sound_real (sound' (all_groups []))), λ other to agree spelled. let s = split c.0 two spelled in let r = c.2 other s.0 agree s.1 in join_readable {next = next} r (closes_reads (sound_closes (sound' r.1)) s.2))
  completed (Reaches.in_next {next = next} {one = one} first before more) (join word two sound sound') =
      let c = completed more (sound' one) in
      (c.0, c.1, λ other to agree spelled. let r = c.2 other to agree spelled in join_readable {next = next} (_, one, reads_alike first λ i less. agree i (omega (arith, before, less))) r)

-- symbols of these kinds
abbrev of_kinds : List Kind → List Symbol
of_kinds [] = []
of_kinds (kind ∷ word) = of_kind kind ∷ of_kinds word

kinds_stand : (word : List Kind) → all_real word ≡ true → All CanStand (of_kinds word)
kinds_stand [] is = All-nil CanStand
kinds_stand (first ∷ word) is =
    let b = each_true (real first) (all_real word) is in
    All-cons CanStand (of_kind first) (of_kinds word) (real_stands first b.0) (kinds_stand word b.1)

one_further : (symbol : Symbol) {symbols : List Symbol} {from to : ℕ} {word : List Kind} {follow : Kind} → Spells symbols from word to follow → Spells (symbol ∷ symbols) (suc from) word (suc to) follow
one_further symbol (Spells.no_more is) = Spells.no_more is
one_further symbol (Spells.one_more found is on more) = Spells.one_more found is (omega (arith, on)) (one_further symbol more)

kinds_spell : (word : List Kind) → (end : ℕ) × Spells (of_kinds word) 0 word end EndOfText × (end ≡ length (of_kinds word))
kinds_spell [] = (0, Spells.no_more refl, refl)
kinds_spell (kind ∷ word) = let s = kinds_spell word in (suc s.0, Spells.one_more refl refl (omega arith) (one_further _ s.1), ap suc s.2)

spells_behind : (front : List Symbol) (word : List Kind) → (end : ℕ) × Spells (front ++ of_kinds word) (length front) word end EndOfText × (end ≡ length (front ++ of_kinds word))
spells_behind [] word = kinds_spell word
spells_behind (symbol ∷ front) word = let s = spells_behind front word in (suc s.0, one_further symbol s.1, ap suc s.2)

-- what is read as a program is a clause
abbrev IsClause : Made → Type 0
IsClause made = (tree : Phrase) × (made ≡ a_clause tree)

ended_rule : (all : Phrase) (found : Kind) {rule : Rule} → ended all found ≡ Some rule → rule ≡ Give (a_clause all)
ended_rule all kind.EndOfText is = some_same is refl
ended_rule all _ is = absurd (cc)

module _ {text : List ℕ} {symbols : List Symbol} where
  given_made : {nesting from to : ℕ} {one made : Made} → Reads text symbols nesting (Give one) from made to → made ≡ one
  given_made gives = refl

  ended_made : {nesting from to : ℕ} (all : Phrase) {made : Made} → Reads text symbols nesting (Go (Ended all)) from made to → IsClause made
  ended_made all (goes {from = from} is more) = (all, given_made (reads_as (ended_rule all (kind_at symbols from) is) more))

  question_made : {nesting from to : ℕ} (all : Phrase) {made : Made} → Reads text symbols nesting (Take kind.Question (λ mark. Go (Ended all))) from made to → IsClause made
  question_made all (takes found is more) = ended_made all more

  ending_made : {nesting from to : ℕ} (all : Phrase) (found : Kind) {rule : Rule} {made : Made} → ending all found ≡ Some rule → Reads text symbols nesting rule from made to → IsClause made
  ending_made all kind.Question is more = question_made all (reads_as (some_same is refl) more)
  ending_made all kind.EndOfText is more = (all, given_made (reads_as (some_same is refl) more))
  ending_made all _ is more = absurd (cc)

  both_made : {nesting from to : ℕ} {first : Rule} {made : Made} → Reads text symbols nesting (Then first (λ all. Go (Ending (the_clause all)))) from made to → IsClause made
  both_made (joins {one = one} first (goes {from = from} is more)) = ending_made (the_clause one) (kind_at symbols from) is more

  program_made : {nesting from to : ℕ} {made : Made} → Reads text symbols nesting (Go Program) from made to → IsClause made
  program_made (goes is more) = both_made (reads_as (some_same is refl) more)

-- the symbols before a place to which the reading of the program comes begin a program
pub begins_program : (text : List ℕ) (symbols : List Symbol) (place : ℕ) → place ≤ length symbols → Reaches text symbols (Go Program) 0 place → BeginsProgram text (take place symbols)
begins_program text symbols place within reaches =
    let c = completed reaches {follow = EndOfText} {word = []} (go is_end) in
    let all : List Symbol = take place symbols ++ of_kinds c.0 in
    let s = spells_behind (take place symbols) c.0 in
    let r = c.2 all s.0 (λ i before. slice_get-take-append symbols (of_kinds c.0) place i before within) (subst (λ (p : ℕ). Spells all p c.0 s.0 EndOfText) (length-take-le place symbols within) s.1) in
    let made = program_made r.2 in
    (of_kinds c.0, (kinds_stand c.0 c.1, (r.0, (made.0, subst (λ (p : ℕ). Reads text all r.0 (Go Program) 0 (a_clause made.0) p) s.2 (subst (λ (m : Made). Reads text all r.0 (Go Program) 0 m s.0) made.1 r.2)))))

module _ {text : List ℕ} {symbols : List Symbol} where
  -- a reading that fails comes to the place where it fails
  pub reaches : {deep : Bool} {room : ℕ} {rule : Rule} {from place : ℕ} → Fails text symbols deep room rule from place → Reaches text symbols rule from place
  reaches (Fails.wrong_token wrong) = Reaches.arrived
  reaches (Fails.no_part none) = Reaches.arrived
  reaches (Fails.nothing_inside none) = Reaches.arrived
  reaches (Fails.no_room found is) = Reaches.arrived
  reaches (Fails.behind_token found is more) = Reaches.behind_token found is (reaches more)
  reaches (Fails.in_part is more) = part_reaches is (reaches more)
  reaches (Fails.in_nested is more) = nested_reaches is (reaches more)
  reaches (Fails.in_first more) = Reaches.in_first (reaches more)
  reaches (Fails.in_next first more) = next_reaches first (read_reaches first) (reaches more)

  -- a clause that is an expression is read from its first token on
  expression_reaches : {from to : ℕ} → Reaches text symbols (Go Relative) from to → Reaches text symbols (opened text opening.Expression) from to
  expression_reaches more = Reaches.in_first (part_reaches refl (Reaches.in_first (part_reaches refl (Reaches.in_first more))))

  compared_reaches : {from to : ℕ} → Reaches text symbols (Go Factor) from to → Reaches text symbols (Go Compared) from to
  compared_reaches more = part_reaches refl (Reaches.in_first (part_reaches refl (Reaches.in_first (part_reaches refl (Reaches.in_first more)))))

module _ (text : List ℕ) (symbols : List Symbol) (from : ℕ) (symbol : Symbol) (found : slice_get symbols from ≡ Some symbol) where
  row_here : (part : Part) (kind : Kind) {rule : Option Rule} → symbol.kind ≡ kind → row text part kind ≡ rule → row text part (kind_at symbols from) ≡ rule
  row_here part kind is row_is = ap (λ (o : Option Symbol). row text part (kind_of_next o)) found ∙ ap (λ (k : Kind). row text part k) is ∙ row_is

  takes_here : (kind : Kind) {next : Symbol → Rule} → symbol.kind ≡ kind → Reaches text symbols (Take kind next) from (from + 1)
  takes_here kind is = Reaches.behind_token found is Reaches.arrived

  factor_reaches : (kind : Kind) {next : Symbol → Rule} → symbol.kind ≡ kind → row text Relative kind ≡ Some (Go Compared) → row text Factor kind ≡ Some (Take kind next) → Reaches text symbols (opened text opening.Expression) from (from + 1)
  factor_reaches kind is relative factor = expression_reaches (part_reaches (row_here Relative kind is relative) (compared_reaches (part_reaches (row_here Factor kind is factor) (takes_here kind is))))

  primary_reaches : (kind : Kind) {next : Symbol → Rule} → symbol.kind ≡ kind → row text Relative kind ≡ Some (Go Compared) → row text Factor kind ≡ Some (Go Application) → row text Primary kind ≡ Some (Take kind next) → Reaches text symbols (opened text opening.Expression) from (from + 1)
  primary_reaches kind is relative factor primary = expression_reaches (part_reaches (row_here Relative kind is relative) (compared_reaches (part_reaches (row_here Factor kind is factor) (part_reaches refl (Reaches.in_first (part_reaches (row_here Primary kind is primary) (takes_here kind is)))))))

  abbrev Passes : Option Rule → Type 0
  Passes None = Unit {0}
  Passes (Some rule) = Reaches text symbols rule from (from + 1)

  clause_passes : (kind : Kind) → symbol.kind ≡ kind → Passes (inside text a_clause_inside kind)
  clause_passes kind.If is = takes_here kind.If is
  clause_passes kind.While is = takes_here kind.While is
  clause_passes kind.Repeat is = takes_here kind.Repeat is
  clause_passes kind.For is = takes_here kind.For is
  clause_passes kind.Case is = takes_here kind.Case is
  clause_passes kind.Write is = takes_here kind.Write is
  clause_passes kind.Abort is = takes_here kind.Abort is
  clause_passes kind.Proc is = takes_here kind.Proc is
  clause_passes kind.Vector is = takes_here kind.Vector is
  clause_passes kind.Name is = primary_reaches kind.Name is refl refl refl
  clause_passes kind.Int is = primary_reaches kind.Int is refl refl refl
  clause_passes kind.Text is = primary_reaches kind.Text is refl refl refl
  clause_passes kind.True is = primary_reaches kind.True is refl refl refl
  clause_passes kind.False is = primary_reaches kind.False is refl refl refl
  clause_passes kind.Nil is = primary_reaches kind.Nil is refl refl refl
  clause_passes kind.Begin is = primary_reaches kind.Begin is refl refl refl
  clause_passes kind.OpenRound is = primary_reaches kind.OpenRound is refl refl refl
  clause_passes kind.OpenCurly is = primary_reaches kind.OpenCurly is refl refl refl
  clause_passes kind.Lwb is = primary_reaches kind.Lwb is refl refl refl
  clause_passes kind.Upb is = primary_reaches kind.Upb is refl refl refl
  clause_passes kind.At is = primary_reaches kind.At is refl refl refl
  clause_passes kind.Plus is = factor_reaches kind.Plus is refl refl
  clause_passes kind.Minus is = factor_reaches kind.Minus is refl refl
  clause_passes kind.Tilde is = expression_reaches (part_reaches (row_here Relative kind.Tilde is refl) (takes_here kind.Tilde is))
  clause_passes _ is = tt

  type_passes : (kind : Kind) → symbol.kind ≡ kind → Passes (inside text a_type_inside kind)
  type_passes kind.IntType is = takes_here kind.IntType is
  type_passes kind.BoolType is = takes_here kind.BoolType is
  type_passes kind.StringType is = takes_here kind.StringType is
  type_passes kind.PntrType is = takes_here kind.PntrType is
  type_passes kind.Times is = takes_here kind.Times is
  type_passes kind.Proc is = takes_here kind.Proc is
  type_passes _ is = tt

  nested_passes : (nested : Nested) → Passes (inside text nested symbol.kind)
  nested_passes a_clause_inside = clause_passes symbol.kind refl
  nested_passes a_type_inside = type_passes symbol.kind refl

  -- a clause and a type that begins with a symbol reads it
  inside_passes : (nested : Nested) {rule : Rule} → inside text nested symbol.kind ≡ Some rule → Reaches text symbols rule from (from + 1)
  inside_passes nested is = subst (λ (o : Option Rule). Passes o) is (nested_passes nested)

module _ {text : List ℕ} {symbols : List Symbol} where
  -- a reading that fails for want of room comes after the token that opens the clause or the type
  pub reaches_behind : {room : ℕ} {rule : Rule} {from place : ℕ} → Fails text symbols true room rule from place → Reaches text symbols rule from (place + 1)
  reaches_behind (Fails.no_room {from = from} {nested = nested} {symbol = symbol} found is) = nested_reaches (ap (λ (o : Option Symbol). inside text nested (kind_of_next o)) found ∙ is) (inside_passes text symbols from symbol found nested is)
  reaches_behind (Fails.behind_token found is more) = Reaches.behind_token found is (reaches_behind more)
  reaches_behind (Fails.in_part is more) = part_reaches is (reaches_behind more)
  reaches_behind (Fails.in_nested is more) = nested_reaches is (reaches_behind more)
  reaches_behind (Fails.in_first more) = Reaches.in_first (reaches_behind more)
  reaches_behind (Fails.in_next first more) = next_reaches first (read_reaches first) (reaches_behind more)
