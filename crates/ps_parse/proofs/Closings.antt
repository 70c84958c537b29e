-- For each rule there is a word of tokens that closes it, before a token that no repetition takes.
use Rattle.std.proofs.Common.{◌≡◌, ℕ, suc, ◌+◌, List, [], ◌∷◌, ◌++◌, Bool, false, Option, Some, None, slice_get, refl, ap, ◌∙◌, arith}
use Rattle.ps_base.specs.TyView.{TyView, TyViews}
use Rattle.ps_base.specs.declared.line.Line.{Line}
use Rattle.ps_tree.specs.ps_symbols.declared.kind.Kind.{Kind}
use Rattle.ps_tree.specs.ps_symbols.declared.kind.Kind.TheVariants as kind
use Rattle.ps_tree.specs.ps_symbols.declared.kind.Kind.TheVariants.{Int, Do}
use Rattle.ps_tree.specs.ps_symbols.declared.kind.Level.{Level}
use Rattle.ps_tree.specs.ps_symbols.declared.kind.Level.TheVariants.{Disjunction, Conjunction, Sum, Product}
use Rattle.ps_tree.specs.ps_symbols.declared.kind.Operation.{Operation}
use Rattle.ps_tree.specs.ps_symbols.declared.kind.Relating.{Relating}
use Rattle.ps_tree.specs.ps_symbols.declared.symbol.Symbol.{Symbol}
use Rattle.ps_tree.specs.ps_symbols.Kinds.{operation_of, relating_of, begins_item}
use Rattle.ps_tree.specs.Phrase.{GroupAt, Phrase, Phrases, Arms, WriteItems}
use Rattle.ps_tree.specs.Phrase as form
use Rattle.ps_reader.specs.Grammar.{Made, a_clause, Part, Nested, a_clause_inside, a_type_inside, Rule, Give, Take, Go, Open, Then, Clause, Type_, Program, Ending, Ended, Items, MoreItems, Item, Binding, Literal, Parameters, Groups, MoreGroups, NextGroup, Result, ParameterTypes, MoreTypes, Choice, Until, Test, Between, Step, Body, Cases, Labels, Written, Width, MoreWritten, Assignment, Chain, MoreChain, Relative, Compared, Comparison, Factor, Application, Applied, Arguments, SecondArgument, MoreArguments, Primary, MoreElements, give, inside, row, items, items_end, more_written, assignment, more_chain, comparison, applied}
use Rattle.ps_reader.specs.Reading.{kind_at, kind_of_next, Reads, gives, takes, goes, opens, joins}
use Rattle.ps_parse.proofs.Unique.{reads_from}
use Rattle.ps_parse.proofs.Prefixes.{roomier}

-- the tokens that close what stands open, and that no repetition takes
pub data Closer : Kind → Type 0 where
  do_closes : Closer kind.Do
  else_closes : Closer kind.Else
  of_closes : Closer kind.Of
  to_closes : Closer kind.To
  while_closes : Closer kind.While
  colon_closes : Closer kind.Colon
  double_closes : Closer kind.DoubleColon
  semicolon_closes : Closer kind.Semicolon
  round_closes : Closer kind.CloseRound
  square_closes : Closer kind.CloseSquare
  curly_closes : Closer kind.CloseCurly
  word_closes : Closer kind.End
  end_closes : Closer kind.EndOfText

-- those after the items of a block or of a program
pub data ItemsCloser : Kind → Type 0 where
  curly_behind : ItemsCloser kind.CloseCurly
  word_behind : ItemsCloser kind.End
  end_behind : ItemsCloser kind.EndOfText

pub data IsEnd : Kind → Type 0 where
  is_end : IsEnd kind.EndOfText

pub data IsRound : Kind → Type 0 where
  is_round : IsRound kind.CloseRound

-- the first token of a word, or what stands after an empty one
abbrev pub first_of : List Kind → Kind → Kind
first_of [] follow = follow
first_of (first ∷ word) follow = first

-- the symbols from one place to the other are of the kinds of the word, and the kind stands after them
pub data Spells (symbols : List Symbol) : ℕ → List Kind → ℕ → Kind → Type 0 where
  no_more : {from : ℕ} {follow : Kind} → kind_at symbols from ≡ follow → Spells symbols from [] from follow
  one_more : {from next to : ℕ} {kind follow : Kind} {word : List Kind} {symbol : Symbol} → slice_get symbols from ≡ Some symbol → symbol.kind ≡ kind → next ≡ from + 1 → Spells symbols next word to follow → Spells symbols from (kind ∷ word) to follow

-- whatever its tokens are, the word is read by the rule before this kind
pub data Closes (text : List ℕ) : Kind → Rule → List Kind → Type 0 where
  given : {follow : Kind} {made : Made} → Closes text follow (Give made) []
  taken : {follow kind : Kind} {next : Symbol → Rule} {word : List Kind} → ((symbol : Symbol) → Closes text follow (next symbol) word) → Closes text follow (Take kind next) (kind ∷ word)
  gone : {follow : Kind} {part : Part} {rule : Rule} {word : List Kind} → row text part (first_of word follow) ≡ Some rule → Closes text follow rule word → Closes text follow (Go part) word
  begun : {follow : Kind} {nested : Nested} {rule : Rule} {word : List Kind} → inside text nested (first_of word follow) ≡ Some rule → Closes text follow rule word → Closes text follow (Open nested) word
  joined : {follow : Kind} {first : Rule} {next : Made → Rule} → (one two : List Kind) → Closes text (first_of two follow) first one → ((made : Made) → Closes text follow (next made) two) → Closes text follow (Then first next) (one ++ two)

-- the rule can be read from one place to the other
abbrev pub Readable : List ℕ → List Symbol → Rule → ℕ → ℕ → Type 0
Readable text symbols rule from to = (nesting : ℕ) × (made : Made) × Reads text symbols nesting rule from made to

pub spells_first : {symbols : List Symbol} {from to : ℕ} {word : List Kind} {follow : Kind} → Spells symbols from word to follow → kind_at symbols from ≡ first_of word follow
spells_first (Spells.no_more is) = is
spells_first (Spells.one_more here is on more) = ap kind_of_next here ∙ is

pub split : {symbols : List Symbol} {follow : Kind} (one two : List Kind) {from to : ℕ} → Spells symbols from (one ++ two) to follow → (middle : ℕ) × Spells symbols from one middle (first_of two follow) × Spells symbols middle two to follow
split [] two {from = from} all = (from, Spells.no_more (spells_first all), all)
split (first ∷ one) two (Spells.one_more here is on more) = let s = split one two more in (s.0, Spells.one_more here is on s.1, s.2)

pub join_readable : {text : List ℕ} {symbols : List Symbol} {first : Rule} {next : Made → Rule} {from middle to : ℕ} (one : Readable text symbols first from middle) → Readable text symbols (next one.1) middle to → Readable text symbols (Then first next) from to
join_readable one two = (one.0 + two.0, two.1, joins (roomier one.2 (one.0 + two.0) (omega arith)) (roomier two.2 (one.0 + two.0) (omega arith)))

module _ {text : List ℕ} where
  -- where the word stands, the rule is read
  pub closes_reads : {follow : Kind} {rule : Rule} {word : List Kind} → Closes text follow rule word → {symbols : List Symbol} {from to : ℕ} → Spells symbols from word to follow → Readable text symbols rule from to
  closes_reads Closes.given (Spells.no_more is) = (0, _, gives)
  closes_reads (Closes.taken more) (Spells.one_more {symbol = symbol} here is on rest) = let r = closes_reads (more symbol) rest in (r.0, r.1, takes here is (reads_from on r.2))
  closes_reads (Closes.gone {part = part} is more) all = let r = closes_reads more all in (r.0, r.1, goes (ap (λ (k : Kind). row text part k) (spells_first all) ∙ is) r.2)
  closes_reads (Closes.begun {nested = nested} is more) all = let r = closes_reads more all in (suc r.0, r.1, opens (ap (λ (k : Kind). inside text nested k) (spells_first all) ∙ is) r.2)
  closes_reads (Closes.joined {next = next} one two first more) all =
      let s = split one two all in
      let r = closes_reads first s.1 in
      join_readable {next = next} r (closes_reads (more r.1) s.2)

-- no repetition takes a closer
items_end_there : {follow : Kind} (line : Line) (before : Phrases) → ItemsCloser follow → items_end line before follow ≡ give (form.Sequence before) line
items_end_there line before curly_behind = refl
items_end_there line before _ = refl

no_item : {follow : Kind} → ItemsCloser follow → begins_item follow ≡ false
no_item curly_behind = refl
no_item _ = refl

written_end : {follow : Kind} (line : Line) (before : WriteItems) → Closer follow → more_written line before follow ≡ give (form.Write before) line
written_end line before do_closes = refl
written_end line before _ = refl

assignment_ends : {follow : Kind} (left : Phrase) → Closer follow → assignment left follow ≡ Give (a_clause left)
assignment_ends left do_closes = refl
assignment_ends left _ = refl

chain_ends : {follow : Kind} (level : Level) → Closer follow → operation_of level follow ≡ None
chain_ends Disjunction do_closes = refl
chain_ends Disjunction _ = refl
chain_ends Conjunction do_closes = refl
chain_ends Conjunction _ = refl
chain_ends Sum do_closes = refl
chain_ends Sum _ = refl
chain_ends Product do_closes = refl
chain_ends Product _ = refl

no_relation : {follow : Kind} → Closer follow → relating_of follow ≡ None
no_relation do_closes = refl
no_relation _ = refl

applied_ends : {follow : Kind} (f : Phrase) → Closer follow → applied f follow ≡ Give (a_clause f)
applied_ends f do_closes = refl
applied_ends f _ = refl

-- the words of which closing words are made
abbrev pub an_int : List Kind
an_int = Int ∷ []

abbrev pub a_body : List Kind
a_body = Do ∷ Int ∷ []

abbrev pub a_test : List Kind
a_test = kind.While ∷ Int ∷ Do ∷ Int ∷ []

abbrev pub a_default : List Kind
a_default = kind.Default ∷ kind.Colon ∷ Int ∷ []

abbrev pub a_width : List Kind
a_width = kind.Colon ∷ Int ∷ []

abbrev pub a_literal : List Kind
a_literal = kind.OpenRound ∷ kind.CloseRound ∷ kind.Semicolon ∷ Int ∷ []

abbrev pub a_bracket : List Kind
a_bracket = kind.CloseRound ∷ []

abbrev pub a_square : List Kind
a_square = kind.CloseSquare ∷ []

abbrev pub an_int_type : List Kind
an_int_type = kind.IntType ∷ []

abbrev pub a_name : List Kind
a_name = kind.Name ∷ []

-- the word that closes a clause and a type, and the kinds before which it does
abbrev pub word_inside : Nested → List Kind
word_inside a_clause_inside = an_int
word_inside a_type_inside = an_int_type

abbrev pub FitsInside : Nested → Kind → Type 0
FitsInside a_clause_inside follow = Closer follow
FitsInside a_type_inside follow = Unit {0}

-- the word that closes a part, and the kinds before which it does
abbrev pub word_of : Part → List Kind
word_of Program = []
word_of (Ending all) = []
word_of (Ended all) = []
word_of (Items line before) = []
word_of (MoreItems line before) = []
word_of Item = an_int
word_of (Binding line name) = kind.Equals ∷ an_int
word_of (Literal line) = a_literal
word_of Parameters = []
word_of (Groups before) = an_int_type ++ a_name
word_of (MoreGroups of_last before) = []
word_of (NextGroup of_last before) = a_name
word_of Result = []
word_of ParameterTypes = []
word_of (MoreTypes before) = []
word_of (Choice line c) = a_body
word_of (Until line a) = a_test
word_of (Test line a) = a_test
word_of (Between line a c) = a_body
word_of (Step line name a b) = a_body
word_of (Body line name a b c) = a_body
word_of (Cases line e before) = a_default
word_of (Labels line e before all) = kind.Colon ∷ Int ∷ kind.Semicolon ∷ a_default
word_of Written = an_int ++ a_width
word_of (Width e) = a_width
word_of (MoreWritten line before) = []
word_of (Assignment left) = []
word_of (Chain level) = an_int
word_of (MoreChain level left) = []
word_of Relative = an_int
word_of Compared = an_int
word_of (Comparison left) = []
word_of Factor = an_int
word_of Application = an_int
word_of (Applied f) = []
word_of (Arguments line f) = a_bracket
word_of (SecondArgument line f first) = a_bracket
word_of (MoreArguments line f before) = a_bracket
word_of Primary = an_int
word_of (MoreElements line l t before) = a_square

abbrev pub Fits : Part → Kind → Type 0
Fits Program follow = IsEnd follow
Fits (Ending all) follow = IsEnd follow
Fits (Ended all) follow = IsEnd follow
Fits (Items line before) follow = ItemsCloser follow
Fits (MoreItems line before) follow = ItemsCloser follow
Fits Parameters follow = IsRound follow
Fits (Groups before) follow = IsRound follow
Fits (MoreGroups of_last before) follow = IsRound follow
Fits (NextGroup of_last before) follow = IsRound follow
Fits Result follow = IsRound follow
Fits ParameterTypes follow = IsRound follow
Fits (MoreTypes before) follow = IsRound follow
Fits _ follow = Closer follow

pub closes_items : {follow : Kind} → IsEnd follow → ItemsCloser follow
closes_items is_end = end_behind

pub closes_item : {follow : Kind} → ItemsCloser follow → Closer follow
closes_item curly_behind = curly_closes
closes_item word_behind = word_closes
closes_item end_behind = end_closes

module _ {text : List ℕ} where
  ended_close : {follow : Kind} {all : Phrase} → IsEnd follow → Closes text follow (Go (Ended all)) []
  ended_close is_end = Closes.gone refl Closes.given

  ending_closes : {follow : Kind} {all : Phrase} → IsEnd follow → Closes text follow (Go (Ending all)) []
  ending_closes is_end = Closes.gone refl Closes.given

  parameters_close : {follow : Kind} → IsRound follow → Closes text follow (Go Parameters) []
  parameters_close is_round = Closes.gone refl Closes.given

  more_groups_close : {follow : Kind} {of_last : TyView} {before : List GroupAt} → IsRound follow → Closes text follow (Go (MoreGroups of_last before)) []
  more_groups_close is_round = Closes.gone refl Closes.given

  result_closes : {follow : Kind} → IsRound follow → Closes text follow (Go Result) []
  result_closes is_round = Closes.gone refl Closes.given

  parameter_types_close : {follow : Kind} → IsRound follow → Closes text follow (Go ParameterTypes) []
  parameter_types_close is_round = Closes.gone refl Closes.given

  more_types_close : {follow : Kind} {before : TyViews} → IsRound follow → Closes text follow (Go (MoreTypes before)) []
  more_types_close is_round = Closes.gone refl Closes.given

module _ {text : List ℕ} {follow : Kind} where
  items_close : {line : Line} {before : Phrases} → ItemsCloser follow → Closes text follow (Go (MoreItems line before)) []
  items_close {line} {before} closer = Closes.gone (ap Some (items_end_there line before closer)) Closes.given

  all_items_close : {line : Line} {before : Phrases} → ItemsCloser follow → Closes text follow (Go (Items line before)) []
  all_items_close {line} {before} closer = Closes.gone (ap (λ (b : Bool). Some (items line before b)) (no_item closer)) (items_close closer)

  written_close : {line : Line} {before : WriteItems} → Closer follow → Closes text follow (Go (MoreWritten line before)) []
  written_close {line} {before} closer = Closes.gone (ap Some (written_end line before closer)) Closes.given

  assignment_closes : {left : Phrase} → Closer follow → Closes text follow (Go (Assignment left)) []
  assignment_closes {left} closer = Closes.gone (ap Some (assignment_ends left closer)) Closes.given

  chain_closes : {level : Level} {left : Phrase} → Closer follow → Closes text follow (Go (MoreChain level left)) []
  chain_closes {level} {left} closer = Closes.gone (ap (λ (o : Option Operation). Some (more_chain level left follow o)) (chain_ends level closer)) Closes.given

  comparison_closes : {left : Phrase} → Closer follow → Closes text follow (Go (Comparison left)) []
  comparison_closes {left} closer = Closes.gone (ap (λ (o : Option Relating). Some (comparison text left follow o)) (no_relation closer)) Closes.given

  applied_closes : {f : Phrase} → Closer follow → Closes text follow (Go (Applied f)) []
  applied_closes {f} closer = Closes.gone (ap Some (applied_ends f closer)) Closes.given

  primary_closes : Closes text follow (Go Primary) an_int
  primary_closes = Closes.gone refl (Closes.taken λ symbol. Closes.given)

  application_closes : Closer follow → Closes text follow (Go Application) an_int
  application_closes closer = Closes.gone refl (Closes.joined an_int [] primary_closes λ made. applied_closes closer)

  factor_closes : Closer follow → Closes text follow (Go Factor) an_int
  factor_closes closer = Closes.gone refl (application_closes closer)

  product_closes : Closer follow → Closes text follow (Go (Chain Product)) an_int
  product_closes closer = Closes.gone refl (Closes.joined an_int [] (factor_closes closer) λ made. chain_closes closer)

  sum_closes : Closer follow → Closes text follow (Go (Chain Sum)) an_int
  sum_closes closer = Closes.gone refl (Closes.joined an_int [] (product_closes closer) λ made. chain_closes closer)

  compared_closes : Closer follow → Closes text follow (Go Compared) an_int
  compared_closes closer = Closes.gone refl (Closes.joined an_int [] (sum_closes closer) λ made. comparison_closes closer)

  relative_closes : Closer follow → Closes text follow (Go Relative) an_int
  relative_closes closer = Closes.gone refl (compared_closes closer)

  conjunction_closes : Closer follow → Closes text follow (Go (Chain Conjunction)) an_int
  conjunction_closes closer = Closes.gone refl (Closes.joined an_int [] (relative_closes closer) λ made. chain_closes closer)

  disjunction_closes : Closer follow → Closes text follow (Go (Chain Disjunction)) an_int
  disjunction_closes closer = Closes.gone refl (Closes.joined an_int [] (conjunction_closes closer) λ made. chain_closes closer)

  clause_closes : Closer follow → Closes text follow Clause an_int
  clause_closes closer = Closes.begun refl (Closes.joined an_int [] (disjunction_closes closer) λ made. assignment_closes closer)

  type_closes : Closes text follow Type_ an_int_type
  type_closes = Closes.begun refl (Closes.taken λ symbol. Closes.given)

  pub nested_closes : (nested : Nested) → FitsInside nested follow → Closes text follow (Open nested) (word_inside nested)
  nested_closes a_clause_inside fits = clause_closes fits
  nested_closes a_type_inside fits = type_closes

  -- a clause at the end of a part
  last_clause : {next : Made → Rule} → Closer follow → ((made : Made) → Closes text follow (next made) []) → Closes text follow (Then Clause next) an_int
  last_clause closer more = Closes.joined an_int [] (clause_closes closer) more

module _ {text : List ℕ} {follow : Kind} where
  literal_closes : {line : Line} → Closer follow → Closes text follow (Go (Literal line)) a_literal
  literal_closes closer = Closes.gone refl (Closes.taken λ symbol. Closes.joined [] (kind.CloseRound ∷ kind.Semicolon ∷ an_int) (parameters_close is_round) λ params. Closes.joined [] (kind.CloseRound ∷ kind.Semicolon ∷ an_int) (result_closes is_round) λ gives. Closes.taken λ bracket. Closes.taken λ mark. last_clause closer λ s. Closes.given)

  body_closes : {next : Made → Rule} → Closer follow → ((made : Made) → Closes text follow (next made) []) → Closes text follow (Take Do λ mark. Then Clause next) a_body
  body_closes closer more = Closes.taken λ mark. last_clause closer more

  between_closes : {line : Line} {a c : Phrase} → Closer follow → Closes text follow (Go (Between line a c)) a_body
  between_closes closer = Closes.gone refl (body_closes closer λ b. Closes.given)

  test_closes : {line : Line} {a : Phrase} → Closer follow → Closes text follow (Go (Test line a)) a_test
  test_closes closer = Closes.gone refl (Closes.taken λ word. Closes.joined an_int a_body (clause_closes do_closes) λ c. between_closes closer)

  default_closes : {line : Line} {e : Phrase} {before : Arms} → Closer follow → Closes text follow (Go (Cases line e before)) a_default
  default_closes closer = Closes.gone refl (Closes.taken λ word. Closes.taken λ mark. last_clause closer λ d. Closes.given)

  width_closes : {e : Phrase} → Closer follow → Closes text follow (Go (Width e)) a_width
  width_closes closer = Closes.gone refl (Closes.taken λ mark. last_clause closer λ w. Closes.given)

  arguments_close : {line : Line} {f : Phrase} {before : Phrases} → Closes text follow (Go (MoreArguments line f before)) a_bracket
  arguments_close = Closes.gone refl (Closes.taken λ mark. Closes.given)

pub part_closes : {text : List ℕ} {follow : Kind} (part : Part) → Fits part follow → Closes text follow (Go part) (word_of part)
part_closes Program fits = Closes.gone refl (Closes.joined [] [] (all_items_close (closes_items fits)) λ all. ending_closes fits)
part_closes (Ending all) fits = ending_closes fits
part_closes (Ended all) fits = ended_close fits
part_closes (Items line before) fits = all_items_close fits
part_closes (MoreItems line before) fits = items_close fits
part_closes Item fits = Closes.gone refl (clause_closes fits)
part_closes (Binding line name) fits = Closes.gone refl (Closes.taken λ mark. last_clause fits λ e. Closes.given)
part_closes (Literal line) fits = literal_closes fits
part_closes Parameters fits = parameters_close fits
part_closes (Groups before) fits = Closes.gone refl (Closes.joined an_int_type a_name type_closes λ t. Closes.taken λ name. more_groups_close fits)
part_closes (MoreGroups of_last before) fits = more_groups_close fits
part_closes (NextGroup of_last before) fits = Closes.gone refl (Closes.taken λ name. more_groups_close fits)
part_closes Result fits = result_closes fits
part_closes ParameterTypes fits = parameter_types_close fits
part_closes (MoreTypes before) fits = more_types_close fits
part_closes (Choice line c) fits = Closes.gone refl (body_closes fits λ a. Closes.given)
part_closes (Until line a) fits = Closes.gone refl (test_closes fits)
part_closes (Test line a) fits = test_closes fits
part_closes (Between line a c) fits = between_closes fits
part_closes (Step line name a b) fits = Closes.gone refl (Closes.gone refl (body_closes fits λ s. Closes.given))
part_closes (Body line name a b c) fits = Closes.gone refl (body_closes fits λ s. Closes.given)
part_closes (Cases line e before) fits = default_closes fits
part_closes (Labels line e before all) fits = Closes.gone refl (Closes.taken λ mark. Closes.joined an_int (kind.Semicolon ∷ a_default) (clause_closes semicolon_closes) λ a. Closes.taken λ last. default_closes fits)
part_closes Written fits = Closes.gone refl (Closes.joined an_int a_width (clause_closes colon_closes) λ e. width_closes fits)
part_closes (Width e) fits = width_closes fits
part_closes (MoreWritten line before) fits = written_close fits
part_closes (Assignment left) fits = assignment_closes fits
part_closes (Chain Disjunction) fits = disjunction_closes fits
part_closes (Chain Conjunction) fits = conjunction_closes fits
part_closes (Chain Sum) fits = sum_closes fits
part_closes (Chain Product) fits = product_closes fits
part_closes (MoreChain level left) fits = chain_closes fits
part_closes Relative fits = relative_closes fits
part_closes Compared fits = compared_closes fits
part_closes (Comparison left) fits = comparison_closes fits
part_closes Factor fits = factor_closes fits
part_closes Application fits = application_closes fits
part_closes (Applied f) fits = applied_closes fits
part_closes (Arguments line f) fits = Closes.gone refl (Closes.taken λ mark. Closes.given)
part_closes (SecondArgument line f first) fits = Closes.gone refl arguments_close
part_closes (MoreArguments line f before) fits = arguments_close
part_closes Primary fits = primary_closes
part_closes (MoreElements line l t before) fits = Closes.gone refl (Closes.taken λ mark. Closes.given)
