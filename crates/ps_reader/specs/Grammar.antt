-- The grammar. What each part of a program is, by the token that stands at its beginning: an
-- optional part is taken wherever its first token stands, and repeated operators group to the left.
use Rattle.std.specs.Prelude.{ℕ, pos, List, [], ◌∷◌, ◌++◌, Bool, true, false, Option, Some, None, option_map}
use Rattle.ps_base.specs.TyView.{TyView, TyViews, and_type}
use Rattle.ps_base.specs.TyView as ty
use Rattle.ps_base.specs.declared.line.Line.{Line}
use Rattle.ps_scan.specs.Tokens.{slice_of, int_value, spelled, line_of}
use Rattle.ps_tree.specs.ps_symbols.declared.kind.Kind.{Kind}
use Rattle.ps_tree.specs.ps_symbols.declared.kind.Kind.TheVariants as kind
use Rattle.ps_tree.specs.ps_symbols.declared.kind.Level.{Level}
use Rattle.ps_tree.specs.ps_symbols.declared.kind.Level.TheVariants.{Disjunction, Conjunction, Sum, Product}
use Rattle.ps_tree.specs.ps_symbols.declared.kind.Operation.{Operation}
use Rattle.ps_tree.specs.ps_symbols.declared.kind.Opening.{Opening}
use Rattle.ps_tree.specs.ps_symbols.declared.kind.Opening.TheVariants as opening
use Rattle.ps_tree.specs.ps_symbols.declared.kind.Relating.{Relating}
use Rattle.ps_tree.specs.ps_symbols.declared.kind.Relating.TheVariants.{Compares, IsOf}
use Rattle.ps_tree.specs.ps_symbols.declared.kind.Start.{Start}
use Rattle.ps_tree.specs.ps_symbols.declared.kind.Start.TheVariants as start
use Rattle.ps_tree.specs.ps_symbols.declared.kind.TypeStart.{TypeStart}
use Rattle.ps_tree.specs.ps_symbols.declared.kind.TypeStart.TheVariants as typed
use Rattle.ps_tree.specs.ps_symbols.declared.symbol.Symbol.{Symbol}
use Rattle.ps_tree.specs.ps_symbols.Kinds.{operation_of, relating_of, begins_item, begins_type, opening_of, start_of, type_start_of}
use Rattle.ps_tree.specs.Phrase.{NameAt, GroupAt, Phrase, at, Phrases, none, more, MaybePhrase, absent, present, Arms, no_arms, arm, WriteItem, item, WriteItems, no_items, more_items}
use Rattle.ps_tree.specs.Phrase as form
use Rattle.ps_tree.specs.Composing.{and_then, and_arm, and_item, joined}

-- what a part is read as: a clause, a type, the types or the groups between round brackets, or an
-- item of a `write`
pub data Made : Type 0 where
  a_clause : (clause : Phrase) → Made
  a_type : (ty : TyView) → Made
  all_types : (types : TyViews) → Made
  all_groups : (groups : List GroupAt) → Made
  an_item : (one : WriteItem) → Made

-- the parts of a program. A part that goes on after something that has been read names it.
pub data Part : Type 0 where
  Program : Part
  Ending : (all : Phrase) → Part
  Ended : (all : Phrase) → Part
  Items : (line : Line) (before : Phrases) → Part
  MoreItems : (line : Line) (before : Phrases) → Part
  Item : Part
  Binding : (line : Line) (name : NameAt) → Part
  Literal : (line : Line) → Part
  Parameters : Part
  Groups : (before : List GroupAt) → Part
  MoreGroups : (of_last : TyView) (before : List GroupAt) → Part
  NextGroup : (of_last : TyView) (before : List GroupAt) → Part
  Result : Part
  ParameterTypes : Part
  MoreTypes : (before : TyViews) → Part
  Choice : (line : Line) (condition : Phrase) → Part
  Until : (line : Line) (turn : Phrase) → Part
  Test : (line : Line) (turn : Phrase) → Part
  Between : (line : Line) (turn condition : Phrase) → Part
  Step : (line : Line) (name : NameAt) (from to : Phrase) → Part
  Body : (line : Line) (name : NameAt) (from to : Phrase) (step : MaybePhrase) → Part
  Cases : (line : Line) (value : Phrase) (before : Arms) → Part
  Labels : (line : Line) (value : Phrase) (before : Arms) (labels : Phrases) → Part
  Written : Part
  Width : (e : Phrase) → Part
  MoreWritten : (line : Line) (before : WriteItems) → Part
  Assignment : (left : Phrase) → Part
  Chain : (level : Level) → Part
  MoreChain : (level : Level) (left : Phrase) → Part
  Relative : Part
  Compared : Part
  Comparison : (left : Phrase) → Part
  Factor : Part
  Application : Part
  Applied : (f : Phrase) → Part
  Arguments : (line : Line) (f : Phrase) → Part
  SecondArgument : (line : Line) (f first : Phrase) → Part
  MoreArguments : (line : Line) (f : Phrase) (before : Phrases) → Part
  Primary : Part
  MoreElements : (line : Line) (lower : Phrase) (of_each : TyView) (before : Phrases) → Part

-- a clause or a type: what counts where things stand inside one another
pub data Nested : Type 0 where
  a_clause_inside : Nested
  a_type_inside : Nested

-- what is to be read: nothing more, since it is there; a token of a kind, and then what it asks
-- for; a part; a clause or a type; or one thing, and then what that asks for
pub data Rule : Type 0 where
  Give : (made : Made) → Rule
  Take : (kind : Kind) (next : Symbol → Rule) → Rule
  Go : (part : Part) → Rule
  Open : (nested : Nested) → Rule
  Then : (first : Rule) (next : Made → Rule) → Rule

abbrev pub Clause : Rule
Clause = Open a_clause_inside

abbrev pub Type_ : Rule
Type_ = Open a_type_inside

-- what has been read, where it is known to be a clause, a type and so on
abbrev pub the_clause : Made → Phrase
the_clause (a_clause clause) = clause
the_clause _ = at (form.Sequence none) (line_of 1)

abbrev pub the_type : Made → TyView
the_type (a_type t) = t
the_type _ = ty.Void

abbrev pub the_types : Made → TyViews
the_types (all_types types) = types
the_types _ = ty.none

abbrev pub the_groups : Made → List GroupAt
the_groups (all_groups groups) = groups
the_groups _ = []

abbrev pub the_item : Made → WriteItem
the_item (an_item one) = one
the_item made = item (the_clause made) absent (line_of 1)

-- a clause first, or a type, and then what it asks for
abbrev pub clause_of : Rule → (Phrase → Rule) → Rule
clause_of first next = Then first (λ made. next (the_clause made))

abbrev pub with_clause : (Phrase → Rule) → Rule
with_clause next = clause_of Clause next

abbrev pub type_of : Rule → (TyView → Rule) → Rule
type_of first next = Then first (λ made. next (the_type made))

abbrev pub with_type : (TyView → Rule) → Rule
with_type next = type_of Type_ next

-- the clause is there: its form and its line
abbrev pub give : form.Form → Line → Rule
give f line = Give (a_clause (at f line))

abbrev pub line_at : Symbol → Line
line_at symbol = symbol.token.line

abbrev pub line_in : Phrase → Line
line_in (at f line) = line

-- a token that is taken, and whose place in the tree is nothing
abbrev pub skip : Kind → Rule → Rule
skip kind next = Take kind (λ symbol. next)

-- program = items [ "?" ] END
abbrev pub program : Rule
program = clause_of (Go (Items (line_of 1) none)) (λ all. Go (Ending all))

abbrev pub ending : Phrase → Kind → Option Rule
ending all kind.Question = Some (skip kind.Question (Go (Ended all)))
ending all kind.EndOfText = Some (Give (a_clause all))
ending all _ = None

abbrev pub ended : Phrase → Kind → Option Rule
ended all kind.EndOfText = Some (Give (a_clause all))
ended all _ = None

-- items = [ item ] { ";" [ item ] }
abbrev pub items : Line → Phrases → Bool → Rule
items line before true = clause_of (Go Item) (λ one. Go (MoreItems line (and_then before one)))
items line before false = Go (MoreItems line before)

abbrev pub items_end : Line → Phrases → Kind → Rule
items_end line before kind.Semicolon = skip kind.Semicolon (Go (Items line before))
items_end line before _ = give (form.Sequence before) line

-- item = "let" name ( "=" | ":=" ) clause | "structure" name "(" [ groups ] ")"
--      | "procedure" name "(" [ groups ] [ "->" type ] ")" ";" clause | clause
abbrev pub name_at : List ℕ → Symbol → NameAt
name_at text symbol = record { name = slice_of text symbol.token; line = line_at symbol }

abbrev pub let_item : List ℕ → Rule
let_item text = Take kind.Let (λ word. Take kind.Name (λ name. Go (Binding (line_at word) (name_at text name))))

abbrev pub structure_item : List ℕ → Rule
structure_item text = Take kind.Structure (λ word. Take kind.Name (λ name. skip kind.OpenRound (Then (Go Parameters) (λ fields. skip kind.CloseRound (give (form.Structure (name_at text name) (the_groups fields)) (line_at word))))))

abbrev pub procedure_item : List ℕ → Rule
procedure_item text = Take kind.Procedure (λ word. Take kind.Name (λ name. clause_of (Go (Literal (line_at word))) (λ e. give (form.Let (name_at text name) false e) (line_at word))))

abbrev pub one_item : List ℕ → Kind → Rule
one_item text kind.Let = let_item text
one_item text kind.Structure = structure_item text
one_item text kind.Procedure = procedure_item text
one_item text _ = Clause

abbrev pub bound : Kind → Bool → Line → NameAt → Rule
bound mark variable line name = skip mark (with_clause (λ e. give (form.Let name variable e) line))

abbrev pub binding : Line → NameAt → Kind → Option Rule
binding line name kind.Equals = Some (bound kind.Equals false line name)
binding line name kind.Becomes = Some (bound kind.Becomes true line name)
binding line name _ = None

-- a procedure after its `proc`, or after its name: "(" [ groups ] [ "->" type ] ")" ";" clause
abbrev pub literal : Line → Rule
literal line = skip kind.OpenRound (Then (Go Parameters) (λ params. type_of (Go Result) (λ gives. skip kind.CloseRound (skip kind.Semicolon (with_clause (λ s. give (form.Proc (the_groups params) gives s) line))))))

-- groups = type name { "," name | ( "," | ";" ) type name }
abbrev pub parameters : Bool → Rule
parameters true = Go (Groups [])
parameters false = Give (all_groups [])

abbrev pub and_group : List ℕ → List GroupAt → TyView → Symbol → List GroupAt
and_group text before t name = before ++ record { ty = t; name = name_at text name } ∷ []

abbrev pub named_group : List ℕ → List GroupAt → TyView → Rule
named_group text before t = Take kind.Name (λ name. Go (MoreGroups t (and_group text before t name)))

abbrev pub groups : List ℕ → List GroupAt → Rule
groups text before = with_type (λ t. named_group text before t)

abbrev pub more_groups : TyView → List GroupAt → Kind → Rule
more_groups of_last before kind.Comma = skip kind.Comma (Go (NextGroup of_last before))
more_groups of_last before kind.Semicolon = skip kind.Semicolon (Go (Groups before))
more_groups of_last before _ = Give (all_groups before)

abbrev pub next_group : List ℕ → TyView → List GroupAt → Kind → Rule
next_group text of_last before kind.Name = named_group text before of_last
next_group text of_last before _ = Go (Groups before)

abbrev pub result : Kind → Rule
result kind.Arrow = skip kind.Arrow Type_
result _ = Give (a_type ty.Void)

-- type = "int" | "bool" | "string" | "pntr" | "*" type | "proc" "(" [ type { "," type } ] [ "->" type ] ")"
abbrev pub procedure_type : Rule
procedure_type = skip kind.Proc (skip kind.OpenRound (Then (Go ParameterTypes) (λ params. type_of (Go Result) (λ gives. skip kind.CloseRound (Give (a_type (ty.Proc (the_types params) gives)))))))

abbrev pub typed_as : TypeStart → Rule
typed_as typed.Int = skip kind.IntType (Give (a_type ty.Int))
typed_as typed.Bool = skip kind.BoolType (Give (a_type ty.Bool))
typed_as typed.Str = skip kind.StringType (Give (a_type ty.Str))
typed_as typed.Pntr = skip kind.PntrType (Give (a_type ty.Pntr))
typed_as typed.Vector = skip kind.Times (with_type (λ element. Give (a_type (ty.Vector element))))
typed_as typed.Proc = procedure_type

abbrev pub parameter_types : Bool → Rule
parameter_types true = with_type (λ t. Go (MoreTypes (ty.more t ty.none)))
parameter_types false = Give (all_types ty.none)

abbrev pub more_types : TyViews → Kind → Rule
more_types before kind.Comma = skip kind.Comma (with_type (λ t. Go (MoreTypes (and_type before t))))
more_types before _ = Give (all_types before)

-- clause = "if" clause ( "do" clause | "then" clause "else" clause )
abbrev pub condition : Rule
condition = Take kind.If (λ word. with_clause (λ c. Go (Choice (line_at word) c)))

abbrev pub choice : Line → Phrase → Kind → Option Rule
choice line c kind.Do = Some (skip kind.Do (with_clause (λ a. give (form.IfDo c a) line)))
choice line c kind.Then = Some (skip kind.Then (with_clause (λ a. skip kind.Else (with_clause (λ b. give (form.IfElse c a b) line)))))
choice line c _ = None

-- | "while" clause "do" clause
abbrev pub loop : Rule
loop = Take kind.While (λ word. with_clause (λ c. skip kind.Do (with_clause (λ a. give (form.While c a) (line_at word)))))

-- | "repeat" clause [ ";" ] "while" clause [ "do" clause ]
abbrev pub repeating : Rule
repeating = Take kind.Repeat (λ word. with_clause (λ a. Go (Until (line_at word) a)))

abbrev pub until : Line → Phrase → Kind → Rule
until line a kind.Semicolon = skip kind.Semicolon (Go (Test line a))
until line a _ = Go (Test line a)

abbrev pub test : Line → Phrase → Rule
test line a = skip kind.While (with_clause (λ c. Go (Between line a c)))

abbrev pub between : Line → Phrase → Phrase → Kind → Rule
between line a c kind.Do = skip kind.Do (with_clause (λ b. give (form.Repeat a c (present b)) line))
between line a c _ = give (form.Repeat a c absent) line

-- | "for" name "=" clause "to" clause [ "by" clause ] "do" clause
abbrev pub counting : List ℕ → Rule
counting text = Take kind.For (λ word. Take kind.Name (λ name. skip kind.Equals (with_clause (λ a. skip kind.To (with_clause (λ b. Go (Step (line_at word) (name_at text name) a b)))))))

abbrev pub step : Line → NameAt → Phrase → Phrase → Kind → Rule
step line name a b kind.By = skip kind.By (with_clause (λ c. Go (Body line name a b (present c))))
step line name a b _ = Go (Body line name a b absent)

abbrev pub body : Line → NameAt → Phrase → Phrase → MaybePhrase → Rule
body line name a b c = skip kind.Do (with_clause (λ s. give (form.For name a b c s) line))

-- | "case" clause "of" { arm ";" } "default" ":" clause        arm = clause { "," clause } ":" clause
abbrev pub choosing : Rule
choosing = Take kind.Case (λ word. with_clause (λ e. skip kind.Of (Go (Cases (line_at word) e no_arms))))

abbrev pub cases : Line → Phrase → Arms → Kind → Rule
cases line e before kind.Default = skip kind.Default (skip kind.Colon (with_clause (λ d. give (form.Case e before d) line)))
cases line e before _ = with_clause (λ label. Go (Labels line e before (more label none)))

abbrev pub labels : Line → Phrase → Arms → Phrases → Kind → Rule
labels line e before all kind.Comma = skip kind.Comma (with_clause (λ label. Go (Labels line e before (and_then all label))))
labels line e before all _ = skip kind.Colon (with_clause (λ a. skip kind.Semicolon (Go (Cases line e (and_arm before (arm all a))))))

-- | "write" witem { "," witem }        witem = clause [ ":" clause ]
abbrev pub writing : Rule
writing = Take kind.Write (λ word. Then (Go Written) (λ first. Go (MoreWritten (line_at word) (more_items (the_item first) no_items))))

abbrev pub written : Rule
written = with_clause (λ e. Go (Width e))

abbrev pub width : Phrase → Kind → Rule
width e kind.Colon = Take kind.Colon (λ mark. with_clause (λ w. Give (an_item (item e (present w) (line_at mark)))))
width e _ = Give (an_item (item e absent (line_in e)))

abbrev pub more_written : Line → WriteItems → Kind → Rule
more_written line before kind.Comma = skip kind.Comma (Then (Go Written) (λ one. Go (MoreWritten line (and_item before (the_item one)))))
more_written line before _ = give (form.Write before) line

-- | "abort" | "proc" "(" [ groups ] [ "->" type ] ")" ";" clause
abbrev pub aborting : Rule
aborting = Take kind.Abort (λ word. give form.Abort (line_at word))

abbrev pub procedure : Rule
procedure = Take kind.Proc (λ word. Go (Literal (line_at word)))

-- | "vector" clause "::" clause "of" clause
abbrev pub filling : Rule
filling = Take kind.Vector (λ word. with_clause (λ l. skip kind.DoubleColon (with_clause (λ u. skip kind.Of (with_clause (λ e. give (form.Vector l u e) (line_at word)))))))

-- | expr [ ":=" clause ]
abbrev pub expression : Rule
expression = clause_of (Go (Chain Disjunction)) (λ left. Go (Assignment left))

abbrev pub assignment : Phrase → Kind → Rule
assignment left kind.Becomes = Take kind.Becomes (λ mark. with_clause (λ e. give (form.Assign left e) (line_at mark)))
assignment left _ = Give (a_clause left)

abbrev pub opened : List ℕ → Opening → Rule
opened text opening.Condition = condition
opened text opening.Repetition = loop
opened text opening.Repeating = repeating
opened text opening.Counting = counting text
opened text opening.Choosing = choosing
opened text opening.Writing = writing
opened text opening.Aborting = aborting
opened text opening.Procedure = procedure
opened text opening.Filling = filling
opened text opening.Expression = expression

-- what a clause is, and a type, that begins with a token of this kind; none where none begins so
abbrev pub inside : List ℕ → Nested → Kind → Option Rule
inside text a_clause_inside kind = option_map (opened text) (opening_of kind)
inside text a_type_inside kind = option_map typed_as (type_start_of kind)

-- expr = conj { "or" conj }                        conj = rel { "and" rel }
-- sum = term { ( "+" | "-" | "++" ) term }         term = factor { ( "*" | "div" | "rem" ) factor }
abbrev pub operand : Level → Part
operand Disjunction = Chain Conjunction
operand Conjunction = Relative
operand Sum = Chain Product
operand Product = Factor

abbrev pub more_chain : Level → Phrase → Kind → Option Operation → Rule
more_chain level left kind (Some operation) = Take kind (λ mark. clause_of (Go (operand level)) (λ right. Go (MoreChain level (joined operation left right (line_at mark)))))
more_chain level left kind None = Give (a_clause left)

-- rel = [ "~" ] sum [ relop sum | ( "is" | "isnt" ) name ]
abbrev pub relative : Kind → Rule
relative kind.Tilde = Take kind.Tilde (λ mark. clause_of (Go Compared) (λ e. give (form.Not e) (line_at mark)))
relative _ = Go Compared

abbrev pub comparison : List ℕ → Phrase → Kind → Option Relating → Rule
comparison text left sign (Some (Compares op)) = Take sign (λ mark. clause_of (Go (Chain Sum)) (λ right. give (form.Compare op left right) (line_at mark)))
comparison text left sign (Some (IsOf negated)) = Take sign (λ mark. Take kind.Name (λ name. give (form.Is left (name_at text name) negated) (line_at mark)))
comparison text left sign None = Give (a_clause left)

-- factor = [ "+" | "-" ] app
abbrev pub factor : Kind → Rule
factor kind.Plus = Take kind.Plus (λ mark. clause_of (Go Application) (λ e. give (form.Plus e) (line_at mark)))
factor kind.Minus = Take kind.Minus (λ mark. clause_of (Go Application) (λ e. give (form.Neg e) (line_at mark)))
factor _ = Go Application

-- app = prim { "(" [ clause "|" clause | clause { "," clause } ] ")" }
abbrev pub application : Rule
application = clause_of (Go Primary) (λ f. Go (Applied f))

abbrev pub applied : Phrase → Kind → Rule
applied f kind.OpenRound = Take kind.OpenRound (λ mark. clause_of (Go (Arguments (line_at mark) f)) (λ made. Go (Applied made)))
applied f _ = Give (a_clause f)

abbrev pub arguments : Line → Phrase → Kind → Rule
arguments line f kind.CloseRound = skip kind.CloseRound (give (form.Apply f none) line)
arguments line f _ = with_clause (λ first. Go (SecondArgument line f first))

abbrev pub second_argument : Line → Phrase → Phrase → Kind → Rule
second_argument line f first kind.Bar = skip kind.Bar (with_clause (λ n. skip kind.CloseRound (give (form.Part f first n) line)))
second_argument line f first _ = Go (MoreArguments line f (more first none))

abbrev pub more_arguments : Line → Phrase → Phrases → Kind → Rule
more_arguments line f before kind.Comma = skip kind.Comma (with_clause (λ one. Go (MoreArguments line f (and_then before one))))
more_arguments line f before _ = skip kind.CloseRound (give (form.Apply f before) line)

-- prim = name | int | string | "true" | "false" | "nil" | "(" clause ")" | "begin" items "end" | "{" items "}"
--      | ( "lwb" | "upb" ) "(" clause ")" | "@" clause "of" type "[" clause { "," clause } "]"
abbrev pub name_leaf : List ℕ → Rule
name_leaf text = Take kind.Name (λ name. give (form.Name (slice_of text name.token)) (line_at name))

abbrev pub int_leaf : List ℕ → Rule
int_leaf text = Take kind.Int (λ int. give (form.Int (pos (int_value text int.token))) (line_at int))

abbrev pub text_leaf : List ℕ → Rule
text_leaf text = Take kind.Text (λ string. give (form.Text (spelled text string.token)) (line_at string))

abbrev pub flag_leaf : Kind → Bool → Rule
flag_leaf kind value = Take kind (λ word. give (form.Flag value) (line_at word))

abbrev pub nil_leaf : Rule
nil_leaf = Take kind.Nil (λ word. give form.Nil (line_at word))

abbrev pub bracketed : Rule
bracketed = skip kind.OpenRound (with_clause (λ e. skip kind.CloseRound (Give (a_clause e))))

abbrev pub block : Kind → Kind → Rule
block first last = Take first (λ mark. clause_of (Go (Items (line_at mark) none)) (λ all. skip last (Give (a_clause all))))

abbrev pub bound_of : Kind → Bool → Rule
bound_of first upper = Take first (λ word. skip kind.OpenRound (with_clause (λ e. skip kind.CloseRound (give (form.Bound upper e) (line_at word)))))

abbrev pub elements : Rule
elements = Take kind.At (λ mark. with_clause (λ l. skip kind.Of (with_type (λ t. skip kind.OpenSquare (with_clause (λ first. Go (MoreElements (line_at mark) l t (more first none))))))))

abbrev pub more_elements : Line → Phrase → TyView → Phrases → Kind → Rule
more_elements line l t before kind.Comma = skip kind.Comma (with_clause (λ one. Go (MoreElements line l t (and_then before one))))
more_elements line l t before _ = skip kind.CloseSquare (give (form.Elems l t before) line)

abbrev pub primary : List ℕ → Kind → Start → Rule
primary text kind start.Name = name_leaf text
primary text kind start.Int = int_leaf text
primary text kind start.Text = text_leaf text
primary text kind (start.Flag value) = flag_leaf kind value
primary text kind start.Nil = nil_leaf
primary text kind start.Round = bracketed
primary text kind (start.Block last) = block kind last
primary text kind (start.Bound upper) = bound_of kind upper
primary text kind start.Elements = elements

-- what a part is, where a token of this kind stands at its beginning; none where it can't begin so
abbrev pub row : List ℕ → Part → Kind → Option Rule
row text Program kind = Some program
row text (Ending all) kind = ending all kind
row text (Ended all) kind = ended all kind
row text (Items line before) kind = Some (items line before (begins_item kind))
row text (MoreItems line before) kind = Some (items_end line before kind)
row text Item kind = Some (one_item text kind)
row text (Binding line name) kind = binding line name kind
row text (Literal line) kind = Some (literal line)
row text Parameters kind = Some (parameters (begins_type kind))
row text (Groups before) kind = Some (groups text before)
row text (MoreGroups of_last before) kind = Some (more_groups of_last before kind)
row text (NextGroup of_last before) kind = Some (next_group text of_last before kind)
row text Result kind = Some (result kind)
row text ParameterTypes kind = Some (parameter_types (begins_type kind))
row text (MoreTypes before) kind = Some (more_types before kind)
row text (Choice line c) kind = choice line c kind
row text (Until line a) kind = Some (until line a kind)
row text (Test line a) kind = Some (test line a)
row text (Between line a c) kind = Some (between line a c kind)
row text (Step line name a b) kind = Some (step line name a b kind)
row text (Body line name a b c) kind = Some (body line name a b c)
row text (Cases line e before) kind = Some (cases line e before kind)
row text (Labels line e before all) kind = Some (labels line e before all kind)
row text Written kind = Some written
row text (Width e) kind = Some (width e kind)
row text (MoreWritten line before) kind = Some (more_written line before kind)
row text (Assignment left) kind = Some (assignment left kind)
row text (Chain level) kind = Some (clause_of (Go (operand level)) (λ left. Go (MoreChain level left)))
row text (MoreChain level left) kind = Some (more_chain level left kind (operation_of level kind))
row text Relative kind = Some (relative kind)
row text Compared kind = Some (clause_of (Go (Chain Sum)) (λ left. Go (Comparison left)))
row text (Comparison left) kind = Some (comparison text left kind (relating_of kind))
row text Factor kind = Some (factor kind)
row text Application kind = Some application
row text (Applied f) kind = Some (applied f kind)
row text (Arguments line f) kind = Some (arguments line f kind)
row text (SecondArgument line f first) kind = Some (second_argument line f first kind)
row text (MoreArguments line f before) kind = Some (more_arguments line f before kind)
row text Primary kind = option_map (primary text kind) (start_of kind)
row text (MoreElements line l t before) kind = Some (more_elements line l t before kind)
