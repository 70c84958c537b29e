-- How a tree is laid out as a text that a person can read: blocks in braces, each item on a line of
-- its own with a `;` after it, one blank round operators, and brackets where the grammar needs them.
use Rattle.std.specs.Prelude.{ℕ, ◌+◌, nat_abs, List, [], ◌∷◌, ◌++◌, Bool, true, false, nat_lt, slice_get, if◌then◌else◌}
use Rattle.std.specs.Option.{unwrap_or}
use Rattle.ps_base.specs.TyView.{TyView, TyViews}
use Rattle.ps_base.specs.TyView as ty
use Rattle.ps_base.specs.declared.operator.Operator.{Operator}
use Rattle.ps_base.specs.declared.operator.Operator.TheVariants as arith
use Rattle.ps_base.specs.declared.operator.Relation.{Relation}
use Rattle.ps_base.specs.declared.operator.Relation.TheVariants as order
use Rattle.ps_tree.specs.ps_scan.declared.token.TokenKind.{TokenKind}
use Rattle.ps_tree.specs.ps_scan.declared.token.TokenKind.TheVariants.{Word, Mark}
use Rattle.ps_tree.specs.ps_scan.declared.token.TokenKind.TheVariants as scanned
use Rattle.ps_tree.specs.ps_scan.Names.{reserved_words, marks}
use Rattle.ps_tree.specs.ps_scan.declared.word.TheConstants as word
use Rattle.ps_tree.specs.ps_scan.declared.mark.TheConstants as mark
use Rattle.ps_tree.specs.Phrase.{NameAt, GroupAt, Phrase, at, Form, Phrases, none, more, MaybePhrase, absent, present, Arm, Arms, no_arms, more_arms, arm, WriteItem, item, WriteItems, no_items, more_items}
use Rattle.ps_tree.specs.Phrase as form
use Rattle.ps_layout.specs.Lexemes.{Gap, nothing, blank, newline, Lexeme, printed as printed_as}
use Rattle.ps_layout.specs.Spellings.{int_text, string_text}

abbrev pub lexeme : Gap → TokenKind → List ℕ → Lexeme
lexeme gap what spelling = record { gap = gap; what = what; spelling = spelling }

-- the bytes of the name at this place of a table
abbrev pub name_at : List (List ℕ) → ℕ → List ℕ
name_at names place = unwrap_or (slice_get names place) []

-- the reserved word of this place, and the mark of this place
abbrev pub the_word : Gap → ℕ → Lexeme
the_word gap place = lexeme gap (Word place) (name_at reserved_words place)

abbrev pub the_mark : Gap → ℕ → Lexeme
the_mark gap place = lexeme gap (Mark place) (name_at marks place)

abbrev pub name_lexeme : Gap → List ℕ → Lexeme
name_lexeme gap name = lexeme gap scanned.Name name

-- brackets, commas and semicolons stand without a blank after what they follow
abbrev pub open_round : Gap → Lexeme
open_round gap = the_mark gap mark.OPEN_ROUND

abbrev pub close_round : Lexeme
close_round = the_mark nothing mark.CLOSE_ROUND

abbrev pub comma : Lexeme
comma = the_mark nothing mark.COMMA

abbrev pub semicolon : Lexeme
semicolon = the_mark nothing mark.SEMICOLON

abbrev pub colon : Lexeme
colon = the_mark blank mark.COLON

abbrev pub do_word : Lexeme
do_word = the_word blank word.DO

-- the lexemes in round brackets
abbrev pub in_brackets : Gap → List Lexeme → List Lexeme
in_brackets gap inner = open_round gap ∷ (inner ++ close_round ∷ [])

-- the type of a result after its arrow; a procedure without a result has none
abbrev pub behind_arrow : TyView → List Lexeme → List Lexeme
behind_arrow ty.Void shown = []
behind_arrow _ shown = the_mark blank mark.ARROW ∷ shown

-- types
abbrev mutual
  pub type_lexemes : Gap → TyView → List Lexeme
  type_lexemes gap ty.Int = the_word gap word.INT ∷ []
  type_lexemes gap ty.Bool = the_word gap word.BOOL ∷ []
  type_lexemes gap ty.Str = the_word gap word.STRING ∷ []
  type_lexemes gap ty.Pntr = the_word gap word.PNTR ∷ []
  type_lexemes gap ty.Void = []
  type_lexemes gap (ty.Vector element) = the_mark gap mark.TIMES ∷ type_lexemes nothing element
  type_lexemes gap (ty.Proc parameters gives) =
      the_word gap word.PROC ∷ in_brackets nothing (types_lexemes nothing parameters ++ behind_arrow gives (type_lexemes blank gives))

  pub types_lexemes : Gap → TyViews → List Lexeme
  types_lexemes gap ty.none = []
  types_lexemes gap (ty.more first rest) = type_lexemes gap first ++ more_types_lexemes rest

  pub more_types_lexemes : TyViews → List Lexeme
  more_types_lexemes ty.none = []
  more_types_lexemes (ty.more first rest) = comma ∷ (type_lexemes blank first ++ more_types_lexemes rest)

-- the parameters of a procedure and the fields of a structure
abbrev pub group_lexemes : Gap → GroupAt → List Lexeme
group_lexemes gap group = type_lexemes gap group.ty ++ name_lexeme blank group.name.name ∷ []

abbrev pub more_groups_lexemes : List GroupAt → List Lexeme
more_groups_lexemes [] = []
more_groups_lexemes (group ∷ groups) = semicolon ∷ (group_lexemes blank group ++ more_groups_lexemes groups)

abbrev pub groups_lexemes : List GroupAt → List Lexeme
groups_lexemes [] = []
groups_lexemes (group ∷ groups) = group_lexemes nothing group ++ more_groups_lexemes groups

-- a procedure from its bracket to its body
abbrev pub heading_lexemes : List GroupAt → TyView → List Lexeme
heading_lexemes params gives = in_brackets nothing (groups_lexemes params ++ behind_arrow gives (type_lexemes blank gives)) ++ semicolon ∷ []

-- how tight a form binds, loosest first; a form that binds looser than its place asks for stands in
-- brackets
pub data Tightness : Type 0 where
  loosest : Tightness
  disjunction : Tightness
  conjunction : Tightness
  negation : Tightness
  comparison : Tightness
  sum : Tightness
  product : Tightness
  signed : Tightness
  application : Tightness
  primary : Tightness

abbrev pub number_of : Tightness → ℕ
number_of loosest = 0
number_of disjunction = 1
number_of conjunction = 2
number_of negation = 3
number_of comparison = 4
number_of sum = 5
number_of product = 6
number_of signed = 7
number_of application = 8
number_of primary = 9

-- the left operand of an operator on ints binds as tight as the operator, the right one tighter
abbrev pub left_of : Operator → Tightness
left_of arith.Add = sum
left_of arith.Sub = sum
left_of arith.Mul = product
left_of arith.Div = product
left_of arith.Rem = product

abbrev pub right_of : Operator → Tightness
right_of arith.Add = product
right_of arith.Sub = product
right_of arith.Mul = signed
right_of arith.Div = signed
right_of arith.Rem = signed

abbrev pub tightness : Form → Tightness
tightness (form.Or a b) = disjunction
tightness (form.And a b) = conjunction
tightness (form.Not e) = negation
tightness (form.Compare op a b) = comparison
tightness (form.Is e class negated) = comparison
tightness (form.Join a b) = sum
tightness (form.Arith op a b) = left_of op
tightness (form.Plus e) = signed
tightness (form.Neg e) = signed
tightness (form.Apply f args) = application
tightness (form.Part s i n) = application
tightness (form.Sequence items) = primary
tightness (form.Name name) = primary
tightness (form.Int value) = primary
tightness (form.Text bytes) = primary
tightness (form.Flag value) = primary
tightness form.Nil = primary
tightness (form.Bound upper e) = primary
tightness (form.Elems l t items) = primary
tightness _ = loosest

abbrev pub is_looser : Form → Tightness → Bool
is_looser f needed = nat_lt (number_of (tightness f)) (number_of needed)

-- what stands after a clause, where it could be read as part of it: `do` after a `repeat` that has
-- none, `,` after a `write`, and `:` after one whose last item has no width
pub data Behind : Type 0 where
  other : Behind
  before_do : Behind
  before_comma : Behind
  before_colon : Behind

abbrev pub ends_open : WriteItems → Bool
ends_open no_items = false
ends_open (more_items (item e absent line) no_items) = true
ends_open (more_items (item e (present w) line) no_items) = false
ends_open (more_items first (more_items second rest)) = ends_open (more_items second rest)

abbrev pub is_taken : Behind → Form → Bool
is_taken before_do (form.Repeat a c absent) = true
is_taken before_comma (form.Write items) = true
is_taken before_colon (form.Write items) = ends_open items
is_taken _ _ = false

-- what stands after an item that is followed by these, or by what is after them all
abbrev pub behind_clause : Behind → Phrases → Behind
behind_clause last none = last
behind_clause last (more first rest) = before_comma

abbrev pub behind_item : Behind → WriteItems → Behind
behind_item last no_items = last
behind_item last (more_items first rest) = before_comma

abbrev pub sign_of_operator : Operator → Lexeme
sign_of_operator arith.Add = the_mark blank mark.PLUS
sign_of_operator arith.Sub = the_mark blank mark.MINUS
sign_of_operator arith.Mul = the_mark blank mark.TIMES
sign_of_operator arith.Div = the_word blank word.DIV
sign_of_operator arith.Rem = the_word blank word.REM

abbrev pub sign_of_relation : Relation → Lexeme
sign_of_relation order.Equal = the_mark blank mark.EQUALS
sign_of_relation order.NotEqual = the_mark blank mark.NOT_EQUALS
sign_of_relation order.Less = the_mark blank mark.LESS
sign_of_relation order.LessEqual = the_mark blank mark.LESS_OR_EQUAL
sign_of_relation order.Greater = the_mark blank mark.GREATER
sign_of_relation order.GreaterEqual = the_mark blank mark.GREATER_OR_EQUAL

abbrev pub is_word : Bool → Lexeme
is_word false = the_word blank word.IS
is_word true = the_word blank word.ISNT

abbrev pub flag_word : Gap → Bool → Lexeme
flag_word gap true = the_word gap word.TRUE
flag_word gap false = the_word gap word.FALSE

abbrev pub bound_word : Gap → Bool → Lexeme
bound_word gap false = the_word gap word.LWB
bound_word gap true = the_word gap word.UPB

abbrev pub becomes : Bool → Lexeme
becomes false = the_mark blank mark.EQUALS
becomes true = the_mark blank mark.BECOMES

abbrev mutual
  -- a form at this indentation, before what stands after it, where the gap stands before it;
  -- `procedure` stands for a `let` of a procedure
  pub form_lexemes : ℕ → Behind → Gap → Form → List Lexeme
  form_lexemes n behind gap (form.Sequence items) = block_lexemes n gap items
  form_lexemes n behind gap (form.Let name false (at (form.Proc params gives s) line)) =
      the_word gap word.PROCEDURE ∷ name_lexeme blank name.name ∷ (heading_lexemes params gives ++ clause_lexemes n behind blank s)
  form_lexemes n behind gap (form.Let name variable e) =
      the_word gap word.LET ∷ name_lexeme blank name.name ∷ becomes variable ∷ clause_lexemes n behind blank e
  form_lexemes n behind gap (form.Structure name fields) =
      the_word gap word.STRUCTURE ∷ name_lexeme blank name.name ∷ in_brackets nothing (groups_lexemes fields)
  form_lexemes n behind gap (form.IfDo c a) = the_word gap word.IF ∷ (clause_lexemes n before_do blank c ++ do_word ∷ clause_lexemes n behind blank a)
  form_lexemes n behind gap (form.IfElse c a b) =
      the_word gap word.IF ∷ (clause_lexemes n other blank c ++ the_word blank word.THEN ∷ (clause_lexemes n other blank a ++ the_word blank word.ELSE
      ∷ clause_lexemes n behind blank b))
  form_lexemes n behind gap (form.While c a) = the_word gap word.WHILE ∷ (clause_lexemes n before_do blank c ++ do_word ∷ clause_lexemes n behind blank a)
  form_lexemes n behind gap (form.Repeat a c absent) =
      the_word gap word.REPEAT ∷ (clause_lexemes n other blank a ++ the_word blank word.WHILE ∷ clause_lexemes n behind blank c)
  form_lexemes n behind gap (form.Repeat a c (present b)) =
      the_word gap word.REPEAT ∷ (clause_lexemes n other blank a ++ the_word blank word.WHILE ∷ (clause_lexemes n before_do blank c ++ do_word
      ∷ clause_lexemes n behind blank b))
  form_lexemes n behind gap (form.For name a b absent s) =
      the_word gap word.FOR ∷ name_lexeme blank name.name ∷ the_mark blank mark.EQUALS ∷ (clause_lexemes n other blank a ++ the_word blank word.TO
      ∷ (clause_lexemes n before_do blank b ++ do_word ∷ clause_lexemes n behind blank s))
  form_lexemes n behind gap (form.For name a b (present c) s) =
      the_word gap word.FOR ∷ name_lexeme blank name.name ∷ the_mark blank mark.EQUALS ∷ (clause_lexemes n other blank a ++ the_word blank word.TO
      ∷ (clause_lexemes n other blank b ++ the_word blank word.BY ∷ (clause_lexemes n before_do blank c ++ do_word ∷ clause_lexemes n behind blank s)))
  form_lexemes n behind gap (form.Case e arms d) =
      the_word gap word.CASE ∷ (clause_lexemes n other blank e ++ the_word blank word.OF ∷ (arms_lexemes (n + 2) arms
      ++ the_word (newline (n + 2)) word.DEFAULT ∷ colon ∷ clause_lexemes (n + 2) behind blank d))
  form_lexemes n behind gap (form.Write items) = the_word gap word.WRITE ∷ items_lexemes n behind items
  form_lexemes n behind gap form.Abort = the_word gap word.ABORT ∷ []
  form_lexemes n behind gap (form.Proc params gives s) = the_word gap word.PROC ∷ (heading_lexemes params gives ++ clause_lexemes n behind blank s)
  form_lexemes n behind gap (form.Vector l u e) =
      the_word gap word.VECTOR ∷ (clause_lexemes n other blank l ++ the_mark nothing mark.DOUBLE_COLON ∷ (clause_lexemes n other nothing u
      ++ the_word blank word.OF ∷ clause_lexemes n behind blank e))
  form_lexemes n behind gap (form.Assign x e) = operand_lexemes n disjunction gap x ++ becomes true ∷ clause_lexemes n behind blank e
  form_lexemes n behind gap (form.Or a b) = operand_lexemes n disjunction gap a ++ the_word blank word.OR ∷ operand_lexemes n conjunction blank b
  form_lexemes n behind gap (form.And a b) = operand_lexemes n conjunction gap a ++ the_word blank word.AND ∷ operand_lexemes n negation blank b
  form_lexemes n behind gap (form.Not e) = the_mark gap mark.TILDE ∷ operand_lexemes n comparison nothing e
  form_lexemes n behind gap (form.Compare op a b) = operand_lexemes n sum gap a ++ sign_of_relation op ∷ operand_lexemes n sum blank b
  form_lexemes n behind gap (form.Is e class negated) = operand_lexemes n sum gap e ++ is_word negated ∷ name_lexeme blank class.name ∷ []
  form_lexemes n behind gap (form.Join a b) = operand_lexemes n sum gap a ++ the_mark blank mark.CONCATENATE ∷ operand_lexemes n product blank b
  form_lexemes n behind gap (form.Arith op a b) = operand_lexemes n (left_of op) gap a ++ sign_of_operator op ∷ operand_lexemes n (right_of op) blank b
  form_lexemes n behind gap (form.Plus e) = the_mark gap mark.PLUS ∷ operand_lexemes n application nothing e
  form_lexemes n behind gap (form.Neg e) = the_mark gap mark.MINUS ∷ operand_lexemes n application nothing e
  form_lexemes n behind gap (form.Apply f args) = operand_lexemes n application gap f ++ in_brackets nothing (clauses_lexemes n nothing other args)
  form_lexemes n behind gap (form.Part s i m) =
      operand_lexemes n application gap s ++ in_brackets nothing (clause_lexemes n other nothing i ++ the_mark nothing mark.BAR
      ∷ clause_lexemes n other nothing m)
  form_lexemes n behind gap (form.Name name) = name_lexeme gap name ∷ []
  form_lexemes n behind gap (form.Int value) = lexeme gap scanned.Int (int_text (nat_abs value)) ∷ []
  form_lexemes n behind gap (form.Text bytes) = lexeme gap scanned.Text (string_text bytes) ∷ []
  form_lexemes n behind gap (form.Flag value) = flag_word gap value ∷ []
  form_lexemes n behind gap form.Nil = the_word gap word.NIL ∷ []
  form_lexemes n behind gap (form.Bound upper e) = bound_word gap upper ∷ in_brackets nothing (clause_lexemes n other nothing e)
  form_lexemes n behind gap (form.Elems l t items) =
      the_mark gap mark.AT ∷ (clause_lexemes n other nothing l ++ the_word blank word.OF ∷ (type_lexemes blank t ++ the_mark blank mark.OPEN_SQUARE
      ∷ (clauses_lexemes n nothing other items ++ the_mark nothing mark.CLOSE_SQUARE ∷ [])))

  -- a clause; what would take what stands after it stands in brackets
  pub clause_lexemes : ℕ → Behind → Gap → Phrase → List Lexeme
  clause_lexemes n behind gap (at f line) =
      if is_taken behind f then in_brackets gap (form_lexemes n other nothing f) else form_lexemes n behind gap f

  -- an operand that has to bind so tight
  pub operand_lexemes : ℕ → Tightness → Gap → Phrase → List Lexeme
  operand_lexemes n needed gap (at f line) =
      if is_looser f needed then in_brackets gap (form_lexemes n other nothing f) else form_lexemes n other gap f

  pub block_lexemes : ℕ → Gap → Phrases → List Lexeme
  block_lexemes n gap none = the_mark gap mark.OPEN_CURLY ∷ the_mark nothing mark.CLOSE_CURLY ∷ []
  block_lexemes n gap (more first rest) =
      the_mark gap mark.OPEN_CURLY ∷ (clause_lexemes (n + 2) other (newline (n + 2)) first ++ semicolon ∷ (lines_lexemes (n + 2) rest
      ++ the_mark (newline n) mark.CLOSE_CURLY ∷ []))

  -- the items after the first of a block, each on a line of its own with a `;` after it
  pub lines_lexemes : ℕ → Phrases → List Lexeme
  lines_lexemes n none = []
  lines_lexemes n (more first rest) = clause_lexemes n other (newline n) first ++ semicolon ∷ lines_lexemes n rest

  -- clauses with commas between them; after the last there is this
  pub clauses_lexemes : ℕ → Gap → Behind → Phrases → List Lexeme
  clauses_lexemes n gap last none = []
  clauses_lexemes n gap last (more first rest) = clause_lexemes n (behind_clause last rest) gap first ++ more_clauses_lexemes n last rest

  pub more_clauses_lexemes : ℕ → Behind → Phrases → List Lexeme
  more_clauses_lexemes n last none = []
  more_clauses_lexemes n last (more first rest) = comma ∷ (clause_lexemes n (behind_clause last rest) blank first ++ more_clauses_lexemes n last rest)

  -- the arms of a `case`, each on a line of its own
  pub arms_lexemes : ℕ → Arms → List Lexeme
  arms_lexemes n no_arms = []
  arms_lexemes n (more_arms first rest) = arm_lexemes n first ++ arms_lexemes n rest

  pub arm_lexemes : ℕ → Arm → List Lexeme
  arm_lexemes n (arm labels a) = clauses_lexemes n (newline n) before_colon labels ++ colon ∷ (clause_lexemes n other blank a ++ semicolon ∷ [])

  -- the items of a `write`
  pub items_lexemes : ℕ → Behind → WriteItems → List Lexeme
  items_lexemes n behind no_items = []
  items_lexemes n behind (more_items first rest) = item_lexemes n (behind_item behind rest) first ++ more_items_lexemes n behind rest

  pub more_items_lexemes : ℕ → Behind → WriteItems → List Lexeme
  more_items_lexemes n behind no_items = []
  more_items_lexemes n behind (more_items first rest) = comma ∷ (item_lexemes n (behind_item behind rest) first ++ more_items_lexemes n behind rest)

  pub item_lexemes : ℕ → Behind → WriteItem → List Lexeme
  item_lexemes n behind (item e absent line) = clause_lexemes n behind blank e
  item_lexemes n behind (item e (present w) line) = clause_lexemes n before_colon blank e ++ colon ∷ clause_lexemes n behind blank w

-- the items of a program, each on a line of its own
abbrev pub program_lexemes : Phrases → List Lexeme
program_lexemes none = []
program_lexemes (more first rest) = clause_lexemes 0 other nothing first ++ semicolon ∷ lines_lexemes 0 rest

-- the lexemes of a tree: a program's stand without braces
abbrev pub layout : Phrase → List Lexeme
layout (at (form.Sequence items) line) = program_lexemes items
layout (at f line) = form_lexemes 0 other nothing f

-- the text that a tree is printed as
abbrev pub printed : Phrase → List ℕ
printed tree = printed_as (layout tree)
