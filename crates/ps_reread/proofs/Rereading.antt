-- A canonical tree, as it is laid out, is read as it was but for lines, with nothing deeper inside it.
use Rattle.std.proofs.Common.{◌≡◌, ◌≢◌, ℕ, ◌+◌, pos, List, [], ◌∷◌, ◌++◌, Bool, true, false, Some, None, refl, sym, subst, ap, ◌∙◌}
use Rattle.std.specs.Prelude.{if◌then◌else◌, drop, option_map}
use Rattle.ps_layout.specs.ps_base.TyView.{TyView}
use Rattle.ps_layout.specs.ps_base.declared.line.Line.{Line}
use Rattle.ps_layout.specs.ps_base.declared.operator.Operator.TheVariants as arith
use Rattle.ps_layout.specs.ps_base.declared.operator.Relation.{Relation}
use Rattle.ps_layout.specs.ps_base.declared.operator.Relation.TheVariants as order
use Rattle.ps_parse.specs.ps_scan.Tokens.{slice_of, line_of, int_value, spelled}
use Rattle.ps_parse.specs.ps_scan.Class as class
use Rattle.ps_parse.specs.ps_scan.Piece.{quoted, bytes_of}
use Rattle.ps_parse.specs.ps_scan.declared.mark.TheConstants as mark
use Rattle.ps_parse.specs.ps_scan.declared.word.TheConstants as word
use Rattle.ps_layout.specs.ps_symbols.declared.kind.Kind.{Kind}
use Rattle.ps_layout.specs.ps_symbols.declared.kind.Kind.TheVariants as kind
use Rattle.ps_layout.specs.ps_symbols.declared.kind.Level.TheVariants.{Disjunction, Conjunction, Sum, Product}
use Rattle.ps_layout.specs.ps_symbols.declared.kind.Operation.{Operation}
use Rattle.ps_layout.specs.ps_symbols.declared.kind.Operation.TheVariants as operation
use Rattle.ps_layout.specs.ps_symbols.declared.kind.Relating.TheVariants.{Compares, IsOf}
use Rattle.ps_layout.specs.ps_symbols.declared.symbol.Symbol.{Symbol}
use Rattle.ps_layout.specs.ps_symbols.Kinds.{kind_of, operation_of, relating_of, begins_item}
use Rattle.ps_layout.specs.ps_tree.Phrase.{NameAt, GroupAt, Phrase, at, Form, Phrases, none, more, absent, present, Arm, Arms, no_arms, more_arms, arm, WriteItem, item, WriteItems, no_items, more_items}
use Rattle.ps_layout.specs.ps_tree.Phrase as form
use Rattle.ps_parse.specs.ps_reader.Grammar as grammar
use Rattle.ps_layout.specs.ps_tree.Composing.{and_then, and_arm, and_item, joined}
use Rattle.ps_parse.specs.ps_reader.Grammar.{Made, a_clause, an_item, Part, Rule, Give, Take, Go, Open, Then, Clause, a_clause_inside, Items, MoreItems, Item, Literal, Until, Cases, Labels, Width, Written, MoreWritten, Chain, MoreChain, Application, Applied, MoreArguments, MoreElements, Primary, inside, row, skip, with_clause, clause_of, give, line_in}
use Rattle.ps_parse.specs.ps_reader.Reading.{kind_at, Reads, gives, takes, goes, joins}
use Rattle.ps_layout.specs.Lexemes.{Gap, nothing, blank, newline, Lexeme}
use Rattle.ps_layout.specs.Layout.{lexeme, the_word, the_mark, name_lexeme, open_round, close_round, comma, semicolon, colon, do_word, in_brackets, type_lexemes, groups_lexemes, heading_lexemes, behind_arrow, becomes, is_word, flag_word, bound_word, sign_of_relation, sign_of_operator, Tightness, number_of, tightness, left_of, right_of, is_looser, disjunction, conjunction, negation, sum, product, signed, application, primary, Behind, other, before_do, before_comma, before_colon, is_taken, ends_open, behind_clause, behind_item, form_lexemes, clause_lexemes, operand_lexemes, block_lexemes, lines_lexemes, clauses_lexemes, more_clauses_lexemes, arms_lexemes, arm_lexemes, items_lexemes, more_items_lexemes, item_lexemes}
use Rattle.ps_layout.specs.Layout as layout
use Rattle.ps_layout.specs.Waiting.{is_procedure}
use Rattle.ps_reread.specs.Bare.{bare, bare_all, bare_arms, bare_item, bare_items}
use Rattle.ps_reread.specs.Spelled.{can_be_spelled}
use Rattle.ps_reread.proofs.Glued.{all_passes}
use Rattle.ps_reread.proofs.Spelt.{int_is_spelled, string_is_spelled}
use Rattle.ps_reread.proofs.Appending.{append, append_none, append_one, append_arms, append_no_arms, append_arm, append_items, append_no_items, append_item}
use Rattle.ps_reread.proofs.Begins.{By, clause_of_begins, begins_at, bracketed_reads, lead_primary, lead_of_primary, by_lead, starts_clause, arguments_begin, cases_begin, item_is_clause, clause_begins_item, nothing_between}
use Rattle.ps_reread.proofs.Canonical.{IsForm, IsClause, IsOperand, AreClauses, AreArms, AreItems, IsWritten, AreItemsOf, IsItem, AreGroups, IsResult}
use Rattle.ps_reread.proofs.Canonical as is
use Rattle.ps_reread.proofs.Climb.{Rereads, Leads, Above, above_application, above_signed, above_product, above_sum, above_comparison, above_negation, above_conjunction, above_disjunction, opens_arguments, starts_disjunction, expression_opens, give_back, lead_at, close_application, close_product, close_sum, close_comparison, close_conjunction, close_disjunction}
use Rattle.ps_reread.proofs.Climb as climb
use Rattle.ps_reread.proofs.Fronts.{InFront, of_do, of_comma, of_colon, of_other, closes}
use Rattle.ps_reread.proofs.Heads.{Head, head, ended}
use Rattle.ps_reread.proofs.Standing.{Stands, cut}
use Rattle.ps_reread.proofs.TypesRead.{round, gives_at, reads_at, type_reads, result_reads, groups_read}

-- forms that are alike in their parts are alike
alike1 : {A B : Type 0} (f : A → B) {a a' : A} → a ≡ a' → f a ≡ f a'
alike1 f same = ap f same

alike2 : {A B C : Type 0} (f : A → B → C) {a a' : A} {b b' : B} → a ≡ a' → b ≡ b' → f a b ≡ f a' b'
alike2 f {a} {a'} {b} {b'} same also = ap (λ x. f x b) same ∙ ap (λ y. f a' y) also

alike3 : {A B C D : Type 0} (f : A → B → C → D) {a a' : A} {b b' : B} {c c' : C} → a ≡ a' → b ≡ b' → c ≡ c' → f a b c ≡ f a' b' c'
alike3 f {a} {a'} {b} {b'} {c} {c'} same also too = ap (λ x. f x b c) same ∙ alike2 (f a') also too

alike4 : {A B C D E : Type 0} (f : A → B → C → D → E) {a a' : A} {b b' : B} {c c' : C} {d d' : D} → a ≡ a' → b ≡ b' → c ≡ c' → d ≡ d' → f a b c d ≡ f a' b' c' d'
alike4 f {a} {a'} {b} {b'} {c} {c'} {d} {d'} same also too besides = ap (λ x. f x b c d) same ∙ alike3 (f a') also too besides

alike5 : {A B C D E F : Type 0} (f : A → B → C → D → E → F) {a a' : A} {b b' : B} {c c' : C} {d d' : D} {e e' : E} → a ≡ a' → b ≡ b' → c ≡ c' → d ≡ d' → e ≡ e' → f a b c d e ≡ f a' b' c' d' e'
alike5 f {a} {a'} {b} {b'} {c} {c'} {d} {d'} {e} {e'} same also too besides last = ap (λ x. f x b c d e) same ∙ alike4 (f a') also too besides last

-- a form on the first line
abbrev F : Form → Phrase
F f = at f (line_of 1)

abbrev bare_named : List ℕ → NameAt
bare_named bytes = record { name = bytes; line = line_of 1 }

above_as : {t : Tightness} {k known : Kind} → k ≡ known → Above t known → Above t k
above_as {t} same = subst (λ (k : Kind). Above t k) (sym same)

of_disjunction : {k : Kind} → Above disjunction k → (operation_of Conjunction k ≡ None) × Above conjunction k
of_disjunction (above_disjunction closed above) = (closed, above)

of_conjunction : {k : Kind} → Above conjunction k → Above negation k
of_conjunction (above_conjunction above) = above

of_negation : {k : Kind} → Above negation k → Above layout.comparison k
of_negation (above_negation above) = above

of_comparison : {k : Kind} → Above layout.comparison k → (operation_of Sum k ≡ None) × Above sum k
of_comparison (above_comparison closed unrelated above) = (closed, above)

of_sum : {k : Kind} → Above sum k → (operation_of Product k ≡ None) × Above product k
of_sum (above_sum closed above) = (closed, above)

of_product : {k : Kind} → Above product k → Above signed k
of_product (above_product above) = above

of_signed : {k : Kind} → Above signed k → opens_arguments k ≡ false
of_signed (above_signed closed) = closed

in_front_as : {behind : Behind} {k known : Kind} → k ≡ known → InFront behind known → InFront behind k
in_front_as {behind} same = subst (λ (k : Kind). InFront behind k) (sym same)

-- a comparison's sign
abbrev relation_kind : Relation → Kind
relation_kind op = kind_of (sign_of_relation op).what

relates : (op : Relation) → relating_of (relation_kind op) ≡ Some (Compares op)
relates order.Equal = refl
relates order.NotEqual = refl
relates order.Less = refl
relates order.LessEqual = refl
relates order.Greater = refl
relates order.GreaterEqual = refl

above_relation : (op : Relation) → Above sum (relation_kind op)
above_relation order.Equal = above_sum refl (above_product (above_signed refl))
above_relation order.NotEqual = above_sum refl (above_product (above_signed refl))
above_relation order.Less = above_sum refl (above_product (above_signed refl))
above_relation order.LessEqual = above_sum refl (above_product (above_signed refl))
above_relation order.Greater = above_sum refl (above_product (above_signed refl))
above_relation order.GreaterEqual = above_sum refl (above_product (above_signed refl))

no_sum_there : (op : Relation) → operation_of Sum (relation_kind op) ≡ None
no_sum_there order.Equal = refl
no_sum_there order.NotEqual = refl
no_sum_there order.Less = refl
no_sum_there order.LessEqual = refl
no_sum_there order.Greater = refl
no_sum_there order.GreaterEqual = refl

abbrev class_kind : Bool → Kind
class_kind negated = kind_of (is_word negated).what

asks_class : (negated : Bool) → relating_of (class_kind negated) ≡ Some (IsOf negated)
asks_class false = refl
asks_class true = refl

above_class : (negated : Bool) → Above sum (class_kind negated)
above_class false = above_sum refl (above_product (above_signed refl))
above_class true = above_sum refl (above_product (above_signed refl))

no_sum_in_class : (negated : Bool) → operation_of Sum (class_kind negated) ≡ None
no_sum_in_class false = refl
no_sum_in_class true = refl

-- how a `let` that is no procedure's is laid out
let_plain : (n : ℕ) (behind : Behind) (gap : Gap) (name : NameAt) (variable : Bool) (e : Phrase) → is_procedure variable e ≡ false → form_lexemes n behind gap (form.Let name variable e) ≡ the_word gap word.LET ∷ name_lexeme blank name.name ∷ becomes variable ∷ clause_lexemes n behind blank e
let_plain n behind gap name true e is = refl
let_plain n behind gap name false (at (form.Proc params g s) line) is = absurd (cc)
let_plain n behind gap name false (at _ line) is = refl

binding_row : (line : Line) (name : NameAt) (variable : Bool) → grammar.binding line name (kind_of (becomes variable).what) ≡ Some (grammar.bound (kind_of (becomes variable).what) variable line name)
binding_row line name false = refl
binding_row line name true = refl

-- items of a `write` that don't end open before a colon
closed_rest : (behind : Behind) (first second : WriteItem) (rest : WriteItems) → is_taken behind (form.Write (more_items first (more_items second rest))) ≡ false → is_taken behind (form.Write (more_items second rest)) ≡ false
closed_rest other first second rest is = refl
closed_rest before_do first second rest is = refl
closed_rest before_comma first second rest is = is
closed_rest before_colon (item e absent line) second rest is = is
closed_rest before_colon (item e (present w) line) second rest is = is

closed_width : (e : Phrase) (k : Kind) → closes k ≡ true → grammar.width e k ≡ Give (an_item (item e absent (line_in e)))
closed_width e kind.Colon same = absurd (cc)
closed_width e _ same = refl

no_width : {behind : Behind} {k : Kind} (e : Phrase) → behind ≢ before_colon → InFront behind k → grammar.width e k ≡ Give (an_item (item e absent (line_in e)))
no_width e not_colon (of_do same) = ap (λ (k : Kind). grammar.width e k) same
no_width e not_colon (of_comma same) = ap (λ (k : Kind). grammar.width e k) same
no_width e not_colon (of_colon same) = absurd (not_colon refl)
no_width e not_colon (of_other {k = k} same) = closed_width e k same

closed_writing : (line : Line) (all : WriteItems) (k : Kind) → closes k ≡ true → grammar.more_written line all k ≡ give (form.Write all) line
closed_writing line all kind.Comma same = absurd (cc)
closed_writing line all _ same = refl

nothing_more_written : {behind : Behind} {k : Kind} (line : Line) (all : WriteItems) → behind ≢ before_comma → InFront behind k → grammar.more_written line all k ≡ give (form.Write all) line
nothing_more_written line all not_comma (of_do same) = ap (λ (k : Kind). grammar.more_written line all k) same
nothing_more_written line all not_comma (of_comma same) = absurd (not_comma refl)
nothing_more_written line all not_comma (of_colon same) = ap (λ (k : Kind). grammar.more_written line all k) same
nothing_more_written line all not_comma (of_other {k = k} same) = closed_writing line all k same

not_before_comma : (behind : Behind) (items : WriteItems) → is_taken behind (form.Write items) ≡ false → behind ≢ before_comma
not_before_comma behind items closed same = absurd (let taken = ap (λ (b : Behind). is_taken b (form.Write items)) same in cc)

not_before_colon : (behind : Behind) (e : Phrase) (line : Line) → is_taken behind (form.Write (more_items (item e absent line) no_items)) ≡ false → behind ≢ before_colon
not_before_colon behind e line closed same = absurd (let taken = ap (λ (b : Behind). is_taken b (form.Write (more_items (item e absent line) no_items))) same in cc)

-- where an item has no width, no colon stands after it
pub data IsShut (behind : Behind) : WriteItem → Type 0 where
  shut : {e : Phrase} {line : Line} → behind ≢ before_colon → IsShut behind (item e absent line)
  shut_wide : {e w : Phrase} {line : Line} → IsShut behind (item e (present w) line)

open_item : (behind : Behind) (one : WriteItem) (rest : WriteItems) → is_taken behind (form.Write (more_items one rest)) ≡ false → IsShut (behind_item behind rest) one
open_item behind (item e absent line) no_items closed = shut (not_before_colon behind e line closed)
open_item behind (item e absent line) (more_items first rest) closed = shut (λ same. absurd (cc))
open_item behind (item e (present w) line) rest closed = shut_wide

-- what has been read of a list with commas goes on with the rest of it
pub record Listed (text : List ℕ) (symbols : List Symbol) (room : ℕ) (part : Phrases → Part) (from : ℕ) (before ps : Phrases) (to : ℕ) : Type 0 where
  pub all : Phrases
  pub lead : (made : Made) (end : ℕ) → Reads text symbols room (Go (part all)) to made end → Reads text symbols room (Go (part before)) from made end
  pub same : bare_all all ≡ append (bare_all before) (bare_all ps)

pub record ArmsRead (text : List ℕ) (symbols : List Symbol) (room : ℕ) (line : Line) (e : Phrase) (from : ℕ) (before arms : Arms) (to : ℕ) : Type 0 where
  pub all : Arms
  pub lead : (made : Made) (end : ℕ) → Reads text symbols room (Go (Cases line e all)) to made end → Reads text symbols room (Go (Cases line e before)) from made end
  pub same : bare_arms all ≡ append_arms (bare_arms before) (bare_arms arms)

pub record ItemsWritten (text : List ℕ) (symbols : List Symbol) (room : ℕ) (line : Line) (from : ℕ) (before items : WriteItems) (to : ℕ) : Type 0 where
  pub all : WriteItems
  pub lead : (made : Made) (end : ℕ) → Reads text symbols room (Go (MoreWritten line all)) to made end → Reads text symbols room (Go (MoreWritten line before)) from made end
  pub same : bare_items all ≡ append_items (bare_items before) (bare_items items)

pub record OneWritten (text : List ℕ) (symbols : List Symbol) (room : ℕ) (from : ℕ) (one : WriteItem) (to : ℕ) : Type 0 where
  pub again : WriteItem
  pub read : Reads text symbols room (Go Written) from (an_item again) to
  pub same : bare_item again ≡ bare_item one

-- the items of a sequence, from one place on, after those before
pub record SequenceRead (text : List ℕ) (symbols : List Symbol) (room : ℕ) (line : Line) (from : ℕ) (before ps : Phrases) (to : ℕ) : Type 0 where
  pub all : Phrases
  pub read : Reads text symbols room (Go (Items line before)) from (a_clause (at (form.Sequence all) line)) to
  pub same : bare_all all ≡ append (bare_all before) (bare_all ps)

-- an item, and the kind with which it begins
pub record ItemRead (text : List ℕ) (symbols : List Symbol) (room : ℕ) (from : ℕ) (p : Phrase) (to : ℕ) : Type 0 where
  pub again : Phrase
  pub read : Reads text symbols room (Go Item) from (a_clause again) to
  pub begins : begins_item (kind_at symbols from) ≡ true
  pub same : bare again ≡ bare p

-- after the first of a list there is a comma, or what stands after the list
pub data ListEnd (closing : Kind) : Kind → Type 0 where
  by_comma : {k : Kind} → k ≡ kind.Comma → ListEnd closing k
  by_close : {k : Kind} → k ≡ closing → ListEnd closing k

second_plain : {k : Kind} (line : Line) (f first : Phrase) → ListEnd kind.CloseRound k → grammar.second_argument line f first k ≡ Go (MoreArguments line f (more first none))
second_plain line f first (by_comma same) = ap (λ (k : Kind). grammar.second_argument line f first k) same
second_plain line f first (by_close same) = ap (λ (k : Kind). grammar.second_argument line f first k) same

sequence_ends : (line : Line) (all : Phrases) (k : Kind) → begins_item k ≡ false → k ≢ kind.Semicolon → grammar.items_end line all k ≡ give (form.Sequence all) line
sequence_ends line all kind.Semicolon no_item other_kind = absurd (other_kind refl)
sequence_ends line all _ no_item other_kind = refl

module _ {text : List ℕ} {symbols : List Symbol} where
  list_end : (last : Behind) {closing : Kind} (n : ℕ) (rest : Phrases) (from to : ℕ) → Stands text symbols from (more_clauses_lexemes n last rest) to → kind_at symbols to ≡ closing → ListEnd closing (kind_at symbols from)
  list_end last n none from to Stands.no_more close = by_close close
  list_end last n (more first rest) from to st close = by_comma (head st).kind

  behind_front : (last : Behind) (n : ℕ) (rest : Phrases) (from to : ℕ) → Stands text symbols from (more_clauses_lexemes n last rest) to → InFront last (kind_at symbols to) → InFront (behind_clause last rest) (kind_at symbols from)
  behind_front last n none from to Stands.no_more front = front
  behind_front last n (more first rest) from to st front = of_comma (head st).kind

  item_front : (behind : Behind) (n : ℕ) (rest : WriteItems) (from to : ℕ) → Stands text symbols from (more_items_lexemes n behind rest) to → InFront behind (kind_at symbols to) → InFront (behind_item behind rest) (kind_at symbols from)
  item_front behind n no_items from to Stands.no_more front = front
  item_front behind n (more_items first rest) from to st front = of_comma (head st).kind

  -- `+`, `-` and `++`, and `*`, `div` and `rem`, between what has been read
  sum_goes : {room from middle to : ℕ} {a b : Phrase} {sign : Lexeme} {rest : List Lexeme} {end : ℕ} (op : Operation) → operation_of Sum (kind_of sign.what) ≡ Some op → (left : Leads text symbols room sum from a middle) → (o : Head text symbols middle sign rest end) → (right : Rereads text symbols room (Go (Chain Product)) (middle + 1) b to) → (made : Made) (last : ℕ) → Reads text symbols room (Go (MoreChain Sum (joined op left.again right.again o.symbol.token.line))) to made last → Reads text symbols room (Go (Chain Sum)) from made last
  sum_goes {sign = sign} op is left o right made last deeper = left.lead made last (goes (ap (λ (k : Kind). Some (grammar.more_chain Sum left.again k (operation_of Sum k))) o.kind ∙ ap (λ (op : _). Some (grammar.more_chain Sum left.again (kind_of sign.what) op)) is) (takes o.here o.is (joins right.read deeper)))

  product_goes : {room from middle to : ℕ} {a b : Phrase} {sign : Lexeme} {rest : List Lexeme} {end : ℕ} (op : Operation) → operation_of Product (kind_of sign.what) ≡ Some op → (left : Leads text symbols room product from a middle) → (o : Head text symbols middle sign rest end) → (right : Rereads text symbols room (Go grammar.Factor) (middle + 1) b to) → (made : Made) (last : ℕ) → Reads text symbols room (Go (MoreChain Product (joined op left.again right.again o.symbol.token.line))) to made last → Reads text symbols room (Go (Chain Product)) from made last
  product_goes {sign = sign} op is left o right made last deeper = left.lead made last (goes (ap (λ (k : Kind). Some (grammar.more_chain Product left.again k (operation_of Product k))) o.kind ∙ ap (λ (op : _). Some (grammar.more_chain Product left.again (kind_of sign.what) op)) is) (takes o.here o.is (joins right.read deeper)))

  -- a procedure after its first word
  literal_reads : {room : ℕ} {behind : Behind} {params : List GroupAt} {g : TyView} {s : Phrase} (n : ℕ) → AreGroups room params → IsResult room g → ((start end : ℕ) → Stands text symbols start (clause_lexemes n behind blank s) end → InFront behind (kind_at symbols end) → Rereads text symbols room Clause start s end) → (line other_line : Line) (from to : ℕ) → Stands text symbols from (heading_lexemes params g ++ clause_lexemes n behind blank s) to → InFront behind (kind_at symbols to) → Rereads text symbols room (Go (Literal line)) from (at (form.Proc params g s) other_line) to
  literal_reads {behind = behind} {params = params} {g = g} {s = s} n pp gg reads line other_line from to st front =
      let c = cut (heading_lexemes params g) (clause_lexemes n behind blank s) st in
      let d = cut (in_brackets nothing (groups_lexemes params ++ behind_arrow g (type_lexemes blank g))) (semicolon ∷ []) c.1 in
      let b = head d.1 in
      let u = cut (groups_lexemes params ++ behind_arrow g (type_lexemes blank g)) (close_round ∷ []) b.more in
      let e = head u.2 in
      let v = cut (groups_lexemes params) (behind_arrow g (type_lexemes blank g)) u.1 in
      let m = head d.2 in
      let r = result_reads gg v.0 u.0 v.2 e.kind in
      let p = groups_read pp (from + 1) v.0 v.1 r.1 in
      let s' = reads c.0 to c.2 front in
      record { again = at (form.Proc p.again g s'.again) line; read = goes refl (takes b.here b.is (joins p.read (joins r.0 (takes e.here e.is (reads_at (ended e.more) (takes m.here m.is (reads_at (ended m.more) (joins s'.read gives)))))))); same = alike2 (λ (ps : List GroupAt) (x : Phrase). F (form.Proc ps g x)) p.same s'.same }

  mutual
    pub clause_reads : {room : ℕ} {behind : Behind} {p : Phrase} → IsClause room behind p → (n : ℕ) (gap : Gap) (from to : ℕ) → Stands text symbols from (clause_lexemes n behind gap p) to → InFront behind (kind_at symbols to) → Rereads text symbols room Clause from p to
    clause_reads (is.plain {behind = behind} {f = f} {line = line} not_taken form) n gap from to st front =
        let st' = subst (λ (b : Bool). Stands text symbols from (if b then in_brackets gap (form_lexemes n other nothing f) else form_lexemes n behind gap f) to) not_taken st in
        clause_of_begins (begins_at (tightness f) (form_reads form n gap line from to st') front)
    clause_reads (is.kept {behind = behind} {f = f} {line = line} taken form) n gap from to st front =
        let st' = subst (λ (b : Bool). Stands text symbols from (if b then in_brackets gap (form_lexemes n other nothing f) else form_lexemes n behind gap f) to) taken st in
        let r = bracketed_reads gap (form_lexemes n other nothing f) from to st' (λ start end inner close. begins_at (tightness f) (form_reads form n nothing line start end inner) close) in
        clause_of_begins (begins_at primary (λ _. lead_primary r) front)

    pub operand_reads : {room : ℕ} {needed : Tightness} {p : Phrase} → IsOperand room needed p → (n : ℕ) (gap : Gap) (from to : ℕ) → Stands text symbols from (operand_lexemes n needed gap p) to → Above needed (kind_at symbols to) → Leads text symbols room needed from p to
    operand_reads (is.tight {needed = needed} {f = f} {line = line} le form) n gap from to st above =
        let st' = subst (λ (b : Bool). Stands text symbols from (if b then in_brackets gap (form_lexemes n other nothing f) else form_lexemes n other gap f) to) le st in
        lead_at above (tightness f) le (by_lead other above (tightness f) le (form_reads form n gap line from to st'))
    operand_reads (is.loose {needed = needed} {f = f} {line = line} loose form) n gap from to st above =
        let st' = subst (λ (b : Bool). Stands text symbols from (if b then in_brackets gap (form_lexemes n other nothing f) else form_lexemes n other gap f) to) loose st in
        lead_of_primary above (bracketed_reads gap (form_lexemes n other nothing f) from to st' (λ start end inner close. begins_at (tightness f) (form_reads form n nothing line start end inner) close))

    pub form_reads : {room : ℕ} {behind : Behind} {f : Form} → IsForm room behind f → (n : ℕ) (gap : Gap) (line : Line) (from to : ℕ) → Stands text symbols from (form_lexemes n behind gap f) to → By text symbols room behind from (at f line) to (tightness f)
    form_reads (is.if_do {behind = behind} {c = c} {a = a} cc' aa) n gap line from to st = λ front.
        let h = head st in
        let s = cut (clause_lexemes n before_do blank c) (do_word ∷ clause_lexemes n behind blank a) h.more in
        let d = head s.2 in
        let c' = clause_reads cc' n blank (from + 1) s.0 s.1 (of_do d.kind) in
        let a' = clause_reads aa n blank (s.0 + 1) to d.more front in
        record { rule = grammar.condition; begins = ap (λ (k : Kind). inside text a_clause_inside k) h.kind; again = at (form.IfDo c'.again a'.again) h.symbol.token.line; read = takes h.here h.is (joins c'.read (goes (ap (λ (k : Kind). grammar.choice h.symbol.token.line c'.again k) d.kind) (takes d.here d.is (joins a'.read gives)))); same = alike2 (λ (x y : Phrase). F (form.IfDo x y)) c'.same a'.same }
    form_reads (is.if_else {behind = behind} {c = c} {a = a} {b = b} cc' aa bb) n gap line from to st = λ front.
        let h = head st in
        let s = cut (clause_lexemes n other blank c) (the_word blank word.THEN ∷ (clause_lexemes n other blank a ++ the_word blank word.ELSE ∷ clause_lexemes n behind blank b)) h.more in
        let d = head s.2 in
        let t = cut (clause_lexemes n other blank a) (the_word blank word.ELSE ∷ clause_lexemes n behind blank b) d.more in
        let e = head t.2 in
        let c' = clause_reads cc' n blank (from + 1) s.0 s.1 (of_other (ap closes d.kind)) in
        let a' = clause_reads aa n blank (s.0 + 1) t.0 t.1 (of_other (ap closes e.kind)) in
        let b' = clause_reads bb n blank (t.0 + 1) to e.more front in
        record { rule = grammar.condition; begins = ap (λ (k : Kind). inside text a_clause_inside k) h.kind; again = at (form.IfElse c'.again a'.again b'.again) h.symbol.token.line; read = takes h.here h.is (joins c'.read (goes (ap (λ (k : Kind). grammar.choice h.symbol.token.line c'.again k) d.kind) (takes d.here d.is (joins a'.read (takes e.here e.is (joins b'.read gives)))))); same = alike3 (λ (x y z : Phrase). F (form.IfElse x y z)) c'.same a'.same b'.same }
    form_reads (is.while_do {behind = behind} {c = c} {a = a} cc' aa) n gap line from to st = λ front.
        let h = head st in
        let s = cut (clause_lexemes n before_do blank c) (do_word ∷ clause_lexemes n behind blank a) h.more in
        let d = head s.2 in
        let c' = clause_reads cc' n blank (from + 1) s.0 s.1 (of_do d.kind) in
        let a' = clause_reads aa n blank (s.0 + 1) to d.more front in
        record { rule = grammar.loop; begins = ap (λ (k : Kind). inside text a_clause_inside k) h.kind; again = at (form.While c'.again a'.again) h.symbol.token.line; read = takes h.here h.is (joins c'.read (takes d.here d.is (joins a'.read gives))); same = alike2 (λ (x y : Phrase). F (form.While x y)) c'.same a'.same }
    form_reads (is.repeat_while {behind = behind} {a = a} {c = c} not_do aa cc') n gap line from to st = λ front.
        let h = head st in
        let s = cut (clause_lexemes n other blank a) (the_word blank word.WHILE ∷ clause_lexemes n behind blank c) h.more in
        let d = head s.2 in
        let a' = clause_reads aa n blank (from + 1) s.0 s.1 (of_other (ap closes d.kind)) in
        let c' = clause_reads cc' n blank (s.0 + 1) to d.more front in
        record { rule = grammar.repeating; begins = ap (λ (k : Kind). inside text a_clause_inside k) h.kind; again = at (form.Repeat a'.again c'.again absent) h.symbol.token.line; read = takes h.here h.is (joins a'.read (goes (ap (λ (k : Kind). Some (grammar.until h.symbol.token.line a'.again k)) d.kind) (goes refl (takes d.here d.is (joins c'.read (goes (ap (λ (r : Rule). Some r) (nothing_between h.symbol.token.line a'.again c'.again not_do front)) (gives))))))); same = alike2 (λ (x y : Phrase). F (form.Repeat x y absent)) a'.same c'.same }
    form_reads (is.repeat_do {behind = behind} {a = a} {c = c} {b = b} aa cc' bb) n gap line from to st = λ front.
        let h = head st in
        let s = cut (clause_lexemes n other blank a) (the_word blank word.WHILE ∷ (clause_lexemes n before_do blank c ++ do_word ∷ clause_lexemes n behind blank b)) h.more in
        let d = head s.2 in
        let t = cut (clause_lexemes n before_do blank c) (do_word ∷ clause_lexemes n behind blank b) d.more in
        let e = head t.2 in
        let a' = clause_reads aa n blank (from + 1) s.0 s.1 (of_other (ap closes d.kind)) in
        let c' = clause_reads cc' n blank (s.0 + 1) t.0 t.1 (of_do e.kind) in
        let b' = clause_reads bb n blank (t.0 + 1) to e.more front in
        record { rule = grammar.repeating; begins = ap (λ (k : Kind). inside text a_clause_inside k) h.kind; again = at (form.Repeat a'.again c'.again (present b'.again)) h.symbol.token.line; read = takes h.here h.is (joins a'.read (goes (ap (λ (k : Kind). Some (grammar.until h.symbol.token.line a'.again k)) d.kind) (goes refl (takes d.here d.is (joins c'.read (goes (ap (λ (k : Kind). Some (grammar.between h.symbol.token.line a'.again c'.again k)) e.kind) (takes e.here e.is (joins b'.read gives)))))))); same = alike3 (λ (x y z : Phrase). F (form.Repeat x y (present z))) a'.same c'.same b'.same }
    form_reads (is.for_to {behind = behind} {name = name} {a = a} {b = b} {s = s} of_name aa bb ss) n gap line from to st = λ front.
        let h = head st in
        let m = head h.more in
        let q = head m.more in
        let u = cut (clause_lexemes n other blank a) (the_word blank word.TO ∷ (clause_lexemes n before_do blank b ++ do_word ∷ clause_lexemes n behind blank s)) q.more in
        let d = head u.2 in
        let v = cut (clause_lexemes n before_do blank b) (do_word ∷ clause_lexemes n behind blank s) d.more in
        let e = head v.2 in
        let a' = clause_reads aa n blank (from + 1 + 1 + 1) u.0 u.1 (of_other (ap closes d.kind)) in
        let b' = clause_reads bb n blank (u.0 + 1) v.0 v.1 (of_do e.kind) in
        let s' = clause_reads ss n blank (v.0 + 1) to e.more front in
        record { rule = grammar.counting text; begins = ap (λ (k : Kind). inside text a_clause_inside k) h.kind; again = at (form.For (grammar.name_at text m.symbol) a'.again b'.again absent s'.again) h.symbol.token.line; read = takes h.here h.is (takes m.here m.is (takes q.here q.is (joins a'.read (takes d.here d.is (joins b'.read (goes (ap (λ (k : Kind). Some (grammar.step h.symbol.token.line (grammar.name_at text m.symbol) a'.again b'.again k)) e.kind) (goes refl (takes e.here e.is (joins s'.read gives))))))))); same = alike4 (λ (bytes : List ℕ) (x y z : Phrase). F (form.For (bare_named bytes) x y absent z)) m.spelled a'.same b'.same s'.same }
    form_reads (is.for_by {behind = behind} {name = name} {a = a} {b = b} {c = c} {s = s} of_name aa bb cc' ss) n gap line from to st = λ front.
        let h = head st in
        let m = head h.more in
        let q = head m.more in
        let u = cut (clause_lexemes n other blank a) (the_word blank word.TO ∷ (clause_lexemes n other blank b ++ the_word blank word.BY ∷ (clause_lexemes n before_do blank c ++ do_word ∷ clause_lexemes n behind blank s))) q.more in
        let d = head u.2 in
        let v = cut (clause_lexemes n other blank b) (the_word blank word.BY ∷ (clause_lexemes n before_do blank c ++ do_word ∷ clause_lexemes n behind blank s)) d.more in
        let y = head v.2 in
        let w = cut (clause_lexemes n before_do blank c) (do_word ∷ clause_lexemes n behind blank s) y.more in
        let e = head w.2 in
        let a' = clause_reads aa n blank (from + 1 + 1 + 1) u.0 u.1 (of_other (ap closes d.kind)) in
        let b' = clause_reads bb n blank (u.0 + 1) v.0 v.1 (of_other (ap closes y.kind)) in
        let c' = clause_reads cc' n blank (v.0 + 1) w.0 w.1 (of_do e.kind) in
        let s' = clause_reads ss n blank (w.0 + 1) to e.more front in
        record { rule = grammar.counting text; begins = ap (λ (k : Kind). inside text a_clause_inside k) h.kind; again = at (form.For (grammar.name_at text m.symbol) a'.again b'.again (present c'.again) s'.again) h.symbol.token.line; read = takes h.here h.is (takes m.here m.is (takes q.here q.is (joins a'.read (takes d.here d.is (joins b'.read (goes (ap (λ (k : Kind). Some (grammar.step h.symbol.token.line (grammar.name_at text m.symbol) a'.again b'.again k)) y.kind) (takes y.here y.is (joins c'.read (goes refl (takes e.here e.is (joins s'.read gives))))))))))); same = alike5 (λ (bytes : List ℕ) (x y z w : Phrase). F (form.For (bare_named bytes) x y (present z) w)) m.spelled a'.same b'.same c'.same s'.same }
    form_reads (is.case_of {behind = behind} {e = e} {d = d} {arms = arms} ee are dd) n gap line from to st = λ front.
        let h = head st in
        let u = cut (clause_lexemes n other blank e) (the_word blank word.OF ∷ (arms_lexemes (n + 2) arms ++ the_word (newline (n + 2)) word.DEFAULT ∷ colon ∷ clause_lexemes (n + 2) behind blank d)) h.more in
        let o = head u.2 in
        let v = cut (arms_lexemes (n + 2) arms) (the_word (newline (n + 2)) word.DEFAULT ∷ colon ∷ clause_lexemes (n + 2) behind blank d) o.more in
        let f = head v.2 in
        let l = head f.more in
        let e' = clause_reads ee n blank (from + 1) u.0 u.1 (of_other (ap closes o.kind)) in
        let r = arms_read are h.symbol.token.line e'.again no_arms (n + 2) (u.0 + 1) v.0 v.1 in
        let d' = clause_reads dd (n + 2) blank (v.0 + 1 + 1) to l.more front in
        record { rule = grammar.choosing; begins = ap (λ (k : Kind). inside text a_clause_inside k) h.kind; again = at (form.Case e'.again r.all d'.again) h.symbol.token.line; read = takes h.here h.is (joins e'.read (takes o.here o.is (r.lead _ _ (goes (ap (λ (k : Kind). Some (grammar.cases h.symbol.token.line e'.again r.all k)) f.kind) (takes f.here f.is (takes l.here l.is (joins d'.read gives))))))); same = alike3 (λ (x : Phrase) (all : Arms) (y : Phrase). F (form.Case x all y)) e'.same r.same d'.same }
    form_reads (is.write {behind = behind} {first = first} {rest = rest} closed (is.and_items one others)) n gap line from to st = λ front.
        let h = head st in
        let u = cut (item_lexemes n (behind_item behind rest) first) (more_items_lexemes n behind rest) h.more in
        let i = item_reads one n (from + 1) u.0 u.1 (item_front behind n rest u.0 to u.2 front) (open_item behind first rest closed) in
        let r = items_read others first closed h.symbol.token.line (more_items i.again no_items) n u.0 to u.2 front in
        record { rule = grammar.writing; begins = ap (λ (k : Kind). inside text a_clause_inside k) h.kind; again = at (form.Write r.all) h.symbol.token.line; read = takes h.here h.is (joins i.read (r.lead _ _ (goes (ap (λ (rule : Rule). Some rule) (nothing_more_written h.symbol.token.line r.all (not_before_comma behind (more_items first rest) closed) front)) gives))); same = alike1 (λ (all : WriteItems). F (form.Write all)) (r.same ∙ ap (λ (one : WriteItem). more_items one (bare_items rest)) i.same) }
    form_reads (is.abort) n gap line from to st = λ front.
        let h = head st in
        record { rule = grammar.aborting; begins = ap (λ (k : Kind). inside text a_clause_inside k) h.kind; again = at (form.Abort) h.symbol.token.line; read = takes h.here h.is (gives_at (ended h.more)); same = refl }
    form_reads (is.proc {behind = behind} {params = params} {gives = g} {s = s} pp gg ss) n gap line from to st = λ front.
        let h = head st in
        let r = literal_reads n pp gg (λ start end st close. clause_reads ss n blank start end st close) h.symbol.token.line line (from + 1) to h.more front in
        record { rule = grammar.procedure; begins = ap (λ (k : Kind). inside text a_clause_inside k) h.kind; again = r.again; read = takes h.here h.is (r.read); same = r.same }
    form_reads (is.vector {behind = behind} {l = l} {u = u} {e = e} ll uu ee) n gap line from to st = λ front.
        let h = head st in
        let s = cut (clause_lexemes n other blank l) (the_mark nothing mark.DOUBLE_COLON ∷ (clause_lexemes n other nothing u ++ the_word blank word.OF ∷ clause_lexemes n behind blank e)) h.more in
        let d = head s.2 in
        let t = cut (clause_lexemes n other nothing u) (the_word blank word.OF ∷ clause_lexemes n behind blank e) d.more in
        let o = head t.2 in
        let l' = clause_reads ll n blank (from + 1) s.0 s.1 (of_other (ap closes d.kind)) in
        let u' = clause_reads uu n nothing (s.0 + 1) t.0 t.1 (of_other (ap closes o.kind)) in
        let e' = clause_reads ee n blank (t.0 + 1) to o.more front in
        record { rule = grammar.filling; begins = ap (λ (k : Kind). inside text a_clause_inside k) h.kind; again = at (form.Vector l'.again u'.again e'.again) h.symbol.token.line; read = takes h.here h.is (joins l'.read (takes d.here d.is (joins u'.read (takes o.here o.is (joins e'.read gives))))); same = alike3 (λ (x y z : Phrase). F (form.Vector x y z)) l'.same u'.same e'.same }
    form_reads (is.assign {behind = behind} {x = x} {e = e} xx ee) n gap line from to st = λ front.
        let s = cut (operand_lexemes n disjunction gap x) (becomes true ∷ clause_lexemes n behind blank e) st in
        let b = head s.2 in
        let x' = close_disjunction (ap (λ (k : Kind). operation_of Disjunction k) b.kind) (operand_reads xx n gap from s.0 s.1 (above_as b.kind (above_disjunction refl (above_conjunction (above_negation (above_comparison refl refl (above_sum refl (above_product (above_signed refl))))))))) in
        let e' = clause_reads ee n blank (s.0 + 1) to b.more front in
        record { rule = grammar.expression; begins = ap (λ (o : _). option_map (grammar.opened text) o) (expression_opens (kind_at symbols from) (starts_disjunction x'.read)); again = at (form.Assign x'.again e'.again) b.symbol.token.line; read = joins x'.read (goes (ap (λ (k : Kind). Some (grammar.assignment x'.again k)) b.kind) (takes b.here b.is (joins e'.read gives))); same = alike2 (λ (x y : Phrase). F (form.Assign x y)) x'.same e'.same }
    form_reads (is.or {a = a} {b = b} aa bb) n gap line from to st = λ given.
        let closed = (of_disjunction given).0 in
        let above = (of_disjunction given).1 in
        let s = cut (operand_lexemes n disjunction gap a) (the_word blank word.OR ∷ operand_lexemes n conjunction blank b) st in
        let o = head s.2 in
        let a' = operand_reads aa n gap from s.0 s.1 (above_as o.kind (above_disjunction refl (above_conjunction (above_negation (above_comparison refl refl (above_sum refl (above_product (above_signed refl)))))))) in
        let b' = close_conjunction closed (operand_reads bb n blank (s.0 + 1) to o.more above) in
        record { again = at (form.Or a'.again b'.again) o.symbol.token.line; lead = λ made end deeper. a'.lead made end (goes (ap (λ (k : Kind). Some (grammar.more_chain Disjunction a'.again k (operation_of Disjunction k))) o.kind) (takes o.here o.is (joins b'.read deeper))); same = alike2 (λ (x y : Phrase). F (form.Or x y)) a'.same b'.same }
    form_reads (is.and {a = a} {b = b} aa bb) n gap line from to st = λ given.
        let above = of_conjunction given in
        let s = cut (operand_lexemes n conjunction gap a) (the_word blank word.AND ∷ operand_lexemes n negation blank b) st in
        let o = head s.2 in
        let a' = operand_reads aa n gap from s.0 s.1 (above_as o.kind (above_conjunction (above_negation (above_comparison refl refl (above_sum refl (above_product (above_signed refl))))))) in
        let b' = climb.close_negation (operand_reads bb n blank (s.0 + 1) to o.more above) in
        record { again = at (form.And a'.again b'.again) o.symbol.token.line; lead = λ made end deeper. a'.lead made end (goes (ap (λ (k : Kind). Some (grammar.more_chain Conjunction a'.again k (operation_of Conjunction k))) o.kind) (takes o.here o.is (joins b'.read deeper))); same = alike2 (λ (x y : Phrase). F (form.And x y)) a'.same b'.same }
    form_reads (is.not {e = e} ee) n gap line from to st = λ given.
        let above = of_negation given in
        let h = head st in
        let e' = close_comparison (operand_reads ee n nothing (from + 1) to h.more above) in
        record { again = at (form.Not e'.again) h.symbol.token.line; lead = give_back (goes (ap (λ (k : Kind). Some (grammar.relative k)) h.kind) (takes h.here h.is (joins e'.read gives))); same = alike1 (λ (x : Phrase). F (form.Not x)) e'.same }
    form_reads (is.compare {op = op} {a = a} {b = b} aa bb) n gap line from to st = λ given.
        let closed = (of_comparison given).0 in
        let above = (of_comparison given).1 in
        let s = cut (operand_lexemes n sum gap a) (sign_of_relation op ∷ operand_lexemes n sum blank b) st in
        let o = head s.2 in
        let a' = close_sum (ap (λ (k : Kind). operation_of Sum k) o.kind ∙ no_sum_there op) (operand_reads aa n gap from s.0 s.1 (above_as o.kind (above_relation op))) in
        let b' = close_sum closed (operand_reads bb n blank (s.0 + 1) to o.more above) in
        record { again = at (form.Compare op a'.again b'.again) o.symbol.token.line; lead = give_back (goes refl (joins a'.read (goes (ap (λ (k : Kind). Some (grammar.comparison text a'.again k (relating_of k))) o.kind ∙ ap (λ (r : _). Some (grammar.comparison text a'.again (relation_kind op) r)) (relates op)) (takes o.here o.is (joins b'.read gives))))); same = alike2 (λ (x y : Phrase). F (form.Compare op x y)) a'.same b'.same }
    form_reads (is.is {e = e} {class = class} {negated = negated} ee of_name) n gap line from to st = λ given.
        let closed = (of_comparison given).0 in
        let above = (of_comparison given).1 in
        let s = cut (operand_lexemes n sum gap e) (is_word negated ∷ name_lexeme blank class.name ∷ []) st in
        let o = head s.2 in
        let m = head o.more in
        let e' = close_sum (ap (λ (k : Kind). operation_of Sum k) o.kind ∙ no_sum_in_class negated) (operand_reads ee n gap from s.0 s.1 (above_as o.kind (above_class negated))) in
        record { again = at (form.Is e'.again (grammar.name_at text m.symbol) negated) o.symbol.token.line; lead = give_back (goes refl (joins e'.read (goes (ap (λ (k : Kind). Some (grammar.comparison text e'.again k (relating_of k))) o.kind ∙ ap (λ (r : _). Some (grammar.comparison text e'.again (class_kind negated) r)) (asks_class negated)) (takes o.here o.is (takes m.here m.is (gives_at (ended m.more))))))); same = alike2 (λ (x : Phrase) (bytes : List ℕ). F (form.Is x (bare_named bytes) negated)) e'.same m.spelled }
    form_reads (is.join {a = a} {b = b} aa bb) n gap line from to st = λ given.
        let closed = (of_sum given).0 in
        let above = (of_sum given).1 in
        let s = cut (operand_lexemes n sum gap a) (the_mark blank mark.CONCATENATE ∷ operand_lexemes n product blank b) st in
        let o = head s.2 in
        let a' = operand_reads aa n gap from s.0 s.1 (above_as o.kind (above_sum refl (above_product (above_signed refl)))) in
        let b' = close_product closed (operand_reads bb n blank (s.0 + 1) to o.more above) in
        record { again = at (form.Join a'.again b'.again) o.symbol.token.line; lead = sum_goes (operation.Join) refl a' o b'; same = alike2 (λ (x y : Phrase). F (form.Join x y)) a'.same b'.same }
    form_reads (is.arith {op = arith.Add} {a = a} {b = b} aa bb) n gap line from to st = λ given.
        let closed = (of_sum given).0 in
        let above = (of_sum given).1 in
        let s = cut (operand_lexemes n sum gap a) (the_mark blank mark.PLUS ∷ operand_lexemes n product blank b) st in
        let o = head s.2 in
        let a' = operand_reads aa n gap from s.0 s.1 (above_as o.kind (above_sum refl (above_product (above_signed refl)))) in
        let b' = close_product closed (operand_reads bb n blank (s.0 + 1) to o.more above) in
        record { again = at (form.Arith arith.Add a'.again b'.again) o.symbol.token.line; lead = sum_goes (operation.Arith arith.Add) refl a' o b'; same = alike2 (λ (x y : Phrase). F (form.Arith arith.Add x y)) a'.same b'.same }
    form_reads (is.arith {op = arith.Sub} {a = a} {b = b} aa bb) n gap line from to st = λ given.
        let closed = (of_sum given).0 in
        let above = (of_sum given).1 in
        let s = cut (operand_lexemes n sum gap a) (the_mark blank mark.MINUS ∷ operand_lexemes n product blank b) st in
        let o = head s.2 in
        let a' = operand_reads aa n gap from s.0 s.1 (above_as o.kind (above_sum refl (above_product (above_signed refl)))) in
        let b' = close_product closed (operand_reads bb n blank (s.0 + 1) to o.more above) in
        record { again = at (form.Arith arith.Sub a'.again b'.again) o.symbol.token.line; lead = sum_goes (operation.Arith arith.Sub) refl a' o b'; same = alike2 (λ (x y : Phrase). F (form.Arith arith.Sub x y)) a'.same b'.same }
    form_reads (is.arith {op = arith.Mul} {a = a} {b = b} aa bb) n gap line from to st = λ given.
        let above = of_product given in
        let s = cut (operand_lexemes n product gap a) (the_mark blank mark.TIMES ∷ operand_lexemes n signed blank b) st in
        let o = head s.2 in
        let a' = operand_reads aa n gap from s.0 s.1 (above_as o.kind (above_product (above_signed refl))) in
        let b' = climb.close_signed (operand_reads bb n blank (s.0 + 1) to o.more above) in
        record { again = at (form.Arith arith.Mul a'.again b'.again) o.symbol.token.line; lead = product_goes (operation.Arith arith.Mul) refl a' o b'; same = alike2 (λ (x y : Phrase). F (form.Arith arith.Mul x y)) a'.same b'.same }
    form_reads (is.arith {op = arith.Div} {a = a} {b = b} aa bb) n gap line from to st = λ given.
        let above = of_product given in
        let s = cut (operand_lexemes n product gap a) (the_word blank word.DIV ∷ operand_lexemes n signed blank b) st in
        let o = head s.2 in
        let a' = operand_reads aa n gap from s.0 s.1 (above_as o.kind (above_product (above_signed refl))) in
        let b' = climb.close_signed (operand_reads bb n blank (s.0 + 1) to o.more above) in
        record { again = at (form.Arith arith.Div a'.again b'.again) o.symbol.token.line; lead = product_goes (operation.Arith arith.Div) refl a' o b'; same = alike2 (λ (x y : Phrase). F (form.Arith arith.Div x y)) a'.same b'.same }
    form_reads (is.arith {op = arith.Rem} {a = a} {b = b} aa bb) n gap line from to st = λ given.
        let above = of_product given in
        let s = cut (operand_lexemes n product gap a) (the_word blank word.REM ∷ operand_lexemes n signed blank b) st in
        let o = head s.2 in
        let a' = operand_reads aa n gap from s.0 s.1 (above_as o.kind (above_product (above_signed refl))) in
        let b' = climb.close_signed (operand_reads bb n blank (s.0 + 1) to o.more above) in
        record { again = at (form.Arith arith.Rem a'.again b'.again) o.symbol.token.line; lead = product_goes (operation.Arith arith.Rem) refl a' o b'; same = alike2 (λ (x y : Phrase). F (form.Arith arith.Rem x y)) a'.same b'.same }
    form_reads (is.plus {e = e} ee) n gap line from to st = λ given.
        let closed = of_signed given in
        let h = head st in
        let e' = close_application closed (operand_reads ee n nothing (from + 1) to h.more above_application) in
        record { again = at (form.Plus e'.again) h.symbol.token.line; lead = give_back (goes (ap (λ (k : Kind). Some (grammar.factor k)) h.kind) (takes h.here h.is (joins e'.read gives))); same = alike1 (λ (x : Phrase). F (form.Plus x)) e'.same }
    form_reads (is.neg {e = e} ee) n gap line from to st = λ given.
        let closed = of_signed given in
        let h = head st in
        let e' = close_application closed (operand_reads ee n nothing (from + 1) to h.more above_application) in
        record { again = at (form.Neg e'.again) h.symbol.token.line; lead = give_back (goes (ap (λ (k : Kind). Some (grammar.factor k)) h.kind) (takes h.here h.is (joins e'.read gives))); same = alike1 (λ (x : Phrase). F (form.Neg x)) e'.same }
    form_reads (is.apply {f = f} {args = none} ff are) n gap line from to st = λ above.
        let s = cut (operand_lexemes n application gap f) (in_brackets nothing []) st in
        let b = head s.2 in
        let e = head b.more in
        let f' = operand_reads ff n gap from s.0 s.1 above_application in
        record { again = at (form.Apply f'.again none) b.symbol.token.line; lead = λ made end deeper. f'.lead made end (goes (ap (λ (k : Kind). Some (grammar.applied f'.again k)) b.kind) (takes b.here b.is (joins (goes (ap (λ (k : Kind). Some (grammar.arguments b.symbol.token.line f'.again k)) e.kind) (takes e.here e.is (gives_at (ended e.more)))) deeper))); same = alike1 (λ (x : Phrase). F (form.Apply x none)) f'.same }
    form_reads (is.apply {f = f} {args = more first rest} ff (is.more_clauses one others)) n gap line from to st = λ above.
        let s = cut (operand_lexemes n application gap f) (in_brackets nothing (clauses_lexemes n nothing other (more first rest))) st in
        let b = head s.2 in
        let t = cut (clauses_lexemes n nothing other (more first rest)) (close_round ∷ []) b.more in
        let e = head t.2 in
        let u = cut (clause_lexemes n (behind_clause other rest) nothing first) (more_clauses_lexemes n other rest) t.1 in
        let f' = operand_reads ff n gap from s.0 s.1 above_application in
        let a' = clause_reads one n nothing (s.0 + 1) u.0 u.1 (behind_front other n rest u.0 t.0 u.2 (of_other (ap closes e.kind))) in
        let l = b.symbol.token.line in
        let r = listed others (λ (before : Phrases). MoreArguments l f'.again before) (λ before. refl) (more a'.again none) n u.0 t.0 u.2 (of_other (ap closes e.kind)) in
        record { again = at (form.Apply f'.again r.all) l; lead = λ made end deeper. f'.lead made end (goes (ap (λ (k : Kind). Some (grammar.applied f'.again k)) b.kind) (takes b.here b.is (joins (goes (ap (λ (rule : Rule). Some rule) (arguments_begin l f'.again (kind_at symbols (s.0 + 1)) (starts_clause a'.read))) (joins a'.read (goes (ap (λ (rule : Rule). Some rule) (second_plain l f'.again a'.again (list_end other n rest u.0 t.0 u.2 e.kind))) (r.lead _ _ (goes (ap (λ (k : Kind). Some (grammar.more_arguments l f'.again r.all k)) e.kind) (takes e.here e.is (gives_at (ended e.more)))))))) deeper))); same = alike2 (λ (x : Phrase) (all : Phrases). F (form.Apply x all)) f'.same (r.same ∙ ap (λ (p : Phrase). more p (bare_all rest)) a'.same) }
    form_reads (is.part {s = s} {i = i} {n = m} ss ii mm) n gap line from to st = λ above.
        let c = cut (operand_lexemes n application gap s) (in_brackets nothing (clause_lexemes n other nothing i ++ the_mark nothing mark.BAR ∷ clause_lexemes n other nothing m)) st in
        let b = head c.2 in
        let t = cut (clause_lexemes n other nothing i ++ the_mark nothing mark.BAR ∷ clause_lexemes n other nothing m) (close_round ∷ []) b.more in
        let e = head t.2 in
        let u = cut (clause_lexemes n other nothing i) (the_mark nothing mark.BAR ∷ clause_lexemes n other nothing m) t.1 in
        let v = head u.2 in
        let s' = operand_reads ss n gap from c.0 c.1 above_application in
        let i' = clause_reads ii n nothing (c.0 + 1) u.0 u.1 (of_other (ap closes v.kind)) in
        let m' = clause_reads mm n nothing (u.0 + 1) t.0 v.more (of_other (ap closes e.kind)) in
        let l = b.symbol.token.line in
        record { again = at (form.Part s'.again i'.again m'.again) l; lead = λ made end deeper. s'.lead made end (goes (ap (λ (k : Kind). Some (grammar.applied s'.again k)) b.kind) (takes b.here b.is (joins (goes (ap (λ (rule : Rule). Some rule) (arguments_begin l s'.again (kind_at symbols (c.0 + 1)) (starts_clause i'.read))) (joins i'.read (goes (ap (λ (k : Kind). Some (grammar.second_argument l s'.again i'.again k)) v.kind) (takes v.here v.is (joins m'.read (takes e.here e.is (gives_at (ended e.more)))))))) deeper))); same = alike3 (λ (x y z : Phrase). F (form.Part x y z)) s'.same i'.same m'.same }
    form_reads (is.sequence {items = none} are) n gap line from to st = λ above.
        let h = head st in
        let e = head h.more in
        let l = h.symbol.token.line in
        record { again = at (form.Sequence none) l; lead = give_back (goes (ap (λ (k : Kind). row text Primary k) h.kind) (takes h.here h.is (joins (goes (ap (λ (k : Kind). Some (grammar.items l none (begins_item k))) e.kind) (goes (ap (λ (k : Kind). Some (grammar.items_end l none k)) e.kind) gives)) (takes e.here e.is (gives_at (ended e.more)))))); same = refl }
    form_reads (is.sequence {items = more first rest} (is.one_more one others)) n gap line from to st = λ above.
        let h = head st in
        let s = cut (clause_lexemes (n + 2) other (newline (n + 2)) first) (semicolon ∷ (lines_lexemes (n + 2) rest ++ the_mark (newline n) mark.CLOSE_CURLY ∷ [])) h.more in
        let d = head s.2 in
        let t = cut (lines_lexemes (n + 2) rest) (the_mark (newline n) mark.CLOSE_CURLY ∷ []) d.more in
        let e = head t.2 in
        let l = h.symbol.token.line in
        let i = sequence_item one (n + 2) (newline (n + 2)) (from + 1) s.0 s.1 d.kind in
        let r = sequence_reads others l (more i.again none) (n + 2) (s.0 + 1) t.0 t.1 (ap begins_item e.kind) (λ same. absurd (let k = e.kind in cc)) in
        record { again = at (form.Sequence r.all) l; lead = give_back (goes (ap (λ (k : Kind). row text Primary k) h.kind) (takes h.here h.is (joins (goes (ap (λ (b : Bool). Some (grammar.items l none b)) i.begins) (joins i.read (goes (ap (λ (k : Kind). Some (grammar.items_end l (more i.again none) k)) d.kind) (takes d.here d.is r.read)))) (takes e.here e.is (gives_at (ended e.more)))))); same = alike1 (λ (all : Phrases). F (form.Sequence all)) (r.same ∙ ap (λ (p : Phrase). more p (bare_all rest)) i.same) }
    form_reads (is.name of_name) n gap line from to st = λ above.
        let h = head st in
        record { again = at (form.Name (slice_of text h.symbol.token)) h.symbol.token.line; lead = give_back (goes (ap (λ (k : Kind). row text Primary k) h.kind) (takes h.here h.is (gives_at (ended h.more)))); same = alike1 (λ (bytes : List ℕ). F (form.Name bytes)) h.spelled }
    form_reads (is.int {value = value} small) n gap line from to st = λ above.
        let h = head st in
        record { again = at (form.Int (pos (int_value text h.symbol.token))) h.symbol.token.line; lead = give_back (goes (ap (λ (k : Kind). row text Primary k) h.kind) (takes h.here h.is (gives_at (ended h.more)))); same = alike1 (λ (v : ℕ). F (form.Int (pos v))) (ap (λ (bytes : List ℕ). class.decimal bytes) h.spelled ∙ (int_is_spelled value small).value_is) }
    form_reads (is.text {bytes = bytes} spellable short) n gap line from to st = λ above.
        let h = head st in
        record { again = at (form.Text (spelled text h.symbol.token)) h.symbol.token.line; lead = give_back (goes (ap (λ (k : Kind). row text Primary k) h.kind) (takes h.here h.is (gives_at (ended h.more)))); same = alike1 (λ (bytes : List ℕ). F (form.Text bytes)) (ap (λ (slice : List ℕ). bytes_of (quoted (drop 1 slice))) h.spelled ∙ (string_is_spelled bytes (all_passes can_be_spelled bytes spellable) short).bytes_are) }
    form_reads (is.flag {value = true}) n gap line from to st = λ above.
        let h = head st in
        record { again = at (form.Flag true) h.symbol.token.line; lead = give_back (goes (ap (λ (k : Kind). row text Primary k) h.kind) (takes h.here h.is (gives_at (ended h.more)))); same = refl }
    form_reads (is.flag {value = false}) n gap line from to st = λ above.
        let h = head st in
        record { again = at (form.Flag false) h.symbol.token.line; lead = give_back (goes (ap (λ (k : Kind). row text Primary k) h.kind) (takes h.here h.is (gives_at (ended h.more)))); same = refl }
    form_reads is.nil n gap line from to st = λ above.
        let h = head st in
        record { again = at form.Nil h.symbol.token.line; lead = give_back (goes (ap (λ (k : Kind). row text Primary k) h.kind) (takes h.here h.is (gives_at (ended h.more)))); same = refl }
    form_reads (is.bound {upper = false} {e = e} ee) n gap line from to st = λ above.
        let h = head st in
        let b = head h.more in
        let c = cut (clause_lexemes n other nothing e) (close_round ∷ []) b.more in
        let d = head c.2 in
        let e' = clause_reads ee n nothing (from + 1 + 1) c.0 c.1 (of_other (ap closes d.kind)) in
        record { again = at (form.Bound false e'.again) h.symbol.token.line; lead = give_back (goes (ap (λ (k : Kind). row text Primary k) h.kind) (takes h.here h.is (takes b.here b.is (joins e'.read (takes d.here d.is (gives_at (ended d.more))))))); same = alike1 (λ (x : Phrase). F (form.Bound false x)) e'.same }
    form_reads (is.bound {upper = true} {e = e} ee) n gap line from to st = λ above.
        let h = head st in
        let b = head h.more in
        let c = cut (clause_lexemes n other nothing e) (close_round ∷ []) b.more in
        let d = head c.2 in
        let e' = clause_reads ee n nothing (from + 1 + 1) c.0 c.1 (of_other (ap closes d.kind)) in
        record { again = at (form.Bound true e'.again) h.symbol.token.line; lead = give_back (goes (ap (λ (k : Kind). row text Primary k) h.kind) (takes h.here h.is (takes b.here b.is (joins e'.read (takes d.here d.is (gives_at (ended d.more))))))); same = alike1 (λ (x : Phrase). F (form.Bound true x)) e'.same }
    form_reads (is.elems {l = l} {first = first} {t = t} {rest = rest} ll tt' (is.more_clauses one others)) n gap line from to st = λ above.
        let h = head st in
        let c = cut (clause_lexemes n other nothing l) (the_word blank word.OF ∷ (type_lexemes blank t ++ the_mark blank mark.OPEN_SQUARE ∷ (clauses_lexemes n nothing other (more first rest) ++ the_mark nothing mark.CLOSE_SQUARE ∷ []))) h.more in
        let o = head c.2 in
        let u = cut (type_lexemes blank t) (the_mark blank mark.OPEN_SQUARE ∷ (clauses_lexemes n nothing other (more first rest) ++ the_mark nothing mark.CLOSE_SQUARE ∷ [])) o.more in
        let b = head u.2 in
        let v = cut (clauses_lexemes n nothing other (more first rest)) (the_mark nothing mark.CLOSE_SQUARE ∷ []) b.more in
        let e = head v.2 in
        let w = cut (clause_lexemes n (behind_clause other rest) nothing first) (more_clauses_lexemes n other rest) v.1 in
        let l' = clause_reads ll n nothing (from + 1) c.0 c.1 (of_other (ap closes o.kind)) in
        let y = type_reads tt' blank (c.0 + 1) u.0 u.1 in
        let a' = clause_reads one n nothing (u.0 + 1) w.0 w.1 (behind_front other n rest w.0 v.0 w.2 (of_other (ap closes e.kind))) in
        let q = h.symbol.token.line in
        let r = listed others (λ (before : Phrases). MoreElements q l'.again t before) (λ before. refl) (more a'.again none) n w.0 v.0 w.2 (of_other (ap closes e.kind)) in
        record { again = at (form.Elems l'.again t r.all) q; lead = give_back (goes (ap (λ (k : Kind). row text Primary k) h.kind) (takes h.here h.is (joins l'.read (takes o.here o.is (joins y (takes b.here b.is (joins a'.read (r.lead _ _ (goes (ap (λ (k : Kind). Some (grammar.more_elements q l'.again t r.all k)) e.kind) (takes e.here e.is (gives_at (ended e.more)))))))))))); same = alike2 (λ (x : Phrase) (all : Phrases). F (form.Elems x t all)) l'.same (r.same ∙ ap (λ (p : Phrase). more p (bare_all rest)) a'.same) }

    -- what stands after the first of a list with commas
    listed : {room : ℕ} {last : Behind} {ps : Phrases} → AreClauses room last ps → (part : Phrases → Part) → ((before : Phrases) → row text (part before) kind.Comma ≡ Some (skip kind.Comma (with_clause (λ one. Go (part (and_then before one)))))) → (before : Phrases) (n from to : ℕ) → Stands text symbols from (more_clauses_lexemes n last ps) to → InFront last (kind_at symbols to) → Listed text symbols room part from before ps to
    listed is.no_clauses part at_comma before n from to Stands.no_more front = record { all = before; lead = λ made end deeper. deeper; same = sym (append_none (bare_all before)) }
    listed (is.more_clauses {last = last} {first = first} {rest = rest} one others) part at_comma before n from to st front =
        let h = head st in
        let c = cut (clause_lexemes n (behind_clause last rest) blank first) (more_clauses_lexemes n last rest) h.more in
        let a' = clause_reads one n blank (from + 1) c.0 c.1 (behind_front last n rest c.0 to c.2 front) in
        let r = listed others part at_comma (and_then before a'.again) n c.0 to c.2 front in
        record { all = r.all; lead = λ made end deeper. goes (ap (λ (k : Kind). row text (part before) k) h.kind ∙ at_comma before) (takes h.here h.is (joins a'.read (r.lead made end deeper))); same = r.same ∙ append_one before a'.again (bare_all rest) ∙ ap (λ (p : Phrase). append (bare_all before) (more p (bare_all rest))) a'.same }

    arms_read : {room : ℕ} {arms : Arms} → AreArms room arms → (line : Line) (e : Phrase) (before : Arms) (n from to : ℕ) → Stands text symbols from (arms_lexemes n arms) to → ArmsRead text symbols room line e from before arms to
    arms_read is.none_of_them line e before n from to Stands.no_more = record { all = before; lead = λ made end deeper. deeper; same = sym (append_no_arms (bare_arms before)) }
    arms_read (is.and_arms {first = first} {a = a} {labels = labels} {rest = rest} (is.more_clauses one others) aa are) line e before n from to st =
        let s = cut (arm_lexemes n (arm (more first labels) a)) (arms_lexemes n rest) st in
        let t = cut (clauses_lexemes n (newline n) before_colon (more first labels)) (colon ∷ (clause_lexemes n other blank a ++ semicolon ∷ [])) s.1 in
        let o = head t.2 in
        let u = cut (clause_lexemes n (behind_clause before_colon labels) (newline n) first) (more_clauses_lexemes n before_colon labels) t.1 in
        let v = cut (clause_lexemes n other blank a) (semicolon ∷ []) o.more in
        let d = head v.2 in
        let f' = clause_reads one n (newline n) from u.0 u.1 (behind_front before_colon n labels u.0 t.0 u.2 (of_colon o.kind)) in
        let r = listed others (λ (all : Phrases). Labels line e before all) (λ all. refl) (more f'.again none) n u.0 t.0 u.2 (of_colon o.kind) in
        let a' = clause_reads aa n blank (t.0 + 1) v.0 v.1 (of_other (ap closes d.kind)) in
        let m = arms_read are line e (and_arm before (arm r.all a'.again)) n s.0 to s.2 in
        record { all = m.all; lead = λ made end deeper. goes (ap (λ (rule : Rule). Some rule) (cases_begin line e before (kind_at symbols from) (starts_clause f'.read))) (joins f'.read (r.lead made end (goes (ap (λ (k : Kind). Some (grammar.labels line e before r.all k)) o.kind) (takes o.here o.is (joins a'.read (takes d.here d.is (reads_at (ended d.more) (m.lead made end deeper)))))))); same = m.same ∙ append_arm before (arm r.all a'.again) (bare_arms rest) ∙ alike2 (λ (all : Phrases) (x : Phrase). append_arms (bare_arms before) (more_arms (arm all x) (bare_arms rest))) (r.same ∙ ap (λ (p : Phrase). more p (bare_all labels)) f'.same) a'.same }

    item_reads : {room : ℕ} {behind : Behind} {i : WriteItem} → IsWritten room behind i → (n from to : ℕ) → Stands text symbols from (item_lexemes n behind i) to → InFront behind (kind_at symbols to) → IsShut behind i → OneWritten text symbols room from i to
    item_reads (is.as_wide {e = e} ee) n from to st front (shut not_colon) =
        let e' = clause_reads ee n blank from to st front in
        record { again = item e'.again absent (line_in e'.again); read = goes refl (joins e'.read (goes (ap (λ (rule : Rule). Some rule) (no_width e'.again not_colon front)) gives)); same = alike1 (λ (x : Phrase). item x absent (line_of 1)) e'.same }
    item_reads (is.wide {behind = behind} {e = e} {w = w} ee ww) n from to st front shut' =
        let s = cut (clause_lexemes n before_colon blank e) (colon ∷ clause_lexemes n behind blank w) st in
        let o = head s.2 in
        let e' = clause_reads ee n blank from s.0 s.1 (of_colon o.kind) in
        let w' = clause_reads ww n blank (s.0 + 1) to o.more front in
        record { again = item e'.again (present w'.again) o.symbol.token.line; read = goes refl (joins e'.read (goes (ap (λ (k : Kind). Some (grammar.width e'.again k)) o.kind) (takes o.here o.is (joins w'.read gives)))); same = alike2 (λ (x y : Phrase). item x (present y) (line_of 1)) e'.same w'.same }

    items_read : {room : ℕ} {behind : Behind} {items : WriteItems} → AreItems room behind items → (last : WriteItem) → is_taken behind (form.Write (more_items last items)) ≡ false → (line : Line) (before : WriteItems) (n from to : ℕ) → Stands text symbols from (more_items_lexemes n behind items) to → InFront behind (kind_at symbols to) → ItemsWritten text symbols room line from before items to
    items_read is.nothing_more last closed line before n from to Stands.no_more front = record { all = before; lead = λ made end deeper. deeper; same = sym (append_no_items (bare_items before)) }
    items_read (is.and_items {behind = behind} {first = first} {rest = rest} one others) last closed line before n from to st front =
        let h = head st in
        let c = cut (item_lexemes n (behind_item behind rest) first) (more_items_lexemes n behind rest) h.more in
        let closed' = closed_rest behind last first rest closed in
        let i = item_reads one n (from + 1) c.0 c.1 (item_front behind n rest c.0 to c.2 front) (open_item behind first rest closed') in
        let r = items_read others first closed' line (and_item before i.again) n c.0 to c.2 front in
        record { all = r.all; lead = λ made end deeper. goes (ap (λ (k : Kind). Some (grammar.more_written line before k)) h.kind) (takes h.here h.is (joins i.read (r.lead made end deeper))); same = r.same ∙ append_item before i.again (bare_items rest) ∙ ap (λ (x : WriteItem). append_items (bare_items before) (more_items x (bare_items rest))) i.same }

    pub sequence_item : {room : ℕ} {p : Phrase} → IsItem room p → (n : ℕ) (gap : Gap) (from to : ℕ) → Stands text symbols from (clause_lexemes n other gap p) to → kind_at symbols to ≡ kind.Semicolon → ItemRead text symbols room from p to
    sequence_item (is.a_clause c) n gap from to st close =
        let c' = clause_reads c n gap from to st (of_other (ap closes close)) in
        let starts = starts_clause c'.read in
        record { again = c'.again; read = goes (ap (λ (rule : Rule). Some rule) (item_is_clause text (kind_at symbols from) starts)) c'.read; begins = clause_begins_item (kind_at symbols from) starts; same = c'.same }
    sequence_item (is.a_let {name = name} {variable = variable} {e = e} plain of_name ee) n gap from to st close =
        let h = head (subst (λ (ls : List Lexeme). Stands text symbols from ls to) (let_plain n other gap name variable e plain) st) in
        let m = head h.more in
        let b = head m.more in
        let e' = clause_reads ee n blank (from + 1 + 1 + 1) to b.more (of_other (ap closes close)) in
        let l = h.symbol.token.line in
        record { again = at (form.Let (grammar.name_at text m.symbol) variable e'.again) l; read = goes (ap (λ (k : Kind). Some (grammar.one_item text k)) h.kind) (takes h.here h.is (takes m.here m.is (goes (ap (λ (k : Kind). grammar.binding l (grammar.name_at text m.symbol) k) b.kind ∙ binding_row l (grammar.name_at text m.symbol) variable) (takes b.here b.is (joins e'.read gives))))); begins = ap begins_item h.kind; same = alike2 (λ (bytes : List ℕ) (x : Phrase). F (form.Let (bare_named bytes) variable x)) m.spelled e'.same }
    sequence_item (is.a_procedure {name = name} {params = params} {gives = g} {s = s} {line = line} {line' = line'} of_name pp gg ss) n gap from to st close =
        let h = head st in
        let m = head h.more in
        let r = literal_reads n pp gg (λ start end st close. clause_reads ss n blank start end st close) h.symbol.token.line line' (from + 1 + 1) to m.more (of_other (ap closes close)) in
        record { again = at (form.Let (grammar.name_at text m.symbol) false r.again) h.symbol.token.line; read = goes (ap (λ (k : Kind). Some (grammar.one_item text k)) h.kind) (takes h.here h.is (takes m.here m.is (joins r.read gives))); begins = ap begins_item h.kind; same = alike2 (λ (bytes : List ℕ) (x : Phrase). F (form.Let (bare_named bytes) false x)) m.spelled r.same }
    sequence_item (is.a_structure {name = name} {fields = fields} of_name ff) n gap from to st close =
        let h = head st in
        let m = head h.more in
        let b = head m.more in
        let c = cut (groups_lexemes fields) (close_round ∷ []) b.more in
        let e = head c.2 in
        let f' = groups_read ff (from + 1 + 1 + 1) c.0 c.1 (round e.kind) in
        record { again = at (form.Structure (grammar.name_at text m.symbol) f'.again) h.symbol.token.line; read = goes (ap (λ (k : Kind). Some (grammar.one_item text k)) h.kind) (takes h.here h.is (takes m.here m.is (takes b.here b.is (joins f'.read (takes e.here e.is (gives_at (ended e.more))))))); begins = ap begins_item h.kind; same = alike2 (λ (bytes : List ℕ) (fs : List GroupAt). F (form.Structure (bare_named bytes) fs)) m.spelled f'.same }

    pub sequence_reads : {room : ℕ} {ps : Phrases} → AreItemsOf room ps → (line : Line) (before : Phrases) (n from to : ℕ) → Stands text symbols from (lines_lexemes n ps) to → begins_item (kind_at symbols to) ≡ false → kind_at symbols to ≢ kind.Semicolon → SequenceRead text symbols room line from before ps to
    sequence_reads is.no_item line before n from to Stands.no_more no_item not_semicolon = record { all = before; read = goes (ap (λ (b : Bool). Some (grammar.items line before b)) no_item) (goes (ap (λ (rule : Rule). Some rule) (sequence_ends line before (kind_at symbols from) no_item not_semicolon)) gives); same = sym (append_none (bare_all before)) }
    sequence_reads (is.one_more {first = first} {rest = rest} one others) line before n from to st no_item not_semicolon =
        let s = cut (clause_lexemes n other (newline n) first) (semicolon ∷ lines_lexemes n rest) st in
        let d = head s.2 in
        let i = sequence_item one n (newline n) from s.0 s.1 d.kind in
        let r = sequence_reads others line (and_then before i.again) n (s.0 + 1) to d.more no_item not_semicolon in
        record { all = r.all; read = goes (ap (λ (b : Bool). Some (grammar.items line before b)) i.begins) (joins i.read (goes (ap (λ (k : Kind). Some (grammar.items_end line (and_then before i.again) k)) d.kind) (takes d.here d.is r.read))); same = r.same ∙ append_one before i.again (bare_all rest) ∙ ap (λ (p : Phrase). append (bare_all before) (more p (bare_all rest))) i.same }
