-- The layout of a canonical tree is scanned as it was meant, and no `;` is read in it but those that are
-- written.
use Rattle.std.proofs.Common.{◌≡◌, ℕ, ◌+◌, Bool, true, false, nat_lt, List, [], ◌∷◌, ◌++◌, refl, sym, subst, ap, ◌∙◌}
use Rattle.std.specs.Prelude.{if◌then◌else◌, codes}
use Rattle.std.proofs.lemmas.List.{append_assoc}
use Rattle.ps_layout.specs.ps_base.TyView.{TyView, TyViews}
use Rattle.ps_layout.specs.ps_base.declared.operator.Operator.TheVariants as arith
use Rattle.ps_layout.specs.ps_base.declared.operator.Relation.{Relation}
use Rattle.ps_layout.specs.ps_base.declared.operator.Relation.TheVariants as order
use Rattle.ps_parse.specs.ps_scan.declared.mark.TheConstants as mark
use Rattle.ps_parse.specs.ps_scan.declared.word.TheConstants as word
use Rattle.ps_parse.specs.ps_scan.declared.token.TokenKind.TheVariants as scanned
use Rattle.ps_parse.specs.ps_scan.Tokens.{IsSpelled, IsName}
use Rattle.ps_layout.specs.ps_tree.Phrase.{NameAt, GroupAt, Phrase, at, Form, Phrases, none, more, absent, present, Arm, Arms, no_arms, more_arms, arm, WriteItem, item, WriteItems, no_items, more_items}
use Rattle.ps_layout.specs.ps_tree.Phrase as form
use Rattle.ps_layout.specs.Lexemes.{Gap, nothing, blank, newline, Lexeme}
use Rattle.ps_reread.specs.Printable.{first_passes, may_follow}
use Rattle.ps_reread.specs.Lines.{goes_on}
use Rattle.ps_layout.specs.Layout.{lexeme, the_word, the_mark, name_lexeme, open_round, close_round, comma, semicolon, colon, do_word, in_brackets, type_lexemes, types_lexemes, more_types_lexemes, group_lexemes, groups_lexemes, more_groups_lexemes, heading_lexemes, behind_arrow, becomes, is_word, flag_word, bound_word, sign_of_relation, Tightness, number_of, tightness, application, primary, Behind, other, before_colon, form_lexemes, clause_lexemes, operand_lexemes, lines_lexemes, clauses_lexemes, more_clauses_lexemes, arms_lexemes, more_items_lexemes, item_lexemes, program_lexemes}
use Rattle.ps_layout.specs.Spellings.{int_text, string_text}
use Rattle.ps_layout.specs.Waiting.{is_procedure}
use Rattle.ps_reread.specs.Spelled.{can_be_spelled}
use Rattle.ps_reread.proofs.Canonical.{IsType, AreTypes, IsResult, AreGroups, IsForm, IsClause, IsOperand, AreClauses, AreArms, AreItems, IsWritten, AreItemsOf, IsItem}
use Rattle.ps_reread.proofs.Canonical as is
use Rattle.ps_reread.proofs.Glued.{all_passes}
use Rattle.ps_reread.proofs.Pieced.{Good, Width, any, narrow, Starts, Ends, Begins, Admits, next, under, Piece, Rest, begins_with, Glues, Prefix, good_nothing, good_cons, admitted_free, admitted_over, glued_follows, rest_nothing, piece_then, rest_then, piece_word, piece_leaf, piece_apart, piece_below, rest_word, rest_leaf, rest_glued, rest_close, prefix_admits, lone_glues, plus_admits, minus_admits, tilde_admits, piece_wider, piece_as, rest_as}
use Rattle.ps_reread.proofs.Spelt.{int_is_spelled, string_is_spelled}

-- the marks that are glued to an end
comma_glues : Glues comma
comma_glues = lone_glues mark.COMMA (codes ",") refl

semicolon_glues : Glues semicolon
semicolon_glues = lone_glues mark.SEMICOLON (codes ";") refl

close_glues : Glues close_round
close_glues = lone_glues mark.CLOSE_ROUND (codes ")") refl

open_glues : Glues (open_round nothing)
open_glues = lone_glues mark.OPEN_ROUND (codes "(") refl

-- what stands in brackets: nothing, or a part glued to the bracket or after a blank
data Inner : List Lexeme → Type 0 where
  empty : Inner []
  part : {ls : List Lexeme} → Piece any nothing ls → Inner ls
  far_part : {ls : List Lexeme} → Piece any blank ls → Inner ls

closed : {gap : Gap} {ls : List Lexeme} → Piece any gap ls → Piece any gap (ls ++ close_round ∷ [])
closed piece = piece_then piece (rest_close close_round close_glues Ends.round rest_nothing)

brackets_rest : {ls : List Lexeme} → Inner ls → Rest (in_brackets nothing ls)
brackets_rest empty = record { good = λ tail good follows. good_cons (open_round nothing) (close_round ∷ tail) refl refl refl (good_cons close_round tail refl (follows.free close_round Ends.round refl) (follows.over close_round Ends.round) good); follows = λ tail follows. glued_follows (open_round nothing) (close_round ∷ tail) open_glues }
brackets_rest (part piece) = rest_glued (open_round nothing) open_glues (prefix_admits nothing (codes "(") Prefix.open_round) (closed piece)
brackets_rest (far_part piece) = rest_glued (open_round nothing) open_glues next (closed piece)

brackets_piece : {ls : List Lexeme} (gap : Gap) → Piece any nothing ls → Piece narrow gap (in_brackets gap ls)
brackets_piece gap piece = piece_word (open_round gap) refl Starts.round refl (prefix_admits gap (codes "(") Prefix.open_round) (closed piece)

name_ends : Ends scanned.Name
name_ends = Ends.no_mark refl

-- types
is_shown : {room : ℕ} {t : TyView} (shown : List Lexeme) → IsType room t → behind_arrow t shown ≡ the_mark blank mark.ARROW ∷ shown
is_shown shown is.int = refl
is_shown shown is.bool = refl
is_shown shown is.str = refl
is_shown shown is.pntr = refl
is_shown shown (is.vector e) = refl
is_shown shown (is.proc ps g) = refl

-- what stands after the types or the groups in brackets: an arrow and a type, or nothing
data BehindArrow : List Lexeme → Type 0 where
  no_arrow : BehindArrow []
  an_arrow : {ls : List Lexeme} → Piece any blank ls → Rest ls → BehindArrow ls

arrow_as : {ls others : List Lexeme} → ls ≡ others → BehindArrow ls → BehindArrow others
arrow_as same = subst (λ (ls : List Lexeme). BehindArrow ls) same

inner_empty : {ls : List Lexeme} → BehindArrow ls → Inner ls
inner_empty no_arrow = empty
inner_empty (an_arrow piece rest) = far_part piece

inner_part : {front ls : List Lexeme} → Piece any nothing front → BehindArrow ls → Inner (front ++ ls)
inner_part piece no_arrow = part (piece_then piece rest_nothing)
inner_part piece (an_arrow far rest) = part (piece_then piece rest)

mutual
  type_piece : {room : ℕ} {t : TyView} → IsType room t → (gap : Gap) → Piece any gap (type_lexemes gap t)
  type_piece is.int gap = piece_leaf (the_word gap word.INT) refl (Starts.no_mark refl) (Ends.no_mark refl) refl rest_nothing
  type_piece is.bool gap = piece_leaf (the_word gap word.BOOL) refl (Starts.no_mark refl) (Ends.no_mark refl) refl rest_nothing
  type_piece is.str gap = piece_leaf (the_word gap word.STRING) refl (Starts.no_mark refl) (Ends.no_mark refl) refl rest_nothing
  type_piece is.pntr gap = piece_leaf (the_word gap word.PNTR) refl (Starts.no_mark refl) (Ends.no_mark refl) refl rest_nothing
  type_piece (is.vector e) gap = piece_word (the_mark gap mark.TIMES) refl Starts.times refl (prefix_admits gap (codes "*") Prefix.times) (type_piece e nothing)
  type_piece (is.proc ps g) gap = piece_leaf (the_word gap word.PROC) refl (Starts.no_mark refl) (Ends.no_mark refl) refl (brackets_rest (types_inner ps (result_behind g)))

  types_inner : {room : ℕ} {ts : TyViews} {ls : List Lexeme} → AreTypes room ts → BehindArrow ls → Inner (types_lexemes nothing ts ++ ls)
  types_inner is.no_types behind = inner_empty behind
  types_inner (is.more_types first rest) behind = inner_part (piece_then (type_piece first nothing) (types_rest rest)) behind

  types_rest : {room : ℕ} {ts : TyViews} → AreTypes room ts → Rest (more_types_lexemes ts)
  types_rest is.no_types = rest_nothing
  types_rest (is.more_types first rest) = rest_glued comma comma_glues next (piece_then (type_piece first blank) (types_rest rest))

  result_behind : {room : ℕ} {t : TyView} → IsResult room t → BehindArrow (behind_arrow t (type_lexemes blank t))
  result_behind is.no_result = no_arrow
  result_behind (is.result {gives = t} of_type) =
      let piece = type_piece of_type blank in
      arrow_as (sym (is_shown (type_lexemes blank t) of_type)) (an_arrow (piece_apart (the_mark blank mark.ARROW) refl refl next piece) (rest_word (the_mark blank mark.ARROW) refl refl next piece))

group_piece : {room : ℕ} (gap : Gap) (group : GroupAt) → IsType room group.ty → IsName group.name.name → Piece any gap (group_lexemes gap group)
group_piece gap group of_type of_name = piece_then (type_piece of_type gap) (rest_leaf (name_lexeme blank group.name.name) of_name refl name_ends rest_nothing)

groups_rest : {room : ℕ} {gs : List GroupAt} → AreGroups room gs → Rest (more_groups_lexemes gs)
groups_rest is.no_groups = rest_nothing
groups_rest (is.more_groups {group = g} of_type of_name rest) = rest_glued semicolon semicolon_glues next (piece_then (group_piece blank g of_type of_name) (groups_rest rest))

groups_inner : {room : ℕ} {gs : List GroupAt} {ls : List Lexeme} → AreGroups room gs → BehindArrow ls → Inner (groups_lexemes gs ++ ls)
groups_inner is.no_groups behind = inner_empty behind
groups_inner (is.more_groups {group = g} of_type of_name rest) behind = inner_part (piece_then (group_piece nothing g of_type of_name) (groups_rest rest)) behind

fields_inner : {room : ℕ} {gs : List GroupAt} → AreGroups room gs → Inner (groups_lexemes gs)
fields_inner is.no_groups = empty
fields_inner (is.more_groups {group = g} of_type of_name rest) = part (piece_then (group_piece nothing g of_type of_name) (groups_rest rest))

-- a procedure from its bracket on
heading_rest : {room : ℕ} {params : List GroupAt} {g : TyView} {ls : List Lexeme} → AreGroups room params → IsResult room g → Piece any blank ls → Rest (heading_lexemes params g ++ ls)
heading_rest {params = params} {g = g} {ls = ls} pp gg piece = rest_as (sym (append_assoc (in_brackets nothing (groups_lexemes params ++ behind_arrow g (type_lexemes blank g))) (semicolon ∷ []) ls)) (rest_then (brackets_rest (groups_inner pp (result_behind gg))) (rest_glued semicolon semicolon_glues next piece))

curly_begins : {width : Width} (gap : Gap) (ls : List Lexeme) → Begins width gap (the_mark gap mark.OPEN_CURLY ∷ ls)
curly_begins gap ls = begins_with (the_mark gap mark.OPEN_CURLY) ls refl Starts.curly gap refl

-- how wide a form may begin
abbrev width_of : Tightness → Width
width_of application = narrow
width_of primary = narrow
width_of _ = any

any_of : (t : Tightness) {gap : Gap} {ls : List Lexeme} → Piece (width_of t) gap ls → Piece any gap ls
any_of application piece = piece_wider piece
any_of primary piece = piece_wider piece
any_of _ piece = piece

narrow_of : (t : Tightness) {gap : Gap} {ls : List Lexeme} → nat_lt (number_of t) (number_of application) ≡ false → Piece (width_of t) gap ls → Piece narrow gap ls
narrow_of application le piece = piece
narrow_of primary le piece = piece
narrow_of _ le piece = absurd (cc)

relation_spelled : (op : Relation) → IsSpelled (sign_of_relation op).what (sign_of_relation op).spelling
relation_spelled order.Equal = refl
relation_spelled order.NotEqual = refl
relation_spelled order.Less = refl
relation_spelled order.LessEqual = refl
relation_spelled order.Greater = refl
relation_spelled order.GreaterEqual = refl

relation_blank : (op : Relation) → (sign_of_relation op).gap ≡ blank
relation_blank order.Equal = refl
relation_blank order.NotEqual = refl
relation_blank order.Less = refl
relation_blank order.LessEqual = refl
relation_blank order.Greater = refl
relation_blank order.GreaterEqual = refl

becomes_spelled : (variable : Bool) → IsSpelled (becomes variable).what (becomes variable).spelling
becomes_spelled false = refl
becomes_spelled true = refl

becomes_blank : (variable : Bool) → (becomes variable).gap ≡ blank
becomes_blank false = refl
becomes_blank true = refl

let_plain : (n : ℕ) (behind : Behind) (gap : Gap) (name : NameAt) (variable : Bool) (e : Phrase) → is_procedure variable e ≡ false → form_lexemes n behind gap (form.Let name variable e) ≡ the_word gap word.LET ∷ name_lexeme blank name.name ∷ becomes variable ∷ clause_lexemes n behind blank e
let_plain n behind gap name true e is = refl
let_plain n behind gap name false (at (form.Proc params g s) line) is = absurd (cc)
let_plain n behind gap name false (at _ line) is = refl

mutual
  pub clause_piece : {room : ℕ} {behind : Behind} {p : Phrase} → IsClause room behind p → (n : ℕ) (gap : Gap) → Piece any gap (clause_lexemes n behind gap p)
  clause_piece (is.plain {behind = behind} {f = f} not_taken form) n gap = subst (λ (b : Bool). Piece any gap (if b then in_brackets gap (form_lexemes n other nothing f) else form_lexemes n behind gap f)) (sym not_taken) (any_of (tightness f) (form_piece form n gap))
  clause_piece (is.kept {behind = behind} {f = f} taken form) n gap = subst (λ (b : Bool). Piece any gap (if b then in_brackets gap (form_lexemes n other nothing f) else form_lexemes n behind gap f)) (sym taken) (piece_wider (brackets_piece gap (any_of (tightness f) (form_piece form n nothing))))

  operand_piece : {room : ℕ} {needed : Tightness} {p : Phrase} → IsOperand room needed p → (n : ℕ) (gap : Gap) → Piece any gap (operand_lexemes n needed gap p)
  operand_piece (is.tight {f = f} le form) n gap = subst (λ (b : Bool). Piece any gap (if b then in_brackets gap (form_lexemes n other nothing f) else form_lexemes n other gap f)) (sym le) (any_of (tightness f) (form_piece form n gap))
  operand_piece (is.loose {f = f} loose form) n gap = subst (λ (b : Bool). Piece any gap (if b then in_brackets gap (form_lexemes n other nothing f) else form_lexemes n other gap f)) (sym loose) (piece_wider (brackets_piece gap (any_of (tightness f) (form_piece form n nothing))))

  narrow_piece : {room : ℕ} {needed : Tightness} {p : Phrase} → needed ≡ application → IsOperand room needed p → (n : ℕ) (gap : Gap) → Piece narrow gap (operand_lexemes n needed gap p)
  narrow_piece same (is.tight {f = f} le form) n gap = subst (λ (b : Bool). Piece narrow gap (if b then in_brackets gap (form_lexemes n other nothing f) else form_lexemes n other gap f)) (sym le) (narrow_of (tightness f) (ap (λ (t : Tightness). nat_lt (number_of (tightness f)) (number_of t)) (sym same) ∙ le) (form_piece form n gap))
  narrow_piece same (is.loose {f = f} loose form) n gap = subst (λ (b : Bool). Piece narrow gap (if b then in_brackets gap (form_lexemes n other nothing f) else form_lexemes n other gap f)) (sym loose) (brackets_piece gap (any_of (tightness f) (form_piece form n nothing)))

  form_piece : {room : ℕ} {behind : Behind} {f : Form} → IsForm room behind f → (n : ℕ) (gap : Gap) → Piece (width_of (tightness f)) gap (form_lexemes n behind gap f)
  form_piece (is.if_do cc' aa) n gap = piece_word (the_word gap word.IF) refl (Starts.no_mark refl) refl next (piece_then (clause_piece cc' n blank) (rest_word do_word refl refl next (clause_piece aa n blank)))
  form_piece (is.if_else cc' aa bb) n gap = piece_word (the_word gap word.IF) refl (Starts.no_mark refl) refl next (piece_then (clause_piece cc' n blank) (rest_word (the_word blank word.THEN) refl refl next (piece_then (clause_piece aa n blank) (rest_word (the_word blank word.ELSE) refl refl next (clause_piece bb n blank)))))
  form_piece (is.while_do cc' aa) n gap = piece_word (the_word gap word.WHILE) refl (Starts.no_mark refl) refl next (piece_then (clause_piece cc' n blank) (rest_word do_word refl refl next (clause_piece aa n blank)))
  form_piece (is.repeat_while not_do aa cc') n gap = piece_word (the_word gap word.REPEAT) refl (Starts.no_mark refl) refl next (piece_then (clause_piece aa n blank) (rest_word (the_word blank word.WHILE) refl refl next (clause_piece cc' n blank)))
  form_piece (is.repeat_do aa cc' bb) n gap = piece_word (the_word gap word.REPEAT) refl (Starts.no_mark refl) refl next (piece_then (clause_piece aa n blank) (rest_word (the_word blank word.WHILE) refl refl next (piece_then (clause_piece cc' n blank) (rest_word do_word refl refl next (clause_piece bb n blank)))))
  form_piece (is.for_to {name = name} of_name aa bb ss) n gap = piece_word (the_word gap word.FOR) refl (Starts.no_mark refl) refl next (piece_leaf {width = any} (name_lexeme blank name.name) of_name (Starts.no_mark refl) name_ends refl (rest_word (the_mark blank mark.EQUALS) refl refl next (piece_then (clause_piece aa n blank) (rest_word (the_word blank word.TO) refl refl next (piece_then (clause_piece bb n blank) (rest_word do_word refl refl next (clause_piece ss n blank)))))))
  form_piece (is.for_by {name = name} of_name aa bb cc' ss) n gap = piece_word (the_word gap word.FOR) refl (Starts.no_mark refl) refl next (piece_leaf {width = any} (name_lexeme blank name.name) of_name (Starts.no_mark refl) name_ends refl (rest_word (the_mark blank mark.EQUALS) refl refl next (piece_then (clause_piece aa n blank) (rest_word (the_word blank word.TO) refl refl next (piece_then (clause_piece bb n blank) (rest_word (the_word blank word.BY) refl refl next (piece_then (clause_piece cc' n blank) (rest_word do_word refl refl next (clause_piece ss n blank)))))))))
  form_piece (is.case_of ee are dd) n gap = piece_word (the_word gap word.CASE) refl (Starts.no_mark refl) refl next (piece_then (clause_piece ee n blank) (rest_word (the_word blank word.OF) refl refl (under refl) (arms_piece are (n + 2) (piece_leaf {width = any} (the_word (newline (n + 2)) word.DEFAULT) refl (Starts.no_mark refl) (Ends.no_mark refl) refl (rest_word colon refl refl next (clause_piece dd (n + 2) blank))))))
  form_piece (is.write unclosed (is.and_items one others)) n gap = piece_word (the_word gap word.WRITE) refl (Starts.no_mark refl) refl next (piece_then (item_piece one n) (items_rest others n))
  form_piece is.abort n gap = piece_leaf (the_word gap word.ABORT) refl (Starts.no_mark refl) (Ends.no_mark refl) refl rest_nothing
  form_piece (is.proc pp gg ss) n gap = piece_leaf (the_word gap word.PROC) refl (Starts.no_mark refl) (Ends.no_mark refl) refl (heading_rest pp gg (clause_piece ss n blank))
  form_piece (is.vector ll uu ee) n gap = piece_word (the_word gap word.VECTOR) refl (Starts.no_mark refl) refl next (piece_then (clause_piece ll n blank) (rest_glued (the_mark nothing mark.DOUBLE_COLON) (lone_glues mark.DOUBLE_COLON (codes "::") refl) (prefix_admits nothing (codes "::") Prefix.double_colon) (piece_then (clause_piece uu n nothing) (rest_word (the_word blank word.OF) refl refl next (clause_piece ee n blank)))))
  form_piece (is.assign xx ee) n gap = piece_then (operand_piece xx n gap) (rest_word (becomes true) refl refl next (clause_piece ee n blank))
  form_piece (is.or aa bb) n gap = piece_then (operand_piece aa n gap) (rest_word (the_word blank word.OR) refl refl next (operand_piece bb n blank))
  form_piece (is.and aa bb) n gap = piece_then (operand_piece aa n gap) (rest_word (the_word blank word.AND) refl refl next (operand_piece bb n blank))
  form_piece (is.not ee) n gap = piece_word (the_mark gap mark.TILDE) refl Starts.tilde refl (tilde_admits gap) (operand_piece ee n nothing)
  form_piece (is.compare {op = op} aa bb) n gap = piece_then (operand_piece aa n gap) (rest_word (sign_of_relation op) (relation_spelled op) (relation_blank op) next (operand_piece bb n blank))
  form_piece (is.is {class = class} {negated = false} ee of_name) n gap = piece_then (operand_piece ee n gap) (rest_word (is_word false) refl refl next (piece_leaf {width = any} (name_lexeme blank class.name) of_name (Starts.no_mark refl) name_ends refl rest_nothing))
  form_piece (is.is {class = class} {negated = true} ee of_name) n gap = piece_then (operand_piece ee n gap) (rest_word (is_word true) refl refl next (piece_leaf {width = any} (name_lexeme blank class.name) of_name (Starts.no_mark refl) name_ends refl rest_nothing))
  form_piece (is.join aa bb) n gap = piece_then (operand_piece aa n gap) (rest_word (the_mark blank mark.CONCATENATE) refl refl next (operand_piece bb n blank))
  form_piece (is.arith {op = arith.Add} aa bb) n gap = piece_then (operand_piece aa n gap) (rest_word (the_mark blank mark.PLUS) refl refl next (operand_piece bb n blank))
  form_piece (is.arith {op = arith.Sub} aa bb) n gap = piece_then (operand_piece aa n gap) (rest_word (the_mark blank mark.MINUS) refl refl next (operand_piece bb n blank))
  form_piece (is.arith {op = arith.Mul} aa bb) n gap = piece_then (operand_piece aa n gap) (rest_word (the_mark blank mark.TIMES) refl refl next (operand_piece bb n blank))
  form_piece (is.arith {op = arith.Div} aa bb) n gap = piece_then (operand_piece aa n gap) (rest_word (the_word blank word.DIV) refl refl next (operand_piece bb n blank))
  form_piece (is.arith {op = arith.Rem} aa bb) n gap = piece_then (operand_piece aa n gap) (rest_word (the_word blank word.REM) refl refl next (operand_piece bb n blank))
  form_piece (is.plus ee) n gap = piece_word (the_mark gap mark.PLUS) refl Starts.plus refl (plus_admits gap) (narrow_piece refl ee n nothing)
  form_piece (is.neg ee) n gap = piece_word (the_mark gap mark.MINUS) refl Starts.minus refl (minus_admits gap) (narrow_piece refl ee n nothing)
  form_piece (is.apply ff is.no_clauses) n gap = piece_then (narrow_piece refl ff n gap) (brackets_rest empty)
  form_piece (is.apply ff (is.more_clauses one others)) n gap = piece_then (narrow_piece refl ff n gap) (brackets_rest (part (piece_then (clause_piece one n nothing) (clauses_rest others n))))
  form_piece (is.part ss ii mm) n gap = piece_then (narrow_piece refl ss n gap) (brackets_rest (part (piece_then (clause_piece ii n nothing) (rest_glued (the_mark nothing mark.BAR) (lone_glues mark.BAR (codes "|") refl) (prefix_admits nothing (codes "|") Prefix.bar) (clause_piece mm n nothing)))))
  form_piece (is.sequence is.no_item) n gap = record { good = λ tail good follows. good_cons (the_mark gap mark.OPEN_CURLY) ((the_mark nothing mark.CLOSE_CURLY) ∷ tail) refl refl refl (good_cons (the_mark nothing mark.CLOSE_CURLY) tail refl (follows.free (the_mark nothing mark.CLOSE_CURLY) Ends.curly refl) (follows.over (the_mark nothing mark.CLOSE_CURLY) Ends.curly) good); begins = λ tail. curly_begins gap ((the_mark nothing mark.CLOSE_CURLY) ∷ tail) }
  form_piece (is.sequence (is.one_more one others)) n gap = let l = lines_piece others (n + 2) n in piece_word (the_mark gap mark.OPEN_CURLY) refl Starts.curly refl (under refl) (piece_then (sequence_item_piece one (n + 2) (newline (n + 2))) (rest_glued semicolon semicolon_glues (under refl) l.1))
  form_piece (is.name {bytes = bytes} of_name) n gap = piece_leaf (name_lexeme gap bytes) of_name (Starts.no_mark refl) name_ends refl rest_nothing
  form_piece (is.int {value = value} small) n gap = piece_leaf (lexeme gap scanned.Int (int_text value)) (int_is_spelled value small).is_int (Starts.no_mark refl) (Ends.no_mark refl) refl rest_nothing
  form_piece (is.text {bytes = bytes} spellable short) n gap = piece_leaf (lexeme gap scanned.Text (string_text bytes)) (string_is_spelled bytes (all_passes can_be_spelled bytes spellable) short).is_string (Starts.no_mark refl) (Ends.no_mark refl) refl rest_nothing
  form_piece (is.flag {value = true}) n gap = piece_leaf (flag_word gap true) refl (Starts.no_mark refl) (Ends.no_mark refl) refl rest_nothing
  form_piece (is.flag {value = false}) n gap = piece_leaf (flag_word gap false) refl (Starts.no_mark refl) (Ends.no_mark refl) refl rest_nothing
  form_piece is.nil n gap = piece_leaf (the_word gap word.NIL) refl (Starts.no_mark refl) (Ends.no_mark refl) refl rest_nothing
  form_piece (is.bound {upper = true} ee) n gap = piece_leaf (bound_word gap true) refl (Starts.no_mark refl) (Ends.no_mark refl) refl (brackets_rest (part (clause_piece ee n nothing)))
  form_piece (is.bound {upper = false} ee) n gap = piece_leaf (bound_word gap false) refl (Starts.no_mark refl) (Ends.no_mark refl) refl (brackets_rest (part (clause_piece ee n nothing)))
  form_piece (is.elems ll tt' (is.more_clauses one others)) n gap = piece_word (the_mark gap mark.AT) refl Starts.elements refl (prefix_admits gap (codes "@") Prefix.at_sign) (piece_then (clause_piece ll n nothing) (rest_word (the_word blank word.OF) refl refl next (piece_then (type_piece tt' blank) (rest_word (the_mark blank mark.OPEN_SQUARE) refl refl (prefix_admits blank (codes "[") Prefix.open_square) (piece_then (piece_then (clause_piece one n nothing) (clauses_rest others n)) (rest_close (the_mark nothing mark.CLOSE_SQUARE) (lone_glues mark.CLOSE_SQUARE (codes "]") refl) Ends.square rest_nothing))))))

  clauses_rest : {room : ℕ} {last : Behind} {ps : Phrases} → AreClauses room last ps → (n : ℕ) → Rest (more_clauses_lexemes n last ps)
  clauses_rest is.no_clauses n = rest_nothing
  clauses_rest (is.more_clauses one others) n = rest_glued comma comma_glues next (piece_then (clause_piece one n blank) (clauses_rest others n))

  arms_piece : {room : ℕ} {arms : Arms} {ls : List Lexeme} → AreArms room arms → (n : ℕ) → Piece any (newline n) ls → Piece any (newline n) (arms_lexemes n arms ++ ls)
  arms_piece is.none_of_them n piece = piece
  arms_piece {ls = ls} (is.and_arms {first = first} {a = a} {labels = labels} {rest = rest} (is.more_clauses one others) aa are) n piece =
      let front = clauses_lexemes n (newline n) before_colon (more first labels) in
      let body = clause_lexemes n other blank a in
      let behind = arms_lexemes n rest in
      let same = append_assoc (front ++ colon ∷ (body ++ semicolon ∷ [])) behind ls ∙ append_assoc front (colon ∷ (body ++ semicolon ∷ [])) (behind ++ ls) ∙ ap (λ (end : List Lexeme). front ++ colon ∷ end) (append_assoc body (semicolon ∷ []) (behind ++ ls)) in
      piece_as (sym same) (piece_then (piece_then (clause_piece one n (newline n)) (clauses_rest others n)) (rest_word colon refl refl next (piece_then (clause_piece aa n blank) (rest_glued semicolon semicolon_glues (under refl) (arms_piece are n piece)))))

  item_piece : {room : ℕ} {behind : Behind} {i : WriteItem} → IsWritten room behind i → (n : ℕ) → Piece any blank (item_lexemes n behind i)
  item_piece (is.as_wide ee) n = clause_piece ee n blank
  item_piece (is.wide ee ww) n = piece_then (clause_piece ee n blank) (rest_word colon refl refl next (clause_piece ww n blank))

  items_rest : {room : ℕ} {behind : Behind} {items : WriteItems} → AreItems room behind items → (n : ℕ) → Rest (more_items_lexemes n behind items)
  items_rest is.nothing_more n = rest_nothing
  items_rest (is.and_items one others) n = rest_glued comma comma_glues next (piece_then (item_piece one n) (items_rest others n))

  pub sequence_item_piece : {room : ℕ} {p : Phrase} → IsItem room p → (n : ℕ) (gap : Gap) → Piece any gap (clause_lexemes n other gap p)
  sequence_item_piece (is.a_clause c) n gap = clause_piece c n gap
  sequence_item_piece (is.a_let {name = name} {variable = variable} {e = e} plain of_name ee) n gap = piece_as (sym (let_plain n other gap name variable e plain)) (piece_word (the_word gap word.LET) refl (Starts.no_mark refl) refl next (piece_leaf {width = any} (name_lexeme blank name.name) of_name (Starts.no_mark refl) name_ends refl (rest_word (becomes variable) (becomes_spelled variable) (becomes_blank variable) next (clause_piece ee n blank))))
  sequence_item_piece (is.a_procedure {name = name} of_name pp gg ss) n gap = piece_word (the_word gap word.PROCEDURE) refl (Starts.no_mark refl) refl next (piece_leaf {width = any} (name_lexeme blank name.name) of_name (Starts.no_mark refl) name_ends refl (heading_rest pp gg (clause_piece ss n blank)))
  sequence_item_piece (is.a_structure {name = name} of_name ff) n gap = piece_word (the_word gap word.STRUCTURE) refl (Starts.no_mark refl) refl next (piece_leaf {width = any} (name_lexeme blank name.name) of_name (Starts.no_mark refl) name_ends refl (brackets_rest (fields_inner ff)))

  lines_piece : {room : ℕ} {ps : Phrases} → AreItemsOf room ps → (n k : ℕ) → (m : ℕ) × Piece any (newline m) (lines_lexemes n ps ++ the_mark (newline k) mark.CLOSE_CURLY ∷ [])
  lines_piece is.no_item n k = (k, piece_below (the_mark (newline k) mark.CLOSE_CURLY) refl Ends.curly refl rest_nothing)
  lines_piece (is.one_more {first = first} {rest = rest} one others) n k =
      let l = lines_piece others n k in
      (n, piece_as (sym (append_assoc (clause_lexemes n other (newline n) first) (semicolon ∷ lines_lexemes n rest) (the_mark (newline k) mark.CLOSE_CURLY ∷ []))) (piece_then (sequence_item_piece one n (newline n)) (rest_glued semicolon semicolon_glues (under refl) l.1)))

-- the last items of a program, after a `;`
record Closing (ls : List Lexeme) : Type 0 where
  pub good : Good ls
  pub free : first_passes (may_follow semicolon) ls ≡ true
  pub over : first_passes (goes_on semicolon) ls ≡ true

closing_good : {gap : Gap} {ls behind : List Lexeme} → Admits semicolon any gap → Piece any gap ls → Closing behind → Closing (ls ++ semicolon ∷ behind)
closing_good {ls = ls} {behind = behind} admits piece closing = record { good = piece.good (semicolon ∷ behind) (good_cons semicolon behind refl closing.free closing.over closing.good) (glued_follows semicolon behind semicolon_glues); free = admitted_free semicolon (ls ++ semicolon ∷ behind) admits (piece.begins (semicolon ∷ behind)); over = admitted_over semicolon (ls ++ semicolon ∷ behind) admits (piece.begins (semicolon ∷ behind)) }

lines_close : {room : ℕ} {ps : Phrases} → AreItemsOf room ps → (n : ℕ) → Closing (lines_lexemes n ps)
lines_close is.no_item n = record { good = good_nothing; free = refl; over = refl }
lines_close (is.one_more one others) n = closing_good (under refl) (sequence_item_piece one n (newline n)) (lines_close others n)

-- the lexemes of a program
pub program_good : {room : ℕ} {ps : Phrases} → AreItemsOf room ps → Good (program_lexemes ps)
program_good is.no_item = good_nothing
program_good (is.one_more {rest = rest} one others) =
    let c = lines_close others 0 in
    (sequence_item_piece one 0 nothing).good (semicolon ∷ lines_lexemes 0 rest) (good_cons semicolon (lines_lexemes 0 rest) refl c.free c.over c.good) (glued_follows semicolon (lines_lexemes 0 rest) semicolon_glues)
