-- What canonical parts make as the grammar puts them together.
use Rattle.std.proofs.Common.{◌≡◌, ℕ, suc, ◌≤◌, List, [], ◌∷◌, ◌++◌, Bool, true, false, nat_lt, refl, ◌∙◌, arith}
use Rattle.std.proofs.lemmas.Bool.Decides.{nat_tests}
use Rattle.ps_layout.specs.ps_base.TyView.{TyView, TyViews, and_type}
use Rattle.ps_layout.specs.ps_base.declared.line.Line.{Line}
use Rattle.ps_parse.specs.ps_scan.Tokens.{IsName}
use Rattle.ps_layout.specs.ps_tree.Phrase.{NameAt, GroupAt, Phrase, at, Form, Phrases, none, more, MaybePhrase, absent, present, Arms, no_arms, more_arms, arm, WriteItem, item, WriteItems, no_items, more_items}
use Rattle.ps_layout.specs.ps_tree.Phrase as form
use Rattle.ps_layout.specs.ps_tree.Composing.{and_then, and_arm, and_item}
use Rattle.ps_layout.specs.Layout.{Behind, other, before_do, before_comma, before_colon, is_taken, ends_open, Tightness, number_of, tightness, is_looser, disjunction, primary}
use Rattle.ps_layout.specs.Waiting.{is_procedure}
use Rattle.ps_reread.proofs.Canonical.{IsType, AreTypes, IsResult, AreGroups, IsClause, IsOperand, IsForm, AreClauses, AreArms, AreItems, IsWritten, AreItemsOf, IsItem}
use Rattle.ps_reread.proofs.Weakening.{grow_result, grow_groups, grow_clause, grow_form, unbracketed, rebehind}

-- the forms that might take what stands after them
abbrev pub can_take : Form → Bool
can_take (form.Repeat a c absent) = true
can_take (form.Write items) = true
can_take _ = false

not_taken : (behind : Behind) (f : Form) → can_take f ≡ false → is_taken behind f ≡ false
not_taken before_do (form.Repeat a c absent) is = absurd (cc)
not_taken before_comma (form.Write items) is = absurd (cc)
not_taken before_colon (form.Write items) is = absurd (cc)
not_taken _ _ is = refl

-- a form that takes nothing
pub whole : {room : ℕ} {behind : Behind} {f : Form} {line : Line} → can_take f ≡ false → IsForm room behind f → IsClause (suc room) behind (at f line)
whole {behind = behind} {f = f} is form = IsClause.plain (not_taken behind f is) form

-- what binds tight enough for one place does so for each that asks for less
lowered : (own from to : ℕ) → to ≤ from → nat_lt own from ≡ false → nat_lt own to ≡ false
lowered own from to less is = grind (arith, nat_tests)

loosened : {room : ℕ} {needed : Tightness} {f : Form} {line : Line} (looser : Bool) → is_looser f needed ≡ looser → IsForm room other f → IsOperand (suc room) needed (at f line)
loosened true is form = IsOperand.loose is form
loosened false is form = IsOperand.tight is (grow_form form)

pub lower : {room : ℕ} {needed less : Tightness} {p : Phrase} → number_of less ≤ number_of needed → IsOperand room needed p → IsOperand room less p
lower {needed = needed} {less = less} below (IsOperand.tight {f = f} is form) = IsOperand.tight (lowered (number_of (tightness f)) (number_of needed) (number_of less) below is) form
lower {less = less} below (IsOperand.loose {f = f} is form) = loosened (is_looser f less) refl form

-- a clause in brackets
pub bracket : {room : ℕ} {needed : Tightness} {p : Phrase} → IsClause room other p → IsOperand room needed p
bracket {needed = needed} (IsClause.plain {f = f} taken form) = loosened (is_looser f needed) refl form
bracket (IsClause.kept taken form) = absurd (cc)

-- an expression takes nothing, and is the same whatever stands after it
before_any : {room : ℕ} {f : Form} (behind : Behind) → IsForm room other f → is_looser f disjunction ≡ false → IsForm room behind f
before_any behind (IsForm.or a b) is = IsForm.or a b
before_any behind (IsForm.and a b) is = IsForm.and a b
before_any behind (IsForm.not e) is = IsForm.not e
before_any behind (IsForm.compare a b) is = IsForm.compare a b
before_any behind (IsForm.is e class) is = IsForm.is e class
before_any behind (IsForm.join a b) is = IsForm.join a b
before_any behind (IsForm.arith a b) is = IsForm.arith a b
before_any behind (IsForm.plus e) is = IsForm.plus e
before_any behind (IsForm.neg e) is = IsForm.neg e
before_any behind (IsForm.apply f args) is = IsForm.apply f args
before_any behind (IsForm.part s i n) is = IsForm.part s i n
before_any behind (IsForm.sequence items) is = IsForm.sequence items
before_any behind (IsForm.name bytes) is = IsForm.name bytes
before_any behind (IsForm.int fits) is = IsForm.int fits
before_any behind (IsForm.text spellable fits) is = IsForm.text spellable fits
before_any behind IsForm.flag is = IsForm.flag
before_any behind IsForm.nil is = IsForm.nil
before_any behind (IsForm.bound e) is = IsForm.bound e
before_any behind (IsForm.elems l t items) is = IsForm.elems l t items
before_any behind _ is = absurd (cc)

takes_nothing : (f : Form) → is_looser f disjunction ≡ false → can_take f ≡ false
takes_nothing (form.Repeat a c absent) is = absurd (cc)
takes_nothing (form.Write items) is = absurd (cc)
takes_nothing _ is = refl

-- an expression is a clause, without the brackets that it may stand in
pub expression_clause : {room : ℕ} {p : Phrase} (behind : Behind) → IsOperand room disjunction p → IsClause (suc room) behind p
expression_clause behind (IsOperand.tight {f = f} is form) = whole (takes_nothing f is) (before_any behind form is)
expression_clause behind (IsOperand.loose {f = f} is form) = unbracketed (is_taken behind f) refl form (λ is. rebehind behind form is)

-- a procedure, before what stands after it
pub data IsProcedure (room : ℕ) (behind : Behind) : Phrase → Type 0 where
  procedure : {params : List GroupAt} {gives : TyView} {s : Phrase} {line : Line} → AreGroups room params → IsResult room gives → IsClause room behind s → IsProcedure room behind (at (form.Proc params gives s) line)

pub procedure_clause : {room : ℕ} {behind : Behind} {p : Phrase} → IsProcedure room behind p → IsClause (suc room) behind p
procedure_clause (procedure params gives s) = whole refl (IsForm.proc params gives s)

pub procedure_item : {room : ℕ} {p : Phrase} {name : NameAt} {line : Line} → IsName name.name → IsProcedure room other p → IsItem room (at (form.Let name false p) line)
procedure_item is (procedure params gives s) = IsItem.a_procedure is params gives s

as_procedure : {room : ℕ} {f : Form} {line : Line} → is_procedure false (at f line) ≡ true → IsForm room other f → IsProcedure (suc room) other (at f line)
as_procedure is (IsForm.proc params gives s) = procedure (grow_groups params) (grow_result gives) (grow_clause s)
as_procedure is _ = absurd (cc)

clause_procedure : {room : ℕ} {p : Phrase} → is_procedure false p ≡ true → IsClause room other p → IsProcedure room other p
clause_procedure is (IsClause.plain taken form) = as_procedure is form
clause_procedure is (IsClause.kept taken form) = absurd (cc)

no_variable : (p : Phrase) → is_procedure true p ≡ true → ⊥
no_variable p is = cc

let_chosen : {room : ℕ} {name : NameAt} (variable : Bool) (p : Phrase) {line : Line} (chosen : Bool) → is_procedure variable p ≡ chosen → IsName name.name → IsClause room other p → IsItem room (at (form.Let name variable p) line)
let_chosen true p true is name clause = absurd (no_variable p is)
let_chosen false p true is name clause = procedure_item name (clause_procedure is clause)
let_chosen variable p false is name clause = IsItem.a_let is name clause

pub let_item : {room : ℕ} {name : NameAt} {variable : Bool} {p : Phrase} {line : Line} → IsName name.name → IsClause room other p → IsItem room (at (form.Let name variable p) line)
let_item {variable = variable} {p = p} name clause = let_chosen variable p (is_procedure variable p) refl name clause

-- one more
pub one_more_item : {room : ℕ} {before : Phrases} {one : Phrase} → AreItemsOf room before → IsItem room one → AreItemsOf room (and_then before one)
one_more_item AreItemsOf.no_item one = AreItemsOf.one_more one AreItemsOf.no_item
one_more_item (AreItemsOf.one_more first rest) one = AreItemsOf.one_more first (one_more_item rest one)

pub one_more_type : {room : ℕ} {before : TyViews} {one : TyView} → AreTypes room before → IsType room one → AreTypes room (and_type before one)
one_more_type AreTypes.no_types one = AreTypes.more_types one AreTypes.no_types
one_more_type (AreTypes.more_types first rest) one = AreTypes.more_types first (one_more_type rest one)

pub one_more_group : {room : ℕ} {before : List GroupAt} (group : GroupAt) → AreGroups room before → IsType room group.ty → IsName group.name.name → AreGroups room (before ++ group ∷ [])
one_more_group group AreGroups.no_groups t name = AreGroups.more_groups t name AreGroups.no_groups
one_more_group group (AreGroups.more_groups first named groups) t name = AreGroups.more_groups first named (one_more_group group groups t name)

-- what stood at the end stands before a comma when one more follows
pub one_more_clause : {room : ℕ} {last : Behind} {before : Phrases} {one : Phrase} → AreClauses room before_comma before → IsClause room last one → AreClauses room last (and_then before one)
one_more_clause AreClauses.no_clauses one = AreClauses.more_clauses one AreClauses.no_clauses
one_more_clause (AreClauses.more_clauses {rest = none} first rest) one = AreClauses.more_clauses first (AreClauses.more_clauses one AreClauses.no_clauses)
one_more_clause (AreClauses.more_clauses {rest = more second others} first rest) one = AreClauses.more_clauses first (one_more_clause rest one)

pub one_more_written : {room : ℕ} {behind : Behind} {before : WriteItems} {one : WriteItem} → AreItems room before_comma before → IsWritten room behind one → AreItems room behind (and_item before one)
one_more_written AreItems.nothing_more one = AreItems.and_items one AreItems.nothing_more
one_more_written (AreItems.and_items {rest = no_items} first rest) one = AreItems.and_items first (AreItems.and_items one AreItems.nothing_more)
one_more_written (AreItems.and_items {rest = more_items second others} first rest) one = AreItems.and_items first (one_more_written rest one)

open_behind : (first second : WriteItem) (rest : WriteItems) → ends_open (more_items first (more_items second rest)) ≡ ends_open (more_items second rest)
open_behind (item e absent line) second rest = refl
open_behind (item e (present w) line) second rest = refl

pub ends_alike : (before : WriteItems) (one : WriteItem) → ends_open (and_item before one) ≡ ends_open (more_items one no_items)
ends_alike no_items one = refl
ends_alike (more_items first no_items) one = open_behind first one no_items
ends_alike (more_items first (more_items second rest)) one = open_behind first second (and_item rest one) ∙ ends_alike (more_items second rest) one

-- lists that have something in them
abbrev pub has_clause : Phrases → Bool
has_clause none = false
has_clause (more first rest) = true

abbrev pub has_item : WriteItems → Bool
has_item no_items = false
has_item (more_items first rest) = true

pub has_one_more : (before : Phrases) (one : Phrase) → has_clause (and_then before one) ≡ true
has_one_more none one = refl
has_one_more (more first rest) one = refl

pub has_one_more_item : (before : WriteItems) (one : WriteItem) → has_item (and_item before one) ≡ true
has_one_more_item no_items one = refl
has_one_more_item (more_items first rest) one = refl

pub one_more_arm : {room : ℕ} {before : Arms} {labels : Phrases} {a : Phrase} → has_clause labels ≡ true → AreArms room before → AreClauses room before_colon labels → IsClause room other a → AreArms room (and_arm before (arm labels a))
one_more_arm some AreArms.none_of_them (AreClauses.more_clauses first rest) a = AreArms.and_arms (AreClauses.more_clauses first rest) a AreArms.none_of_them
one_more_arm some AreArms.none_of_them AreClauses.no_clauses a = absurd (cc)
one_more_arm some (AreArms.and_arms first b rest) labels a = AreArms.and_arms first b (one_more_arm some rest labels a)

pub written_clause : {room : ℕ} {behind : Behind} {before : WriteItems} {line : Line} → has_item before ≡ true → is_taken behind (form.Write before) ≡ false → AreItems room behind before → IsClause (suc room) behind (at (form.Write before) line)
written_clause some is (AreItems.and_items first rest) = IsClause.plain is (IsForm.write is (AreItems.and_items first rest))
written_clause some is AreItems.nothing_more = absurd (cc)

pub elements_operand : {room : ℕ} {l : Phrase} {t : TyView} {before : Phrases} {line : Line} → has_clause before ≡ true → IsClause room other l → IsType room t → AreClauses room other before → IsOperand room primary (at (form.Elems l t before) line)
elements_operand some l t (AreClauses.more_clauses first rest) = IsOperand.tight refl (IsForm.elems l t (AreClauses.more_clauses first rest))
elements_operand some l t AreClauses.no_clauses = absurd (cc)

-- the items of a block, or of a program
pub data IsSequence (room : ℕ) (line : Line) : Phrase → Type 0 where
  sequence : {items : Phrases} → AreItemsOf room items → IsSequence room line (at (form.Sequence items) line)

pub block_operand : {room : ℕ} {line : Line} {p : Phrase} → IsSequence room line p → IsOperand room primary p
block_operand (sequence items) = IsOperand.tight refl (IsForm.sequence items)
