-- What is canonical with some room is canonical with more; and what stood in brackets is canonical
-- without them, whatever stands after it then.
use Rattle.std.proofs.Common.{◌≡◌, ◌≢◌, ℕ, suc, List, Bool, true, false, refl}
use Rattle.ps_layout.specs.ps_base.TyView.{TyView, TyViews}
use Rattle.ps_layout.specs.ps_base.declared.line.Line.{Line}
use Rattle.ps_layout.specs.ps_tree.Phrase.{GroupAt, Phrase, at, Form, Phrases, none, more, absent, present, Arms, WriteItem, item, WriteItems, no_items, more_items}
use Rattle.ps_layout.specs.ps_tree.Phrase as form
use Rattle.ps_layout.specs.Layout.{Behind, other, before_do, before_comma, before_colon, is_taken, Tightness}
use Rattle.ps_reread.proofs.Canonical.{IsType, AreTypes, IsResult, AreGroups, IsClause, IsOperand, IsForm, AreClauses, AreArms, AreItems, IsWritten, AreItemsOf, IsItem}

mutual
  pub grow_type : {room : ℕ} {t : TyView} → IsType room t → IsType (suc room) t
  grow_type IsType.int = IsType.int
  grow_type IsType.bool = IsType.bool
  grow_type IsType.str = IsType.str
  grow_type IsType.pntr = IsType.pntr
  grow_type (IsType.vector element) = IsType.vector (grow_type element)
  grow_type (IsType.proc parameters gives) = IsType.proc (grow_types parameters) (grow_result gives)

  grow_types : {room : ℕ} {types : TyViews} → AreTypes room types → AreTypes (suc room) types
  grow_types AreTypes.no_types = AreTypes.no_types
  grow_types (AreTypes.more_types first rest) = AreTypes.more_types (grow_type first) (grow_types rest)

  pub grow_result : {room : ℕ} {t : TyView} → IsResult room t → IsResult (suc room) t
  grow_result IsResult.no_result = IsResult.no_result
  grow_result (IsResult.result gives) = IsResult.result (grow_type gives)

pub grow_groups : {room : ℕ} {groups : List GroupAt} → AreGroups room groups → AreGroups (suc room) groups
grow_groups AreGroups.no_groups = AreGroups.no_groups
grow_groups (AreGroups.more_groups t name groups) = AreGroups.more_groups (grow_type t) name (grow_groups groups)

mutual
  pub grow_clause : {room : ℕ} {behind : Behind} {p : Phrase} → IsClause room behind p → IsClause (suc room) behind p
  grow_clause (IsClause.plain taken f) = IsClause.plain taken (grow_form f)
  grow_clause (IsClause.kept taken f) = IsClause.kept taken (grow_form f)

  pub grow_operand : {room : ℕ} {needed : Tightness} {p : Phrase} → IsOperand room needed p → IsOperand (suc room) needed p
  grow_operand (IsOperand.tight looser f) = IsOperand.tight looser (grow_form f)
  grow_operand (IsOperand.loose looser f) = IsOperand.loose looser (grow_form f)

  pub grow_form : {room : ℕ} {behind : Behind} {f : Form} → IsForm room behind f → IsForm (suc room) behind f
  grow_form (IsForm.if_do c a) = IsForm.if_do (grow_clause c) (grow_clause a)
  grow_form (IsForm.if_else c a b) = IsForm.if_else (grow_clause c) (grow_clause a) (grow_clause b)
  grow_form (IsForm.while_do c a) = IsForm.while_do (grow_clause c) (grow_clause a)
  grow_form (IsForm.repeat_while front a c) = IsForm.repeat_while front (grow_clause a) (grow_clause c)
  grow_form (IsForm.repeat_do a c b) = IsForm.repeat_do (grow_clause a) (grow_clause c) (grow_clause b)
  grow_form (IsForm.for_to name a b s) = IsForm.for_to name (grow_clause a) (grow_clause b) (grow_clause s)
  grow_form (IsForm.for_by name a b c s) = IsForm.for_by name (grow_clause a) (grow_clause b) (grow_clause c) (grow_clause s)
  grow_form (IsForm.case_of e arms d) = IsForm.case_of (grow_clause e) (grow_arms arms) (grow_clause d)
  grow_form (IsForm.write taken items) = IsForm.write taken (grow_items items)
  grow_form IsForm.abort = IsForm.abort
  grow_form (IsForm.proc params gives s) = IsForm.proc (grow_groups params) (grow_result gives) (grow_clause s)
  grow_form (IsForm.vector l u e) = IsForm.vector (grow_clause l) (grow_clause u) (grow_clause e)
  grow_form (IsForm.assign x e) = IsForm.assign (grow_operand x) (grow_clause e)
  grow_form (IsForm.or a b) = IsForm.or (grow_operand a) (grow_operand b)
  grow_form (IsForm.and a b) = IsForm.and (grow_operand a) (grow_operand b)
  grow_form (IsForm.not e) = IsForm.not (grow_operand e)
  grow_form (IsForm.compare a b) = IsForm.compare (grow_operand a) (grow_operand b)
  grow_form (IsForm.is e class) = IsForm.is (grow_operand e) class
  grow_form (IsForm.join a b) = IsForm.join (grow_operand a) (grow_operand b)
  grow_form (IsForm.arith a b) = IsForm.arith (grow_operand a) (grow_operand b)
  grow_form (IsForm.plus e) = IsForm.plus (grow_operand e)
  grow_form (IsForm.neg e) = IsForm.neg (grow_operand e)
  grow_form (IsForm.apply f args) = IsForm.apply (grow_operand f) (grow_clauses args)
  grow_form (IsForm.part s i n) = IsForm.part (grow_operand s) (grow_clause i) (grow_clause n)
  grow_form (IsForm.sequence items) = IsForm.sequence (grow_all items)
  grow_form (IsForm.name bytes) = IsForm.name bytes
  grow_form (IsForm.int fits) = IsForm.int fits
  grow_form (IsForm.text spellable fits) = IsForm.text spellable fits
  grow_form IsForm.flag = IsForm.flag
  grow_form IsForm.nil = IsForm.nil
  grow_form (IsForm.bound e) = IsForm.bound (grow_clause e)
  grow_form (IsForm.elems l t items) = IsForm.elems (grow_clause l) (grow_type t) (grow_clauses items)

  pub grow_clauses : {room : ℕ} {last : Behind} {clauses : Phrases} → AreClauses room last clauses → AreClauses (suc room) last clauses
  grow_clauses AreClauses.no_clauses = AreClauses.no_clauses
  grow_clauses (AreClauses.more_clauses first rest) = AreClauses.more_clauses (grow_clause first) (grow_clauses rest)

  grow_arms : {room : ℕ} {arms : Arms} → AreArms room arms → AreArms (suc room) arms
  grow_arms AreArms.none_of_them = AreArms.none_of_them
  grow_arms (AreArms.and_arms labels a rest) = AreArms.and_arms (grow_clauses labels) (grow_clause a) (grow_arms rest)

  grow_items : {room : ℕ} {behind : Behind} {items : WriteItems} → AreItems room behind items → AreItems (suc room) behind items
  grow_items AreItems.nothing_more = AreItems.nothing_more
  grow_items (AreItems.and_items first rest) = AreItems.and_items (grow_written first) (grow_items rest)

  grow_written : {room : ℕ} {behind : Behind} {one : WriteItem} → IsWritten room behind one → IsWritten (suc room) behind one
  grow_written (IsWritten.as_wide e) = IsWritten.as_wide (grow_clause e)
  grow_written (IsWritten.wide e w) = IsWritten.wide (grow_clause e) (grow_clause w)

  grow_all : {room : ℕ} {items : Phrases} → AreItemsOf room items → AreItemsOf (suc room) items
  grow_all AreItemsOf.no_item = AreItemsOf.no_item
  grow_all (AreItemsOf.one_more first rest) = AreItemsOf.one_more (grow_item first) (grow_all rest)

  grow_item : {room : ℕ} {p : Phrase} → IsItem room p → IsItem (suc room) p
  grow_item (IsItem.a_clause p) = IsItem.a_clause (grow_clause p)
  grow_item (IsItem.a_let procedure name e) = IsItem.a_let procedure name (grow_clause e)
  grow_item (IsItem.a_procedure name params gives s) = IsItem.a_procedure name (grow_groups params) (grow_result gives) (grow_clause s)
  grow_item (IsItem.a_structure name fields) = IsItem.a_structure name (grow_groups fields)

-- what stood in brackets stands in its own where it would take what stands after it
pub unbracketed : {room : ℕ} {behind : Behind} {f : Form} {line : Line} (taken : Bool) → is_taken behind f ≡ taken → IsForm room other f → (is_taken behind f ≡ false → IsForm (suc room) behind f) → IsClause (suc (suc room)) behind (at f line)
unbracketed true is bracketed bare = IsClause.kept is bracketed
unbracketed false is bracketed bare = IsClause.plain is (bare is)

not_do : (behind : Behind) (a c : Phrase) → is_taken behind (form.Repeat a c absent) ≡ false → behind ≢ before_do
not_do other a c is = λ same. cc
not_do before_do a c is = absurd (cc)
not_do before_comma a c is = λ same. cc
not_do before_colon a c is = λ same. cc

mutual
  -- a form that stood in brackets
  pub rebehind : {room : ℕ} {f : Form} (behind : Behind) → IsForm room other f → is_taken behind f ≡ false → IsForm (suc room) behind f
  rebehind behind (IsForm.if_do c a) is = IsForm.if_do (grow_clause c) (rebehind_clause behind a)
  rebehind behind (IsForm.if_else c a b) is = IsForm.if_else (grow_clause c) (grow_clause a) (rebehind_clause behind b)
  rebehind behind (IsForm.while_do c a) is = IsForm.while_do (grow_clause c) (rebehind_clause behind a)
  rebehind behind (IsForm.repeat_while front a c) is = IsForm.repeat_while (not_do behind _ _ is) (grow_clause a) (rebehind_clause behind c)
  rebehind behind (IsForm.repeat_do a c b) is = IsForm.repeat_do (grow_clause a) (grow_clause c) (rebehind_clause behind b)
  rebehind behind (IsForm.for_to name a b s) is = IsForm.for_to name (grow_clause a) (grow_clause b) (rebehind_clause behind s)
  rebehind behind (IsForm.for_by name a b c s) is = IsForm.for_by name (grow_clause a) (grow_clause b) (grow_clause c) (rebehind_clause behind s)
  rebehind behind (IsForm.case_of e arms d) is = IsForm.case_of (grow_clause e) (grow_arms arms) (rebehind_clause behind d)
  rebehind behind (IsForm.write taken items) is = IsForm.write is (rebehind_items behind items)
  rebehind behind IsForm.abort is = IsForm.abort
  rebehind behind (IsForm.proc params gives s) is = IsForm.proc (grow_groups params) (grow_result gives) (rebehind_clause behind s)
  rebehind behind (IsForm.vector l u e) is = IsForm.vector (grow_clause l) (grow_clause u) (rebehind_clause behind e)
  rebehind behind (IsForm.assign x e) is = IsForm.assign (grow_operand x) (rebehind_clause behind e)
  rebehind behind (IsForm.or a b) is = IsForm.or (grow_operand a) (grow_operand b)
  rebehind behind (IsForm.and a b) is = IsForm.and (grow_operand a) (grow_operand b)
  rebehind behind (IsForm.not e) is = IsForm.not (grow_operand e)
  rebehind behind (IsForm.compare a b) is = IsForm.compare (grow_operand a) (grow_operand b)
  rebehind behind (IsForm.is e class) is = IsForm.is (grow_operand e) class
  rebehind behind (IsForm.join a b) is = IsForm.join (grow_operand a) (grow_operand b)
  rebehind behind (IsForm.arith a b) is = IsForm.arith (grow_operand a) (grow_operand b)
  rebehind behind (IsForm.plus e) is = IsForm.plus (grow_operand e)
  rebehind behind (IsForm.neg e) is = IsForm.neg (grow_operand e)
  rebehind behind (IsForm.apply f args) is = IsForm.apply (grow_operand f) (grow_clauses args)
  rebehind behind (IsForm.part s i n) is = IsForm.part (grow_operand s) (grow_clause i) (grow_clause n)
  rebehind behind (IsForm.sequence items) is = IsForm.sequence (grow_all items)
  rebehind behind (IsForm.name bytes) is = IsForm.name bytes
  rebehind behind (IsForm.int fits) is = IsForm.int fits
  rebehind behind (IsForm.text spellable fits) is = IsForm.text spellable fits
  rebehind behind IsForm.flag is = IsForm.flag
  rebehind behind IsForm.nil is = IsForm.nil
  rebehind behind (IsForm.bound e) is = IsForm.bound (grow_clause e)
  rebehind behind (IsForm.elems l t items) is = IsForm.elems (grow_clause l) (grow_type t) (grow_clauses items)

  -- the last clause of such a form may get brackets of its own
  pub rebehind_clause : {room : ℕ} {p : Phrase} (behind : Behind) → IsClause room other p → IsClause (suc room) behind p
  rebehind_clause behind (IsClause.plain {f = f} taken bracketed) = unbracketed (is_taken behind f) refl bracketed (λ is. rebehind behind bracketed is)
  rebehind_clause behind (IsClause.kept taken bracketed) = absurd (cc)

  rebehind_items : {room : ℕ} {items : WriteItems} (behind : Behind) → AreItems room other items → AreItems (suc room) behind items
  rebehind_items behind AreItems.nothing_more = AreItems.nothing_more
  rebehind_items behind (AreItems.and_items {rest = no_items} first rest) = AreItems.and_items (rebehind_written behind first) AreItems.nothing_more
  rebehind_items behind (AreItems.and_items {rest = more_items second others} first rest) = AreItems.and_items (grow_written first) (rebehind_items behind rest)

  rebehind_written : {room : ℕ} {one : WriteItem} (behind : Behind) → IsWritten room other one → IsWritten (suc room) behind one
  rebehind_written behind (IsWritten.as_wide e) = IsWritten.as_wide (rebehind_clause behind e)
  rebehind_written behind (IsWritten.wide e w) = IsWritten.wide (grow_clause e) (rebehind_clause behind w)
