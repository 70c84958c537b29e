-- The check of a clause changes none of the names and fields of the blocks around.
use Rattle.std.proofs.Common.{◌≡◌, ℕ, Bool, true, false, List, [], ◌∷◌, refl, ◌∙◌, subst}
use Rattle.std.specs.Prelude.{Option, Some, None, if◌then◌else◌, nat_lt, nat_eq, ◌+◌, length, pos}
use Rattle.ps_tree.specs.ps_base.Limits.{most_fields}
use Rattle.ps_tree.specs.ps_base.TyView.{TyView, TyViews}
use Rattle.ps_tree.specs.ps_base.TyView as types
use Rattle.ps_tree.specs.ps_base.declared.line.Line.{Line}
use Rattle.ps_tree.specs.Phrase.{NameAt, GroupAt, Phrase, at, Form, Phrases, none, more, MaybePhrase, absent, present, Arm, arm, Arms, no_arms, more_arms, WriteItem, item, WriteItems, no_items, more_items}
use Rattle.ps_tree.specs.Phrase as form
use Rattle.ps_program.specs.Node.{Param, Node, Nodes, body}
use Rattle.ps_program.specs.Node as node
use Rattle.ps_typing.specs.Names.{plain, scan, Meaning, local, class, library, Names, FieldOf, meant, field_meant, is_declared, is_field_declared, declare_local}
use Rattle.ps_typing.specs.Checking.{Outcome, Gives, Refuses, ◌>>=◌, passes, line_of, name_in, introduced, types_of, with_fields, structure, used, with_params, is_of, assigned, field_at, field, field_name, Checker, like, check_each, check_args, count_types, with_args, elements, value_applied, scan_applied, name_applied, applied, literal, named_literal, first_type, check, check_form, checkers, check_if_any, check_arms, check_all, check_written}

-- after it the names and fields around are the same
pub record Same (before after : Names) : Type 0 where
  pub around : after.around ≡ before.around
  pub fields_around : after.fields_around ≡ before.fields_around

abbrev Given : {A : Type 0} → Names → Outcome A → Type 0
Given before (Gives of ty after) = Same before after
Given before (Refuses fault) = Unit {0}

-- what is given keeps the names and fields around
pub record Keeps {A : Type 0} (before : Names) (o : Outcome A) : Type 0 where
  pub same : Given before o

refuses : {A : Type 0} {before : Names} {fault : _} → Keeps {A = A} before (Refuses fault)
refuses = record { same = tt }

gives : {A : Type 0} {before : Names} {of : A} {ty : TyView} → Keeps before (Gives of ty before)
gives = record { same = record { around = refl; fields_around = refl } }

-- the names themselves, with more in the block
same_gives : {A : Type 0} {before after : Names} {of : A} {ty : TyView} → after.around ≡ before.around → after.fields_around ≡ before.fields_around →
    Keeps before (Gives of ty after)
same_gives around fields = record { same = record { around = around; fields_around = fields } }

from : {A : Type 0} {before between : Names} (o : Outcome A) → between.around ≡ before.around → between.fields_around ≡ before.fields_around →
    Keeps between o → Keeps before o
from (Gives of ty after) around fields h = record { same = record { around = h.same.around ∙ around; fields_around = h.same.fields_around ∙ fields } }
from (Refuses fault) around fields h = refuses

next : {A B : Type 0} {before : Names} (o : Outcome A) (k : A → TyView → Names → Outcome B) → Keeps before o →
    ((of : A) (ty : TyView) (names : Names) → Keeps names (k of ty names)) → Keeps before (o >>= k)
unfolding ◌>>=◌
next (Gives of ty names) k h after = from (k of ty names) h.same.around h.same.fields_around (after of ty names)
next (Refuses fault) k h after = refuses

-- what follows is after the block
closed : {A B : Type 0} {before : Names} (o : Outcome A) (k : A → TyView → Names → Outcome B) →
    ((of : A) (ty : TyView) (names : Names) → Keeps before (k of ty names)) → Keeps before (o >>= k)
unfolding ◌>>=◌
closed (Gives of ty names) k after = after of ty names
closed (Refuses fault) k after = refuses

either : {A : Type 0} {before : Names} (b : Bool) (x y : Outcome A) → Keeps before x → Keeps before y → Keeps before (if b then x else y)
either true x y on_true on_false = on_true
either false x y on_true on_false = on_false

tests : {before : Names} (test : TyView → Bool) (wanted : TyView) (line : Line) (o : Outcome Node) → Keeps before o → Keeps before (passes test wanted line o)
unfolding passes
tests test wanted line (Gives tree ty names) h = either (test ty) _ _ h refuses
tests test wanted line (Refuses fault) h = refuses

keeps_assigned : (line e_line : Line) (can : Bool) (tree : Option Node) (wanted found : TyView) (names : Names) →
    Keeps names (assigned line e_line can tree wanted found names)
unfolding assigned
keeps_assigned line e_line true (Some tree) wanted found names = either _ _ _ gives refuses
keeps_assigned line e_line true None wanted found names = refuses
keeps_assigned line e_line false tree wanted found names = refuses

keeps_introduced : (name : NameAt) (variable : Bool) (e : Node) (ty : TyView) (names : Names) → Keeps names (introduced name variable e ty names)
keeps_introduced name variable e ty names = either (is_declared names name.name) _ _ refuses (same_gives refl refl)

keeps_with_fields : (names : Names) (text : List ℕ) (index : ℕ) (groups : List GroupAt) → Keeps names (with_fields names text index groups)
keeps_with_fields names text index [] = gives
keeps_with_fields names text index (group ∷ groups) =
    either (is_field_declared names group.name.name) _ _ refuses (from _ refl refl (keeps_with_fields _ text (index + 1) groups))

keeps_structure : (names : Names) (line : Line) (name : NameAt) (fields : List GroupAt) → Keeps names (structure names line name fields)
keeps_structure names line name fields =
    either (nat_lt most_fields (length fields)) _ _ refuses (either (is_declared names name.name) _ _ refuses (from _ refl refl (keeps_with_fields _ _ 0 fields)))

keeps_used : (line : Line) (names : Names) (meaning : Option Meaning) → Keeps names (used line names meaning)
keeps_used line names (Some (local number ty variable)) = gives
keeps_used line names (Some (class text fields)) = refuses
keeps_used line names (Some (library procedure)) = refuses
keeps_used line names None = refuses

pub keeps_params : (names : Names) (made : List Param) (groups : List GroupAt) → Keeps names (with_params names made groups)
keeps_params names made [] = gives
keeps_params names made (group ∷ groups) =
    either (is_declared names group.name.name) _ _ refuses (from _ refl refl (keeps_params _ _ groups))

keeps_is_of : (name : NameAt) (negated : Bool) (e : Node) (names : Names) (meaning : Option Meaning) → Keeps names (is_of name negated e names meaning)
keeps_is_of name negated e names (Some (class text fields)) = gives
keeps_is_of name negated e names (Some (local number ty variable)) = refuses
keeps_is_of name negated e names (Some (library procedure)) = refuses
keeps_is_of name negated e names None = refuses

keeps_field_at : (line : Line) (p : Node) (names : Names) (name_line : Line) (found : Option FieldOf) → Keeps names (field_at line p names name_line found)
keeps_field_at line p names name_line (Some found) = gives
keeps_field_at line p names name_line None = refuses

keeps_field : (line : Line) (p : Node) (names : Names) (name : Option NameAt) → Keeps names (field line p names name)
keeps_field line p names (Some name) = keeps_field_at line p names name.line (field_meant names name.name)
keeps_field line p names None = refuses

-- so of each of these clauses
abbrev AllKeep : List Checker → Type 0
AllKeep [] = Unit {0}
AllKeep (first ∷ rest) = ((names : Names) → Keeps names (first.check names)) × AllKeep rest

keeps_like : {before : Names} (given : Option TyView) (line : Line) (o : Outcome Node) → Keeps before o → Keeps before (like given line o)
keeps_like None line o h = h
keeps_like (Some wanted) line o h = tests _ wanted line o h

keeps_each : (names : Names) (t : TyView) (clauses : List Checker) → AllKeep clauses → Keeps names (check_each names t clauses)
keeps_each names t [] h = gives
keeps_each names t (first ∷ rest) h =
    next _ _ (tests _ t _ _ (h.0 names)) (λ one same n. next _ _ (keeps_each n t rest h.1) (λ others last n. gives))

keeps_args : (names : Names) (params : TyViews) (args : List Checker) → AllKeep args → Keeps names (check_args names params args)
keeps_args names (types.more t ts) (first ∷ rest) h =
    next _ _ (tests _ t _ _ (h.0 names)) (λ one same n. next _ _ (keeps_args n ts rest h.1) (λ others last n. gives))
keeps_args names (types.more t ts) [] h = gives
keeps_args names types.none args h = gives

keeps_with_args : (names : Names) (line : Line) (params : TyViews) (args : List Checker) (make : Nodes → Node) (ty : TyView) → AllKeep args →
    Keeps names (with_args names line params args make ty)
keeps_with_args names line params args make ty h =
    either (nat_eq (count_types params) (length args)) _ _ (next _ _ (keeps_args names params args h) (λ trees t n. gives)) refuses

keeps_elements : (names : Names) (line : Line) (v : Node) (t : TyView) (args : List Checker) → AllKeep args → Keeps names (elements names line v t args)
keeps_elements names line v t [] h = gives
keeps_elements names line v (types.Vector element) (i ∷ rest) h =
    next _ _ (tests _ types.Int _ _ (h.0 names)) (λ i int n. keeps_elements n line _ element rest h.1)
keeps_elements names line v other (i ∷ rest) h = refuses

keeps_value_applied : (names : Names) (line : Line) (f : Node) (t : TyView) (phrases : Phrases) (args : List Checker) → AllKeep args →
    Keeps names (value_applied names line f t phrases args)
keeps_value_applied names line f (types.Proc params ty) phrases args h = keeps_with_args names line params args _ ty h
keeps_value_applied names line f (types.Vector element) phrases [] h = refuses
keeps_value_applied names line f (types.Vector element) phrases (i ∷ rest) h = keeps_elements names line f (types.Vector element) (i ∷ rest) h
keeps_value_applied names line f types.Pntr phrases args h = keeps_field line f names (field_name phrases)
keeps_value_applied names line f other phrases args h = refuses

keeps_scan_applied : (names : Names) (line : Line) (text : Bool) (args : List Checker) → AllKeep args → Keeps names (scan_applied names line text args)
keeps_scan_applied names line text (a ∷ f ∷ []) h =
    next _ _ (tests _ types.Pntr _ _ (h.0 names)) (λ a t n. next _ _ (tests _ _ _ _ (h.1.0 n)) (λ f t n. gives))
keeps_scan_applied names line text other h = refuses

keeps_name_applied : (names : Names) (line name_line : Line) (meaning : Option Meaning) (phrases : Phrases) (args : List Checker) → AllKeep args →
    Keeps names (name_applied names line name_line meaning phrases args)
keeps_name_applied names line name_line (Some (class text fields)) phrases args h = keeps_with_args names line fields args _ _ h
keeps_name_applied names line name_line (Some (library (plain code params ty))) phrases args h = keeps_with_args names line params args _ ty h
keeps_name_applied names line name_line (Some (library (scan text))) phrases args h = keeps_scan_applied names line text args h
keeps_name_applied names line name_line (Some (local number t variable)) phrases args h = keeps_value_applied names line _ t phrases args h
keeps_name_applied names line name_line None phrases args h = refuses

keeps_applied : (names : Names) (line name_line : Line) (name : Option (List ℕ)) (f : Outcome Node) (phrases : Phrases) (args : List Checker) →
    Keeps names f → AllKeep args → Keeps names (applied names line name_line name f phrases args)
keeps_applied names line name_line (Some name) f phrases args f_keeps h = keeps_name_applied names line name_line (meant names name) phrases args h
keeps_applied names line name_line None f phrases args f_keeps h = next _ _ f_keeps (λ f t n. keeps_value_applied n line f t phrases args h)

keeps_literal : (names : Names) (line : Line) (params : List GroupAt) (ty : TyView) (s_line : Line) (check_s : Names → Outcome Node) →
    Keeps names (literal names line params ty s_line check_s)
keeps_literal names line params ty s_line check_s = closed _ _ (λ made t own. closed _ _ (λ s t last. same_gives refl refl))

keeps_named_literal : (names : Names) (name : NameAt) (variable : Bool) (line : Line) (params : List GroupAt) (ty : TyView) (s_line : Line)
    (check_s : Names → Outcome Node) → Keeps names (named_literal names name variable line params ty s_line check_s)
keeps_named_literal names name variable line params ty s_line check_s =
    either (is_declared names name.name) _ _ refuses
    (next _ _ (from _ refl refl (keeps_literal (declare_local names name.name
    (types.Proc (types_of params) ty) variable) line params ty s_line check_s)) (λ e t n. gives))

mutual
  pub keeps : (names : Names) (p : Phrase) → Keeps names (check names p)
  keeps names (at form line) = keeps_form names line form

  keeps_form : (names : Names) (line : Line) (f : Form) → Keeps names (check_form names line f)
  keeps_form names line (form.Let name variable (at (form.Proc params gives s) e_line)) =
      keeps_named_literal names name variable e_line params gives (line_of s) (λ own. check own s)
  keeps_form names line (form.Let name variable e) = next _ _ (tests _ _ _ _ (keeps names e)) (λ e t n. keeps_introduced name variable e t n)
  keeps_form names line (form.Structure name fields) = keeps_structure names line name fields
  keeps_form names line (form.Name name) = keeps_used line names (meant names name)
  keeps_form names line form.Nil = gives
  keeps_form names line (form.Int value) = gives
  keeps_form names line (form.Text bytes) = gives
  keeps_form names line (form.Flag value) = gives
  keeps_form names line (form.IfDo c a) = next _ _ (tests _ _ _ _ (keeps names c)) (λ c t n. next _ _ (tests _ _ _ _ (keeps n a)) (λ a t n. gives))
  keeps_form names line (form.While c a) = next _ _ (tests _ _ _ _ (keeps names c)) (λ c t n. next _ _ (tests _ _ _ _ (keeps n a)) (λ a t n. gives))
  keeps_form names line (form.Repeat a c b) =
      next _ _ (tests _ _ _ _ (keeps names a)) (λ a t n.
      next _ _ (tests _ _ _ _ (keeps n c)) (λ c t n.
      next _ _ (keeps_if_any n types.Void node.Empty b) (λ b t n. gives)))
  keeps_form names line (form.IfElse c a b) =
      next _ _ (tests _ _ _ _ (keeps names c)) (λ c t n.
      next _ _ (keeps n a) (λ a t n.
      next _ _ (tests _ _ _ _ (keeps n b)) (λ b same n. gives)))
  keeps_form names line (form.For name a b c s) =
      next _ _ (tests _ _ _ _ (keeps names a)) (λ a t n.
      next _ _ (tests _ _ _ _ (keeps n b)) (λ b t n.
      next _ _ (keeps_if_any n types.Int (node.Int (pos 1)) c) (λ c t n.
      closed _ _ (λ s t last. same_gives refl refl))))
  keeps_form names line (form.Case e arms d) =
      next _ _ (tests _ _ _ _ (keeps names e)) (λ e t n.
      next _ _ (keeps_arms n t None arms) (λ arms given n.
      next _ _ (keeps_like (first_type arms given) _ _ (keeps n d)) (λ d given n. gives)))
  keeps_form names line (form.Write items) = next _ _ (keeps_written names items) (λ trees t n. gives)
  keeps_form names line form.Abort = gives
  keeps_form names line (form.Proc params gives s) = keeps_literal names line params gives (line_of s) (λ own. check own s)
  keeps_form names line (form.Vector l u e) =
      next _ _ (tests _ _ _ _ (keeps names l)) (λ l t n.
      next _ _ (tests _ _ _ _ (keeps n u)) (λ u t n.
      next _ _ (tests _ _ _ _ (keeps n e)) (λ e t n. gives)))
  keeps_form names line (form.Elems l t items) =
      next _ _ (tests _ _ _ _ (keeps names l)) (λ l int n.
      next _ _ (keeps_each n t (checkers items) (all_keep items)) (λ items last n. gives))
  keeps_form names line (form.Assign x e) =
      next _ _ (keeps names x) (λ x' wanted n.
      next _ _ (keeps n e) (λ e' found n. keeps_assigned _ _ _ _ wanted found n))
  keeps_form names line (form.Or a b) = next _ _ (tests _ _ _ _ (keeps names a)) (λ a t n. next _ _ (tests _ _ _ _ (keeps n b)) (λ b t n. gives))
  keeps_form names line (form.And a b) = next _ _ (tests _ _ _ _ (keeps names a)) (λ a t n. next _ _ (tests _ _ _ _ (keeps n b)) (λ b t n. gives))
  keeps_form names line (form.Not e) = next _ _ (tests _ _ _ _ (keeps names e)) (λ e t n. gives)
  keeps_form names line (form.Compare op a b) = next _ _ (tests _ _ _ _ (keeps names a)) (λ a t n. next _ _ (tests _ _ _ _ (keeps n b)) (λ b t n. gives))
  keeps_form names line (form.Is e name negated) = next _ _ (tests _ _ _ _ (keeps names e)) (λ e t n. keeps_is_of name negated e n (meant n name.name))
  keeps_form names line (form.Arith op a b) = next _ _ (tests _ _ _ _ (keeps names a)) (λ a t n. next _ _ (tests _ _ _ _ (keeps n b)) (λ b t n. gives))
  keeps_form names line (form.Plus e) = next _ _ (tests _ _ _ _ (keeps names e)) (λ e t n. gives)
  keeps_form names line (form.Neg e) = next _ _ (tests _ _ _ _ (keeps names e)) (λ e t n. gives)
  keeps_form names line (form.Join a b) = next _ _ (tests _ _ _ _ (keeps names a)) (λ a t n. next _ _ (tests _ _ _ _ (keeps n b)) (λ b t n. gives))
  keeps_form names line (form.Bound upper e) = next _ _ (tests _ _ _ _ (keeps names e)) (λ e t n. gives)
  keeps_form names line (form.Apply f args) = keeps_applied names line (line_of f) (name_in f) (check names f) args (checkers args) (keeps names f)
      (all_keep args)
  keeps_form names line (form.Part s i n) =
      next _ _ (tests _ _ _ _ (keeps names s)) (λ s' t names.
      next _ _ (tests _ _ _ _ (keeps names i)) (λ i' t names.
      next _ _ (tests _ _ _ _ (keeps names n)) (λ n' t names. gives)))
  keeps_form names line (form.Sequence items) = closed _ _ (λ trees t last. same_gives refl refl)

  all_keep : (items : Phrases) → AllKeep (checkers items)
  all_keep none = tt
  all_keep (more first rest) = (λ names. keeps names first, all_keep rest)

  keeps_if_any : (names : Names) (t : TyView) (otherwise : Node) (p : MaybePhrase) → Keeps names (check_if_any names t otherwise p)
  keeps_if_any names t otherwise absent = gives
  keeps_if_any names t otherwise (present e) = tests _ _ _ _ (keeps names e)

  keeps_arms : (names : Names) (t : TyView) (given : Option TyView) (arms : Arms) → Keeps names (check_arms names t given arms)
  keeps_arms names t given no_arms = gives
  keeps_arms names t given (more_arms (arm labels a) rest) =
      next _ _ (keeps_each names t (checkers labels) (all_keep labels)) (λ labels same n.
      next _ _ (keeps_like given _ _ (keeps n a)) (λ a own n.
      next _ _ (keeps_arms n t (Some own) rest) (λ rest last n. gives)))

  pub all_keeps : (names : Names) (line : Line) (before : TyView) (items : Phrases) → Keeps names (check_all names line before items)
  all_keeps names line before none = gives
  all_keeps names line before (more clause rest) =
      either _ _ _ (next _ _ (keeps names clause) (λ tree t n. next _ _ (all_keeps n (line_of clause) t rest) (λ trees t n. gives))) refuses

  keeps_written : (names : Names) (items : WriteItems) → Keeps names (check_written names items)
  keeps_written names no_items = gives
  keeps_written names (more_items (item e w line) rest) =
      next _ _ (tests _ _ _ _ (keeps names e)) (λ e t n.
      next _ _ (keeps_if_any n types.Int node.Empty w) (λ w wide n.
      next _ _ (keeps_written n rest) (λ rest last n. gives)))

same_given : {A : Type 0} (names : Names) (o : Outcome A) (of : A) (ty : TyView) (n : Names) → Keeps names o → o ≡ Gives of ty n → Same names n
same_given names o of ty n h is = subst (λ (o : Outcome _). Given names o) is h.same

pub keeps_around : (names : Names) (p : Phrase) (tree : Node) (ty : TyView) (n : Names) → check names p ≡ Gives tree ty n → n.around ≡ names.around
keeps_around names p tree ty n is = (same_given names (check names p) tree ty n (keeps names p) is).around

pub keeps_fields_around : (names : Names) (p : Phrase) (tree : Node) (ty : TyView) (n : Names) → check names p ≡ Gives tree ty n →
    n.fields_around ≡ names.fields_around
keeps_fields_around names p tree ty n is = (same_given names (check names p) tree ty n (keeps names p) is).fields_around

pub all_keeps_around : (names : Names) (line : Line) (before : TyView) (items : Phrases) (trees : Nodes) (ty : TyView) (n : Names) →
    check_all names line before items ≡ Gives trees ty n → n.around ≡ names.around
all_keeps_around names line before items trees ty n is =
    (same_given names (check_all names line before items) trees ty n (all_keeps names line before items) is).around

pub all_keeps_fields_around : (names : Names) (line : Line) (before : TyView) (items : Phrases) (trees : Nodes) (ty : TyView) (n : Names) →
    check_all names line before items ≡ Gives trees ty n → n.fields_around ≡ names.fields_around
all_keeps_fields_around names line before items trees ty n is =
    (same_given names (check_all names line before items) trees ty n (all_keeps names line before items) is).fields_around

pub params_keep_around : (names : Names) (made : List Param) (groups : List GroupAt) (params : List Param) (ty : TyView) (n : Names) →
    with_params names made groups ≡ Gives params ty n → n.around ≡ names.around
params_keep_around names made groups params ty n is = (same_given names (with_params names made groups) params ty n (keeps_params names made groups) is).around

pub params_keep_fields_around : (names : Names) (made : List Param) (groups : List GroupAt) (params : List Param) (ty : TyView) (n : Names) →
    with_params names made groups ≡ Gives params ty n → n.fields_around ≡ names.fields_around
params_keep_fields_around names made groups params ty n is =
    (same_given names (with_params names made groups) params ty n (keeps_params names made groups) is).fields_around
