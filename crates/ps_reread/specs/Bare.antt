-- A tree without its lines: two trees are the same but for lines where these are equal.
use Rattle.std.specs.Prelude.{List, [], ◌∷◌}
use Rattle.ps_layout.specs.ps_base.declared.line.Line.{Line}
use Rattle.ps_parse.specs.ps_scan.Tokens.{line_of}
use Rattle.ps_layout.specs.ps_tree.Phrase.{NameAt, GroupAt, Phrase, at, Form, Phrases, none, more, MaybePhrase, absent, present, Arm, Arms, no_arms, more_arms, arm, WriteItem, item, WriteItems, no_items, more_items}
use Rattle.ps_layout.specs.ps_tree.Phrase as form

abbrev first_line : Line
first_line = line_of 1

abbrev pub bare_name : NameAt → NameAt
bare_name name = record { name = name.name; line = first_line }

abbrev pub bare_group : GroupAt → GroupAt
bare_group group = record { ty = group.ty; name = bare_name group.name }

abbrev pub bare_groups : List GroupAt → List GroupAt
bare_groups [] = []
bare_groups (group ∷ groups) = bare_group group ∷ bare_groups groups

abbrev mutual
  pub bare : Phrase → Phrase
  bare (at f line) = at (bare_form f) first_line

  pub bare_form : Form → Form
  bare_form (form.Sequence items) = form.Sequence (bare_all items)
  bare_form (form.Let name variable e) = form.Let (bare_name name) variable (bare e)
  bare_form (form.Structure name fields) = form.Structure (bare_name name) (bare_groups fields)
  bare_form (form.IfDo c a) = form.IfDo (bare c) (bare a)
  bare_form (form.IfElse c a b) = form.IfElse (bare c) (bare a) (bare b)
  bare_form (form.While c a) = form.While (bare c) (bare a)
  bare_form (form.Repeat a c b) = form.Repeat (bare a) (bare c) (bare_maybe b)
  bare_form (form.For name a b c s) = form.For (bare_name name) (bare a) (bare b) (bare_maybe c) (bare s)
  bare_form (form.Case e arms d) = form.Case (bare e) (bare_arms arms) (bare d)
  bare_form (form.Write items) = form.Write (bare_items items)
  bare_form form.Abort = form.Abort
  bare_form (form.Proc params gives s) = form.Proc (bare_groups params) gives (bare s)
  bare_form (form.Vector l u e) = form.Vector (bare l) (bare u) (bare e)
  bare_form (form.Assign x e) = form.Assign (bare x) (bare e)
  bare_form (form.Or a b) = form.Or (bare a) (bare b)
  bare_form (form.And a b) = form.And (bare a) (bare b)
  bare_form (form.Not e) = form.Not (bare e)
  bare_form (form.Compare op a b) = form.Compare op (bare a) (bare b)
  bare_form (form.Is e class negated) = form.Is (bare e) (bare_name class) negated
  bare_form (form.Join a b) = form.Join (bare a) (bare b)
  bare_form (form.Arith op a b) = form.Arith op (bare a) (bare b)
  bare_form (form.Plus e) = form.Plus (bare e)
  bare_form (form.Neg e) = form.Neg (bare e)
  bare_form (form.Apply f args) = form.Apply (bare f) (bare_all args)
  bare_form (form.Part s i n) = form.Part (bare s) (bare i) (bare n)
  bare_form (form.Name name) = form.Name name
  bare_form (form.Int value) = form.Int value
  bare_form (form.Text bytes) = form.Text bytes
  bare_form (form.Flag value) = form.Flag value
  bare_form form.Nil = form.Nil
  bare_form (form.Bound upper e) = form.Bound upper (bare e)
  bare_form (form.Elems l t items) = form.Elems (bare l) t (bare_all items)

  pub bare_all : Phrases → Phrases
  bare_all none = none
  bare_all (more first rest) = more (bare first) (bare_all rest)

  pub bare_maybe : MaybePhrase → MaybePhrase
  bare_maybe absent = absent
  bare_maybe (present p) = present (bare p)

  pub bare_arms : Arms → Arms
  bare_arms no_arms = no_arms
  bare_arms (more_arms first rest) = more_arms (bare_arm first) (bare_arms rest)

  pub bare_arm : Arm → Arm
  bare_arm (arm labels a) = arm (bare_all labels) (bare a)

  pub bare_items : WriteItems → WriteItems
  bare_items no_items = no_items
  bare_items (more_items first rest) = more_items (bare_item first) (bare_items rest)

  pub bare_item : WriteItem → WriteItem
  bare_item (item e w line) = item (bare e) (bare_maybe w) first_line
