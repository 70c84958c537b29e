-- A clause as the grammar reads it, as contracts see it, without the places in memory of the code's tree.
use Rattle.std.specs.Prelude.{ℕ, ℤ, List, [], ◌∷◌, ◌++◌, map, Bool}
use Rattle.ps_base.specs.List.{items_of}
use Rattle.ps_base.specs.TyView.{TyView, ty_view}
use Rattle.ps_base.specs.declared.line.Line.{Line}
use Rattle.ps_base.specs.declared.operator.Operator.{Operator}
use Rattle.ps_base.specs.declared.operator.Relation.{Relation}
use Rattle.ps_tree.specs.declared.rough.Group.{Group}
use Rattle.ps_tree.specs.declared.rough.Named.{Named}
use Rattle.ps_tree.specs.declared.rough.Rough.{Rough}
use Rattle.ps_tree.specs.declared.rough.RoughArm.{RoughArm}
use Rattle.ps_tree.specs.declared.rough.RoughItem.{RoughItem}
use Rattle.ps_tree.specs.declared.rough.RoughForm.{RoughForm}
use Rattle.ps_tree.specs.declared.rough.RoughForm.TheBlock.{struct-RoughArm, struct-RoughItem, struct-RoughRange, Row_of-Rough, end_of-Rough, more_of-Rough, Row_of-RoughArm, end_of-RoughArm, more_of-RoughArm, Row_of-RoughItem, end_of-RoughItem, more_of-RoughItem, Held-RoughForm-Repeat-2, RoughForm-Repeat-2-None', RoughForm-Repeat-2-Some', Held-RoughItem-w, RoughItem-w-None', RoughItem-w-Some'}
use Rattle.ps_tree.specs.declared.rough.RoughForm.TheVariants as code

-- a name that is declared, with the line of its token
pub record NameAt : Type 0 where
  pub name : List ℕ
  pub line : Line

-- a parameter of a procedure, or a field of a structure
pub record GroupAt : Type 0 where
  pub ty : TyView
  pub name : NameAt

mutual
  -- a form, and the line on which a fault of it is reported
  pub data Phrase : Type 0 where
    at : (form : Form) (line : Line) → Phrase

  pub data Form : Type 0 where
    Sequence : (items : Phrases) → Form
    Let : (name : NameAt) (variable : Bool) (e : Phrase) → Form
    Structure : (name : NameAt) (fields : List GroupAt) → Form
    IfDo : (c a : Phrase) → Form
    IfElse : (c a b : Phrase) → Form
    While : (c a : Phrase) → Form
    Repeat : (a c : Phrase) (b : MaybePhrase) → Form
    For : (name : NameAt) (a b : Phrase) (c : MaybePhrase) (s : Phrase) → Form
    Case : (e : Phrase) (arms : Arms) (d : Phrase) → Form
    Write : (items : WriteItems) → Form
    Abort : Form
    Proc : (params : List GroupAt) (gives : TyView) (s : Phrase) → Form
    Vector : (l u e : Phrase) → Form
    Assign : (x e : Phrase) → Form
    Or : (a b : Phrase) → Form
    And : (a b : Phrase) → Form
    Not : (e : Phrase) → Form
    Compare : (op : Relation) (a b : Phrase) → Form
    Is : (e : Phrase) (class : NameAt) (negated : Bool) → Form
    Join : (a b : Phrase) → Form
    Arith : (op : Operator) (a b : Phrase) → Form
    Plus : (e : Phrase) → Form
    Neg : (e : Phrase) → Form
    Apply : (f : Phrase) (args : Phrases) → Form
    Part : (s i n : Phrase) → Form
    Name : (name : List ℕ) → Form
    Int : (value : ℤ) → Form
    Text : (bytes : List ℕ) → Form
    Flag : (value : Bool) → Form
    Nil : Form
    Bound : (upper : Bool) (e : Phrase) → Form
    Elems : (l : Phrase) (ty : TyView) (items : Phrases) → Form

  pub data Phrases : Type 0 where
    none : Phrases
    more : (first : Phrase) (rest : Phrases) → Phrases

  -- a clause that may be left out
  pub data MaybePhrase : Type 0 where
    absent : MaybePhrase
    present : (clause : Phrase) → MaybePhrase

  -- an arm of a `case`: its labels, and its clause
  pub data Arm : Type 0 where
    arm : (labels : Phrases) (a : Phrase) → Arm

  pub data Arms : Type 0 where
    no_arms : Arms
    more_arms : (first : Arm) (rest : Arms) → Arms

  -- an item of a `write`, how wide it is written, and its line
  pub data WriteItem : Type 0 where
    item : (e : Phrase) (w : MaybePhrase) (line : Line) → WriteItem

  pub data WriteItems : Type 0 where
    no_items : WriteItems
    more_items : (first : WriteItem) (rest : WriteItems) → WriteItems

abbrev pub named : Named → NameAt
named n = record { name = n.name; line = n.line }

-- names that are declared of one type, each with its type
abbrev pub of_type : TyView → Named → GroupAt
of_type ty name = record { ty = ty; name = named name }

abbrev pub names_in : TyView → List Named → List GroupAt
names_in ty names = map (of_type ty) names

abbrev pub group_of : Group → List GroupAt
group_of group = of_type (ty_view group.ty) group.first ∷ names_in (ty_view group.ty) (items_of group.more)

abbrev pub groups_in : List Group → List GroupAt
groups_in [] = []
groups_in (group ∷ rest) = group_of group ++ groups_in rest

abbrev mutual
  pub form_of : RoughForm → Form
  form_of (code.Sequence' shape items) = Sequence (phrases_of items)
  form_of (code.Let' name variable p e e_line) = Let (named name.value) variable (at (form_of e) e_line)
  form_of (code.Structure name fields) = Structure (named name.value) (groups_in (items_of fields))
  form_of (code.IfDo' p c c_line q a a_line) = IfDo (at (form_of c) c_line) (at (form_of a) a_line)
  form_of (code.IfElse' p c c_line q a a_line r b b_line) = IfElse (at (form_of c) c_line) (at (form_of a) a_line) (at (form_of b) b_line)
  form_of (code.While' p c c_line q a a_line) = While (at (form_of c) c_line) (at (form_of a) a_line)
  form_of (code.Repeat' p a a_line q c c_line b) = Repeat (at (form_of a) a_line) (at (form_of c) c_line) (maybe_boxed b)
  form_of (code.For' name o (struct-RoughRange p a a_line q b b_line c) r s s_line) = For (named name.value) (at (form_of a) a_line) (at (form_of b) b_line) (maybe_of c) (at (form_of s) s_line)
  form_of (code.Case' p e e_line o shape arms q d d_line) = Case (at (form_of e) e_line) (arms_of arms) (at (form_of d) d_line)
  form_of (code.Write' shape items) = Write (items_written items)
  form_of code.Abort = Abort
  form_of (code.Proc' params gives p s s_line) = Proc (groups_in (items_of params)) (ty_view gives.value) (at (form_of s) s_line)
  form_of (code.Vector' p l l_line q u u_line r e e_line) = Vector (at (form_of l) l_line) (at (form_of u) u_line) (at (form_of e) e_line)
  form_of (code.Assign' p x x_line q e e_line) = Assign (at (form_of x) x_line) (at (form_of e) e_line)
  form_of (code.Or' p a a_line q b b_line) = Or (at (form_of a) a_line) (at (form_of b) b_line)
  form_of (code.And' p a a_line q b b_line) = And (at (form_of a) a_line) (at (form_of b) b_line)
  form_of (code.Not' p e e_line) = Not (at (form_of e) e_line)
  form_of (code.Compare' op p a a_line q b b_line) = Compare op (at (form_of a) a_line) (at (form_of b) b_line)
  form_of (code.Is' p e e_line class negated) = Is (at (form_of e) e_line) (named class.value) negated
  form_of (code.Join' p a a_line q b b_line) = Join (at (form_of a) a_line) (at (form_of b) b_line)
  form_of (code.Arith' op p a a_line q b b_line) = Arith op (at (form_of a) a_line) (at (form_of b) b_line)
  form_of (code.Plus' p e e_line) = Plus (at (form_of e) e_line)
  form_of (code.Neg' p e e_line) = Neg (at (form_of e) e_line)
  form_of (code.Apply' p f f_line shape args) = Apply (at (form_of f) f_line) (phrases_of args)
  form_of (code.Part' p s s_line q i i_line r n n_line) = Part (at (form_of s) s_line) (at (form_of i) i_line) (at (form_of n) n_line)
  form_of (code.Name name) = Name name
  form_of (code.Int value) = Int value
  form_of (code.Text bytes) = Text bytes
  form_of (code.Flag value) = Flag value
  form_of code.Nil = Nil
  form_of (code.Bound' upper p e e_line) = Bound upper (at (form_of e) e_line)
  form_of (code.Elems' p l l_line ty shape items) = Elems (at (form_of l) l_line) (ty_view ty.value) (phrases_of items)

  pub phrases_of : {m : _} → Row_of-Rough m → Phrases
  phrases_of end_of-Rough = none
  phrases_of (more_of-Rough p form line rest) = more (at (form_of form) line) (phrases_of rest)

  pub maybe_of : Held-RoughItem-w → MaybePhrase
  maybe_of RoughItem-w-None' = absent
  maybe_of (RoughItem-w-Some' p form line) = present (at (form_of form) line)

  pub maybe_boxed : Held-RoughForm-Repeat-2 → MaybePhrase
  maybe_boxed RoughForm-Repeat-2-None' = absent
  maybe_boxed (RoughForm-Repeat-2-Some' o p form line) = present (at (form_of form) line)

  pub arms_of : {m : _} → Row_of-RoughArm m → Arms
  arms_of end_of-RoughArm = no_arms
  arms_of (more_of-RoughArm first rest) = more_arms (arm_of first) (arms_of rest)

  pub arm_of : RoughArm → Arm
  arm_of (struct-RoughArm shape labels p a a_line) = arm (phrases_of labels) (at (form_of a) a_line)

  pub items_written : {m : _} → Row_of-RoughItem m → WriteItems
  items_written end_of-RoughItem = no_items
  items_written (more_of-RoughItem first rest) = more_items (item_of first) (items_written rest)

  pub item_of : RoughItem → WriteItem
  item_of (struct-RoughItem p e e_line w line) = item (at (form_of e) e_line) (maybe_of w) line

abbrev pub phrase_of : Rough → Phrase
phrase_of rough = at (form_of rough.form.value) rough.line
