-- Trees whose leaves are ints and strings, and whose declarations have names of a text: constants and variables, controls, parameters, structures and
-- their fields. Parameters, fields and elements are of types that have values, and so is what a procedure gives, if it gives anything.
use Rattle.std.specs.Prelude.{◌≡◌, true, List}
use Rattle.std.specs.List.{AllByRecursion}
use Rattle.ps_parse.specs.ps_tree.Phrase.{GroupAt, Phrase, at, Form, Phrases, none, more, MaybePhrase, absent, present, Arm, arm, Arms, no_arms, more_arms, WriteItem, item, WriteItems, no_items, more_items}
use Rattle.ps_parse.specs.ps_tree.Phrase as form
use Rattle.ps_soundness.specs.ps_type_text.Texts.{IsName}
use Rattle.ps_soundness.specs.ps_heap.Operators.{is_int}
use Rattle.ps_soundness.specs.ps_heap.Texts.{is_string}
use Rattle.ps_soundness.specs.Valued.{IsValued, IsGiven}

-- the fields of a structure, or the parameters of a procedure
abbrev pub AreGroups : List GroupAt → Type 0
AreGroups groups = AllByRecursion (λ group. IsName group.name.name × IsValued group.ty) groups

abbrev mutual
  pub LeavesFit : Phrase → Type 0
  LeavesFit (at form line) = LeavesFitIn form

  pub LeavesFitIn : Form → Type 0
  LeavesFitIn (form.Let name variable e) = IsName name.name × LeavesFit e
  LeavesFitIn (form.Sequence items) = LeavesFitInAll items
  LeavesFitIn (form.Structure name fields) = IsName name.name × AreGroups fields
  LeavesFitIn (form.IfDo c a) = LeavesFit c × LeavesFit a
  LeavesFitIn (form.IfElse c a b) = LeavesFit c × LeavesFit a × LeavesFit b
  LeavesFitIn (form.While c a) = LeavesFit c × LeavesFit a
  LeavesFitIn (form.Repeat a c b) = LeavesFit a × LeavesFit c × LeavesFitInMaybe b
  LeavesFitIn (form.For name a b c s) = IsName name.name × LeavesFit a × LeavesFit b × LeavesFitInMaybe c × LeavesFit s
  LeavesFitIn (form.Case e arms d) = LeavesFit e × LeavesFitInArms arms × LeavesFit d
  LeavesFitIn (form.Write items) = LeavesFitInWritten items
  LeavesFitIn form.Abort = Unit {0}
  LeavesFitIn (form.Proc params gives s) = AreGroups params × IsGiven gives × LeavesFit s
  LeavesFitIn (form.Vector l u e) = LeavesFit l × LeavesFit u × LeavesFit e
  LeavesFitIn (form.Elems l t items) = IsValued t × LeavesFit l × LeavesFitInAll items
  LeavesFitIn (form.Assign x e) = LeavesFit x × LeavesFit e
  LeavesFitIn (form.Or a b) = LeavesFit a × LeavesFit b
  LeavesFitIn (form.And a b) = LeavesFit a × LeavesFit b
  LeavesFitIn (form.Not e) = LeavesFit e
  LeavesFitIn (form.Compare op a b) = LeavesFit a × LeavesFit b
  LeavesFitIn (form.Is e name negated) = LeavesFit e
  LeavesFitIn (form.Arith op a b) = LeavesFit a × LeavesFit b
  LeavesFitIn (form.Plus e) = LeavesFit e
  LeavesFitIn (form.Neg e) = LeavesFit e
  LeavesFitIn (form.Join a b) = LeavesFit a × LeavesFit b
  LeavesFitIn (form.Bound upper e) = LeavesFit e
  LeavesFitIn (form.Apply f args) = LeavesFit f × LeavesFitInAll args
  LeavesFitIn (form.Part s i n) = LeavesFit s × LeavesFit i × LeavesFit n
  LeavesFitIn (form.Name name) = Unit {0}
  LeavesFitIn (form.Int value) = is_int value ≡ true
  LeavesFitIn (form.Text bytes) = is_string bytes ≡ true
  LeavesFitIn (form.Flag value) = Unit {0}
  LeavesFitIn form.Nil = Unit {0}

  pub LeavesFitInAll : Phrases → Type 0
  LeavesFitInAll none = Unit {0}
  LeavesFitInAll (more first rest) = LeavesFit first × LeavesFitInAll rest

  pub LeavesFitInMaybe : MaybePhrase → Type 0
  LeavesFitInMaybe absent = Unit {0}
  LeavesFitInMaybe (present clause) = LeavesFit clause

  pub LeavesFitInArms : Arms → Type 0
  LeavesFitInArms no_arms = Unit {0}
  LeavesFitInArms (more_arms (arm labels a) rest) = LeavesFitInAll labels × LeavesFit a × LeavesFitInArms rest

  pub LeavesFitInWritten : WriteItems → Type 0
  LeavesFitInWritten no_items = Unit {0}
  LeavesFitInWritten (more_items (item e w line) rest) = LeavesFit e × LeavesFitInMaybe w × LeavesFitInWritten rest
