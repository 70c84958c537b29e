-- Trees in which each `let` is an item of a sequence, as in each tree of the grammar. Only there does a block know its names.
use Rattle.std.specs.Prelude.{◌≡◌, Bool, true, false}
use Rattle.ps_tree.specs.Phrase.{Phrase, at, Form, Phrases, none, more, MaybePhrase, absent, present, Arm, arm, Arms, no_arms, more_arms, WriteItem, item, WriteItems, no_items, more_items}
use Rattle.ps_tree.specs.Phrase as form

abbrev mutual
  -- a clause, which is itself a `let` at most where it is an item
  pub LetsStand : (is_item : Bool) → Phrase → Type 0
  LetsStand is_item (at form line) = LetsStandIn is_item form

  pub LetsStandIn : (is_item : Bool) → Form → Type 0
  LetsStandIn is_item (form.Let name variable e) = (is_item ≡ true) × LetsStand false e
  LetsStandIn is_item (form.Sequence items) = LetsStandInAll true items
  LetsStandIn is_item (form.Structure name fields) = Unit {0}
  LetsStandIn is_item (form.IfDo c a) = LetsStand false c × LetsStand false a
  LetsStandIn is_item (form.IfElse c a b) = LetsStand false c × LetsStand false a × LetsStand false b
  LetsStandIn is_item (form.While c a) = LetsStand false c × LetsStand false a
  LetsStandIn is_item (form.Repeat a c b) = LetsStand false a × LetsStand false c × LetsStandInMaybe b
  LetsStandIn is_item (form.For name a b c s) = LetsStand false a × LetsStand false b × LetsStandInMaybe c × LetsStand false s
  LetsStandIn is_item (form.Case e arms d) = LetsStand false e × LetsStandInArms arms × LetsStand false d
  LetsStandIn is_item (form.Write items) = LetsStandInWritten items
  LetsStandIn is_item form.Abort = Unit {0}
  LetsStandIn is_item (form.Proc params gives s) = LetsStand false s
  LetsStandIn is_item (form.Vector l u e) = LetsStand false l × LetsStand false u × LetsStand false e
  LetsStandIn is_item (form.Elems l t items) = LetsStand false l × LetsStandInAll false items
  LetsStandIn is_item (form.Assign x e) = LetsStand false x × LetsStand false e
  LetsStandIn is_item (form.Or a b) = LetsStand false a × LetsStand false b
  LetsStandIn is_item (form.And a b) = LetsStand false a × LetsStand false b
  LetsStandIn is_item (form.Not e) = LetsStand false e
  LetsStandIn is_item (form.Compare op a b) = LetsStand false a × LetsStand false b
  LetsStandIn is_item (form.Is e name negated) = LetsStand false e
  LetsStandIn is_item (form.Arith op a b) = LetsStand false a × LetsStand false b
  LetsStandIn is_item (form.Plus e) = LetsStand false e
  LetsStandIn is_item (form.Neg e) = LetsStand false e
  LetsStandIn is_item (form.Join a b) = LetsStand false a × LetsStand false b
  LetsStandIn is_item (form.Bound upper e) = LetsStand false e
  LetsStandIn is_item (form.Apply f args) = LetsStand false f × LetsStandInAll false args
  LetsStandIn is_item (form.Part s i n) = LetsStand false s × LetsStand false i × LetsStand false n
  LetsStandIn is_item (form.Name name) = Unit {0}
  LetsStandIn is_item (form.Int value) = Unit {0}
  LetsStandIn is_item (form.Text bytes) = Unit {0}
  LetsStandIn is_item (form.Flag value) = Unit {0}
  LetsStandIn is_item form.Nil = Unit {0}

  pub LetsStandInAll : (are_items : Bool) → Phrases → Type 0
  LetsStandInAll are_items none = Unit {0}
  LetsStandInAll are_items (more first rest) = LetsStand are_items first × LetsStandInAll are_items rest

  pub LetsStandInMaybe : MaybePhrase → Type 0
  LetsStandInMaybe absent = Unit {0}
  LetsStandInMaybe (present clause) = LetsStand false clause

  pub LetsStandInArms : Arms → Type 0
  LetsStandInArms no_arms = Unit {0}
  LetsStandInArms (more_arms (arm labels a) rest) = LetsStandInAll false labels × LetsStand false a × LetsStandInArms rest

  pub LetsStandInWritten : WriteItems → Type 0
  LetsStandInWritten no_items = Unit {0}
  LetsStandInWritten (more_items (item e w line) rest) = LetsStand false e × LetsStandInMaybe w × LetsStandInWritten rest

-- the tree of a program
abbrev pub LetsAreItems : Phrase → Type 0
LetsAreItems program = LetsStand false program
