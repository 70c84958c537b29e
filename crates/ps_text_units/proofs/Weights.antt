-- What the parts of a tree weigh: each clause at least one, and a number of more than 32 bits more than any text.
use Rattle.std.proofs.Common.{◌≡◌, ℕ, ℤ, pos, negsuc, ◌+◌, ◌<◌, true, List, [], ◌∷◌, refl, arith}
use Rattle.std.specs.Prelude.{◌^◌, if◌then◌else◌, nat_lt, FitsSigned}
use Rattle.std.specs.Int.{w32}
use Rattle.std.proofs.lemmas.Bool.Decides.{nat_tests}
use Rattle.ps_leaf_laws.specs.ps_tree.Phrase.{Phrase, at, Form, Phrases, none, more, MaybePhrase, absent, present, Arm, arm, Arms, no_arms, more_arms, WriteItem, item, WriteItems, no_items, more_items}
use Rattle.ps_leaf_laws.specs.ps_tree.Phrase as form
use Rattle.ps_unit_laws.specs.ps_program.declared.place.Place.{Place}
use Rattle.ps_unit_laws.specs.ps_program.declared.place.Place.TheVariants.{Plain, Kept}
use Rattle.ps_unit_laws.specs.ps_program.Node.{Param, Node, Nodes, BodyNode, body}
use Rattle.ps_unit_laws.specs.ps_program.Node as node
use Rattle.ps_leaf_laws.specs.ps_heap.Operators.{is_int}
use Rattle.ps_leaf_laws.specs.ps_reader.Grammar.{line_in}

-- nothing where the number has 32 bits
unfoldable pub over : ℕ → ℕ
over n = if nat_lt n (2 ^ 32) then 0 else 2 ^ 32

unfoldable pub over_int : ℤ → ℕ
over_int v = if is_int v then 0 else 2 ^ 32

pub over_small : (n : ℕ) → n < 2 ^ 32 → over n ≡ 0
unfolding over
over_small n h = grind (arith, nat_tests)

pub small_over : (n : ℕ) → over n < 2 ^ 32 → n < 2 ^ 32
unfolding over
small_over n h = grind (arith, nat_tests)

pub int_small : (v : ℤ) → is_int v ≡ true → over_int v ≡ 0
unfolding over_int
int_small v h = grind arith

pub one_small : over_int (pos 1) ≡ 0
unfolding over_int
one_small = refl

pub small_int : (v : ℤ) → over_int v < 2 ^ 32 → FitsSigned w32 v
unfolding over_int
small_int (pos n) h = grind (arith, nat_tests)
small_int (negsuc n) h = grind (arith, nat_tests)

-- Phrases.
abbrev mutual
  pub weigh : Phrase → ℕ
  weigh (at form line) = 1 + over line.0 + weigh_form form

  pub weigh_form : Form → ℕ
  weigh_form (form.Sequence items) = weigh_all items
  weigh_form (form.Let name variable e) = weigh e
  weigh_form (form.Structure name fields) = 0
  weigh_form (form.IfDo c a) = weigh c + weigh a
  weigh_form (form.IfElse c a b) = weigh c + weigh a + weigh b
  weigh_form (form.While c a) = weigh c + weigh a
  weigh_form (form.Repeat a c b) = weigh a + weigh c + weigh_maybe b
  weigh_form (form.For name a b c s) = weigh a + weigh b + weigh_maybe c + weigh s
  weigh_form (form.Case e arms d) = weigh e + weigh_arms arms + weigh d
  weigh_form (form.Write items) = weigh_written items
  weigh_form form.Abort = 0
  weigh_form (form.Proc params gives s) = 64 + weigh s
  weigh_form (form.Vector l u e) = weigh l + weigh u + weigh e
  weigh_form (form.Assign x e) = weigh x + weigh e
  weigh_form (form.Or a b) = weigh a + weigh b
  weigh_form (form.And a b) = weigh a + weigh b
  weigh_form (form.Not e) = weigh e
  weigh_form (form.Compare op a b) = weigh a + weigh b
  weigh_form (form.Is e class negated) = 1 + weigh e
  weigh_form (form.Join a b) = weigh a + weigh b
  weigh_form (form.Arith op a b) = weigh a + weigh b
  weigh_form (form.Plus e) = weigh e
  weigh_form (form.Neg e) = weigh e
  weigh_form (form.Apply f args) = weigh f + weigh_all args
  weigh_form (form.Part s i n) = weigh s + weigh i + weigh n
  weigh_form (form.Name name) = 0
  weigh_form (form.Int value) = over_int value
  weigh_form (form.Text bytes) = 0
  weigh_form (form.Flag value) = 0
  weigh_form form.Nil = 0
  weigh_form (form.Bound upper e) = weigh e
  weigh_form (form.Elems l ty items) = weigh l + weigh_all items

  pub weigh_all : Phrases → ℕ
  weigh_all none = 0
  weigh_all (more first rest) = 1 + weigh first + weigh_all rest

  pub weigh_maybe : MaybePhrase → ℕ
  weigh_maybe absent = 1
  weigh_maybe (present e) = weigh e

  pub weigh_arms : Arms → ℕ
  weigh_arms no_arms = 0
  weigh_arms (more_arms (arm labels a) rest) = weigh_all labels + weigh a + weigh_arms rest

  pub weigh_item : WriteItem → ℕ
  weigh_item (item e w line) = 1 + over line.0 + weigh e + weigh_maybe w

  pub weigh_written : WriteItems → ℕ
  weigh_written no_items = 0
  weigh_written (more_items first rest) = weigh_item first + weigh_written rest

-- of a clause whose line may be that of an item too
abbrev pub top : Phrase → ℕ
top p = over (line_in p).0 + weigh p

-- Typed clauses, with the literals in them.
abbrev pub over_place : Place → ℕ
over_place (Plain slot) = 0
over_place (Kept up position) = over up + over position

abbrev pub mass_params : List Param → ℕ
mass_params [] = 0
mass_params (param ∷ rest) = 1 + over_place param.place + mass_params rest

abbrev mutual
  pub mass : Node → ℕ
  mass (node.Int v) = 1 + over_int v
  mass (node.Flag b) = 1
  mass (node.Text bytes) = 1
  mass node.Nil = 1
  mass (node.Name place ty) = 1 + over_place place
  mass (node.SetName place ty e) = 1 + over_place place + mass e
  mass (node.Let place ty e) = 1 + over_place place + mass e
  mass node.Class = 1
  mass node.Empty = 1
  mass (node.Block scope items) = 1 + mass_all items
  mass (node.IfDo c a) = 1 + mass c + mass a
  mass (node.IfElse c a b) = 1 + mass c + mass a + mass b
  mass (node.While c a) = 1 + mass c + mass a
  mass (node.Repeat a c b) = 1 + mass a + mass c + mass b
  mass (node.For slot a b c scope control s line) = 1 + over_place control + over line.0 + mass a + mass b + mass c + mass s
  mass (node.Case e arms d ty) = 1 + mass e + mass_arms arms + mass d
  mass (node.And a b) = 1 + mass a + mass b
  mass (node.Or a b) = 1 + mass a + mass b
  mass (node.Not e) = 1 + mass e
  mass (node.Neg e line) = 1 + over line.0 + mass e
  mass (node.Plus e) = 1 + mass e
  mass (node.Arith op a b line) = 1 + over line.0 + mass a + mass b
  mass (node.Compare op ty a b) = 1 + mass a + mass b
  mass (node.Is e class) = 1 + mass e
  mass (node.Join a b line) = 1 + over line.0 + mass a + mass b
  mass (node.Part a i n line) = 1 + over line.0 + mass a + mass i + mass n
  mass (node.Make class args) = 1 + mass_all args
  mass (node.Field e class index ty line) = 1 + over index + over line.0 + mass e
  mass (node.SetField p class index ty e line) = 1 + over index + over line.0 + mass p + mass e
  mass (node.Fill l u e ty line) = 1 + over line.0 + mass l + mass u + mass e
  mass (node.Elems l items ty line) = 1 + over line.0 + mass l + mass_all items
  mass (node.Element v i ty line) = 1 + over line.0 + mass v + mass i
  mass (node.SetElement v i e ty line) = 1 + over line.0 + mass v + mass i + mass e
  mass (node.Bound v upper) = 1 + mass v
  mass (node.Proc of) = 1 + mass_body of
  mass (node.Call f args line) = 1 + over line.0 + mass f + mass_all args
  mass (node.Lib code args line) = 1 + over code + over line.0 + mass_all args
  mass (node.Scan text a f q s line) = 1 + over line.0 + mass a + mass f
  mass (node.Write e w wide ty line) = 1 + over line.0 + mass e + mass w
  mass (node.Abort line) = 1 + over line.0

  pub mass_all : Nodes → ℕ
  mass_all node.none = 0
  mass_all (node.more first rest) = mass first + mass_all rest

  pub mass_arms : node.Arms → ℕ
  mass_arms node.no_arms = 0
  mass_arms (node.more_arms (node.arm labels a) rest) = mass_all labels + mass a + mass_arms rest

  pub mass_body : BodyNode → ℕ
  mass_body (body params gives tree scope line) = mass_params params + mass tree
