-- How many clauses a clause has: the measure of what goes over clauses.
use Rattle.std.specs.Prelude.{ℕ, ◌+◌, List, [], ◌∷◌}
use Rattle.ps_tree.specs.Phrase.{Phrase, at, Form, Phrases, none, more, MaybePhrase, absent, present, Arm, arm, Arms, no_arms, more_arms, WriteItem, item, WriteItems, no_items, more_items, phrase_of}
use Rattle.ps_tree.specs.Phrase as form
use Rattle.ps_tree.specs.PhraseLists.{phrases_in}
use Rattle.ps_checked.specs.declared.link.Link.{Link}
use Rattle.ps_checked.specs.declared.link.Link.TheVariants as link

abbrev mutual
  pub weight : Phrase → ℕ
  weight (at form line) = weight_form form + 1

  pub weight_form : Form → ℕ
  weight_form (form.Let name variable e) = weight e
  weight_form (form.Structure name fields) = 0
  weight_form (form.Name name) = 0
  weight_form form.Nil = 0
  weight_form (form.Int value) = 0
  weight_form (form.Text bytes) = 0
  weight_form (form.Flag value) = 0
  weight_form (form.IfDo c a) = weight c + weight a
  weight_form (form.While c a) = weight c + weight a
  weight_form (form.Repeat a c b) = weight a + weight c + weight_if_any b
  weight_form (form.IfElse c a b) = weight c + weight a + weight b
  weight_form (form.For name a b c s) = weight a + weight b + weight_if_any c + weight s
  weight_form (form.Case e arms d) = weight e + weight_arms arms + weight d
  weight_form (form.Write items) = weight_written items
  weight_form form.Abort = 0
  weight_form (form.Proc params gives s) = weight s
  weight_form (form.Vector l u e) = weight l + weight u + weight e
  weight_form (form.Elems l t items) = weight l + weight_all items
  weight_form (form.Assign x e) = weight x + weight e
  weight_form (form.Or a b) = weight a + weight b
  weight_form (form.And a b) = weight a + weight b
  weight_form (form.Not e) = weight e
  weight_form (form.Compare op a b) = weight a + weight b
  weight_form (form.Is e class negated) = weight e
  weight_form (form.Arith op a b) = weight a + weight b
  weight_form (form.Plus e) = weight e
  weight_form (form.Neg e) = weight e
  weight_form (form.Join a b) = weight a + weight b
  weight_form (form.Bound upper e) = weight e
  weight_form (form.Apply f args) = weight f + weight_all args
  weight_form (form.Part s i n) = weight s + weight i + weight n
  weight_form (form.Sequence items) = weight_all items

  pub weight_all : Phrases → ℕ
  weight_all none = 0
  weight_all (more first rest) = weight first + weight_all rest

  pub weight_if_any : MaybePhrase → ℕ
  weight_if_any absent = 0
  weight_if_any (present e) = weight e

  pub weight_arms : Arms → ℕ
  weight_arms no_arms = 0
  weight_arms (more_arms first rest) = weight_arm first + weight_arms rest

  pub weight_arm : Arm → ℕ
  weight_arm (arm labels a) = weight_all labels + weight a

  pub weight_written : WriteItems → ℕ
  weight_written no_items = 0
  weight_written (more_items first rest) = weight_item first + weight_written rest

  pub weight_item : WriteItem → ℕ
  weight_item (item e w line) = weight e + weight_if_any w

-- what comes after the left operand of a link
abbrev pub weight_link : Link → ℕ
weight_link (link.Operator kind left_line right) = weight (phrase_of right.now)
weight_link (link.Apply line args) = weight_all (phrases_in args.now)
weight_link (link.Part line left_line i n) = weight (phrase_of i.now) + weight (phrase_of n.now)

abbrev pub weight_links : List Link → ℕ
weight_links [] = 0
weight_links (link ∷ links) = weight_link link + weight_links links
