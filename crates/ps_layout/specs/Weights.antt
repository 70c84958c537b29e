-- How much of a text is still to be printed: more than all that it is made of.
use Rattle.std.specs.Prelude.{ℕ, ◌+◌, List, [], ◌∷◌}
use Rattle.ps_base.specs.TyView.{TyView, TyViews}
use Rattle.ps_base.specs.TyView as ty
use Rattle.ps_tree.specs.Phrase.{Phrase, at, Form, Phrases, none, more, MaybePhrase, absent, present, Arm, arm, Arms, no_arms, more_arms, WriteItem, item, WriteItems, no_items, more_items, GroupAt}
use Rattle.ps_tree.specs.Phrase as form

abbrev mutual
  pub weight_ty : TyView → ℕ
  weight_ty ty.Int = 2
  weight_ty ty.Bool = 2
  weight_ty ty.Str = 2
  weight_ty ty.Pntr = 2
  weight_ty ty.Void = 2
  weight_ty (ty.Vector element) = weight_ty element + 2
  weight_ty (ty.Proc parameters gives) = weight_tys parameters + weight_ty gives + 8

  pub weight_tys : TyViews → ℕ
  weight_tys ty.none = 1
  weight_tys (ty.more first rest) = weight_ty first + weight_tys rest + 2

abbrev pub weight_group : GroupAt → ℕ
weight_group group = weight_ty group.ty + 2

abbrev pub weight_groups : List GroupAt → ℕ
weight_groups [] = 1
weight_groups (group ∷ groups) = weight_group group + weight_groups groups + 2

abbrev pub weight_heading : List GroupAt → TyView → ℕ
weight_heading params gives = weight_groups params + weight_ty gives + 8

abbrev mutual
  pub weight : Phrase → ℕ
  weight (at form line) = weight_form form + 3

  pub weight_form : Form → ℕ
  weight_form (form.Sequence items) = weight_all items + 8
  weight_form (form.Let name variable e) = weight e + 8
  weight_form (form.Structure name fields) = weight_groups fields + 8
  weight_form (form.IfDo c a) = weight c + weight a + 8
  weight_form (form.IfElse c a b) = weight c + weight a + weight b + 8
  weight_form (form.While c a) = weight c + weight a + 8
  weight_form (form.Repeat a c b) = weight a + weight c + weight_maybe b + 8
  weight_form (form.For name a b c s) = weight a + weight b + weight_maybe c + weight s + 8
  weight_form (form.Case e arms d) = weight e + weight_arms arms + weight d + 8
  weight_form (form.Write items) = weight_items items + 8
  weight_form form.Abort = 8
  weight_form (form.Proc params gives s) = weight_heading params gives + weight s + 8
  weight_form (form.Vector l u e) = weight l + weight u + weight e + 8
  weight_form (form.Assign x e) = weight x + weight e + 8
  weight_form (form.Or a b) = weight a + weight b + 8
  weight_form (form.And a b) = weight a + weight b + 8
  weight_form (form.Not e) = weight e + 8
  weight_form (form.Compare op a b) = weight a + weight b + 8
  weight_form (form.Is e class negated) = weight e + 8
  weight_form (form.Join a b) = weight a + weight b + 8
  weight_form (form.Arith op a b) = weight a + weight b + 8
  weight_form (form.Plus e) = weight e + 8
  weight_form (form.Neg e) = weight e + 8
  weight_form (form.Apply f args) = weight f + weight_all args + 8
  weight_form (form.Part s i n) = weight s + weight i + weight n + 8
  weight_form (form.Name name) = 8
  weight_form (form.Int value) = 8
  weight_form (form.Text bytes) = 8
  weight_form (form.Flag value) = 8
  weight_form form.Nil = 8
  weight_form (form.Bound upper e) = weight e + 8
  weight_form (form.Elems l t items) = weight l + weight_ty t + weight_all items + 8

  pub weight_all : Phrases → ℕ
  weight_all none = 1
  weight_all (more first rest) = weight first + weight_all rest + 2

  pub weight_maybe : MaybePhrase → ℕ
  weight_maybe absent = 0
  weight_maybe (present clause) = weight clause + 2

  pub weight_arms : Arms → ℕ
  weight_arms no_arms = 1
  weight_arms (more_arms first rest) = weight_arm first + weight_arms rest + 2

  pub weight_arm : Arm → ℕ
  weight_arm (arm labels a) = weight_all labels + weight a + 4

  pub weight_items : WriteItems → ℕ
  weight_items no_items = 1
  weight_items (more_items first rest) = weight_item first + weight_items rest + 2

  pub weight_item : WriteItem → ℕ
  weight_item (item e w line) = weight e + weight_maybe w + 4
