-- The type that the generator takes for what a clause gives is the clause's.
use Rattle.std.proofs.Common.{◌≡◌, ℕ, refl, ap, ◌∙◌}
use Rattle.ps_gen.specs.ps_base.TyView.{TyView}
use Rattle.ps_gen.specs.ps_program.Node.{Node, Nodes, BodyNode}
use Rattle.ps_gen.specs.ps_emitter.Giving.{result_of, type_of, type_of_last}
use Rattle.ps_code_laws.proofs.Clauses.{Clause, Items}
use Rattle.ps_code_laws.proofs.Clauses as clause
use Rattle.fit_soundness.proofs.Standings.{Standing}

mutual
  pub type_is : {P : BodyNode → Type 0} {nums refs : ℕ} {known : Standing} {t : Node} {ty : TyView} → Clause P nums refs known t ty → type_of t ≡ ty
  type_is clause.int = refl
  type_is clause.flag = refl
  type_is clause.text = refl
  type_is (clause.get_num is below) = refl
  type_is (clause.get_ref is below) = refl
  type_is (clause.block h) = items_type h
  type_is (clause.scoped_block its are h) = items_type h
  type_is (clause.if_else c a b) = type_in b
  type_is (clause.case by e arms d) = type_in d
  type_is (clause.and a b) = refl
  type_is (clause.or a b) = refl
  type_is (clause.not e) = refl
  type_is (clause.neg e) = refl
  type_is (clause.plus e) = refl
  type_is (clause.arith a b) = refl
  type_is (clause.compare by a b) = refl
  type_is clause.nil = refl
  type_is (clause.is_of e) = refl
  type_is (clause.join a b) = refl
  type_is (clause.substring a i n) = refl
  type_is (clause.structure named is args) = refl
  type_is (clause.get_field has kind e) = refl
  type_is (clause.filled kind l u e) = refl
  type_is (clause.listed kind l items) = refl
  type_is (clause.get_element kind v i) = refl
  type_is (clause.a_bound v) = refl
  type_is (clause.library is args) = is.result
  type_is (clause.get_kept_num is there) = refl
  type_is (clause.get_kept_ref is there) = refl
  type_is clause.literal = refl
  type_is (clause.call f args) = ap result_of (type_in f)
  type_is other = refl

  pub type_in : {P : BodyNode → Type 0} {nums refs : ℕ} {known : Standing} {t : Node} {ty : TyView} → clause.Part P nums refs known t ty → type_of t ≡ ty
  type_in (clause.that h sounds fit) = type_is h

  items_type : {P : BodyNode → Type 0} {nums refs : ℕ} {known : Standing} {before ty : TyView} {ts : Nodes} → Items P nums refs known before ts ty → type_of_last before ts ≡ ty
  items_type clause.at_end = refl
  items_type (clause.an_item {rest = rest} first sounds fit others) = ap (λ (t : TyView). type_of_last t rest) (type_is first) ∙ items_type others
