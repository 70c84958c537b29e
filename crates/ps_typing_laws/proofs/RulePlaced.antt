-- A rule is as good for a clause whose names have places: the parts are placed one after the other.
use Rattle.std.proofs.Common.{◌≡◌, true, List, [], ◌∷◌, ◌++◌, refl, sym, ap, ◌∙◌, subst}
use Rattle.ps_typing.specs.ps_base.TyView.{TyView, TyViews}
use Rattle.ps_typing.specs.ps_base.TyView as types
use Rattle.ps_typing.specs.ps_base.declared.line.Line.{Line}
use Rattle.ps_typing.specs.ps_program.Node.{Node, Nodes, none, more, Arms, no_arms, more_arms, arm}
use Rattle.ps_typing.specs.ps_program.Node as node
use Rattle.ps_typing.specs.Checking.{is_equated}
use Rattle.ps_typing.specs.Placing.{Locals, Around}
use Rattle.ps_typing.specs.Placed.{Given, gives, then_give, ◌>>=◌, placed, placed_all, placed_arms}
use Rattle.ps_typing.specs.WellTyped.{Claim, ◌has◌, all_have, arms_have, Arguments, Rule}
use Rattle.ps_typing.specs.WellTyped as rule

-- clauses one after the other
abbrev pub placed_claims : Around → Locals → List Claim → Given (List Claim)
placed_claims around l [] = gives [] l
placed_claims around l (claim ∷ rest) = gives ((placed around l claim.clause).of has claim.ty ∷
    (placed_claims around (placed around l claim.clause).locals rest).of) (placed_claims around (placed around l claim.clause).locals rest).locals

append_of : (around : Around) (l : Locals) (xs ys : List Claim) →
    (placed_claims around l (xs ++ ys)).of ≡ (placed_claims around l xs).of ++ (placed_claims around (placed_claims around l xs).locals ys).of
append_of around l [] ys = refl
append_of around l (x ∷ xs) ys = ap (λ (cs : List Claim). (placed around l x.clause).of has x.ty ∷ cs)
    (append_of around (placed around l x.clause).locals xs ys)

append_locals : (around : Around) (l : Locals) (xs ys : List Claim) →
    (placed_claims around l (xs ++ ys)).locals ≡ (placed_claims around (placed_claims around l xs).locals ys).locals
append_locals around l [] ys = refl
append_locals around l (x ∷ xs) ys = append_locals around (placed around l x.clause).locals xs ys

all_of : (around : Around) (l : Locals) (t : TyView) (ns : Nodes) → all_have t (placed_all around l ns).of ≡ (placed_claims around l (all_have t ns)).of
unfolding then_give ◌>>=◌
all_of around l t none = refl
all_of around l t (more n ns) = ap (λ (cs : List Claim). (placed around l n).of has t ∷ cs) (all_of around (placed around l n).locals t ns)

all_locals : (around : Around) (l : Locals) (t : TyView) (ns : Nodes) → (placed_all around l ns).locals ≡ (placed_claims around l (all_have t ns)).locals
unfolding then_give ◌>>=◌
all_locals around l t none = refl
all_locals around l t (more n ns) = all_locals around (placed around l n).locals t ns

args_of : (around : Around) {ns : Nodes} {tys : TyViews} {claims : List Claim} → Arguments ns tys claims → (l : Locals) →
    Arguments (placed_all around l ns).of tys (placed_claims around l claims).of
unfolding then_give ◌>>=◌
args_of around rule.no_more l = rule.no_more
args_of around (rule.one_more {n = n} args) l = rule.one_more (args_of around args (placed around l n).locals)

args_locals : (around : Around) {ns : Nodes} {tys : TyViews} {claims : List Claim} → Arguments ns tys claims → (l : Locals) →
    (placed_all around l ns).locals ≡ (placed_claims around l claims).locals
unfolding then_give ◌>>=◌
args_locals around rule.no_more l = refl
args_locals around (rule.one_more {n = n} args) l = args_locals around args (placed around l n).locals

arms_of : (around : Around) (value t : TyView) (arms : Arms) (l : Locals) →
    arms_have value t (placed_arms around l arms).of ≡ (placed_claims around l (arms_have value t arms)).of
unfolding then_give ◌>>=◌
arms_of around value t no_arms l = refl
arms_of around value t (more_arms (arm labels a) rest) l =
    let xs = all_have value labels in
    let between : Locals = (placed_all around l labels).locals in
    let claims_between : Locals = (placed_claims around l xs).locals in
    let same : between ≡ claims_between = all_locals around l value labels in
    let own : Locals = (placed around between a).locals in
    ap (λ (cs : List Claim). cs ++ ((placed around between a).of has t ∷ arms_have value t (placed_arms around own rest).of)) (all_of around l value labels)
    ∙ ap (λ (cs : List Claim). (placed_claims around l xs).of ++ ((placed around between a).of has t ∷ cs)) (arms_of around value t rest own)
    ∙ ap (λ (m : Locals). (placed_claims around l xs).of ++ (placed_claims around m (a has t ∷ arms_have value t rest)).of) same
    ∙ sym (append_of around l xs (a has t ∷ arms_have value t rest))

arms_locals : (around : Around) (value t : TyView) (arms : Arms) (l : Locals) →
    (placed_arms around l arms).locals ≡ (placed_claims around l (arms_have value t arms)).locals
unfolding then_give ◌>>=◌
arms_locals around value t no_arms l = refl
arms_locals around value t (more_arms (arm labels a) rest) l =
    let xs = all_have value labels in
    let between : Locals = (placed_all around l labels).locals in
    let same : between ≡ (placed_claims around l xs).locals = all_locals around l value labels in
    arms_locals around value t rest (placed around between a).locals
    ∙ ap (λ (m : Locals). (placed_claims around m (a has t ∷ arms_have value t rest)).locals) same
    ∙ sym (append_locals around l xs (a has t ∷ arms_have value t rest))

pub record RulePlaced (around : Around) (l : Locals) (clause : Node) (claims : List Claim) (ty : TyView) : Type 0 where
  pub of_placed : Rule (placed around l clause).of (placed_claims around l claims).of ty
  pub locals : (placed around l clause).locals ≡ (placed_claims around l claims).locals

case_placed : (around : Around) (l : Locals) (e d : Node) (arms : Arms) (value t : TyView) → is_equated value ≡ true →
    RulePlaced around l (node.Case e arms d value) (e has value ∷ (arms_have value t arms ++ d has t ∷ [])) t
unfolding then_give ◌>>=◌
case_placed around l e d arms value t is =
    let e' : Node = (placed around l e).of in
    let first : Locals = (placed around l e).locals in
    let between : Locals = (placed_arms around first arms).locals in
    let d' : Node = (placed around between d).of in
    let arms' : Arms = (placed_arms around first arms).of in
    let xs = arms_have value t arms in
    let same : between ≡ (placed_claims around first xs).locals = arms_locals around value t arms first in
    let claims : arms_have value t arms' ++ (d' has t ∷ []) ≡ (placed_claims around first (xs ++ d has t ∷ [])).of =
    ap (λ (cs : List Claim). cs ++ (d' has t ∷ [])) (arms_of around value t arms first)
    ∙ ap (λ (m : Locals). (placed_claims around first xs).of ++ (placed_claims around m (d has t ∷ [])).of) same
    ∙ sym (append_of around first xs (d has t ∷ [])) in
    record {
      of_placed = subst (λ (cs : List Claim). Rule (node.Case e' arms' d' value) (e' has value ∷ cs) t) claims (rule.case is);
      locals = ap (λ (m : Locals). (placed_claims around m (d has t ∷ [])).locals) same ∙ sym (append_locals around first xs (d has t ∷ []));
    }

elems_placed : (around : Around) (l : Locals) (n : Node) (items : Nodes) (t : TyView) (line : Line) →
    RulePlaced around l (node.Elems n items (types.Vector t) line) (n has types.Int ∷ all_have t items) (types.Vector t)
unfolding then_give ◌>>=◌
elems_placed around l n items t line =
    let n' : Node = (placed around l n).of in
    let first : Locals = (placed around l n).locals in
    record {
      of_placed = subst (λ (cs : List Claim). Rule (node.Elems n' (placed_all around first items).of (types.Vector t) line) (n' has types.Int ∷ cs)
          (types.Vector t)) (all_of around first t items) rule.elems;
      locals = all_locals around first t items;
    }

pub rule_placed : (around : Around) (l : Locals) {clause : Node} {claims : List Claim} {ty : TyView} → Rule clause claims ty →
    RulePlaced around l clause claims ty
unfolding then_give ◌>>=◌
rule_placed around l rule.int = record { of_placed = rule.int; locals = refl }
rule_placed around l rule.flag = record { of_placed = rule.flag; locals = refl }
rule_placed around l rule.text = record { of_placed = rule.text; locals = refl }
rule_placed around l rule.nil = record { of_placed = rule.nil; locals = refl }
rule_placed around l rule.class = record { of_placed = rule.class; locals = refl }
rule_placed around l rule.empty = record { of_placed = rule.empty; locals = refl }
rule_placed around l rule.abort = record { of_placed = rule.abort; locals = refl }
rule_placed around l rule.if_do = record { of_placed = rule.if_do; locals = refl }
rule_placed around l rule.if_else = record { of_placed = rule.if_else; locals = refl }
rule_placed around l rule.while = record { of_placed = rule.while; locals = refl }
rule_placed around l rule.repeat = record { of_placed = rule.repeat; locals = refl }
rule_placed around l (rule.case {e = e} {d = d} {arms = arms} {value = value} {t = t} is) = case_placed around l e d arms value t is
rule_placed around l rule.and = record { of_placed = rule.and; locals = refl }
rule_placed around l rule.or = record { of_placed = rule.or; locals = refl }
rule_placed around l rule.not = record { of_placed = rule.not; locals = refl }
rule_placed around l rule.neg = record { of_placed = rule.neg; locals = refl }
rule_placed around l rule.plus = record { of_placed = rule.plus; locals = refl }
rule_placed around l rule.arith = record { of_placed = rule.arith; locals = refl }
rule_placed around l (rule.compare is) = record { of_placed = rule.compare is; locals = refl }
rule_placed around l (rule.is class) = record { of_placed = rule.is class; locals = refl }
rule_placed around l rule.join = record { of_placed = rule.join; locals = refl }
rule_placed around l rule.part = record { of_placed = rule.part; locals = refl }
rule_placed around l (rule.make class args) = record { of_placed = rule.make class (args_of around args l); locals = args_locals around args l }
rule_placed around l (rule.field is) = record { of_placed = rule.field is; locals = refl }
rule_placed around l (rule.set_field is) = record { of_placed = rule.set_field is; locals = refl }
rule_placed around l (rule.fill is) = record { of_placed = rule.fill is; locals = refl }
rule_placed around l (rule.elems {l = n} {items = items} {t = t} {line = line}) = elems_placed around l n items t line
rule_placed around l rule.element = record { of_placed = rule.element; locals = refl }
rule_placed around l rule.set_element = record { of_placed = rule.set_element; locals = refl }
rule_placed around l rule.bound = record { of_placed = rule.bound; locals = refl }
rule_placed around l (rule.call args) = record { of_placed = rule.call (args_of around args _); locals = args_locals around args _ }
rule_placed around l (rule.lib known args) = record { of_placed = rule.lib known (args_of around args l); locals = args_locals around args l }
rule_placed around l (rule.write is) = record { of_placed = rule.write is; locals = refl }
rule_placed around l (rule.write_wide is) = record { of_placed = rule.write_wide is; locals = refl }
