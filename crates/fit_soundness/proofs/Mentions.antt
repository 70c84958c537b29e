-- What a fit clause mentions of the scopes outside its body is declared there.
use Rattle.std.proofs.Common.{inl, inr, ◌⊎◌, ◌≡◌, ℕ, ◌+◌, Bool, true, false, List, [], ◌∷◌, ◌++◌, map, length, refl, sym, ap, ◌∙◌, subst, arith, Option, Some, None}
use Rattle.std.specs.Prelude.{◌||◌, ◌&&◌, nat_eq}
use Rattle.std.proofs.Common.{eqb-true}
use Rattle.ps_heap.specs.ps_base.TyView.{TyView}
use Rattle.ps_heap.specs.ps_base.declared.line.Line.{Line}
use Rattle.ps_typing_laws.proofs.Tracked.{evaluated, clauses_of, item_nodes, parts_named}
use Rattle.ps_typing.proofs.of_ps_program.PartLemmas.{fold_parts}
use Rattle.ps_soundness.specs.ps_program.inside.Listed.{parts_of, parts_all, parts_arms, part_as}
use Rattle.ps_soundness.specs.ps_program.declared.place.Place.{Place}
use Rattle.ps_soundness.specs.ps_program.declared.place.Place.TheVariants.{Plain, Kept}
use Rattle.ps_soundness.specs.ps_program.Node.{Param, Node, Nodes, none, more, Arms, no_arms, more_arms, arm, BodyNode, body}
use Rattle.ps_soundness.specs.ps_program.Node as node
use Rattle.ps_soundness.specs.ps_program.Parts.{Part, operand, label, branch, literal}
use Rattle.ps_soundness.specs.ps_typing.WellTyped.{At, Claim, Rule}
use Rattle.ps_soundness.specs.ps_typing.WellTyped as typed
use Rattle.heap_fit.specs.Slots.{is_at, own_mention, one_scope, some_asked, parts_asked, clause_mentions, mentions}
use Rattle.heap_fit.specs.Bodies.{Level, InScope, HasDeclared, IsNameAt, with_levels, Declares, Opens, Takes, IsFit, AreFit, AreItems, IsFitBody}
use Rattle.heap_fit.specs.Bodies as fit
use Rattle.heap_fit.proofs.InOrder.{items_are}

or_true : (a b : Bool) → (a || b) ≡ true → (a ≡ true) ⊎ (b ≡ true)
or_true true b e = inl refl
or_true false b e = inr e

pub said_first : (a b : Bool) → a ≡ true → (a || b) ≡ true
said_first true b e = refl
said_first false b e = absurd cc

pub said_next : (a b : Bool) → b ≡ true → (a || b) ≡ true
said_next true b e = refl
said_next false b e = e

pub three_said : (a b c d : Bool) → (a || (b || (c || false))) ≡ true → (a || (b || (c || d))) ≡ true
three_said true b c d e = refl
three_said false true c d e = refl
three_said false false true d e = refl
three_said false false false d e = absurd cc

-- some of these clauses mention the name, inside so many scopes of the body
abbrev pub said : ℕ → ℕ → List Node → ℕ → Bool
said out position [] inside = false
said out position (t ∷ ts) inside = clause_mentions out position t inside || said out position ts inside

abbrev literal_parts : List (Part Node) → List Node
literal_parts [] = []
literal_parts (operand c ∷ rest) = literal_parts rest
literal_parts (label c ∷ rest) = literal_parts rest
literal_parts (branch c ∷ rest) = literal_parts rest
literal_parts (literal c ∷ rest) = c ∷ literal_parts rest

asked_are : (out position inside : ℕ) (parts : List (Part Node)) → literal_parts parts ≡ [] →
    some_asked (map (part_as (clause_mentions out position)) parts) inside ≡ said out position (evaluated parts) inside
asked_are out position inside [] e = refl
asked_are out position inside (operand c ∷ rest) e = ap (λ b. clause_mentions out position c inside || b) (asked_are out position inside rest e)
asked_are out position inside (label c ∷ rest) e = ap (λ b. clause_mentions out position c inside || b) (asked_are out position inside rest e)
asked_are out position inside (branch c ∷ rest) e = ap (λ b. clause_mentions out position c inside || b) (asked_are out position inside rest e)
asked_are out position inside (literal c ∷ rest) e = absurd cc

-- a clause mentions the name by itself, or in its parts
mention_is : (out position inside : ℕ) (t : Node) → clause_mentions out position t inside
    ≡ (own_mention (inside + out) position t || parts_asked t (map (part_as (clause_mentions out position)) (parts_of t)) inside)
mention_is out position inside t =
    ap (λ (f : ℕ → Bool). f inside) (fold_parts (λ clause parts inside. own_mention (inside + out) position clause || parts_asked clause parts inside) t)

operands_alone : (items : Nodes) → literal_parts (parts_all operand items) ≡ []
operands_alone none = refl
operands_alone (more first rest) = operands_alone rest

branches_alone : (items : Nodes) → literal_parts (parts_all branch items) ≡ []
branches_alone none = refl
branches_alone (more first rest) = branches_alone rest

both_alone : (xs ys : List (Part Node)) → literal_parts xs ≡ [] → literal_parts ys ≡ [] → literal_parts (xs ++ ys) ≡ []
both_alone [] ys h k = k
both_alone (operand c ∷ xs) ys h k = both_alone xs ys h k
both_alone (label c ∷ xs) ys h k = both_alone xs ys h k
both_alone (branch c ∷ xs) ys h k = both_alone xs ys h k
both_alone (literal c ∷ xs) ys h k = absurd cc

labels_alone : (items : Nodes) → literal_parts (parts_all label items) ≡ []
labels_alone none = refl
labels_alone (more first rest) = labels_alone rest

arms_alone : (arms : Arms) → literal_parts (parts_arms arms) ≡ []
arms_alone no_arms = refl
arms_alone (more_arms (arm labels a) rest) = both_alone (parts_all label labels) (branch a ∷ parts_arms rest) (labels_alone labels) (arms_alone rest)

rule_alone : {t : Node} {claims : List Claim} {ty : TyView} → Rule t claims ty → literal_parts (parts_of t) ≡ []
rule_alone (typed.make {args = args} class are) = operands_alone args
rule_alone (typed.call {args = args} are) = operands_alone args
rule_alone (typed.lib {args = args} known are) = operands_alone args
rule_alone (typed.elems {items = items}) = operands_alone items
rule_alone (typed.case {d = d} {arms = arms} is) = both_alone (parts_arms arms) (branch d ∷ []) (arms_alone arms) refl
rule_alone other = refl

-- a clause with a rule says nothing by itself, and has no scope
rule_quiet : {t : Node} {claims : List Claim} {ty : TyView} → Rule t claims ty → (up position : ℕ) → own_mention up position t ≡ false
rule_quiet typed.int up position = refl
rule_quiet other up position = refl

rule_asks : {t : Node} {claims : List Claim} {ty : TyView} → Rule t claims ty → (parts : List (Part (ℕ → Bool))) (inside : ℕ) → parts_asked t parts inside ≡ some_asked parts (inside + 0)
rule_asks typed.int parts inside = refl
rule_asks other parts inside = refl

pub rule_said : {t : Node} {claims : List Claim} {ty : TyView} → Rule t claims ty → (out position inside : ℕ) →
    clause_mentions out position t inside ≡ said out position (clauses_of claims) inside
rule_said {t = t} r out position inside =
    mention_is out position inside t
    ∙ ap (λ b. b || parts_asked t (map (part_as (clause_mentions out position)) (parts_of t)) inside) (rule_quiet r (inside + out) position)
    ∙ rule_asks r (map (part_as (clause_mentions out position)) (parts_of t)) inside
    ∙ ap (some_asked (map (part_as (clause_mentions out position)) (parts_of t))) (omega arith)
    ∙ asked_are out position inside (parts_of t) (rule_alone r) ∙ ap (λ ts. said out position ts inside) (parts_named r).0

pub block_said : (scope : Option (List ℕ)) (items : Nodes) (out position inside : ℕ) →
    clause_mentions out position (node.Block scope items) inside ≡ said out position (item_nodes items) (inside + one_scope scope)
block_said scope items out position inside =
    mention_is out position inside (node.Block scope items) ∙ asked_are out position (inside + one_scope scope) (parts_all branch items) (branches_alone items)
    ∙ ap (λ ts. said out position ts (inside + one_scope scope)) (items_are items)

-- The scopes round a clause: those of its own body, and those outside.

abbrev pub HasOwn : Option (List ℕ) → List Level → Type 0
HasOwn None own = Unit {0}
HasOwn (Some text) own = (o : Level) × (os : List Level) × (own ≡ o ∷ os)

-- what is round a clause after something that may be declared in its own scopes
pub record Around (scope : Option (List ℕ)) (own outer levels : List Level) : Type 0 where
  pub more : List Level
  pub levels_are : levels ≡ more ++ outer
  pub long : length more ≡ length own
  pub has : HasOwn scope more

pub first_same : {x y : Level} {xs ys : List Level} → x ∷ xs ≡ y ∷ ys → x ≡ y
first_same e = cc

pub rest_same : {x y : Level} {xs ys : List Level} → x ∷ xs ≡ y ∷ ys → xs ≡ ys
rest_same e = cc

pub declares_around : {scope : Option (List ℕ)} {env last : InScope} {place : Place} {ty : TyView} (own outer : List Level) → Declares scope env place ty last → env.levels ≡ own ++ outer →
    HasOwn scope own → Around scope own outer last.levels
declares_around own outer fit.as_local is has = record { more = own; levels_are = is; long = refl; has = has }
declares_around own outer (fit.as_kept {position = position} level around e at) is (o, os, own_is) =
    let same = sym e ∙ is ∙ ap (λ (ls : List Level). ls ++ outer) own_is in
    record {
      more = record level { declared = position ∷ level.declared } ∷ os;
      levels_are = ap (λ (ls : List Level). record level { declared = position ∷ level.declared } ∷ ls) (rest_same same);
      long = sym (ap (λ (ls : List Level). length ls) own_is);
      has = (record level { declared = position ∷ level.declared }, os, refl);
    }

pub takes_around : {scope : Option (List ℕ)} {env last : InScope} {nums refs : ℕ} {params : List Param} (own outer : List Level) → Takes scope env nums refs params last →
    env.levels ≡ own ++ outer → HasOwn scope own → Around scope own outer last.levels
takes_around own outer fit.Takes.no_more is has = record { more = own; levels_are = is; long = refl; has = has }
takes_around own outer (fit.Takes.as_local e rest) is has = takes_around own outer rest is has
takes_around own outer (fit.Takes.as_kept declares rest) is has =
    let d = declares_around own outer declares is has in
    let r = takes_around d.more outer rest d.levels_are d.has in
    record { more = r.more; levels_are = r.levels_are; long = r.long ∙ d.long; has = r.has }

-- what is round the parts of a clause that may have a scope
pub record Inside (scope : Option (List ℕ)) (own outer inside : List Level) : Type 0 where
  pub more : List Level
  pub levels_are : inside ≡ more ++ outer
  pub long : length more ≡ length own + one_scope scope
  pub has : HasOwn scope more

pub opens_inside : {scope : Option (List ℕ)} {levels inside : List Level} (own outer : List Level) → Opens scope levels inside → levels ≡ own ++ outer → Inside scope own outer inside
opens_inside own outer fit.unscoped is = record { more = own; levels_are = is; long = omega arith; has = tt }
opens_inside own outer (fit.scoped {first = first} {rest = rest} named) is = record {
  more = record { names = first ∷ rest; declared = [] } ∷ own;
  levels_are = ap (λ (ls : List Level). record { names = first ∷ rest; declared = [] } ∷ ls) is;
  long = omega arith;
  has = (record { names = first ∷ rest; declared = [] }, own, refl);
}

-- A name in the scopes outside.

pub at_behind : (P : Level → Type 0) (own outer : List Level) (out : ℕ) → At P (own ++ outer) (length own + out) → At P outer out
at_behind P [] outer out h = subst (At P outer) (omega arith) h
at_behind P (level ∷ own) outer out (inl h) = absurd (omega (arith, h.0))
at_behind P (level ∷ own) outer out (inr (before, e, h)) = at_behind P own outer out (subst (At P (own ++ outer)) (omega (arith, e)) h)

pub record IsSaid (up position levels other : ℕ) : Type 0 where
  pub levels_are : levels ≡ up
  pub position_is : other ≡ position

both_true : (a b : Bool) → (a && b) ≡ true → (a ≡ true) × (b ≡ true)
both_true true b e = (refl, e)
both_true false b e = absurd cc

pub said_at : (up position levels other : ℕ) → is_at up position (Kept levels other) ≡ true → IsSaid up position levels other
said_at up position levels other e =
    let both = both_true (nat_eq up levels) (nat_eq position other) e in
    record { levels_are = sym (eqb-true up levels both.0); position_is = sym (eqb-true position other both.1) }

-- a name at this position is declared so many levels out
abbrev pub IsDeclaredAt : ℕ → List Level → ℕ → Type 0
IsDeclaredAt position levels out = (ty : TyView) × At (HasDeclared position ty) levels out

name_declared : (env : InScope) (place : Place) (ty : TyView) (own outer : List Level) → env.levels ≡ own ++ outer → (inside : ℕ) → length own ≡ inside → (out position : ℕ) →
    IsNameAt env place ty → is_at (inside + out) position place ≡ true → IsDeclaredAt position outer out
name_declared env (Plain slot) ty own outer is inside long out position at e = absurd cc
name_declared env (Kept levels other) ty own outer is inside long out position at e =
    let said = said_at (inside + out) position levels other e in (
      ty,
      at_behind (HasDeclared position ty) own outer out
          (subst (At (HasDeclared position ty) (own ++ outer)) (omega (arith, said.levels_are, long))
          (subst (λ (n : ℕ). At (HasDeclared n ty) (own ++ outer) levels) said.position_is
          (subst (λ (ls : List Level). At (HasDeclared other ty) ls levels) is at))),
    )

drop_false : (b : Bool) → (b || false) ≡ true → b ≡ true
drop_false true e = refl
drop_false false e = e

mutual
  pub mentioned : {env : InScope} {t : Node} {ty : TyView} → IsFit env t ty → (own outer : List Level) → env.levels ≡ own ++ outer → (inside : ℕ) → length own ≡ inside →
      (out position : ℕ) → clause_mentions out position t inside ≡ true → IsDeclaredAt position outer out
  mentioned (fit.by_rule rule names parts) own outer is inside long out position e =
      all_mentioned parts own outer is inside long out position (sym (rule_said rule out position inside) ∙ e)
  mentioned (fit.name {env = env} {place = place} {ty = ty} at) own outer is inside long out position e =
      name_declared env place ty own outer is inside long out position at (drop_false (is_at (inside + out) position place) e)
  mentioned (fit.set_name {env = env} {place = place} {ty = ty} {e = v} at te) own outer is inside long out position e =
      elim (or_true (is_at (inside + out) position place) (clause_mentions out position v (inside + 0) || false) e) [
        | inl here ↦ name_declared env place ty own outer is inside long out position at here
        | inr there ↦ mentioned te own outer is (inside + 0) (omega (arith, long)) out position (drop_false (clause_mentions out position v (inside + 0)) there)
      ]
  mentioned (fit.block {scope = scope} {items = items} opens are) own outer is inside long out position e =
      let i = opens_inside own outer opens is in
      items_mentioned are i.more outer i.levels_are i.has (inside + one_scope scope) (omega (arith, i.long, long)) out position (sym (block_said scope items out position inside) ∙ e)
  mentioned (fit.loop {a = a} {b = b} {c = c} {s = s} {scope = scope} opens declares are t) own outer is inside long out position e =
      elim (or_true (clause_mentions out position a inside)
      (clause_mentions out position b inside || (clause_mentions out position c inside || clause_mentions out position s (inside + one_scope scope))) e) [
        | inl at_a ↦ all_mentioned are own outer is inside long out position (said_first (clause_mentions out position a inside) _ at_a)
        | inr rest ↦ elim (or_true (clause_mentions out position b inside) (clause_mentions out position c inside || clause_mentions out position s (inside + one_scope scope)) rest) [
          | inl at_b ↦ all_mentioned are own outer is inside long out position (said_next (clause_mentions out position a inside) _ (said_first (clause_mentions out position b inside) _ at_b))
          | inr more_parts ↦ elim (or_true (clause_mentions out position c inside) (clause_mentions out position s (inside + one_scope scope)) more_parts) [
            | inl at_c ↦ all_mentioned are own outer is inside long out position
                (said_next (clause_mentions out position a inside) _ (said_next (clause_mentions out position b inside) _ (said_first (clause_mentions out position c inside) _ at_c)))
            | inr at_s ↦
                let i = opens_inside own outer opens is in
                let d = declares_around i.more outer declares i.levels_are i.has in
                mentioned t d.more outer d.levels_are (inside + one_scope scope) (omega (arith, d.long, i.long, long)) out position at_s
          ]
        ]
      ]
  mentioned (fit.scan are) own outer is inside long out position e = all_mentioned are own outer is (inside + 0) (omega (arith, long)) out position e
  mentioned (fit.literal {tree = tree} {scope = scope} is_body) own outer is inside long out position e =
      body_mentioned is_body own outer is inside long out position (drop_false (clause_mentions out position tree (inside + one_scope scope)) e)

  all_mentioned : {env : InScope} {claims : List Claim} → AreFit env claims → (own outer : List Level) → env.levels ≡ own ++ outer → (inside : ℕ) → length own ≡ inside →
      (out position : ℕ) → said out position (clauses_of claims) inside ≡ true → IsDeclaredAt position outer out
  all_mentioned fit.AreFit.no_more own outer is inside long out position e = absurd cc
  all_mentioned (fit.one_more {clause = clause} {rest = rest} first others) own outer is inside long out position e =
      elim (or_true (clause_mentions out position clause inside) (said out position (clauses_of rest) inside) e) [
        | inl here ↦ mentioned first own outer is inside long out position here
        | inr there ↦ all_mentioned others own outer is inside long out position there
      ]

  items_mentioned : {scope : Option (List ℕ)} {env last : InScope} {before ty : TyView} {items : Nodes} → AreItems scope env before items ty last → (own outer : List Level) →
      env.levels ≡ own ++ outer → HasOwn scope own → (inside : ℕ) → length own ≡ inside → (out position : ℕ) → said out position (item_nodes items) inside ≡ true →
      IsDeclaredAt position outer out
  items_mentioned fit.at_end own outer is has inside long out position e = absurd cc
  items_mentioned (fit.a_clause {item = item} {rest = rest} first others) own outer is has inside long out position e =
      elim (or_true (clause_mentions out position item inside) (said out position (item_nodes rest) inside) e) [
        | inl here ↦ mentioned first own outer is inside long out position here
        | inr there ↦ items_mentioned others own outer is has inside long out position there
      ]
  items_mentioned (fit.a_value {place = place} {e = v} {rest = rest} {of = of} isnt declares te others) own outer is has inside long out position e =
      elim (or_true (clause_mentions out position (node.Let place of v) inside) (said out position (item_nodes rest) inside) e) [
        | inl here ↦ mentioned te own outer is (inside + 0) (omega (arith, long)) out position (drop_false (clause_mentions out position v (inside + 0)) here)
        | inr there ↦
            let d = declares_around own outer declares is has in
            items_mentioned others d.more outer d.levels_are d.has inside (omega (arith, d.long, long)) out position there
      ]
  items_mentioned (fit.a_literal {place = place} {procedure = procedure} {rest = rest} {of = of} declares te others) own outer is has inside long out position e =
      let d = declares_around own outer declares is has in
      elim (or_true (clause_mentions out position (node.Let place of (node.Proc procedure)) inside) (said out position (item_nodes rest) inside) e) [
        | inl here ↦ mentioned te d.more outer d.levels_are (inside + 0) (omega (arith, d.long, long)) out position
            (drop_false (clause_mentions out position (node.Proc procedure) (inside + 0)) here)
        | inr there ↦ items_mentioned others d.more outer d.levels_are d.has inside (omega (arith, d.long, long)) out position there
      ]

  body_mentioned : {levels : List Level} {params : List Param} {gives : TyView} {tree : Node} {scope : Option (List ℕ)} {line : Line} → IsFitBody levels (body params gives tree scope line) →
      (own outer : List Level) → levels ≡ own ++ outer → (inside : ℕ) → length own ≡ inside → (out position : ℕ) →
      clause_mentions out position tree (inside + one_scope scope) ≡ true → IsDeclaredAt position outer out
  body_mentioned {scope = scope} (fit.of_params opens takes t valued slots) own outer is inside long out position e =
      let i = opens_inside own outer opens is in
      let d = takes_around i.more outer takes i.levels_are i.has in
      mentioned t d.more outer d.levels_are (inside + one_scope scope) (omega (arith, d.long, i.long, long)) out position e

-- what a fit body mentions is declared in the scopes round it
pub body_declares : (levels : List Level) (of : BodyNode) → IsFitBody levels of → (out position : ℕ) → mentions out position of ≡ true → IsDeclaredAt position levels out
body_declares levels (body params gives tree scope line) is_body out position e = body_mentioned is_body [] levels refl 0 refl out position (ap (clause_mentions out position tree) (omega arith) ∙ e)
