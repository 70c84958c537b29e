-- A fit clause is fit where as much is declared in the scopes outside its body as it mentions there.
use Rattle.std.proofs.Common.{inl, inr, ◌≡◌, ℕ, ◌+◌, Bool, true, false, List, [], ◌∷◌, ◌++◌, length, refl, sym, ap, ◌∙◌, subst, arith, eq-eqb, Option, Some}
use Rattle.std.specs.Prelude.{◌||◌, ◌&&◌, nat_eq}
use Rattle.ps_heap.specs.ps_base.TyView.{TyView}
use Rattle.ps_typing_laws.proofs.Tracked.{clauses_of, item_nodes}
use Rattle.ps_soundness.specs.ps_program.declared.place.Place.{Place}
use Rattle.ps_soundness.specs.ps_program.declared.place.Place.TheVariants.{Plain, Kept}
use Rattle.ps_soundness.specs.ps_program.Node.{Param, Node, Nodes, more, BodyNode, body}
use Rattle.ps_soundness.specs.ps_program.Node as node
use Rattle.ps_soundness.specs.ps_typing.WellTyped.{At, IsOfType, Local, Claim}
use Rattle.heap_fit.specs.Slots.{is_at, one_scope, clause_mentions, mentions}
use Rattle.heap_fit.specs.Bodies.{Level, InScope, HasDeclared, IsNameAt, with_levels, Declares, Opens, Takes, IsFit, AreFit, AreItems, IsFitBody}
use Rattle.heap_fit.specs.Bodies as fit
use Rattle.fit_soundness.proofs.Mentions.{said_first, said_next, three_said, said, rule_said, block_said, HasOwn, first_same, rest_same}

abbrev in_scope : List Local → List Level → InScope
in_scope locals levels = record { locals = locals; levels = levels }

-- What is declared in the scopes outside and is mentioned is declared in others.
abbrev Keeps : (outer other : List Level) → (ℕ → ℕ → Bool) → Type 0
Keeps outer other asks = (out position : ℕ) (ty : TyView) → At (HasDeclared position ty) outer out → asks out position ≡ true → At (HasDeclared position ty) other out

-- Something that may be declared in the own scopes of a body.

record Declared (scope : Option (List ℕ)) (own outer other : List Level) (env last : InScope) (place : Place) (ty : TyView) : Type 0 where
  more : List Level
  levels_are : last.levels ≡ more ++ outer
  long : length more ≡ length own
  has : HasOwn scope more
  declares : Declares scope (in_scope env.locals (own ++ other)) place ty (in_scope last.locals (more ++ other))

abbrev and_declared : ℕ → Level → Level
and_declared position level = record level { declared = position ∷ level.declared }

kept_declared : (text : List ℕ) (env : InScope) (o : Level) (os outer other : List Level) (level : Level) (around : List Level) (position : ℕ) (ty : TyView) → env.levels ≡ level ∷ around →
    env.levels ≡ (o ∷ os) ++ outer → At (IsOfType ty) level.names position →
    Declared (Some text) (o ∷ os) outer other env (with_levels (and_declared position level ∷ around) env) (Kept 0 position) ty
kept_declared text env o os outer other level around position ty e is at =
    let same = sym e ∙ is in
    record {
      more = and_declared position o ∷ os;
      levels_are = ap (λ (l : Level). and_declared position l ∷ around) (first_same same) ∙ ap (λ (ls : List Level). and_declared position o ∷ ls) (rest_same same);
      long = refl;
      has = (and_declared position o, os, refl);
      declares = fit.as_kept o (os ++ other) refl (subst (λ (l : Level). At (IsOfType ty) l.names position) (first_same same) at);
    }

declares_too : {scope : Option (List ℕ)} {env last : InScope} {place : Place} {ty : TyView} (own outer other : List Level) → Declares scope env place ty last → env.levels ≡ own ++ outer →
    HasOwn scope own → Declared scope own outer other env last place ty
declares_too own outer other fit.as_local is has = record { more = own; levels_are = is; long = refl; has = has; declares = fit.as_local }
declares_too own outer other (fit.as_kept {text = text} {env = env} {position = position} {ty = ty} level around e at) is (o, os, own_is) =
    subst (λ (ls : List Level). Declared (Some text) ls outer other env (with_levels (and_declared position level ∷ around) env) (Kept 0 position) ty) (sym own_is)
    (kept_declared text env o os outer other level around position ty e (is ∙ ap (λ (ls : List Level). ls ++ outer) own_is) at)

record Taken (scope : Option (List ℕ)) (own outer other : List Level) (env : InScope) (nums refs : ℕ) (params : List Param) (last : InScope) : Type 0 where
  more : List Level
  levels_are : last.levels ≡ more ++ outer
  long : length more ≡ length own
  has : HasOwn scope more
  takes : Takes scope (in_scope env.locals (own ++ other)) nums refs params (in_scope last.locals (more ++ other))

takes_too : {scope : Option (List ℕ)} {env last : InScope} {nums refs : ℕ} {params : List Param} (own outer other : List Level) → Takes scope env nums refs params last →
    env.levels ≡ own ++ outer → HasOwn scope own → Taken scope own outer other env nums refs params last
takes_too own outer other fit.Takes.no_more is has = record { more = own; levels_are = is; long = refl; has = has; takes = fit.Takes.no_more }
takes_too own outer other (fit.Takes.as_local e rest) is has =
    let r = takes_too own outer other rest is has in
    record { more = r.more; levels_are = r.levels_are; long = r.long; has = r.has; takes = fit.Takes.as_local e r.takes }
takes_too own outer other (fit.Takes.as_kept declares rest) is has =
    let d = declares_too own outer other declares is has in
    let r = takes_too d.more outer other rest d.levels_are d.has in
    record { more = r.more; levels_are = r.levels_are; long = r.long ∙ d.long; has = r.has; takes = fit.Takes.as_kept d.declares r.takes }

record Opened (scope : Option (List ℕ)) (own outer other inside : List Level) : Type 0 where
  more : List Level
  levels_are : inside ≡ more ++ outer
  long : length more ≡ length own + one_scope scope
  has : HasOwn scope more
  opens : Opens scope (own ++ other) (more ++ other)

opens_too : {scope : Option (List ℕ)} {levels inside : List Level} (own outer other : List Level) → Opens scope levels inside → levels ≡ own ++ outer → Opened scope own outer other inside
opens_too own outer other fit.unscoped is = record { more = own; levels_are = is; long = omega arith; has = tt; opens = fit.unscoped }
opens_too own outer other (fit.scoped {first = first} {rest = rest} named) is = record {
  more = record { names = first ∷ rest; declared = [] } ∷ own;
  levels_are = ap (λ (ls : List Level). record { names = first ∷ rest; declared = [] } ∷ ls) is;
  long = omega arith;
  has = (record { names = first ∷ rest; declared = [] }, own, refl);
  opens = fit.scoped named;
}

-- Names.

at_narrow : (P : Level → Type 0) (own outer other : List Level) (up : ℕ) → ((out : ℕ) → up ≡ length own + out → At P outer out → At P other out) → At P (own ++ outer) up → At P (own ++ other) up
at_narrow P [] outer other up keeps h = keeps up (omega arith) h
at_narrow P (level ∷ own) outer other up keeps (inl h) = inl h
at_narrow P (level ∷ own) outer other up keeps (inr (before, e, h)) =
    inr (before, e, at_narrow P own outer other before (λ out is at. keeps out (omega (arith, e, is)) at) h)

is_named : (up position levels : ℕ) (rest : Bool) → levels ≡ up → (is_at up position (Kept levels position) || rest) ≡ true
is_named up position levels rest e = both (nat_eq up levels) (nat_eq position position) (eq-eqb up levels (sym e)) (eq-eqb position position refl)
  where
    both : (a b : Bool) → a ≡ true → b ≡ true → ((a && b) || rest) ≡ true
    both true true h k = refl
    both false b h k = absurd cc
    both true false h k = absurd cc

name_narrow : (env : InScope) (place : Place) (ty : TyView) (own outer other : List Level) → env.levels ≡ own ++ outer → (inside : ℕ) → length own ≡ inside → (rest : ℕ → ℕ → Bool) →
    Keeps outer other (λ out position. is_at (inside + out) position place || rest out position) → IsNameAt env place ty → IsNameAt (in_scope env.locals (own ++ other)) place ty
name_narrow env (Plain slot) ty own outer other is inside long rest keeps at = at
name_narrow env (Kept up position) ty own outer other is inside long rest keeps at =
    at_narrow (HasDeclared position ty) own outer other up
    (λ out e h. keeps out position ty h (is_named (inside + out) position up (rest out position) (omega (arith, e, long))))
    (subst (λ (ls : List Level). At (HasDeclared position ty) ls up) is at)

less_asked : (outer other : List Level) (first wide : ℕ → ℕ → Bool) → Keeps outer other wide → ((out position : ℕ) → first out position ≡ true → wide out position ≡ true) →
    Keeps outer other first
less_asked outer other first wide keeps asks out position ty at e = keeps out position ty at (asks out position e)

record ItemsToo (scope : Option (List ℕ)) (env : InScope) (before : TyView) (items : Nodes) (ty : TyView) : Type 0 where
  last : InScope
  are : AreItems scope env before items ty last

mutual
  narrowed : {env : InScope} {t : Node} {ty : TyView} → IsFit env t ty → (own outer other : List Level) → env.levels ≡ own ++ outer → (inside : ℕ) → length own ≡ inside →
      Keeps outer other (λ out position. clause_mentions out position t inside) → IsFit (in_scope env.locals (own ++ other)) t ty
  narrowed (fit.by_rule {clause = t} {claims = claims} rule names parts) own outer other is inside long keeps =
      fit.by_rule rule names (all_narrowed parts own outer other is inside long
      (less_asked outer other (λ out position. said out position (clauses_of claims) inside) (λ out position. clause_mentions out position t inside) keeps
      (λ out position e. rule_said rule out position inside ∙ e)))
  narrowed (fit.name {env = env} {place = place} {ty = ty} at) own outer other is inside long keeps =
      fit.name (name_narrow env place ty own outer other is inside long (λ out position. false) keeps at)
  narrowed (fit.set_name {env = env} {place = place} {ty = ty} {e = v} at te) own outer other is inside long keeps =
      fit.set_name (name_narrow env place ty own outer other is inside long (λ out position. clause_mentions out position v (inside + 0) || false) keeps at)
      (narrowed te own outer other is (inside + 0) (omega (arith, long))
      (less_asked outer other (λ out position. clause_mentions out position v (inside + 0)) (λ out position. clause_mentions out position (node.SetName place ty v) inside) keeps
      (λ out position e. said_next (is_at (inside + out) position place) _ (said_first (clause_mentions out position v (inside + 0)) false e))))
  narrowed (fit.block {env = env} {scope = scope} {items = items} opens are) own outer other is inside long keeps =
      let i = opens_too own outer other opens is in
      fit.block i.opens (items_narrowed are i.more outer other i.levels_are i.has (inside + one_scope scope) (omega (arith, i.long, long))
      (less_asked outer other (λ out position. said out position (item_nodes items) (inside + one_scope scope)) (λ out position. clause_mentions out position (node.Block scope items) inside) keeps
      (λ out position e. block_said scope items out position inside ∙ e))).are
  narrowed (fit.loop {slot = slot} {a = a} {b = b} {c = c} {s = s} {scope = scope} {control = control} {line = line} opens declares are t) own outer other is inside long keeps =
      let i = opens_too own outer other opens is in
      let d = declares_too i.more outer other declares i.levels_are i.has in
      let whole = λ (out position : ℕ). clause_mentions out position (node.For slot a b c scope control s line) inside in
      let three = λ (out position : ℕ). said out position (a ∷ b ∷ c ∷ []) inside in
      let last = λ (out position : ℕ). clause_mentions out position s (inside + one_scope scope) in
      fit.loop i.opens d.declares
      (all_narrowed are own outer other is inside long (less_asked outer other three whole keeps (λ out position e. three_said (clause_mentions out position a inside)
      (clause_mentions out position b inside) (clause_mentions out position c inside) (last out position) e)))
      (narrowed t d.more outer other d.levels_are (inside + one_scope scope) (omega (arith, d.long, i.long, long)) (less_asked outer other last whole keeps
      (λ out position e. said_next (clause_mentions out position a inside) _ (said_next (clause_mentions out position b inside) _ (said_next (clause_mentions out position c inside) _ e)))))
  narrowed (fit.scan are) own outer other is inside long keeps = fit.scan (all_narrowed are own outer other is (inside + 0) (omega (arith, long)) keeps)
  narrowed (fit.literal {params = params} {gives = gives} {tree = tree} {scope = scope} {line = line} is_body) own outer other is inside long keeps =
      fit.literal (body_narrowed is_body own outer other is inside long
      (less_asked outer other (λ out position. clause_mentions out position tree (inside + one_scope scope)) (λ out position. clause_mentions out position (node.Proc (body params gives tree scope line)) inside) keeps
      (λ out position e. said_first (clause_mentions out position tree (inside + one_scope scope)) false e)))

  all_narrowed : {env : InScope} {claims : List Claim} → AreFit env claims → (own outer other : List Level) → env.levels ≡ own ++ outer → (inside : ℕ) → length own ≡ inside →
      Keeps outer other (λ out position. said out position (clauses_of claims) inside) → AreFit (in_scope env.locals (own ++ other)) claims
  all_narrowed fit.AreFit.no_more own outer other is inside long keeps = fit.AreFit.no_more
  all_narrowed (fit.one_more {clause = clause} {rest = rest} first others) own outer other is inside long keeps =
      let whole = λ (out position : ℕ). clause_mentions out position clause inside || said out position (clauses_of rest) inside in
      fit.one_more
      (narrowed first own outer other is inside long (less_asked outer other (λ out position. clause_mentions out position clause inside) whole keeps
      (λ out position e. said_first (clause_mentions out position clause inside) _ e)))
      (all_narrowed others own outer other is inside long (less_asked outer other (λ out position. said out position (clauses_of rest) inside) whole keeps
      (λ out position e. said_next (clause_mentions out position clause inside) _ e)))

  items_narrowed : {scope : Option (List ℕ)} {env last : InScope} {before ty : TyView} {items : Nodes} → AreItems scope env before items ty last → (own outer other : List Level) →
      env.levels ≡ own ++ outer → HasOwn scope own → (inside : ℕ) → length own ≡ inside → Keeps outer other (λ out position. said out position (item_nodes items) inside) →
      ItemsToo scope (in_scope env.locals (own ++ other)) before items ty
  items_narrowed fit.at_end own outer other is has inside long keeps = record { last = _; are = fit.at_end }
  items_narrowed (fit.a_clause {item = item} {rest = rest} first others) own outer other is has inside long keeps =
      let whole = λ (out position : ℕ). clause_mentions out position item inside || said out position (item_nodes rest) inside in
      let r = items_narrowed others own outer other is has inside long (less_asked outer other (λ out position. said out position (item_nodes rest) inside) whole keeps
      (λ out position e. said_next (clause_mentions out position item inside) _ e)) in
      record {
        last = r.last;
        are = fit.a_clause (narrowed first own outer other is inside long (less_asked outer other (λ out position. clause_mentions out position item inside) whole keeps
            (λ out position e. said_first (clause_mentions out position item inside) _ e))) r.are;
      }
  items_narrowed (fit.a_value {place = place} {e = v} {rest = rest} {of = of} isnt declares te others) own outer other is has inside long keeps =
      let d = declares_too own outer other declares is has in
      let item = node.Let place of v in
      let whole = λ (out position : ℕ). clause_mentions out position item inside || said out position (item_nodes rest) inside in
      let r = items_narrowed others d.more outer other d.levels_are d.has inside (omega (arith, d.long, long)) (less_asked outer other (λ out position. said out position (item_nodes rest) inside) whole keeps
      (λ out position e. said_next (clause_mentions out position item inside) _ e)) in
      record {
        last = r.last;
        are = fit.a_value isnt d.declares (narrowed te own outer other is (inside + 0) (omega (arith, long)) (less_asked outer other (λ out position. clause_mentions out position v (inside + 0)) whole keeps
            (λ out position e. said_first (clause_mentions out position item inside) _ (said_first (clause_mentions out position v (inside + 0)) false e)))) r.are;
      }
  items_narrowed (fit.a_literal {place = place} {procedure = procedure} {rest = rest} {of = of} declares te others) own outer other is has inside long keeps =
      let d = declares_too own outer other declares is has in
      let item = node.Let place of (node.Proc procedure) in
      let whole = λ (out position : ℕ). clause_mentions out position item inside || said out position (item_nodes rest) inside in
      let r = items_narrowed others d.more outer other d.levels_are d.has inside (omega (arith, d.long, long)) (less_asked outer other (λ out position. said out position (item_nodes rest) inside) whole keeps
      (λ out position e. said_next (clause_mentions out position item inside) _ e)) in
      record {
        last = r.last;
        are = fit.a_literal d.declares (narrowed te d.more outer other d.levels_are (inside + 0) (omega (arith, d.long, long))
            (less_asked outer other (λ out position. clause_mentions out position (node.Proc procedure) (inside + 0)) whole keeps
            (λ out position e. said_first (clause_mentions out position item inside) _ (said_first (clause_mentions out position (node.Proc procedure) (inside + 0)) false e)))) r.are;
      }

  body_narrowed : {levels : List Level} {params : List Param} {gives : TyView} {tree : Node} {scope : Option (List ℕ)} {line : _} → IsFitBody levels (body params gives tree scope line) →
      (own outer other : List Level) → levels ≡ own ++ outer → (inside : ℕ) → length own ≡ inside →
      Keeps outer other (λ out position. clause_mentions out position tree (inside + one_scope scope)) → IsFitBody (own ++ other) (body params gives tree scope line)
  body_narrowed {scope = scope} (fit.of_params opens takes t valued slots) own outer other is inside long keeps =
      let i = opens_too own outer other opens is in
      let d = takes_too i.more outer other takes i.levels_are i.has in
      fit.of_params i.opens d.takes (narrowed t d.more outer other d.levels_are (inside + one_scope scope) (omega (arith, d.long, i.long, long)) keeps) valued slots

-- where what a fit body mentions is declared it is fit
pub body_where_declared : (levels other : List Level) (of : BodyNode) → IsFitBody levels of →
    ((out position : ℕ) (ty : TyView) → At (HasDeclared position ty) levels out → mentions out position of ≡ true → At (HasDeclared position ty) other out) → IsFitBody other of
body_where_declared levels other (body params gives tree scope line) is_body keeps =
    body_narrowed is_body [] levels other refl 0 refl (λ out position ty at e. keeps out position ty at (ap (clause_mentions out position tree) (omega arith) ∙ e))
