-- In a fit body each name that is mentioned is of a type that has values, where those of the scopes round it are: so is each that is declared.
use Rattle.std.proofs.Common.{ℕ, List, [], ◌∷◌, Option, inl, inr, subst}
use Rattle.ps_gen.specs.ps_base.TyView.{TyView, TyViews}
use Rattle.ps_gen.specs.ps_program.declared.place.Place.{Place}
use Rattle.ps_gen.specs.ps_program.declared.place.Place.TheVariants.{Plain, Kept}
use Rattle.ps_gen.specs.ps_program.Node.{Param, Node, Nodes, none, more, Arms, no_arms, more_arms, arm, BodyNode}
use Rattle.ps_typing_laws.specs.ps_typing.WellTyped.{Local, Claim, ◌has◌, all_have, arms_have, At, IsOfType, types_of_params, Arguments, Rule}
use Rattle.ps_typing_laws.specs.ps_typing.WellTyped as typed
use Rattle.ps_typing_laws.specs.Counted.{Each}
use Rattle.ps_soundness.specs.Valued.{IsValued, AllValued}
use Rattle.ps_soundness.proofs.Valued.{valued_by, AreValued}
use Rattle.heap_fit.specs.Bodies.{Level, InScope, HasDeclared, Opens, Declares, Takes, IsFit, AreFit, AreItems, IsFitBody}
use Rattle.heap_fit.specs.Bodies as fit
use Rattle.fit_soundness.proofs.Levels.{one_type}
use Rattle.ps_code_laws.specs.Literals.{BodiesAre, BodyIs, AllBodiesAre, ArmsBodiesAre, IsLevelValued, AreLevelsValued}
use Rattle.ps_code_laws.proofs.Keeps.{each_left, each_right}
use Rattle.ps_code_laws.proofs.Giving.{Stands, parts_stand, gives, literal_valued}

-- names of any type
abbrev pub AnyType : TyView → Type 0
AnyType ty = Unit {0}

-- each name in scope is of a type that has values
abbrev IsEnvValued : InScope → Type 0
IsEnvValued env = AreValued env.locals × AreLevelsValued env.levels

kept_valued : (levels : List Level) (up position : ℕ) (ty : TyView) → At (HasDeclared position ty) levels up → AreLevelsValued levels → IsValued ty
kept_valued [] up position ty h are = absurd h
kept_valued (level ∷ levels) up position ty (inl h) are = are.0 position ty h.1
kept_valued (level ∷ levels) up position ty (inr (before, e, h)) are = kept_valued levels before position ty h are.1

-- with one more declaration
level_more : (level : Level) (position : ℕ) (ty : TyView) → At (IsOfType ty) level.names position → IsValued ty → IsLevelValued level →
    IsLevelValued (record level { declared = position ∷ level.declared })
level_more level position ty at is h p t (here, inl e) =
    subst IsValued (one_type level.names position ty t at (subst (At (IsOfType t) level.names) e here)) is
level_more level position ty at is h p t (here, inr old) = h p t (here, old)

local_more : (locals : List Local) (slot : ℕ) (ty : TyView) → IsValued ty → AreValued locals → AreValued (record { slot = slot; ty = ty } ∷ locals)
local_more locals slot ty is h other t (inl found) = subst IsValued found.1 is
local_more locals slot ty is h other t (inr found) = h other t found

env_more : {scope : Option (List ℕ)} {env own : InScope} {place : Place} {ty : TyView} → Declares scope env place ty own → IsValued ty → IsEnvValued env →
    IsEnvValued own
env_more (fit.as_local {env = env} {slot = slot} {ty = ty}) is h = (local_more env.locals slot ty is h.0, h.1)
env_more (fit.as_kept {position = position} {ty = ty} level around e at) is h =
    let levels = subst AreLevelsValued e h.1 in (h.0, (level_more level position ty at is levels.0, levels.1))

takes_valued : {scope : Option (List ℕ)} {env last : InScope} {nums refs : ℕ} {params : List Param} → Takes scope env nums refs params last →
    AllValued (types_of_params params) → IsEnvValued env → IsEnvValued last
takes_valued fit.Takes.no_more h valued = valued
takes_valued (fit.Takes.as_local {env = env} {slot = slot} {ty = ty} e rest) h valued =
    takes_valued rest h.1 (local_more env.locals slot ty h.0 valued.0, valued.1)
takes_valued (fit.Takes.as_kept declares rest) h valued = takes_valued rest h.1 (env_more declares h.0 valued)

opened_valued : {scope : Option (List ℕ)} {around inside : List Level} → Opens scope around inside → AreLevelsValued around → AreLevelsValued inside
opened_valued fit.unscoped h = h
opened_valued (fit.scoped named) h = ((λ position ty at. absurd at.1), h)

-- what is so of the bodies is what follows of what is so of each that is fit
module _ (P R : BodyNode → Type 0) (follows : (levels : List Level) (of : BodyNode) → IsFitBody levels of → P of → R of) where
  -- a clause whose bodies are such, and whose names are of types that have values
  abbrev Named : Claim → Type 0
  Named claim = BodiesAre R IsValued claim.clause

  -- what is so of the parts is so of the whole
  all_named : (ty : TyView) (items : Nodes) → Each Named (all_have ty items) → AllBodiesAre R IsValued items
  all_named ty none h = tt
  all_named ty (more item rest) h = (h.0, all_named ty rest h.1)

  args_named : {args : Nodes} {tys : TyViews} {claims : List Claim} → Arguments args tys claims → Each Named claims → AllBodiesAre R IsValued args
  args_named typed.Arguments.no_more h = tt
  args_named (typed.Arguments.one_more rest) h = (h.0, args_named rest h.1)

  arms_named : (value ty : TyView) (arms : Arms) → Each Named (arms_have value ty arms) → ArmsBodiesAre R IsValued arms
  arms_named value ty no_arms h = tt
  arms_named value ty (more_arms (arm labels a) rest) h =
      let behind_labels = each_right Named (all_have value labels) (a has ty ∷ arms_have value ty rest) h in (
        all_named value labels (each_left Named (all_have value labels) (a has ty ∷ arms_have value ty rest) h),
        behind_labels.0,
        arms_named value ty rest behind_labels.1,
      )

  rule_named : {t : Node} {claims : List Claim} {ty : TyView} → Rule t claims ty → Each Named claims → BodiesAre R IsValued t
  rule_named typed.int h = tt
  rule_named typed.flag h = tt
  rule_named typed.text h = tt
  rule_named typed.nil h = tt
  rule_named typed.class h = tt
  rule_named typed.empty h = tt
  rule_named typed.abort h = tt
  rule_named typed.if_do h = (h.0, h.1.0)
  rule_named typed.if_else h = (h.0, h.1.0, h.1.1.0)
  rule_named typed.while h = (h.0, h.1.0)
  rule_named typed.repeat h = (h.0, h.1.0, h.1.1.0)
  rule_named (typed.case {d = d} {arms = arms} {value = value} {t = t} ok) h =
      let behind_arms = each_right Named (arms_have value t arms) (d has t ∷ []) h.1 in
      (h.0, arms_named value t arms (each_left Named (arms_have value t arms) (d has t ∷ []) h.1), behind_arms.0)
  rule_named typed.and h = (h.0, h.1.0)
  rule_named typed.or h = (h.0, h.1.0)
  rule_named typed.not h = h.0
  rule_named typed.neg h = h.0
  rule_named typed.plus h = h.0
  rule_named typed.arith h = (h.0, h.1.0)
  rule_named (typed.compare ok) h = (h.0, h.1.0)
  rule_named (typed.is of_class) h = h.0
  rule_named typed.join h = (h.0, h.1.0)
  rule_named typed.part h = (h.0, h.1.0, h.1.1.0)
  rule_named (typed.make of_class are) h = args_named are h
  rule_named (typed.field is_field) h = h.0
  rule_named (typed.set_field is_field) h = (h.0, h.1.0)
  rule_named (typed.fill isnt) h = (h.0, h.1.0, h.1.1.0)
  rule_named (typed.elems {items = items} {t = t}) h = (h.0, all_named t items h.1)
  rule_named typed.element h = (h.0, h.1.0)
  rule_named typed.set_element h = (h.0, h.1.0, h.1.1.0)
  rule_named typed.bound h = h.0
  rule_named (typed.call are) h = (h.0, args_named are h.1)
  rule_named (typed.lib of_library are) h = args_named are h
  rule_named (typed.write ok) h = (h.0, h.1.0)
  rule_named (typed.write_wide ok) h = (h.0, h.1.0)

  mutual
    names_are : {env : InScope} {t : Node} {ty : TyView} → IsFit env t ty → BodiesAre P AnyType t → IsEnvValued env → BodiesAre R IsValued t
    names_are (fit.by_rule rule names parts) b valued = rule_named rule (names_each parts (parts_stand P AnyType rule b) valued)
    names_are (fit.name {place = Plain slot} {ty = ty} found) b valued = valued.0 slot ty found
    names_are (fit.name {env = env} {place = Kept up position} {ty = ty} found) b valued = kept_valued env.levels up position ty found valued.1
    names_are (fit.set_name {place = Plain slot} {ty = ty} found te) b valued = (valued.0 slot ty found, names_are te b.1 valued)
    names_are (fit.set_name {env = env} {place = Kept up position} {ty = ty} found te) b valued =
        (kept_valued env.levels up position ty found valued.1, names_are te b.1 valued)
    names_are (fit.block opens are) b valued = names_items are b (valued.0, opened_valued opens valued.1)
    names_are (fit.loop opens declares are t) b valued =
        let three = names_each are (b.0, (b.1, (b.2, tt))) valued in
        (three.0, three.1.0, three.1.1.0, names_are t b.3 (env_more declares tt (valued.0, opened_valued opens valued.1)))
    names_are (fit.scan are) b valued = let both = names_each are (b.0, (b.1, tt)) valued in (both.0, both.1.0)
    names_are (fit.literal is_body) b valued = names_in_body is_body b valued.1

    names_each : {env : InScope} {claims : List Claim} → AreFit env claims → Each (Stands P AnyType) claims → IsEnvValued env → Each Named claims
    names_each fit.AreFit.no_more b valued = tt
    names_each (fit.one_more first others) b valued = (names_are first b.0 valued, names_each others b.1 valued)

    names_items : {scope : Option (List ℕ)} {env last : InScope} {before ty : TyView} {items : Nodes} → AreItems scope env before items ty last →
        AllBodiesAre P AnyType items → IsEnvValued env → AllBodiesAre R IsValued items
    names_items fit.at_end b valued = tt
    names_items (fit.a_clause first others) b valued = (names_are first b.0 valued, names_items others b.1 valued)
    names_items (fit.a_value {of = of} isnt declares te others) b valued =
        let of_e = names_are te b.0.1 valued in
        let is = valued_by of (gives R te of_e) isnt in
        ((is, of_e), names_items others b.1 (env_more declares is valued))
    names_items (fit.a_literal declares te others) b valued =
        let is = literal_valued te in
        let inside = env_more declares is valued in
        ((is, names_are te b.0.1 inside), names_items others b.1 inside)

    pub names_in_body : {levels : List Level} {of : BodyNode} → IsFitBody levels of → BodyIs P AnyType of → AreLevelsValued levels → BodyIs R IsValued of
    names_in_body (fit.of_params {line = line} opens takes t types_valued slots) b valued = (
      follows _ _ (fit.of_params {line = line} opens takes t types_valued slots) b.0,
      names_are t b.1 (takes_valued takes types_valued.0 ((λ slot ty found. absurd found), opened_valued opens valued)),
    )
