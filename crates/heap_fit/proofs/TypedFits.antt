-- A body with types that runs is fit for the scopes round it.
use Rattle.std.proofs.Common.{inl, inr, ◌≡◌, ℕ, ◌+◌, ◌<◌, ◌≤◌, Bool, true, false, List, [], ◌∷◌, ◌++◌, map, length, refl, sym, ap, ◌∙◌, subst, arith, Option, Some, None, if◌then◌else◌}
use Rattle.std.specs.Prelude.{codes}
use Rattle.std.specs.List.{AllByRecursion}
use Rattle.std.proofs.lemmas.List.{length-append}
use Rattle.std.proofs.lemmas.Bool.{cases_eq}
use Rattle.ps_heap.specs.ps_base.TyView.{TyView}
use Rattle.ps_heap.specs.ps_base.declared.line.Line.{Line}
use Rattle.ps_soundness.specs.ps_program.declared.place.Place.{Place}
use Rattle.ps_soundness.specs.ps_program.declared.place.Place.TheVariants.{Plain, Kept}
use Rattle.ps_soundness.specs.ps_program.Node.{Param, Node, Nodes, none, more, Arms, no_arms, more_arms, arm, BodyNode, body}
use Rattle.ps_soundness.specs.ps_program.Node as node
use Rattle.ps_soundness.specs.ps_program.Parts.{Part, operand, label, branch, literal}
use Rattle.ps_soundness.specs.ps_program.inside.Listed.{parts_of, parts_all, part_as}
use Rattle.ps_typing.proofs.of_ps_program.PartLemmas.{fold_parts}
use Rattle.ps_typing_laws.specs.Counted.{Each}
use Rattle.ps_typing_laws.proofs.Tracked.{evaluated, clauses_of, item_nodes, parts_named}
use Rattle.ps_soundness.specs.ps_type_text.Texts.{Field, class_text, field_text, further_fields, type_text, IsNamed}
use Rattle.ps_soundness.specs.ps_typing.Placing.{is_number}
use Rattle.ps_soundness.specs.ps_typing.Program.{bodies_of, own_body, bodies, bodies_with, bodies_in}
use Rattle.ps_soundness.specs.ps_typing.WellTyped.{At, Some_is, Env, Free, IsAt, Local, IsLocal, IsOfType, Claim, ◌has◌, all_have, arms_have, Arguments, Rule, IsTyped, AreTyped, AreItems, IsBody, types_of_params}
use Rattle.ps_soundness.specs.ps_typing.WellTyped as typed
use Rattle.ps_heap.specs.Library.{LibraryProcedure, OnHeap, CreateDatabase}
use Rattle.ps_soundness.specs.Valued.{IsValued, IsGiven, AllValued}
use Rattle.ps_soundness.specs.Running.{IsPlace, RunsIn, AllRunIn, ArePlaces, BodyRuns}
use Rattle.ps_soundness.proofs.Valued.{given_by, valued_by, field_valued, AreValued}
use Rattle.ps_soundness.proofs.Running.{AllRunClaims, parts_run}
use Rattle.ps_soundness.proofs.Library.{type_given, library_says}
use Rattle.ps_soundness.proofs.Scopes.{front_at, front_more}
use Rattle.heap_fit.specs.Bodies.{Level, InScope, HasDeclared, IsNameAt, with_local, with_levels, NamesWell, IsFit, AreFit, IsFitBody}
use Rattle.heap_fit.specs.Bodies as fit
use Rattle.heap_fit.specs.Typed.{IsLevel, AreLevels, IsSmall}
use Rattle.heap_fit.proofs.InOrder.{has_slots}

-- The bodies in a clause are those in its parts.

abbrev Small : Node → Type 0
Small clause = Each IsSmall (bodies_in clause)

each_split : {A : Type 0} (P : A → Type 0) (xs ys : List A) → Each P (xs ++ ys) → Each P xs × Each P ys
each_split P [] ys h = (tt, h)
each_split P (x ∷ xs) ys h = let rest = each_split P xs ys h.1 in ((h.0, rest.0), rest.1)

small_parts : (parts : List (Part Node)) → Each IsSmall (bodies_of (map (part_as bodies_in) parts)) → Each Small (evaluated parts)
small_parts [] h = tt
small_parts (operand c ∷ rest) h = let s = each_split IsSmall (bodies_in c) _ h in (s.0, small_parts rest s.1)
small_parts (label c ∷ rest) h = let s = each_split IsSmall (bodies_in c) _ h in (s.0, small_parts rest s.1)
small_parts (branch c ∷ rest) h = let s = each_split IsSmall (bodies_in c) _ h in (s.0, small_parts rest s.1)
small_parts (literal c ∷ rest) h = small_parts rest (each_split IsSmall (bodies_in c) _ h).1

small : (clause : Node) → Small clause → Each Small (evaluated (parts_of clause))
small clause h =
    small_parts (parts_of clause) (each_split IsSmall (own_body clause) _ (subst (Each IsSmall) (fold_parts bodies_with clause) h)).1

small_items : (items : Nodes) → Each Small (evaluated (parts_all branch items)) → Each Small (item_nodes items)
small_items none h = tt
small_items (more first rest) h = (h.0, small_items rest h.1)

-- What a clause with a rule gives has values, and it names well.

module _ (wholes : List (List Field)) where
  abbrev RunHere : Node → Type 0
  RunHere = RunsIn (Some wholes)

  procedure_given : (of : LibraryProcedure) → IsGiven (type_given of)
  procedure_given (OnHeap CreateDatabase) = tt
  procedure_given other = tt

  abbrev Given : Claim → Type 0
  Given claim = IsGiven claim.ty

  last_given : (claims : List Claim) (claim : Claim) → Each Given (claims ++ claim ∷ []) → IsGiven claim.ty
  last_given [] claim h = h.0
  last_given (c ∷ cs) claim h = last_given cs claim h.1

  rule_gives : {t : Node} {claims : List Claim} {ty : TyView} → Rule t claims ty → Each Given claims → RunHere t → IsGiven ty
  rule_gives typed.if_else h r = h.1.0
  rule_gives (typed.case {d = d} {arms = arms} {value = value} {t = t} equated) h r = last_given (arms_have value t arms) (d has t) h.1
  rule_gives (typed.field {class = class} {index = index} {t = t} is_field) h r = given_by t (field_valued class index t r.0)
  rule_gives (typed.fill {t = t} isnt) h r = valued_by t h.1.1.0 isnt
  rule_gives typed.elems h r = r.0
  rule_gives (typed.element {t = t}) h r = given_by t h.0
  rule_gives (typed.call are) h r = h.0.1
  rule_gives (typed.lib {code = code} {tys = tys} {t = t} of_library are) h r =
      let told = library_says code tys t of_library.0 of_library.1 in subst IsGiven (sym told.gives_it) (procedure_given told.of)
  rule_gives other h r = tt

  rule_names : {t : Node} {claims : List Claim} {ty : TyView} → Rule t claims ty → RunHere t → IsGiven ty → NamesWell t
  rule_names typed.int r given = r
  rule_names typed.text r given = r
  rule_names (typed.is of_class) r given = r.0
  rule_names (typed.make of_class are) r given = r.0
  rule_names (typed.field is_field) r given = r.0
  rule_names (typed.set_field is_field) r given = r.0
  rule_names (typed.fill isnt) r given = given
  rule_names typed.elems r given = r.0
  rule_names other r given = tt

-- What is in scope, as the rules know it and as it is asked of a fit body.

pub record Stands (env : Env) (wholes : List (List Field)) (to : InScope) : Type 0 where
  pub locals : to.locals ≡ env.locals
  pub levels : AreLevels env.scopes wholes to.levels
  pub valued : AreValued env.locals

pub at_below : {A : Type 0} (P : A → Type 0) (xs : List A) (position : ℕ) → At P xs position → position < length xs
at_below P [] position at = absurd at
at_below P (x ∷ xs) position (inl h) = omega (arith, h.0)
at_below P (x ∷ xs) position (inr (before, e, h)) = omega (arith, e, at_below P xs before h)

at_valued : (fields : List Field) (position : ℕ) (ty : TyView) → At (IsOfType ty) fields position → AllByRecursion (λ field. IsValued field.ty) fields → IsValued ty
at_valued [] position ty h are = absurd h
at_valued (field ∷ fields) position ty (inl h) are = subst IsValued h.1 are.0
at_valued (field ∷ fields) position ty (inr (before, e, h)) are = at_valued fields before ty h are.1

kept_at : (scopes wholes : List (List Field)) (levels : List Level) (position : ℕ) (ty : TyView) (up : ℕ) → AreLevels scopes wholes levels
    → At (λ (scope : List Field). At (IsOfType ty) scope position) scopes up → At (HasDeclared position ty) levels up × IsValued ty
kept_at [] wholes levels position ty up are at = absurd at
kept_at (fields ∷ scopes) [] levels position ty up are at = absurd are
kept_at (fields ∷ scopes) (whole ∷ wholes) [] position ty up are at = absurd are
kept_at (fields ∷ scopes) (whole ∷ wholes) (level ∷ levels) position ty up are (inl h) =
    let l = are.0 in (
      inl (h.0, (subst (λ names. At (IsOfType ty) names position) (sym l.names) (front_at fields whole position ty l.front h.1), l.declared position (at_below (IsOfType ty) fields position h.1))),
      at_valued fields position ty h.1 l.valued,
    )
kept_at (fields ∷ scopes) (whole ∷ wholes) (level ∷ levels) position ty up are (inr (before, e, h)) =
    let rest = kept_at scopes wholes levels position ty before are.1 h in (inr (before, e, rest.0), rest.1)

name_at : {env : Env} {wholes : List (List Field)} {to : InScope} (place : Place) (ty : TyView) → Stands env wholes to → IsAt env place ty → IsNameAt to place ty × IsGiven ty
name_at (Plain slot) ty s at = (subst (λ ls. Some_is (IsLocal slot ty) ls) (sym s.locals) at, given_by ty (s.valued slot ty at))
name_at {env = env} {wholes = wholes} {to = to} (Kept up position) ty s at = let k = kept_at env.scopes wholes to.levels position ty up s.levels at in (k.0, given_by ty k.1)

-- A name that is declared.

-- How many names the innermost scope keeps: it only grows, and is as before where nothing is kept.
abbrev width : List (List Field) → ℕ
width [] = 0
width (fields ∷ scopes) = length fields

abbrev KeepsNone : Option (List ℕ) → (first last : List (List Field)) → Type 0
KeepsNone scope first last = scope ≡ None → width last ≤ width first

keeps_same : {scope : Option (List ℕ)} {first last : List (List Field)} → last ≡ first → KeepsNone scope first last
keeps_same {last = last} same e = subst (λ ss. width last ≤ width ss) same (omega arith)

kept_width : (fields : List Field) (name : List ℕ) (ty : TyView) → length (typed.and_kept fields name ty) ≡ length fields + 1
kept_width fields name ty = length-append fields (record { ty = ty; name = name } ∷ [])

declares_width : {env own : Env} {free behind : Free} {place : Place} {ty : TyView} → typed.Declares env free place ty own behind → width env.scopes ≤ width own.scopes
declares_width (typed.as_local e) = omega arith
declares_width (typed.as_kept {ty = ty} {scope = fields} {around = around} name scopes is) =
    subst (λ ss. width ss ≤ length (typed.and_kept fields name ty)) (sym scopes) (omega (arith, kept_width fields name ty))

items_width : {env last : Env} {free free' : Free} {before ty : TyView} {items : Nodes} → AreItems env free before items ty last free' → width env.scopes ≤ width last.scopes
items_width typed.at_end = omega arith
items_width (typed.a_clause first others) = items_width others
items_width (typed.a_value isnt declares t others) = omega (arith, declares_width declares, items_width others)
items_width (typed.a_literal declares t others) = omega (arith, declares_width declares, items_width others)

takes_width : {env last : Env} {free free' : Free} {params : List Param} → typed.Takes env free params last free' → width env.scopes ≤ width last.scopes
takes_width typed.no_more = omega arith
takes_width (typed.as_local e rest) = takes_width rest
takes_width (typed.as_kept {last = last} {ty = ty} {scope = fields} {around = around} name scopes is rest) =
    subst (λ ss. width ss ≤ width last.scopes) (sym scopes) (omega (arith, kept_width fields name ty, takes_width rest))

record Declared (scope : Option (List ℕ)) (to : InScope) (place : Place) (ty : TyView) (own : Env) (wholes : List (List Field)) : Type 0 where
  after : InScope
  declares : fit.Declares scope to place ty after
  stands : Stands own wholes after

local_more : {env : Env} {wholes : List (List Field)} {to : InScope} (slot : ℕ) (ty : TyView) → Stands env wholes to → IsValued ty → Stands (typed.with_local slot ty env) wholes (with_local slot ty to)
local_more slot ty s valued = record {
  locals = ap (λ ls. record { slot = slot; ty = ty } ∷ ls) s.locals;
  levels = s.levels;
  valued = λ n t found. elim found [ inl h ↦ subst IsValued h.1 valued | inr h ↦ s.valued n t h ];
}

valued_more : (fields : List Field) (field : Field) → AllByRecursion (λ f. IsValued f.ty) fields → IsValued field.ty → AllByRecursion (λ f. IsValued f.ty) (fields ++ field ∷ [])
valued_more [] field are is = (is, tt)
valued_more (f ∷ fields) field are is = (are.0, valued_more fields field are.1 is)

innermost : (P : List Field → Type 0) (whole : List Field) (wholes : List (List Field)) → At P (whole ∷ wholes) 0 → P whole
innermost P whole wholes (inl h) = h.1
innermost P whole wholes (inr h) = absurd (let e = h.1 in omega arith)

-- one name more of the innermost scope
level_more : (fields whole : List Field) (level : Level) (name : List ℕ) (ty : TyView) → IsLevel fields whole level → At (IsOfType ty) whole (length fields) → IsValued ty
    → IsLevel (typed.and_kept fields name ty) whole (record level { declared = length fields ∷ level.declared })
level_more fields whole level name ty l at valued = record {
  names = l.names;
  front = front_more fields (record { ty = ty; name = name }) whole l.front at;
  declared = λ position below. elim (cases_eq position (length fields)) [
    | inl same ↦ inl same
    | inr apart ↦ inr (l.declared position (omega (arith, below, length-append fields (record { ty = ty; name = name } ∷ []), apart)))
  ];
  valued = valued_more fields (record { ty = ty; name = name }) l.valued valued;
}

kept_more : {wholes : List (List Field)} (text : List ℕ) (locals : List Local) (levels : List Level) (fields : List Field) (around : List (List Field)) (name : List ℕ) (ty : TyView)
    → Stands (record { locals = locals; scopes = fields ∷ around }) wholes (record { locals = locals; levels = levels }) → IsPlace (Some wholes) (Kept 0 (length fields)) ty → IsValued ty
    → Declared (Some text) (record { locals = locals; levels = levels }) (Kept 0 (length fields)) ty (record { locals = locals; scopes = typed.and_kept fields name ty ∷ around }) wholes
kept_more {wholes = []} text locals levels fields around name ty s at valued = absurd at
kept_more {wholes = whole ∷ wholes} text locals [] fields around name ty s at valued = absurd s.levels
kept_more {wholes = whole ∷ wholes} text locals (level ∷ levels) fields around name ty s at valued =
    let here : At (IsOfType ty) whole (length fields) = innermost (λ w. At (IsOfType ty) w (length fields)) whole wholes at in
    record {
      after = record { locals = locals; levels = record level { declared = length fields ∷ level.declared } ∷ levels };
      declares = fit.as_kept level levels refl (subst (λ names. At (IsOfType ty) names (length fields)) (sym s.levels.0.names) here);
      stands = record { locals = refl; levels = (level_more fields whole level name ty s.levels.0 here valued, s.levels.1); valued = s.valued };
    }

declared : (scope : Option (List ℕ)) {env own : Env} {free behind : Free} {place : Place} {ty : TyView} {wholes : List (List Field)} {to : InScope}
    → typed.Declares env free place ty own behind → KeepsNone scope env.scopes own.scopes → Stands env wholes to → IsPlace (Some wholes) place ty → IsValued ty → Declared scope to place ty own wholes
declared scope (typed.as_local {slot = slot} {ty = ty} e) keeps s at valued = record { after = _; declares = fit.as_local; stands = local_more slot ty s valued }
declared None (typed.as_kept {env = env} {ty = ty} {scope = fields} {around = around} name scopes is) keeps s at valued =
    absurd (omega (arith, kept_width fields name ty, subst (λ ss. length (typed.and_kept fields name ty) ≤ width ss) scopes (keeps refl)))
declared (Some text) {wholes = wholes} {to = to} (typed.as_kept {env = env} {position = position} {ty = ty} {scope = fields} {around = around} name scopes is) keeps s at valued =
    let own : List (List Field) → Env = λ scopes. record { locals = env.locals; scopes = scopes } in
    subst (λ ls. Declared (Some text) (record { locals = ls; levels = to.levels }) (Kept 0 position) ty (own (typed.and_kept fields name ty ∷ around)) wholes) (sym s.locals)
    (subst (λ n. Declared (Some text) (record { locals = env.locals; levels = to.levels }) (Kept 0 n) ty (own (typed.and_kept fields name ty ∷ around)) wholes) (sym is)
    (kept_more text env.locals to.levels fields around name ty
    (record { locals = refl; levels = subst (λ ss. AreLevels ss wholes to.levels) scopes s.levels; valued = s.valued })
    (subst (λ n. IsPlace (Some wholes) (Kept 0 n) ty) is at) valued))

-- Parameters.

record Taken (scope : Option (List ℕ)) (to : InScope) (free : Free) (params : List Param) (last : Env) (wholes : List (List Field)) : Type 0 where
  after : InScope
  takes : fit.Takes scope to free.nums free.refs params after
  stands : Stands last wholes after

next_nums : (b : Bool) (free : Free) → (if b then record free { nums = free.nums + 1 } else record free { refs = free.refs + 1 }).nums ≡ (if b then free.nums + 1 else free.nums)
next_nums true free = refl
next_nums false free = refl

next_refs : (b : Bool) (free : Free) → (if b then record free { nums = free.nums + 1 } else record free { refs = free.refs + 1 }).refs ≡ (if b then free.refs else free.refs + 1)
next_refs true free = refl
next_refs false free = refl

-- the rest is taken behind the slot of the first
behind : (scope : Option (List ℕ)) (to after : InScope) (free : Free) (ty : TyView) (rest : List Param) → fit.Takes scope to (typed.behind_one ty free).nums (typed.behind_one ty free).refs rest after
    → fit.Takes scope to (if is_number ty then free.nums + 1 else free.nums) (if is_number ty then free.refs else free.refs + 1) rest after
behind scope to after free ty rest h =
    subst (λ n. fit.Takes scope to n (if is_number ty then free.refs else free.refs + 1) rest after) (next_nums (is_number ty) free)
    (subst (λ n. fit.Takes scope to (typed.behind_one ty free).nums n rest after) (next_refs (is_number ty) free) h)

taken : (scope : Option (List ℕ)) {env last : Env} {free free' : Free} {params : List Param} {wholes : List (List Field)} {to : InScope} → typed.Takes env free params last free'
    → KeepsNone scope env.scopes last.scopes → Stands env wholes to → ArePlaces wholes params → AllValued (types_of_params params) → Taken scope to free params last wholes
taken scope {to = to} typed.no_more keeps s places valued = record { after = to; takes = fit.no_more; stands = s }
taken scope {to = to} (typed.as_local {free = free} {slot = slot} {ty = ty} {rest = rest} e takes) keeps s places valued =
    let r = taken scope takes keeps (local_more slot ty s valued.0) places.1 valued.1 in
    record { after = r.after; takes = fit.as_local e (behind scope (with_local slot ty to) r.after free ty rest r.takes); stands = r.stands }
taken scope (typed.as_kept {env = env} {free = free} {position = position} {ty = ty} {scope = fields} {around = around} {rest = rest} name scopes is takes) keeps s places valued =
    let one : typed.Declares env free (Kept 0 position) ty (typed.with_scopes (typed.and_kept fields name ty ∷ around) env) free = typed.as_kept name scopes is in
    let d = declared scope one (λ e. omega (arith, keeps e, takes_width takes)) s places.0 valued.0 in
    let r = taken scope takes (λ e. omega (arith, keeps e, declares_width one)) d.stands places.1 valued.1 in
    record { after = r.after; takes = fit.as_kept d.declares (behind scope d.after r.after free ty rest r.takes); stands = r.stands }

-- A scope that is opened.

abbrev fresh : List Field → Level
fresh names = record { names = names; declared = [] }

no_empty_scope : (first : Field) (rest : List Field) → class_text (codes "scope") [] ≡ class_text (codes "scope") (first ∷ rest) → ⊥
no_empty_scope first rest e =
    absurd (omega (
      arith,
      ap length e,
      length-append (field_text first ++ further_fields rest) (codes ")"),
      length-append (field_text first) (further_fields rest),
      length-append (type_text first.ty) (32 ∷ first.name),
    ))

opens_scope : (fields : List Field) (text : List ℕ) (first : Field) (rest : List Field) (levels : List Level) → IsNamed (codes "scope") fields → text ≡ class_text (codes "scope") fields
    → text ≡ class_text (codes "scope") (first ∷ rest) → fit.Opens (Some text) levels (fresh fields ∷ levels)
opens_scope [] text first rest levels named is same = absurd (no_empty_scope first rest (sym is ∙ same))
opens_scope (field ∷ fields) text first rest levels named is same = subst (λ t. fit.Opens (Some t) levels (fresh (field ∷ fields) ∷ levels)) (sym is) (fit.scoped named)

fresh_level : (fields : List Field) → IsLevel [] fields (fresh fields)
fresh_level fields = record { names = refl; front = tt; declared = λ position below. absurd (omega (arith, below)); valued = tt }

-- what stands, with the scopes inside a new one
stands_inside : {env : Env} {wholes : List (List Field)} {to : InScope} (fields : List Field) → Stands env wholes to
    → Stands (typed.with_scopes ([] ∷ env.scopes) env) (fields ∷ wholes) (with_levels (fresh fields ∷ to.levels) to)
stands_inside fields s = record { locals = s.locals; levels = (fresh_level fields, s.levels); valued = s.valued }

-- Clauses, items and bodies.

record ItemsFit (scope : Option (List ℕ)) (to : InScope) (before : TyView) (items : Nodes) (ty : TyView) : Type 0 where
  last : InScope
  are : fit.AreItems scope to before items ty last
  given : IsGiven ty

-- a literal with the bodies in it
small_literal : (params : List Param) (gives : TyView) (tree : Node) (scope : Option (List ℕ)) (line : Line) → Small (node.Proc (body params gives tree scope line))
    → Each IsSmall (bodies (body params gives tree scope line))
small_literal params gives tree scope line h = (h.0, (each_split IsSmall (bodies_in tree) [] h.1).0)

literal_valued : {env : Env} {free free' : Free} {procedure : BodyNode} {of : TyView} → IsTyped env free (node.Proc procedure) of free' → Small (node.Proc procedure) → IsValued of
literal_valued (typed.literal is_body) h = h.0.valued
literal_valued (typed.by_rule r are) h = elim r [ ]

mutual
  pub fits : {env : Env} {free free' : Free} {tree : Node} {ty : TyView} (wholes : List (List Field)) (to : InScope) → IsTyped env free tree ty free' → RunsIn (Some wholes) tree
      → Small tree → Stands env wholes to → IsFit to tree ty × IsGiven ty
  fits wholes to (typed.by_rule {clause = clause} r are) runs sm s =
      let parts = fits_each wholes to are (parts_run (Some wholes) r runs) (subst (Each Small) (parts_named r).0 (small clause sm)) s in
      let given = rule_gives wholes r parts.1 runs in
      (fit.by_rule r (rule_names wholes r runs given) parts.0, given)
  fits wholes to (typed.name {place = place} {ty = ty} is) runs sm s = let n = name_at place ty s is in (fit.name n.0, n.1)
  fits wholes to (typed.set_name {place = place} {ty = ty} {e = e} is t) runs sm s =
      (fit.set_name (name_at place ty s is).0 (fits wholes to t runs.1 (small (node.SetName place ty e) sm).0 s).0, tt)
  fits wholes to (typed.block {items = items} typed.unscoped are is) runs sm s =
      let r = fits_items None wholes to are (keeps_same is) runs (small_items items (small (node.Block None items) sm)) s tt in (fit.block fit.unscoped r.are, r.given)
  fits wholes to (typed.block {items = items} (typed.scoped {first = first} {rest = rest}) are is) runs sm s =
      let own = runs.0 in
      let r = fits_items (Some (class_text (codes "scope") (first ∷ rest))) (own.fields ∷ wholes) (with_levels (fresh own.fields ∷ to.levels) to) are (λ e. absurd cc) runs.1 (small_items items (small (node.Block (Some (class_text (codes "scope") (first ∷ rest))) items) sm)) (stands_inside own.fields s) tt in
      (fit.block (opens_scope own.fields _ first rest to.levels own.named own.text_is refl) r.are, r.given)
  fits wholes to (typed.loop {slot = slot} {a = a} {b = b} {c = c} {s = clause} {control = control} {line = line} slot_is typed.unscoped declares is are t) runs sm s =
      let parts = small (node.For slot a b c None control clause line) sm in
      let d = declared None declares (keeps_same is) s runs.3 tt in
      (fit.loop fit.unscoped d.declares (fits_each wholes to are (runs.0, (runs.1, (runs.2, tt))) (parts.0, (parts.1.0, (parts.1.1.0, tt))) s).0 (fits wholes d.after t runs.4 parts.1.1.1.0 d.stands).0, tt)
  fits wholes to (typed.loop {slot = slot} {a = a} {b = b} {c = c} {s = clause} {control = control} {line = line} slot_is (typed.scoped {first = first} {rest = rest}) declares is are t) runs sm s =
      let own = runs.3.0 in
      let parts = small (node.For slot a b c (Some (class_text (codes "scope") (first ∷ rest))) control clause line) sm in
      let d = declared (Some (class_text (codes "scope") (first ∷ rest))) declares (λ e. absurd cc) (stands_inside own.fields s) runs.3.1 tt in (
        fit.loop (opens_scope own.fields _ first rest to.levels own.named own.text_is refl) d.declares
            (fits_each wholes to are (runs.0, (runs.1, (runs.2, tt))) (parts.0, (parts.1.0, (parts.1.1.0, tt))) s).0 (fits (own.fields ∷ wholes) d.after t runs.3.2 parts.1.1.1.0 d.stands).0,
        tt,
      )
  fits wholes to (typed.scan {string = string} {a = a} {f = f} {q = q} {s = n} {line = line} q_is s_is are) runs sm s =
      let parts = small (node.Scan string a f q n line) sm in
      (fit.scan (fits_each wholes to are (runs.0, (runs.1, tt)) (parts.0, (parts.1.0, tt)) s).0, tt)
  fits wholes to (typed.literal {params = params} {gives = gives} {tree = tree} {scope = scope} {line = line} is_body) runs sm s =
      (fit.literal (fits_body wholes to.levels is_body runs (small_literal params gives tree scope line sm) s.levels), sm.0.valued)

  fits_each : {env : Env} {free free' : Free} {claims : List Claim} (wholes : List (List Field)) (to : InScope) → AreTyped env free claims free' → AllRunClaims (Some wholes) claims
      → Each Small (clauses_of claims) → Stands env wholes to → AreFit to claims × Each (Given wholes) claims
  fits_each wholes to typed.AreTyped.no_more runs sm s = (fit.no_more, tt)
  fits_each wholes to (typed.AreTyped.one_more first others) runs sm s =
      let f = fits wholes to first runs.0 sm.0 s in
      let r = fits_each wholes to others runs.1 sm.1 s in
      (fit.one_more f.0 r.0, (f.1, r.1))

  fits_items : (scope : Option (List ℕ)) {env last : Env} {free free' : Free} {before ty : TyView} {items : Nodes} (wholes : List (List Field)) (to : InScope)
      → AreItems env free before items ty last free' → KeepsNone scope env.scopes last.scopes → AllRunIn (Some wholes) items → Each Small (item_nodes items) → Stands env wholes to → IsGiven before
      → ItemsFit scope to before items ty
  fits_items scope wholes to typed.at_end keeps runs sm s given = record { last = to; are = fit.at_end; given = given }
  fits_items scope wholes to (typed.a_clause first others) keeps runs sm s given =
      let f = fits wholes to first runs.0 sm.0 s in
      let r = fits_items scope wholes to others keeps runs.1 sm.1 s f.1 in
      record { last = r.last; are = fit.a_clause f.0 r.are; given = r.given }
  fits_items scope wholes to (typed.a_value {place = place} {e = e} {of = of} isnt declares t others) keeps runs sm s given =
      let f = fits wholes to t runs.0.1 (small (node.Let place of e) sm.0).0 s in
      let d = declared scope declares (λ n. omega (arith, keeps n, items_width others)) s runs.0.0 (valued_by of f.1 isnt) in
      let r = fits_items scope wholes d.after others (λ n. omega (arith, keeps n, declares_width declares)) runs.1 sm.1 d.stands tt in
      record { last = r.last; are = fit.a_value isnt d.declares f.0 r.are; given = r.given }
  fits_items scope wholes to (typed.a_literal {place = place} {procedure = procedure} {of = of} declares t others) keeps runs sm s given =
      let inner = (small (node.Let place of (node.Proc procedure)) sm.0).0 in
      let d = declared scope declares (λ n. omega (arith, keeps n, items_width others)) s runs.0.0 (literal_valued t inner) in
      let f = fits wholes d.after t runs.0.1 inner d.stands in
      let r = fits_items scope wholes d.after others (λ n. omega (arith, keeps n, declares_width declares)) runs.1 sm.1 d.stands tt in
      record { last = r.last; are = fit.a_literal d.declares f.0 r.are; given = r.given }

  pub fits_body : {scopes : List (List Field)} {of : BodyNode} (wholes : List (List Field)) (levels : List Level) → IsBody scopes of → BodyRuns wholes of → Each IsSmall (bodies of)
      → AreLevels scopes wholes levels → IsFitBody levels of
  fits_body wholes levels (typed.of_params {tree = tree} typed.unscoped takes is t) runs sm are =
      let p = taken None {to = record { locals = []; levels = levels }} takes (keeps_same is) (record { locals = refl; levels = are; valued = λ slot ty found. absurd found }) runs.0 sm.0.valued.0 in
      fit.of_params fit.unscoped p.takes (fits wholes p.after t runs.1 sm.1 p.stands).0 sm.0.valued (has_slots (typed.of_params typed.unscoped takes is t) sm.0.few)
  fits_body wholes levels (typed.of_params {tree = tree} (typed.scoped {first = first} {rest = rest}) takes is t) runs sm are =
      let own = runs.0 in
      let p = taken (Some (class_text (codes "scope") (first ∷ rest))) {to = record { locals = []; levels = fresh own.fields ∷ levels }} takes (λ e. absurd cc)
      (record { locals = refl; levels = (fresh_level own.fields, are); valued = λ slot ty found. absurd found }) runs.1 sm.0.valued.0 in
      fit.of_params (opens_scope own.fields _ first rest levels own.named own.text_is refl) p.takes (fits (own.fields ∷ wholes) p.after t runs.2 sm.1 p.stands).0
      sm.0.valued (has_slots (typed.of_params typed.scoped takes is t) sm.0.few)
