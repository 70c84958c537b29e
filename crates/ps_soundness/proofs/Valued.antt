-- What each typed clause that runs gives is of a type that has values, or void.
use Rattle.std.proofs.Common.{◌≡◌, ℕ, true, List, [], ◌∷◌, Some, inl, inr, sym, subst}
use Rattle.std.specs.List.{AllByRecursion}
use Rattle.ps_meaning.specs.ps_base.TyView.{TyView, TyViews}
use Rattle.ps_meaning.specs.ps_base.TyView as types
use Rattle.ps_meaning.specs.ps_program.declared.place.Place.{Place}
use Rattle.ps_meaning.specs.ps_program.declared.place.Place.TheVariants.{Plain, Kept}
use Rattle.ps_meaning.specs.ps_program.Node.{Node, Nodes}
use Rattle.ps_type_text.specs.Texts.{Field}
use Rattle.ps_meaning.specs.ps_typing.Checking.{isnt_void}
use Rattle.ps_meaning.specs.ps_typing.Names.{lookup, plain, library}
use Rattle.ps_meaning.specs.ps_typing.Library.{procedures}
use Rattle.ps_meaning.specs.ps_typing.WellTyped.{Some_is, Env, Free, Local, IsLocal, Claim, ◌has◌, arms_have, At, IsOfType, Rule, Declares, IsTyped, AreTyped, AreItems}
use Rattle.ps_meaning.specs.ps_typing.WellTyped as typed
use Rattle.ps_heap.specs.Library.{CreateDatabase, OpenDatabase, Commit, MakeTable, EnterString, LookUpString, EnterInt, LookUpInt, Cardinality, LibraryProcedure, OnHeap, ReadLine, AtEnd, Length, IntText}
use Rattle.ps_soundness.specs.Valued.{IsValued, IsGiven}
use Rattle.ps_soundness.specs.Running.{HasField, Runs, AllRun}
use Rattle.ps_soundness.proofs.Sequences.{all_right}
use Rattle.ps_soundness.proofs.Library.{type_given, library_says}

pub given_by : (ty : TyView) → IsValued ty → IsGiven ty
given_by types.Int h = tt
given_by types.Bool h = tt
given_by types.Str h = tt
given_by types.Pntr h = tt
given_by types.Void h = tt
given_by (types.Vector element) h = h
given_by (types.Proc parameters gives) h = h

pub valued_by : (ty : TyView) → IsGiven ty → isnt_void ty ≡ true → IsValued ty
valued_by types.Int h isnt = tt
valued_by types.Bool h isnt = tt
valued_by types.Str h isnt = tt
valued_by types.Pntr h isnt = tt
valued_by types.Void h isnt = absurd cc
valued_by (types.Vector element) h isnt = h
valued_by (types.Proc parameters gives) h isnt = h

-- a field of a class
at_valued : (fields : List Field) (position : ℕ) (ty : TyView) → At (IsOfType ty) fields position →
    AllByRecursion (λ (field : Field). IsValued field.ty) fields → IsValued ty
at_valued [] position ty h are = absurd h
at_valued (field ∷ fields) position ty (inl h) are = subst IsValued h.1 are.0
at_valued (field ∷ fields) position ty (inr (before, e, h)) are = at_valued fields before ty h are.1

pub field_valued : (class : List ℕ) (position : ℕ) (ty : TyView) → HasField class position ty → IsValued ty
field_valued class position ty h = at_valued h.class.fields position ty h.at h.class.valued

-- each name in scope has a type of values
abbrev pub AreValued : List Local → Type 0
AreValued locals = (slot : ℕ) (ty : TyView) → Some_is (IsLocal slot ty) locals → IsValued ty

pub declared_valued : {env with_name : Env} {free behind : Free} {place : Place} {ty : TyView} → Declares env free place ty with_name behind →
    IsValued ty → AreValued env.locals → AreValued with_name.locals
declared_valued (typed.as_local e) is h n t (inl (same, is_ty)) = subst IsValued is_ty is
declared_valued (typed.as_local e) is h n t (inr found) = h n t found
declared_valued (typed.as_kept name scopes at) is h n t found = h n t found

abbrev pub GivesClaim : Claim → Type 0
GivesClaim claim = Runs claim.clause → IsGiven claim.ty

all_given : (of : LibraryProcedure) → IsGiven (type_given of)
all_given (OnHeap CreateDatabase) = tt
all_given (OnHeap OpenDatabase) = tt
all_given (OnHeap Commit) = tt
all_given (OnHeap MakeTable) = tt
all_given (OnHeap EnterString) = tt
all_given (OnHeap LookUpString) = tt
all_given (OnHeap EnterInt) = tt
all_given (OnHeap LookUpInt) = tt
all_given (OnHeap Cardinality) = tt
all_given ReadLine = tt
all_given AtEnd = tt
all_given Length = tt
all_given IntText = tt

library_gives : (code : ℕ) (tys : TyViews) (ty : TyView) (name : List ℕ) → lookup procedures name ≡ Some (library (plain code tys ty)) → IsGiven ty
library_gives code tys ty name found = let told = library_says code tys ty name found in subst IsGiven (sym told.gives_it) (all_given told.of)

rule_gives : {t : Node} {claims : List Claim} {ty : TyView} → Rule t claims ty → AllByRecursion GivesClaim claims → Runs t → IsGiven ty
rule_gives typed.int h r = tt
rule_gives typed.flag h r = tt
rule_gives typed.text h r = tt
rule_gives typed.nil h r = tt
rule_gives typed.class h r = tt
rule_gives typed.empty h r = tt
rule_gives typed.abort h r = tt
rule_gives typed.if_do h r = tt
rule_gives typed.if_else h r = h.1.0 r.1
rule_gives typed.while h r = tt
rule_gives typed.repeat h r = tt
rule_gives (typed.case {d = d} {arms = arms} {value = value} {t = t} equated) h r =
    (all_right GivesClaim (arms_have value t arms) (d has t ∷ []) h.1).0 r.2
rule_gives typed.and h r = tt
rule_gives typed.or h r = tt
rule_gives typed.not h r = tt
rule_gives typed.neg h r = tt
rule_gives typed.plus h r = tt
rule_gives typed.arith h r = tt
rule_gives (typed.compare comparable) h r = tt
rule_gives (typed.is of_class) h r = tt
rule_gives typed.join h r = tt
rule_gives typed.part h r = tt
rule_gives (typed.make of_class are) h r = tt
rule_gives (typed.field {class = class} {index = index} {t = t} is_field) h r = given_by t (field_valued class index t r.0)
rule_gives (typed.set_field is_field) h r = tt
rule_gives (typed.fill {t = t} isnt) h r = valued_by t (h.1.1.0 r.2) isnt
rule_gives typed.elems h r = r.0
rule_gives (typed.element {t = t}) h r = given_by t (h.0 r.0)
rule_gives typed.set_element h r = tt
rule_gives typed.bound h r = tt
rule_gives (typed.call are) h r = absurd r
rule_gives (typed.lib {code = code} {tys = tys} {t = t} of_library are) h r = library_gives code tys t of_library.0 of_library.1
rule_gives (typed.write writable) h r = tt
rule_gives (typed.write_wide writable) h r = tt

mutual
  pub gives : {env : Env} {free behind : Free} {t : Node} {ty : TyView} → IsTyped env free t ty behind → Runs t → AreValued env.locals → IsGiven ty
  gives (typed.by_rule rule are) r valued = rule_gives rule (gives_each are valued) r
  gives (typed.name {place = Plain slot} {ty = ty} found) r valued = given_by ty (valued slot ty found)
  gives (typed.name {place = Kept up position} found) r valued = absurd r
  gives (typed.set_name found te) r valued = tt
  gives (typed.block opens are is) r valued = gives_items are r.1 valued tt
  gives (typed.loop slot_is opens declares is are t) r valued = tt
  gives (typed.scan q_is s_is are) r valued = absurd r
  gives (typed.literal is_body) r valued = absurd r

  pub gives_each : {env : Env} {free behind : Free} {claims : List Claim} → AreTyped env free claims behind → AreValued env.locals →
      AllByRecursion GivesClaim claims
  gives_each typed.AreTyped.no_more valued = tt
  gives_each (typed.AreTyped.one_more first others) valued = (λ r. gives first r valued, gives_each others valued)

  gives_items : {env last : Env} {free behind : Free} {before ty : TyView} {items : Nodes} → AreItems env free before items ty last behind →
      AllRun items →
      AreValued env.locals → IsGiven before → IsGiven ty
  gives_items typed.at_end r valued given = given
  gives_items (typed.a_clause first others) r valued given = gives_items others r.1 valued (gives first r.0 valued)
  gives_items (typed.a_value {of = of} isnt declares te others) r valued given =
      gives_items others r.1 (declared_valued declares (valued_by of (gives te r.0.1 valued) isnt) valued) tt
  gives_items (typed.a_literal declares te others) r valued given = absurd r.0.1
