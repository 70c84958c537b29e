-- A clause with a rule runs inside scopes where its parts do.
use Rattle.std.proofs.Common.{List, [], ◌∷◌, ◌++◌}
use Rattle.std.specs.Prelude.{Some}
use Rattle.ps_base.specs.TyView.{TyView, TyViews}
use Rattle.ps_program.specs.Node.{Node, Nodes, none, more, Arms, no_arms, more_arms, arm}
use Rattle.ps_typing_laws.specs.ps_type_text.Texts.{Field}
use Rattle.ps_typing_laws.specs.ps_typing.WellTyped.{Claim, ◌has◌, all_have, arms_have, Arguments, Rule}
use Rattle.ps_typing_laws.specs.ps_typing.WellTyped as rule
use Rattle.ps_typing_laws.specs.Counted.{Each}
use Rattle.ps_typing_laws.proofs.Tracked.{clauses_of}
use Rattle.ps_fit_laws.specs.ps_soundness.Running.{RunsIn, AllRunIn, ArmsRunIn}
use Rattle.ps_fit_laws.specs.Fitting.{Fits, AllFit, ArmsFit}

join : (P : Node → Type 0) (xs ys : List Claim) → Each P (clauses_of xs) → Each P (clauses_of ys) → Each P (clauses_of (xs ++ ys))
join P [] ys h k = k
join P (x ∷ xs) ys h k = (h.0, join P xs ys h.1 k)

split : (P : Node → Type 0) (xs ys : List Claim) → Each P (clauses_of (xs ++ ys)) → Each P (clauses_of xs) × Each P (clauses_of ys)
split P [] ys h = (tt, h)
split P (x ∷ xs) ys h = let u = split P xs ys h.1 in ((h.0, u.0), u.1)

-- arguments, items of one type, and arms
args_fit : {args : Nodes} {tys : TyViews} {claims : List Claim} → Arguments args tys claims → AllFit args → Each Fits (clauses_of claims)
args_fit rule.no_more f = tt
args_fit (rule.one_more args) f = (f.0, args_fit args f.1)

all_fit : (ty : TyView) (items : Nodes) → AllFit items → Each Fits (clauses_of (all_have ty items))
all_fit ty none f = tt
all_fit ty (more first rest) f = (f.0, all_fit ty rest f.1)

arms_fit : (value ty : TyView) (arms : Arms) → ArmsFit arms → Each Fits (clauses_of (arms_have value ty arms))
arms_fit value ty no_arms f = tt
arms_fit value ty (more_arms (arm labels a) rest) f =
    join Fits (all_have value labels) (a has ty ∷ arms_have value ty rest) (all_fit value labels f.0) (f.1, arms_fit value ty rest f.2)

module _ (wholes : List (List Field)) where
  abbrev pub RunHere : Node → Type 0
  RunHere = RunsIn (Some wholes)

  args_run : {args : Nodes} {tys : TyViews} {claims : List Claim} → Arguments args tys claims → Each RunHere (clauses_of claims) →
      AllRunIn (Some wholes) args
  args_run rule.no_more h = tt
  args_run (rule.one_more args) h = (h.0, args_run args h.1)

  all_run : (ty : TyView) (items : Nodes) → Each RunHere (clauses_of (all_have ty items)) → AllRunIn (Some wholes) items
  all_run ty none h = tt
  all_run ty (more first rest) h = (h.0, all_run ty rest h.1)

  arms_run : (value ty : TyView) (arms : Arms) → Each RunHere (clauses_of (arms_have value ty arms)) → ArmsRunIn (Some wholes) arms
  arms_run value ty no_arms h = tt
  arms_run value ty (more_arms (arm labels a) rest) h =
      let u = split RunHere (all_have value labels) (a has ty ∷ arms_have value ty rest) h in
      (all_run value labels u.0, u.1.0, arms_run value ty rest u.1.1)

  -- what a clause that fits has of its parts, and what it has from them
  pub record OfParts (clause : Node) (claims : List Claim) : Type 0 where
    pub fit : Each Fits (clauses_of claims)
    pub runs : Each RunHere (clauses_of claims) → RunHere clause

  pub of_parts : {clause : Node} {claims : List Claim} {ty : TyView} → Rule clause claims ty → Fits clause → OfParts clause claims
  of_parts rule.int f = record { fit = tt; runs = λ h. f }
  of_parts rule.flag f = record { fit = tt; runs = λ h. tt }
  of_parts rule.text f = record { fit = tt; runs = λ h. f }
  of_parts rule.nil f = record { fit = tt; runs = λ h. tt }
  of_parts rule.class f = record { fit = tt; runs = λ h. tt }
  of_parts rule.empty f = record { fit = tt; runs = λ h. tt }
  of_parts rule.abort f = record { fit = tt; runs = λ h. tt }
  of_parts rule.if_do f = record { fit = (f.0, (f.1, tt)); runs = λ h. (h.0, h.1.0) }
  of_parts rule.if_else f = record { fit = (f.0, (f.1, (f.2, tt))); runs = λ h. (h.0, h.1.0, h.1.1.0) }
  of_parts rule.while f = record { fit = (f.0, (f.1, tt)); runs = λ h. (h.0, h.1.0) }
  of_parts rule.repeat f = record { fit = (f.0, (f.1, (f.2, tt))); runs = λ h. (h.0, h.1.0, h.1.1.0) }
  of_parts (rule.case {d = d} {arms = arms} {value = value} {t = t} is) f = record {
    fit = (f.0, join Fits (arms_have value t arms) (d has t ∷ []) (arms_fit value t arms f.1) (f.2, tt));
    runs = λ h. let u = split RunHere (arms_have value t arms) (d has t ∷ []) h.1 in (h.0, arms_run value t arms u.0, u.1.0);
  }
  of_parts rule.and f = record { fit = (f.0, (f.1, tt)); runs = λ h. (h.0, h.1.0) }
  of_parts rule.or f = record { fit = (f.0, (f.1, tt)); runs = λ h. (h.0, h.1.0) }
  of_parts rule.not f = record { fit = (f, tt); runs = λ h. h.0 }
  of_parts rule.neg f = record { fit = (f, tt); runs = λ h. h.0 }
  of_parts rule.plus f = record { fit = (f, tt); runs = λ h. h.0 }
  of_parts rule.arith f = record { fit = (f.0, (f.1, tt)); runs = λ h. (h.0, h.1.0) }
  of_parts (rule.compare is) f = record { fit = (f.0, (f.1, tt)); runs = λ h. (h.0, h.1.0) }
  of_parts (rule.is class) f = record { fit = (f.1, tt); runs = λ h. (f.0, h.0) }
  of_parts rule.join f = record { fit = (f.0, (f.1, tt)); runs = λ h. (h.0, h.1.0) }
  of_parts rule.part f = record { fit = (f.0, (f.1, (f.2, tt))); runs = λ h. (h.0, h.1.0, h.1.1.0) }
  of_parts (rule.make class args) f = record { fit = args_fit args f.1; runs = λ h. (f.0, args_run args h) }
  of_parts (rule.field is) f = record { fit = (f.1, tt); runs = λ h. (f.0, h.0) }
  of_parts (rule.set_field is) f = record { fit = (f.1, (f.2, tt)); runs = λ h. (f.0, h.0, h.1.0) }
  of_parts (rule.fill is) f = record { fit = (f.0, (f.1, (f.2, tt))); runs = λ h. (h.0, h.1.0, h.1.1.0) }
  of_parts (rule.elems {items = items} {t = t}) f =
      record { fit = (f.1, all_fit t items f.2); runs = λ h. (f.0, h.0, all_run t items h.1) }
  of_parts rule.element f = record { fit = (f.0, (f.1, tt)); runs = λ h. (h.0, h.1.0) }
  of_parts rule.set_element f = record { fit = (f.0, (f.1, (f.2, tt))); runs = λ h. (h.0, h.1.0, h.1.1.0) }
  of_parts rule.bound f = record { fit = (f, tt); runs = λ h. h.0 }
  of_parts (rule.call args) f = record { fit = (f.0, args_fit args f.1); runs = λ h. (h.0, args_run args h.1) }
  of_parts (rule.lib known args) f = record { fit = args_fit args f; runs = λ h. args_run args h }
  of_parts (rule.write is) f = record { fit = (f.0, (f.1, tt)); runs = λ h. (h.0, h.1.0) }
  of_parts (rule.write_wide is) f = record { fit = (f.0, (f.1, tt)); runs = λ h. (h.0, h.1.0) }
