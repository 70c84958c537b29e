-- The parts of a clause that runs run, and it names rightly.
use Rattle.std.proofs.Common.{List, [], ◌∷◌, ◌++◌, Option, Some, None}
use Rattle.std.specs.List.{AllByRecursion}
use Rattle.ps_meaning.specs.ps_base.TyView.{TyView, TyViews}
use Rattle.ps_meaning.specs.ps_program.Node.{Node, Nodes, none, more, Arms, no_arms, more_arms, arm}
use Rattle.ps_type_text.specs.Texts.{Field}
use Rattle.ps_meaning.specs.ps_typing.WellTyped.{Claim, ◌has◌, all_have, arms_have, Rule, Arguments}
use Rattle.ps_meaning.specs.ps_typing.WellTyped as typed
use Rattle.ps_soundness.specs.Running.{RunsIn, AllRunIn, ArmsRunIn}
use Rattle.ps_soundness.proofs.Rules.{NamesRightly}

-- a clause that is to have a type runs
abbrev pub RunsClaim : Option (List (List Field)) → Claim → Type 0
RunsClaim around claim = RunsIn around claim.clause

abbrev pub AllRunClaims : Option (List (List Field)) → List Claim → Type 0
AllRunClaims around claims = AllByRecursion (RunsClaim around) claims

both_run : (around : Option (List (List Field))) (xs ys : List Claim) → AllRunClaims around xs → AllRunClaims around ys → AllRunClaims around (xs ++ ys)
both_run around [] ys h k = k
both_run around (x ∷ xs) ys h k = (h.0, both_run around xs ys h.1 k)

args_run : (around : Option (List (List Field))) {args : Nodes} {tys : TyViews} {claims : List Claim} → Arguments args tys claims → AllRunIn around args → AllRunClaims around claims
args_run around typed.Arguments.no_more r = tt
args_run around (typed.Arguments.one_more rest) r = (r.0, args_run around rest r.1)

items_run : (around : Option (List (List Field))) (ty : TyView) (items : Nodes) → AllRunIn around items → AllRunClaims around (all_have ty items)
items_run around ty none r = tt
items_run around ty (more first rest) r = (r.0, items_run around ty rest r.1)

arms_run : (around : Option (List (List Field))) (value ty : TyView) (arms : Arms) → ArmsRunIn around arms → AllRunClaims around (arms_have value ty arms)
arms_run around value ty no_arms r = tt
arms_run around value ty (more_arms (arm labels a) rest) r =
    both_run around (all_have value labels) (a has ty ∷ arms_have value ty rest) (items_run around value labels r.0) (r.1, arms_run around value ty rest r.2)

pub parts_run : (around : Option (List (List Field))) {t : Node} {claims : List Claim} {ty : TyView} → Rule t claims ty → RunsIn around t → AllRunClaims around claims
parts_run around typed.int r = tt
parts_run around typed.flag r = tt
parts_run around typed.text r = tt
parts_run around typed.nil r = tt
parts_run around typed.class r = tt
parts_run around typed.empty r = tt
parts_run around typed.abort r = tt
parts_run around typed.if_do r = (r.0, (r.1, tt))
parts_run around typed.if_else r = (r.0, (r.1, (r.2, tt)))
parts_run around typed.while r = (r.0, (r.1, tt))
parts_run around typed.repeat r = (r.0, (r.1, (r.2, tt)))
parts_run around (typed.case {d = d} {arms = arms} {value = value} {t = t} equated) r =
    (r.0, both_run around (arms_have value t arms) (d has t ∷ []) (arms_run around value t arms r.1) (r.2, tt))
parts_run around typed.and r = (r.0, (r.1, tt))
parts_run around typed.or r = (r.0, (r.1, tt))
parts_run around typed.not r = (r, tt)
parts_run around typed.neg r = (r, tt)
parts_run around typed.plus r = (r, tt)
parts_run around typed.arith r = (r.0, (r.1, tt))
parts_run around (typed.compare comparable) r = (r.0, (r.1, tt))
parts_run around (typed.is of_class) r = (r.1, tt)
parts_run around typed.join r = (r.0, (r.1, tt))
parts_run around typed.part r = (r.0, (r.1, (r.2, tt)))
parts_run around (typed.make of_class are) r = args_run around are r.1
parts_run around (typed.field is_field) r = (r.1, tt)
parts_run around (typed.set_field is_field) r = (r.1, (r.2, tt))
parts_run around (typed.fill isnt) r = (r.0, (r.1, (r.2, tt)))
parts_run around (typed.elems {items = items} {t = t}) r = (r.1, items_run around t items r.2)
parts_run around typed.element r = (r.0, (r.1, tt))
parts_run around typed.set_element r = (r.0, (r.1, (r.2, tt)))
parts_run around typed.bound r = (r, tt)
parts_run None (typed.call are) r = absurd r
parts_run (Some wholes) (typed.call are) r = (r.0, args_run (Some wholes) are r.1)
parts_run around (typed.lib of_library are) r = args_run around are r
parts_run around (typed.write writable) r = (r.0, (r.1, tt))
parts_run around (typed.write_wide writable) r = (r.0, (r.1, tt))

pub named_rightly : (around : Option (List (List Field))) {t : Node} {claims : List Claim} {ty : TyView} → Rule t claims ty → RunsIn around t → NamesRightly t
named_rightly around typed.int r = r
named_rightly around typed.text r = r
named_rightly around (typed.make of_class are) r = r.0
named_rightly around (typed.field is_field) r = r.0
named_rightly around (typed.set_field is_field) r = r.0
named_rightly around typed.elems r = r.0
named_rightly around other r = tt
