-- What each fit clause gives is of a type that has values, or void, where its names are of such types.
use Rattle.std.proofs.Common.{◌≡◌, ℕ, List, [], ◌∷◌, ◌++◌, Option, Some, sym, subst, append_assoc}
use Rattle.std.specs.List.{AllByRecursion}
use Rattle.ps_gen.specs.ps_base.TyView.{TyView, TyViews}
use Rattle.ps_gen.specs.ps_program.Node.{Param, Node, Nodes, none, more, Arms, no_arms, more_arms, arm, BodyNode, body}
use Rattle.ps_gen.specs.ps_base.TyView as types
use Rattle.ps_gen.specs.ps_base.declared.line.Line.{Line}
use Rattle.ps_gen.specs.ps_program.Node as node
use Rattle.ps_typing_laws.specs.ps_typing.Names.{lookup, plain, library}
use Rattle.ps_typing_laws.specs.ps_typing.Library.{procedures}
use Rattle.ps_typing_laws.specs.ps_typing.WellTyped.{Claim, ◌has◌, all_have, arms_have, Arguments, Rule, types_of_params}
use Rattle.ps_typing_laws.specs.ps_typing.WellTyped as typed
use Rattle.ps_typing_laws.specs.Counted.{Each}
use Rattle.ps_soundness.specs.Valued.{IsValued, IsGiven}
use Rattle.ps_stepping.specs.ps_heap.Library.{CreateDatabase, OpenDatabase, Commit, MakeTable, EnterString, LookUpString, EnterInt, LookUpInt, Cardinality, LibraryProcedure, OnHeap, ReadLine, AtEnd, Length, IntText}
use Rattle.ps_soundness.proofs.Sequences.{all_right}
use Rattle.ps_soundness.proofs.Library.{type_given, library_says}
use Rattle.ps_soundness.proofs.Valued.{given_by, valued_by, field_valued}
use Rattle.heap_fit.specs.Bodies.{Level, InScope, NamesWell, IsFit, AreFit, AreItems, IsFitBody}
use Rattle.heap_fit.specs.Bodies as fit
use Rattle.ps_code_laws.specs.Literals.{BodiesAre, AllBodiesAre, ArmsBodiesAre}

-- a fit body takes and gives values
pub body_valued : {levels : List Level} {params : List Param} {gives : TyView} {tree : Node} {scope : Option (List ℕ)} {line : Line} →
    IsFitBody levels (body params gives tree scope line) → IsValued (types.Proc (types_of_params params) gives)
body_valued (fit.of_params opens takes t valued slots) = valued

pub literal_valued : {env : InScope} {of : BodyNode} {ty : TyView} → IsFit env (node.Proc of) ty → IsValued ty
literal_valued (fit.literal is_body) = body_valued is_body
literal_valued (fit.by_rule rule names parts) = elim rule [ ]

-- each body is such
module _ (P : BodyNode → Type 0) where
  -- a clause whose bodies fit, and whose names are of such types
  abbrev pub Stands : (TyView → Type 0) → Claim → Type 0
  Stands Q claim = BodiesAre P Q claim.clause

  labels_stand : (Q : TyView → Type 0) (value : TyView) (labels : Nodes) (claims : List Claim) → AllBodiesAre P Q labels → Each (Stands Q) claims →
      Each (Stands Q) (all_have value labels ++ claims)
  labels_stand Q value none claims b h = h
  labels_stand Q value (more label rest) claims b h = (b.0, labels_stand Q value rest claims b.1 h)

  all_stand : (Q : TyView → Type 0) (ty : TyView) (items : Nodes) → AllBodiesAre P Q items → Each (Stands Q) (all_have ty items)
  all_stand Q ty none b = tt
  all_stand Q ty (more item rest) b = (b.0, all_stand Q ty rest b.1)

  args_stand : (Q : TyView → Type 0) {args : Nodes} {tys : TyViews} {claims : List Claim} → Arguments args tys claims → AllBodiesAre P Q args →
      Each (Stands Q) claims
  args_stand Q typed.Arguments.no_more b = tt
  args_stand Q (typed.Arguments.one_more rest) b = (b.0, args_stand Q rest b.1)

  arms_stand : (Q : TyView → Type 0) (value ty : TyView) (arms : Arms) (claims : List Claim) → ArmsBodiesAre P Q arms → Each (Stands Q) claims →
      Each (Stands Q) (arms_have value ty arms ++ claims)
  arms_stand Q value ty no_arms claims b h = h
  arms_stand Q value ty (more_arms (arm labels a) rest) claims b h =
      subst (Each (Stands Q)) (sym (append_assoc (all_have value labels) (a has ty ∷ arms_have value ty rest) claims))
      (labels_stand Q value labels (a has ty ∷ (arms_have value ty rest ++ claims)) b.0 (b.1, arms_stand Q value ty rest claims b.2 h))

  -- the bodies of the parts of a clause fit
  pub parts_stand : (Q : TyView → Type 0) {t : Node} {claims : List Claim} {ty : TyView} → Rule t claims ty → BodiesAre P Q t → Each (Stands Q) claims
  parts_stand Q typed.int b = tt
  parts_stand Q typed.flag b = tt
  parts_stand Q typed.text b = tt
  parts_stand Q typed.nil b = tt
  parts_stand Q typed.class b = tt
  parts_stand Q typed.empty b = tt
  parts_stand Q typed.abort b = tt
  parts_stand Q typed.if_do b = (b.0, (b.1, tt))
  parts_stand Q typed.if_else b = (b.0, (b.1, (b.2, tt)))
  parts_stand Q typed.while b = (b.0, (b.1, tt))
  parts_stand Q typed.repeat b = (b.0, (b.1, (b.2, tt)))
  parts_stand Q (typed.case {d = d} {arms = arms} {value = value} {t = t} ok) b = (b.0, arms_stand Q value t arms (d has t ∷ []) b.1 (b.2, tt))
  parts_stand Q typed.and b = (b.0, (b.1, tt))
  parts_stand Q typed.or b = (b.0, (b.1, tt))
  parts_stand Q typed.not b = (b, tt)
  parts_stand Q typed.neg b = (b, tt)
  parts_stand Q typed.plus b = (b, tt)
  parts_stand Q typed.arith b = (b.0, (b.1, tt))
  parts_stand Q (typed.compare ok) b = (b.0, (b.1, tt))
  parts_stand Q (typed.is of_class) b = (b, tt)
  parts_stand Q typed.join b = (b.0, (b.1, tt))
  parts_stand Q typed.part b = (b.0, (b.1, (b.2, tt)))
  parts_stand Q (typed.make of_class are) b = args_stand Q are b
  parts_stand Q (typed.field is_field) b = (b, tt)
  parts_stand Q (typed.set_field is_field) b = (b.0, (b.1, tt))
  parts_stand Q (typed.fill isnt) b = (b.0, (b.1, (b.2, tt)))
  parts_stand Q (typed.elems {items = items} {t = t}) b = (b.0, all_stand Q t items b.1)
  parts_stand Q typed.element b = (b.0, (b.1, tt))
  parts_stand Q typed.set_element b = (b.0, (b.1, (b.2, tt)))
  parts_stand Q typed.bound b = (b, tt)
  parts_stand Q (typed.call are) b = (b.0, args_stand Q are b.1)
  parts_stand Q (typed.lib of_library are) b = args_stand Q are b
  parts_stand Q (typed.write ok) b = (b.0, (b.1, tt))
  parts_stand Q (typed.write_wide ok) b = (b.0, (b.1, tt))

  abbrev pub GivesClaim : Claim → Type 0
  GivesClaim claim = IsGiven claim.ty

  procedure_gives : (of : LibraryProcedure) → IsGiven (type_given of)
  procedure_gives (OnHeap CreateDatabase) = tt
  procedure_gives (OnHeap OpenDatabase) = tt
  procedure_gives (OnHeap Commit) = tt
  procedure_gives (OnHeap MakeTable) = tt
  procedure_gives (OnHeap EnterString) = tt
  procedure_gives (OnHeap LookUpString) = tt
  procedure_gives (OnHeap EnterInt) = tt
  procedure_gives (OnHeap LookUpInt) = tt
  procedure_gives (OnHeap Cardinality) = tt
  procedure_gives ReadLine = tt
  procedure_gives AtEnd = tt
  procedure_gives Length = tt
  procedure_gives IntText = tt

  library_gives : (code : ℕ) (tys : TyViews) (ty : TyView) (name : List ℕ) → lookup procedures name ≡ Some (library (plain code tys ty)) → IsGiven ty
  library_gives code tys ty name found = let told = library_says code tys ty name found in subst IsGiven (sym told.gives_it) (procedure_gives told.of)

  rule_gives : {t : Node} {claims : List Claim} {ty : TyView} → Rule t claims ty → AllByRecursion GivesClaim claims → NamesWell t → IsGiven ty
  rule_gives typed.int h r = tt
  rule_gives typed.flag h r = tt
  rule_gives typed.text h r = tt
  rule_gives typed.nil h r = tt
  rule_gives typed.class h r = tt
  rule_gives typed.empty h r = tt
  rule_gives typed.abort h r = tt
  rule_gives typed.if_do h r = tt
  rule_gives typed.if_else h r = h.1.0
  rule_gives typed.while h r = tt
  rule_gives typed.repeat h r = tt
  rule_gives (typed.case {d = d} {arms = arms} {value = value} {t = t} equated) h r =
      (all_right GivesClaim (arms_have value t arms) (d has t ∷ []) h.1).0
  rule_gives typed.and h r = tt
  rule_gives typed.or h r = tt
  rule_gives typed.not h r = tt
  rule_gives typed.neg h r = tt
  rule_gives typed.plus h r = tt
  rule_gives typed.arith h r = tt
  rule_gives (typed.compare comparable) h r = tt
  rule_gives (typed.is of_class) h r = tt
  rule_gives typed.join h r = tt
  rule_gives typed.part h r = tt
  rule_gives (typed.make of_class are) h r = tt
  rule_gives (typed.field {class = class} {index = index} {t = t} is_field) h r = given_by t (field_valued class index t r)
  rule_gives (typed.set_field is_field) h r = tt
  rule_gives (typed.fill {t = t} isnt) h r = valued_by t h.1.1.0 isnt
  rule_gives typed.elems h r = r
  rule_gives (typed.element {t = t}) h r = given_by t h.0
  rule_gives typed.set_element h r = tt
  rule_gives typed.bound h r = tt
  rule_gives (typed.call are) h r = h.0.1
  rule_gives (typed.lib {code = code} {tys = tys} {t = t} of_library are) h r = library_gives code tys t of_library.0 of_library.1
  rule_gives (typed.write writable) h r = tt
  rule_gives (typed.write_wide writable) h r = tt

  mutual
    pub gives : {env : InScope} {t : Node} {ty : TyView} → IsFit env t ty → BodiesAre P IsValued t → IsGiven ty
    gives (fit.by_rule rule names parts) b = rule_gives rule (gives_each parts (parts_stand IsValued rule b)) names
    gives (fit.name {ty = ty} at) b = given_by ty b
    gives (fit.set_name at te) b = tt
    gives (fit.block opens are) b = gives_items are b tt
    gives (fit.loop opens declares are t) b = tt
    gives (fit.scan are) b = tt
    gives (fit.literal is_body) b = body_valued is_body

    pub gives_each : {env : InScope} {claims : List Claim} → AreFit env claims → Each (Stands IsValued) claims → AllByRecursion GivesClaim claims
    gives_each fit.AreFit.no_more stand = tt
    gives_each (fit.one_more first others) stand = (gives first stand.0, gives_each others stand.1)

    gives_items : {scope : Option (List ℕ)} {env last : InScope} {before ty : TyView} {items : Nodes} → AreItems scope env before items ty last →
        AllBodiesAre P IsValued items → IsGiven before → IsGiven ty
    gives_items fit.at_end b given = given
    gives_items (fit.a_clause first others) b given = gives_items others b.1 (gives first b.0)
    gives_items (fit.a_value isnt declares te others) b given = gives_items others b.1 tt
    gives_items (fit.a_literal declares te others) b given = gives_items others b.1 tt
