-- Which programs are well typed: each clause has the type that its rule says, each place is that of a name in scope, each name
-- that is declared takes the next slot of its stack or the next field of its scope, and each scope has its text.
use Rattle.std.specs.Prelude.{◌≡◌, ℕ, ◌+◌, ◌⊎◌, Bool, true, false, Option, Some, None, List, [], ◌∷◌, ◌++◌, length, codes, if◌then◌else◌}
use Rattle.ps_tree.specs.ps_base.TyView.{TyView, TyViews}
use Rattle.ps_tree.specs.ps_base.TyView as types
use Rattle.ps_tree.specs.ps_base.declared.line.Line.{Line}
use Rattle.ps_tree.specs.ps_base.declared.operator.Operator.{Operator}
use Rattle.ps_tree.specs.ps_base.declared.operator.Relation.{Relation}
use Rattle.ps_program.specs.declared.place.Place.{Place}
use Rattle.ps_program.specs.declared.place.Place.TheVariants.{Plain, Kept}
use Rattle.ps_program.specs.Node.{Param, Node, Nodes, none, more, Arms, no_arms, more_arms, arm, BodyNode, body}
use Rattle.ps_program.specs.Node as node
use Rattle.ps_type_text.specs.Texts.{Field, class_text}
use Rattle.ps_typing.specs.Names.{plain, library}
use Rattle.ps_typing.specs.Names as names
use Rattle.ps_typing.specs.Library.{caller, procedures}
use Rattle.ps_typing.specs.Checking.{is_comparable, is_equated, is_writable, isnt_void}
use Rattle.ps_typing.specs.Placing.{is_number}

-- the item at this position is such
abbrev pub At : {A : Type 0} → (A → Type 0) → List A → ℕ → Type 0
At Is [] position = ⊥
At Is (first ∷ rest) position = ((position ≡ 0) × Is first) ⊎ ((before : ℕ) × (position ≡ before + 1) × At Is rest before)

-- some item is such
abbrev pub Some_is : {A : Type 0} → (A → Type 0) → List A → Type 0
Some_is Is [] = ⊥
Some_is Is (first ∷ rest) = Is first ⊎ Some_is Is rest

-- a local whose name is in scope: its slot on the stack of its type
pub record Local : Type 0 where
  pub slot : ℕ
  pub ty : TyView

-- What is in scope where a clause stands: the locals of the body, and what each scope around keeps so far, innermost first.
pub record Env : Type 0 where
  pub locals : List Local
  pub scopes : List (List Field)

-- the next free slot of each stack
pub record Free : Type 0 where
  pub nums : ℕ
  pub refs : ℕ

abbrev pub IsLocal : ℕ → TyView → Local → Type 0
IsLocal slot ty local = (local.slot ≡ slot) × (local.ty ≡ ty)

abbrev pub IsOfType : TyView → Field → Type 0
IsOfType ty field = field.ty ≡ ty

-- the name at this place is in scope and has this type
abbrev pub IsAt : Env → Place → TyView → Type 0
IsAt env (Plain slot) ty = Some_is (IsLocal slot ty) env.locals
IsAt env (Kept up position) ty = At (λ (scope : List Field). At (IsOfType ty) scope position) env.scopes up

-- the slot that a name of this type takes next
abbrev pub next_slot : TyView → Free → ℕ
next_slot ty free = if is_number ty then free.nums else free.refs

abbrev pub behind_one : TyView → Free → Free
behind_one ty free = if is_number ty then record free { nums = free.nums + 1 } else record free { refs = free.refs + 1 }

abbrev pub with_local : ℕ → TyView → Env → Env
with_local slot ty env = record env { locals = record { slot = slot; ty = ty } ∷ env.locals }

abbrev pub with_scopes : List (List Field) → Env → Env
with_scopes scopes env = record env { scopes = scopes }

-- a scope that keeps a name more
abbrev pub and_kept : List Field → List ℕ → TyView → List Field
and_kept scope name ty = scope ++ record { ty = ty; name = name } ∷ []

-- a clause that is to have a type
pub record Claim : Type 0 where
  pub clause : Node
  pub ty : TyView

infix 75 ◌has◌
abbrev pub ◌has◌ : Node → TyView → Claim
clause has ty = record { clause = clause; ty = ty }

abbrev pub all_have : TyView → Nodes → List Claim
all_have ty none = []
all_have ty (more first rest) = first has ty ∷ all_have ty rest

-- of each arm the labels have the type of the value, and the clause that of the whole
abbrev pub arms_have : TyView → TyView → Arms → List Claim
arms_have value ty no_arms = []
arms_have value ty (more_arms (arm labels a) rest) = all_have value labels ++ (a has ty ∷ arms_have value ty rest)

-- as many arguments as parameters, each of its parameter's type
pub data Arguments : Nodes → TyViews → List Claim → Type 0 where
  no_more : Arguments none types.none []
  one_more : {n : Node} {ns : Nodes} {t : TyView} {ts : TyViews} {claims : List Claim} → Arguments ns ts claims →
      Arguments (more n ns) (types.more t ts) (n has t ∷ claims)

abbrev pub types_of_fields : List Field → TyViews
types_of_fields [] = types.none
types_of_fields (field ∷ rest) = types.more field.ty (types_of_fields rest)

-- a class that has this text, and fields of these types; and one that has a field of this type at this position
abbrev pub IsClass : List ℕ → TyViews → Type 0
IsClass text tys = (name : List ℕ) × (fields : List Field) × (text ≡ class_text name fields) × (tys ≡ types_of_fields fields)

abbrev pub IsField : List ℕ → ℕ → TyView → Type 0
IsField text position ty = (name : List ℕ) × (fields : List Field) × (text ≡ class_text name fields) × At (IsOfType ty) fields position

-- a procedure of the library
abbrev pub IsLibrary : ℕ → TyViews → TyView → Type 0
IsLibrary code params gives = (name : List ℕ) × (names.lookup procedures name ≡ Some (library (plain code params gives)))

-- A clause whose parts have these types, in the order of the text, has this type. Names, blocks, loops by `for`, literals and
-- scans have rules of their own, and so has each item of a sequence.
pub data Rule : Node → List Claim → TyView → Type 0 where
  int : {v : _} → Rule (node.Int v) [] types.Int
  flag : {v : Bool} → Rule (node.Flag v) [] types.Bool
  text : {bytes : List ℕ} → Rule (node.Text bytes) [] types.Str
  nil : Rule node.Nil [] types.Pntr
  class : Rule node.Class [] types.Void
  empty : Rule node.Empty [] types.Void
  abort : {line : Line} → Rule (node.Abort line) [] types.Void
  if_do : {c a : Node} → Rule (node.IfDo c a) (c has types.Bool ∷ a has types.Void ∷ []) types.Void
  if_else : {c a b : Node} {t : TyView} → Rule (node.IfElse c a b) (c has types.Bool ∷ a has t ∷ b has t ∷ []) t
  while : {c a : Node} → Rule (node.While c a) (c has types.Bool ∷ a has types.Void ∷ []) types.Void
  repeat : {a c b : Node} → Rule (node.Repeat a c b) (a has types.Void ∷ c has types.Bool ∷ b has types.Void ∷ []) types.Void
  case : {e d : Node} {arms : Arms} {value t : TyView} → is_equated value ≡ true →
      Rule (node.Case e arms d value) (e has value ∷ (arms_have value t arms ++ d has t ∷ [])) t
  and : {a b : Node} → Rule (node.And a b) (a has types.Bool ∷ b has types.Bool ∷ []) types.Bool
  or : {a b : Node} → Rule (node.Or a b) (a has types.Bool ∷ b has types.Bool ∷ []) types.Bool
  not : {e : Node} → Rule (node.Not e) (e has types.Bool ∷ []) types.Bool
  neg : {e : Node} {line : Line} → Rule (node.Neg e line) (e has types.Int ∷ []) types.Int
  plus : {e : Node} → Rule (node.Plus e) (e has types.Int ∷ []) types.Int
  arith : {op : Operator} {a b : Node} {line : Line} → Rule (node.Arith op a b line) (a has types.Int ∷ b has types.Int ∷ []) types.Int
  compare : {op : Relation} {t : TyView} {a b : Node} → is_comparable op t ≡ true → Rule (node.Compare op t a b) (a has t ∷ b has t ∷ []) types.Bool
  is : {e : Node} {class : List ℕ} {tys : TyViews} → IsClass class tys → Rule (node.Is e class) (e has types.Pntr ∷ []) types.Bool
  join : {a b : Node} {line : Line} → Rule (node.Join a b line) (a has types.Str ∷ b has types.Str ∷ []) types.Str
  part : {a i n : Node} {line : Line} → Rule (node.Part a i n line) (a has types.Str ∷ i has types.Int ∷ n has types.Int ∷ []) types.Str
  make : {class : List ℕ} {args : Nodes} {tys : TyViews} {claims : List Claim} → IsClass class tys → Arguments args tys claims →
      Rule (node.Make class args) claims types.Pntr
  field : {p : Node} {class : List ℕ} {index : ℕ} {t : TyView} {line : Line} → IsField class index t →
      Rule (node.Field p class index t line) (p has types.Pntr ∷ []) t
  set_field : {p e : Node} {class : List ℕ} {index : ℕ} {t : TyView} {line : Line} → IsField class index t →
      Rule (node.SetField p class index t e line) (p has types.Pntr ∷ e has t ∷ []) types.Void
  fill : {l u e : Node} {t : TyView} {line : Line} → isnt_void t ≡ true →
      Rule (node.Fill l u e (types.Vector t) line) (l has types.Int ∷ u has types.Int ∷ e has t ∷ []) (types.Vector t)
  elems : {l : Node} {items : Nodes} {t : TyView} {line : Line} →
      Rule (node.Elems l items (types.Vector t) line) (l has types.Int ∷ all_have t items) (types.Vector t)
  element : {v i : Node} {t : TyView} {line : Line} → Rule (node.Element v i t line) (v has types.Vector t ∷ i has types.Int ∷ []) t
  set_element : {v i e : Node} {t : TyView} {line : Line} → Rule (node.SetElement v i e t line)
      (v has types.Vector t ∷ i has types.Int ∷ e has t ∷ []) types.Void
  bound : {v : Node} {upper : Bool} {t : TyView} → Rule (node.Bound v upper) (v has types.Vector t ∷ []) types.Int
  call : {f : Node} {args : Nodes} {line : Line} {tys : TyViews} {t : TyView} {claims : List Claim} → Arguments args tys claims →
      Rule (node.Call f args line) (f has types.Proc tys t ∷ claims) t
  lib : {code : ℕ} {args : Nodes} {line : Line} {tys : TyViews} {t : TyView} {claims : List Claim} → IsLibrary code tys t →
      Arguments args tys claims → Rule (node.Lib code args line) claims t
  write : {e : Node} {t : TyView} {line : Line} → is_writable t ≡ true →
      Rule (node.Write e node.Empty false t line) (e has t ∷ node.Empty has types.Void ∷ []) types.Void
  write_wide : {e w : Node} {t : TyView} {line : Line} → is_writable t ≡ true → Rule (node.Write e w true t line) (e has t ∷ w has types.Int ∷ []) types.Void

-- The scopes inside a clause that has a scope of this text, where it begins and where it ends: none more without a text, and
-- else one more, which keeps nothing at first, and at last the names that its text says.
pub data Opens : Option (List ℕ) → List (List Field) → List (List Field) → List (List Field) → Type 0 where
  unscoped : {around : List (List Field)} → Opens None around around around
  scoped : {around : List (List Field)} {first : Field} {rest : List Field} →
      Opens (Some (class_text (codes "scope") (first ∷ rest))) around ([] ∷ around) ((first ∷ rest) ∷ around)

-- A name that is declared at this place: the next slot of its stack, or the next field of the innermost scope. After it the
-- name is in scope.
pub data Declares : Env → Free → Place → TyView → Env → Free → Type 0 where
  as_local : {env : Env} {free : Free} {slot : ℕ} {ty : TyView} → slot ≡ next_slot ty free →
      Declares env free (Plain slot) ty (with_local slot ty env) (behind_one ty free)
  as_kept : {env : Env} {free : Free} {position : ℕ} {ty : TyView} {scope : List Field} {around : List (List Field)} (name : List ℕ) →
      env.scopes ≡ scope ∷ around → position ≡ length scope → Declares env free (Kept 0 position) ty (with_scopes (and_kept scope name ty ∷ around) env) free

-- Parameters that are handed to a body: each has the next slot of its stack, and a kept one the next field of the scope too.
pub data Takes : Env → Free → List Param → Env → Free → Type 0 where
  no_more : {env : Env} {free : Free} → Takes env free [] env free
  as_local : {env last : Env} {free free' : Free} {slot : ℕ} {ty : TyView} {rest : List Param} →
      slot ≡ next_slot ty free → Takes (with_local slot ty env) (behind_one ty free) rest last free' →
      Takes env free (record { ty = ty; place = Plain slot } ∷ rest) last free'
  as_kept : {env last : Env} {free free' : Free} {position : ℕ} {ty : TyView} {scope : List Field} {around : List (List Field)} {rest : List Param}
      (name : List ℕ) →
      env.scopes ≡ scope ∷ around → position ≡ length scope → Takes (with_scopes (and_kept scope name ty ∷ around) env) (behind_one ty free) rest last free' →
      Takes env free (record { ty = ty; place = Kept 0 position } ∷ rest) last free'

abbrev pub types_of_params : List Param → TyViews
types_of_params [] = types.none
types_of_params (param ∷ rest) = types.more param.ty (types_of_params rest)

-- a loop by `for` has three numbers, and a scan three numbers and three references
abbrev pub behind_loop : Free → Free
behind_loop free = record free { nums = free.nums + 3 }

abbrev pub behind_scan : Free → Free
behind_scan free = record { nums = free.nums + 3; refs = free.refs + 3 }

mutual
  -- a clause with what is in scope, and the free slots before it and after it
  pub data IsTyped : Env → Free → Node → TyView → Free → Type 0 where
    by_rule : {env : Env} {free free' : Free} {clause : Node} {claims : List Claim} {ty : TyView} → Rule clause claims ty →
        AreTyped env free claims free' → IsTyped env free clause ty free'
    name : {env : Env} {free : Free} {place : Place} {ty : TyView} → IsAt env place ty → IsTyped env free (node.Name place ty) ty free
    set_name : {env : Env} {free free' : Free} {place : Place} {ty : TyView} {e : Node} → IsAt env place ty → IsTyped env free e ty free' →
        IsTyped env free (node.SetName place ty e) types.Void free'
    block : {env last : Env} {free free' : Free} {scope : Option (List ℕ)} {at_first at_last : List (List Field)} {items : Nodes} {ty : TyView} →
        Opens scope env.scopes at_first at_last → AreItems (with_scopes at_first env) free types.Void items ty last free' → last.scopes ≡ at_last →
        IsTyped env free (node.Block scope items) ty free'
    -- the control is in scope in what is repeated alone
    loop : {env own : Env} {free behind between free' : Free} {slot : ℕ} {a b c s : Node} {scope : Option (List ℕ)}
        {at_first at_last : List (List Field)} {control : Place} {line : Line} →
        slot ≡ free.nums → Opens scope env.scopes at_first at_last →
        Declares (with_scopes at_first env) (behind_loop free) control types.Int own behind → own.scopes ≡ at_last →
        AreTyped env behind (a has types.Int ∷ b has types.Int ∷ c has types.Int ∷ []) between → IsTyped own between s types.Void free' →
        IsTyped env free (node.For slot a b c scope control s line) types.Void free'
    scan : {env : Env} {free free' : Free} {string : Bool} {a f : Node} {q s : ℕ} {line : Line} →
        q ≡ free.refs → s ≡ free.nums → AreTyped env (behind_scan free) (a has types.Pntr ∷ f has caller (if string then types.Str else types.Int) ∷ []) free' →
        IsTyped env free (node.Scan string a f q s line) types.Int free'
    literal : {env : Env} {free : Free} {params : List Param} {gives : TyView} {tree : Node} {scope : Option (List ℕ)} {line : Line} →
        IsBody env.scopes (body params gives tree scope line) →
        IsTyped env free (node.Proc (body params gives tree scope line)) (types.Proc (types_of_params params) gives) free

  -- clauses, one after the other
  pub data AreTyped : Env → Free → List Claim → Free → Type 0 where
    no_more : {env : Env} {free : Free} → AreTyped env free [] free
    one_more : {env : Env} {free between free' : Free} {clause : Node} {ty : TyView} {rest : List Claim} →
        IsTyped env free clause ty between → AreTyped env between rest free' → AreTyped env free (clause has ty ∷ rest) free'

  -- The items of a sequence after an item of this type, and what is in scope at the end: each but the last is void. The name of
  -- a literal is in scope inside it, any other name after its initial clause.
  pub data AreItems : Env → Free → TyView → Nodes → TyView → Env → Free → Type 0 where
    at_end : {env : Env} {free : Free} {ty : TyView} → AreItems env free ty none ty env free
    a_clause : {env last : Env} {free between free' : Free} {item : Node} {rest : Nodes} {of ty : TyView} →
        IsTyped env free item of between → AreItems env between of rest ty last free' → AreItems env free types.Void (more item rest) ty last free'
    a_value : {env with_name last : Env} {free behind between free' : Free} {place : Place} {e : Node} {rest : Nodes} {of ty : TyView} →
        isnt_void of ≡ true → Declares env free place of with_name behind → IsTyped env behind e of between →
        AreItems with_name between types.Void rest ty last free' →
        AreItems env free types.Void (more (node.Let place of e) rest) ty last free'
    a_literal : {env with_name last : Env} {free behind between free' : Free} {place : Place} {procedure : BodyNode} {rest : Nodes} {of ty : TyView} →
        Declares env free place of with_name behind → IsTyped with_name behind (node.Proc procedure) of between →
        AreItems with_name between types.Void rest ty last free' →
        AreItems env free types.Void (more (node.Let place of (node.Proc procedure)) rest) ty last free'

  -- a body inside these scopes: it has locals of its own
  pub data IsBody : List (List Field) → BodyNode → Type 0 where
    of_params : {around at_first at_last : List (List Field)} {params : List Param} {gives : TyView} {tree : Node} {scope : Option (List ℕ)}
        {line : Line} {env : Env} {free free' : Free} →
        Opens scope around at_first at_last → Takes (record { locals = []; scopes = at_first }) (record { nums = 0; refs = 0 }) params env free →
        env.scopes ≡ at_last →
        IsTyped env free tree gives free' → IsBody around (body params gives tree scope line)

-- a program is a body that is handed nothing and gives nothing
abbrev pub IsWellTyped : BodyNode → Type 0
IsWellTyped (body params gives tree scope line) = (params ≡ []) × (gives ≡ types.Void) × IsBody [] (body params gives tree scope line)
