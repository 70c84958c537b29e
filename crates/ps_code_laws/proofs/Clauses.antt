-- The typed clauses that run, without their environments: what a machine with so many locals on each stack needs to know of them.
use Rattle.std.proofs.Common.{◌≡◌, ℕ, ◌+◌, ◌<◌, ◌≤◌, ℤ, Bool, true, false, List, [], ◌∷◌, Option, Some, None}
use Rattle.ps_gen.specs.ps_base.TyView.{TyView, TyViews}
use Rattle.ps_gen.specs.ps_base.TyView as types
use Rattle.ps_gen.specs.ps_base.declared.line.Line.{Line}
use Rattle.ps_gen.specs.ps_base.declared.operator.Operator.{Operator}
use Rattle.ps_gen.specs.ps_base.declared.operator.Relation.{Relation}
use Rattle.ps_gen.specs.ps_base.declared.operator.Relation.TheVariants as relation
use Rattle.ps_gen.specs.ps_program.declared.place.Place.{Place}
use Rattle.ps_gen.specs.ps_program.declared.place.Place.TheVariants.{Plain, Kept}
use Rattle.ps_gen.specs.ps_program.Node.{Param, Node, Nodes, none, more, Arms, no_arms, more_arms, arm, BodyNode, body}
use Rattle.ps_gen.specs.ps_program.Node as node
use Rattle.ps_typing_laws.specs.ps_typing.Checking.{is_equated, is_ordered, is_comparable, is_writable}
use Rattle.ps_type_text.specs.Texts.{Field, class_text, IsNamed}
use Rattle.ps_typing_laws.specs.ps_typing.WellTyped.{types_of_params}
use Rattle.ps_stepping.specs.ps_heap.Operators.{is_int}
use Rattle.ps_stepping.specs.ps_heap.Objects.{Heap}
use Rattle.ps_stepping.specs.ps_heap.Values.{Value}
use Rattle.ps_stepping.specs.ps_meaning.Evaluation.{call_meant, eval, eval_all}
use Rattle.ps_stepping.specs.ps_meaning.Calls.{context}
use Rattle.ps_stepping.specs.ps_heap.Library.{LibraryProcedure, library_procedure}
use Rattle.ps_typing_laws.specs.ps_typing.Library.{procedures, caller, two}
use Rattle.ps_gen.specs.ps_emitter.Giving.{library_result}
use Rattle.ps_soundness.specs.Running.{IsScopeText, HasField}
use Rattle.ps_code_laws.specs.Fitting.{IsOf}
use Rattle.ps_soundness.specs.Valued.{IsValued}
use Rattle.ps_soundness.proofs.Library.{parameters_of, type_given}
use Rattle.ps_soundness.proofs.Combining.{Sound, sound_then, sound_give}
use Rattle.ps_soundness.proofs.Calling.{ValuesOf}
use Rattle.ps_soundness.proofs.Scans.{key_type, SparesThree}
use Rattle.ps_soundness.proofs.Loops.{Settable, Turns, Spares}
use Rattle.heap_fit.specs.Bodies.{Level}
use Rattle.ps_code_laws.specs.Literals.{BodiesAre, AllBodiesAre}
use Rattle.ps_code_laws.proofs.Known.{HasPlace, opened}
use Rattle.ps_code_laws.proofs.Keeps.{on_nums, on_refs, Keeps}
use Rattle.fit_soundness.proofs.Levels.{fits}
use Rattle.fit_soundness.proofs.Standings.{Standing, in_levels}

-- the types whose values are numbers, those whose values are references, and those that can be written
pub data IsNum : TyView → Type 0 where
  int : IsNum types.Int
  bool : IsNum types.Bool

pub data IsRef : TyView → Type 0 where
  str : IsRef types.Str
  pntr : IsRef types.Pntr
  vector : {element : TyView} → IsRef (types.Vector element)
  proc : {params : TyViews} {gives : TyView} → IsRef (types.Proc params gives)

-- a type that isn't void is that of numbers, or that of references
pub data Kind (ty : TyView) : Type 0 where
  of_num : IsNum ty → Kind ty
  of_ref : IsRef ty → Kind ty

pub data IsObject : TyView → Type 0 where
  pntr : IsObject types.Pntr
  vector : {element : TyView} → IsObject (types.Vector element)

pub data IsShown : TyView → Type 0 where
  number : {ty : TyView} → IsNum ty → IsShown ty
  text : IsShown types.Str

-- what a loop by `for` needs: its three locals, and that nothing in it sets them but itself
pub record IsLoop (nums slot : ℕ) (b c s : Node) : Type 0 where
  pub three : slot + 2 < nums
  pub limit_keeps : Keeps (on_nums slot) b
  pub step_keeps : Keeps (on_nums slot) c
  pub step_keeps_limit : Keeps (on_nums (slot + 1)) c
  pub keeps : Keeps (on_nums slot) s
  pub keeps_limit : Keeps (on_nums (slot + 1)) s
  pub keeps_step : Keeps (on_nums (slot + 2)) s

-- however many turns may be left and calls are round it, and from each heap on, a clause yields a value of its type
abbrev pub Sounds : Standing → Standing → Node → TyView → Type 0
Sounds first last t ty = (n depth : ℕ) (heap : Heap) → Sound in_levels heap first last ty (eval (context n depth) t)

-- what a loop by `for` keeps of what is known, and of what is known after a turn
pub record KeepsTypes (known own : Standing) (slot : ℕ) : Type 0 where
  pub spares : (at : ℕ) → slot ≤ at → at < slot + 3 → Spares in_levels known at
  pub counts : (z : ℤ) → Settable in_levels own known (Plain slot) z

-- a control has a number that is an int, from each heap on
abbrev pub Controls : Standing → Standing → Place → Type 0
Controls first last control = (z : ℤ) → is_int z ≡ true → Settable in_levels first last control z

-- and so has it in a scope of its own in each turn, however many turns may be left and calls are round it
abbrev pub TurnsIn : Standing → List ℕ → Place → Node → Type 0
TurnsIn known bytes control s = (n depth : ℕ) → Turns in_levels known known (Some bytes) control (eval (context n depth) s)

-- a local that is none of the three of a loop
pub record IsApart (slot control : ℕ) : Type 0 where
  pub first : control ≡ slot → ⊥
  pub second : control ≡ slot + 1 → ⊥
  pub third : control ≡ slot + 2 → ⊥

-- where the control of a loop is: in such a local, or kept by the scope of the turn
pub data IsControl (nums slot : ℕ) (known : Standing) : Place → Type 0 where
  by_local : {control : ℕ} → control < nums → IsApart slot control → IsControl nums slot known (Plain control)
  by_scope : {up position : ℕ} → HasPlace known up position types.Int → IsControl nums slot known (Kept up position)

-- what a scan needs: its locals of each row are free, and its procedure, called with a key and what is under it, yields a bool
pub record IsScan (known : Standing) (strings : Bool) (q s : ℕ) : Type 0 where
  pub pntrs : SparesThree in_levels known types.Pntr q
  pub procedures : SparesThree in_levels known (caller (key_type strings)) q
  pub texts : SparesThree in_levels known types.Str q
  pub ints : SparesThree in_levels known types.Int s
  pub answers : (n depth : ℕ) (line : Line) (heap : Heap) (procedure : Value) (args : List Value) → IsOf heap (caller (key_type strings)) procedure →
      ValuesOf fits heap (two (key_type strings) types.Pntr) args → Sound in_levels heap known known types.Bool (call_meant (context n depth) line procedure args)

-- the types of arguments as those of fields, by which the words of a row go
abbrev pub fields_by : TyViews → List Field
fields_by types.none = []
fields_by (types.more ty rest) = record { ty = ty; name = [] } ∷ fields_by rest

-- a procedure of the library of this number gives this type, which is the one that the generator takes for it
pub record IsLibraryCall (code : ℕ) (of : LibraryProcedure) (ty : TyView) : Type 0 where
  pub by_number : library_procedure code ≡ Some of
  pub gives : ty ≡ type_given of
  pub result : library_result procedures code ≡ ty

-- what two values of a type can be compared by
pub data IsCompared : Relation → TyView → Type 0 where
  numbers : {op : Relation} {ty : TyView} → IsNum ty → IsCompared op ty
  texts : {op : Relation} → IsCompared op types.Str
  alike : {ty : TyView} → IsObject ty → IsCompared relation.Equal ty
  unlike : {ty : TyView} → IsObject ty → IsCompared relation.NotEqual ty

-- a clause of a type in a body that has so many locals on each stack, where this is known of those in scope and of the scopes
mutual
  pub data Clause (P : BodyNode → Type 0) (nums refs : ℕ) : Standing → Node → TyView → Type 0 where
    int : {known : Standing} {v : ℤ} → Clause P nums refs known (node.Int v) types.Int
    flag : {known : Standing} {v : Bool} → Clause P nums refs known (node.Flag v) types.Bool
    text : {known : Standing} {bytes : List ℕ} → Clause P nums refs known (node.Text bytes) types.Str
    get_num : {known : Standing} {slot : ℕ} {ty : TyView} → IsNum ty → slot < nums → Clause P nums refs known (node.Name (Plain slot) ty) ty
    get_ref : {known : Standing} {slot : ℕ} {ty : TyView} → IsRef ty → slot < refs → Clause P nums refs known (node.Name (Plain slot) ty) ty
    set_num : {known : Standing} {slot : ℕ} {ty : TyView} {e : Node} → IsNum ty → slot < nums → Part P nums refs known e ty →
        Clause P nums refs known (node.SetName (Plain slot) ty e) types.Void
    set_ref : {known : Standing} {slot : ℕ} {ty : TyView} {e : Node} → IsRef ty → slot < refs → Part P nums refs known e ty →
        Clause P nums refs known (node.SetName (Plain slot) ty e) types.Void
    let_num : {known : Standing} {slot : ℕ} {ty : TyView} {e : Node} → IsNum ty → slot < nums → Part P nums refs known e ty →
        Clause P nums refs known (node.Let (Plain slot) ty e) types.Void
    let_ref : {known : Standing} {slot : ℕ} {ty : TyView} {e : Node} → IsRef ty → slot < refs → Part P nums refs known e ty →
        Clause P nums refs known (node.Let (Plain slot) ty e) types.Void
    empty : {known : Standing} → Clause P nums refs known node.Empty types.Void
    block : {known : Standing} {items : Nodes} {ty : TyView} → Items P nums refs known types.Void items ty →
        Clause P nums refs known (node.Block None items) ty
    if_do : {known : Standing} {c a : Node} → Part P nums refs known c types.Bool → Part P nums refs known a types.Void →
        Clause P nums refs known (node.IfDo c a) types.Void
    if_else : {known : Standing} {c a b : Node} {ty : TyView} → Part P nums refs known c types.Bool → Part P nums refs known a ty →
        Part P nums refs known b ty → Clause P nums refs known (node.IfElse c a b) ty
    while : {known : Standing} {c a : Node} → Part P nums refs known c types.Bool → Part P nums refs known a types.Void →
        Clause P nums refs known (node.While c a) types.Void
    repeat : {known : Standing} {a c b : Node} → Part P nums refs known a types.Void → Part P nums refs known c types.Bool →
        Part P nums refs known b types.Void →
        Clause P nums refs known (node.Repeat a c b) types.Void
    loop : {known own : Standing} {slot : ℕ} {a b c s : Node} {control : Place} {line : Line} → IsLoop nums slot b c s → KeepsTypes known own slot →
        Controls known own control → IsControl nums slot known control → Part P nums refs known a types.Int →
        Part P nums refs known b types.Int → Part P nums refs known c types.Int → Part P nums refs own s types.Void →
        Clause P nums refs known (node.For slot a b c None control s line) types.Void
    scoped_loop : {known own : Standing} {slot : ℕ} {bytes : List ℕ} {levels : List Level} {a b c s : Node} {control : Place} {line : Line}
        (its : IsScopeText bytes) → known.levels ≡ Some levels → IsLoop nums slot b c s → KeepsTypes known known slot →
        Controls (opened known its.fields levels) own control → IsControl nums slot (opened known its.fields levels) control → TurnsIn known bytes control s →
        Part P nums refs known a types.Int → Part P nums refs known b types.Int → Part P nums refs known c types.Int → Part P nums refs own s types.Void →
        Clause P nums refs known (node.For slot a b c (Some bytes) control s line) types.Void
    case : {known : Standing} {e d : Node} {arms : Arms} {value ty : TyView} → IsCompared relation.Equal value → Part P nums refs known e value →
        ArmsAre P nums refs known value arms ty → Part P nums refs known d ty →
        Clause P nums refs known (node.Case e arms d value) ty
    and : {known : Standing} {a b : Node} → Part P nums refs known a types.Bool → Part P nums refs known b types.Bool →
        Clause P nums refs known (node.And a b) types.Bool
    or : {known : Standing} {a b : Node} → Part P nums refs known a types.Bool → Part P nums refs known b types.Bool →
        Clause P nums refs known (node.Or a b) types.Bool
    not : {known : Standing} {e : Node} → Part P nums refs known e types.Bool → Clause P nums refs known (node.Not e) types.Bool
    neg : {known : Standing} {e : Node} {line : Line} → Part P nums refs known e types.Int → Clause P nums refs known (node.Neg e line) types.Int
    plus : {known : Standing} {e : Node} → Part P nums refs known e types.Int → Clause P nums refs known (node.Plus e) types.Int
    arith : {known : Standing} {op : Operator} {a b : Node} {line : Line} → Part P nums refs known a types.Int → Part P nums refs known b types.Int →
        Clause P nums refs known (node.Arith op a b line) types.Int
    compare : {known : Standing} {op : Relation} {ty : TyView} {a b : Node} → IsCompared op ty → Part P nums refs known a ty →
        Part P nums refs known b ty →
        Clause P nums refs known (node.Compare op ty a b) types.Bool
    write : {known : Standing} {e : Node} {ty : TyView} {line : Line} → IsShown ty → Part P nums refs known e ty →
        Clause P nums refs known (node.Write e node.Empty false ty line) types.Void
    write_wide : {known : Standing} {e w : Node} {ty : TyView} {line : Line} → IsShown ty → Part P nums refs known e ty →
        Part P nums refs known w types.Int →
        Clause P nums refs known (node.Write e w true ty line) types.Void
    abort : {known : Standing} {line : Line} → Clause P nums refs known (node.Abort line) types.Void
    nil : {known : Standing} → Clause P nums refs known node.Nil types.Pntr
    a_class : {known : Standing} → Clause P nums refs known node.Class types.Void
    is_of : {known : Standing} {e : Node} {class : List ℕ} → Part P nums refs known e types.Pntr →
        Clause P nums refs known (node.Is e class) types.Bool
    join : {known : Standing} {a b : Node} {line : Line} → Part P nums refs known a types.Str → Part P nums refs known b types.Str →
        Clause P nums refs known (node.Join a b line) types.Str
    substring : {known : Standing} {a i n : Node} {line : Line} → Part P nums refs known a types.Str → Part P nums refs known i types.Int →
        Part P nums refs known n types.Int → Clause P nums refs known (node.Part a i n line) types.Str
    structure : {known : Standing} {class name : List ℕ} {args : Nodes} {fields : List Field} → IsNamed name fields →
        class ≡ class_text name fields →
        Args P nums refs known args fields → Clause P nums refs known (node.Make class args) types.Pntr
    get_field : {known : Standing} {p : Node} {class : List ℕ} {index : ℕ} {t : TyView} {line : Line} → HasField class index t → Kind t →
        Part P nums refs known p types.Pntr → Clause P nums refs known (node.Field p class index t line) t
    put_field : {known : Standing} {p e : Node} {class : List ℕ} {index : ℕ} {t : TyView} {line : Line} → HasField class index t → Kind t →
        Part P nums refs known p types.Pntr → Part P nums refs known e t → Clause P nums refs known (node.SetField p class index t e line) types.Void
    filled : {known : Standing} {l u e : Node} {t : TyView} {line : Line} → Kind t → Part P nums refs known l types.Int →
        Part P nums refs known u types.Int →
        Part P nums refs known e t → Clause P nums refs known (node.Fill l u e (types.Vector t) line) (types.Vector t)
    listed : {known : Standing} {l : Node} {items : Nodes} {t : TyView} {line : Line} → Kind t → Part P nums refs known l types.Int →
        AllAre P nums refs known t items → Clause P nums refs known (node.Elems l items (types.Vector t) line) (types.Vector t)
    get_element : {known : Standing} {v i : Node} {t : TyView} {line : Line} → Kind t → Part P nums refs known v (types.Vector t) →
        Part P nums refs known i types.Int → Clause P nums refs known (node.Element v i t line) t
    put_element : {known : Standing} {v i e : Node} {t : TyView} {line : Line} → Kind t → Part P nums refs known v (types.Vector t) →
        Part P nums refs known i types.Int → Part P nums refs known e t → Clause P nums refs known (node.SetElement v i e t line) types.Void
    a_bound : {known : Standing} {v : Node} {upper : Bool} {t : TyView} → Part P nums refs known v (types.Vector t) →
        Clause P nums refs known (node.Bound v upper) types.Int
    library : {known : Standing} {code : ℕ} {args : Nodes} {line : Line} {of : LibraryProcedure} {ty : TyView} → IsLibraryCall code of ty →
        Args P nums refs known args (fields_by (parameters_of of)) → Clause P nums refs known (node.Lib code args line) ty
    scan : {known : Standing} {strings : Bool} {a f : Node} {q s : ℕ} {line : Line} → q + 2 < refs → s + 2 < nums → Keeps (on_refs q) f →
        IsScan known strings q s → Part P nums refs known a types.Pntr → Part P nums refs known f (caller (key_type strings)) →
        Clause P nums refs known (node.Scan strings a f q s line) types.Int
    get_kept_num : {known : Standing} {up position : ℕ} {ty : TyView} → IsNum ty → HasPlace known up position ty →
        Clause P nums refs known (node.Name (Kept up position) ty) ty
    get_kept_ref : {known : Standing} {up position : ℕ} {ty : TyView} → IsRef ty → HasPlace known up position ty →
        Clause P nums refs known (node.Name (Kept up position) ty) ty
    set_kept_num : {known : Standing} {up position : ℕ} {ty : TyView} {e : Node} → IsNum ty → HasPlace known up position ty →
        Part P nums refs known e ty → Clause P nums refs known (node.SetName (Kept up position) ty e) types.Void
    set_kept_ref : {known : Standing} {up position : ℕ} {ty : TyView} {e : Node} → IsRef ty → HasPlace known up position ty →
        Part P nums refs known e ty → Clause P nums refs known (node.SetName (Kept up position) ty e) types.Void
    let_kept_num : {known : Standing} {up position : ℕ} {ty : TyView} {e : Node} → IsNum ty → HasPlace known up position ty →
        Part P nums refs known e ty → Clause P nums refs known (node.Let (Kept up position) ty e) types.Void
    let_kept_ref : {known : Standing} {up position : ℕ} {ty : TyView} {e : Node} → IsRef ty → HasPlace known up position ty →
        Part P nums refs known e ty → Clause P nums refs known (node.Let (Kept up position) ty e) types.Void
    scoped_block : {known : Standing} {bytes : List ℕ} {levels : List Level} {items : Nodes} {ty : TyView} (its : IsScopeText bytes) →
        known.levels ≡ Some levels → Items P nums refs (opened known its.fields levels) types.Void items ty →
        Clause P nums refs known (node.Block (Some bytes) items) ty
    literal : {known : Standing} {params : List Param} {gives : TyView} {tree : Node} {text : Option (List ℕ)} {line : Line} →
        Clause P nums refs known (node.Proc (body params gives tree text line)) (types.Proc (types_of_params params) gives)
    let_literal : {known : Standing} {slot : ℕ} {ty : TyView} {of : BodyNode} → IsRef ty → slot < refs →
        Clause P nums refs known (node.Let (Plain slot) ty (node.Proc of)) types.Void
    let_kept_literal : {known : Standing} {up position : ℕ} {ty : TyView} {of : BodyNode} → IsRef ty → HasPlace known up position ty →
        Clause P nums refs known (node.Let (Kept up position) ty (node.Proc of)) types.Void
    call : {known : Standing} {f : Node} {args : Nodes} {line : Line} {tys : TyViews} {ty : TyView} → Part P nums refs known f (types.Proc tys ty) →
        Args P nums refs known args (fields_by tys) → Clause P nums refs known (node.Call f args line) ty

  -- a clause that yields a value of its type, and whose bodies fit
  pub data Part (P : BodyNode → Type 0) (nums refs : ℕ) : Standing → Node → TyView → Type 0 where
    that : {known : Standing} {t : Node} {ty : TyView} → Clause P nums refs known t ty → Sounds known known t ty → BodiesAre P IsValued t →
        Part P nums refs known t ty

  -- the items of a sequence after one of this type; a name is in scope after its clause
  pub data Items (P : BodyNode → Type 0) (nums refs : ℕ) : Standing → TyView → Nodes → TyView → Type 0 where
    at_end : {known : Standing} {ty : TyView} → Items P nums refs known ty none ty
    an_item : {known next : Standing} {item : Node} {rest : Nodes} {of ty : TyView} → Clause P nums refs known item of →
        Sounds known next item of → BodiesAre P IsValued item → Items P nums refs next of rest ty → Items P nums refs known types.Void (more item rest) ty

  pub data ArmsAre (P : BodyNode → Type 0) (nums refs : ℕ) : Standing → TyView → Arms → TyView → Type 0 where
    no_more : {known : Standing} {value ty : TyView} → ArmsAre P nums refs known value no_arms ty
    one_arm : {known : Standing} {value ty : TyView} {labels : Nodes} {a : Node} {rest : Arms} → AllAre P nums refs known value labels →
        Part P nums refs known a ty → ArmsAre P nums refs known value rest ty → ArmsAre P nums refs known value (more_arms (arm labels a) rest) ty

  -- clauses of one type: labels, or elements
  pub data AllAre (P : BodyNode → Type 0) (nums refs : ℕ) : Standing → TyView → Nodes → Type 0 where
    none_is : {known : Standing} {ty : TyView} → AllAre P nums refs known ty none
    one_is : {known : Standing} {ty : TyView} {first : Node} {rest : Nodes} → Part P nums refs known first ty → AllAre P nums refs known ty rest →
        AllAre P nums refs known ty (more first rest)

  -- clauses of the types of fields
  pub data Args (P : BodyNode → Type 0) (nums refs : ℕ) : Standing → Nodes → List Field → Type 0 where
    no_arg : {known : Standing} → Args P nums refs known none []
    one_arg : {known : Standing} {first : Node} {rest : Nodes} {field : Field} {fields : List Field} → Kind field.ty →
        Part P nums refs known first field.ty → Args P nums refs known rest fields → Args P nums refs known (more first rest) (field ∷ fields)

pub clause_in : {P : BodyNode → Type 0} {nums refs : ℕ} {known : Standing} {t : Node} {ty : TyView} → Part P nums refs known t ty → Clause P nums refs known t ty
clause_in (that h sounds fit) = h

pub sounds_in : {P : BodyNode → Type 0} {nums refs : ℕ} {known : Standing} {t : Node} {ty : TyView} → Part P nums refs known t ty → Sounds known known t ty
sounds_in (that h sounds fit) = sounds

pub bodies_in : {P : BodyNode → Type 0} {nums refs : ℕ} {known : Standing} {t : Node} {ty : TyView} → Part P nums refs known t ty → BodiesAre P IsValued t
bodies_in (that h sounds fit) = fit

-- Items: what is known after them, that they yield a value of their type, and that their bodies fit.
pub behind_items : {P : BodyNode → Type 0} {nums refs : ℕ} {known : Standing} {before ty : TyView} {ts : Nodes} → Items P nums refs known before ts ty → Standing
behind_items (at_end {known = known}) = known
behind_items (an_item first sounds fit rest) = behind_items rest

pub items_sound : {P : BodyNode → Type 0} {nums refs : ℕ} {known : Standing} {before ty : TyView} {ts : Nodes} (h : Items P nums refs known before ts ty) (n depth : ℕ)
    (heap : Heap) (v : Value) → IsOf heap before v → Sound in_levels heap known (behind_items h) ty (eval_all (context n depth) v ts)
unfolding eval_all behind_items
items_sound at_end n depth heap v is = sound_give in_levels v is
items_sound (an_item first sounds fit rest) n depth heap v is = sound_then in_levels (sounds n depth heap) (λ new w g of. items_sound rest n depth new w of)

pub items_fit : {P : BodyNode → Type 0} {nums refs : ℕ} {known : Standing} {before ty : TyView} {ts : Nodes} → Items P nums refs known before ts ty → AllBodiesAre P IsValued ts
items_fit at_end = tt
items_fit (an_item first sounds fit rest) = (fit, items_fit rest)

pub is_shown : (ty : TyView) → is_writable ty ≡ true → IsShown ty
is_shown types.Int is = number int
is_shown types.Bool is = number bool
is_shown types.Str is = text
is_shown other is = absurd cc

pub kind_of : (ty : TyView) → IsValued ty → Kind ty
kind_of types.Int is = of_num int
kind_of types.Bool is = of_num bool
kind_of types.Str is = of_ref str
kind_of types.Pntr is = of_ref pntr
kind_of (types.Vector element) is = of_ref vector
kind_of (types.Proc params gives) is = of_ref proc
kind_of types.Void is = absurd is

pub equal_by : (ty : TyView) → is_equated ty ≡ true → IsCompared relation.Equal ty
equal_by types.Int is = numbers int
equal_by types.Bool is = numbers bool
equal_by types.Str is = texts
equal_by types.Pntr is = alike pntr
equal_by (types.Vector element) is = alike vector
equal_by (types.Proc params gives) is = absurd cc
equal_by types.Void is = absurd cc

unequal_by : (ty : TyView) → is_equated ty ≡ true → IsCompared relation.NotEqual ty
unequal_by types.Int is = numbers int
unequal_by types.Bool is = numbers bool
unequal_by types.Str is = texts
unequal_by types.Pntr is = unlike pntr
unequal_by (types.Vector element) is = unlike vector
unequal_by (types.Proc params gives) is = absurd cc
unequal_by types.Void is = absurd cc

ordered_by : (op : Relation) (ty : TyView) → is_ordered ty ≡ true → IsCompared op ty
ordered_by op types.Int is = numbers int
ordered_by op types.Str is = texts
ordered_by op _ is = absurd cc

pub compared : (op : Relation) (ty : TyView) → is_comparable op ty ≡ true → IsCompared op ty
compared relation.Equal ty is = equal_by ty is
compared relation.NotEqual ty is = unequal_by ty is
compared relation.Less ty is = ordered_by relation.Less ty is
compared relation.LessEqual ty is = ordered_by relation.LessEqual ty is
compared relation.Greater ty is = ordered_by relation.Greater ty is
compared relation.GreaterEqual ty is = ordered_by relation.GreaterEqual ty is
