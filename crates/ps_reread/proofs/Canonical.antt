-- Which trees the grammar gives, with what stands inside one another in them counted as it is in the
-- text that is printed: with brackets where they are needed and nowhere else.
use Rattle.std.proofs.Common.{◌≡◌, ◌≢◌, ℕ, suc, ◌≤◌, pos, List, [], ◌∷◌, length, Bool, true, false}
use Rattle.std.specs.List.{AllPass}
use Rattle.ps_layout.specs.ps_base.TyView.{TyView, TyViews}
use Rattle.ps_layout.specs.ps_base.TyView as ty
use Rattle.ps_layout.specs.ps_base.declared.line.Line.{Line}
use Rattle.ps_layout.specs.ps_base.declared.operator.Operator.{Operator}
use Rattle.ps_layout.specs.ps_base.declared.operator.Relation.{Relation}
use Rattle.ps_parse.specs.ps_scan.Tokens.{IsName}
use Rattle.ps_layout.specs.ps_tree.Phrase.{NameAt, GroupAt, Phrase, at, Form, Phrases, none, more, absent, present, Arm, Arms, no_arms, more_arms, arm, WriteItem, item, WriteItems, no_items, more_items}
use Rattle.ps_layout.specs.ps_tree.Phrase as form
use Rattle.ps_reread.specs.Spelled.{can_be_spelled}
use Rattle.ps_layout.specs.Layout.{Behind, other, before_do, before_colon, is_taken, behind_clause, behind_item, Tightness, is_looser, left_of, right_of, disjunction, conjunction, negation, comparison, sum, product, application}
use Rattle.ps_layout.specs.Waiting.{is_procedure}

-- with room for so many types inside one another
mutual
  pub data IsType : ℕ → TyView → Type 0 where
    int : {room : ℕ} → IsType (suc room) ty.Int
    bool : {room : ℕ} → IsType (suc room) ty.Bool
    str : {room : ℕ} → IsType (suc room) ty.Str
    pntr : {room : ℕ} → IsType (suc room) ty.Pntr
    vector : {room : ℕ} {element : TyView} → IsType room element → IsType (suc room) (ty.Vector element)
    proc : {room : ℕ} {parameters : TyViews} {gives : TyView} → AreTypes room parameters → IsResult room gives → IsType (suc room) (ty.Proc parameters gives)

  pub data AreTypes : ℕ → TyViews → Type 0 where
    no_types : {room : ℕ} → AreTypes room ty.none
    more_types : {room : ℕ} {first : TyView} {rest : TyViews} → IsType room first → AreTypes room rest → AreTypes room (ty.more first rest)

  pub data IsResult : ℕ → TyView → Type 0 where
    no_result : {room : ℕ} → IsResult room ty.Void
    result : {room : ℕ} {gives : TyView} → IsType room gives → IsResult room gives

pub data AreGroups (room : ℕ) : List GroupAt → Type 0 where
  no_groups : AreGroups room []
  more_groups : {group : GroupAt} {groups : List GroupAt} → IsType room group.ty → IsName group.name.name → AreGroups room groups → AreGroups room (group ∷ groups)

mutual
  -- a clause before what stands after it; in brackets where it would take that
  pub data IsClause : ℕ → Behind → Phrase → Type 0 where
    plain : {room : ℕ} {behind : Behind} {f : Form} {line : Line} → is_taken behind f ≡ false → IsForm room behind f → IsClause (suc room) behind (at f line)
    kept : {room : ℕ} {behind : Behind} {f : Form} {line : Line} → is_taken behind f ≡ true → IsForm room other f → IsClause (suc (suc room)) behind (at f line)

  -- an operand that has to bind so tight; in brackets where it doesn't
  pub data IsOperand : ℕ → Tightness → Phrase → Type 0 where
    tight : {room : ℕ} {needed : Tightness} {f : Form} {line : Line} → is_looser f needed ≡ false → IsForm room other f → IsOperand room needed (at f line)
    loose : {room : ℕ} {needed : Tightness} {f : Form} {line : Line} → is_looser f needed ≡ true → IsForm room other f → IsOperand (suc room) needed (at f line)

  pub data IsForm : ℕ → Behind → Form → Type 0 where
    if_do : {room : ℕ} {behind : Behind} {c a : Phrase} → IsClause room before_do c → IsClause room behind a → IsForm room behind (form.IfDo c a)
    if_else : {room : ℕ} {behind : Behind} {c a b : Phrase} → IsClause room other c → IsClause room other a → IsClause room behind b → IsForm room behind (form.IfElse c a b)
    while_do : {room : ℕ} {behind : Behind} {c a : Phrase} → IsClause room before_do c → IsClause room behind a → IsForm room behind (form.While c a)
    repeat_while : {room : ℕ} {behind : Behind} {a c : Phrase} → behind ≢ before_do → IsClause room other a → IsClause room behind c → IsForm room behind (form.Repeat a c absent)
    repeat_do : {room : ℕ} {behind : Behind} {a c b : Phrase} → IsClause room other a → IsClause room before_do c → IsClause room behind b → IsForm room behind (form.Repeat a c (present b))
    for_to : {room : ℕ} {behind : Behind} {name : NameAt} {a b s : Phrase} → IsName name.name → IsClause room other a → IsClause room before_do b → IsClause room behind s → IsForm room behind (form.For name a b absent s)
    for_by : {room : ℕ} {behind : Behind} {name : NameAt} {a b c s : Phrase} → IsName name.name → IsClause room other a → IsClause room other b → IsClause room before_do c → IsClause room behind s → IsForm room behind (form.For name a b (present c) s)
    case_of : {room : ℕ} {behind : Behind} {e d : Phrase} {arms : Arms} → IsClause room other e → AreArms room arms → IsClause room behind d → IsForm room behind (form.Case e arms d)
    write : {room : ℕ} {behind : Behind} {first : WriteItem} {rest : WriteItems} → is_taken behind (form.Write (more_items first rest)) ≡ false → AreItems room behind (more_items first rest) → IsForm room behind (form.Write (more_items first rest))
    abort : {room : ℕ} {behind : Behind} → IsForm room behind form.Abort
    proc : {room : ℕ} {behind : Behind} {params : List GroupAt} {gives : TyView} {s : Phrase} → AreGroups room params → IsResult room gives → IsClause room behind s → IsForm room behind (form.Proc params gives s)
    vector : {room : ℕ} {behind : Behind} {l u e : Phrase} → IsClause room other l → IsClause room other u → IsClause room behind e → IsForm room behind (form.Vector l u e)
    assign : {room : ℕ} {behind : Behind} {x e : Phrase} → IsOperand room disjunction x → IsClause room behind e → IsForm room behind (form.Assign x e)
    or : {room : ℕ} {behind : Behind} {a b : Phrase} → IsOperand room disjunction a → IsOperand room conjunction b → IsForm room behind (form.Or a b)
    and : {room : ℕ} {behind : Behind} {a b : Phrase} → IsOperand room conjunction a → IsOperand room negation b → IsForm room behind (form.And a b)
    not : {room : ℕ} {behind : Behind} {e : Phrase} → IsOperand room comparison e → IsForm room behind (form.Not e)
    compare : {room : ℕ} {behind : Behind} {op : Relation} {a b : Phrase} → IsOperand room sum a → IsOperand room sum b → IsForm room behind (form.Compare op a b)
    is : {room : ℕ} {behind : Behind} {e : Phrase} {class : NameAt} {negated : Bool} → IsOperand room sum e → IsName class.name → IsForm room behind (form.Is e class negated)
    join : {room : ℕ} {behind : Behind} {a b : Phrase} → IsOperand room sum a → IsOperand room product b → IsForm room behind (form.Join a b)
    arith : {room : ℕ} {behind : Behind} {op : Operator} {a b : Phrase} → IsOperand room (left_of op) a → IsOperand room (right_of op) b → IsForm room behind (form.Arith op a b)
    plus : {room : ℕ} {behind : Behind} {e : Phrase} → IsOperand room application e → IsForm room behind (form.Plus e)
    neg : {room : ℕ} {behind : Behind} {e : Phrase} → IsOperand room application e → IsForm room behind (form.Neg e)
    apply : {room : ℕ} {behind : Behind} {f : Phrase} {args : Phrases} → IsOperand room application f → AreClauses room other args → IsForm room behind (form.Apply f args)
    part : {room : ℕ} {behind : Behind} {s i n : Phrase} → IsOperand room application s → IsClause room other i → IsClause room other n → IsForm room behind (form.Part s i n)
    sequence : {room : ℕ} {behind : Behind} {items : Phrases} → AreItemsOf room items → IsForm room behind (form.Sequence items)
    name : {room : ℕ} {behind : Behind} {bytes : List ℕ} → IsName bytes → IsForm room behind (form.Name bytes)
    int : {room value : ℕ} {behind : Behind} → value ≤ 2147483647 → IsForm room behind (form.Int (pos value))
    text : {room : ℕ} {behind : Behind} {bytes : List ℕ} → AllPass can_be_spelled bytes → length bytes ≤ 65535 → IsForm room behind (form.Text bytes)
    flag : {room : ℕ} {behind : Behind} {value : Bool} → IsForm room behind (form.Flag value)
    nil : {room : ℕ} {behind : Behind} → IsForm room behind form.Nil
    bound : {room : ℕ} {behind : Behind} {upper : Bool} {e : Phrase} → IsClause room other e → IsForm room behind (form.Bound upper e)
    elems : {room : ℕ} {behind : Behind} {l first : Phrase} {t : TyView} {rest : Phrases} → IsClause room other l → IsType room t → AreClauses room other (more first rest) → IsForm room behind (form.Elems l t (more first rest))

  -- clauses with commas between them; after the last stands this
  pub data AreClauses : ℕ → Behind → Phrases → Type 0 where
    no_clauses : {room : ℕ} {last : Behind} → AreClauses room last none
    more_clauses : {room : ℕ} {last : Behind} {first : Phrase} {rest : Phrases} → IsClause room (behind_clause last rest) first → AreClauses room last rest → AreClauses room last (more first rest)

  pub data AreArms : ℕ → Arms → Type 0 where
    none_of_them : {room : ℕ} → AreArms room no_arms
    and_arms : {room : ℕ} {first a : Phrase} {labels : Phrases} {rest : Arms} → AreClauses room before_colon (more first labels) → IsClause room other a → AreArms room rest → AreArms room (more_arms (arm (more first labels) a) rest)

  -- the items of a `write`
  pub data AreItems : ℕ → Behind → WriteItems → Type 0 where
    nothing_more : {room : ℕ} {behind : Behind} → AreItems room behind no_items
    and_items : {room : ℕ} {behind : Behind} {first : WriteItem} {rest : WriteItems} → IsWritten room (behind_item behind rest) first → AreItems room behind rest → AreItems room behind (more_items first rest)

  pub data IsWritten : ℕ → Behind → WriteItem → Type 0 where
    as_wide : {room : ℕ} {behind : Behind} {e : Phrase} {line : Line} → IsClause room behind e → IsWritten room behind (item e absent line)
    wide : {room : ℕ} {behind : Behind} {e w : Phrase} {line : Line} → IsClause room before_colon e → IsClause room behind w → IsWritten room behind (item e (present w) line)

  -- the items of a sequence
  pub data AreItemsOf : ℕ → Phrases → Type 0 where
    no_item : {room : ℕ} → AreItemsOf room none
    one_more : {room : ℕ} {first : Phrase} {rest : Phrases} → IsItem room first → AreItemsOf room rest → AreItemsOf room (more first rest)

  pub data IsItem : ℕ → Phrase → Type 0 where
    a_clause : {room : ℕ} {p : Phrase} → IsClause room other p → IsItem room p
    a_let : {room : ℕ} {name : NameAt} {variable : Bool} {e : Phrase} {line : Line} → is_procedure variable e ≡ false → IsName name.name → IsClause room other e → IsItem room (at (form.Let name variable e) line)
    a_procedure : {room : ℕ} {name : NameAt} {params : List GroupAt} {gives : TyView} {s : Phrase} {line line' : Line} → IsName name.name → AreGroups room params → IsResult room gives → IsClause room other s → IsItem room (at (form.Let name false (at (form.Proc params gives s) line')) line)
    a_structure : {room : ℕ} {name : NameAt} {fields : List GroupAt} {line : Line} → IsName name.name → AreGroups room fields → IsItem room (at (form.Structure name fields) line)
