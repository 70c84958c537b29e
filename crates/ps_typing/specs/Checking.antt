-- The typing rules: the typed tree of a clause, or its first fault in the order of the text. A name is a plain place with its
-- number. The rules stand in the order of the table of the language reference.
use Rattle.std.specs.Prelude.{ℕ, pos, ◌+◌, Bool, true, false, ◌&&◌, Option, Some, None, List, [], ◌∷◌, ◌++◌, map, length, nat_lt, nat_eq, if◌then◌else◌}
use Rattle.ps_tree.specs.ps_base.Limits.{most_fields, most_parameters}
use Rattle.ps_tree.specs.ps_base.TyView.{TyView, TyViews}
use Rattle.ps_tree.specs.ps_base.TyView as types
use Rattle.ps_tree.specs.ps_base.declared.line.Line.{Line}
use Rattle.ps_tree.specs.ps_base.declared.operator.Relation.{Relation}
use Rattle.ps_tree.specs.ps_base.declared.operator.Relation.TheVariants.{Equal, NotEqual}
use Rattle.ps_tree.specs.Phrase.{NameAt, GroupAt, Phrase, at, Form, Phrases, none, more, MaybePhrase, absent, present, Arm, arm, Arms, no_arms, more_arms, WriteItem, item, WriteItems, no_items, more_items}
use Rattle.ps_tree.specs.Phrase as form
use Rattle.ps_program.specs.declared.place.Place.TheVariants.{Plain}
use Rattle.ps_program.specs.Assigning.{assignment}
use Rattle.ps_program.specs.Node.{Param, Node, Nodes, body}
use Rattle.ps_program.specs.Node as node
use Rattle.ps_type_text.specs.Texts.{Field, class_text}
use Rattle.ps_typing.specs.Fault.{Fault, Unknown, Twice, Mismatch, NotAssignable, NotApplicable, Limit}
use Rattle.ps_typing.specs.Names.{plain, scan, Meaning, local, class, library, Names, FieldOf, meant, field_meant, is_declared, is_field_declared, declare, declare_local, declare_field, inside, behind}
use Rattle.ps_typing.specs.Library.{caller}

-- What the check of something gives: it, its type, and the names after it; or the first fault.
pub data Outcome (A : Type 0) : Type 0 where
  Gives : (of : A) (ty : TyView) (names : Names) → Outcome A
  Refuses : (fault : Fault) → Outcome A

-- the first, and then what follows from what it gives
infixr 10 ◌>>=◌
unfoldable pub ◌>>=◌ : {A B : Type 0} → Outcome A → (A → TyView → Names → Outcome B) → Outcome B
◌>>=◌ (Gives of ty names) next = next of ty names
◌>>=◌ (Refuses fault) next = Refuses fault

abbrev pub line_of : Phrase → Line
line_of (at form line) = line

-- the name that a clause is
abbrev pub name_in : Phrase → Option (List ℕ)
name_in (at (form.Name name) line) = Some name
name_in _ = None

-- whether two types are the same
abbrev mutual
  pub is_same : TyView → TyView → Bool
  is_same types.Int types.Int = true
  is_same types.Bool types.Bool = true
  is_same types.Str types.Str = true
  is_same types.Pntr types.Pntr = true
  is_same types.Void types.Void = true
  is_same (types.Vector a) (types.Vector b) = is_same a b
  is_same (types.Proc ps g) (types.Proc qs h) = are_same ps qs && is_same g h
  is_same a b = false

  pub are_same : TyViews → TyViews → Bool
  are_same types.none types.none = true
  are_same (types.more a as_) (types.more b bs) = is_same a b && are_same as_ bs
  are_same _ _ = false

abbrev pub is_vector : TyView → Bool
is_vector (types.Vector element) = true
is_vector _ = false

-- what `=`, `~=` and `case` compare: ints, bools, strings, pointers and vectors
abbrev pub is_equated : TyView → Bool
is_equated (types.Proc ps g) = false
is_equated types.Void = false
is_equated _ = true

-- what the other relations compare: ints and strings
abbrev pub is_ordered : TyView → Bool
is_ordered types.Int = true
is_ordered types.Str = true
is_ordered _ = false

abbrev pub is_comparable : Relation → TyView → Bool
is_comparable Equal = is_equated
is_comparable NotEqual = is_equated
is_comparable _ = is_ordered

-- what `write` writes: ints, bools and strings
abbrev pub is_writable : TyView → Bool
is_writable types.Int = true
is_writable types.Bool = true
is_writable types.Str = true
is_writable _ = false

abbrev pub isnt_void : TyView → Bool
isnt_void types.Void = false
isnt_void _ = true

-- a clause on this line that is to pass a test of its type; where it doesn't, this type was wanted
unfoldable pub passes : (TyView → Bool) → TyView → Line → Outcome Node → Outcome Node
passes test wanted line (Gives tree found names) = if test found then Gives tree found names else Refuses (Mismatch line found wanted)
passes test wanted line (Refuses fault) = Refuses fault

-- a clause that is to have this type
abbrev pub wants : TyView → Line → Outcome Node → Outcome Node
wants wanted line clause = passes (λ found. is_same found wanted) wanted line clause

-- `let x = e`: the name is in scope from here on
abbrev pub introduced : NameAt → Bool → Node → TyView → Names → Outcome Node
introduced name variable e ty names =
    if is_declared names name.name then Refuses (Twice name.line)
    else Gives (node.Let (Plain (length names.all)) ty e) types.Void (declare_local names name.name ty variable)

-- `structure c(fields)`: of a class its fields are declared one by one, and then its name
abbrev pub field_of : GroupAt → Field
field_of group = record { ty = group.ty; name = group.name.name }

abbrev pub types_of : List GroupAt → TyViews
types_of [] = types.none
types_of (group ∷ groups) = types.more group.ty (types_of groups)

abbrev pub with_fields : Names → List ℕ → ℕ → List GroupAt → Outcome Node
with_fields names text index [] = Gives node.Class types.Void names
with_fields names text index (group ∷ groups) =
    if is_field_declared names group.name.name then Refuses (Twice group.name.line)
    else with_fields (declare_field names (record { name = group.name.name; class = text; index = index; ty = group.ty })) text (index + 1) groups

abbrev pub structure : Names → Line → NameAt → List GroupAt → Outcome Node
structure names line name fields =
    if nat_lt most_fields (length fields) then Refuses (Limit line (length fields))
    else (if is_declared names name.name then Refuses (Twice name.line)
    else (let text = class_text name.name (map field_of fields) in
    with_fields (declare names name.name (class text (types_of fields))) text 0 fields))

-- a name by itself
abbrev pub used : Line → Names → Option Meaning → Outcome Node
used line names (Some (local number ty variable)) = Gives (node.Name (Plain number) ty) ty names
used line names (Some (class text fields)) = Refuses (NotApplicable line)
used line names (Some (library procedure)) = Refuses (NotApplicable line)
used line names None = Refuses (Unknown line)

-- `proc(params -> t); s`: the parameters are variables of a block of its own
abbrev pub with_params : Names → List Param → List GroupAt → Outcome (List Param)
with_params names made [] = Gives made types.Void names
with_params names made (group ∷ groups) =
    if is_declared names group.name.name then Refuses (Twice group.name.line)
    else with_params (declare_local names group.name.name group.ty true) (made ++ record { ty = group.ty; place = Plain (length names.all) } ∷ []) groups

abbrev pub parameters : Names → Line → List GroupAt → Outcome (List Param)
parameters names line params =
    if nat_lt most_parameters (length params) then Refuses (Limit line (length params)) else with_params (inside names) [] params

-- `e is c`, `e isnt c`
abbrev pub is_of : NameAt → Bool → Node → Names → Option Meaning → Outcome Node
is_of name negated e names (Some (class text fields)) = Gives (if negated then node.Not (node.Is e text) else node.Is e text) types.Bool names
is_of name negated e names _ = Refuses (Unknown name.line)

-- `x := e`: to a variable, an element or a field
abbrev pub is_variable : Option Meaning → Bool
is_variable (Some (local number ty variable)) = variable
is_variable _ = false

abbrev pub named_can_be_assigned : Names → Option (List ℕ) → Bool
named_can_be_assigned names (Some name) = is_variable (meant names name)
named_can_be_assigned names None = true

abbrev pub can_be_assigned : Names → Phrase → Bool
can_be_assigned names x = named_can_be_assigned names (name_in x)

unfoldable pub assigned : Line → Line → Bool → Option Node → TyView → TyView → Names → Outcome Node
assigned line e_line true (Some tree) wanted found names = if is_same found wanted then Gives tree types.Void names else Refuses (Mismatch e_line found wanted)
assigned line e_line _ _ wanted found names = Refuses (NotAssignable line)

-- an argument that names a field
abbrev pub named_on : Option (List ℕ) → Line → Option NameAt
named_on (Some name) line = Some (record { name = name; line = line })
named_on None line = None

abbrev pub field_name : Phrases → Option NameAt
field_name (more only none) = named_on (name_in only) (line_of only)
field_name _ = None

-- `p(f)`
abbrev pub field_at : Line → Node → Names → Line → Option FieldOf → Outcome Node
field_at line p names name_line (Some field) = Gives (node.Field p field.class field.index field.ty line) field.ty names
field_at line p names name_line None = Refuses (Unknown name_line)

abbrev pub field : Line → Node → Names → Option NameAt → Outcome Node
field line p names (Some name) = field_at line p names name.line (field_meant names name.name)
field line p names None = Refuses (NotApplicable line)

-- one tree by itself, or several as one
abbrev pub together : Nodes → Node
together (node.more tree node.none) = tree
together trees = node.Block None trees

abbrev pub count_types : TyViews → ℕ
count_types types.none = 0
count_types (types.more first rest) = count_types rest + 1

-- a clause that is to be checked where the names are known, and its line
pub record Checker : Type 0 where
  pub line : Line
  pub check : Names → Outcome Node

-- a clause that is like those before it, where there are any
abbrev pub like : Option TyView → Line → Outcome Node → Outcome Node
like None line clause = clause
like (Some wanted) line clause = wants wanted line clause

-- clauses that are all to have this type
abbrev pub check_each : Names → TyView → List Checker → Outcome Nodes
check_each names t [] = Gives node.none t names
check_each names t (first ∷ rest) =
    wants t first.line (first.check names) >>= λ one same names.
    check_each names t rest >>= λ others last names. Gives (node.more one others) t names

-- arguments of these types
abbrev pub check_args : Names → TyViews → List Checker → Outcome Nodes
check_args names (types.more t ts) (first ∷ rest) =
    wants t first.line (first.check names) >>= λ one same names.
    check_args names ts rest >>= λ others last names. Gives (node.more one others) types.Void names
check_args names _ _ = Gives node.none types.Void names

-- A procedure, a class and a library procedure have as many arguments as parameters.
abbrev pub with_args : Names → Line → TyViews → List Checker → (Nodes → Node) → TyView → Outcome Node
with_args names line params args make gives =
    if nat_eq (count_types params) (length args) then (check_args names params args >>= λ args t names. Gives (make args) gives names)
    else Refuses (NotApplicable line)

-- `v(i, j)` is `v(i)(j)`
abbrev pub elements : Names → Line → Node → TyView → List Checker → Outcome Node
elements names line v t [] = Gives v t names
elements names line v (types.Vector element) (i ∷ rest) =
    wants types.Int i.line (i.check names) >>= λ i int names. elements names line (node.Element v i element line) element rest
elements names line v _ (i ∷ rest) = Refuses (NotApplicable line)

-- what a value is applied to: a procedure to arguments, a vector to subscripts, one at least, a pointer to the name of a field
abbrev pub value_applied : Names → Line → Node → TyView → Phrases → List Checker → Outcome Node
value_applied names line f (types.Proc params gives) phrases args = with_args names line params args (λ args. node.Call f args line) gives
value_applied names line f (types.Vector element) phrases [] = Refuses (NotApplicable line)
value_applied names line f (types.Vector element) phrases (i ∷ rest) = elements names line f (types.Vector element) (i ∷ rest)
value_applied names line f types.Pntr phrases args = field line f names (field_name phrases)
value_applied names line f _ phrases args = Refuses (NotApplicable line)

-- a scan of a table by a procedure
abbrev pub scan_applied : Names → Line → Bool → List Checker → Outcome Node
scan_applied names line text (a ∷ f ∷ []) =
    wants types.Pntr a.line (a.check names) >>= λ a t names.
    wants (caller (if text then types.Str else types.Int)) f.line (f.check names) >>= λ f t names.
    Gives (node.Scan text a f 0 0 line) types.Int names
scan_applied names line text _ = Refuses (NotApplicable line)

-- what is applied by its name, which stands on a line of its own
abbrev pub name_applied : Names → Line → Line → Option Meaning → Phrases → List Checker → Outcome Node
name_applied names line name_line (Some (class text fields)) phrases args = with_args names line fields args (node.Make text) types.Pntr
name_applied names line name_line (Some (library (plain code params gives))) phrases args = with_args names line params args (λ args. node.Lib code args line) gives
name_applied names line name_line (Some (library (scan text))) phrases args = scan_applied names line text args
name_applied names line name_line (Some (local number t variable)) phrases args = value_applied names line (node.Name (Plain number) t) t phrases args
name_applied names line name_line None phrases args = Refuses (Unknown name_line)

-- an application of a name, or of another clause
abbrev pub applied : Names → Line → Line → Option (List ℕ) → Outcome Node → Phrases → List Checker → Outcome Node
applied names line name_line (Some name) f phrases args = name_applied names line name_line (meant names name) phrases args
applied names line name_line None f phrases args = f >>= λ f t names. value_applied names line f t phrases args

-- a procedure: its clause, on this line, is checked inside the block of its parameters
abbrev pub literal : Names → Line → List GroupAt → TyView → Line → (Names → Outcome Node) → Outcome Node
literal names line params gives s_line check_s =
    parameters names line params >>= λ made t own.
    wants gives s_line (check_s own) >>= λ s t last.
    Gives (node.Proc (body made gives s None line)) (types.Proc (types_of params) gives) (behind names last)

-- `let f = proc..`: the name is in scope inside the literal
abbrev pub named_literal : Names → NameAt → Bool → Line → List GroupAt → TyView → Line → (Names → Outcome Node) → Outcome Node
named_literal names name variable line params gives s_line check_s =
    if is_declared names name.name then Refuses (Twice name.line)
    else (literal (declare_local names name.name (types.Proc (types_of params) gives) variable) line params gives s_line check_s >>= λ e t last.
    Gives (node.Let (Plain (length names.all)) t e) types.Void last)

-- the type of what the arms of a `case` give, where there are any
abbrev pub first_type : node.Arms → TyView → Option TyView
first_type node.no_arms given = None
first_type (node.more_arms first rest) given = Some given

-- whether a width was found
abbrev pub is_present : TyView → Bool
is_present types.Int = true
is_present _ = false

abbrev mutual
  pub check : Names → Phrase → Outcome Node
  check names (at form line) = check_form names line form

  pub check_form : Names → Line → Form → Outcome Node
  -- declarations: an initial clause is checked before its name is declared, but for a literal
  check_form names line (form.Let name variable (at (form.Proc params gives s) e_line)) =
      named_literal names name variable e_line params gives (line_of s) (λ own. check own s)
  check_form names line (form.Let name variable e) =
      passes isnt_void types.Bool (line_of e) (check names e) >>= λ e t names. introduced name variable e t names
  check_form names line (form.Structure name fields) = structure names line name fields
  -- leaves
  check_form names line (form.Name name) = used line names (meant names name)
  check_form names line form.Nil = Gives node.Nil types.Pntr names
  check_form names line (form.Int value) = Gives (node.Int value) types.Int names
  check_form names line (form.Text bytes) = Gives (node.Text bytes) types.Str names
  check_form names line (form.Flag value) = Gives (node.Flag value) types.Bool names
  -- choices and loops
  check_form names line (form.IfDo c a) =
      wants types.Bool (line_of c) (check names c) >>= λ c t names.
      wants types.Void (line_of a) (check names a) >>= λ a t names. Gives (node.IfDo c a) types.Void names
  check_form names line (form.While c a) =
      wants types.Bool (line_of c) (check names c) >>= λ c t names.
      wants types.Void (line_of a) (check names a) >>= λ a t names. Gives (node.While c a) types.Void names
  check_form names line (form.Repeat a c b) =
      wants types.Void (line_of a) (check names a) >>= λ a t names.
      wants types.Bool (line_of c) (check names c) >>= λ c t names.
      check_if_any names types.Void node.Empty b >>= λ b t names. Gives (node.Repeat a c b) types.Void names
  check_form names line (form.IfElse c a b) =
      wants types.Bool (line_of c) (check names c) >>= λ c t names.
      check names a >>= λ a t names.
      wants t (line_of b) (check names b) >>= λ b same names. Gives (node.IfElse c a b) t names
  check_form names line (form.For name a b c s) =
      wants types.Int (line_of a) (check names a) >>= λ a t names.
      wants types.Int (line_of b) (check names b) >>= λ b t names.
      check_if_any names types.Int (node.Int (pos 1)) c >>= λ c t names.
      wants types.Void (line_of s) (check (declare_local (inside names) name.name types.Int false) s) >>= λ s t last.
      Gives (node.For 0 a b c None (Plain (length names.all)) s line) types.Void (behind names last)
  check_form names line (form.Case e arms d) =
      passes is_equated types.Int (line_of e) (check names e) >>= λ e t names.
      check_arms names t None arms >>= λ arms given names.
      like (first_type arms given) (line_of d) (check names d) >>= λ d given names. Gives (node.Case e arms d t) given names
  check_form names line (form.Write items) =
      check_written names items >>= λ trees t names. Gives (together trees) types.Void names
  check_form names line form.Abort = Gives (node.Abort line) types.Void names
  -- procedures and vectors
  check_form names line (form.Proc params gives s) = literal names line params gives (line_of s) (λ own. check own s)
  check_form names line (form.Vector l u e) =
      wants types.Int (line_of l) (check names l) >>= λ l t names.
      wants types.Int (line_of u) (check names u) >>= λ u t names.
      passes isnt_void types.Bool (line_of e) (check names e) >>= λ e t names. Gives (node.Fill l u e (types.Vector t) line) (types.Vector t) names
  check_form names line (form.Elems l t items) =
      wants types.Int (line_of l) (check names l) >>= λ l int names.
      check_each names t (checkers items) >>= λ items last names. Gives (node.Elems l items (types.Vector t) line) (types.Vector t) names
  -- assignments and operators
  check_form names line (form.Assign x e) =
      check names x >>= λ x' wanted names'.
      check names' e >>= λ e' found names''. assigned line (line_of e) (can_be_assigned names x) (assignment x' e') wanted found names''
  check_form names line (form.Or a b) =
      wants types.Bool (line_of a) (check names a) >>= λ a t names.
      wants types.Bool (line_of b) (check names b) >>= λ b t names. Gives (node.Or a b) types.Bool names
  check_form names line (form.And a b) =
      wants types.Bool (line_of a) (check names a) >>= λ a t names.
      wants types.Bool (line_of b) (check names b) >>= λ b t names. Gives (node.And a b) types.Bool names
  check_form names line (form.Not e) =
      wants types.Bool (line_of e) (check names e) >>= λ e t names. Gives (node.Not e) types.Bool names
  check_form names line (form.Compare op a b) =
      passes (is_comparable op) types.Int (line_of a) (check names a) >>= λ a t names.
      wants t (line_of b) (check names b) >>= λ b same names. Gives (node.Compare op t a b) types.Bool names
  check_form names line (form.Is e name negated) =
      wants types.Pntr (line_of e) (check names e) >>= λ e t names. is_of name negated e names (meant names name.name)
  check_form names line (form.Arith op a b) =
      wants types.Int (line_of a) (check names a) >>= λ a t names.
      wants types.Int (line_of b) (check names b) >>= λ b t names. Gives (node.Arith op a b line) types.Int names
  check_form names line (form.Plus e) =
      wants types.Int (line_of e) (check names e) >>= λ e t names. Gives (node.Plus e) types.Int names
  check_form names line (form.Neg e) =
      wants types.Int (line_of e) (check names e) >>= λ e t names. Gives (node.Neg e line) types.Int names
  check_form names line (form.Join a b) =
      wants types.Str (line_of a) (check names a) >>= λ a t names.
      wants types.Str (line_of b) (check names b) >>= λ b t names. Gives (node.Join a b line) types.Str names
  check_form names line (form.Bound upper e) =
      passes is_vector (types.Vector types.Int) (line_of e) (check names e) >>= λ e t names. Gives (node.Bound e upper) types.Int names
  -- applications: the head before the arguments
  check_form names line (form.Apply f args) = applied names line (line_of f) (name_in f) (check names f) args (checkers args)
  check_form names line (form.Part s i n) =
      wants types.Str (line_of s) (check names s) >>= λ s t names.
      wants types.Int (line_of i) (check names i) >>= λ i t names.
      wants types.Int (line_of n) (check names n) >>= λ n t names. Gives (node.Part s i n line) types.Str names
  -- a sequence
  check_form names line (form.Sequence items) =
      check_all (inside names) line types.Void items >>= λ trees t last. Gives (node.Block None trees) t (behind names last)

  pub checkers : Phrases → List Checker
  checkers none = []
  checkers (more first rest) = record { line = line_of first; check = λ names. check names first } ∷ checkers rest

  -- a clause of this type, or this one where none stands
  pub check_if_any : Names → TyView → Node → MaybePhrase → Outcome Node
  check_if_any names t otherwise absent = Gives otherwise types.Void names
  check_if_any names t otherwise (present e) = wants t (line_of e) (check names e)

  -- The labels of each arm are like the value, and its clause like that of the first arm.
  pub check_arms : Names → TyView → Option TyView → Arms → Outcome node.Arms
  check_arms names t given no_arms = Gives node.no_arms types.Void names
  check_arms names t given (more_arms (arm labels a) rest) =
      check_each names t (checkers labels) >>= λ labels same names.
      like given (line_of a) (check names a) >>= λ a own names.
      check_arms names t (Some own) rest >>= λ rest last names. Gives (node.more_arms (node.arm labels a) rest) own names

  -- The items of a sequence, after an item on this line of this type: each but the last is void.
  pub check_all : Names → Line → TyView → Phrases → Outcome Nodes
  check_all names line before none = Gives node.none before names
  check_all names line before (more clause rest) =
      if is_same before types.Void
      then (check names clause >>= λ tree t names. check_all names (line_of clause) t rest >>= λ trees t names. Gives (node.more tree trees) t names)
      else Refuses (Mismatch line before types.Void)

  -- the items of a `write`
  pub check_written : Names → WriteItems → Outcome Nodes
  check_written names no_items = Gives node.none types.Void names
  check_written names (more_items (item e w line) rest) =
      passes is_writable types.Int (line_of e) (check names e) >>= λ e t names.
      check_if_any names types.Int node.Empty w >>= λ w wide names.
      check_written names rest >>= λ rest last names. Gives (node.more (node.Write e w (is_present wide) t line) rest) types.Void names
