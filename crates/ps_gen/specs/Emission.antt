-- The instructions of each clause. An offset is that of the instruction's first byte in the code of the body, and a constant is named
-- by its number in the body; each form names its constants in the order of their instructions.
use Rattle.std.specs.Prelude.{ℕ, ◌+◌, pos, List, [], ◌∷◌, ◌++◌, Option, Some, None, if◌then◌else◌}
use Rattle.ps_base.specs.TyView.{TyView}
use Rattle.ps_base.specs.TyView as types
use Rattle.ps_base.specs.declared.instr.Instr.{Instr}
use Rattle.ps_base.specs.declared.instr.Instr.TheVariants as instr
use Rattle.ps_base.specs.declared.operator.Relation.TheVariants.{Equal}
use Rattle.ps_program.specs.declared.place.Place.{Place}
use Rattle.ps_program.specs.declared.place.Place.TheVariants.{Plain, Kept}
use Rattle.ps_program.specs.Node.{Node, Nodes, none, more, Arms, no_arms, more_arms, arm, body}
use Rattle.ps_program.specs.Node as node
use Rattle.ps_emitter.specs.Giving.{type_of, element_of}
use Rattle.ps_emitter.specs.Choices as choice

-- how many bytes the get or the set of a place has
abbrev pub size_at : Place → ℕ
size_at (Plain slot) = 5
size_at (Kept up position) = 9

abbrev pub size_entered : Option (List ℕ) → ℕ
size_entered None = 0
size_entered (Some text) = 5

abbrev pub size_left : Option (List ℕ) → ℕ
size_left None = 0
size_left (Some text) = 1

-- how many bytes a clause's code has
abbrev mutual
  pub size : Node → ℕ
  size (node.Int v) = 5
  size (node.Flag b) = 1
  size (node.Text bytes) = 5
  size node.Nil = 1
  size (node.Name place ty) = size_at place
  size (node.SetName place ty e) = size e + size_at place
  size (node.Let place ty e) = size e + size_at place
  size node.Class = 0
  size node.Empty = 0
  size (node.Block scope items) = size_entered scope + size_all items + size_left scope
  size (node.IfDo c a) = size c + 5 + size a
  size (node.IfElse c a b) = size c + 5 + size a + 5 + size b
  size (node.While c a) = 5 + size a + size c + 5
  size (node.Repeat a c b) = 5 + size b + size a + size c + 5
  size (node.For slot a b c scope control s line) =
      size a + 5 + size b + 5 + size c + 5 + 13 + size_entered scope + 5 + size_at control + size s + size_left scope + 9
  size (node.Case e arms d ty) = size e + size_arms arms + 1 + size d
  size (node.And a b) = size a + 5 + size b
  size (node.Or a b) = size a + 5 + size b
  size (node.Not e) = size e + 1
  size (node.Neg e line) = size e + 5
  size (node.Plus e) = size e
  size (node.Arith op a b line) = size a + size b + 5
  size (node.Compare op ty a b) = size a + size b + 1
  size (node.Is e class) = size e + 5
  size (node.Join a b line) = size a + size b + 5
  size (node.Part a i n line) = size a + size i + size n + 5
  size (node.Make class args) = size_all args + 5
  size (node.Field e class index ty line) = size e + 13
  size (node.SetField p class index ty e line) = size p + size e + 13
  size (node.Fill l u e ty line) = size l + size u + size e + 9
  size (node.Elems l items ty line) = size l + size_all items + 13
  size (node.Element v i ty line) = size v + size i + 5
  size (node.SetElement v i e ty line) = size v + size i + size e + 5
  size (node.Bound v upper) = size v + 1
  size (node.Proc of) = 5
  size (node.Call f args line) = size f + size_all args + 9
  size (node.Lib code args line) = size_all args + 9
  size (node.Scan text a f q s line) = size a + 5 + size f + 5 + 30 + 17 + 9 + 9 + 5
  size (node.Write e w wide ty line) = size e + size w + 9
  size (node.Abort line) = 5

  pub size_all : Nodes → ℕ
  size_all none = 0
  size_all (more first rest) = size first + size_all rest

  -- the tests of the labels, the jump past the arm, and the arm with what lets go of the value and the jump to the end
  pub size_arms : Arms → ℕ
  size_arms no_arms = 0
  size_arms (more_arms (arm labels a) rest) = size_labels labels + 5 + 1 + size a + 5 + size_arms rest

  pub size_labels : Nodes → ℕ
  size_labels none = 0
  size_labels (more label rest) = 1 + size label + 1 + 5 + size_labels rest

abbrev pub count_scope : Option (List ℕ) → ℕ
count_scope None = 0
count_scope (Some text) = 1

-- how many constants a clause names; a literal's own are named in its own code
abbrev mutual
  pub count : Node → ℕ
  count (node.Text bytes) = 1
  count (node.SetName place ty e) = count e
  count (node.Let place ty e) = count e
  count (node.Block scope items) = count_scope scope + count_all items
  count (node.IfDo c a) = count c + count a
  count (node.IfElse c a b) = count c + count a + count b
  count (node.While c a) = count a + count c
  count (node.Repeat a c b) = count b + count a + count c
  count (node.For slot a b c scope control s line) = count a + count b + count c + count_scope scope + count s
  count (node.Case e arms d ty) = count e + count_arms arms + count d
  count (node.And a b) = count a + count b
  count (node.Or a b) = count a + count b
  count (node.Not e) = count e
  count (node.Neg e line) = count e
  count (node.Plus e) = count e
  count (node.Arith op a b line) = count a + count b
  count (node.Compare op ty a b) = count a + count b
  count (node.Is e class) = count e + 1
  count (node.Join a b line) = count a + count b
  count (node.Part a i n line) = count a + count i + count n
  count (node.Make class args) = count_all args + 1
  count (node.Field e class index ty line) = count e + 1
  count (node.SetField p class index ty e line) = count p + count e + 1
  count (node.Fill l u e ty line) = count l + count u + count e + 1
  count (node.Elems l items ty line) = count l + count_all items + 1
  count (node.Element v i ty line) = count v + count i
  count (node.SetElement v i e ty line) = count v + count i + count e
  count (node.Bound v upper) = count v
  count (node.Proc of) = 1
  count (node.Call f args line) = count f + count_all args
  count (node.Lib code args line) = count_all args
  count (node.Scan text a f q s line) = count a + count f
  count (node.Write e w wide ty line) = count e + count w
  count _ = 0

  pub count_all : Nodes → ℕ
  count_all none = 0
  count_all (more first rest) = count first + count_all rest

  pub count_arms : Arms → ℕ
  count_arms no_arms = 0
  count_arms (more_arms (arm labels a) rest) = count_all labels + count a + count_arms rest

abbrev pub items_in : Nodes → ℕ
items_in none = 0
items_in (more first rest) = items_in rest + 1

-- makes and enters a scope, and leaves it
abbrev pub entered : Option (List ℕ) → ℕ → List Instr
entered None k = []
entered (Some text) k = instr.Scope k ∷ []

abbrev pub left : Option (List ℕ) → List Instr
left None = []
left (Some text) = instr.Leave ∷ []

-- The code of a clause that begins at this offset, and whose first constant has this number.
abbrev mutual
  pub emit : Node → ℕ → ℕ → List Instr
  emit (node.Int v) at k = instr.Int v ∷ []
  emit (node.Flag b) at k = choice.flag b ∷ []
  emit (node.Text bytes) at k = instr.Text k ∷ []
  emit node.Nil at k = instr.Nil ∷ []
  emit (node.Name place ty) at k = choice.get place ty ∷ []
  emit (node.SetName place ty e) at k = emit e at k ++ choice.set place ty ∷ []
  emit (node.Let place ty e) at k = emit e at k ++ choice.set place ty ∷ []
  emit node.Class at k = []
  emit node.Empty at k = []
  emit (node.Block scope items) at k = entered scope k ++ (emit_all items (at + size_entered scope) (k + count_scope scope) ++ left scope)
  emit (node.IfDo c a) at k =
      let clause = at + size c + 5 in
      let end = clause + size a in
      emit c at k ++ instr.JumpFalse end ∷ emit a clause (k + count c)
  emit (node.IfElse c a b) at k =
      let clause = at + size c + 5 in
      let other = clause + size a + 5 in
      let end = other + size b in
      emit c at k ++ instr.JumpFalse other ∷ (emit a clause (k + count c) ++ instr.Jump end ∷ emit b other (k + count c + count a))
  emit (node.While c a) at k =
      let clause = at + 5 in
      let test = clause + size a in
      instr.Jump test ∷ (emit a clause k ++ (emit c test (k + count a) ++ instr.Again clause ∷ []))
  emit (node.Repeat a c b) at k =
      let between = at + 5 in
      let clause = between + size b in
      instr.Jump clause ∷ (emit b between k ++ (emit a clause (k + count b) ++ (emit c (clause + size a) (k + count b + count a) ++ instr.Again between ∷ [])))
  emit (node.For slot a b c scope control s line) at k =
      let limit = at + size a + 5 in
      let step = limit + size b + 5 in
      let turn = step + size c + 5 + 13 in
      let clause = turn + size_entered scope + 5 + size_at control in
      let end = clause + size s + size_left scope + 9 in
      let own = k + count a + count b + count c in
      emit a at k ++ instr.SetM slot ∷ (emit b limit (k + count a) ++ instr.SetM (slot + 1) ∷ (emit c step (k + count a + count b) ++ instr.SetM (slot + 2) ∷ instr.ForStart slot end line
      ∷ (entered scope own ++ instr.GetM slot ∷ choice.set control types.Int ∷ (emit s clause (own + count_scope scope) ++ (left scope ++ instr.ForNext slot turn ∷ [])))))
  emit (node.Case e arms d ty) at k =
      let first = at + size e in
      let default = first + size_arms arms + 1 in
      let end = default + size d in
      emit e at k ++ (emit_arms ty end arms first (k + count e) ++ choice.by_type ty instr.DropM instr.DropP ∷ emit d default (k + count e + count_arms arms))
  emit (node.And a b) at k =
      let other = at + size a + 5 in
      let end = other + size b in
      emit a at k ++ instr.And end ∷ emit b other (k + count a)
  emit (node.Or a b) at k =
      let other = at + size a + 5 in
      let end = other + size b in
      emit a at k ++ instr.Or end ∷ emit b other (k + count a)
  emit (node.Not e) at k = emit e at k ++ instr.Not ∷ []
  emit (node.Neg e line) at k = emit e at k ++ instr.Neg line ∷ []
  emit (node.Plus e) at k = emit e at k
  emit (node.Arith op a b line) at k = emit a at k ++ (emit b (at + size a) (k + count a) ++ choice.arith op line ∷ [])
  emit (node.Compare op ty a b) at k = emit a at k ++ (emit b (at + size a) (k + count a) ++ choice.compare op ty ∷ [])
  emit (node.Is e class) at k = emit e at k ++ instr.Is (k + count e) ∷ []
  emit (node.Join a b line) at k = emit a at k ++ (emit b (at + size a) (k + count a) ++ instr.Join line ∷ [])
  emit (node.Part a i n line) at k =
      emit a at k ++ (emit i (at + size a) (k + count a) ++ (emit n (at + size a + size i) (k + count a + count i) ++ instr.Part line ∷ []))
  emit (node.Make class args) at k = emit_all args at k ++ instr.Make (k + count_all args) ∷ []
  emit (node.Field e class index ty line) at k =
      let named = k + count e in
      emit e at k ++ choice.by_type ty (instr.FieldM named index line) (instr.FieldP named index line) ∷ []
  emit (node.SetField p class index ty e line) at k =
      let named = k + count p + count e in
      emit p at k ++ (emit e (at + size p) (k + count p) ++ choice.by_type ty (instr.SetFieldM named index line) (instr.SetFieldP named index line) ∷ [])
  emit (node.Fill l u e ty line) at k =
      let named = k + count l + count u + count e in
      emit l at k ++ (emit u (at + size l) (k + count l) ++ (emit e (at + size l + size u) (k + count l + count u)
      ++ choice.by_type (element_of ty) (instr.FillM named line) (instr.FillP named line) ∷ []))
  emit (node.Elems l items ty line) at k =
      let named = k + count l + count_all items in
      emit l at k ++ (emit_all items (at + size l) (k + count l)
      ++ choice.by_type (element_of ty) (instr.ListM named (items_in items) line) (instr.ListP named (items_in items) line) ∷ [])
  emit (node.Element v i ty line) at k =
      emit v at k ++ (emit i (at + size v) (k + count v) ++ choice.by_type ty (instr.ElemM line) (instr.ElemP line) ∷ [])
  emit (node.SetElement v i e ty line) at k =
      emit v at k ++ (emit i (at + size v) (k + count v) ++ (emit e (at + size v + size i) (k + count v + count i)
      ++ choice.by_type ty (instr.SetElemM line) (instr.SetElemP line) ∷ []))
  emit (node.Bound v upper) at k = emit v at k ++ choice.bound upper ∷ []
  emit (node.Proc of) at k = instr.Closure k ∷ []
  emit (node.Call f args line) at k =
      emit f at k ++ (emit_all args (at + size f) (k + count f) ++ instr.Call (choice.reference_arguments (type_of f)) line ∷ [])
  emit (node.Lib code args line) at k = emit_all args at k ++ instr.Lib code line ∷ []
  emit (node.Scan text a f q s line) at k =
      let procedure = at + size a + 5 in
      let turn = procedure + size f + 5 + 30 in
      let end = turn + 17 + 9 + 9 in
      emit a at k ++ instr.SetP q ∷ (emit f procedure (k + count a) ++ instr.SetP (q + 1)
      ∷ instr.Int (pos 0) ∷ instr.SetM s ∷ instr.Int (pos 0) ∷ instr.SetM (s + 1) ∷ instr.Int (pos 0) ∷ instr.SetM (s + 2)
      ∷ choice.scan text q s end line ∷ instr.Call (if text then 2 else 1) line ∷ instr.ScanMore s turn ∷ instr.GetM s ∷ [])
  emit (node.Write e w wide ty line) at k = emit e at k ++ (emit w (at + size e) (k + count e) ++ choice.write ty wide line ∷ [])
  emit (node.Abort line) at k = instr.Abort line ∷ []

  pub emit_all : Nodes → ℕ → ℕ → List Instr
  emit_all none at k = []
  emit_all (more first rest) at k = emit first at k ++ emit_all rest (at + size first) (k + count first)

  -- the arms of a `case` of this type that ends at this offset
  pub emit_arms : TyView → ℕ → Arms → ℕ → ℕ → List Instr
  emit_arms ty end no_arms at k = []
  emit_arms ty end (more_arms (arm labels a) rest) at k =
      let chosen = at + size_labels labels + 5 in
      let next = chosen + 1 + size a + 5 in
      emit_labels ty chosen labels at k ++ instr.Jump next ∷ choice.by_type ty instr.DropM instr.DropP
      ∷ (emit a (chosen + 1) (k + count_all labels) ++ instr.Jump end ∷ emit_arms ty end rest next (k + count_all labels + count a))

  -- the labels of an arm whose clause is chosen at this offset
  pub emit_labels : TyView → ℕ → Nodes → ℕ → ℕ → List Instr
  emit_labels ty chosen none at k = []
  emit_labels ty chosen (more label rest) at k =
      choice.by_type ty instr.DupM instr.DupP ∷ (emit label (at + 1) k ++ choice.compare Equal ty ∷ instr.JumpTrue chosen
      ∷ emit_labels ty chosen rest (at + 1 + size label + 1 + 5) (k + count label))
