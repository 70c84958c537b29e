-- The parts of a clause: the clauses in it, in the order of its fields, which is that of the text. What is counted over a
-- tree is a fold over them, so each form has one row here.
use Rattle.std.specs.Prelude.{List, [], ◌∷◌, ◌++◌}
use Rattle.ps_program.specs.Node.{Node, Nodes, none, more, Arm, arm, Arms, no_arms, more_arms, body}
use Rattle.ps_program.specs.Node as node

-- An operand waits on a stack while those after it are evaluated. A label is compared with a value that waits. Of branches
-- one is the whole when it is evaluated, and nothing waits. The clause of a procedure literal is evaluated elsewhere.
pub data Part (A : Type 0) : Type 0 where
  operand : (of : A) → Part A
  label : (of : A) → Part A
  branch : (of : A) → Part A
  literal : (of : A) → Part A

abbrev mutual
  pub fold : {A : Type 0} → (Node → List (Part A) → A) → Node → A
  fold g (node.Int v) = g (node.Int v) []
  fold g (node.Flag b) = g (node.Flag b) []
  fold g (node.Text bytes) = g (node.Text bytes) []
  fold g node.Nil = g node.Nil []
  fold g (node.Name place ty) = g (node.Name place ty) []
  fold g (node.SetName place ty e) = g (node.SetName place ty e) (operand (fold g e) ∷ [])
  fold g (node.Let place ty e) = g (node.Let place ty e) (operand (fold g e) ∷ [])
  fold g node.Class = g node.Class []
  fold g node.Empty = g node.Empty []
  fold g (node.Block scope items) = g (node.Block scope items) (fold_all g branch items)
  fold g (node.IfDo c a) = g (node.IfDo c a) (branch (fold g c) ∷ branch (fold g a) ∷ [])
  fold g (node.IfElse c a b) = g (node.IfElse c a b) (branch (fold g c) ∷ branch (fold g a) ∷ branch (fold g b) ∷ [])
  fold g (node.While c a) = g (node.While c a) (operand (fold g c) ∷ operand (fold g a) ∷ [])
  fold g (node.Repeat a c b) = g (node.Repeat a c b) (operand (fold g a) ∷ operand (fold g c) ∷ operand (fold g b) ∷ [])
  fold g (node.For slot a b c scope control s line) = g (node.For slot a b c scope control s line) (operand (fold g a) ∷ operand (fold g b) ∷ operand (fold g c) ∷ operand (fold g s) ∷ [])
  fold g (node.Case e arms d ty) = g (node.Case e arms d ty) (operand (fold g e) ∷ (fold_arms g arms ++ branch (fold g d) ∷ []))
  fold g (node.And a b) = g (node.And a b) (operand (fold g a) ∷ operand (fold g b) ∷ [])
  fold g (node.Or a b) = g (node.Or a b) (operand (fold g a) ∷ operand (fold g b) ∷ [])
  fold g (node.Not e) = g (node.Not e) (operand (fold g e) ∷ [])
  fold g (node.Neg e line) = g (node.Neg e line) (operand (fold g e) ∷ [])
  fold g (node.Plus e) = g (node.Plus e) (operand (fold g e) ∷ [])
  fold g (node.Arith op a b line) = g (node.Arith op a b line) (operand (fold g a) ∷ operand (fold g b) ∷ [])
  fold g (node.Compare op ty a b) = g (node.Compare op ty a b) (operand (fold g a) ∷ operand (fold g b) ∷ [])
  fold g (node.Is e class) = g (node.Is e class) (operand (fold g e) ∷ [])
  fold g (node.Join a b line) = g (node.Join a b line) (operand (fold g a) ∷ operand (fold g b) ∷ [])
  fold g (node.Part a i n line) = g (node.Part a i n line) (operand (fold g a) ∷ operand (fold g i) ∷ operand (fold g n) ∷ [])
  fold g (node.Make class args) = g (node.Make class args) (fold_all g operand args)
  fold g (node.Field e class index ty line) = g (node.Field e class index ty line) (operand (fold g e) ∷ [])
  fold g (node.SetField p class index ty e line) = g (node.SetField p class index ty e line) (operand (fold g p) ∷ operand (fold g e) ∷ [])
  fold g (node.Fill l u e ty line) = g (node.Fill l u e ty line) (operand (fold g l) ∷ operand (fold g u) ∷ operand (fold g e) ∷ [])
  fold g (node.Elems l items ty line) = g (node.Elems l items ty line) (operand (fold g l) ∷ fold_all g operand items)
  fold g (node.Element v i ty line) = g (node.Element v i ty line) (operand (fold g v) ∷ operand (fold g i) ∷ [])
  fold g (node.SetElement v i e ty line) = g (node.SetElement v i e ty line) (operand (fold g v) ∷ operand (fold g i) ∷ operand (fold g e) ∷ [])
  fold g (node.Bound v upper) = g (node.Bound v upper) (operand (fold g v) ∷ [])
  fold g (node.Proc (body params gives tree scope line)) = g (node.Proc (body params gives tree scope line)) (literal (fold g tree) ∷ [])
  fold g (node.Call f args line) = g (node.Call f args line) (operand (fold g f) ∷ fold_all g operand args)
  fold g (node.Lib code args line) = g (node.Lib code args line) (fold_all g operand args)
  fold g (node.Scan text a f q s line) = g (node.Scan text a f q s line) (operand (fold g a) ∷ operand (fold g f) ∷ [])
  fold g (node.Write e w wide ty line) = g (node.Write e w wide ty line) (operand (fold g e) ∷ operand (fold g w) ∷ [])
  fold g (node.Abort line) = g (node.Abort line) []

  pub fold_all : {A : Type 0} → (Node → List (Part A) → A) → (A → Part A) → Nodes → List (Part A)
  fold_all g as_part none = []
  fold_all g as_part (more first rest) = as_part (fold g first) ∷ fold_all g as_part rest

  -- of each arm the labels, then the clause
  pub fold_arms : {A : Type 0} → (Node → List (Part A) → A) → Arms → List (Part A)
  fold_arms g no_arms = []
  fold_arms g (more_arms (arm labels a) rest) = fold_all g label labels ++ (branch (fold g a) ∷ fold_arms g rest)
