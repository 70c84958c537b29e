-- The parts of a clause as a list.
use Rattle.std.specs.Prelude.{List, [], ◌∷◌, ◌++◌}
use Rattle.ps_program.specs.Node.{Node, Nodes, none, more, Arm, arm, Arms, no_arms, more_arms, BodyNode, body}
use Rattle.ps_program.specs.Node as node
use Rattle.ps_program.specs.Parts.{Part, operand, label, branch, literal}

abbrev pub parts_all : (Node → Part Node) → Nodes → List (Part Node)
parts_all as_part none = []
parts_all as_part (more first rest) = as_part first ∷ parts_all as_part rest

abbrev pub parts_arms : Arms → List (Part Node)
parts_arms no_arms = []
parts_arms (more_arms (arm labels a) rest) = parts_all label labels ++ (branch a ∷ parts_arms rest)

abbrev pub parts_of : Node → List (Part Node)
parts_of (node.SetName place ty e) = operand e ∷ []
parts_of (node.Let place ty e) = operand e ∷ []
parts_of (node.Block scope items) = parts_all branch items
parts_of (node.IfDo c a) = branch c ∷ branch a ∷ []
parts_of (node.IfElse c a b) = branch c ∷ branch a ∷ branch b ∷ []
parts_of (node.While c a) = operand c ∷ operand a ∷ []
parts_of (node.Repeat a c b) = operand a ∷ operand c ∷ operand b ∷ []
parts_of (node.For slot a b c scope control s line) = operand a ∷ operand b ∷ operand c ∷ operand s ∷ []
parts_of (node.Case e arms d ty) = operand e ∷ (parts_arms arms ++ branch d ∷ [])
parts_of (node.And a b) = operand a ∷ operand b ∷ []
parts_of (node.Or a b) = operand a ∷ operand b ∷ []
parts_of (node.Not e) = operand e ∷ []
parts_of (node.Neg e line) = operand e ∷ []
parts_of (node.Plus e) = operand e ∷ []
parts_of (node.Arith op a b line) = operand a ∷ operand b ∷ []
parts_of (node.Compare op ty a b) = operand a ∷ operand b ∷ []
parts_of (node.Is e class) = operand e ∷ []
parts_of (node.Join a b line) = operand a ∷ operand b ∷ []
parts_of (node.Part a i n line) = operand a ∷ operand i ∷ operand n ∷ []
parts_of (node.Make class args) = parts_all operand args
parts_of (node.Field e class index ty line) = operand e ∷ []
parts_of (node.SetField p class index ty e line) = operand p ∷ operand e ∷ []
parts_of (node.Fill l u e ty line) = operand l ∷ operand u ∷ operand e ∷ []
parts_of (node.Elems l items ty line) = operand l ∷ parts_all operand items
parts_of (node.Element v i ty line) = operand v ∷ operand i ∷ []
parts_of (node.SetElement v i e ty line) = operand v ∷ operand i ∷ operand e ∷ []
parts_of (node.Bound v upper) = operand v ∷ []
parts_of (node.Proc (body params gives tree scope line)) = literal tree ∷ []
parts_of (node.Call f args line) = operand f ∷ parts_all operand args
parts_of (node.Lib code args line) = parts_all operand args
parts_of (node.Scan text a f q s line) = operand a ∷ operand f ∷ []
parts_of (node.Write e w wide ty line) = operand e ∷ operand w ∷ []
parts_of _ = []

-- the body of a literal
abbrev pub literals_of : Node → List BodyNode
literals_of (node.Proc of) = of ∷ []
literals_of _ = []

abbrev pub part_as : {A B : Type 0} → (A → B) → Part A → Part B
part_as f (operand of) = operand (f of)
part_as f (label of) = label (f of)
part_as f (branch of) = branch (f of)
part_as f (literal of) = literal (f of)
