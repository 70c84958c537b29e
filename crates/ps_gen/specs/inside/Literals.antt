-- The code of the bodies that a clause makes procedures of.
use Rattle.std.specs.Prelude.{List, [], ◌∷◌, ◌++◌}
use Rattle.ps_base.specs.declared.instr.Instr.{Instr}
use Rattle.ps_program.specs.Node.{Node, Nodes, none, more, Arms, no_arms, more_arms, arm, body}
use Rattle.ps_program.specs.Node as node
use Rattle.ps_gen.specs.Units.{body_instrs}

-- the instructions of the literals in a clause, each before those inside it
abbrev mutual
  pub literals_in : Node → List (List Instr)
  literals_in (node.SetName place ty e) = literals_in e
  literals_in (node.Let place ty e) = literals_in e
  literals_in (node.Block scope items) = literals_in_all items
  literals_in (node.IfDo c a) = literals_in c ++ literals_in a
  literals_in (node.IfElse c a b) = literals_in c ++ (literals_in a ++ literals_in b)
  literals_in (node.While c a) = literals_in a ++ literals_in c
  literals_in (node.Repeat a c b) = literals_in b ++ (literals_in a ++ literals_in c)
  literals_in (node.For slot a b c scope control s line) = literals_in a ++ (literals_in b ++ (literals_in c ++ literals_in s))
  literals_in (node.Case e arms d ty) = literals_in e ++ (literals_in_arms arms ++ literals_in d)
  literals_in (node.And a b) = literals_in a ++ literals_in b
  literals_in (node.Or a b) = literals_in a ++ literals_in b
  literals_in (node.Not e) = literals_in e
  literals_in (node.Neg e line) = literals_in e
  literals_in (node.Plus e) = literals_in e
  literals_in (node.Arith op a b line) = literals_in a ++ literals_in b
  literals_in (node.Compare op ty a b) = literals_in a ++ literals_in b
  literals_in (node.Is e class) = literals_in e
  literals_in (node.Join a b line) = literals_in a ++ literals_in b
  literals_in (node.Part a i n line) = literals_in a ++ (literals_in i ++ literals_in n)
  literals_in (node.Make class args) = literals_in_all args
  literals_in (node.Field e class index ty line) = literals_in e
  literals_in (node.SetField p class index ty e line) = literals_in p ++ literals_in e
  literals_in (node.Fill l u e ty line) = literals_in l ++ (literals_in u ++ literals_in e)
  literals_in (node.Elems l items ty line) = literals_in l ++ literals_in_all items
  literals_in (node.Element v i ty line) = literals_in v ++ literals_in i
  literals_in (node.SetElement v i e ty line) = literals_in v ++ (literals_in i ++ literals_in e)
  literals_in (node.Bound v upper) = literals_in v
  literals_in (node.Proc (body params gives tree scope line)) = body_instrs params gives tree scope ∷ literals_in tree
  literals_in (node.Call f args line) = literals_in f ++ literals_in_all args
  literals_in (node.Lib code args line) = literals_in_all args
  literals_in (node.Scan string a f q s line) = literals_in a ++ literals_in f
  literals_in (node.Write e w wide ty line) = literals_in e ++ literals_in w
  literals_in _ = []

  pub literals_in_all : Nodes → List (List Instr)
  literals_in_all none = []
  literals_in_all (more first rest) = literals_in first ++ literals_in_all rest

  pub literals_in_arms : Arms → List (List Instr)
  literals_in_arms no_arms = []
  literals_in_arms (more_arms (arm labels a) rest) = literals_in_all labels ++ (literals_in a ++ literals_in_arms rest)
