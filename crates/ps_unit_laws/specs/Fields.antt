-- What the numbers that stand in a typed tree can be, as the tree of the code keeps them: an int has 32 bits with its sign, and any other number 32
-- bits. The slots of locals aren't among them: a body has few.
use Rattle.std.specs.Prelude.{ℕ, ◌<◌, ◌^◌, List, [], ◌∷◌, FitsSigned}
use Rattle.std.specs.Int.{w32}
use Rattle.ps_gen.specs.ps_base.declared.line.Line.{Line}
use Rattle.ps_gen.specs.ps_program.declared.place.Place.{Place}
use Rattle.ps_gen.specs.ps_program.declared.place.Place.TheVariants.{Plain, Kept}
use Rattle.ps_gen.specs.ps_program.Node.{Param, Node, Nodes, none, more, Arms, no_arms, more_arms, arm, BodyNode, body}
use Rattle.ps_gen.specs.ps_program.Node as node

abbrev pub IsWord : ℕ → Type 0
IsWord n = n < 2 ^ 32

abbrev pub IsLine : Line → Type 0
IsLine line = IsWord line.0

-- a name that a scope keeps: how many scopes out, and which of its names
abbrev pub IsPlace : Place → Type 0
IsPlace (Plain slot) = Unit {0}
IsPlace (Kept up position) = IsWord up × IsWord position

-- of a clause with all in it but the literals, which are bodies by themselves
abbrev mutual
  pub FieldsFit : Node → Type 0
  FieldsFit (node.Int v) = FitsSigned w32 v
  FieldsFit (node.Name place ty) = IsPlace place
  FieldsFit (node.SetName place ty e) = IsPlace place × FieldsFit e
  FieldsFit (node.Let place ty e) = IsPlace place × FieldsFit e
  FieldsFit (node.Block scope items) = AllFieldsFit items
  FieldsFit (node.IfDo c a) = FieldsFit c × FieldsFit a
  FieldsFit (node.IfElse c a b) = FieldsFit c × FieldsFit a × FieldsFit b
  FieldsFit (node.While c a) = FieldsFit c × FieldsFit a
  FieldsFit (node.Repeat a c b) = FieldsFit a × FieldsFit c × FieldsFit b
  FieldsFit (node.For slot a b c scope control s line) =
      IsPlace control × IsLine line × FieldsFit a × FieldsFit b × FieldsFit c × FieldsFit s
  FieldsFit (node.Case e arms d ty) = FieldsFit e × ArmFieldsFit arms × FieldsFit d
  FieldsFit (node.And a b) = FieldsFit a × FieldsFit b
  FieldsFit (node.Or a b) = FieldsFit a × FieldsFit b
  FieldsFit (node.Not e) = FieldsFit e
  FieldsFit (node.Neg e line) = IsLine line × FieldsFit e
  FieldsFit (node.Plus e) = FieldsFit e
  FieldsFit (node.Arith op a b line) = IsLine line × FieldsFit a × FieldsFit b
  FieldsFit (node.Compare op ty a b) = FieldsFit a × FieldsFit b
  FieldsFit (node.Is e class) = FieldsFit e
  FieldsFit (node.Join a b line) = IsLine line × FieldsFit a × FieldsFit b
  FieldsFit (node.Part a i n line) = IsLine line × FieldsFit a × FieldsFit i × FieldsFit n
  FieldsFit (node.Make class args) = AllFieldsFit args
  FieldsFit (node.Field e class index ty line) = IsWord index × IsLine line × FieldsFit e
  FieldsFit (node.SetField p class index ty e line) = IsWord index × IsLine line × FieldsFit p × FieldsFit e
  FieldsFit (node.Fill l u e ty line) = IsLine line × FieldsFit l × FieldsFit u × FieldsFit e
  FieldsFit (node.Elems l items ty line) = IsLine line × FieldsFit l × AllFieldsFit items
  FieldsFit (node.Element v i ty line) = IsLine line × FieldsFit v × FieldsFit i
  FieldsFit (node.SetElement v i e ty line) = IsLine line × FieldsFit v × FieldsFit i × FieldsFit e
  FieldsFit (node.Bound v upper) = FieldsFit v
  FieldsFit (node.Call f args line) = IsLine line × FieldsFit f × AllFieldsFit args
  FieldsFit (node.Lib code args line) = IsWord code × IsLine line × AllFieldsFit args
  FieldsFit (node.Scan text a f q s line) = IsLine line × FieldsFit a × FieldsFit f
  FieldsFit (node.Write e w wide ty line) = IsLine line × FieldsFit e × FieldsFit w
  FieldsFit (node.Abort line) = IsLine line
  FieldsFit _ = Unit {0}

  pub AllFieldsFit : Nodes → Type 0
  AllFieldsFit none = Unit {0}
  AllFieldsFit (more first rest) = FieldsFit first × AllFieldsFit rest

  pub ArmFieldsFit : Arms → Type 0
  ArmFieldsFit no_arms = Unit {0}
  ArmFieldsFit (more_arms (arm labels a) rest) = AllFieldsFit labels × FieldsFit a × ArmFieldsFit rest

abbrev pub ArePlaces : List Param → Type 0
ArePlaces [] = Unit {0}
ArePlaces (param ∷ rest) = IsPlace param.place × ArePlaces rest

abbrev pub BodyFieldsFit : BodyNode → Type 0
BodyFieldsFit (body params gives tree scope line) = ArePlaces params × FieldsFit tree
