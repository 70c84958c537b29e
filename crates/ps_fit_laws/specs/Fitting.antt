-- Typed trees whose leaves are ints and strings, whose classes have names of a text and the fields that are named, and whose bodies take and give
-- values.
use Rattle.std.specs.Prelude.{◌≡◌, true}
use Rattle.ps_leaf_laws.specs.ps_program.Node.{Node, Nodes, none, more, Arms, no_arms, more_arms, arm, BodyNode, body}
use Rattle.ps_leaf_laws.specs.ps_program.Node as node
use Rattle.ps_leaf_laws.specs.ps_heap.Operators.{is_int}
use Rattle.ps_leaf_laws.specs.ps_heap.Texts.{is_string}
use Rattle.ps_leaf_laws.specs.ps_soundness.Valued.{IsValued}
use Rattle.ps_leaf_laws.specs.ps_soundness.Shapes.{type_of_body}
use Rattle.ps_leaf_laws.specs.ps_soundness.Running.{IsClassText, HasField, HasAsMany}

-- what a body takes and gives are values
abbrev pub TakesAndGivesValues : BodyNode → Type 0
TakesAndGivesValues of = IsValued (type_of_body of)

abbrev mutual
  pub Fits : Node → Type 0
  Fits (node.Int v) = is_int v ≡ true
  Fits (node.Flag b) = Unit {0}
  Fits (node.Text bytes) = is_string bytes ≡ true
  Fits node.Nil = Unit {0}
  Fits (node.Name place ty) = Unit {0}
  Fits (node.SetName place ty e) = Fits e
  Fits (node.Let place ty e) = Fits e
  Fits node.Class = Unit {0}
  Fits node.Empty = Unit {0}
  Fits (node.Block scope items) = AllFit items
  Fits (node.IfDo c a) = Fits c × Fits a
  Fits (node.IfElse c a b) = Fits c × Fits a × Fits b
  Fits (node.While c a) = Fits c × Fits a
  Fits (node.Repeat a c b) = Fits a × Fits c × Fits b
  Fits (node.For slot a b c scope control s line) = Fits a × Fits b × Fits c × Fits s
  Fits (node.Case e arms d ty) = Fits e × ArmsFit arms × Fits d
  Fits (node.And a b) = Fits a × Fits b
  Fits (node.Or a b) = Fits a × Fits b
  Fits (node.Not e) = Fits e
  Fits (node.Neg e line) = Fits e
  Fits (node.Plus e) = Fits e
  Fits (node.Arith op a b line) = Fits a × Fits b
  Fits (node.Compare op ty a b) = Fits a × Fits b
  Fits (node.Is e class) = IsClassText class × Fits e
  Fits (node.Join a b line) = Fits a × Fits b
  Fits (node.Part a i n line) = Fits a × Fits i × Fits n
  Fits (node.Make class args) = HasAsMany class args × AllFit args
  Fits (node.Field e class index ty line) = HasField class index ty × Fits e
  Fits (node.SetField p class index ty e line) = HasField class index ty × Fits p × Fits e
  Fits (node.Fill l u e ty line) = Fits l × Fits u × Fits e
  Fits (node.Elems l items ty line) = IsValued ty × Fits l × AllFit items
  Fits (node.Element v i ty line) = Fits v × Fits i
  Fits (node.SetElement v i e ty line) = Fits v × Fits i × Fits e
  Fits (node.Bound v upper) = Fits v
  Fits (node.Lib code args line) = AllFit args
  Fits (node.Write e w wide ty line) = Fits e × Fits w
  Fits (node.Abort line) = Unit {0}
  Fits (node.Proc of) = FitsBody of
  Fits (node.Call f args line) = Fits f × AllFit args
  Fits (node.Scan text a f q s line) = Fits a × Fits f

  pub AllFit : Nodes → Type 0
  AllFit none = Unit {0}
  AllFit (more first rest) = Fits first × AllFit rest

  pub ArmsFit : Arms → Type 0
  ArmsFit no_arms = Unit {0}
  ArmsFit (more_arms (arm labels a) rest) = AllFit labels × Fits a × ArmsFit rest

  pub FitsBody : BodyNode → Type 0
  FitsBody (body params gives tree scope line) = TakesAndGivesValues (body params gives tree scope line) × Fits tree
