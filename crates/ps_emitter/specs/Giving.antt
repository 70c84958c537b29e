-- The type of what a clause gives, by its form.
use Rattle.std.specs.Prelude.{ℕ, nat_eq, List, [], ◌∷◌, if◌then◌else◌}
use Rattle.ps_base.specs.TyView.{TyView, TyViews}
use Rattle.ps_base.specs.TyView as types
use Rattle.ps_program.specs.Node.{Param, Node, Nodes, none, more, BodyNode, body}
use Rattle.ps_program.specs.Node as node
use Rattle.ps_typing.specs.WellTyped.{types_of_params}
use Rattle.ps_typing.specs.Names.{plain, scan, library, class, local, Declared, Meaning}
use Rattle.ps_typing.specs.Library.{procedures}

-- what a procedure of this type gives
abbrev pub result_of : TyView → TyView
result_of (types.Proc params gives) = gives
result_of _ = types.Void

abbrev pub element_of : TyView → TyView
element_of (types.Vector element) = element
element_of _ = types.Void

-- what the library procedure of this code gives, among these
abbrev pub given_by : Meaning → ℕ → TyView → TyView
given_by (library (plain code params gives)) wanted otherwise = if nat_eq code wanted then gives else otherwise
given_by (library (scan string)) wanted otherwise = otherwise
given_by (class of fields) wanted otherwise = otherwise
given_by (local number ty variable) wanted otherwise = otherwise

abbrev pub library_result : List Declared → ℕ → TyView
library_result [] code = types.Void
library_result (first ∷ rest) code = given_by first.meaning code (library_result rest code)

abbrev mutual
  pub type_of : Node → TyView
  type_of (node.Int v) = types.Int
  type_of (node.Flag b) = types.Bool
  type_of (node.Text bytes) = types.Str
  type_of node.Nil = types.Pntr
  type_of (node.Name place ty) = ty
  type_of (node.Block scope items) = type_of_last types.Void items
  type_of (node.IfElse c a b) = type_of b
  type_of (node.Case e arms d ty) = type_of d
  type_of (node.And a b) = types.Bool
  type_of (node.Or a b) = types.Bool
  type_of (node.Not e) = types.Bool
  type_of (node.Neg e line) = types.Int
  type_of (node.Plus e) = types.Int
  type_of (node.Arith op a b line) = types.Int
  type_of (node.Compare op ty a b) = types.Bool
  type_of (node.Is e text) = types.Bool
  type_of (node.Join a b line) = types.Str
  type_of (node.Part a i n line) = types.Str
  type_of (node.Make text args) = types.Pntr
  type_of (node.Field e text index ty line) = ty
  type_of (node.Fill l u e ty line) = ty
  type_of (node.Elems l items ty line) = ty
  type_of (node.Element v i ty line) = ty
  type_of (node.Bound v upper) = types.Int
  type_of (node.Proc (body params gives tree scope line)) = types.Proc (types_of_params params) gives
  type_of (node.Call f args line) = result_of (type_of f)
  type_of (node.Lib code args line) = library_result procedures code
  type_of (node.Scan string a f q s line) = types.Int
  type_of _ = types.Void

  -- a sequence gives what its last clause gives
  pub type_of_last : TyView → Nodes → TyView
  type_of_last before none = before
  type_of_last before (more first rest) = type_of_last (type_of first) rest
