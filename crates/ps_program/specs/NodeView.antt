-- The typed tree in code as contracts see it.
use Rattle.std.specs.Prelude.{List, [], ◌∷◌, map, option_map}
use Rattle.std.specs.Rc.{rc_value}
use Rattle.ps_base.specs.List.{items_of}
use Rattle.ps_base.specs.TyView.{ty_view}
use Rattle.ps_program.specs.declared.body.Body.{Body}
use Rattle.ps_program.specs.declared.body.Param.{Param as ParamOf}
use Rattle.ps_program.specs.declared.form.Tree.{Tree}
use Rattle.ps_program.specs.declared.form.Arm.{Arm as ArmOf}
use Rattle.ps_program.specs.declared.form.TreeForm.{TreeForm}
use Rattle.ps_program.specs.declared.form.TreeForm.TheBlock.{struct-Arm, Row_of-Tree, end_of-Tree, more_of-Tree, Row_of-Arm, end_of-Arm, more_of-Arm}
use Rattle.ps_program.specs.declared.form.TreeForm.TheVariants as code
use Rattle.ps_program.specs.Node.{Param, Node, Nodes, none, more, Arm, arm, Arms, no_arms, more_arms, BodyNode, body}
use Rattle.ps_program.specs.Node as node

abbrev pub param_of : ParamOf → Param
param_of param = record { ty = ty_view param.ty; place = param.place }

abbrev pub params_of : List ParamOf → List Param
params_of params = map param_of params

abbrev mutual
  pub node_of_form : TreeForm → Node
  node_of_form (code.Int v) = node.Int v
  node_of_form (code.Flag b) = node.Flag b
  node_of_form (code.Text bytes) = node.Text bytes
  node_of_form code.Nil = node.Nil
  node_of_form (code.Name place ty) = node.Name place (ty_view ty)
  node_of_form (code.SetName' place ty p e) = node.SetName place (ty_view ty) (node_of_form e)
  node_of_form (code.Let' place ty p e) = node.Let place (ty_view ty) (node_of_form e)
  node_of_form code.Class = node.Class
  node_of_form code.Empty = node.Empty
  node_of_form (code.Block' scope shape items) = node.Block (option_map (λ bytes. bytes.value) scope) (nodes_of items)
  node_of_form (code.IfDo' p c q a) = node.IfDo (node_of_form c) (node_of_form a)
  node_of_form (code.IfElse' p c q a r b) = node.IfElse (node_of_form c) (node_of_form a) (node_of_form b)
  node_of_form (code.While' p c q a) = node.While (node_of_form c) (node_of_form a)
  node_of_form (code.Repeat' p a q c r b) = node.Repeat (node_of_form a) (node_of_form c) (node_of_form b)
  node_of_form (code.For' o slot p a q b r c scope control t s line) = node.For slot (node_of_form a) (node_of_form b) (node_of_form c) scope control (node_of_form s) line
  node_of_form (code.Case' p e shape arms q d ty) = node.Case (node_of_form e) (arms_of arms) (node_of_form d) (ty_view ty.value)
  node_of_form (code.And' p a q b) = node.And (node_of_form a) (node_of_form b)
  node_of_form (code.Or' p a q b) = node.Or (node_of_form a) (node_of_form b)
  node_of_form (code.Not' p e) = node.Not (node_of_form e)
  node_of_form (code.Neg' p e line) = node.Neg (node_of_form e) line
  node_of_form (code.Plus' p e) = node.Plus (node_of_form e)
  node_of_form (code.Arith' op p a q b line) = node.Arith op (node_of_form a) (node_of_form b) line
  node_of_form (code.Compare' op ty p a q b) = node.Compare op (ty_view ty) (node_of_form a) (node_of_form b)
  node_of_form (code.Is' p e class) = node.Is (node_of_form e) (rc_value class)
  node_of_form (code.Join' p a q b line) = node.Join (node_of_form a) (node_of_form b) line
  node_of_form (code.Part' p a q i r n line) = node.Part (node_of_form a) (node_of_form i) (node_of_form n) line
  node_of_form (code.Make' class shape args) = node.Make (rc_value class) (nodes_of args)
  node_of_form (code.Field' p e class index ty line) = node.Field (node_of_form e) (rc_value class) index (ty_view ty) line
  node_of_form (code.SetField' p e class ty q x index line) = node.SetField (node_of_form e) (rc_value class) index (ty_view ty) (node_of_form x) line
  node_of_form (code.Fill' p l q u r e ty line) = node.Fill (node_of_form l) (node_of_form u) (node_of_form e) (ty_view ty) line
  node_of_form (code.Elems' p l shape items ty line) = node.Elems (node_of_form l) (nodes_of items) (ty_view ty.value) line
  node_of_form (code.Element' p v q i ty line) = node.Element (node_of_form v) (node_of_form i) (ty_view ty) line
  node_of_form (code.SetElement' p v q i r e ty line) = node.SetElement (node_of_form v) (node_of_form i) (node_of_form e) (ty_view ty) line
  node_of_form (code.Bound' p v upper) = node.Bound (node_of_form v) upper
  node_of_form (code.Proc' o params gives p tree scope line) = node.Proc (body (params_of (items_of params)) (ty_view gives) (node_of_form tree) scope line)
  node_of_form (code.Call' p f shape args line) = node.Call (node_of_form f) (nodes_of args) line
  node_of_form (code.Lib' code_ shape args line) = node.Lib code_ (nodes_of args) line
  node_of_form (code.Scan' text p a q f locals numbers line) = node.Scan text (node_of_form a) (node_of_form f) locals numbers line
  node_of_form (code.Write' p e q w wide ty line) = node.Write (node_of_form e) (node_of_form w) wide (ty_view ty) line
  node_of_form (code.Abort line) = node.Abort line

  pub nodes_of : {m : _} → Row_of-Tree m → Nodes
  nodes_of end_of-Tree = none
  nodes_of (more_of-Tree p form rest) = more (node_of_form form) (nodes_of rest)

  pub arms_of : {m : _} → Row_of-Arm m → Arms
  arms_of end_of-Arm = no_arms
  arms_of (more_of-Arm first rest) = more_arms (arm_of first) (arms_of rest)

  pub arm_of : ArmOf → Arm
  arm_of (struct-Arm shape labels p a) = arm (nodes_of labels) (node_of_form a)

abbrev pub node_of : Tree → Node
node_of tree = node_of_form tree.form.value

abbrev pub body_of : Body → BodyNode
body_of b = body (params_of (items_of b.params)) (ty_view b.gives) (node_of b.tree) b.scope b.line

-- the trees of a list
abbrev pub nodes_in : List Tree → Nodes
nodes_in [] = none
nodes_in (t ∷ ts) = more (node_of t) (nodes_in ts)
