-- The slot counts of worked programs.
use Rattle.std.proofs.Common.{◌≡◌, refl, pos, [], None, false}
use Rattle.ps_base.specs.TyView as ty
use Rattle.ps_base.specs.declared.line.Line.{Line}
use Rattle.ps_base.specs.declared.operator.Operator.TheVariants.{Add}
use Rattle.ps_program.specs.declared.place.Place.TheVariants.{Plain}
use Rattle.ps_program.specs.Node.{Node, Nodes, none, more, Arms, no_arms, more_arms, arm, BodyNode, body}
use Rattle.ps_program.specs.Node as node
use Rattle.ps_program.specs.Slots.{depth, slot_count, node_count}

first : Line
first = record { 0 = 1 }

one : Node
one = node.Int (pos 1)

abbrev written : Node → Node
written e = node.Write e node.Empty false ty.Int (record { 0 = 1 })

abbrev program : Nodes → BodyNode
program items = body [] ty.Void (node.Block None items) None (record { 0 = 1 })

-- `write 1`: the item, and the width that isn't there after it
written_one : slot_count (program (more (written (node.Int (pos 1))) none)) ≡ 2
written_one = refl

-- `let a = 0; let b = 0`
two_names : slot_count (program (more (node.Let (Plain 0) ty.Int (node.Int (pos 0))) (more (node.Let (Plain 1) ty.Int (node.Int (pos 0))) none))) ≡ 3
two_names = refl

-- `1 + (1 + 1)`
sums : depth (node.Arith Add (node.Int (pos 1)) (node.Arith Add (node.Int (pos 1)) (node.Int (pos 1)) (record { 0 = 1 })) (record { 0 = 1 })) ≡ 3
sums = refl

-- `for i = 1 to 1 do {}`: a control, three for the loop, and what is done after three operands
counted : slot_count (program (more (node.For 0 (node.Int (pos 1)) (node.Int (pos 1)) (node.Int (pos 1)) None (Plain 0) (node.Block None none) (record { 0 = 1 })) none)) ≡ 8
counted = refl

-- `case 1 of 1 + 1 : 1; default : 1`: a label after two
cases : depth (node.Case (node.Int (pos 1)) (more_arms (arm (more (node.Arith Add (node.Int (pos 1)) (node.Int (pos 1)) (record { 0 = 1 })) none) (node.Int (pos 1))) no_arms) (node.Int (pos 1)) ty.Int) ≡ 4
cases = refl

nodes : node_count (written (node.Int (pos 1))) ≡ 3
nodes = refl
