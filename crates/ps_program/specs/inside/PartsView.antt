-- The parts of a clause in code, as a list.
use Rattle.std.specs.Prelude.{◌≡◌, List, [], ◌∷◌, ◌++◌, Option, Some, None}
use Rattle.std.specs.Borrow.{Bor}
use Rattle.ps_program.specs.declared.form.Tree.{Tree}
use Rattle.ps_program.specs.declared.form.Arm.{Arm as ArmOf}
use Rattle.ps_program.specs.declared.parts.Parts.{Parts}
use Rattle.ps_program.specs.declared.parts.Parts.TheVariants as parts
use Rattle.ps_program.specs.declared.parts.Further.{Further}
use Rattle.ps_program.specs.declared.parts.Further.TheVariants as code
use Rattle.ps_program.specs.Node.{Node, Arms, no_arms, more_arms}
use Rattle.ps_program.specs.Node as node
use Rattle.ps_program.specs.NodeView.{node_of, nodes_in, arm_of, body_of}
use Rattle.ps_program.specs.Parts.{Part, operand, branch}
use Rattle.ps_program.specs.inside.Listed.{parts_all, parts_arms, parts_of, literals_of}

-- the arms of a list
abbrev pub arms_in : List ArmOf → Arms
arms_in [] = no_arms
arms_in (a ∷ arms) = more_arms (arm_of a) (arms_in arms)

abbrev pub further_in : Further → List (Part Node)
further_in code.Nothing = []
further_in (code.One b) = operand (node_of b.now) ∷ []
further_in (code.Two b c) = operand (node_of b.now) ∷ operand (node_of c.now) ∷ []
further_in (code.Three b c d) = operand (node_of b.now) ∷ operand (node_of c.now) ∷ operand (node_of d.now) ∷ []
further_in (code.OneBranch a) = branch (node_of a.now) ∷ []
further_in (code.TwoBranches a b) = branch (node_of a.now) ∷ branch (node_of b.now) ∷ []
further_in (code.Branches items) = parts_all branch (nodes_in items.now)
further_in (code.Operands items) = parts_all operand (nodes_in items.now)
further_in (code.Arms arms d) = parts_arms (arms_in arms.now) ++ branch (node_of d.now) ∷ []

-- where the further parts are branches, so is the first
abbrev pub first_as : Further → Node → Part Node
first_as (code.OneBranch a) n = branch n
first_as (code.TwoBranches a b) n = branch n
first_as _ n = operand n

abbrev pub first_in : Further → Option (Bor Tree) → List (Part Node)
first_in further None = []
first_in further (Some t) = first_as further (node_of t.now) ∷ []

pub record AreListed (of : Node) (first : Option (Bor Tree)) (further : Further) : Type 0 where
  pub listed : first_in further first ++ further_in further ≡ parts_of of
  pub no_literal : literals_of of ≡ []

-- these are the parts of a clause
abbrev pub ArePartsOf : Node → Parts → Type 0
ArePartsOf of (parts.Clauses first further) = AreListed of first further
ArePartsOf of (parts.Literal it) = of ≡ node.Proc (body_of it.now)
