-- How many clauses there are in a clause, itself included: the measure of what goes over clauses.
use Rattle.std.specs.Prelude.{ℕ, ◌+◌, List, [], ◌∷◌}
use Rattle.ps_program.specs.Node.{Node, Nodes, none, more, arm, Arms, no_arms, more_arms}
use Rattle.ps_program.specs.Parts.{Part, operand, label, branch, literal, fold}

abbrev pub within_part : Part ℕ → ℕ
within_part (operand n) = n
within_part (label n) = n
within_part (branch n) = n
within_part (literal n) = n

abbrev pub sum_within : List (Part ℕ) → ℕ
sum_within [] = 0
sum_within (part ∷ rest) = within_part part + sum_within rest

abbrev pub weight : Node → ℕ
weight = fold (λ clause parts. 1 + sum_within parts)

abbrev pub weight_part : Part Node → ℕ
weight_part (operand n) = weight n
weight_part (label n) = weight n
weight_part (branch n) = weight n
weight_part (literal n) = weight n

abbrev pub weight_parts : List (Part Node) → ℕ
weight_parts [] = 0
weight_parts (part ∷ rest) = weight_part part + weight_parts rest

abbrev pub weight_all : Nodes → ℕ
weight_all none = 0
weight_all (more first rest) = weight first + weight_all rest

abbrev pub weight_arms : Arms → ℕ
weight_arms no_arms = 0
weight_arms (more_arms (arm labels a) rest) = weight_all labels + (weight a + weight_arms rest)
