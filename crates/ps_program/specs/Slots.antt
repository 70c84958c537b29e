-- The slot count of a body: how many words it may need at once, on both stacks together.
use Rattle.std.specs.Prelude.{ℕ, ◌+◌, max, List, [], ◌∷◌, length}
use Rattle.ps_program.specs.Node.{Node, BodyNode, body}
use Rattle.ps_program.specs.Node as node
use Rattle.ps_program.specs.Parts.{Part, operand, label, branch, literal, fold}

-- how deep a part reaches, where so many parts stand before it
abbrev pub reach : ℕ → Part ℕ → ℕ
reach before (operand deep) = before + deep
reach before (label deep) = 2 + deep
reach before (branch deep) = deep
reach before (literal deep) = 0

abbrev pub reaches : ℕ → List (Part ℕ) → ℕ
reaches before [] = 1
reaches before (first ∷ rest) = max (reach before first) (reaches (before + 1) rest)

-- how deep the stacks grow over a clause: at least by one
abbrev pub depth : Node → ℕ
depth = fold (λ clause parts. reaches 0 parts)

-- of a literal nothing is counted here: it is a body by itself
abbrev pub sum_of : List (Part ℕ) → ℕ
sum_of [] = 0
sum_of (operand n ∷ rest) = n + sum_of rest
sum_of (label n ∷ rest) = n + sum_of rest
sum_of (branch n ∷ rest) = n + sum_of rest
sum_of (literal n ∷ rest) = sum_of rest

-- the locals that a clause by itself takes: a name, a control and three for a loop, six for a scan
abbrev pub own_locals : Node → ℕ
own_locals (node.Let place ty e) = 1
own_locals (node.For slot a b c scope control s line) = 4
own_locals (node.Scan text a f q s line) = 6
own_locals _ = 0

abbrev pub locals : Node → ℕ
locals = fold (λ clause parts. own_locals clause + sum_of parts)

abbrev pub slot_count : BodyNode → ℕ
slot_count (body params gives tree scope line) = length params + (locals tree + depth tree)

-- the clauses of a body's tree, itself included; a literal's are counted by themselves
abbrev pub node_count : Node → ℕ
node_count = fold (λ clause parts. 1 + sum_of parts)
