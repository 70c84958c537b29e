-- Chains: clauses that stand inside one another as first parts. What is above a clause is a chain upside down: each clause of
-- it has in place of its first part the clause that it was the first part of.
use Rattle.std.specs.Prelude.{◌≡◌, Bool, true, false, ℕ, ◌+◌}
use Rattle.ps_program.specs.Node.{Node, Nodes, Arm, arm}
use Rattle.ps_program.specs.Node as node
use Rattle.ps_program.specs.inside.Weights.{weight, weight_all}
use Rattle.ps_placer.specs.declared.placer.Placer.{Placer}
use Rattle.ps_placer.specs.inside.Standing.{Stands}
use Rattle.ps_placer.specs.ps_typing.Placing.{Around, Locals}
use Rattle.ps_placer.specs.ps_typing.Placed.{Given, gives, ◌>>=◌, then_give, placed, placed_all}

-- the operators and what is applied to a value: there may be as many of them as the text is long
abbrev pub is_link : Node → Bool
is_link (node.And a b) = true
is_link (node.Or a b) = true
is_link (node.Arith op a b line) = true
is_link (node.Join a b line) = true
is_link (node.Part a i n line) = true
is_link (node.Field e class index ty line) = true
is_link (node.Element v i ty line) = true
is_link (node.Call f args line) = true
is_link _ = false

-- the first part of a link, or else this
abbrev pub first_or : Node → Node → Node
first_or other (node.And a b) = a
first_or other (node.Or a b) = a
first_or other (node.Arith op a b line) = a
first_or other (node.Join a b line) = a
first_or other (node.Part a i n line) = a
first_or other (node.Field e class index ty line) = e
first_or other (node.Element v i ty line) = v
first_or other (node.Call f args line) = f
first_or other _ = other

abbrev pub with_first : Node → Node → Node
with_first x (node.And a b) = node.And x b
with_first x (node.Or a b) = node.Or x b
with_first x (node.Arith op a b line) = node.Arith op x b line
with_first x (node.Join a b line) = node.Join x b line
with_first x (node.Part a i n line) = node.Part x i n line
with_first x (node.Field e class index ty line) = node.Field x class index ty line
with_first x (node.Element v i ty line) = node.Element x i ty line
with_first x (node.Call f args line) = node.Call x args line
with_first x n = n

-- a clause, with what is above it put round it again
abbrev pub rewound : Node → Node → Node
rewound (node.And a b) x = rewound a (node.And x b)
rewound (node.Or a b) x = rewound a (node.Or x b)
rewound (node.Arith op a b line) x = rewound a (node.Arith op x b line)
rewound (node.Join a b line) x = rewound a (node.Join x b line)
rewound (node.Part a i n line) x = rewound a (node.Part x i n line)
rewound (node.Field e class index ty line) x = rewound e (node.Field x class index ty line)
rewound (node.Element v i ty line) x = rewound v (node.Element x i ty line)
rewound (node.Call f args line) x = rewound f (node.Call x args line)
rewound _ x = x

-- A clause; or of a link what stands after its first part, which has its places.
abbrev pub placed_parts : Around → Locals → Node → Given Node
placed_parts around locals (node.And a b) = then_give (λ b. node.And a b) (placed around locals b)
placed_parts around locals (node.Or a b) = then_give (λ b. node.Or a b) (placed around locals b)
placed_parts around locals (node.Arith op a b line) = then_give (λ b. node.Arith op a b line) (placed around locals b)
placed_parts around locals (node.Join a b line) = then_give (λ b. node.Join a b line) (placed around locals b)
placed_parts around locals (node.Part a i n line) = placed around locals i >>= λ i l. then_give (λ n. node.Part a i n line) (placed around l n)
placed_parts around locals (node.Element v i ty line) = then_give (λ i. node.Element v i ty line) (placed around locals i)
placed_parts around locals (node.Call f args line) = then_give (λ args. node.Call f args line) (placed_all around locals args)
placed_parts around locals (node.Field e class index ty line) = gives (node.Field e class index ty line) locals
placed_parts around locals n = placed around locals n

-- a clause that has its places, with what is above it put round it again
abbrev pub rises : Around → Node → Given Node → Given Node
rises around (node.And a b) x = rises around a (x >>= λ x l. placed_parts around l (node.And x b))
rises around (node.Or a b) x = rises around a (x >>= λ x l. placed_parts around l (node.Or x b))
rises around (node.Arith op a b line) x = rises around a (x >>= λ x l. placed_parts around l (node.Arith op x b line))
rises around (node.Join a b line) x = rises around a (x >>= λ x l. placed_parts around l (node.Join x b line))
rises around (node.Part a i n line) x = rises around a (x >>= λ x l. placed_parts around l (node.Part x i n line))
rises around (node.Field e class index ty line) x = rises around e (x >>= λ x l. placed_parts around l (node.Field x class index ty line))
rises around (node.Element v i ty line) x = rises around v (x >>= λ x l. placed_parts around l (node.Element x i ty line))
rises around (node.Call f args line) x = rises around f (x >>= λ x l. placed_parts around l (node.Call x args line))
rises around _ x = x

-- how many clauses that are, with the clause itself
abbrev pub weight_placed : Node → ℕ
weight_placed (node.And a b) = 1 + weight b
weight_placed (node.Or a b) = 1 + weight b
weight_placed (node.Arith op a b line) = 1 + weight b
weight_placed (node.Join a b line) = 1 + weight b
weight_placed (node.Part a i n line) = 1 + (weight i + weight n)
weight_placed (node.Field e class index ty line) = 1
weight_placed (node.Element v i ty line) = 1 + weight i
weight_placed (node.Call f args line) = 1 + weight_all args
weight_placed n = weight n

-- The clause in hand has its places; with what is above it put round it again it is the whole.
pub record Rises (start now : Placer) (whole above tree : Node) : Type 0 where
  pub at : (around : Around) (locals : Locals) → Stands start around locals → (behind : Locals) × Stands now around behind × (rises around above (gives tree behind) ≡ placed around locals whole)

abbrev pub weight_arm : Arm → ℕ
weight_arm (arm labels a) = weight_all labels + weight a
