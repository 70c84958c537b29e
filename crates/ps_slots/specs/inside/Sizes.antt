-- How large a clause is: its locals and its depth, whether a literal stands in it, and the first body in it that is too complex.
-- Of clauses one after the other the locals are added, and of the depths the greatest counts.
use Rattle.std.specs.Prelude.{ℕ, ◌+◌, max, Bool, true, false, ◌||◌, Option, Some, None, List, [], ◌∷◌}
use Rattle.ps_program.specs.Node.{Node, Nodes, none, more, arm, Arms, no_arms, more_arms, BodyNode}
use Rattle.ps_program.specs.Parts.{Part, operand, label, branch, literal}
use Rattle.ps_program.specs.Slots.{own_locals, locals, depth}
use Rattle.ps_program.specs.inside.Listed.{parts_all}
use Rattle.ps_slots.specs.declared.sizes.Sizes.{Sizes}
use Rattle.ps_slots.specs.declared.sizes.Kind.{Kind}
use Rattle.ps_slots.specs.declared.sizes.Kind.TheVariants.{Operands, Labels, Branches}
use Rattle.ps_slots.specs.Complexity.{fault_of}
use Rattle.ps_typing.specs.Fault.{Fault}
use Rattle.ps_typing.specs.Program.{first_complex, bodies_in}

-- as a clause has it
pub record Extent : Type 0 where
  pub locals : ℕ
  pub depth : ℕ
  pub literal : Bool
  pub complex : Option Fault

abbrev pub size_of : Sizes → Extent
size_of sizes = record { locals = sizes.locals; depth = sizes.depth; literal = sizes.literal; complex = fault_of sizes.complex }

abbrev pub or_else : Option Fault → Option Fault → Option Fault
or_else (Some fault) behind = Some fault
or_else None behind = behind

abbrev pub nothing : Extent
nothing = record { locals = 0; depth = 0; literal = false; complex = None }

abbrev pub join : Extent → Extent → Extent
join a b = record { locals = a.locals + b.locals; depth = max a.depth b.depth; literal = a.literal || b.literal; complex = or_else a.complex b.complex }

abbrev pub are_any : List BodyNode → Bool
are_any [] = false
are_any (first ∷ rest) = true

abbrev pub literal_in : Node → Bool
literal_in n = are_any (bodies_in n)

-- the first in the bodies of the literals of a clause
abbrev pub complex_in : Node → Option Fault
complex_in n = first_complex (bodies_in n)

abbrev pub size : Node → Extent
size n = record { locals = locals n; depth = depth n; literal = literal_in n; complex = complex_in n }

-- after so many words that wait
abbrev pub behind : ℕ → Extent → Extent
behind waiting s = record s { depth = waiting + s.depth }

-- how many words wait while a part is evaluated
abbrev pub waiting : Kind → ℕ → ℕ
waiting Operands before = before
waiting Labels before = 2
waiting Branches before = 0

abbrev pub size_part : ℕ → Part Node → Extent
size_part before (operand n) = behind before (size n)
size_part before (label n) = behind 2 (size n)
size_part before (branch n) = behind 0 (size n)
size_part before (literal n) = record { locals = 0; depth = 0; literal = literal_in n; complex = complex_in n }

abbrev pub size_parts : ℕ → List (Part Node) → Extent
size_parts before [] = nothing
size_parts before (part ∷ rest) = join (size_part before part) (size_parts (before + 1) rest)

abbrev pub as_part : Kind → Node → Part Node
as_part Operands n = operand n
as_part Labels n = label n
as_part Branches n = branch n

-- the sizes of arms: whatever stands before them, labels wait after two values and clauses after none
abbrev pub size_arms : Arms → Extent
size_arms no_arms = nothing
size_arms (more_arms (arm labels a) rest) = join (size_parts 0 (parts_all label labels)) (join (size a) (size_arms rest))

-- what a clause that is no literal takes by itself
abbrev pub size_alone : Node → Extent
size_alone n = record { locals = own_locals n; depth = 1; literal = false; complex = None }

-- of the items of a sequence
abbrev pub size_items : Nodes → Extent
size_items none = nothing
size_items (more first rest) = join (size first) (size_items rest)
