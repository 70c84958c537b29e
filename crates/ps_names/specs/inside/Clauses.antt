-- Several clauses, one after the other.
use Rattle.std.specs.Prelude.{ℕ, ◌+◌, List, Option}
use Rattle.ps_base.specs.TyView.{TyView}
use Rattle.ps_program.specs.declared.form.Loop.{Loop}
use Rattle.ps_program.specs.declared.place.Place.{Place}
use Rattle.ps_program.specs.Node.{Node, Nodes, Arm, arm, Arms}
use Rattle.ps_program.specs.Node as node
use Rattle.ps_program.specs.NodeView.{node_of}
use Rattle.ps_placer.specs.ps_typing.Mentions.{common, number_of}
use Rattle.ps_placer.specs.ps_typing.Placing.{Around, Locals, place_of, scope_text, inside, declared, with_declared}
use Rattle.ps_placer.specs.ps_typing.Placed.{Given, ◌>>=◌, then_give, placed, placed_all, placed_arms}

abbrev pub loop_of : Loop → Node
loop_of it = node.For it.slot (node_of it.a) (node_of it.b) (node_of it.c) it.scope it.control (node_of it.s) it.line

pub record Pair : Type 0 where
  pub first : Node
  pub second : Node

abbrev pub pair : Node → Node → Pair
pair a b = record { first = a; second = b }

pub record Triple : Type 0 where
  pub both : Pair
  pub third : Node

abbrev pub triple : Node → Node → Node → Triple
triple a b c = record { both = pair a b; third = c }

pub record WithAll : Type 0 where
  pub first : Node
  pub items : Nodes

abbrev pub with_all : Node → Nodes → WithAll
with_all first items = record { first = first; items = items }

pub record WithArms : Type 0 where
  pub first : Node
  pub arms : Arms

pub record Case : Type 0 where
  pub tested : WithArms
  pub last : Node

abbrev pub with_arms : Node → Arms → WithArms
with_arms first arms = record { first = first; arms = arms }

abbrev pub case_of : Node → Arms → Node → Case
case_of e arms d = record { tested = with_arms e arms; last = d }

pub record Block : Type 0 where
  pub scope : Option (List ℕ)
  pub items : Nodes

abbrev pub block_of : Option (List ℕ) → Nodes → Block
block_of scope items = record { scope = scope; items = items }

pub record Named : Type 0 where
  pub place : Place
  pub value : Node

abbrev pub named : Place → Node → Named
named place value = record { place = place; value = value }

pub record Scan : Type 0 where
  pub parts : Pair
  pub references : ℕ
  pub numbers : ℕ

abbrev pub scan_of : Pair → ℕ → ℕ → Scan
scan_of parts references numbers = record { parts = parts; references = references; numbers = numbers }

-- a name that is assigned to
abbrev pub placed_assigned : Around → Locals → Place → Node → Given Named
placed_assigned around locals place e = then_give (named (place_of around locals place)) (placed around locals e)

-- a name with its initial value
abbrev pub placed_declared : Around → Locals → Place → TyView → Node → Given Named
placed_declared around locals place ty e =
    let own = with_declared around (number_of place) ty locals in
    then_give (named (place_of around own place)) (placed around own e)

abbrev pub placed_pair : Around → Locals → Node → Node → Given Pair
placed_pair around locals a b = placed around locals a >>= λ a l. then_give (pair a) (placed around l b)

abbrev pub placed_triple : Around → Locals → Node → Node → Node → Given Triple
placed_triple around locals a b c = placed_pair around locals a b >>= λ both l. then_give (λ c. record { both = both; third = c }) (placed around l c)

abbrev pub placed_with_all : Around → Locals → Node → Nodes → Given WithAll
placed_with_all around locals first items = placed around locals first >>= λ first l. then_give (with_all first) (placed_all around l items)

abbrev pub placed_with_arms : Around → Locals → Node → Arms → Given WithArms
placed_with_arms around locals first arms = placed around locals first >>= λ first l. then_give (with_arms first) (placed_arms around l arms)

abbrev pub placed_case : Around → Locals → Node → Arms → Node → Given Case
placed_case around locals e arms d = placed_with_arms around locals e arms >>= λ tested l. then_give (λ d. record { tested = tested; last = d }) (placed around l d)

abbrev pub placed_arm : Around → Locals → Arm → Given Arm
placed_arm around locals (arm labels a) = placed_all around locals labels >>= λ labels l. then_give (arm labels) (placed around l a)

abbrev pub placed_block : Around → Locals → Nodes → Given Block
placed_block around locals items =
    let kept = common (declared items) around.kept in
    then_give (block_of (scope_text around.names kept)) (placed_all (inside around kept) locals items)

-- a scan, which takes three locals on each stack
abbrev pub placed_scan : Around → Locals → Node → Node → Given Scan
placed_scan around locals a f =
    then_give (λ parts. scan_of parts locals.refs locals.nums) (placed_pair around (record locals { nums = locals.nums + 3; refs = locals.refs + 3 }) a f)
