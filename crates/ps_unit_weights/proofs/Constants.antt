-- Each unit of a program's code has a constant: the text of its type comes first.
use Rattle.std.proofs.Common.{ℕ, List, [], ◌∷◌, ◌++◌, Option, Some, None, arith}
use Rattle.proc_values.specs.ps_base.CodeUnit.{ConstantView, text, literal}
use Rattle.proc_values.specs.Units.{count_of, HasConstants, AllHaveConstants}
use Rattle.ps_gen.specs.ps_program.Node.{Node, Nodes, none, more, Arms, no_arms, more_arms, arm, BodyNode, body}
use Rattle.ps_gen.specs.ps_program.Node as node
use Rattle.ps_gen.specs.Units.{scope_constants, row_of, constants, constants_of_all, constants_of_arms, unit_of}

-- each unit among these constants has constants
record AllHave (cs : List ConstantView) : Type 0 where
  pub each : AllHaveConstants (row_of cs)

-- constants one after the other
appended : (xs ys : List ConstantView) → AllHaveConstants (row_of xs) → AllHaveConstants (row_of ys) → AllHaveConstants (row_of (xs ++ ys))
unfolding AllHaveConstants
appended [] ys a b = b
appended (text bytes ∷ xs) ys a b = appended xs ys a b
appended (literal u ∷ xs) ys a b = (a.0, appended xs ys a.1 b)

and_then : {xs ys : List ConstantView} → AllHave xs → AllHave ys → AllHave (xs ++ ys)
and_then {xs} {ys} a b = record { each = appended xs ys a.each b.each }

nothing : AllHave []
unfolding AllHaveConstants
nothing = record { each = tt }

text_has : {bytes : List ℕ} → AllHave (text bytes ∷ [])
unfolding AllHaveConstants
text_has = record { each = tt }

scope_has : (scope : Option (List ℕ)) → AllHave (scope_constants scope)
scope_has None = nothing
scope_has (Some bytes) = text_has

mutual
  unfolding HasConstants AllHaveConstants count_of

  pub unit_has : (of : BodyNode) → HasConstants (unit_of of)
  unit_has (body params gives tree scope line) = (omega arith, (and_then (scope_has scope) (clause_has tree)).each)

  clause_has : (t : Node) → AllHave (constants t)
  clause_has (node.Int v) = nothing
  clause_has (node.Flag b) = nothing
  clause_has (node.Text bytes) = text_has
  clause_has node.Nil = nothing
  clause_has (node.Name place ty) = nothing
  clause_has (node.SetName place ty e) = clause_has e
  clause_has (node.Let place ty e) = clause_has e
  clause_has node.Class = nothing
  clause_has node.Empty = nothing
  clause_has (node.Block scope items) = and_then (scope_has scope) (clauses_have items)
  clause_has (node.IfDo c a) = and_then (clause_has c) (clause_has a)
  clause_has (node.IfElse c a b) = and_then (clause_has c) (and_then (clause_has a) (clause_has b))
  clause_has (node.While c a) = and_then (clause_has a) (clause_has c)
  clause_has (node.Repeat a c b) = and_then (clause_has b) (and_then (clause_has a) (clause_has c))
  clause_has (node.For slot a b c scope control s line) =
      and_then (clause_has a) (and_then (clause_has b) (and_then (clause_has c) (and_then (scope_has scope) (clause_has s))))
  clause_has (node.Case e arms d ty) = and_then (clause_has e) (and_then (arms_have arms) (clause_has d))
  clause_has (node.And a b) = and_then (clause_has a) (clause_has b)
  clause_has (node.Or a b) = and_then (clause_has a) (clause_has b)
  clause_has (node.Not e) = clause_has e
  clause_has (node.Neg e line) = clause_has e
  clause_has (node.Plus e) = clause_has e
  clause_has (node.Arith op a b line) = and_then (clause_has a) (clause_has b)
  clause_has (node.Compare op ty a b) = and_then (clause_has a) (clause_has b)
  clause_has (node.Is e class) = and_then (clause_has e) text_has
  clause_has (node.Join a b line) = and_then (clause_has a) (clause_has b)
  clause_has (node.Part a i n line) = and_then (clause_has a) (and_then (clause_has i) (clause_has n))
  clause_has (node.Make class args) = and_then (clauses_have args) text_has
  clause_has (node.Field e class index ty line) = and_then (clause_has e) text_has
  clause_has (node.SetField p class index ty e line) = and_then (clause_has p) (and_then (clause_has e) text_has)
  clause_has (node.Fill l u e ty line) = and_then (clause_has l) (and_then (clause_has u) (and_then (clause_has e) text_has))
  clause_has (node.Elems l items ty line) = and_then (clause_has l) (and_then (clauses_have items) text_has)
  clause_has (node.Element v i ty line) = and_then (clause_has v) (clause_has i)
  clause_has (node.SetElement v i e ty line) = and_then (clause_has v) (and_then (clause_has i) (clause_has e))
  clause_has (node.Bound v upper) = clause_has v
  clause_has (node.Proc (body params gives tree scope line)) = record { each = (unit_has (body params gives tree scope line), tt) }
  clause_has (node.Call f args line) = and_then (clause_has f) (clauses_have args)
  clause_has (node.Lib code args line) = clauses_have args
  clause_has (node.Scan string a f q s line) = and_then (clause_has a) (clause_has f)
  clause_has (node.Write e w wide ty line) = and_then (clause_has e) (clause_has w)
  clause_has (node.Abort line) = nothing

  clauses_have : (ts : Nodes) → AllHave (constants_of_all ts)
  clauses_have none = nothing
  clauses_have (more t ts) = and_then (clause_has t) (clauses_have ts)

  arms_have : (arms : Arms) → AllHave (constants_of_arms arms)
  arms_have no_arms = nothing
  arms_have (more_arms (arm labels a) rest) = and_then (clauses_have labels) (and_then (clause_has a) (arms_have rest))
