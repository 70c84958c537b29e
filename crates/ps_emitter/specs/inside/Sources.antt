-- Where the type of a clause is found.
use Rattle.std.specs.Prelude.{◌≡◌, ◌≤◌, ℕ, zero, suc, ◌+◌}
use Rattle.ps_base.specs.TyView.{TyView}
use Rattle.ps_base.specs.TyView as types
use Rattle.ps_program.specs.Node.{Node, Nodes}
use Rattle.ps_program.specs.NodeView.{node_of}
use Rattle.ps_program.specs.inside.Weights.{weight, weight_all}
use Rattle.ps_emitter.specs.Giving.{type_of, type_of_last, result_of}
use Rattle.ps_emitter.specs.Chains.{called, type_in}
use Rattle.ps_emitter.specs.declared.known.Source.{Source}
use Rattle.ps_emitter.specs.declared.known.Source.TheVariants as source

-- what a value gives that is called so often
abbrev pub results : ℕ → TyView → TyView
results zero ty = ty
results (suc n) ty = results n (result_of ty)

-- the type of a clause that is found so
abbrev pub IsSource : Node → Source → Type 0
IsSource n (source.Here known) = called (type_in known) ≡ called (type_of n)
IsSource n (source.Of t) = (type_of n ≡ type_of (node_of t.now)) × (weight (node_of t.now) + 1 ≤ weight n)
IsSource n (source.ResultOf t) = (type_of n ≡ result_of (type_of (node_of t.now))) × (weight (node_of t.now) + 1 ≤ weight n)

-- the same for clauses one after the other
abbrev pub IsLastSource : Nodes → Source → Type 0
IsLastSource ns (source.Here known) = called (type_in known) ≡ called (type_of_last types.Void ns)
IsLastSource ns (source.Of t) = (type_of_last types.Void ns ≡ type_of (node_of t.now)) × (weight (node_of t.now) ≤ weight_all ns)
IsLastSource ns (source.ResultOf t) = (type_of_last types.Void ns ≡ result_of (type_of (node_of t.now))) × (weight (node_of t.now) ≤ weight_all ns)
