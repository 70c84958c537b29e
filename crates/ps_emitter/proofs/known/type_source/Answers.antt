use Rattle.std.proofs.Common.{ap, ◌∙◌, refl, sym, subst, arith}
use Rattle.std.specs.Prelude.{option_map}
use Rattle.ps_base.specs.List.{items_of}
use Rattle.ps_base.specs.TyView.{ty_view}
use Rattle.ps_program.specs.inside.PartsView.{arms_in}
use Rattle.ps_program.specs.NodeView.{node_of, nodes_in}
use Rattle.ps_program.specs.inside.Weights.{weight}
use Rattle.ps_program.proofs.NodeLists.{block_is, case_is}
use Rattle.ps_emitter.specs.Giving.{type_of}
use Rattle.ps_emitter.specs.inside.Sources.{IsSource}
use Rattle.ps_emitter.proofs.Chaining.{block_source, case_weight}
use Rattle.ps_emitter.proofs.known.type_source.Goals as goal

pub returns-in-Block : goal.returns-in-Block
returns-in-Block c =
    let is = block_is _ c.in-Block.scope c.in-Block.items _ (sym c.deref.ensures ∙ c.in-Block.is) c.as_slice.ensures in
    subst (λ n. IsSource n c.last_source.result) (sym is) (block_source (option_map (λ bytes. bytes.value) c.in-Block.scope) (nodes_in c.as_slice.result.now) c.last_source.result c.last_source.ensures)

pub returns-in-Case : goal.returns-in-Case
returns-in-Case c =
    let is = case_is _ c.in-Case.e c.in-Case.arms c.in-Case.d c.in-Case.ty _ (sym c.deref.ensures ∙ c.in-Case.is) refl in
    let whole = ap weight is in
    (ap type_of is, omega (arith, whole, case_weight (node_of c.in-Case.e) (arms_in (items_of c.in-Case.arms)) (node_of c.in-Case.d) (ty_view c.in-Case.ty.value)))
