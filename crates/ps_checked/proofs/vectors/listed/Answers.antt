use Rattle.std.proofs.Common.{◌∙◌, ap, refl, sym}
use Rattle.ps_base.specs.TyView.{ty_view}
use Rattle.ps_base.specs.TyView as types
use Rattle.ps_program.specs.Node as node
use Rattle.ps_program.specs.NodeView.{node_of, nodes_in}
use Rattle.ps_program.proofs.NodeLists.{elems_is}
use Rattle.ps_declared.proofs.Steps.{remade_both}
use Rattle.ps_checked.proofs.vectors.listed.Goals as goal

pub returns : goal.returns
returns c =
    remade_both _ _ _ _ c.new-2.result
    (elems_is _ c.args.l _ c.in_ok-ty-2.ty _ c.args.items.items refl (sym c.new-items.ensures) ∙ ap (λ t. node.Elems (node_of c.args.l) (nodes_in c.args.items.items) t c.args.line) (ap ty_view c.in_ok-ty-2.ensures.ok ∙ c.in_ok-ty.ensures ∙ ap types.Vector c.in_ok-copy.ensures))
    (c.in_ok-gives.ensures ∙ c.in_ok-ty.ensures ∙ ap types.Vector c.in_ok-copy.ensures) c.new-2.ensures
