use Rattle.std.proofs.Common.{[], ap}
use Rattle.ps_type_text.specs.Members.{fields_of}
use Rattle.ps_program.specs.Node.{Node, BodyNode}
use Rattle.ps_program.specs.Node as node
use Rattle.ps_program.specs.NodeView.{body_of}
use Rattle.ps_placer.specs.ps_typing.Mentions.{kept_names}
use Rattle.ps_placer.specs.ps_typing.Placed.{no_locals, then_give}
use Rattle.ps_placer.specs.ps_typing.Placing.{Around}
use Rattle.ps_names.proofs.placing.place.Goals as goal

abbrev in_literal : BodyNode → Node → BodyNode
in_literal other (node.Proc of) = of
in_literal other _ = other

pub returns : goal.returns
unfolding then_give
returns c =
    let of = body_of c.args.body in
    let around : Around = record { names = fields_of c.args.names.items; kept = kept_names of; scopes = [] } in
    ap (in_literal of) (c.in_ok-place_literal.ensures.at around no_locals (c.new-placer.ensures.at (kept_names of) c.in_ok-survey.ensures)).0
