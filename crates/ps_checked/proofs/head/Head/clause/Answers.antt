use Rattle.std.proofs.Common.{◌∙◌, ap, refl, sym}
use Rattle.ps_program.specs.NodeView.{nodes_in}
use Rattle.ps_program.proofs.NodeLists.{call_is, make_is, lib_is}
use Rattle.ps_checked.specs.inside.Forms.{head_node}
use Rattle.ps_declared.proofs.Steps.{remade}
use Rattle.ps_checked.proofs.head.Head.clause.Goals as goal

pub returns-in-Call : goal.returns-in-Call
returns-in-Call c =
    remade _ _ _ c.new.result (call_is _ c.in-Call.f _ _ c.args.args.items refl (sym c.new-args.ensures) ∙ ap (λ h. head_node h c.args.line (nodes_in c.args.args.items)) (sym c.in-Call.is)) c.new.ensures

pub returns-in-Make : goal.returns-in-Make
returns-in-Make c =
    remade _ _ _ c.new-in-Make.result (make_is _ c.in-Make.class _ c.args.args.items refl (sym c.new-args.ensures) ∙ ap (λ h. head_node h c.args.line (nodes_in c.args.args.items)) (sym c.in-Make.is)) c.new-in-Make.ensures

pub returns-in-Lib : goal.returns-in-Lib
returns-in-Lib c =
    remade _ _ _ c.new-in-Lib.result (lib_is _ _ _ _ c.args.args.items refl (sym c.new-args.ensures) ∙ ap (λ h. head_node h c.args.line (nodes_in c.args.args.items)) (sym c.in-Lib.is)) c.new-in-Lib.ensures
