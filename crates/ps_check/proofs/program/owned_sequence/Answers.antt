use Rattle.std.proofs.Common.{◌∙◌, None, ap, sym, subst}
use Rattle.ps_base.specs.TyView.{Void, ty_view}
use Rattle.ps_tree.specs.PhraseLists.{phrases_in}
use Rattle.ps_program.specs.Node as node
use Rattle.ps_program.specs.NodeView.{node_of, nodes_in}
use Rattle.ps_checker.specs.ps_scope.Content.{names_of}
use Rattle.ps_slots.specs.ps_typing.Names.{Names}
use Rattle.ps_slots.specs.ps_typing.Checking.{Gives, check_all}
use Rattle.ps_slots.proofs.of_ps_typing.Keeps.{all_keeps_around, all_keeps_fields_around}
use Rattle.ps_checker.specs.ps_declared.inside.Answers.{IsFault}
use Rattle.ps_checker.proofs.of_ps_declared.Steps.{exits, fails_first, given}
use Rattle.ps_slots.specs.inside.Sizes.{size}
use Rattle.ps_checker.proofs.Blocks.{stays}
use Rattle.ps_check.proofs.program.owned_sequence.Goals as goal

pub returns-in_err-trees : goal.returns-in_err-trees
returns-in_err-trees c = exits c.from_residual.result _ c.in_err-trees.field-0.0 _ c.from_residual.ensures.1 (fails_first _ _ _ (subst (λ n. IsFault (check_all n c.args.line Void (phrases_in c.args.items.now.items)) c.in_err-trees.field-0.0) c.enter-block.ensures.names c.in_err-trees.ensures))

pub leave-requires-clause-names : goal.leave-requires-clause-names
leave-requires-clause-names c = stays _ _ _ _ (all_keeps_around _ _ _ _ _ _ _ c.in_ok-trees.ensures.0 ∙ ap (λ (n : Names). n.around) c.enter-block.ensures.names) c.enter-block.ensures.names_around

pub leave-requires-clause-fields : goal.leave-requires-clause-fields
leave-requires-clause-fields c = stays _ _ _ _ (all_keeps_fields_around _ _ _ _ _ _ _ c.in_ok-trees.ensures.0 ∙ ap (λ (n : Names). n.fields_around) c.enter-block.ensures.names) c.enter-block.ensures.fields_around

pub returns : goal.returns
returns c =
    let trees = nodes_in c.in_ok-trees.field-0.trees.items in
    let ty = ty_view c.in_ok-trees.field-0.ty in
    let last = names_of c.leave.new.self in
    let checked = given _ _ _ _ _ (ap (λ n. check_all n c.args.line Void (phrases_in c.args.items.now.items)) (sym c.enter-block.ensures.names) ∙ c.in_ok-trees.ensures.0) ∙ ap (λ n. Gives (node.Block None trees) ty n) (sym (c.leave.ensures (names_of c.args.checker.now.scope) (all_keeps_around _ _ _ _ _ _ _ c.in_ok-trees.ensures.0 ∙ ap (λ (n : Names). n.around) c.enter-block.ensures.names) (all_keeps_fields_around _ _ _ _ _ _ _ c.in_ok-trees.ensures.0 ∙ ap (λ (n : Names). n.fields_around) c.enter-block.ensures.names) c.enter-block.ensures.names_around c.enter-block.ensures.fields_around)) in (
      checked ∙ ap (λ t. Gives t ty last) (sym c.in_ok-clause.ensures.0) ∙ ap (λ k. Gives (node_of c.in_ok-clause.clause.tree) k last) (sym c.in_ok-clause.ensures.1),
      c.in_sequence-sizes.ensures None trees c.in_ok-trees.ensures.1 ∙ ap size (sym c.in_ok-clause.ensures.0),
    )
