use Rattle.std.proofs.Common.{◌≡◌, ◌∙◌, ap, sym, refl, length, reverse, arith}
use Rattle.ps_base.specs.TyView.{Void, ty_view}
use Rattle.ps_tree.specs.Phrase.{phrase_of}
use Rattle.ps_tree.specs.PhraseLists.{phrases_in}
use Rattle.ps_program.specs.NodeView.{node_of, nodes_in}
use Rattle.ps_checker.specs.ps_scope.Content.{names_of}
use Rattle.ps_slots.specs.ps_typing.Checking.{check, check_all}
use Rattle.ps_checker.proofs.of_ps_declared.Steps.{exits, fails_as, fails_first}
use Rattle.ps_checker.proofs.After.{after, after_nodes, after_nothing, fails_after, pushed, finished, all_is, all_step}
use Rattle.ps_slots.specs.inside.Sizes.{size, size_items, join}
use Rattle.ps_slots.proofs.Sizing.{item_more}
use Rattle.ps_check.proofs.Taking.{next_taken, all_left, none_left}
use Rattle.ps_check.proofs.program.owned_items.Goals as goal

pub loop-item-init : goal.loop-item-init
loop-item-init c = record {
  checked = ap (λ ts. after (after_nodes ts) (check_all (names_of c.args.checker.now.scope) c.args.line Void (phrases_in (reverse c.reverse.new.self.items)))) c.in_ok-trees.ensures.items ∙ after_nothing _ _ (λ ts. refl);
  sized = c.none-sizes.ensures ∙ ap (λ ts. size_items (nodes_in ts)) (sym c.in_ok-trees.ensures.items);
}

pub returns-in_err-void_before : goal.returns-in_err-void_before
returns-in_err-void_before c =
    let cut = next_taken c.loop-item.rest.items c.pop.new.self.items c.in-Some.item c.in-Some.ensures.items in
    exits c.from_residual-in_err-void_before.result _ c.in_err-void_before.field-0.0 _ c.from_residual-in_err-void_before.ensures.1
    (fails_as _ _ _ (sym (ap (check_all (names_of c.args.checker.now.scope) c.args.line Void) (all_left c.args.rest.now.items c.reverse.new.self.items c.reverse.ensures.items)))
    (fails_after _ _ _ _ c.loop-item.invariant.checked
    (fails_as _ _ _ (ap (check_all (names_of c.loop-item.checker.scope) c.loop-item.line (ty_view c.loop-item.last)) cut ∙ all_is (names_of c.loop-item.checker.scope) c.loop-item.line (ty_view c.loop-item.last) (phrase_of c.in-Some.item) (phrases_in (reverse c.pop.new.self.items)))
    (fails_first _ _ _ (c.in_err-void_before.ensures (check (names_of c.loop-item.checker.scope) (phrase_of c.in-Some.item)))))))

pub returns-in_err-tree : goal.returns-in_err-tree
returns-in_err-tree c =
    let cut = next_taken c.loop-item.rest.items c.pop.new.self.items c.in-Some.item c.in-Some.ensures.items in
    exits c.from_residual-in_err-tree.result _ c.in_err-tree.field-0.0 _ c.from_residual-in_err-tree.ensures.1
    (fails_as _ _ _ (sym (ap (check_all (names_of c.args.checker.now.scope) c.args.line Void) (all_left c.args.rest.now.items c.reverse.new.self.items c.reverse.ensures.items)))
    (fails_after _ _ _ _ c.loop-item.invariant.checked
    (fails_as _ _ _ (ap (check_all (names_of c.loop-item.checker.scope) c.loop-item.line (ty_view c.loop-item.last)) cut ∙ all_is (names_of c.loop-item.checker.scope) c.loop-item.line (ty_view c.loop-item.last) (phrase_of c.in-Some.item) (phrases_in (reverse c.pop.new.self.items)))
    (fails_first _ _ _ (fails_as _ _ _ (c.in_ok-void_before.ensures _) c.in_err-tree.ensures)))))

pub loop-item-preserved : goal.loop-item-preserved
loop-item-preserved c =
    let cut = next_taken c.loop-item.rest.items c.pop.new.self.items c.in-Some.item c.in-Some.ensures.items in
    record {
      checked = pushed c.loop-item.trees.items _ c.in_ok-tree.field-0.tree _ _ _ c.in_ok-push.ensures.items (ap (check_all (names_of c.loop-item.checker.scope) c.loop-item.line (ty_view c.loop-item.last)) cut ∙ all_step (names_of c.loop-item.checker.scope) _ c.loop-item.line (ty_view c.loop-item.last) _ _ (phrase_of c.in-Some.item) (phrases_in (reverse c.pop.new.self.items)) (c.in_ok-void_before.ensures _ ∙ c.in_ok-tree.ensures)) c.loop-item.invariant.checked;
      sized =
          c.in_ok-sizes.ensures ∙ ap (λ s. join s (size (node_of c.in_ok-tree.field-0.tree))) c.loop-item.invariant.sized
          ∙ sym (item_more c.loop-item.trees.items c.in_ok-tree.field-0.tree) ∙ ap (λ ts. size_items (nodes_in ts)) (sym c.in_ok-push.ensures.items);
    }

pub returns : goal.returns
returns c =
    let empty : length c.loop-item.rest.items ≡ 0 = omega (arith, c.in_default.ensures.cases.0, c.loop-item.rest.ok.0) in (
      sym (ap (check_all (names_of c.args.checker.now.scope) c.args.line Void) (all_left c.args.rest.now.items c.reverse.new.self.items c.reverse.ensures.items))
          ∙ finished c.loop-item.trees.items _ _ _ _ (ap (check_all (names_of c.loop-item.checker.scope) c.loop-item.line (ty_view c.loop-item.last)) (none_left c.loop-item.rest.items empty)) c.loop-item.invariant.checked,
      c.loop-item.invariant.sized,
    )
