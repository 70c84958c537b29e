use Rattle.std.proofs.Common.{◌≡◌, ◌≤◌, ◌<◌, ◌+◌, ◌∙◌, ap, sym, refl, subst, rules, arith, false, Some, None, [], length, drop}
use Rattle.std.specs.Prelude.{option_map, if◌then◌else◌, pos}
use Rattle.ps_base.specs.List.{items_of}
use Rattle.ps_base.specs.TyView.{Void, ty_view, ty_views}
use Rattle.ps_tree.specs.Phrase.{named, phrase_of, form_of, item_of, arm_of, groups_in}
use Rattle.ps_tree.specs.PhraseLists.{phrases_in, items_in, arms_in as rough_arms_in}
use Rattle.ps_program.specs.NodeView.{node_of, nodes_in, params_of}
use Rattle.ps_steps.specs.ps_scope.Content.{names_of}
use Rattle.ps_steps.specs.ps_typing.Fault.{Twice, NotApplicable}
use Rattle.ps_steps.specs.ps_typing.Names.{Names, library, scan, behind, declare_local, inside, is_declared}
use Rattle.ps_steps.specs.ps_typing.Checking.{Gives, Refuses, check, check_all, check_each, check_args, check_written, check_arms, checkers, wants, value_applied, with_args, ◌>>=◌, like, name_applied, elements, check_if_any, first_type, types_of, scan_applied}
use Rattle.ps_steps.specs.ps_declared.inside.Answers.{IsFault}
use Rattle.ps_steps.specs.ps_checked.inside.Links.{check_link, check_links}
use Rattle.ps_steps.specs.ps_checked.inside.Weights.{weight, weight_all, weight_if_any, weight_item, weight_written, weight_arm, weight_arms, weight_link, weight_links}
use Rattle.ps_steps.proofs.of_ps_declared.Steps.{given, fails_as, fails_first, fails_next, is_fault, made, leads, exits, no_memory, remade, remade_both, as_wanted, fails_as_wanted, fails_test}
use Rattle.ps_base.specs.declared.ty.Signature.{Signature}
use Rattle.ps_base.proofs.TyLemmas.{ty_view-Proc}
use Rattle.ps_steps.specs.ps_checked.inside.Forms.{check_literal, head_node, opened}
use Rattle.ps_checker.proofs.After.{after, after_nodes, after_arms, after_nothing, fails_after, pushed, finished, pushed_arm, first_pushed, finished_arms, or_given, each_step, args_step, all_is, all_step, written_is, written_step, arms_are, arm_made}
use Rattle.ps_checker.proofs.Applying.{two_of, not_two, same_number, other_number, no_args, elements_are, some_subscripts}
use Rattle.ps_steps.proofs.of_ps_checked.LinkSteps.{fails_links, check_links-push, weight_links-push}
use Rattle.ps_program.proofs.NodeLists.{case_is}
use Rattle.ps_program.specs.inside.PartsView.{arms_in}
use Rattle.ps_tree.specs.declared.rough.RoughArm.{out-RoughArm}
use Rattle.ps_steps.specs.ps_checked.inside.Cases.{check_arm}
use Rattle.ps_steps.specs.ps_checked.inside.Lists.{check_item}
use Rattle.ps_checker.proofs.Places.{weight_at, item_weight_at, arm_weight_at, phrases_from, items_from, arms_from, types_from, phrases_behind, items_behind, arms_behind}
use Rattle.ps_checker.proofs.Views.{arm_of-parts, item_of-parts}
use Rattle.ps_steps.specs.inside.Steps.{check_step, weight_step}
use Rattle.ps_program.specs.declared.place.Place.TheVariants.{Plain}
use Rattle.ps_steps.proofs.of_ps_typing.Keeps.{keeps_around, keeps_fields_around, all_keeps_around, all_keeps_fields_around, params_keep_around, params_keep_fields_around}
use Rattle.ps_steps.specs.ps_declared.inside.Views.{literal_of, groups_of}
use Rattle.ps_steps.specs.ps_scope.Views.{meaning_of}
use Rattle.ps_checker.proofs.Blocks.{few_opened, stays, unpassed}
use Rattle.ps_tree.specs.declared.rough.RoughItem.{out-RoughItem}
use Rattle.ps_steps.specs.ps_checked.inside.Parts.{this, meets, want_of}
use Rattle.ps_checker.proofs.Meeting.{fails_unmet, fails_met, as_met}
use Rattle.ps_base.specs.TyView as types
use Rattle.ps_tree.specs.Phrase as form
use Rattle.ps_program.specs.Node as node
use Rattle.ps_checker.proofs.checker.Checker.+clause.Goals as goal

pub clause-returns-in-Leaf : goal.clause-returns-in-Leaf
clause-returns-in-Leaf t c = leads _ _ _ _ (sym c.step_of.ensures.step ∙ ap (λ s. check_step s (names_of c.args.self.now.scope)) c.in-Leaf.is) c.clause.ensures

pub clause-returns-in-Single : goal.clause-returns-in-Single
clause-returns-in-Single t c = leads _ _ _ _ (sym c.step_of.ensures.step ∙ ap (λ s. check_step s (names_of c.args.self.now.scope)) c.in-Single.is) c.single.ensures

pub clause-single-requires : goal.clause-single-requires
clause-single-requires t c =
    let light = ap weight_step c.in-Single.is in
    (omega (arith, c.decreases, c.step_of.ensures.lighter, light), tt)

pub clause-returns-in-Double : goal.clause-returns-in-Double
clause-returns-in-Double t c = leads _ _ _ _ (sym c.step_of.ensures.step ∙ ap (λ s. check_step s (names_of c.args.self.now.scope)) c.in-Double.is) c.double.ensures

pub clause-double-requires : goal.clause-double-requires
clause-double-requires t c =
    let light = ap weight_step c.in-Double.is in
    (omega (arith, c.decreases, c.step_of.ensures.lighter, light), tt)

pub clause-returns-in-Triple : goal.clause-returns-in-Triple
clause-returns-in-Triple t c = leads _ _ _ _ (sym c.step_of.ensures.step ∙ ap (λ s. check_step s (names_of c.args.self.now.scope)) c.in-Triple.is) c.triple.ensures

pub clause-triple-requires : goal.clause-triple-requires
clause-triple-requires t c =
    let light = ap weight_step c.in-Triple.is in
    (omega (arith, c.decreases, c.step_of.ensures.lighter, light), tt)

pub clause-returns-in-Link : goal.clause-returns-in-Link
clause-returns-in-Link t c = leads _ _ _ _ (sym c.step_of.ensures.step ∙ ap (λ s. check_step s (names_of c.args.self.now.scope)) c.in-Link.is) c.chain.ensures

pub clause-chain-requires : goal.clause-chain-requires
clause-chain-requires t c =
    let light = ap weight_step c.in-Link.is in
    (omega (arith, c.decreases, c.step_of.ensures.lighter, light), tt)

pub clause-returns-in-Literal : goal.clause-returns-in-Literal
clause-returns-in-Literal t c = leads _ _ _ _ (sym c.step_of.ensures.step ∙ ap (λ s. check_step s (names_of c.args.self.now.scope)) c.in-Literal.is) c.literal.ensures

pub clause-literal-requires : goal.clause-literal-requires
clause-literal-requires t c =
    let light = ap weight_step c.in-Literal.is in
    (omega (arith, c.decreases, c.step_of.ensures.lighter, light), tt)

pub clause-returns-in-Named : goal.clause-returns-in-Named
clause-returns-in-Named t c = leads _ _ _ _ (sym c.step_of.ensures.step ∙ ap (λ s. check_step s (names_of c.args.self.now.scope)) c.in-Named.is) c.named_literal.ensures

pub clause-named_literal-requires : goal.clause-named_literal-requires
clause-named_literal-requires t c =
    let light = ap weight_step c.in-Named.is in
    (omega (arith, c.decreases, c.step_of.ensures.lighter, light), tt)

pub clause-returns-in-Counted : goal.clause-returns-in-Counted
clause-returns-in-Counted t c = leads _ _ _ _ (sym c.step_of.ensures.step ∙ ap (λ s. check_step s (names_of c.args.self.now.scope)) c.in-Counted.is) c.counted.ensures

pub clause-counted-requires : goal.clause-counted-requires
clause-counted-requires t c =
    let light = ap weight_step c.in-Counted.is in
    (omega (arith, c.decreases, c.step_of.ensures.lighter, light), tt)

pub clause-returns-in-Case : goal.clause-returns-in-Case
clause-returns-in-Case t c = leads _ _ _ _ (sym c.step_of.ensures.step ∙ ap (λ s. check_step s (names_of c.args.self.now.scope)) c.in-Case.is) c.case_of.ensures

pub clause-case_of-requires : goal.clause-case_of-requires
clause-case_of-requires t c =
    let light = ap weight_step c.in-Case.is in
    (omega (arith, c.decreases, c.step_of.ensures.lighter, light), tt)

pub clause-returns-in-Write : goal.clause-returns-in-Write
clause-returns-in-Write t c = leads _ _ _ _ (sym c.step_of.ensures.step ∙ ap (λ s. check_step s (names_of c.args.self.now.scope)) c.in-Write.is) c.write.ensures

pub clause-write-requires : goal.clause-write-requires
clause-write-requires t c =
    let light = ap weight_step c.in-Write.is in
    (omega (arith, c.decreases, c.step_of.ensures.lighter, light), tt)

pub clause-returns-in-Elements : goal.clause-returns-in-Elements
clause-returns-in-Elements t c = leads _ _ _ _ (sym c.step_of.ensures.step ∙ ap (λ s. check_step s (names_of c.args.self.now.scope)) c.in-Elements.is) c.elements.ensures

pub clause-elements-requires : goal.clause-elements-requires
clause-elements-requires t c =
    let light = ap weight_step c.in-Elements.is in
    (omega (arith, c.decreases, c.step_of.ensures.lighter, light), tt)

pub clause-returns-in-Applied : goal.clause-returns-in-Applied
clause-returns-in-Applied t c = leads _ _ _ _ (sym c.step_of.ensures.step ∙ ap (λ s. check_step s (names_of c.args.self.now.scope)) c.in-Applied.is) c.name_applied.ensures

pub clause-name_applied-requires : goal.clause-name_applied-requires
clause-name_applied-requires t c =
    let light = ap weight_step c.in-Applied.is in
    (omega (arith, c.decreases, c.step_of.ensures.lighter, light), tt)

pub clause-returns-in-Sequence : goal.clause-returns-in-Sequence
clause-returns-in-Sequence t c = leads _ _ _ _ (sym c.step_of.ensures.step ∙ ap (λ s. check_step s (names_of c.args.self.now.scope)) c.in-Sequence.is) c.sequence.ensures

pub clause-sequence-requires : goal.clause-sequence-requires
clause-sequence-requires t c =
    let light = ap weight_step c.in-Sequence.is in
    (omega (arith, c.decreases, c.step_of.ensures.lighter, light), tt)

pub name_applied-returns-in_err-meaning : goal.name_applied-returns-in_err-meaning
name_applied-returns-in_err-meaning t c = exits c.from_residual.result _ c.in_err-meaning.field-0.0 _ c.from_residual.ensures.1 (no_memory _ _ c.in_err-meaning.ensures)

pub double-returns-in_err-wanted : goal.double-returns-in_err-wanted
double-returns-in_err-wanted t c = exits c.from_residual-in_err-wanted.result _ c.in_err-wanted.field-0.0 _ c.from_residual-in_err-wanted.ensures.1 (no_memory _ _ c.in_err-wanted.ensures)

pub chain-returns-in_err-links : goal.chain-returns-in_err-links
chain-returns-in_err-links t c = exits c.from_residual.result _ c.in_err-links.field-0.0 _ c.from_residual.ensures.1 (no_memory _ _ c.in_err-links.ensures.fault)

pub named_literal-returns-in_err-ty : goal.named_literal-returns-in_err-ty
named_literal-returns-in_err-ty t c = exits c.from_residual.result _ c.in_err-ty.field-0.0 _ c.from_residual.ensures.1 (no_memory _ _ c.in_err-ty.ensures)

pub part-returns-in_err-clause : goal.part-returns-in_err-clause
part-returns-in_err-clause t c = exits c.from_residual.result _ c.in_err-clause.field-0.0 _ c.from_residual.ensures.1 (fails_unmet _ _ _ _ c.in_err-clause.ensures)

pub part-returns : goal.part-returns
part-returns t c = leads _ _ _ _ (ap (meets (want_of c.args.wanted) c.args.rough.now.line) c.in_ok-clause.ensures) (c.met.ensures c.clause.new.self.scope)

pub part-clause-requires : goal.part-clause-requires
part-clause-requires t c = (omega (arith, c.decreases), tt)

pub single-returns-in_err-e : goal.single-returns-in_err-e
single-returns-in_err-e t c = exits c.from_residual.result _ c.in_err-e.field-0.0 _ c.from_residual.ensures.1 (fails_first _ _ _ (fails_met _ _ _ c.wanted.ensures c.in_err-e.ensures))

pub single-returns : goal.single-returns
single-returns t c = leads _ _ _ _ (given _ _ _ _ _ (as_met _ _ _ _ _ c.wanted.ensures c.in_ok-e.ensures)) c.made.ensures

pub single-part-requires : goal.single-part-requires
single-part-requires t c = (omega (arith, c.decreases), tt)

pub double-returns-in_err-a : goal.double-returns-in_err-a
double-returns-in_err-a t c = exits c.from_residual.result _ c.in_err-a.field-0.0 _ c.from_residual.ensures.1 (fails_first _ _ _ (fails_met _ _ _ c.first.ensures c.in_err-a.ensures))

pub double-returns-in_err-b : goal.double-returns-in_err-b
double-returns-in_err-b t c = exits c.from_residual-in_err-b.result _ c.in_err-b.field-0.0 _ c.from_residual-in_err-b.ensures.1 (fails_next _ _ _ _ _ _ (as_met _ _ _ _ _ c.first.ensures c.in_ok-a.ensures) (fails_first _ _ _ (fails_met _ _ _ c.in_ok-wanted.ensures c.in_err-b.ensures)))

pub double-returns : goal.double-returns
double-returns t c = leads _ _ _ _ (given _ _ _ _ _ (as_met _ _ _ _ _ c.first.ensures c.in_ok-a.ensures) ∙ given _ _ _ _ _ (as_met _ _ _ _ _ c.in_ok-wanted.ensures c.in_ok-b.ensures)) (c.made.ensures c.part-2.new.self.scope)

pub double-part-requires : goal.double-part-requires
double-part-requires t c = (omega (arith, c.decreases), tt)

pub double-part-requires-2 : goal.double-part-requires-2
double-part-requires-2 t c = (omega (arith, c.decreases), tt)

pub triple-returns-in_err-tree : goal.triple-returns-in_err-tree
triple-returns-in_err-tree t c = exits c.from_residual.result _ c.in_err-tree.field-0.0 _ c.from_residual.ensures.1 (fails_first _ _ _ (fails_met _ _ _ c.first.ensures c.in_err-tree.ensures))

pub triple-returns : goal.triple-returns
triple-returns t c = leads _ _ _ _ (given _ _ _ _ _ (as_met _ _ _ _ _ c.first.ensures c.in_ok-tree.ensures) ∙ sym (c.rest.ensures _ _ _)) c.double.ensures

pub triple-part-requires : goal.triple-part-requires
triple-part-requires t c = (omega (arith, c.decreases), tt)

pub triple-double-requires : goal.triple-double-requires
triple-double-requires t c = (omega (arith, c.decreases), tt)

pub elements-returns-in_err-l : goal.elements-returns-in_err-l
elements-returns-in_err-l t c = exits c.from_residual.result _ c.in_err-l.field-0.0 _ c.from_residual.ensures.1 (fails_first _ _ _ c.in_err-l.ensures)

pub elements-returns-in_err-items : goal.elements-returns-in_err-items
elements-returns-in_err-items t c = exits c.from_residual-in_err-items.result _ c.in_err-items.field-0.0 _ c.from_residual-in_err-items.ensures.1 (fails_next _ _ _ _ _ _ c.in_ok-l.ensures (fails_first _ _ _ c.in_err-items.ensures))

pub elements-returns : goal.elements-returns
elements-returns t c = made _ _ _ _ c.listed.result (given _ _ _ _ _ c.in_ok-l.ensures ∙ given _ _ _ _ _ c.in_ok-items.ensures.1) c.listed.ensures

pub elements-part-requires : goal.elements-part-requires
elements-part-requires t c = (omega (arith, c.decreases), tt)

pub elements-each-requires : goal.elements-each-requires
elements-each-requires t c = (omega (arith, c.decreases), tt)

pub counted-returns-in_err-a : goal.counted-returns-in_err-a
counted-returns-in_err-a t c = exits c.from_residual.result _ c.in_err-a.field-0.0 _ c.from_residual.ensures.1 (fails_first _ _ _ c.in_err-a.ensures)

pub counted-returns-in_err-b : goal.counted-returns-in_err-b
counted-returns-in_err-b t c = exits c.from_residual-in_err-b.result _ c.in_err-b.field-0.0 _ c.from_residual-in_err-b.ensures.1 (fails_next _ _ _ _ _ _ (c.in_ok-a.ensures) (fails_first _ _ _ c.in_err-b.ensures))

pub counted-returns-in_err-c : goal.counted-returns-in_err-c
counted-returns-in_err-c t c = exits c.from_residual-in_err-c.result _ c.in_err-c.field-0.0 _ c.from_residual-in_err-c.ensures.1 (fails_next _ _ _ _ _ _ (c.in_ok-a.ensures) (fails_next _ _ _ _ _ _ (c.in_ok-b.ensures) (fails_first _ _ _ (subst (λ m. IsFault (check_if_any (names_of c.part-2.new.self.scope) types.Int (node.Int (pos 1)) m) c.in_err-c.field-0.0) c.lent.ensures c.in_err-c.ensures))))

pub counted-returns-in_err-s : goal.counted-returns-in_err-s
counted-returns-in_err-s t c = exits c.from_residual-in_err-s.result _ c.in_err-s.field-0.0 _ c.from_residual-in_err-s.ensures.1 (fails_next _ _ _ _ _ _ (c.in_ok-a.ensures) (fails_next _ _ _ _ _ _ (c.in_ok-b.ensures) (fails_next _ _ _ _ _ _ ((subst (λ m. check_if_any (names_of c.part-2.new.self.scope) types.Int (node.Int (pos 1)) m ≡ Gives (node_of c.in_ok-c.field-0.tree) (ty_view c.in_ok-c.field-0.ty) (names_of c.if_any.new.self.scope)) c.lent.ensures c.in_ok-c.ensures)) (fails_first _ _ _ (subst (λ n. IsFault (wants Void c.args.s.now.line (check n (phrase_of c.args.s.now))) c.in_err-s.field-0.0) (c.in_ok-number.ensures.names ∙ ap (λ nm. declare_local (names_of c.enter-block.new.self) nm types.Int false) c.as_slice-name.ensures ∙ ap (λ n. declare_local n c.args.name.now.name types.Int false) c.enter-block.ensures.names) c.in_err-s.ensures)))))

pub counted-leave-requires-clause-names : goal.counted-leave-requires-clause-names
counted-leave-requires-clause-names t c = stays _ _ _ _ (keeps_around (declare_local (inside (names_of c.if_any.new.self.scope)) c.args.name.now.name types.Int false) (phrase_of c.args.s.now) _ _ _ (unpassed _ _ _ _ _ _ _ (subst (λ n. wants Void c.args.s.now.line (check n (phrase_of c.args.s.now)) ≡ Gives (node_of c.in_ok-s.field-0.tree) (ty_view c.in_ok-s.field-0.ty) (names_of c.part-3.new.self.scope)) (c.in_ok-number.ensures.names ∙ ap (λ nm. declare_local (names_of c.enter-block.new.self) nm types.Int false) c.as_slice-name.ensures ∙ ap (λ n. declare_local n c.args.name.now.name types.Int false) c.enter-block.ensures.names) c.in_ok-s.ensures))) c.enter-block.ensures.names_around

pub counted-leave-requires-clause-fields : goal.counted-leave-requires-clause-fields
counted-leave-requires-clause-fields t c = stays _ _ _ _ (keeps_fields_around (declare_local (inside (names_of c.if_any.new.self.scope)) c.args.name.now.name types.Int false) (phrase_of c.args.s.now) _ _ _ (unpassed _ _ _ _ _ _ _ (subst (λ n. wants Void c.args.s.now.line (check n (phrase_of c.args.s.now)) ≡ Gives (node_of c.in_ok-s.field-0.tree) (ty_view c.in_ok-s.field-0.ty) (names_of c.part-3.new.self.scope)) (c.in_ok-number.ensures.names ∙ ap (λ nm. declare_local (names_of c.enter-block.new.self) nm types.Int false) c.as_slice-name.ensures ∙ ap (λ n. declare_local n c.args.name.now.name types.Int false) c.enter-block.ensures.names) c.in_ok-s.ensures))) c.enter-block.ensures.fields_around

pub counted-returns : goal.counted-returns
counted-returns t c = made _ _ _ _ c.loop_of.result (given _ _ _ _ _ (c.in_ok-a.ensures) ∙ given _ _ _ _ _ (c.in_ok-b.ensures) ∙ given _ _ _ _ _ ((subst (λ m. check_if_any (names_of c.part-2.new.self.scope) types.Int (node.Int (pos 1)) m ≡ Gives (node_of c.in_ok-c.field-0.tree) (ty_view c.in_ok-c.field-0.ty) (names_of c.if_any.new.self.scope)) c.lent.ensures c.in_ok-c.ensures)) ∙ given _ _ _ _ _ (subst (λ n. wants Void c.args.s.now.line (check n (phrase_of c.args.s.now)) ≡ Gives (node_of c.in_ok-s.field-0.tree) (ty_view c.in_ok-s.field-0.ty) (names_of c.part-3.new.self.scope)) (c.in_ok-number.ensures.names ∙ ap (λ nm. declare_local (names_of c.enter-block.new.self) nm types.Int false) c.as_slice-name.ensures ∙ ap (λ n. declare_local n c.args.name.now.name types.Int false) c.enter-block.ensures.names) c.in_ok-s.ensures) ∙ ap (λ n. Gives (node.For 0 (node_of c.in_ok-a.field-0.tree) (node_of c.in_ok-b.field-0.tree) (node_of c.in_ok-c.field-0.tree) None (Plain (length (names_of c.if_any.new.self.scope).all)) (node_of c.in_ok-s.field-0.tree) c.args.line) Void n) (sym (c.leave.ensures (names_of c.if_any.new.self.scope) (keeps_around (declare_local (inside (names_of c.if_any.new.self.scope)) c.args.name.now.name types.Int false) (phrase_of c.args.s.now) _ _ _ (unpassed _ _ _ _ _ _ _ (subst (λ n. wants Void c.args.s.now.line (check n (phrase_of c.args.s.now)) ≡ Gives (node_of c.in_ok-s.field-0.tree) (ty_view c.in_ok-s.field-0.ty) (names_of c.part-3.new.self.scope)) (c.in_ok-number.ensures.names ∙ ap (λ nm. declare_local (names_of c.enter-block.new.self) nm types.Int false) c.as_slice-name.ensures ∙ ap (λ n. declare_local n c.args.name.now.name types.Int false) c.enter-block.ensures.names) c.in_ok-s.ensures))) (keeps_fields_around (declare_local (inside (names_of c.if_any.new.self.scope)) c.args.name.now.name types.Int false) (phrase_of c.args.s.now) _ _ _ (unpassed _ _ _ _ _ _ _ (subst (λ n. wants Void c.args.s.now.line (check n (phrase_of c.args.s.now)) ≡ Gives (node_of c.in_ok-s.field-0.tree) (ty_view c.in_ok-s.field-0.ty) (names_of c.part-3.new.self.scope)) (c.in_ok-number.ensures.names ∙ ap (λ nm. declare_local (names_of c.enter-block.new.self) nm types.Int false) c.as_slice-name.ensures ∙ ap (λ n. declare_local n c.args.name.now.name types.Int false) c.enter-block.ensures.names) c.in_ok-s.ensures))) c.enter-block.ensures.names_around c.enter-block.ensures.fields_around))) (remade _ _ _ c.loop_of.result (ap (λ k. node.For 0 (node_of c.in_ok-a.field-0.tree) (node_of c.in_ok-b.field-0.tree) (node_of c.in_ok-c.field-0.tree) None (Plain k) (node_of c.in_ok-s.field-0.tree) c.args.line) (c.in_ok-number.ensures.number ∙ ap (λ (n : Names). length n.all) c.enter-block.ensures.names)) c.loop_of.ensures)

pub counted-part-requires : goal.counted-part-requires
counted-part-requires t c = (omega (arith, c.decreases), tt)

pub counted-part-requires-2 : goal.counted-part-requires-2
counted-part-requires-2 t c = (omega (arith, c.decreases), tt)

pub counted-part-requires-3 : goal.counted-part-requires-3
counted-part-requires-3 t c = (omega (arith, c.decreases), tt)

pub counted-if_any-requires : goal.counted-if_any-requires
counted-if_any-requires t c =
    let third = ap weight_if_any c.lent.ensures in
    (omega (arith, c.decreases, third), tt)

pub each-loop-rough-init : goal.each-loop-rough-init
each-loop-rough-init t c = ap (λ ts. after (after_nodes ts) (check_each (names_of c.args.self.now.scope) (ty_view c.args.ty.now) (checkers (phrases_in c.args.clauses.now)))) c.new-trees.ensures.items ∙ after_nothing _ _ (λ ts. refl)

pub each-loop-rough-smaller : goal.each-loop-rough-smaller
each-loop-rough-smaller t c =
    let below = c.loop-rough-test.true in
    omega (arith, below)

pub each-clause-requires : goal.each-clause-requires
each-clause-requires t c =
    let below = c.loop-rough-test.true in
    let light : weight (phrase_of c.rough-item.result) ≤ weight_all (phrases_in c.args.clauses.now) = subst (λ r. weight (phrase_of r) ≤ weight_all (phrases_in c.args.clauses.now)) (sym c.rough-item.is) (weight_at c.args.clauses.now c.loop-rough.rough-index _ below) in
    (omega (arith, c.decreases, light), tt)

pub each-returns-in_err-clause : goal.each-returns-in_err-clause
each-returns-in_err-clause t c =
    let below = c.loop-rough-test.true in
    let cut = phrases_from c.args.clauses.now c.loop-rough.rough-index c.rough-item.result below c.rough-item.is in
    exits c.from_residual.result _ c.in_err-clause.field-0.0 _ c.from_residual.ensures.1 (fails_after _ _ _ _ c.loop-rough.invariant (fails_as _ _ _ (ap (λ ps. check_each (names_of c.loop-rough.self.scope) (ty_view c.args.ty.now) (checkers ps)) cut) (fails_first _ _ _ (fails_test _ _ _ _ _ c.in_err-clause.ensures))))

pub each-returns-in_err-push_typed : goal.each-returns-in_err-push_typed
each-returns-in_err-push_typed t c =
    let below = c.loop-rough-test.true in
    let cut = phrases_from c.args.clauses.now c.loop-rough.rough-index c.rough-item.result below c.rough-item.is in
    exits c.from_residual-in_err-push_typed.result _ c.in_err-push_typed.field-0.0 _ c.from_residual-in_err-push_typed.ensures.1 (fails_after _ _ _ _ c.loop-rough.invariant (fails_as _ _ _ (ap (λ ps. check_each (names_of c.loop-rough.self.scope) (ty_view c.args.ty.now) (checkers ps)) cut) (fails_first _ _ _ (fails_as _ _ _ (ap (wants (ty_view c.args.ty.now) c.rough-item.result.line) c.in_ok-clause.ensures) (c.in_err-push_typed.ensures c.clause.new.self.scope)))))

pub each-loop-rough-preserved : goal.each-loop-rough-preserved
each-loop-rough-preserved t c =
    let below = c.loop-rough-test.true in
    let cut = phrases_from c.args.clauses.now c.loop-rough.rough-index c.rough-item.result below c.rough-item.is in
    pushed c.loop-rough.trees.items _ (c.in_ok-push_typed.ensures c.clause.new.self.scope).0 _ _ _ (c.in_ok-push_typed.ensures c.clause.new.self.scope).1 (ap (λ ps. check_each (names_of c.loop-rough.self.scope) (ty_view c.args.ty.now) (checkers ps)) cut ∙ each_step _ _ (ty_view c.args.ty.now) _ _ (phrase_of c.rough-item.result) (phrases_in (drop (c.loop-rough.rough-index + 1) c.args.clauses.now)) (ap (wants (ty_view c.args.ty.now) c.rough-item.result.line) c.in_ok-clause.ensures ∙ (c.in_ok-push_typed.ensures c.clause.new.self.scope).2)) c.loop-rough.invariant

pub each-returns : goal.each-returns
each-returns t c =
    let past : length c.args.clauses.now ≤ c.loop-rough.rough-index = search rules in
    (ty_view c.args.ty.now, finished c.loop-rough.trees.items _ _ _ _ (ap (λ ps. check_each (names_of c.loop-rough.self.scope) (ty_view c.args.ty.now) (checkers ps)) (phrases_behind c.args.clauses.now c.loop-rough.rough-index past)) c.loop-rough.invariant)

pub write-loop-item-init : goal.write-loop-item-init
write-loop-item-init t c = ap (λ ts. after (after_nodes ts) (check_written (names_of c.args.self.now.scope) (items_in c.args.items.now))) c.new-trees.ensures.items ∙ after_nothing _ _ (λ ts. refl)

pub write-loop-item-smaller : goal.write-loop-item-smaller
write-loop-item-smaller t c =
    let below = c.loop-item-test.true in
    omega (arith, below)

pub write-part-requires : goal.write-part-requires
write-part-requires t c =
    let light : weight_item (item_of c.item-item.result) ≤ weight_written (items_in c.args.items.now) = subst (λ r. weight_item (item_of r) ≤ weight_written (items_in c.args.items.now)) (sym c.item-item.is) (item_weight_at c.args.items.now c.loop-item.item-index _ c.loop-item-test.true) in
    let whole = ap weight_item (item_of-parts c.item-item.result) in
    (omega (arith, c.decreases, light, whole), tt)

pub write-if_any-requires : goal.write-if_any-requires
write-if_any-requires t c =
    let light : weight_item (item_of c.item-item.result) ≤ weight_written (items_in c.args.items.now) = subst (λ r. weight_item (item_of r) ≤ weight_written (items_in c.args.items.now)) (sym c.item-item.is) (item_weight_at c.args.items.now c.loop-item.item-index _ c.loop-item-test.true) in
    let whole = ap weight_item (item_of-parts c.item-item.result) in
    let width = ap weight_if_any c.lent-width.ensures in
    (omega (arith, c.decreases, light, whole, width), tt)

pub write-returns-in_err-e : goal.write-returns-in_err-e
write-returns-in_err-e t c =
    let below = c.loop-item-test.true in
    let cut = items_from c.args.items.now c.loop-item.item-index c.item-item.result below c.item-item.is in
    exits c.from_residual.result _ c.in_err-e.field-0.0 _ c.from_residual.ensures.1 (fails_first _ _ _ (fails_after _ _ _ _ c.loop-item.invariant (fails_as _ _ _ (ap (check_written (names_of c.loop-item.self.scope)) cut ∙ written_is (names_of c.loop-item.self.scope) (item_of c.item-item.result) (items_in (drop (c.loop-item.item-index + 1) c.args.items.now))) (fails_first _ _ _ (fails_as _ _ _ (ap (check_item (names_of c.loop-item.self.scope)) (item_of-parts c.item-item.result)) (fails_first _ _ _ c.in_err-e.ensures))))))

pub write-returns-in_err-w : goal.write-returns-in_err-w
write-returns-in_err-w t c =
    let below = c.loop-item-test.true in
    let cut = items_from c.args.items.now c.loop-item.item-index c.item-item.result below c.item-item.is in
    exits c.from_residual-in_err-w.result _ c.in_err-w.field-0.0 _ c.from_residual-in_err-w.ensures.1 (fails_first _ _ _ (fails_after _ _ _ _ c.loop-item.invariant (fails_as _ _ _ (ap (check_written (names_of c.loop-item.self.scope)) cut ∙ written_is (names_of c.loop-item.self.scope) (item_of c.item-item.result) (items_in (drop (c.loop-item.item-index + 1) c.args.items.now))) (fails_first _ _ _ (fails_as _ _ _ (ap (check_item (names_of c.loop-item.self.scope)) (item_of-parts c.item-item.result)) (fails_next _ _ _ _ _ _ c.in_ok-e.ensures (fails_first _ _ _ (subst (λ m. IsFault (check_if_any (names_of c.part.new.self.scope) types.Int node.Empty m) c.in_err-w.field-0.0) c.lent-width.ensures c.in_err-w.ensures))))))))

pub write-loop-item-preserved : goal.write-loop-item-preserved
write-loop-item-preserved t c =
    let below = c.loop-item-test.true in
    let cut = items_from c.args.items.now c.loop-item.item-index c.item-item.result below c.item-item.is in
    let made : check_item (names_of c.loop-item.self.scope) (item_of c.item-item.result) ≡ Gives (node_of c.in_ok-tree.tree) Void (names_of c.if_any.new.self.scope) =
    ap (check_item (names_of c.loop-item.self.scope)) (item_of-parts c.item-item.result) ∙ given _ _ _ _ _ c.in_ok-e.ensures ∙ given _ _ _ _ _ (subst (λ m. check_if_any (names_of c.part.new.self.scope) types.Int node.Empty m ≡ Gives (node_of c.in_ok-w.field-0.tree) (ty_view c.in_ok-w.field-0.ty) (names_of c.if_any.new.self.scope)) c.lent-width.ensures c.in_ok-w.ensures) ∙ ap (λ b. Gives (node.Write (node_of c.in_ok-e.field-0.tree) (node_of c.in_ok-w.field-0.tree) b (ty_view c.in_ok-e.field-0.ty) (out-RoughItem c.item-item.result).line) Void (names_of c.if_any.new.self.scope)) (sym c.is_int.ensures) ∙ ap (λ t. Gives t Void (names_of c.if_any.new.self.scope)) (sym c.in_ok-tree.ensures) in
    pushed c.loop-item.trees.items _ c.in_ok-tree.tree _ _ _ c.in_ok-push.ensures.items (ap (check_written (names_of c.loop-item.self.scope)) cut ∙ written_step (names_of c.loop-item.self.scope) _ _ _ (item_of c.item-item.result) (items_in (drop (c.loop-item.item-index + 1) c.args.items.now)) made) c.loop-item.invariant

pub write-returns : goal.write-returns
write-returns t c =
    let past : length c.args.items.now ≤ c.loop-item.item-index = search rules in
    made _ _ _ _ c.one_or_sequence.result (given _ _ _ _ _ (finished c.loop-item.trees.items _ _ _ _ (ap (check_written (names_of c.loop-item.self.scope)) (items_behind c.args.items.now c.loop-item.item-index past)) c.loop-item.invariant)) c.one_or_sequence.ensures

pub case_of-returns-in_err-e : goal.case_of-returns-in_err-e
case_of-returns-in_err-e t c = exits c.from_residual.result _ c.in_err-e.field-0.0 _ c.from_residual.ensures.1 (fails_first _ _ _ c.in_err-e.ensures)

pub case_of-returns-in_err-arms : goal.case_of-returns-in_err-arms
case_of-returns-in_err-arms t c = exits c.from_residual-in_err-arms.result _ c.in_err-arms.field-0.0 _ c.from_residual-in_err-arms.ensures.1 (fails_next _ _ _ _ _ _ (c.in_ok-e.ensures) (fails_first _ _ _ c.in_err-arms.ensures))

pub case_of-returns-in_err-d : goal.case_of-returns-in_err-d
case_of-returns-in_err-d t c = exits c.from_residual-in_err-d.result _ c.in_err-d.field-0.0 _ c.from_residual-in_err-d.ensures.1 (fails_next _ _ _ _ _ _ (c.in_ok-e.ensures) (fails_next _ _ _ _ _ _ (c.in_ok-arms.ensures.1) (fails_first _ _ _ (subst (λ g. IsFault (like g c.args.d.now.line (check (names_of c.arms.new.self.scope) (phrase_of c.args.d.now))) c.in_err-d.field-0.0) (sym c.in_ok-arms.ensures.2) (fails_as _ _ _ (sym (c.like.ensures _ _)) c.in_err-d.ensures)))))

pub case_of-returns : goal.case_of-returns
case_of-returns t c = made _ _ _ _ c.new-2.result (given _ _ _ _ _ (c.in_ok-e.ensures) ∙ given _ _ _ _ _ (c.in_ok-arms.ensures.1) ∙ given _ _ _ _ _ (subst (λ g. like g c.args.d.now.line (check (names_of c.arms.new.self.scope) (phrase_of c.args.d.now)) ≡ Gives (node_of c.in_ok-d.field-0.tree) (ty_view c.in_ok-d.field-0.ty) (names_of c.part-2.new.self.scope)) (sym c.in_ok-arms.ensures.2) (sym (c.like.ensures _ _) ∙ c.in_ok-d.ensures))) (remade _ _ _ c.new-2.result (case_is _ c.in_ok-e.field-0.tree _ c.in_ok-d.field-0.tree c.in_ok-ty.ty c.in_ok-arms.field-0.arms.items refl (sym c.new-arms.ensures) ∙ ap (λ ty. node.Case (node_of c.in_ok-e.field-0.tree) (arms_in c.in_ok-arms.field-0.arms.items) (node_of c.in_ok-d.field-0.tree) (ty_view ty)) c.in_ok-ty.ensures.ok) c.new-2.ensures)

pub case_of-part-requires : goal.case_of-part-requires
case_of-part-requires t c = (omega (arith, c.decreases), tt)

pub case_of-arms-requires : goal.case_of-arms-requires
case_of-arms-requires t c = (omega (arith, c.decreases), tt)

pub case_of-part-requires-2 : goal.case_of-part-requires-2
case_of-part-requires-2 t c = (omega (arith, c.decreases), tt)

pub arms-loop-arm-init : goal.arms-loop-arm-init
arms-loop-arm-init t c = record {
  arms = ap (λ made. after (after_arms made) (check_arms (names_of c.args.self.now.scope) (ty_view c.args.ty.now) None (rough_arms_in c.args.arms.now))) c.new-made.ensures.items ∙ after_nothing _ _ (λ made. refl);
  given = ap (λ made. first_type (arms_in made) Void) c.new-made.ensures.items;
}

pub arms-loop-arm-smaller : goal.arms-loop-arm-smaller
arms-loop-arm-smaller t c =
    let below = c.loop-arm-test.true in
    omega (arith, below)

pub arms-each-requires : goal.arms-each-requires
arms-each-requires t c =
    let light : weight_arm (arm_of c.arm-item.result) ≤ weight_arms (rough_arms_in c.args.arms.now) = subst (λ r. weight_arm (arm_of r) ≤ weight_arms (rough_arms_in c.args.arms.now)) (sym c.arm-item.is) (arm_weight_at c.args.arms.now c.loop-arm.arm-index _ c.loop-arm-test.true) in
    let is : weight_arm (arm_of c.arm-item.result) ≡ weight_all (phrases_in c.as_slice.result.now) + weight (phrase_of (out-RoughArm c.arm-item.result).a) = ap weight_arm (arm_of-parts c.arm-item.result) ∙ ap (λ labels. weight_all (phrases_in labels) + weight (phrase_of (out-RoughArm c.arm-item.result).a)) (sym c.as_slice.ensures) in
    (omega (arith, c.decreases, light, is), tt)

pub arms-part-requires : goal.arms-part-requires
arms-part-requires t c =
    let light : weight_arm (arm_of c.arm-item.result) ≤ weight_arms (rough_arms_in c.args.arms.now) = subst (λ r. weight_arm (arm_of r) ≤ weight_arms (rough_arms_in c.args.arms.now)) (sym c.arm-item.is) (arm_weight_at c.args.arms.now c.loop-arm.arm-index _ c.loop-arm-test.true) in
    let is : weight_arm (arm_of c.arm-item.result) ≡ weight_all (phrases_in c.as_slice.result.now) + weight (phrase_of (out-RoughArm c.arm-item.result).a) = ap weight_arm (arm_of-parts c.arm-item.result) ∙ ap (λ labels. weight_all (phrases_in labels) + weight (phrase_of (out-RoughArm c.arm-item.result).a)) (sym c.as_slice.ensures) in
    (omega (arith, c.decreases, light, is), tt)

pub arms-returns-in_err-labels : goal.arms-returns-in_err-labels
arms-returns-in_err-labels t c =
    let below = c.loop-arm-test.true in
    let cut = arms_from c.args.arms.now c.loop-arm.arm-index c.arm-item.result below c.arm-item.is in
    let known = option_map ty_view c.loop-arm.given in
    let parts = ap (check_arm (names_of c.loop-arm.self.scope) (ty_view c.args.ty.now) known) (arm_of-parts c.arm-item.result) ∙ ap (λ labels. check_arm (names_of c.loop-arm.self.scope) (ty_view c.args.ty.now) known (form.arm (phrases_in labels) (phrase_of (out-RoughArm c.arm-item.result).a))) (sym c.as_slice.ensures) in
    exits c.from_residual.result _ c.in_err-labels.field-0.0 _ c.from_residual.ensures.1 (fails_as _ _ _ (sym c.loop-arm.invariant.arms) (fails_first _ _ _ (fails_as _ _ _ (ap (check_arms (names_of c.loop-arm.self.scope) (ty_view c.args.ty.now) known) cut ∙ arms_are _ _ _ _ _) (fails_first _ _ _ (fails_as _ _ _ parts (fails_first _ _ _ c.in_err-labels.ensures))))))

pub arms-returns-in_err-a : goal.arms-returns-in_err-a
arms-returns-in_err-a t c =
    let below = c.loop-arm-test.true in
    let cut = arms_from c.args.arms.now c.loop-arm.arm-index c.arm-item.result below c.arm-item.is in
    let known = option_map ty_view c.loop-arm.given in
    let parts = ap (check_arm (names_of c.loop-arm.self.scope) (ty_view c.args.ty.now) known) (arm_of-parts c.arm-item.result) ∙ ap (λ labels. check_arm (names_of c.loop-arm.self.scope) (ty_view c.args.ty.now) known (form.arm (phrases_in labels) (phrase_of (out-RoughArm c.arm-item.result).a))) (sym c.as_slice.ensures) in
    exits c.from_residual-in_err-a.result _ c.in_err-a.field-0.0 _ c.from_residual-in_err-a.ensures.1 (fails_as _ _ _ (sym c.loop-arm.invariant.arms) (fails_first _ _ _ (fails_as _ _ _ (ap (check_arms (names_of c.loop-arm.self.scope) (ty_view c.args.ty.now) known) cut ∙ arms_are _ _ _ _ _) (fails_first _ _ _ (fails_as _ _ _ parts (fails_next _ _ _ _ _ _ c.in_ok-labels.ensures.1 (fails_first _ _ _ (fails_as _ _ _ (sym (c.like.ensures _ _)) c.in_err-a.ensures))))))))

pub arms-loop-arm-preserved : goal.arms-loop-arm-preserved
arms-loop-arm-preserved t c =
    let below = c.loop-arm-test.true in
    let cut = arms_from c.args.arms.now c.loop-arm.arm-index c.arm-item.result below c.arm-item.is in
    let known = option_map ty_view c.loop-arm.given in
    let parts = ap (check_arm (names_of c.loop-arm.self.scope) (ty_view c.args.ty.now) known) (arm_of-parts c.arm-item.result) ∙ ap (λ labels. check_arm (names_of c.loop-arm.self.scope) (ty_view c.args.ty.now) known (form.arm (phrases_in labels) (phrase_of (out-RoughArm c.arm-item.result).a))) (sym c.as_slice.ensures) in
    let made = parts ∙ given _ _ _ _ _ c.in_ok-labels.ensures.1 ∙ given _ _ _ _ _ (sym (c.like.ensures _ _) ∙ c.in_ok-a.ensures) ∙ ap (λ a. Gives a (ty_view c.in_ok-a.field-0.ty) (names_of c.part.new.self.scope)) (arm_made c.new-labels.result c.in_ok-a.field-0.tree _ (sym c.new-labels.ensures)) in
    record {
      arms = pushed_arm (names_of c.loop-arm.self.scope) _ (ty_view c.args.ty.now) _ known c.loop-arm.made.items _ _ (arm_of c.arm-item.result) (rough_arms_in (drop (c.loop-arm.arm-index + 1) c.args.arms.now)) _ _ c.in_ok-push.ensures.items made (ap (check_arms (names_of c.loop-arm.self.scope) (ty_view c.args.ty.now) known) cut) c.loop-arm.invariant.arms;
      given = first_pushed c.loop-arm.made.items _ _ _ c.in_ok-push.ensures.items;
    }

pub arms-returns : goal.arms-returns
arms-returns t c =
    let past : length c.args.arms.now ≤ c.loop-arm.arm-index = search rules in
    let known = option_map ty_view c.loop-arm.given in
    (or_given Void known, finished_arms known c.loop-arm.made.items _ _ _ (ap (check_arms (names_of c.loop-arm.self.scope) (ty_view c.args.ty.now) known) (arms_behind c.args.arms.now c.loop-arm.arm-index past)) c.loop-arm.invariant.arms, c.loop-arm.invariant.given)

pub sequence-loop-item-init : goal.sequence-loop-item-init
sequence-loop-item-init t c = ap (λ ts. after (after_nodes ts) (check_all (names_of c.enter-block.new.self) c.args.line Void (phrases_in c.args.items.now))) c.new-trees.ensures.items ∙ after_nothing _ _ (λ ts. refl)

pub sequence-loop-item-smaller : goal.sequence-loop-item-smaller
sequence-loop-item-smaller t c =
    let below = c.loop-item-test.true in
    omega (arith, below)

pub sequence-clause-requires : goal.sequence-clause-requires
sequence-clause-requires t c =
    let below = c.loop-item-test.true in
    let light : weight (phrase_of c.item-item.result) ≤ weight_all (phrases_in c.args.items.now) = subst (λ r. weight (phrase_of r) ≤ weight_all (phrases_in c.args.items.now)) (sym c.item-item.is) (weight_at c.args.items.now c.loop-item.item-index _ below) in
    (omega (arith, c.decreases, light), tt)

pub sequence-returns-in_err-void_before : goal.sequence-returns-in_err-void_before
sequence-returns-in_err-void_before t c =
    let below = c.loop-item-test.true in
    let cut = phrases_from c.args.items.now c.loop-item.item-index c.item-item.result below c.item-item.is in
    let rest = phrases_in (drop (c.loop-item.item-index + 1) c.args.items.now) in
    exits c.from_residual.result _ c.in_err-void_before.field-0.0 _ c.from_residual.ensures.1 (fails_first _ _ _ (fails_as _ _ _ (ap (λ n. check_all n c.args.line Void (phrases_in c.args.items.now)) (sym c.enter-block.ensures.names)) (fails_after _ _ _ _ c.loop-item.invariant (fails_as _ _ _ (ap (check_all (names_of c.loop-item.self.scope) c.loop-item.line (ty_view c.loop-item.before)) cut ∙ all_is (names_of c.loop-item.self.scope) c.loop-item.line (ty_view c.loop-item.before) (phrase_of c.item-item.result) rest) (fails_first _ _ _ (c.in_err-void_before.ensures (check (names_of c.loop-item.self.scope) (phrase_of c.item-item.result))))))))

pub sequence-returns-in_err-tree : goal.sequence-returns-in_err-tree
sequence-returns-in_err-tree t c =
    let below = c.loop-item-test.true in
    let cut = phrases_from c.args.items.now c.loop-item.item-index c.item-item.result below c.item-item.is in
    let rest = phrases_in (drop (c.loop-item.item-index + 1) c.args.items.now) in
    exits c.from_residual-in_err-tree.result _ c.in_err-tree.field-0.0 _ c.from_residual-in_err-tree.ensures.1 (fails_first _ _ _ (fails_as _ _ _ (ap (λ n. check_all n c.args.line Void (phrases_in c.args.items.now)) (sym c.enter-block.ensures.names)) (fails_after _ _ _ _ c.loop-item.invariant (fails_as _ _ _ (ap (check_all (names_of c.loop-item.self.scope) c.loop-item.line (ty_view c.loop-item.before)) cut ∙ all_is (names_of c.loop-item.self.scope) c.loop-item.line (ty_view c.loop-item.before) (phrase_of c.item-item.result) rest) (fails_first _ _ _ (fails_as _ _ _ (c.in_ok-void_before.ensures _) c.in_err-tree.ensures))))))

pub sequence-loop-item-preserved : goal.sequence-loop-item-preserved
sequence-loop-item-preserved t c =
    let below = c.loop-item-test.true in
    let cut = phrases_from c.args.items.now c.loop-item.item-index c.item-item.result below c.item-item.is in
    let rest = phrases_in (drop (c.loop-item.item-index + 1) c.args.items.now) in
    pushed c.loop-item.trees.items _ c.in_ok-tree.field-0.tree _ _ _ c.in_ok-push.ensures.items (ap (check_all (names_of c.loop-item.self.scope) c.loop-item.line (ty_view c.loop-item.before)) cut ∙ all_step (names_of c.loop-item.self.scope) _ c.loop-item.line (ty_view c.loop-item.before) _ _ (phrase_of c.item-item.result) rest (c.in_ok-void_before.ensures _ ∙ c.in_ok-tree.ensures)) c.loop-item.invariant

pub sequence-leave-requires-clause-names : goal.sequence-leave-requires-clause-names
sequence-leave-requires-clause-names t c =
    let past : length c.args.items.now ≤ c.loop-item.item-index = search rules in
    let all = finished c.loop-item.trees.items _ _ _ _ (ap (check_all (names_of c.loop-item.self.scope) c.loop-item.line (ty_view c.loop-item.before)) (phrases_behind c.args.items.now c.loop-item.item-index past)) c.loop-item.invariant in
    stays _ _ _ _ (all_keeps_around _ _ _ _ _ _ _ all ∙ ap (λ (n : Names). n.around) c.enter-block.ensures.names) c.enter-block.ensures.names_around

pub sequence-leave-requires-clause-fields : goal.sequence-leave-requires-clause-fields
sequence-leave-requires-clause-fields t c =
    let past : length c.args.items.now ≤ c.loop-item.item-index = search rules in
    let all = finished c.loop-item.trees.items _ _ _ _ (ap (check_all (names_of c.loop-item.self.scope) c.loop-item.line (ty_view c.loop-item.before)) (phrases_behind c.args.items.now c.loop-item.item-index past)) c.loop-item.invariant in
    stays _ _ _ _ (all_keeps_fields_around _ _ _ _ _ _ _ all ∙ ap (λ (n : Names). n.fields_around) c.enter-block.ensures.names) c.enter-block.ensures.fields_around

pub sequence-returns : goal.sequence-returns
sequence-returns t c =
    let past : length c.args.items.now ≤ c.loop-item.item-index = search rules in
    let all = finished c.loop-item.trees.items _ _ _ _ (ap (check_all (names_of c.loop-item.self.scope) c.loop-item.line (ty_view c.loop-item.before)) (phrases_behind c.args.items.now c.loop-item.item-index past)) c.loop-item.invariant in
    made _ _ _ _ c.block_of.result (given _ _ _ _ _ (ap (λ n. check_all n c.args.line Void (phrases_in c.args.items.now)) (sym c.enter-block.ensures.names) ∙ all) ∙ ap (λ n. Gives (node.Block None (nodes_in c.loop-item.trees.items)) (ty_view c.loop-item.before) n) (sym (c.leave.ensures (names_of c.args.self.now.scope) (all_keeps_around _ _ _ _ _ _ _ all ∙ ap (λ (n : Names). n.around) c.enter-block.ensures.names) (all_keeps_fields_around _ _ _ _ _ _ _ all ∙ ap (λ (n : Names). n.fields_around) c.enter-block.ensures.names) c.enter-block.ensures.names_around c.enter-block.ensures.fields_around))) c.block_of.ensures

pub named_literal-returns-in_err-e : goal.named_literal-returns-in_err-e
named_literal-returns-in_err-e t c = exits c.from_residual-in_err-e.result _ c.in_err-e.field-0.0 _ c.from_residual-in_err-e.ensures.1 (fails_as _ _ _ (ap (λ b. if b then Refuses (Twice c.args.name.now.line) else (check_literal (declare_local (names_of c.args.self.now.scope) c.args.name.now.name (types.Proc (types_of (groups_in c.args.literal.params.now)) (ty_view c.args.literal.gives.now)) c.args.variable) (literal_of c.args.literal) >>= (λ e t last. Gives (node.Let (Plain (length (names_of c.args.self.now.scope).all)) t e) Void last))) (ap (is_declared (names_of c.args.self.now.scope)) (sym c.as_slice.ensures) ∙ sym c.declares.ensures ∙ c.if-declares.false)) (fails_first _ _ (λ e t last. Gives (node.Let (Plain (length (names_of c.args.self.now.scope).all)) t e) Void last) (subst (λ n. IsFault (check_literal n (literal_of c.args.literal)) c.in_err-e.field-0.0) (c.in_ok-number.ensures.names ∙ ap (λ nm. declare_local (names_of c.args.self.now.scope) nm (ty_view c.in_ok-ty.ty) c.args.variable) c.as_slice-name.ensures ∙ ap (λ k. declare_local (names_of c.args.self.now.scope) c.args.name.now.name k c.args.variable) c.in_ok-ty.ensures) c.in_err-e.ensures)))

pub named_literal-returns : goal.named_literal-returns
named_literal-returns t c = made _ _ _ _ c.new.result ((ap (λ b. if b then Refuses (Twice c.args.name.now.line) else (check_literal (declare_local (names_of c.args.self.now.scope) c.args.name.now.name (types.Proc (types_of (groups_in c.args.literal.params.now)) (ty_view c.args.literal.gives.now)) c.args.variable) (literal_of c.args.literal) >>= (λ e t last. Gives (node.Let (Plain (length (names_of c.args.self.now.scope).all)) t e) Void last))) (ap (is_declared (names_of c.args.self.now.scope)) (sym c.as_slice.ensures) ∙ sym c.declares.ensures ∙ c.if-declares.false)) ∙ given _ _ _ _ (λ e t last. Gives (node.Let (Plain (length (names_of c.args.self.now.scope).all)) t e) Void last) (subst (λ n. check_literal n (literal_of c.args.literal) ≡ Gives (node_of c.in_ok-e.field-0.tree) (ty_view c.in_ok-e.field-0.ty) (names_of c.literal.new.self.scope)) (c.in_ok-number.ensures.names ∙ ap (λ nm. declare_local (names_of c.args.self.now.scope) nm (ty_view c.in_ok-ty.ty) c.args.variable) c.as_slice-name.ensures ∙ ap (λ k. declare_local (names_of c.args.self.now.scope) c.args.name.now.name k c.args.variable) c.in_ok-ty.ensures) c.in_ok-e.ensures)) (remade _ _ _ c.new.result (ap (λ k. node.Let (Plain k) (ty_view c.in_ok-e.field-0.ty) (node_of c.in_ok-e.field-0.tree)) c.in_ok-number.ensures.number) c.new.ensures)

pub named_literal-literal-requires : goal.named_literal-literal-requires
named_literal-literal-requires t c = (omega (arith, c.decreases), tt)

pub literal-returns-in_err-params : goal.literal-returns-in_err-params
literal-returns-in_err-params t c = exits c.from_residual.result _ c.in_err-params.field-0.0 _ c.from_residual.ensures.1 (fails_first _ _ (λ made t own. wants (ty_view c.args.literal.gives.now) c.args.literal.s.now.line (check own (phrase_of c.args.literal.s.now)) >>= λ s t last. Gives (node.Proc (node.body made (ty_view c.args.literal.gives.now) s None c.args.literal.line)) (types.Proc (types_of (groups_in c.args.literal.params.now)) (ty_view c.args.literal.gives.now)) (behind (names_of c.args.self.now.scope) last)) (subst (λ n. IsFault (opened n (literal_of c.args.literal)) c.in_err-params.field-0.0) c.enter-block.ensures.names c.in_err-params.ensures))

pub literal-returns-in_err-s : goal.literal-returns-in_err-s
literal-returns-in_err-s t c = exits c.from_residual-in_err-s.result _ c.in_err-s.field-0.0 _ c.from_residual-in_err-s.ensures.1 (fails_next _ _ _ _ (λ made t own. wants (ty_view c.args.literal.gives.now) c.args.literal.s.now.line (check own (phrase_of c.args.literal.s.now)) >>= λ s t last. Gives (node.Proc (node.body made (ty_view c.args.literal.gives.now) s None c.args.literal.line)) (types.Proc (types_of (groups_in c.args.literal.params.now)) (ty_view c.args.literal.gives.now)) (behind (names_of c.args.self.now.scope) last)) _ (subst (λ n. opened n (literal_of c.args.literal) ≡ Gives (params_of c.in_ok-params.field-0.places.items) Void (names_of c.open.new.scope)) c.enter-block.ensures.names c.in_ok-params.ensures.1) (fails_first _ _ _ (fails_met _ _ _ (ap this c.in_ok-copy.ensures) c.in_err-s.ensures)))

pub literal-leave-requires-clause-names : goal.literal-leave-requires-clause-names
literal-leave-requires-clause-names t c = stays _ _ _ _ (keeps_around _ (phrase_of c.args.literal.s.now) _ _ _ (unpassed _ _ _ _ _ _ _ (as_met _ _ _ _ _ (ap this c.in_ok-copy.ensures) c.in_ok-s.ensures)) ∙ params_keep_around (inside (names_of c.args.self.now.scope)) [] (groups_in c.args.literal.params.now) _ _ _ (few_opened (inside (names_of c.args.self.now.scope)) (literal_of c.args.literal) _ _ _ (subst (λ n. opened n (literal_of c.args.literal) ≡ Gives (params_of c.in_ok-params.field-0.places.items) Void (names_of c.open.new.scope)) c.enter-block.ensures.names c.in_ok-params.ensures.1))) c.enter-block.ensures.names_around

pub literal-leave-requires-clause-fields : goal.literal-leave-requires-clause-fields
literal-leave-requires-clause-fields t c = stays _ _ _ _ (keeps_fields_around _ (phrase_of c.args.literal.s.now) _ _ _ (unpassed _ _ _ _ _ _ _ (as_met _ _ _ _ _ (ap this c.in_ok-copy.ensures) c.in_ok-s.ensures)) ∙ params_keep_fields_around (inside (names_of c.args.self.now.scope)) [] (groups_in c.args.literal.params.now) _ _ _ (few_opened (inside (names_of c.args.self.now.scope)) (literal_of c.args.literal) _ _ _ (subst (λ n. opened n (literal_of c.args.literal) ≡ Gives (params_of c.in_ok-params.field-0.places.items) Void (names_of c.open.new.scope)) c.enter-block.ensures.names c.in_ok-params.ensures.1))) c.enter-block.ensures.fields_around

pub literal-returns : goal.literal-returns
literal-returns t c = made _ _ _ _ c.procedure.result (given _ _ _ _ (λ made t own. wants (ty_view c.args.literal.gives.now) c.args.literal.s.now.line (check own (phrase_of c.args.literal.s.now)) >>= λ s t last. Gives (node.Proc (node.body made (ty_view c.args.literal.gives.now) s None c.args.literal.line)) (types.Proc (types_of (groups_in c.args.literal.params.now)) (ty_view c.args.literal.gives.now)) (behind (names_of c.args.self.now.scope) last)) (subst (λ n. opened n (literal_of c.args.literal) ≡ Gives (params_of c.in_ok-params.field-0.places.items) Void (names_of c.open.new.scope)) c.enter-block.ensures.names c.in_ok-params.ensures.1) ∙ given _ _ _ _ _ (as_met _ _ _ _ _ (ap this c.in_ok-copy.ensures) c.in_ok-s.ensures) ∙ ap (λ n. Gives (node.Proc (node.body (params_of c.in_ok-params.field-0.places.items) (ty_view c.args.literal.gives.now) (node_of c.in_ok-s.field-0.tree) None c.args.literal.line)) (types.Proc (types_of (groups_in c.args.literal.params.now)) (ty_view c.args.literal.gives.now)) n) (sym (c.leave.ensures (names_of c.args.self.now.scope) (keeps_around _ (phrase_of c.args.literal.s.now) _ _ _ (unpassed _ _ _ _ _ _ _ (as_met _ _ _ _ _ (ap this c.in_ok-copy.ensures) c.in_ok-s.ensures)) ∙ params_keep_around (inside (names_of c.args.self.now.scope)) [] (groups_in c.args.literal.params.now) _ _ _ (few_opened (inside (names_of c.args.self.now.scope)) (literal_of c.args.literal) _ _ _ (subst (λ n. opened n (literal_of c.args.literal) ≡ Gives (params_of c.in_ok-params.field-0.places.items) Void (names_of c.open.new.scope)) c.enter-block.ensures.names c.in_ok-params.ensures.1))) (keeps_fields_around _ (phrase_of c.args.literal.s.now) _ _ _ (unpassed _ _ _ _ _ _ _ (as_met _ _ _ _ _ (ap this c.in_ok-copy.ensures) c.in_ok-s.ensures)) ∙ params_keep_fields_around (inside (names_of c.args.self.now.scope)) [] (groups_in c.args.literal.params.now) _ _ _ (few_opened (inside (names_of c.args.self.now.scope)) (literal_of c.args.literal) _ _ _ (subst (λ n. opened n (literal_of c.args.literal) ≡ Gives (params_of c.in_ok-params.field-0.places.items) Void (names_of c.open.new.scope)) c.enter-block.ensures.names c.in_ok-params.ensures.1))) c.enter-block.ensures.names_around c.enter-block.ensures.fields_around))) (remade_both _ _ _ _ c.procedure.result refl (ap (λ gs. types.Proc (types_of gs) (ty_view c.args.literal.gives.now)) (ap groups_of c.as_slice.ensures.value ∙ c.in_ok-params.ensures.0)) c.procedure.ensures)

pub literal-part-requires : goal.literal-part-requires
literal-part-requires t c = (omega (arith, c.decreases), tt)

pub chain-returns-in_err-chain : goal.chain-returns-in_err-chain
chain-returns-in_err-chain t c = exits c.from_residual-in_err-chain.result _ c.in_err-chain.field-0.0 _ c.from_residual-in_err-chain.ensures.1 (fails_as _ _ _ (sym (c.in_ok-links.ensures.chain (names_of c.args.self.now.scope))) (fails_links c.in_ok-links.field-0.links.items _ _ c.in_err-chain.ensures))

pub chain-link-requires : goal.chain-link-requires
chain-link-requires t c =
    let gathered = c.in_ok-links.ensures.lighter in
    let left = c.loop-link.invariant.lighter in
    let popped : weight_links c.loop-link.links.items ≡ weight_links c.pop.new.self.items + weight_link c.in-Some.link = ap weight_links c.in-Some.ensures.items ∙ weight_links-push c.pop.new.self.items c.in-Some.link in
    (omega (arith, c.decreases, gathered, left, popped), tt)

pub chain-returns-in_err-chain-2 : goal.chain-returns-in_err-chain-2
chain-returns-in_err-chain-2 t c =
    let here : check_links c.pop.new.self.items (check_link c.in-Some.link (Gives (node_of c.loop-link.chain.tree) (ty_view c.loop-link.chain.ty) (names_of c.loop-link.self.scope))) ≡ check_links c.loop-link.links.items (Gives (node_of c.loop-link.chain.tree) (ty_view c.loop-link.chain.ty) (names_of c.loop-link.self.scope)) = sym (check_links-push c.pop.new.self.items c.in-Some.link (Gives (node_of c.loop-link.chain.tree) (ty_view c.loop-link.chain.ty) (names_of c.loop-link.self.scope))) ∙ ap (λ ls. check_links ls (Gives (node_of c.loop-link.chain.tree) (ty_view c.loop-link.chain.ty) (names_of c.loop-link.self.scope))) (sym c.in-Some.ensures.items) in
    exits c.from_residual-in_err-chain-2.result _ c.in_err-chain-2.field-0.0 _ c.from_residual-in_err-chain-2.ensures.1 (fails_as _ _ _ (sym (here ∙ c.loop-link.invariant.chain ∙ ap (check_links c.in_ok-links.field-0.links.items) (sym c.in_ok-chain.ensures) ∙ c.in_ok-links.ensures.chain (names_of c.args.self.now.scope))) (fails_links c.pop.new.self.items _ _ c.in_err-chain-2.ensures))

pub chain-loop-link-preserved : goal.chain-loop-link-preserved
chain-loop-link-preserved t c =
    let here : check_links c.pop.new.self.items (check_link c.in-Some.link (Gives (node_of c.loop-link.chain.tree) (ty_view c.loop-link.chain.ty) (names_of c.loop-link.self.scope))) ≡ check_links c.loop-link.links.items (Gives (node_of c.loop-link.chain.tree) (ty_view c.loop-link.chain.ty) (names_of c.loop-link.self.scope)) = sym (check_links-push c.pop.new.self.items c.in-Some.link (Gives (node_of c.loop-link.chain.tree) (ty_view c.loop-link.chain.ty) (names_of c.loop-link.self.scope))) ∙ ap (λ ls. check_links ls (Gives (node_of c.loop-link.chain.tree) (ty_view c.loop-link.chain.ty) (names_of c.loop-link.self.scope))) (sym c.in-Some.ensures.items) in
    let less : weight_links c.loop-link.links.items ≡ weight_links c.pop.new.self.items + weight_link c.in-Some.link = ap weight_links c.in-Some.ensures.items ∙ weight_links-push c.pop.new.self.items c.in-Some.link in
    record {
      chain = ap (check_links c.pop.new.self.items) (sym c.in_ok-chain-2.ensures) ∙ here ∙ c.loop-link.invariant.chain;
      lighter = omega (arith, less, c.loop-link.invariant.lighter);
    }

pub link-returns-in-Apply : goal.link-returns-in-Apply
link-returns-in-Apply t c = leads _ _ _ _ (ap (λ l. check_link l (Gives (node_of c.args.left.tree) (ty_view c.args.left.ty) (names_of c.args.self.now.scope))) c.in-Apply.is ∙ given _ _ _ _ _ refl) c.apply.ensures

pub link-returns-in_err-left-in-Operator : goal.link-returns-in_err-left-in-Operator
link-returns-in_err-left-in-Operator t c = exits c.from_residual.result _ c.in_err-left-in-Operator.field-0.0 _ c.from_residual.ensures.1 (fails_as _ _ _ (ap (λ l. check_link l (Gives (node_of c.args.left.tree) (ty_view c.args.left.ty) (names_of c.args.self.now.scope))) c.in-Operator.is) (fails_first _ _ _ (fails_as_wanted _ _ _ c.ty.ensures (c.in_err-left-in-Operator.ensures c.args.self.now.scope))))

pub link-returns-in_ok-left-in-Operator : goal.link-returns-in_ok-left-in-Operator
link-returns-in_ok-left-in-Operator t c = leads _ _ _ _ (ap (λ l. check_link l (Gives (node_of c.args.left.tree) (ty_view c.args.left.ty) (names_of c.args.self.now.scope))) c.in-Operator.is ∙ given _ _ _ _ _ (as_wanted _ _ _ _ c.ty.ensures (c.in_ok-left-in-Operator.ensures c.args.self.now.scope))) c.single.ensures

pub link-returns-in_err-s-in-Part : goal.link-returns-in_err-s-in-Part
link-returns-in_err-s-in-Part t c = exits c.from_residual-in_err-s-in-Part.result _ c.in_err-s-in-Part.field-0.0 _ c.from_residual-in_err-s-in-Part.ensures.1 (fails_as _ _ _ (ap (λ l. check_link l (Gives (node_of c.args.left.tree) (ty_view c.args.left.ty) (names_of c.args.self.now.scope))) c.in-Part.is) (fails_first _ _ _ (c.in_err-s-in-Part.ensures c.args.self.now.scope)))

pub link-returns-in_ok-s-in-Part : goal.link-returns-in_ok-s-in-Part
link-returns-in_ok-s-in-Part t c = leads _ _ _ _ (ap (λ l. check_link l (Gives (node_of c.args.left.tree) (ty_view c.args.left.ty) (names_of c.args.self.now.scope))) c.in-Part.is ∙ given _ _ _ _ _ (c.in_ok-s-in-Part.ensures c.args.self.now.scope)) c.double.ensures

pub link-single-requires : goal.link-single-requires
link-single-requires t c =
    let whole = ap weight_link c.in-Operator.is in
    (omega (arith, c.decreases, whole), tt)

pub link-apply-requires : goal.link-apply-requires
link-apply-requires t c =
    let whole = ap weight_link c.in-Apply.is in
    (omega (arith, c.decreases, whole), tt)

pub link-double-requires : goal.link-double-requires
link-double-requires t c =
    let whole = ap weight_link c.in-Part.is in
    (omega (arith, c.decreases, whole), tt)

pub name_applied-apply-requires : goal.name_applied-apply-requires
name_applied-apply-requires t c = (omega (arith, c.decreases), tt)

pub name_applied-with_args-requires : goal.name_applied-with_args-requires
name_applied-with_args-requires t c = (omega (arith, c.decreases), tt)

pub name_applied-with_args-requires-in-Plain : goal.name_applied-with_args-requires-in-Plain
name_applied-with_args-requires-in-Plain t c = (omega (arith, c.decreases), tt)

pub name_applied-returns-then-args-ne2 : goal.name_applied-returns-then-args-ne2
name_applied-returns-then-args-ne2 t c =
    let meant : option_map meaning_of c.in_ok-meaning.field-0 ≡ Some (library (scan c.in-Scan.text)) = search rules in
    is_fault _ _ (NotApplicable c.args.line) refl (ap (λ m. name_applied (names_of c.args.self.now.scope) c.args.line c.args.name_line m (phrases_in c.args.args.now) (checkers (phrases_in c.args.args.now))) (sym c.in_ok-meaning.ensures ∙ meant) ∙ not_two (names_of c.args.self.now.scope) c.args.line c.in-Scan.text c.args.args.now c.if-args-ne2.true)

pub name_applied-returns-else-args-ne2 : goal.name_applied-returns-else-args-ne2
name_applied-returns-else-args-ne2 t c =
    let meant : option_map meaning_of c.in_ok-meaning.field-0 ≡ Some (library (scan c.in-Scan.text)) = search rules in
    leads _ _ _ _ (ap (λ m. name_applied (names_of c.args.self.now.scope) c.args.line c.args.name_line m (phrases_in c.args.args.now) (checkers (phrases_in c.args.args.now))) (sym c.in_ok-meaning.ensures ∙ meant) ∙ ap (λ as_. scan_applied (names_of c.args.self.now.scope) c.args.line c.in-Scan.text (checkers (phrases_in as_))) (two_of _ _ _ c.if-args-ne2.false c.index-args-0.is c.index-args-1.is)) c.double.ensures

pub name_applied-double-requires : goal.name_applied-double-requires
name_applied-double-requires t c =
    let light : weight_all (phrases_in c.args.args.now) ≡ weight (phrase_of c.index-args-0.result) + (weight (phrase_of c.index-args-1.result) + 0) = ap (λ as_. weight_all (phrases_in as_)) (two_of _ _ _ c.if-args-ne2.false c.index-args-0.is c.index-args-1.is) in
    (omega (arith, c.decreases, light), tt)

pub apply-returns-in-Proc : goal.apply-returns-in-Proc
apply-returns-in-Proc t c =
    let cs = checkers (phrases_in c.args.args.now) in
    leads _ _ _ _ (ap (λ t. value_applied (names_of c.args.self.now.scope) c.args.line (node_of c.args.f.tree) t (phrases_in c.args.args.now) cs) (ap ty_view c.in-Proc.is ∙ ty_view-Proc c.in-Proc.signature)
    ∙ ap (λ (s : Signature). with_args (names_of c.args.self.now.scope) c.args.line (ty_views (items_of s.parameters)) cs (λ args. node.Call (node_of c.args.f.tree) args c.args.line) (ty_view c.in-Proc.signature.value.gives)) (sym c.deref.ensures)
    ∙ ap (λ ps. with_args (names_of c.args.self.now.scope) c.args.line (ty_views ps) cs (λ args. node.Call (node_of c.args.f.tree) args c.args.line) (ty_view c.in-Proc.signature.value.gives)) (sym c.as_slice-parameters.ensures)
    ∙ ap (λ (s : Signature). with_args (names_of c.args.self.now.scope) c.args.line (ty_views c.as_slice-parameters.result.now) cs (λ args. node.Call (node_of c.args.f.tree) args c.args.line) (ty_view s.gives)) (sym c.deref-in-Proc.ensures)) c.with_args.ensures

pub apply-with_args-requires : goal.apply-with_args-requires
apply-with_args-requires t c = (omega (arith, c.decreases), tt)

pub apply-single-requires : goal.apply-single-requires
apply-single-requires t c =
    let below = c.loop-arg-test.true in
    let light : weight (phrase_of c.arg-item.result) ≤ weight_all (phrases_in c.args.args.now) = subst (λ r. weight (phrase_of r) ≤ weight_all (phrases_in c.args.args.now)) (sym c.arg-item.is) (weight_at c.args.args.now c.loop-arg.arg-index _ below) in
    (omega (arith, c.decreases, light), tt)

pub apply-returns-in_err-element-in-Vector : goal.apply-returns-in_err-element-in-Vector
apply-returns-in_err-element-in-Vector t c =
    let below = c.loop-arg-test.true in
    let cut = phrases_from c.args.args.now c.loop-arg.arg-index c.arg-item.result below c.arg-item.is in
    exits c.from_residual.result _ c.in_err-element-in-Vector.field-0.0 _ c.from_residual.ensures.1 (fails_as _ _ _ (ap (λ t. value_applied (names_of c.args.self.now.scope) c.args.line (node_of c.args.f.tree) t (phrases_in c.args.args.now) (checkers (phrases_in c.args.args.now))) (ap ty_view c.in-Vector.is) ∙ some_subscripts (names_of c.args.self.now.scope) c.args.line (node_of c.args.f.tree) _ c.args.args.now _ c.is_empty.ensures c.if-is_empty.false ∙ ap (λ t. elements (names_of c.args.self.now.scope) c.args.line (node_of c.args.f.tree) t (checkers (phrases_in c.args.args.now))) (sym (ap ty_view c.in-Vector.is)) ∙ sym c.loop-arg.invariant ∙ ap (λ ps. elements (names_of c.loop-arg.self.scope) c.args.line (node_of c.loop-arg.v.tree) (ty_view c.loop-arg.v.ty) (checkers ps)) cut ∙ elements_are _ _ _ _ _ _) (fails_first _ _ _ (c.in_err-element-in-Vector.ensures (names_of c.loop-arg.self.scope) (phrase_of c.arg-item.result))))

pub apply-returns-in_err-v-in-Vector : goal.apply-returns-in_err-v-in-Vector
apply-returns-in_err-v-in-Vector t c =
    let below = c.loop-arg-test.true in
    let cut = phrases_from c.args.args.now c.loop-arg.arg-index c.arg-item.result below c.arg-item.is in
    exits c.from_residual-in_err-v-in-Vector.result _ c.in_err-v-in-Vector.field-0.0 _ c.from_residual-in_err-v-in-Vector.ensures.1 (fails_as _ _ _ (ap (λ t. value_applied (names_of c.args.self.now.scope) c.args.line (node_of c.args.f.tree) t (phrases_in c.args.args.now) (checkers (phrases_in c.args.args.now))) (ap ty_view c.in-Vector.is) ∙ some_subscripts (names_of c.args.self.now.scope) c.args.line (node_of c.args.f.tree) _ c.args.args.now _ c.is_empty.ensures c.if-is_empty.false ∙ ap (λ t. elements (names_of c.args.self.now.scope) c.args.line (node_of c.args.f.tree) t (checkers (phrases_in c.args.args.now))) (sym (ap ty_view c.in-Vector.is)) ∙ sym c.loop-arg.invariant ∙ ap (λ ps. elements (names_of c.loop-arg.self.scope) c.args.line (node_of c.loop-arg.v.tree) (ty_view c.loop-arg.v.ty) (checkers ps)) cut ∙ elements_are _ _ _ _ _ _) (fails_first _ _ _ (fails_as _ _ _ (c.in_ok-element-in-Vector.ensures (names_of c.loop-arg.self.scope) (phrase_of c.arg-item.result)) c.in_err-v-in-Vector.ensures)))

pub apply-loop-arg-init : goal.apply-loop-arg-init
apply-loop-arg-init t c = refl

pub apply-loop-arg-smaller : goal.apply-loop-arg-smaller
apply-loop-arg-smaller t c =
    let below = c.loop-arg-test.true in
    omega (arith, below)

pub apply-loop-arg-preserved : goal.apply-loop-arg-preserved
apply-loop-arg-preserved t c =
    let below = c.loop-arg-test.true in
    let cut = phrases_from c.args.args.now c.loop-arg.arg-index c.arg-item.result below c.arg-item.is in
    sym (ap (λ ps. elements (names_of c.loop-arg.self.scope) c.args.line (node_of c.loop-arg.v.tree) (ty_view c.loop-arg.v.ty) (checkers ps)) cut ∙ elements_are _ _ _ _ _ _ ∙ given _ _ _ _ _ (c.in_ok-element-in-Vector.ensures (names_of c.loop-arg.self.scope) (phrase_of c.arg-item.result) ∙ c.in_ok-v-in-Vector.ensures)) ∙ c.loop-arg.invariant

pub apply-returns-after-loop-arg : goal.apply-returns-after-loop-arg
apply-returns-after-loop-arg t c =
    let past : length c.args.args.now ≤ c.loop-arg.arg-index = search rules in
    ap (λ t. value_applied (names_of c.args.self.now.scope) c.args.line (node_of c.args.f.tree) t (phrases_in c.args.args.now) (checkers (phrases_in c.args.args.now))) (ap ty_view c.in-Vector.is) ∙ some_subscripts (names_of c.args.self.now.scope) c.args.line (node_of c.args.f.tree) _ c.args.args.now _ c.is_empty.ensures c.if-is_empty.false ∙ ap (λ t. elements (names_of c.args.self.now.scope) c.args.line (node_of c.args.f.tree) t (checkers (phrases_in c.args.args.now))) (sym (ap ty_view c.in-Vector.is)) ∙ sym c.loop-arg.invariant ∙ ap (λ ps. elements (names_of c.loop-arg.self.scope) c.args.line (node_of c.loop-arg.v.tree) (ty_view c.loop-arg.v.ty) (checkers ps)) (phrases_behind c.args.args.now c.loop-arg.arg-index past)

pub with_args-returns-then-types-args : goal.with_args-returns-then-types-args
with_args-returns-then-types-args t c = is_fault _ _ (NotApplicable c.args.line) refl (other_number (names_of c.args.self.now.scope) c.args.line c.args.types.now c.args.args.now (head_node c.args.head c.args.line) (ty_view c.args.gives.now) c.if-types-args.true)

pub with_args-loop-i-init : goal.with_args-loop-i-init
with_args-loop-i-init t c = ap (λ ts. after (after_nodes ts) (check_args (names_of c.args.self.now.scope) (ty_views c.args.types.now) (checkers (phrases_in c.args.args.now)))) c.new-trees.ensures.items ∙ after_nothing _ _ (λ ts. refl)

pub with_args-loop-i-smaller : goal.with_args-loop-i-smaller
with_args-loop-i-smaller t c =
    let below = c.loop-i-test.true in
    omega (arith, below)

pub with_args-clause-requires : goal.with_args-clause-requires
with_args-clause-requires t c =
    let below = c.loop-i-test.true in
    let light : weight (phrase_of c.index-args-i.result) ≤ weight_all (phrases_in c.args.args.now) = subst (λ r. weight (phrase_of r) ≤ weight_all (phrases_in c.args.args.now)) (sym c.index-args-i.is) (weight_at c.args.args.now c.loop-i.i _ below) in
    (omega (arith, c.decreases, light), tt)

pub with_args-returns-in_err-clause : goal.with_args-returns-in_err-clause
with_args-returns-in_err-clause t c =
    let below = c.loop-i-test.true in
    let below_types : c.loop-i.i < length c.args.types.now = let same = c.if-types-args.false in omega (arith, below, same) in
    let cut = phrases_from c.args.args.now c.loop-i.i c.index-args-i.result below c.index-args-i.is in
    let types_cut = types_from c.args.types.now c.loop-i.i c.index-types-i.result below_types c.index-types-i.is in
    let one = ap (λ ps. check_args (names_of c.loop-i.self.scope) (ty_views (drop c.loop-i.i c.args.types.now)) (checkers ps)) cut ∙ ap (λ ts. check_args (names_of c.loop-i.self.scope) ts (checkers (form.more (phrase_of c.index-args-i.result) (phrases_in (drop (c.loop-i.i + 1) c.args.args.now))))) types_cut in
    exits c.from_residual.result _ c.in_err-clause.field-0.0 _ c.from_residual.ensures.1 (fails_as _ _ _ (same_number (names_of c.args.self.now.scope) c.args.line c.args.types.now c.args.args.now (head_node c.args.head c.args.line) (ty_view c.args.gives.now) c.if-types-args.false) (fails_first _ _ _ (fails_after _ _ _ _ c.loop-i.invariant (fails_as _ _ _ one (fails_first _ _ _ (fails_test _ _ _ _ _ c.in_err-clause.ensures))))))

pub with_args-returns-in_err-push_typed : goal.with_args-returns-in_err-push_typed
with_args-returns-in_err-push_typed t c =
    let below = c.loop-i-test.true in
    let below_types : c.loop-i.i < length c.args.types.now = let same = c.if-types-args.false in omega (arith, below, same) in
    let cut = phrases_from c.args.args.now c.loop-i.i c.index-args-i.result below c.index-args-i.is in
    let types_cut = types_from c.args.types.now c.loop-i.i c.index-types-i.result below_types c.index-types-i.is in
    let one = ap (λ ps. check_args (names_of c.loop-i.self.scope) (ty_views (drop c.loop-i.i c.args.types.now)) (checkers ps)) cut ∙ ap (λ ts. check_args (names_of c.loop-i.self.scope) ts (checkers (form.more (phrase_of c.index-args-i.result) (phrases_in (drop (c.loop-i.i + 1) c.args.args.now))))) types_cut in
    exits c.from_residual-in_err-push_typed.result _ c.in_err-push_typed.field-0.0 _ c.from_residual-in_err-push_typed.ensures.1 (fails_as _ _ _ (same_number (names_of c.args.self.now.scope) c.args.line c.args.types.now c.args.args.now (head_node c.args.head c.args.line) (ty_view c.args.gives.now) c.if-types-args.false) (fails_first _ _ _ (fails_after _ _ _ _ c.loop-i.invariant (fails_as _ _ _ one (fails_first _ _ _ (fails_as _ _ _ (ap (wants (ty_view c.index-types-i.result) c.index-args-i.result.line) c.in_ok-clause.ensures) (c.in_err-push_typed.ensures c.clause.new.self.scope)))))))

pub with_args-loop-i-preserved : goal.with_args-loop-i-preserved
with_args-loop-i-preserved t c =
    let below = c.loop-i-test.true in
    let below_types : c.loop-i.i < length c.args.types.now = let same = c.if-types-args.false in omega (arith, below, same) in
    let cut = phrases_from c.args.args.now c.loop-i.i c.index-args-i.result below c.index-args-i.is in
    let types_cut = types_from c.args.types.now c.loop-i.i c.index-types-i.result below_types c.index-types-i.is in
    let one = ap (λ ps. check_args (names_of c.loop-i.self.scope) (ty_views (drop c.loop-i.i c.args.types.now)) (checkers ps)) cut ∙ ap (λ ts. check_args (names_of c.loop-i.self.scope) ts (checkers (form.more (phrase_of c.index-args-i.result) (phrases_in (drop (c.loop-i.i + 1) c.args.args.now))))) types_cut in
    pushed c.loop-i.trees.items _ (c.in_ok-push_typed.ensures c.clause.new.self.scope).0 _ _ _ (c.in_ok-push_typed.ensures c.clause.new.self.scope).1 (one ∙ args_step _ _ (ty_view c.index-types-i.result) _ (ty_views (drop (c.loop-i.i + 1) c.args.types.now)) _ (phrase_of c.index-args-i.result) (phrases_in (drop (c.loop-i.i + 1) c.args.args.now)) (ap (wants (ty_view c.index-types-i.result) c.index-args-i.result.line) c.in_ok-clause.ensures ∙ (c.in_ok-push_typed.ensures c.clause.new.self.scope).2)) c.loop-i.invariant

pub with_args-returns : goal.with_args-returns
with_args-returns t c =
    let past : length c.args.args.now ≤ c.loop-i.i = search rules in
    let all = finished c.loop-i.trees.items _ _ _ _ (ap (λ ps. check_args (names_of c.loop-i.self.scope) (ty_views (drop c.loop-i.i c.args.types.now)) (checkers ps)) (phrases_behind c.args.args.now c.loop-i.i past) ∙ no_args _ _) c.loop-i.invariant in
    made _ _ _ _ c.clause-2.result (same_number (names_of c.args.self.now.scope) c.args.line c.args.types.now c.args.args.now (head_node c.args.head c.args.line) (ty_view c.args.gives.now) c.if-types-args.false ∙ given _ _ _ _ _ all) (remade_both _ _ _ _ c.clause-2.result refl c.in_ok-copy.ensures c.clause-2.ensures)
