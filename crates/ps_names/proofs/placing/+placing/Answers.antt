use Rattle.std.proofs.Common.{rules, ◌≡◌, ◌<◌, ◌≤◌, ◌∙◌, List, [], ◌∷◌, true, length, length-set, take, OnOk, ap, sym, refl, subst, arith}
use Rattle.std.specs.declared.alloc.Global.{Global}
use Rattle.std.specs.declared.boxed.Box.{Box}
use Rattle.ps_program.specs.declared.form.Loop.{Loop}
use Rattle.ps_program.specs.declared.body.Body.{Body}
use Rattle.std.proofs.lemmas.List.{take_all}
use Rattle.std.specs.Rc.{rc_value}
use Rattle.ps_base.specs.List.{items_of}
use Rattle.ps_base.specs.TyView.{ty_view}
use Rattle.ps_type_text.specs.Members.{fields_of}
use Rattle.ps_program.specs.declared.body.Param.{Param}
use Rattle.ps_program.specs.declared.form.Tree.{Tree}
use Rattle.ps_program.specs.declared.form.TreeForm.{TreeForm, out-TreeForm}
use denote.Hole.Carrier
use Rattle.ps_program.specs.declared.form.TreeForm.TheVariants as code
use Rattle.ps_program.specs.declared.form.Arm.{out-Arm}
use Rattle.ps_program.specs.Node.{Node, Nodes, BodyNode, arm}
use Rattle.ps_program.specs.Node as node
use Rattle.ps_program.specs.NodeView.{node_of, node_of_form, nodes_in, params_of, body_of}
use Rattle.ps_program.specs.Parts.{operand, branch}
use Rattle.ps_program.specs.inside.Listed.{parts_arms}
use Rattle.ps_program.specs.inside.PartsView.{arms_in}
use Rattle.ps_program.specs.inside.Weights.{weight, weight_all, weight_arms}
use Rattle.ps_program.proofs.NodeLists.{arm_of-parts, block_is, make_is, lib_is, elems_is, call_is, case_is}
use Rattle.ps_program.proofs.NodeSteps.{weight_at, weight_arm_at}
use Rattle.ps_program.proofs.PartLemmas.{weight_is, weight_of_all, weight_of_arms, weight_parts-append}
use Rattle.ps_placer.specs.ps_typing.Mentions.{numbers}
use Rattle.ps_placer.specs.ps_typing.Placing.{place_of, scope_text, inside, declared}
use Rattle.ps_placer.specs.ps_typing.Placed.{◌>>=◌, then_give, placed, placed_all, placed_arms, placed_literal, with_params}
use Rattle.ps_placer.specs.inside.Marks.{marks_of, is_kept}
use Rattle.ps_placer.specs.inside.Standing.{Stands, Does, Enters, chosen}
use Rattle.ps_names.specs.inside.Chains.{is_link, placed_parts, weight_placed, weight_arm, Rises}
use Rattle.ps_names.specs.inside.Clauses.{Pair, Triple, WithAll, Case, Block, Named, Scan, pair, with_all, with_arms, placed_arm}
use Rattle.ps_placer.specs.inside.Params.{text_in}
use Rattle.ps_placer.proofs.Steps.{same_item, same_rest}
use Rattle.ps_names.proofs.Doing.{does_made, does_both, does_same, on_ok, tree_more, arm_more, arm_made, arm_kept}
use Rattle.ps_names.proofs.Forming.{formed_as, loop_does, body_does, loop_falls, literal_falls, tree_does, pair_does, triple_does, all_does, with_all_does, case_does, block_does, assigned_does, declared_does, scan_does, at_one, at_two, at_three, formed, formed_to, form_did, tree_did, name_done, assigned_done, declared_done, scan_done, weight_some, tree_falls, pair_falls, triple_falls, all_falls, with_all_falls, case_falls}
use Rattle.ps_names.proofs.Rising.{whole, inward, turns, outward, weight_out, out}
use Rattle.ps_names.proofs.Scoping.{block_done, loop_done, literal_done}
use Rattle.ps_names.proofs.placing.+placing.Goals as goal

pub place_all-loop-i-preserved : goal.place_all-loop-i-preserved
place_all-loop-i-preserved t c =
    let before = c.into_vec-trees.result.items in
    let trees = c.loop-i.trees.items in
    let i = c.loop-i.i in
    let kept = c.loop-i.invariant in
    let below : i < length trees = search (rules, kept.same_length) in
    record {
      same_length = length-set trees i _ ∙ kept.same_length;
      rest = same_rest trees before i _ kept.rest;
      done = tree_more trees before i c.index_mut.result.now c.place_tree.new.tree c.index_mut.result.now _ _ _ below kept.same_length (c.index_mut.ensures.value ∙ same_item trees before i c.index_mut.result.now kept.rest) kept.done c.in_ok-place_tree.ensures;
    }

pub place_all-place_tree-requires : goal.place_all-place_tree-requires
place_all-place_tree-requires t c =
    let before = c.into_vec-trees.result.items in
    let kept = c.loop-i.invariant in
    let below : c.loop-i.i < length before = search (rules, kept.same_length) in
    let light = weight_at before c.loop-i.i c.index_mut.result.now c.index_mut.result.now (c.index_mut.ensures.value ∙ same_item c.loop-i.trees.items before c.loop-i.i c.index_mut.result.now kept.rest) below in
    let whole = ap (λ ts. weight_all (nodes_in ts)) (c.into_vec-trees.ensures ∙ ap items_of c.replace.ensures.value) in
    search (rules, light, whole)

pub place_all-returns : goal.place_all-returns
place_all-returns t c =
    let before = c.into_vec-trees.result.items in
    let trees = c.loop-i.trees.items in
    let i = c.loop-i.i in
    let kept = c.loop-i.invariant in
    let past : length trees ≤ i = search (rules, kept.same_length) in
    let past' : length before ≤ i = search (rules, kept.same_length) in
    let given : items_of c.args.items.now ≡ take i before = sym (take_all i before past' ∙ c.into_vec-trees.ensures ∙ ap items_of c.replace.ensures.value) in
    let made : items_of c.new-3.result ≡ take i trees = c.new-3.ensures ∙ sym (take_all i trees past) in
    does_same _ _ _ _ _ _ (λ around locals. ap (λ ts. placed_all around locals (nodes_in ts)) given) (ap nodes_in made) kept.done

pub place_arm-place_all-requires : goal.place_arm-place_all-requires
place_arm-place_all-requires t c =
    let whole = ap weight_arm (arm_of-parts c.args.arm.now) in search (rules, whole)

pub place_arm-place_tree-requires : goal.place_arm-place_tree-requires
place_arm-place_tree-requires t c =
    let whole = ap weight_arm (arm_of-parts c.args.arm.now) in
    let old = out-Arm c.args.arm.now in
    let same = ap (λ a. weight (node_of a)) (arm_kept c.place_all.new.items old.a) in
    search (rules, whole, same)

pub place_arm-returns : goal.place_arm-returns
place_arm-returns t c =
    let old = out-Arm c.args.arm.now in
    let goes = subst (λ (a : Tree). OnOk c.place_tree.result (Does (λ around locals. placed around locals (node_of a)) c.place_all.new.placer (node_of c.place_tree.new.tree) c.place_tree.new.placer)) (arm_kept c.place_all.new.items old.a) c.place_tree.ensures in
    on_ok c.place_tree.result
    (λ second. does_same _ _ _ _ _ _ (λ around locals. ap (placed_arm around locals) (arm_of-parts c.args.arm.now)) (arm_made c.place_all.new.items old.a c.place_tree.new.tree) (does_both _ _ arm _ _ _ _ _ c.in_ok-place_all.ensures second)) goes

pub place_arms-loop-i-preserved : goal.place_arms-loop-i-preserved
place_arms-loop-i-preserved t c =
    let before = c.into_vec-list.result.items in
    let list = c.loop-i.list.items in
    let i = c.loop-i.i in
    let kept = c.loop-i.invariant in
    let below : i < length list = search (rules, kept.same_length) in
    record {
      same_length = length-set list i _ ∙ kept.same_length;
      rest = same_rest list before i _ kept.rest;
      done = arm_more list before i c.index_mut.result.now c.place_arm.new.arm c.index_mut.result.now _ _ _ below kept.same_length (c.index_mut.ensures.value ∙ same_item list before i c.index_mut.result.now kept.rest) kept.done c.in_ok-place_arm.ensures;
    }

pub place_arms-place_arm-requires : goal.place_arms-place_arm-requires
place_arms-place_arm-requires t c =
    let before = c.into_vec-list.result.items in
    let kept = c.loop-i.invariant in
    let below : c.loop-i.i < length before = search (rules, kept.same_length) in
    let light = weight_arm_at before c.loop-i.i c.index_mut.result.now c.index_mut.result.now (c.index_mut.ensures.value ∙ same_item c.loop-i.list.items before c.loop-i.i c.index_mut.result.now kept.rest) below in
    let one = ap weight_arm (arm_of-parts c.index_mut.result.now) in
    let whole = ap (λ ts. weight_arms (arms_in ts)) (c.into_vec-list.ensures ∙ ap items_of c.replace.ensures.value) in
    search (rules, light, one, whole)

pub place_arms-returns : goal.place_arms-returns
place_arms-returns t c =
    let before = c.into_vec-list.result.items in
    let list = c.loop-i.list.items in
    let i = c.loop-i.i in
    let kept = c.loop-i.invariant in
    let past : length list ≤ i = search (rules, kept.same_length) in
    let past' : length before ≤ i = search (rules, kept.same_length) in
    let given : items_of c.args.arms.now ≡ take i before = sym (take_all i before past' ∙ c.into_vec-list.ensures ∙ ap items_of c.replace.ensures.value) in
    let made : items_of c.new-3.result ≡ take i list = c.new-3.ensures ∙ sym (take_all i list past) in
    does_same _ _ _ _ _ _ (λ around locals. ap (λ ts. placed_arms around locals (arms_in ts)) given) (ap arms_in made) kept.done

pub place_assigned-place_tree-requires : goal.place_assigned-place_tree-requires
place_assigned-place_tree-requires t c =
    (omega (arith, c.decreases), tt)

pub place_assigned-returns : goal.place_assigned-returns
place_assigned-returns t c =
    assigned_done c.args.place.now _ _ _ _ _ c.place_tree.result c.place_of.ensures c.place_tree.ensures

pub place_block-place_all-requires : goal.place_block-place_all-requires
place_block-place_all-requires t c =
    (omega (arith, c.decreases), tt)

pub place_block-returns : goal.place_block-returns
place_block-returns t c =
    let slice = c.as_slice.ensures in
    block_done (nodes_in (items_of c.args.items.now)) (nodes_in (items_of c.place_all.new.items)) c.in_ok-kept.kept.items (text_in c.in_ok-scope.field-0) c.in_ok-outer.outer c.args.placer.now _ _ _ c.leave.result
    (c.in_ok-kept.ensures ∙ ap (λ ts. chosen (is_kept (marks_of c.args.placer.now.survey)) (declared (nodes_in ts))) slice)
    (c.in_ok-scope.ensures ∙ ap (scope_text (fields_of c.args.placer.now.names.items)) c.as_slice-2.ensures.value)
    (subst (λ l. Enters l c.args.placer.now c.enter.new.self c.in_ok-outer.outer) c.as_slice-3.ensures.value c.in_ok-outer.ensures) c.in_ok-place_all.ensures c.leave.ensures

pub place_case-place_arms-requires : goal.place_case-place_arms-requires
place_case-place_arms-requires t c =
    (omega (arith, c.decreases), tt)

pub place_case-place_tree-requires : goal.place_case-place_tree-requires
place_case-place_tree-requires t c =
    (omega (arith, c.decreases), tt)

pub place_case-place_tree-requires-2 : goal.place_case-place_tree-requires-2
place_case-place_tree-requires-2 t c =
    (omega (arith, c.decreases), tt)

pub place_case-returns : goal.place_case-returns
place_case-returns t c =
    on_ok c.place_tree-2.result (λ third. does_both _ _ (λ tested last. record { tested = tested; last = last }) _ _ _ _ _ (does_both _ _ with_arms _ _ _ _ _ c.in_ok-place_tree.ensures c.in_ok-place_arms.ensures) third) c.place_tree-2.ensures

pub place_chain-loop-above-init : goal.place_chain-loop-above-init
place_chain-loop-above-init t c =
    let some = weight_some (node_of c.loop-tree.tree) in
    record {
      rises = turns _ _ (node_of c.loop-tree.above) (node_of c.loop-tree.tree) _ _ (sym c.is_link.ensures ∙ c.loop-tree-test.false) c.loop-tree.invariant.whole
          (form_did c.deref_mut.ensures.value (search rules) c.in_ok-place_parts.ensures);
      lighter = omega (arith, some, c.loop-tree.invariant.lighter);
    }

pub place_chain-loop-above-preserved : goal.place_chain-loop-above-preserved
place_chain-loop-above-preserved t c =
    let above = node_of c.loop-above.above in
    let tree = node_of c.loop-above.tree in
    let link : is_link above ≡ true = sym c.is_link-in-loop-above.ensures ∙ c.loop-above-test.true in
    let rest_is = ap node_of c.swap-in-loop-above.ensures.y_after ∙ c.swap_first-in-loop-above.ensures.first in
    let light = (weight_out above tree _ _ link c.swap_first-in-loop-above.ensures.with rest_is).0 in
    record {
      rises = subst (λ (made : Node). Rises c.args.placer.now c.place_parts-in-loop-above.new.placer (node_of c.args.tree.now) (node_of c.swap-in-loop-above.new.y) made) (ap node_of (sym c.swap-in-loop-above.ensures.x_after))
          (outward _ _ _ _ above tree _ _ _ link c.swap_first-in-loop-above.ensures.with rest_is c.loop-above.invariant.rises (form_did c.deref_mut-in-loop-above.ensures.value (search rules) c.in_ok-place_parts-2.ensures));
      lighter = omega (arith, light, c.loop-above.invariant.lighter);
    }

pub place_chain-loop-tree-preserved : goal.place_chain-loop-tree-preserved
place_chain-loop-tree-preserved t c =
    let above = node_of c.loop-tree.above in
    let tree = node_of c.loop-tree.tree in
    let link : is_link tree ≡ true = sym c.is_link.ensures ∙ c.loop-tree-test.true in
    let above_is = ap node_of c.swap.ensures.y_after ∙ c.swap_first.ensures.with in
    let tree_is = ap node_of c.swap.ensures.x_after ∙ c.swap_first.ensures.first in
    let in_ = inward above tree _ _ _ link above_is tree_is c.loop-tree.invariant.whole in
    record {
      whole = in_.rewound;
      lighter = omega (arith, in_.lighter, c.loop-tree.invariant.lighter);
    }

pub place_chain-place_parts-requires : goal.place_chain-place_parts-requires
place_chain-place_parts-requires t c =
    let all = whole (node_of c.loop-tree.tree) (sym c.is_link.ensures ∙ c.loop-tree-test.false) in
    let part = ap (λ (f : TreeForm). weight_placed (node_of_form f)) c.deref_mut.ensures.value in
    let some = weight_some (node_of c.loop-tree.above) in
    (omega (arith, c.decreases, part, all.weighs, some, c.loop-tree.invariant.lighter), tt)

pub place_chain-place_parts-requires-in-loop-above : goal.place_chain-place_parts-requires-in-loop-above
place_chain-place_parts-requires-in-loop-above t c =
    let above = node_of c.loop-above.above in
    let tree = node_of c.loop-above.tree in
    let link : is_link above ≡ true = sym c.is_link-in-loop-above.ensures ∙ c.loop-above-test.true in
    let light = (weight_out above tree _ _ link c.swap_first-in-loop-above.ensures.with c.swap_first-in-loop-above.ensures.first).1 in
    let part = ap (λ (f : TreeForm). weight_placed (node_of_form f)) c.deref_mut-in-loop-above.ensures.value in
    (omega (arith, c.decreases, part, light, c.loop-above.invariant.lighter), tt)

pub place_chain-returns : goal.place_chain-returns
place_chain-returns t c =
    out _ _ _ (node_of c.loop-above.above) _ (sym c.is_link-in-loop-above.ensures ∙ c.loop-above-test.false) c.loop-above.invariant.rises

pub place_declared-place_tree-requires : goal.place_declared-place_tree-requires
place_declared-place_tree-requires t c =
    (omega (arith, c.decreases), tt)

pub place_declared-returns : goal.place_declared-returns
place_declared-returns t c =
    declared_done c.args.place.now _ (ty_view c.args.ty.now) _ _ _ _ _ c.place_tree.result c.in_ok-declare.ensures c.place_of.ensures c.place_tree.ensures

pub place_literal-place_tree-requires : goal.place_literal-place_tree-requires
place_literal-place_tree-requires t c =
    (omega (arith, c.decreases), tt)

pub place_literal-returns : goal.place_literal-returns
unfolding then_give
place_literal-returns t c =
    let of = c.args.body.now in
    let placer = c.args.placer.now in
    let params = params_of (items_of of.params) in
    does_made (λ around locals. placed_literal around locals (body_of of)) node.Proc _ _ _ (literal_done params (params_of (items_of c.place_params.new.params)) (ty_view of.gives) (node_of of.tree) (node_of c.place_tree.new.tree) of.scope of.line c.in_ok-kept.kept.items c.in_ok-body.field-0 c.in_ok-outer.outer
    placer _ _ _ _ (c.in_ok-kept.ensures ∙ ap (λ ps. chosen (is_kept (marks_of placer.survey)) (numbers (params_of ps))) c.as_slice.ensures)
    (c.in_ok-body.ensures ∙ ap (scope_text (fields_of placer.names.items)) c.as_slice-2.ensures.value)
    (subst (λ l. Enters l (record placer { nums = 0; refs = 0 }) c.enter.new.self c.in_ok-outer.outer) c.as_slice-3.ensures.value c.in_ok-outer.ensures)
    (λ around locals stands. subst (λ (ps : List Param). Stands c.declare_params.new.self around (with_params (params_of ps) locals)) c.as_slice-4.ensures (c.in_ok-declare_params.ensures around locals stands))
    c.place_params.ensures c.in_ok-place_tree.ensures c.in_ok-leave.ensures)

pub place_loop-returns : goal.place_loop-returns
place_loop-returns t c =
    let it = c.args.it.now in
    let s3 = c.place_triple.new.placer in
    let kept = c.in_ok-kept.kept.items in
    loop_done (node_of it.a) (node_of it.b) (node_of it.c) (node_of it.s) (node_of c.place_triple.new.a) (node_of c.place_triple.new.b) (node_of c.place_triple.new.c) (node_of c.place_tree.new.tree) it.slot it.scope it.control c.place_inside-it.result it.line kept c.in_ok-it.field-0 c.in_ok-outer.outer
    c.args.placer.now _ _ s3 _ _ _ c.leave.result c.in_ok-take_numbers.ensures c.in_ok-declare.ensures c.in_ok-kept.ensures
    (c.in_ok-it.ensures ∙ ap (scope_text (fields_of c.declare.new.self.names.items)) c.as_slice.ensures.value)
    (λ around locals stands kept_is. c.place_inside-it.ensures around locals stands (c.as_slice-2.ensures.value ∙ kept_is) ∙ ap (λ l. place_of (inside around l) locals it.control) c.as_slice-2.ensures.value)
    c.in_ok-place_triple.ensures (subst (λ l. Enters l s3 c.enter.new.self c.in_ok-outer.outer) c.as_slice-3.ensures.value c.in_ok-outer.ensures) c.in_ok-place_tree.ensures c.leave.ensures

pub place_pair-place_tree-requires : goal.place_pair-place_tree-requires
place_pair-place_tree-requires t c =
    (omega (arith, c.decreases), tt)

pub place_pair-place_tree-requires-2 : goal.place_pair-place_tree-requires-2
place_pair-place_tree-requires-2 t c =
    (omega (arith, c.decreases), tt)

pub place_pair-returns : goal.place_pair-returns
place_pair-returns t c =
    on_ok c.place_tree-2.result (λ second. does_both _ _ pair _ _ _ _ _ c.in_ok-place_tree.ensures second) c.place_tree-2.ensures

pub place_parts-place_all-requires : goal.place_parts-place_all-requires
place_parts-place_all-requires t c =
    let all = weight_of_all operand (λ n. refl) (nodes_in (items_of c.in-Make.args)) in
    let is = weight_is (node.Make (rc_value c.in-Make.class) (nodes_in (items_of c.in-Make.args))) in
    all_falls 4 _ _ c.in-Make.args _ t c.decreases (make_is _ c.in-Make.class c.in-Make.args _ c.in-Make.is refl) c.in-Make.args-is (omega arith) (omega (arith, all, is))

pub place_parts-place_all-requires-in-Call : goal.place_parts-place_all-requires-in-Call
place_parts-place_all-requires-in-Call t c =
    all_falls 4 _ _ c.in-Call.args _ t c.decreases (call_is _ c.in-Call.f c.in-Call.args c.in-Call.line _ c.in-Call.is refl) c.in-Call.args-is (omega arith) (omega arith)

pub place_parts-place_all-requires-in-Lib : goal.place_parts-place_all-requires-in-Lib
place_parts-place_all-requires-in-Lib t c =
    let all = weight_of_all operand (λ n. refl) (nodes_in (items_of c.in-Lib.args)) in
    let is = weight_is (node.Lib c.in-Lib.code (nodes_in (items_of c.in-Lib.args)) c.in-Lib.line) in
    all_falls 4 _ _ c.in-Lib.args _ t c.decreases (lib_is _ c.in-Lib.code c.in-Lib.args c.in-Lib.line _ c.in-Lib.is refl) c.in-Lib.args-is (omega arith) (omega (arith, all, is))

pub place_parts-place_assigned-requires : goal.place_parts-place_assigned-requires
place_parts-place_assigned-requires t c =
    tree_falls 5 _ _ c.in-SetName.e _ t c.decreases c.in-SetName.is c.in-SetName.e-is (omega arith) (omega arith)

pub place_parts-place_block-requires : goal.place_parts-place_block-requires
place_parts-place_block-requires t c =
    let all = weight_of_all branch (λ n. refl) (nodes_in (items_of c.in-Block.items)) in
    let is = weight_is (node.Block (text_in c.in-Block.scope) (nodes_in (items_of c.in-Block.items))) in
    all_falls 5 _ _ c.in-Block.items _ t c.decreases (block_is _ c.in-Block.scope c.in-Block.items _ c.in-Block.is refl) c.in-Block.items-is (omega arith) (omega (arith, all, is))

pub place_parts-place_case-requires : goal.place_parts-place_case-requires
place_parts-place_case-requires t c =
    let arms = arms_in (items_of c.in-Case.arms) in
    let is = weight_is (node.Case (node_of c.in-Case.e) arms (node_of c.in-Case.d) (ty_view c.in-Case.ty.value)) in
    let sum = weight_parts-append (parts_arms arms) (branch (node_of c.in-Case.d) ∷ []) in
    let all = weight_of_arms arms in
    case_falls _ _ c.in-Case.e _ c.in-Case.arms _ c.in-Case.d _ t c.decreases (case_is _ c.in-Case.e c.in-Case.arms c.in-Case.d c.in-Case.ty _ c.in-Case.is refl) c.in-Case.e-is c.in-Case.arms-is c.in-Case.d-is (omega (arith, all, sum, is))

pub place_parts-place_declared-requires : goal.place_parts-place_declared-requires
place_parts-place_declared-requires t c =
    tree_falls 5 _ _ c.in-Let.e _ t c.decreases c.in-Let.is c.in-Let.e-is (omega arith) (omega arith)

pub place_parts-place_literal-requires : goal.place_parts-place_literal-requires
place_parts-place_literal-requires t c =
    literal_falls _ c.in-Proc.body _ t c.decreases c.in-Proc.is (c.deref_mut-in-Proc.ensures.value ∙ ap (λ (b : Box Body Global). b.value) c.in-Proc.body-is)

pub place_parts-place_loop-requires : goal.place_parts-place_loop-requires
place_parts-place_loop-requires t c =
    loop_falls _ c.in-For.it _ t c.decreases c.in-For.is (c.deref_mut.ensures.value ∙ ap (λ (b : Box Loop Global). b.value) c.in-For.it-is)

pub place_parts-place_pair-requires : goal.place_parts-place_pair-requires
place_parts-place_pair-requires t c =
    pair_falls 4 _ _ c.in-IfDo.c _ c.in-IfDo.a _ t c.decreases c.in-IfDo.is c.in-IfDo.c-is c.in-IfDo.a-is (omega arith) (omega arith)

pub place_parts-place_pair-requires-in-Compare : goal.place_parts-place_pair-requires-in-Compare
place_parts-place_pair-requires-in-Compare t c =
    pair_falls 4 _ _ c.in-Compare.a _ c.in-Compare.b _ t c.decreases c.in-Compare.is c.in-Compare.a-is c.in-Compare.b-is (omega arith) (omega arith)

pub place_parts-place_pair-requires-in-Part : goal.place_parts-place_pair-requires-in-Part
place_parts-place_pair-requires-in-Part t c =
    pair_falls 4 _ _ c.in-Part.i _ c.in-Part.n _ t c.decreases c.in-Part.is c.in-Part.i-is c.in-Part.n-is (omega arith) (omega arith)

pub place_parts-place_pair-requires-in-SetField : goal.place_parts-place_pair-requires-in-SetField
place_parts-place_pair-requires-in-SetField t c =
    pair_falls 4 _ _ c.in-SetField.p _ c.in-SetField.e _ t c.decreases c.in-SetField.is c.in-SetField.p-is c.in-SetField.e-is (omega arith) (omega arith)

pub place_parts-place_pair-requires-in-While : goal.place_parts-place_pair-requires-in-While
place_parts-place_pair-requires-in-While t c =
    pair_falls 4 _ _ c.in-While.c _ c.in-While.a _ t c.decreases c.in-While.is c.in-While.c-is c.in-While.a-is (omega arith) (omega arith)

pub place_parts-place_pair-requires-in-Write : goal.place_parts-place_pair-requires-in-Write
place_parts-place_pair-requires-in-Write t c =
    pair_falls 4 _ _ c.in-Write.e _ c.in-Write.w _ t c.decreases c.in-Write.is c.in-Write.e-is c.in-Write.w-is (omega arith) (omega arith)

pub place_parts-place_scan-requires : goal.place_parts-place_scan-requires
place_parts-place_scan-requires t c =
    pair_falls 5 _ _ c.in-Scan.a _ c.in-Scan.f _ t c.decreases c.in-Scan.is c.in-Scan.a-is c.in-Scan.f-is (omega arith) (omega arith)

pub place_parts-place_tree-requires : goal.place_parts-place_tree-requires
place_parts-place_tree-requires t c =
    tree_falls 3 _ _ c.in-And.b _ t c.decreases c.in-And.is c.in-And.b-is (omega arith) (omega arith)

pub place_parts-place_tree-requires-in-Arith : goal.place_parts-place_tree-requires-in-Arith
place_parts-place_tree-requires-in-Arith t c =
    tree_falls 3 _ _ c.in-Arith.b _ t c.decreases c.in-Arith.is c.in-Arith.b-is (omega arith) (omega arith)

pub place_parts-place_tree-requires-in-Bound : goal.place_parts-place_tree-requires-in-Bound
place_parts-place_tree-requires-in-Bound t c =
    tree_falls 3 _ _ c.in-Bound.v _ t c.decreases c.in-Bound.is c.in-Bound.v-is (omega arith) (omega arith)

pub place_parts-place_tree-requires-in-Element : goal.place_parts-place_tree-requires-in-Element
place_parts-place_tree-requires-in-Element t c =
    tree_falls 3 _ _ c.in-Element.i _ t c.decreases c.in-Element.is c.in-Element.i-is (omega arith) (omega arith)

pub place_parts-place_tree-requires-in-Is : goal.place_parts-place_tree-requires-in-Is
place_parts-place_tree-requires-in-Is t c =
    tree_falls 3 _ _ c.in-Is.e _ t c.decreases c.in-Is.is c.in-Is.e-is (omega arith) (omega arith)

pub place_parts-place_tree-requires-in-Join : goal.place_parts-place_tree-requires-in-Join
place_parts-place_tree-requires-in-Join t c =
    tree_falls 3 _ _ c.in-Join.b _ t c.decreases c.in-Join.is c.in-Join.b-is (omega arith) (omega arith)

pub place_parts-place_tree-requires-in-Neg : goal.place_parts-place_tree-requires-in-Neg
place_parts-place_tree-requires-in-Neg t c =
    tree_falls 3 _ _ c.in-Neg.e _ t c.decreases c.in-Neg.is c.in-Neg.e-is (omega arith) (omega arith)

pub place_parts-place_tree-requires-in-Not : goal.place_parts-place_tree-requires-in-Not
place_parts-place_tree-requires-in-Not t c =
    tree_falls 3 _ _ c.in-Not.e _ t c.decreases c.in-Not.is c.in-Not.e-is (omega arith) (omega arith)

pub place_parts-place_tree-requires-in-Or : goal.place_parts-place_tree-requires-in-Or
place_parts-place_tree-requires-in-Or t c =
    tree_falls 3 _ _ c.in-Or.b _ t c.decreases c.in-Or.is c.in-Or.b-is (omega arith) (omega arith)

pub place_parts-place_tree-requires-in-Plus : goal.place_parts-place_tree-requires-in-Plus
place_parts-place_tree-requires-in-Plus t c =
    tree_falls 3 _ _ c.in-Plus.e _ t c.decreases c.in-Plus.is c.in-Plus.e-is (omega arith) (omega arith)

pub place_parts-place_triple-requires : goal.place_parts-place_triple-requires
place_parts-place_triple-requires t c =
    triple_falls _ _ c.in-IfElse.c _ c.in-IfElse.a _ c.in-IfElse.b _ t c.decreases c.in-IfElse.is c.in-IfElse.c-is c.in-IfElse.a-is c.in-IfElse.b-is (omega arith)

pub place_parts-place_triple-requires-in-Fill : goal.place_parts-place_triple-requires-in-Fill
place_parts-place_triple-requires-in-Fill t c =
    triple_falls _ _ c.in-Fill.l _ c.in-Fill.u _ c.in-Fill.e _ t c.decreases c.in-Fill.is c.in-Fill.l-is c.in-Fill.u-is c.in-Fill.e-is (omega arith)

pub place_parts-place_triple-requires-in-Repeat : goal.place_parts-place_triple-requires-in-Repeat
place_parts-place_triple-requires-in-Repeat t c =
    triple_falls _ _ c.in-Repeat.a _ c.in-Repeat.c _ c.in-Repeat.b _ t c.decreases c.in-Repeat.is c.in-Repeat.a-is c.in-Repeat.c-is c.in-Repeat.b-is (omega arith)

pub place_parts-place_triple-requires-in-SetElement : goal.place_parts-place_triple-requires-in-SetElement
place_parts-place_triple-requires-in-SetElement t c =
    triple_falls _ _ c.in-SetElement.v _ c.in-SetElement.i _ c.in-SetElement.e _ t c.decreases c.in-SetElement.is c.in-SetElement.v-is c.in-SetElement.i-is c.in-SetElement.e-is (omega arith)

pub place_parts-place_with_all-requires : goal.place_parts-place_with_all-requires
place_parts-place_with_all-requires t c =
    let all = weight_of_all operand (λ n. refl) (nodes_in (items_of c.in-Elems.items)) in
    let is = weight_is (node.Elems (node_of c.in-Elems.l) (nodes_in (items_of c.in-Elems.items)) (ty_view c.in-Elems.ty.value) c.in-Elems.line) in
    with_all_falls _ _ c.in-Elems.l _ c.in-Elems.items _ t c.decreases (elems_is _ c.in-Elems.l c.in-Elems.items c.in-Elems.ty c.in-Elems.line _ c.in-Elems.is refl) c.in-Elems.l-is c.in-Elems.items-is (omega (arith, all, is))

pub place_parts-returns-in-And : goal.place_parts-returns-in-And
unfolding ◌>>=◌ then_give out-TreeForm denote.Hole.Carrier.out
place_parts-returns-in-And t c =
    let is : c.args.form.now ≡ code.And c.in-And.a c.in-And.b = c.in-And.is in
    formed placed_parts _ (λ (x : Node). node.And (node_of c.in-And.a) x) _ _ _ _ _ _ c.place_tree.result (at_one tree_does _ _ _ _ _ c.place_tree.result c.in-And.b-is c.place_tree.ensures) (ap node_of_form is) (λ around locals. refl) (rw is)

pub place_parts-returns-in-Arith : goal.place_parts-returns-in-Arith
unfolding ◌>>=◌ then_give out-TreeForm denote.Hole.Carrier.out
place_parts-returns-in-Arith t c =
    let is : c.args.form.now ≡ code.Arith c.in-Arith.op c.in-Arith.a c.in-Arith.b c.in-Arith.line = c.in-Arith.is in
    formed placed_parts _ (λ (x : Node). node.Arith c.in-Arith.op (node_of c.in-Arith.a) x c.in-Arith.line) _ _ _ _ _ _ c.place_tree-in-Arith.result (at_one tree_does _ _ _ _ _ c.place_tree-in-Arith.result c.in-Arith.b-is c.place_tree-in-Arith.ensures) (ap node_of_form is) (λ around locals. refl) (rw is)

pub place_parts-returns-in-Block : goal.place_parts-returns-in-Block
unfolding ◌>>=◌ then_give
place_parts-returns-in-Block t c =
    formed_to placed_parts _ (λ (x : Block). node.Block x.scope x.items) _ _ _ (code.Block c.place_block.new.scope c.place_block.new.items) _ _ _ c.place_block.result (at_one block_does _ _ _ _ _ c.place_block.result c.in-Block.items-is c.place_block.ensures) (block_is _ c.in-Block.scope c.in-Block.items _ c.in-Block.is refl) (λ around locals. refl)
    (block_is (code.Block c.place_block.new.scope c.place_block.new.items) c.place_block.new.scope c.place_block.new.items (items_of c.place_block.new.items) refl refl) refl

pub place_parts-returns-in-Bound : goal.place_parts-returns-in-Bound
unfolding ◌>>=◌ then_give out-TreeForm denote.Hole.Carrier.out
place_parts-returns-in-Bound t c =
    let is : c.args.form.now ≡ code.Bound c.in-Bound.v c.in-Bound.upper = c.in-Bound.is in
    formed placed_parts _ (λ (x : Node). node.Bound x c.in-Bound.upper) _ _ _ _ _ _ c.place_tree-in-Bound.result (at_one tree_does _ _ _ _ _ c.place_tree-in-Bound.result c.in-Bound.v-is c.place_tree-in-Bound.ensures) (ap node_of_form is) (λ around locals. refl) (rw is)

pub place_parts-returns-in-Call : goal.place_parts-returns-in-Call
unfolding ◌>>=◌ then_give out-TreeForm denote.Hole.Carrier.out
place_parts-returns-in-Call t c =
    let is : c.args.form.now ≡ code.Call c.in-Call.f c.in-Call.args c.in-Call.line = c.in-Call.is in
    formed_to placed_parts _ (λ (x : Nodes). node.Call (node_of c.in-Call.f) x c.in-Call.line) _ _ _ (code.Call c.in-Call.f c.place_all-in-Call.new.items c.in-Call.line) _ _ _ c.place_all-in-Call.result (at_one all_does _ _ _ _ _ c.place_all-in-Call.result c.in-Call.args-is c.place_all-in-Call.ensures) (call_is _ c.in-Call.f c.in-Call.args c.in-Call.line _ is refl) (λ around locals. refl) (call_is (code.Call c.in-Call.f c.place_all-in-Call.new.items c.in-Call.line) c.in-Call.f c.place_all-in-Call.new.items c.in-Call.line (items_of c.place_all-in-Call.new.items) refl refl) (rw is)

pub place_parts-returns-in-Case : goal.place_parts-returns-in-Case
unfolding ◌>>=◌ then_give out-TreeForm denote.Hole.Carrier.out
place_parts-returns-in-Case t c =
    let is : c.args.form.now ≡ code.Case c.in-Case.e c.in-Case.arms c.in-Case.d c.in-Case.ty = c.in-Case.is in
    formed_to placed_parts _ (λ (x : Case). node.Case x.tested.first x.tested.arms x.last (ty_view c.in-Case.ty.value)) _ _ _ (code.Case c.place_case.new.e c.place_case.new.arms c.place_case.new.d c.in-Case.ty) _ _ _ c.place_case.result (at_three case_does _ _ _ _ _ _ _ _ _ c.place_case.result c.in-Case.e-is c.in-Case.arms-is c.in-Case.d-is c.place_case.ensures)
    (case_is _ c.in-Case.e c.in-Case.arms c.in-Case.d c.in-Case.ty _ is refl) (λ around locals. refl) (case_is (code.Case c.place_case.new.e c.place_case.new.arms c.place_case.new.d c.in-Case.ty) c.place_case.new.e c.place_case.new.arms c.place_case.new.d c.in-Case.ty (items_of c.place_case.new.arms) refl refl) (rw is)

pub place_parts-returns-in-Compare : goal.place_parts-returns-in-Compare
unfolding ◌>>=◌ then_give out-TreeForm denote.Hole.Carrier.out
place_parts-returns-in-Compare t c =
    let is : c.args.form.now ≡ code.Compare c.in-Compare.op c.in-Compare.ty c.in-Compare.a c.in-Compare.b = c.in-Compare.is in
    formed placed_parts _ (λ (x : Pair). node.Compare c.in-Compare.op (ty_view c.in-Compare.ty) x.first x.second) _ _ _ _ _ _ c.place_pair-in-Compare.result (at_two pair_does _ _ _ _ _ _ _ c.place_pair-in-Compare.result c.in-Compare.a-is c.in-Compare.b-is c.place_pair-in-Compare.ensures) (ap node_of_form is) (λ around locals. refl) (rw is)

pub place_parts-returns-in-Element : goal.place_parts-returns-in-Element
unfolding ◌>>=◌ then_give out-TreeForm denote.Hole.Carrier.out
place_parts-returns-in-Element t c =
    let is : c.args.form.now ≡ code.Element c.in-Element.v c.in-Element.i c.in-Element.ty c.in-Element.line = c.in-Element.is in
    formed placed_parts _ (λ (x : Node). node.Element (node_of c.in-Element.v) x (ty_view c.in-Element.ty) c.in-Element.line) _ _ _ _ _ _ c.place_tree-in-Element.result (at_one tree_does _ _ _ _ _ c.place_tree-in-Element.result c.in-Element.i-is c.place_tree-in-Element.ensures) (ap node_of_form is) (λ around locals. refl) (rw is)

pub place_parts-returns-in-Elems : goal.place_parts-returns-in-Elems
unfolding ◌>>=◌ then_give out-TreeForm denote.Hole.Carrier.out
place_parts-returns-in-Elems t c =
    let is : c.args.form.now ≡ code.Elems c.in-Elems.l c.in-Elems.items c.in-Elems.ty c.in-Elems.line = c.in-Elems.is in
    formed_to placed_parts _ (λ (x : WithAll). node.Elems x.first x.items (ty_view c.in-Elems.ty.value) c.in-Elems.line) _ _ _ (code.Elems c.place_with_all.new.first c.place_with_all.new.items c.in-Elems.ty c.in-Elems.line) _ _ _ c.place_with_all.result (at_two with_all_does _ _ _ _ _ _ _ c.place_with_all.result c.in-Elems.l-is c.in-Elems.items-is c.place_with_all.ensures)
    (elems_is _ c.in-Elems.l c.in-Elems.items c.in-Elems.ty c.in-Elems.line _ is refl) (λ around locals. refl) (elems_is (code.Elems c.place_with_all.new.first c.place_with_all.new.items c.in-Elems.ty c.in-Elems.line) c.place_with_all.new.first c.place_with_all.new.items c.in-Elems.ty c.in-Elems.line (items_of c.place_with_all.new.items) refl refl) (rw is)

pub place_parts-returns-in-Fill : goal.place_parts-returns-in-Fill
unfolding ◌>>=◌ then_give out-TreeForm denote.Hole.Carrier.out
place_parts-returns-in-Fill t c =
    let is : c.args.form.now ≡ code.Fill c.in-Fill.l c.in-Fill.u c.in-Fill.e c.in-Fill.ty c.in-Fill.line = c.in-Fill.is in
    formed placed_parts _ (λ (x : Triple). node.Fill x.both.first x.both.second x.third (ty_view c.in-Fill.ty) c.in-Fill.line) _ _ _ _ _ _ c.place_triple-in-Fill.result (at_three triple_does _ _ _ _ _ _ _ _ _ c.place_triple-in-Fill.result c.in-Fill.l-is c.in-Fill.u-is c.in-Fill.e-is c.place_triple-in-Fill.ensures) (ap node_of_form is) (λ around locals. refl) (rw is)

pub place_parts-returns-in-For : goal.place_parts-returns-in-For
place_parts-returns-in-For t c =
    formed_as _ _ _ _ _ _ _ c.place_loop.result (at_one loop_does c.in-For.it.value _ _ _ _ c.place_loop.result (c.deref_mut.ensures.value ∙ ap (λ (b : Box Loop Global). b.value) c.in-For.it-is) c.place_loop.ensures) (ap node_of_form c.in-For.is) (λ around locals. refl) (search rules)

pub place_parts-returns-in-IfDo : goal.place_parts-returns-in-IfDo
unfolding ◌>>=◌ then_give
place_parts-returns-in-IfDo t c =
    formed placed_parts _ (λ (x : Pair). node.IfDo x.first x.second) _ _ _ _ _ _ c.place_pair.result (at_two pair_does _ _ _ _ _ _ _ c.place_pair.result c.in-IfDo.c-is c.in-IfDo.a-is c.place_pair.ensures) (ap node_of_form c.in-IfDo.is) (λ around locals. refl) refl

pub place_parts-returns-in-IfElse : goal.place_parts-returns-in-IfElse
unfolding ◌>>=◌ then_give
place_parts-returns-in-IfElse t c =
    formed placed_parts _ (λ (x : Triple). node.IfElse x.both.first x.both.second x.third) _ _ _ _ _ _ c.place_triple.result (at_three triple_does _ _ _ _ _ _ _ _ _ c.place_triple.result c.in-IfElse.c-is c.in-IfElse.a-is c.in-IfElse.b-is c.place_triple.ensures) (ap node_of_form c.in-IfElse.is) (λ around locals. refl) refl

pub place_parts-returns-in-Is : goal.place_parts-returns-in-Is
unfolding ◌>>=◌ then_give out-TreeForm denote.Hole.Carrier.out
place_parts-returns-in-Is t c =
    let is : c.args.form.now ≡ code.Is c.in-Is.e c.in-Is.class = c.in-Is.is in
    formed placed_parts _ (λ (x : Node). node.Is x (rc_value c.in-Is.class)) _ _ _ _ _ _ c.place_tree-in-Is.result (at_one tree_does _ _ _ _ _ c.place_tree-in-Is.result c.in-Is.e-is c.place_tree-in-Is.ensures) (ap node_of_form is) (λ around locals. refl) (rw is)

pub place_parts-returns-in-Join : goal.place_parts-returns-in-Join
unfolding ◌>>=◌ then_give out-TreeForm denote.Hole.Carrier.out
place_parts-returns-in-Join t c =
    let is : c.args.form.now ≡ code.Join c.in-Join.a c.in-Join.b c.in-Join.line = c.in-Join.is in
    formed placed_parts _ (λ (x : Node). node.Join (node_of c.in-Join.a) x c.in-Join.line) _ _ _ _ _ _ c.place_tree-in-Join.result (at_one tree_does _ _ _ _ _ c.place_tree-in-Join.result c.in-Join.b-is c.place_tree-in-Join.ensures) (ap node_of_form is) (λ around locals. refl) (rw is)

pub place_parts-returns-in-Let : goal.place_parts-returns-in-Let
unfolding ◌>>=◌ then_give out-TreeForm denote.Hole.Carrier.out
place_parts-returns-in-Let t c =
    let is : c.args.form.now ≡ code.Let c.in-Let.place c.in-Let.ty c.in-Let.e = c.in-Let.is in
    formed placed_parts _ (λ (x : Named). node.Let x.place (ty_view c.in-Let.ty) x.value) _ _ _ _ _ _ c.place_declared.result (at_three declared_does _ _ _ _ _ _ _ _ _ c.place_declared.result c.in-Let.place-is c.in-Let.ty-is c.in-Let.e-is c.place_declared.ensures) (ap node_of_form is) (λ around locals. refl) (rw is)

pub place_parts-returns-in-Lib : goal.place_parts-returns-in-Lib
unfolding ◌>>=◌ then_give out-TreeForm denote.Hole.Carrier.out
place_parts-returns-in-Lib t c =
    let is : c.args.form.now ≡ code.Lib c.in-Lib.code c.in-Lib.args c.in-Lib.line = c.in-Lib.is in
    formed_to placed_parts _ (λ (x : Nodes). node.Lib c.in-Lib.code x c.in-Lib.line) _ _ _ (code.Lib c.in-Lib.code c.place_all-in-Lib.new.items c.in-Lib.line) _ _ _ c.place_all-in-Lib.result (at_one all_does _ _ _ _ _ c.place_all-in-Lib.result c.in-Lib.args-is c.place_all-in-Lib.ensures) (lib_is _ c.in-Lib.code c.in-Lib.args c.in-Lib.line _ is refl) (λ around locals. refl) (lib_is (code.Lib c.in-Lib.code c.place_all-in-Lib.new.items c.in-Lib.line) c.in-Lib.code c.place_all-in-Lib.new.items c.in-Lib.line (items_of c.place_all-in-Lib.new.items) refl refl) (rw is)

pub place_parts-returns-in-Make : goal.place_parts-returns-in-Make
unfolding ◌>>=◌ then_give out-TreeForm denote.Hole.Carrier.out
place_parts-returns-in-Make t c =
    let is : c.args.form.now ≡ code.Make c.in-Make.class c.in-Make.args = c.in-Make.is in
    formed_to placed_parts _ (λ (x : Nodes). node.Make (rc_value c.in-Make.class) x) _ _ _ (code.Make c.in-Make.class c.place_all.new.items) _ _ _ c.place_all.result (at_one all_does _ _ _ _ _ c.place_all.result c.in-Make.args-is c.place_all.ensures) (make_is _ c.in-Make.class c.in-Make.args _ is refl) (λ around locals. refl) (make_is (code.Make c.in-Make.class c.place_all.new.items) c.in-Make.class c.place_all.new.items (items_of c.place_all.new.items) refl refl) (rw is)

pub place_parts-returns-in-Name : goal.place_parts-returns-in-Name
unfolding out-TreeForm denote.Hole.Carrier.out
place_parts-returns-in-Name t c =
    let is : c.args.form.now ≡ code.Name c.in-Name.place c.in-Name.ty = c.in-Name.is in
    name_done _ _ c.in-Name.place c.place_of.result (ty_view c.in-Name.ty) _ (ap node_of_form is) (λ around locals stands. c.place_of.ensures around locals stands ∙ ap (place_of around locals) c.in-Name.place-is) (rw is)

pub place_parts-returns-in-Neg : goal.place_parts-returns-in-Neg
unfolding ◌>>=◌ then_give out-TreeForm denote.Hole.Carrier.out
place_parts-returns-in-Neg t c =
    let is : c.args.form.now ≡ code.Neg c.in-Neg.e c.in-Neg.line = c.in-Neg.is in
    formed placed_parts _ (λ (x : Node). node.Neg x c.in-Neg.line) _ _ _ _ _ _ c.place_tree-in-Neg.result (at_one tree_does _ _ _ _ _ c.place_tree-in-Neg.result c.in-Neg.e-is c.place_tree-in-Neg.ensures) (ap node_of_form is) (λ around locals. refl) (rw is)

pub place_parts-returns-in-Not : goal.place_parts-returns-in-Not
unfolding ◌>>=◌ then_give out-TreeForm denote.Hole.Carrier.out
place_parts-returns-in-Not t c =
    let is : c.args.form.now ≡ code.Not c.in-Not.e = c.in-Not.is in
    formed placed_parts _ (λ (x : Node). node.Not x) _ _ _ _ _ _ c.place_tree-in-Not.result (at_one tree_does _ _ _ _ _ c.place_tree-in-Not.result c.in-Not.e-is c.place_tree-in-Not.ensures) (ap node_of_form is) (λ around locals. refl) (rw is)

pub place_parts-returns-in-Or : goal.place_parts-returns-in-Or
unfolding ◌>>=◌ then_give out-TreeForm denote.Hole.Carrier.out
place_parts-returns-in-Or t c =
    let is : c.args.form.now ≡ code.Or c.in-Or.a c.in-Or.b = c.in-Or.is in
    formed placed_parts _ (λ (x : Node). node.Or (node_of c.in-Or.a) x) _ _ _ _ _ _ c.place_tree-in-Or.result (at_one tree_does _ _ _ _ _ c.place_tree-in-Or.result c.in-Or.b-is c.place_tree-in-Or.ensures) (ap node_of_form is) (λ around locals. refl) (rw is)

pub place_parts-returns-in-Part : goal.place_parts-returns-in-Part
unfolding ◌>>=◌ then_give out-TreeForm denote.Hole.Carrier.out
place_parts-returns-in-Part t c =
    let is : c.args.form.now ≡ code.Part c.in-Part.a c.in-Part.i c.in-Part.n c.in-Part.line = c.in-Part.is in
    formed placed_parts _ (λ (x : Pair). node.Part (node_of c.in-Part.a) x.first x.second c.in-Part.line) _ _ _ _ _ _ c.place_pair-in-Part.result (at_two pair_does _ _ _ _ _ _ _ c.place_pair-in-Part.result c.in-Part.i-is c.in-Part.n-is c.place_pair-in-Part.ensures) (ap node_of_form is) (λ around locals. refl) (rw is)

pub place_parts-returns-in-Plus : goal.place_parts-returns-in-Plus
unfolding ◌>>=◌ then_give out-TreeForm denote.Hole.Carrier.out
place_parts-returns-in-Plus t c =
    let is : c.args.form.now ≡ code.Plus c.in-Plus.e = c.in-Plus.is in
    formed placed_parts _ (λ (x : Node). node.Plus x) _ _ _ _ _ _ c.place_tree-in-Plus.result (at_one tree_does _ _ _ _ _ c.place_tree-in-Plus.result c.in-Plus.e-is c.place_tree-in-Plus.ensures) (ap node_of_form is) (λ around locals. refl) (rw is)

pub place_parts-returns-in-Proc : goal.place_parts-returns-in-Proc
place_parts-returns-in-Proc t c =
    formed_as _ _ _ _ _ _ _ c.place_literal.result (at_one body_does c.in-Proc.body.value _ _ _ _ c.place_literal.result (c.deref_mut-in-Proc.ensures.value ∙ ap (λ (b : Box Body Global). b.value) c.in-Proc.body-is) c.place_literal.ensures) (ap node_of_form c.in-Proc.is) (λ around locals. refl) (search rules)

pub place_parts-returns-in-Repeat : goal.place_parts-returns-in-Repeat
unfolding ◌>>=◌ then_give
place_parts-returns-in-Repeat t c =
    formed placed_parts _ (λ (x : Triple). node.Repeat x.both.first x.both.second x.third) _ _ _ _ _ _ c.place_triple-in-Repeat.result (at_three triple_does _ _ _ _ _ _ _ _ _ c.place_triple-in-Repeat.result c.in-Repeat.a-is c.in-Repeat.c-is c.in-Repeat.b-is c.place_triple-in-Repeat.ensures) (ap node_of_form c.in-Repeat.is) (λ around locals. refl) refl

pub place_parts-returns-in-Scan : goal.place_parts-returns-in-Scan
unfolding ◌>>=◌ then_give out-TreeForm denote.Hole.Carrier.out
place_parts-returns-in-Scan t c =
    let is : c.args.form.now ≡ code.Scan c.in-Scan.text c.in-Scan.a c.in-Scan.f c.in-Scan.q c.in-Scan.s c.in-Scan.line = c.in-Scan.is in
    formed placed_parts _ (λ (x : Scan). node.Scan c.in-Scan.text x.parts.first x.parts.second x.references x.numbers c.in-Scan.line) _ _ _ _ _ _ c.place_scan.result (at_two scan_does _ _ _ _ _ _ _ c.place_scan.result c.in-Scan.a-is c.in-Scan.f-is c.place_scan.ensures) (ap node_of_form is) (λ around locals. refl) (rw is)

pub place_parts-returns-in-SetElement : goal.place_parts-returns-in-SetElement
unfolding ◌>>=◌ then_give out-TreeForm denote.Hole.Carrier.out
place_parts-returns-in-SetElement t c =
    let is : c.args.form.now ≡ code.SetElement c.in-SetElement.v c.in-SetElement.i c.in-SetElement.e c.in-SetElement.ty c.in-SetElement.line = c.in-SetElement.is in
    formed placed_parts _ (λ (x : Triple). node.SetElement x.both.first x.both.second x.third (ty_view c.in-SetElement.ty) c.in-SetElement.line) _ _ _ _ _ _ c.place_triple-in-SetElement.result (at_three triple_does _ _ _ _ _ _ _ _ _ c.place_triple-in-SetElement.result c.in-SetElement.v-is c.in-SetElement.i-is c.in-SetElement.e-is c.place_triple-in-SetElement.ensures) (ap node_of_form is) (λ around locals. refl) (rw is)

pub place_parts-returns-in-SetField : goal.place_parts-returns-in-SetField
unfolding ◌>>=◌ then_give out-TreeForm denote.Hole.Carrier.out
place_parts-returns-in-SetField t c =
    let is : c.args.form.now ≡ code.SetField c.in-SetField.p c.in-SetField.class c.in-SetField.ty c.in-SetField.e c.in-SetField.index c.in-SetField.line = c.in-SetField.is in
    formed placed_parts _ (λ (x : Pair). node.SetField x.first (rc_value c.in-SetField.class) c.in-SetField.index (ty_view c.in-SetField.ty) x.second c.in-SetField.line) _ _ _ _ _ _ c.place_pair-in-SetField.result (at_two pair_does _ _ _ _ _ _ _ c.place_pair-in-SetField.result c.in-SetField.p-is c.in-SetField.e-is c.place_pair-in-SetField.ensures) (ap node_of_form is) (λ around locals. refl) (rw is)

pub place_parts-returns-in-SetName : goal.place_parts-returns-in-SetName
unfolding ◌>>=◌ then_give out-TreeForm denote.Hole.Carrier.out
place_parts-returns-in-SetName t c =
    let is : c.args.form.now ≡ code.SetName c.in-SetName.place c.in-SetName.ty c.in-SetName.e = c.in-SetName.is in
    formed placed_parts _ (λ (x : Named). node.SetName x.place (ty_view c.in-SetName.ty) x.value) _ _ _ _ _ _ c.place_assigned.result (at_two assigned_does _ _ _ _ _ _ _ c.place_assigned.result c.in-SetName.place-is c.in-SetName.e-is c.place_assigned.ensures) (ap node_of_form is) (λ around locals. refl) (rw is)

pub place_parts-returns-in-While : goal.place_parts-returns-in-While
unfolding ◌>>=◌ then_give
place_parts-returns-in-While t c =
    formed placed_parts _ (λ (x : Pair). node.While x.first x.second) _ _ _ _ _ _ c.place_pair-in-While.result (at_two pair_does _ _ _ _ _ _ _ c.place_pair-in-While.result c.in-While.c-is c.in-While.a-is c.place_pair-in-While.ensures) (ap node_of_form c.in-While.is) (λ around locals. refl) refl

pub place_parts-returns-in-Write : goal.place_parts-returns-in-Write
unfolding ◌>>=◌ then_give out-TreeForm denote.Hole.Carrier.out
place_parts-returns-in-Write t c =
    let is : c.args.form.now ≡ code.Write c.in-Write.e c.in-Write.w c.in-Write.wide c.in-Write.ty c.in-Write.line = c.in-Write.is in
    formed placed_parts _ (λ (x : Pair). node.Write x.first x.second c.in-Write.wide (ty_view c.in-Write.ty) c.in-Write.line) _ _ _ _ _ _ c.place_pair-in-Write.result (at_two pair_does _ _ _ _ _ _ _ c.place_pair-in-Write.result c.in-Write.e-is c.in-Write.w-is c.place_pair-in-Write.ensures) (ap node_of_form is) (λ around locals. refl) (rw is)

pub place_scan-place_pair-requires : goal.place_scan-place_pair-requires
place_scan-place_pair-requires t c =
    (omega (arith, c.decreases), tt)

pub place_scan-returns : goal.place_scan-returns
place_scan-returns t c =
    scan_done _ _ _ _ _ _ _ _ c.place_pair.result c.in_ok-take_numbers.ensures c.in_ok-take_references.ensures c.place_pair.ensures

pub place_tree-place_chain-requires : goal.place_tree-place_chain-requires
place_tree-place_chain-requires t c =
    (omega (arith, c.decreases), tt)

pub place_tree-place_parts-requires : goal.place_tree-place_parts-requires
place_tree-place_parts-requires t c =
    let all = whole (node_of c.args.tree.now) (sym c.is_link.ensures ∙ c.if-is_link.false) in
    let part = ap (λ (f : TreeForm). weight_placed (node_of_form f)) c.deref_mut.ensures.value in
    (omega (arith, c.decreases, part, all.weighs), tt)

pub place_tree-returns-else-is_link : goal.place_tree-returns-else-is_link
place_tree-returns-else-is_link t c =
    let all = whole (node_of c.args.tree.now) (sym c.is_link.ensures ∙ c.if-is_link.false) in
    tree_did _ _ _ _ _ _ c.place_parts.result all.places c.deref_mut.ensures.value (search rules) c.place_parts.ensures

pub place_tree-returns-then-is_link : goal.place_tree-returns-then-is_link
place_tree-returns-then-is_link t c =
    c.place_chain.ensures

pub place_triple-place_pair-requires : goal.place_triple-place_pair-requires
place_triple-place_pair-requires t c =
    (omega (arith, c.decreases), tt)

pub place_triple-place_tree-requires : goal.place_triple-place_tree-requires
place_triple-place_tree-requires t c =
    (omega (arith, c.decreases), tt)

pub place_triple-returns : goal.place_triple-returns
place_triple-returns t c =
    on_ok c.place_tree.result (λ second. does_both _ _ (λ both third. record { both = both; third = third }) _ _ _ _ _ c.in_ok-place_pair.ensures second) c.place_tree.ensures

pub place_with_all-place_all-requires : goal.place_with_all-place_all-requires
place_with_all-place_all-requires t c =
    (omega (arith, c.decreases), tt)

pub place_with_all-place_tree-requires : goal.place_with_all-place_tree-requires
place_with_all-place_tree-requires t c =
    (omega (arith, c.decreases), tt)

pub place_with_all-returns : goal.place_with_all-returns
place_with_all-returns t c =
    on_ok c.place_all.result (λ second. does_both _ _ with_all _ _ _ _ _ c.in_ok-place_tree.ensures second) c.place_all.ensures
