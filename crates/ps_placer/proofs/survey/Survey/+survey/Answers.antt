use Rattle.std.proofs.Common.{rules, ◌≡◌, ◌∙◌, [], ◌∷◌, map, ap, sym, refl, subst, arith}
use Rattle.std.proofs.lemmas.List.{drop_all}
use Rattle.ps_base.specs.List.{items_of}
use Rattle.ps_program.specs.NodeView.{node_of, nodes_in, body_of, params_of}
use Rattle.ps_typing.specs.Mentions.{seen, numbers}
use Rattle.ps_program.specs.Parts.{operand, branch}
use Rattle.ps_program.specs.inside.Listed.{parts_arms}
use Rattle.ps_program.specs.inside.PartsView.{AreListed, arms_in, further_in}
use Rattle.ps_program.specs.inside.Weights.{weight_all}
use Rattle.ps_program.proofs.NodeSteps.{nodes_from, arms_from, weight_at, weight_arm_at}
use Rattle.ps_program.proofs.PartLemmas.{further_lighter, first_lighter, weight_of_all, weight_of_arms, weight_parts-append}
use Rattle.ps_placer.specs.inside.Marks.{marks, marks_of, marks_alone, marks_in, marks_all, marks_arms, marks_parts, marks_body, join}
use Rattle.ps_placer.proofs.Marking.{marked_so, then_marked, further_so, part_more, arm_more, gone, join_none, join_assoc, all_marked, arms_then, marks_with, marks_without, marks_literal}
use Rattle.ps_placer.proofs.survey.Survey.+survey.Goals as goal

pub all-tree-requires : goal.all-tree-requires
all-tree-requires t c =
    let light = weight_at c.args.items.now c.loop-item.item-index c.item-item.result _ c.item-item.is c.loop-item-test.true in
    search (rules, light)

pub all-loop-item-preserved : goal.all-loop-item-preserved
all-loop-item-preserved t c =
    let cut = nodes_from c.args.items.now c.loop-item.item-index c.item-item.result _ c.item-item.is c.loop-item-test.true in
    part_more _ _ _ _ _ c.in_ok-tree.ensures (ap (λ ns. join (marks_of c.loop-item.self) (marks_all c.args.literals ns)) (sym cut) ∙ c.loop-item.invariant)

pub all-returns : goal.all-returns
all-returns t c =
    sym (join_none (marks_of c.loop-item.self))
    ∙ ap (λ ts. join (marks_of c.loop-item.self) (marks_all c.args.literals (nodes_in ts))) (sym (drop_all c.loop-item.item-index c.args.items.now c.loop-item-test.false))
    ∙ c.loop-item.invariant

pub arms-all-requires : goal.arms-all-requires
arms-all-requires t c =
    let light = weight_arm_at c.args.arms.now c.loop-arm.arm-index c.arm-item.result _ c.arm-item.is c.loop-arm-test.true in
    let labels = ap (λ ts. weight_all (nodes_in ts)) c.as_slice.ensures in
    search (rules, light, labels)

pub arms-tree-requires : goal.arms-tree-requires
arms-tree-requires t c =
    let light = weight_arm_at c.args.arms.now c.loop-arm.arm-index c.arm-item.result _ c.arm-item.is c.loop-arm-test.true in
    search (rules, light)

pub arms-loop-arm-preserved : goal.arms-loop-arm-preserved
arms-loop-arm-preserved t c =
    let cut = arms_from c.args.arms.now c.loop-arm.arm-index c.arm-item.result _ c.arm-item.is c.loop-arm-test.true in
    let here = c.in_ok-all.ensures ∙ ap (λ ts. join (marks_of c.loop-arm.self) (marks_all c.args.literals (nodes_in ts))) c.as_slice.ensures in
    arm_more _ _ _ _ _ _ _ here c.in_ok-tree.ensures (ap (λ rest. join (marks_of c.loop-arm.self) (marks_arms c.args.literals rest)) (sym cut) ∙ c.loop-arm.invariant)

pub arms-returns : goal.arms-returns
arms-returns t c =
    sym (join_none (marks_of c.loop-arm.self))
    ∙ ap (λ ts. join (marks_of c.loop-arm.self) (marks_arms c.args.literals (arms_in ts))) (sym (drop_all c.loop-arm.arm-index c.args.arms.now c.loop-arm-test.false))
    ∙ c.loop-arm.invariant

pub body-returns : goal.body-returns
body-returns t c =
    let d = c.args.literals in
    let params = marks_in d [] (map (λ k. seen k 0) (numbers (params_of (items_of c.args.body.now.params)))) in
    let given = c.in_ok-params.ensures ∙ ap (λ ps. join (marks_of c.args.self.now) (marks_in d [] (map (λ k. seen k 0) (numbers (params_of ps))))) c.as_slice.ensures in
    then_marked c.tree.result (marks_of c.args.self.now) (marks_of c.params.new.self) (marks_of c.tree.new.self) params (marks d (node_of c.args.body.now.tree)) given c.tree.ensures

pub two-returns : goal.two-returns
two-returns t c =
    then_marked c.tree-2.result (marks_of c.args.self.now) (marks_of c.tree.new.self) (marks_of c.tree-2.new.self) (marks c.args.literals (node_of c.args.a.now)) (marks c.args.literals (node_of c.args.b.now)) c.in_ok-tree.ensures c.tree-2.ensures

pub further-all-requires : goal.further-all-requires
further-all-requires t c =
    let w = weight_of_all branch (λ n. refl) (nodes_in c.in-Branches.items.now) in search (rules, w)

pub further-all-requires-in-Operands : goal.further-all-requires-in-Operands
further-all-requires-in-Operands t c =
    let w = weight_of_all operand (λ n. refl) (nodes_in c.in-Operands.items.now) in search (rules, w)

pub further-arms-requires : goal.further-arms-requires
further-arms-requires t c =
    let w = weight_of_arms (arms_in c.in-Arms.arms.now) in
    let sum = weight_parts-append (parts_arms (arms_in c.in-Arms.arms.now)) (branch (node_of c.in-Arms.d.now) ∷ []) in
    search (rules, w, sum)

pub further-tree-requires-in-Arms : goal.further-tree-requires-in-Arms
further-tree-requires-in-Arms t c =
    let sum = weight_parts-append (parts_arms (arms_in c.in-Arms.arms.now)) (branch (node_of c.in-Arms.d.now) ∷ []) in
    search (rules, sum)

pub further-returns-in-One : goal.further-returns-in-One
further-returns-in-One t c =
    further_so c.tree.result _ _ _ c.args.literals _ _ c.in-One.is (sym (join_none (marks c.args.literals (node_of c.in-One.b.now)))) c.tree.ensures

pub further-returns-in-OneBranch : goal.further-returns-in-OneBranch
further-returns-in-OneBranch t c =
    further_so c.tree-in-OneBranch.result _ _ _ c.args.literals _ _ c.in-OneBranch.is (sym (join_none (marks c.args.literals (node_of c.in-OneBranch.a.now)))) c.tree-in-OneBranch.ensures

pub further-returns-in_ok-two-in-Three : goal.further-returns-in_ok-two-in-Three
further-returns-in_ok-two-in-Three t c =
    let d = c.args.literals in
    let b = marks d (node_of c.in-Three.b.now) in
    let e = marks d (node_of c.in-Three.c.now) in
    let f = marks d (node_of c.in-Three.d.now) in
    further_so c.tree-in-Three.result _ _ _ d _ _ c.in-Three.is (join_assoc b e f ∙ ap (λ m. join b (join e m)) (sym (join_none f)))
    (marked_so c.tree-in-Three.result _ _ _ (ap (λ m. join m f) c.in_ok-two-in-Three.ensures ∙ join_assoc (marks_of c.args.self.now) (join b e) f) c.tree-in-Three.ensures)

pub further-returns-in-Branches : goal.further-returns-in-Branches
further-returns-in-Branches t c =
    further_so c.all.result _ _ _ c.args.literals _ _ c.in-Branches.is (sym (all_marked c.args.literals branch (λ n. refl) (nodes_in c.in-Branches.items.now))) c.all.ensures

pub further-returns-in-Operands : goal.further-returns-in-Operands
further-returns-in-Operands t c =
    further_so c.all-in-Operands.result _ _ _ c.args.literals _ _ c.in-Operands.is (sym (all_marked c.args.literals operand (λ n. refl) (nodes_in c.in-Operands.items.now))) c.all-in-Operands.ensures

pub further-returns-in_ok-arms-in-Arms : goal.further-returns-in_ok-arms-in-Arms
further-returns-in_ok-arms-in-Arms t c =
    let d = c.args.literals in
    let last = marks d (node_of c.in-Arms.d.now) in
    further_so c.tree-in-Arms.result _ _ _ d _ _ c.in-Arms.is (sym (arms_then d (arms_in c.in-Arms.arms.now) (node_of c.in-Arms.d.now)))
    (marked_so c.tree-in-Arms.result _ _ _ (ap (λ m. join m last) c.in_ok-arms-in-Arms.ensures ∙ join_assoc (marks_of c.args.self.now) (marks_arms d (arms_in c.in-Arms.arms.now)) last) c.tree-in-Arms.ensures)

pub tree-returns-in-Literal : goal.tree-returns-in-Literal
tree-returns-in-Literal t c =
    let d = c.args.literals in
    let n = node_of c.loop-body.rest.now in
    let of = body_of c.in-Literal.body.now in
    let here : marks d n ≡ marks_body c.in_ok-one_more-in-Literal.field-0 of = marks_literal d n of c.in-Literal.ensures ∙ ap (λ k. marks_body k of) (sym c.in_ok-one_more-in-Literal.ensures) in
    marked_so c.body.result _ _ _ (ap (join (marks_of c.loop-body.self)) (sym here) ∙ c.loop-body.invariant.marked) c.body.ensures

pub tree-further-requires : goal.tree-further-requires
tree-further-requires t c =
    let lighter = further_lighter _ _ _ c.in-Clauses-Some-default.ensures in search (rules, lighter)

pub tree-further-requires-in-Clauses-None-default : goal.tree-further-requires-in-Clauses-None-default
tree-further-requires-in-Clauses-None-default t c =
    let lighter = further_lighter _ _ _ c.in-Clauses-None-default.ensures in search (rules, lighter)

pub tree-loop-body-smaller : goal.tree-loop-body-smaller
tree-loop-body-smaller t c =
    let are = subst (λ f. AreListed (node_of c.loop-body.rest.now) f c.in-Clauses-Some-default.further) c.in-Clauses-Some-default.first-is c.in-Clauses-Some-default.ensures in
    let lighter = first_lighter _ _ _ are in
    omega (arith, lighter)

pub tree-loop-body-preserved : goal.tree-loop-body-preserved
tree-loop-body-preserved t c =
    let d = c.args.literals in
    let n = node_of c.loop-body.rest.now in
    let are = subst (λ f. AreListed n f c.in-Clauses-Some-default.further) c.in-Clauses-Some-default.first-is c.in-Clauses-Some-default.ensures in
    let lighter = first_lighter _ _ _ are in
    record {
      marked =
          gone (marks d n) (marks d (node_of c.in-Clauses-Some-default.first.now)) (marks_alone d n) (marks_parts d (further_in c.in-Clauses-Some-default.further)) (marks_of c.loop-body.self) (marks_of c.alone.new.self) (marks_of c.further.new.self) _
          (marks_with d n c.in-Clauses-Some-default.first c.in-Clauses-Some-default.further are) (c.in_ok-alone-in-Clauses-Some-default.ensures are.no_literal) c.in_ok-further-in-Clauses-Some-default.ensures c.loop-body.invariant.marked;
      lighter = omega (arith, lighter);
    }

pub tree-returns-in-Clauses-None-default : goal.tree-returns-in-Clauses-None-default
tree-returns-in-Clauses-None-default t c =
    let d = c.args.literals in
    let n = node_of c.loop-body.rest.now in
    let further = c.in-Clauses-None-default.further in
    let are = subst (λ f. AreListed n f further) c.in-Clauses-None-default.first-is c.in-Clauses-None-default.ensures in
    let here = marks_without d n further are in
    marked_so c.further-in-Clauses-None-default.result _ _ _ (ap (join (marks_of c.loop-body.self)) (sym here) ∙ c.loop-body.invariant.marked)
    (then_marked c.further-in-Clauses-None-default.result (marks_of c.loop-body.self) (marks_of c.alone-in-Clauses-None-default.new.self) (marks_of c.further-in-Clauses-None-default.new.self) (marks_alone d n) (marks_parts d (further_in further)) (c.in_ok-alone-in-Clauses-None-default.ensures are.no_literal) c.further-in-Clauses-None-default.ensures)
