use Rattle.std.proofs.Common.{rules, ◌≡◌, ◌+◌, ◌∙◌, [], ◌∷◌, ap, sym, refl, subst, arith}
use Rattle.std.proofs.lemmas.List.{length-map}
use Rattle.ps_base.specs.List.{items_of}
use Rattle.ps_base.specs.TyView.{ty_view}
use Rattle.ps_program.specs.Parts.{operand, label, branch}
use Rattle.ps_program.specs.NodeView.{node_of, nodes_in, param_of, params_of}
use Rattle.ps_program.specs.inside.Listed.{parts_all, parts_arms}
use Rattle.ps_program.specs.inside.PartsView.{AreListed, arms_in, further_in}
use Rattle.ps_program.specs.inside.Weights.{weight_all}
use Rattle.ps_program.proofs.NodeSteps.{arms_from, weight_at, weight_arm_at}
use Rattle.ps_program.proofs.PartLemmas.{further_lighter, first_lighter, weight_of_all, weight_of_arms, weight_parts-append}
use Rattle.ps_slots.specs.inside.Sizes.{size, size_of, size_parts, size_arms, size_alone, behind, join}
use Rattle.ps_slots.proofs.Sizing.{size_with, size_without, gone, arms_then, arm_more, two_parts, three_parts, complex_so, sized_so}
use Rattle.ps_slots.proofs.sizes.+sizes.Goals as goal

pub complex_of-returns : goal.complex_of-returns
complex_of-returns t c =
    let b = c.args.body.now in
    let params = items_of b.params in
    complex_so c.first_complex.result (params_of params) (ty_view b.gives) (node_of b.tree) b.scope b.line _ _ (length-map params param_of ∙ sym c.len.ensures) c.in_ok-sizes.ensures c.first_complex.ensures

pub sizes_of-sizes_of_further-requires : goal.sizes_of-sizes_of_further-requires
sizes_of-sizes_of_further-requires t c = let lighter = further_lighter _ _ _ c.in-Clauses-Some-default.ensures in search (rules, lighter)

pub sizes_of-sizes_of_further-requires-in-Clauses-None-default : goal.sizes_of-sizes_of_further-requires-in-Clauses-None-default
sizes_of-sizes_of_further-requires-in-Clauses-None-default t c = let lighter = further_lighter _ _ _ c.in-Clauses-None-default.ensures in search (rules, lighter)

pub sizes_of-loop-body-smaller : goal.sizes_of-loop-body-smaller
sizes_of-loop-body-smaller t c =
    let are = subst (λ f. AreListed (node_of c.loop-body.rest.now) f c.in-Clauses-Some-default.further) c.in-Clauses-Some-default.first-is c.in-Clauses-Some-default.ensures in
    let lighter = first_lighter _ _ _ are in
    omega (arith, lighter)

pub sizes_of-loop-body-preserved : goal.sizes_of-loop-body-preserved
sizes_of-loop-body-preserved t c =
    let are = subst (λ f. AreListed (node_of c.loop-body.rest.now) f c.in-Clauses-Some-default.further) c.in-Clauses-Some-default.first-is c.in-Clauses-Some-default.ensures in
    let lighter = first_lighter _ _ _ are in
    let both = c.in_ok-then-in-Clauses-Some-default.ensures ∙ ap (λ s. join s (size_of c.in_ok-sizes_of_further-in-Clauses-Some-default.field-0)) c.own.ensures ∙ ap (join (size_alone (node_of c.loop-body.rest.now))) c.in_ok-sizes_of_further-in-Clauses-Some-default.ensures in
    record {
      sized = gone _ _ (size_alone (node_of c.loop-body.rest.now)) (size_parts 1 (further_in c.in-Clauses-Some-default.further)) _ (size_of c.loop-body.sizes) _ _ (size_with _ _ _ are) both c.in_ok-sizes-in-Clauses-Some-default.ensures c.loop-body.invariant.sized;
      lighter = omega (arith, lighter);
    }

pub sizes_of-returns-in-Clauses-None-default : goal.sizes_of-returns-in-Clauses-None-default
sizes_of-returns-in-Clauses-None-default t c =
    let are = subst (λ f. AreListed (node_of c.loop-body.rest.now) f c.in-Clauses-None-default.further) c.in-Clauses-None-default.first-is c.in-Clauses-None-default.ensures in
    let both = c.in_ok-then-in-Clauses-None-default.ensures ∙ ap (λ s. join s (size_of c.in_ok-sizes_of_further-in-Clauses-None-default.field-0)) c.own-in-Clauses-None-default.ensures ∙ ap (join (size_alone (node_of c.loop-body.rest.now))) c.in_ok-sizes_of_further-in-Clauses-None-default.ensures in
    sized_so c.then-in-Clauses-None-default-2.result _ _ (ap (λ s. join s (size_of c.loop-body.sizes)) (both ∙ sym (size_without _ _ are)) ∙ c.loop-body.invariant.sized) c.then-in-Clauses-None-default-2.ensures

pub sizes_of_arms-then_all-requires : goal.sizes_of_arms-then_all-requires
sizes_of_arms-then_all-requires t c =
    let light = weight_arm_at c.args.arms.now c.loop-arm.arm-index c.arm-item.result _ c.arm-item.is c.loop-arm-test.true in
    let labels = ap (λ ts. weight_all (nodes_in ts)) c.as_slice.ensures in
    search (rules, light, labels)

pub sizes_of_arms-then_part-requires : goal.sizes_of_arms-then_part-requires
sizes_of_arms-then_part-requires t c =
    let light = weight_arm_at c.args.arms.now c.loop-arm.arm-index c.arm-item.result _ c.arm-item.is c.loop-arm-test.true in
    search (rules, light)

pub sizes_of_arms-loop-arm-preserved : goal.sizes_of_arms-loop-arm-preserved
sizes_of_arms-loop-arm-preserved t c =
    let arms = c.args.arms.now in
    let i = c.loop-arm.arm-index in
    let arm = c.arm-item.result in
    let cut = arms_from arms i arm _ c.arm-item.is c.loop-arm-test.true in
    let here = c.in_ok-sizes.ensures ∙ ap (λ ts. join (size_of c.loop-arm.sizes) (size_parts 0 (parts_all label (nodes_in ts)))) c.as_slice.ensures in
    arm_more _ _ _ _ _ _ _ here c.in_ok-sizes-2.ensures (ap (λ rest. join (size_of c.loop-arm.sizes) (size_arms rest)) (sym cut) ∙ c.loop-arm.invariant)

pub sizes_of_further-returns-in_ok-sizes-in-Two : goal.sizes_of_further-returns-in_ok-sizes-in-Two
sizes_of_further-returns-in_ok-sizes-in-Two t c =
    sized_so c.then_part-in-Two-2.result _ _ (two_parts _ _ _ _ c.none-none.ensures c.in_ok-sizes-in-Two.ensures ∙ sym (ap (λ f. size_parts c.args.before (further_in f)) c.in-Two.is)) c.then_part-in-Two-2.ensures

pub sizes_of_further-returns-in_ok-sizes-in-TwoBranches : goal.sizes_of_further-returns-in_ok-sizes-in-TwoBranches
sizes_of_further-returns-in_ok-sizes-in-TwoBranches t c =
    sized_so c.then_part-in-TwoBranches-2.result _ _ (two_parts _ _ _ _ c.none-none.ensures c.in_ok-sizes-in-TwoBranches.ensures ∙ sym (ap (λ f. size_parts c.args.before (further_in f)) c.in-TwoBranches.is)) c.then_part-in-TwoBranches-2.ensures

pub sizes_of_further-returns-in_ok-sizes-in-Three-2 : goal.sizes_of_further-returns-in_ok-sizes-in-Three-2
sizes_of_further-returns-in_ok-sizes-in-Three-2 t c =
    let up : c.args.before + 2 ≡ c.args.before + 1 + 1 = omega arith in
    sized_so c.then_part-in-Three-3.result _ _ (three_parts _ (size_of c.in_ok-sizes-in-Three.sizes) _ _ _ _ _ c.none-none.ensures c.in_ok-sizes-in-Three.ensures c.in_ok-sizes-in-Three-2.ensures (ap (λ k. behind k (size (node_of c.in-Three.d.now))) up) ∙ sym (ap (λ f. size_parts c.args.before (further_in f)) c.in-Three.is)) c.then_part-in-Three-3.ensures

pub sizes_of_further-then_all-requires : goal.sizes_of_further-then_all-requires
sizes_of_further-then_all-requires t c = let w = weight_of_all branch (λ n. refl) (nodes_in c.in-Branches.items.now) in search (rules, w)

pub sizes_of_further-then_all-requires-in-Operands : goal.sizes_of_further-then_all-requires-in-Operands
sizes_of_further-then_all-requires-in-Operands t c = let w = weight_of_all operand (λ n. refl) (nodes_in c.in-Operands.items.now) in search (rules, w)

pub sizes_of_further-sizes_of_arms-requires : goal.sizes_of_further-sizes_of_arms-requires
sizes_of_further-sizes_of_arms-requires t c =
    let w = weight_of_arms (arms_in c.in-Arms.arms.now) in
    let sum = weight_parts-append (parts_arms (arms_in c.in-Arms.arms.now)) (branch (node_of c.in-Arms.d.now) ∷ []) in
    search (rules, w, sum)

pub sizes_of_further-then_part-requires-in-Arms : goal.sizes_of_further-then_part-requires-in-Arms
sizes_of_further-then_part-requires-in-Arms t c =
    let sum = weight_parts-append (parts_arms (arms_in c.in-Arms.arms.now)) (branch (node_of c.in-Arms.d.now) ∷ []) in
    search (rules, sum)

pub sizes_of_further-returns-in_ok-sizes-in-Arms : goal.sizes_of_further-returns-in_ok-sizes-in-Arms
sizes_of_further-returns-in_ok-sizes-in-Arms t c =
    let whole = ap (λ f. size_parts c.args.before (further_in f)) c.in-Arms.is ∙ arms_then (arms_in c.in-Arms.arms.now) (node_of c.in-Arms.d.now) c.args.before in
    sized_so c.then_part-in-Arms.result _ _ (ap (λ s. join s (behind 0 (size (node_of c.in-Arms.d.now)))) c.in_ok-sizes-in-Arms.ensures ∙ sym whole) c.then_part-in-Arms.ensures

pub then_all-then_part-requires : goal.then_all-then_part-requires
then_all-then_part-requires t c =
    let light = weight_at c.args.items.now c.loop-item.item-index c.item-item.result _ c.item-item.is c.loop-item-test.true in
    search (rules, light)
