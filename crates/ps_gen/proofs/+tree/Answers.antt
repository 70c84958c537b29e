-- What the functions of the cycle put.
use Rattle.std.proofs.Common.{rules, ℕ, ◌≡◌, ◌+◌, ◌-◌, List, [], ◌∷◌, OnOk, length, length-append, drop, map, ap, sym, refl, subst, ◌∙◌, arith}
use Rattle.std.proofs.lemmas.List.{drop_all}
use Rattle.std.proofs.lemmas.Result.{IfOk-from_err}
use borrow.Author.Count.{falls}
use Rattle.std.specs.Borrow.{Bor}
use Rattle.std.specs.Prelude.{option_map}
use Rattle.std.specs.Rc.{rc_value}
use Rattle.ps_base.specs.List.{items_of}
use Rattle.ps_base.specs.CodeUnit.{text, unit, unit_view, constant_view}
use Rattle.ps_base.specs.Instr.{spelling}
use Rattle.ps_base.specs.TyView.{ty_view}
use Rattle.ps_base.specs.declared.instr.Instr.{Instr}
use Rattle.ps_base.specs.declared.instr.Instr.TheVariants as instr
use Rattle.ps_program.specs.declared.form.Tree.{Tree}
use Rattle.ps_program.specs.declared.form.Arm.{out-Arm}
use Rattle.ps_program.specs.declared.form.Loop.{Loop}
use Rattle.ps_program.specs.declared.body.Body.{Body}
use Rattle.ps_program.specs.Node as node
use Rattle.ps_program.specs.NodeView.{node_of, node_of_form, nodes_in, params_of, body_of}
use Rattle.ps_program.specs.inside.PartsView.{arms_in}
use Rattle.ps_program.specs.inside.Weights.{weight, weight_all}
use Rattle.ps_program.proofs.NodeLists.{block_is, make_is, lib_is, elems_is, call_is, case_is}
use Rattle.ps_program.proofs.NodeSteps.{nodes_from, arms_from, weight_at, weight_arm_at}
use Rattle.ps_emitter.specs.ps_type_text.Texts.{type_text}
use Rattle.ps_gen.specs.Emission.{size}
use Rattle.ps_gen.specs.Units.{row_of}
use Rattle.ps_gen.specs.inside.Steps.{Ends}
use Rattle.ps_emitter.specs.Pieces.{state_of, at_end, Puts, Opens, ◌▷◌, one, to_behind, Left, LeftOpen}
use Rattle.ps_gen.specs.inside.Clauses.{closing, clause, clauses, labels_of, arms_of, arm_of, made, behind_of}
use Rattle.ps_emitter.specs.Choices as choice
use Rattle.ps_emitter.specs.Instructions.{naming, jump_of}
use Rattle.ps_emitter.specs.Chains.{type_in, Chained}
use Rattle.ps_gen.proofs.Laws.{more_clauses, no_clauses, more_labels, no_labels, more_arms_is, no_arms_is}
use Rattle.ps_emitter.proofs.ChoiceWidths.{by_type_width}
use Rattle.ps_emitter.proofs.Putting.{seq, puts_same, followed, behind}
use Rattle.ps_gen.proofs.Making.{on_ok, if_ok, closing_puts, body_made, row_is, entering_is, leaving_is, items_counted, list_named}
use Rattle.ps_emitter.proofs.Steps.{one_is, single, begun, left_all, left_more, left_none, left_open_all, left_open_more, left_open_none, opened_at, halfway, jump_width, last_is, third_is, seq2, filled_with, no_items}
use Rattle.ps_gen.proofs.Linking.{linked, made_is, make_weight, elems_weight, lib_weight}
use Rattle.ps_emitter.proofs.Chaining.{knows_behind, chained_last, chained_weight, call_weight, block_weight, case_weight}
use Rattle.ps_gen.proofs.+tree.Goals as goal

pub operands::all-loop-item-init : goal.operands::all-loop-item-init
operands::all-loop-item-init t c = left_all _ _

pub operands::all-tree-requires : goal.operands::all-tree-requires
operands::all-tree-requires t c =
    let light = weight_at c.args.items.now c.loop-item.item-index c.item-item.result _ c.item-item.is c.loop-item-test.true in
    (omega (arith, c.decreases, light), tt)

pub operands::all-loop-item-preserved : goal.operands::all-loop-item-preserved
operands::all-loop-item-preserved t c =
    let items = c.args.items.now in
    let i = c.loop-item.item-index in
    let cut = nodes_from items i c.item-item.result _ c.item-item.is c.loop-item-test.true in
    left_more (subst (λ ns. Left (clauses ns) (clauses (nodes_in items)) (state_of c.args.emitter.now) (state_of c.loop-item.emitter)) cut c.loop-item.invariant)
    (more_clauses (node_of c.item-item.result) (nodes_in (drop (i + 1) items))) c.in_ok-tree.ensures

pub operands::all-returns : goal.operands::all-returns
operands::all-returns t c =
    let items = c.args.items.now in
    let end = drop_all c.loop-item.item-index items c.loop-item-test.false in
    left_none (subst (λ ts. Left (clauses (nodes_in ts)) (clauses (nodes_in items)) (state_of c.args.emitter.now) (state_of c.loop-item.emitter)) end c.loop-item.invariant) no_clauses

pub operands::all_then-returns : goal.operands::all_then-returns
operands::all_then-returns t c = on_ok c.put.result (λ puts. seq c.in_ok-all.ensures puts) c.put.ensures

pub operands::one_then-returns : goal.operands::one_then-returns
operands::one_then-returns t c = on_ok c.put.result (λ puts. seq c.in_ok-tree.ensures puts) c.put.ensures

pub operands::two_then-returns : goal.operands::two_then-returns
operands::two_then-returns t c = on_ok c.one_then.result (λ puts. seq c.in_ok-tree.ensures puts) c.one_then.ensures

pub operands::vector_filled-returns : goal.operands::vector_filled-returns
operands::vector_filled-returns t c = on_ok c.name_type.result (λ puts. seq c.in_ok-tree.ensures (seq c.in_ok-tree-2.ensures (seq c.in_ok-tree-3.ensures puts))) c.name_type.ensures

pub operands::vector_of-returns : goal.operands::vector_of-returns
operands::vector_of-returns t c =
    let counted = c.in_ok-count.ensures ∙ items_counted c.args.items.now in
    on_ok c.name_type.result (λ puts. seq c.in_ok-tree.ensures (seq c.in_ok-all.ensures (list_named (ty_view c.args.ty.now) c.args.line (text (type_text (ty_view c.args.ty.now))) counted puts))) c.name_type.ensures

pub jumps::block-returns : goal.jumps::block-returns
jumps::block-returns t c = on_ok c.leave.result (λ puts. seq (entering_is c.boxed_text-scope.ensures c.in_ok-enter.ensures) (seq c.in_ok-all.ensures (leaving_is c.boxed_text-scope.ensures puts))) c.leave.ensures

pub jumps::if_else-returns : goal.jumps::if_else-returns
unfolding one
jumps::if_else-returns t c =
    let opens = followed (opened_at instr.JumpFalse refl c.in_ok-test.ensures.puts c.in_ok-test.ensures.is (λ n. refl)) c.in_ok-tree-2.ensures in
    on_ok c.overwrite.result (λ written.
    let parts = halfway instr.JumpFalse (λ end. end + 5) opens (record { puts = c.in_ok-jump_over.ensures; is = refl }) c.in_ok-other.ensures refl c.overwrite.ensures.fits written in
    seq c.in_ok-tree.ensures (seq parts.first parts.second)) c.overwrite.ensures.written

pub jumps::jump_over-returns : goal.jumps::jump_over-returns
jumps::jump_over-returns t c =
    on_ok c.overwrite.result (λ written. single (jump_of c.args.jump) (λ end. end) (jump_width c.args.jump) c.to.ensures c.in_ok-hole.ensures c.in_ok-tree.ensures c.in_ok-end.ensures c.to-2.ensures c.overwrite.ensures.fits written) c.overwrite.ensures.written

pub jumps::while_loop-returns : goal.jumps::while_loop-returns
unfolding one ◌▷◌ to_behind
jumps::while_loop-returns t c = on_ok c.one_then.result (λ puts. begun _ (at_end (state_of c.args.emitter.now)) (seq c.in_ok-jump_over.ensures (last_is _ (ap instr.Again c.in_ok-clause.ensures) puts)) refl refl) c.one_then.ensures

pub jumps::repeat_loop-returns : goal.jumps::repeat_loop-returns
unfolding one ◌▷◌ to_behind
jumps::repeat_loop-returns t c = on_ok c.two_then.result (λ puts. begun _ (at_end (state_of c.args.emitter.now)) (seq c.in_ok-jump_over.ensures (third_is (clause (node_of c.args.a.now)) (clause (node_of c.args.c.now)) (ap instr.Again c.in_ok-between.ensures) puts)) refl refl) c.two_then.ensures

pub jumps::for_loop-returns : goal.jumps::for_loop-returns
jumps::for_loop-returns t c =
    let limit : c.in_ok-step.step - 1 ≡ c.args.it.now.slot + 1 = omega (arith, c.in_ok-step.ensures) in
    on_ok c.for_turns.result (λ puts. seq c.in_ok-take.ensures (seq c.in_ok-take_place.ensures (seq2 _ _ c.in_ok-one_then.ensures (seq2 _ _ (last_is _ (ap instr.SetM limit) c.in_ok-one_then-2.ensures)
    (seq2 _ _ (last_is _ (ap instr.SetM c.in_ok-step.ensures) c.in_ok-one_then-3.ensures) puts))))) c.for_turns.ensures

pub jumps::for_turns-returns : goal.jumps::for_turns-returns
unfolding one ◌▷◌ to_behind
jumps::for_turns-returns t c =
    let it = c.args.it.now in
    let scope = c.text_in-scope.ensures in
    let inner = seq (entering_is scope c.in_ok-enter.ensures) (seq c.in_ok-put.ensures (seq (one_is c.set.ensures c.in_ok-put-2.ensures) (seq c.in_ok-tree.ensures
    (seq (leaving_is scope c.in_ok-leave.ensures) (one_is (ap (instr.ForNext it.slot) c.in_ok-turn.ensures) c.in_ok-put-3.ensures))))) in
    on_ok c.overwrite.result (λ written. begun _ (at_end (state_of c.args.emitter.now))
    (single (λ n. instr.ForStart it.slot n it.line) (λ end. end) (λ n. refl) refl c.in_ok-hole.ensures inner c.in_ok-end.ensures refl c.overwrite.ensures.fits written)
    refl refl) c.overwrite.ensures.written

pub scans::scan-returns : goal.scans::scan-returns
scans::scan-returns t c =
    on_ok c.turns.result (λ puts. seq c.in_ok-take.ensures (seq2 _ _ c.in_ok-one_then.ensures (seq2 _ _ (last_is _ (ap instr.SetP c.in_ok-procedure.ensures) c.in_ok-one_then-2.ensures) (seq c.in_ok-zeros.ensures puts)))) c.turns.ensures

pub cases::case-returns : goal.cases::case-returns
unfolding one ◌▷◌ clause arms_of
cases::case-returns t c =
    let arms = c.args.arms.now in
    let ty = ty_view c.args.ty.now in
    let end = drop_all c.loop-arm.arm-index arms c.loop-arm-test.false in
    let opens = left_open_none (subst (λ ns. LeftOpen instr.Jump (arms_of ty (arms_in ns)) (arms_of ty (arms_in arms)) c.loop-arm.ends.items (state_of c.tree.new.emitter) (state_of c.loop-arm.emitter)) end c.loop-arm.invariant)
    (no_arms_is ty) (λ t. refl) in
    let last = seq (one_is c.by_type.ensures c.in_ok-put.ensures) c.in_ok-tree-2.ensures in
    on_ok c.fill.result (λ filled.
    let parts = halfway instr.Jump (λ end. end + 1 + size (node_of c.args.d.now)) opens (record { puts = last; is = refl })
    (omega (arith, c.in_ok-end-2.ensures, last.long, by_type_width ty instr.DropM instr.DropP refl)) refl c.fill.ensures.fits (filled_with (spelling (instr.Jump c.in_ok-end-2.end)) (state_of c.tree-2.new.emitter) filled c.as_slice-2.ensures.value) in
    seq c.in_ok-tree.ensures (seq parts.first parts.second)) c.fill.ensures.written

pub cases::case-loop-arm-init : goal.cases::case-loop-arm-init
cases::case-loop-arm-init t c = left_open_all c.new-ends.ensures.items

pub cases::case-put_arm-requires : goal.cases::case-put_arm-requires
cases::case-put_arm-requires t c =
    let light = weight_arm_at c.args.arms.now c.loop-arm.arm-index c.arm-item.result _ c.arm-item.is c.loop-arm-test.true in
    let labels = ap (λ ts. weight_all (nodes_in ts)) c.as_slice.ensures in
    (omega (arith, c.decreases, light, labels), tt)

pub cases::case-loop-arm-preserved : goal.cases::case-loop-arm-preserved
unfolding arms_of
cases::case-loop-arm-preserved t c =
    let arms = c.args.arms.now in
    let i = c.loop-arm.arm-index in
    let ty = ty_view c.args.ty.now in
    let arm = out-Arm c.arm-item.result in
    let cut = arms_from arms i c.arm-item.result _ c.arm-item.is c.loop-arm-test.true in
    left_open_more (subst (λ ns. LeftOpen instr.Jump (arms_of ty ns) (arms_of ty (arms_in arms)) c.loop-arm.ends.items (state_of c.tree.new.emitter) (state_of c.loop-arm.emitter)) cut c.loop-arm.invariant)
    (λ t. more_arms_is ty (nodes_in (items_of arm.labels)) (node_of arm.a) (arms_in (drop (i + 1) arms)) t) (λ t. refl)
    (subst (λ ls. Opens instr.Jump (arm_of ty (nodes_in ls) (node_of arm.a)) (c.in_ok-end.end ∷ []) (state_of c.loop-arm.emitter) (state_of c.put_arm.new.emitter)) c.as_slice.ensures c.in_ok-end.ensures) c.in_ok-push.ensures.items

pub cases::put_arm-returns : goal.cases::put_arm-returns
unfolding one
cases::put_arm-returns t c =
    let past = c.in_ok-past.ensures in
    let opens = followed (opened_at instr.Jump refl past.second past.is (λ n. refl)) (seq (one_is c.by_type.ensures c.in_ok-put.ensures) c.in_ok-tree.ensures) in
    let rest = halfway instr.Jump (λ end. end + 5) opens c.in_ok-out.ensures (c.in_ok-next.ensures ∙ c.in_ok-out.ensures.puts.long) refl c.overwrite.ensures.fits c.in_ok-overwrite.ensures.written in
    behind past.first (behind rest.first (opened_at instr.Jump refl rest.second rest.is (λ n. refl)))

pub cases::arm_labels-returns : goal.cases::arm_labels-returns
unfolding one labels_of
cases::arm_labels-returns t c =
    let labels = c.args.labels.now in
    let ty = ty_view c.args.ty.now in
    let end = drop_all c.loop-label.label-index labels c.loop-label-test.false in
    let opens = left_open_none (subst (λ ts. LeftOpen instr.JumpTrue (labels_of ty (nodes_in ts)) (labels_of ty (nodes_in labels)) c.loop-label.holes.items (state_of c.args.emitter.now) (state_of c.loop-label.emitter)) end c.loop-label.invariant)
    (no_labels ty) (λ t. refl) in
    halfway instr.JumpTrue (λ end. end + 5) opens c.in_ok-past.ensures (c.in_ok-chosen.ensures ∙ c.in_ok-past.ensures.puts.long) refl c.fill.ensures.fits
    (filled_with (spelling (instr.JumpTrue c.in_ok-chosen.chosen)) (state_of c.hole.new.self) c.in_ok-fill.ensures.written c.as_slice.ensures.value)

pub cases::arm_labels-loop-label-init : goal.cases::arm_labels-loop-label-init
cases::arm_labels-loop-label-init t c = left_open_all c.new-holes.ensures.items

pub cases::arm_labels-put_label-requires : goal.cases::arm_labels-put_label-requires
cases::arm_labels-put_label-requires t c =
    let light = weight_at c.args.labels.now c.loop-label.label-index c.label-item.result _ c.label-item.is c.loop-label-test.true in
    (omega (arith, c.decreases, light), tt)

pub cases::arm_labels-loop-label-preserved : goal.cases::arm_labels-loop-label-preserved
unfolding labels_of
cases::arm_labels-loop-label-preserved t c =
    let labels = c.args.labels.now in
    let i = c.loop-label.label-index in
    let ty = ty_view c.args.ty.now in
    let cut = nodes_from labels i c.label-item.result _ c.label-item.is c.loop-label-test.true in
    left_open_more (subst (λ ns. LeftOpen instr.JumpTrue (labels_of ty ns) (labels_of ty (nodes_in labels)) c.loop-label.holes.items (state_of c.args.emitter.now) (state_of c.loop-label.emitter)) cut c.loop-label.invariant)
    (λ t. more_labels ty (node_of c.label-item.result) (nodes_in (drop (i + 1) labels)) t) (λ t. refl) c.in_ok-hole.ensures c.in_ok-push.ensures.items

pub cases::put_label-returns : goal.cases::put_label-returns
cases::put_label-returns t c =
    if_ok c.hole.result (λ at hole. behind (one_is c.by_type.ensures c.in_ok-put.ensures) (behind c.in_ok-tree.ensures (behind (one_is c.compare.ensures c.in_ok-put-2.ensures)
    (opened_at instr.JumpTrue refl hole.puts hole.is (λ n. refl))))) c.hole.ensures

pub tree::behind-all_then-requires : goal.tree::behind-all_then-requires
tree::behind-all_then-requires t c =
    let whole = ap weight (call_is _ c.in-Call.f c.in-Call.args c.in-Call.line _ (sym c.deref.ensures ∙ c.in-Call.is) c.as_slice-in-Call.ensures) in
    (omega (arith, c.decreases, whole, call_weight (node_of c.in-Call.f) (nodes_in c.as_slice-in-Call.result.now) c.in-Call.line), tt)

pub tree::behind-returns-in_ok-n-in-Call : goal.tree::behind-returns-in_ok-n-in-Call
tree::behind-returns-in_ok-n-in-Call t c =
    let is = call_is _ c.in-Call.f c.in-Call.args c.in-Call.line _ (sym c.deref.ensures ∙ c.in-Call.is) c.as_slice-in-Call.ensures in
    subst (λ n. OnOk c.all_then.result (Puts (behind_of (type_in c.args.known) n) (state_of c.args.emitter.now) (state_of c.all_then.new.emitter))) (sym is)
    (on_ok c.all_then.result (λ puts. last_is _ (ap (λ n. instr.Call n c.in-Call.line) c.in_ok-n-in-Call.ensures) puts) c.all_then.ensures)

pub tree::form-block-requires : goal.tree::form-block-requires
tree::form-block-requires t c =
    let whole = ap weight (block_is _ c.in-Block.scope c.in-Block.items _ (sym c.deref.ensures ∙ c.in-Block.is) c.as_slice-in-Block.ensures) in
    (omega (arith, c.decreases, whole, block_weight (option_map (λ bytes. bytes.value) c.in-Block.scope) (nodes_in c.as_slice-in-Block.result.now)), tt)

pub tree::form-returns-in-Block : goal.tree::form-returns-in-Block
tree::form-returns-in-Block t c =
    let is = block_is _ c.in-Block.scope c.in-Block.items _ (sym c.deref.ensures ∙ c.in-Block.is) c.as_slice-in-Block.ensures in
    subst (λ n. OnOk c.block.result (Puts (made n) (state_of c.args.emitter.now) (state_of c.block.new.emitter))) (sym is) c.block.ensures

pub tree::form-case-requires : goal.tree::form-case-requires
tree::form-case-requires t c =
    let whole = ap weight (case_is _ c.in-Case.e c.in-Case.arms c.in-Case.d c.in-Case.ty _ (sym c.deref.ensures ∙ c.in-Case.is) c.as_slice-in-Case.ensures) in
    (omega (arith, c.decreases, whole, case_weight (node_of c.in-Case.e) (arms_in c.as_slice-in-Case.result.now) (node_of c.in-Case.d) (ty_view c.in-Case.ty.value)), tt)

pub tree::form-returns-in-Case : goal.tree::form-returns-in-Case
tree::form-returns-in-Case t c =
    let arms = arms_in c.as_slice-in-Case.result.now in
    let is = case_is _ c.in-Case.e c.in-Case.arms c.in-Case.d c.in-Case.ty _ (sym c.deref.ensures ∙ c.in-Case.is) c.as_slice-in-Case.ensures
    ∙ ap (λ ty. node.Case (node_of c.in-Case.e) arms (node_of c.in-Case.d) (ty_view ty)) (sym c.deref-in-Case.ensures) in
    subst (λ n. OnOk c.case.result (Puts (made n) (state_of c.args.emitter.now) (state_of c.case.new.emitter))) (sym is) c.case.ensures

pub tree::form-all-requires : goal.tree::form-all-requires
tree::form-all-requires t c =
    let whole = ap weight (make_is _ c.in-Make.class c.in-Make.args _ (sym c.deref.ensures ∙ c.in-Make.is) c.as_slice-in-Make.ensures) in
    (omega (arith, c.decreases, whole, make_weight (rc_value c.in-Make.class) (nodes_in c.as_slice-in-Make.result.now)), tt)

pub tree::form-returns-in_ok-all-in-Make : goal.tree::form-returns-in_ok-all-in-Make
tree::form-returns-in_ok-all-in-Make t c =
    let is = make_is _ c.in-Make.class c.in-Make.args _ (sym c.deref.ensures ∙ c.in-Make.is) c.as_slice-in-Make.ensures in
    subst (λ n. OnOk c.name-in-Make.result (Puts (made n) (state_of c.args.emitter.now) (state_of c.name-in-Make.new.self))) (sym is)
    (on_ok c.name-in-Make.result (λ puts. seq c.in_ok-all-in-Make.ensures (subst (λ x. Puts (naming instr.Make (text x)) (state_of c.all.new.emitter) (state_of c.name-in-Make.new.self)) (c.as_slice-in-Make-2.ensures ∙ c.deref-in-Make.ensures) puts)) c.name-in-Make.ensures)

pub tree::form-vector_of-requires : goal.tree::form-vector_of-requires
tree::form-vector_of-requires t c =
    let whole = ap weight (elems_is _ c.in-Elems.l c.in-Elems.items c.in-Elems.ty c.in-Elems.line _ (sym c.deref.ensures ∙ c.in-Elems.is) c.as_slice-in-Elems.ensures) in
    (omega (arith, c.decreases, whole, elems_weight (node_of c.in-Elems.l) (nodes_in c.as_slice-in-Elems.result.now) (ty_view c.in-Elems.ty.value) c.in-Elems.line), tt)

pub tree::form-returns-in-Elems : goal.tree::form-returns-in-Elems
tree::form-returns-in-Elems t c =
    let items = nodes_in c.as_slice-in-Elems.result.now in
    let is = elems_is _ c.in-Elems.l c.in-Elems.items c.in-Elems.ty c.in-Elems.line _ (sym c.deref.ensures ∙ c.in-Elems.is) c.as_slice-in-Elems.ensures
    ∙ ap (λ ty. node.Elems (node_of c.in-Elems.l) items (ty_view ty) c.in-Elems.line) (sym c.deref-in-Elems.ensures) in
    subst (λ n. OnOk c.vector_of.result (Puts (made n) (state_of c.args.emitter.now) (state_of c.vector_of.new.emitter))) (sym is) c.vector_of.ensures

pub tree::form-all_then-requires : goal.tree::form-all_then-requires
tree::form-all_then-requires t c =
    let whole = ap weight (lib_is _ c.in-Lib.code c.in-Lib.args c.in-Lib.line _ (sym c.deref.ensures ∙ c.in-Lib.is) c.as_slice-in-Lib.ensures) in
    (omega (arith, c.decreases, whole, lib_weight c.in-Lib.code (nodes_in c.as_slice-in-Lib.result.now) c.in-Lib.line), tt)

pub tree::form-returns-in-Lib : goal.tree::form-returns-in-Lib
tree::form-returns-in-Lib t c =
    let is = lib_is _ c.in-Lib.code c.in-Lib.args c.in-Lib.line _ (sym c.deref.ensures ∙ c.in-Lib.is) c.as_slice-in-Lib.ensures in
    subst (λ n. OnOk c.all_then.result (Puts (made n) (state_of c.args.emitter.now) (state_of c.all_then.new.emitter))) (sym is) c.all_then.ensures

pub tree::tree-form-requires : goal.tree::tree-form-requires
tree::tree-form-requires t c =
    let tree = node_of c.args.tree.now in
    let inner = node_of c.in_ok-innermost.innermost.now in
    let chain = c.in_ok-innermost.ensures.chain tree (subst (λ ls. Chained tree ls tree) (sym c.new-links.ensures.items) refl) in
    let light = chained_weight c.gather.new.links.items inner tree chain in
    (omega (arith, c.decreases, light), tt)

pub tree::tree-loop-link-init : goal.tree::tree-loop-link-init
tree::tree-loop-link-init t c =
    let tree = node_of c.args.tree.now in
    let inner = node_of c.in_ok-innermost.innermost.now in
    let chain = c.in_ok-innermost.ensures.chain tree (subst (λ ls. Chained tree ls tree) (sym c.new-links.ensures.items) refl) in
    record { inner = inner; chained = chain; knows = c.in_ok-known.ensures; puts = puts_same (made_is inner c.in_ok-innermost.ensures.end) c.in_ok-form.ensures }

pub tree::tree-behind-requires : goal.tree::tree-behind-requires
tree::tree-behind-requires t c =
    let tree = node_of c.args.tree.now in
    let here = c.loop-link.invariant in
    let links = c.pop.new.self.items in
    let last = chained_last links c.in-Some.link here.inner tree (subst (λ ls. Chained tree ls here.inner) c.in-Some.ensures.items here.chained) in
    let light = chained_weight links (node_of c.in-Some.link.now) tree last.0 in
    (omega (arith, c.decreases, light), tt)

pub tree::tree-loop-link-smaller : goal.tree::tree-loop-link-smaller
tree::tree-loop-link-smaller t c =
    let e = ap (λ (ls : List (Bor Tree)). length ls) c.in-Some.ensures.items in
    omega (arith, e, length-append c.pop.new.self.items (c.in-Some.link ∷ []))

pub tree::tree-loop-link-preserved : goal.tree::tree-loop-link-preserved
tree::tree-loop-link-preserved t c =
    let tree = node_of c.args.tree.now in
    let here = c.loop-link.invariant in
    let links = c.pop.new.self.items in
    let last = chained_last links c.in-Some.link here.inner tree (subst (λ ls. Chained tree ls here.inner) c.in-Some.ensures.items here.chained) in
    let ty = type_in c.loop-link.known in
    let link = node_of c.in-Some.link.now in
    record {
      inner = link;
      chained = last.0;
      knows = c.behind-known.ensures ∙ knows_behind ty link here.inner last.1 here.knows;
      puts = puts_same (linked ty link here.inner last.1 here.knows) (seq here.puts c.in_ok-behind.ensures);
    }

pub tree::tree-returns : goal.tree::tree-returns
tree::tree-returns t c =
    let here = c.loop-link.invariant in
    let tree = node_of c.args.tree.now in
    let none : length c.loop-link.links.items ≡ 0 = search (rules, c.in_default.ensures.cases.0) in
    let end : Chained tree [] here.inner = subst (λ ls. Chained tree ls here.inner) (no_items c.loop-link.links.items none) here.chained in
    subst (λ n. Puts (clause n) (state_of c.args.emitter.now) (state_of c.loop-link.emitter)) (sym end) here.puts

pub literals::procedure-returns : goal.literals::procedure-returns
literals::procedure-returns t c = on_ok c.name_unit.result (λ puts. closing_puts _ c.in_ok-unit.ensures puts) c.name_unit.ensures

pub literals::unit-returns : goal.literals::unit-returns
literals::unit-returns t c =
    let body = c.args.body.now in
    let e = c.put.new.self in
    let ends : Ends (ty_view body.gives) c.in_ok-counts.counts (state_of c.tree.new.emitter) (unit_view c.into_unit.result) = record {
      end = state_of e;
      puts = one_is (ap instr.Return c.kind_of-k.ensures) c.in_ok-put.ensures;
      is = c.into_unit.ensures ∙ ap (λ r. unit e.code.items r c.in_ok-frame.frame) (row_is e.constants.items) ∙ ap (unit e.code.items (row_of (map constant_view e.constants.items))) c.in_ok-frame.ensures;
    } in
    body_made (params_of (items_of body.params)) (ty_view body.gives) (node_of body.tree) body.scope body.line (c.in_ok-counts.ensures c.new-emitter.ensures) c.in_ok-tree.ensures ends

pub cases::case-tree-requires : goal.cases::case-tree-requires
cases::case-tree-requires t c = (omega (arith, c.decreases), tt)

pub cases::case-tree-requires-2 : goal.cases::case-tree-requires-2
cases::case-tree-requires-2 t c = (omega (arith, c.decreases), tt)

pub cases::put_arm-arm_labels-requires : goal.cases::put_arm-arm_labels-requires
cases::put_arm-arm_labels-requires t c = (omega (arith, c.decreases), tt)

pub cases::put_arm-tree-requires : goal.cases::put_arm-tree-requires
cases::put_arm-tree-requires t c = (omega (arith, c.decreases), tt)

pub cases::put_label-tree-requires : goal.cases::put_label-tree-requires
cases::put_label-tree-requires t c = (omega (arith, c.decreases), tt)

pub jumps::block-all-requires : goal.jumps::block-all-requires
jumps::block-all-requires t c = (omega (arith, c.decreases), tt)

pub jumps::for_loop-one_then-requires : goal.jumps::for_loop-one_then-requires
jumps::for_loop-one_then-requires t c = (omega (arith, c.decreases), tt)

pub jumps::for_loop-one_then-requires-2 : goal.jumps::for_loop-one_then-requires-2
jumps::for_loop-one_then-requires-2 t c = (omega (arith, c.decreases), tt)

pub jumps::for_loop-one_then-requires-3 : goal.jumps::for_loop-one_then-requires-3
jumps::for_loop-one_then-requires-3 t c = (omega (arith, c.decreases), tt)

pub jumps::for_loop-for_turns-requires : goal.jumps::for_loop-for_turns-requires
jumps::for_loop-for_turns-requires t c = (omega (arith, c.decreases), tt)

pub jumps::for_turns-tree-requires : goal.jumps::for_turns-tree-requires
jumps::for_turns-tree-requires t c = (omega (arith, c.decreases), tt)

pub jumps::if_else-tree-requires : goal.jumps::if_else-tree-requires
jumps::if_else-tree-requires t c = (omega (arith, c.decreases), tt)

pub jumps::if_else-jump_over-requires : goal.jumps::if_else-jump_over-requires
jumps::if_else-jump_over-requires t c = (omega (arith, c.decreases), tt)

pub jumps::if_else-tree-requires-2 : goal.jumps::if_else-tree-requires-2
jumps::if_else-tree-requires-2 t c = (omega (arith, c.decreases), tt)

pub jumps::jump_over-tree-requires : goal.jumps::jump_over-tree-requires
jumps::jump_over-tree-requires t c = (omega (arith, c.decreases), tt)

pub jumps::repeat_loop-jump_over-requires : goal.jumps::repeat_loop-jump_over-requires
jumps::repeat_loop-jump_over-requires t c = (omega (arith, c.decreases), tt)

pub jumps::repeat_loop-two_then-requires : goal.jumps::repeat_loop-two_then-requires
jumps::repeat_loop-two_then-requires t c = (omega (arith, c.decreases), tt)

pub jumps::while_loop-jump_over-requires : goal.jumps::while_loop-jump_over-requires
jumps::while_loop-jump_over-requires t c = (omega (arith, c.decreases), tt)

pub jumps::while_loop-one_then-requires : goal.jumps::while_loop-one_then-requires
jumps::while_loop-one_then-requires t c = (omega (arith, c.decreases), tt)

pub literals::procedure-unit-requires : goal.literals::procedure-unit-requires
literals::procedure-unit-requires t c = (omega (arith, c.decreases), tt)

pub literals::unit-tree-requires : goal.literals::unit-tree-requires
literals::unit-tree-requires t c = (omega (arith, c.decreases), tt)

pub operands::all_then-all-requires : goal.operands::all_then-all-requires
operands::all_then-all-requires t c = (omega (arith, c.decreases), tt)

pub operands::one_then-tree-requires : goal.operands::one_then-tree-requires
operands::one_then-tree-requires t c = (omega (arith, c.decreases), tt)

pub operands::two_then-tree-requires : goal.operands::two_then-tree-requires
operands::two_then-tree-requires t c = (omega (arith, c.decreases), tt)

pub operands::two_then-one_then-requires : goal.operands::two_then-one_then-requires
operands::two_then-one_then-requires t c = (omega (arith, c.decreases), tt)

pub operands::vector_filled-tree-requires : goal.operands::vector_filled-tree-requires
operands::vector_filled-tree-requires t c = (omega (arith, c.decreases), tt)

pub operands::vector_filled-tree-requires-2 : goal.operands::vector_filled-tree-requires-2
operands::vector_filled-tree-requires-2 t c = (omega (arith, c.decreases), tt)

pub operands::vector_filled-tree-requires-3 : goal.operands::vector_filled-tree-requires-3
operands::vector_filled-tree-requires-3 t c = (omega (arith, c.decreases), tt)

pub operands::vector_of-tree-requires : goal.operands::vector_of-tree-requires
operands::vector_of-tree-requires t c = (omega (arith, c.decreases), tt)

pub operands::vector_of-all-requires : goal.operands::vector_of-all-requires
operands::vector_of-all-requires t c = (omega (arith, c.decreases), tt)

pub scans::scan-one_then-requires : goal.scans::scan-one_then-requires
scans::scan-one_then-requires t c = (omega (arith, c.decreases), tt)

pub scans::scan-one_then-requires-2 : goal.scans::scan-one_then-requires-2
scans::scan-one_then-requires-2 t c = (omega (arith, c.decreases), tt)

pub tree::behind-jump_over-requires : goal.tree::behind-jump_over-requires
tree::behind-jump_over-requires t c = let light = ap (λ f. weight (node_of_form f)) (sym c.deref.ensures ∙ c.in-And.is) in (omega (arith, c.decreases, light), tt)

pub tree::behind-jump_over-requires-in-Or : goal.tree::behind-jump_over-requires-in-Or
tree::behind-jump_over-requires-in-Or t c = let light = ap (λ f. weight (node_of_form f)) (sym c.deref.ensures ∙ c.in-Or.is) in (omega (arith, c.decreases, light), tt)

pub tree::behind-one_then-requires : goal.tree::behind-one_then-requires
tree::behind-one_then-requires t c = let light = ap (λ f. weight (node_of_form f)) (sym c.deref.ensures ∙ c.in-Arith.is) in (omega (arith, c.decreases, light), tt)

pub tree::behind-one_then-requires-in-Compare : goal.tree::behind-one_then-requires-in-Compare
tree::behind-one_then-requires-in-Compare t c = let light = ap (λ f. weight (node_of_form f)) (sym c.deref.ensures ∙ c.in-Compare.is) in (omega (arith, c.decreases, light), tt)

pub tree::behind-one_then-requires-in-Join : goal.tree::behind-one_then-requires-in-Join
tree::behind-one_then-requires-in-Join t c = let light = ap (λ f. weight (node_of_form f)) (sym c.deref.ensures ∙ c.in-Join.is) in (omega (arith, c.decreases, light), tt)

pub tree::behind-two_then-requires : goal.tree::behind-two_then-requires
tree::behind-two_then-requires t c = let light = ap (λ f. weight (node_of_form f)) (sym c.deref.ensures ∙ c.in-Part.is) in (omega (arith, c.decreases, light), tt)

pub tree::behind-tree-requires : goal.tree::behind-tree-requires
tree::behind-tree-requires t c = let light = ap (λ f. weight (node_of_form f)) (sym c.deref.ensures ∙ c.in-SetField.is) in (omega (arith, c.decreases, light), tt)

pub tree::behind-one_then-requires-in-Element : goal.tree::behind-one_then-requires-in-Element
tree::behind-one_then-requires-in-Element t c = let light = ap (λ f. weight (node_of_form f)) (sym c.deref.ensures ∙ c.in-Element.is) in (omega (arith, c.decreases, light), tt)

pub tree::behind-two_then-requires-in-SetElement : goal.tree::behind-two_then-requires-in-SetElement
tree::behind-two_then-requires-in-SetElement t c = let light = ap (λ f. weight (node_of_form f)) (sym c.deref.ensures ∙ c.in-SetElement.is) in (omega (arith, c.decreases, light), tt)

pub tree::form-tree-requires : goal.tree::form-tree-requires
tree::form-tree-requires t c = let light = ap (λ f. weight (node_of_form f)) (sym c.deref.ensures ∙ c.in-IfDo.is) in (omega (arith, c.decreases, light), tt)

pub tree::form-jump_over-requires : goal.tree::form-jump_over-requires
tree::form-jump_over-requires t c = let light = ap (λ f. weight (node_of_form f)) (sym c.deref.ensures ∙ c.in-IfDo.is) in (omega (arith, c.decreases, light), tt)

pub tree::form-if_else-requires : goal.tree::form-if_else-requires
tree::form-if_else-requires t c = let light = ap (λ f. weight (node_of_form f)) (sym c.deref.ensures ∙ c.in-IfElse.is) in (omega (arith, c.decreases, light), tt)

pub tree::form-while_loop-requires : goal.tree::form-while_loop-requires
tree::form-while_loop-requires t c = let light = ap (λ f. weight (node_of_form f)) (sym c.deref.ensures ∙ c.in-While.is) in (omega (arith, c.decreases, light), tt)

pub tree::form-repeat_loop-requires : goal.tree::form-repeat_loop-requires
tree::form-repeat_loop-requires t c = let light = ap (λ f. weight (node_of_form f)) (sym c.deref.ensures ∙ c.in-Repeat.is) in (omega (arith, c.decreases, light), tt)

pub tree::form-vector_filled-requires : goal.tree::form-vector_filled-requires
tree::form-vector_filled-requires t c = let light = ap (λ f. weight (node_of_form f)) (sym c.deref.ensures ∙ c.in-Fill.is) in (omega (arith, c.decreases, light), tt)

pub tree::form-scan-requires : goal.tree::form-scan-requires
tree::form-scan-requires t c = let light = ap (λ f. weight (node_of_form f)) (sym c.deref.ensures ∙ c.in-Scan.is) in (omega (arith, c.decreases, light), tt)

pub tree::form-two_then-requires : goal.tree::form-two_then-requires
tree::form-two_then-requires t c = let light = ap (λ f. weight (node_of_form f)) (sym c.deref.ensures ∙ c.in-Write.is) in (omega (arith, c.decreases, light), tt)

-- the code of each form

pub tree::behind-returns-in-SetName : goal.tree::behind-returns-in-SetName
tree::behind-returns-in-SetName t c =
    subst (λ f. OnOk c.put.result (Puts (behind_of (type_in c.args.known) (node_of_form f)) (state_of c.args.emitter.now) (state_of c.put.new.self))) (sym c.in-SetName.is ∙ c.deref.ensures)
    (on_ok c.put.result (λ puts. one_is c.set.ensures puts) c.put.ensures)

pub tree::behind-returns-in-Let : goal.tree::behind-returns-in-Let
tree::behind-returns-in-Let t c =
    subst (λ f. OnOk c.declare.result (Puts (behind_of (type_in c.args.known) (node_of_form f)) (state_of c.args.emitter.now) (state_of c.declare.new.self))) (sym c.in-Let.is ∙ c.deref.ensures)
    c.declare.ensures

pub tree::behind-returns-in-And : goal.tree::behind-returns-in-And
tree::behind-returns-in-And t c =
    subst (λ f. OnOk c.jump_over.result (Puts (behind_of (type_in c.args.known) (node_of_form f)) (state_of c.args.emitter.now) (state_of c.jump_over.new.emitter))) (sym c.in-And.is ∙ c.deref.ensures)
    c.jump_over.ensures

pub tree::behind-returns-in-Or : goal.tree::behind-returns-in-Or
tree::behind-returns-in-Or t c =
    subst (λ f. OnOk c.jump_over-in-Or.result (Puts (behind_of (type_in c.args.known) (node_of_form f)) (state_of c.args.emitter.now) (state_of c.jump_over-in-Or.new.emitter))) (sym c.in-Or.is ∙ c.deref.ensures)
    c.jump_over-in-Or.ensures

pub tree::behind-returns-in-Not : goal.tree::behind-returns-in-Not
tree::behind-returns-in-Not t c =
    subst (λ f. OnOk c.put-in-Not.result (Puts (behind_of (type_in c.args.known) (node_of_form f)) (state_of c.args.emitter.now) (state_of c.put-in-Not.new.self))) (sym c.in-Not.is ∙ c.deref.ensures)
    c.put-in-Not.ensures

pub tree::behind-returns-in-Neg : goal.tree::behind-returns-in-Neg
tree::behind-returns-in-Neg t c =
    subst (λ f. OnOk c.put-in-Neg.result (Puts (behind_of (type_in c.args.known) (node_of_form f)) (state_of c.args.emitter.now) (state_of c.put-in-Neg.new.self))) (sym c.in-Neg.is ∙ c.deref.ensures)
    c.put-in-Neg.ensures

pub tree::behind-returns-in-Plus : goal.tree::behind-returns-in-Plus
tree::behind-returns-in-Plus t c =
    subst (λ f. OnOk c.nothing.result (Puts (behind_of (type_in c.args.known) (node_of_form f)) (state_of c.args.emitter.now) (state_of c.nothing.new.self))) (sym c.in-Plus.is ∙ c.deref.ensures)
    c.nothing.ensures

pub tree::behind-returns-in-Arith : goal.tree::behind-returns-in-Arith
tree::behind-returns-in-Arith t c =
    subst (λ f. OnOk c.one_then.result (Puts (behind_of (type_in c.args.known) (node_of_form f)) (state_of c.args.emitter.now) (state_of c.one_then.new.emitter))) (sym c.in-Arith.is ∙ c.deref.ensures)
    (on_ok c.one_then.result (λ puts. last_is _ c.arith.ensures puts) c.one_then.ensures)

pub tree::behind-returns-in-Compare : goal.tree::behind-returns-in-Compare
tree::behind-returns-in-Compare t c =
    subst (λ f. OnOk c.one_then-in-Compare.result (Puts (behind_of (type_in c.args.known) (node_of_form f)) (state_of c.args.emitter.now) (state_of c.one_then-in-Compare.new.emitter))) (sym c.in-Compare.is ∙ c.deref.ensures)
    (on_ok c.one_then-in-Compare.result (λ puts. last_is _ c.compare.ensures puts) c.one_then-in-Compare.ensures)

pub tree::behind-returns-in-Join : goal.tree::behind-returns-in-Join
tree::behind-returns-in-Join t c =
    subst (λ f. OnOk c.one_then-in-Join.result (Puts (behind_of (type_in c.args.known) (node_of_form f)) (state_of c.args.emitter.now) (state_of c.one_then-in-Join.new.emitter))) (sym c.in-Join.is ∙ c.deref.ensures)
    c.one_then-in-Join.ensures

pub tree::behind-returns-in-Part : goal.tree::behind-returns-in-Part
tree::behind-returns-in-Part t c =
    subst (λ f. OnOk c.two_then.result (Puts (behind_of (type_in c.args.known) (node_of_form f)) (state_of c.args.emitter.now) (state_of c.two_then.new.emitter))) (sym c.in-Part.is ∙ c.deref.ensures)
    c.two_then.ensures

pub tree::behind-returns-in-Element : goal.tree::behind-returns-in-Element
tree::behind-returns-in-Element t c =
    subst (λ f. OnOk c.one_then-in-Element.result (Puts (behind_of (type_in c.args.known) (node_of_form f)) (state_of c.args.emitter.now) (state_of c.one_then-in-Element.new.emitter))) (sym c.in-Element.is ∙ c.deref.ensures)
    (on_ok c.one_then-in-Element.result (λ puts. last_is _ c.by_type.ensures puts) c.one_then-in-Element.ensures)

pub tree::behind-returns-in-SetElement : goal.tree::behind-returns-in-SetElement
tree::behind-returns-in-SetElement t c =
    subst (λ f. OnOk c.two_then-in-SetElement.result (Puts (behind_of (type_in c.args.known) (node_of_form f)) (state_of c.args.emitter.now) (state_of c.two_then-in-SetElement.new.emitter))) (sym c.in-SetElement.is ∙ c.deref.ensures)
    (on_ok c.two_then-in-SetElement.result (λ puts. third_is _ _ c.by_type-in-SetElement.ensures puts) c.two_then-in-SetElement.ensures)

pub tree::behind-returns-in-Bound : goal.tree::behind-returns-in-Bound
tree::behind-returns-in-Bound t c =
    subst (λ f. OnOk c.put-in-Bound.result (Puts (behind_of (type_in c.args.known) (node_of_form f)) (state_of c.args.emitter.now) (state_of c.put-in-Bound.new.self))) (sym c.in-Bound.is ∙ c.deref.ensures)
    (on_ok c.put-in-Bound.result (λ puts. one_is c.bound.ensures puts) c.put-in-Bound.ensures)

pub tree::form-returns-in-Flag : goal.tree::form-returns-in-Flag
tree::form-returns-in-Flag t c =
    subst (λ f. OnOk c.put-in-Flag.result (Puts (made (node_of_form f)) (state_of c.args.emitter.now) (state_of c.put-in-Flag.new.self))) (sym c.in-Flag.is ∙ c.deref.ensures)
    (on_ok c.put-in-Flag.result (λ puts. one_is c.flag.ensures puts) c.put-in-Flag.ensures)

pub tree::form-returns-in-Nil : goal.tree::form-returns-in-Nil
tree::form-returns-in-Nil t c =
    subst (λ f. OnOk c.put-in-Nil.result (Puts (made (node_of_form f)) (state_of c.args.emitter.now) (state_of c.put-in-Nil.new.self))) (sym c.in-Nil.is ∙ c.deref.ensures)
    c.put-in-Nil.ensures

pub tree::form-returns-in-Name : goal.tree::form-returns-in-Name
tree::form-returns-in-Name t c =
    subst (λ f. OnOk c.put-in-Name.result (Puts (made (node_of_form f)) (state_of c.args.emitter.now) (state_of c.put-in-Name.new.self))) (sym c.in-Name.is ∙ c.deref.ensures)
    (on_ok c.put-in-Name.result (λ puts. one_is c.get.ensures puts) c.put-in-Name.ensures)

pub tree::form-returns-in_ok-tree-in-IfDo : goal.tree::form-returns-in_ok-tree-in-IfDo
tree::form-returns-in_ok-tree-in-IfDo t c =
    subst (λ f. OnOk c.jump_over.result (Puts (made (node_of_form f)) (state_of c.args.emitter.now) (state_of c.jump_over.new.emitter))) (sym c.in-IfDo.is ∙ c.deref.ensures)
    (on_ok c.jump_over.result (λ puts. seq c.in_ok-tree-in-IfDo.ensures puts) c.jump_over.ensures)

pub tree::form-returns-in-IfElse : goal.tree::form-returns-in-IfElse
tree::form-returns-in-IfElse t c =
    subst (λ f. OnOk c.if_else.result (Puts (made (node_of_form f)) (state_of c.args.emitter.now) (state_of c.if_else.new.emitter))) (sym c.in-IfElse.is ∙ c.deref.ensures)
    c.if_else.ensures

pub tree::form-returns-in-While : goal.tree::form-returns-in-While
tree::form-returns-in-While t c =
    subst (λ f. OnOk c.while_loop.result (Puts (made (node_of_form f)) (state_of c.args.emitter.now) (state_of c.while_loop.new.emitter))) (sym c.in-While.is ∙ c.deref.ensures)
    c.while_loop.ensures

pub tree::form-returns-in-Repeat : goal.tree::form-returns-in-Repeat
tree::form-returns-in-Repeat t c =
    subst (λ f. OnOk c.repeat_loop.result (Puts (made (node_of_form f)) (state_of c.args.emitter.now) (state_of c.repeat_loop.new.emitter))) (sym c.in-Repeat.is ∙ c.deref.ensures)
    c.repeat_loop.ensures

pub tree::form-returns-in-Fill : goal.tree::form-returns-in-Fill
tree::form-returns-in-Fill t c =
    subst (λ f. OnOk c.vector_filled.result (Puts (made (node_of_form f)) (state_of c.args.emitter.now) (state_of c.vector_filled.new.emitter))) (sym c.in-Fill.is ∙ c.deref.ensures)
    c.vector_filled.ensures

pub tree::form-returns-in-Scan : goal.tree::form-returns-in-Scan
tree::form-returns-in-Scan t c =
    subst (λ f. OnOk c.scan.result (Puts (made (node_of_form f)) (state_of c.args.emitter.now) (state_of c.scan.new.emitter))) (sym c.in-Scan.is ∙ c.deref.ensures)
    c.scan.ensures

pub tree::form-returns-in-Write : goal.tree::form-returns-in-Write
tree::form-returns-in-Write t c =
    subst (λ f. OnOk c.two_then.result (Puts (made (node_of_form f)) (state_of c.args.emitter.now) (state_of c.two_then.new.emitter))) (sym c.in-Write.is ∙ c.deref.ensures)
    (on_ok c.two_then.result (λ puts. third_is _ _ c.write.ensures puts) c.two_then.ensures)

pub tree::form-returns-in-Abort : goal.tree::form-returns-in-Abort
tree::form-returns-in-Abort t c =
    subst (λ f. OnOk c.put-in-Abort.result (Puts (made (node_of_form f)) (state_of c.args.emitter.now) (state_of c.put-in-Abort.new.self))) (sym c.in-Abort.is ∙ c.deref.ensures)
    c.put-in-Abort.ensures

-- the exits of `?`

pub cases::put_arm-returns-in_err-past : goal.cases::put_arm-returns-in_err-past
cases::put_arm-returns-in_err-past t c = IfOk-from_err _ _ c.from_residual.ensures.0

pub cases::put_arm-returns-in_err-put : goal.cases::put_arm-returns-in_err-put
cases::put_arm-returns-in_err-put t c = IfOk-from_err _ _ c.from_residual-in_err-put.ensures.0

pub cases::put_arm-returns-in_err-tree : goal.cases::put_arm-returns-in_err-tree
cases::put_arm-returns-in_err-tree t c = IfOk-from_err _ _ c.from_residual-in_err-tree.ensures.0

pub cases::put_arm-returns-in_err-out : goal.cases::put_arm-returns-in_err-out
cases::put_arm-returns-in_err-out t c = IfOk-from_err _ _ c.from_residual-in_err-out.ensures.0

pub cases::put_arm-returns-in_err-next : goal.cases::put_arm-returns-in_err-next
cases::put_arm-returns-in_err-next t c = IfOk-from_err _ _ c.from_residual-in_err-next.ensures.0

pub cases::put_arm-returns-in_err-overwrite : goal.cases::put_arm-returns-in_err-overwrite
cases::put_arm-returns-in_err-overwrite t c = IfOk-from_err _ _ c.from_residual-in_err-overwrite.ensures.0

pub jumps::block-returns-in_err-enter : goal.jumps::block-returns-in_err-enter
jumps::block-returns-in_err-enter t c = IfOk-from_err _ _ c.from_residual.ensures.0

pub jumps::block-returns-in_err-all : goal.jumps::block-returns-in_err-all
jumps::block-returns-in_err-all t c = IfOk-from_err _ _ c.from_residual-in_err-all.ensures.0

pub jumps::for_loop-returns-in_err-step : goal.jumps::for_loop-returns-in_err-step
jumps::for_loop-returns-in_err-step t c = IfOk-from_err _ _ c.from_residual.ensures.0

pub jumps::for_loop-returns-in_err-take : goal.jumps::for_loop-returns-in_err-take
jumps::for_loop-returns-in_err-take t c = IfOk-from_err _ _ c.from_residual-in_err-take.ensures.0

pub jumps::for_loop-returns-in_err-take_place : goal.jumps::for_loop-returns-in_err-take_place
jumps::for_loop-returns-in_err-take_place t c = IfOk-from_err _ _ c.from_residual-in_err-take_place.ensures.0

pub jumps::for_loop-returns-in_err-one_then : goal.jumps::for_loop-returns-in_err-one_then
jumps::for_loop-returns-in_err-one_then t c = IfOk-from_err _ _ c.from_residual-in_err-one_then.ensures.0

pub jumps::for_loop-returns-in_err-one_then-2 : goal.jumps::for_loop-returns-in_err-one_then-2
jumps::for_loop-returns-in_err-one_then-2 t c = IfOk-from_err _ _ c.from_residual-in_err-one_then-2.ensures.0

pub jumps::for_loop-returns-in_err-one_then-3 : goal.jumps::for_loop-returns-in_err-one_then-3
jumps::for_loop-returns-in_err-one_then-3 t c = IfOk-from_err _ _ c.from_residual-in_err-one_then-3.ensures.0

pub jumps::for_turns-returns-in_err-turn : goal.jumps::for_turns-returns-in_err-turn
jumps::for_turns-returns-in_err-turn t c = IfOk-from_err _ _ c.from_residual.ensures.0

pub jumps::for_turns-returns-in_err-hole : goal.jumps::for_turns-returns-in_err-hole
jumps::for_turns-returns-in_err-hole t c = IfOk-from_err _ _ c.from_residual-in_err-hole.ensures.0

pub jumps::for_turns-returns-in_err-enter : goal.jumps::for_turns-returns-in_err-enter
jumps::for_turns-returns-in_err-enter t c = IfOk-from_err _ _ c.from_residual-in_err-enter.ensures.0

pub jumps::for_turns-returns-in_err-put : goal.jumps::for_turns-returns-in_err-put
jumps::for_turns-returns-in_err-put t c = IfOk-from_err _ _ c.from_residual-in_err-put.ensures.0

pub jumps::for_turns-returns-in_err-put-2 : goal.jumps::for_turns-returns-in_err-put-2
jumps::for_turns-returns-in_err-put-2 t c = IfOk-from_err _ _ c.from_residual-in_err-put-2.ensures.0

pub jumps::for_turns-returns-in_err-tree : goal.jumps::for_turns-returns-in_err-tree
jumps::for_turns-returns-in_err-tree t c = IfOk-from_err _ _ c.from_residual-in_err-tree.ensures.0

pub jumps::for_turns-returns-in_err-leave : goal.jumps::for_turns-returns-in_err-leave
jumps::for_turns-returns-in_err-leave t c = IfOk-from_err _ _ c.from_residual-in_err-leave.ensures.0

pub jumps::for_turns-returns-in_err-put-3 : goal.jumps::for_turns-returns-in_err-put-3
jumps::for_turns-returns-in_err-put-3 t c = IfOk-from_err _ _ c.from_residual-in_err-put-3.ensures.0

pub jumps::for_turns-returns-in_err-end : goal.jumps::for_turns-returns-in_err-end
jumps::for_turns-returns-in_err-end t c = IfOk-from_err _ _ c.from_residual-in_err-end.ensures.0

pub jumps::jump_over-returns-in_err-hole : goal.jumps::jump_over-returns-in_err-hole
jumps::jump_over-returns-in_err-hole t c = IfOk-from_err _ _ c.from_residual.ensures.0

pub jumps::jump_over-returns-in_err-tree : goal.jumps::jump_over-returns-in_err-tree
jumps::jump_over-returns-in_err-tree t c = IfOk-from_err _ _ c.from_residual-in_err-tree.ensures.0

pub jumps::jump_over-returns-in_err-end : goal.jumps::jump_over-returns-in_err-end
jumps::jump_over-returns-in_err-end t c = IfOk-from_err _ _ c.from_residual-in_err-end.ensures.0

pub jumps::repeat_loop-returns-in_err-between : goal.jumps::repeat_loop-returns-in_err-between
jumps::repeat_loop-returns-in_err-between t c = IfOk-from_err _ _ c.from_residual.ensures.0

pub jumps::repeat_loop-returns-in_err-jump_over : goal.jumps::repeat_loop-returns-in_err-jump_over
jumps::repeat_loop-returns-in_err-jump_over t c = IfOk-from_err _ _ c.from_residual-in_err-jump_over.ensures.0

pub jumps::while_loop-returns-in_err-clause : goal.jumps::while_loop-returns-in_err-clause
jumps::while_loop-returns-in_err-clause t c = IfOk-from_err _ _ c.from_residual.ensures.0

pub jumps::while_loop-returns-in_err-jump_over : goal.jumps::while_loop-returns-in_err-jump_over
jumps::while_loop-returns-in_err-jump_over t c = IfOk-from_err _ _ c.from_residual-in_err-jump_over.ensures.0

pub literals::procedure-returns-in_err-unit : goal.literals::procedure-returns-in_err-unit
literals::procedure-returns-in_err-unit t c = IfOk-from_err _ _ c.from_residual.ensures.0

pub operands::all-returns-in_err-tree : goal.operands::all-returns-in_err-tree
operands::all-returns-in_err-tree t c = IfOk-from_err _ _ c.from_residual.ensures.0

pub operands::all_then-returns-in_err-all : goal.operands::all_then-returns-in_err-all
operands::all_then-returns-in_err-all t c = IfOk-from_err _ _ c.from_residual.ensures.0

pub operands::one_then-returns-in_err-tree : goal.operands::one_then-returns-in_err-tree
operands::one_then-returns-in_err-tree t c = IfOk-from_err _ _ c.from_residual.ensures.0

pub operands::two_then-returns-in_err-tree : goal.operands::two_then-returns-in_err-tree
operands::two_then-returns-in_err-tree t c = IfOk-from_err _ _ c.from_residual.ensures.0

pub operands::vector_filled-returns-in_err-tree : goal.operands::vector_filled-returns-in_err-tree
operands::vector_filled-returns-in_err-tree t c = IfOk-from_err _ _ c.from_residual.ensures.0

pub operands::vector_filled-returns-in_err-tree-2 : goal.operands::vector_filled-returns-in_err-tree-2
operands::vector_filled-returns-in_err-tree-2 t c = IfOk-from_err _ _ c.from_residual-in_err-tree-2.ensures.0

pub operands::vector_filled-returns-in_err-tree-3 : goal.operands::vector_filled-returns-in_err-tree-3
operands::vector_filled-returns-in_err-tree-3 t c = IfOk-from_err _ _ c.from_residual-in_err-tree-3.ensures.0

pub operands::vector_of-returns-in_err-count : goal.operands::vector_of-returns-in_err-count
operands::vector_of-returns-in_err-count t c = IfOk-from_err _ _ c.from_residual.ensures.0

pub operands::vector_of-returns-in_err-tree : goal.operands::vector_of-returns-in_err-tree
operands::vector_of-returns-in_err-tree t c = IfOk-from_err _ _ c.from_residual-in_err-tree.ensures.0

pub operands::vector_of-returns-in_err-all : goal.operands::vector_of-returns-in_err-all
operands::vector_of-returns-in_err-all t c = IfOk-from_err _ _ c.from_residual-in_err-all.ensures.0

pub scans::scan-returns-in_err-procedure : goal.scans::scan-returns-in_err-procedure
scans::scan-returns-in_err-procedure t c = IfOk-from_err _ _ c.from_residual.ensures.0

pub scans::scan-returns-in_err-take : goal.scans::scan-returns-in_err-take
scans::scan-returns-in_err-take t c = IfOk-from_err _ _ c.from_residual-in_err-take.ensures.0

pub scans::scan-returns-in_err-one_then : goal.scans::scan-returns-in_err-one_then
scans::scan-returns-in_err-one_then t c = IfOk-from_err _ _ c.from_residual-in_err-one_then.ensures.0

pub scans::scan-returns-in_err-one_then-2 : goal.scans::scan-returns-in_err-one_then-2
scans::scan-returns-in_err-one_then-2 t c = IfOk-from_err _ _ c.from_residual-in_err-one_then-2.ensures.0

pub scans::scan-returns-in_err-zeros : goal.scans::scan-returns-in_err-zeros
scans::scan-returns-in_err-zeros t c = IfOk-from_err _ _ c.from_residual-in_err-zeros.ensures.0

pub tree::tree-returns-in_err-innermost : goal.tree::tree-returns-in_err-innermost
tree::tree-returns-in_err-innermost t c = IfOk-from_err _ _ c.from_residual.ensures.0

pub tree::tree-returns-in_err-form : goal.tree::tree-returns-in_err-form
tree::tree-returns-in_err-form t c = IfOk-from_err _ _ c.from_residual-in_err-form.ensures.0

pub tree::tree-returns-in_err-known : goal.tree::tree-returns-in_err-known
tree::tree-returns-in_err-known t c = IfOk-from_err _ _ c.from_residual-in_err-known.ensures.0

pub tree::tree-returns-in_err-behind : goal.tree::tree-returns-in_err-behind
tree::tree-returns-in_err-behind t c = IfOk-from_err _ _ c.from_residual-in_err-behind.ensures.0

-- the loops go forward, and the arms that read after a box or a count

pub tree::form-returns-in-For : goal.tree::form-returns-in-For
tree::form-returns-in-For t c =
    subst (λ f. OnOk c.for_loop.result (Puts (made (node_of_form f)) (state_of c.args.emitter.now) (state_of c.for_loop.new.emitter))) (sym c.in-For.is ∙ c.deref.ensures)
    (subst (λ it. OnOk c.for_loop.result (Puts (made (node.For it.slot (node_of it.a) (node_of it.b) (node_of it.c) it.scope it.control (node_of it.s) it.line)) (state_of c.args.emitter.now) (state_of c.for_loop.new.emitter))) c.deref-in-For.ensures c.for_loop.ensures)

pub tree::form-returns-in-Text : goal.tree::form-returns-in-Text
tree::form-returns-in-Text t c =
    subst (λ f. OnOk c.name.result (Puts (made (node_of_form f)) (state_of c.args.emitter.now) (state_of c.name.new.self))) (sym c.in-Text.is ∙ c.deref.ensures)
    (subst (λ x. OnOk c.name.result (Puts (naming instr.Text (text x)) (state_of c.args.emitter.now) (state_of c.name.new.self))) c.as_slice.ensures c.name.ensures)

pub tree::form-returns-in-Proc : goal.tree::form-returns-in-Proc
tree::form-returns-in-Proc t c =
    subst (λ f. OnOk c.procedure.result (Puts (made (node_of_form f)) (state_of c.args.emitter.now) (state_of c.procedure.new.emitter))) (sym c.in-Proc.is ∙ c.deref.ensures)
    (subst (λ of. OnOk c.procedure.result (Puts (closing (body_of of)) (state_of c.args.emitter.now) (state_of c.procedure.new.emitter))) c.deref-in-Proc.ensures c.procedure.ensures)

pub tree::behind-returns-in-Is : goal.tree::behind-returns-in-Is
tree::behind-returns-in-Is t c =
    subst (λ f. OnOk c.name.result (Puts (behind_of (type_in c.args.known) (node_of_form f)) (state_of c.args.emitter.now) (state_of c.name.new.self))) (sym c.in-Is.is ∙ c.deref.ensures)
    (subst (λ x. OnOk c.name.result (Puts (naming instr.Is (text x)) (state_of c.args.emitter.now) (state_of c.name.new.self))) (c.as_slice.ensures ∙ c.deref-in-Is.ensures) c.name.ensures)

pub tree::behind-returns-in-Field : goal.tree::behind-returns-in-Field
tree::behind-returns-in-Field t c =
    subst (λ f. OnOk c.name-in-Field.result (Puts (behind_of (type_in c.args.known) (node_of_form f)) (state_of c.args.emitter.now) (state_of c.name-in-Field.new.self))) (sym c.in-Field.is ∙ c.deref.ensures)
    (subst (λ x. OnOk c.name-in-Field.result (Puts (naming (λ k. choice.by_type (ty_view c.in-Field.ty) (instr.FieldM k c.in-Field.index c.in-Field.line) (instr.FieldP k c.in-Field.index c.in-Field.line)) (text x)) (state_of c.args.emitter.now) (state_of c.name-in-Field.new.self))) (c.as_slice-in-Field.ensures ∙ c.deref-in-Field.ensures) c.name-in-Field.ensures)

pub tree::behind-returns-in_ok-tree-in-SetField : goal.tree::behind-returns-in_ok-tree-in-SetField
tree::behind-returns-in_ok-tree-in-SetField t c =
    let field : ℕ → Instr = λ k. choice.by_type (ty_view c.in-SetField.ty) (instr.SetFieldM k c.in-SetField.index c.in-SetField.line) (instr.SetFieldP k c.in-SetField.index c.in-SetField.line) in
    subst (λ f. OnOk c.name-in-SetField.result (Puts (behind_of (type_in c.args.known) (node_of_form f)) (state_of c.args.emitter.now) (state_of c.name-in-SetField.new.self))) (sym c.in-SetField.is ∙ c.deref.ensures)
    (on_ok c.name-in-SetField.result (λ puts. seq c.in_ok-tree-in-SetField.ensures (subst (λ x. Puts (naming field (text x)) (state_of c.tree.new.emitter) (state_of c.name-in-SetField.new.self)) (c.as_slice-in-SetField.ensures ∙ c.deref-in-SetField.ensures) puts)) c.name-in-SetField.ensures)

pub tree::form-for_loop-requires : goal.tree::form-for_loop-requires
tree::form-for_loop-requires t c =
    let light = ap (λ f. weight (node_of_form f)) (sym c.deref.ensures ∙ c.in-For.is) in
    let it = ap (λ (it : Loop). weight (node_of it.a) + weight (node_of it.b) + weight (node_of it.c) + weight (node_of it.s)) c.deref-in-For.ensures in (omega (arith, c.decreases, light, it), tt)

pub tree::form-procedure-requires : goal.tree::form-procedure-requires
tree::form-procedure-requires t c =
    let light = ap (λ f. weight (node_of_form f)) (sym c.deref.ensures ∙ c.in-Proc.is) in
    let body = ap (λ (body : Body). weight (node_of body.tree)) c.deref-in-Proc.ensures in (omega (arith, c.decreases, light, body), tt)

pub cases::case-loop-arm-smaller : goal.cases::case-loop-arm-smaller
cases::case-loop-arm-smaller t c =
    falls _ _ c.loop-arm-test.true

pub cases::arm_labels-loop-label-smaller : goal.cases::arm_labels-loop-label-smaller
cases::arm_labels-loop-label-smaller t c =
    falls _ _ c.loop-label-test.true

pub operands::all-loop-item-smaller : goal.operands::all-loop-item-smaller
operands::all-loop-item-smaller t c =
    falls _ _ c.loop-item-test.true

pub operands::all-offset_bounds-items-item-index : goal.operands::all-offset_bounds-items-item-index
operands::all-offset_bounds-items-item-index t c =
    search rules

pub cases::case-offset_bounds-arms-arm-index : goal.cases::case-offset_bounds-arms-arm-index
cases::case-offset_bounds-arms-arm-index t c =
    search rules

pub cases::arm_labels-offset_bounds-labels-label-index : goal.cases::arm_labels-offset_bounds-labels-label-index
cases::arm_labels-offset_bounds-labels-label-index t c =
    search rules

pub cases::put_label-returns-in_err-put : goal.cases::put_label-returns-in_err-put
cases::put_label-returns-in_err-put t c = IfOk-from_err _ _ c.from_residual.ensures.0

pub cases::put_label-returns-in_err-tree : goal.cases::put_label-returns-in_err-tree
cases::put_label-returns-in_err-tree t c = IfOk-from_err _ _ c.from_residual-in_err-tree.ensures.0

pub cases::put_label-returns-in_err-put-2 : goal.cases::put_label-returns-in_err-put-2
cases::put_label-returns-in_err-put-2 t c = IfOk-from_err _ _ c.from_residual-in_err-put-2.ensures.0

pub cases::case-returns-in_err-tree : goal.cases::case-returns-in_err-tree
cases::case-returns-in_err-tree t c = IfOk-from_err _ _ c.from_residual.ensures.0

pub cases::case-returns-in_err-end : goal.cases::case-returns-in_err-end
cases::case-returns-in_err-end t c = IfOk-from_err _ _ c.from_residual-in_err-end.ensures.0

pub cases::case-returns-in_err-push : goal.cases::case-returns-in_err-push
cases::case-returns-in_err-push t c = IfOk-from_err _ _ c.from_residual-in_err-push.ensures.0

pub cases::case-returns-in_err-put : goal.cases::case-returns-in_err-put
cases::case-returns-in_err-put t c = IfOk-from_err _ _ c.from_residual-in_err-put.ensures.0

pub cases::case-returns-in_err-tree-2 : goal.cases::case-returns-in_err-tree-2
cases::case-returns-in_err-tree-2 t c = IfOk-from_err _ _ c.from_residual-in_err-tree-2.ensures.0

pub cases::case-returns-in_err-end-2 : goal.cases::case-returns-in_err-end-2
cases::case-returns-in_err-end-2 t c = IfOk-from_err _ _ c.from_residual-in_err-end-2.ensures.0

pub cases::arm_labels-returns-in_err-hole : goal.cases::arm_labels-returns-in_err-hole
cases::arm_labels-returns-in_err-hole t c = IfOk-from_err _ _ c.from_residual.ensures.0

pub cases::arm_labels-returns-in_err-push : goal.cases::arm_labels-returns-in_err-push
cases::arm_labels-returns-in_err-push t c = IfOk-from_err _ _ c.from_residual-in_err-push.ensures.0

pub cases::arm_labels-returns-in_err-past : goal.cases::arm_labels-returns-in_err-past
cases::arm_labels-returns-in_err-past t c = IfOk-from_err _ _ c.from_residual-in_err-past.ensures.0

pub cases::arm_labels-returns-in_err-chosen : goal.cases::arm_labels-returns-in_err-chosen
cases::arm_labels-returns-in_err-chosen t c = IfOk-from_err _ _ c.from_residual-in_err-chosen.ensures.0

pub cases::arm_labels-returns-in_err-fill : goal.cases::arm_labels-returns-in_err-fill
cases::arm_labels-returns-in_err-fill t c = IfOk-from_err _ _ c.from_residual-in_err-fill.ensures.0

pub jumps::if_else-returns-in_err-tree : goal.jumps::if_else-returns-in_err-tree
jumps::if_else-returns-in_err-tree t c = IfOk-from_err _ _ c.from_residual.ensures.0

pub jumps::if_else-returns-in_err-test : goal.jumps::if_else-returns-in_err-test
jumps::if_else-returns-in_err-test t c = IfOk-from_err _ _ c.from_residual-in_err-test.ensures.0

pub jumps::if_else-returns-in_err-tree-2 : goal.jumps::if_else-returns-in_err-tree-2
jumps::if_else-returns-in_err-tree-2 t c = IfOk-from_err _ _ c.from_residual-in_err-tree-2.ensures.0

pub jumps::if_else-returns-in_err-other : goal.jumps::if_else-returns-in_err-other
jumps::if_else-returns-in_err-other t c = IfOk-from_err _ _ c.from_residual-in_err-other.ensures.0

pub jumps::if_else-returns-in_err-jump_over : goal.jumps::if_else-returns-in_err-jump_over
jumps::if_else-returns-in_err-jump_over t c = IfOk-from_err _ _ c.from_residual-in_err-jump_over.ensures.0

pub literals::unit-returns-in_err-counts : goal.literals::unit-returns-in_err-counts
literals::unit-returns-in_err-counts t c = IfOk-from_err _ _ c.from_residual.ensures.0

pub literals::unit-returns-in_err-tree : goal.literals::unit-returns-in_err-tree
literals::unit-returns-in_err-tree t c = IfOk-from_err _ _ c.from_residual-in_err-tree.ensures.0

pub literals::unit-returns-in_err-put : goal.literals::unit-returns-in_err-put
literals::unit-returns-in_err-put t c = IfOk-from_err _ _ c.from_residual-in_err-put.ensures.0

pub literals::unit-returns-in_err-frame : goal.literals::unit-returns-in_err-frame
literals::unit-returns-in_err-frame t c = IfOk-from_err _ _ c.from_residual-in_err-frame.ensures.0

pub tree::behind-returns-in_err-tree-in-SetField : goal.tree::behind-returns-in_err-tree-in-SetField
tree::behind-returns-in_err-tree-in-SetField t c = IfOk-from_err _ _ c.from_residual.ensures.0

pub tree::behind-returns-in_err-n-in-Call : goal.tree::behind-returns-in_err-n-in-Call
tree::behind-returns-in_err-n-in-Call t c = IfOk-from_err _ _ c.from_residual-in_err-n-in-Call.ensures.0

pub tree::form-returns-in_err-tree-in-IfDo : goal.tree::form-returns-in_err-tree-in-IfDo
tree::form-returns-in_err-tree-in-IfDo t c = IfOk-from_err _ _ c.from_residual.ensures.0

pub tree::form-returns-in_err-all-in-Make : goal.tree::form-returns-in_err-all-in-Make
tree::form-returns-in_err-all-in-Make t c = IfOk-from_err _ _ c.from_residual-in_err-all-in-Make.ensures.0
