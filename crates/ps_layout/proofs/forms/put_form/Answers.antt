use Rattle.std.proofs.Common.{◌≡◌, List, option_map, ◌∙◌, ap, sym, refl, arith}
use Rattle.ps_base.specs.List.{items_of}
use Rattle.ps_base.specs.TyView.{ty_view}
use Rattle.ps_base.specs.declared.ty.Ty.{Ty}
use Rattle.ps_tree.specs.declared.rough.Group.{Group}
use Rattle.ps_tree.specs.declared.rough.Named.{Named}
use Rattle.ps_tree.specs.declared.rough.RoughArm.{RoughArm}
use Rattle.ps_tree.specs.declared.rough.RoughRange.{RoughRange, out-RoughRange}
use Rattle.ps_tree.specs.Phrase as form
use Rattle.ps_tree.specs.Phrase.{Sequence, Repeat, For, Case, Write, Apply, Elems, named, form_of, phrase_of, groups_in}
use Rattle.ps_tree.specs.PhraseLists.{phrases_in, maybe_in, arms_in, items_in}
use Rattle.ps_tree.proofs.PhraseLemmas.{maybe_boxed-back, form_of-Sequence, form_of-Case, form_of-Write, form_of-Apply, form_of-Elems}
use Rattle.ps_layout.specs.Waiting.{waiting}
use Rattle.ps_layout.proofs.Printing.{puts_form, puts_one}
use Rattle.ps_layout.proofs.Views.{form_of-For}
use Rattle.ps_layout.proofs.forms.put_form.Goals as goal

pub returns-in-Sequence : goal.returns-in-Sequence
returns-in-Sequence c =
    let is : form_of c.args.form.now ≡ Sequence (phrases_in c.as_slice.result.now) =
    ap form_of c.in-Sequence.is ∙ form_of-Sequence c.in-Sequence.items ∙ ap (λ items. Sequence (phrases_in items)) (sym c.as_slice.ensures) in
    puts_form (waiting c.args.pending.now) (waiting c.put_block.new.pending) c.args.spot c.args.form.now
    (Sequence (phrases_in c.as_slice.result.now)) c.put_block.result is c.put_block.ensures

pub returns-in-IfDo : goal.returns-in-IfDo
returns-in-IfDo c =
    puts_form (waiting c.args.pending.now) (waiting c.put_conditional.new.pending) c.args.spot c.args.form.now
    (form.IfDo (phrase_of c.in-IfDo.c) (phrase_of c.in-IfDo.a)) c.put_conditional.result (ap form_of c.in-IfDo.is) c.put_conditional.ensures

pub returns-in-IfElse : goal.returns-in-IfElse
returns-in-IfElse c =
    puts_form (waiting c.args.pending.now) (waiting c.put_if_else.new.pending) c.args.spot c.args.form.now
    (form.IfElse (phrase_of c.in-IfElse.c) (phrase_of c.in-IfElse.a) (phrase_of c.in-IfElse.b))
    c.put_if_else.result (ap form_of c.in-IfElse.is) c.put_if_else.ensures

pub returns-in-While : goal.returns-in-While
returns-in-While c =
    puts_form (waiting c.args.pending.now) (waiting c.put_conditional-in-While.new.pending) c.args.spot c.args.form.now
    (form.While (phrase_of c.in-While.c) (phrase_of c.in-While.a))
    c.put_conditional-in-While.result (ap form_of c.in-While.is) c.put_conditional-in-While.ensures

pub returns-in-Repeat : goal.returns-in-Repeat
returns-in-Repeat c =
    let is : form_of c.args.form.now ≡ Repeat (phrase_of c.in-Repeat.a) (phrase_of c.in-Repeat.c)
    (maybe_in (option_map (λ clause. clause.value) c.in-Repeat.b)) =
    ap form_of c.in-Repeat.is ∙ ap (λ b. Repeat (phrase_of c.in-Repeat.a) (phrase_of c.in-Repeat.c) b) (maybe_boxed-back c.in-Repeat.b) in
    puts_form (waiting c.args.pending.now) (waiting c.put_repeat.new.pending) c.args.spot c.args.form.now
    (Repeat (phrase_of c.in-Repeat.a) (phrase_of c.in-Repeat.c) (maybe_in (option_map (λ clause. clause.value) c.in-Repeat.b)))
    c.put_repeat.result is c.put_repeat.ensures

pub returns-in-For : goal.returns-in-For
returns-in-For c =
    let loop = λ (n : Named) (r : RoughRange). For (named n) (phrase_of (out-RoughRange r).a)
    (phrase_of (out-RoughRange r).b) (maybe_in (out-RoughRange r).c) (phrase_of c.in-For.s) in
    let is : form_of c.args.form.now ≡ loop c.deref-in-For.result.now c.deref-in-For-2.result.now =
    ap form_of c.in-For.is ∙ form_of-For c.in-For.name c.in-For.range c.in-For.s
    ∙ ap (λ n. loop n c.in-For.range.value) (sym c.deref-in-For.ensures)
    ∙ ap (λ r. loop c.deref-in-For.result.now r) (sym c.deref-in-For-2.ensures) in
    puts_form (waiting c.args.pending.now) (waiting c.put_for.new.pending) c.args.spot c.args.form.now
    (loop c.deref-in-For.result.now c.deref-in-For-2.result.now) c.put_for.result is c.put_for.ensures

pub returns-in-Case : goal.returns-in-Case
returns-in-Case c =
    let choice = λ (arms : List RoughArm). Case (phrase_of c.in-Case.e) (arms_in arms) (phrase_of c.in-Case.d) in
    let is : form_of c.args.form.now ≡ choice c.as_slice-in-Case.result.now =
    ap form_of c.in-Case.is ∙ form_of-Case c.in-Case.e c.in-Case.arms c.in-Case.d
    ∙ ap (λ arms. choice (items_of arms)) (sym c.deref-in-Case.ensures) ∙ ap choice (sym c.as_slice-in-Case.ensures) in
    puts_form (waiting c.args.pending.now) (waiting c.put_case.new.pending) c.args.spot c.args.form.now
    (choice c.as_slice-in-Case.result.now) c.put_case.result is c.put_case.ensures

pub returns-in-Write : goal.returns-in-Write
returns-in-Write c =
    let is : form_of c.args.form.now ≡ Write (items_in c.as_slice-in-Write.result.now) =
    ap form_of c.in-Write.is ∙ form_of-Write c.in-Write.items ∙ ap (λ items. Write (items_in items)) (sym c.as_slice-in-Write.ensures) in
    puts_form (waiting c.args.pending.now) (waiting c.put_write.new.pending) c.args.spot c.args.form.now
    (Write (items_in c.as_slice-in-Write.result.now)) c.put_write.result is c.put_write.ensures

pub returns-in-Vector : goal.returns-in-Vector
returns-in-Vector c =
    puts_form (waiting c.args.pending.now) (waiting c.put_vector.new.pending) c.args.spot c.args.form.now
    (form.Vector (phrase_of c.in-Vector.l) (phrase_of c.in-Vector.u) (phrase_of c.in-Vector.e))
    c.put_vector.result (ap form_of c.in-Vector.is) c.put_vector.ensures

pub returns-in-Assign : goal.returns-in-Assign
returns-in-Assign c =
    puts_form (waiting c.args.pending.now) (waiting c.put_assign.new.pending) c.args.spot c.args.form.now
    (form.Assign (phrase_of c.in-Assign.x) (phrase_of c.in-Assign.e)) c.put_assign.result (ap form_of c.in-Assign.is) c.put_assign.ensures

pub returns-in-Or : goal.returns-in-Or
returns-in-Or c =
    puts_form (waiting c.args.pending.now) (waiting c.put_between.new.pending) c.args.spot c.args.form.now
    (form.Or (phrase_of c.in-Or.a) (phrase_of c.in-Or.b)) c.put_between.result (ap form_of c.in-Or.is) c.put_between.ensures

pub returns-in-And : goal.returns-in-And
returns-in-And c =
    puts_form (waiting c.args.pending.now) (waiting c.put_between-in-And.new.pending) c.args.spot c.args.form.now
    (form.And (phrase_of c.in-And.a) (phrase_of c.in-And.b)) c.put_between-in-And.result (ap form_of c.in-And.is) c.put_between-in-And.ensures

pub returns-in-Not : goal.returns-in-Not
returns-in-Not c =
    puts_form (waiting c.args.pending.now) (waiting c.put_before.new.pending) c.args.spot c.args.form.now
    (form.Not (phrase_of c.in-Not.e)) c.put_before.result (ap form_of c.in-Not.is) c.put_before.ensures

pub returns-in-Compare : goal.returns-in-Compare
returns-in-Compare c =
    puts_form (waiting c.args.pending.now) (waiting c.put_compare.new.pending) c.args.spot c.args.form.now
    (form.Compare c.in-Compare.op (phrase_of c.in-Compare.a) (phrase_of c.in-Compare.b)) c.put_compare.result (ap form_of c.in-Compare.is) c.put_compare.ensures

pub returns-in-Join : goal.returns-in-Join
returns-in-Join c =
    puts_form (waiting c.args.pending.now) (waiting c.put_between-in-Join.new.pending) c.args.spot c.args.form.now
    (form.Join (phrase_of c.in-Join.a) (phrase_of c.in-Join.b)) c.put_between-in-Join.result (ap form_of c.in-Join.is) c.put_between-in-Join.ensures

pub returns-in-Arith : goal.returns-in-Arith
returns-in-Arith c =
    puts_form (waiting c.args.pending.now) (waiting c.put_arith.new.pending) c.args.spot c.args.form.now
    (form.Arith c.in-Arith.op (phrase_of c.in-Arith.a) (phrase_of c.in-Arith.b)) c.put_arith.result (ap form_of c.in-Arith.is) c.put_arith.ensures

pub returns-in-Plus : goal.returns-in-Plus
returns-in-Plus c =
    puts_form (waiting c.args.pending.now) (waiting c.put_before-in-Plus.new.pending) c.args.spot c.args.form.now
    (form.Plus (phrase_of c.in-Plus.e)) c.put_before-in-Plus.result (ap form_of c.in-Plus.is) c.put_before-in-Plus.ensures

pub returns-in-Neg : goal.returns-in-Neg
returns-in-Neg c =
    puts_form (waiting c.args.pending.now) (waiting c.put_before-in-Neg.new.pending) c.args.spot c.args.form.now
    (form.Neg (phrase_of c.in-Neg.e)) c.put_before-in-Neg.result (ap form_of c.in-Neg.is) c.put_before-in-Neg.ensures

pub returns-in-Apply : goal.returns-in-Apply
returns-in-Apply c =
    let is : form_of c.args.form.now ≡ Apply (phrase_of c.in-Apply.f) (phrases_in c.as_slice-in-Apply.result.now) =
    ap form_of c.in-Apply.is ∙ form_of-Apply c.in-Apply.f c.in-Apply.args
    ∙ ap (λ args. Apply (phrase_of c.in-Apply.f) (phrases_in args)) (sym c.as_slice-in-Apply.ensures) in
    puts_form (waiting c.args.pending.now) (waiting c.put_apply.new.pending) c.args.spot c.args.form.now
    (Apply (phrase_of c.in-Apply.f) (phrases_in c.as_slice-in-Apply.result.now)) c.put_apply.result is c.put_apply.ensures

pub returns-in-Part : goal.returns-in-Part
returns-in-Part c =
    puts_form (waiting c.args.pending.now) (waiting c.put_part.new.pending) c.args.spot c.args.form.now
    (form.Part (phrase_of c.in-Part.s) (phrase_of c.in-Part.i) (phrase_of c.in-Part.n)) c.put_part.result (ap form_of c.in-Part.is) c.put_part.ensures

pub returns-in-Flag : goal.returns-in-Flag
returns-in-Flag c =
    puts_form (waiting c.args.pending.now) (waiting c.put_flag.new.pending) c.args.spot c.args.form.now
    (form.Flag c.in-Flag.value) c.put_flag.result (ap form_of c.in-Flag.is) c.put_flag.ensures

pub returns-in-Bound : goal.returns-in-Bound
returns-in-Bound c =
    puts_form (waiting c.args.pending.now) (waiting c.put_bound.new.pending) c.args.spot c.args.form.now
    (form.Bound c.in-Bound.upper (phrase_of c.in-Bound.e)) c.put_bound.result (ap form_of c.in-Bound.is) c.put_bound.ensures

pub returns-in-Elems : goal.returns-in-Elems
returns-in-Elems c =
    let is : form_of c.args.form.now ≡ Elems (phrase_of c.in-Elems.l) (ty_view c.deref-in-Elems.result.now) (phrases_in c.as_slice-in-Elems.result.now) =
    ap form_of c.in-Elems.is ∙ form_of-Elems c.in-Elems.l c.in-Elems.ty c.in-Elems.items
    ∙ ap (λ ty. Elems (phrase_of c.in-Elems.l) (ty_view ty) (phrases_in (items_of c.in-Elems.items))) (sym c.deref-in-Elems.ensures)
    ∙ ap (λ items. Elems (phrase_of c.in-Elems.l) (ty_view c.deref-in-Elems.result.now) (phrases_in items)) (sym c.as_slice-in-Elems.ensures) in
    puts_form (waiting c.args.pending.now) (waiting c.put_elems.new.pending) c.args.spot c.args.form.now
    (Elems (phrase_of c.in-Elems.l) (ty_view c.deref-in-Elems.result.now) (phrases_in c.as_slice-in-Elems.result.now)) c.put_elems.result is c.put_elems.ensures

pub returns-in-Let : goal.returns-in-Let
returns-in-Let c =
    let is : form_of c.args.form.now ≡ form.Let (named c.deref.result.now) c.in-Let.variable (phrase_of c.in-Let.e) =
    ap form_of c.in-Let.is ∙ ap (λ (n : Named). form.Let (named n) c.in-Let.variable (phrase_of c.in-Let.e)) (sym c.deref.ensures) in
    puts_form (waiting c.args.pending.now) (waiting c.put_let.new.pending) c.args.spot c.args.form.now
    (form.Let (named c.deref.result.now) c.in-Let.variable (phrase_of c.in-Let.e)) c.put_let.result is c.put_let.ensures

pub returns-in-Structure : goal.returns-in-Structure
returns-in-Structure c =
    let is : form_of c.args.form.now ≡ form.Structure (named c.deref-in-Structure.result.now) (groups_in c.as_slice-in-Structure.result.now) =
    ap form_of c.in-Structure.is ∙ ap (λ (n : Named). form.Structure (named n) (groups_in (items_of c.in-Structure.fields))) (sym c.deref-in-Structure.ensures)
    ∙ ap (λ (gs : List Group). form.Structure (named c.deref-in-Structure.result.now) (groups_in gs)) (sym c.as_slice-in-Structure.ensures) in
    puts_form (waiting c.args.pending.now) (waiting c.put_structure.new.pending) c.args.spot c.args.form.now
    (form.Structure (named c.deref-in-Structure.result.now) (groups_in c.as_slice-in-Structure.result.now)) c.put_structure.result is c.put_structure.ensures

pub returns-in-Proc : goal.returns-in-Proc
returns-in-Proc c =
    let is : form_of c.args.form.now ≡ form.Proc (groups_in c.as_slice-in-Proc.result.now) (ty_view c.deref-in-Proc.result.now) (phrase_of c.in-Proc.s) =
    ap form_of c.in-Proc.is
    ∙ ap (λ (gs : List Group). form.Proc (groups_in gs) (ty_view c.in-Proc.gives.value) (phrase_of c.in-Proc.s)) (sym c.as_slice-in-Proc.ensures)
    ∙ ap (λ (gives : Ty). form.Proc (groups_in c.as_slice-in-Proc.result.now) (ty_view gives) (phrase_of c.in-Proc.s)) (sym c.deref-in-Proc.ensures) in
    puts_form (waiting c.args.pending.now) (waiting c.put_proc.new.pending) c.args.spot c.args.form.now
    (form.Proc (groups_in c.as_slice-in-Proc.result.now) (ty_view c.deref-in-Proc.result.now) (phrase_of c.in-Proc.s)) c.put_proc.result is c.put_proc.ensures

pub returns-in-Is : goal.returns-in-Is
returns-in-Is c =
    let is : form_of c.args.form.now ≡ form.Is (phrase_of c.in-Is.e) (named c.deref-in-Is.result.now) c.in-Is.negated =
    ap form_of c.in-Is.is ∙ ap (λ (n : Named). form.Is (phrase_of c.in-Is.e) (named n) c.in-Is.negated) (sym c.deref-in-Is.ensures) in
    puts_form (waiting c.args.pending.now) (waiting c.put_is.new.pending) c.args.spot c.args.form.now
    (form.Is (phrase_of c.in-Is.e) (named c.deref-in-Is.result.now) c.in-Is.negated) c.put_is.result is c.put_is.ensures

pub returns-in-Abort : goal.returns-in-Abort
returns-in-Abort c =
    let old = waiting c.args.pending.now in
    let new = waiting c.put.new.self in
    puts_form old new c.args.spot c.args.form.now (form.Abort) c.put.result (ap form_of c.in-Abort.is)
    (puts_one _ old new c.put.result c.put.ensures refl (omega arith))

pub returns-in-Nil : goal.returns-in-Nil
returns-in-Nil c =
    let old = waiting c.args.pending.now in
    let new = waiting c.put-in-Nil.new.self in
    puts_form old new c.args.spot c.args.form.now (form.Nil) c.put-in-Nil.result (ap form_of c.in-Nil.is)
    (puts_one _ old new c.put-in-Nil.result c.put-in-Nil.ensures refl (omega arith))

pub returns-in-Name : goal.returns-in-Name
returns-in-Name c =
    let old = waiting c.args.pending.now in
    let new = waiting c.put-in-Name.new.self in
    puts_form old new c.args.spot c.args.form.now
    (form.Name c.as_slice-in-Name.result.now) c.put-in-Name.result (ap form_of c.in-Name.is ∙ ap form.Name (sym c.as_slice-in-Name.ensures))
    (puts_one _ old new c.put-in-Name.result c.put-in-Name.ensures refl (omega arith))

pub returns-in-Text : goal.returns-in-Text
returns-in-Text c =
    let old = waiting c.args.pending.now in
    let new = waiting c.put-in-Text.new.self in
    puts_form old new c.args.spot c.args.form.now
    (form.Text c.as_slice-in-Text.result.now) c.put-in-Text.result (ap form_of c.in-Text.is ∙ ap form.Text (sym c.as_slice-in-Text.ensures))
    (puts_one _ old new c.put-in-Text.result c.put-in-Text.ensures refl (omega arith))
