use Rattle.std.proofs.Common.{◌≡◌, ℕ, ℤ, List, drop, sym, ap, ◌∙◌, subst, arith}
use Rattle.std.proofs.lemmas.List.Elements.{All-drop}
use Rattle.machine_core.specs.swizzle.Text.{text_at}
use Rattle.machine_core.specs.text_forms.Forms.{forms_of}
use Rattle.machine_core.specs.heap_places.Filling.{AreNear}
use Rattle.machine_core.specs.objects.Makes.{AreRowsFor}
use Rattle.machine_core.specs.objects.structure_rows.Rows.{named}
use Rattle.machine_core.specs.Naming.{IsNamed}
use Rattle.machine_operands.proofs.Parts.{making-fails}
use Rattle.machine_structures.proofs.LaidFields.{near-named}
use Rattle.machine_structures.proofs.Making.{rows-made, too-few-nums, too-few-refs}
use Rattle.machine_structures.proofs.makes.make_of_rows.Goals as goal

pub returns-in_default-clause-takes : goal.returns-in_default-clause-takes
returns-in_default-clause-takes g c = λ v.
    let few = c.in_default.ensures in
    too-few-nums (g.V.Vault.outside v) c.args.m.now c.args.class c.requires.class c.requires.sound (omega (arith, c.len.ensures, few))

pub returns-in_default-below_top-clause-takes : goal.returns-in_default-below_top-clause-takes
returns-in_default-below_top-clause-takes g c = λ v.
    let few = c.in_default-below_top.ensures in
    too-few-refs (g.V.Vault.outside v) c.args.m.now c.args.class c.requires.class c.requires.sound (omega (arith, c.len-2.ensures, few))

pub make_from-made-requires-clause-near : goal.make_from-made-requires-clause-near
make_from-made-requires-clause-near g c =
    let m = c.args.m.now in
    let j = c.in-Some-below_top.first_ref in
    subst (λ (ws : List ℕ). AreNear m.objects (named ws)) (sym (c.top_refs.ensures ∙ ap (drop j) c.own-2.ensures))
    (near-named m.objects (drop j m.refs.own) (All-drop (λ word. IsNamed m.objects word) j m.refs.own c.requires.names.own))

pub returns-clause-takes : goal.returns-clause-takes
returns-clause-takes g c = λ v.
    let out = g.V.Vault.outside v in
    let m = c.args.m.now in
    let class = c.args.class in
    let i = c.in-Some.first_num in
    let j = c.in-Some-below_top.first_ref in
    let made = c.make_from-made in
    let forms = forms_of (text_at m.objects class.text) in
    let nums : c.top_nums.result.now ≡ drop i m.nums.own = c.top_nums.ensures ∙ ap (drop i) c.own.ensures in
    let refs : c.top_refs.result.now ≡ drop j m.refs.own = c.top_refs.ensures ∙ ap (drop j) c.own-2.ensures in
    rows-made out m class c.requires.class i j c.in-Some.ensures.1 c.in-Some-below_top.ensures.1 (c.in-Some.ensures.0 ∙ c.len.ensures)
    (c.in-Some-below_top.ensures.0 ∙ c.len-2.ensures) made.new.self c.truncate.new.self c.truncate-2.new.self c.truncate.ensures.own c.truncate-2.ensures.own
    c.truncate.ensures.below c.truncate-2.ensures.below made.result c.give_object.new.m c.give_object.result _ made.ensures.keeps made.ensures.held
    (λ of names values world rows. made.ensures.made v of names values world
    (subst (λ (zs : List ℤ). AreRowsFor m.objects out names forms zs c.top_refs.result.now values) (sym nums)
    (subst (λ (ws : List ℕ). AreRowsFor m.objects out names forms (drop i m.nums.own) ws values) (sym refs) rows)))
    (c.give_object.ensures v)

pub returns-clause-fails : goal.returns-clause-fails
returns-clause-fails g c = λ v.
    let made = c.make_from-made in
    making-fails (g.V.Vault.outside v) c.args.m.now.objects made.new.self c.give_object.new.m c.give_object.result made.result
    (c.give_object.ensures v).ends.breaks made.ensures.fails
