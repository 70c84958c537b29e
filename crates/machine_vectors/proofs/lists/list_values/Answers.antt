use Rattle.std.proofs.Common.{◌≡◌, List, length, replicate, w32, to_z, of_z, rules, sym, subst}
use Rattle.machine_core.specs.text_forms.Forms.{element_of}
use Rattle.machine_core.specs.heap_places.declared.value.Value.{Value}
use Rattle.machine_core.specs.joint_ops.Operands.{AreForIn}
use Rattle.machine_operands.proofs.Parts.{making-fails}
use Rattle.machine_vectors.proofs.VectorLists.{list-made}
use Rattle.machine_vectors.proofs.lists.list_values.Goals as goal

pub returns-clause-makes : goal.returns-clause-makes
returns-clause-makes g c =
    let v = c.args.vault.now in
    let out = g.V.Vault.outside v in
    let p = c.in-Some.ensures in
    let made = c.make_list-made in
    let give = c.give_object in
    let low = c.in-Some.low in
    let same : to_z w32 (of_z w32 low) ≡ low = search rules in
    let one = c.pop_int.new.m in
    let same_values : c.deref.result.now ≡ one.values.items = search rules in
    list-made out c.args.ty c.args.line c.args.m.now one p.leaves low _ same (p.pops v) p.names made.new.self give.new.m give.result made.result
    made.ensures.keeps made.ensures.held
    (λ of names text elements w d are.
    made.ensures.made of names text elements w d
    (subst (λ (ks : List Value). AreForIn one.objects out names (replicate (length ks) (element_of text)) ks elements) (sym same_values) are)) (give.ensures v)

pub returns-clause-fails : goal.returns-clause-fails
returns-clause-fails g c =
    let v = c.args.vault.now in
    let made = c.make_list-made in
    let give = c.give_object in
    making-fails (g.V.Vault.outside v) c.pop_int.new.m.objects made.new.self give.new.m give.result made.result (give.ensures v).ends.breaks made.ensures.fails
