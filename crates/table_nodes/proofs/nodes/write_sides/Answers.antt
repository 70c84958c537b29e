use Rattle.table_nodes.proofs.NodeLaws.{links}
use Rattle.std.proofs.Common.{sym, subst}
use Rattle.heap_places.specs.swizzle.Heap.{Heap, IsListed}
use Rattle.table_nodes.proofs.MarkingLaws.{marked_listed}
use Rattle.table_nodes.proofs.Sparing.{spares_sides}
use Rattle.table_nodes.proofs.BringLaws.{none_mark, none_num, none_ref}
use Rattle.table_nodes.proofs.nodes.write_sides.Goals as goal

pub returns-clause-linked : goal.returns-clause-linked
returns-clause-linked g c =
    links c.args.sw.now c.set_ref.new.self c.set_ref-2.new.self c.set_num.new.self c.mark.new.self (g.V.Vault.outside c.args.vault.now) c.args.at c.args.left c.args.right c.args.height
    c.requires.node c.sound.ensures c.sound-2.ensures c.sound-3.ensures c.sound-4.ensures c.sound-5.ensures
    c.set_ref.ensures.written c.set_ref-2.ensures.written c.set_num.ensures.written c.mark.ensures.written
    c.set_ref.ensures.stands c.set_ref-2.ensures.stands c.set_num.ensures.stands c.mark.ensures.stands

pub returns-clause-marked : goal.returns-clause-marked
returns-clause-marked g c =
    let held = (c.set_num.ensures.stands c.args.at (c.set_ref-2.ensures.stands c.args.at (c.set_ref.ensures.stands c.args.at c.requires.node.held).held).held).held in
    subst (λ (h : Heap). IsListed c.args.at h.assigned) (sym c.mark.ensures.written) (marked_listed c.set_num.new.self c.args.at c.sound-4.ensures held)

pub returns-clause-spares : goal.returns-clause-spares
returns-clause-spares g c =
    spares_sides c.args.sw.now c.set_ref.new.self c.set_ref-2.new.self c.set_num.new.self c.mark.new.self (g.V.Vault.outside c.args.vault.now) c.args.at c.args.left c.args.right c.args.height
    c.requires.node c.sound.ensures c.sound-2.ensures c.sound-3.ensures c.sound-4.ensures c.sound-5.ensures
    c.set_ref.ensures.written c.set_ref-2.ensures.written c.set_num.ensures.written c.mark.ensures.written
    c.set_ref.ensures.stands c.set_ref-2.ensures.stands c.set_num.ensures.stands c.mark.ensures.stands

pub returns-clause-none : goal.returns-clause-none
returns-clause-none g c at held =
    let there = c.requires.node.held in
    let there1 = (c.set_ref.ensures.stands c.args.at there).held in
    let there2 = (c.set_ref-2.ensures.stands c.args.at there1).held in
    let there3 = (c.set_num.ensures.stands c.args.at there2).held in
    none_ref c.args.sw.now c.set_ref.new.self c.args.at 0 _ there c.set_ref.ensures.written at
    (none_ref c.set_ref.new.self c.set_ref-2.new.self c.args.at 1 _ there1 c.set_ref-2.ensures.written at
    (none_num c.set_ref-2.new.self c.set_num.new.self c.args.at 2 _ there2 c.set_num.ensures.written at
    (none_mark c.set_num.new.self c.mark.new.self c.args.at there3 c.mark.ensures.written at held)))
