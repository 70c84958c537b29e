use Rattle.table_nodes.proofs.PutLaws.{puts}
use Rattle.std.proofs.Common.{sym, subst}
use Rattle.heap_places.specs.swizzle.Heap.{Heap, IsListed}
use Rattle.table_nodes.proofs.MarkingLaws.{marked_listed}
use Rattle.table_nodes.proofs.Sparing.{spares_value}
use Rattle.table_nodes.proofs.BringLaws.{none_mark, none_ref}
use Rattle.table_nodes.proofs.nodes.write_value.Goals as goal

pub returns-clause-put : goal.returns-clause-put
returns-clause-put g c =
    puts c.args.sw.now c.set_ref.new.self c.mark.new.self (g.V.Vault.outside c.args.vault.now) c.args.node c.args.value
    c.requires.node c.sound.ensures c.sound-2.ensures c.sound-3.ensures
    c.set_ref.ensures.written c.mark.ensures.written c.set_ref.ensures.stands c.mark.ensures.stands

pub returns-clause-marked : goal.returns-clause-marked
returns-clause-marked g c =
    subst (λ (h : Heap). IsListed c.args.node h.assigned) (sym c.mark.ensures.written) (marked_listed c.set_ref.new.self c.args.node c.sound-2.ensures (c.set_ref.ensures.stands c.args.node c.requires.node.held).held)

pub returns-clause-spares : goal.returns-clause-spares
returns-clause-spares g c =
    spares_value c.args.sw.now c.set_ref.new.self c.mark.new.self (g.V.Vault.outside c.args.vault.now) c.args.node 3 _ (λ e. cc)
    c.requires.node c.sound.ensures c.sound-2.ensures c.sound-3.ensures c.set_ref.ensures.written c.mark.ensures.written c.set_ref.ensures.stands c.mark.ensures.stands

pub returns-clause-none : goal.returns-clause-none
returns-clause-none g c at held =
    let there = c.requires.node.held in
    let there1 = (c.set_ref.ensures.stands c.args.node there).held in
    none_ref c.args.sw.now c.set_ref.new.self c.args.node 3 _ there c.set_ref.ensures.written at
    (none_mark c.set_ref.new.self c.mark.new.self c.args.node there1 c.mark.ensures.written at held)
