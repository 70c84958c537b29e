use Rattle.std.proofs.Common.{◌≡◌, ap, refl, sym, ◌∙◌, Some}
use Rattle.heap_places.specs.swizzle.Heap.{num_at}
use Rattle.table_nodes.proofs.SoughtLaws.{int_read, int_same}
use Rattle.heap_places.specs.Words.{int_in}
use Rattle.table_nodes.specs.Faults.{misfit, no_int}
use Rattle.table_nodes.proofs.keys.int_key.Goals as goal

pub returns-in-None-clause-fault : goal.returns-in-None-clause-fault
returns-in-None-clause-fault g c = misfit c.args.at _ _ c.requires.node.held (no_int c.requires.node c.num-word.ensures (sym c.int_of_word.ensures ∙ c.in-None.is) refl) c.damaged.ensures

pub returns-in-Some-clause-word : goal.returns-in-Some-clause-word
returns-in-Some-clause-word g c =
    let e : int_in (num_at c.args.sw.now c.args.at 1) ≡ Some c.in-Some.value = sym (ap int_in c.num-word.ensures) ∙ (sym c.int_of_word.ensures ∙ c.in-Some.is) in
    e ∙ ap Some (sym (int_same c.in-Some.value (int_read (num_at c.args.sw.now c.args.at 1) c.in-Some.value e)))
