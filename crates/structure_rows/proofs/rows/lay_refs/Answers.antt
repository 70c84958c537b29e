use Rattle.std.proofs.Common.{◌+◌, refl, arith}
use Rattle.std.proofs.lemmas.List.{get_or_default}
use Rattle.structure_rows.proofs.RowsLaid.{refs-first, refs-more}
use Rattle.structure_rows.proofs.rows.lay_refs.Goals as goal

pub loop-word-init : goal.loop-word-init
loop-word-init c = refs-first c.args.sw.now c.args.into c.args.refs.now c.requires.held c.requires.room c.requires.home c.requires.near

pub overflow_add-slot : goal.overflow_add-slot
overflow_add-slot c =
    let few = c.requires.few in
    let is = c.loop-word.invariant.slot_is in
    let below = c.loop-word-test.true in
    omega (arith, few, is, below)

pub loop-word-preserved : goal.loop-word-preserved
loop-word-preserved c =
    refs-more c.args.sw.now c.loop-word.sw c.args.into c.loop-word.slot c.loop-word.word-index c.args.refs.now _ c.loop-word.invariant c.loop-word-test.true
    (get_or_default c.args.refs.now c.loop-word.word-index _ _ c.loop-word-test.true) c.set_ref.new.self (c.loop-word.slot + 1) c.object.result c.object.ensures
    c.set_ref.ensures.written c.set_ref.ensures.stands refl
