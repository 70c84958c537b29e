use Rattle.std.proofs.Common.{◌<◌, ap, arith, length, refl}
use Rattle.heap_texts.specs.swizzle.Heap.{object_at}
use Rattle.heap_texts.specs.swizzle.Objects.{Object}
use Rattle.proc_values.proofs.UnitLaws.{words_from}
use Rattle.proc_values.proofs.LinkLaws.{linked-none, linked-held, linked-object, linked-there, linked-more, linked-all, refs-long, refs-few}
use Rattle.proc_values.proofs.load.link.Goals as goal

pub loop-constant-init : goal.loop-constant-init
loop-constant-init c = record { so_far = linked-none c.args.sw.now c.args.code c.args.first _ c.requires.held; slot_is = refl; words = refl }

pub link_one-at-requires-clause-held : goal.link_one-at-requires-clause-held
link_one-at-requires-clause-held c =
    linked-held c.args.sw.now c.loop-constant.sw c.args.code _ _ _ _ c.args.code c.loop-constant.invariant.so_far c.requires.held c.requires.held

pub link_one-at-requires-clause-below : goal.link_one-at-requires-clause-below
link_one-at-requires-clause-below c =
    let same = ap (λ (o : Object). o.header.refs) (linked-object c.args.sw.now c.loop-constant.sw c.args.code _ _ _ _ c.loop-constant.invariant.so_far
    c.requires.held) in
    omega (arith, same, c.requires.slots, c.loop-constant.invariant.slot_is, c.loop-constant-test.true)

pub link_one-at-requires-clause-fits : goal.link_one-at-requires-clause-fits
link_one-at-requires-clause-fits c =
    let from = words_from c.args.constants.now c.loop-constant.constant-index c.constant-item.result _ c.constant-item.is c.loop-constant-test.true in
    omega (arith, from, c.requires.fits, c.loop-constant.invariant.words)

pub link_one-at-requires-clause-there : goal.link_one-at-requires-clause-there
link_one-at-requires-clause-there c =
    linked-there c.args.sw.now c.loop-constant.sw c.args.code _ c.loop-constant.at c.loop-constant.slot c.args.constants.now c.loop-constant.constant-index
    c.constant-item.result _ c.constant-item.is
    c.loop-constant-test.true c.loop-constant.invariant.so_far c.requires.held c.requires.there

pub overflow_add-slot : goal.overflow_add-slot
overflow_add-slot c =
    let few = refs-few c.args.sw.now c.args.code c.sound.ensures c.requires.held in
    omega (arith, few, c.requires.slots, c.loop-constant.invariant.slot_is, c.loop-constant-test.true)

pub loop-constant-preserved : goal.loop-constant-preserved
loop-constant-preserved c =
    let from = words_from c.args.constants.now c.loop-constant.constant-index c.constant-item.result _ c.constant-item.is c.loop-constant-test.true in
    let long = refs-long c.args.sw.now c.args.code c.sound.ensures c.requires.held in
    let room : c.loop-constant.slot < length (object_at c.args.sw.now c.args.code).refs =
    omega (arith, long, c.requires.slots, c.loop-constant.invariant.slot_is, c.loop-constant-test.true) in
    record {
      so_far = linked-more c.args.sw.now c.loop-constant.sw c.link_one-at.new.sw c.args.code _ c.loop-constant.at c.loop-constant.slot _ c.args.constants.now
          c.loop-constant.constant-index c.constant-item.result _
          c.constant-item.is c.loop-constant-test.true c.loop-constant.invariant.so_far c.requires.held room c.link_one-at.ensures.written
          c.link_one-at.ensures.behind;
      slot_is = omega (arith, c.loop-constant.invariant.slot_is);
      words = omega (arith, from, c.link_one-at.ensures.behind, c.loop-constant.invariant.words);
    }

pub returns : goal.returns
returns c =
    let long = refs-long c.args.sw.now c.args.code c.sound.ensures c.requires.held in
    linked-all c.args.sw.now c.loop-constant.sw c.args.code _ _ c.loop-constant.slot c.args.constants.now c.loop-constant.constant-index
    c.loop-constant-test.false
    (omega (arith, long, c.requires.slots, c.loop-constant.invariant.slot_is, c.loop-constant-test.false)) c.loop-constant.invariant.so_far
