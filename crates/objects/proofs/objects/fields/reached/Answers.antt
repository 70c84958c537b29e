use Rattle.joint_ops.proofs.of_heap_ops.LayoutLaws.{held-from}
use Rattle.objects.proofs.ReachedLaws.{reached-so}
use Rattle.objects.proofs.objects.fields.reached.Goals as goal

pub entry-requires : goal.entry-requires
entry-requires c = (held-from c.args.sw.now c.in-Some.text c.sound.ensures c.in-Some.ensures.held).0

pub returns-clause-reached : goal.returns-clause-reached
returns-clause-reached c =
    reached-so c.args.sw.now c.args.code c.args.constant c.args.field c.in-Some.text c.args.object c.in-Some-entry.known.now c.in-Some.ensures.is
    (c.in-Some-entry.ensures c.args.sw.now c.requires.so) (c.has_field.ensures.place c.if-not-has_field.false)
