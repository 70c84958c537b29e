use Rattle.std.proofs.Common.{arith}
use Rattle.joint_ops.proofs.of_heap_places.PlaceLaws.{stands_then}
use Rattle.db_dir.proofs.ExtendLaws.{copied-next}
use Rattle.db_dir.proofs.create.copy_refs.Goals as goal

pub loop-slot-preserved : goal.loop-slot-preserved
loop-slot-preserved c = record {
  copied = λ base object made held.
      copied-next base c.loop-slot.sw c.copy_ref.new.self c.args.from c.args.to c.loop-slot.slot object c.sound.ensures held
      (c.loop-slot.invariant.stands c.args.from c.requires.from).held (omega (arith, (c.loop-slot.invariant.stands c.args.from c.requires.from).refs)) (omega (arith, (c.loop-slot.invariant.stands c.args.to c.requires.to).refs))
      (c.loop-slot.invariant.copied base object made held) c.copy_ref.ensures.written;
  stands = stands_then _ _ _ c.loop-slot.invariant.stands c.copy_ref.ensures.stands;
}
