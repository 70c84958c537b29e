use Rattle.std.proofs.Common.{arith}
use Rattle.heap_places.proofs.FillingLaws.{has-ref, has-num}
use Rattle.heap_places.proofs.filling.lay_next.Goals as goal

pub lay_value-requires-clause-place : goal.lay_value-requires-clause-place
lay_value-requires-clause-place c = (has-ref c.args.sw.now c.args.object c.args.next c.args.value c.in-Ref.field-0 c.sound.ensures c.requires.held
    c.requires.rows c.in-Ref.is).0

pub overflow_add-result : goal.overflow_add-result
overflow_add-result c =
    omega (arith, (has-ref c.args.sw.now c.args.object c.args.next c.args.value c.in-Ref.field-0 c.sound.ensures c.requires.held c.requires.rows c.in-Ref.is).1)

pub lay_value-requires-in_default : goal.lay_value-requires-in_default
lay_value-requires-in_default c = record {
  held = c.requires.held;
  place = (has-num c.args.sw.now c.args.object c.args.next c.args.value c.sound.ensures c.requires.held c.requires.rows c.in_default.not-Ref).0;
  near = c.requires.near;
}

pub overflow_add-result-in_default : goal.overflow_add-result-in_default
overflow_add-result-in_default c =
    omega (arith, (has-num c.args.sw.now c.args.object c.args.next c.args.value c.sound.ensures c.requires.held c.requires.rows c.in_default.not-Ref).1)
