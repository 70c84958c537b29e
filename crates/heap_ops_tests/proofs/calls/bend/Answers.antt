use Rattle.heap_ops.proofs.of_heap_places.FillingLaws.{roomy-held}
use Rattle.heap_ops_tests.proofs.Staying.{text_stands}
use Rattle.heap_ops_tests.proofs.calls.bend.Goals as goal

pub returns-in-Ok : goal.returns-in-Ok
returns-in-Ok c = record {
  own = text_stands _ _ _ c.make.ensures.stands c.requires.own;
  equal = text_stands _ _ _ c.make.ensures.stands c.requires.equal;
  other = text_stands _ _ _ c.make.ensures.stands c.requires.other;
  name = text_stands _ _ _ c.make.ensures.stands c.requires.name;
  object = (roomy-held _ _ _ _ c.in-Ok.ensures.made).0;
}
