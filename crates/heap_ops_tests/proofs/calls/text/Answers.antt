use Rattle.heap_ops.proofs.of_heap_texts.TextObjects.{there-made}
use Rattle.heap_ops_tests.proofs.Staying.{made_stand}
use Rattle.heap_ops_tests.proofs.calls.text.Goals as goal

pub returns-clause-there : goal.returns-clause-there
returns-clause-there c = there-made _ _ _ _ c.make_text.ensures

pub returns-clause-stands : goal.returns-clause-stands
returns-clause-stands c = made_stand _ _ _ _ c.make_text.ensures
