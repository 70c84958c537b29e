use Rattle.text_ops.proofs.of_heap_texts.TextObjects.{still-made, there-made}
use Rattle.bench_texts.proofs.made.Goals as goal

pub returns-clause-there : goal.returns-clause-there
returns-clause-there c = there-made _ _ _ _ c.make_text.ensures

pub returns-clause-stay : goal.returns-clause-stay
returns-clause-stay c = still-made _ _ _ _ c.make_text.ensures
