use Rattle.proc_values.proofs.of_heap_texts.TextObjects.{there-made}
use Rattle.bench_heap.proofs.numbers.type_text.Goals as goal

pub returns : goal.returns
returns c = there-made _ _ _ _ c.make_text.ensures
