use Rattle.scopes.proofs.of_heap_texts.TextObjects.{there-made}
use Rattle.scopes_tests.proofs.world.made.Goals as goal

pub returns : goal.returns
returns c = there-made _ _ _ _ c.make_text.ensures
