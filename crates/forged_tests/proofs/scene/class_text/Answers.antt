use Rattle.proc_values.proofs.of_heap_texts.TextObjects.{there-made}
use Rattle.forged_tests.proofs.StayLaws.{still-held}
use Rattle.forged_tests.proofs.scene.class_text.Goals as goal

pub returns-clause-text : goal.returns-clause-text
returns-clause-text c = there-made _ _ _ _ c.make_text.ensures

pub returns-clause-held : goal.returns-clause-held
returns-clause-held c = still-held _ _ _ _ c.args.object c.make_text.ensures c.requires
