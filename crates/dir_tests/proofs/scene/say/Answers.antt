use Rattle.db_dir.proofs.of_joint_ops.of_heap_ops.of_heap_texts.TextObjects.{there-made}
use Rattle.dir_tests.proofs.Staying.{made-stands}
use Rattle.dir_tests.proofs.scene.say.Goals as goal

pub returns-in-Bytes-clause-text : goal.returns-in-Bytes-clause-text
returns-in-Bytes-clause-text c = there-made _ _ _ _ c.make_text.ensures

pub returns-in-Bytes-clause-stands : goal.returns-in-Bytes-clause-stands
returns-in-Bytes-clause-stands c = made-stands _ _ _ _ c.make_text.ensures

pub returns-in-Repeated-clause-text : goal.returns-in-Repeated-clause-text
returns-in-Repeated-clause-text c = there-made _ _ _ _ c.make_text-in-Repeated.ensures

pub returns-in-Repeated-clause-stands : goal.returns-in-Repeated-clause-stands
returns-in-Repeated-clause-stands c = made-stands _ _ _ _ c.make_text-in-Repeated.ensures
