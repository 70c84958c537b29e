use Rattle.std.proofs.Common.{Ok}
use Rattle.table_lib.specs.heap_places.heap_texts.Texts.{HoldsText}
use Rattle.table_lib.proofs.of_table_nodes.of_heap_places.of_heap_texts.TextObjects.{there-made}
use Rattle.table_tests.proofs.scene.key_text.Goals as goal

pub returns-in-Ok : goal.returns-in-Ok
returns-in-Ok c = let t : HoldsText c.make_text.new.sw c.in-Ok.text = there-made c.args.sw.now c.make_text.new.sw c.args.bytes.now (Ok c.in-Ok.text) c.in-Ok.ensures in record { held = t.held; kind = t.kind }
