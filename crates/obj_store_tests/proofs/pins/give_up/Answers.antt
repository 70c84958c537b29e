use Rattle.obj_store_tests.proofs.PinLaws.{pin_there}
use Rattle.obj_store_tests.proofs.pins.give_up.Goals as goal

pub unpin-requires-clause-pin : goal.unpin-requires-clause-pin
unpin-requires-clause-pin c = pin_there c.args.store.now.table.pins.items (c.is_pinned.ensures c.if-not-is_pinned.false)
