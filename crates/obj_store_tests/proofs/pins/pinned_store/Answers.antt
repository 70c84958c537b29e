use Rattle.std.proofs.Common.{List, Option, None, ap, get_or}
use Rattle.obj_store.specs.paged_volume.declared.pinned.Pinned.{Pinned}
use Rattle.obj_store_tests.proofs.pins.pinned_store.Goals as goal

pub reserve_pins-requires-clause-none : goal.reserve_pins-requires-clause-none
reserve_pins-requires-clause-none c = λ pin. ap (λ (xs : List (Option Pinned)). get_or xs pin None) c.in-Some.ensures.pins
