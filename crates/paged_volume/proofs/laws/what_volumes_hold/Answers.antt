use Rattle.paged_volume.proofs.Bounds.{hold_least, hold_small, hold_indexed, hold_first, hold_largest}
use Rattle.paged_volume.proofs.laws.what_volumes_hold.Goals as goal

pub returns-clause-least : goal.returns-clause-least
returns-clause-least c = hold_least

pub returns-clause-small : goal.returns-clause-small
returns-clause-small c = hold_small

pub returns-clause-indexed : goal.returns-clause-indexed
returns-clause-indexed c = hold_indexed

pub returns-clause-first : goal.returns-clause-first
returns-clause-first c = hold_first

pub returns-clause-largest : goal.returns-clause-largest
returns-clause-largest c = hold_largest
