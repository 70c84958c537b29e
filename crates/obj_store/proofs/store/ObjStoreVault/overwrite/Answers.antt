use Rattle.std.proofs.Common.{ap}
use Rattle.obj_store.specs.Store.{is_alone}
use Rattle.obj_store.proofs.CallLaws.{call_numbers, dead_of, store_users}
use Rattle.obj_store.proofs.store.ObjStoreVault.overwrite.Goals as goal

pub returns-clause-told : goal.returns-clause-told
returns-clause-told g c = c.overwrite_old.ensures.overwrites.told

pub returns-clause-tested : goal.returns-clause-tested
returns-clause-tested g c = c.overwrite_old.ensures.overwrites.tested

pub returns-clause-call : goal.returns-clause-call
returns-clause-call g c = c.overwrite_old.ensures.overwrites.call

pub returns-clause-full : goal.returns-clause-full
returns-clause-full g c = c.overwrite_old.ensures.overwrites.full

pub returns-clause-pages : goal.returns-clause-pages
returns-clause-pages g c = c.overwrite_old.ensures.overwrites.pages

pub returns-clause-numbers : goal.returns-clause-numbers
returns-clause-numbers g c = call_numbers c.args.self.now c.overwrite_old.new.self c.overwrite_old.ensures.committed c.overwrite_old.ensures.used

pub returns-clause-users : goal.returns-clause-users
returns-clause-users g c = store_users c.args.self.now c.overwrite_old.new.self (ap is_alone c.overwrite_old.ensures.pins.pins)

pub returns-clause-dead : goal.returns-clause-dead
returns-clause-dead g c = dead_of c.overwrite_old.result c.overwrite_old.new.self.live c.overwrite_old.ensures.dead
