use Rattle.std.proofs.Common.{ap}
use Rattle.obj_store.specs.Store.{is_alone}
use Rattle.obj_store.proofs.CallLaws.{dead_of, staged_numbers, store_users}
use Rattle.obj_store.proofs.store.ObjStoreVault.append.Goals as goal

pub returns-clause-pid : goal.returns-clause-pid
returns-clause-pid g c = c.append_new.ensures.appends.pid

pub returns-clause-told : goal.returns-clause-told
returns-clause-told g c = c.append_new.ensures.appends.told

pub returns-clause-full : goal.returns-clause-full
returns-clause-full g c = c.append_new.ensures.appends.full

pub returns-clause-room : goal.returns-clause-room
returns-clause-room g c = c.append_new.ensures.appends.room

pub returns-clause-pages : goal.returns-clause-pages
returns-clause-pages g c = c.append_new.ensures.appends.pages

pub returns-clause-call : goal.returns-clause-call
returns-clause-call g c = c.append_new.ensures.appends.call

pub returns-clause-sound : goal.returns-clause-sound
returns-clause-sound g c = c.append_new.ensures.appends.sound

pub returns-clause-used : goal.returns-clause-used
returns-clause-used g c = c.append_new.ensures.appends.used_is

pub returns-clause-numbers : goal.returns-clause-numbers
returns-clause-numbers g c = staged_numbers c.args.self.now c.append_new.new.self c.append_new.ensures.committed

pub returns-clause-users : goal.returns-clause-users
returns-clause-users g c = store_users c.args.self.now c.append_new.new.self (ap is_alone c.append_new.ensures.pins.pins)

pub returns-clause-dead : goal.returns-clause-dead
returns-clause-dead g c = dead_of c.append_new.result c.append_new.new.self.live c.append_new.ensures.dead
