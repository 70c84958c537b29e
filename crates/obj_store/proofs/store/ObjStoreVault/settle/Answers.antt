use Rattle.obj_store.proofs.CallLaws.{dead_of, settled_numbers, store_users, store_settled}
use Rattle.obj_store.proofs.store.ObjStoreVault.settle.Goals as goal

pub returns-clause-told : goal.returns-clause-told
returns-clause-told g c = c.settle_staged.ensures.settles.told

pub returns-clause-settled : goal.returns-clause-settled
returns-clause-settled g c = c.settle_staged.ensures.settles.settled

pub returns-clause-full : goal.returns-clause-full
returns-clause-full g c = c.settle_staged.ensures.settles.full

pub returns-clause-pages : goal.returns-clause-pages
returns-clause-pages g c = c.settle_staged.ensures.settles.pages

pub returns-clause-sound : goal.returns-clause-sound
returns-clause-sound g c = c.settle_staged.ensures.settles.sound

pub returns-clause-directory : goal.returns-clause-directory
returns-clause-directory g c = c.settle_staged.ensures.directory

pub returns-clause-numbers : goal.returns-clause-numbers
returns-clause-numbers g c = settled_numbers c.args.self.now c.settle_staged.new.self c.settle_staged.ensures.same

pub returns-clause-users : goal.returns-clause-users
returns-clause-users g c = store_users c.args.self.now c.settle_staged.new.self c.settle_staged.ensures.alone

pub returns-clause-unstaged : goal.returns-clause-unstaged
returns-clause-unstaged g c = store_settled c.settle_staged.result c.args.self.now c.settle_staged.new.self c.settle_staged.ensures.alone c.settle_staged.ensures.unstaged

pub returns-clause-dead : goal.returns-clause-dead
returns-clause-dead g c = dead_of c.settle_staged.result c.settle_staged.new.self.live c.settle_staged.ensures.dead
