use Rattle.obj_store.proofs.CallLaws.{dead_of, view_numbers}
use Rattle.obj_store.proofs.LendLaws.{view_same}
use Rattle.obj_store.proofs.view.ViewVault.put.Goals as goal

pub returns-clause-told : goal.returns-clause-told
returns-clause-told g c = c.put_in.ensures.told

pub returns-clause-full : goal.returns-clause-full
returns-clause-full g c = c.put_in.ensures.never.0

pub returns-clause-pages : goal.returns-clause-pages
returns-clause-pages g c = c.put_in.ensures.never.1

pub returns-clause-sound : goal.returns-clause-sound
returns-clause-sound g c = c.put_in.ensures.never.2

pub returns-clause-numbers : goal.returns-clause-numbers
returns-clause-numbers g c = let same = view_numbers c.args.self.now.source c.args.self.now.store.now c.put_in.new.self c.put_in.ensures.same in
    (same.0, same.1, same.2, view_same c.args.self.now.store.ghost_name c.args.self.now.pin c.args.self.now.source c.args.self.now.store.now c.put_in.new.self c.put_in.ensures.same.0 c.put_in.ensures.same.2)

pub returns-clause-dead : goal.returns-clause-dead
returns-clause-dead g c = dead_of c.put_in.result c.put_in.new.self.live c.put_in.ensures.dead
