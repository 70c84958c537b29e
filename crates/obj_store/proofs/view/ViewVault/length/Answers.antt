use Rattle.obj_store.proofs.CallLaws.{dead_of, view_numbers}
use Rattle.obj_store.proofs.ViewLaws.{viewed_source}
use Rattle.obj_store.proofs.LendLaws.{view_same}
use Rattle.obj_store.proofs.view.ViewVault.length.Goals as goal

pub returns-clause-told : goal.returns-clause-told
returns-clause-told g c = c.length_in.ensures.measures.told

pub returns-clause-stands : goal.returns-clause-stands
returns-clause-stands g c = c.length_in.ensures.measures.stands

pub returns-clause-tested : goal.returns-clause-tested
returns-clause-tested g c = c.length_in.ensures.measures.tested

pub returns-clause-call : goal.returns-clause-call
returns-clause-call g c = c.length_in.ensures.measures.call

pub returns-clause-same : goal.returns-clause-same
returns-clause-same g c = c.length_in.ensures.measures.same

pub returns-clause-full : goal.returns-clause-full
returns-clause-full g c = c.length_in.ensures.measures.full

pub returns-clause-pages : goal.returns-clause-pages
returns-clause-pages g c = c.length_in.ensures.measures.pages

pub returns-clause-numbers : goal.returns-clause-numbers
returns-clause-numbers g c = let same = view_numbers c.args.self.now.source c.args.self.now.store.now c.length_in.new.self c.length_in.ensures.same in
    (same.0, same.1, same.2, view_same c.args.self.now.store.ghost_name c.args.self.now.pin c.args.self.now.source c.args.self.now.store.now c.length_in.new.self c.length_in.ensures.same.0 c.length_in.ensures.same.2)

pub returns-clause-dead : goal.returns-clause-dead
returns-clause-dead g c = dead_of c.length_in.result c.length_in.new.self.live c.length_in.ensures.dead

pub length_in-requires-clause-source : goal.length_in-requires-clause-source
length_in-requires-clause-source g c = viewed_source c.args.self.now.store.now.table c.args.self.now.pin c.args.self.now.source (c.args.self.now.viewed c.requires.alive)
