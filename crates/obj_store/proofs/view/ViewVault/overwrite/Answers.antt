use Rattle.std.proofs.Common.{ℕ, refl, sym, ap, subst}
use Rattle.paged_volume.specs.declared.committed.Committed.{Committed}
use Rattle.obj_store.specs.declared.source.Source.{Source}
use Rattle.obj_store.specs.Calls.{Overwrites}
use Rattle.obj_store.specs.Spaces.{used_in, directory_by}
use Rattle.obj_store.specs.Store.{access_of, bounded, outside_at}
use Rattle.obj_store.proofs.CallLaws.{dead_of, call_numbers}
use Rattle.obj_store.proofs.LendLaws.{others_stay, view_users}
use Rattle.obj_store.proofs.view.ViewVault.overwrite.Goals as goal

pub returns-clause-told : goal.returns-clause-told
returns-clause-told g c =
    let o = g.H.Host.outside in
    (subst (λ (s : Source). Overwrites (outside_at o s c.args.self.now.store.now) (outside_at o s c.overwrite_old.new.self) c.args.pid c.args.words.now (access_of c.args.self.now.store.now) c.overwrite_old.result) (sym c.in-Staged.is) c.overwrite_old.ensures.overwrites).told

pub returns-clause-tested : goal.returns-clause-tested
returns-clause-tested g c =
    let o = g.H.Host.outside in
    (subst (λ (s : Source). Overwrites (outside_at o s c.args.self.now.store.now) (outside_at o s c.overwrite_old.new.self) c.args.pid c.args.words.now (access_of c.args.self.now.store.now) c.overwrite_old.result) (sym c.in-Staged.is) c.overwrite_old.ensures.overwrites).tested

pub returns-clause-call : goal.returns-clause-call
returns-clause-call g c =
    let o = g.H.Host.outside in
    (subst (λ (s : Source). Overwrites (outside_at o s c.args.self.now.store.now) (outside_at o s c.overwrite_old.new.self) c.args.pid c.args.words.now (access_of c.args.self.now.store.now) c.overwrite_old.result) (sym c.in-Staged.is) c.overwrite_old.ensures.overwrites).call

pub returns-clause-full : goal.returns-clause-full
returns-clause-full g c =
    let o = g.H.Host.outside in
    (subst (λ (s : Source). Overwrites (outside_at o s c.args.self.now.store.now) (outside_at o s c.overwrite_old.new.self) c.args.pid c.args.words.now (access_of c.args.self.now.store.now) c.overwrite_old.result) (sym c.in-Staged.is) c.overwrite_old.ensures.overwrites).full

pub returns-clause-pages : goal.returns-clause-pages
returns-clause-pages g c = λ held wanted pages e. (refl, (c.overwrite_old.ensures.overwrites.pages held wanted pages e).1)

pub returns-clause-numbers : goal.returns-clause-numbers
returns-clause-numbers g c =
    let same = call_numbers c.args.self.now.store.now c.overwrite_old.new.self c.overwrite_old.ensures.committed c.overwrite_old.ensures.used in
    (ap (λ (n : ℕ). bounded (used_in c.args.self.now.source n)) c.overwrite_old.ensures.used, ap (λ (k : Committed). directory_by c.args.self.now.source k.note.directory) c.overwrite_old.ensures.committed, same.2)

pub returns-clause-users : goal.returns-clause-users
returns-clause-users g c =
    let was = c.args.self.now.store.now in
    let pins = c.overwrite_old.ensures.pins in
    view_users c.args.self.now.store.ghost_name c.args.self.now.pin c.args.self.now.source was c.overwrite_old.new.self (others_stay was.table c.overwrite_old.new.self.table c.args.self.now.pin pins.pins pins.lists)

pub returns-clause-dead : goal.returns-clause-dead
returns-clause-dead g c = dead_of c.overwrite_old.result c.overwrite_old.new.self.live c.overwrite_old.ensures.dead
