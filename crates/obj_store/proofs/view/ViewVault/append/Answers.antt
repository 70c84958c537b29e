use Rattle.std.proofs.Common.{refl, sym, ap, subst}
use Rattle.paged_volume.specs.declared.committed.Committed.{Committed}
use Rattle.obj_store.specs.declared.source.Source.{Source}
use Rattle.obj_store.specs.Calls.{Appends}
use Rattle.obj_store.specs.Spaces.{used_in, directory_by}
use Rattle.obj_store.specs.Store.{access_of, bounded, most_of, outside_at}
use Rattle.obj_store.proofs.CallLaws.{dead_of, staged_numbers}
use Rattle.obj_store.proofs.LendLaws.{others_stay, view_users}
use Rattle.obj_store.proofs.view.ViewVault.append.Goals as goal

pub returns-clause-pid : goal.returns-clause-pid
returns-clause-pid g c =
    let o = g.H.Host.outside in
    (subst (λ (s : Source). Appends (outside_at o s c.args.self.now.store.now) (outside_at o s c.append_new.new.self) c.args.words.now (bounded (used_in s c.args.self.now.store.now.used)) (bounded (used_in s c.append_new.new.self.used)) (most_of c.args.self.now.store.now) (access_of c.args.self.now.store.now) c.append_new.result) (sym c.in-Staged.is) c.append_new.ensures.appends).pid

pub returns-clause-told : goal.returns-clause-told
returns-clause-told g c =
    let o = g.H.Host.outside in
    (subst (λ (s : Source). Appends (outside_at o s c.args.self.now.store.now) (outside_at o s c.append_new.new.self) c.args.words.now (bounded (used_in s c.args.self.now.store.now.used)) (bounded (used_in s c.append_new.new.self.used)) (most_of c.args.self.now.store.now) (access_of c.args.self.now.store.now) c.append_new.result) (sym c.in-Staged.is) c.append_new.ensures.appends).told

pub returns-clause-full : goal.returns-clause-full
returns-clause-full g c =
    let o = g.H.Host.outside in
    (subst (λ (s : Source). Appends (outside_at o s c.args.self.now.store.now) (outside_at o s c.append_new.new.self) c.args.words.now (bounded (used_in s c.args.self.now.store.now.used)) (bounded (used_in s c.append_new.new.self.used)) (most_of c.args.self.now.store.now) (access_of c.args.self.now.store.now) c.append_new.result) (sym c.in-Staged.is) c.append_new.ensures.appends).full

pub returns-clause-room : goal.returns-clause-room
returns-clause-room g c =
    let o = g.H.Host.outside in
    (subst (λ (s : Source). Appends (outside_at o s c.args.self.now.store.now) (outside_at o s c.append_new.new.self) c.args.words.now (bounded (used_in s c.args.self.now.store.now.used)) (bounded (used_in s c.append_new.new.self.used)) (most_of c.args.self.now.store.now) (access_of c.args.self.now.store.now) c.append_new.result) (sym c.in-Staged.is) c.append_new.ensures.appends).room

pub returns-clause-call : goal.returns-clause-call
returns-clause-call g c =
    let o = g.H.Host.outside in
    (subst (λ (s : Source). Appends (outside_at o s c.args.self.now.store.now) (outside_at o s c.append_new.new.self) c.args.words.now (bounded (used_in s c.args.self.now.store.now.used)) (bounded (used_in s c.append_new.new.self.used)) (most_of c.args.self.now.store.now) (access_of c.args.self.now.store.now) c.append_new.result) (sym c.in-Staged.is) c.append_new.ensures.appends).call

pub returns-clause-sound : goal.returns-clause-sound
returns-clause-sound g c =
    let o = g.H.Host.outside in
    (subst (λ (s : Source). Appends (outside_at o s c.args.self.now.store.now) (outside_at o s c.append_new.new.self) c.args.words.now (bounded (used_in s c.args.self.now.store.now.used)) (bounded (used_in s c.append_new.new.self.used)) (most_of c.args.self.now.store.now) (access_of c.args.self.now.store.now) c.append_new.result) (sym c.in-Staged.is) c.append_new.ensures.appends).sound

pub returns-clause-used : goal.returns-clause-used
returns-clause-used g c =
    let o = g.H.Host.outside in
    (subst (λ (s : Source). Appends (outside_at o s c.args.self.now.store.now) (outside_at o s c.append_new.new.self) c.args.words.now (bounded (used_in s c.args.self.now.store.now.used)) (bounded (used_in s c.append_new.new.self.used)) (most_of c.args.self.now.store.now) (access_of c.args.self.now.store.now) c.append_new.result) (sym c.in-Staged.is) c.append_new.ensures.appends).used_is

pub returns-clause-pages : goal.returns-clause-pages
returns-clause-pages g c = λ held wanted pages e. (refl, (c.append_new.ensures.appends.pages held wanted pages e).1)

pub returns-clause-numbers : goal.returns-clause-numbers
returns-clause-numbers g c =
    let same = staged_numbers c.args.self.now.store.now c.append_new.new.self c.append_new.ensures.committed in
    (ap (λ (k : Committed). directory_by c.args.self.now.source k.note.directory) c.append_new.ensures.committed, same.1)

pub returns-clause-users : goal.returns-clause-users
returns-clause-users g c =
    let was = c.args.self.now.store.now in
    let pins = c.append_new.ensures.pins in
    view_users c.args.self.now.store.ghost_name c.args.self.now.pin c.args.self.now.source was c.append_new.new.self (others_stay was.table c.append_new.new.self.table c.args.self.now.pin pins.pins pins.lists)

pub returns-clause-dead : goal.returns-clause-dead
returns-clause-dead g c = dead_of c.append_new.result c.append_new.new.self.live c.append_new.ensures.dead
