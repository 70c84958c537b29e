use Rattle.std.proofs.Common.{◌≡◌, ℕ, ◌-◌, ◌^◌, ◌<◌, min, refl, sym, ap, subst}
use Rattle.std.specs.Prelude.{OnOk}
use Rattle.paged_volume.specs.Layout.{capacity_of}
use Rattle.obj_store.specs.declared.source.Source.{Source}
use Rattle.obj_store.specs.Calls.{SettlesAll}
use Rattle.obj_store.specs.Spaces.{used_in, directory_in}
use Rattle.obj_store.specs.Store.{access_of, bounded, outside_at}
use Rattle.obj_store.specs.Viewing.{IsViewed}
use Rattle.obj_store.proofs.CallLaws.{dead_of}
use Rattle.obj_store.proofs.ViewLaws.{viewed_below}
use Rattle.obj_store.proofs.LendLaws.{view_users, on_settled}
use Rattle.obj_store.proofs.view.ViewVault.settle.Goals as goal

pub returns-clause-told : goal.returns-clause-told
returns-clause-told g c =
    let o = g.H.Host.outside in
    (subst (λ (s : Source). SettlesAll (outside_at o s c.args.self.now.store.now) (outside_at o s c.settle_pinned.new.self) (bounded (used_in s c.args.self.now.store.now.used)) c.args.directory (access_of c.args.self.now.store.now) c.settle_pinned.result) (sym c.in-Staged.is) c.settle_pinned.ensures.settles).told

pub returns-clause-settled : goal.returns-clause-settled
returns-clause-settled g c =
    let o = g.H.Host.outside in
    (subst (λ (s : Source). SettlesAll (outside_at o s c.args.self.now.store.now) (outside_at o s c.settle_pinned.new.self) (bounded (used_in s c.args.self.now.store.now.used)) c.args.directory (access_of c.args.self.now.store.now) c.settle_pinned.result) (sym c.in-Staged.is) c.settle_pinned.ensures.settles).settled

pub returns-clause-full : goal.returns-clause-full
returns-clause-full g c =
    let o = g.H.Host.outside in
    (subst (λ (s : Source). SettlesAll (outside_at o s c.args.self.now.store.now) (outside_at o s c.settle_pinned.new.self) (bounded (used_in s c.args.self.now.store.now.used)) c.args.directory (access_of c.args.self.now.store.now) c.settle_pinned.result) (sym c.in-Staged.is) c.settle_pinned.ensures.settles).full

pub returns-clause-sound : goal.returns-clause-sound
returns-clause-sound g c =
    let o = g.H.Host.outside in
    (subst (λ (s : Source). SettlesAll (outside_at o s c.args.self.now.store.now) (outside_at o s c.settle_pinned.new.self) (bounded (used_in s c.args.self.now.store.now.used)) c.args.directory (access_of c.args.self.now.store.now) c.settle_pinned.result) (sym c.in-Staged.is) c.settle_pinned.ensures.settles).sound

pub returns-clause-pages : goal.returns-clause-pages
returns-clause-pages g c = λ held wanted pages e. (refl, (c.settle_pinned.ensures.settles.pages held wanted pages e).1)

pub returns-clause-numbers : goal.returns-clause-numbers
returns-clause-numbers g c =
    let same = c.settle_pinned.ensures.same in
    (ap (λ (n : ℕ). bounded (used_in c.args.self.now.source n)) same.0, ap (λ (n : ℕ). min (capacity_of n) (2 ^ 30 - 1)) same.1)

pub returns-clause-users : goal.returns-clause-users
returns-clause-users g c = view_users c.args.self.now.store.ghost_name c.args.self.now.pin c.args.self.now.source c.args.self.now.store.now c.settle_pinned.new.self c.settle_pinned.ensures.others

pub returns-clause-unstaged : goal.returns-clause-unstaged
returns-clause-unstaged g c =
    on_settled c.settle_pinned.result c.args.self.now.store.ghost_name c.args.self.now.pin c.args.self.now.source c.args.self.now.store.now c.settle_pinned.new.self c.settle_pinned.ensures.others c.settle_pinned.ensures.unstaged

pub returns-clause-directory : goal.returns-clause-directory
returns-clause-directory g c = subst (λ (s : Source). OnOk c.settle_pinned.result (directory_in s c.settle_pinned.new.self.table ≡ c.args.directory)) (sym c.in-Staged.is) c.settle_pinned.ensures.directory

pub returns-clause-dead : goal.returns-clause-dead
returns-clause-dead g c = dead_of c.settle_pinned.result c.settle_pinned.new.self.live c.settle_pinned.ensures.dead

pub settle_pinned-requires-clause-pin : goal.settle_pinned-requires-clause-pin
settle_pinned-requires-clause-pin g c =
    let table = c.args.self.now.store.now.table in
    viewed_below table c.args.self.now.pin (subst (λ (s : Source). IsViewed table c.args.self.now.pin s) c.in-Staged.is (c.args.self.now.viewed c.requires.alive))

pub settle_pinned-requires-clause-below : goal.settle_pinned-requires-clause-below
settle_pinned-requires-clause-below g c = subst (λ (s : Source). c.args.directory < bounded (used_in s c.args.self.now.store.now.used)) c.in-Staged.is c.requires.below
