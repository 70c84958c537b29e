use Rattle.std.proofs.Common.{◌∙◌, List, Option, length, sym, ap, subst, arith, true, Ok, Some}
use Rattle.std.proofs.lemmas.List.{length-map}
use Rattle.obj_layout.specs.ps_outside.Outside.{Outside}
use Rattle.obj_layout.specs.Stored.{Space}
use Rattle.paged_volume.specs.Pinning.{outdated}
use Rattle.paged_volume.specs.declared.committed.Committed.{Committed}
use Rattle.paged_volume.specs.declared.pinned.Pinned.{Pinned as PinHeld}
use Rattle.obj_store.specs.Calls.{SettlesAll}
use Rattle.obj_store.specs.Store.{access_of, outside_of, used_of}
use Rattle.obj_store.proofs.LendLaws.{others_stay, others_outdated, others_repinned}
use Rattle.obj_store.proofs.ViewLaws.{spaces_same, viewed_pin}
use Rattle.obj_store.proofs.store.ObjStore.settle_pinned.Goals as goal

pub pin-requires-clause-pin : goal.pin-requires-clause-pin
pin-requires-clause-pin g c =
    let outdates = ap (λ (xs : List (Option PinHeld)). length xs) c.in-Ok.ensures.outdated in
    omega (arith, outdates, length-map c.args.self.now.table.pins.items outdated, c.requires.pin)

pub returns-in-Ok-clause-settles : goal.returns-in-Ok-clause-settles
returns-in-Ok-clause-settles g c =
    let o = g.H.Host.outside in
    let was = c.args.self.now in
    let mid = c.settle_staged.new.self in
    let new = c.pin.new.self in
    let to = c.pin.ensures.pins in
    let seen = spaces_same mid.table new.table (o mid.host) (o new.host) to.committed to.lists.1 (ap o c.pin.ensures.host) mid.used new.used c.pin.ensures.same.0 in
    subst (λ (x : Outside Space). SettlesAll (outside_of o was) x (used_of was) c.args.directory (access_of was) (Ok tt)) (sym seen) c.in-Ok.ensures.settles

pub returns-in-Ok-clause-directory : goal.returns-in-Ok-clause-directory
returns-in-Ok-clause-directory g c = ap (λ (k : Committed). k.note.directory) c.pin.ensures.pins.committed ∙ c.in-Ok.ensures.directory

pub returns-in-Ok-clause-viewed : goal.returns-in-Ok-clause-viewed
returns-in-Ok-clause-viewed g c = viewed_pin c.settle_staged.new.self.table c.pin.new.self.table c.args.pin c.pin.ensures.pins

pub returns-in-Ok-clause-same : goal.returns-in-Ok-clause-same
returns-in-Ok-clause-same g c =
    (c.pin.ensures.same.0 ∙ c.in-Ok.ensures.same.0, ap (λ (k : Committed). k.pages) c.pin.ensures.pins.committed ∙ c.in-Ok.ensures.same.1)

pub returns-in-Ok-clause-unstaged : goal.returns-in-Ok-clause-unstaged
returns-in-Ok-clause-unstaged g c = c.pin.ensures.same.1 ∙ c.in-Ok.ensures.unstaged

pub returns-in-Ok-clause-others : goal.returns-in-Ok-clause-others
returns-in-Ok-clause-others g c =
    let was = c.args.self.now.table in
    let mid = c.settle_staged.new.self.table in
    let committed = mid.committed in
    others_repinned mid c.pin.new.self.table c.args.pin (Some (record { note = committed.note; current = true })) mid.map.committed c.pin.ensures.pins
    ∙ others_outdated was mid c.args.pin c.in-Ok.ensures.outdated c.settle_staged.ensures.lists

pub returns-in-Err-clause-others : goal.returns-in-Err-clause-others
returns-in-Err-clause-others g c = others_stay c.args.self.now.table c.settle_staged.new.self.table c.args.pin c.in-Err.ensures.kept c.settle_staged.ensures.lists
