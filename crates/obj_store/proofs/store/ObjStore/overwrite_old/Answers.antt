use Rattle.std.proofs.Common.{◌∙◌, ap, subst, Ok, Err}
use Rattle.obj_store.specs.Calls.{Overwrites}
use Rattle.obj_store.specs.Spaces.{spaces}
use Rattle.obj_store.specs.Staging.{SamePins}
use Rattle.obj_store.specs.Store.{Store, access_of, outside_of}
use Rattle.obj_store.specs.StoreView.{store_of}
use Rattle.obj_store.proofs.CallLaws.{was_overwritten, not_overwritten}
use Rattle.obj_store.proofs.store.ObjStore.overwrite_old.Goals as goal

pub overwrite_at-requires-clause-kept : goal.overwrite_at-requires-clause-kept
overwrite_at-requires-clause-kept g c = c.self.invariant.pages (ap (λ (s : Store g.row.H.Denot). s.live) c.self.view_is ∙ c.requires.alive)

pub returns-in-Ok-clause-overwrites : goal.returns-in-Ok-clause-overwrites
returns-in-Ok-clause-overwrites g c =
    let o = g.H.Host.outside in
    let z = c.overwrite_at.new.volume in
    let is = c.overwrite_at.ensures in
    subst (λ (s : Store g.row.H.Denot). Overwrites (outside_of o s) (spaces c.self.inside.used z.table (o z.host)) c.args.pid c.args.words.now (access_of s) (Ok tt)) c.self.view_is
    (was_overwritten o (store_of c.self.inside) z.table z.host c.self.invariant.order c.args.pid c.args.words.now is.past is.stages c.in-Ok.ensures.becomes c.in-Ok.ensures.sound)

pub returns-in-Err-clause-overwrites : goal.returns-in-Err-clause-overwrites
returns-in-Err-clause-overwrites g c =
    let o = g.H.Host.outside in
    let z = c.overwrite_at.new.volume in
    let is = c.overwrite_at.ensures in
    subst (λ (s : Store g.row.H.Denot). Overwrites (outside_of o s) (spaces c.self.inside.used z.table (o z.host)) c.args.pid c.args.words.now (access_of s) (Err c.in-Err.fault)) c.self.view_is
    (not_overwritten o (store_of c.self.inside) z.table z.host c.self.invariant.order c.args.pid c.args.words.now c.in-Err.fault is.past is.stages is.pins.pins c.in-Err.ensures.fault)

pub returns-in-Ok-clause-pins : goal.returns-in-Ok-clause-pins
returns-in-Ok-clause-pins g c = subst (λ (s : Store g.row.H.Denot). SamePins s.table c.overwrite_at.new.volume.table) c.self.view_is c.overwrite_at.ensures.pins

pub returns-in-Err-clause-pins : goal.returns-in-Err-clause-pins
returns-in-Err-clause-pins g c = subst (λ (s : Store g.row.H.Denot). SamePins s.table c.overwrite_at.new.volume.table) c.self.view_is c.overwrite_at.ensures.pins
