use Rattle.std.proofs.Common.{◌+◌, ◌∙◌, length, ap, subst, arith, Ok, Err}
use Rattle.obj_store.specs.Calls.{Appends}
use Rattle.obj_store.specs.Spaces.{spaces}
use Rattle.obj_store.specs.Store.{Store, access_of, bounded, most_of, outside_of, used_of}
use Rattle.obj_store.specs.StoreLaws.{order_low}
use Rattle.obj_store.specs.Staging.{SamePins}
use Rattle.obj_store.specs.StoreView.{store_of}
use Rattle.obj_store.proofs.CallLaws.{was_appended, not_appended}
use Rattle.obj_store.proofs.store.ObjStore.append_new.Goals as goal

pub overflow_add-self : goal.overflow_add-self
overflow_add-self g c =
    let low = order_low (c.self.inside.used + length c.args.words.now) c.append_at.new.volume.table.committed c.in-Ok.ensures.order in
    let few = low.1 in
    omega arith

pub append_at-requires-clause-kept : goal.append_at-requires-clause-kept
append_at-requires-clause-kept g c = c.self.invariant.pages (ap (λ (s : Store g.row.H.Denot). s.live) c.self.view_is ∙ c.requires.alive)

pub returns-in-Ok-clause-appends : goal.returns-in-Ok-clause-appends
returns-in-Ok-clause-appends g c =
    let o = g.H.Host.outside in
    let z = c.append_at.new.volume in
    let is = c.append_at.ensures in
    let next = c.self.inside.used + length c.args.words.now in
    subst (λ (s : Store g.row.H.Denot). Appends (outside_of o s) (spaces next z.table (o z.host)) c.args.words.now (used_of s) (bounded next) (most_of s) (access_of s) (Ok c.self.inside.used)) c.self.view_is
    (was_appended o (store_of c.self.inside) z.table z.host c.self.invariant.order c.args.words.now is.past is.stages c.in-Ok.ensures.becomes is.committed c.in-Ok.ensures.order)

pub returns-in-Err-clause-appends : goal.returns-in-Err-clause-appends
returns-in-Err-clause-appends g c =
    let o = g.H.Host.outside in
    let z = c.append_at.new.volume in
    let is = c.append_at.ensures in
    let used = c.self.inside.used in
    subst (λ (s : Store g.row.H.Denot). Appends (outside_of o s) (spaces used z.table (o z.host)) c.args.words.now (used_of s) (bounded used) (most_of s) (access_of s) (Err c.in-Err.fault)) c.self.view_is
    (not_appended o (store_of c.self.inside) z.table z.host c.self.invariant.order c.args.words.now c.in-Err.fault is.past is.stages is.pins.pins c.in-Err.ensures.fault)

pub returns-in-Ok-clause-pins : goal.returns-in-Ok-clause-pins
returns-in-Ok-clause-pins g c = subst (λ (s : Store g.row.H.Denot). SamePins s.table c.append_at.new.volume.table) c.self.view_is c.append_at.ensures.pins

pub returns-in-Err-clause-pins : goal.returns-in-Err-clause-pins
returns-in-Err-clause-pins g c = subst (λ (s : Store g.row.H.Denot). SamePins s.table c.append_at.new.volume.table) c.self.view_is c.append_at.ensures.pins
