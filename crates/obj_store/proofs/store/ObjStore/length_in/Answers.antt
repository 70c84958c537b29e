use Rattle.std.proofs.Common.{ℕ, ◌∙◌, sym, ap, subst, Ok, Err}
use Rattle.obj_layout.specs.ps_outside.Outside.{Outside}
use Rattle.obj_layout.specs.Stored.{Space}
use Rattle.obj_store.specs.Calls.{Measures}
use Rattle.obj_store.specs.Spaces.{directory_in, IsUsable}
use Rattle.obj_store.specs.Store.{Store}
use Rattle.obj_store.specs.StoreView.{store_of}
use Rattle.obj_store.specs.Viewing.{IsSource}
use Rattle.obj_store.proofs.CallLaws.{measured, not_measured}
use Rattle.obj_store.proofs.ViewLaws.{usable, as_seen}
use Rattle.obj_store.proofs.store.ObjStore.length_in.Goals as goal

pub length_at-requires-clause-kept : goal.length_at-requires-clause-kept
length_at-requires-clause-kept g c = c.self.invariant.pages (ap (λ (s : Store g.row.H.Denot). s.live) c.self.view_is ∙ c.requires.alive)

pub length_at-requires-clause-source : goal.length_at-requires-clause-source
length_at-requires-clause-source g c = subst (λ (s : Store g.row.H.Denot). IsSource s.table c.args.source) (sym c.self.view_is) c.requires.source

pub length_at-requires-clause-order : goal.length_at-requires-clause-order
length_at-requires-clause-order g c =
    let table = c.self.inside.volume.table in
    let live = (ap (λ (s : Store g.row.H.Denot). s.live) c.self.view_is ∙ c.requires.alive) in
    let there = subst (λ (s : Store g.row.H.Denot). IsSource s.table c.args.source) (sym c.self.view_is) c.requires.source in
    subst (λ (n : ℕ). IsUsable n (directory_in c.args.source table) table.committed) (sym c.used_of-used.ensures)
    (usable c.args.source c.self.inside.used table (c.self.invariant.alive live).is_table there c.self.invariant.order)

pub returns-in-Ok-clause-measures : goal.returns-in-Ok-clause-measures
returns-in-Ok-clause-measures g c =
    let o = g.H.Host.outside in
    let v = c.self.inside.volume in
    let z = c.length_at.new.volume in
    let is = c.length_at.ensures in
    let e = c.in-Ok.ensures in
    as_seen o c.args.source c.used_of-used.result (store_of c.self.inside) c.args.self.now z.table z.host (λ (a b : Outside Space). Measures a b c.args.pid (Ok c.in-Ok.count)) c.used_of-used.ensures c.self.view_is
    (measured c.args.source c.used_of-used.result v.table z.table (o v.host) (o z.host) is.same c.args.pid c.in-Ok.count is.looks e.told e.stands e.sound)

pub returns-in-Err-clause-measures : goal.returns-in-Err-clause-measures
returns-in-Err-clause-measures g c =
    let o = g.H.Host.outside in
    let v = c.self.inside.volume in
    let z = c.length_at.new.volume in
    let is = c.length_at.ensures in
    as_seen o c.args.source c.used_of-used.result (store_of c.self.inside) c.args.self.now z.table z.host (λ (a b : Outside Space). Measures a b c.args.pid (Err c.in-Err.fault)) c.used_of-used.ensures c.self.view_is
    (not_measured c.args.source c.used_of-used.result v.table z.table (o v.host) (o z.host) is.same c.args.pid c.in-Err.fault is.looks c.in-Err.ensures.fault)
