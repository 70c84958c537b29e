use Rattle.std.proofs.Common.{ℕ, ◌∙◌, length, sym, ap, subst, Ok, Err}
use Rattle.obj_layout.specs.ps_outside.Outside.{Outside}
use Rattle.obj_layout.specs.Stored.{Space}
use Rattle.obj_store.specs.Calls.{Fetches}
use Rattle.obj_store.specs.Spaces.{directory_in, IsUsable}
use Rattle.obj_store.specs.Store.{Store}
use Rattle.obj_store.specs.StoreView.{store_of}
use Rattle.obj_store.specs.Viewing.{IsSource}
use Rattle.obj_store.proofs.CallLaws.{fetched, not_fetched}
use Rattle.obj_store.proofs.ViewLaws.{usable, as_seen}
use Rattle.obj_store.proofs.store.ObjStore.fetch_in.Goals as goal

pub fetch_at-requires-clause-kept : goal.fetch_at-requires-clause-kept
fetch_at-requires-clause-kept g c = c.self.invariant.pages (ap (λ (s : Store g.row.H.Denot). s.live) c.self.view_is ∙ c.requires.alive)

pub fetch_at-requires-clause-source : goal.fetch_at-requires-clause-source
fetch_at-requires-clause-source g c = subst (λ (s : Store g.row.H.Denot). IsSource s.table c.args.source) (sym c.self.view_is) c.requires.source

pub fetch_at-requires-clause-order : goal.fetch_at-requires-clause-order
fetch_at-requires-clause-order g c =
    let table = c.self.inside.volume.table in
    let live = (ap (λ (s : Store g.row.H.Denot). s.live) c.self.view_is ∙ c.requires.alive) in
    let there = subst (λ (s : Store g.row.H.Denot). IsSource s.table c.args.source) (sym c.self.view_is) c.requires.source in
    subst (λ (n : ℕ). IsUsable n (directory_in c.args.source table) table.committed) (sym c.used_of-used.ensures)
    (usable c.args.source c.self.inside.used table (c.self.invariant.alive live).is_table there c.self.invariant.order)

pub returns-in-Ok-clause-fetches : goal.returns-in-Ok-clause-fetches
returns-in-Ok-clause-fetches g c =
    let o = g.H.Host.outside in
    let v = c.self.inside.volume in
    let z = c.fetch_at.new.volume in
    let is = c.fetch_at.ensures in
    let e = c.in-Ok.ensures in
    as_seen o c.args.source c.used_of-used.result (store_of c.self.inside) c.args.self.now z.table z.host (λ (a b : Outside Space). Fetches a b c.args.pid (length c.args.into.now) c.fetch_at.new.into (Ok tt)) c.used_of-used.ensures c.self.view_is
    (fetched c.args.source c.used_of-used.result v.table z.table (o v.host) (o z.host) is.same c.args.pid (length c.args.into.now) c.fetch_at.new.into is.looks e.read e.headed e.sound)

pub returns-in-Err-clause-fetches : goal.returns-in-Err-clause-fetches
returns-in-Err-clause-fetches g c =
    let o = g.H.Host.outside in
    let v = c.self.inside.volume in
    let z = c.fetch_at.new.volume in
    let is = c.fetch_at.ensures in
    as_seen o c.args.source c.used_of-used.result (store_of c.self.inside) c.args.self.now z.table z.host (λ (a b : Outside Space). Fetches a b c.args.pid (length c.args.into.now) c.fetch_at.new.into (Err c.in-Err.fault)) c.used_of-used.ensures c.self.view_is
    (not_fetched c.args.source c.used_of-used.result v.table z.table (o v.host) (o z.host) is.same c.args.pid (length c.args.into.now) c.fetch_at.new.into c.in-Err.fault is.looks c.in-Err.ensures.fault)
