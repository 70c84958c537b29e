use Rattle.std.proofs.Common.{◌∙◌, ◌<◌, sym, ap, subst, arith, Bool, Ok, Err}
use Rattle.paged_volume.specs.Planning.{switched}
use Rattle.obj_store.specs.Calls.{SettlesAll}
use Rattle.obj_store.specs.Spaces.{spaces}
use Rattle.obj_store.specs.Store.{Store, access_of, is_alone, outside_of, used_of}
use Rattle.obj_store.specs.StoreLaws.{used_is}
use Rattle.obj_store.specs.StoreView.{store_of}
use Rattle.obj_store.proofs.CallLaws.{was_settled, not_settled}
use Rattle.obj_store.proofs.KeptLaws.{none_kept}
use Rattle.obj_store.proofs.LackLaws.{alone_outdated}
use Rattle.obj_store.proofs.store.ObjStore.settle_staged.Goals as goal

pub settle_all-requires-clause-below : goal.settle_all-requires-clause-below
settle_all-requires-clause-below g c =
    let below : c.args.directory < used_of (store_of c.self.inside) = subst (λ (s : Store g.row.H.Denot). c.args.directory < used_of s) (sym c.self.view_is) c.requires.below in
    omega (arith, below, used_is c.self.inside.used c.self.inside.volume.table.committed c.self.invariant.order)

pub returns-in-Ok-clause-settles : goal.returns-in-Ok-clause-settles
returns-in-Ok-clause-settles g c =
    let o = g.H.Host.outside in
    let z = c.settle_all.new.volume in
    subst (λ (s : Store g.row.H.Denot). SettlesAll (outside_of o s) (spaces c.self.inside.used z.table (o z.host)) (used_of s) c.args.directory (access_of s) (Ok tt)) c.self.view_is
    (was_settled o (store_of c.self.inside) z.table z.host c.self.invariant.order c.args.directory c.in-Ok.ensures.becomes c.in-Ok.ensures.settles)

pub returns-in-Err-clause-settles : goal.returns-in-Err-clause-settles
returns-in-Err-clause-settles g c =
    let o = g.H.Host.outside in
    let z = c.settle_all.new.volume in
    let used = c.self.inside.used in
    subst (λ (s : Store g.row.H.Denot). SettlesAll (outside_of o s) (spaces used z.table (o z.host)) (used_of s) c.args.directory (access_of s) (Err c.in-Err.fault)) c.self.view_is
    (not_settled o (store_of c.self.inside) z.table z.host c.self.invariant.order c.args.directory (switched used c.args.directory c.self.inside.volume.table.committed) c.in-Err.fault c.in-Err.ensures.settles c.in-Err.ensures.fault)

pub invariant_of-self : goal.invariant_of-self
invariant_of-self g c = record {
  order = c.settle_all.ensures.order;
  alive = λ live. c.in-Ok.ensures.alive;
  has = λ live. c.in-Ok.ensures.has;
  pages = λ live. none_kept c.clear.new.self.places.items c.settle_all.new.volume.table (g.H.Host.outside c.settle_all.new.volume.host) c.clear.ensures;
  unstaged = λ live no. record { pages = c.in-Ok.ensures.blank; words = sym c.in-Ok.ensures.note.0 };
}

pub returns-in-Ok-clause-same : goal.returns-in-Ok-clause-same
returns-in-Ok-clause-same g c =
    (ap (λ (s : Store g.row.H.Denot). s.used) c.self.view_is, c.settle_all.ensures.pages ∙ ap (λ (s : Store g.row.H.Denot). s.table.committed.pages) c.self.view_is)

pub returns-in-Err-clause-same : goal.returns-in-Err-clause-same
returns-in-Err-clause-same g c =
    (ap (λ (s : Store g.row.H.Denot). s.used) c.self.view_is, c.settle_all.ensures.pages ∙ ap (λ (s : Store g.row.H.Denot). s.table.committed.pages) c.self.view_is)

pub returns-in-Ok-clause-alone : goal.returns-in-Ok-clause-alone
returns-in-Ok-clause-alone g c =
    ap {B = Bool} is_alone c.in-Ok.ensures.outdated ∙ alone_outdated c.self.inside.volume.table.pins.items ∙ ap (λ (s : Store g.row.H.Denot). is_alone s.table.pins.items) c.self.view_is

pub returns-in-Err-clause-alone : goal.returns-in-Err-clause-alone
returns-in-Err-clause-alone g c = ap {B = Bool} is_alone c.in-Err.ensures.pins ∙ ap (λ (s : Store g.row.H.Denot). is_alone s.table.pins.items) c.self.view_is
