use Rattle.std.proofs.Common.{◌≡◌, ◌∙◌, sym, ap, subst}
use Rattle.std.specs.Prelude.{OnOk, OnErr}
use Rattle.volume_parts.specs.Layout.{pages_of_words}
use Rattle.paged_volume.specs.declared.committed.Committed.{Committed}
use Rattle.obj_store.specs.Spaces.{IsInOrder}
use Rattle.obj_store.specs.Store.{Store}
use Rattle.obj_store.proofs.ViewLaws.{kept_same, has_same, unstaged_same}
use Rattle.paged_volume.specs.Pinning.{NoneIsHeld, Reserves}
use Rattle.obj_store.proofs.ViewLaws.{reserved}
use Rattle.obj_store.proofs.store.ObjStore.reserve_pins.Goals as goal

pub reserve_pins-requires-clause-none : goal.reserve_pins-requires-clause-none
reserve_pins-requires-clause-none g c = subst (λ (s : Store g.row.H.Denot). NoneIsHeld s.table) (sym c.self.view_is) c.requires.none

pub invariant_of-self : goal.invariant_of-self
invariant_of-self g c =
    let o = g.H.Host.outside in
    let v = c.self.inside.volume in
    let z = c.reserve_pins.new.self in
    let used = c.self.inside.used in
    let is = c.self.invariant in
    let to = reserved c.args.pins v.table z.table c.reserve_pins.result c.reserve_pins.ensures.reserves c.reserve_pins.ensures.same in
    record {
      order = subst (λ (k : Committed). IsInOrder used k) (sym to.0) is.order;
      alive = λ live. c.reserve_pins.ensures.alive;
      has = λ live. has_same v.table z.table (pages_of_words used) to.1 (is.has live);
      pages = λ live. kept_same v.table z.table (o v.host) (o z.host) to.0 to.1 (ap o c.reserve_pins.ensures.host) c.self.inside.kept.places.items (is.pages live);
      unstaged = λ live no. unstaged_same v.table z.table used to.0 to.1 to.2 (is.unstaged live no);
    }

pub returns-clause-host : goal.returns-clause-host
returns-clause-host g c = c.reserve_pins.ensures.host ∙ ap (λ (s : Store g.row.H.Denot). s.host) c.self.view_is

pub returns-clause-reserves : goal.returns-clause-reserves
returns-clause-reserves g c = subst (λ (s : Store g.row.H.Denot). OnOk c.reserve_pins.result (Reserves c.args.pins s.table c.reserve_pins.new.self.table)) c.self.view_is c.reserve_pins.ensures.reserves

pub returns-clause-same : goal.returns-clause-same
returns-clause-same g c = subst (λ (s : Store g.row.H.Denot). OnErr c.reserve_pins.result (c.reserve_pins.new.self.table ≡ s.table)) c.self.view_is c.reserve_pins.ensures.same
