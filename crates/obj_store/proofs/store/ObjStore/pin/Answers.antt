use Rattle.std.proofs.Common.{◌∙◌, ◌<◌, length, sym, ap, subst}
use Rattle.volume_parts.specs.Layout.{pages_of_words}
use Rattle.paged_volume.specs.declared.committed.Committed.{Committed}
use Rattle.obj_store.specs.Spaces.{IsInOrder}
use Rattle.obj_store.specs.Store.{Store}
use Rattle.obj_store.proofs.ViewLaws.{kept_same, has_same, unstaged_same}
use Rattle.paged_volume.specs.Pinning.{Pins}
use Rattle.obj_store.proofs.store.ObjStore.pin.Goals as goal

pub pin-requires-clause-pin : goal.pin-requires-clause-pin
pin-requires-clause-pin g c = subst (λ (s : Store g.row.H.Denot). c.args.pin < length s.table.pins.items) (sym c.self.view_is) c.requires.pin

pub invariant_of-self : goal.invariant_of-self
invariant_of-self g c =
    let o = g.H.Host.outside in
    let v = c.self.inside.volume in
    let z = c.pin.new.self in
    let used = c.self.inside.used in
    let is = c.self.invariant in
    let to = c.pin.ensures.pins in
    let host = ap o c.pin.ensures.host in
    record {
      order = subst (λ (k : Committed). IsInOrder used k) (sym to.committed) is.order;
      alive = λ live. c.pin.ensures.alive;
      has = λ live. has_same v.table z.table (pages_of_words used) to.lists.1 (is.has live);
      pages = λ live. kept_same v.table z.table (o v.host) (o z.host) to.committed to.lists.1 host c.self.inside.kept.places.items (is.pages live);
      unstaged = λ live no. unstaged_same v.table z.table used to.committed to.lists.1 to.lists.0 (is.unstaged live no);
    }

pub returns-clause-host : goal.returns-clause-host
returns-clause-host g c = c.pin.ensures.host ∙ ap (λ (s : Store g.row.H.Denot). s.host) c.self.view_is

pub returns-clause-pins : goal.returns-clause-pins
returns-clause-pins g c = subst (λ (s : Store g.row.H.Denot). Pins c.args.pin s.table c.pin.new.self.table) c.self.view_is c.pin.ensures.pins
