use Rattle.std.proofs.Common.{◌≡◌, false, ◌∙◌, sym, ap, subst}
use Rattle.std.specs.Prelude.{IsSome}
use Rattle.paged_volume.specs.Pinning.{pin_of}
use Rattle.obj_store.specs.Store.{Store}
use Rattle.obj_store.specs.StoreView.{store_of}
use Rattle.obj_store.specs.Viewing.{IsViewed, ShowsPin}
use Rattle.obj_store.proofs.ViewLaws.{shows_pin}
use Rattle.obj_store.proofs.store.ObjStore.source_of.Goals as goal

pub source_in-requires-clause-alive : goal.source_in-requires-clause-alive
source_in-requires-clause-alive g c = c.self.invariant.alive (ap (λ (s : Store g.row.H.Denot). s.live) c.self.view_is ∙ c.requires.alive)

pub source_in-requires-clause-pin : goal.source_in-requires-clause-pin
source_in-requires-clause-pin g c = subst (λ (s : Store g.row.H.Denot). IsSome (pin_of s.table c.args.pin)) (sym c.self.view_is) c.requires.pin

pub returns-clause-viewed : goal.returns-clause-viewed
returns-clause-viewed g c = subst (λ (s : Store g.row.H.Denot). IsViewed s.table c.args.pin c.source_in.result) c.self.view_is c.source_in.ensures.viewed

pub returns-clause-shows : goal.returns-clause-shows
returns-clause-shows g c =
    let o = g.H.Host.outside in
    subst (λ (s : Store g.row.H.Denot). s.staged ≡ false → ShowsPin o s c.args.pin c.source_in.result) c.self.view_is
    (λ no. shows_pin o (store_of c.self.inside) c.args.pin c.source_in.result (c.self.invariant.alive (ap (λ (s : Store g.row.H.Denot). s.live) c.self.view_is ∙ c.requires.alive)).is_table (c.self.invariant.unstaged (ap (λ (s : Store g.row.H.Denot). s.live) c.self.view_is ∙ c.requires.alive) no) c.source_in.ensures.viewed)
