use Rattle.std.proofs.Common.{Ok, Err, subst, sym}
use Rattle.volume_parts.specs.Layout.{pages_of_words}
use Rattle.paged_volume.specs.Staging.{HasPages}
use Rattle.paged_volume.specs.declared.table.Table.{Table}
use Rattle.obj_layout.specs.Storing.{Puts}
use Rattle.obj_layout.specs.declared.vault.VaultFault.TheVariants.{Output}
use Rattle.obj_store.specs.Spaces.{IsInOrder, spaces_at, used_in}
use Rattle.obj_store.specs.Store.{Store, IsUnstaged, outside_at}
use Rattle.obj_store.proofs.SpaceLaws.{puts_done, puts_cut}
use Rattle.obj_store.proofs.KeptLaws.{kept_looks}
use Rattle.obj_store.proofs.store.ObjStore.put_in.Goals as goal

pub invariant_of-self : goal.invariant_of-self
invariant_of-self g c =
    let o = g.H.Host.outside in
    let v = c.self.inside.volume in
    let z = c.put.new.self in
    let used = c.self.inside.used in
    let is = c.self.invariant in
    record {
      order = subst (λ (t : Table). IsInOrder used t.committed) (sym c.put.ensures.same) is.order;
      alive = λ live. c.put.ensures.alive (is.alive live);
      has = λ live. subst (λ (t : Table). HasPages t (pages_of_words used)) (sym c.put.ensures.same) (is.has live);
      pages = λ live. kept_looks c.self.inside.kept.places.items v.table z.table (o v.host) (o z.host) c.put.ensures.same c.put.ensures.call.contents (is.pages live);
      unstaged = λ live no. subst (λ (t : Table). IsUnstaged t used) (sym c.put.ensures.same) (is.unstaged live no);
    }

pub returns-in-Ok-clause-told : goal.returns-in-Ok-clause-told
returns-in-Ok-clause-told g c =
    let o = g.H.Host.outside in
    let v = c.self.inside.volume in
    let z = c.put.new.self in
    let source = c.args.source in
    let used = used_in source c.self.inside.used in
    subst (λ (s : Store g.row.H.Denot). Puts {T = Unit {0}} (outside_at o source s) (spaces_at source used z.table (o z.host)) c.args.bytes.now (Ok tt)) c.self.view_is
    (puts_done source used v.table z.table (o v.host) (o z.host) c.args.bytes.now c.put.ensures.same c.put.ensures.cut c.put.result tt c.in-Ok.ensures.all c.in-Ok.ensures.calm c.put.ensures.call)

pub returns-in-Err-clause-told : goal.returns-in-Err-clause-told
returns-in-Err-clause-told g c =
    let o = g.H.Host.outside in
    let v = c.self.inside.volume in
    let z = c.put.new.self in
    let source = c.args.source in
    let used = used_in source c.self.inside.used in
    subst (λ (s : Store g.row.H.Denot). Puts {T = Unit {0}} (outside_at o source s) (spaces_at source used z.table (o z.host)) c.args.bytes.now (Err Output)) c.self.view_is
    (puts_cut source used v.table z.table (o v.host) (o z.host) c.args.bytes.now c.put.ensures.same c.put.ensures.cut c.put.result c.in-Err.ensures.call.cause c.put.ensures.call)
