use Rattle.std.proofs.Common.{◌≡◌, ◌∙◌, ℕ, sym, ap, subst}
use Rattle.paged_volume.specs.Layout.{capacity_of}
use Rattle.obj_store.specs.Store.{Store, most_of}
use Rattle.obj_store.specs.StoreLaws.{most_is}
use Rattle.obj_store.proofs.store.ObjStoreVault.capacity.Goals as goal

pub returns : goal.returns
returns g c =
    subst (λ (s : Store g.row.H.Denot). c.capacity.result ≡ most_of s) c.self.view_is
    (c.capacity.ensures ∙ ap (λ (n : ℕ). capacity_of n) c.pages.ensures ∙ sym (most_is c.self.inside.used c.self.inside.volume.table.committed c.self.invariant.order))
