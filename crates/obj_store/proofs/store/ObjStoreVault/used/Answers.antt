use Rattle.std.proofs.Common.{◌≡◌, sym, subst}
use Rattle.obj_store.specs.Store.{Store, used_of}
use Rattle.obj_store.specs.StoreLaws.{used_is}
use Rattle.obj_store.proofs.store.ObjStoreVault.used.Goals as goal

pub returns : goal.returns
returns g c = subst (λ (s : Store g.row.H.Denot). c.self.inside.used ≡ used_of s) c.self.view_is (sym (used_is c.self.inside.used c.self.inside.volume.table.committed c.self.invariant.order))
