-- How the fields of an `ObjStore` are seen, and what is so of them.
use Rattle.std.specs.Prelude.{ℕ, List}
use Rattle.obj_layout.specs.ps_outside.Outside.{Outside}
use Rattle.obj_store.specs.Store.{Store, IsKept}
use Rattle.obj_store.specs.declared.store.ObjStore.TheInside.{Inside}

abbrev pub store_of : {H : Type 0} → Inside H → Store H
store_of store = record { host = store.volume.host; table = store.volume.table; used = store.used; staged = store.staged; live = store.live }

abbrev pub IsKeptIn : {H : Type 0} → (H → Outside (List ℕ)) → Inside H → Type 0
IsKeptIn outside store = IsKept outside store.volume.live store.kept.places.items (store_of store)
