-- What is left of a store is left of its host.
use Rattle.std.proofs.Common.{ℕ, List, refl, subst, ap}
use Rattle.obj_layout.specs.ps_outside.Outside.{Outside, LeavesSame}
use Rattle.ps_port.specs.Telling.{TellsAll}
use Rattle.std.specs.Prelude.{Ok}
use Rattle.paged_volume.specs.declared.table.Table.{Table}
use Rattle.obj_layout.specs.Stored.{Space}
use Rattle.obj_layout.specs.Storing.{Puts}
use Rattle.obj_store.specs.Spaces.{space_filed, spaces}

module _ (used : ℕ) (table : Table) (a : Outside (List ℕ)) (m : ℕ) (bytes : List ℕ) where
  -- an image of the host is one of the store
  image_seen : a.images m bytes → (spaces used table a).images m (space_filed bytes)
  image_seen at = record { from = bytes; was = at; by = refl }

  -- and back, by its file
  image_back : (spaces used table a).images m (space_filed bytes) → a.images m bytes
  image_back at = subst (λ (file : List ℕ). a.images m file) (ap (λ (space : Space). space.file) at.by) at.was

-- what a crash may leave of the host is left, byte for byte, where the images of the store are
pub device_left : (used next : ℕ) (p q : Table) (a b : Outside (List ℕ)) → LeavesSame (spaces used p a) (spaces next q b) → LeavesSame a b
device_left used next p q a b is = record {
  later = is.later;
  kept = λ m image past at. image_back next q b m image (is.kept m (space_filed image) past (image_seen used p a m image at));
  no_other = λ m image past at. image_back used p a m image (is.no_other m (space_filed image) past (image_seen next q b m image at));
  each = λ m image from until at. image_back used p a a.clock image (is.each m (space_filed image) from until (image_seen next q b m image at));
}

-- all that was put to the store was output by its host
pub all_put : {T : Type 0} (used next : ℕ) (p q : Table) (a b : Outside (List ℕ)) (bytes : List ℕ) (done : T)
    → Puts {T = T} (spaces used p a) (spaces next q b) bytes (Ok done) → TellsAll a b bytes
all_put used next p q a b bytes done is = record { front = is.told; all = is.all; calm = is.calm }
