-- No object is there, and what is left of the store's images is left of the device's.
use Rattle.std.proofs.Common.{◌≡◌, ℕ, List, [], ◌∷◌, length, refl, ap, arith}
use Rattle.obj_layout.specs.ps_outside.Outside.{Outside, LeavesSame}
use Rattle.obj_layout.specs.Stored.{Space}
use Rattle.obj_layout.proofs.ObjectLaws.{object-long}
use Rattle.obj_layout.proofs.StoredLaws.{HasObject-within, HasObject-object}
use Rattle.no_store.specs.NoObjects.{outside_of, HoldsNothing}

-- an object has more words than word 0 alone
pub holds-nothing : (host : Outside (List ℕ)) → HoldsNothing (outside_of host)
holds-nothing host = λ pid words h.
    let within = HasObject-within h.space pid words h.has in
    let long = object-long words (HasObject-object h.space pid words h.has) in
    let used : length h.space.words ≡ 1 = ap (λ (s : Space). length s.words) h.is in omega (arith, within.low, within.high, long, used)

-- an image of the device as the store shows it
abbrev shown : List ℕ → Space
shown image = record { words = 0 ∷ []; directory = 0; file = image }

module _ (a b : Outside (List ℕ)) where
  -- the device's images were left, where the store's were
  pub device-left : LeavesSame (outside_of a) (outside_of b) → LeavesSame a b
  device-left is = record {
    later = is.later;
    kept = λ m image past at. (is.kept m (shown image) past (at, refl)).0;
    no_other = λ m image past at. (is.no_other m (shown image) past (at, refl)).0;
    each = λ m image from until at. (is.each m (shown image) from until (at, refl)).0;
  }

  -- and back
  pub images-left : LeavesSame a b → LeavesSame (outside_of a) (outside_of b)
  images-left is = record {
    later = is.later;
    kept = λ m space past at. (is.kept m space.file past at.0, at.1);
    no_other = λ m space past at. (is.no_other m space.file past at.0, at.1);
    each = λ m space from until at. (is.each m space.file from until at.0, at.1);
  }
