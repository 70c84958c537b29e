-- One step of forgetting which objects are assigned.
use Rattle.std.specs.Prelude.{◌≡◌, suc, [], length, map}
use Rattle.swizzle.specs.Heap.{Heap, without_mark, without_reach}

-- One object of the list isn't assigned any more.
pub record IsUnmarked (old new : Heap) : Type 0 where
  pub size : new.size ≡ old.size
  pub rest : map without_mark new.objects ≡ map without_mark old.objects
  pub shorter : length old.assigned ≡ suc (length new.assigned)
  pub reached : new.reached ≡ old.reached

-- No object is assigned.
pub record IsUnmarkedAll (old new : Heap) : Type 0 where
  pub stays : new ≡ old
  pub empty : old.assigned ≡ []
  pub none : map without_mark old.objects ≡ old.objects

-- One object of the list isn't noted as reached any more.
pub record IsLeft (old new : Heap) : Type 0 where
  pub size : new.size ≡ old.size
  pub rest : map without_reach new.objects ≡ map without_reach old.objects
  pub shorter : length old.reached ≡ suc (length new.reached)
  pub assigned : new.assigned ≡ old.assigned

-- No object is noted as reached.
pub record AreLeft (old new : Heap) : Type 0 where
  pub stays : new ≡ old
  pub empty : old.reached ≡ []
  pub none : map without_reach old.objects ≡ old.objects
