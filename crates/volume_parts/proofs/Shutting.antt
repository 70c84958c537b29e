-- The calls up to the sync of the shut gate.
use Rattle.std.proofs.Common.{ℕ, ◌+◌, ◌≤◌, List, arith}
use Rattle.ps_port.specs.ps_outside.Outside.{Outside, Leaves, LeavesSame}
use Rattle.ps_port.proofs.of_ps_outside.Moments.{along_then, along_weaker, along_now}
use Rattle.ps_port.specs.DiskLaws.{torn_none}
use Rattle.volume_parts.specs.Making.{IsOld, IsBeforeShut}

-- nothing was written
pub old_same : (a b : Outside (List ℕ)) → LeavesSame a b → Leaves a b (IsOld a)
old_same a b first = along_weaker first (λ image was. record { from = image; was = was; by = torn_none 0 1 image })

-- and then the gate
pub old_then : (a b c : Outside (List ℕ)) → LeavesSame a b → Leaves b c (IsOld b) → Leaves a c (IsOld a)
old_then a b c first next = along_then (old_same a b first) next (λ image after. record { from = after.from; was = along_now first after.from after.was; by = after.by })

module _ {H : Type 0} (outside : H → Outside (List ℕ)) (pages : ℕ) (old : H) where
  pub before_shut : (mid shut : H) → LeavesSame (outside old) (outside mid) → Leaves (outside mid) (outside shut) (IsOld (outside mid)) →
      (outside mid).device_calls ≤ (outside old).device_calls + 2 → (outside shut).device_calls ≤ (outside mid).device_calls + 2 → IsBeforeShut outside old shut
  before_shut mid shut first next few more = record { images = old_then (outside old) (outside mid) (outside shut) first next; calls = omega arith }
