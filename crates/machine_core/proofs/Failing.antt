-- Why a step broke off, whatever is known of the vault.
use Rattle.std.proofs.Common.{◌≡◌, ◌≢◌, refl, sym, ◌∙◌, subst}
use Rattle.joint_ops.specs.ps_outside.Outside.{Outside}
use Rattle.joint_ops.specs.obj_layout.Stored.{Space}
use Rattle.joint_ops.specs.obj_layout.declared.vault.VaultFault.TheVariants.{Device, Output, Full, NoPages}
use Rattle.joint_ops.specs.swizzle.Heap as area
use Rattle.joint_ops.specs.swizzle.Reading.{LeavesOutside, FailsReading}
use Rattle.joint_ops.specs.swizzle.declared.fault.SwizzleFault.{SwizzleFault}
use Rattle.joint_ops.specs.swizzle.declared.fault.SwizzleFault.TheVariants.{Vault}
use Rattle.joint_ops.proofs.of_swizzle.ReadingLaws.{leaves-none}
use Rattle.joint_ops.specs.Made.{LacksRoom}
use Rattle.objects.proofs.LaterLaws.{fails-later}
use Rattle.machine_core.specs.declared.machine.Machine.{Machine}
use Rattle.machine_core.specs.declared.stepped.Stepped.{Stepped}
use Rattle.machine_core.specs.declared.stepped.Stepped.TheVariants.{Quiet, Turns, Writes, Halts, Breaks, Damaged}
use Rattle.machine_core.specs.Failing.{FailsAsReading}

-- a step that broke off with this fault
pub breaks-failing : (before after : Outside Space) (new : Machine) (fault : SwizzleFault) (r : Stepped) → r ≡ Breaks → new.fault ≡ fault
    → FailsReading before after fault → FailsAsReading before after r new
breaks-failing before after new fault r answer is f =
    subst (λ (x : Stepped). FailsAsReading before after x new) (sym answer) (subst (FailsReading before after) (sym is) f)

-- where it broke off, it failed so
pub off-failing : (before after : Outside Space) (r : Stepped) (m : Machine) → (r ≡ Breaks → FailsReading before after m.fault) → FailsAsReading before after r m
off-failing before after Quiet m fails = tt
off-failing before after Turns m fails = tt
off-failing before after Writes m fails = tt
off-failing before after Halts m fails = tt
off-failing before after Breaks m fails = fails refl
off-failing before after Damaged m fails = tt

-- a step that didn't break off
pub whole-failing : (before after : Outside Space) (r : Stepped) (m : Machine) → r ≢ Breaks → FailsAsReading before after r m
whole-failing before after r m goes = off-failing before after r m (λ breaks. absurd (goes breaks))

-- a step that broke off after a reading
pub failing-behind : (before mid after : Outside Space) (r : Stepped) (m : Machine) → LeavesOutside before mid → FailsAsReading mid after r m
    → FailsAsReading before after r m
failing-behind before mid after Quiet m left f = tt
failing-behind before mid after Turns m left f = tt
failing-behind before mid after Writes m left f = tt
failing-behind before mid after Halts m left f = tt
failing-behind before mid after Breaks m left f = fails-later before mid after m.fault left f
failing-behind before mid after Damaged m left f = tt

-- want of room is no fault of the vault
pub room-failing : (outside : Outside Space) (old new : area.Heap) (fault : SwizzleFault) → LacksRoom old new fault → FailsReading outside outside fault
room-failing outside old new fault l = record {
  outside = leaves-none outside;
  cause = λ e. absurd (no-vault Device e);
  other = λ e. no-vault Output e;
  full = λ used wanted capacity e. no-vault (Full used wanted capacity) e;
  pages = λ held wanted pages e. no-vault (NoPages held wanted pages) e;
}
  where
    no-vault : (f : _) → fault ≡ Vault f → ⊥
    no-vault f e = let bad = sym l.fault_is ∙ e in cc
