-- What calls tell by the output, or how far they came where it failed.
use Rattle.std.specs.Borrow.{Bor}
use Rattle.std.specs.Prelude.{◌≡◌, ℕ, ◌≤◌, List, [], ◌∷◌, ◌++◌, Result, Ok, Err}
use Rattle.ps_port.specs.declared.host.HostFailed.{HostFailed}
use Rattle.ps_outside.specs.Outside.{Outside, LeavesSame, SameContents, TellsPrefix, ToldAll, Rose}

-- pieces one after the other
abbrev pub joined : List (Bor (List ℕ)) → List ℕ
joined [] = []
joined (part ∷ parts) = part.now ++ joined parts

-- The whole was output, and the output didn't fail: the count of its faults stood still.
pub record TellsAll {X : Type 0} (old new : Outside X) (whole : List ℕ) : Type 0 where
  pub front : TellsPrefix old new whole
  pub all : ToldAll old new whole
  pub calm : new.output_faults ≡ old.output_faults

-- The output failed after a prefix of the whole, and the count of its faults rose.
pub record FailsAfter {X : Type 0} (old new : Outside X) (whole : List ℕ) : Type 0 where
  pub front : TellsPrefix old new whole
  pub counts : old.output_faults ≤ new.output_faults
  pub rose : Rose old.output_faults new.output_faults

-- one or the other, as the answer says
abbrev pub TellsOrFails : {X A : Type 0} → Outside X → Outside X → List ℕ → Result A HostFailed → Type 0
TellsOrFails old new whole (Ok x) = TellsAll old new whole
TellsOrFails old new whole (Err failed) = FailsAfter old new whole

-- the device is left alone: no call was made of it, and what a crash may leave at each moment of the way is what it might before
pub record LeavesDevice {X : Type 0} (old new : Outside X) : Type 0 where
  pub images : LeavesSame old new
  pub contents : SameContents old new
  pub faults : new.device_faults ≡ old.device_faults
  pub calls : new.device_calls ≡ old.device_calls
