-- What calls of the device leave.
use Rattle.std.specs.Prelude.{◌≡◌, ℕ, ◌+◌, ◌≤◌, Option, Result, OnErr}
use Rattle.std.specs.Option.{option_map}
use Rattle.ps_port.specs.ps_outside.Outside.{Outside, After, LeavesSame, SameContents, TellsNothing, Rose}
use Rattle.volume_parts.specs.Holding.{Held}

-- Calls that only look, so many of the device at most: nothing is output, and what is held and what a crash may leave stays.
pub record Looks {X : Type 0} (old new : Outside X) (most : ℕ) : Type 0 where
  pub told : TellsNothing old new
  pub images : LeavesSame old new
  pub same : SameContents old new
  pub counts : old.device_faults ≤ new.device_faults
  pub output : new.output_faults ≡ old.output_faults
  pub calls : new.device_calls ≤ old.device_calls + most

-- Calls of the device that output nothing, and that fail only where it did.
pub record Works {X T E : Type 0} (old new : Outside X) (result : Result T E) : Type 0 where
  pub told : TellsNothing old new
  pub counts : old.device_faults ≤ new.device_faults
  pub output : new.output_faults ≡ old.output_faults
  pub cause : OnErr result (Rose old.device_faults new.device_faults)

-- where a content was held, one is held
abbrev pub StaysHeld : {X : Type 0} → Outside X → Outside X → Type 0
StaysHeld {X = X} old new = (x : X) → old.contents x → (y : X) × new.contents y

-- this was held, after a step
abbrev pub Was : Outside (Option Held) → (Held → Held) → Option Held → Type 0
Was old step found = After old.contents (λ (before after : Option Held). option_map step before ≡ after) found
