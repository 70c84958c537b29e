-- A machine at the start of a code object.
use Rattle.std.specs.Prelude.{◌≡◌, ℕ, false, [], None, replicate, pos}
use Rattle.ps_base.specs.declared.code_unit.Frame.{Frame}
use Rattle.machine_core.specs.proc_values.declared.reading.CodePlace.{CodePlace}
use Rattle.machine_core.specs.declared.machine.Machine.{Machine}
use Rattle.machine_core.specs.declared.stepped.Item.TheVariants as item
use Rattle.machine_core.specs.Waiting.{IsOrderly}
use Rattle.machine_run.specs.Loaded.{IsRoomy}

-- The locals are 0 and nil, nothing is pushed or waits, nothing was written, and no database was asked for; objects and input stay.
pub record IsBegun (code : ℕ) (place : CodePlace) (frame : Frame) (turns : ℕ) (old new : Machine) : Type 0 where
  pub roomy : IsRoomy new
  pub objects : new.objects ≡ old.objects
  pub orderly : IsOrderly new.callers new.nums new.refs
  pub code_is : new.code ≡ code
  pub place_is : new.place ≡ place
  pub frame_is : new.frame ≡ frame
  pub scope : new.scope ≡ 0
  pub at : new.at ≡ 0
  pub nums : new.nums.own ≡ replicate frame.nums (pos 0)
  pub refs : new.refs.own ≡ replicate frame.refs 0
  pub callers : new.callers.items ≡ []
  pub nums_below : new.nums.below ≡ []
  pub refs_below : new.refs.below ≡ []
  pub input : new.input ≡ old.input
  pub turns_are : new.turns ≡ turns
  pub writing : new.databases.writing.items ≡ []
  pub asked : new.databases.asked ≡ false
  pub directory : new.databases.directory ≡ None
  pub item : new.writing.item ≡ item.Int (pos 0)
