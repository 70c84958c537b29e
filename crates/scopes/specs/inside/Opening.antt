-- The place of a name of a scope.
use Rattle.std.specs.Prelude.{ℕ, List, Result, Ok, Err}
use Rattle.closures.specs.ps_outside.Outside.{Outside}
use Rattle.closures.specs.obj_layout.Stored.{Space}
use Rattle.closures.specs.swizzle.declared.fault.SwizzleFault.{SwizzleFault}
use Rattle.closures.specs.swizzle.Heap.{Heap}
use Rattle.closures.specs.swizzle.Joint.{shown_at}
use Rattle.closures.specs.swizzle.Reading.{joint, Reads, FailsReading}
use Rattle.closures.specs.text_forms.declared.forms.Located.{Located}
use Rattle.scopes.specs.Names.{HasName, FailsName, text_of}

-- A scope was read as one that has the name, by this text.
pub record IsOpened (old new : Heap) (before after : Outside Space) (at name : ℕ) (located : Located) : Type 0 where
  pub text : List ℕ
  pub is : HasName (joint new after) (shown_at old at) text name located
  pub reads : Reads old new before after (text_of (shown_at old at))

abbrev pub OpensName : Heap → Heap → Outside Space → Outside Space → ℕ → ℕ → Result Located SwizzleFault → Type 0
OpensName old new before after at name (Ok located) = IsOpened old new before after at name located
OpensName old new before after at name (Err fault) = FailsReading before after fault × FailsName old new before after at name fault
