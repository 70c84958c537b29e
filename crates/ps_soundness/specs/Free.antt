-- The locals in scope lie below the next free slots.
use Rattle.std.specs.Prelude.{◌<◌, List, [], ◌∷◌}
use Rattle.ps_meaning.specs.ps_typing.WellTyped.{Env, Free, Local, next_slot}

abbrev pub AllBelow : List Local → Free → Type 0
AllBelow [] free = Unit {0}
AllBelow (local ∷ locals) free = (local.slot < next_slot local.ty free) × AllBelow locals free

abbrev pub AreBelow : Env → Free → Type 0
AreBelow env free = AllBelow env.locals free
