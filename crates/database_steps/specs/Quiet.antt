-- Events that have nothing to do with databases.
use Rattle.std.specs.Prelude.{List}
use Rattle.std.specs.List.{AllByRecursion}
use Rattle.ps_heap.specs.Events.{Event, Ask, Commit}

abbrev pub IsQuiet : Event → Type 0
IsQuiet (Ask for_what counted) = ⊥
IsQuiet (Commit heap counted) = ⊥
IsQuiet _ = Unit {0}

-- nothing is asked for, and nothing committed
abbrev pub AreQuiet : List Event → Type 0
AreQuiet events = AllByRecursion IsQuiet events
