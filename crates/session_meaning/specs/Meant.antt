-- What a program means, as the outside sees it, and what of it the machine has.
use Rattle.std.specs.Prelude.{◌≡◌, List, [], ◌∷◌, map, Some, None}
use Rattle.commit_moments.specs.Steps.{Step}
use Rattle.ps_heap.specs.Events.{Event, Out, Turn, Ask, Commit, Finish, output_of}
use Rattle.ps_heap.specs.Held.{StoredHeap}
use Rattle.database_meaning.specs.Same.{IsSame}
use Rattle.obj_layout.specs.Stored.{Space, without_file}
use Rattle.space_meaning.specs.Stands.{SpaceStands}

-- an event outputs what it does, and a commit keeps its heap
abbrev pub step_meant : Event → Step StoredHeap
step_meant (Commit heap counted) = record { output = []; commits = Some heap }
step_meant event = record { output = output_of event; commits = None }

abbrev pub steps_meant : List Event → List (Step StoredHeap)
steps_meant events = map step_meant events

-- whatever its file, a space stands for a heap
abbrev pub Stands : Space → StoredHeap → Type 0
Stands space heap = SpaceStands (without_file space) heap

-- events are the same but for what is counted and for the ids of what they keep
abbrev pub IsSeenAs : Event → Event → Type 0
IsSeenAs (Out bytes counted) (Out others count) = others ≡ bytes
IsSeenAs (Turn counted) (Turn count) = Unit {0}
IsSeenAs (Ask for_what counted) (Ask other count) = other ≡ for_what
IsSeenAs (Commit heap counted) (Commit other count) = IsSame heap other
IsSeenAs (Finish e counted) (Finish other count) = other ≡ e
IsSeenAs event other = ⊥

abbrev pub AreSeenAs : List Event → List Event → Type 0
AreSeenAs [] [] = Unit {0}
AreSeenAs (event ∷ events) (other ∷ others) = IsSeenAs event other × AreSeenAs events others
AreSeenAs events others = ⊥
