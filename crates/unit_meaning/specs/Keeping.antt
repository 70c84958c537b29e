-- What the commits of a run keep.
use Rattle.std.specs.Prelude.{List, [], ◌∷◌}
use Rattle.ps_heap.specs.Events.{Event, Commit}
use Rattle.space_meaning.specs.heap_fit.Heaps.{IsFitHeap}
use Rattle.space_meaning.specs.Keeping.{HaveUnits}

-- each commit among these events keeps a heap that is fit and whose procedures have units
abbrev pub KeepFitHeaps : List Event → Type 0
KeepFitHeaps [] = Unit {0}
KeepFitHeaps (Commit heap counted ∷ events) = IsFitHeap heap × HaveUnits heap.objects × KeepFitHeaps events
KeepFitHeaps (event ∷ events) = KeepFitHeaps events
