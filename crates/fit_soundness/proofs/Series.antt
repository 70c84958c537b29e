-- Programs one after the other.
use Rattle.std.proofs.Common.{Bool, true, false, List, [], ◌∷◌, ◌++◌, map, if◌then◌else◌}
use Rattle.std.specs.List.{AllByRecursion}
use Rattle.ps_soundness.specs.ps_program.Node.{BodyNode}
use Rattle.ps_heap.specs.Events.{Event, Out, Turn, Ask, Commit, Finish, heap_after, is_done, series_events}
use Rattle.ps_heap.specs.Held.{StoredHeap}
use Rattle.heap_fit.specs.Heaps.{IsFitHeap}
use Rattle.fit_soundness.specs.Laws.{AreFitHeaps}

fit_append : (events more : List Event) → AreFitHeaps events → AreFitHeaps more → AreFitHeaps (events ++ more)
fit_append [] more f g = g
fit_append (Out bytes counted ∷ events) more f g = fit_append events more f g
fit_append (Turn counted ∷ events) more f g = fit_append events more f g
fit_append (Ask asked counted ∷ events) more f g = fit_append events more f g
fit_append (Finish e counted ∷ events) more f g = fit_append events more f g
fit_append (Commit heap counted ∷ events) more f g = (f.0, fit_append events more f.1 g)

fit_after : (heap : StoredHeap) (events : List Event) → IsFitHeap heap → AreFitHeaps events → IsFitHeap (heap_after heap events)
fit_after heap [] h f = h
fit_after heap (Out bytes counted ∷ events) h f = fit_after heap events h f
fit_after heap (Turn counted ∷ events) h f = fit_after heap events h f
fit_after heap (Ask asked counted ∷ events) h f = fit_after heap events h f
fit_after heap (Finish e counted ∷ events) h f = fit_after heap events h f
fit_after heap (Commit other counted ∷ events) h f = fit_after other events f.0 f.1

module _ (P : BodyNode → Type 0) (run : BodyNode → StoredHeap → List Event) (keeps : (of : BodyNode) (heap : StoredHeap) → P of → IsFitHeap heap → AreFitHeaps (run of heap)) where
  all_fit : (programs : List BodyNode) (heap : StoredHeap) → AllByRecursion P programs → IsFitHeap heap → AreFitHeaps (series_events (map run programs) heap)
  unfolding series_events
  all_fit [] heap are h = tt
  all_fit (of ∷ programs) heap are h =
      let events = run of heap in
      let first = keeps of heap are.0 h in
      fit_append events (if is_done events then series_events (map run programs) (heap_after heap events) else []) first
      (rest (is_done events) (heap_after heap events) (all_fit programs (heap_after heap events) are.1 (fit_after heap events h first)))
    where
      rest : (done : Bool) (after : StoredHeap) → AreFitHeaps (series_events (map run programs) after) → AreFitHeaps (if done then series_events (map run programs) after else [])
      rest true after f = f
      rest false after f = tt

  pub series_fit : (programs : List BodyNode) (heap : StoredHeap) → AllByRecursion P programs → IsFitHeap heap →
      AreFitHeaps (series_events (map run programs) heap) × IsFitHeap (heap_after heap (series_events (map run programs) heap))
  series_fit programs heap are h =
      let each = all_fit programs heap are h in (each, fit_after heap (series_events (map run programs) heap) h each)
