-- What a run shows of the store of a volume it shows of the host's device.
use Rattle.std.proofs.Common.{◌≡◌, ℕ, ◌≤◌, List, [], ◌∷◌, length, refl, sym, subst, Option, Some, None}
use Rattle.std.specs.Prelude.{Result}
use Rattle.ps_port.specs.ps_outside.Outside.{Outside}
use Rattle.obj_layout.specs.Stored.{Space}
use Rattle.paged_volume.specs.Standing.{held_in}
use Rattle.paged_volume.specs.declared.table.Table.{Table}
use Rattle.obj_store.specs.declared.source.Source.{Source}
use Rattle.obj_store.specs.Spaces.{spaces_at}
use Rattle.ps_heap.specs.Events.{Event}
use Rattle.ps_heap.specs.Held.{StoredHeap}
use Rattle.commit_moments.specs.Steps.{Step, heap_after, owing}
use Rattle.commit_moments.specs.Shown.{LeavesOnly, Shown, SoFar, BrokeOff}
use Rattle.commit_moments.specs.Like.{AreLike, GoWith}
use Rattle.commit_moments.proofs.LikeLaws.{shown_like, so_far_like, broke_off_like}
use Rattle.device_moments.specs.Held.{HeldAs}
use Rattle.device_moments.proofs.DeviceLaws.{held_is, device_shown, device_so_far, device_broke_off, store_only, found_as}
use Rattle.space_meaning.specs.Stands.{SpaceStands}
use Rattle.session_meaning.specs.session_run.machine_core.swizzle.declared.fault.SwizzleFault.{SwizzleFault}
use Rattle.session_meaning.specs.session_run.machine_core.declared.run_end.RunEnd.{RunEnd}
use Rattle.session_meaning.specs.Meant as meant
use Rattle.session_meaning.specs.Meant.{steps_meant}
use Rattle.session_meaning.specs.Shows.{HasDone, Shows, whole, broke, broke_in, cut}
use Rattle.volume_meaning.specs.Space.{space_in}
use Rattle.volume_meaning.specs.Stands.{Stands}

some-word : (heap : StoredHeap) (s : Space) → SpaceStands s heap → 1 ≤ length s.words
some-word heap s stands = stands.cut.0

-- what a file holds stands for what the file does
pub file-stands : (bytes : List ℕ) (heap : StoredHeap) → HeldAs SpaceStands bytes heap → Stands bytes heap
unfolding space_in
file-stands bytes heap so = let is = found_as SpaceStands bytes heap (some-word heap) so in record { space = is.0; found = is.1; stands = is.2 }

same-steps : (steps : List (Step StoredHeap)) → AreLike (λ (a b : StoredHeap). b ≡ a) steps steps
same-steps [] = tt
same-steps (step ∷ steps) = (refl, same-commit step.commits, same-steps steps)
  where
    same-commit : (next : Option StoredHeap) → GoWith (λ (a b : StoredHeap). b ≡ a) next next
    same-commit None = tt
    same-commit (Some heap) = refl

seen-same : (bytes : List ℕ) (heap known : StoredHeap) → known ≡ heap → HeldAs SpaceStands bytes heap → Stands bytes known
seen-same bytes heap known is so = subst (Stands bytes) (sym is) (file-stands bytes heap so)

module _ (source other : Source) (used next : ℕ) (s t : Table) (a b : Outside (List ℕ)) (heap : StoredHeap) where
  abbrev first : Outside Space
  first = spaces_at source used s a

  abbrev last : Outside Space
  last = spaces_at other next t b

  shown-on : (steps : List (Step StoredHeap)) → Shown meant.Stands heap first last steps → Shown Stands heap a b steps
  shown-on steps is =
      shown_like (λ (x y : StoredHeap). y ≡ x) (HeldAs SpaceStands) Stands seen-same heap heap refl a b steps steps (same-steps steps)
      (device_shown SpaceStands heap source other used next s t a b steps is)

  so-far-on : (steps : List (Step StoredHeap)) (owed : List ℕ) → SoFar meant.Stands heap first last steps owed → SoFar Stands heap a b steps owed
  so-far-on steps owed is =
      so_far_like (λ (x y : StoredHeap). y ≡ x) (HeldAs SpaceStands) Stands seen-same heap heap refl a b steps steps owed (same-steps steps)
      (device_so_far SpaceStands heap source other used next s t a b steps owed is)

  broke-on : (steps : List (Step StoredHeap)) (saved : StoredHeap) → BrokeOff meant.Stands heap first last steps saved → BrokeOff Stands heap a b steps saved
  broke-on steps saved is =
      broke_off_like (λ (x y : StoredHeap). y ≡ x) (HeldAs SpaceStands) Stands seen-same heap heap refl a b steps steps saved saved (same-steps steps) refl
      (device_broke_off SpaceStands heap source other used next s t a b steps saved is)

  module _ (is_image : (bytes : List ℕ) → b.contents bytes → b.images b.clock bytes) where
    done-on : (owed left : List ℕ) (events : List Event) → HasDone meant.Stands first last owed left heap events → HasDone Stands a b owed left heap events
    done-on owed left events done =
        let on = so-far-on (owing owed ∷ steps_meant events) left done.so_far in record { so_far = on; contents = λ bytes at. on.leaves bytes (is_image bytes at); calm = done.calm }

    pub shows-on : (owed left : List ℕ) (Broke : SwizzleFault → Type 0) (events : List Event) (result : Result RunEnd SwizzleFault)
        → Shows meant.Stands first last owed left heap Broke events result → Shows Stands a b owed left heap Broke events result
    shows-on owed left Broke events result (whole before n is done) = whole before n is (done-on owed left events done)
    shows-on owed left Broke events result (broke before rest next is by done) = broke before rest next is by (done-on owed left before done)
    shows-on owed left Broke events result (broke_in before rest saved n is breaks vaults) =
        broke_in before rest saved n is (record { broke = broke-on (owing owed ∷ steps_meant before) saved breaks.broke; none = breaks.none; calm = breaks.calm }) vaults
    shows-on owed left Broke events result (cut is) = cut (record { shown = shown-on (owing owed ∷ steps_meant events) is.shown; rose = is.rose; none = is.none })

-- what a file stands for its space does
pub file-held : (bytes : List ℕ) (heap : StoredHeap) → Stands bytes heap → HeldAs SpaceStands bytes heap
unfolding space_in
file-held bytes heap is = subst (λ (s : Space). SpaceStands s heap) (sym (held_is (held_in bytes) is.space is.found)) is.stands

-- what a crash leaves of a device stands for a heap, and so what it leaves of a store there
pub store-stands : (source : Source) (used : ℕ) (s : Table) (a : Outside (List ℕ)) (heap : StoredHeap) → LeavesOnly Stands a heap
    → LeavesOnly meant.Stands (spaces_at source used s a) heap
store-stands source used s a heap only = store_only SpaceStands source used s a heap (λ bytes at. file-held bytes heap (only bytes at))
