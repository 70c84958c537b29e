-- What is so of runs over the volume of a host.
use Rattle.std.specs.Prelude.{◌≢◌, ℕ, List, [], Result, Err}
use Rattle.ps_port.specs.ps_outside.Outside.{Outside}
use Rattle.ps_port.specs.Telling.{TellsAll, FailsAfter, LeavesDevice}
use Rattle.obj_layout.specs.declared.vault.VaultFault.TheVariants.{Output}
use Rattle.session_meaning.specs.session_run.machine_core.swizzle.declared.fault.SwizzleFault.{SwizzleFault}
use Rattle.session_meaning.specs.session_run.machine_core.swizzle.declared.fault.SwizzleFault.TheVariants.{Vault}
use Rattle.session_meaning.specs.session_run.machine_core.ps_stepping.Config.{Config}
use Rattle.session_meaning.specs.session_run.machine_core.declared.run_end.RunEnd.{RunEnd}
use Rattle.ps_heap.specs.Events.{Event}
use Rattle.ps_heap.specs.Held.{StoredHeap}
use Rattle.obj_store.specs.Store.{Store, outside_of}
use Rattle.session_meaning.specs.Meant as meant
use Rattle.session_meaning.specs.Shows.{BrokeFor, Shows}
use Rattle.ps_volumes.specs.Attaching.{IsStored}
use Rattle.volume_meaning.specs.Stands.{Stands}
use Rattle.device_runs.specs.Concluded.{Concludes}

-- Between two states of the store of a volume that was attached, and of which a read gave at the start what stood for a heap, a run shows these events, with so much
-- pending.
module _ {H : Type 0} (outside : H → Outside (List ℕ)) (old : Outside (List ℕ)) (attached ran : Store H) where
  pub record RunsOver (heap : StoredHeap) (events : List Event) (size : ℕ) (c : Config) (left : List ℕ) (result : Result RunEnd SwizzleFault) : Type 0 where
    pub is_attached : IsStored outside old attached
    pub starts : (bytes : List ℕ) → old.contents bytes → Stands bytes heap
    pub shows : Shows meant.Stands (outside_of outside attached) (outside_of outside ran) [] left heap (BrokeFor (outside_of outside) (outside_of outside ran) size c) events result

  abbrev pub ConcludesBy : Outside (List ℕ) → StoredHeap → List Event → ℕ → Config → Result RunEnd SwizzleFault → Type 0
  ConcludesBy new heap events size c answer = Concludes old new heap (BrokeFor (outside_of outside) (outside_of outside ran) size c) events answer

  -- the host outputs what is pending
  abbrev pub ConcludesTold : Outside (List ℕ) → Type 0
  ConcludesTold new = (heap : StoredHeap) (events : List Event) (size : ℕ) (c : Config) (left : List ℕ) (result : Result RunEnd SwizzleFault)
      → RunsOver heap events size c left result → result ≢ Err (Vault Output) → TellsAll (outside ran.host) new left → LeavesDevice (outside ran.host) new
      → ConcludesBy new heap events size c result

  -- the output fails in it
  abbrev pub ConcludesFailed : Outside (List ℕ) → Type 0
  ConcludesFailed new = (heap : StoredHeap) (events : List Event) (size : ℕ) (c : Config) (left : List ℕ) (result : Result RunEnd SwizzleFault)
      → RunsOver heap events size c left result → result ≢ Err (Vault Output) → FailsAfter (outside ran.host) new left → LeavesDevice (outside ran.host) new
      → ConcludesBy new heap events size c (Err (Vault Output))

  -- it failed in the run
  abbrev pub ConcludesCut : Type 0
  ConcludesCut = (heap : StoredHeap) (events : List Event) (size : ℕ) (c : Config) (left : List ℕ) → RunsOver heap events size c left (Err (Vault Output))
      → ConcludesBy (outside ran.host) heap events size c (Err (Vault Output))
