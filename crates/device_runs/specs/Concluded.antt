-- What a whole call shows of the device on which a volume was attached and a program run over it, and which had what was pending then.
use Rattle.std.specs.Prelude.{◌≡◌, ◌⊎◌, ℕ, ◌≤◌, List, [], ◌∷◌, ◌++◌, Result, Ok, Err, Some}
use Rattle.commit_moments.specs.Steps.{Step, heap_after, broken}
use Rattle.commit_moments.specs.Shown.{LeavesOnly, ShowsSince, TellsAllOf}
use Rattle.ps_port.specs.ps_outside.Outside.{Outside, Rose}
use Rattle.obj_layout.specs.declared.vault.VaultFault.TheVariants.{Output}
use Rattle.session_meaning.specs.session_run.machine_core.swizzle.declared.fault.SwizzleFault.{SwizzleFault}
use Rattle.session_meaning.specs.session_run.machine_core.swizzle.declared.fault.SwizzleFault.TheVariants.{Vault}
use Rattle.ps_heap.specs.Events.{Event, Commit, Finish}
use Rattle.ps_heap.specs.Held.{StoredHeap}
use Rattle.session_meaning.specs.session_run.machine_core.declared.run_end.RunEnd.{RunEnd}
use Rattle.session_meaning.specs.session_run.machine_core.Stepped.{end_of}
use Rattle.session_meaning.specs.session_run.machine_commits.Committing.{IsOfVault}
use Rattle.session_meaning.specs.Meant.{steps_meant}
use Rattle.volume_meaning.specs.Stands.{Stands}

module _ (old new : Outside (List ℕ)) (heap : StoredHeap) where
  -- From the moment of attaching on these steps are shown, and all that they output was output: the output didn't fail.
  pub record ShowsAll (steps : List (Step StoredHeap)) : Type 0 where
    pub shown : ShowsSince Stands heap old new steps
    pub told : TellsAllOf Stands old new steps
    pub calm : new.output_faults ≡ old.output_faults

  -- These events are shown, all that they output was output, and the device failed in a commit of this heap, which a crash leaves whole or not at all. Whatever
  -- line is output then comes after them.
  pub record BrokeSince (events : List Event) (next : StoredHeap) : Type 0 where
    pub shown : (line : List ℕ) → ShowsSince Stands heap old new (steps_meant events ++ broken line (Some next) ∷ [])
    pub told : TellsAllOf Stands old new (steps_meant events)
    pub calm : new.output_faults ≡ old.output_faults
    pub leaves : (image : List ℕ) → new.images new.clock image → Stands image (heap_after heap (steps_meant events)) ⊎ Stands image next

  -- Of these events the call has shown what is concluded; where a step broke off, for such a cause.
  pub data Concludes (Broke : SwizzleFault → Type 0) (events : List Event) : Result RunEnd SwizzleFault → Type 0 where
    -- all of them, of which the last is the end
    whole : {e : RunEnd} (before : List Event) (counted : ℕ) → events ≡ before ++ Finish (end_of e) counted ∷ [] → ShowsAll (steps_meant events)
        → Concludes Broke events (Ok e)
    -- those before one that it broke off in
    broke : {fault : SwizzleFault} (before rest : List Event) (next : Event) → events ≡ before ++ next ∷ rest → Broke fault → ShowsAll (steps_meant before)
        → LeavesOnly Stands new (heap_after heap (steps_meant before)) → Concludes Broke events (Err fault)
    -- those before a commit in which the device failed
    broke_in : {fault : SwizzleFault} (before rest : List Event) (next : StoredHeap) (counted : ℕ) → events ≡ before ++ Commit next counted ∷ rest
        → BrokeSince before next → IsOfVault fault → Concludes Broke events (Err fault)
    -- a prefix of them: the output failed
    cut : ShowsSince Stands heap old new (steps_meant events) → Rose old.output_faults new.output_faults → old.output_faults ≤ new.output_faults → Concludes Broke events (Err (Vault Output))
