-- What a run shows of the events that its program means over a heap, where what is kept stood for that heap at the start.
use Rattle.std.specs.Prelude.{◌≡◌, ◌≢◌, ℕ, List, [], ◌∷◌, ◌++◌, Result, Ok, Err}
use Rattle.commit_moments.specs.Steps.{heap_after, owing}
use Rattle.commit_moments.specs.Shown.{SoFar, Shown, BrokeOff}
use Rattle.ps_outside.specs.Outside.{Outside, Rose}
use Rattle.obj_layout.specs.Stored.{Space}
use Rattle.obj_layout.specs.declared.vault.VaultFault.TheVariants.{Output}
use Rattle.machine_core.specs.swizzle.declared.fault.SwizzleFault.{SwizzleFault}
use Rattle.machine_core.specs.swizzle.declared.fault.SwizzleFault.TheVariants.{Vault}
use Rattle.ps_heap.specs.Events.{Event, Commit, Finish}
use Rattle.ps_heap.specs.Held.{StoredHeap}
use Rattle.machine_core.specs.ps_stepping.Config.{Config}
use Rattle.machine_core.specs.ps_stepping.Machine.{Step, Stuck, Steps}
use Rattle.machine_core.specs.ps_stepping.Path.{Reaches}
use Rattle.machine_core.specs.declared.run_end.RunEnd.{RunEnd}
use Rattle.machine_core.specs.Stepped.{end_of}
use Rattle.session_run.specs.Ran.{BreaksFor}
use Rattle.session_run.specs.machine_commits.Committing.{IsOfVault}
use Rattle.session_meaning.specs.Meant.{steps_meant}

-- Why a run from a configuration, in an area of this size, broke off: the step that it came to, at which its vault was seen so.
pub record BrokeFor {V : Type 0} (outside : V → Outside Space) (new : Outside Space) (size : ℕ) (c : Config) (fault : SwizzleFault) : Type 0 where
  pub vault : V
  pub events : List Event
  pub last : Config
  pub step : Step
  pub way : Reaches c events last
  pub takes : Steps last step
  pub by : BreaksFor (outside vault) new size step fault
  -- there is such a step
  pub goes : step ≢ Stuck

-- Whatever it is that may stand for a heap.
module _ {X : Type 0} (stands : X → StoredHeap → Type 0) (old new : Outside X) (owed left : List ℕ) (heap : StoredHeap) where
  -- What was pending at the start, and then these events, were done, but for what is pending; a read gives what stands for the heap that is kept then; and the output
  -- didn't fail.
  pub record HasDone (events : List Event) : Type 0 where
    pub so_far : SoFar stands heap old new (owing owed ∷ steps_meant events) left
    pub contents : (x : X) → new.contents x → stands x (heap_after heap (steps_meant events))
    pub calm : new.output_faults ≡ old.output_faults

  -- The output failed in them: a prefix of what they output was output, and nothing is pending.
  pub record IsCut (events : List Event) : Type 0 where
    pub shown : Shown stands heap old new (owing owed ∷ steps_meant events)
    pub rose : Rose old.output_faults new.output_faults
    pub none : left ≡ []

  -- They were done, all that they output was output, and the vault failed in a commit of this heap, which a crash leaves whole or not at all.
  pub record BreaksIn (events : List Event) (next : StoredHeap) : Type 0 where
    pub broke : BrokeOff stands heap old new (owing owed ∷ steps_meant events) next
    pub none : left ≡ []
    pub calm : new.output_faults ≡ old.output_faults

  -- Of these events a run has done what its result says; where a step broke off, for such a cause.
  pub data Shows (Broke : SwizzleFault → Type 0) (events : List Event) : Result RunEnd SwizzleFault → Type 0 where
    -- all of them, of which the last is the end
    whole : {e : RunEnd} (before : List Event) (counted : ℕ) → events ≡ before ++ Finish (end_of e) counted ∷ [] → HasDone events → Shows Broke events (Ok e)
    -- those before one that it broke off in
    broke : {fault : SwizzleFault} (before rest : List Event) (next : Event) → events ≡ before ++ next ∷ rest → Broke fault → HasDone before → Shows Broke events (Err fault)
    -- those before a commit in which the vault failed
    broke_in : {fault : SwizzleFault} (before rest : List Event) (next : StoredHeap) (counted : ℕ) → events ≡ before ++ Commit next counted ∷ rest
        → BreaksIn before next → IsOfVault fault → Shows Broke events (Err fault)
    -- a prefix of them: the output failed
    cut : IsCut events → Shows Broke events (Err (Vault Output))
