-- What a call shows from its start to now, and how it stands.
use Rattle.std.specs.Prelude.{◌≡◌, ◌⊎◌, ℕ, ◌<◌, ◌≤◌, List, [], ◌∷◌, ◌++◌, Some}
use Rattle.ps_outside.specs.Outside.{Outside, Adds}
use Rattle.ps_outside.specs.Past.{KeepsPast, KeepsTold}
use Rattle.commit_moments.specs.Steps.{Step, output_by, heap_after, AreQuiet, Amid, broken}

module _ {X H : Type 0} (stands : X → H → Type 0) where
  -- each present image stands for this heap
  abbrev pub LeavesOnly : Outside X → H → Type 0
  LeavesOnly now heap = (x : X) → now.images now.clock x → stands x heap

  -- each image of the way stands for what one of its start does
  pub record LeavesAlike (old new : Outside X) : Type 0 where
    pub each : (m : ℕ) (x : X) → old.clock ≤ m → m ≤ new.clock → new.images m x → (y : X) × old.images old.clock y × ((heap : H) → stands y heap → stands x heap)

  -- At each moment of the way it is amid these steps; the moments before stay.
  pub record Shown (start : H) (old new : Outside X) (steps : List (Step H)) : Type 0 where
    pub told_past : KeepsTold old new
    pub past : KeepsPast old new
    pub each : (m : ℕ) (bytes : List ℕ) → old.clock ≤ m → m ≤ new.clock → new.told m bytes → Amid stands start steps (old.told old.clock) bytes (new.images m)

  -- Now all that the steps output was output but what is owed, and that is due since their last commit.
  pub record TellsBut (old now : Outside X) (steps : List (Step H)) (owed : List ℕ) : Type 0 where
    pub whole : List (Step H)
    pub late : List (Step H)
    pub steps_are : steps ≡ whole ++ late
    pub quiet : AreQuiet late
    pub sent : List ℕ
    pub late_is : output_by late ≡ sent ++ owed
    pub told : (bytes : List ℕ) → now.told now.clock bytes → Adds (old.told old.clock) (output_by whole ++ sent) bytes

  -- So far these steps were done, and these bytes are owed.
  pub record SoFar (start : H) (old now : Outside X) (steps : List (Step H)) (owed : List ℕ) : Type 0 where
    pub shown : Shown start old now steps
    pub due : TellsBut old now steps owed
    pub leaves : LeavesOnly now (heap_after start steps)

  -- and at its end all was output
  abbrev pub TellsAllOf : Outside X → Outside X → List (Step H) → Type 0
  TellsAllOf old new steps = (bytes : List ℕ) → new.told new.clock bytes → Adds (old.told old.clock) (output_by steps) bytes

  -- It broke off after these steps, all of which were output, in a commit of this heap, which a crash may leave or not. Whatever line is output of it
  -- then comes after them.
  pub record BrokeOff (start : H) (old now : Outside X) (steps : List (Step H)) (heap : H) : Type 0 where
    pub shown : (line : List ℕ) → Shown start old now (steps ++ broken line (Some heap) ∷ [])
    pub told : TellsAllOf old now steps
    pub leaves : (x : X) → now.images now.clock x → stands x (heap_after start steps) ⊎ stands x heap

  -- A whole call. Up to some moment a crash leaves what it could leave at the start, and nothing is output; from it on it is amid these steps.
  pub record ShowsSince (start : H) (old new : Outside X) (steps : List (Step H)) : Type 0 where
    pub told_past : KeepsTold old new
    pub past : KeepsPast old new
    pub since : ℕ
    pub from : old.clock ≤ since
    pub until : since ≤ new.clock
    pub silent : (m : ℕ) (bytes : List ℕ) → old.clock ≤ m → m < since → new.told m bytes → old.told old.clock bytes
    pub before : (m : ℕ) (x : X) → old.clock ≤ m → m < since → new.images m x → old.images old.clock x
    pub each : (m : ℕ) (bytes : List ℕ) → since ≤ m → m ≤ new.clock → new.told m bytes → Amid stands start steps (old.told old.clock) bytes (new.images m)
