-- What a run does as the outside sees it, step by step: what it outputs, and which heaps it commits.
use Rattle.std.specs.Prelude.{◌≡◌, ◌⊎◌, List, [], ◌∷◌, ◌++◌, Option, Some, None, ℕ}
use Rattle.ps_outside.specs.Outside.{Adds, IsPrefix}

-- A step outputs bytes, and it may commit a heap.
pub record Step (H : Type 0) : Type 0 where
  pub output : List ℕ
  pub commits : Option H

-- what breaks off in a step outputs this line in its place, and may leave what it was to commit
abbrev pub broken : {H : Type 0} → List ℕ → Option H → Step H
broken line next = record { output = line; commits = next }

-- what is owed when a run begins, as a step before its own
abbrev pub owing : {H : Type 0} → List ℕ → Step H
owing owed = record { output = owed; commits = None }

-- what steps output, one after the other
abbrev pub output_by : {H : Type 0} → List (Step H) → List ℕ
output_by [] = []
output_by (step ∷ steps) = step.output ++ output_by steps

-- the heap after a step, and after steps: that of the last commit, or the one before them
abbrev pub heap_of : {H : Type 0} → H → Option H → H
heap_of before None = before
heap_of before (Some heap) = heap

abbrev pub heap_after : {H : Type 0} → H → List (Step H) → H
heap_after start [] = start
heap_after start (step ∷ steps) = heap_after (heap_of start step.commits) steps

-- none of them commits
abbrev pub AreQuiet : {H : Type 0} → List (Step H) → Type 0
AreQuiet [] = Unit {0}
AreQuiet (step ∷ steps) = (step.commits ≡ None) × AreQuiet steps

-- what the next step outputs and commits, where there is one
abbrev pub output_next : {H : Type 0} → List (Step H) → List ℕ
output_next [] = []
output_next (step ∷ steps) = step.output

abbrev pub commit_next : {H : Type 0} → List (Step H) → Option H
commit_next [] = None
commit_next (step ∷ steps) = step.commits

-- an image stands for a heap, where there is one
abbrev pub StandsForSome : {X H : Type 0} → (X → H → Type 0) → X → Option H → Type 0
StandsForSome stands x None = ⊥
StandsForSome stands x (Some heap) = stands x heap

-- At a moment at which these bytes had been output, in a run of these steps, some first steps are done. What they output was output, and a prefix of what
-- the next one outputs; and each image stands for the heap after them, or for the one that the next one commits.
pub record Amid {X H : Type 0} (stands : X → H → Type 0) (start : H) (steps : List (Step H)) (told_before : List ℕ → Type 0) (bytes : List ℕ) (images : X → Type 0) : Type 0 where
  pub done : List (Step H)
  pub rest : List (Step H)
  pub steps_are : steps ≡ done ++ rest
  pub front : List ℕ
  pub is_prefix : IsPrefix front (output_next rest)
  pub told : Adds told_before (output_by done ++ front) bytes
  pub leaves : (x : X) → images x → stands x (heap_after start done) ⊎ StandsForSome stands x (commit_next rest)
