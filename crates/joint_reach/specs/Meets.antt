-- A commit in code beside that of the meaning: whether it stores, what it reaches, and the homes that it gives.
use Rattle.std.specs.Prelude.{◌≡◌, ◌⊎◌, ◌↔◌, ℕ, ◌≤◌, true, false, ◌&&◌, List, Option, Some, None, Result, Ok, Err}
use Rattle.joint_held.specs.joint_ops.obj_layout.declared.reference.Reference.{Reference}
use Rattle.joint_held.specs.joint_ops.swizzle.declared.fault.SwizzleFault.{SwizzleFault}
use Rattle.joint_held.specs.joint_ops.swizzle.Heap as area
use Rattle.joint_held.specs.joint_ops.obj_layout.declared.reference.Reference.TheVariants.{Pid}
use Rattle.joint_held.specs.joint_ops.swizzle.Heap.{IsHeld, header_at, num_at}
use Rattle.joint_held.specs.joint_ops.ps_heap.Objects.{Heap}
use Rattle.joint_held.specs.joint_ops.ps_heap.Databases.{open_for_writing}
use Rattle.joint_held.specs.joint_ops.ps_heap.Held.{Held, home_at}
use Rattle.joint_held.specs.joint_ops.ps_heap.Commit.{newly_reached, home_after, are_writable, is_empty, decision, saved, NotWritable, NothingToDo, Saves}
use Rattle.joint_held.specs.reach_commit.commit_walk.reaching.Reaching.{IsIn}
use Rattle.joint_held.specs.reach_commit.commit_walk.declared.homes.Source.{Source}
use Rattle.joint_held.specs.reach_commit.Deciding.{AreWritable, IsRefused, HasWork, IsIdle}
use Rattle.joint_held.specs.reach_commit.Becoming.{IsReached}
use Rattle.joint_held.specs.reach_commit.declared.commit.CommitAnswer.{CommitAnswer}
use Rattle.joint_held.specs.reach_commit.declared.commit.CommitAnswer.TheVariants as answer
use Rattle.joint_held.specs.Held.{IsOf, IsNoted, IsNodeOf}

-- Whether all that was assigned may be written, and whether there is something to store.
pub record MeetsDecision (here : area.Heap) (writing : List Source) (h : Held) : Type 0 where
  pub writable : AreWritable here writing ↔ (are_writable h.homes (open_for_writing h.openings) h.assigned ≡ true)
  pub refused : (x home : ℕ) → IsRefused here writing x home → are_writable h.homes (open_for_writing h.openings) h.assigned ≡ false
  pub idle : IsIdle here writing ↔ ((is_empty h.assigned && is_empty h.created) ≡ true)
  pub work : HasWork here writing → (is_empty h.assigned && is_empty h.created) ≡ false

-- what code answers is what the meaning decides
abbrev pub DecidesAs : Held → Result CommitAnswer SwizzleFault → Type 0
DecidesAs h (Ok (answer.NotWritable object home)) = decision h ≡ NotWritable
DecidesAs h (Ok answer.Nothing) = decision h ≡ NothingToDo
DecidesAs h (Ok (answer.Saved fresh rewritten)) = decision h ≡ Saves (saved h)
DecidesAs h (Err fault) = decision h ≡ Saves (saved h)

-- The objects of the area with an id that become stored are those with the newly reached ids; and each newly reached id has such an object.
pub record MeetsReach (here : area.Heap) (names : List Reference) (writing : List Source) (directory : Option ℕ) (h : Held) : Type 0 where
  pub reached : (x id : ℕ) → IsOf here names x id → (header_at here x).pid ≡ 0 → IsReached here writing directory x ↔ IsIn id (newly_reached h)
  pub each : (id : ℕ) → IsIn id (newly_reached h) → (x : ℕ) × IsOf here names x id × ((header_at here x).pid ≡ 0)

-- Homes after a commit: an object that becomes stored has that of its id; one that isn't reached has none; and what was at home somewhere is so still.
pub record MeetsHomes (here new : area.Heap) (names : List Reference) (writing : List Source) (directory : Option ℕ) (h : Held) : Type 0 where
  pub fresh : (x id : ℕ) → IsOf here names x id → (header_at here x).pid ≡ 0 → IsReached here writing directory x → home_after h id ≡ Some (num_at new x 0)
  pub loose : (x id : ℕ) → IsOf here names x id → (header_at here x).pid ≡ 0 → (IsReached here writing directory x → ⊥) → home_after h id ≡ None
  pub stays : (x : ℕ) → 1 ≤ (header_at here x).pid → num_at new x 0 ≡ num_at here x 0
  pub kept : (id number : ℕ) → home_at h.homes id ≡ Some number → home_after h id ≡ Some number

-- the table of an id is stored, or becomes so
abbrev pub IsToBeStored : area.Heap → List Reference → List Source → Option ℕ → Reference → ℕ → Type 0
IsToBeStored here names writing directory n id = ((pid : ℕ) × (n ≡ Pid pid)) ⊎ ((t : ℕ) × IsOf here names t id × IsReached here writing directory t)

-- The walk comes to each node that is noted as assigned, and to each one that isn't stored of a table that is stored or becomes so; and to no other node of a
-- table that isn't stored.
pub record MeetsNodes (here : area.Heap) (of : Heap) (names : List Reference) (writing : List Source) (directory : Option ℕ) (nodes : ℕ → List Reference) : Type 0 where
  pub noted : (x : ℕ) → IsHeld here x → IsNodeOf here of names nodes x → IsNoted here x → IsReached here writing directory x
  pub fresh : (x : ℕ) → IsHeld here x → (node : IsNodeOf here of names nodes x) → IsToBeStored here names writing directory node.name node.id
      → (header_at here x).pid ≡ 0 → IsReached here writing directory x
  pub up : (x : ℕ) → IsReached here writing directory x → (node : IsNodeOf here of names nodes x) → (header_at here x).pid ≡ 0
      → IsToBeStored here names writing directory node.name node.id
