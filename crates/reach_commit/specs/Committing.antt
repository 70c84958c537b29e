-- What a commit does that stores.
use Rattle.std.specs.Prelude.{◌≡◌, ◌⊎◌, ℕ, ◌+◌, ◌≤◌, true, List, [], length, Option, Some, None, Ok, Err}
use Rattle.swizzle.specs.obj_layout.ps_outside.Outside.{Outside, LeavesSame}
use Rattle.swizzle.specs.obj_layout.declared.kind.Kind.TheVariants.{Node}
use Rattle.swizzle.specs.obj_layout.declared.vault.VaultFault.{VaultFault}
use Rattle.swizzle.specs.obj_layout.Stored.{Space}
use Rattle.swizzle.specs.obj_layout.Storing.{unfiled, Becomes, Settles}
use Rattle.swizzle.specs.Heap.{Heap, IsHeld, AreOnce, top_of, header_at, ref_at, num_at}
use Rattle.reaching.specs.Reaching.{IsIn}
use Rattle.commit_walk.specs.Walk.{has_home}
use Rattle.commit_walk.specs.declared.homes.Source.{Source}
use Rattle.commit_images.specs.Images.{words_of}
use Rattle.commit_images.specs.Stored.{AreNumbered}
use Rattle.commit_images.specs.Saved.{saved, saving, FailsSave}
use Rattle.reach_commit.specs.Becoming.{IsReached, HaveHomes}
use Rattle.reach_commit.specs.Telling.{after_step, Tells}

-- An assigned object is written anew: it was stored, and has a home or is a node that was reached.
pub record IsChanged (heap : Heap) (writing : List Source) (directory : Option ℕ) (y : ℕ) : Type 0 where
  pub assigned : IsIn y heap.assigned
  pub stored : 1 ≤ (header_at heap y).pid
  pub kind : (has_home (header_at heap y) ≡ true) ⊎ (((header_at heap y).kind ≡ Node) × IsReached heap writing directory y)

-- Objects stay where they are, with what they refer to and their numbers but for homes; one that has a PID keeps it.
pub record Remains (old new : Heap) : Type 0 where
  pub size : new.size ≡ old.size
  pub top : top_of new ≡ top_of old
  pub held : (y : ℕ) → IsHeld old y → IsHeld new y
  pub back : (y : ℕ) → IsHeld new y → IsHeld old y
  pub kind : (y : ℕ) → (header_at new y).kind ≡ (header_at old y).kind
  pub refs_count : (y : ℕ) → (header_at new y).refs ≡ (header_at old y).refs
  pub nums_count : (y : ℕ) → (header_at new y).nums ≡ (header_at old y).nums
  pub bytes : (y : ℕ) → (header_at new y).bytes ≡ (header_at old y).bytes
  pub refs : (y slot : ℕ) → ref_at new y slot ≡ ref_at old y slot
  pub nums : (y i : ℕ) → 1 ≤ i → num_at new y i ≡ num_at old y i
  pub pids : (y : ℕ) → 1 ≤ (header_at old y).pid → (header_at new y).pid ≡ (header_at old y).pid

-- What is new is exactly what was reached and wasn't stored; in the order of the list each lies behind the words before it. What is written anew is
-- exactly what was changed.
pub record Commits (old new : Heap) (writing : List Source) (directory : Option ℕ) (used : ℕ) (fresh changed : List ℕ) : Type 0 where
  pub fresh_only : (y : ℕ) → IsIn y fresh → IsReached old writing directory y × ((header_at old y).pid ≡ 0)
  pub fresh_all : (y : ℕ) → IsReached old writing directory y → (header_at old y).pid ≡ 0 → IsIn y fresh
  pub fresh_once : AreOnce fresh
  pub numbered : AreNumbered new fresh used
  pub unstored : (y : ℕ) → (IsIn y fresh → ⊥) → (header_at new y).pid ≡ (header_at old y).pid
  pub changed_only : (y : ℕ) → IsIn y changed → IsChanged old writing directory y
  pub changed_all : (y : ℕ) → IsChanged old writing directory y → IsIn y changed
  pub changed_once : AreOnce changed
  pub remains : Remains old new
  pub homes : HaveHomes old new writing directory fresh

-- the PID of an object, 0 where there is none
abbrev pub pid_of : Heap → Option ℕ → ℕ
pid_of heap None = 0
pid_of heap (Some at) = (header_at heap at).pid

-- A commit that stored so many objects.
pub record Saves (old new : Heap) (writing : List Source) (directory : Option ℕ) (before after : Outside Space) (used now most named fresh_count changed_count : ℕ) : Type 0 where
  pub fresh : List ℕ
  pub changed : List ℕ
  pub fresh_is : fresh_count ≡ length fresh
  pub changed_is : changed_count ≡ length changed
  pub commits : Commits old new writing directory used fresh changed
  pub unassigned : new.assigned ≡ []
  pub unreached : new.reached ≡ []
  pub used_is : now ≡ used + words_of new fresh
  pub room : 1 ≤ length fresh → now ≤ most
  pub named_is : named ≡ pid_of new directory
  pub becomes : Becomes before after (saved new fresh changed (pid_of new directory))
  pub settles : Settles {T = Unit {0}} before after (saving new fresh changed now) (saved new fresh changed (pid_of new directory)) (Ok tt)
  pub tells : Tells old new before after fresh changed (pid_of new directory)

-- A commit that broke off: the area has the new PIDs already; a crash leaves what it could leave before, or all that was to be stored. Either it leaves nothing
-- but what it could leave before, or a vault that had all that was to be stored would tell it.
pub record BreaksOff (old new : Heap) (writing : List Source) (directory : Option ℕ) (before after : Outside Space) (used most : ℕ) (fault : VaultFault) : Type 0 where
  pub fresh : List ℕ
  pub changed : List ℕ
  pub commits : Commits old new writing directory used fresh changed
  pub settles : Settles {T = Unit {0}} before after (saving new fresh changed (used + words_of new fresh)) (saved new fresh changed (pid_of new directory)) (Err fault)
  pub fails : FailsSave new fresh changed before after used most fault
  pub whole : LeavesSame (unfiled before) (unfiled after) ⊎ Tells old new before (after_step before (saved new fresh changed (pid_of new directory))) fresh changed (pid_of new directory)
