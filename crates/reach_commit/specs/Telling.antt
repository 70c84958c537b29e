-- What is seen of area and vault together, and what the vault holds, before a commit and after it.
use Rattle.std.specs.Prelude.{◌≡◌, ◌⊎◌, ℕ, ◌≤◌, List, map, Option}
use Rattle.swizzle.specs.obj_layout.ps_outside.Outside.{Outside, After}
use Rattle.swizzle.specs.obj_layout.Stored.{Space, Holds}
use Rattle.swizzle.specs.obj_layout.declared.reference.Reference.{Reference}
use Rattle.swizzle.specs.obj_layout.declared.reference.Reference.TheVariants.{Nil, Pid}
use Rattle.swizzle.specs.Heap as area
use Rattle.swizzle.specs.Heap.{IsHeld, header_at}
use Rattle.swizzle.specs.Joint.{Shown, name_at}
use Rattle.swizzle.specs.Changes.{IsKnown}
use Rattle.reaching.specs.Reaching.{IsIn}
use Rattle.joint_ops.specs.heap_meaning.ps_base.CodeUnit.{UnitView}
use Rattle.joint_ops.specs.ps_heap.Values.{Value}
use Rattle.joint_ops.specs.ps_heap.Objects.{Heap}
use Rattle.joint_ops.specs.heap_meaning.Standing.{Seen}
use Rattle.joint_ops.specs.World.{IsStored, seen, IsWorld, DenotesIn, DenotesScopeIn, IsUnitIn}
use Rattle.renames.specs.Renames.{renamed, IsRehomed, Now}
use Rattle.commit_images.specs.Images.{image_of}
use Rattle.commit_images.specs.Stored.{IsCut, IsWhole, Stores}
use Rattle.commit_images.specs.Saved.{saved}

-- The vault tells what it holds: it is cut into objects, and each object of the area that has a PID is among them. And each object of the area has the
-- counts of its kind.
pub record IsTold (heap : area.Heap) (outside : Outside Space) : Type 0 where
  pub content : Space
  pub is : outside.contents content
  pub cut : (space : Space) → outside.contents space → IsCut space
  pub there : (x : ℕ) → IsHeld heap x → 1 ≤ (header_at heap x).pid → (words : List ℕ) × Holds outside (header_at heap x).pid words
  pub whole : (x : ℕ) → IsHeld heap x → IsWhole heap x

-- an outside that holds what this one holds, after a step
abbrev pub after_step : Outside Space → (Space → Space) → Outside Space
after_step outside step = record outside { contents = λ space. After outside.contents (λ a b. step a ≡ b) space }

-- What was seen under a name before: the same object, but for its name, those in its places, and its home.
pub record WasSeen (old : Seen) (to : Reference → Reference) (name : Reference) (it : Shown) : Type 0 where
  pub before : Reference
  pub was : Shown
  pub there : old before was
  pub name_is : name ≡ to before
  pub it_is : (it ≡ renamed to was) ⊎ IsRehomed (renamed to was) it

-- Each object has its new name, also in the places of others, and nothing else of it has changed but its home. A PID stays.
pub record Moves (old new : Seen) (to : Reference → Reference) : Type 0 where
  pub nil : to Nil ≡ Nil
  pub pids : (pid : ℕ) → to (Pid pid) ≡ Pid pid
  pub one : (a b : Reference) → IsKnown old a → IsKnown old b → to a ≡ to b → a ≡ b
  pub forth : (name : Reference) (it : Shown) → old name it → Now new (to name) (renamed to it)
  pub back : (name : Reference) (it : Shown) → new name it → WasSeen old to name it

-- Area and vault stand for the same heap under new names, and what an index of the area denotes it denotes still.
pub record Moved (old new : area.Heap) (before after : Outside Space) : Type 0 where
  pub to : Reference → Reference
  pub moves : Moves (seen old before) (seen new after) to
  pub index : (x : ℕ) → name_at new x ≡ to (name_at old x)
  pub world : (of : Heap) (names : List Reference) → IsWorld old before of names → IsWorld new after of (map to names)
  pub values : (names : List Reference) (at : Option ℕ) (v : Value) → DenotesIn old before names at v → DenotesIn new after (map to names) at v
  pub scopes : (names : List Reference) (at scope : Option ℕ) → DenotesScopeIn old before names at scope → DenotesScopeIn new after (map to names) at scope
  pub units : (code : ℕ) (u : UnitView) → IsUnitIn old before code u → IsUnitIn new after code u

-- What is told after a commit where the vault told what it held. The vault holds the present words of each object that was stored now, and of each one that
-- it held as it was.
pub record Tells (old new : area.Heap) (before after : Outside Space) (fresh changed : List ℕ) (directory : ℕ) : Type 0 where
  pub told : IsTold old before → IsTold new after
  pub stores : IsTold old before → (space : Space) → before.contents space → Stores new fresh changed space (saved new fresh changed directory space)
  pub kept : IsTold old before → (x : ℕ) → IsHeld new x → 1 ≤ (header_at new x).pid
      → (IsIn x fresh ⊎ IsIn x changed) ⊎ IsStored before (header_at old x).pid (image_of old x) → IsStored after (header_at new x).pid (image_of new x)
  pub moved : IsTold old before → Moved old new before after
