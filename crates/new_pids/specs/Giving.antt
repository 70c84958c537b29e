-- Objects of a list get PIDs, in order, and what that does to the names of objects.
use Rattle.std.specs.Prelude.{◌≡◌, ℕ, ◌+◌, ◌<◌, ◌≤◌, List, [], ◌∷◌, ◌++◌, map, Option, None}
use Rattle.ps_base.specs.CodeUnit.{UnitView}
use Rattle.joint_ops.specs.ps_outside.Outside.{Outside}
use Rattle.joint_ops.specs.obj_layout.Stored.{Space}
use Rattle.joint_ops.specs.obj_layout.declared.reference.Reference.{Reference}
use Rattle.joint_ops.specs.obj_layout.declared.reference.Reference.TheVariants.{Pid}
use Rattle.joint_ops.specs.swizzle.Objects.{size_of}
use Rattle.joint_ops.specs.swizzle.Heap as area
use Rattle.joint_ops.specs.swizzle.Heap.{IsHeap, IsHeld, header_at, object_at, local_of}
use Rattle.joint_ops.specs.swizzle.Joint.{name_at}
use Rattle.joint_ops.specs.swizzle.Numbered.{GivesPid}
use Rattle.joint_ops.specs.ps_heap.Values.{Value}
use Rattle.joint_ops.specs.ps_heap.Objects.{Heap}
use Rattle.renames.specs.Renames.{Renames}
use Rattle.joint_ops.specs.World.{IsStored, seen, IsWorld, DenotesIn, DenotesScopeIn, IsUnitIn}

-- What a new PID asks: the object has none, and none has it.
pub record MayGive (heap : area.Heap) (at pid : ℕ) : Type 0 where
  pub sound : IsHeap heap
  pub held : IsHeld heap at
  pub none : (header_at heap at).pid ≡ 0
  pub low : 1 ≤ pid
  pub fresh : local_of heap pid ≡ None

-- Each object of the list that has no PID gets the next one: the first is given, and each one comes after the words of the object before it.
pub data GivesAll : area.Heap → List ℕ → ℕ → area.Heap → ℕ → Type 0 where
  done : (heap : area.Heap) (next : ℕ) → GivesAll heap [] next heap next
  passed : (old new : area.Heap) (xs : List ℕ) (x first next : ℕ) → GivesAll old xs first new next → 1 ≤ (header_at new x).pid → GivesAll old (xs ++ x ∷ []) first new next
  given : (old mid new : area.Heap) (xs : List ℕ) (x first next : ℕ) → GivesAll old xs first mid next → MayGive mid x next → GivesPid mid new x next →
      GivesAll old (xs ++ x ∷ []) first new (next + size_of (object_at mid x))

-- every PID of the area is below this number
abbrev pub AreBelow : area.Heap → ℕ → Type 0
AreBelow heap pid = (x : ℕ) → IsHeld heap x → (header_at heap x).pid < pid

-- every PID that a vault holds words under is, too
abbrev pub AreStoredBelow : Outside Space → ℕ → Type 0
AreStoredBelow outside first = (pid : ℕ) (words : List ℕ) → IsStored outside pid words → (1 ≤ pid) × (pid < first)

-- Objects got other names, all at once: area and vault stand for the same heap under the new names, and what an index denotes it denotes still. The words
-- of a machine are indexes, so they stay as they are.
pub record Renamed (old new : area.Heap) (outside : Outside Space) : Type 0 where
  pub to : Reference → Reference
  pub renames : Renames (seen old outside) (seen new outside) to
  -- a PID stays
  pub pids : (pid : ℕ) → to (Pid pid) ≡ Pid pid
  pub index : (x : ℕ) → name_at new x ≡ to (name_at old x)
  pub held : (x : ℕ) → IsHeld old x → IsHeld new x
  pub world : (of : Heap) (names : List Reference) → IsWorld old outside of names → IsWorld new outside of (map to names)
  pub values : (names : List Reference) (at : Option ℕ) (v : Value) → DenotesIn old outside names at v → DenotesIn new outside (map to names) at v
  pub scopes : (names : List Reference) (at scope : Option ℕ) → DenotesScopeIn old outside names at scope → DenotesScopeIn new outside (map to names) at scope
  pub units : (code : ℕ) (u : UnitView) → IsUnitIn old outside code u → IsUnitIn new outside code u
