-- What is seen of a directory of databases.
use Rattle.std.specs.Prelude.{◌≡◌, ◌⊎◌, ℕ, ◌-◌, ◌*◌, ◌%◌, ◌^◌, ◌≤◌, nat_eq, nat_lt, if◌then◌else◌, List, [], ◌∷◌, length, Option, Some, None}
use Rattle.std.specs.List.{AllByRecursion}
use Rattle.joint_ops.specs.ps_outside.Outside.{Outside}
use Rattle.joint_ops.specs.obj_layout.Stored.{Space, Damage, damage}
use Rattle.joint_ops.specs.obj_layout.Kind.{kind_number}
use Rattle.joint_ops.specs.obj_layout.declared.kind.Kind.TheVariants as kind
use Rattle.joint_ops.specs.obj_layout.declared.reference.Reference.{Reference}
use Rattle.joint_ops.specs.obj_layout.declared.reference.Reference.TheVariants.{Pid}
use Rattle.joint_ops.specs.obj_layout.declared.vault.VaultFault.TheVariants.{Damaged}
use Rattle.joint_ops.specs.swizzle.declared.fault.SwizzleFault.{SwizzleFault}
use Rattle.joint_ops.specs.swizzle.declared.fault.SwizzleFault.TheVariants.{Vault}
use Rattle.joint_ops.specs.swizzle.Objects.{Object}
use Rattle.joint_ops.specs.swizzle.Heap as area
use Rattle.joint_ops.specs.swizzle.Heap.{IsHeld, header_at, object_at, blank}
use Rattle.joint_ops.specs.swizzle.Joint.{Shown, shown_at}
use Rattle.joint_ops.specs.swizzle.Touch.{IsTouchFault}
use Rattle.joint_ops.specs.heap_places.Shapes.{IsText}
use Rattle.joint_ops.specs.heap_meaning.Standing.{Seen, Pairing, IsKindOf}
use Rattle.joint_ops.specs.ps_heap.ps_base.Limits.{most_databases, most_database_name_bytes, most_password_bytes}
use Rattle.joint_ops.specs.ps_heap.Databases.{Database, Directory}

-- a root is a table
pub record IsRootSeen (seen : Seen) (pair : Pairing) (name : Reference) (root : ℕ) : Type 0 where
  pub paired : pair name root
  pub kind : IsKindOf seen name kind.Table

-- for each database its name, its password and its root, in their order
abbrev pub AreNamed : Seen → Pairing → List Reference → Directory → Type 0
AreNamed seen pair (name ∷ password ∷ root ∷ more) (d ∷ ds) =
    IsText seen name d.name × IsText seen password d.password × IsRootSeen seen pair root d.root × AreNamed seen pair more ds
AreNamed seen pair [] [] = Unit {0}
AreNamed seen pair _ _ = ⊥

-- a name has 1 to 64 bytes, and a password at most 64
pub record IsFitDatabase (d : Database) : Type 0 where
  pub some : 1 ≤ length d.name
  pub short : length d.name ≤ most_database_name_bytes
  pub password : length d.password ≤ most_password_bytes

-- What is seen of a directory of these databases, 1 to 256.
pub record IsDirectory (seen : Seen) (pair : Pairing) (it : Shown) (databases : Directory) : Type 0 where
  pub kind_is : it.kind ≡ kind.Directory
  pub home : length it.nums ≡ 1
  pub some : 1 ≤ length databases
  pub few : length databases ≤ most_databases
  pub fit : AllByRecursion IsFitDatabase databases
  pub names : AreNamed seen pair it.refs databases

-- the directory that a vault has under this PID; it has none where there is no database
pub record IsStoredDirectory (seen : Seen) (pair : Pairing) (pid : ℕ) (databases : Directory) : Type 0 where
  pub it : Shown
  pub there : seen (Pid pid) it
  pub is : IsDirectory seen pair it databases

abbrev pub IsDirectoryUnder : Seen → Pairing → ℕ → Directory → Type 0
IsDirectoryUnder seen pair pid [] = pid ≡ 0
IsDirectoryUnder seen pair pid (d ∷ ds) = IsStoredDirectory seen pair pid (d ∷ ds)

-- the same of an object of the area, or of none
abbrev pub IsDirectoryAt : area.Heap → Seen → Pairing → Option ℕ → Directory → Type 0
IsDirectoryAt heap seen pair None databases = databases ≡ []
IsDirectoryAt heap seen pair (Some at) databases = IsDirectory seen pair (shown_at heap at) databases

-- how many databases an object with so many references names
pub record HasPlaces (refs count : ℕ) : Type 0 where
  pub is : refs ≡ 3 * count
  pub some : 1 ≤ count
  pub few : count ≤ most_databases

-- An object of the area that has the shape of a directory.
pub record IsShaped (heap : area.Heap) (at : ℕ) : Type 0 where
  pub held : IsHeld heap at
  pub kind_is : (header_at heap at).kind ≡ kind.Directory
  pub home : (header_at heap at).nums ≡ 1
  pub count : ℕ
  pub places : HasPlaces (header_at heap at).refs count

-- Why an object that a kind's number, its references and its number words are told of hasn't that shape: the first of these tests that it fails.
abbrev pub refs_damage : ℕ → Option Damage
refs_damage refs =
    if nat_lt refs 3 then damage refs 3 else
    (if nat_lt (3 * most_databases) refs then damage refs (3 * most_databases) else
    (if nat_eq (refs % 3) 0 then None else damage refs (refs - refs % 3)))

abbrev pub shape_damage : ℕ → ℕ → ℕ → Option Damage
shape_damage of refs nums =
    if nat_eq of (kind_number kind.Directory) then (if nat_eq nums 1 then refs_damage refs else damage nums 1) else damage of (kind_number kind.Directory)

-- how many databases a directory of the area names, or none
abbrev pub Counts : area.Heap → Option ℕ → ℕ → Type 0
Counts heap None count = count ≡ 0
Counts heap (Some at) count = HasPlaces (header_at heap at).refs count

-- the references of a directory, or of none; and the object with such references that isn't at home in a database
abbrev pub refs_in : area.Heap → Option ℕ → List Reference
refs_in heap None = []
refs_in heap (Some at) = (object_at heap at).refs

-- the names of what it refers to
abbrev pub names_in : area.Heap → Option ℕ → List Reference
names_in heap None = []
names_in heap (Some at) = (shown_at heap at).refs

abbrev pub directory_of : List Reference → Object
directory_of refs = record (blank kind.Directory (length refs) 1 0) { refs = refs }

-- Why the directory under a PID isn't loaded: it is no PID; it isn't fetched; or what is fetched has another shape.

-- the object under this PID is no directory, and it is damaged at its PID
pub record IsMisfit (new : area.Heap) (pid : ℕ) (fault : SwizzleFault) : Type 0 where
  pub at : ℕ
  pub held : IsHeld new at
  pub pid_is : (header_at new at).pid ≡ pid
  pub what : Damage
  pub why : shape_damage (kind_number (header_at new at).kind) (header_at new at).refs (header_at new at).nums ≡ Some what
  pub fault_is : fault ≡ Vault (Damaged pid what.found what.wanted)

abbrev pub FailsLoading : area.Heap → area.Heap → Outside Space → ℕ → SwizzleFault → Type 0
FailsLoading old new before pid fault =
    ((2 ^ 63 ≤ pid) × (fault ≡ Vault (Damaged pid pid (2 ^ 63)))) ⊎ (IsTouchFault old before (Pid pid) fault ⊎ IsMisfit new pid fault)
