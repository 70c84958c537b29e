-- What the calls on databases answer, by what the meaning says of the databases that the directory names.
use Rattle.std.specs.Prelude.{◌≡◌, ◌⊎◌, ℕ, suc, ◌+◌, ◌*◌, ◌<◌, List, [], ◌∷◌, ◌++◌, length, Bool, Option, Some, None, Result, Ok, Err}
use Rattle.joint_ops.specs.ps_outside.Outside.{Outside}
use Rattle.joint_ops.specs.obj_layout.Stored.{Space}
use Rattle.joint_ops.specs.obj_layout.declared.kind.Kind.TheVariants as kind
use Rattle.joint_ops.specs.obj_layout.declared.reference.Reference.{Reference}
use Rattle.joint_ops.specs.swizzle.declared.fault.SwizzleFault.{SwizzleFault}
use Rattle.joint_ops.specs.swizzle.declared.fault.SwizzleFault.TheVariants.{AreaFull}
use Rattle.joint_ops.specs.swizzle.Heap as area
use Rattle.joint_ops.specs.swizzle.Heap.{IsHeld, header_at, top_of}
use Rattle.joint_ops.specs.swizzle.Joint.{name_at}
use Rattle.joint_ops.specs.heap_meaning.Paired.{paired}
use Rattle.joint_ops.specs.Seeing.{Gains}
use Rattle.joint_ops.specs.World.{seen, BreaksOff}
use Rattle.joint_ops.specs.ps_heap.Databases.{Directory, Numbered, Mode, Fault, Admits, Refuses, create_fault, admission, directory_weight}
use Rattle.joint_ops.specs.ps_heap.Databases as meant
use Rattle.db_dir.specs.declared.fault.DirFault.{DirFault}
use Rattle.db_dir.specs.declared.fault.DirFault.TheVariants as dir
use Rattle.db_dir.specs.declared.create.Created.{Created}
use Rattle.db_dir.specs.declared.create.Created.TheVariants as created
use Rattle.db_dir.specs.declared.admit.Admitted.{Admitted}
use Rattle.db_dir.specs.declared.admit.Admitted.TheVariants as admitted
use Rattle.db_dir.specs.Directories.{IsDirectoryAt, IsShaped}
use Rattle.db_dir.specs.Found.{is_writing}

-- the number of a database, where there is one
abbrev pub number_in : Option Numbered → Option ℕ
number_in None = None
number_in (Some d) = Some d.number

abbrev pub fault_of : DirFault → Fault
fault_of dir.BadName = meant.BadName
fault_of dir.BadPassword = meant.BadPassword
fault_of dir.Exists = meant.Exists
fault_of dir.TooMany = meant.TooMany
fault_of dir.NoSuchDatabase = meant.NoSuchDatabase
fault_of dir.Password = meant.WrongPassword
fault_of dir.BadMode = meant.BadMode

module _ (old new : area.Heap) (before after : Outside Space) (row : List Reference) where
  -- the directory names one database more, the last, and the number is its number; the area only gained objects
  pub record Makes (databases : Directory) (name password : List ℕ) (root directory number : ℕ) : Type 0 where
    pub none : create_fault databases name password ≡ None
    pub number_is : number ≡ suc (length databases)
    pub is : (id : ℕ) → paired row (name_at old root) id
        → IsDirectoryAt new (seen new after) (paired row) (Some directory) (databases ++ record { name = name; password = password; root = id } ∷ [])
    pub gains : Gains old new before after

  -- there was no room for that directory, by its weight
  pub record IsShort (databases : Directory) (name password : List ℕ) (fault : SwizzleFault) : Type 0 where
    pub none : create_fault databases name password ≡ None
    pub wanted : ℕ
    pub words : 8 * wanted ≡ directory_weight (suc (length databases))
    pub fault_is : fault ≡ AreaFull (top_of new) wanted new.size
    pub full : new.size < top_of new + wanted

  abbrev pub Creates : Directory → List ℕ → List ℕ → ℕ → Result Created SwizzleFault → Type 0
  Creates databases name password root (Ok (created.Made directory number)) = Makes databases name password root directory number
  Creates databases name password root (Ok (created.Fault fault)) = (create_fault databases name password ≡ Some (fault_of fault)) × Gains old new before after
  Creates databases name password root (Err fault) = BreaksOff old new before after fault ⊎ IsShort databases name password fault

  -- a database is opened in a mode
  pub record IsOpen (to : Numbered) (mode : Mode) (number root : ℕ) (writing : Bool) : Type 0 where
    pub number_is : number ≡ to.number
    pub root_is : paired row (name_at new root) to.database.root
    pub writing_is : writing ≡ is_writing mode
    pub gains : Gains old new before after

  abbrev pub Admit : Directory → List ℕ → List ℕ → List ℕ → Result Admitted SwizzleFault → Type 0
  Admit databases name password mode (Ok (admitted.Root number root writing)) =
      (to : Numbered) × (as_mode : Mode) × (admission databases name password mode ≡ Admits to as_mode) × IsOpen to as_mode number root writing
  Admit databases name password mode (Ok (admitted.Fault fault)) = (admission databases name password mode ≡ Refuses (fault_of fault)) × Gains old new before after
  Admit databases name password mode (Err fault) = BreaksOff old new before after fault

-- what was made has the shape of a directory, and what was opened is a table
abbrev pub IsShapedIfMade : area.Heap → Created → Type 0
IsShapedIfMade heap (created.Made at number) = IsShaped heap at × ((header_at heap at).refs ≡ 3 * number)
IsShapedIfMade heap (created.Fault fault) = Unit {0}

abbrev pub IsRoot : area.Heap → Admitted → Type 0
IsRoot heap (admitted.Root number root writing) = IsHeld heap root × ((header_at heap root).kind ≡ kind.Table)
IsRoot heap (admitted.Fault fault) = Unit {0}
