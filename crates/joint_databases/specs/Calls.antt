-- What the calls on databases answer, by what the meaning says, and what the run holds then.
use Rattle.std.specs.Prelude.{◌≡◌, ◌⊎◌, ℕ, suc, ◌*◌, Bool, if◌then◌else◌, List, [], map, length, Option, Some, None, Result, Ok, Err}
use Rattle.joint_held.specs.joint_ops.ps_outside.Outside.{Outside}
use Rattle.joint_held.specs.joint_ops.obj_layout.Stored.{Space}
use Rattle.joint_held.specs.joint_ops.obj_layout.declared.kind.Kind.TheVariants.{Table}
use Rattle.joint_held.specs.joint_ops.obj_layout.declared.reference.Reference.{Reference}
use Rattle.joint_held.specs.joint_ops.swizzle.declared.fault.SwizzleFault.{SwizzleFault}
use Rattle.joint_held.specs.joint_ops.swizzle.Heap.{Heap, IsHeld, IsFull, header_at}
use Rattle.joint_held.specs.joint_ops.swizzle.Joint.{name_at}
use Rattle.joint_held.specs.joint_ops.heap_meaning.Paired.{and_name}
use Rattle.joint_held.specs.joint_ops.World.{Carries, DenotesIn, BreaksOff}
use Rattle.joint_held.specs.joint_ops.ps_heap.Values.{Pointer}
use Rattle.joint_held.specs.joint_ops.ps_heap.Databases.{Numbered, Mode, Reading, Writing, Admits, Refuses, create_fault, admission, open_for_writing}
use Rattle.joint_held.specs.joint_ops.ps_heap.Held.{Held, new_id}
use Rattle.joint_held.specs.joint_ops.ps_heap.Calls.{directory_known, created_database}
use Rattle.joint_held.specs.reach_commit.commit_walk.reaching.Reaching.{IsIn, is_in}
use Rattle.joint_held.specs.reach_commit.commit_walk.declared.homes.Source.{Source}
use Rattle.joint_held.specs.db_dir.declared.create.Created.{Created}
use Rattle.joint_held.specs.db_dir.declared.create.Created.TheVariants as created
use Rattle.joint_held.specs.db_dir.declared.admit.Admitted.{Admitted}
use Rattle.joint_held.specs.db_dir.declared.admit.Admitted.TheVariants as admitted
use Rattle.joint_held.specs.db_dir.Directories.{IsShaped}
use Rattle.joint_held.specs.db_dir.Found.{is_writing}
use Rattle.joint_held.specs.db_dir.Answers.{IsShort, fault_of}
use Rattle.joint_held.specs.Held.{HoldsRun}
use Rattle.joint_held.specs.Opening.{and_source, with_opening}
use Rattle.joint_databases.specs.declared.calls.Creation.{Creation}
use Rattle.joint_databases.specs.declared.calls.Creation.TheVariants as creation

-- The databases that are open for writing once one was opened: with that one, where it is opened for writing and wasn't yet.
abbrev pub now_writing : List Source → ℕ → Mode → List Source
now_writing writing number Reading = writing
now_writing writing number Writing = if is_in number (map (λ source. source.number) writing) then writing else and_source writing number None

-- no database is open for writing that has the number of the next one
abbrev pub HasNoNext : Held → Type 0
HasNoNext h = IsIn (suc (length h.directory)) (open_for_writing h.openings) → ⊥

-- what is answered of a database that has this root
abbrev pub creation_of : ℕ → Result Created SwizzleFault → Result Creation SwizzleFault
creation_of root (Ok (created.Made directory number)) = Ok (creation.Made number root directory)
creation_of root (Ok (created.Fault fault)) = Ok (creation.Fault fault)
creation_of root (Err fault) = Err fault

-- The root of a new database is a table that isn't stored, and no object that the area had; the directory has the shape of one with so many databases.
pub record IsCreated (old new : Heap) (number root directory : ℕ) : Type 0 where
  pub held : IsHeld new root
  pub table : (header_at new root).kind ≡ Table
  pub unstored : (header_at new root).pid ≡ 0
  pub fresh : IsHeld old root → ⊥
  pub shaped : IsShaped new directory
  pub places : (header_at new directory).refs ≡ 3 * number

abbrev pub IsCreatedIfMade : Heap → Heap → Creation → Type 0
IsCreatedIfMade old new (creation.Made number root directory) = IsCreated old new number root directory
IsCreatedIfMade old new (creation.Fault fault) = Unit {0}

module _ (old new : Heap) (before after : Outside Space) (names : List Reference) where
  -- This run is held now, under a longer row, and what denoted a value denotes it still.
  pub record Holds (more : List Reference) (writing : List Source) (directory : Option ℕ) (h : Held) : Type 0 where
    pub run : HoldsRun new after more writing directory h
    pub carries : Carries old new before after names more

  -- The run knows its directory.
  abbrev pub Knows : Held → Result (Option ℕ) SwizzleFault → Type 0
  Knows h (Ok at) = Holds names [] at (directory_known h)
  Knows h (Err fault) = BreaksOff old new before after fault

  -- The run has a database more, the last, open for writing, with a new table as its root.
  pub record Creates (writing : List Source) (h : Held) (name password : List ℕ) (number root directory : ℕ) : Type 0 where
    pub none : create_fault h.directory name password ≡ None
    pub number_is : number ≡ suc (length h.directory)
    pub holds : Holds (and_name names (name_at new root)) (and_source writing number (Some root)) (Some directory) (created_database name password h).held
    pub denotes : DenotesIn new after (and_name names (name_at new root)) (Some root) (Pointer (new_id h))

  -- A database is created; or the run goes on as it was, with the meaning's fault; or it broke off, or there was no room for the 8 words of a table, or for the
  -- words of the directory.
  abbrev pub Creating : List Source → Option ℕ → Held → List ℕ → List ℕ → Result Creation SwizzleFault → Type 0
  Creating writing directory h name password (Ok (creation.Made number root now)) = Creates writing h name password number root now
  Creating writing directory h name password (Ok (creation.Fault fault)) = (create_fault h.directory name password ≡ Some (fault_of fault)) × Holds names writing directory h
  Creating writing directory h name password (Err fault) =
      BreaksOff old new before after fault
      ⊎ (IsFull old new 8 fault ⊎ (IsShort old new before after names h.directory name password fault × (new.size ≡ old.size)))

  -- The run has a database open in a mode, of which the root lies in the area.
  pub record IsOpened (writing : List Source) (directory : Option ℕ) (h : Held) (to : Numbered) (mode : Mode) (number root : ℕ) (for_writing : Bool) : Type 0 where
    pub number_is : number ≡ to.number
    pub mode_is : for_writing ≡ is_writing mode
    pub holds : Holds names (now_writing writing number mode) directory (with_opening number mode h)
    pub denotes : DenotesIn new after names (Some root) (Pointer to.database.root)

  -- A database is opened; or the run goes on as it was, with the meaning's fault; or it broke off.
  abbrev pub Opening : List Source → Option ℕ → Held → List ℕ → List ℕ → List ℕ → Result Admitted SwizzleFault → Type 0
  Opening writing directory h name password mode (Ok (admitted.Root number root for_writing)) =
      (to : Numbered) × (as_mode : Mode) × (admission h.directory name password mode ≡ Admits to as_mode) × IsOpened writing directory h to as_mode number root for_writing
  Opening writing directory h name password mode (Ok (admitted.Fault fault)) =
      (admission h.directory name password mode ≡ Refuses (fault_of fault)) × Holds names writing directory h
  Opening writing directory h name password mode (Err fault) = BreaksOff old new before after fault
