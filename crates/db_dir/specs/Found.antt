-- What the calls on databases find in a directory of the area, whatever a vault holds: what they read of it was got, and has the shape that it is to have.
use Rattle.std.specs.Prelude.{◌≡◌, ◌⊎◌, ℕ, suc, ◌+◌, ◌*◌, ◌<◌, ◌≤◌, Bool, true, false, List, [], ◌∷◌, ◌++◌, length, Option, Some, None, Result, Ok, Err}
use Rattle.joint_ops.specs.ps_outside.Outside.{Outside}
use Rattle.joint_ops.specs.obj_layout.Stored.{Space}
use Rattle.joint_ops.specs.obj_layout.declared.kind.Kind.TheVariants as kind
use Rattle.joint_ops.specs.obj_layout.declared.reference.Reference.TheVariants.{Local}
use Rattle.joint_ops.specs.swizzle.declared.fault.SwizzleFault.{SwizzleFault}
use Rattle.joint_ops.specs.swizzle.Heap.{Heap, IsHeap, IsMade, IsFull, header_at}
use Rattle.joint_ops.specs.swizzle.Text.{text_at}
use Rattle.joint_ops.specs.ps_heap.ps_base.Limits.{most_databases, most_database_name_bytes, most_password_bytes}
use Rattle.joint_ops.specs.ps_heap.Databases.{Mode, Reading, Writing, mode_named}
use Rattle.db_dir.specs.declared.fault.DirFault.{DirFault}
use Rattle.db_dir.specs.declared.fault.DirFault.TheVariants as dir
use Rattle.db_dir.specs.declared.create.Created.{Created}
use Rattle.db_dir.specs.declared.create.Created.TheVariants as created
use Rattle.db_dir.specs.declared.admit.Admitted.{Admitted}
use Rattle.db_dir.specs.declared.admit.Admitted.TheVariants as admitted
use Rattle.db_dir.specs.Directories.{HasPlaces, Counts, directory_of, refs_in}
use Rattle.db_dir.specs.Entries.{ReadsSome, IsEntry, Compares, Misses, MissesText}

module _ (old new : Heap) (directory : ℕ) where
  -- The database in a place, from 0, has this name, or another; this password, or another; this root.
  abbrev pub HasName : ℕ → List ℕ → Bool → Type 0
  HasName place name same = Compares old new directory (3 * place) 1 most_database_name_bytes name same

  abbrev pub HasPassword : ℕ → List ℕ → Bool → Type 0
  HasPassword place password same = Compares old new directory (3 * place + 1) 0 most_password_bytes password same

  abbrev pub HasRoot : ℕ → ℕ → Type 0
  HasRoot place root = IsEntry old new directory (3 * place + 2) kind.Table root

  -- the first so many databases have other names
  abbrev pub AreOthers : ℕ → List ℕ → Type 0
  AreOthers count name = (place : ℕ) → place < count → HasName place name false

  -- the first database of this name is in this place
  pub record IsFirst (name : List ℕ) (place : ℕ) : Type 0 where
    pub below : 3 * place < (header_at old directory).refs
    pub others : AreOthers place name
    pub has : HasName place name true

  -- no database has this name
  pub record HasNone (name : List ℕ) : Type 0 where
    pub count : ℕ
    pub places : HasPlaces (header_at old directory).refs count
    pub others : AreOthers count name

module _ (old new : Heap) (before after : Outside Space) where
  -- A database of the directory has no name or no password of an allowed length, or no root that is a table: it couldn't be fetched, or it is damaged.
  pub record IsSpoilt (directory : ℕ) (fault : SwizzleFault) : Type 0 where
    pub place : ℕ
    pub below : 3 * place < (header_at old directory).refs
    pub why :
        MissesText old new before after directory (3 * place) 1 most_database_name_bytes fault
        ⊎ (MissesText old new before after directory (3 * place + 1) 0 most_password_bytes fault
        ⊎ Misses old new before after directory (3 * place + 2) kind.Table fault)

  -- What finding finds: the number, from 1, of the first database of the name; none; or why it can't go on.
  abbrev pub Finds : Option ℕ → List ℕ → Result (Option ℕ) SwizzleFault → Type 0
  Finds None name (Ok None) = Unit {0}
  Finds (Some directory) name (Ok None) = HasNone old new directory name
  Finds (Some directory) name (Ok (Some number)) = (place : ℕ) × (number ≡ suc place) × IsFirst old new directory name place
  Finds (Some directory) name (Err fault) = IsSpoilt directory fault
  Finds None name _ = ⊥

-- the lengths of a name and of a password
pub record IsName (name : List ℕ) : Type 0 where
  pub some : 1 ≤ length name
  pub short : length name ≤ most_database_name_bytes

pub record AreFit (name password : List ℕ) : Type 0 where
  pub name_fits : IsName name
  pub password_fits : length password ≤ most_password_bytes

-- why they don't fit
abbrev pub AreUnfit : List ℕ → List ℕ → DirFault → Type 0
AreUnfit name password dir.BadName = (length name ≡ 0) ⊎ (most_database_name_bytes < length name)
AreUnfit name password dir.BadPassword = IsName name × (most_password_bytes < length password)
AreUnfit name password _ = ⊥

module _ (old new : Heap) (directory : Option ℕ) (name password root : ℕ) where
  -- A directory was made that refers to what this one refers to, and then to name, password and root.
  pub record Extends (made number : ℕ) : Type 0 where
    pub count : ℕ
    pub counts : Counts old directory count
    pub few : count < most_databases
    pub number_is : number ≡ suc count
    pub made_is : IsMade old new made (directory_of (refs_in old directory ++ Local name ∷ Local password ∷ Local root ∷ []))

  -- there was no room for it, which has eight words and three for each database of this one
  pub record LacksRoom (fault : SwizzleFault) : Type 0 where
    pub count : ℕ
    pub counts : Counts old directory count
    pub few : count < most_databases
    pub full : IsFull old new (3 * count + 8) fault

  -- A database is added where there are fewer than 256; the area stays where none is.
  abbrev pub Adds : Result Created SwizzleFault → Type 0
  Adds (Ok (created.Made made number)) = Extends made number
  Adds (Ok (created.Fault dir.TooMany)) = Counts old directory most_databases × (new ≡ old)
  Adds (Ok (created.Fault _)) = ⊥
  Adds (Err fault) = LacksRoom fault

module _ (old new : Heap) (before after : Outside Space) (directory : Option ℕ) (name password root : ℕ) where
  -- No database has the name, and then one is added, or there are too many, or no room.
  pub record GoesOn (result : Result Created SwizzleFault) : Type 0 where
    pub mid : Heap
    pub sound : IsHeap mid
    pub reads : ReadsSome old mid before after
    pub fit : AreFit (text_at old name) (text_at old password)
    pub others : Finds old mid before after directory (text_at old name) (Ok None)
    pub adds : Adds mid new directory name password root result

  -- Why a database isn't created: then the directory was read at most.
  abbrev pub IsRefused : DirFault → Type 0
  IsRefused dir.Exists = AreFit (text_at old name) (text_at old password) × ((number : ℕ) × Finds old new before after directory (text_at old name) (Ok (Some number)))
  IsRefused dir.TooMany = GoesOn (Ok (created.Fault dir.TooMany))
  IsRefused fault = AreUnfit (text_at old name) (text_at old password) fault × (new ≡ old)

  abbrev pub Tries : Result Created SwizzleFault → Type 0
  Tries (Ok (created.Made made number)) = GoesOn (Ok (created.Made made number))
  Tries (Ok (created.Fault fault)) = ReadsSome old new before after × IsRefused fault
  Tries (Err fault) = Finds old new before after directory (text_at old name) (Err fault) ⊎ GoesOn (Err fault)

-- how a mode opens
abbrev pub is_writing : Mode → Bool
is_writing Reading = false
is_writing Writing = true

abbrev pub OpensAs : Option Mode → Option Bool → Type 0
OpensAs None None = Unit {0}
OpensAs (Some mode) (Some writing) = writing ≡ is_writing mode
OpensAs _ _ = ⊥

module _ (old new : Heap) (before after : Outside Space) where
  -- The database in a place has the password; then it is opened in a mode, or its root is spoilt.
  abbrev pub TakesMode : List ℕ → ℕ → ℕ → Result Admitted SwizzleFault → Type 0
  TakesMode mode directory place (Ok (admitted.Root number root writing)) =
      (number ≡ suc place) × HasRoot old new directory place root × OpensAs (mode_named mode) (Some writing)
  TakesMode mode directory place (Ok (admitted.Fault dir.BadMode)) = mode_named mode ≡ None
  TakesMode mode directory place (Ok (admitted.Fault _)) = ⊥
  TakesMode mode directory place (Err fault) = IsSpoilt old new before after directory fault

  -- The same of a database of which the password isn't known.
  abbrev pub OpensAt : List ℕ → List ℕ → ℕ → ℕ → Result Admitted SwizzleFault → Type 0
  OpensAt password mode directory place (Ok (admitted.Root number root writing)) =
      HasPassword old new directory place password true × TakesMode mode directory place (Ok (admitted.Root number root writing))
  OpensAt password mode directory place (Ok (admitted.Fault dir.Password)) = HasPassword old new directory place password false
  OpensAt password mode directory place (Ok (admitted.Fault fault)) =
      HasPassword old new directory place password true × TakesMode mode directory place (Ok (admitted.Fault fault))
  OpensAt password mode directory place (Err fault) = IsSpoilt old new before after directory fault

  -- The first database of the name is opened, or there is none.
  abbrev pub Opens : List ℕ → List ℕ → List ℕ → Option ℕ → Result Admitted SwizzleFault → Type 0
  Opens name password mode None (Ok (admitted.Fault dir.NoSuchDatabase)) = Unit {0}
  Opens name password mode None _ = ⊥
  Opens name password mode (Some directory) (Ok (admitted.Fault dir.NoSuchDatabase)) = HasNone old new directory name
  Opens name password mode (Some directory) (Err fault) = IsSpoilt old new before after directory fault
  Opens name password mode (Some directory) result =
      (place : ℕ) × IsFirst old new directory name place × OpensAt password mode directory place result
