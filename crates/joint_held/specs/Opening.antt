-- The directory is known, and databases are created and opened: in code, and in what a run holds.
use Rattle.std.specs.Prelude.{◌≡◌, ◌≢◌, ℕ, suc, ◌<◌, true, List, [], ◌∷◌, ◌++◌, length, Option, Some}
use Rattle.joint_ops.specs.ps_outside.Outside.{Outside}
use Rattle.joint_ops.specs.obj_layout.Stored.{Space}
use Rattle.joint_ops.specs.obj_layout.declared.kind.Kind.TheVariants.{Table}
use Rattle.joint_ops.specs.obj_layout.declared.reference.Reference.{Reference}
use Rattle.joint_ops.specs.swizzle.Heap as area
use Rattle.joint_ops.specs.swizzle.Heap.{header_at}
use Rattle.joint_ops.specs.heap_meaning.Paired.{paired}
use Rattle.joint_ops.specs.ps_heap.Databases.{Database, Mode, Writing, open_for_writing}
use Rattle.joint_ops.specs.ps_heap.Held.{Held}
use Rattle.joint_ops.specs.World.{seen}
use Rattle.db_dir.specs.Directories.{IsDirectoryAt}
use Rattle.reach_commit.specs.commit_walk.reaching.Reaching.{IsIn}
use Rattle.reach_commit.specs.commit_walk.Homes.{source_at}
use Rattle.reach_commit.specs.commit_walk.declared.homes.Source.{Source}
use Rattle.joint_held.specs.Held.{IsOf}

-- the run with one database more, open for writing
abbrev pub with_database : Database → Held → Held
with_database d h =
    let number = suc (length h.directory) in
    record h { directory = h.directory ++ d ∷ []; openings = h.openings ++ record { number = number; mode = Writing } ∷ []; created = h.created ++ number ∷ [] }

-- the run with one opening more
abbrev pub with_opening : ℕ → Mode → Held → Held
with_opening number mode h = record h { openings = h.openings ++ record { number = number; mode = mode } ∷ [] }

-- the sources with one more
abbrev pub and_source : List Source → ℕ → Option ℕ → List Source
and_source writing number root = writing ++ record { number = number; root = root } ∷ []

-- A new table of the area is the root of a new database, which the directory names last. No database of its number is open.
pub record CreatesDatabase (here : area.Heap) (outside : Outside Space) (names : List Reference) (writing : List Source) (directory : Option ℕ) (h : Held) (d : Database) (at : ℕ) : Type 0 where
  pub asked : h.asked ≡ true
  pub root : IsOf here names at d.root
  pub unstored : (header_at here at).pid ≡ 0
  pub table : (header_at here at).kind ≡ Table
  pub only : (place : ℕ) → place < length writing → (source_at writing place).root ≢ Some at
  pub named : IsDirectoryAt here (seen here outside) (paired names) directory (h.directory ++ d ∷ [])
  pub fresh : IsIn (suc (length h.directory)) (open_for_writing h.openings) → ⊥
