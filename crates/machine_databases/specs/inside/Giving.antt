-- A database becomes open for writing, and a root is pushed.
use Rattle.std.specs.Prelude.{◌≡◌, ◌≢◌, ℕ, ◌<◌, ◌≤◌, Bool, true, false, if◌then◌else◌, List, ◌∷◌, length, map, Option, Some, None, vec_capacity}
use Rattle.machine_core.specs.ps_outside.Outside.{Outside}
use Rattle.machine_core.specs.obj_layout.Stored.{Space}
use Rattle.machine_core.specs.obj_layout.declared.kind.Kind.TheVariants.{Table}
use Rattle.machine_core.specs.obj_layout.declared.reference.Reference.{Reference}
use Rattle.machine_core.specs.swizzle.Heap as area
use Rattle.machine_core.specs.swizzle.Heap.{IsHeld, header_at}
use Rattle.machine_core.specs.ps_heap.ps_base.Limits.{most_databases}
use Rattle.machine_core.specs.ps_heap.Calls.{Answer}
use Rattle.machine_core.specs.ps_stepping.Config.{Config}
use Rattle.machine_core.specs.ps_stepping.Steps.{Goes}
use Rattle.machine_core.specs.ps_stepping.Library.{answering, gives_ref}
use Rattle.machine_core.specs.joint_ops.World.{Carries, DenotesIn}
use Rattle.machine_core.specs.joint_held.reach_commit.commit_walk.reaching.Reaching.{is_in}
use Rattle.machine_core.specs.joint_held.reach_commit.commit_walk.Homes.{source_at}
use Rattle.machine_core.specs.joint_held.reach_commit.commit_walk.declared.homes.Source.{Source}
use Rattle.machine_core.specs.joint_held.Opening.{and_source}
use Rattle.machine_core.specs.declared.databases.Databases.{Databases}
use Rattle.machine_core.specs.declared.machine.Machine.{Machine}
use Rattle.machine_core.specs.declared.stepped.Stepped.{Stepped}
use Rattle.machine_core.specs.declared.stepped.Stepped.TheVariants.{Breaks}
use Rattle.machine_core.specs.Holding.{HeldBy, HeldIn, HoldsStore, IsSound}
use Rattle.machine_core.specs.Naming.{NamesObjects}
use Rattle.machine_databases.specs.Calls.{DoesCall}

-- the numbers of the databases that are open for writing
abbrev pub numbers_of : List Source → List ℕ
numbers_of writing = map (λ source. source.number) writing

-- with one more, which has no root of its own, where it is opened for writing and wasn't open so
abbrev pub and_opened : List Source → ℕ → Bool → List Source
and_opened writing number for_writing = if for_writing then (if is_in number (numbers_of writing) then writing else and_source writing number None) else writing

-- there is place for one more
abbrev pub HasPlace : List Source → Type 0
HasPlace writing = length writing < most_databases

-- there is, where it is opened for writing and wasn't open so
abbrev pub HasPlaceFor : List Source → ℕ → Bool → Type 0
HasPlaceFor writing number for_writing = for_writing ≡ true → is_in number (numbers_of writing) ≡ false → HasPlace writing

-- these databases are open for writing now, and there is as much room as before
pub record AreOpen (old new : Databases) (writing : List Source) : Type 0 where
  pub writing_are : new.writing.items ≡ writing
  pub room : vec_capacity new.writing ≡ vec_capacity old.writing
  pub asked : new.asked ≡ old.asked
  pub directory : new.directory ≡ old.directory

-- One more is open; or there was no place for it, and nothing changed.
abbrev pub OpensOne : Databases → Databases → ℕ → Option ℕ → Bool → Type 0
OpensOne old new number root true = AreOpen old new (and_source old.writing.items number root)
OpensOne old new number root false = (new ≡ old) × (most_databases ≤ length old.writing.items)

-- And so where it may be open already, or is opened for reading.
abbrev pub OpensAs : Databases → Databases → ℕ → Bool → Bool → Type 0
OpensAs old new number for_writing true = AreOpen old new (and_opened old.writing.items number for_writing)
OpensAs old new number for_writing false =
    (new ≡ old) × (for_writing ≡ true) × (is_in number (numbers_of old.writing.items) ≡ false) × (most_databases ≤ length old.writing.items)

-- The root of a new database: a table that isn't stored, and the root of no database that is open for writing.
pub record IsUnused (here : area.Heap) (writing : List Source) (root : ℕ) : Type 0 where
  pub held : IsHeld here root
  pub kind : (header_at here root).kind ≡ Table
  pub unstored : (header_at here root).pid ≡ 0
  pub only : (place : ℕ) → place < length writing → (source_at writing place).root ≢ Some root

-- with the answer's value on top, and what it leaves
abbrev pub given : Answer → Config → Config
given a c = answering a (record c { refs = a.value ∷ c.refs })

-- An object was pushed. Where it denotes the value of an answer, and the machine held what the answer leaves, the answer is given.
pub record Pushes (outside : Outside Space) (at : ℕ) (old new : Machine) : Type 0 where
  pub sound : IsSound new
  pub names : NamesObjects new
  pub objects : new.objects ≡ old.objects
  pub pushes : (names : List Reference) (c : Config) (a : Answer) → HeldBy outside names old (answering a c) → DenotesIn old.objects outside names (Some at) a.value
      → (gives_ref a c ≡ Goes a.events (given a c)) × HeldBy outside names new (given a c)

-- A root was pushed, where the answer of the call has it as its value, and what the answer leaves is held with these databases open for writing and this
-- directory. It wants that place is so.
pub record GivesRoot (before after : Outside Space) (place : Type 0) (writing : List Source) (directory : Option ℕ) (root : ℕ) (old new : Machine) (answer : Stepped) : Type 0 where
  pub sound : IsSound new
  pub names : NamesObjects new
  pub size : new.objects.size ≡ old.objects.size
  pub goes : answer ≢ Breaks
  pub does : (here : area.Heap) (names more : List Reference) (c : Config) (a : Answer) → HeldIn here before names old c
      → Carries here old.objects before after names more → HoldsStore old.objects after more writing old.databases.asked directory a.held
      → DenotesIn old.objects after more (Some root) a.value → place → DoesCall before after here.size (gives_ref a c) answer new
