-- What a run keeps of its databases and homes, as a fit heap has them.
use Rattle.std.specs.Prelude.{◌≡◌, ◌⊎◌, ℕ, ◌<◌, ◌≤◌, List, [], ◌∷◌, length, Some}
use Rattle.std.specs.List.{AllByRecursion}
use Rattle.ps_heap.specs.ps_base.Limits.{most_databases}
use Rattle.ps_heap.specs.Values.{Value, Routine}
use Rattle.ps_heap.specs.Texts.{Yields}
use Rattle.ps_heap.specs.Tables.{Key}
use Rattle.ps_heap.specs.Objects.{Object}
use Rattle.ps_heap.specs.References.{value_ids, object_ids}
use Rattle.ps_heap.specs.Databases.{Directory, database_at, root_of, every_root}
use Rattle.ps_heap.specs.Held.{Held, Reply, StoredHeap, nothing_stored, home_at, started, counting, with_object, assigned_part, touching}
use Rattle.ps_heap.specs.Commit.{Saves, decision}
use Rattle.ps_heap.specs.Calls.{enter_call, asks_to_create, asks_to_open, create_answer, open_answer, commit_call}
use Rattle.ps_heap.specs.Events.{Event, Commit}
use Rattle.ps_heap.specs.reaching.Reaching.{IsIn}
use Rattle.ps_soundness.specs.ps_program.Node.{BodyNode}
use Rattle.ps_soundness.specs.ps_meaning.Runs.{Given, events_with}
use Rattle.database_meaning.specs.Same.{IsInHeap}
use Rattle.database_meaning.specs.Sound.{IsCommitted, AreThere, IsRight}
use Rattle.database_meaning.specs.Laws.{RefersThere}
use Rattle.heap_fit.specs.Heaps.{IsFitDatabase, AreNamedOnce, IsFitHeap}

-- a database of the directory has this number
abbrev pub IsNumber : Directory → ℕ → Type 0
IsNumber directory n = (1 ≤ n) × (n ≤ length directory)

-- an object that is there, at home in a database
pub record IsHomed (stored : StoredHeap) (id : ℕ) : Type 0 where
  pub there : id < length stored.objects
  pub home : ℕ
  pub home_is : home_at stored.homes id ≡ Some home
  pub number : IsNumber stored.directory home

-- All that a fit heap has but for what stands in its objects.
pub record AreFitDatabases (stored : StoredHeap) : Type 0 where
  pub few : length stored.directory ≤ most_databases
  pub databases : AllByRecursion (IsFitDatabase stored.objects) stored.directory
  pub once : AreNamedOnce stored.directory
  pub homed : (id : ℕ) → IsInHeap stored id → IsHomed stored id

-- the root of a database that was made since the last saved commit
abbrev pub IsNewRoot : Held → ℕ → Type 0
IsNewRoot h root = (n : ℕ) × IsIn n h.created × IsIn root (root_of (database_at h.directory n))

-- what is so of all that a run holds, so that it saves such heaps
pub record KeepsDatabases (h : Held) : Type 0 where
  pub right : IsRight h
  pub few : length h.directory ≤ most_databases
  pub databases : AllByRecursion (IsFitDatabase h.objects) h.directory
  pub once : AreNamedOnce h.directory
  pub homes : (id n : ℕ) → home_at h.homes id ≡ Some n → IsNumber h.directory n
  pub openings : AllByRecursion (λ opening. IsNumber h.directory opening.number) h.openings
  pub created : AllByRecursion (IsNumber h.directory) h.created
  pub roots : (root : ℕ) → IsIn root (every_root h.directory) → IsCommitted h.homes root ⊎ IsNewRoot h root

-- From a heap with fit databases on, as each fit heap has them, a run saves such heaps: it holds what is so at its start, and keeps it through each step.
pub record RunsKeepDatabasesFit : Type 0 where
  pub nothing : IsFitHeap nothing_stored
  pub fit : (stored : StoredHeap) → IsFitHeap stored → AreFitDatabases stored
  pub start : (weigh : Routine → ℕ) (replies : List Reply) (counted : ℕ) (stored : StoredHeap) → AreFitDatabases stored → AreThere stored.objects →
      KeepsDatabases (started weigh replies counted stored)
  pub makes : (object : Object) (h : Held) → KeepsDatabases h → RefersThere h (object_ids (Some object)) → KeepsDatabases (with_object object h)
  pub counts : (bytes : ℕ) (h : Held) → KeepsDatabases h → KeepsDatabases (counting bytes h)
  pub assigns : (id n : ℕ) (v : Value) (h : Held) → KeepsDatabases h → RefersThere h (value_ids v) → KeepsDatabases (assigned_part id n v h)
  pub enters : (key : Key) (table v : Value) (h new : Held) → KeepsDatabases h → RefersThere h (value_ids v) → enter_call key table v h ≡ Yields new → KeepsDatabases new
  pub touches : (ids : List ℕ) (h : Held) → KeepsDatabases h → KeepsDatabases (touching ids h)
  pub asks_create : (name : List ℕ) (h : Held) → KeepsDatabases h → KeepsDatabases (asks_to_create name h).held
  pub asks_open : (name mode : List ℕ) (h : Held) → KeepsDatabases h → KeepsDatabases (asks_to_open name mode h).held
  pub creates : (name password : List ℕ) (h : Held) → KeepsDatabases h → KeepsDatabases (create_answer name password h).held
  pub opens : (name password mode : List ℕ) (h : Held) → KeepsDatabases h → KeepsDatabases (open_answer name password mode h).held
  pub commits : (h : Held) → KeepsDatabases h → KeepsDatabases (commit_call h).held
  pub saves : (h : Held) (heap : StoredHeap) → KeepsDatabases h → decision h ≡ Saves heap → AreFitDatabases heap

-- each commit among these events saves a heap with fit databases
abbrev pub AreFitCommits : List Event → Type 0
AreFitCommits [] = Unit {0}
AreFitCommits (Commit heap counted ∷ events) = AreFitDatabases heap × AreFitCommits events
AreFitCommits (event ∷ events) = AreFitCommits events

-- Each commit of a run over a heap with fit databases, in which each reference is to an object that is there, saves such a heap, whatever body is run.
abbrev pub CommitsHaveFitDatabases : Type 0
CommitsHaveFitDatabases = (weigh : Routine → ℕ) (given : Given) (program : BodyNode) → AreFitDatabases given.heap → AreThere given.heap.objects
    → AreFitCommits (events_with weigh given program)
