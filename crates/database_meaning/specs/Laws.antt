-- What is so of commits.
use Rattle.std.specs.Prelude.{◌≡◌, ◌≢◌, ◌⊎◌, ◌↔◌, ℕ, ◌<◌, List, [], ◌∷◌, length, Some}
use Rattle.ps_heap.specs.Values.{Value, Routine}
use Rattle.ps_heap.specs.Texts.{Yields}
use Rattle.reaching.specs.Reaching.{IsIn}
use Rattle.ps_heap.specs.Tables.{Key}
use Rattle.ps_heap.specs.Objects.{Object}
use Rattle.ps_heap.specs.References.{value_ids, object_ids}
use Rattle.ps_heap.specs.Held.{Held, Reply, StoredHeap, home_at, started, counting, with_object, assigned_part, touching}
use Rattle.ps_heap.specs.Commit.{IsNewlyReached, newly_reached, first_database, NotWritable, NothingToDo, Saves, saved, decision}
use Rattle.ps_heap.specs.Calls.{enter_call, asks_to_create, asks_to_open, create_answer, open_answer, commit_call}
use Rattle.database_meaning.specs.Same.{IsSame}
use Rattle.database_meaning.specs.Sound.{IsCommitted, IsWritable, IsRefused, IsSound, AreThere, IsClosed, IsClosedButAssigned, AreHomed, IsRight}

-- the computed set of newly reached objects is the least set
abbrev pub ComputedIsLeast : Type 0
ComputedIsLeast = (h : Held) (id : ℕ) → (IsIn id (newly_reached h) → IsNewlyReached h id) × (IsNewlyReached h id → IsIn id (newly_reached h))

-- A commit that saves keeps all objects under their ids, and the directory.
abbrev pub IdsAreKept : Type 0
IdsAreKept = (h : Held) (heap : StoredHeap) → decision h ≡ Saves heap → (heap.objects ≡ h.objects) × (heap.directory ≡ h.directory)

-- An object that has a home keeps it.
abbrev pub HomesStay : Type 0
HomesStay = (h : Held) (heap : StoredHeap) (id n : ℕ) → decision h ≡ Saves heap → id < length h.objects → home_at h.homes id ≡ Some n → home_at heap.homes id ≡ Some n

-- Exactly the committed and the newly reached objects are committed after a commit that saves.
abbrev pub ReachedAreCommitted : Type 0
ReachedAreCommitted = (h : Held) (heap : StoredHeap) (id : ℕ) → IsSound h → decision h ≡ Saves heap → id < length h.objects →
    (IsCommitted heap.homes id → IsCommitted h.homes id ⊎ IsNewlyReached h id) × (IsCommitted h.homes id ⊎ IsNewlyReached h id → IsCommitted heap.homes id)

-- What a commit saves is closed: committed objects refer to committed ones.
abbrev pub CommittedAreClosed : Type 0
CommittedAreClosed = (h : Held) (heap : StoredHeap) → IsSound h → AreThere h.objects → IsClosedButAssigned h → decision h ≡ Saves heap → IsClosed heap.objects heap.homes

-- Where a commit is writable, the newly reached objects are exactly those that some database open for writing reaches.
abbrev pub HomesAreTotal : Type 0
HomesAreTotal = (h : Held) (id : ℕ) → IsSound h → IsWritable h →
    (IsNewlyReached h id → (n : ℕ) × (first_database h id ≡ Some n)) × ((n : ℕ) → first_database h id ≡ Some n → IsNewlyReached h id)

-- The steps: refused exactly where a committed object with an assigned place is at home in a database that isn't open for writing; else nothing exactly
-- where no place is assigned and no database was made.
abbrev pub StepsAreInOrder : Type 0
StepsAreInOrder = (h : Held) →
    ((decision h ≡ NotWritable) ↔ IsRefused h)
    × ((decision h ≡ NothingToDo) ↔ ((h.assigned ≡ []) × (h.created ≡ [])))
    × (IsWritable h → decision h ≢ NothingToDo → decision h ≡ Saves (saved h))

-- Touching twice is touching once.
abbrev pub TouchedOnce : Type 0
TouchedOnce = (h : Held) (id : ℕ) → touching (id ∷ []) (touching (id ∷ []) h) ≡ touching (id ∷ []) h

-- To be the same but for ids is an equivalence.
abbrev pub SameIsAnEquivalence : Type 0
SameIsAnEquivalence =
    ((a : StoredHeap) → IsSame a a)
    × ((a b : StoredHeap) → IsSame a b → IsSame b a)
    × ((a b c : StoredHeap) → IsSame a b → IsSame b c → IsSame a c)

-- What a run holds stays as the laws ask for: at its start, over a heap that was kept in which each reference is to an object that is there, and what is reached
-- has a home; and through each call, and each object that is made and place that is assigned, where values refer to what is there.
abbrev pub RefersThere : Held → List ℕ → Type 0
RefersThere h ids = (y : ℕ) → IsIn y ids → y < length h.objects

pub record RunsStayRight : Type 0 where
  pub start : (weigh : Routine → ℕ) (replies : List Reply) (counted : ℕ) (stored : StoredHeap) → AreThere stored.objects → AreHomed stored → IsRight (started weigh replies counted stored)
  pub makes : (object : Object) (h : Held) → IsRight h → RefersThere h (object_ids (Some object)) → IsRight (with_object object h)
  pub counts : (bytes : ℕ) (h : Held) → IsRight h → IsRight (counting bytes h)
  pub assigns : (id n : ℕ) (v : Value) (h : Held) → IsRight h → RefersThere h (value_ids v) → IsRight (assigned_part id n v h)
  pub enters : (key : Key) (table v : Value) (h new : Held) → IsRight h → RefersThere h (value_ids v) → enter_call key table v h ≡ Yields new → IsRight new
  pub touches : (ids : List ℕ) (h : Held) → IsRight h → IsRight (touching ids h)
  pub asks_create : (name : List ℕ) (h : Held) → IsRight h → IsRight (asks_to_create name h).held
  pub asks_open : (name mode : List ℕ) (h : Held) → IsRight h → IsRight (asks_to_open name mode h).held
  pub creates : (name password : List ℕ) (h : Held) → IsRight h → IsRight (create_answer name password h).held
  pub opens : (name password mode : List ℕ) (h : Held) → IsRight h → IsRight (open_answer name password mode h).held
  pub commits : (h : Held) → IsRight h → IsRight (commit_call h).held
