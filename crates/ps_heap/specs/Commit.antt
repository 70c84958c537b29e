-- The commit: which objects are newly reached, which homes they get, and its four steps.
use Rattle.std.specs.Prelude.{ℕ, zero, suc, ◌+◌, ◌/◌, Bool, true, false, ◌&&◌, not, nat_eq, if◌then◌else◌, List, [], ◌∷◌, ◌++◌, length, Option, Some, None}
use Rattle.ps_heap.specs.Texts.{Attempt, Yields}
use Rattle.reaching.specs.Reaching.{is_in, reach, ReachedIn, Source, first_source}
use Rattle.ps_heap.specs.Tables.{Key, looked_up}
use Rattle.ps_heap.specs.Objects.{Object, Keyed, Heap, object_at}
use Rattle.ps_heap.specs.References.{next_in}
use Rattle.ps_heap.specs.Values.{Routine}
use Rattle.ps_heap.specs.Weights.{value_weight, entry_weight}
use Rattle.ps_heap.specs.Databases.{Directory, database_at, root_of, open_for_writing, full_directory_weight, is_there}
use Rattle.ps_heap.specs.Held.{Place, Part, Under, object_of, Held, home_at, weight_at, part_at, StoredHeap, row}

-- Newly reached objects.

-- the ids from one on that aren't committed, of so many
unfoldable pub loose_from : List (Option ℕ) → ℕ → ℕ → List ℕ
loose_from homes id zero = []
loose_from homes id (suc n) = if is_there (home_at homes id) then loose_from homes (suc id) n else id ∷ loose_from homes (suc id) n

unfoldable pub loose : Held → List ℕ
loose h = loose_from h.homes 0 (length h.objects)

unfoldable pub roots_of : Directory → List ℕ → List ℕ
roots_of directory [] = []
roots_of directory (n ∷ ns) = root_of (database_at directory n) ++ roots_of directory ns

-- to what the objects of these places refer
unfoldable pub after_places : Heap → List Place → List ℕ
after_places heap [] = []
after_places heap (place ∷ places) = next_in heap (object_of place) ++ after_places heap places

-- Reaching starts at the roots of databases made since the last saved commit, and at what committed objects with an assigned place refer to.
unfoldable pub starts : Held → List ℕ
starts h = roots_of h.directory h.created ++ after_places h.objects h.assigned

-- the least set of uncommitted ids with these starts that is closed under one step of reference, and the same set computed
abbrev pub IsNewlyReached : Held → ℕ → Type 0
IsNewlyReached h id = ReachedIn (next_in h.objects) (loose h) (starts h) id

unfoldable pub newly_reached : Held → List ℕ
newly_reached h = reach (next_in h.objects) (loose h) (starts h)

-- Homes.

abbrev pub is_home : ℕ → Option ℕ → Bool
is_home number None = false
is_home number (Some n) = nat_eq number n

-- those places of which the object's home is this database
unfoldable pub at_home : List (Option ℕ) → ℕ → List Place → List Place
at_home homes number [] = []
at_home homes number (place ∷ places) =
    if is_home number (home_at homes (object_of place)) then place ∷ at_home homes number places else at_home homes number places

-- where a database reaches from: its root, where it was made, and what its objects with an assigned place refer to
unfoldable pub source_of : Held → ℕ → Source
source_of h number = record {
  number = number;
  starts = (if is_in number h.created then root_of (database_at h.directory number) else []) ++ after_places h.objects (at_home h.homes number h.assigned);
}

unfoldable pub sources : Held → List ℕ → List Source
sources h [] = []
sources h (n ∷ ns) = source_of h n ∷ sources h ns

-- the first database open for writing, in order of opening, that reaches an object
unfoldable pub first_database : Held → ℕ → Option ℕ
first_database h id = first_source (next_in h.objects) (loose h) (sources h (open_for_writing h.openings)) id

-- the created database with this root
unfoldable pub created_with : Directory → List ℕ → ℕ → Option ℕ
created_with directory [] id = None
created_with directory (n ∷ ns) id = if is_in id (root_of (database_at directory n)) then Some n else created_with directory ns id

abbrev pub or_else : Option ℕ → Option ℕ → Option ℕ
or_else None b = b
or_else (Some a) b = Some a

-- The home after a saved commit: that which an object has; else its own database, for a created root; else the first database that reaches it.
unfoldable pub home_after : Held → ℕ → Option ℕ
home_after h id = or_else (home_at h.homes id) (or_else (created_with h.directory h.created id) (first_database h id))

unfoldable pub homes_after : Held → List (Option ℕ)
homes_after h = row (home_after h) 0 (length h.objects)

-- The steps of a commit.

abbrev pub is_writable : List ℕ → Option ℕ → Bool
is_writable writing None = true
is_writable writing (Some n) = is_in n writing

-- each object with an assigned place is at home in a database open for writing
unfoldable pub are_writable : List (Option ℕ) → List ℕ → List Place → Bool
are_writable homes writing [] = true
are_writable homes writing (place ∷ places) = if is_writable writing (home_at homes (object_of place)) then are_writable homes writing places else false

abbrev pub is_empty : {A : Type 0} → List A → Bool
is_empty [] = true
is_empty (x ∷ xs) = false

pub data Decision : Type 0 where
  NotWritable : Decision
  NothingToDo : Decision
  Saves : (heap : StoredHeap) → Decision

-- all committed objects as they are, with their homes, and the directory with the databases that were made
unfoldable pub saved : Held → StoredHeap
saved h = record { objects = h.objects; homes = homes_after h; directory = h.directory }

unfoldable pub decision : Held → Decision
decision h =
    if not (are_writable h.homes (open_for_writing h.openings) h.assigned) then NotWritable else
    if is_empty h.assigned && is_empty h.created then NothingToDo else Saves (saved h)

-- after a commit that was saved no place is assigned; otherwise nothing changed
abbrev pub after_decision : Decision → Held → Held
after_decision (Saves heap) h = record h { homes = heap.homes; created = []; assigned = [] }
after_decision _ h = h

-- The fresh weight: of the newly reached objects with the texts and procedures in their places; of what stands in assigned places; and of the
-- directory, where a database was made.

unfoldable pub weights_at : (Routine → ℕ) → Heap → List ℕ → ℕ
weights_at weigh heap [] = 0
weights_at weigh heap (id ∷ ids) = weight_at weigh (object_at heap id) + weights_at weigh heap ids

abbrev pub found_weight : Key → Attempt (Option ℕ) → ℕ
found_weight key (Yields (Some id)) = entry_weight key
found_weight key _ = 0

abbrev pub key_weight : Option Object → Key → ℕ
key_weight (Some (Keyed table)) key = found_weight key (looked_up key table)
key_weight _ key = 0

abbrev pub place_weight : (Routine → ℕ) → Heap → Place → ℕ
place_weight weigh heap (Part id n) = value_weight weigh (part_at (object_at heap id) n)
place_weight weigh heap (Under id key) = key_weight (object_at heap id) key

unfoldable pub places_weight : (Routine → ℕ) → Heap → List Place → ℕ
places_weight weigh heap [] = 0
places_weight weigh heap (place ∷ places) = place_weight weigh heap place + places_weight weigh heap places

unfoldable pub fresh_weight : Held → ℕ
fresh_weight h =
    weights_at h.weigh h.objects (newly_reached h) + places_weight h.weigh h.objects h.assigned
    + (if is_empty h.created then 0 else full_directory_weight h.directory)

-- in words
unfoldable pub fresh_words : Held → ℕ
fresh_words h = fresh_weight h / 8
