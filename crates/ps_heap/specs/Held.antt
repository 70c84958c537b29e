-- What a run holds of the heap and of databases; which places are assigned, which objects are touched, and what is counted.
use Rattle.std.specs.Prelude.{ℕ, zero, suc, ◌+◌, ℤ, Bool, true, false, ◌&&◌, not, nat_eq, if◌then◌else◌, List, [], ◌∷◌, ◌++◌, length, get_or, set, Option, Some, None}
use Rattle.ps_heap.specs.Values.{Value, Nil, Pointer, Vector, Routine}
use Rattle.reaching.specs.Reaching.{is_in, reach}
use Rattle.ps_heap.specs.Tables.{Key, is_same_key}
use Rattle.ps_heap.specs.Objects.{Object, Heap, object_at, id_of, place_of, vector_in, low_in, elements_in}
use Rattle.ps_heap.specs.Scopes.{parent_in, scope_out, name_in, with_name}
use Rattle.ps_heap.specs.References.{values_of, with_part, next_in}
use Rattle.ps_heap.specs.Weights.{own_weight, whole_weight}
use Rattle.ps_heap.specs.Databases.{Directory, Opening, every_root, is_there}

-- A place of an object: a field, an element or a kept name, by its number; or a key of a table.
pub data Place : Type 0 where
  Part : (object index : ℕ) → Place
  Under : (object : ℕ) (key : Key) → Place

abbrev pub object_of : Place → ℕ
object_of (Part object index) = object
object_of (Under object key) = object

abbrev pub is_same_place : Place → Place → Bool
is_same_place (Part a i) (Part b j) = nat_eq a b && nat_eq i j
is_same_place (Under a k) (Under b l) = nat_eq a b && is_same_key k l
is_same_place p q = false

unfoldable pub is_among : Place → List Place → Bool
is_among place [] = false
is_among place (other ∷ places) = if is_same_place place other then true else is_among place places

-- what the answers of `create.database` and `open.database` for writing wait for, where several sessions run
pub data Reply : Type 0 where
  Free Busy Stale : Reply

pub record Held : Type 0 where
  pub objects : Heap
  -- by id: the number of the database that is the object's home. An object is committed exactly where it has one.
  pub homes : List (Option ℕ)
  pub directory : Directory
  -- each database that was made or opened, in this order
  pub openings : List Opening
  -- the databases made since the last saved commit
  pub created : List ℕ
  -- the places of committed objects assigned since the last saved commit, each once
  pub assigned : List Place
  -- the committed objects touched since they were committed
  pub touched : List ℕ
  -- whether a database was asked for: then the directory is counted
  pub asked : Bool
  pub replies : List Reply
  -- in bytes
  pub counted : ℕ
  -- what the code of a procedure weighs
  pub weigh : Routine → ℕ

unfoldable pub home_at : List (Option ℕ) → ℕ → Option ℕ
home_at [] id = None
home_at (home ∷ homes) zero = home
home_at (home ∷ homes) (suc id) = home_at homes id

abbrev pub counting : ℕ → Held → Held
counting bytes h = record h { counted = h.counted + bytes }

-- a new object, and its id
abbrev pub new_id : Held → ℕ
new_id h = length h.objects

abbrev pub with_object : Object → Held → Held
with_object object h = record h { objects = h.objects ++ object ∷ [] }

abbrev pub made : Object → Held → Held
made object h = counting (own_weight object) (with_object object h)

-- Assigning. A place is assigned also where it gets the value that it has. Of an object that isn't committed nothing is noted.
unfoldable pub places_with : List (Option ℕ) → Place → List Place → List Place
places_with homes place places =
    if is_there (home_at homes (object_of place)) then (if is_among place places then places else places ++ place ∷ []) else places

abbrev pub noted : Place → Held → Held
noted place h = record h { assigned = places_with h.homes place h.assigned }

-- a place gets a value, and these are the objects then
abbrev pub assigning : Place → Heap → Held → Held
assigning place objects h = noted place (record h { objects = objects })

abbrev pub place_or_first : Option ℕ → ℕ
place_or_first None = 0
place_or_first (Some n) = n

-- the element at a subscript of a vector, as a place
abbrev pub element_place : Heap → Value → ℤ → Place
element_place heap v at =
    let vector = vector_in heap v in Part (id_of v) (place_or_first (place_of (low_in vector) (length (elements_in vector)) at))

-- the value in such a place
abbrev pub part_at : Option Object → ℕ → Value
part_at None n = Nil
part_at (Some object) n = get_or (values_of object) n Nil

abbrev pub put_part : Option Object → ℕ → ℕ → Value → Heap → Heap
put_part None id n v heap = heap
put_part (Some object) id n v heap = set heap id (with_part object n v)

-- a field, an element or a kept name gets a value
abbrev pub assigned_part : ℕ → ℕ → Value → Held → Held
assigned_part id n v h = assigning (Part id n) (put_part (object_at h.objects id) id n v h.objects) h

-- Touching. A committed object is counted once since it was committed, in full, as it is when it is first touched.
abbrev pub weight_at : (Routine → ℕ) → Option Object → ℕ
weight_at weigh None = 0
weight_at weigh (Some object) = whole_weight weigh object

unfoldable pub is_first_touch : List (Option ℕ) → ℕ → List ℕ → Bool
is_first_touch homes id touched = is_there (home_at homes id) && not (is_in id touched)

abbrev pub touched_with : List (Option ℕ) → ℕ → List ℕ → List ℕ
touched_with homes id touched = if is_first_touch homes id touched then id ∷ touched else touched

unfoldable pub touched_after : List (Option ℕ) → List ℕ → List ℕ → List ℕ
touched_after homes [] touched = touched
touched_after homes (id ∷ ids) touched = touched_after homes ids (touched_with homes id touched)

unfoldable pub touched_weight : (Routine → ℕ) → Heap → List (Option ℕ) → List ℕ → List ℕ → ℕ
touched_weight weigh heap homes [] touched = 0
touched_weight weigh heap homes (id ∷ ids) touched =
    (if is_first_touch homes id touched then weight_at weigh (object_at heap id) else 0)
    + touched_weight weigh heap homes ids (touched_with homes id touched)

-- these objects are touched, one after the other
abbrev pub touching : List ℕ → Held → Held
touching ids h =
    record h { touched = touched_after h.homes ids h.touched; counted = h.counted + touched_weight h.weigh h.objects h.homes ids h.touched }

-- the object that a value denotes; a procedure's scope is touched where it is called
abbrev pub denoted : Value → List ℕ
denoted (Pointer id) = id ∷ []
denoted (Vector id) = id ∷ []
denoted _ = []

-- a value is read from a place
abbrev pub reading : Value → Held → Held
reading v h = touching (denoted v) h

-- the scopes from one to that so many levels out
unfoldable pub way_out : Heap → Option ℕ → ℕ → List ℕ
way_out heap None up = []
way_out heap (Some id) zero = id ∷ []
way_out heap (Some id) (suc up) = id ∷ way_out heap (parent_in (object_at heap id)) up

-- what is held where a kept name is read: the scopes on the way out to it are touched, and what its value denotes
abbrev pub reading_name : Option ℕ → ℕ → ℕ → Held → Held
reading_name scope up n h = touching (way_out h.objects scope up ++ denoted (name_in h.objects (scope_out h.objects scope up) n)) h

-- where a kept name gets a value: the scope that holds it and those on the way out to it are touched before
abbrev pub places_with_name : List (Option ℕ) → Option ℕ → ℕ → List Place → List Place
places_with_name homes None n places = places
places_with_name homes (Some id) n places = places_with homes (Part id n) places

abbrev pub assigned_name : Option ℕ → ℕ → ℕ → Value → Held → Held
assigned_name scope up n v h =
    let out = scope_out h.objects scope up in
    record (touching (way_out h.objects scope up) h) { objects = with_name h.objects out n v; assigned = places_with_name h.homes out n h.assigned }

-- The start of a run over a heap that was kept: what is reached from the roots is committed and keeps its home, no place is assigned and no database open.
pub record StoredHeap : Type 0 where
  -- an object that has no home is no part of it
  pub objects : Heap
  pub homes : List (Option ℕ)
  pub directory : Directory

unfoldable pub row : {A : Type 0} → (ℕ → A) → ℕ → ℕ → List A
row f from zero = []
row f from (suc n) = f from ∷ row f (suc from) n

abbrev pub every_id : Heap → List ℕ
every_id heap = row (λ id. id) 0 (length heap)

unfoldable pub reached_from_roots : StoredHeap → List ℕ
reached_from_roots stored = reach (next_in stored.objects) (every_id stored.objects) (every_root stored.directory)

abbrev pub home_if : Bool → Option ℕ → Option ℕ
home_if true home = home
home_if false home = None

abbrev pub started : (Routine → ℕ) → List Reply → ℕ → StoredHeap → Held
started weigh replies counted stored =
    let there = reached_from_roots stored in
    record {
      objects = stored.objects;
      homes = row (λ id. home_if (is_in id there) (home_at stored.homes id)) 0 (length stored.objects);
      directory = stored.directory;
      openings = [];
      created = [];
      assigned = [];
      touched = [];
      asked = false;
      replies = replies;
      counted = counted;
      weigh = weigh;
    }

abbrev pub nothing_stored : StoredHeap
nothing_stored = record { objects = []; homes = []; directory = [] }
