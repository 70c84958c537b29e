-- The walk of a commit over the objects of an area: where it goes, and what it finds.
use Rattle.std.specs.Prelude.{◌≡◌, ◌⊎◌, ℕ, ◌<◌, ◌≤◌, Bool, true, ◌==◌, nat_eq, if◌then◌else◌, List, [], ◌∷◌, ◌++◌, length, get_or, Option, Some}
use Rattle.swizzle.specs.obj_layout.Kind.{kind_number}
use Rattle.swizzle.specs.obj_layout.declared.header.Header.{Header}
use Rattle.swizzle.specs.Heap.{Heap, IsHeld, header_at, ref_at, num_at, top_of}
use Rattle.swizzle.specs.Joint.{name_at, name_of}
use Rattle.reaching.specs.Reaching.{IsIn, is_in, Reached}

-- The slot names this object of the area: it refers to its index, or to its PID.
pub record Names (heap : Heap) (x slot y : ℕ) : Type 0 where
  pub held : IsHeld heap y
  pub is : name_of heap (ref_at heap x slot) ≡ name_at heap y

-- one of its first slots names an object of the area
pub record GoesBelow (heap : Heap) (slots x y : ℕ) : Type 0 where
  pub slot : ℕ
  pub below : slot < slots
  pub names : Names heap x slot y

abbrev pub Goes : Heap → ℕ → ℕ → Type 0
Goes heap x y = GoesBelow heap (header_at heap x).refs x y

-- The walk goes to the objects that have no PID yet, and to the nodes of tables, whether they have one or not.
unfoldable pub is_walked : Header → Bool
is_walked header = if header.pid == 0 then true else nat_eq (kind_number header.kind) 8

abbrev pub May : Heap → ℕ → Type 0
May heap y = is_walked (header_at heap y) ≡ true

-- the list with the object, once
unfoldable pub and_once : List ℕ → ℕ → List ℕ
and_once list x = if is_in x list then list else list ++ x ∷ []

-- A list has grown by exactly those of these that it hadn't.
pub record Grows (old new : List ℕ) (adds : ℕ → Type 0) : Type 0 where
  pub more : List ℕ
  pub is : new ≡ old ++ more
  pub only : (y : ℕ) → IsIn y more → adds y
  pub fresh : (y : ℕ) → IsIn y more → IsIn y old → ⊥
  pub has : (y : ℕ) → adds y → IsIn y new

abbrev pub AreHeld : Heap → List ℕ → Type 0
AreHeld heap list = (x : ℕ) → IsIn x list → IsHeld heap x

-- an object of the list, from a place on, goes there
pub record GoesFrom (heap : Heap) (list : List ℕ) (from y : ℕ) : Type 0 where
  pub place : ℕ
  pub low : from ≤ place
  pub high : place < length list
  pub goes : Goes heap (get_or list place 0) y

-- all to which the objects go that are listed from one place on and before another are listed
abbrev pub AreDone : Heap → List ℕ → ℕ → ℕ → Type 0
AreDone heap list from to = (place y : ℕ) → from ≤ place → place < to → Goes heap (get_or list place 0) y → May heap y → IsIn y list

-- What is reached from the objects from a place on was listed.
pub record IsWalked (heap : Heap) (old : List ℕ) (from : ℕ) (new : List ℕ) : Type 0 where
  pub more : List ℕ
  pub is : new ≡ old ++ more
  pub only : (y : ℕ) → IsIn y more → Reached (Goes heap) (May heap) (GoesFrom heap old from) y
  pub fresh : (y : ℕ) → IsIn y more → IsIn y old → ⊥
  pub done : AreDone heap new from (length new)

-- a list that has all to which its objects go
abbrev pub IsClosed : Heap → List ℕ → Type 0
IsClosed heap list = (x y : ℕ) → IsIn x list → Goes heap x y → May heap y → IsIn y list

-- a header without its flags
abbrev pub bare : Header → Header
bare header = record header { flags = 0 }

-- Nothing has changed but flags, the list of the reached, and number words 0, in which homes stand.
pub record Steady (old new : Heap) : Type 0 where
  pub size : new.size ≡ old.size
  pub assigned : new.assigned ≡ old.assigned
  pub top : top_of new ≡ top_of old
  pub headers : (y : ℕ) → bare (header_at new y) ≡ bare (header_at old y)
  pub refs : (y slot : ℕ) → ref_at new y slot ≡ ref_at old y slot
  pub nums : (y i : ℕ) → 1 ≤ i → num_at new y i ≡ num_at old y i
  pub held : (y : ℕ) → IsHeld old y → IsHeld new y
  pub back : (y : ℕ) → IsHeld new y → IsHeld old y

-- The list of the reached has grown by exactly those of these that it hadn't, and nothing has changed but that and flags.
pub record Lists (old new : Heap) (adds : ℕ → Type 0) : Type 0 where
  pub steady : Steady old new
  pub homes : (y : ℕ) → num_at new y 0 ≡ num_at old y 0
  pub grows : Grows old.reached new.reached adds

-- Kinds of objects that have a home: structures, vectors, scopes and tables.
unfoldable pub has_home : Header → Bool
has_home header =
    if nat_eq (kind_number header.kind) 2 then true else
    if nat_eq (kind_number header.kind) 3 then true else
    if nat_eq (kind_number header.kind) 4 then true else nat_eq (kind_number header.kind) 7

-- an object that has a PID and its home in this database
pub record IsAt (heap : Heap) (number x : ℕ) : Type 0 where
  pub stored : 1 ≤ (header_at heap x).pid
  pub kind : has_home (header_at heap x) ≡ true
  pub home : num_at heap x 0 ≡ number

-- an assigned object of this database goes there
pub record StartsAt (heap : Heap) (number : ℕ) (list : List ℕ) (count y : ℕ) : Type 0 where
  pub place : ℕ
  pub below : place < count
  pub at : IsAt heap number (get_or list place 0)
  pub goes : Goes heap (get_or list place 0) y

-- where the walk of a database starts: at its root, where it was created, and at what its assigned objects refer to
abbrev pub Starts : Heap → ℕ → Option ℕ → ℕ → Type 0
Starts heap number root y = (root ≡ Some y) ⊎ StartsAt heap number heap.assigned (length heap.assigned) y

abbrev pub Finds : Heap → ℕ → Option ℕ → ℕ → Type 0
Finds heap number root y = Reached (Goes heap) (May heap) (Starts heap number root) y

-- What is reached of a database was listed, and all of it.
pub record IsSearched (heap : Heap) (number : ℕ) (root : Option ℕ) (old new : List ℕ) : Type 0 where
  pub more : List ℕ
  pub is : new ≡ old ++ more
  pub only : (y : ℕ) → IsIn y more → Finds heap number root y
  pub fresh : (y : ℕ) → IsIn y more → IsIn y old → ⊥
  pub all : IsClosed heap old → (y : ℕ) → Finds heap number root y → IsIn y new
  pub closed : IsClosed heap old → IsClosed heap new

-- The walk of one database: what is reached of it was listed, and nothing has changed but the list and flags.
pub record Searches (old new : Heap) (number : ℕ) (root : Option ℕ) : Type 0 where
  pub steady : Steady old new
  pub homes : (y : ℕ) → num_at new y 0 ≡ num_at old y 0
  pub searched : IsSearched old number root old.reached new.reached

-- The walk from a place of the list on.
pub record Walks (old new : Heap) (from : ℕ) : Type 0 where
  pub steady : Steady old new
  pub homes : (y : ℕ) → num_at new y 0 ≡ num_at old y 0
  pub walked : IsWalked old old.reached from new.reached
