-- When two runs hold the same but for the ids of their objects, and when calls answer the same so.
use Rattle.std.specs.Prelude.{◌≡◌, ℕ, ◌<◌, nat_eq, if◌then◌else◌, List, [], ◌∷◌, length, map, Option, Some}
use Rattle.std.specs.Option.{option_map}
use Rattle.reaching.specs.Reaching.{IsIn, is_in}
use Rattle.ps_heap.specs.Values.{Value, Routine}
use Rattle.ps_heap.specs.Texts.{Attempt, Yields, Fails}
use Rattle.ps_heap.specs.Objects.{Object, Heap, object_at}
use Rattle.ps_heap.specs.References.{value_ids, values_ids, object_ids, next_in}
use Rattle.ps_heap.specs.Databases.{Directory, every_root}
use Rattle.ps_heap.specs.Held.{Place, Part, Under, object_of, Held, home_at, Reply, StoredHeap, new_id, with_object, counting, touching, assigned_part, reached_from_roots, started}
use Rattle.ps_heap.specs.Events.{Event, Commit}
use Rattle.ps_heap.specs.Calls.{Answer}
use Rattle.ps_heap.specs.Library.{HeapProcedure, heap_call}
use Rattle.database_meaning.specs.Same.{renamed_value, renamed, renamed_database, IsInHeap, IsSame}
use Rattle.database_meaning.specs.Sound.{HasPlace}

-- The ids of one run that go with those of another, and with which they go.
pub record Pairing : Type 0 where
  pub ids : List ℕ
  pub new : ℕ → ℕ
  pub back : ℕ → ℕ

abbrev pub AreAmong : List ℕ → List ℕ → Type 0
AreAmong xs ids = (x : ℕ) → IsIn x xs → IsIn x ids

-- the pairs of one pairing are pairs of another
pub record GoesOn (p q : Pairing) : Type 0 where
  pub ids : AreAmong p.ids q.ids
  pub new : (id : ℕ) → IsIn id p.ids → q.new id ≡ p.new id

-- one pair more
abbrev pub with_pair : ℕ → ℕ → Pairing → Pairing
with_pair id other p = record {
  ids = id ∷ p.ids;
  new = λ x. if nat_eq x id then other else p.new x;
  back = λ y. if nat_eq y other then id else p.back y;
}

-- The ids go with one another one to one, as objects that are there and refer to no others; the objects that go together are equal but for these ids.
pub record AreSameObjects (p : Pairing) (a b : Heap) : Type 0 where
  pub one : (id : ℕ) → IsIn id p.ids → p.back (p.new id) ≡ id
  pub there : (id : ℕ) → IsIn id p.ids → id < length a
  pub closed : (id : ℕ) → IsIn id p.ids → AreAmong (next_in a id) p.ids
  pub same : (id : ℕ) → IsIn id p.ids → object_at b (p.new id) ≡ option_map (renamed p.new) (object_at a id)

-- ids of objects that are there, and homes of such
abbrev pub AreIdsOf : Heap → List ℕ → Type 0
AreIdsOf heap ids = (id : ℕ) → IsIn id ids → id < length heap

abbrev pub AreHomesOf : Heap → List (Option ℕ) → Type 0
AreHomesOf heap homes = (id n : ℕ) → home_at homes id ≡ Some n → id < length heap

-- what goes together has one home
pub record AreSameHomes (p : Pairing) (a b : Heap) (homes others : List (Option ℕ)) : Type 0 where
  pub same : (id : ℕ) → IsIn id p.ids → home_at others (p.new id) ≡ home_at homes id
  pub first : AreHomesOf a homes
  pub second : AreHomesOf b others

-- of what goes together both are touched, or none
pub record AreSameTouched (p : Pairing) (a b : Heap) (touched others : List ℕ) : Type 0 where
  pub same : (id : ℕ) → IsIn id p.ids → is_in (p.new id) others ≡ is_in id touched
  pub first : AreIdsOf a touched
  pub second : AreIdsOf b others

-- the roots go together
pub record IsSameDirectory (p : Pairing) (a b : Directory) : Type 0 where
  pub is : b ≡ map (renamed_database p.new) a
  pub roots : AreAmong (every_root a) p.ids

abbrev pub renamed_place : (ℕ → ℕ) → Place → Place
renamed_place new (Part object index) = Part (new object) index
renamed_place new (Under object key) = Under (new object) key

-- the places are of objects that go together
pub record AreSamePlaces (p : Pairing) (a b : List Place) : Type 0 where
  pub are : b ≡ map (renamed_place p.new) a
  pub objects : (place : Place) → HasPlace place a → IsIn (object_of place) p.ids

-- Two runs hold the same but for ids.
pub record IsSameHeld (p : Pairing) (a b : Held) : Type 0 where
  pub objects : AreSameObjects p a.objects b.objects
  pub homes : AreSameHomes p a.objects b.objects a.homes b.homes
  pub directory : IsSameDirectory p a.directory b.directory
  pub openings : b.openings ≡ a.openings
  pub created : b.created ≡ a.created
  pub assigned : AreSamePlaces p a.assigned b.assigned
  pub touched : AreSameTouched p a.objects b.objects a.touched b.touched
  pub asked : b.asked ≡ a.asked
  pub replies : b.replies ≡ a.replies
  pub counted : b.counted ≡ a.counted
  pub weigh : b.weigh ≡ a.weigh

-- Events are the same, where they keep heaps that are the same but for ids.
abbrev pub IsSameEvent : Event → Event → Type 0
IsSameEvent (Commit heap counted) (Commit other bytes) = IsSame heap other × (bytes ≡ counted)
IsSameEvent event other = other ≡ event

abbrev pub AreSameEvents : List Event → List Event → Type 0
AreSameEvents [] [] = Unit {0}
AreSameEvents (event ∷ events) (other ∷ others) = IsSameEvent event other × AreSameEvents events others
AreSameEvents events others = ⊥

-- A call answers the same but for ids: the pairing goes on, with the ids of objects that were made.
pub record IsSameAnswer (p : Pairing) (x y : Answer) : Type 0 where
  pub pairs : Pairing
  pub goes_on : GoesOn p pairs
  pub held : IsSameHeld pairs x.held y.held
  pub value : y.value ≡ renamed_value pairs.new x.value
  pub denoted : AreAmong (value_ids x.value) pairs.ids
  pub events : AreSameEvents x.events y.events

-- both attempts yield what goes together, or both end in one trap
abbrev pub AreBoth : {A B : Type 0} → (A → B → Type 0) → Attempt A → Attempt B → Type 0
AreBoth goes (Yields a) (Yields b) = goes a b
AreBoth goes (Fails trap) (Fails other) = other ≡ trap
AreBoth goes a b = ⊥

-- what the roots reach is there
abbrev pub IsAllThere : StoredHeap → Type 0
IsAllThere stored = (id : ℕ) → IsInHeap stored id → id < length stored.objects

-- What two runs start with over heaps that are the same but for ids: what the roots reach goes together.
abbrev pub pairing_of : (a b : StoredHeap) → IsSame a b → Pairing
pairing_of a b s = record { ids = reached_from_roots a; new = s.new; back = s.back }

-- Runs over heaps that are the same but for ids hold the same but for ids from their start on: where an object is made, something counted or touched, a
-- place assigned, and through each call of the library, which answers the same, with the same events and with commits of the same heaps.
pub record StayTheSame : Type 0 where
  pub starts : (weigh : Routine → ℕ) (replies : List Reply) (counted : ℕ) (a b : StoredHeap) (s : IsSame a b) → IsAllThere a →
      IsSameHeld (pairing_of a b s) (started weigh replies counted a) (started weigh replies counted b)
  pub makes : (object : Object) (p : Pairing) (a b : Held) → IsSameHeld p a b → AreAmong (object_ids (Some object)) p.ids →
      IsSameHeld (with_pair (new_id a) (new_id b) p) (with_object object a) (with_object (renamed p.new object) b)
  pub counts : (bytes : ℕ) (p : Pairing) (a b : Held) → IsSameHeld p a b → IsSameHeld p (counting bytes a) (counting bytes b)
  pub touches : (ids : List ℕ) (p : Pairing) (a b : Held) → IsSameHeld p a b → AreAmong ids p.ids → IsSameHeld p (touching ids a) (touching (map p.new ids) b)
  pub assigns : (id n : ℕ) (v : Value) (p : Pairing) (a b : Held) → IsSameHeld p a b → IsIn id p.ids → AreAmong (value_ids v) p.ids →
      IsSameHeld p (assigned_part id n v a) (assigned_part (p.new id) n (renamed_value p.new v) b)
  pub calls : (of : HeapProcedure) (args : List Value) (p : Pairing) (a b : Held) → IsSameHeld p a b → AreAmong (values_ids args) p.ids →
      AreBoth (IsSameAnswer p) (heap_call of args a) (heap_call of (map (renamed_value p.new) args) b)
