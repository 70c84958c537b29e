-- Objects as a vault gives them, and how they lie in the area.
use Rattle.std.specs.Prelude.{◌≡◌, ◌⊎◌, ℕ, ◌+◌, ◌<◌, ◌≤◌, ◌^◌, List, length, take, slice_index}
use Rattle.obj_area.specs.Words.{AreWords}
use Rattle.obj_layout.specs.declared.header.Header.{Header}
use Rattle.obj_layout.specs.declared.reference.Reference.TheVariants.{Pid}
use Rattle.obj_layout.specs.Header.{HasFitFields, HasFitLengths, header_words, object_length}
use Rattle.swizzle.specs.Objects.{Object, HasRoomForBytes, object_in, object_words}
use Rattle.swizzle.specs.Heap.{Heap, IsHeld}
use Rattle.swizzle.specs.Joint.{name_at}

-- a reference of an object that isn't in the area: nil or a PID
abbrev pub IsFarWord : ℕ → Type 0
IsFarWord word = (word ≡ 0) ⊎ (2 ^ 63 < word)

-- These words are an object that may come into the area.
pub record IsFar (words : List ℕ) (header : Header) : Type 0 where
  pub spelled : take 4 words ≡ header_words header
  pub fields : HasFitFields header
  pub lengths : HasFitLengths header
  pub long : length words ≡ object_length header
  pub home : 1 ≤ header.nums
  pub bytes : HasRoomForBytes header.kind header.nums header.bytes
  pub refs : (slot : ℕ) → slot < header.refs → IsFarWord (slice_index words (4 + slot))

-- the header of such an object in the area, with its PID and the object that its chain goes on with
abbrev pub near_header : ℕ → ℕ → Header → Header
near_header pid link header = record header { flags = 0; pid = pid; chain = link }

-- the object as it lies in the area
unfoldable pub near : ℕ → ℕ → List ℕ → Object
near pid link words = record (object_in words) { header = near_header pid link (object_in words).header }

-- The object of this PID lies there.
pub record IsLocal (heap : Heap) (pid at : ℕ) : Type 0 where
  pub held : IsHeld heap at
  pub name : name_at heap at ≡ Pid pid

-- what lies at the start of a buffer after these words were fetched: the object of this PID, as it lies in the area
pub record IsNear (words buffer : List ℕ) (pid link : ℕ) (header : Header) : Type 0 where
  pub far : IsFar words header
  pub spelled : buffer ≡ object_words (near pid link words)
  pub fits : AreWords words

-- What a fetch gave: words of the vault, those that it holds where it tells any.
pub record IsFetched (holds : ℕ → List ℕ → Type 0) (pid link : ℕ) (buffer : List ℕ) (header : Header) : Type 0 where
  pub words : List ℕ
  pub told : (list : List ℕ) → holds pid list → list ≡ words
  pub near_is : IsNear words buffer pid link header
