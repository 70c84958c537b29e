-- What a space holds once the images of objects are stored in it.
use Rattle.std.specs.Prelude.{◌≡◌, ◌≢◌, ◌⊎◌, ℕ, ◌+◌, List, [], ◌∷◌, length}
use Rattle.swizzle.specs.obj_layout.Objects.{Placed, Contents, HasContents, HoldsObjects}
use Rattle.swizzle.specs.obj_layout.Stored.{Space, HasObject}
use Rattle.swizzle.specs.Objects.{size_of}
use Rattle.swizzle.specs.Heap.{Heap, header_at, object_at}
use Rattle.reaching.specs.Reaching.{IsIn}
use Rattle.commit_images.specs.Images.{image_of, words_of}

-- the words of a space are cut into objects
pub record IsCut (space : Space) : Type 0 where
  pub objects : List Placed
  pub cut : HoldsObjects space.words objects

-- the object has the counts of its kind
pub record IsWhole (heap : Heap) (x : ℕ) : Type 0 where
  pub contents : Contents
  pub counts : HasContents (header_at heap x) contents

abbrev pub AreWhole : Heap → List ℕ → Type 0
AreWhole heap xs = (x : ℕ) → IsIn x xs → IsWhole heap x

-- These objects have the PIDs that they get where they are stored in this order from a number of used words on: each lies behind the words before it.
unfoldable pub AreNumbered : Heap → List ℕ → ℕ → Type 0
AreNumbered heap [] used = Unit {0}
AreNumbered heap (x ∷ xs) used = ((header_at heap x).pid ≡ used) × AreNumbered heap xs (used + size_of (object_at heap x))

-- no object of the list has this PID
abbrev pub HasNone : Heap → List ℕ → ℕ → Type 0
HasNone heap xs pid = (x : ℕ) → IsIn x xs → (header_at heap x).pid ≢ pid

-- The words under a PID are the image of an object of one of the lists.
pub record IsImage (heap : Heap) (new changed : List ℕ) (pid : ℕ) (words : List ℕ) : Type 0 where
  pub at : ℕ
  pub listed : IsIn at new ⊎ IsIn at changed
  pub pid_is : pid ≡ (header_at heap at).pid
  pub words_are : words ≡ image_of heap at

-- The space holds the image of each of these objects under its PID, and what it held under all other PIDs; it has grown by the words of the new ones.
pub record Stores (heap : Heap) (new changed : List ℕ) (before after : Space) : Type 0 where
  pub cut : IsCut after
  pub long : length after.words ≡ length before.words + words_of heap new
  pub here : (x : ℕ) → IsIn x new ⊎ IsIn x changed → HasObject after (header_at heap x).pid (image_of heap x)
  pub stays : (pid : ℕ) (words : List ℕ) → HasNone heap changed pid → HasObject before pid words → HasObject after pid words
  pub no_other : (pid : ℕ) (words : List ℕ) → HasObject after pid words → (HasNone heap changed pid × HasObject before pid words) ⊎ IsImage heap new changed pid words
