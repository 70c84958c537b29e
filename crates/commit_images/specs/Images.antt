-- The images of objects: which of them a commit stores, and what a space is with them.
use Rattle.std.specs.Prelude.{ℕ, ◌==◌, Bool, false, not, ◌||◌, ◌&&◌, nat_lt, nat_eq, if◌then◌else◌, List, fold, filter, sum_by}
use Rattle.swizzle.specs.obj_layout.Kind.{kind_number}
use Rattle.swizzle.specs.obj_layout.Stored.{Space, appended, overwritten}
use Rattle.swizzle.specs.Objects.{object_words, size_of}
use Rattle.swizzle.specs.Heap.{Heap, object_at, header_at, is_reached}
use Rattle.swizzle.specs.Image.{far_object}
use Rattle.commit_walk.specs.Walk.{has_home}

-- the words of an object as a vault has them
unfoldable pub image_of : Heap → ℕ → List ℕ
image_of heap x = object_words (far_object heap x)

-- how many words these objects have
abbrev pub words_of : Heap → List ℕ → ℕ
words_of heap xs = sum_by (λ x. size_of (object_at heap x)) xs

-- Of the objects that a walk has listed, those are new whose PIDs aren't below the words that were used before.
unfoldable pub is_new : Heap → ℕ → ℕ → Bool
is_new heap first x = not (nat_lt (header_at heap x).pid first)

abbrev pub new_in : Heap → ℕ → List ℕ
new_in heap first = filter (is_new heap first) heap.reached

-- Of the assigned objects those are written anew that were stored before, and have a home or are nodes that the walk has reached. A node that was taken
-- out of its table isn't reached.
unfoldable pub is_changed : Heap → ℕ → ℕ → Bool
is_changed heap first x =
    if (header_at heap x).pid == 0 then false else
    if nat_lt (header_at heap x).pid first then (has_home (header_at heap x) || (nat_eq (kind_number (header_at heap x).kind) 8 && is_reached (object_at heap x))) else false

abbrev pub changed_in : Heap → ℕ → List ℕ
changed_in heap first = filter (is_changed heap first) heap.assigned

-- the space with the images of these objects after its words, in their order
unfoldable pub with_images : Heap → List ℕ → Space → Space
with_images heap xs space = fold (λ s x. appended (image_of heap x) s) space xs

-- the space with the image of each of these objects in place of the words under its PID
unfoldable pub over_images : Heap → List ℕ → Space → Space
over_images heap xs space = fold (λ s x. overwritten (header_at heap x).pid (image_of heap x) s) space xs
