-- The bytes of a text or of code: those of its number words after the first ones.
use Rattle.std.specs.Prelude.{◌≡◌, ◌⊎◌, ℕ, ◌+◌, ◌*◌, List, take, drop}
use Rattle.obj_area.specs.Words.{bytes_of, words_of, overwritten}
use Rattle.obj_layout.specs.declared.kind.Kind.{Kind}
use Rattle.obj_layout.specs.declared.kind.Kind.TheVariants.{Text, Code}
use Rattle.swizzle.specs.Objects.{Object, words_before}
use Rattle.swizzle.specs.Heap.{Heap, object_at, with_object}

-- an object of this kind has bytes
abbrev pub HasBytes : Kind → Type 0
HasBytes kind = (kind ≡ Text) ⊎ (kind ≡ Code)

-- where its bytes begin among those of its number words
abbrev pub first_byte : Object → ℕ
first_byte object = 8 * words_before object.header.kind

abbrev pub text_of : Object → List ℕ
text_of object = take object.header.bytes (drop (first_byte object) (bytes_of object.nums))

-- the bytes of the object that begins there
abbrev pub text_at : Heap → ℕ → List ℕ
text_at heap at = text_of (object_at heap at)

-- the object with these bytes over its own, after the first `start` ones
abbrev pub with_bytes_at : Object → ℕ → List ℕ → Object
with_bytes_at object start bytes = record object { nums = words_of (overwritten (bytes_of object.nums) (first_byte object + start) bytes) }

abbrev pub with_text : Heap → ℕ → ℕ → List ℕ → Heap
with_text heap at start bytes = with_object heap at (with_bytes_at (object_at heap at) start bytes)
