-- What is seen of an object: its slots and words, its shape, and the text that it refers to first.
use Rattle.std.specs.Prelude.{◌≡◌, ℕ, List, length, take, drop, get_or, slice_index, nat_eq, if◌then◌else◌, Option, None}
use Rattle.heap_texts.specs.obj_area.Words.{bytes_of}
use Rattle.heap_texts.specs.obj_layout.Kind.{kind_number}
use Rattle.heap_texts.specs.obj_layout.Stored.{Damage, damage}
use Rattle.heap_texts.specs.obj_layout.declared.kind.Kind.{Kind}
use Rattle.heap_texts.specs.obj_layout.declared.kind.Kind.TheVariants.{Text}
use Rattle.heap_texts.specs.obj_layout.declared.reference.Reference.{Reference}
use Rattle.heap_texts.specs.obj_layout.declared.reference.Reference.TheVariants.{Nil}
use Rattle.heap_texts.specs.swizzle.Joint.{Shown}

-- the name in a slot
abbrev pub slot_of : Shown → ℕ → Reference
slot_of it slot = get_or it.refs slot Nil

-- the word at an index
abbrev pub word_in : Shown → ℕ → ℕ
word_in it index = slice_index it.nums index

-- the bytes of a text
abbrev pub shown_text : Shown → List ℕ
shown_text it = take it.bytes (drop 8 (bytes_of it.nums))

-- this name is that of a text with these bytes
pub record IsText (seen : Reference → Shown → Type 0) (name : Reference) (bytes : List ℕ) : Type 0 where
  pub it : Shown
  pub there : seen name it
  pub kind : it.kind ≡ Text
  pub bytes_are : shown_text it ≡ bytes

-- The first of these that isn't so: the kind, the number of references, the number of number words. Kinds go by their numbers.
unfoldable pub shape_damage : Shown → Kind → ℕ → ℕ → Option Damage
shape_damage it kind refs nums =
    if nat_eq (kind_number it.kind) (kind_number kind)
    then (if nat_eq (length it.refs) refs then (if nat_eq (length it.nums) nums then None else damage (length it.nums) nums) else damage (length it.refs) refs)
    else damage (kind_number it.kind) (kind_number kind)
