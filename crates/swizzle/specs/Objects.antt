-- Objects as they lie in words: header, references, number words.
use Rattle.std.specs.Prelude.{◌≡◌, ℕ, zero, suc, ◌+◌, ◌*◌, ◌/◌, ◌%◌, ◌^◌, ◌<◌, ◌≤◌, ◌==◌, if◌then◌else◌, List, [], ◌∷◌, ◌++◌, length, take, drop, map, slice_index, Option, Some, None, unwrap_or}
use Rattle.obj_area.specs.Words.{AreWords}
use Rattle.obj_layout.specs.declared.kind.Kind.{Kind}
use Rattle.obj_layout.specs.declared.kind.Kind.TheVariants.{Text, Code}
use Rattle.obj_layout.specs.declared.header.Header.{Header}
use Rattle.obj_layout.specs.declared.reference.Reference.{Reference}
use Rattle.obj_layout.specs.declared.reference.Reference.TheVariants.{Nil}
use Rattle.obj_layout.specs.Kind.{kind_numbered}
use Rattle.obj_layout.specs.Header.{HasFitFields, HasFitLengths, header_words, object_length}
use Rattle.obj_layout.specs.Reference.{IsReference, reference_word, reference_in}

-- an object of the area
pub record Object : Type 0 where
  pub header : Header
  pub refs : List Reference
  pub nums : List ℕ

-- how many words it has
abbrev pub size_of : Object → ℕ
size_of o = object_length o.header

-- its words
abbrev pub object_words : Object → List ℕ
object_words o = header_words o.header ++ (map reference_word o.refs ++ o.nums)

-- each of these is one that the layout allows
abbrev pub AreReferences : List Reference → Type 0
AreReferences [] = Unit {0}
AreReferences (r ∷ rs) = IsReference r × AreReferences rs

-- the number words of an object of this kind that stand before its bytes: its home, and of code its frame
abbrev pub words_before : Kind → ℕ
words_before Text = 1
words_before Code = 2
words_before _ = 0

-- the number words hold those, and the bytes after them
abbrev pub HasRoomForBytes : Kind → ℕ → ℕ → Type 0
HasRoomForBytes kind nums bytes = 8 * words_before kind + bytes ≤ 8 * nums

-- Its parts are as its header says, it has a number word for its home, and the bytes of a text or of code
-- lie in the number words after the first ones.
pub record IsFit (o : Object) : Type 0 where
  pub fields : HasFitFields o.header
  pub lengths : HasFitLengths o.header
  pub pid : o.header.pid < 2 ^ 63
  pub refs : length o.refs ≡ o.header.refs
  pub nums : length o.nums ≡ o.header.nums
  pub home : 1 ≤ o.header.nums
  pub bytes : HasRoomForBytes o.header.kind o.header.nums o.header.bytes
  pub references : AreReferences o.refs
  pub words : AreWords o.nums

abbrev pub AreFit : List Object → Type 0
AreFit [] = Unit {0}
AreFit (o ∷ os) = IsFit o × AreFit os

-- the words of objects, one after the other
abbrev pub words_of_all : List Object → List ℕ
words_of_all [] = []
words_of_all (o ∷ os) = object_words o ++ words_of_all os

-- how many these are
abbrev pub size_of_all : List Object → ℕ
size_of_all [] = 0
size_of_all (o ∷ os) = size_of o + size_of_all os

-- the object that begins at index i, of objects that lie from an index on
abbrev pub find_from : ℕ → List Object → ℕ → Option Object
find_from at [] i = None
find_from at (o ∷ os) i = if i == at then Some o else find_from (at + size_of o) os i

-- the objects with another one in its place
abbrev pub replace_from : ℕ → List Object → ℕ → Object → List Object
replace_from at [] i new = []
replace_from at (o ∷ os) i new = if i == at then new ∷ os else o ∷ replace_from (at + size_of o) os i new

-- The objects that words spell.

unfoldable pub header_in : List ℕ → Header
header_in words = record {
  kind = unwrap_or (kind_numbered (slice_index words 0 % 2 ^ 8)) Text;
  flags = slice_index words 0 / 2 ^ 8 % 2 ^ 8;
  refs = slice_index words 0 / 2 ^ 32;
  nums = slice_index words 2 % 2 ^ 32;
  bytes = slice_index words 2 / 2 ^ 32;
  pid = slice_index words 1;
  chain = slice_index words 3;
}

unfoldable pub reference_at : ℕ → Reference
reference_at word = unwrap_or (reference_in word) Nil

unfoldable pub object_in : List ℕ → Object
object_in words = record {
  header = header_in words;
  refs = map reference_at (take (header_in words).refs (drop 4 words));
  nums = take (header_in words).nums (drop (4 + (header_in words).refs) words);
}

unfoldable pub objects_in : ℕ → List ℕ → List Object
objects_in zero words = []
objects_in (suc n) [] = []
objects_in (suc n) (w ∷ ws) = object_in (w ∷ ws) ∷ objects_in n (drop (size_of (object_in (w ∷ ws))) (w ∷ ws))

-- the objects of an area with these words
unfoldable pub objects_of : List ℕ → List Object
objects_of words = objects_in (length words) words
