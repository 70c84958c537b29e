-- The four words at the start of an object.
use Rattle.std.specs.Prelude.{ℕ, ◌+◌, ◌*◌, ◌/◌, ◌%◌, ◌^◌, ◌<◌, ◌≤◌, List, [], ◌∷◌, Option, Some, None, nat_lt, is_none, if◌then◌else◌, slice_index}
use Rattle.obj_layout.specs.Kind.{kind_number, kind_numbered}
use Rattle.obj_layout.specs.declared.header.Header.{Header}
use Rattle.obj_layout.specs.declared.header.LayoutFault.{LayoutFault}
use Rattle.obj_layout.specs.declared.header.LayoutFault.TheVariants.{UnknownKind, BadBits, BadLength}

-- how many words an object has: its header, its references and its numbers
abbrev pub object_length : Header → ℕ
object_length header = 4 + header.refs + header.nums

-- the fields of a header are of their size
pub record HasFitFields (header : Header) : Type 0 where
  pub flags : header.flags < 2 ^ 8
  pub refs : header.refs < 2 ^ 32
  pub nums : header.nums < 2 ^ 32
  pub bytes : header.bytes < 2 ^ 32
  pub pid : header.pid < 2 ^ 64
  pub chain : header.chain < 2 ^ 64

-- the bytes of an object lie in its number words, and it has at most 2 ^ 31 words
pub record HasFitLengths (header : Header) : Type 0 where
  pub bytes : header.bytes ≤ 8 * header.nums
  pub words : object_length header ≤ 2 ^ 31

-- the four words that spell a header
abbrev pub header_words : Header → List ℕ
header_words header =
    (kind_number header.kind + 2 ^ 8 * header.flags + 2 ^ 32 * header.refs) ∷ header.pid ∷ (header.nums + 2 ^ 32 * header.bytes) ∷ header.chain ∷ []

-- what is wrong with the lengths of an object with so many references, number words and bytes
abbrev pub length_fault : ℕ → ℕ → ℕ → Option LayoutFault
length_fault refs nums bytes =
    if nat_lt (8 * nums) bytes then Some (BadLength bytes (8 * nums)) else
    if nat_lt (2 ^ 31) (4 + refs + nums) then Some (BadLength (4 + refs + nums) (2 ^ 31)) else None

-- what is wrong with the parts of a header: the first fault in this order
abbrev pub fault_of : ℕ → ℕ → ℕ → ℕ → ℕ → Option LayoutFault
fault_of number spare refs nums bytes =
    if is_none (kind_numbered number) then Some (UnknownKind number) else
    if nat_lt 0 spare then Some (BadBits spare) else length_fault refs nums bytes

-- why four words spell no header
abbrev pub header_fault : List ℕ → Option LayoutFault
header_fault words =
    let first = slice_index words 0 in
    let third = slice_index words 2 in
    fault_of (first % 2 ^ 8) (first / 2 ^ 16 % 2 ^ 16) (first / 2 ^ 32) (third % 2 ^ 32) (third / 2 ^ 32)
