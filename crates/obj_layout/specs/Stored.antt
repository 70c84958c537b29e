-- What a store of objects holds, and where an object of it is damaged.
use Rattle.std.specs.Prelude.{◌≡◌, ℕ, ◌+◌, ◌^◌, ◌<◌, ◌≤◌, List, [], ◌++◌, length, take, drop, Option, Some, None, nat_lt, nat_eq, if◌then◌else◌, slice_index, ◌/◌, ◌%◌}
use Rattle.std.specs.List.{AllByRecursion}
use Rattle.ps_outside.specs.Outside.{Outside}
use Rattle.obj_layout.specs.declared.header.Header.{Header}
use Rattle.obj_layout.specs.declared.header.LayoutFault.{LayoutFault}
use Rattle.obj_layout.specs.declared.header.LayoutFault.TheVariants.{UnknownKind, BadBits, BadLength}
use Rattle.obj_layout.specs.Header.{HasFitLengths, HasFitFields, header_words, header_fault, object_length}
use Rattle.obj_layout.specs.Objects.{Placed, HoldsObjects, IsAmong}

-- The used words of a store, from word 0, which is no object's; and the PID of its directory, 0 where it has none. Of what a crash leaves it has
-- the bytes of the file too; of what a read gives it has none.
pub record Space : Type 0 where
  pub words : List ℕ
  pub directory : ℕ
  pub file : List ℕ

-- the same words and directory, whatever the file
abbrev pub without_file : Space → Space
without_file space = record space { file = [] }

-- The words of a space are 64 bits wide, as many as are used, and fewer than 2 ^ 30; the directory's PID is below them. It has no file.
pub record IsSpace (used directory : ℕ) (space : Space) : Type 0 where
  pub wide : AllByRecursion (λ word. word < 2 ^ 64) space.words
  pub long : length space.words ≡ used
  pub some : 1 ≤ used
  pub small : used < 2 ^ 30
  pub named : space.directory ≡ directory
  pub below : directory < used
  pub unfiled : space.file ≡ []

-- In this space, which is cut into objects, the object of this PID has these words.
pub record HasObject (space : Space) (pid : ℕ) (words : List ℕ) : Type 0 where
  pub objects : List Placed
  pub cut : HoldsObjects space.words objects
  pub among : IsAmong (record { pid = pid; words = words }) objects

-- what an outside that is seen as a space holds: nothing where it tells of no content
pub record Holds (outside : Outside Space) (pid : ℕ) (words : List ℕ) : Type 0 where
  pub space : Space
  pub is : outside.contents space
  pub has : HasObject space pid words

-- words that begin with a header that gives their number
pub record IsHeaded (words : List ℕ) : Type 0 where
  pub header : Header
  pub fields : HasFitFields header
  pub lengths : HasFitLengths header
  pub spelled : take 4 words ≡ header_words header
  pub long : length words ≡ object_length header

-- what was tested and didn't hold: a number, and its bound or what it should be
pub record Damage : Type 0 where
  pub found : ℕ
  pub wanted : ℕ

abbrev pub damage : ℕ → ℕ → Option Damage
damage found wanted = Some (record { found = found; wanted = wanted })

-- of an unknown kind 9 was wanted, of spare bits 0, and of a length its bound
abbrev pub of_header : LayoutFault → Option Damage
of_header (UnknownKind found) = damage found 9
of_header (BadBits found) = damage found 0
of_header (BadLength found bound) = damage found bound

abbrev pub length_in : List ℕ → ℕ
length_in header = 4 + slice_index header 0 / 2 ^ 32 + slice_index header 2 % 2 ^ 32

-- the object that begins with this header ends at or below the used words, and is as long as is wanted
abbrev pub of_length : ℕ → ℕ → ℕ → Option ℕ → Option Damage
of_length pid used long None = if nat_lt used (pid + long) then damage (pid + long) used else None
of_length pid used long (Some wanted) =
    if nat_lt used (pid + long) then damage (pid + long) used else (if nat_eq long wanted then None else damage long wanted)

abbrev pub of_words : ℕ → ℕ → List ℕ → Option LayoutFault → Option ℕ → Option Damage
of_words pid used header (Some fault) wanted = of_header fault
of_words pid used header None wanted = of_length pid used (length_in header) wanted

-- The first test that the object of a PID fails: the PID is at least 1 and below the used words, four words stand there, they are a
-- header, the object ends at or below the used words, and it is as long as a caller wants, where one does.
abbrev pub damage_at : List ℕ → ℕ → Option ℕ → Option Damage
damage_at words pid wanted =
    let used = length words in
    let header = take 4 (drop pid words) in
    if nat_lt pid 1 then damage pid 1 else
    if nat_lt pid used then
    (if nat_lt used (pid + 4) then damage (pid + 4) used else of_words pid used header (header_fault header) wanted)
    else damage pid used

-- What stands at a PID, whatever stands elsewhere: the length that the header there gives, and so many words.
abbrev pub length_there : ℕ → Space → ℕ
length_there pid space = length_in (take 4 (drop pid space.words))

abbrev pub words_there : ℕ → ℕ → Space → List ℕ
words_there pid count space = take count (drop pid space.words)

-- the words of a space with these from a place on
abbrev pub with_words : List ℕ → ℕ → List ℕ → List ℕ
with_words words at put = take at words ++ (put ++ drop (at + length put) words)

abbrev pub appended : List ℕ → Space → Space
appended put space = record space { words = space.words ++ put }

abbrev pub overwritten : ℕ → List ℕ → Space → Space
overwritten pid put space = record space { words = with_words space.words pid put }

abbrev pub directed : ℕ → Space → Space
directed directory space = record space { directory = directory }
