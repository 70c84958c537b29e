-- What each kind of object holds, and the objects of a space: they follow one another and fill it.
use Rattle.std.specs.Prelude.{◌≡◌, ℕ, ◌+◌, ◌-◌, ◌*◌, ◌/◌, ◌≤◌, ◌⊎◌, List, [], ◌∷◌, ◌++◌, length, take, drop}
use Rattle.ps_base.specs.Limits.{most_databases, most_elements}
use Rattle.obj_layout.specs.declared.kind.Kind.{Kind}
use Rattle.obj_layout.specs.declared.kind.Kind.TheVariants.{Text, Structure, Vector, Scope, Closure, Code, Table, Node, Directory}
use Rattle.obj_layout.specs.declared.header.Header.{Header}
use Rattle.obj_layout.specs.Header.{HasFitLengths, HasFitFields, header_words, object_length}

-- what an object holds beside what each object of its kind holds
pub data Contents : Type 0 where
  text : (bytes : ℕ) → Contents
  structure : (references numbers : ℕ) → Contents
  vector_of_references : (elements : ℕ) → Contents
  vector_of_numbers : (elements : ℕ) → Contents
  scope : (references numbers : ℕ) → Contents
  closure : Contents
  code : (constants bytes : ℕ) → Contents
  table : Contents
  node : Contents
  directory : (databases : ℕ) → Contents

abbrev pub kind_of : Contents → Kind
kind_of (text bytes) = Text
kind_of (structure references numbers) = Structure
kind_of (vector_of_references elements) = Vector
kind_of (vector_of_numbers elements) = Vector
kind_of (scope references numbers) = Scope
kind_of closure = Closure
kind_of (code constants bytes) = Code
kind_of table = Table
kind_of node = Node
kind_of (directory databases) = Directory

-- how many references, number words and bytes an object has
pub record Counts : Type 0 where
  pub refs : ℕ
  pub nums : ℕ
  pub bytes : ℕ

abbrev pub counts : ℕ → ℕ → ℕ → Counts
counts refs nums bytes = record { refs = refs; nums = nums; bytes = bytes }

-- how many words hold so many bytes
abbrev pub words_for : ℕ → ℕ
words_for bytes = (bytes + 7) / 8

-- number word 0 of each object is its home; then come:
abbrev pub counts_of : Contents → Counts
-- no reference; the bytes
counts_of (text bytes) = counts 0 (1 + words_for bytes) bytes
-- the class text and the reference fields; the number fields
counts_of (structure references numbers) = counts (1 + references) (1 + numbers) 0
-- the type text and the elements; the lower bound
counts_of (vector_of_references elements) = counts (1 + elements) 2 0
-- the type text; the lower bound and the elements
counts_of (vector_of_numbers elements) = counts 1 (2 + elements) 0
-- the scope text, the parent and the names of references; the names of numbers
counts_of (scope references numbers) = counts (2 + references) (1 + numbers) 0
-- the code and the scope
counts_of closure = counts 2 1 0
-- the constants; the frame and the instructions
counts_of (code constants bytes) = counts constants (2 + words_for bytes) bytes
-- the root node; the key kind and the cardinality
counts_of table = counts 1 3 0
-- left, right, key text and value; the int key and the height
counts_of node = counts 4 3 0
-- name, password and root of each database
counts_of (directory databases) = counts (3 * databases) 1 0

-- a vector has an element, and code its type text
abbrev pub IsAllowed : Contents → Type 0
IsAllowed (vector_of_references elements) = (1 ≤ elements) × (elements ≤ most_elements)
IsAllowed (vector_of_numbers elements) = (1 ≤ elements) × (elements ≤ most_elements)
IsAllowed (code constants bytes) = 1 ≤ constants
IsAllowed (directory databases) = (1 ≤ databases) × (databases ≤ most_databases)
IsAllowed _ = Unit {0}

-- the counts of a header are those of some contents of its kind
pub record HasContents (header : Header) (contents : Contents) : Type 0 where
  pub kind : header.kind ≡ kind_of contents
  pub counted : counts header.refs header.nums header.bytes ≡ counts_of contents
  pub allowed : IsAllowed contents

-- these words are one object: its header, and as many words as that says
pub record IsObject (words : List ℕ) : Type 0 where
  pub header : Header
  pub contents : Contents
  pub fields : HasFitFields header
  pub lengths : HasFitLengths header
  pub spelled : header_words header ≡ take 4 words
  pub long : length words ≡ object_length header
  pub holds : HasContents header contents

-- an object in a space: the index of its first word, and its words
pub record Placed : Type 0 where
  pub pid : ℕ
  pub words : List ℕ

-- words from an index on are these objects, one after the other
abbrev pub Cuts : ℕ → List ℕ → List Placed → Type 0
Cuts at words [] = words ≡ []
Cuts at words (object ∷ others) =
    (object.pid ≡ at) × IsObject object.words × ((rest : List ℕ) × (words ≡ object.words ++ rest) × Cuts (at + length object.words) rest others)

-- the used words of a space are word 0 and these objects
abbrev pub HoldsObjects : List ℕ → List Placed → Type 0
HoldsObjects used objects = (1 ≤ length used) × Cuts 1 (drop 1 used) objects

-- this is one of the objects
abbrev pub IsAmong : Placed → List Placed → Type 0
IsAmong object [] = ⊥
IsAmong object (other ∷ others) = (object ≡ other) ⊎ IsAmong object others

-- an object lies at its PID in words from an index on
pub record Lies (at : ℕ) (words : List ℕ) (object : Placed) : Type 0 where
  pub from : at ≤ object.pid
  pub within : object.pid + length object.words ≤ at + length words
  pub there : take (length object.words) (drop (object.pid - at) words) ≡ object.words
