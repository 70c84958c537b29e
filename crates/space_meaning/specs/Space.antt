-- What is seen in a space under each name.
use Rattle.std.specs.Prelude.{◌≡◌, ◌⊎◌, ℕ, ◌^◌, ◌<◌, List, [], take, drop}
use Rattle.std.specs.List.{AllByRecursion}
use Rattle.heap_meaning.specs.obj_layout.declared.reference.Reference.{Reference}
use Rattle.heap_meaning.specs.obj_layout.declared.reference.Reference.TheVariants.{Pid}
use Rattle.heap_meaning.specs.obj_layout.Stored.{Space, HasObject}
use Rattle.heap_meaning.specs.swizzle.Objects.{header_in}
use Rattle.heap_meaning.specs.swizzle.Joint.{Shown, shown_words}

-- a space of these words
abbrev pub spaced : List ℕ → ℕ → Space
spaced words directory = record { words = words; directory = directory; file = [] }

-- a reference on a volume is nil or a PID, whose top bit is set
abbrev pub IsStoredReference : ℕ → Type 0
IsStoredReference word = (word ≡ 0) ⊎ (2 ^ 63 < word)

-- On a volume an object has no flags, no PID in its header and no chain, and none of its references is an index.
pub record IsStored (words : List ℕ) : Type 0 where
  pub flags : (header_in words).flags ≡ 0
  pub pid : (header_in words).pid ≡ 0
  pub chain : (header_in words).chain ≡ 0
  pub refs : AllByRecursion IsStoredReference (take (header_in words).refs (drop 4 words))

-- what is seen in a space under a name: the object of that PID
pub record SeenIn (space : Space) (n : Reference) (it : Shown) : Type 0 where
  pub pid : ℕ
  pub words : List ℕ
  pub name_is : n ≡ Pid pid
  pub there : HasObject space pid words
  pub stored : IsStored words
  pub shown_is : it ≡ shown_words words
