-- Words on the stacks of a machine in code, and what they stand for under a row of names.
use Rattle.std.specs.Prelude.{◌≡◌, ℕ, zero, suc, ◌<◌, ◌≤◌, ℤ, List, [], ◌∷◌, length, reverse, drop, slice_index_or, Option, Some, None}
use Rattle.joint_ops.specs.ps_outside.Outside.{Outside}
use Rattle.joint_ops.specs.obj_layout.Stored.{Space}
use Rattle.joint_ops.specs.obj_layout.declared.reference.Reference.{Reference}
use Rattle.joint_ops.specs.swizzle.Heap as area
use Rattle.ps_stepping.specs.ps_heap.Values.{Value}
use Rattle.joint_ops.specs.World.{DenotesIn}

-- what a word on the stack of references names: 0 is none, and any other the object of the area that begins there
abbrev pub object_in : ℕ → Option ℕ
object_in zero = None
object_in (suc n) = Some (suc n)

abbrev pub word_of : Option ℕ → ℕ
word_of None = 0
word_of (Some at) = at

-- these words denote these values, one for one
abbrev pub AreDenoted : area.Heap → Outside Space → List Reference → List ℕ → List Value → Type 0
AreDenoted here outside names [] [] = Unit {0}
AreDenoted here outside names (word ∷ words) (v ∷ vs) = DenotesIn here outside names (object_in word) v × AreDenoted here outside names words vs
AreDenoted here outside names _ _ = ⊥

-- The numbers of a stack are so many locals, and above them what is pushed, its top at the end.
pub record IsRow (words : List ℤ) (size : ℕ) (pushed : List ℤ) (locals : ℕ → ℤ) : Type 0 where
  pub room : size ≤ length words
  pub pushed_are : pushed ≡ reverse (drop size words)
  pub locals_are : (slot : ℕ) (d : ℤ) → slot < size → locals slot ≡ slice_index_or words slot d

-- And those of the references: each word denotes a value.
pub record IsRefRow (here : area.Heap) (outside : Outside Space) (names : List Reference) (words : List ℕ) (size : ℕ) (pushed : List Value) (locals : ℕ → Value) : Type 0 where
  pub room : size ≤ length words
  pub pushed_are : AreDenoted here outside names (reverse (drop size words)) pushed
  pub locals_are : (slot d : ℕ) → slot < size → DenotesIn here outside names (object_in (slice_index_or words slot d)) (locals slot)
