-- One finite map of objects, whatever their residence: those of the area, and those of a vault that aren't
-- in the area. A name is a reference: the PID of an object, or the index of one that has none. Nil names none.
use Rattle.std.specs.Prelude.{◌≡◌, ◌⊎◌, ℕ, ◌==◌, if◌then◌else◌, List, map, None}
use Rattle.obj_layout.specs.declared.kind.Kind.{Kind}
use Rattle.obj_layout.specs.declared.header.Header.{Header}
use Rattle.obj_layout.specs.declared.reference.Reference.{Reference}
use Rattle.obj_layout.specs.declared.reference.Reference.TheVariants.{Nil, Pid, Local}
use Rattle.swizzle.specs.Objects.{Object, object_in}
use Rattle.swizzle.specs.Heap.{Heap, IsHeld, object_at, header_at, local_of}

-- what is seen of an object: its references are names
pub record Shown : Type 0 where
  pub kind : Kind
  pub refs : List Reference
  pub nums : List ℕ
  pub bytes : ℕ

abbrev pub shown : (Reference → Reference) → Object → Shown
shown names object = record { kind = object.header.kind; refs = map names object.refs; nums = object.nums; bytes = object.header.bytes }

-- the name of an object of the area that has this header
abbrev pub name_by : Header → ℕ → Reference
name_by header at = if header.pid == 0 then Local at else Pid header.pid

-- the name of an object of the area
abbrev pub name_at : Heap → ℕ → Reference
name_at heap at = name_by (header_at heap at) at

-- the name of the object that a reference denotes
abbrev pub name_of : Heap → Reference → Reference
name_of heap Nil = Nil
name_of heap (Pid pid) = Pid pid
name_of heap (Local at) = name_at heap at

-- what is seen of an object of the area
abbrev pub shown_at : Heap → ℕ → Shown
shown_at heap at = shown (name_of heap) (object_at heap at)

-- the name of the object that a reference of a vault's object denotes; it has none into the area
abbrev pub far_of : Reference → Reference
far_of Nil = Nil
far_of (Pid pid) = Pid pid
far_of (Local at) = Nil

-- what is seen of an object of a vault
abbrev pub shown_words : List ℕ → Shown
shown_words words = shown far_of (object_in words)

pub record InArea (heap : Heap) (name : Reference) (it : Shown) : Type 0 where
  pub at : ℕ
  pub held : IsHeld heap at
  pub name_is : name ≡ name_at heap at
  pub shown_is : it ≡ shown_at heap at

pub record InVault (heap : Heap) (holds : ℕ → List ℕ → Type 0) (name : Reference) (it : Shown) : Type 0 where
  pub pid : ℕ
  pub words : List ℕ
  pub name_is : name ≡ Pid pid
  pub there : holds pid words
  pub away : local_of heap pid ≡ None
  pub shown_is : it ≡ shown_words words

-- this name has this object
abbrev pub Joint : Heap → (ℕ → List ℕ → Type 0) → Reference → Shown → Type 0
Joint heap holds name it = InArea heap name it ⊎ InVault heap holds name it
