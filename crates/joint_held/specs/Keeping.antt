-- What keeps what a run holds: objects that were touched, and objects that were made.
use Rattle.std.specs.Prelude.{◌≡◌, ℕ, List, [], ◌∷◌, ◌++◌}
use Rattle.joint_ops.specs.ps_outside.Outside.{Outside, SameContents}
use Rattle.joint_ops.specs.obj_layout.Stored.{Space}
use Rattle.joint_ops.specs.obj_layout.declared.reference.Reference.{Reference}
use Rattle.joint_ops.specs.obj_layout.declared.reference.Reference.TheVariants.{Nil, Pid, Local}
use Rattle.joint_ops.specs.swizzle.Objects.{Object}
use Rattle.joint_ops.specs.swizzle.Heap.{Heap, IsHeld, IsInside, IsMade, header_at}
use Rattle.joint_ops.specs.swizzle.Joint.{name_at, name_of}
use Rattle.joint_ops.specs.swizzle.Changes.{IsKnown, Touched}
use Rattle.joint_ops.specs.swizzle.Touch.{Keeps, Only}
use Rattle.joint_ops.specs.swizzle.Reading.{joint}
use Rattle.joint_ops.specs.heap_meaning.Paired.{and_name}
use Rattle.joint_ops.specs.ps_heap.Objects.{Object as Meant}
use Rattle.joint_ops.specs.ps_heap.Held.{Held}
use Rattle.joint_ops.specs.Seeing.{seen}
use Rattle.joint_ops.specs.World.{IsWorld}
use Rattle.joint_ops.specs.Made.{IsFresh}
use Rattle.reach_commit.specs.commit_images.Stored.{IsWhole}

-- a reference that may be touched: to nothing, to an object of the area, or to one of which something is seen
abbrev pub MayBeTouched : Heap → Outside Space → Reference → Type 0
MayBeTouched heap outside Nil = Unit {0}
MayBeTouched heap outside (Local at) = IsHeld heap at
MayBeTouched heap outside (Pid pid) = IsKnown (seen heap outside) (Pid pid)

-- what a touch of a reference does to the area and to what is seen
pub record IsTouch (old new : Heap) (before after : Outside Space) (reference : Reference) : Type 0 where
  pub keeps : Keeps old new
  pub joint : Touched (joint old before) (joint new after) (name_of old reference)
  pub only : Only old new reference
  pub contents : SameContents before after

-- An object was made that isn't stored, refers to objects of the area, and has the counts of its kind.
pub record IsMaking (old new : Heap) (at : ℕ) (object : Object) : Type 0 where
  pub made : IsMade old new at object
  pub unstored : object.header.pid ≡ 0
  pub inside : IsInside old object
  pub whole : IsWhole new at

-- An object of the area that isn't stored gets the next id, and the heap one object more, with which area and vault stand for it.
pub record GetsId (here : Heap) (outside : Outside Space) (names : List Reference) (h : Held) (at : ℕ) (object : Meant) : Type 0 where
  pub held : IsHeld here at
  pub unstored : (header_at here at).pid ≡ 0
  pub fresh : IsFresh object
  pub world : IsWorld here outside (h.objects ++ object ∷ []) (and_name names (name_at here at))

-- A run that holds nothing yet, over a volume with word 0 alone.
pub record IsEmpty (h : Held) : Type 0 where
  pub objects : h.objects ≡ []
  pub homes : h.homes ≡ []
  pub directory : h.directory ≡ []
  pub openings : h.openings ≡ []
  pub created : h.created ≡ []
  pub assigned : h.assigned ≡ []

abbrev pub word_0 : Space
word_0 = record { words = 0 ∷ []; directory = 0; file = [] }
