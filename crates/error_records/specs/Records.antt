-- An error record that a call answers: what the run holds then, or for which of its objects there was no room.
use Rattle.std.specs.Prelude.{◌≡◌, ℕ, ◌+◌, ◌*◌, ◌<◌, List, Option, Some, Result, Ok, Err}
use Rattle.joint_held.specs.joint_ops.ps_heap.ps_typing.Library.{error_class}
use Rattle.joint_held.specs.joint_ops.ps_outside.Outside.{Outside}
use Rattle.joint_held.specs.joint_ops.obj_layout.Stored.{Space}
use Rattle.joint_held.specs.joint_ops.obj_layout.declared.kind.Kind.TheVariants.{Structure}
use Rattle.joint_held.specs.joint_ops.obj_layout.declared.reference.Reference.{Reference}
use Rattle.joint_held.specs.joint_ops.swizzle.declared.fault.SwizzleFault.{SwizzleFault}
use Rattle.joint_held.specs.joint_ops.swizzle.declared.fault.SwizzleFault.TheVariants.{AreaFull}
use Rattle.joint_held.specs.joint_ops.swizzle.Heap.{Heap, IsHeld, header_at, top_of}
use Rattle.joint_held.specs.joint_ops.swizzle.Joint.{name_at}
use Rattle.joint_held.specs.joint_ops.heap_meaning.Paired.{and_name}
use Rattle.joint_held.specs.joint_ops.World.{Carries, DenotesIn}
use Rattle.joint_held.specs.joint_ops.ps_heap.Databases.{Fault, fault_text, explain_text}
use Rattle.joint_held.specs.joint_ops.ps_heap.Held.{Held}
use Rattle.joint_held.specs.joint_ops.ps_heap.Calls.{error_record, refused}
use Rattle.joint_held.specs.joint_ops.ps_heap.Weights.{own_weight, text_weight, whole_weight}
use Rattle.joint_held.specs.reach_commit.commit_walk.declared.homes.Source.{Source}
use Rattle.joint_held.specs.Held.{HoldsRun}

-- The objects that an error record is made of, in their order: so many bytes come before this one, and it has so many.
pub data IsPart (context : List ℕ) (fault : Fault) : ℕ → ℕ → Type 0 where
  its_class : IsPart context fault 0 (text_weight error_class)
  its_context : IsPart context fault (text_weight error_class) (text_weight context)
  its_fault : IsPart context fault (text_weight error_class + text_weight context) (text_weight (fault_text fault))
  its_explain : IsPart context fault (text_weight error_class + text_weight context + text_weight (fault_text fault)) (text_weight (explain_text fault))
  itself : IsPart context fault
      (text_weight error_class + text_weight context + text_weight (fault_text fault) + text_weight (explain_text fault))
      (own_weight (error_record context fault))

-- There was no room for the words of one of them, from the area's top on; those before it were made.
pub record LacksRoom (old new : Heap) (context : List ℕ) (fault : Fault) (why : SwizzleFault) : Type 0 where
  pub before : ℕ
  pub weight : ℕ
  pub part : IsPart context fault before weight
  pub wanted : ℕ
  pub words : 8 * wanted ≡ weight
  pub top : 8 * top_of new ≡ 8 * top_of old + before
  pub size : new.size ≡ old.size
  pub fault_is : why ≡ AreaFull (top_of new) wanted old.size
  pub full : old.size < top_of new + wanted

-- The record is a structure that isn't stored, and no object that the area had.
pub record IsNewRecord (old new : Heap) (at : ℕ) : Type 0 where
  pub kind : (header_at new at).kind ≡ Structure
  pub unstored : (header_at new at).pid ≡ 0
  pub fresh : IsHeld old at → ⊥

module _ (old new : Heap) (outside : Outside Space) (names : List Reference) (writing : List Source) (directory : Option ℕ) (h : Held) where
  -- The record is the run's next object, and has its name at the end of the row. What denoted a value, a scope or a unit does so still.
  pub record IsRefused (context : List ℕ) (fault : Fault) (at : ℕ) : Type 0 where
    pub run : HoldsRun new outside (and_name names (name_at new at)) writing directory (refused context fault h).held
    pub carries : Carries old new outside outside names (and_name names (name_at new at))
    pub denotes : DenotesIn new outside (and_name names (name_at new at)) (Some at) (refused context fault h).value
    pub top : 8 * top_of new ≡ 8 * top_of old + whole_weight h.weigh (error_record context fault)

  abbrev pub Refuses : List ℕ → Fault → Result ℕ SwizzleFault → Type 0
  Refuses context fault (Ok at) = IsRefused context fault at
  Refuses context fault (Err why) = LacksRoom old new context fault why
