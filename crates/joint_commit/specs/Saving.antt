-- What a commit that saves leaves: what the run holds then, and what stands on the vault.
use Rattle.std.specs.Prelude.{◌≡◌, ◌⊎◌, ℕ, ◌≤◌, List, map, Option, None}
use Rattle.joint_held.specs.joint_ops.ps_outside.Outside.{Outside}
use Rattle.joint_held.specs.joint_ops.obj_layout.Stored.{Space, without_file}
use Rattle.joint_held.specs.joint_ops.obj_layout.Storing.{unfiled}
use Rattle.joint_held.specs.joint_ops.obj_layout.declared.reference.Reference.{Reference}
use Rattle.joint_held.specs.joint_ops.swizzle.Heap as area
use Rattle.joint_held.specs.joint_ops.heap_meaning.ps_base.CodeUnit.{UnitView}
use Rattle.joint_held.specs.joint_ops.World.{DenotesIn, DenotesScopeIn, IsUnitIn}
use Rattle.joint_held.specs.joint_ops.ps_heap.Values.{Value}
use Rattle.joint_held.specs.joint_ops.ps_heap.Held.{Held, StoredHeap}
use Rattle.joint_held.specs.joint_ops.ps_heap.Commit.{Saves, saved, after_decision}
use Rattle.joint_held.specs.reach_commit.commit_walk.declared.homes.Source.{Source}
use Rattle.joint_held.specs.Held.{HoldsRun}
use Rattle.space_meaning.specs.ps_code_laws.Compiled.{compiled_stored}
use Rattle.space_meaning.specs.heap_fit.Heaps.{IsFitHeap}
use Rattle.space_meaning.specs.Keeping.{HaveUnits}
use Rattle.space_meaning.specs.Stands.{SpaceStands}

-- the databases that are open for writing, none of which was made since
abbrev pub none_made : List Source → List Source
none_made writing = map (λ source. record { number = source.number; root = None }) writing

-- A heap of which this is the one with its procedures compiled: it is fit, and its procedures have units.
pub record IsCompiledTo (h heap : StoredHeap) : Type 0 where
  pub made : h ≡ compiled_stored heap
  pub fit : IsFitHeap heap
  pub units : HaveUnits heap.objects

-- A space stands for a heap as a run holds it, its procedures compiled: for each fit heap of which it is the compiled one.
abbrev pub StandsFor : Space → StoredHeap → Type 0
StandsFor space h = (heap : StoredHeap) → IsCompiledTo h heap → SpaceStands space heap

-- what the vault holds stands for a heap
abbrev pub ContentsStand : Outside Space → StoredHeap → Type 0
ContentsStand outside h = (space : Space) → outside.contents space → StandsFor (without_file space) h

-- by its words and its directory an image is one that a crash left when the way began
abbrev pub WasLeft : Outside Space → Space → Type 0
WasLeft before image = (unfiled before).images before.clock (without_file image)

-- What a crash leaves at a moment of the way is what it left at its start, or stands for this heap, whole.
abbrev pub LeavesEither : Outside Space → Outside Space → StoredHeap → Type 0
LeavesEither before after h = (m : ℕ) (image : Space) → before.clock ≤ m → m ≤ after.clock → after.images m image
    → WasLeft before image ⊎ StandsFor (without_file image) h

-- The vault stands for the heap, at each moment of the way what a crash leaves is what it left before or stands for this heap, and at the last moment it stands
-- for it.
pub record LeavesHeap (before after : Outside Space) (h : StoredHeap) : Type 0 where
  pub contents : ContentsStand after h
  pub moments : LeavesEither before after h
  pub last : (image : Space) → after.images after.clock image → StandsFor (without_file image) h

-- Area and vault hold the run after a commit that saved, under other names; what an index denotes it denotes still; and the vault stands for the heap that was
-- saved.
pub record SavesRun (old new : area.Heap) (before after : Outside Space) (names : List Reference) (writing : List Source) (directory : Option ℕ) (d : Held) : Type 0 where
  pub more : List Reference
  pub holds : HoldsRun new after more (none_made writing) directory (after_decision (Saves (saved d)) d)
  pub values : (at : Option ℕ) (v : Value) → DenotesIn old before names at v → DenotesIn new after more at v
  pub scopes : (at scope : Option ℕ) → DenotesScopeIn old before names at scope → DenotesScopeIn new after more at scope
  pub units : (code : ℕ) (u : UnitView) → IsUnitIn old before code u → IsUnitIn new after code u
  pub leaves : LeavesHeap before after (saved d)
