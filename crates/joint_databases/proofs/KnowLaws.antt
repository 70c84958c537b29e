-- The directory is known.
use Rattle.std.proofs.Common.{◌≡◌, ℕ, false, List, [], Option, None, Result, Ok, Err, MatchResult, subst}
use Rattle.joint_held.specs.joint_ops.ps_outside.Outside.{Outside}
use Rattle.joint_held.specs.joint_ops.obj_layout.Stored.{Space, IsSpace}
use Rattle.joint_held.specs.joint_ops.obj_layout.declared.reference.Reference.{Reference}
use Rattle.joint_held.specs.joint_ops.swizzle.declared.fault.SwizzleFault.{SwizzleFault}
use Rattle.joint_held.specs.joint_ops.swizzle.Heap.{Heap}
use Rattle.joint_held.specs.joint_ops.heap_meaning.Paired.{paired}
use Rattle.joint_held.specs.joint_ops.Seeing.{Gains}
use Rattle.joint_held.specs.joint_ops.World.{seen, Carries, BreaksOff}
use Rattle.joint_ops.proofs.SeenLaws.{keeps-carries}
use Rattle.joint_held.specs.joint_ops.ps_heap.Databases.{Directory}
use Rattle.joint_held.specs.joint_ops.ps_heap.Held.{Held}
use Rattle.joint_held.specs.db_dir.Directories.{IsDirectoryAt, IsDirectoryUnder}
use Rattle.joint_held.specs.Held.{HoldsRun}
use Rattle.joint_held.proofs.GainLaws.{holds}
use Rattle.joint_held.proofs.OpenLaws.{known-run}
use Rattle.joint_databases.specs.Calls.{Knows}

-- Where the area gained objects, what denoted a value denotes it still.
pub gains-carry : (old new : Heap) (before after : Outside Space) (names : List Reference) → Gains old new before after → Carries old new before after names names
gains-carry old new before after names g = keeps-carries old new before after names names g.keeps g.grows (λ n id p. p)

module _ (old new : Heap) (before after : Outside Space) (names : List Reference) (used pid : ℕ) (law : (space : Space) → before.contents space → IsSpace used pid space)
    (h : Held) (unasked : h.asked ≡ false) (run : HoldsRun old before names [] None h) where
  -- what the run has for its directory is the one of the vault
  under : IsDirectoryUnder (seen old before) (paired names) pid h.directory
  under =
      let told = run.current.told in
      subst (λ (at : ℕ). IsDirectoryUnder (seen old before) (paired names) at h.directory) (law told.content told.is).named ((run.unasked unasked).named told.content told.is)

  knows-by : (result : Result (Option ℕ) SwizzleFault)
      → MatchResult result (λ (at : Option ℕ). IsDirectoryAt new (seen new after) (paired names) at h.directory × Gains old new before after) (BreaksOff old new before after)
      → Knows old new before after names h result
  knows-by (Ok at) loaded = record {
    run = known-run new after names [] h None at loaded.0 (holds old new before after names [] None h loaded.1 run);
    carries = gains-carry old new before after names loaded.1;
  }
  knows-by (Err fault) broke = broke

  pub knows : (result : Result (Option ℕ) SwizzleFault)
      → ((databases : Directory) (row : List Reference) → IsDirectoryUnder (seen old before) (paired row) pid databases
      → MatchResult result (λ (at : Option ℕ). IsDirectoryAt new (seen new after) (paired row) at databases × Gains old new before after) (BreaksOff old new before after))
      → Knows old new before after names h result
  knows result loaded = knows-by result (loaded h.directory names under)
