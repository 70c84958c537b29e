-- A worked image, and images that stand for no heap.
use Rattle.std.proofs.Common.{◌≡◌, ℕ, List, ◌++◌, ◌^◌, refl, arith, Some}
use Rattle.heap_meaning.specs.obj_area.Words.{bytes_of}
use Rattle.ps_volumes.specs.paged_volume.Standing.{held_in}
use Rattle.heap_fit.specs.database_meaning.Same.{IsSame}
use Rattle.heap_fit.specs.ps_heap.Held.{StoredHeap}
use Rattle.space_meaning.proofs.Cutting.{each-below}
use Rattle.space_meaning.proofs.SameHeaps as spaces
use Rattle.space_meaning.proofs.Worked.{space, heap, worked_out}
use Rattle.volume_meaning.specs.Space.{holding}
use Rattle.volume_meaning.specs.Stands.{Stands}
use Rattle.volume_meaning.proofs.Spelled.{space-held}

-- Each image in which the worked words' spelling is held at the start stands for their heap.
in_images : (image behind : List ℕ) (commits : ℕ)
    → held_in image ≡ Some (holding (record { commits = commits; used = 69; directory = 1 }) (bytes_of (space 1 1).words ++ behind)) → Stands image heap
unfolding space
in_images image behind commits held = record {
  space = space 1 1;
  found = space-held image (record { commits = commits; used = 69; directory = 1 }) (space 1 1).words behind
      (each-below (2 ^ 64) (space 1 1).words (omega arith) refl) refl held;
  stands = worked_out;
}

-- An image that stands for a heap stands for each that is the same but for ids.
pub stands-same : (bytes : List ℕ) (a b : StoredHeap) → IsSame a b → Stands bytes a → Stands bytes b
stands-same bytes a b s stands = record { space = stands.space; found = stands.found; stands = spaces.stands-same stands.space a b s stands.stands }
