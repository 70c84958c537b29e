-- A directory of the area: how many references it has, and that it stays one where objects stay.
use Rattle.std.proofs.Common.{arith, ◌≡◌, ℕ, ◌^◌, ◌<◌, Option, Some, None, ap, ◌∙◌, subst}
use Rattle.std.specs.Prelude.{IfSome}
use Rattle.joint_ops.specs.swizzle.Heap.{Heap, IsHeap, IsHeld, Stands, header_at, object_at}
use Rattle.joint_ops.specs.swizzle.Joint.{Shown}
use Rattle.joint_ops.specs.swizzle.Touch.{Keeps}
use Rattle.joint_ops.proofs.of_swizzle.KeptLaws.{held_is}
use Rattle.joint_ops.proofs.of_swizzle.ObjectLaws.{split}
use Rattle.db_dir.specs.Directories.{IsShaped}

-- an object has fewer references than a word of 32 bits counts
pub refs-few : (heap : Heap) (at : ℕ) → IsHeap heap → IsHeld heap at → (header_at heap at).refs < 2 ^ 31
refs-few heap at h held = omega (arith, (split 1 heap.objects at (object_at heap at) h.fit (held_is heap at held)).fit.lengths.words)

-- A directory is one still where objects of the area stay.

pub shaped-kept : (old new : Heap) (at : ℕ) → Keeps old new → IsShaped old at → IsShaped new at
shaped-kept old new at keeps s =
    let stays = keeps.objects at s.held in
    record {
      held = stays.held;
      kind_is = ap (λ (it : Shown). it.kind) stays.shown_as ∙ s.kind_is;
      home = stays.nums ∙ s.home;
      count = s.count;
      places = record { is = stays.refs ∙ s.places.is; some = s.places.some; few = s.places.few };
    }

pub shaped-still : (old new : Heap) (directory : Option ℕ) → Keeps old new → IfSome directory (IsShaped old) → IfSome directory (IsShaped new)
shaped-still old new None keeps s = s
shaped-still old new (Some at) keeps s = shaped-kept old new at keeps s

-- or stand where they stood
pub shaped-stands : (old new : Heap) (at : ℕ) → Stands old new → IsShaped old at → IsShaped new at
shaped-stands old new at stands s =
    let stand = stands at s.held in
    record {
      held = stand.held;
      kind_is = stand.kind ∙ s.kind_is;
      home = stand.nums ∙ s.home;
      count = s.count;
      places = record { is = stand.refs ∙ s.places.is; some = s.places.some; few = s.places.few };
    }

-- Where a directory lies, if there is one.

pub some-held : (heap : Heap) (directory : Option ℕ) → IfSome directory (IsHeld heap) → (at : ℕ) → directory ≡ Some at → IsHeld heap at
some-held heap None s at e = absurd (cc)
some-held heap (Some d) s at e = let same : d ≡ at = cc in subst (IsHeld heap) same s

pub shaped-held : (heap : Heap) (directory : Option ℕ) → IfSome directory (IsShaped heap) → (at : ℕ) → directory ≡ Some at → IsHeld heap at
shaped-held heap None s at e = absurd (cc)
shaped-held heap (Some d) s at e = let same : d ≡ at = cc in subst (IsHeld heap) same s.held
