-- What holds of an operation that gave nothing.
use Rattle.std.specs.Prelude.{◌≡◌, Result, Ok, Err}
use Rattle.std.proofs.Common.{◌∙◌}
use Rattle.joint_ops.specs.swizzle.Heap.{Heap}
use Rattle.joint_ops.specs.swizzle.Touch.{Keeps}
use Rattle.joint_ops.specs.heap_texts.declared.fault.OpFault.{OpFault}
use Rattle.joint_ops.specs.heap_texts.declared.fault.OpFault.TheVariants as op
use Rattle.joint_ops.specs.heap_ops.Outcomes.{UnlessFault}
use Rattle.objects.specs.Lasting.{Lasts, UnlessBroken}
use Rattle.objects.proofs.LastingLaws.{keeps-lasts}

pub unless-broken : (T : Type 0) (so : Type 0) (fault : OpFault) → UnlessFault {T = T} (Err fault) so → UnlessBroken fault so
unless-broken T so (op.Trap t) is = is
unless-broken T so (op.Swizzle fault) is = tt

pub keeps-broken : (T : Type 0) (old new : Heap) (fault : OpFault) → UnlessFault {T = T} (Err fault) (Keeps old new) → UnlessBroken fault (Lasts old new)
keeps-broken T old new (op.Trap t) keeps = keeps-lasts old new keeps
keeps-broken T old new (op.Swizzle fault) keeps = tt

pub lasts-broken : (old new : Heap) (fault : OpFault) → Lasts old new → UnlessBroken fault (Lasts old new)
lasts-broken old new (op.Trap t) lasts = lasts
lasts-broken old new (op.Swizzle fault) lasts = tt

-- the size of the area, of what was done after a reading
pub size-later : {T : Type 0} (old mid new : Heap) (result : Result T OpFault) → Keeps old mid → UnlessFault result (Lasts mid new)
    → UnlessFault result (new.size ≡ old.size)
size-later old mid new (Ok given) keeps lasts = lasts.size ∙ keeps.size
size-later old mid new (Err (op.Trap t)) keeps lasts = lasts.size ∙ keeps.size
size-later old mid new (Err (op.Swizzle fault)) keeps lasts = tt

pub size-same : {T : Type 0} (old new : Heap) (result : Result T OpFault) → UnlessFault result (Lasts old new) → UnlessFault result (new.size ≡ old.size)
size-same old new (Ok given) lasts = lasts.size
size-same old new (Err (op.Trap t)) lasts = lasts.size
size-same old new (Err (op.Swizzle fault)) lasts = tt
