-- A table that was made.
use Rattle.std.proofs.Common.{◌≡◌, ℕ, ◌*◌, [], ◌∷◌, get_or, replicate, zero, suc, Some, Result, Ok, Err, MatchResult, refl, arith, inr}
use Rattle.joint_ops.specs.ps_outside.Outside.{Outside}
use Rattle.joint_ops.specs.obj_layout.Objects as layout
use Rattle.joint_ops.specs.obj_layout.Stored.{Space}
use Rattle.joint_ops.specs.obj_layout.declared.kind.Kind.TheVariants as kind
use Rattle.joint_ops.specs.swizzle.declared.fault.SwizzleFault.{SwizzleFault}
use Rattle.joint_ops.specs.swizzle.Heap as area
use Rattle.joint_ops.specs.swizzle.Heap.{IsFull, IsHeap, IsInside, IsMade, blank}
use Rattle.joint_ops.specs.swizzle.Joint.{name_at}
use Rattle.joint_ops.specs.swizzle.Touch.{Keeps}
use Rattle.joint_ops.specs.heap_texts.declared.fault.OpFault.{OpFault}
use Rattle.joint_ops.specs.heap_texts.declared.fault.OpFault.TheVariants as op
use Rattle.joint_ops.specs.ps_heap.Values.{Pointer}
use Rattle.joint_ops.specs.ps_heap.Texts.{Yields}
use Rattle.joint_ops.specs.ps_heap.Tables.{without_keys}
use Rattle.joint_ops.specs.ps_heap.Objects.{Heap, Keyed}
use Rattle.joint_ops.specs.World.{IsWorld}
use Rattle.joint_ops.specs.Made.{BreaksAsMaking, Makes}
use Rattle.joint_ops.proofs.GrowthLaws.{full-breaks, made-keeps, same-keeps}
use Rattle.joint_ops.proofs.MadeLaws.{object-made}

-- a new table refers to nothing
blank-inside : (heap : area.Heap) → IsInside heap (blank kind.Table 1 3 0)
blank-inside heap zero to e = absurd (cc)
blank-inside heap (suc n) to e = absurd (cc)

-- a table was made, or there was no room for it
abbrev pub lifted : Result ℕ SwizzleFault → Result ℕ OpFault
lifted (Ok at) = Ok at
lifted (Err fault) = Err (op.Swizzle fault)

module _ (old new : area.Heap) where
  pub table-made : (outside : Outside Space) (of : Heap) (names : _) (result : Result ℕ SwizzleFault) → IsHeap old → IsHeap new → IsWorld old outside of names
      → MatchResult result (λ at. IsMade old new at (blank kind.Table 1 3 0)) (λ fault. IsFull old new 8 fault)
      → Makes old new outside of names Pointer (Yields (Keyed without_keys)) (lifted result)
  table-made outside of names (Ok at) h now w m =
      let made =
      object-made outside old new of names at (blank kind.Table 1 3 0) (Keyed without_keys) layout.table h now w (blank-inside old) refl
      (record { kind = refl; counted = refl; allowed = tt }) m refl (refl, 0, refl) refl in (
        Keyed without_keys,
        refl,
        record {
          held = made.held;
          unstored = made.unstored;
          fresh = tt;
          world = made.world;
          carries = made.carries;
          gains = made.gains;
          top = made.top;
          denotes = record { name = name_at new at; denotes = (made.held, refl); stands = (made.pair, inr made.kinds) };
        },
      )
  table-made outside of names (Err fault) h now w full = (
    Keyed without_keys,
    refl,
    record { wanted = 8; fault_is = full.fault_is; full = full.full; words = Rattle.std.proofs.Common.inl refl; stays = full.stays },
  )

  pub table-breaks : (result : Result ℕ SwizzleFault) → MatchResult result (λ at. IsMade old new at (blank kind.Table 1 3 0))
      (λ fault. IsFull old new 8 fault) → BreaksAsMaking old new (lifted result)
  table-breaks (Ok at) m = tt
  table-breaks (Err fault) full = full-breaks old new 8 fault full

  pub table-keeps : (result : Result ℕ SwizzleFault) → IsHeap old → MatchResult result (λ at. IsMade old new at (blank kind.Table 1 3 0))
      (λ fault. IsFull old new 8 fault) → Keeps old new
  table-keeps (Ok at) h m = made-keeps old new at (blank kind.Table 1 3 0) h m
  table-keeps (Err fault) h full = same-keeps old new full.stays
