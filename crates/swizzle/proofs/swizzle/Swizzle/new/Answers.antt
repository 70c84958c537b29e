use Rattle.std.proofs.Common.{◌+◌, arith, refl, vec_capacity}
use Rattle.swizzle.specs.Heap.{fresh_heap}
use Rattle.swizzle.specs.Kept.{Beside, Noted}
use Rattle.swizzle.proofs.KeptLaws.{Again, fresh_again, none-noted}
use Rattle.swizzle.proofs.swizzle.Swizzle.new.Goals as goal

beside : goal.In_ok-buffer → Beside
beside c = record {
  places = vec_capacity c.in_ok-assigned.assigned;
  stops = vec_capacity c.in_ok-reached.reached;
  heads = c.in_ok-map.map.heads.items;
  greatest = 0;
  room = vec_capacity c.in_ok-buffer.buffer;
}

noted : goal.In_ok-buffer → Noted
noted c = record { assigned = c.in_ok-assigned.assigned.items; reached = c.in_ok-reached.reached.items }

made : (c : goal.In_ok-buffer) → Again c.in_ok-area.area.words c.in_ok-area.area.size (noted c) (beside c) (fresh_heap (c.args.words + 1))
unfolding beside noted
made c =
    fresh_again c.args.words c.in_ok-area.area (noted c) (beside c) c.min.result
    c.in_ok-area.ensures (none-noted c.in_ok-assigned.ensures.items c.in_ok-reached.ensures.items) (omega (arith, c.requires.low, c.min.ensures)) c.in_ok-map.ensures refl c.requires.high
    (omega (arith, c.in_ok-assigned.ensures.capacity)) (omega (arith, c.in_ok-reached.ensures.capacity)) (omega (arith, c.in_ok-buffer.ensures.capacity))

pub invariant_of-result : goal.invariant_of-result
unfolding beside noted
invariant_of-result c = (made c).kept

pub returns : goal.returns
unfolding noted
returns c = (made c).seen
