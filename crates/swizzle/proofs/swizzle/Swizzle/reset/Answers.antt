use Rattle.std.proofs.Common.{◌≡◌, ◌∙◌, ◌+◌, ◌-◌, ap, arith, length, refl, vec_capacity}
use Rattle.obj_area.specs.Area.{fresh_area}
use Rattle.swizzle.specs.Heap.{Heap, fresh_heap}
use Rattle.swizzle.specs.Kept.{Beside, Noted}
use Rattle.swizzle.proofs.KeptLaws.{Again, fresh_again, none-noted}
use Rattle.swizzle.proofs.swizzle.Swizzle.reset.Goals as goal

beside : goal.After-clear-3 → Beside
beside c = record {
  places = vec_capacity c.clear.new.self;
  stops = vec_capacity c.clear-2.new.self;
  heads = c.clear-3.new.self.heads.items;
  greatest = 0;
  room = vec_capacity c.self.inside.buffer;
}

noted : goal.After-clear-3 → Noted
noted c = record { assigned = c.clear.new.self.items; reached = c.clear-2.new.self.items }

made : (c : goal.After-clear-3) → Again c.reset.new.self.words c.reset.new.self.size (noted c) (beside c) (fresh_heap (c.self.inside.area.size - 1 + 1))
unfolding beside noted
made c =
    let k = c.self.invariant in
    let size : c.self.inside.area.size ≡ c.self.inside.area.size - 1 + 1 = omega (arith, k.heap.within) in
    fresh_again (c.self.inside.area.size - 1) c.reset.new.self (noted c) (beside c) (length c.self.inside.map.heads.items)
    (c.reset.ensures ∙ ap fresh_area size) (none-noted c.clear.ensures.items c.clear-2.ensures.items) k.pids.some c.clear-3.ensures refl (omega (arith, k.heap.small))
    (omega (arith, k.for_assigned, c.clear.ensures.capacity)) (omega (arith, k.for_reached, c.clear-2.ensures.capacity)) (omega (arith, k.pids.for_fetch))

pub invariant_of-self : goal.invariant_of-self
unfolding beside noted
invariant_of-self c = (made c).kept

pub returns : goal.returns
unfolding noted
returns c =
    let size : c.self.inside.area.size - 1 + 1 ≡ c.self.inside.area.size = omega (arith, c.self.invariant.heap.within) in
    (made c).seen ∙ ap fresh_heap (size ∙ ap (λ (h : Heap). h.size) c.self.view_is)
