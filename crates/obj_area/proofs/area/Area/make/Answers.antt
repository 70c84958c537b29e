use Rattle.std.proofs.Common.{arith, ap}
use Rattle.obj_area.specs.Area.{AreaView}
use Rattle.obj_area.proofs.SeenLaws.{length-seen, seen-zeros}
use Rattle.obj_area.proofs.area.Area.make.Goals as goal

pub unreachable-requires : goal.unreachable-requires
unreachable-requires c =
    omega (arith, length-seen _ _ _ c.self.view_is, ap (λ (a : AreaView). a.size) c.self.view_is, c.in-Err.ensures.full, c.self.inside.bytes.ok.0)

pub invariant_of-self : goal.invariant_of-self
invariant_of-self c =
    let count = length-seen _ _ _ c.self.view_is in
    let size = ap (λ (a : AreaView). a.size) c.self.view_is in
    let len = c.in-Ok.ensures.len in
    let capacity = c.in-Ok.ensures.capacity in
    let was = c.self.inside.bytes.ok.0 in
    let now = c.resize.new.self.ok.0 in
    (omega arith, omega arith, omega arith, omega arith)

pub returns-clause-made : goal.returns-clause-made
returns-clause-made c =
    seen-zeros _ _ _ _ _ _ _ c.self.view_is (omega arith) c.self.inside.bytes.ok.0 (omega arith) c.in-Ok.ensures.items
