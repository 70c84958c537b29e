use Rattle.std.proofs.Common.{arith}
use Rattle.obj_area.proofs.SeenLaws.{length-seen}
use Rattle.obj_area.proofs.area.Area.size.Goals as goal

pub returns-clause-within : goal.returns-clause-within
returns-clause-within c = omega (arith, length-seen _ _ _ c.self.view_is)
