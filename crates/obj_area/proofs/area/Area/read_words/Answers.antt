use Rattle.std.proofs.Common.{arith}
use Rattle.obj_area.proofs.SeenLaws.{given_out-lies}
use Rattle.obj_area.proofs.area.Area.read_words.Goals as goal

pub read-requires : goal.read-requires
read-requires c = omega (arith, given_out-lies _ _ _ _ _ c.self.view_is c.requires)
