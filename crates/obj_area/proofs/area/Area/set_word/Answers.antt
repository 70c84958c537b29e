use Rattle.std.proofs.Common.{arith}
use Rattle.obj_area.proofs.SeenLaws.{given_out-lies}
use Rattle.obj_area.proofs.area.Area.set_word.Goals as goal

pub set_word-requires : goal.set_word-requires
set_word-requires c = omega (arith, given_out-lies _ _ _ _ _ c.self.view_is c.requires)
