use Rattle.std.proofs.Common.{arith}
use Rattle.obj_area.proofs.SeenLaws.{given_out-lies}
use Rattle.obj_area.proofs.area.Area.word.Goals as goal

pub word-requires : goal.word-requires
word-requires c = omega (arith, given_out-lies _ _ _ _ _ c.self.view_is c.requires)
