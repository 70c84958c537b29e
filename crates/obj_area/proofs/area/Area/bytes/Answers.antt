use Rattle.std.proofs.Common.{arith}
use Rattle.obj_area.proofs.SeenLaws.{given_out-lies}
use Rattle.obj_area.proofs.area.Area.bytes.Goals as goal

pub bytes_from-requires-clause-within : goal.bytes_from-requires-clause-within
bytes_from-requires-clause-within c =
    omega (arith, given_out-lies _ _ _ _ _ c.self.view_is c.requires)
