use Rattle.std.proofs.Common.{arith}
use Rattle.obj_area.proofs.SeenLaws.{given_out-lies}
use Rattle.obj_area.proofs.area.Area.write_bytes.Goals as goal

pub write_bytes-requires-clause-within : goal.write_bytes-requires-clause-within
write_bytes-requires-clause-within c =
    omega (arith, given_out-lies _ _ _ _ _ c.self.view_is c.requires)
