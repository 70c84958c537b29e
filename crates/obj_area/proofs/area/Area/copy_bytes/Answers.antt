use Rattle.std.proofs.Common.{arith}
use Rattle.obj_area.proofs.SeenLaws.{given_out-lies}
use Rattle.obj_area.proofs.area.Area.copy_bytes.Goals as goal

pub copy_bytes-requires-clause-from : goal.copy_bytes-requires-clause-from
copy_bytes-requires-clause-from c =
    omega (arith, given_out-lies _ _ _ _ _ c.self.view_is c.requires.from)

pub copy_bytes-requires-clause-to : goal.copy_bytes-requires-clause-to
copy_bytes-requires-clause-to c =
    omega (arith, given_out-lies _ _ _ _ _ c.self.view_is c.requires.to)
