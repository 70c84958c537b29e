-- What becomes of an area whose bytes were lent to be written.
use Rattle.std.specs.Prelude.{ℕ, List}
use Rattle.std.specs.Borrow.{Lends, MutBor, Fml, Array, u8}
use Rattle.obj_area.specs.Area.{AreaView, with_bytes}
use Rattle.obj_area.specs.contracts.area.Area.{the_row}

-- the area ends with the last bytes after r written over its own from that word on
abbrev pub LendsBytes : MutBor AreaView → ℕ → MutBor (List ℕ) → Fml
LendsBytes area at r = Lends the_row (Array u8 0) area r (with_bytes area.now at)
