use Rattle.std.proofs.Common.{refl}
use Rattle.ps_scan.specs.Names.{marks}
use Rattle.ps_scan.proofs.Named.{named_at, place_is}
use Rattle.ps_scan.proofs.mark.marks.Goals as goal

pub returns-clause-found : goal.returns-clause-found
returns-clause-found c = named_at marks

pub returns-clause-only : goal.returns-clause-only
returns-clause-only c = λ name place at. place_is marks name place refl at
