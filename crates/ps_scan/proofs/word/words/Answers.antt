use Rattle.std.proofs.Common.{refl}
use Rattle.ps_scan.specs.Names.{reserved_words}
use Rattle.ps_scan.proofs.Named.{named_at, place_is}
use Rattle.ps_scan.proofs.word.words.Goals as goal

pub returns-clause-found : goal.returns-clause-found
returns-clause-found c = named_at reserved_words

pub returns-clause-only : goal.returns-clause-only
returns-clause-only c = λ name place at. place_is reserved_words name place refl at
