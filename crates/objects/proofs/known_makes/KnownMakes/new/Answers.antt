use Rattle.std.proofs.Common.{refl}
use Rattle.objects.proofs.MakeEntries.{fresh-so}
use Rattle.objects.proofs.known_makes.KnownMakes.new.Goals as goal

pub returns : goal.returns
returns c = λ here. fresh-so here c.resize.new.self.items c.in_ok-entries.entries.items _ _ c.in_ok-entries.ensures.items refl c.in_ok-resize.ensures.items
