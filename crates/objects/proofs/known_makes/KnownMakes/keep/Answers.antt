use Rattle.objects.proofs.MakeEntries.{put-so}
use Rattle.objects.proofs.known_makes.KnownMakes.keep.Goals as goal

pub returns-then-index-len : goal.returns-then-index-len
returns-then-index-len c = λ here so is. put-so here c.args.self.now.entries.items c.index_of-index.result c.args.known so is
