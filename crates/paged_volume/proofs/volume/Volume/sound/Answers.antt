use Rattle.paged_volume.proofs.Tables.{committed_staged}
use Rattle.paged_volume.proofs.volume.Volume.sound.Goals as goal

pub returns-clause-pages : goal.returns-clause-pages
returns-clause-pages g c = λ page lt. committed_staged c.args.self.now.table c.requires.is_table page lt
