use Rattle.obj_store.proofs.WordLaws.{put_here, put_elsewhere}
use Rattle.obj_store.proofs.words.put_word.Goals as goal

pub returns-clause-here : goal.returns-clause-here
returns-clause-here c = put_here c.args.page.now c.write_u64.new.buf c.args.index c.args.word c.requires c.ranges.word.fits c.write_u64.ensures

pub returns-clause-elsewhere : goal.returns-clause-elsewhere
returns-clause-elsewhere c = put_elsewhere c.args.page.now c.write_u64.new.buf c.args.index c.args.word c.requires c.write_u64.ensures
