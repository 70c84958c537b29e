use Rattle.std.proofs.Common.{rules}
use Rattle.obj_store.proofs.WordLaws.{word_read}
use Rattle.obj_store.proofs.words.word_in.Goals as goal

pub returns : goal.returns
returns c = word_read c.args.page.now c.args.index c.read_u64.result (search rules) c.read_u64.ensures
