use Rattle.std.proofs.Common.{◌+◌, ◌-◌, arith}
use Rattle.ps_code.proofs.Words.{word_put}
use Rattle.ps_code.proofs.encode.put_word.Goals as goal

pub returns : goal.returns
returns c = word_put c.args.into.now c.write_u32.new.buf c.args.at (c.args.at + 4 - c.args.at) c.args.number (omega arith) (omega arith) c.write_u32.ensures
