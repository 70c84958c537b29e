use Rattle.std.proofs.Common.{◌+◌, ◌-◌, arith}
use Rattle.ps_code.proofs.Words.{word_here}
use Rattle.ps_code.proofs.decode.word_at.Goals as goal

pub returns : goal.returns
returns c = word_here c.args.bytes.now c.args.at (c.args.at + 4 - c.args.at) c.read_u32.result (omega arith) c.requires (λ i. (c.type_inv.bytes i).fits) c.read_u32.ensures
