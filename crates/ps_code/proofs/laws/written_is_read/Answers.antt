use Rattle.std.proofs.Common.{drop}
use Rattle.ps_code.proofs.laws.written_is_read.Goals as goal

pub returns : goal.returns
returns c = c.decode.ensures.only c.args.instr (drop c.encode.result c.args.buffer.now) c.encode.ensures.fits c.encode.ensures.written
