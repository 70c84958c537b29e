use Rattle.std.proofs.Common.{arith}
use Rattle.proc_values.proofs.ReadLaws.{place-fits}
use Rattle.proc_values.proofs.reading.code_place.Goals as goal

pub overflow_add-result : goal.overflow_add-result
overflow_add-result c = omega (arith, place-fits c.args.sw.now c.args.code c.sound.ensures c.requires.held)

pub overflow_add-result-2 : goal.overflow_add-result-2
overflow_add-result-2 c = omega (arith, place-fits c.args.sw.now c.args.code c.sound.ensures c.requires.held, c.refs.ensures)
