use Rattle.std.proofs.Common.{ap}
use Rattle.ps_base.specs.CodeUnit.{text, constant_view}
use Rattle.ps_emitter.proofs.Steps.{named}
use Rattle.ps_emitter.proofs.emitter.Emitter.name.Goals as goal

pub returns : goal.returns
unfolding constant_view
returns c = named c.args.it c.of.ensures c.in_ok-c.ensures c.in_ok-put.ensures (ap text c.in_ok-copy.ensures) c.in_ok-add.ensures
