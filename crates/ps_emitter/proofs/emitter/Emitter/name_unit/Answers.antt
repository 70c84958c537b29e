use Rattle.ps_emitter.specs.declared.naming.Naming.TheVariants as name
use Rattle.ps_emitter.proofs.Steps.{named}
use Rattle.ps_emitter.proofs.emitter.Emitter.name_unit.Goals as goal

pub returns : goal.returns
returns c = named name.Closure c.of.ensures c.in_ok-c.ensures c.in_ok-put.ensures c.in_ok-it.ensures c.in_ok-add.ensures
