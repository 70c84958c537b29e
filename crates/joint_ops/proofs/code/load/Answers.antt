use Rattle.ps_base.specs.CodeUnit.{unit_view}
use Rattle.heap_meaning.proofs.of_proc_values.StayLaws.{keeps-load}
use Rattle.joint_ops.proofs.CodeLaws.{loads, load-kind}
use Rattle.joint_ops.proofs.code.load.Goals as goal

pub returns-clause-loaded : goal.returns-clause-loaded
returns-clause-loaded g c =
    loads c.args.sw.now c.load_unit-loaded.new.sw (g.V.Vault.outside c.args._vault.now) (unit_view c.args.unit.now) c.load_unit-loaded.result
    c.sound.ensures c.sound-2.ensures c.load_unit-loaded.ensures.fit c.load_unit-loaded.ensures.loads

pub returns-clause-keeps : goal.returns-clause-keeps
returns-clause-keeps g c =
    keeps-load c.args.sw.now c.load_unit-loaded.new.sw (unit_view c.args.unit.now) c.load_unit-loaded.result c.sound.ensures
    c.load_unit-loaded.ensures.loads

pub returns-clause-code : goal.returns-clause-code
returns-clause-code g c =
    load-kind c.args.sw.now c.load_unit-loaded.new.sw (unit_view c.args.unit.now) c.load_unit-loaded.result c.load_unit-loaded.ensures.fit
    c.load_unit-loaded.ensures.loads
