use Rattle.std.proofs.Common.{refl}
use Rattle.ps_base.specs.CodeUnit.{unit_view}
use Rattle.machine_run.proofs.Loading.{begins}
use Rattle.machine_run.proofs.load.load_fitting.Goals as goal

pub returns-in-Ok : goal.returns-in-Ok
returns-in-Ok g c =
    begins (g.V.Vault.outside c.args.vault.now) (unit_view c.args.unit.now) c.args.turns c.args.input.items c.args.m.now _ c.begin.new.m c.in-Ok.code
    c.code_place-place.result c.args.unit.now.frame refl c.requires.frame c.reset.new.self c.reset.ensures c.in-Ok.ensures.loaded c.in-Ok.ensures.keeps.size
    c.code_place-place.ensures c.new.ensures c.begin.ensures
