use Rattle.std.proofs.Common.{◌-◌, length, arith}
use Rattle.ps_base.specs.TyView as types
use Rattle.ps_program.proofs.NodeSteps.{weight_at}
use Rattle.ps_emitter.proofs.Chaining.{last_gives}
use Rattle.ps_emitter.proofs.known.last_source.Goals as goal

pub returns-in-Some : goal.returns-in-Some
returns-in-Some c =
    let items = c.args.items.now in
    let last = c.in-Some.last.now in
    let found = c.in-Some.ensures.item.3 in
    (last_gives types.Void items last last found.0 (found.1 last), weight_at items (length items - 1) last last (found.1 last) (omega (arith, found.0)))
