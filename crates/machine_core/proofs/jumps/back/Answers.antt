use Rattle.std.proofs.Common.{ap, Bool}
use Rattle.std.specs.Prelude.{if◌then◌else◌}
use Rattle.std.proofs.lemmas.Bool.{lt-ltb}
use Rattle.ps_stepping.specs.ps_meaning.Meaning.{spent}
use Rattle.ps_stepping.specs.Machine.{back, turn_to, Stuck}
use Rattle.machine_core.proofs.Between.{same-step}
use Rattle.machine_core.proofs.jumps.back.Goals as goal

pub returns-clause-takes : goal.returns-clause-takes
returns-clause-takes g c = λ v.
    let out = g.V.Vault.outside v in
    same-step out out c.args.m.now c.turn_to.new.m c.turn_to.result (λ d. turn_to (spent d.store) c.args.to d) (back c.args.own c.args.to)
    (λ d. ap (λ (b : Bool). if b then turn_to (spent d.store) c.args.to d else Stuck) (lt-ltb c.args.to c.args.own c.if-to-own.false)) (c.turn_to.ensures.takes v)
