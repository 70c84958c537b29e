use Rattle.std.proofs.Common.{ℕ, sym, subst}
use Rattle.ps_stepping.specs.Machine.{returned}
use Rattle.machine_core.specs.Stepped.{Takes}
use Rattle.machine_core.proofs.returns.returned.Goals as goal

pub returns-in-0-clause-takes : goal.returns-in-0-clause-takes
returns-in-0-clause-takes g c = λ v.
    let out = g.V.Vault.outside v in
    subst (λ (k : ℕ). Takes out out (returned k) c.args.m.now c.return_nothing.new.m c.return_nothing.result) (sym c.in-0.is) (c.return_nothing.ensures.takes v)

pub returns-in-1-clause-takes : goal.returns-in-1-clause-takes
returns-in-1-clause-takes g c = λ v.
    let out = g.V.Vault.outside v in
    subst (λ (k : ℕ). Takes out out (returned k) c.args.m.now c.return_num.new.m c.return_num.result) (sym c.in-1.is) (c.return_num.ensures.takes v)

pub returns-in-2-clause-takes : goal.returns-in-2-clause-takes
returns-in-2-clause-takes g c = λ v.
    let out = g.V.Vault.outside v in
    subst (λ (k : ℕ). Takes out out (returned k) c.args.m.now c.return_ref.new.m c.return_ref.result) (sym c.in-2.is) (c.return_ref.ensures.takes v)
