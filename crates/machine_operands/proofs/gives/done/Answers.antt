use Rattle.std.proofs.Common.{sym, subst}
use Rattle.machine_operands.specs.Giving.{Changes}
use Rattle.machine_operands.proofs.Giving.{change-done, change-failed}
use Rattle.machine_operands.proofs.gives.done.Goals as goal

pub returns-in-Ok : goal.returns-in-Ok
returns-in-Ok g c =
    let m = c.args.m.now in
    λ v w.
    let before = g.V.Vault.outside v in
    let after = g.V.Vault.outside w in
    subst (λ got. Changes before after m m _ c.args.line got) (sym c.in-Ok.is) (change-done before after m c.args.line c.requires tt)

pub returns-in-Err : goal.returns-in-Err
returns-in-Err g c =
    let m = c.args.m.now in
    let f = c.failed.ensures in
    λ v w.
    let before = g.V.Vault.outside v in
    let after = g.V.Vault.outside w in
    subst (λ got. Changes before after m c.failed.new.m c.failed.result c.args.line got) (sym c.in-Err.is)
    (change-failed before after m c.failed.new.m c.failed.result c.args.line c.in-Err.fault f.sound f.answer f.left)
