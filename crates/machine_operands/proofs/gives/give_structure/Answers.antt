use Rattle.std.proofs.Common.{sym, subst}
use Rattle.ps_base.specs.declared.line.Line.{Line}
use Rattle.machine_operands.specs.Giving.{GivesStructure}
use Rattle.machine_operands.proofs.Giving.{structure-pushed, structure-broken}
use Rattle.machine_operands.proofs.gives.give_structure.Goals as goal

abbrev some_line : Line
some_line = record { 0 = 0 }

pub returns-in-Ok : goal.returns-in-Ok
returns-in-Ok g c =
    let m = c.args.m.now in
    λ v w.
    let before = g.V.Vault.outside v in
    let after = g.V.Vault.outside w in
    subst (λ made. GivesStructure before after m c.put_ref.new.m c.put_ref.result made) (sym c.in-Ok.is)
    (structure-pushed before after m c.put_ref.new.m c.put_ref.result some_line c.in-Ok.at c.put_ref.ensures.goes (c.put_ref.ensures.takes w))

pub returns-in-Err : goal.returns-in-Err
returns-in-Err g c =
    let m = c.args.m.now in
    let f = c.broken.ensures in
    λ v w.
    let before = g.V.Vault.outside v in
    let after = g.V.Vault.outside w in
    subst (λ made. GivesStructure before after m c.broken.new.m c.broken.result made) (sym c.in-Err.is)
    (structure-broken before after m c.broken.new.m c.broken.result some_line c.in-Err.fault c.requires.room f.sound f.answer f.left)
