-- What a step returns.
use Rattle.std.proofs.Common.{subst, sym}
use Rattle.machine_core.specs.declared.machine.Machine.{Machine}
use Rattle.machine_run.specs.declared.run.Advanced.{Advanced}
use Rattle.machine_run.specs.declared.run.Advanced.TheVariants.{Broke}
use Rattle.machine_run.specs.inside.Advancing.{Advances}
use Rattle.machine_run.proofs.Between.{item-written, advance_quiet, advance_turned, advance_wrote, advance_halts, advance_breaks, advance_damaged}
use Rattle.machine_run.proofs.run.advance.Goals as goal

pub wrote-requires-clause-item : goal.wrote-requires-clause-item
wrote-requires-clause-item g c = item-written c.step.new.m (c.in-Writes.ensures.takes.names c.requires.names)

pub returns-in-Quiet-clause-advances : goal.returns-in-Quiet-clause-advances
returns-in-Quiet-clause-advances g c =
    let outside = g.V.Vault.outside in
    advance_quiet (outside c.args.vault.now) (outside c.step.new.vault) c.args.output.now c.args.m.now c.step.new.m c.in-Quiet.ensures.leaves c.in-Quiet.ensures.takes

pub returns-in-Turns-clause-advances : goal.returns-in-Turns-clause-advances
returns-in-Turns-clause-advances g c =
    let outside = g.V.Vault.outside in
    subst (λ (r : Advanced). Advances (outside c.args.vault.now) (outside c.turned.new.vault) c.args.output.now c.turned.new.output c.args.m.now c.step.new.m r)
    (sym c.on_where.ensures)
    (advance_turned (outside c.args.vault.now) (outside c.step.new.vault) c.args.output.now c.args.m.now c.step.new.m c.in-Turns.ensures.leaves
    (outside c.turned.new.vault) c.turned.new.output c.sound.ensures c.turned.ensures.leaves.contents c.turned.result c.in-Turns.ensures.takes c.turned.ensures.cleared
    c.turned.ensures.sends)

pub returns-in-Writes-clause-advances : goal.returns-in-Writes-clause-advances
returns-in-Writes-clause-advances g c =
    let outside = g.V.Vault.outside in
    subst (λ (r : Advanced). Advances (outside c.args.vault.now) (outside c.wrote.new.vault) c.args.output.now c.wrote.new.output c.args.m.now c.step.new.m r)
    (sym c.on_where-in-Writes.ensures)
    (advance_wrote (outside c.args.vault.now) (outside c.step.new.vault) c.args.output.now c.args.m.now c.step.new.m c.in-Writes.ensures.leaves
    (outside c.wrote.new.vault) c.wrote.new.output c.sound-in-Writes.ensures c.wrote.ensures.leaves.contents c.wrote.result c.in-Writes.ensures.takes c.wrote.ensures.cleared
    c.wrote.ensures.sends)

pub returns-in-Halts-clause-advances : goal.returns-in-Halts-clause-advances
returns-in-Halts-clause-advances g c =
    let outside = g.V.Vault.outside in
    advance_halts (outside c.args.vault.now) (outside c.step.new.vault) c.args.output.now c.args.m.now c.step.new.m c.in-Halts.ensures.leaves c.in-Halts.ensures.takes

pub returns-in-Breaks-clause-advances : goal.returns-in-Breaks-clause-advances
returns-in-Breaks-clause-advances g c =
    let outside = g.V.Vault.outside in
    advance_breaks (outside c.args.vault.now) (outside c.step.new.vault) c.args.output.now c.args.m.now c.step.new.m c.in-Breaks.ensures.leaves c.in-Breaks.ensures.takes

pub returns-in-Damaged-clause-advances : goal.returns-in-Damaged-clause-advances
returns-in-Damaged-clause-advances g c =
    let outside = g.V.Vault.outside in
    let old = outside c.args.vault.now in
    let new = outside c.step.new.vault in
    let output = c.args.output.now in
    subst (λ (m : Machine). Advances old new output output c.args.m.now m Broke) (sym c.blame_code.ensures.rest)
    (advance_damaged old new output c.args.m.now c.step.new.m c.in-Damaged.ensures.leaves c.args.m.now.at c.blame_code.new.m.fault c.blame_code.ensures.fault c.in-Damaged.ensures.takes)
