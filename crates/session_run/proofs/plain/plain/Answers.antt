use Rattle.std.proofs.Common.{subst, sym}
use Rattle.machine_core.specs.declared.machine.Machine.{Machine}
use Rattle.machine_core.specs.ps_stepping.Machine.{acts}
use Rattle.machine_run.proofs.Between.{item-written}
use Rattle.session_run.specs.declared.advanced.Advanced.{Advanced}
use Rattle.session_run.specs.declared.advanced.Advanced.TheVariants.{Broke}
use Rattle.session_run.specs.inside.Advancing.{Plainly}
use Rattle.session_run.proofs.Stepping.{plain-quiet, plain-turned, plain-wrote, plain-halts, plain-breaks, plain-damaged, goes-leaves, goes-then, goes-sent, cause-reading}
use Rattle.session_run.proofs.plain.plain.Goals as goal

pub wrote-requires-clause-item : goal.wrote-requires-clause-item
wrote-requires-clause-item g c = item-written c.act.new.m (c.in-Writes.ensures.acts.takes.names c.requires.names)

pub returns-in-Quiet-clause-goes : goal.returns-in-Quiet-clause-goes
returns-in-Quiet-clause-goes g c =
    let outside = g.V.Vault.outside in
    let did = c.in-Quiet.ensures.acts in
    plain-quiet (outside c.args.vault.now) (outside c.act.new.vault) c.args.output.now c.args.instr c.args.own c.requires.plain c.args.m.now c.act.new.m did.leaves did.takes

pub returns-in-Turns-clause-goes : goal.returns-in-Turns-clause-goes
returns-in-Turns-clause-goes g c =
    let outside = g.V.Vault.outside in
    let did = c.in-Turns.ensures.acts in
    subst (λ (r : Advanced). Plainly (outside c.args.vault.now) (outside c.turned.new.vault) c.args.output.now c.turned.new.output (acts c.args.instr c.args.own) c.args.m.now c.act.new.m r)
    (sym c.on_where.ensures)
    (plain-turned (outside c.args.vault.now) (outside c.act.new.vault) c.args.output.now c.args.instr c.args.own c.requires.plain c.args.m.now c.act.new.m did.leaves
    (outside c.turned.new.vault) c.turned.new.output c.sound.ensures c.turned.ensures.leaves.contents c.turned.result did.takes c.turned.ensures.cleared c.turned.ensures.sends)

pub returns-in-Writes-clause-goes : goal.returns-in-Writes-clause-goes
returns-in-Writes-clause-goes g c =
    let outside = g.V.Vault.outside in
    let did = c.in-Writes.ensures.acts in
    subst (λ (r : Advanced). Plainly (outside c.args.vault.now) (outside c.wrote.new.vault) c.args.output.now c.wrote.new.output (acts c.args.instr c.args.own) c.args.m.now c.act.new.m r)
    (sym c.on_where-in-Writes.ensures)
    (plain-wrote (outside c.args.vault.now) (outside c.act.new.vault) c.args.output.now c.args.instr c.args.own c.requires.plain c.args.m.now c.act.new.m did.leaves
    (outside c.wrote.new.vault) c.wrote.new.output c.sound-in-Writes.ensures c.wrote.ensures.leaves.contents c.wrote.result did.takes c.wrote.ensures.cleared c.wrote.ensures.sends)

pub returns-in-Halts-clause-goes : goal.returns-in-Halts-clause-goes
returns-in-Halts-clause-goes g c =
    let outside = g.V.Vault.outside in
    let did = c.in-Halts.ensures.acts in
    plain-halts (outside c.args.vault.now) (outside c.act.new.vault) c.args.output.now c.args.instr c.args.own c.requires.plain c.args.m.now c.act.new.m did.leaves did.takes

pub returns-in-Breaks-clause-goes : goal.returns-in-Breaks-clause-goes
returns-in-Breaks-clause-goes g c =
    let outside = g.V.Vault.outside in
    let did = c.in-Breaks.ensures.acts in
    plain-breaks (outside c.args.vault.now) (outside c.act.new.vault) c.args.output.now c.args.instr c.args.own c.requires.plain c.args.m.now c.act.new.m did.leaves did.takes

pub returns-in-Damaged-clause-goes : goal.returns-in-Damaged-clause-goes
returns-in-Damaged-clause-goes g c =
    let outside = g.V.Vault.outside in
    let did = c.in-Damaged.ensures.acts in
    subst (λ (m : Machine). Plainly (outside c.args.vault.now) (outside c.act.new.vault) c.args.output.now c.args.output.now (acts c.args.instr c.args.own) c.args.m.now m Broke)
    (sym c.blame_code.ensures.rest)
    (plain-damaged (outside c.args.vault.now) (outside c.act.new.vault) c.args.output.now c.args.instr c.args.own c.requires.plain c.args.m.now c.act.new.m did.leaves
    c.args.own c.blame_code.new.m.fault c.blame_code.ensures.fault did.takes)

pub returns-in-Quiet-clause-seen : goal.returns-in-Quiet-clause-seen
returns-in-Quiet-clause-seen g c = goes-leaves _ _ c.in-Quiet.ensures.acts.leaves

pub returns-in-Halts-clause-seen : goal.returns-in-Halts-clause-seen
returns-in-Halts-clause-seen g c = goes-leaves _ _ c.in-Halts.ensures.acts.leaves

pub returns-in-Breaks-clause-seen : goal.returns-in-Breaks-clause-seen
returns-in-Breaks-clause-seen g c = goes-leaves _ _ c.in-Breaks.ensures.acts.leaves

pub returns-in-Damaged-clause-seen : goal.returns-in-Damaged-clause-seen
returns-in-Damaged-clause-seen g c = goes-leaves _ _ c.in-Damaged.ensures.acts.leaves

pub returns-in-Turns-clause-seen : goal.returns-in-Turns-clause-seen
returns-in-Turns-clause-seen g c =
    goes-then _ _ _ (goes-leaves _ _ c.in-Turns.ensures.acts.leaves) (goes-sent _ _ _ _ c.turned.result c.turned.ensures.sends)

pub returns-in-Writes-clause-seen : goal.returns-in-Writes-clause-seen
returns-in-Writes-clause-seen g c =
    goes-then _ _ _ (goes-leaves _ _ c.in-Writes.ensures.acts.leaves) (goes-sent _ _ _ _ c.wrote.result c.wrote.ensures.sends)

pub returns-in-Breaks-clause-caused : goal.returns-in-Breaks-clause-caused
returns-in-Breaks-clause-caused g c = cause-reading (g.V.Vault.access c.args.vault.now) _ _ _ c.in-Breaks.ensures.acts.fails
