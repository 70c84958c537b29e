use Rattle.machine_run.proofs.Dispatch.{names_after, sound_after, step_nothing, step_acts}
use Rattle.machine_run.proofs.steps.step.Goals as goal

pub instr_within-requires : goal.instr_within-requires
instr_within-requires g c = c.requires.names.code

pub act-requires-clause-sound : goal.act-requires-clause-sound
act-requires-clause-sound g c = sound_after c.args.m.now c.in-Some.after c.requires.sound

pub act-requires-clause-names : goal.act-requires-clause-names
act-requires-clause-names g c = names_after c.args.m.now c.in-Some.after c.requires.names

pub returns-in-Some-clause-takes : goal.returns-in-Some-clause-takes
returns-in-Some-clause-takes g c =
    step_acts (g.V.Vault.outside c.args.vault.now) (g.V.Vault.outside c.act.new.vault) c.args.m.now c.sound.ensures c.act.new.m c.in-Some.instr c.in-Some.after
    c.act.result c.in-Some.ensures c.act.ensures.acts

pub returns-in-None-clause-takes : goal.returns-in-None-clause-takes
returns-in-None-clause-takes g c = step_nothing (g.V.Vault.outside c.args.vault.now) (g.V.Vault.outside c.args.vault.now) c.args.m.now c.sound.ensures c.requires.sound c.in-None.ensures
