use Rattle.machine_commits.proofs.Committing.{good-now, ready-empty, ready-names, ready-room, ready-sound, ready-stack, ready-takes, unready-takes}
use Rattle.machine_commits.proofs.Silence.{silent-none}
use Rattle.machine_commits.proofs.commits.save.Goals as goal

pub save_ready-requires-clause-sound : goal.save_ready-requires-clause-sound
save_ready-requires-clause-sound g c = ready-sound c.args.m.now c.make_ready.new.m c.in-Ok.ensures.cleared c.requires.sound

pub save_ready-requires-clause-names : goal.save_ready-requires-clause-names
save_ready-requires-clause-names g c = ready-names c.args.m.now c.make_ready.new.m c.in-Ok.ensures.cleared c.requires.names

pub save_ready-requires-clause-stack : goal.save_ready-requires-clause-stack
save_ready-requires-clause-stack g c = ready-stack c.args.m.now c.make_ready.new.m c.in-Ok.ensures.cleared c.requires.stack

pub save_ready-requires-clause-empty : goal.save_ready-requires-clause-empty
save_ready-requires-clause-empty g c = ready-empty c.args.m.now c.make_ready.new.m c.in-Ok.ensures.cleared

pub save_ready-requires-clause-room : goal.save_ready-requires-clause-room
save_ready-requires-clause-room g c = ready-room c.args.m.now c.make_ready.new.m c.in-Ok.ensures.cleared _ c.requires.room

pub returns-in-Ok-clause-takes : goal.returns-in-Ok-clause-takes
returns-in-Ok-clause-takes g c =
    let is = c.in-Ok.ensures.cleared in
    ready-takes c.args.m.now c.sound.ensures (good-now c.args.m.now c.make_ready.new.m is c.sound-in-Ok.ensures) (g.V.Vault.outside c.args.vault.now)
    (g.V.Vault.outside c.save_ready.new.vault) c.make_ready.new.m c.save_ready.new.m c.save_ready.result is c.save_ready.ensures.takes

pub returns-in-Err-clause-takes : goal.returns-in-Err-clause-takes
returns-in-Err-clause-takes g c =
    let is = c.in-Err.ensures.cleared in
    let v = c.args.vault.now in
    unready-takes c.args.m.now c.sound.ensures (good-now c.args.m.now c.make_ready.new.m is c.sound-in-Err.ensures) (g.V.Vault.outside v) (g.V.Vault.used_words v)
    (g.V.Vault.directory_at v) (g.met.V.Vault.space v) c.make_ready.new.m is c.in-Err.fault c.requires.sound c.in-Err.ensures.damaged

pub returns-in-Err-clause-silent : goal.returns-in-Err-clause-silent
returns-in-Err-clause-silent g c = silent-none (g.V.Vault.outside c.args.vault.now)
