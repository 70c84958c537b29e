use Rattle.std.proofs.Common.{subst, sym, refl}
use Rattle.machine_core.specs.declared.machine.Machine.{Machine}
use Rattle.machine_core.proofs.of_swizzle.ReadingLaws.{leaves-none}
use Rattle.machine_run.proofs.Dispatch.{names_after, sound_after}
use Rattle.session_run.specs.declared.advanced.Advanced.TheVariants.{Broke}
use Rattle.session_run.specs.inside.Advancing.{Advances}
use Rattle.session_run.proofs.Stepping.{step-comes, nothing-comes, goes-none}
use Rattle.session_run.proofs.advance.advance.Goals as goal

pub instr_within-requires : goal.instr_within-requires
instr_within-requires g c = c.requires.names.code

pub go-requires-clause-sound : goal.go-requires-clause-sound
go-requires-clause-sound g c = sound_after c.args.m.now c.in-Some.after c.requires.sound

pub go-requires-clause-names : goal.go-requires-clause-names
go-requires-clause-names g c = names_after c.args.m.now c.in-Some.after c.requires.names

pub returns-in-Some-clause-advances : goal.returns-in-Some-clause-advances
returns-in-Some-clause-advances g c =
    let outside = g.V.Vault.outside in
    step-comes (outside c.args.vault.now) (outside c.go.new.vault) c.args.output.now c.go.new.output c.args.m.now c.go.new.m c.sound.ensures
    c.in-Some.instr c.args.m.now.at c.in-Some.after refl c.in-Some.ensures c.go.result c.go.ensures.does

pub returns-in-None-clause-advances : goal.returns-in-None-clause-advances
returns-in-None-clause-advances g c =
    let outside = g.V.Vault.outside c.args.vault.now in
    subst (λ (m : Machine). Advances outside outside c.args.output.now c.args.output.now c.args.m.now m Broke) (sym c.blame_code.ensures.rest)
    (nothing-comes outside c.args.output.now c.args.m.now c.sound.ensures c.args.m.now.at c.blame_code.new.m.fault c.blame_code.ensures.fault c.in-None.ensures (leaves-none outside))

pub returns-in-None-clause-seen : goal.returns-in-None-clause-seen
returns-in-None-clause-seen g c = goes-none (g.V.Vault.outside c.args.vault.now)
