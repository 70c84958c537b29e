use Rattle.std.proofs.Common.{Some, refl, subst, sym}
use Rattle.ps_base.specs.declared.instr.Instr.{Instr}
use Rattle.machine_core.specs.ps_stepping.Machine.{acts}
use Rattle.session_run.specs.declared.calls.DatabaseCall.{DatabaseCall}
use Rattle.session_run.specs.declared.calls.DatabaseCall.TheVariants.{Create, Open, Commit}
use Rattle.session_run.specs.inside.Advancing.{Comes, plainly, called}
use Rattle.session_run.specs.inside.Calls.{IsCall}
use Rattle.session_run.proofs.Calling.{create-acts, open-acts, commit-acts}
use Rattle.session_run.proofs.advance.go.Goals as goal

pub returns-in-None-clause-does : goal.returns-in-None-clause-does
returns-in-None-clause-does g c = plainly c.in-None.ensures c.plain.ensures.goes

pub returns-in-Some-Create-clause-does : goal.returns-in-Some-Create-clause-does
returns-in-Some-Create-clause-does g c =
    let outside = g.V.Vault.outside in
    let call : IsCall c.args.instr (Some Create) = subst (λ (k : DatabaseCall). IsCall c.args.instr (Some k)) c.in-Some-Create.field-0-is c.in-Some-Create.ensures in
    called (create-acts (outside c.args.vault.now) (outside c.creates.new.vault) c.args.output.now c.args.output.now c.args.instr c.args.own call.0 c.args.m.now c.creates.new.m c.creates.result
    call.1 (c.creates.ensures.comes c.args.output.now call.0))

pub returns-in-Some-Open-clause-does : goal.returns-in-Some-Open-clause-does
returns-in-Some-Open-clause-does g c =
    let outside = g.V.Vault.outside in
    let call : IsCall c.args.instr (Some Open) = subst (λ (k : DatabaseCall). IsCall c.args.instr (Some k)) c.in-Some-Open.field-0-is c.in-Some-Open.ensures in
    called (open-acts (outside c.args.vault.now) (outside c.opens.new.vault) c.args.output.now c.args.output.now c.args.instr c.args.own call.0 c.args.m.now c.opens.new.m c.opens.result
    call.1 (c.opens.ensures.comes c.args.output.now call.0))

pub returns-in-Some-Commit-clause-does : goal.returns-in-Some-Commit-clause-does
returns-in-Some-Commit-clause-does g c =
    let outside = g.V.Vault.outside in
    let call : IsCall c.args.instr (Some Commit) = subst (λ (k : DatabaseCall). IsCall c.args.instr (Some k)) c.in-Some-Commit.field-0-is c.in-Some-Commit.ensures in
    called (commit-acts (outside c.args.vault.now) (outside c.commits.new.vault) c.args.output.now c.commits.new.output c.args.instr c.args.own call.0 c.args.m.now c.commits.new.m
    c.commits.result call.1 c.commits.ensures.comes)
