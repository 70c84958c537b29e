use Rattle.std.proofs.Common.{◌≡◌, ℕ, Option, Some, ap, ◌∙◌, subst}
use Rattle.std.specs.Prelude.{Ok, Err}
use Rattle.machine_core.specs.declared.stepped.Stepped.TheVariants.{Damaged}
use Rattle.joint_procedures.specs.Units.{AnswersText}
use Rattle.machine_operands.proofs.Reading.{constant-read, reading-ends}
use Rattle.machine_operands.proofs.constants.text_constant.Goals as goal

pub returns-in-Some-clause-reads : goal.returns-in-Some-clause-reads
returns-in-Some-clause-reads g c =
    let m = c.args.m.now in
    let now = c.text_of-got.new.self in
    let before = g.V.Vault.outside c.args.vault.now in
    let after = g.V.Vault.outside c.text_of-got.new.vault in
    let is : c.text_of-got.result ≡ Ok (Some c.in-Some.at) = c.in-Ok.is ∙ ap (λ (o : Option ℕ). Ok o) c.in-Some.is in
    constant-read before after m now c.args.k c.in-Some.at
    (λ bytes row frame u. subst (λ r. AnswersText m.objects now before after m.code row c.args.k r) is (c.text_of-got.ensures.given bytes row frame u))
    c.in-Ok.ensures.world

pub returns-in-Some-clause-ends : goal.returns-in-Some-clause-ends
returns-in-Some-clause-ends g c = reading-ends c.args.m.now c.text_of-got.new.self c.requires.sound (Ok c.in-Some.at) c.requires.names c.in-Ok.ensures.keeps

pub returns-in-None-clause-ends : goal.returns-in-None-clause-ends
returns-in-None-clause-ends g c = reading-ends c.args.m.now c.text_of-got.new.self c.requires.sound (Err Damaged) c.requires.names c.in-Ok.ensures.keeps
