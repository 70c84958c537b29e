use Rattle.machine_core.proofs.Failing.{whole-failing}
use Rattle.machine_strings.proofs.Constants.{constant-pushed, no-constant}
use Rattle.machine_strings.proofs.texts.push_text.Goals as goal

pub returns-in-Ok-clause-takes : goal.returns-in-Ok-clause-takes
returns-in-Ok-clause-takes g c =
    let read = c.text_constant in
    let after = read.new.vault in
    let given = c.in-Ok.ensures in
    constant-pushed (g.V.Vault.outside c.args.vault.now) (g.V.Vault.outside after) c.args.k c.args.m.now read.new.m c.push_ref.new.m c.in-Ok.text c.push_ref.result
    given.leaves given.text given.ends given.reads (c.push_ref.ensures.takes after)

pub returns-in-Err-clause-takes : goal.returns-in-Err-clause-takes
returns-in-Err-clause-takes g c =
    let read = c.text_constant in
    no-constant (g.V.Vault.outside c.args.vault.now) (g.V.Vault.outside read.new.vault) c.args.k c.args.m.now read.new.m c.in-Err.answer c.in-Err.ensures.ends c.in-Err.ensures.reads

pub returns-in-Ok-clause-fails : goal.returns-in-Ok-clause-fails
returns-in-Ok-clause-fails g c =
    whole-failing (g.V.Vault.outside c.args.vault.now) (g.V.Vault.outside c.text_constant.new.vault) c.push_ref.result c.push_ref.new.m c.push_ref.ensures.goes
