use Rattle.joint_databases.proofs.OpenLaws.{opens}
use Rattle.joint_databases.proofs.ResultLaws.{keeps-stands, keeps-size, reads-keeps, reads-leaves}
use Rattle.joint_databases.proofs.calls.open.Goals as goal

pub returns-clause-run : goal.returns-clause-run
returns-clause-run g c = λ names writing h n p m asked run name password mode.
    let after = c.admit-admitted in
    let vault = g.V.Vault in
    opens c.args.sw.now after.new.sw (vault.outside c.args.vault.now) (vault.outside after.new.vault) names writing c.args.directory h c.sound.ensures asked run c.args.name
    c.args.password c.args.mode n p m after.result name password mode after.ensures.root after.ensures.admitted

pub returns-clause-stands : goal.returns-clause-stands
returns-clause-stands g c =
    let after = c.admit-admitted in
    let vault = g.V.Vault in
    keeps-stands c.args.sw.now after.new.sw after.result
    (reads-keeps c.args.sw.now after.new.sw (vault.outside c.args.vault.now) (vault.outside after.new.vault) after.result after.ensures.reads)

pub returns-clause-size : goal.returns-clause-size
returns-clause-size g c =
    let after = c.admit-admitted in
    let vault = g.V.Vault in
    keeps-size c.args.sw.now after.new.sw after.result
    (reads-keeps c.args.sw.now after.new.sw (vault.outside c.args.vault.now) (vault.outside after.new.vault) after.result after.ensures.reads)

pub returns-clause-leaves : goal.returns-clause-leaves
returns-clause-leaves g c =
    let after = c.admit-admitted in
    let vault = g.V.Vault in
    reads-leaves c.args.sw.now after.new.sw (vault.outside c.args.vault.now) (vault.outside after.new.vault) after.result after.ensures.reads after.ensures.fails
