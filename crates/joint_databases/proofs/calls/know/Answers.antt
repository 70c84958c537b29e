use Rattle.joint_databases.proofs.KnowLaws.{knows}
use Rattle.joint_databases.proofs.ResultLaws.{keeps-stands, keeps-size, reads-keeps, reads-leaves}
use Rattle.joint_databases.proofs.calls.know.Goals as goal

pub returns-clause-run : goal.returns-clause-run
returns-clause-run g c = λ names h unasked run.
    let vault = g.V.Vault in
    knows c.args.sw.now c.load_directory-known.new.sw (vault.outside c.args.vault.now) (vault.outside c.load_directory-known.new.vault) names (vault.used_words c.args.vault.now)
    (vault.directory_at c.args.vault.now) (g.met.V.Vault.space c.args.vault.now) h unasked run c.load_directory-known.result c.load_directory-known.ensures.loaded

pub returns-clause-stands : goal.returns-clause-stands
returns-clause-stands g c =
    let after = c.load_directory-known in
    let vault = g.V.Vault in
    keeps-stands c.args.sw.now after.new.sw after.result
    (reads-keeps c.args.sw.now after.new.sw (vault.outside c.args.vault.now) (vault.outside after.new.vault) after.result after.ensures.reads)

pub returns-clause-size : goal.returns-clause-size
returns-clause-size g c =
    let after = c.load_directory-known in
    let vault = g.V.Vault in
    keeps-size c.args.sw.now after.new.sw after.result
    (reads-keeps c.args.sw.now after.new.sw (vault.outside c.args.vault.now) (vault.outside after.new.vault) after.result after.ensures.reads)

pub returns-clause-leaves : goal.returns-clause-leaves
returns-clause-leaves g c =
    let after = c.load_directory-known in
    let vault = g.V.Vault in
    reads-leaves c.args.sw.now after.new.sw (vault.outside c.args.vault.now) (vault.outside after.new.vault) after.result after.ensures.reads after.ensures.fails
