use Rattle.std.proofs.Common.{rules}
use Rattle.machine_commits.proofs.Pushing.{nil-pushed}
use Rattle.machine_commits.proofs.answers.push_nil.Goals as goal

pub returns : goal.returns
returns g c = λ v.
    nil-pushed (g.V.Vault.outside v) c.args.m.now c.push_reserved.new.self (search rules) c.requires.names c.requires.room c.push_reserved.ensures.below c.push_reserved.ensures.own
