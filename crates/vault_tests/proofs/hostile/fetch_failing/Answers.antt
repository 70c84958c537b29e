use Rattle.vault_tests.proofs.HostileLaws.{holds_nothing-failing}
use Rattle.vault_tests.proofs.hostile.fetch_failing.Goals as goal

pub fetch-requires-clause-fits : goal.fetch-requires-clause-fits
fetch-requires-clause-fits c = λ words h.
    absurd (holds_nothing-failing c.args.vault.now c.fail_from.new.self _ c.requires c.fail_from.ensures c.args.pid words h)
