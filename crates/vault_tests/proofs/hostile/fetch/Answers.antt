use Rattle.vault_tests.proofs.hostile.fetch.Goals as goal

pub fetch-requires-clause-fits : goal.fetch-requires-clause-fits
fetch-requires-clause-fits c = λ words h. absurd (c.requires.none c.args.pid words h)
