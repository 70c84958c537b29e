use Rattle.no_store_tests.proofs.objects.fetch.Goals as goal

pub fetch-requires-clause-fits : goal.fetch-requires-clause-fits
fetch-requires-clause-fits c = λ words h. absurd (c.holds_nothing.ensures c.args.pid words h)
