use Rattle.std.proofs.Common.{arith, inr}
use Rattle.db_dir.proofs.EntryLaws.{some-none}
use Rattle.db_dir.proofs.GainLaws.{by-none}
use Rattle.db_dir.proofs.ShapeLaws.{refs-few}
use Rattle.db_dir.proofs.admit.open_as.Goals as goal

pub overflow_mul-place : goal.overflow_mul-place
overflow_mul-place g c = omega (arith, refs-few c.args.sw.now c.args.directory c.sound.ensures c.requires.held)

pub overflow_add-place : goal.overflow_add-place
overflow_add-place g c = omega (arith, refs-few c.args.sw.now c.args.directory c.sound.ensures c.requires.held)

pub overflow_add-result : goal.overflow_add-result
overflow_add-result g c = omega (arith, refs-few c.args.sw.now c.args.directory c.sound.ensures c.requires.held)

pub returns-in-Err-clause-opens : goal.returns-in-Err-clause-opens
returns-in-Err-clause-opens g c = record { place = c.args.place; below = omega arith; why = inr (inr c.in-Err.ensures.touched) }

pub returns-in_default-clause-reads : goal.returns-in_default-clause-reads
returns-in_default-clause-reads g c = some-none c.args.sw.now (g.V.Vault.outside c.args.vault.now)

pub returns-in_default-clause-gains : goal.returns-in_default-clause-gains
returns-in_default-clause-gains g c = by-none c.args.sw.now (g.V.Vault.outside c.args.vault.now) _ c.sound.ensures
