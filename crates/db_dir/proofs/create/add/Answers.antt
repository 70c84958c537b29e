use Rattle.std.proofs.Common.{arith}
use Rattle.db_dir.proofs.create.add.Goals as goal

pub returns-in-Ok : goal.returns-in-Ok
returns-in-Ok c = record {
  count = c.count_of-count.result;
  counts = c.count_of-count.ensures.counts;
  few = omega (arith, c.count_of-count.ensures.few, c.if-count-eq-MOST_DATABASES.false);
  number_is = omega arith;
  made_is = c.in-Ok.ensures;
}

pub returns-in-Err : goal.returns-in-Err
returns-in-Err c = record {
  count = c.count_of-count.result;
  counts = c.count_of-count.ensures.counts;
  few = omega (arith, c.count_of-count.ensures.few, c.if-count-eq-MOST_DATABASES.false);
  full = c.in-Err.ensures;
}
