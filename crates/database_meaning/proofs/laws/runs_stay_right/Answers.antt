use Rattle.database_meaning.proofs.KeptLaws.{start-right, made-right, assigned-right, touching-right}
use Rattle.database_meaning.proofs.CallLaws.{counting-right, enter-right, asks_create-right, asks_open-right, create-right, open-right, commit-right}
use Rattle.database_meaning.proofs.laws.runs_stay_right.Goals as goal

pub returns : goal.returns
returns c = record {
  start = λ weigh replies counted stored there homed. start-right weigh replies counted stored there homed;
  makes = λ object h r low. made-right object h r low;
  counts = λ bytes h r. counting-right bytes h r;
  assigns = λ id n v h r low. assigned-right id n v h r low;
  enters = λ key table v h new r low e. enter-right key table v h new r low e;
  touches = λ ids h r. touching-right ids h r;
  asks_create = λ name h r. asks_create-right name h r;
  asks_open = λ name mode h r. asks_open-right name mode h r;
  creates = λ name password h r. create-right name password h r;
  opens = λ name password mode h r. open-right name password mode h r;
  commits = λ h r. commit-right h r;
}
