use Rattle.heap_fit.proofs.KeptDatabases.{nothing-fit, fit-databases, start-keeps, makes-keeps, counts-keeps, assigns-keeps, enters-keeps, touches-keeps, asks_create-keeps, asks_open-keeps}
use Rattle.heap_fit.proofs.KeptCalls.{creates-keeps, opens-keeps, commits-keeps, saves-fit}
use Rattle.heap_fit.proofs.laws.runs_keep_databases_fit.Goals as goal

pub returns : goal.returns
returns c = record {
  nothing = nothing-fit;
  fit = fit-databases;
  start = start-keeps;
  makes = makes-keeps;
  counts = counts-keeps;
  assigns = assigns-keeps;
  enters = enters-keeps;
  touches = touches-keeps;
  asks_create = asks_create-keeps;
  asks_open = asks_open-keeps;
  creates = creates-keeps;
  opens = opens-keeps;
  commits = commits-keeps;
  saves = saves-fit;
}
