use Rattle.std.proofs.Common.{◌≡◌, take, sum_by, reverse}
use Rattle.memory_host.specs.Memory.{contents_after, filled, past}
use Rattle.memory_host.specs.MemoryView.{events_of}
use Rattle.memory_host.proofs.memory_host.replay.Given as goal

-- what the calls so far left
abbrev pub invariant-loop-call : goal.invariant-loop-call
invariant-loop-call l = record {
  from_is : l.from ≡ sum_by (λ call. call.len) (take l.call-index l.log);
  image_is : l.image.items ≡ filled l.filler l.first (past l.moment (events_of (reverse (take l.call-index l.log)) (take l.from l.kept)));
  contents_are : l.contents.items ≡ contents_after l.first (past l.moment (events_of (reverse (take l.call-index l.log)) (take l.from l.kept)));
}
