use Rattle.std.proofs.Common.{◌≡◌, take}
use Rattle.memory_host.proofs.Writes.{writes_in}
use Rattle.memory_host.proofs.memory_host.MemoryHost.writes.Given as goal

-- the writes among the calls so far
abbrev pub invariant-loop-call : goal.invariant-loop-call
invariant-loop-call l = l.count ≡ writes_in (take l.call-index l.call-items)
