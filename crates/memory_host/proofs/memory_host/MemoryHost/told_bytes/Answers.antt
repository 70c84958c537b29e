use Rattle.std.proofs.Common.{◌∙◌, ap}
use Rattle.memory_host.specs.Memory.{Memory, told_at}
use Rattle.memory_host.specs.MemoryView.{memory_of}
use Rattle.memory_host.proofs.MemoryMoments.{told_now}
use Rattle.memory_host.proofs.memory_host.MemoryHost.told_bytes.Goals as goal

pub returns : goal.returns
returns c = c.deref.ensures.value ∙ c.self.invariant.told_are ∙ told_now (memory_of c.self.inside) c.self.invariant.all_past ∙ ap (λ (m : Memory). told_at m m.clock) c.self.view_is
