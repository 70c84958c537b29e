use Rattle.std.proofs.Common.{◌∙◌, ap}
use Rattle.memory_host.specs.Memory.{contents_of}
use Rattle.memory_host.specs.MemoryView.{memory_of}
use Rattle.memory_host.proofs.MemoryMoments.{contents_now}
use Rattle.memory_host.proofs.memory_host.MemoryHost.contents.Goals as goal

pub returns : goal.returns
returns c = c.deref.ensures.value ∙ c.self.invariant.contents_are ∙ contents_now (memory_of c.self.inside) c.self.invariant.all_past ∙ ap contents_of c.self.view_is
