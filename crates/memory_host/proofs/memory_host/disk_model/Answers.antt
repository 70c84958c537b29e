use Rattle.memory_host.proofs.DiskModel.{disk_model}
use Rattle.memory_host.proofs.memory_host.disk_model.Goals as goal

pub returns : goal.returns
returns c = disk_model
