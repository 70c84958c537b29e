use Rattle.std.proofs.Common.{rules}
use Rattle.memory_vault.proofs.ToldLaws.{puts}
use Rattle.memory_vault.proofs.memory.MemoryVaultVault.put.Goals as goal

pub returns-clause-told : goal.returns-clause-told
returns-clause-told c = puts c.args.self.now _ c.args.bytes.now (search rules)
