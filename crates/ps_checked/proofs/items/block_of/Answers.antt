use Rattle.std.proofs.Common.{refl, sym, None}
use Rattle.ps_program.proofs.NodeLists.{block_is}
use Rattle.ps_declared.proofs.Steps.{remade}
use Rattle.ps_checked.proofs.items.block_of.Goals as goal

pub returns : goal.returns
returns c = remade _ _ _ c.new.result (block_is _ None _ c.args.items.items refl (sym c.new-items.ensures)) c.new.ensures
