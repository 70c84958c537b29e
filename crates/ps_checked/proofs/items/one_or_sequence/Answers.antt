use Rattle.std.proofs.Common.{◌≢◌, length, rules}
use Rattle.ps_declared.proofs.Steps.{remade}
use Rattle.ps_checked.proofs.Together.{several}
use Rattle.ps_checked.proofs.items.one_or_sequence.Goals as goal

pub returns-then-len-ne1 : goal.returns-then-len-ne1
returns-then-len-ne1 c =
    let other : length c.args.items.items ≢ 1 = search rules in
    remade _ _ _ c.block_of.result (several c.args.items.items other) c.block_of.ensures
