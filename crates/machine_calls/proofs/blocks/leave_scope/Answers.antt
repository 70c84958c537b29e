use Rattle.machine_calls.proofs.Current.{goes-out}
use Rattle.machine_calls.proofs.blocks.leave_scope.Goals as goal

pub returns-in-Ok-clause-takes : goal.returns-in-Ok-clause-takes
returns-in-Ok-clause-takes g c =
    let v = c.args.vault.now in
    let w = c.parent_of-got.new.vault in
    let got = c.in-Ok.ensures in
    let entered = c.set_scope.ensures in
    goes-out (g.V.Vault.outside v) (g.V.Vault.outside w) c.args.m.now c.parent_of-got.new.self c.in-Some.at (c.in-Some.ensures.denotes v) c.in-Ok.parent
    c.set_scope.new.m got.keeps got.got entered.sound entered.objects (λ n. entered.names n got.held) (entered.enters w)
