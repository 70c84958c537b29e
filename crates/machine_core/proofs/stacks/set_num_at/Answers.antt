use Rattle.std.proofs.Common.{◌≡◌, set, rules}
use Rattle.machine_core.proofs.Popping.{sets_num}
use Rattle.machine_core.proofs.stacks.set_num_at.Goals as goal

pub returns-clause-becomes : goal.returns-clause-becomes
returns-clause-becomes g c =
    let m = c.args.m.now in
    let own : c.set.new.self.own ≡ set m.nums.own c.args.slot c.args.z = search rules in
    λ v. record {
      holds = λ conf h. record { names = h.names; held = sets_num m (g.V.Vault.outside v) conf h.names h.held c.set.new.self c.args.slot c.args.z c.set.ensures.below own c.requires.slot };
    }
