use Rattle.std.proofs.Common.{◌≡◌, ◌++◌, ◌∷◌, [], rules, refl}
use Rattle.machine_core.proofs.Popping.{puts_num}
use Rattle.machine_core.proofs.stacks.put_num.Goals as goal

pub returns-clause-takes : goal.returns-clause-takes
returns-clause-takes g c =
    let m = c.args.m.now in
    let own : c.push_reserved.new.self.own ≡ m.nums.own ++ c.args.z ∷ [] = search rules in
    λ v. record {
      sound = search rules;
      names = search rules;
      size = refl;
      does = λ conf h.
          let next = record conf { nums = c.args.z ∷ conf.nums } in
          ([], next, refl, refl, record { names = h.names; held = puts_num m (g.V.Vault.outside v) conf h.names h.held c.push_reserved.new.self c.args.z c.push_reserved.ensures.below own });
    }
