use Rattle.std.proofs.Common.{◌≡◌, ◌+◌, ◌-◌, ◌∷◌, [], ◌∙◌, set, length, refl, arith, rules}
use Rattle.ps_stepping.specs.Config.{Config}
use Rattle.machine_core.proofs.Popping.{puts_for_two, but_two}
use Rattle.machine_core.proofs.stacks.put_for_two.Goals as goal

pub returns-clause-takes : goal.returns-clause-takes
returns-clause-takes g c =
    let m = c.args.m.now in
    let z = c.args.z in
    let some = c.requires.room in
    let cut = c.truncate.new.self in
    let last = c.len-left.result - 1 in
    let put : c.set.new.self.own ≡ set cut.own (last - 1) z = search rules in
    let end : last + 1 ≡ length m.nums.own = omega (arith, some, c.len-left.ensures) in
    let all = but_two m.nums.own cut.own last (last - 1) z (omega (arith, some)) c.truncate.ensures.own end (omega (arith, some, end)) in
    λ v. record {
      sound = search rules;
      names = search rules;
      size = refl;
      does = λ conf a b rest h tops.
          let next : Config = record conf { nums = z ∷ rest } in (
            [],
            next,
            refl,
            refl,
            record { names = h.names; held = puts_for_two m (g.V.Vault.outside v) conf h.names h.held c.set.new.self a b z rest (c.set.ensures.below ∙ c.truncate.ensures.below) some tops (put ∙ all) },
          );
    }
