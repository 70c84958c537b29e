use Rattle.std.proofs.Common.{◌≡◌, ◌∙◌, ℕ, ◌+◌, ◌-◌, refl, subst, arith}
use Rattle.machine_run.proofs.Telling.{leaves-none, leaves-then}
use Rattle.machine_run.proofs.Between.{IsBetween, between_none, between_more, between_turns, between_again, between_ends, between_breaks, between_fails}
use Rattle.machine_run.proofs.run.run.Goals as goal

pub loop-steps-init : goal.loop-steps-init
loop-steps-init g c =
    let out = g.V.Vault.outside c.args.vault.now in
    record {
      between = between_none out c.args.output.now c.args.m.now c.sound.ensures c.requires.sound (leaves-none out);
      sound = c.requires.sound;
      names = c.requires.names;
      numbers = (refl, refl, refl, refl);
      alive = c.requires.alive;
      few = omega arith;
      most = omega arith;
    }

pub loop-steps-preserved-then-steps-gt1 : goal.loop-steps-preserved-then-steps-gt1
loop-steps-preserved-then-steps-gt1 g c =
    let out = g.V.Vault.outside in
    let old = out c.args.vault.now in
    let mid = out c.loop-steps.vault in
    let new = out c.advance-advanced.new.vault in
    let was = c.loop-steps.invariant in
    let on = c.in-On.ensures in
    let m = c.advance-advanced.new.m in
    let few = was.few in
    let most = was.most in
    let more = c.if-steps-gt1.true in
    let same : c.loop-steps.steps ≡ (c.loop-steps.steps - 1) + 1 = omega (arith, few) in
    let before = subst (λ (n : ℕ). IsBetween old mid c.args.output.now c.loop-steps.output c.args.m.now c.loop-steps.m c.loop-steps.turns n) same was.between in
    let numbers = was.numbers in
    let now = on.numbers in
    record {
      between = between_more old mid new c.args.output.now c.loop-steps.output c.advance-advanced.new.output c.args.m.now c.loop-steps.m m c.loop-steps.turns
          (c.loop-steps.steps - 1) c.sound-in-loop-steps.ensures on.sound (leaves-then old mid new was.between.leaves on.leaves) before on.advances;
      sound = on.sound;
      names = on.names;
      numbers = (now.0 ∙ numbers.0, now.1 ∙ numbers.1, now.2 ∙ numbers.2, now.3 ∙ numbers.3);
      alive = on.alive;
      few = omega (arith, more);
      most = omega (arith, most);
    }

pub returns-then-m-turns-clause-ran : goal.returns-then-m-turns-clause-ran
returns-then-m-turns-clause-ran g c conf h =
    let out = g.V.Vault.outside in
    let old = out c.args.vault.now in
    let mid = out c.loop-steps.vault in
    let new = out c.advance-advanced.new.vault in
    let was = c.loop-steps.invariant in
    let on = c.in-On.ensures in
    let m = c.advance-advanced.new.m in
    let few = was.few in
    let none = c.if-steps-gt1.false in
    let same : c.loop-steps.steps ≡ 1 = omega (arith, few, none) in
    let before = subst (λ (n : ℕ). IsBetween old mid c.args.output.now c.loop-steps.output c.args.m.now c.loop-steps.m c.loop-steps.turns n) same was.between in
    let between = between_more old mid new c.args.output.now c.loop-steps.output c.advance-advanced.new.output c.args.m.now c.loop-steps.m m c.loop-steps.turns
    0 c.sound-in-loop-steps.ensures on.sound (leaves-then old mid new was.between.leaves on.leaves) before on.advances in
    let high = c.if-m-turns.true in
    absurd (between_turns old new c.args.output.now c.advance-advanced.new.output c.args.m.now m c.loop-steps.turns (omega (arith, high)) between conf h)

pub loop-steps-preserved : goal.loop-steps-preserved
loop-steps-preserved g c =
    let out = g.V.Vault.outside in
    let old = out c.args.vault.now in
    let mid = out c.loop-steps.vault in
    let new = out c.advance-advanced.new.vault in
    let was = c.loop-steps.invariant in
    let on = c.in-On.ensures in
    let m = c.advance-advanced.new.m in
    let few = was.few in
    let none = c.if-steps-gt1.false in
    let same : c.loop-steps.steps ≡ 1 = omega (arith, few, none) in
    let before = subst (λ (n : ℕ). IsBetween old mid c.args.output.now c.loop-steps.output c.args.m.now c.loop-steps.m c.loop-steps.turns n) same was.between in
    let between = between_more old mid new c.args.output.now c.loop-steps.output c.advance-advanced.new.output c.args.m.now c.loop-steps.m m c.loop-steps.turns
    0 c.sound-in-loop-steps.ensures on.sound (leaves-then old mid new was.between.leaves on.leaves) before on.advances in
    let numbers = was.numbers in
    let now = on.numbers in
    record {
      between = between_again old new c.args.output.now c.advance-advanced.new.output c.args.m.now m c.loop-steps.turns c.sound-in-loop-steps.ensures on.sound between;
      sound = on.sound;
      names = on.names;
      numbers = (now.0 ∙ numbers.0, now.1 ∙ numbers.1, now.2 ∙ numbers.2, now.3 ∙ numbers.3);
      alive = on.alive;
      few = omega arith;
      most = omega arith;
    }

pub returns-in-Ended-clause-ran : goal.returns-in-Ended-clause-ran
returns-in-Ended-clause-ran g c conf h =
    let out = g.V.Vault.outside in
    between_ends (out c.args.vault.now) (out c.loop-steps.vault) (out c.advance-advanced.new.vault) c.args.output.now c.loop-steps.output c.advance-advanced.new.output
    c.args.m.now c.loop-steps.m c.advance-advanced.new.m c.loop-steps.turns c.loop-steps.invariant.between (out c.finish.new.vault) c.finish.new.output c.finish.result
    c.in-Ended.ensures.advances c.finish.ensures.reports conf h

pub returns-in-Broke-clause-ran : goal.returns-in-Broke-clause-ran
returns-in-Broke-clause-ran g c conf h =
    let out = g.V.Vault.outside in
    between_breaks (out c.args.vault.now) (out c.loop-steps.vault) (out c.advance-advanced.new.vault) c.args.output.now c.loop-steps.output c.advance-advanced.new.output
    c.args.m.now c.loop-steps.m c.advance-advanced.new.m c.loop-steps.turns c.loop-steps.invariant.between c.in-Broke.ensures.advances conf h

pub returns-in-Failed-clause-ran : goal.returns-in-Failed-clause-ran
returns-in-Failed-clause-ran g c conf h =
    let out = g.V.Vault.outside in
    between_fails (out c.args.vault.now) (out c.loop-steps.vault) (out c.advance-advanced.new.vault) c.args.output.now c.loop-steps.output c.advance-advanced.new.output
    c.args.m.now c.loop-steps.m c.advance-advanced.new.m c.loop-steps.turns c.loop-steps.invariant.between c.in-Failed.ensures.advances conf h
