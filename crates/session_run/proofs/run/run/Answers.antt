use Rattle.std.proofs.Common.{◌≡◌, ◌∙◌, ℕ, ◌+◌, ◌-◌, refl, subst, arith}
use Rattle.session_run.proofs.Stepping.{goes-none, goes-then}
use Rattle.session_run.proofs.Between.{IsBetween, between_none, between_more, between_turns, between_again, between_ends, between_breaks, between_fails}
use Rattle.session_run.proofs.run.run.Goals as goal

pub loop-steps-init : goal.loop-steps-init
loop-steps-init g c =
    let out = g.V.Vault.outside c.args.vault.now in
    record {
      between = between_none out c.args.output.now c.args.m.now c.sound.ensures c.requires.sound (goes-none out);
      sound = c.requires.sound;
      names = c.requires.names;
      limits = (refl, refl);
      room = refl;
      alive = c.requires.alive;
      few = omega arith;
      most = omega arith;
    }

pub loop-steps-preserved-then-steps-gt1 : goal.loop-steps-preserved-then-steps-gt1
loop-steps-preserved-then-steps-gt1 g c =
    let out = g.V.Vault.outside in
    let old = out c.args.vault.now in
    let mid = out c.loop-steps.vault in
    let new = out c.advance-advanced.new.vault in
    let was = c.loop-steps.invariant in
    let on = c.in-On.ensures in
    let m = c.advance-advanced.new.m in
    let few = was.few in
    let most = was.most in
    let more = c.if-steps-gt1.true in
    let same : c.loop-steps.steps ≡ (c.loop-steps.steps - 1) + 1 = omega (arith, few) in
    let before = subst (λ (n : ℕ). IsBetween old mid c.args.output.now c.loop-steps.output c.args.m.now c.loop-steps.m c.loop-steps.turns n) same was.between in
    let limits = was.limits in
    let now = on.limits in
    record {
      between = between_more old mid new c.args.output.now c.loop-steps.output c.advance-advanced.new.output c.args.m.now c.loop-steps.m m c.loop-steps.turns
          (c.loop-steps.steps - 1) c.sound-in-loop-steps.ensures on.sound (goes-then old mid new was.between.goes on.seen) before on.advances;
      sound = on.sound;
      names = on.names;
      limits = (now.0 ∙ limits.0, now.1 ∙ limits.1);
      room = on.room ∙ was.room;
      alive = on.alive;
      few = omega (arith, more);
      most = omega (arith, most);
    }

pub returns-then-m-turns-clause-ran : goal.returns-then-m-turns-clause-ran
returns-then-m-turns-clause-ran g c conf h alone =
    let out = g.V.Vault.outside in
    let old = out c.args.vault.now in
    let mid = out c.loop-steps.vault in
    let new = out c.advance-advanced.new.vault in
    let was = c.loop-steps.invariant in
    let on = c.in-On.ensures in
    let m = c.advance-advanced.new.m in
    let few = was.few in
    let none = c.if-steps-gt1.false in
    let same : c.loop-steps.steps ≡ 1 = omega (arith, few, none) in
    let before = subst (λ (n : ℕ). IsBetween old mid c.args.output.now c.loop-steps.output c.args.m.now c.loop-steps.m c.loop-steps.turns n) same was.between in
    let between = between_more old mid new c.args.output.now c.loop-steps.output c.advance-advanced.new.output c.args.m.now c.loop-steps.m m c.loop-steps.turns
    0 c.sound-in-loop-steps.ensures on.sound (goes-then old mid new was.between.goes on.seen) before on.advances in
    let high = c.if-m-turns.true in
    absurd (between_turns old new c.args.output.now c.advance-advanced.new.output c.args.m.now m c.loop-steps.turns (omega (arith, high)) between conf h alone)

pub loop-steps-preserved : goal.loop-steps-preserved
loop-steps-preserved g c =
    let out = g.V.Vault.outside in
    let old = out c.args.vault.now in
    let mid = out c.loop-steps.vault in
    let new = out c.advance-advanced.new.vault in
    let was = c.loop-steps.invariant in
    let on = c.in-On.ensures in
    let m = c.advance-advanced.new.m in
    let few = was.few in
    let none = c.if-steps-gt1.false in
    let same : c.loop-steps.steps ≡ 1 = omega (arith, few, none) in
    let before = subst (λ (n : ℕ). IsBetween old mid c.args.output.now c.loop-steps.output c.args.m.now c.loop-steps.m c.loop-steps.turns n) same was.between in
    let between = between_more old mid new c.args.output.now c.loop-steps.output c.advance-advanced.new.output c.args.m.now c.loop-steps.m m c.loop-steps.turns
    0 c.sound-in-loop-steps.ensures on.sound (goes-then old mid new was.between.goes on.seen) before on.advances in
    let limits = was.limits in
    let now = on.limits in
    record {
      between = between_again old new c.args.output.now c.advance-advanced.new.output c.args.m.now m c.loop-steps.turns c.sound-in-loop-steps.ensures on.sound between;
      sound = on.sound;
      names = on.names;
      limits = (now.0 ∙ limits.0, now.1 ∙ limits.1);
      room = on.room ∙ was.room;
      alive = on.alive;
      few = omega arith;
      most = omega arith;
    }

pub returns-in-Ended-clause-ran : goal.returns-in-Ended-clause-ran
returns-in-Ended-clause-ran g c conf h alone =
    let out = g.V.Vault.outside in
    let old = out c.args.vault.now in
    let mid = out c.loop-steps.vault in
    let new = out c.advance-advanced.new.vault in
    let was = c.loop-steps.invariant in
    between_ends old mid new c.args.output.now c.loop-steps.output c.advance-advanced.new.output
    c.args.m.now c.loop-steps.m c.advance-advanced.new.m c.loop-steps.turns out was.between (out c.finish.new.vault) c.finish.new.output c.finish.result
    (goes-then old mid new was.between.goes c.in-Ended.ensures.seen) c.in-Ended.ensures.advances c.finish.ensures.reports conf h alone

pub returns-in-Broke-clause-ran : goal.returns-in-Broke-clause-ran
returns-in-Broke-clause-ran g c conf h alone =
    let out = g.V.Vault.outside in
    between_breaks (out c.args.vault.now) (out c.loop-steps.vault) (out c.advance-advanced.new.vault) c.args.output.now c.loop-steps.output c.advance-advanced.new.output
    c.args.m.now c.loop-steps.m c.advance-advanced.new.m c.loop-steps.turns out c.loop-steps.invariant.between c.loop-steps.vault refl c.in-Broke.ensures.advances conf h alone

pub returns-in-Failed-clause-ran : goal.returns-in-Failed-clause-ran
returns-in-Failed-clause-ran g c conf h alone =
    let out = g.V.Vault.outside in
    between_fails (out c.args.vault.now) (out c.loop-steps.vault) (out c.advance-advanced.new.vault) c.args.output.now c.loop-steps.output c.advance-advanced.new.output
    c.args.m.now c.loop-steps.m c.advance-advanced.new.m c.loop-steps.turns out c.loop-steps.invariant.between c.in-Failed.ensures.advances conf h alone
