use Rattle.std.proofs.Common.{ℕ, Option, subst, ◌∙◌}
use Rattle.scopes.specs.Way.{HasParent}
use Rattle.scopes.proofs.WayLaws.{led-further, ends-nil, ends-fault}
use Rattle.scopes.proofs.way.scope_out.Goals as goal

pub returns-in-Ok-None-clause-out : goal.returns-in-Ok-None-clause-out
returns-in-Ok-None-clause-out g c =
    let a = g.V.Vault.outside c.args.vault.now in
    let b = g.V.Vault.outside c.loop.vault in
    let d = g.V.Vault.outside c.parent_of.new.vault in
    ends-nil c.args.sw.now c.loop.sw c.parent_of.new.sw a b d c.args.scope c.args.up c.loop.counter c.loop.at c.damaged.result c.sound.ensures
    c.loop-test.true c.loop.invariant.led
    (subst (λ (to : Option ℕ). HasParent c.loop.sw c.parent_of.new.sw b d c.loop.at to) c.in-Ok-None.field-0-is c.in-Ok-None.ensures.told)
    c.damaged.ensures

pub returns-in-Err-clause-out : goal.returns-in-Err-clause-out
returns-in-Err-clause-out g c =
    ends-fault c.args.sw.now c.loop.sw c.parent_of.new.sw (g.V.Vault.outside c.args.vault.now) (g.V.Vault.outside c.loop.vault)
    (g.V.Vault.outside c.parent_of.new.vault) c.args.scope c.args.up c.loop.counter c.loop.at c.in-Err.fault c.sound.ensures c.loop-test.true
    c.loop.invariant.led c.in-Err.ensures.told

pub loop-preserved : goal.loop-preserved
loop-preserved g c =
    let a = g.V.Vault.outside c.args.vault.now in
    let b = g.V.Vault.outside c.loop.vault in
    let d = g.V.Vault.outside c.parent_of.new.vault in
    let was = c.loop.invariant.numbers in
    let next = c.in-Ok-Some.ensures.numbers in
    record {
      led = led-further c.args.sw.now c.loop.sw c.parent_of.new.sw a b d c.args.scope c.loop.counter c.loop.at c.in-Ok-Some.parent
          c.loop.invariant.led
          (subst (λ (to : Option ℕ). HasParent c.loop.sw c.parent_of.new.sw b d c.loop.at to) c.in-Ok-Some.field-0-is c.in-Ok-Some.ensures.told);
      numbers = (next.0 ∙ was.0, next.1 ∙ was.1, next.2 ∙ was.2, next.3 ∙ was.3);
      alive = c.in-Ok-Some.ensures.alive;
    }
