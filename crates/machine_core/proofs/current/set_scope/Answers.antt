use Rattle.std.proofs.Common.{subst, sym, ap, ◌∙◌, Option, ℕ}
use Rattle.joint_ops.specs.World.{DenotesScopeIn}
use Rattle.machine_core.specs.Holding.{object_in}
use Rattle.machine_core.specs.Naming.{IsNamed}
use Rattle.machine_core.proofs.Naming.{word-named}
use Rattle.machine_core.proofs.Words.{scope-named-back}
use Rattle.machine_core.proofs.current.set_scope.Goals as goal

pub returns-clause-names : goal.returns-clause-names
returns-clause-names g c = λ n held.
    let m = c.args.m.now in
    record {
      code = n.code;
      scope = subst (λ (w : ℕ). IsNamed m.objects w) (sym c.word-m.ensures) (word-named m.objects c.args.to held);
      own = n.own;
      below = n.below;
      callers = n.callers;
      item = n.item;
      databases = n.databases;
    }

pub returns-clause-enters : goal.returns-clause-enters
returns-clause-enters g c =
    let m = c.args.m.now in
    λ v.
    let out = g.V.Vault.outside v in
    record {
      holds = λ names conf scope h d. record {
        unit_is = h.unit_is;
        fit = h.fit;
        frame_is = h.frame_is;
        at_is = h.at_is;
        nums_are = h.nums_are;
        refs_are = h.refs_are;
        scope_is = subst (λ (to : Option ℕ). DenotesScopeIn m.objects out names to scope) (sym (ap object_in c.word-m.ensures ∙ scope-named-back m.objects out names c.args.to scope c.sound.ensures d)) d;
        callers_are = h.callers_are;
        input_is = h.input_is;
        turns_are = h.turns_are;
        run = h.run;
      };
    }
