use Rattle.std.proofs.Common.{refl, ◌∙◌}
use Rattle.ps_port.proofs.Telling.{joined-next}
use Rattle.vault_output.proofs.SendingLaws.{sends-kept}
use Rattle.machine_run.proofs.Telling.{sends-part, fails-part}
use Rattle.machine_run.proofs.tell.pieces.Goals as goal

pub loop-part-init : goal.loop-part-init
loop-part-init g c = record { sends = sends-kept (g.V.Vault.outside c.args.vault.now) _ _ refl; numbers = (refl, refl, refl, refl); alive = c.requires }

pub returns-in-Err-clause-sends : goal.returns-in-Err-clause-sends
returns-in-Err-clause-sends g c =
    let outside = g.V.Vault.outside in
    fails-part (outside c.args.vault.now) (outside c.loop-part.vault) (outside c.write.new.vault) _ c.loop-part.output _ _ _ c.write.new.self c.in-Err.fault
    c.loop-part.invariant.sends (joined-next c.args.parts.now c.loop-part.part-index _ c.loop-part-test.true) c.in-Err.ensures.sends

pub loop-part-preserved : goal.loop-part-preserved
loop-part-preserved g c =
    let outside = g.V.Vault.outside in
    let was = c.loop-part.invariant.numbers in
    let now = c.in_default.ensures.numbers in
    record {
      sends = sends-part (outside c.args.vault.now) (outside c.loop-part.vault) (outside c.write.new.vault) _ c.loop-part.output _ _ _ c.write.new.self
          c.loop-part.invariant.sends (joined-next c.args.parts.now c.loop-part.part-index _ c.loop-part-test.true) c.in_default.ensures.sends;
      numbers = (now.0 ∙ was.0, now.1 ∙ was.1, now.2 ∙ was.2, now.3 ∙ was.3);
      alive = c.in_default.ensures.alive;
    }
