use Rattle.std.proofs.Common.{ℕ}
use Rattle.joint_ops.proofs.of_swizzle.ReadingLaws.{leaves-touch, fails-touch}
use Rattle.joint_ops.proofs.SeenLaws.{grows-within, keeps-carries}
use Rattle.joint_ops.proofs.of_heap_meaning.PairedLaws.{row-within}
use Rattle.joint_ops.specs.World.{seen}
use Rattle.std.specs.Prelude.{Ok, Err}
use Rattle.objects.proofs.LastingLaws.{keeps-lasts}
use Rattle.objects.proofs.KnownLaws.{right-stays}
use Rattle.objects.proofs.objects.residence.fetch_pid.Goals as goal

pub returns-in-Ok-clause-held : goal.returns-in-Ok-clause-held
returns-in-Ok-clause-held g c = c.in-Ok.ensures.place.held

pub returns-in-Ok-clause-world : goal.returns-in-Ok-clause-world
returns-in-Ok-clause-world g c of names w =
    let before = g.V.Vault.outside c.args.vault.now in
    let after = g.V.Vault.outside c.touch_pid.new.vault in
    let old = c.args.sw.now in
    let new = c.touch_pid.new.self in
    let grows = grows-within old new before after c.in-Ok.ensures.keeps c.in-Ok.ensures.joint.grows c.in-Ok.ensures.call.contents in
    record {
      world = record { row = row-within (seen old before) (seen new after) of names grows w.row };
      carries = keeps-carries old new before after names names c.in-Ok.ensures.keeps grows (λ n id p. p);
    }

pub returns-in-Ok-clause-leaves : goal.returns-in-Ok-clause-leaves
returns-in-Ok-clause-leaves g c =
    leaves-touch {T = ℕ} c.args.sw.now c.touch_pid.new.self (g.V.Vault.outside c.args.vault.now) (g.V.Vault.outside c.touch_pid.new.vault) (Ok c.in-Ok.at)
    c.in-Ok.ensures.call

pub returns-in-Ok-clause-right : goal.returns-in-Ok-clause-right
returns-in-Ok-clause-right g c =
    right-stays c.args.sw.now c.touch_pid.new.self c.args.known.now c.requires.right (keeps-lasts c.args.sw.now c.touch_pid.new.self c.in-Ok.ensures.keeps)

pub returns-in-Err-clause-leaves : goal.returns-in-Err-clause-leaves
returns-in-Err-clause-leaves g c =
    leaves-touch {T = ℕ} c.args.sw.now c.touch_pid.new.self (g.V.Vault.outside c.args.vault.now) (g.V.Vault.outside c.touch_pid.new.vault) (Err c.in-Err.fault)
    c.in-Err.ensures.call

pub returns-in-Err-clause-fails : goal.returns-in-Err-clause-fails
returns-in-Err-clause-fails g c =
    fails-touch {T = ℕ} c.args.sw.now c.touch_pid.new.self (g.V.Vault.outside c.args.vault.now) (g.V.Vault.outside c.touch_pid.new.vault) c.in-Err.fault
    c.in-Err.ensures.call

pub returns-in-Err-clause-right : goal.returns-in-Err-clause-right
returns-in-Err-clause-right g c = c.clear.ensures c.touch_pid.new.self
