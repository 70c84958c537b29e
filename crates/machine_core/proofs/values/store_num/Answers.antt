use Rattle.std.proofs.Common.{ap, refl, [], rules}
use Rattle.std.specs.Prelude.{if◌then◌else◌}
use Rattle.ps_stepping.specs.Machine.{on, with_num, Stuck}
use Rattle.joint_ops.specs.swizzle.Heap as area
use Rattle.machine_core.specs.inside.Taking.{Becomes}
use Rattle.machine_core.proofs.Popping.{num_slot}
use Rattle.machine_core.proofs.values.store_num.Goals as goal

pub returns-clause-takes : goal.returns-clause-takes
returns-clause-takes g c =
    let m = c.args.m.now in
    let left = c.set_num_at.ensures.leaves in
    λ v.
    let out = g.V.Vault.outside v in
    let set : Becomes out (λ conf. with_num conf c.args.slot c.args.z) m c.set_num_at.new.m = search (rules, c.set_num_at.ensures.becomes v) in
    record {
      sound = left.sound;
      names = left.names;
      size = ap (λ (here : area.Heap). here.size) left.objects;
      does = λ conf h.
          let next = with_num conf c.args.slot c.args.z in
          ([], next, ap (λ b. if b then on next else Stuck) (num_slot m out conf h.names h.held c.args.slot c.if-slot-m.false), refl, set.holds conf h);
    }
