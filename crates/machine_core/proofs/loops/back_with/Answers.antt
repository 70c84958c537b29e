use Rattle.std.proofs.Common.{◌≡◌, ℤ, subst, w32}
use Rattle.std.proofs.lemmas.Int.{to_z-of_z}
use Rattle.ps_stepping.specs.Machine.{with_num, back}
use Rattle.joint_ops.specs.swizzle.Heap as area
use Rattle.machine_core.specs.Stepped.{Does, UnlessBroken}
use Rattle.machine_core.specs.inside.Taking.{Becomes}
use Rattle.machine_core.proofs.loops.back_with.Goals as goal

pub returns-clause-takes : goal.returns-clause-takes
returns-clause-takes g c =
    let m = c.args.m.now in
    let left = c.set_num_at.ensures.leaves in
    let new = c.back.new.m in
    let r = c.back.result in
    λ v.
    let out = g.V.Vault.outside v in
    let t = c.back.ensures.takes v in
    let set : Becomes out (λ conf. with_num conf c.args.slot c.args.z) m c.set_num_at.new.m =
    subst (λ (z : ℤ). Becomes out (λ conf. with_num conf c.args.slot z) m c.set_num_at.new.m) (to_z-of_z w32 c.args.z c.ranges.z) (c.set_num_at.ensures.becomes v) in
    record {
      sound = t.sound;
      names = λ n. t.names (left.names n);
      size = subst (λ (here : area.Heap). UnlessBroken r (new.objects.size ≡ here.size)) left.objects t.size;
      does = λ conf h.
          let next = with_num conf c.args.slot c.args.z in
          subst (λ (here : area.Heap). Does out out here.size (back c.args.own c.args.to next) r new) left.objects (t.does next (set.holds conf h));
    }
