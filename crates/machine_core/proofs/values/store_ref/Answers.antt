use Rattle.std.proofs.Common.{ap, sym, subst}
use Rattle.std.specs.Prelude.{if◌then◌else◌}
use Rattle.ps_stepping.specs.Machine.{on, with_ref, Stuck}
use Rattle.machine_core.specs.Stepped.{Does}
use Rattle.machine_core.proofs.Popping.{ref_slot}
use Rattle.machine_core.proofs.values.store_ref.Goals as goal

pub returns-clause-takes : goal.returns-clause-takes
returns-clause-takes g c =
    let m = c.args.m.now in
    let set = c.set_ref_at in
    λ v.
    let out = g.V.Vault.outside v in
    let t = set.ensures.takes v in
    record {
      sound = t.sound;
      names = t.names;
      size = t.size;
      does = λ names value conf h d.
          subst (λ s. Does out out m.objects.size s set.result set.new.m)
          (sym (ap (λ b. if b then on (with_ref conf c.args.slot value) else Stuck) (ref_slot m out conf names h c.args.slot c.if-slot-m.false)))
          (t.does names value conf h d);
    }
