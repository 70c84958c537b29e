use Rattle.std.proofs.Common.{subst, refl, arith, rules}
use Rattle.ps_stepping.specs.Machine.{put_num}
use Rattle.machine_core.specs.Stepped.{Does, Takes}
use Rattle.machine_core.proofs.Popping.{pushes_num, pushes_none}
use Rattle.machine_core.proofs.stacks.push_num.Goals as goal

pub returns-then-len-ge-FRAME_WORDS-clause-takes : goal.returns-then-len-ge-FRAME_WORDS-clause-takes
returns-then-len-ge-FRAME_WORDS-clause-takes g c =
    let m = c.args.m.now in
    λ v. record {
      sound = c.requires;
      names = λ n. n;
      size = refl;
      does = λ conf h. pushes_none m (g.V.Vault.outside v) conf h.names h.held c.args.z (omega (arith, c.if-len-ge-FRAME_WORDS.true, c.len.ensures));
    }

pub returns-clause-takes : goal.returns-clause-takes
returns-clause-takes g c =
    let m = c.args.m.now in
    let put = c.put_num in
    λ v.
    let out = g.V.Vault.outside v in
    let takes : Takes out out (put_num c.args.z) m put.new.m put.result = search (rules, put.ensures.takes v) in
    record {
      sound = takes.sound;
      names = takes.names;
      size = takes.size;
      does = λ conf h. subst (λ s. Does out out m.objects.size s put.result put.new.m)
          (pushes_num m out conf h.names h.held c.args.z (omega (arith, c.if-len-ge-FRAME_WORDS.false, c.len.ensures)))
          (takes.does conf h);
    }
