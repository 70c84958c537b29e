use Rattle.std.proofs.Common.{refl, arith}
use Rattle.machine_core.proofs.Popping.{pushes_no_ref}
use Rattle.machine_core.proofs.stacks.push_ref.Goals as goal

pub returns-then-len-ge-FRAME_WORDS-clause-takes : goal.returns-then-len-ge-FRAME_WORDS-clause-takes
returns-then-len-ge-FRAME_WORDS-clause-takes g c =
    let m = c.args.m.now in
    λ v. record {
      sound = c.requires;
      names = λ n held. n;
      size = refl;
      does = λ names value conf h d. pushes_no_ref m (g.V.Vault.outside v) conf names h value (omega (arith, c.if-len-ge-FRAME_WORDS.true, c.len.ensures));
    }
