use Rattle.std.proofs.Common.{[], rules, refl, subst, sym}
use Rattle.joint_ops.specs.World.{DenotesIn}
use Rattle.machine_core.specs.Holding.{word_of, words_of}
use Rattle.machine_core.proofs.Naming.{names-pushed, word-named}
use Rattle.machine_core.proofs.Popping.{pushes_ref}
use Rattle.machine_core.proofs.Words.{named-back}
use Rattle.machine_core.proofs.stacks.put_ref.Goals as goal

pub returns-clause-takes : goal.returns-clause-takes
returns-clause-takes g c =
    let m = c.args.m.now in
    let w = word_of c.args.to in
    λ v.
    let out = g.V.Vault.outside v in
    record {
      sound = search rules;
      names = λ n held.
          names-pushed m.objects (words_of m) m.writing.item c.push_reserved.new.self w n c.push_reserved.ensures.below (search rules) (word-named m.objects c.args.to held);
      size = refl;
      does = λ names value conf h d.
          let denoted = subst (λ to. DenotesIn m.objects out names to value) (sym (named-back m.objects out names c.args.to value c.sound.ensures d)) d in
          let p = pushes_ref m out conf names h c.push_reserved.new.self w value c.push_reserved.ensures.below (search rules) c.requires.room denoted in
          ([], p.0, p.1, refl, record { names = names; held = p.2 });
    }
