use Rattle.std.proofs.Common.{[], rules, refl, subst, sym, ap, ◌∙◌}
use Rattle.ps_stepping.specs.Machine.{with_ref}
use Rattle.joint_ops.specs.World.{DenotesIn}
use Rattle.machine_core.specs.Holding.{object_in, words_of}
use Rattle.machine_core.specs.Naming.{IsNamed}
use Rattle.machine_core.proofs.Naming.{names-written, word-named}
use Rattle.machine_core.proofs.Popping.{sets_ref}
use Rattle.machine_core.proofs.Words.{named-back}
use Rattle.machine_core.proofs.stacks.set_ref_at.Goals as goal

pub returns-clause-takes : goal.returns-clause-takes
returns-clause-takes g c =
    let m = c.args.m.now in
    λ v.
    let out = g.V.Vault.outside v in
    record {
      sound = search rules;
      names = λ n held.
          names-written m.objects (words_of m) m.writing.item c.set.new.self c.args.slot c.word.result n c.set.ensures.below c.set.ensures.own
          (subst (λ w. IsNamed m.objects w) (sym c.word.ensures) (word-named m.objects c.args.to held));
      size = refl;
      does = λ names value conf h d.
          let denoted = subst (λ to. DenotesIn m.objects out names to value) (sym (ap object_in c.word.ensures ∙ named-back m.objects out names c.args.to value c.sound.ensures d)) d in
          ([], with_ref conf c.args.slot value, refl, refl, record { names = names; held = sets_ref m out conf names h c.set.new.self c.args.slot c.word.result value c.set.ensures.below c.set.ensures.own c.requires.slot denoted });
    }
