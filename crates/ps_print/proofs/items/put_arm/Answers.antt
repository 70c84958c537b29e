use Rattle.std.proofs.Common.{◌≡◌, ◌∙◌, ap, sym, rules}
use Rattle.ps_tree.specs.Phrase.{arm, arm_of, phrase_of}
use Rattle.ps_tree.specs.PhraseLists.{phrases_in}
use Rattle.ps_tree.specs.declared.rough.RoughArm.{out-RoughArm}
use Rattle.ps_print.proofs.Views.{arm_of-parts}
use Rattle.ps_print.proofs.items.put_arm.Goals as goal

pub returns : goal.returns
returns c =
    let is : arm_of c.args.arm.now ≡ arm (phrases_in c.as_slice.result.now) (phrase_of (out-RoughArm c.args.arm.now).a) =
    arm_of-parts c.args.arm.now
    ∙ ap (λ labels. arm (phrases_in labels) (phrase_of (out-RoughArm c.args.arm.now).a)) (sym c.as_slice.ensures) in
    search (rules, is)
