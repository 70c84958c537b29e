use Rattle.std.proofs.Common.{ap, ◌∙◌}
use Rattle.ps_tree.specs.Phrase.{arm, phrase_of}
use Rattle.ps_tree.specs.PhraseLists.{phrases_in}
use Rattle.ps_tree.proofs.PhraseLemmas.{arm_of-made}
use Rattle.ps_tree.proofs.build.arm_of.Goals as goal

pub returns : goal.returns
returns c =
    arm_of-made c.fitted-labels.result c.args.a ∙ ap (λ labels. arm (phrases_in labels) (phrase_of c.args.a)) c.fitted-labels.ensures
