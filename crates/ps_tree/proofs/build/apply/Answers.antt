use Rattle.std.proofs.Common.{◌≡◌, ap, ◌∙◌, subst}
use Rattle.std.specs.Prelude.{IfOk}
use Rattle.ps_tree.specs.declared.rough.Rough.{Rough}
use Rattle.ps_tree.specs.Phrase.{Form, at, arm, phrase_of}
use Rattle.ps_tree.specs.Phrase as form
use Rattle.ps_tree.specs.PhraseLists.{phrases_in}
use Rattle.ps_tree.proofs.PhraseLemmas.{form_of-Apply}
use Rattle.ps_tree.proofs.build.apply.Goals as goal

pub returns-clause-made : goal.returns-clause-made
returns-clause-made c =
    subst (λ (f : Form). IfOk c.form_at.result (λ (made : Rough). phrase_of made ≡ at f c.args.line)) (form_of-Apply c.args.f c.fitted-args.result ∙ ap (λ args. form.Apply (phrase_of c.args.f) (phrases_in args)) c.fitted-args.ensures) c.form_at.ensures.made
