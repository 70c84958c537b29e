use Rattle.std.proofs.Common.{◌≡◌, ap, ◌∙◌, subst}
use Rattle.std.specs.Prelude.{IfOk}
use Rattle.ps_base.specs.List.{items_of}
use Rattle.ps_tree.specs.declared.rough.Rough.{Rough}
use Rattle.ps_tree.specs.Phrase.{Form, at, arm, phrase_of}
use Rattle.ps_tree.specs.Phrase as form
use Rattle.ps_tree.specs.PhraseLists.{arms_in}
use Rattle.ps_tree.proofs.PhraseLemmas.{form_of-Case}
use Rattle.ps_tree.proofs.build.case_of.Goals as goal

pub returns-clause-made : goal.returns-clause-made
returns-clause-made c =
    subst (λ (f : Form). IfOk c.form_at.result (λ (made : Rough). phrase_of made ≡ at f c.args.line)) (form_of-Case c.args.e c.in_ok-arms.arms c.args.d ∙ ap (λ arms. form.Case (phrase_of c.args.e) (arms_in (items_of arms)) (phrase_of c.args.d)) c.in_ok-arms.ensures.made ∙ ap (λ arms. form.Case (phrase_of c.args.e) (arms_in arms) (phrase_of c.args.d)) c.fitted.ensures) c.form_at.ensures.made
