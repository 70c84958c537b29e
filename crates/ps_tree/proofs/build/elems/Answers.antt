use Rattle.std.proofs.Common.{◌≡◌, ap, ◌∙◌, subst}
use Rattle.std.specs.Prelude.{IfOk}
use Rattle.ps_base.specs.TyView.{ty_view}
use Rattle.ps_tree.specs.declared.rough.Rough.{Rough}
use Rattle.ps_tree.specs.Phrase.{Form, at, arm, phrase_of}
use Rattle.ps_tree.specs.Phrase as form
use Rattle.ps_tree.specs.PhraseLists.{phrases_in}
use Rattle.ps_tree.proofs.PhraseLemmas.{form_of-Elems}
use Rattle.ps_tree.proofs.build.elems.Goals as goal

pub returns-clause-made : goal.returns-clause-made
returns-clause-made c =
    subst (λ (f : Form). IfOk c.form_at.result (λ (made : Rough). phrase_of made ≡ at f c.args.line)) (form_of-Elems c.args.l c.in_ok-ty.ty c.fitted-items.result ∙ ap (λ items. form.Elems (phrase_of c.args.l) (ty_view c.in_ok-ty.ty.value) (phrases_in items)) c.fitted-items.ensures ∙ ap (λ ty. form.Elems (phrase_of c.args.l) (ty_view ty) (phrases_in c.args.items.items)) c.in_ok-ty.ensures.made) c.form_at.ensures.made
