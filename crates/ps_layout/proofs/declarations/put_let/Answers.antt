use Rattle.std.proofs.Common.{◌≡◌, ◌∙◌, ap, sym, subst, false}
use Rattle.std.specs.Prelude.{OnOk}
use Rattle.ps_base.specs.TyView.{ty_view}
use Rattle.ps_tree.specs.Phrase.{Form, at, Let, Proc, phrase_of, form_of, named, groups_in}
use Rattle.ps_layout.specs.Waiting.{is_procedure, waiting, AddsForm}
use Rattle.ps_layout.proofs.Printing.{is_no_procedure, puts_let}
use Rattle.ps_layout.proofs.declarations.put_let.Goals as goal

pub returns-in-Proc : goal.returns-in-Proc
returns-in-Proc c =
    let name = named c.args.name.now in
    let line = c.args.e.now.line in
    let is : form_of c.args.e.now.form.value ≡ Proc (groups_in c.as_slice.result.now) (ty_view c.deref-in-Proc.result.now) (phrase_of c.in-Proc.s) =
    ap form_of (sym c.deref.ensures ∙ c.in-Proc.is)
    ∙ ap (λ params. Proc (groups_in params) (ty_view c.in-Proc.gives.value) (phrase_of c.in-Proc.s)) (sym c.as_slice.ensures)
    ∙ ap (λ gives. Proc (groups_in c.as_slice.result.now) (ty_view gives) (phrase_of c.in-Proc.s)) (sym c.deref-in-Proc.ensures) in
    subst (λ (f : Form). OnOk c.put_procedure.result (AddsForm (waiting c.args.pending.now) c.args.spot f (waiting c.put_procedure.new.pending)))
    (ap (λ (f : Form). Let name false (at f line)) (sym is) ∙ ap (λ variable. Let name variable (phrase_of c.args.e.now)) (sym c.if-variable.false))
    (c.put_procedure.ensures line)

pub returns-in_default : goal.returns-in_default
returns-in_default c =
    let line = c.args.e.now.line in
    puts_let c.args.spot (named c.args.name.now) c.args.variable (phrase_of c.args.e.now) _ _ _
    (ap (λ variable. is_procedure variable (phrase_of c.args.e.now)) c.if-variable.false
    ∙ ap (λ f. is_procedure false (at (form_of f) line)) (sym c.deref.ensures)
    ∙ is_no_procedure c.deref.result.now line c.in_default.not-Proc) c.put_plain_let-in_default.ensures
