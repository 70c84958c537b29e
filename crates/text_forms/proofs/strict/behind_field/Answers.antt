use Rattle.text_forms.specs.Strict.{deepest}
use Rattle.text_forms.specs.inside.Reading.{BeginsField}
use Rattle.text_forms.proofs.Reading.{leaves-none, leaves-by}
use Rattle.text_forms.proofs.Fields.{field-untyped, field-unblanked, field-same}
use Rattle.text_forms.proofs.strict.behind_field.Goals as goal

pub returns-in_err-blank : goal.returns-in_err-blank
returns-in_err-blank c = leaves-none (BeginsField deepest c.args.rest.now) c.from_residual.result c.from_residual.ensures
    (field-untyped deepest c.args.rest.now c.in_err-blank.ensures)

pub returns-in_err-name : goal.returns-in_err-name
returns-in_err-name c =
    leaves-none (BeginsField deepest c.args.rest.now) c.from_residual-in_err-name.result c.from_residual-in_err-name.ensures
    (field-unblanked deepest c.args.rest.now c.in_ok-blank.blank.now c.in_ok-blank.ensures c.in_err-name.ensures)

pub returns : goal.returns
returns c =
    leaves-by c.behind_name.result (field-same deepest c.args.rest.now c.in_ok-blank.blank.now c.in_ok-name.name.now c.in_ok-blank.ensures
    c.in_ok-name.ensures.left.spelled) c.behind_name.ensures
