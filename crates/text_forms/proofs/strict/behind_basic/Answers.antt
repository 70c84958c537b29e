use Rattle.ps_type_text.specs.ps_base.TyView as ty
use Rattle.text_forms.proofs.Reading.{basic-is, basic-last}
use Rattle.text_forms.proofs.strict.behind_basic.Goals as goal

pub returns-in-Some : goal.returns-in-Some
returns-in-Some c = basic-is ty.Int c.args.rest.now c.in-Some.left.now tt c.in-Some.ensures.left.spelled

pub returns-in-Some-behind_word : goal.returns-in-Some-behind_word
returns-in-Some-behind_word c = basic-is ty.Bool c.args.rest.now c.in-Some-behind_word.left.now tt c.in-Some-behind_word.ensures.left.spelled

pub returns-in-Some-behind_word-2 : goal.returns-in-Some-behind_word-2
returns-in-Some-behind_word-2 c = basic-is ty.Str c.args.rest.now c.in-Some-behind_word-2.left.now tt c.in-Some-behind_word-2.ensures.left.spelled

pub returns : goal.returns
returns c = basic-last c.args.rest.now c.behind_word-4.result c.in_default.ensures c.in_default-behind_word.ensures c.in_default-behind_word-2.ensures
    c.behind_word-4.ensures
