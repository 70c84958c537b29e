use Rattle.std.proofs.lemmas.Bool.Decides.{Decides-eqb}
use Rattle.std.proofs.lemmas.Slice.Eq.{strip_prefix_is}
use Rattle.text_forms.proofs.Reading.{word-leaves}
use Rattle.text_forms.proofs.strict.behind_word.Goals as goal

pub returns : goal.returns
returns c = word-leaves c.args.rest.now c.args.word.now c.strip_prefix.result
    (strip_prefix_is Decides-eqb c.args.rest.now c.args.word.now c.strip_prefix.result c.strip_prefix.ensures.cases)
