use Rattle.heap_places.proofs.WordLaws.{word-int}
use Rattle.heap_places.proofs.words.word_of_int.Goals as goal

pub returns : goal.returns
returns c = word-int c.args.value c.from.result c.cast_unsigned.result c.ranges.value c.from.ensures c.cast_unsigned.ensures
