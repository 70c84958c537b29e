use Rattle.heap_places.proofs.WordLaws.{int-tried}
use Rattle.heap_places.proofs.words.int_of_word.Goals as goal

pub returns : goal.returns
returns c =
    int-tried c.try_from.result c.ok.result c.cast_signed.result c.args.word c.ranges.word.fits c.cast_signed.ensures
    (record { sfits = c.cast_signed.type_inv }) c.try_from.ensures c.ok.ensures.value
