use Rattle.heap_ops.proofs.MadeVectors.{vector-held}
use Rattle.heap_element_tests.proofs.StayLaws.{text_stands}
use Rattle.heap_element_tests.proofs.vectors.listed.Goals as goal

pub returns-clause-there : goal.returns-clause-there
returns-clause-there c = vector-held _ _ _ _ _ _ _ c.make_list.ensures.made

pub returns-clause-stay : goal.returns-clause-stay
returns-clause-stay c = λ at text. text_stands _ _ at c.make_list.ensures.stands text
