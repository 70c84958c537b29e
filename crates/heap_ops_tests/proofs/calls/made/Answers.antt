use Rattle.heap_ops_tests.proofs.Staying.{text_stands}
use Rattle.heap_ops_tests.proofs.calls.made.Goals as goal

pub returns-clause-own : goal.returns-clause-own
returns-clause-own c =
    text_stands _ _ _ c.structure.ensures.stands (text_stands _ _ _ c.text-4.ensures.stands
    (text_stands _ _ _ c.text-3.ensures.stands (text_stands _ _ _ c.text-2.ensures.stands c.in_ok-own.ensures.there)))

pub returns-clause-equal : goal.returns-clause-equal
returns-clause-equal c = text_stands _ _ _ c.structure.ensures.stands
    (text_stands _ _ _ c.text-4.ensures.stands (text_stands _ _ _ c.text-3.ensures.stands c.in_ok-equal.ensures.there))

pub returns-clause-other : goal.returns-clause-other
returns-clause-other c = text_stands _ _ _ c.structure.ensures.stands (text_stands _ _ _ c.text-4.ensures.stands c.in_ok-other.ensures.there)

pub returns-clause-name : goal.returns-clause-name
returns-clause-name c = text_stands _ _ _ c.structure.ensures.stands c.in_ok-name.ensures.there
