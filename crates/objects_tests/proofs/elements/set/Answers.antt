use Rattle.objects_tests.proofs.elements.set.Goals as goal

pub set_element-requires-clause-near : goal.set_element-requires-clause-near
set_element-requires-clause-near c = c.value_of.ensures _
