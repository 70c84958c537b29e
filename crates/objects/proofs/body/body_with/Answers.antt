use Rattle.objects.proofs.body.body_with.Goals as goal

pub returns-clause-code : goal.returns-clause-code
returns-clause-code g c = record { place = c.code_place.ensures; frame = c.frame_of.ensures.word }
