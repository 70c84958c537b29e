use Rattle.objects.proofs.ElementLaws.{put-below}
use Rattle.objects.proofs.objects.vectors.put_element.Goals as goal

pub put_number-requires-clause-below : goal.put_number-requires-clause-below
put_number-requires-clause-below c =
    put-below c.args.sw.now c.args.vector c.args.found.form c.args.found.place c.args.value c.sound.ensures c.requires.put (λ to e. cc)

pub put_number-requires-in-Flag-clause-below : goal.put_number-requires-in-Flag-clause-below
put_number-requires-in-Flag-clause-below c =
    put-below c.args.sw.now c.args.vector c.args.found.form c.args.found.place c.args.value c.sound.ensures c.requires.put (λ to e. cc)
