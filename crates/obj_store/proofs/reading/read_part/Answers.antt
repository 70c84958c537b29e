use Rattle.obj_store.proofs.ReadLaws.{part_read}
use Rattle.std.proofs.Common.{◌*◌, refl}
use Rattle.obj_store.proofs.reading.read_part.Goals as goal

pub returns-clause-read : goal.returns-clause-read
returns-clause-read g c = λ held now.
    part_read c.args.page (512 * c.args.page) c.args.at held c.read_shown.new.into c.args.into.now c.take_words.new.into refl (c.in_ok-read_shown.ensures.read held now) c.take_words.ensures
