use Rattle.db_dir.proofs.ShapeLaws.{shaped-still}
use Rattle.dir_tests.proofs.Staying.{directory-stands}
use Rattle.dir_tests.proofs.scene.put_created.Goals as goal

pub returns-in-Ok-Fault : goal.returns-in-Ok-Fault
returns-in-Ok-Fault c =
    shaped-still c.make_parts.new.sw c.create.new.sw c.args.at c.in-Ok-Fault.ensures.keeps
    (directory-stands c.args.sw.now c.make_parts.new.sw c.args.at c.make_parts.ensures.stands c.requires.shaped)
