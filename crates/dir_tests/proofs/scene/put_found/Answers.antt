use Rattle.db_dir.proofs.ShapeLaws.{shaped-still}
use Rattle.dir_tests.proofs.Staying.{directory-stands}
use Rattle.dir_tests.proofs.scene.put_found.Goals as goal

pub returns-in-Some : goal.returns-in-Some
returns-in-Some c =
    shaped-still c.say.new.sw c.find.new.sw c.args.at c.in-Ok-find.ensures.reads.reads.keeps
    (directory-stands c.args.sw.now c.say.new.sw c.args.at c.say.ensures.stands c.requires.shaped)

pub returns-in-None : goal.returns-in-None
returns-in-None c =
    shaped-still c.say.new.sw c.find.new.sw c.args.at c.in-Ok-find.ensures.reads.reads.keeps
    (directory-stands c.args.sw.now c.say.new.sw c.args.at c.say.ensures.stands c.requires.shaped)
