use Rattle.db_dir.proofs.ShapeLaws.{shaped-still}
use Rattle.dir_tests.proofs.Staying.{directory-stands}
use Rattle.dir_tests.proofs.scene.put_opened.Goals as goal

pub returns-in-Ok-Root : goal.returns-in-Ok-Root
returns-in-Ok-Root c =
    shaped-still c.make_words.new.sw c.admit.new.sw c.args.at c.in-Ok-Root.ensures.reads.reads.keeps
    (directory-stands c.args.sw.now c.make_words.new.sw c.args.at c.make_words.ensures.stands c.requires.shaped)

pub returns-in-Ok-Fault : goal.returns-in-Ok-Fault
returns-in-Ok-Fault c =
    shaped-still c.make_words.new.sw c.admit.new.sw c.args.at c.in-Ok-Fault.ensures.reads.reads.keeps
    (directory-stands c.args.sw.now c.make_words.new.sw c.args.at c.make_words.ensures.stands c.requires.shaped)
