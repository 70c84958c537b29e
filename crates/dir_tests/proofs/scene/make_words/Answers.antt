use Rattle.db_dir.proofs.of_joint_ops.of_heap_places.PlaceLaws.{stands_then}
use Rattle.dir_tests.proofs.Staying.{text-stands}
use Rattle.dir_tests.proofs.scene.make_words.Goals as goal

pub returns-clause-words : goal.returns-clause-words
returns-clause-words c = (
  text-stands c.say.new.sw c.say-3.new.sw c.in_ok-name.name (stands_then _ _ _ c.say-2.ensures.stands c.say-3.ensures.stands) c.in_ok-name.ensures.text,
  text-stands c.say-2.new.sw c.say-3.new.sw c.in_ok-password.password c.say-3.ensures.stands c.in_ok-password.ensures.text,
  c.in_ok-mode.ensures.text,
)

pub returns-clause-stands : goal.returns-clause-stands
returns-clause-stands c = stands_then _ _ _ c.say.ensures.stands (stands_then _ _ _ c.say-2.ensures.stands c.say-3.ensures.stands)
