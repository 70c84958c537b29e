use Rattle.db_dir.proofs.of_joint_ops.of_heap_places.PlaceLaws.{stands_then}
use Rattle.dir_tests.proofs.Staying.{text-stands, table-made}
use Rattle.dir_tests.proofs.scene.make_parts.Goals as goal

pub returns-clause-parts : goal.returns-clause-parts
returns-clause-parts c = (
  text-stands c.say.new.sw c.make.new.self c.in_ok-name.name (stands_then _ _ _ c.say-2.ensures.stands c.make.ensures.stands) c.in_ok-name.ensures.text,
  text-stands c.say-2.new.sw c.make.new.self c.in_ok-password.password c.make.ensures.stands c.in_ok-password.ensures.text,
  table-made c.say-2.new.sw c.make.new.self c.in_ok-root.root c.in_ok-root.ensures.made,
)
