use Rattle.obj_layout.proofs.ContentLaws.{HasContents-unique}
use Rattle.obj_layout.proofs.laws.header_has_one_contents.Goals as goal

pub returns : goal.returns
returns c = HasContents-unique
