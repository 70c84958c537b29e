use Rattle.std.proofs.Common.{refl}
use Rattle.obj_area.proofs.WordLaws.{words_of-nil}
use Rattle.obj_area.proofs.area.Area.new.Goals as goal

pub returns : goal.returns
returns c = rw (c.in_ok-bytes.ensures.items, words_of-nil) refl
