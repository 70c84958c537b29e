use Rattle.std.proofs.Common.{refl}
use Rattle.obj_area.proofs.WordLaws.{words_of-nil}
use Rattle.obj_area.proofs.area.Area.reset.Goals as goal

pub returns : goal.returns
returns c = rw (c.clear.ensures.items, words_of-nil, ← c.self.view_is) refl
