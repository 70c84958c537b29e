use Rattle.std.proofs.Common.{arith}
use Rattle.obj_area.proofs.WordLaws.{length-words_of}
use Rattle.obj_area.proofs.SeenLaws.{seen-is_area}
use Rattle.obj_area.proofs.area.Area.top.Goals as goal

pub overflow_cast-result : goal.overflow_cast-result
overflow_cast-result c =
    omega (arith, rw c.deref.ensures.value at c.count.ensures.count, length-words_of c.self.inside.bytes.items)

pub overflow_add-result : goal.overflow_add-result
overflow_add-result c =
    omega (arith, rw c.deref.ensures.value at c.count.ensures.count, length-words_of c.self.inside.bytes.items)

pub returns-clause-area : goal.returns-clause-area
returns-clause-area c =
    seen-is_area _ _ _ c.self.view_is (rw c.deref.ensures.value at c.count.ensures.words) (omega arith) (omega arith)
