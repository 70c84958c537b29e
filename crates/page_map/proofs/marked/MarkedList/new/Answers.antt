use Rattle.page_map.proofs.MarkLaws.{fresh_right}
use Rattle.page_map.proofs.marked.MarkedList.new.Goals as goal

pub invariant_of-result : goal.invariant_of-result
invariant_of-result c = λ apart. rw (c.in_ok-new.ensures, c.in_ok-no_marks.ensures) (fresh_right c.args.logical c.args.pages)
