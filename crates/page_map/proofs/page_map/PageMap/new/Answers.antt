use Rattle.std.proofs.Common.{arith}
use Rattle.page_map.proofs.MapLaws.{fresh_is_map}
use Rattle.page_map.proofs.LooseLaws.{fresh_loose}
use Rattle.page_map.proofs.page_map.PageMap.new.Goals as goal

pub invariant_of-result : goal.invariant_of-result
invariant_of-result c =
    rw (c.in_ok-new.ensures, c.in_ok-new-2.ensures, c.new-3.ensures.items, c.in_ok-new-3.ensures)
    (record { is_map = fresh_is_map c.args.logical c.args.pages (omega arith) (omega arith); loose = rw c.in_ok-new-4.ensures (fresh_loose c.args.logical c.args.pages) })
