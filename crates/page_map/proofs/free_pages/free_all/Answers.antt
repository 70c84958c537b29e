use Rattle.std.proofs.Common.{arith}
use Rattle.page_map.proofs.PageLaws.{where_from}
use Rattle.page_map.proofs.free_pages.free_all.Goals as goal

pub returns : goal.returns
returns c = where_from c.loop-page.free _ _ c.loop-page.auto.free (λ page below. c.loop-page.invariant page (omega (arith, c.loop-page.auto.free)))
