use Rattle.std.proofs.Common.{◌+◌, arith, refl, get_or}
use Rattle.paged_volume.proofs.Spelling.{index_more}
use Rattle.paged_volume.proofs.paging.fill_index.Goals as goal

pub loop-map_page-init : goal.loop-map_page-init
loop-map_page-init c = record { size = c.requires.size; numbers = λ i lt. absurd (omega arith) }

pub loop-map_page-preserved : goal.loop-map_page-preserved
loop-map_page-preserved c =
    let inv = c.loop-map_page.invariant in
    let lt = c.loop-map_page-test.true in
    let most = c.requires.count in
    let few = c.requires.few in
    let more = index_more c.args.named.now c.loop-map_page.page c.put_u32.new.page c.loop-map_page.map_page (get_or c.args.named.now (1 + c.loop-map_page.map_page) 0) inv.size (omega arith) (omega arith) refl (c.type_inv.named (1 + c.loop-map_page.map_page)).fits c.put_u32.ensures.written inv.numbers in
    record { size = more.0; numbers = more.1 }

pub returns-clause-numbers : goal.returns-clause-numbers
returns-clause-numbers c = λ i lt. let past = c.loop-map_page-test.false in c.loop-map_page.invariant.numbers i (omega arith)
