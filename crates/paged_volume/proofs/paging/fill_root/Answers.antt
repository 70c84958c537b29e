use Rattle.std.proofs.Common.{ℕ, ◌∙◌, ap, arith}
use Rattle.byteorder.specs.Endian.{little_bytes}
use Rattle.ps_port.specs.Disk.{written}
use Rattle.paged_volume.proofs.Bounds.{are_low}
use Rattle.paged_volume.proofs.Spelling.{root_page_is}
use Rattle.paged_volume.proofs.paging.fill_root.Goals as goal

pub returns : goal.returns
returns c =
    let next = c.args.next in
    let low = are_low next c.requires.fit in
    let used = low.used in
    let below = c.requires.fit.below in
    let depth = c.requires.fit.depth.at_most_one in
    let within = low.within in
    let most = low.capacity in
    root_page_is next c.args.first c.args.page.now c.put_u64.new.page c.put_u64-2.new.page c.put_u64-3.new.page c.put_u32.new.page c.put_u32-2.new.page c.put_u32-3.new.page c.requires.size
    c.put_u64.ensures.written c.put_u64-2.ensures.written c.put_u64-3.ensures.written (c.put_u32.ensures.written ∙ ap (λ (n : ℕ). written 24 (little_bytes 4 n) c.put_u64-3.new.page) c.logical_of-logical.ensures) c.put_u32-2.ensures.written c.put_u32-3.ensures.written
    c.requires.commits (omega arith) (omega arith) (omega arith) c.ranges.first.fits (omega arith)
