use Rattle.std.proofs.Common.{length, ◌∙◌, ap, List, ℕ}
use Rattle.byteorder.specs.Endian.{little_bytes}
use Rattle.paged_volume.proofs.Spelling.{number_put, length_little, length_put}
use Rattle.paged_volume.proofs.paging.put_u64.Goals as goal

pub returns-clause-written : goal.returns-clause-written
returns-clause-written c = number_put c.args.page.now c.write_u64.new.buf (little_bytes 8 c.args.number) c.args.at 8 c.requires (length_little 8 c.args.number) c.write_u64.ensures

pub returns-clause-size : goal.returns-clause-size
returns-clause-size c =
    ap (λ (xs : List ℕ). length xs) (number_put c.args.page.now c.write_u64.new.buf (little_bytes 8 c.args.number) c.args.at 8 c.requires (length_little 8 c.args.number) c.write_u64.ensures)
    ∙ length_put c.args.page.now c.args.at 8 c.args.number c.requires
