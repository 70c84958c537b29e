use Rattle.std.proofs.Common.{◌∙◌, ap, arith}
use Rattle.std.proofs.lemmas.Option.{same_Some}
use Rattle.std.proofs.lemmas.Result.{on_ok_weaker}
use Rattle.paged_volume.specs.Standing.{staged_in}
use Rattle.paged_volume.specs.Staging.{page_of}
use Rattle.paged_volume.proofs.Tables.{staged_below}
use Rattle.paged_volume.proofs.Held.{staged_page}
use Rattle.paged_volume.proofs.volume.Volume.read_page.Goals as goal

pub read_numbered-requires-clause-number : goal.read_numbered-requires-clause-number
read_numbered-requires-clause-number g c = omega (arith, c.staged-number.ensures, staged_below c.args.self.now.table c.requires.alive.is_table c.args.page)

pub returns-clause-read : goal.returns-clause-read
returns-clause-read g c = on_ok_weaker c.read_numbered.result (λ read held now.
    let v = c.args.self.now in
    let long = (c.requires.alive.says now.from (g.met.H.Host.is_image v.host now.from now.was)).head.long in
    staged_page v.table c.args.page c.staged-number.result v.table.committed.pages c.read_numbered.new.into now.from c.staged-number.ensures c.requires.page
    (omega (arith, c.staged-number.ensures, staged_below v.table c.requires.alive.is_table c.args.page)) long c.read_numbered.ensures.zeros (λ some. read some now.from now.was)
    ∙ ap (page_of c.args.page) (same_Some (staged_in v.table now.from) held now.by)) c.read_numbered.ensures.read
