use Rattle.std.proofs.Common.{ℕ, List, ◌*◌, ◌∙◌, ap, arith, take, drop}
use Rattle.std.proofs.lemmas.Result.{on_ok_weaker}
use Rattle.paged_volume.specs.Pinning.{pin_of, pinned_bytes}
use Rattle.paged_volume.proofs.PinLaws.{pinned_low, pinned_page, bytes_pinned}
use Rattle.paged_volume.proofs.volume.Volume.read_pinned.Goals as goal

pub read_numbered-requires-clause-number : goal.read_numbered-requires-clause-number
read_numbered-requires-clause-number g c = omega (arith, c.pinned-number.ensures, pinned_low c.args.self.now.table c.args.pin c.args.page c.requires.alive.is_table)

pub returns-clause-read : goal.returns-clause-read
returns-clause-read g c = on_ok_weaker c.read_numbered.result (λ read held now.
    let v = c.args.self.now in
    let long = (c.requires.alive.says now.from (g.met.H.Host.is_image v.host now.from now.was)).head.long in
    pinned_page v.table c.args.pin c.args.page c.pinned-number.result v.table.committed.pages c.read_numbered.new.into now.from c.pinned-number.ensures c.requires.page
    (omega (arith, c.pinned-number.ensures, pinned_low v.table c.args.pin c.args.page c.requires.alive.is_table)) long c.read_numbered.ensures.zeros (λ some. read some now.from now.was)
    ∙ ap (λ (xs : List ℕ). take 4096 (drop (4096 * c.args.page) xs)) (bytes_pinned (pin_of v.table c.args.pin) (pinned_bytes v.table c.args.pin now.from) held now.by)) c.read_numbered.ensures.read
