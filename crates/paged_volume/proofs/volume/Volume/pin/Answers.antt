use Rattle.std.proofs.Common.{sym, ◌∙◌}
use Rattle.paged_volume.proofs.PinLaws.{pinned_committed}
use Rattle.paged_volume.proofs.volume.Volume.pin.Goals as goal

pub returns-clause-holds : goal.returns-clause-holds
returns-clause-holds g c = λ held now.
    let v = c.args.self.now in
    record {
      from = now.from;
      was = now.was;
      by = pinned_committed v.table c.pin.new.table c.args.pin now.from c.requires.alive.is_table c.pin.ensures.pins (c.requires.alive.says now.from (g.met.H.Host.is_image v.host now.from now.was)) ∙ now.by;
    }

pub returns-clause-stays : goal.returns-clause-stays
returns-clause-stays g c = λ held now.
    let v = c.args.self.now in
    record {
      from = now.from;
      was = now.was;
      by = sym (pinned_committed v.table c.pin.new.table c.args.pin now.from c.requires.alive.is_table c.pin.ensures.pins (c.requires.alive.says now.from (g.met.H.Host.is_image v.host now.from now.was))) ∙ now.by;
    }
