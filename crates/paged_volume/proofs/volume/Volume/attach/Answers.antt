use Rattle.std.proofs.Common.{refl, arith}
use Rattle.paged_volume.proofs.Bounds.{are_low}
use Rattle.paged_volume.proofs.Held.{found_volume, blank_holds}
use Rattle.paged_volume.proofs.volume.Volume.attach.Goals as goal

pub returns-in-Ok-clause-ok : goal.returns-in-Ok-clause-ok
returns-in-Ok-clause-ok g c =
    let o = g.H.Host.outside in
    let is = c.in-Ok.ensures in
    let t = c.in-Ok.table in
    let low = are_low t.committed is.table.fit in
    record {
      looks = is.looks;
      settles = is.settles;
      found = λ bytes now. found_volume t bytes is.table.fit is.table.once (is.says bytes now);
      blank = is.blank;
      unpinned = is.pins;
      holds = blank_holds (o c.args.host) (o c.find.new.host) t is.table.fit is.blank is.table.once low.within is.says is.looks.same.no_other;
      alive = record {
        living = refl;
        is_table = is.table;
        says = λ image now. is.says image (is.settles.settled (o c.find.new.host).clock image is.settles.until (omega arith) now);
      };
    }
