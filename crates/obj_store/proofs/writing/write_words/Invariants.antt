use Rattle.std.proofs.Common.{◌≡◌, ◌+◌, ◌-◌, ◌*◌, ◌≤◌, length, max, min}
use Rattle.obj_layout.specs.ps_outside.Past.{KeepsPast}
use Rattle.paged_volume.specs.Standing.{IsAlive, seen}
use Rattle.paged_volume.specs.Staging.{Stages}
use Rattle.paged_volume.specs.Pinning.{KeepsPins}
use Rattle.obj_store.specs.Kept.{AreHeld}
use Rattle.obj_store.specs.Words.{HoldsPut}
use Rattle.obj_store.specs.Staging.{Turns, Marks, LeavesStaged, SamePins}
use Rattle.obj_store.proofs.writing.write_words.Given as goal

-- the words of the pages so far were put, each page by two calls
abbrev pub invariant-loop-page : goal.invariant-loop-page
invariant-loop-page g l =
    let outside = g.H.Host.outside in
    let v = l.fn.volume in
    let w = l.volume in
    record {
      turns : Turns (seen v.table (outside v.host)) (seen w.table (outside w.host))
          (HoldsPut l.fn.at (max l.fn.at (min (l.fn.at + length l.fn.from) (512 * l.page))) l.fn.at l.fn.from);
      stages : Stages (seen v.table (outside v.host)) (seen w.table (outside w.host)) (2 * (l.page - l.first));
      unchanged : l.last ≤ l.fn.had → LeavesStaged v.table w.table (outside v.host) (outside w.host) l.fn.at (l.fn.at + length l.fn.from) l.fn.at l.fn.from;
      past : KeepsPast (outside v.host) (outside w.host);
      committed : w.table.committed ≡ v.table.committed;
      pins : SamePins v.table w.table;
      pinned : KeepsPins v.table w.table (outside v.host) (outside w.host);
      marks : Marks l.first l.page v.table w.table;
      alive : IsAlive w.live w.table (outside w.host);
      kept : AreHeld l.kept.places.items w.table (outside w.host);
    }
