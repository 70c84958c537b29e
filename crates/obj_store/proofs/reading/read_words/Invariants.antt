use Rattle.std.proofs.Common.{◌≡◌, ℕ, ◌-◌, ◌*◌, ◌<◌, length, get_or, Some, ◌+◌}
use Rattle.volume_parts.specs.Holding.{Held}
use Rattle.paged_volume.specs.Standing.{IsAlive}
use Rattle.volume_parts.specs.Calls.{Looks}
use Rattle.obj_store.specs.Kept.{AreHeld}
use Rattle.obj_store.specs.Spaces.{word_at, shown}
use Rattle.obj_store.proofs.reading.read_words.Given as goal

-- the words of the pages so far were read, each page by one call
abbrev pub invariant-loop-page : goal.invariant-loop-page
invariant-loop-page g l =
    let outside = g.H.Host.outside in
    record {
      read : (held : Held) → (shown l.fn.source l.fn.volume.table (outside l.fn.volume.host)).contents (Some held) →
          (k : ℕ) → k < length l.fn.into → l.fn.at + k < 512 * l.page → get_or l.into k 0 ≡ word_at held.bytes (l.fn.at + k);
      size : length l.into ≡ length l.fn.into;
      looks : Looks (outside l.fn.volume.host) (outside l.volume.host) (l.page - l.first);
      same : l.volume.table ≡ l.fn.volume.table;
      kept : AreHeld l.kept.places.items l.volume.table (outside l.volume.host);
      alive : IsAlive l.volume.live l.volume.table (outside l.volume.host);
    }
