use Rattle.std.proofs.Common.{◌≡◌, ℕ, ◌*◌, ◌≤◌, List}
use Rattle.ps_port.specs.ps_outside.Outside.{Leaves, TellsNothing, After}
use Rattle.volume_parts.specs.Making.{IsShut, IsZeroed}
use Rattle.paged_volume.proofs.making.blank_pages.Given as goal

-- the gate stays shut, and there are zeros so far
abbrev pub invariant-loop-number : goal.invariant-loop-number
invariant-loop-number g l =
    let outside = g.H.Host.outside in
    record {
      shut : Leaves (outside l.fn.host) (outside l.host) IsShut;
      zeroed : (bytes : List ℕ) → (outside l.host).contents bytes → After (outside l.fn.host).contents (IsZeroed 24576 (4096 * l.number)) bytes;
      told : TellsNothing (outside l.fn.host) (outside l.host);
      counts : (outside l.fn.host).device_faults ≤ (outside l.host).device_faults;
      output : (outside l.host).output_faults ≡ (outside l.fn.host).output_faults;
    }
